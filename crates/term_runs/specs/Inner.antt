-- What private functions speak of: the turns of a sum. No public contract cites it.
use Rattle.std.specs.Prelude.{◌≡◌, ◌≢◌, ℕ, ◌<◌, ◌⊎◌, ℤ, pos, ◌+ℤ◌}

-- p comes next, where t and u are the first terms of two runs, and so many terms of each are taken
pub record IsTurn (t u p : ℕ × ℤ) (left right : ℕ) : Type 0 where
  pub left_first : u.0 < t.0 → (p ≡ t) × (left ≡ 1) × (right ≡ 0)
  pub right_first : t.0 < u.0 → (p ≡ u) × (left ≡ 0) × (right ≡ 1)
  pub both : t.0 ≡ u.0 → (p ≡ (t.0, t.1 +ℤ u.1)) × (left ≡ 1) × (right ≡ 1)

-- a term with this coefficient counts so much: it falls away where the coefficient is 0
abbrev pub CountsAs : ℤ → ℕ → Type 0
CountsAs c n = ((c ≡ pos 0) × (n ≡ 0)) ⊎ ((c ≢ pos 0) × (n ≡ 1))
