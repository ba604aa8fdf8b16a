-- Terms with no factors left, in the order of what is left of their monomials.
use Rattle.std.specs.Prelude.{◌≡◌, ℕ, Option, Some, None, IfSome, [], ◌∷◌, drop}
use Rattle.std.specs.declared.cmp.Ordering.TheVariants.{Less}
use Rattle.sparse_lists.specs.Coefficients.{Pairs}
use Rattle.geo_poly.specs.declared.pending.Pending.{Pending}
use Rattle.geo_poly.specs.declared.settings.Setting.{Setting}
use Rattle.geo_poly.specs.declared.shared.Shared.{Shared}
use Rattle.geo_poly.specs.Inner.Keyed.{key_cmp}
use Rattle.geo_poly.specs.Keys.{IsKeyUnder, Keys}
use Rattle.geo_poly.specs.Replace.{others}
use Rattle.geo_poly.specs.Shared.{named, told_powers}

-- the key that stands first, where there is one
abbrev pub first_key : Pairs → Option ℕ
first_key [] = None
first_key (t ∷ ts) = Some t.0

-- the term has no factor from the place on, and what is left of its monomial has this key, which comes before the first one
pub record IsNextKey (setting : Setting) (p : Shared) (depth : ℕ) (keys : Keys) (first : Option ℕ) (e : Pending) (key : ℕ) : Type 0 where
  pub factors : drop depth e.factors.now ≡ []
  pub is_key : IsKeyUnder setting.vars.now keys key
  pub powers : named setting.vars.now (keys.powers key) ≡ others setting.rows.now (told_powers p e.id)
  pub before : IfSome first (λ k. key_cmp keys k key ≡ Less)
