-- The name that a command makes, among those that are left.
use Rattle.std.proofs.Common.{◌≡◌, ℕ, zero, suc, ◌≤◌, List, [], ◌∷◌, ◌++◌, length, map, take, drop, refl, sym, ap, ◌∙◌, arith}
use Rattle.std.proofs.lemmas.List.{drop_all, length-map, take_all, take-append-drop}
use Rattle.geo_program.specs.declared.names.Name.{Name}
use Rattle.geo_program.specs.Forms.{CommandForm}
use Rattle.geo_program.specs.WellFormed.{kinds_made, later_names, own_names}

-- where so many are taken there are so many
take_enough : {A : Type 0} (k : ℕ) (xs : List A) → length (take k xs) ≡ k → k ≤ length xs
take_enough zero xs h = omega arith
take_enough (suc k) [] h = absurd (omega (arith, h))
take_enough (suc k) (x ∷ xs) h =
    let rest : length (take k xs) ≡ k = omega (arith, h) in omega (arith, take_enough k xs rest)

take-front : {A : Type 0} (k : ℕ) (xs ys : List A) → k ≤ length xs → take k (xs ++ ys) ≡ take k xs
take-front zero xs ys h = refl
take-front (suc k) [] ys h = absurd (omega (arith, h))
take-front (suc k) (x ∷ xs) ys h = ap (λ l. x ∷ l) (take-front k xs ys (omega (arith, h)))

drop-front : {A : Type 0} (k : ℕ) (xs ys : List A) → k ≤ length xs → drop k (xs ++ ys) ≡ drop k xs ++ ys
drop-front zero xs ys h = refl
drop-front (suc k) [] ys h = absurd (omega (arith, h))
drop-front (suc k) (x ∷ xs) ys h = drop-front k xs ys (omega (arith, h))

module _ (f : CommandForm) where
  -- the command's own name and then the others
  pub own_and_later : (names : List Name) → own_names f names ++ later_names f names ≡ names
  own_and_later names = take-append-drop (length (kinds_made f)) names

  -- names of these kinds are as many as the command makes
  pub names_enough : (own : List Name) → map (λ n. n.kind) own ≡ kinds_made f → length own ≡ length (kinds_made f)
  names_enough own h = sym (length-map own (λ (n : Name). n.kind)) ∙ ap length h

  -- there are as many names left
  pub own_within : (names : List Name) → map (λ n. n.kind) (own_names f names) ≡ kinds_made f → length (kinds_made f) ≤ length names
  own_within names h = take_enough (length (kinds_made f)) names (names_enough (own_names f names) h)

  -- more names behind them change nothing
  pub own-append : (names more : List Name) → map (λ n. n.kind) (own_names f names) ≡ kinds_made f → own_names f (names ++ more) ≡ own_names f names
  own-append names more h = take-front (length (kinds_made f)) names more (own_within names h)

  pub later-append : (names more : List Name) → map (λ n. n.kind) (own_names f names) ≡ kinds_made f → later_names f (names ++ more) ≡ later_names f names ++ more
  later-append names more h = drop-front (length (kinds_made f)) names more (own_within names h)

  -- where only its own name is left
  pub own-whole : (own : List Name) → map (λ n. n.kind) own ≡ kinds_made f → own_names f own ≡ own
  own-whole own h = take_all (length (kinds_made f)) own (omega (arith, names_enough own h))

  pub later-none : (own : List Name) → map (λ n. n.kind) own ≡ kinds_made f → later_names f own ≡ []
  later-none own h = drop_all (length (kinds_made f)) own (omega (arith, names_enough own h))
