-- Words as keys: where the limits fit, a sum of words stands for the product.
use Rattle.std.proofs.Common.{◌≡◌, ℕ, ◌+◌, ◌<◌, ◌≤◌, cond, inl, inr, List, [], ◌∷◌, ◌++◌, length, refl, sym, ap, ap₂, ◌∙◌}
use Rattle.std.proofs.Common.{arith}
use Rattle.std.specs.List.Sorted.{IsStrictlySortedBy}
use Rattle.std.specs.Ordering.{is_eq, nat_cmp}
use Rattle.std.specs.declared.cmp.Ordering.{Ordering}
use Rattle.std.proofs.lemmas.Bool.{cases_lt}
use Rattle.sparse_lists.specs.SparseLists.{IsCanonical}
use Rattle.sparse_lists.proofs.Canonical.{IsCanonical-canonical}
use Rattle.sparse_lists.proofs.NaturalAmounts.{natural_order}
use Rattle.mono_store.specs.Monomials.{Powers as NumberedPowers, exponent as numbered_exponent, exponents, product}
use Rattle.mono_store.proofs.Numbers.{below, exponents_add}
use Rattle.geo_poly.specs.declared.variables.Var.{Var}
use Rattle.mono_store.specs.Words.{FitsLimits, Limits, limit, powers_of_word, word, word_count}
use Rattle.geo_poly.specs.Monomials.{exponent}
use Rattle.geo_poly.specs.Shared.{AllPlaces, named, var_at}
use Rattle.geo_poly.specs.Variables.{var_cmp}
use Rattle.geo_poly.proofs.Naming.{var_at-keeps}
use Rattle.mono_store.proofs.WordDigits.{number-within, powers_of_word-word}
use Rattle.mono_store.proofs.WordDigits.{word-powers_of_word, word-product}
use Rattle.mono_store.proofs.WordOrder.{FitsLimits-rest}

-- KEYS

-- the sum of two words stands for the product, where that fits
pub powers_of_word-add : (limits : Limits) (a b : ℕ) → a < word_count limits → b < word_count limits
    → FitsLimits limits (product (powers_of_word limits a) (powers_of_word limits b))
    → powers_of_word limits (a + b) ≡ product (powers_of_word limits a) (powers_of_word limits b)
powers_of_word-add limits a b h g f =
    let m = powers_of_word limits a in
    let n = powers_of_word limits b in
    let same : a + b ≡ word limits (product m n) =
    sym (word-product limits m n ∙ ap₂ ◌+◌ (word-powers_of_word limits a h) (word-powers_of_word limits b g)) in
    ap (powers_of_word limits) same
    ∙ powers_of_word-word limits (product m n) (IsCanonical-canonical nat_cmp exponents natural_order exponents_add (m ++ n)) f

-- the variables of a monomial that fits have limits
pub AllPlaces-fits : (limits : Limits) (m : NumberedPowers) → IsCanonical nat_cmp exponents m → FitsLimits limits m
    → AllPlaces (length limits) m
AllPlaces-fits limits [] h f = tt
AllPlaces-fits limits (p ∷ m) h f = (number-within h f, AllPlaces-fits limits m h.2 (FitsLimits-rest f))

-- NAMES

module _ (vars : List Var) (rising : IsStrictlySortedBy var_cmp vars) where
  -- the exponent of a variable is that of its number
  pub exponent-named : (v : ℕ) (m : NumberedPowers) → v < length vars → AllPlaces (length vars) m
      → exponent (var_at vars v) (named vars m) ≡ numbered_exponent v m
  exponent-named v [] h places = refl
  exponent-named v (p ∷ m) h places =
      ap₂ (λ (o : Ordering) (e : ℕ). cond (is_eq o) p.1 0 + e) (var_at-keeps vars rising v p.0 h places.0) (exponent-named v m h places.1)

  absent : (v : ℕ) (m : NumberedPowers) → length vars ≤ v → AllPlaces (length vars) m → numbered_exponent v m ≡ 0
  absent v [] h places = refl
  absent v (p ∷ m) h places =
      let later = natural_order.flip p.0 v (below p.0 v (omega (arith, places.0))) in
      ap₂ (λ (o : Ordering) (e : ℕ). cond (is_eq o) p.1 0 + e) later (absent v m h places.1)

  -- a monomial fits where its exponents do by the names of the variables
  pub FitsLimits-named : (limits : Limits) (m : NumberedPowers) → AllPlaces (length vars) m
      → ((v : ℕ) → v < length vars → exponent (var_at vars v) (named vars m) ≤ limit limits v) → FitsLimits limits m
  FitsLimits-named limits m places fits = record { exponents = each }
    where
      each : (v : ℕ) → numbered_exponent v m ≤ limit limits v
      each v =
          elim (cases_lt v (length vars)) [
            | inl known ↦ omega (arith, fits v known, exponent-named v m known places)
            | inr past ↦ omega (arith, absent v m past places)
          ]
