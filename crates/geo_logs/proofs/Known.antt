-- Known variables: where the conditions that make them known are not 0, neither are they.
use Rattle.std.proofs.Common.{◌≡◌, Bool, true, false, cond, eqb, ℤ, Some, None, [], ◌∷◌, refl, sym, subst}
use Rattle.std.specs.List.{cons_option}
use Rattle.std.proofs.lemmas.Bool.{eqb-true}
use Rattle.ring_laws.specs.Powers.{power}
use Rattle.fraction_poly.proofs.PolynomialValues.{◌∘◌}
use Rattle.ring_laws.specs.Fraction.{Same}
use Rattle.geo_points.specs.Placements.{Placement}
use Rattle.ring_laws.proofs.Fractions.{fractions}
use Rattle.geo_poly.specs.declared.variables.Var.{Var}
use Rattle.geo_poly.specs.Monomials.{Powers}
use Rattle.geo_poly.specs.Polynomials.{Summands}
use Rattle.geo_poly.specs.Values.{integer}
use Rattle.geo_logs.specs.Starts.{start_of}
use Rattle.geo_logs.specs.Logs.{Item, known_by, only_variable, sole_variable}
use Rattle.geo_poly.proofs.EachVariable.{EachIn}
use Rattle.geo_logs.proofs.MoveValues.{IsApart, at_placement, at_variable, times_null, null_times, zero_fraction}

module _ (placed : Placement) where
  abbrev pub IsFar : Var → Type 0
  IsFar v = IsApart (at_variable placed v)

  sole_far : (m : Powers) (z : ℤ) → IsApart (at_placement placed ((m, z) ∷ [])) → EachIn IsFar (cons_option (sole_variable m) [])
  sole_far [] z n = tt
  sole_far (p ∷ []) z n = go (eqb p.1 1) refl
    where
      null : p.1 ≡ 1 → Same (at_variable placed p.0) zero_fraction → Same (at_placement placed ((p ∷ [], z) ∷ [])) zero_fraction
      null one e =
          let raised : Same (power fractions (at_variable placed p.0) p.1) zero_fraction =
          subst (λ k. Same (power fractions (at_variable placed p.0) k) zero_fraction) (sym one) (times_null fractions.one (at_variable placed p.0) e) in
          fractions.add-zero _ ∘ times_null (integer fractions z) _ (null_times _ fractions.one raised)

      go : (b : Bool) → eqb p.1 1 ≡ b → EachIn IsFar (cons_option (cond b (Some p.0) None) [])
      go true e = (λ h. n (null (eqb-true p.1 1 e) h), tt)
      go false e = tt
  sole_far (p ∷ r ∷ m) z n = tt

  only_far : (q : Summands) → IsApart (at_placement placed q) → EachIn IsFar (cons_option (only_variable q) [])
  only_far [] n = tt
  only_far (t ∷ []) n = sole_far t.0 t.1 n
  only_far (t ∷ u ∷ ts) n = tt

  -- a condition whose start is not 0 makes known what is not 0
  pub known_far : (item : Item) → IsApart (at_placement placed (start_of item.term)) → EachIn IsFar (known_by (item ∷ []))
  known_far item n = only_far (start_of item.term) n
