-- Names of the variables of a polynomial that were made before.
use Rattle.std.proofs.Common.{◌≡◌, ℕ, inl, inr, List, slice_get, Option, Some}
use Rattle.std.proofs.Common.{refl, sym, ap, subst, ◌∙◌}
use Rattle.std.specs.Prelude.{IfSome}
use Rattle.std.specs.Option.{option_map}
use Rattle.std.proofs.lemmas.Option.{slice_get-map}
use Rattle.geo_poly.specs.declared.variables.Var.{Var}
use Rattle.proof_printer.specs.Naming.{Naming}
use Rattle.proof_printer.specs.Inner.Names.{AreNames, starred}

-- where there is a name at the place of a variable, it is that of the variable
pub name_there : (n : Naming) (vars : List Var) (names : List (List ℕ)) (k : ℕ) (v : Var) → AreNames n vars names
    → slice_get vars k ≡ Some v
    → IfSome (slice_get names k) (λ name. name ≡ starred n v)
name_there n vars names k v (inl none) at =
    subst (λ (ns : List (List ℕ)). IfSome (slice_get ns k) (λ name. name ≡ starred n v)) (sym none) tt
name_there n vars names k v (inr all) at =
    subst (λ (o : Option (List ℕ)). IfSome o (λ name. name ≡ starred n v))
    (sym (ap (λ (ns : List (List ℕ)). slice_get ns k) all ∙ slice_get-map (starred n) vars k ∙ ap (option_map (starred n)) at))
    refl
