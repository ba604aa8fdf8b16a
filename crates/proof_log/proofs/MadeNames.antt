-- Names that were made before, and the names of variables.
use Rattle.std.proofs.Common.{◌≡◌, ℕ, true, inl, inr, List, ◌∷◌, ◌++◌, length, get_or, slice_get, ltb, Option, Some}
use Rattle.std.proofs.Common.{refl, sym, ap, subst, ◌∙◌, append_assoc}
use Rattle.std.specs.Prelude.{IfSome}
use Rattle.std.specs.Option.{option_map}
use Rattle.std.proofs.lemmas.Bool.{ltb-true}
use Rattle.std.proofs.lemmas.Option.{slice_get-map, slice_get_read}
use Rattle.geo_poly.specs.declared.variables.Var.{Var}
use Rattle.proof_log.specs.Inner.Names.{AreNames, starred}

-- where there is a name at the place of a variable, it is that of the variable
pub name_there : (vars : List Var) (names : List (List ℕ)) (k : ℕ) (v : Var) → AreNames vars names → slice_get vars k ≡ Some v
    → IfSome (slice_get names k) (λ name. name ≡ starred v)
name_there vars names k v (inl none) at =
    subst (λ (ns : List (List ℕ)). IfSome (slice_get ns k) (λ name. name ≡ starred v)) (sym none) tt
name_there vars names k v (inr all) at =
    subst (λ (o : Option (List ℕ)). IfSome o (λ name. name ≡ starred v))
    (sym (ap (λ (ns : List (List ℕ)). slice_get ns k) all ∙ slice_get-map starred vars k ∙ ap (option_map starred) at)) refl

-- a name that is read at its place
pub name_read : (names : List (List ℕ)) (k : ℕ) (x name : List ℕ) → true ≡ ltb k (length names) → x ≡ get_or names k x
    → IfSome (slice_get names k) (λ n. n ≡ name) → x ≡ name
name_read names k x name within is due =
    let found = slice_get_read names (length names) k x refl (ltb-true k (length names) (sym within)) is in
    subst (λ (o : Option (List ℕ)). IfSome o (λ n. n ≡ name)) found due

-- a text that has grown by `*` and a name, and what stands behind it
pub behind_starred : (before grown bytes name behind : List ℕ) → grown ≡ before ++ bytes → bytes ≡ 42 ∷ name
    → grown ++ behind ≡ before ++ 42 ∷ (name ++ behind)
behind_starred before grown bytes name behind is same =
    ap (λ (l : List ℕ). l ++ behind) (is ∙ ap (λ (l : List ℕ). before ++ l) same) ∙ append_assoc before (42 ∷ name) behind
