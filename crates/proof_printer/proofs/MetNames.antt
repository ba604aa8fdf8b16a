-- Variables that were met, and their names.
use Rattle.std.proofs.Common.{◌≡◌, ℕ, zero, List, [], ◌∷◌, ◌++◌, refl, sym, ap, subst, ◌∙◌, arith}
use Rattle.std.specs.Borrow.{Bor}
use Rattle.std.specs.Prelude.{All, Contains, IfSome, OnOk, Option, Some, None, Result, Ok, Err}
use Rattle.std.specs.BTreeMap.{insert_entry, keys}
use Rattle.std.specs.BTreeSet.{insert_key}
use Rattle.std.specs.Map.{keys_of}
use Rattle.std.specs.Ordering.{match_ordering}
use Rattle.std.specs.declared.cmp.Ordering.{Ordering}
use Rattle.std.specs.declared.cmp.Ordering.TheVariants.{Less, Equal, Greater}
use Rattle.std.specs.List.Sorted.{IsStrictlySortedBy}
use Rattle.std.proofs.lemmas.List.Elements.{All-contains, All-push, All-weaker}
use Rattle.geo_poly.specs.declared.variables.Var.{Var}
use Rattle.geo_poly.specs.Variables.{var_cmp}
use Rattle.geo_poly.proofs.KnownVariables.{insert_known}
use Rattle.geo_poly.proofs.Unions.{fold_has, fold_keeps}
use Rattle.geo_poly.proofs.VariablesInOrder.{sorted-insert_key}
use Rattle.proof_printer.specs.declared.met.Met.{Met}
use Rattle.proof_printer.specs.declared.met.Named.{Named}
use Rattle.proof_printer.specs.Inner.Reading.{AreMet}
use Rattle.proof_printer.specs.Naming.{Naming, variable_text}

-- a variable with its name, which stands among the keys
abbrev IsOwn : Naming → List Var → Named → Type 0
IsOwn n keys named = (named.name ≡ variable_text n named.variable) × Contains keys named.variable

-- the keys of a map with one more
pub keys_of-insert_entry : (es : List (Var × ℕ)) (v : Var) (place : ℕ) → keys_of (insert_entry var_cmp es v place) ≡ insert_key var_cmp (keys_of es) v
keys_of-insert_entry [] v place = refl
keys_of-insert_entry (e ∷ es) v place = by (var_cmp v e.0) (keys_of-insert_entry es v place)
  where
    by : (o : Ordering) → keys_of (insert_entry var_cmp es v place) ≡ insert_key var_cmp (keys_of es) v
        → keys_of (match_ordering o ((v, place) ∷ e ∷ es) ((e.0, place) ∷ es) (e ∷ insert_entry var_cmp es v place))
        ≡ match_ordering o (v ∷ keys_of (e ∷ es)) (keys_of (e ∷ es)) (e.0 ∷ insert_key var_cmp (keys_of es) v)
    by Less rest = refl
    by Equal rest = refl
    by Greater rest = ap (λ (ks : List Var). e.0 ∷ ks) rest

-- a name that is found
pub met_again : (n : Naming) (met : Met) (named : Named) (v : Var) → AreMet n met → Contains met.names.items named → named.variable ≡ v
    → (named.name ≡ variable_text n v) × (keys met.places ≡ insert_key var_cmp (keys met.places) v)
met_again n met named v h found is =
    let own = All-contains (IsOwn n (keys met.places)) met.names.items named h.named found in
    let stands : Contains (keys met.places) v = subst (Contains (keys met.places)) is own.1 in
    (own.0 ∙ ap (variable_text n) is, sym (insert_known (keys met.places) v h.rising stands))

-- what a look-up finds
pub met_found : (n : Naming) (met : Met) (o : Option (Bor Named)) (v : Var) → AreMet n met → IfSome o (λ named. named.now.variable ≡ v)
    → IfSome o (λ named. Contains met.names.items named.now)
    → IfSome o (λ named. named.now.name ≡ variable_text n v) × IfSome o (λ named. keys met.places ≡ insert_key var_cmp (keys met.places) v)
met_found n met None v h is found = (tt, tt)
met_found n met (Some x) v h is found = met_again n met x.now v h found is

-- a name that is added
pub met_more : (n : Naming) (met met' : Met) (v : Var) (name : List ℕ) → AreMet n met → name ≡ variable_text n v
    → keys met'.places ≡ insert_key var_cmp (keys met.places) v → met'.names.items ≡ met.names.items ++ record { variable = v; name = name } ∷ [] → AreMet n met'
met_more n met met' v name h is now names =
    let more = insert_key var_cmp (keys met.places) v in
    let kept = All-weaker (IsOwn n (keys met.places)) (IsOwn n more) (λ x own. (own.0, fold_keeps (keys met.places) (v ∷ []) x.variable own.1)) met.names.items h.named in
    let here : Contains more v = fold_has (keys met.places) (v ∷ []) v (zero, omega arith, refl) in
    let all = All-push (IsOwn n more) met.names.items (record { variable = v; name = name }) kept (is, here) in
    record {
      rising = subst (λ (ks : List Var). IsStrictlySortedBy var_cmp ks) (sym now) (sorted-insert_key (keys met.places) v h.rising);
      named = subst (λ (ks : List Var). All (IsOwn n ks) met'.names.items) (sym now) (subst (All (IsOwn n more)) (sym names) all);
    }

pub added : {A E : Type 0} (n : Naming) (met met' : Met) (v : Var) (name : List ℕ) (result : Result A E) → AreMet n met → name ≡ variable_text n v
    → OnOk result (keys met'.places ≡ insert_key var_cmp (keys met.places) v)
    → OnOk result (met'.names.items ≡ met.names.items ++ record { variable = v; name = name } ∷ []) → OnOk result (AreMet n met')
added n met met' v name (Ok x) h is now names = met_more n met met' v name h is now names
added n met met' v name (Err e) h is now names = tt
