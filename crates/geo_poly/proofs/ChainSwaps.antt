-- Chains that are spent for others, and the lists that stand for pieces, where a store grows.
use Rattle.std.proofs.Common.{◌≡◌, ℕ, zero, suc, ◌<◌, get_or, length, arith, inl, inr, None, List, [], ◌∷◌, ◌++◌, refl, sym, ap, subst, ◌∙◌}
use Rattle.std.specs.Prelude.{Option, Result, Ok, Err, IfOk, OnErr}
use Rattle.mono_store.specs.Stores.{Keeps, Store}
use Rattle.sparse_lists.specs.Coefficients.{Pairs}
use Rattle.poly_arena.specs.Chains.{Chains, Updates, list_of}
use Rattle.geo_poly.specs.declared.rows.Row.{Row}
use Rattle.geo_poly.specs.declared.settings.Setting.{Setting}
use Rattle.geo_poly.specs.declared.variables.Var.{Var}
use Rattle.geo_poly.specs.Chained.{AddsChain, SameChains}
use Rattle.geo_poly.specs.Inner.Keyed.{KeepsKeys}
use Rattle.geo_poly.specs.Inner.Settings.{AreStored, AreStoredUnder, IsSet, IsSetUnder, IsStoredUnder, Swaps}
use Rattle.geo_poly.specs.Keys.{Keys, store_keys}
use Rattle.geo_poly.specs.KeptVariables.{AllNumerators}
use Rattle.geo_poly.specs.Polynomials.{Summands}
use Rattle.geo_poly.specs.PolynomialVariables.{AllVariables}
use Rattle.geo_poly.specs.Shared.{Indices}
use Rattle.geo_poly.proofs.ChainSteps.{same_or}
use Rattle.geo_poly.proofs.KeysKept.{indices_under-kept, keeps_keys, terms_under-kept}

-- what holds in any case holds where there is an error
pub on_err : {T E : Type 0} (r : Result T E) (P : Type 0) → P → OnErr r P
on_err (Ok x) P h = tt
on_err (Err e) P h = h

-- what follows from two facts on a value holds of it
pub both_ok : {T E : Type 0} (r : Result T E) (P Q S : T → Type 0) → ((x : T) → P x → Q x → S x) → IfOk r P → IfOk r Q → IfOk r S
both_ok (Ok x) P Q S f h g = f x h g
both_ok (Err e) P Q S f h g = tt

-- SWAPS

pub Swaps-refl : (a : Chains) (n : ℕ) → Swaps a a n n
Swaps-refl a n = record { others = λ m d e. refl; spent = λ d. absurd (d refl); unused = λ d. absurd (d refl) }

pub Swaps-trans : (a b c : Chains) (x y z : ℕ) → Swaps a b x y → Swaps b c y z → Swaps a c x z
Swaps-trans a b c x y z h g = record {
  others = λ n dx dz. elim (same_or n y) [
    | inl e ↦ ap (list_of c) e ∙ g.spent (λ q. dz (e ∙ q)) ∙ sym (h.unused (λ q. dx (e ∙ q))) ∙ ap (list_of a) (sym e)
    | inr d ↦ g.others n d dz ∙ h.others n dx d
  ];
  spent = λ dxz. elim (same_or x y) [
    | inl e ↦ ap (list_of c) e ∙ g.spent (λ q. dxz (e ∙ q))
    | inr d ↦ g.others x d dxz ∙ h.spent d
  ];
  unused = λ dzx. elim (same_or z y) [
    | inl e ↦ ap (list_of a) e ∙ h.unused (λ q. dzx (e ∙ q))
    | inr d ↦ sym (h.others z dzx d) ∙ g.unused d
  ];
}

-- a chain that is changed in its place
pub Swaps-updates : (a b : Chains) (n : ℕ) (list : Option Pairs) → Updates a b n list → Swaps a b n n
Swaps-updates a b n list u = record { others = λ m d e. u.others m d; spent = λ d. absurd (d refl); unused = λ d. absurd (d refl) }

-- where the new chain is spent too, the old one is
pub Swaps-spent : (a b c : Chains) (x y : ℕ) → Swaps a b x y → Updates b c y None → Updates a c x None
Swaps-spent a b c x y h u = record {
  changed = elim (same_or x y) [ inl e ↦ ap (list_of c) e ∙ u.changed | inr d ↦ u.others x d ∙ h.spent d ];
  others = λ n dx. elim (same_or n y) [
    | inl e ↦ ap (list_of c) e ∙ u.changed ∙ sym (h.unused (λ q. dx (e ∙ q))) ∙ ap (list_of a) (sym e)
    | inr d ↦ u.others n d ∙ h.others n dx d
  ];
}

-- a chain that was added and then swapped
pub AddsChain-swaps : (base a c : Chains) (x z : ℕ) → AddsChain base a x → Swaps a c x z → AddsChain base c z
AddsChain-swaps base a c x z adds h = record {
  unused = elim (same_or z x) [ inl e ↦ ap (list_of base) e ∙ adds.unused | inr d ↦ sym (adds.others z d) ∙ h.unused d ];
  others = λ n dz. elim (same_or n x) [
    | inl e ↦ ap (list_of c) e ∙ h.spent (λ q. dz (e ∙ q)) ∙ sym adds.unused ∙ ap (list_of base) (sym e)
    | inr d ↦ h.others n d dz ∙ adds.others n d
  ];
}

-- a chain is spent, and then one is made
pub Swaps-from : (old mid new : Chains) (gone made : ℕ) → Updates old mid gone None → AddsChain mid new made → Swaps old new gone made
Swaps-from old mid new gone made u adds = record {
  others = λ n dx dc. adds.others n dc ∙ u.others n dx;
  spent = λ d. adds.others gone d ∙ u.changed;
  unused = λ d. sym (u.others made d) ∙ adds.unused;
}

pub spent_same : (old mid new : Chains) (gone : ℕ) → Updates old mid gone None → SameChains mid new → Updates old new gone None
spent_same old mid new gone u same = record { changed = same.lists gone ∙ u.changed; others = λ n d. same.lists n ∙ u.others n d }

-- WHAT IS STORED

pub IsStoredUnder-kept : (vars : List Var) (old new : Keys) (list : Indices) (p : Summands) → KeepsKeys old new → IsStoredUnder vars old list p → IsStoredUnder vars new list p
IsStoredUnder-kept vars old new list p kept h = record {
  indices = indices_under-kept vars old new list kept h.indices;
  terms = terms_under-kept vars old new list kept h.indices ∙ h.terms;
  polynomial = h.polynomial;
}

pub AreStoredUnder-kept : (vars : List Var) (old new : Keys) (rows : List Row) (lists : List Indices) → KeepsKeys old new → AreStoredUnder vars old rows lists
    → AreStoredUnder vars new rows lists
AreStoredUnder-kept vars old new [] [] kept h = tt
AreStoredUnder-kept vars old new [] (list ∷ lists) kept h = h
AreStoredUnder-kept vars old new (row ∷ rows) [] kept h = h
AreStoredUnder-kept vars old new (row ∷ rows) (list ∷ lists) kept h =
    (IsStoredUnder-kept vars old new list row.num.poly kept h.0, AreStoredUnder-kept vars old new rows lists kept h.1)

pub AreStoredUnder-push : (vars : List Var) (keys : Keys) (rows : List Row) (lists : List Indices) (row : Row) (list : Indices) → AreStoredUnder vars keys rows lists
    → IsStoredUnder vars keys list row.num.poly → AreStoredUnder vars keys (rows ++ row ∷ []) (lists ++ list ∷ [])
AreStoredUnder-push vars keys [] [] row list h g = (g, tt)
AreStoredUnder-push vars keys [] (other ∷ lists) row list h g = absurd h
AreStoredUnder-push vars keys (other ∷ rows) [] row list h g = absurd h
AreStoredUnder-push vars keys (other ∷ rows) (first ∷ lists) row list h g = (h.0, AreStoredUnder-push vars keys rows lists row list h.1 g)

pub IsSetUnder-kept : (setting : Setting) (old new : Keys) → KeepsKeys old new → IsSetUnder setting old → IsSetUnder setting new
IsSetUnder-kept setting old new kept h = record {
  rising = h.rising;
  rows_bounded = h.rows_bounded;
  den_bounded = h.den_bounded;
  rows_stored = AreStoredUnder-kept setting.vars.now old new setting.rows.now setting.nums.now kept h.rows_stored;
  den_stored = IsStoredUnder-kept setting.vars.now old new setting.den.list.now setting.den.piece.now.poly kept h.den_stored;
}

-- the same where a store grows
pub AreStored-kept : (vars : List Var) (old new : Store) (rows : List Row) (lists : List Indices) → Keeps old new → AreStored vars old rows lists → AreStored vars new rows lists
AreStored-kept vars old new rows lists kept h = AreStoredUnder-kept vars (store_keys old) (store_keys new) rows lists (keeps_keys old new kept) h

pub IsSet-kept : (setting : Setting) (old new : Store) → Keeps old new → IsSet setting old → IsSet setting new
IsSet-kept setting old new kept h = IsSetUnder-kept setting (store_keys old) (store_keys new) (keeps_keys old new kept) h

-- what each numerator has, that of a row has
pub AllNumerators-at : (Holds : Var → Type 0) (rows : List Row) (i : ℕ) (row : Row) → i < length rows → row ≡ get_or rows i row → AllNumerators Holds rows → AllVariables Holds row.num.poly
AllNumerators-at Holds [] i row within is h = absurd (omega arith)
AllNumerators-at Holds (first ∷ rows) zero row within is h = subst (λ (r : Row). AllVariables Holds r.num.poly) (sym is) h.0
AllNumerators-at Holds (first ∷ rows) (suc i) row within is h = AllNumerators-at Holds rows i row (omega arith) is h.1
