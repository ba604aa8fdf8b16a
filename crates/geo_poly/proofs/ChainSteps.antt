-- What the steps of a product by chains do to the other chains, and to what a chain stands for.
use Rattle.std.proofs.Common.{◌≡◌, ℕ, zero, suc, ◌⊎◌, inl, inr, Some, None, List, [], refl, sym, ap, subst, ◌∙◌, arith}
use Rattle.std.specs.Prelude.{Option, IsSome, ◌≢◌, unwrap_or}
use Rattle.std.proofs.lemmas.Bool.{false≢true}
use Rattle.sparse_lists.specs.SparseLists.{AllKeys}
use Rattle.mono_store.specs.Stores.{Keeps, Store}
use Rattle.sparse_lists.specs.Coefficients.{Pairs}
use Rattle.poly_arena.specs.Chains.{Chains, IsLive, Merges, Updates, list_of, pairs_of}
use Rattle.geo_poly.specs.declared.variables.Var.{Var}
use Rattle.geo_poly.specs.Chained.{AddsChain, IsKey, SameChains, StandsFor, StandsUnder, keyed_terms, keyed_terms_under}
use Rattle.geo_poly.specs.Inner.Keyed.{KeepsKeys}
use Rattle.geo_poly.specs.Keys.{IsKeyUnder, Keys, store_keys}
use Rattle.geo_poly.specs.Polynomials.{Summands}
use Rattle.geo_poly.proofs.KeyedChains.{keyed_terms-kept, keys-kept}
use Rattle.geo_poly.proofs.KeysKept.{keeps_keys}

pub same_or : (m n : ℕ) → (m ≡ n) ⊎ (m ≢ n)
same_or zero zero = inl refl
same_or zero (suc n) = inr (λ e. omega arith)
same_or (suc m) zero = inr (λ e. omega arith)
same_or (suc m) (suc n) = elim (same_or m n) [ inl e ↦ inl (ap suc e) | inr d ↦ inr (λ e. d (omega arith)) ]

-- a live chain is none whose number is unused
pub live-differs : (arena : Chains) (n m : ℕ) → IsLive arena n → list_of arena m ≡ None → n ≢ m
live-differs arena n m live none = λ e. let dead : IsSome {T = Pairs} None = subst IsSome (ap (list_of arena) e ∙ none) live in false≢true dead

-- a chain that was added and is given back leaves all as it was
pub gave_back : (old mid new : Chains) (number : ℕ) → AddsChain old mid number → Updates mid new number None → SameChains old new
gave_back old mid new number adds updates = record {
  lists = λ n. elim (same_or n number) [
    | inl e ↦ ap (list_of new) e ∙ updates.changed ∙ sym adds.unused ∙ ap (list_of old) (sym e)
    | inr d ↦ updates.others n d ∙ adds.others n d
  ];
}

pub AddsChain-updates : (old mid new : Chains) (number : ℕ) (list : Option Pairs) → AddsChain old mid number → Updates mid new number list → AddsChain old new number
AddsChain-updates old mid new number list adds updates = record { unused = adds.unused; others = λ n d. updates.others n d ∙ adds.others n d }

-- a second chain is added and merged into the first
pub AddsChain-merges : (old one two new : Chains) (first second : ℕ) (list : Pairs) → AddsChain old one first → AddsChain one two second → first ≢ second
    → Merges two new first second list → AddsChain old new first
AddsChain-merges old one two new first second list a b differ m = record {
  unused = a.unused;
  others = λ n d. elim (same_or n second) [
    | inl e ↦
        let gone : list_of new n ≡ None = ap (list_of new) e ∙ m.spent in
        let before : list_of one n ≡ None = ap (list_of one) e ∙ b.unused in
        gone ∙ sym before ∙ a.others n d
    | inr f ↦ m.others n d f ∙ b.others n f ∙ a.others n d
  ];
}

-- a chain that keeps its list stands for what it stood for, where keys are added
pub StandsUnder-kept : (vars : List Var) (old new : Keys) (before after : Chains) (number : ℕ) (p : Summands) → KeepsKeys old new
    → list_of after number ≡ list_of before number → StandsUnder vars old before number p → StandsUnder vars new after number p
StandsUnder-kept vars old new before after number p kept same h =
    let pairs : pairs_of after number ≡ pairs_of before number = ap (λ (o : Option Pairs). unwrap_or o []) same in
    record {
      live = subst IsSome (sym same) h.live;
      keys = subst (λ (ts : Pairs). AllKeys (IsKeyUnder vars new) ts) (sym pairs) (keys-kept vars old new (pairs_of before number) kept h.keys);
      terms = ap (keyed_terms_under vars new) pairs ∙ keyed_terms-kept vars old new (pairs_of before number) kept h.keys ∙ h.terms;
    }

-- a chain that has this list stands for its terms
pub StandsUnder-list : (vars : List Var) (keys : Keys) (arena : Chains) (number : ℕ) (list : Pairs) (p : Summands) → list_of arena number ≡ Some list
    → AllKeys (IsKeyUnder vars keys) list → keyed_terms_under vars keys list ≡ p → StandsUnder vars keys arena number p
StandsUnder-list vars keys arena number list p is within terms =
    let pairs : pairs_of arena number ≡ list = ap (λ (o : Option Pairs). unwrap_or o []) is in
    record {
      live = subst IsSome (sym is) refl;
      keys = subst (λ (ts : Pairs). AllKeys (IsKeyUnder vars keys) ts) (sym pairs) within;
      terms = ap (keyed_terms_under vars keys) pairs ∙ terms;
    }

-- the same under the indices of a store
pub StandsFor-kept : (vars : List Var) (old new : Store) (before after : Chains) (number : ℕ) (p : Summands) → Keeps old new → list_of after number ≡ list_of before number
    → StandsFor vars old before number p → StandsFor vars new after number p
StandsFor-kept vars old new before after number p kept same h =
    StandsUnder-kept vars (store_keys old) (store_keys new) before after number p (keeps_keys old new kept) same h

pub StandsFor-list : (vars : List Var) (store : Store) (arena : Chains) (number : ℕ) (list : Pairs) (p : Summands) → list_of arena number ≡ Some list
    → AllKeys (IsKey vars store) list → keyed_terms vars store list ≡ p → StandsFor vars store arena number p
StandsFor-list vars store arena number list p is keys terms = StandsUnder-list vars (store_keys store) arena number list p is keys terms
