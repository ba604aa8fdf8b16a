-- Chains of keys: sums of chains are sums of polynomials, and what stays where keys are added.
use Rattle.std.proofs.Common.{◌≡◌, ℕ, zero, suc, ◌+◌, ◌^◌, ◌<◌, ◌≤◌, ℤ, unsigned_abs, List, [], ◌∷◌, ◌++◌, get_or, length, map, refl, sym, ap, ap₂, subst, ◌∙◌, arith}
use Rattle.std.specs.List.Sorted.{IsStrictlySortedBy}
use Rattle.std.specs.Ordering.{flip_args}
use Rattle.std.proofs.lemmas.List.{map-append}
use Rattle.std.proofs.lemmas.List.Sums.{sum_by-cons}
use Rattle.sparse_lists.specs.SparseLists.{AllKeys, IsBefore, IsCanonical, canonical}
use Rattle.sparse_lists.proofs.Sums.{AllKeys-append, AllKeys-canonical}
use Rattle.sparse_lists.specs.Coefficients.{coefficients, Pairs, sum_of as chain_sum}
use Rattle.poly_arena.specs.Orders.{IsFalling, SumsFit}
use Rattle.geo_poly.specs.declared.variables.Var.{Var}
use Rattle.geo_poly.specs.Chained.{indexed_pair, keyed_term_under, keyed_terms_under}
use Rattle.geo_poly.specs.Inner.Keyed.{IsIndexUnder, KeepsKeys, key_cmp, terms_under}
use Rattle.geo_poly.specs.Keys.{IsKeyUnder, Keys}
use Rattle.geo_poly.specs.Monomials.{Powers}
use Rattle.geo_poly.specs.Polynomials.{Summands, norm_of, sum_of, term_cmp}
use Rattle.geo_poly.specs.Shared.{Indices, named}
use Rattle.geo_poly.specs.Variables.{var_cmp}
use Rattle.geo_poly.proofs.Naming.{canonical-rename, cmp-named}
use Rattle.geo_poly.proofs.PolynomialLaws.{unsigned_abs-add-le}
use Rattle.geo_poly.proofs.KeysKept.{IsKeyUnder-kept}

module _ (vars : List Var) (rising : IsStrictlySortedBy var_cmp vars) (ks : Keys) where
  -- a key stands before others in a chain where its monomial does in the polynomial
  before-keys : (k : ℕ) (ts : Pairs) → IsKeyUnder vars ks k → AllKeys (IsKeyUnder vars ks) ts → IsBefore term_cmp (named vars (ks.powers k)) (keyed_terms_under vars ks ts)
      → IsBefore (flip_args (key_cmp ks)) k ts
  before-keys k [] h g b = tt
  before-keys k (u ∷ us) h g b =
      (sym (cmp-named vars rising (ks.powers u.0) (ks.powers k) g.0.places h.places) ∙ b.0, before-keys k us h g.1 b.1)

  -- so the keys of a polynomial fall
  pub falls-terms : (ts : Pairs) → AllKeys (IsKeyUnder vars ks) ts → IsCanonical term_cmp coefficients (keyed_terms_under vars ks ts) → IsFalling (key_cmp ks) ts
  falls-terms [] g c = tt
  falls-terms (t ∷ ts) g c = (before-keys t.0 ts g.0 g.1 c.1, falls-terms ts g.1 c.2)

  -- the merged sum of two chains stands for the sum of what they stand for
  pub terms-chain_sum : (xs ys : Pairs) → AllKeys (IsKeyUnder vars ks) xs → AllKeys (IsKeyUnder vars ks) ys
      → keyed_terms_under vars ks (chain_sum (key_cmp ks) xs ys) ≡ sum_of (keyed_terms_under vars ks xs) (keyed_terms_under vars ks ys)
  terms-chain_sum xs ys h g =
      sym (canonical-rename (flip_args (key_cmp ks)) term_cmp coefficients (λ k. named vars (ks.powers k)) (IsKeyUnder vars ks)
      (λ i j p q. cmp-named vars rising (ks.powers j) (ks.powers i) q.places p.places)
      (xs ++ ys) (AllKeys-append (IsKeyUnder vars ks) xs ys h g))
      ∙ ap (canonical term_cmp coefficients) (map-append (keyed_term_under vars ks) xs ys)

  pub keys-chain_sum : (xs ys : Pairs) → AllKeys (IsKeyUnder vars ks) xs → AllKeys (IsKeyUnder vars ks) ys → AllKeys (IsKeyUnder vars ks) (chain_sum (key_cmp ks) xs ys)
  keys-chain_sum xs ys h g = AllKeys-canonical (flip_args (key_cmp ks)) coefficients (IsKeyUnder vars ks) (xs ++ ys) (AllKeys-append (IsKeyUnder vars ks) xs ys h g)

  pub keys-within : (ts : Pairs) → AllKeys (IsKeyUnder vars ks) ts → AllKeys (λ k. k < ks.count) ts
  keys-within [] h = tt
  keys-within (t ∷ ts) h = (h.0.within, keys-within ts h.1)

  contained-le : (ts : Pairs) (t : ℕ × ℤ) (k : ℕ) → k < length ts → get_or ts k t ≡ t → unsigned_abs t.1 ≤ norm_of (keyed_terms_under vars ks ts)
  contained-le [] t k within e = absurd (omega arith)
  contained-le (u ∷ us) t zero within e =
      let same : unsigned_abs u.1 ≡ unsigned_abs t.1 = ap (λ (x : ℕ × ℤ). unsigned_abs x.1) e in
      omega (arith, same, sum_by-cons (λ (x : Powers × ℤ). unsigned_abs x.1) (keyed_term_under vars ks u) (keyed_terms_under vars ks us))
  contained-le (u ∷ us) t (suc k) within e =
      omega (arith, contained-le us t k (omega arith) e, sum_by-cons (λ (x : Powers × ℤ). unsigned_abs x.1) (keyed_term_under vars ks u) (keyed_terms_under vars ks us))

  -- the norms bound the sums of coefficients
  pub sums_fit : (xs ys : Pairs) → norm_of (keyed_terms_under vars ks xs) + norm_of (keyed_terms_under vars ks ys) < 2 ^ 127 → SumsFit xs ys
  sums_fit xs ys fits = λ key a b left right.
      omega (arith, unsigned_abs-add-le a b, contained-le xs (key, a) left.0 left.1 left.2, contained-le ys (key, b) right.0 right.1 right.2, fits)

-- WHERE KEYS ARE ADDED

pub keys-kept : (vars : List Var) (old new : Keys) (ts : Pairs) → KeepsKeys old new → AllKeys (IsKeyUnder vars old) ts → AllKeys (IsKeyUnder vars new) ts
keys-kept vars old new [] h g = tt
keys-kept vars old new (t ∷ ts) h g = (IsKeyUnder-kept vars old new t.0 h g.0, keys-kept vars old new ts h g.1)

pub keyed_terms-kept : (vars : List Var) (old new : Keys) (ts : Pairs) → KeepsKeys old new → AllKeys (IsKeyUnder vars old) ts → keyed_terms_under vars new ts ≡ keyed_terms_under vars old ts
keyed_terms-kept vars old new [] h g = refl
keyed_terms-kept vars old new (t ∷ ts) h g =
    ap₂ (λ (m : Powers) (us : Summands). (m, t.1) ∷ us) (ap (named vars) (h.powers t.0 g.0.within)) (keyed_terms-kept vars old new ts h g.1)

-- THE LIST OF A CHAIN

chain_terms_of : (vars : List Var) (ks : Keys) (pairs : Pairs) → terms_under vars ks (map indexed_pair pairs) ≡ keyed_terms_under vars ks pairs
chain_terms_of vars ks [] = refl
chain_terms_of vars ks (t ∷ pairs) = ap (λ (ts : Summands). keyed_term_under vars ks t ∷ ts) (chain_terms_of vars ks pairs)

chain_indices_of : (vars : List Var) (ks : Keys) (pairs : Pairs) → AllKeys (IsKeyUnder vars ks) pairs → AllKeys (IsIndexUnder vars ks) (map indexed_pair pairs)
chain_indices_of vars ks [] h = tt
chain_indices_of vars ks (t ∷ pairs) h = (h.0, chain_indices_of vars ks pairs h.1)

-- the keys of a chain as a list of indices
pub chain_terms : (vars : List Var) (ks : Keys) (list : Indices) (pairs : Pairs) → list ≡ map indexed_pair pairs → terms_under vars ks list ≡ keyed_terms_under vars ks pairs
chain_terms vars ks list pairs e = ap (terms_under vars ks) e ∙ chain_terms_of vars ks pairs

pub chain_indices : (vars : List Var) (ks : Keys) (list : Indices) (pairs : Pairs) → list ≡ map indexed_pair pairs → AllKeys (IsKeyUnder vars ks) pairs → AllKeys (IsIndexUnder vars ks) list
chain_indices vars ks list pairs e h = subst (λ (xs : Indices). AllKeys (IsIndexUnder vars ks) xs) (sym e) (chain_indices_of vars ks pairs h)
