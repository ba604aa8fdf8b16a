-- The terms that the parts of a polynomial tell, place by place.
use Rattle.std.proofs.Common.{◌≡◌, ℕ, zero, suc, ◌+◌, ◌<◌, ℤ, pos, add-one, List, [], ◌∷◌, ◌++◌, get_or, slice_get, Some, length, take, drop, refl, sym, ap, ap₂, subst, ◌∙◌, unsigned_abs, arith}
use Rattle.std.proofs.lemmas.List.{get_or-map, length-map}
use Rattle.std.proofs.lemmas.List.Sums.{sum_by-append}
use Rattle.sparse_lists.specs.SparseLists.{AllKeys}
use Rattle.sparse_lists.proofs.Sums.{AllKeys-at}
use Rattle.sparse_lists.proofs.Merging.{drop_at, get_or_any}
use Rattle.mono_store.specs.declared.links.MonoId.{MonoId}
use Rattle.mono_store.specs.Stores.{Store, Keeps}
use Rattle.geo_poly.specs.declared.shared.Shared.{Shared}
use Rattle.geo_poly.specs.declared.variables.Var.{Var}
use Rattle.geo_poly.specs.Monomials.{Powers, IsMonomial}
use Rattle.geo_poly.specs.Polynomials.{Summands, norm_of, term_at}
use Rattle.geo_poly.specs.Shared.{AllPlaces, AreParts, Indices, IsIndex, IsIndexOf, named, powers_at, term_of, terms_of, told, told_powers, told_term}

pub take_more : {X : Type 0} (xs : List X) (i : ℕ) (x : X) → i < length xs → x ≡ get_or xs i x → take (i + 1) xs ≡ take i xs ++ x ∷ []
take_more xs i x h e = rw add-one (go xs i x h e)
  where
    go : {X : Type 0} (xs : List X) (i : ℕ) (x : X) → i < length xs → x ≡ get_or xs i x → take (suc i) xs ≡ take i xs ++ x ∷ []
    go [] i x h e = absurd (omega arith)
    go (y ∷ ys) zero x h e = ap (λ z. z ∷ []) (sym e)
    go (y ∷ ys) (suc i) x h e = ap (λ zs. y ∷ zs) (go ys i x (omega arith) e)

pub drop_next : {X : Type 0} (xs : List X) (k : ℕ) (x : X) (rest : List X) → drop k xs ≡ x ∷ rest → drop (k + 1) xs ≡ rest
drop_next xs k x rest e = rw add-one (go xs k x rest e)
  where
    go : {X : Type 0} (xs : List X) (k : ℕ) (x : X) (rest : List X) → drop k xs ≡ x ∷ rest → drop (suc k) xs ≡ rest
    go [] zero x rest e = absurd (cc)
    go [] (suc k) x rest e = absurd (cc)
    go (y ∷ ys) zero x rest e = cc
    go (y ∷ ys) (suc k) x rest e = go ys k x rest e

pub dropped_get : {X : Type 0} (xs : List X) (k : ℕ) (x : X) (rest : List X) → drop k xs ≡ x ∷ rest → slice_get xs k ≡ Some x
dropped_get [] zero x rest e = absurd (cc)
dropped_get [] (suc k) x rest e = absurd (cc)
dropped_get (y ∷ ys) zero x rest e = let same : y ≡ x = cc in ap Some same
dropped_get (y ∷ ys) (suc k) x rest e = dropped_get ys k x rest e

-- the entry at a place
abbrev pub item : Indices → ℕ → MonoId × ℤ
item list i = get_or list i (record { 0 = 0 }, pos 0)

pub length-terms_of : (vars : List Var) (store : Store) (list : Indices) → length (terms_of vars store list) ≡ length list
length-terms_of vars store list = length-map list (term_of vars store)

-- WHAT THE PARTS TELL

module _ (p : Shared) (i : ℕ) (within : i < length p.list.now) where
  abbrev t : MonoId × ℤ
  t = item p.list.now i

  at : t ≡ get_or p.list.now i t
  at = get_or_any p.list.now i (record { 0 = 0 }, pos 0) t within

  pub told-is : told_term p (item p.list.now i) ≡ get_or (told p) i (told_term p (item p.list.now i))
  told-is = ap (told_term p) at ∙ sym (get_or-map (told_term p) p.list.now i t (told_term p t) within)

  pub told-within : i < length (told p)
  told-within = omega (arith, length-terms_of p.vars.now p.monos.now p.list.now)

  pub index_at : AreParts p → IsIndexOf p (item p.list.now i).0
  index_at h = AllKeys-at (IsIndexOf p) p.list.now i t within at h.indices

  pub monomial_at : AreParts p → IsMonomial (told_powers p (item p.list.now i).0)
  monomial_at h = AllKeys-at IsMonomial (told p) i (told_term p t) told-within told-is h.polynomial.monomials

  pub told-drop : drop i (told p) ≡ told_term p (item p.list.now i) ∷ drop (i + 1) (told p)
  told-drop = drop_at (told p) i (told_term p t) told-within told-is

  pub told-take : take (i + 1) (told p) ≡ take i (told p) ++ told_term p (item p.list.now i) ∷ []
  told-take = take_more (told p) i (told_term p t) told-within told-is

-- of a polynomial with these parts, a place has its term there
pub list_within : (p : Shared) (q : Summands) (i : ℕ) → told p ≡ q → i < length q → i < length p.list.now
list_within p q i e within = omega (arith, ap length e, length-terms_of p.vars.now p.monos.now p.list.now)

pub told_at : (p : Shared) (q : Summands) (i : ℕ) → told p ≡ q → i < length q → term_at q i ≡ told_term p (item p.list.now i)
told_at p q i e within =
    ap (λ (ts : Summands). term_at ts i) (sym e) ∙ get_or-map (told_term p) p.list.now i (record { 0 = 0 }, pos 0) ([], pos 0) (list_within p q i e within)

pub norm_of-more : (p : Shared) (i : ℕ) → i < length p.list.now → norm_of (take (i + 1) (told p)) ≡ norm_of (take i (told p)) + unsigned_abs (item p.list.now i).1
norm_of-more p i within =
    let t = told_term p (item p.list.now i) in
    ap norm_of (told-take p i within) ∙ sum_by-append (λ (u : Powers × ℤ). unsigned_abs u.1) (take i (told p)) (t ∷ []) ∙ omega arith

-- the same polynomials have the same terms
pub same_at : (p q : Shared) (i : ℕ) → i < length p.list.now → i < length q.list.now → told p ≡ told q → told_term p (item p.list.now i) ≡ told_term q (item q.list.now i)
same_at p q i left right e =
    told-is p i left ∙ ap (λ (ts : Summands). get_or ts i (told_term p (item p.list.now i))) e
    ∙ get_or_any (told q) i (told_term p (item p.list.now i)) (told_term q (item q.list.now i)) (told-within q i right) ∙ sym (told-is q i right)

-- where the store grows, the indices stand for what they stood for
pub powers_at-kept : (vars : List Var) (old new : Store) (id : MonoId) → Keeps old new → IsIndex vars old id → powers_at vars new id ≡ powers_at vars old id
powers_at-kept vars old new id h is = ap (named vars) (h.monomials id is.within)

pub IsIndex-kept : (vars : List Var) (old new : Store) (id : MonoId) → Keeps old new → IsIndex vars old id → IsIndex vars new id
IsIndex-kept vars old new id h is = record {
  within = omega (arith, h.longer, is.within);
  places = subst (AllPlaces (length vars)) (sym (h.monomials id is.within)) is.places;
}

pub indices-kept : (vars : List Var) (old new : Store) (list : Indices) → Keeps old new → AllKeys (IsIndex vars old) list → AllKeys (IsIndex vars new) list
indices-kept vars old new [] h g = tt
indices-kept vars old new (t ∷ list) h g = (IsIndex-kept vars old new t.0 h g.0, indices-kept vars old new list h g.1)

pub terms_of-kept : (vars : List Var) (old new : Store) (list : Indices) → Keeps old new → AllKeys (IsIndex vars old) list → terms_of vars new list ≡ terms_of vars old list
terms_of-kept vars old new [] h g = refl
terms_of-kept vars old new (t ∷ list) h g =
    ap₂ (λ (m : Powers) (ts : Summands). (m, t.1) ∷ ts) (powers_at-kept vars old new t.0 h g.0) (terms_of-kept vars old new list h g.1)
