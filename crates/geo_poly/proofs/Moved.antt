-- Monomials of a store put under other keys without the variables that have rows, link by link.
use Rattle.std.proofs.Common.{◌≡◌, ℕ, zero, suc, ◌+◌, ◌<◌, inl, inr, List, [], ◌∷◌, ◌++◌, get_or, length, Option, None, Some, refl, sym, ap, ap₂, subst, ◌∙◌, arith}
use Rattle.std.specs.Prelude.{◌≢◌}
use Rattle.std.specs.List.Sorted.{IsStrictlySortedBy}
use Rattle.std.proofs.lemmas.Bool.{cases_lt}
use Rattle.std.proofs.lemmas.List.{get_or_past}
use Rattle.std.specs.Ordering.{nat_cmp}
use Rattle.sparse_lists.specs.SparseLists.{IsCanonical}
use Rattle.sparse_lists.proofs.Canonical.{IsCanonical-canonical, canonical_self}
use Rattle.sparse_lists.proofs.NaturalAmounts.{natural_order}
use Rattle.mono_store.specs.declared.links.MonoId.{MonoId}
use Rattle.mono_store.specs.Monomials.{Powers as NumberedPowers, IsMonomial as IsNumberedMonomial, exponents as numbered_exponents}
use Rattle.mono_store.specs.Stores.{IsStore, count, monomial_of, words}
use Rattle.mono_store.proofs.Numbers.{exponents_add as numbered_add}
use Rattle.mono_store.proofs.Products.{IsPowerBefore}
use Rattle.mono_store.proofs.Unfolding.{monomial_of-one}
use Rattle.mono_store.proofs.WordOrder.{word_count-some}
use Rattle.geo_poly.specs.declared.rows.Row.{Row}
use Rattle.geo_poly.specs.declared.shared.Shared.{Shared}
use Rattle.geo_poly.specs.declared.variables.Var.{Var}
use Rattle.geo_poly.specs.Monomials.{Powers, IsMonomial, exponents}
use Rattle.geo_poly.specs.Replace.{kept, others, row_of}
use Rattle.geo_poly.specs.Keys.{Keys}
use Rattle.geo_poly.specs.Shared.{AllPlaces, named, told_powers, var_at}
use Rattle.geo_poly.specs.Variables.{var_cmp}
use Rattle.geo_poly.specs.Inner.Keyed.{KeepsKeys}
use Rattle.geo_poly.specs.declared.moving.Move.{Move}
use Rattle.geo_poly.specs.declared.moving.Move.TheVariants.{Kept, Unknown}
use Rattle.geo_poly.specs.declared.moving.MovedMonomials.{MovedMonomials}
use Rattle.geo_poly.specs.Inner.Moved.{AreMoved, AreMovedLinks, AreMoves, IsMoveOf, IsMovedTo, IsPlaceOf, IsSame}
use Rattle.geo_poly.proofs.KeysKept.{IsKeyUnder-kept}
use Rattle.geo_poly.proofs.Naming.{IsPowerBefore-named, canonical-rename, degree_of-named, var_at-keeps}
use Rattle.geo_poly.proofs.Orders.{exponents_add, var_order}
use Rattle.geo_poly.proofs.ReplaceTerms.{IsMonomial-others, others-none}

-- what holds of each entry, and of one more
pub each_push : {X : Type 0} (P : ℕ → X → Type 0) (xs : List X) (x d : X) → ((k : ℕ) → k < length xs → P k (get_or xs k d)) → P (length xs) x
    → (k : ℕ) → k < length (xs ++ x ∷ []) → P k (get_or (xs ++ x ∷ []) k d)
each_push P [] x d h g zero within = g
each_push P [] x d h g (suc k) within = absurd (omega (arith, within))
each_push P (y ∷ ys) x d h g zero within = h 0 (omega arith)
each_push P (y ∷ ys) x d h g (suc k) within = each_push (λ n z. P (suc n) z) ys x d (λ n in_ys. h (suc n) (omega (arith, in_ys))) g k (omega (arith, within))

known_within : (xs : List Move) (i : ℕ) → get_or xs i Unknown ≢ Unknown → i < length xs
known_within [] i known = absurd (known refl)
known_within (y ∷ ys) zero known = omega arith
known_within (y ∷ ys) (suc i) known = let rest = known_within ys i known in omega (arith, rest)

-- a monomial in numbered variables is one in the variables
pub IsMonomial-named : (vars : List Var) (m : NumberedPowers) → IsStrictlySortedBy var_cmp vars → AllPlaces (length vars) m → IsNumberedMonomial m → IsMonomial (named vars m)
IsMonomial-named vars m rising places h = record {
  in_order =
      subst (IsCanonical var_cmp exponents)
      (canonical-rename nat_cmp var_cmp exponents (var_at vars) (λ k. k < length vars) (var_at-keeps vars rising) m places
      ∙ ap (named vars) (canonical_self nat_cmp numbered_exponents natural_order numbered_add m h.in_order))
      (IsCanonical-canonical var_cmp exponents var_order exponents_add (named vars m));
  degree_fits = omega (arith, degree_of-named vars m, h.degree_fits);
}

-- WHAT IS LEFT
-- with no rows, all of it
pub others-all : (rows : List Row) (m : Powers) → rows ≡ [] → others rows m ≡ m
others-all rows m e = ap (λ (rs : List Row). others rs m) e ∙ go m
  where
    go : (n : Powers) → others [] n ≡ n
    go [] = refl
    go (v ∷ n) = ap (λ (rest : Powers). v ∷ rest) (go n)

kept-some : (o : Option Row) (v : Var × ℕ) (m : Powers) → o ≢ None → kept o v m ≡ m
kept-some None v m some = absurd (some refl)
kept-some (Some r) v m some = refl

-- THE MONOMIAL WITH NO VARIABLE
pub one_is_moved : (p : Shared) (rows : List Row) (vars : List Var) (keys : Keys) (id new : MonoId) → keys.powers 0 ≡ [] → 0 < keys.count → id.0 ≡ 0 → new.0 ≡ 0
    → IsSame p rows vars keys id new
one_is_moved p rows vars keys id new first some e f =
    let old_is = monomial_of-one p.monos.now id e in
    let new_is : keys.powers new.0 ≡ [] = ap keys.powers f ∙ first in
    record {
      old_index = record { within = omega (arith, e, word_count-some p.monos.now.limits); places = subst (AllPlaces (length p.vars.now)) (sym old_is) tt };
      new_index = record { within = omega (arith, f, some); places = subst (AllPlaces (length vars)) (sym new_is) tt };
      powers = ap (named vars) new_is ∙ ap (λ (m : NumberedPowers). others rows (named p.vars.now m)) (sym old_is);
    }

-- A MONOMIAL WITH A FIRST POWER
module _ (p : Shared) (rows : List Row) (vars : List Var) (id next : MonoId) (var exp : ℕ) (unfolds : monomial_of p.monos.now id ≡ (var, exp) ∷ monomial_of p.monos.now next)
    (within : id.0 < count p.monos.now) where
  powers_are : told_powers p id ≡ (var_at p.vars.now var, exp) ∷ told_powers p next
  powers_are = ap (named p.vars.now) unfolds

  module _ (keys : Keys) (new : MonoId) (same : IsSame p rows vars keys next new) (var_in : var < length p.vars.now) where
    places_of : AllPlaces (length p.vars.now) (monomial_of p.monos.now id)
    places_of = subst (AllPlaces (length p.vars.now)) (sym unfolds) (var_in, same.old_index.places)

    -- the variable has a row
    pub is_left : row_of rows (var_at p.vars.now var) ≢ None → IsSame p rows vars keys id new
    is_left some = record {
      old_index = record { within = within; places = places_of };
      new_index = same.new_index;
      powers =
          same.powers ∙ sym (ap (others rows) powers_are
          ∙ kept-some (row_of rows (var_at p.vars.now var)) (var_at p.vars.now var, exp) (others rows (told_powers p next)) some);
    }

    -- the variable has none
    module _ (k : ℕ) (is : IsMoveOf rows vars (var_at p.vars.now var) (Kept k)) where
      none : row_of rows (var_at p.vars.now var) ≡ None
      none = is.0

      place_is : IsPlaceOf vars (var_at p.vars.now var) (Some k)
      place_is = is.1

      left_are : others rows (told_powers p id) ≡ (var_at vars k, exp) ∷ named vars (keys.powers new.0)
      left_are = ap (others rows) powers_are ∙ others-none rows (var_at p.vars.now var, exp) (told_powers p next) none
          ∙ ap₂ (λ (v : Var) (rest : Powers). (v, exp) ∷ rest) (sym place_is.1) (sym same.powers)

      pub power_before : IsStrictlySortedBy var_cmp vars → IsStrictlySortedBy var_cmp p.vars.now → IsStore p.monos.now → IsPowerBefore k exp (keys.powers new.0)
      power_before rising old_rising store =
          IsPowerBefore-named vars rising k exp (keys.powers new.0) place_is.0 same.new_index.places
          (subst IsMonomial left_are (IsMonomial-others rows (told_powers p id) (IsMonomial-named p.vars.now (monomial_of p.monos.now id) old_rising places_of (store.monomials id))))

      pub is_moved : (more : Keys) (there : ℕ) → there < more.count → more.powers there ≡ (k, exp) ∷ keys.powers new.0
          → IsSame p rows vars more id (record { 0 = there })
      is_moved more there there_in is = record {
        old_index = record { within = within; places = places_of };
        new_index = record { within = there_in; places = subst (AllPlaces (length vars)) (sym is) (place_is.0, same.new_index.places) };
        powers = ap (named vars) is ∙ sym left_are;
      }

-- what is known of a number becomes of its variable, which is one of the polynomial's
pub move_is : (old : List Var) (rows : List Row) (vars : List Var) (moves : List Move) (var : ℕ) (move : Move) → AreMoves old rows vars moves → get_or moves var Unknown ≡ move
    → move ≢ Unknown → (var < length old) × IsMoveOf rows vars (var_at old var) move
move_is old rows vars moves var move are at known =
    let within : var < length moves = known_within moves var (λ e. known (sym at ∙ e)) in
    (omega (arith, within, are.within), subst (IsMoveOf rows vars (var_at old var)) at (are.each var within))

-- what a table of links tells of an index
pub entry_moved : (p : Shared) (rows : List Row) (vars : List Var) (keys : Keys) (links : List (Option MonoId)) (id : MonoId) (k : ℕ) (entry : Option MonoId)
    → AreMovedLinks p rows vars keys links → id.0 ≡ words p.monos.now + k → entry ≡ get_or links k None → IsMovedTo p rows vars keys id entry
entry_moved p rows vars keys links id k entry are is at =
    elim (cases_lt k (length links)) [
      | inl within ↦
          subst (λ (n : ℕ). IsMovedTo p rows vars keys (record { 0 = n }) entry) (sym is)
          (subst (IsMovedTo p rows vars keys (record { 0 = words p.monos.now + k })) (sym at) (are k within))
      | inr past ↦ subst (IsMovedTo p rows vars keys id) (sym (at ∙ get_or_past links k None past)) tt
    ]

-- where keys are added, the table stays right
module _ (p : Shared) (rows : List Row) (vars : List Var) (old new : Keys) (kept : KeepsKeys old new) where
  IsMovedTo-kept : (id : MonoId) (entry : Option MonoId) → IsMovedTo p rows vars old id entry → IsMovedTo p rows vars new id entry
  IsMovedTo-kept id None is = tt
  IsMovedTo-kept id (Some there) is = record {
    old_index = is.old_index;
    new_index = IsKeyUnder-kept vars old new there.0 kept is.new_index;
    powers = ap (named vars) (kept.powers there.0 is.new_index.within) ∙ is.powers;
  }

  pub AreMovedLinks-kept : (links : List (Option MonoId)) → AreMovedLinks p rows vars old links → AreMovedLinks p rows vars new links
  AreMovedLinks-kept links are = λ k within. IsMovedTo-kept (record { 0 = words p.monos.now + k }) (get_or links k None) (are k within)

  pub AreMoved-kept : (moved : MovedMonomials) → AreMoved p rows vars old moved → AreMoved p rows vars new moved
  AreMoved-kept moved are = record {
    parts = are.parts;
    moves = are.moves;
    links = AreMovedLinks-kept moved.links.items are.links;
  }

-- with no link there is nothing to tell
pub no_links : (p : Shared) (rows : List Row) (vars : List Var) (keys : Keys) (links : List (Option MonoId)) → links ≡ [] → AreMovedLinks p rows vars keys links
no_links p rows vars keys links none = λ k within. absurd (omega (arith, within, ap length none))

-- one more link
pub AreMovedLinks-push : (p : Shared) (rows : List Row) (vars : List Var) (keys : Keys) (links : List (Option MonoId)) (id : MonoId) (entry : Option MonoId)
    → id.0 ≡ words p.monos.now + length links → AreMovedLinks p rows vars keys links → IsMovedTo p rows vars keys id entry
    → AreMovedLinks p rows vars keys (links ++ entry ∷ [])
AreMovedLinks-push p rows vars keys links id entry is are there =
    each_push (λ k x. IsMovedTo p rows vars keys (record { 0 = words p.monos.now + k }) x) links entry None are
    (subst (λ (n : ℕ). IsMovedTo p rows vars keys (record { 0 = n }) entry) is there)
