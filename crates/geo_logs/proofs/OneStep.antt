-- The prover's next step is the only one.
use Rattle.std.proofs.Common.{◌≡◌, ℕ, inl, inr, Bool, true, false, Contains, IsTrue, length, ℤ, pos, ◌*ℤ◌, List, [], ◌∷◌, refl, sym, ap, ap₂, ◌∙◌, subst, unsigned_abs, arith}
use Rattle.std.specs.declared.cmp.Ordering.{Ordering}
use Rattle.std.specs.declared.cmp.Ordering.TheVariants.{Less, Equal, Greater}
use lib.IntN as IntN
use Rattle.sparse_lists.specs.SparseLists.{AllKeys}
use Rattle.sparse_lists.proofs.Canonical.{same_list}
use Rattle.geo_points.specs.declared.ids.PointId.{PointId}
use Rattle.ring_laws.proofs.Quotients.{cancel_factor}
use Rattle.geo_poly.specs.declared.variables.Var.{Var}
use Rattle.geo_poly.specs.declared.variables.Var.TheVariants.{R, S, P, X, Y, T}
use Rattle.geo_poly.specs.Monomials.{Powers, IsMonomial, exponent, exponents, product}
use Rattle.geo_poly.specs.Polynomials.{Summands, multiples}
use Rattle.geo_poly.specs.Variables.{var_cmp}
use Rattle.geo_poly.proofs.FactorDivision.{factor_unique}
use Rattle.geo_poly.proofs.FactorLaws.{multiples-product}
use Rattle.geo_poly.proofs.MonomialOrder.{exponent-product}
use Rattle.geo_poly.proofs.Orders.{exponents_add, var_order}
use Rattle.geo_terms.specs.Constructions.{Construction}
use Rattle.geo_logs.specs.declared.moves.Move.{Move}
use Rattle.geo_logs.specs.declared.moves.Move.TheVariants.{Ratio, Point, Coords}
use Rattle.geo_poly.specs.Cuts.{IsCut}
use Rattle.geo_logs.specs.Chains.{IsEnd}
use Rattle.geo_logs.specs.Defined.{HasFreePointsAlone, IsCutDue, IsFirstRatio, IsHighest, IsNextMove, NoCutDue, Occurs, has_point, named_point}
use Rattle.geo_logs.specs.Moves.{IsMoved, Table, replacement}
use Rattle.geo_poly.specs.PolynomialVariables.{IsPlain, IsQuantity, IsRatio, variables_of}
use Rattle.geo_poly.proofs.EachVariable.{each-contained, each-variables}

-- CUTS
same_quotient : (c a b : ℤ) → (unsigned_abs c ≡ 0 → ⊥) → c *ℤ a ≡ c *ℤ b → a ≡ b
same_quotient c a b n e =
    cancel_factor a b c (λ zero. n (ap unsigned_abs zero)) (IntN.*ℤ_comm a c ∙ e ∙ IntN.*ℤ_comm c b)

same_monomial : (k m n : Powers) → IsMonomial m → IsMonomial n → product k m ≡ product k n → m ≡ n
same_monomial k m n h g e =
    same_list var_cmp exponents var_order exponents_add m n h.in_order g.in_order
    (λ v. let both : exponent v (product k m) ≡ exponent v (product k n) = ap (exponent v) e in omega (arith, both, exponent-product v k m, exponent-product v k n))

none_of_some : (t : Powers × ℤ) (ts : Summands) → [] ≡ t ∷ ts → ⊥
none_of_some t ts e = let n : ◌≡◌ {A = ℕ} 0 (length (t ∷ ts)) = ap length e in omega (arith, n)

same_terms : (f : Powers × ℤ) (r s : Summands) → (unsigned_abs f.1 ≡ 0 → ⊥) → AllKeys IsMonomial r → AllKeys IsMonomial s → multiples f r ≡ multiples f s → r ≡ s
same_terms f [] [] nonzero g h e = refl
same_terms f [] (u ∷ us) nonzero g h e = absurd (none_of_some _ _ e)
same_terms f (t ∷ ts) [] nonzero g h e = absurd (none_of_some _ _ (sym e))
same_terms f (t ∷ ts) (u ∷ us) nonzero g h e =
    let first : ◌≡◌ {A = Powers × ℤ} (product f.0 t.0, f.1 *ℤ t.1) (product f.0 u.0, f.1 *ℤ u.1) = cc in
    let rest : multiples f ts ≡ multiples f us = cc in
    let monomial : t.0 ≡ u.0 = same_monomial f.0 t.0 u.0 g.0 h.0 (ap (λ x. x.0) first) in
    let number : t.1 ≡ u.1 = same_quotient f.1 t.1 u.1 nonzero (ap (λ x. x.1) first) in
    ap₂ (λ (x : Powers × ℤ) (xs : Summands). x ∷ xs) (λ i. (monomial i, number i)) (same_terms f ts us nonzero g.1 h.1 rest)

-- what a cut leaves, times the factor, term by term
pub cut_whole : (known : List Var) (f : Powers × ℤ) (q r : Summands) → IsCut known f q r → multiples f r ≡ q
cut_whole known f q r h = multiples-product f r h.factor.nonzero h.polynomial.monomials h.polynomial.in_order ∙ h.exact

-- a cut has one result
pub one_cut : (known : List Var) (f : Powers × ℤ) (q r s : Summands) → IsCut known f q r → IsCut known f q s → r ≡ s
one_cut known f q r s h k =
    same_terms f r s h.factor.nonzero h.polynomial.monomials k.polynomial.monomials (cut_whole known f q r h ∙ sym (cut_whole known f q s k))

-- a cut is due, or none
pub no_cut : (known : List Var) (q : Summands) (f : Powers × ℤ) → NoCutDue known q → IsCutDue known q f → ⊥
no_cut known q f none due = due.divides (factor_unique known q f ([], pos 1) due.factor (none due.nonzero))

pub one_factor : (known : List Var) (q : Summands) (f g : Powers × ℤ) → IsCutDue known q f → IsCutDue known q g → f ≡ g
one_factor known q f g h k = factor_unique known q f g h.factor k.factor

-- AN END HAS NO NEXT MOVE
false_is_true : {A : Type 0} → ◌≡◌ {A = Bool} false true → A
false_is_true e = absurd (cc)

quantity_with_point : (y : PointId) (v : Var) → has_point y v ≡ true → IsQuantity v
quantity_with_point y (R a b c d) e = tt
quantity_with_point y (S a b c) e = tt
quantity_with_point y (P a b c) e = tt
quantity_with_point y (X a) e = false_is_true e
quantity_with_point y (Y a) e = false_is_true e
quantity_with_point y (T t) e = false_is_true e

no_plain_quantity : (v : Var) → IsPlain v → IsQuantity v → ⊥
no_plain_quantity (R a b c d) h g = h
no_plain_quantity (S a b c) h g = h
no_plain_quantity (P a b c) h g = h
no_plain_quantity (X a) h g = g
no_plain_quantity (Y a) h g = g
no_plain_quantity (T t) h g = g

ratio_is_quantity : (v : Var) → IsRatio v → IsQuantity v
ratio_is_quantity (R a b c d) h = tt
ratio_is_quantity (S a b c) h = absurd h
ratio_is_quantity (P a b c) h = absurd h
ratio_is_quantity (X a) h = absurd h
ratio_is_quantity (Y a) h = absurd h
ratio_is_quantity (T t) h = absurd h

no_quantity : (q : Summands) (v : Var) → IsEnd q → Contains (variables_of q) v → IsQuantity v → ⊥
no_quantity q v end stands = no_plain_quantity v (each-contained IsPlain (variables_of q) v (each-variables IsPlain q end) stands)

no_point : (q : Summands) (y : PointId) → IsEnd q → Occurs y q → ⊥
no_point q y end (k, v, lt, at, test) = no_quantity q v end (k, lt, at) (quantity_with_point y v test)

pub no_move : (table : Table) (c : Construction) (q : Summands) (move : Move) → IsEnd q → IsNextMove table c q move → ⊥
no_move table c q (Ratio v lemma at) end (inl h) = no_point q h.0 end h.1.occurs
no_move table c q (Ratio v lemma at) end (inr h) = no_quantity q v end h.1.stands (ratio_is_quantity v h.1.ratio)
no_move table c q (Point y) end h = no_point q y end h.0.occurs
no_move table c q Coords end (free, none, (k, v, lt, at, quantity)) = no_quantity q v end (k, lt, at) quantity

-- THE NEXT MOVE IS THE ONLY ONE
one_point : (y z : PointId) → y.0 ≡ z.0 → y ≡ z
one_point y z e = let point : ℕ → PointId = λ k. record { 0 = k } in ap point e

one_highest : (c : Construction) (y z : PointId) (q : Summands) → IsHighest c y q → IsHighest c z q → y ≡ z
one_highest c y z q h k = one_point y z (omega (arith, h.highest z k.constructed k.occurs, k.highest y h.constructed h.occurs))

not_both_free : {A : Type 0} (c : Construction) (y : PointId) (q : Summands) → IsHighest c y q → HasFreePointsAlone c q → A
not_both_free c y q h free = absurd (free y h.constructed h.occurs)

one_first : (Fits : Var → Type 0) (q : Summands) (v w : Var) → IsFirstRatio Fits q v → IsFirstRatio Fits q w → v ≡ w
one_first Fits q v w h k = go (var_cmp v w) refl
  where
    go : (o : Ordering) → var_cmp v w ≡ o → v ≡ w
    go Less e = absurd (k.first v h.stands h.ratio h.fits e)
    go Equal e = var_order.exact v w e
    go Greater e = absurd (h.first w k.stands k.ratio k.fits (var_order.flip_back v w e))

same_ratio_move : (v w : Var) (l m : ℕ) (a b : PointId) → v ≡ w → l ≡ m → a ≡ b → Ratio v l a ≡ Ratio w m b
same_ratio_move v w l m a b p q r = ap₂ (λ (x : Var) (f : ℕ × PointId). Ratio x f.0 f.1) p (λ i. (q i, r i))

pub one_move : (table : Table) (c : Construction) (q : Summands) (m n : Move) → IsNextMove table c q m → IsNextMove table c q n → m ≡ n
one_move table c q (Ratio v l a) (Ratio w k b) (inl h) (inl g) =
    let point : h.0 ≡ g.0 = one_highest c h.0 g.0 q h.1 g.1 in
    let first : IsFirstRatio (λ u. IsTrue (has_point h.0 u)) q w = subst (λ (y : PointId). IsFirstRatio (λ u. IsTrue (has_point y u)) q w) (sym point) g.2 in
    let var : v ≡ w = one_first (λ u. IsTrue (has_point h.0 u)) q v w h.2 first in
    let lemma : l ≡ k = h.3 ∙ ap₂ (table.first_lemma c) point var ∙ sym g.3 in
    same_ratio_move v w l k a b var lemma (h.4 ∙ ap₂ named_point lemma point ∙ sym g.4)
one_move table c q (Ratio v l a) (Ratio w k b) (inl h) (inr g) = not_both_free c h.0 q h.1 g.0
one_move table c q (Ratio v l a) (Ratio w k b) (inr h) (inl g) = not_both_free c g.0 q g.1 h.0
one_move table c q (Ratio v l a) (Ratio w k b) (inr h) (inr g) =
    same_ratio_move v w l k a b (one_first (λ u. Unit {0}) q v w h.1 g.1) (h.2 ∙ sym g.2) (h.3 ∙ sym g.3)
one_move table c q (Ratio v l a) (Point y) (inl h) g =
    let point : h.0 ≡ y = one_highest c h.0 y q h.1 g.0 in
    absurd (g.1 v h.2.stands h.2.ratio (subst (λ (z : PointId). IsTrue (has_point z v)) point h.2.fits))
one_move table c q (Ratio v l a) (Point y) (inr h) g = not_both_free c y q g.0 h.0
one_move table c q (Ratio v l a) Coords (inl h) g = not_both_free c h.0 q h.1 g.0
one_move table c q (Ratio v l a) Coords (inr h) g = absurd (g.1 v h.1.stands h.1.ratio)
one_move table c q (Point y) (Ratio w k b) h (inl g) =
    let point : g.0 ≡ y = one_highest c g.0 y q g.1 h.0 in
    absurd (h.1 w g.2.stands g.2.ratio (subst (λ (z : PointId). IsTrue (has_point z w)) point g.2.fits))
one_move table c q (Point y) (Ratio w k b) h (inr g) = not_both_free c y q h.0 g.0
one_move table c q (Point y) (Point z) h g = ap Point (one_highest c y z q h.0 g.0)
one_move table c q (Point y) Coords h g = not_both_free c y q h.0 g.0
one_move table c q Coords (Ratio w k b) h (inl g) = not_both_free c g.0 q g.1 h.0
one_move table c q Coords (Ratio w k b) h (inr g) = absurd (h.1 w g.1.stands g.1.ratio)
one_move table c q Coords (Point z) h g = not_both_free c z q g.0 h.0
one_move table c q Coords Coords h g = refl

-- a move has one result
pub one_result : (table : Table) (c : Construction) (left : ℕ) (q r s : Summands) (move : Move) → IsMoved (replacement table c move q) left q r → IsMoved (replacement table c move q) left q s → r ≡ s
one_result table c left q r s move h g = h.result ∙ sym g.result
