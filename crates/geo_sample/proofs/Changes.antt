-- What becomes of a list of polynomials with a number for a variable.
use Rattle.std.proofs.Common.{◌≡◌, ℕ, zero, suc, ◌+◌, ◌^◌, ◌<◌, ◌≤◌, pos, unsigned_abs, ℤ}
use Rattle.std.proofs.Common.{List, [], ◌∷◌, ◌++◌, length, map, take, drop, get_or, All, sym, ap, subst, ◌∙◌, arith}
use Rattle.std.proofs.lemmas.List.Elements.{All-head, All-push, All-tail, All-weaker}
use Rattle.std.proofs.lemmas.List.{drop_more, get_or_at, length-map, length-take, map-append, take_more}
use Rattle.geo_poly.specs.declared.variables.Var.{Var}
use Rattle.geo_poly.specs.Polynomials.{Summands, IsPolynomial}
use Rattle.geo_poly.specs.Specialise.{specialised, specialised_weight, NoneZero}
use Rattle.geo_poly.proofs.SpecialisedLaws.{small_weight}
use Rattle.geo_sample.specs.Tries.{all_specialised}

-- no weight at 0, 1 or -1 passes the bound of a norm
pub small_fits : (v : Var) (z : ℤ) (ps : List Summands) → unsigned_abs z ≤ 1 → All IsPolynomial ps → All (λ p. specialised_weight v z p < 2 ^ 127) ps
small_fits v z ps small h =
    All-weaker IsPolynomial (λ p. specialised_weight v z p < 2 ^ 127)
    (λ p valid. omega (arith, small_weight v z p small, valid.norm_fits)) ps h

pub zero_fits : (v : Var) (ps : List Summands) → All IsPolynomial ps → All (λ p. specialised_weight v (pos 0) p < 2 ^ 127) ps
zero_fits v ps h = let small : unsigned_abs (pos 0) ≤ 1 = omega arith in small_fits v (pos 0) ps small h

-- THE NUMBER PUT IN
-- one of them is zero then
pub one_vanishes : (v : Var) (z : ℤ) (ps : List Summands) (i : ℕ) (p : Summands) → i < length ps → p ≡ get_or ps i p → specialised v z p ≡ [] → NoneZero (all_specialised v z ps) → ⊥
one_vanishes v z [] i p lt is gone h = absurd (omega (arith, lt))
one_vanishes v z (q ∷ qs) zero p lt is gone h =
    All-head (λ (r : Summands). r ≡ [] → ⊥) (specialised v z q) (all_specialised v z qs) h (ap (specialised v z) (sym is) ∙ gone)
one_vanishes v z (q ∷ qs) (suc i) p lt is gone h =
    one_vanishes v z qs i p (omega (arith, lt)) is gone (All-tail (λ (r : Summands). r ≡ [] → ⊥) (specialised v z q) (all_specialised v z qs) h)

-- one more that is not
pub one_stays : (v : Var) (z : ℤ) (ps : List Summands) (i : ℕ) (p : Summands) → i < length ps → p ≡ get_or ps i p → NoneZero (all_specialised v z (take i ps)) → (specialised v z p ≡ [] → ⊥)
    → NoneZero (all_specialised v z (take (i + 1) ps))
one_stays v z ps i p lt is h some =
    let more : all_specialised v z (take (i + 1) ps) ≡ all_specialised v z (take i ps) ++ specialised v z p ∷ [] =
    ap (all_specialised v z) (take_more ps i p lt) ∙ map-append (specialised v z) (take i ps) (get_or ps i p ∷ [])
    ∙ ap (λ (q : Summands). all_specialised v z (take i ps) ++ specialised v z q ∷ []) (sym is) in
    subst NoneZero (sym more) (All-push (λ (r : Summands). r ≡ [] → ⊥) (all_specialised v z (take i ps)) (specialised v z p) h some)

-- a polynomial that is still to be put in, where those before it are
pub same_ahead : (f : Summands → Summands) (xs ys : List Summands) (i : ℕ) (x : Summands) → i < length xs → ys ≡ map f (take i xs) ++ drop i xs → x ≡ get_or ys i x → x ≡ get_or xs i x
same_ahead f xs ys i x lt h is =
    let front = map f (take i xs) in
    let long : length front ≡ i = length-map (take i xs) f ∙ omega (arith, length-take i xs) in
    let parts : ys ≡ front ++ get_or xs i x ∷ drop (i + 1) xs = h ∙ ap (λ (l : List Summands). front ++ l) (drop_more xs i x lt) in
    is ∙ ap (λ (l : List Summands). get_or l i x) parts ∙ get_or_at front (get_or xs i x) (drop (i + 1) xs) x i long
