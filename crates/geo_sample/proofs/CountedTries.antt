-- The monomials into which a number is put, counted along a list of polynomials.
use Rattle.std.proofs.Common.{◌≡◌, ℕ, zero, suc, ◌+◌, ◌<◌, ◌≤◌, List, [], ◌∷◌, ◌++◌, length, sum_by, take, drop, get_or, ap, subst, arith}
use Rattle.std.specs.Prelude.{Option}
use Rattle.std.proofs.lemmas.List.Sums.{sum_by-take-le, sum_by_more}
use Rattle.geo_poly.specs.Polynomials.{Summands}
use Rattle.geo_sample.specs.Inner.Changes.{waiting, waits}

-- ONE AFTER ANOTHER
-- the monomials of one more
more_monomials : (ps : List Summands) (i : ℕ) (p : Summands) → i < length ps → p ≡ get_or ps i p
    → sum_by length (take (i + 1) ps) ≡ sum_by length (take i ps) + length p
more_monomials ps i p lt is = omega (arith, sum_by_more length ps i p lt, ap length is)

pub counted-more : (ps : List Summands) (i : ℕ) (p : Summands) (start before after : ℕ) → i < length ps → p ≡ get_or ps i p
    → before ≡ start + sum_by length (take i ps) → after ≡ before + length p → after ≡ start + sum_by length (take (i + 1) ps)
counted-more ps i p start before after lt is h one = omega (arith, more_monomials ps i p lt is, h, one)

-- the count stays within that of all
pub counted-within : (ps : List Summands) (i : ℕ) (p : Summands) (start before after : ℕ) → i < length ps → p ≡ get_or ps i p
    → before ≤ start + sum_by length (take i ps) → after ≤ before + length p → after ≤ start + sum_by length ps
counted-within ps i p start before after lt is h one = omega (arith, more_monomials ps i p lt is, sum_by-take-le length ps (i + 1), h, one)

pub counted-before : (ps : List Summands) (i start now : ℕ) → now ≤ start + sum_by length (take i ps) → now ≤ start + sum_by length ps
counted-before ps i start now h = omega (arith, sum_by-take-le length ps i, h)

-- WHAT WAITS
waiting-push : (os : List (Option Summands)) (ps : List Summands) (i : ℕ) (o : Option Summands) (p : Summands) → length os ≡ i → i < length ps
    → p ≡ get_or ps i p → waiting (os ++ o ∷ []) ps ≡ waiting os ps + waits o p
waiting-push os [] i o p long lt is = absurd (omega (arith, lt))
waiting-push [] (q ∷ ps) zero o p long lt is = omega (arith, ap (waits o) is)
waiting-push [] (q ∷ ps) (suc i) o p long lt is = absurd (omega (arith, long))
waiting-push (n ∷ os) (q ∷ ps) zero o p long lt is = absurd (omega (arith, long))
waiting-push (n ∷ os) (q ∷ ps) (suc i) o p long lt is = omega (arith, waiting-push os ps i o p (omega (arith, long)) (omega (arith, lt)) is)

pub waiting-more : (os : List (Option Summands)) (ps : List Summands) (i : ℕ) (o : Option Summands) (p : Summands) (start before after : ℕ)
    → length os ≡ i → i < length ps → p ≡ get_or ps i p → before + waiting os ps ≡ start + sum_by length (take i ps)
    → after + waits o p ≡ before + length p → after + waiting (os ++ o ∷ []) ps ≡ start + sum_by length (take (i + 1) ps)
waiting-more os ps i o p start before after long lt is h one = omega (arith, waiting-push os ps i o p long lt is, more_monomials ps i p lt is, h, one)

waiting-drop : (os : List (Option Summands)) (ps : List Summands) (i : ℕ) (o : Option Summands) (p : Summands) → i < length os → length os ≡ length ps
    → o ≡ get_or os i o → p ≡ get_or ps i p → waiting (drop i os) (drop i ps) ≡ waits o p + waiting (drop (suc i) os) (drop (suc i) ps)
waiting-drop [] ps i o p lt long at is = absurd (omega (arith, lt))
waiting-drop (n ∷ os) [] i o p lt long at is = absurd (omega (arith, long))
waiting-drop (n ∷ os) (q ∷ ps) zero o p lt long at is = omega (arith, ap (λ m. waits m p) at, ap (waits n) is)
waiting-drop (n ∷ os) (q ∷ ps) (suc i) o p lt long at is = waiting-drop os ps i o p (omega (arith, lt)) (omega (arith, long)) at is

-- one of those that wait
pub waiting-next : (os : List (Option Summands)) (ps : List Summands) (i : ℕ) (o m : Option Summands) (p : Summands) (whole before after : ℕ)
    → i < length os → length os ≡ length ps → o ≡ get_or os i o → m ≡ o → p ≡ get_or ps i p → before + waiting (drop i os) (drop i ps) ≡ whole
    → after ≡ before + waits m p → after + waiting (drop (i + 1) os) (drop (i + 1) ps) ≡ whole
waiting-next os ps i o m p whole before after lt long at same is h one =
    let next : suc i ≡ i + 1 = omega arith in
    subst (λ (k : ℕ). after + waiting (drop k os) (drop k ps) ≡ whole) next
    (omega (arith, waiting-drop os ps i o p lt long at is, ap (λ n. waits n p) same, h, one))
