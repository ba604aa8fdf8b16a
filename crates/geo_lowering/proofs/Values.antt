-- The value of a term: where points and numbers are renamed, and where they are exchanged for the same ones.
use Rattle.std.proofs.Common.{◌≡◌, ℕ, ◌<◌, Bool, false, refl, sym, true≢false}
use Rattle.ring_laws.specs.Fraction.{Same, plus, minus, times, negated, quotient, IsNonzero}
use Rattle.geo_points.specs.Placements.{Placement, SamePoint}
use Rattle.geo_points.proofs.Exchange.{signed_area-same, pythagoras_difference-same, HasRatio-same, ratio-same}
use Rattle.ring_laws.proofs.Fractions as F
use Rattle.ring_laws.proofs.Fractions.{fractions}
use Rattle.geo_terms.specs.Trees.{Tree, IsStepNumber, integer_leaf, parameter_leaf, area_leaf, pythagoras_leaf, ratio_leaf, negation, addition, subtraction, multiplication, division}
use Rattle.geo_terms.specs.Values.{HasTreeValue, tree_value}
use Rattle.geo_program.specs.Expressions.{IsExpression}
use Rattle.geo_lowering.specs.Lowering.{Layout, renamed}
use Rattle.geo_points.proofs.Same.{minus-same}
use Rattle.geo_lowering.proofs.Standing.{quotient-same}

-- the lowered placement, as the terms of the program read it
abbrev pub seen : Layout → Placement → Placement
seen l lowered = record { point = λ a. lowered.point (l.point a); number = λ t. lowered.number (l.param t) }

module _ (l : Layout) (lowered : Placement) where
  pub renamed-value : (e : Tree) → tree_value lowered (renamed l e) ≡ tree_value (seen l lowered) e
  renamed-value (integer_leaf n) = refl
  renamed-value (parameter_leaf t) = refl
  renamed-value (area_leaf a b c) = refl
  renamed-value (pythagoras_leaf a b c) = refl
  renamed-value (ratio_leaf a b c d) = refl
  renamed-value (negation e) = λ i. negated (renamed-value e i)
  renamed-value (addition e f) = λ i. plus (renamed-value e i) (renamed-value f i)
  renamed-value (subtraction e f) = λ i. minus (renamed-value e i) (renamed-value f i)
  renamed-value (multiplication e f) = λ i. times (renamed-value e i) (renamed-value f i)
  renamed-value (division e f) = λ i. quotient (renamed-value e i) (renamed-value f i)

  pub renamed-has : (e : Tree) → HasTreeValue lowered (renamed l e) ≡ HasTreeValue (seen l lowered) e
  renamed-has (integer_leaf n) = refl
  renamed-has (parameter_leaf t) = refl
  renamed-has (area_leaf a b c) = refl
  renamed-has (pythagoras_leaf a b c) = refl
  renamed-has (ratio_leaf a b c d) = refl
  renamed-has (negation e) = renamed-has e
  renamed-has (addition e f) = λ i. renamed-has e i × renamed-has f i
  renamed-has (subtraction e f) = λ i. renamed-has e i × renamed-has f i
  renamed-has (multiplication e f) = λ i. renamed-has e i × renamed-has f i
  renamed-has (division e f) = λ i. renamed-has e i × renamed-has f i × IsNonzero (renamed-value f i)

-- the term names points below n and numbers below m alone
abbrev pub IsOver : ℕ → ℕ → Tree → Type 0
IsOver n m (integer_leaf z) = Unit {0}
IsOver n m (parameter_leaf t) = t.0 < m
IsOver n m (area_leaf a b c) = (a.0 < n) × (b.0 < n) × (c.0 < n)
IsOver n m (pythagoras_leaf a b c) = (a.0 < n) × (b.0 < n) × (c.0 < n)
IsOver n m (ratio_leaf a b c d) = (a.0 < n) × (b.0 < n) × (c.0 < n) × (d.0 < n)
IsOver n m (negation e) = IsOver n m e
IsOver n m (addition e f) = IsOver n m e × IsOver n m f
IsOver n m (subtraction e f) = IsOver n m e × IsOver n m f
IsOver n m (multiplication e f) = IsOver n m e × IsOver n m f
IsOver n m (division e f) = IsOver n m e × IsOver n m f

pub over_expression : (n m : ℕ) (ratios : Bool) (e : Tree) → IsExpression n m ratios e → IsOver n m e
over_expression n m r (integer_leaf z) h = tt
over_expression n m r (parameter_leaf t) h = h
over_expression n m r (area_leaf a b c) h = h
over_expression n m r (pythagoras_leaf a b c) h = h
over_expression n m r (ratio_leaf a b c d) h = (h.1, h.2, h.3, h.4)
over_expression n m r (negation e) h = over_expression n m r e h
over_expression n m r (addition e f) h = (over_expression n m r e h.0, over_expression n m r f h.1)
over_expression n m r (subtraction e f) h = (over_expression n m r e h.0, over_expression n m r f h.1)
over_expression n m r (multiplication e f) h = (over_expression n m r e h.0, over_expression n m r f h.1)
over_expression n m r (division e f) h = (over_expression n m r e h.0, over_expression n m false f h.1)

-- after the renaming it names the images
pub over_renamed : (l : Layout) (x q n m : ℕ) → ((a : ℕ) → a < x → l.point a < n) → ((t : ℕ) → t < q → l.param t < m) → (e : Tree) → IsOver x q e → IsOver n m (renamed l e)
over_renamed l x q n m p r (integer_leaf z) h = tt
over_renamed l x q n m p r (parameter_leaf t) h = r t.0 h
over_renamed l x q n m p r (area_leaf a b c) h = (p a.0 h.0, p b.0 h.1, p c.0 h.2)
over_renamed l x q n m p r (pythagoras_leaf a b c) h = (p a.0 h.0, p b.0 h.1, p c.0 h.2)
over_renamed l x q n m p r (ratio_leaf a b c d) h = (p a.0 h.0, p b.0 h.1, p c.0 h.2, p d.0 h.3)
over_renamed l x q n m p r (negation e) h = over_renamed l x q n m p r e h
over_renamed l x q n m p r (addition e f) h = (over_renamed l x q n m p r e h.0, over_renamed l x q n m p r f h.1)
over_renamed l x q n m p r (subtraction e f) h = (over_renamed l x q n m p r e h.0, over_renamed l x q n m p r f h.1)
over_renamed l x q n m p r (multiplication e f) h = (over_renamed l x q n m p r e h.0, over_renamed l x q n m p r f h.1)
over_renamed l x q n m p r (division e f) h = (over_renamed l x q n m p r e h.0, over_renamed l x q n m p r f h.1)

-- a step's number names these alone
pub over_number : (n m : ℕ) (e : Tree) → IsStepNumber n m e → IsOver n m e
over_number n m (integer_leaf z) h = tt
over_number n m (parameter_leaf t) h = h
over_number n m (area_leaf a b c) h = h
over_number n m (pythagoras_leaf a b c) h = h
over_number n m (ratio_leaf a b c d) h = absurd h
over_number n m (negation e) h = over_number n m e h
over_number n m (addition e f) h = (over_number n m e h.0, over_number n m f h.1)
over_number n m (subtraction e f) h = (over_number n m e h.0, over_number n m f h.1)
over_number n m (multiplication e f) h = (over_number n m e h.0, over_number n m f h.1)
over_number n m (division e f) h = (over_number n m e h.0, over_number n m f h.1)

-- an expression without ratios is a step's number
pub number_expression : (n m : ℕ) (e : Tree) → IsExpression n m false e → IsStepNumber n m e
number_expression n m (integer_leaf z) h = tt
number_expression n m (parameter_leaf t) h = h
number_expression n m (area_leaf a b c) h = h
number_expression n m (pythagoras_leaf a b c) h = h
number_expression n m (ratio_leaf a b c d) h = true≢false (sym h.0)
number_expression n m (negation e) h = number_expression n m e h
number_expression n m (addition e f) h = (number_expression n m e h.0, number_expression n m f h.1)
number_expression n m (subtraction e f) h = (number_expression n m e h.0, number_expression n m f h.1)
number_expression n m (multiplication e f) h = (number_expression n m e h.0, number_expression n m f h.1)
number_expression n m (division e f) h = (number_expression n m e h.0, number_expression n m f h.1)

-- after the renaming it is one over the images
pub number_renamed : (l : Layout) (x q n m : ℕ) → ((a : ℕ) → a < x → l.point a < n) → ((t : ℕ) → t < q → l.param t < m) → (e : Tree) → IsStepNumber x q e → IsStepNumber n m (renamed l e)
number_renamed l x q n m p r (integer_leaf z) h = tt
number_renamed l x q n m p r (parameter_leaf t) h = r t.0 h
number_renamed l x q n m p r (area_leaf a b c) h = (p a.0 h.0, p b.0 h.1, p c.0 h.2)
number_renamed l x q n m p r (pythagoras_leaf a b c) h = (p a.0 h.0, p b.0 h.1, p c.0 h.2)
number_renamed l x q n m p r (ratio_leaf a b c d) h = h
number_renamed l x q n m p r (negation e) h = number_renamed l x q n m p r e h
number_renamed l x q n m p r (addition e f) h = (number_renamed l x q n m p r e h.0, number_renamed l x q n m p r f h.1)
number_renamed l x q n m p r (subtraction e f) h = (number_renamed l x q n m p r e h.0, number_renamed l x q n m p r f h.1)
number_renamed l x q n m p r (multiplication e f) h = (number_renamed l x q n m p r e h.0, number_renamed l x q n m p r f h.1)
number_renamed l x q n m p r (division e f) h = (number_renamed l x q n m p r e h.0, number_renamed l x q n m p r f h.1)

-- the placements have the same points below n and the same numbers below m
pub record AgreeBelow (n m : ℕ) (p p' : Placement) : Type 0 where
  pub points : (k : ℕ) → k < n → SamePoint (p.point k) (p'.point k)
  pub numbers : (k : ℕ) → k < m → Same (p.number k) (p'.number k)

-- then a term over these has the same value
pub value-same : (n m : ℕ) (p p' : Placement) → AgreeBelow n m p p' → (e : Tree) → IsOver n m e → HasTreeValue p e → HasTreeValue p' e × Same (tree_value p e) (tree_value p' e)
value-same n m p p' g (integer_leaf z) b d = (tt, fractions.same_refl _)
value-same n m p p' g (parameter_leaf t) b d = (tt, g.numbers t.0 b)
value-same n m p p' g (area_leaf i j k) b d = (tt, signed_area-same _ _ _ _ _ _ (g.points i.0 b.0) (g.points j.0 b.1) (g.points k.0 b.2))
value-same n m p p' g (pythagoras_leaf i j k) b d = (tt, pythagoras_difference-same _ _ _ _ _ _ (g.points i.0 b.0) (g.points j.0 b.1) (g.points k.0 b.2))
value-same n m p p' g (ratio_leaf i j k l) b d = (
  HasRatio-same _ _ _ _ _ _ _ _ (g.points i.0 b.0) (g.points j.0 b.1) (g.points k.0 b.2) (g.points l.0 b.3) d,
  ratio-same _ _ _ _ _ _ _ _ (g.points i.0 b.0) (g.points j.0 b.1) (g.points k.0 b.2) (g.points l.0 b.3) d,
)
value-same n m p p' g (negation e) b d = let h = value-same n m p p' g e b d in (h.0, F.negated-same _ _ h.1)
value-same n m p p' g (addition e f) b d =
    let h = value-same n m p p' g e b.0 d.0 in let k = value-same n m p p' g f b.1 d.1 in ((h.0, k.0), F.plus-same _ _ _ _ h.1 k.1)
value-same n m p p' g (subtraction e f) b d =
    let h = value-same n m p p' g e b.0 d.0 in let k = value-same n m p p' g f b.1 d.1 in ((h.0, k.0), minus-same _ _ _ _ h.1 k.1)
value-same n m p p' g (multiplication e f) b d =
    let h = value-same n m p p' g e b.0 d.0 in let k = value-same n m p p' g f b.1 d.1 in ((h.0, k.0), F.times-same _ _ _ _ h.1 k.1)
value-same n m p p' g (division e f) b d =
    let h = value-same n m p p' g e b.0 d.0 in let k = value-same n m p p' g f b.1 d.1 in
    let q = quotient-same (tree_value p e) (tree_value p f) (tree_value p' e) (tree_value p' f) d.2 h.1 k.1 in
    ((h.0, k.0, q.0), q.1)
