-- What each walk keeps, and what lists of items give at an index.
use Rattle.std.proofs.Common.{◌≡◌, ◌≢◌, ℕ, zero, suc, Option, Some, None, List, [], ◌∷◌, length, drop, refl, sym, ap, ◌∙◌, arith}
use Rattle.std.specs.Prelude.{slice_get}
use Rattle.geo_poly.specs.declared.variables.Var.{Var}
use Rattle.geo_poly.specs.Polynomials.{Summands}
use Rattle.proof_log.specs.Steps.{polynomial_on}
use Rattle.proof_log.specs.declared.log.Line.{Line}
use Rattle.geo_logs.specs.declared.moves.Move.TheVariants.{Ratio, Point, Coords}
use Rattle.geo_logs.specs.Behind.{behind_due, behind_start, behind_step}
use Rattle.geo_logs.specs.Chains.{ChainStep, cuts, line_of, moves}
use Rattle.geo_logs.specs.Logs.{Subject}
use Rattle.geo_logs.specs.Walks.{result_of}
use Rattle.geo_logs.specs.declared.walk.DueLine.{DueLine}
use Rattle.geo_logs.specs.declared.walk.DueLine.TheVariants as due
use Rattle.geo_logs.specs.declared.walk.Task.{Task}
use Rattle.geo_logs.specs.declared.walk.Task.TheVariants as task
use Rattle.geo_logs.specs.declared.walk.Walk.{Walk}

-- LISTS
module _ {A : Type 0} where
  first : (x y : A) (xs : List A) → slice_get (x ∷ xs) 0 ≡ Some y → x ≡ y
  first x y xs e = let q : ◌≡◌ {A = Option A} (Some x) (Some y) = e in cc

  pub no_item : {P : Type 0} (x : A) → ◌≡◌ {A = Option A} None (Some x) → P
  no_item x e = absurd (let q : ◌≡◌ {A = Option A} None (Some x) = e in cc)

  pub drop_item : (xs : List A) (i : ℕ) (x : A) → slice_get xs i ≡ Some x → drop i xs ≡ x ∷ drop (suc i) xs
  drop_item [] i x e = no_item x e
  drop_item (y ∷ xs) zero x e = ap (λ z. z ∷ xs) (first y x xs e)
  drop_item (y ∷ xs) (suc i) x e = drop_item xs i x e

  abbrev or_else : A → Option A → A
  or_else d (Some x) = x
  or_else d None = d

  pub one_item : (x y : A) (o : Option A) → o ≡ Some x → o ≡ Some y → x ≡ y
  one_item x y o e f = ap (λ z. or_else x z) (sym e ∙ f)

  pub some_terms : (x : A) (xs : List A) → x ∷ xs ≢ []
  some_terms x xs e = absurd (let q : ◌≡◌ {A = List A} (x ∷ xs) [] = e in cc)

  pub empty_list : (xs : List A) → length xs ≡ 0 → xs ≡ []
  empty_list [] e = refl
  empty_list (x ∷ xs) e = absurd (omega (arith, e))

-- LINES
-- the line of a step has the polynomial after it
pub line_polynomial : (step : ChainStep) → polynomial_on (line_of step) ≡ Some (result_of step)
line_polynomial (moves (Ratio v lemma at) r) = refl
line_polynomial (moves (Point at) r) = refl
line_polynomial (moves Coords r) = refl
line_polynomial (cuts f r) = refl

-- PLACES
-- the walk with so many steps left, where this is due
abbrev pub standing : Walk → ℕ → DueLine → Walk
standing w left due = record w { budget = record { left = left }; due = due }

-- COUNTS
module _ (subject : Subject) where
  -- the walk has as many conditions and goals as the subject
  pub record IsCounted (w : Walk) : Type 0 where
    pub conditions : w.conditions ≡ length subject.conditions
    pub goals : w.goals ≡ length subject.goals

  counted_start : (w : Walk) (t : Task) (o : Option Summands) → IsCounted w → IsCounted (behind_start w t o)
  counted_start w t (Some r) h = record { conditions = h.conditions; goals = h.goals }
  counted_start w t None h = h

  counted_step : (w : Walk) (t : Task) (own : Option Var) (q : Summands) (o : Option Summands) → IsCounted w
      → IsCounted (behind_step w t own q o)
  counted_step w t own q (Some r) h = record { conditions = h.conditions; goals = h.goals }
  counted_step w (task.Condition k) own [] None h = record { conditions = h.conditions; goals = h.goals }
  counted_step w (task.Condition k) own (x ∷ q) None h = record { conditions = h.conditions; goals = h.goals }
  counted_step w (task.Goal k) own [] None h = record { conditions = h.conditions; goals = h.goals }
  counted_step w (task.Goal k) own (x ∷ q) None h = record { conditions = h.conditions; goals = h.goals }

  pub counted_due : (w : Walk) (d : DueLine) (line : Line) → IsCounted w → IsCounted (behind_due w d line)
  counted_due w (due.Header t) line h = record { conditions = h.conditions; goals = h.goals }
  counted_due w (due.Start t) line h = counted_start w t (polynomial_on line) h
  counted_due w (due.Step t own q) line h = counted_step w t own q (polynomial_on line) h
  counted_due w (due.Sample v) line h = record { conditions = h.conditions; goals = h.goals }
  counted_due w (due.Verdict v) line h = record { conditions = h.conditions; goals = h.goals }
  counted_due w (due.Nothing v) line h = h
