-- A walk stands at a place until it is over: where the header or the start of a chain is due, the subject has its condition or goal.
use Rattle.std.proofs.Common.{◌≡◌, ℕ, zero, suc, ◌-◌, ◌⊎◌, inl, inr, Option, Some, None, List, [], ◌∷◌, length, refl, sym, subst, arith}
use Rattle.std.specs.Prelude.{slice_get}
use Rattle.geo_poly.specs.declared.variables.Var.{Var}
use Rattle.geo_poly.specs.Polynomials.{Summands}
use Rattle.proof_log.specs.Steps.{polynomial_on}
use Rattle.proof_log.specs.declared.log.Line.{Line}
use Rattle.proof_log.specs.declared.log.Line.TheVariants.{Verdict as VerdictLine}
use Rattle.proof_log.specs.declared.log.Verdict.{Verdict}
use Rattle.geo_logs.specs.Behind.{behind_chain, behind_due, behind_start, behind_step, condition_due, goal_due}
use Rattle.geo_logs.specs.Logs.{Item, Subject}
use Rattle.geo_logs.specs.Places.{Place, before_line, before_sample, before_start, in_chain}
use Rattle.geo_logs.specs.WalkLaws.{StandsOrIsOver}
use Rattle.geo_logs.specs.Walks.{Rules, StandsWhere, Walks, first_walk, header_of, item_of}
use Rattle.geo_logs.specs.declared.walk.DueLine.{DueLine}
use Rattle.geo_logs.specs.declared.walk.DueLine.TheVariants as due
use Rattle.geo_logs.specs.declared.walk.Task.{Task}
use Rattle.geo_logs.specs.declared.walk.Task.TheVariants as task
use Rattle.geo_logs.specs.declared.walk.Walk.{Walk}
use Rattle.geo_logs.proofs.WalkPlaces.{IsCounted, counted_due}

item_at : (items : List Item) (i n : ℕ) → length items - i ≡ suc n → (item : Item) × (slice_get items i ≡ Some item)
item_at [] i n e = absurd (omega (arith, e))
item_at (x ∷ items) zero n e = (x, refl)
item_at (x ∷ items) (suc i) n e = item_at items i n (omega (arith, e))

module _ (subject : Subject) where
  -- the subject has the condition or goal of the chain that is due
  abbrev pub HasItem : DueLine → Type 0
  HasItem (due.Header t) = (item : Item) × (item_of subject t ≡ Some item)
  HasItem (due.Start t) = (item : Item) × (item_of subject t ≡ Some item)
  HasItem _ = Unit {0}

  has_goal : (k n : ℕ) → length subject.goals - k ≡ n → HasItem (goal_due k n)
  has_goal k zero e = tt
  has_goal k (suc n) e = item_at subject.goals k n e

  has_condition : (k n : ℕ) → length subject.conditions - k ≡ n → HasItem (condition_due (length subject.goals) k n)
  has_condition k zero e = has_goal 0 (length subject.goals) (omega arith)
  has_condition k (suc n) e = item_at subject.conditions k n e

  has_chain : (w : Walk) (t : Task) (own : Option Var) (q : Summands) → IsCounted subject w → HasItem (behind_chain w t own q).due
  has_chain w (task.Condition k) own [] h = tt
  has_chain w (task.Condition k) own (x ∷ q) h =
      subst (λ (n : ℕ). HasItem (condition_due w.goals k (n - k))) (sym h.conditions)
      (subst (λ (n : ℕ). HasItem (condition_due n k (length subject.conditions - k))) (sym h.goals)
      (has_condition k (length subject.conditions - k) refl))
  has_chain w (task.Goal k) own [] h =
      subst (λ (n : ℕ). HasItem (goal_due k (n - k))) (sym h.goals) (has_goal k (length subject.goals - k) refl)
  has_chain w (task.Goal k) own (x ∷ q) h = tt

  has_start : (w : Walk) (t : Task) (o : Option Summands) → HasItem w.due → HasItem (behind_start w t o).due
  has_start w t (Some q) h = tt
  has_start w t None h = h

  has_step : (w : Walk) (t : Task) (own : Option Var) (q : Summands) (o : Option Summands) → IsCounted subject w
      → HasItem (behind_step w t own q o).due
  has_step w t own q (Some r) counted = tt
  has_step w t own q None counted = has_chain w t own q counted

  has_behind : (w : Walk) (d : DueLine) (line : Line) → IsCounted subject w → HasItem w.due → HasItem d → HasItem (behind_due w d line).due
  has_behind w (due.Header t) line counted here h = h
  has_behind w (due.Start t) line counted here h = has_start w t (polynomial_on line) here
  has_behind w (due.Step t own q) line counted here h = has_step w t own q (polynomial_on line) counted
  has_behind w (due.Sample v) line counted here h = tt
  has_behind w (due.Verdict v) line counted here h = tt
  has_behind w (due.Nothing v) line counted here h = here

  stands_where : (w : Walk) (d : DueLine) → HasItem d
      → ((place : Place) × StandsWhere subject w d place) ⊎ ((verdict : Verdict) × (d ≡ due.Nothing verdict))
  stands_where w (due.Header t) (item, is) = inl (before_line (header_of t item), (item, is, refl))
  stands_where w (due.Start t) (item, is) = inl (before_start w.budget.left item.term, (item, is, refl))
  stands_where w (due.Step t own q) h = inl (in_chain w.known w.budget.left q, refl)
  stands_where w (due.Sample v) h = inl (before_sample w.ends w.budget.left, refl)
  stands_where w (due.Verdict v) h = inl (before_line (VerdictLine v), refl)
  stands_where w (due.Nothing v) h = inr (v, refl)

  module _ (rules : Rules) where
    has_item : (w last : Walk) (lines : List Line) → IsCounted subject w → HasItem w.due → Walks rules subject w lines last → HasItem last.due
    has_item w last [] counted h same = subst (λ (x : Walk). HasItem x.due) same h
    has_item w last (line ∷ lines) counted h (v, goes, walks) =
        let at : Walk = record w { budget = record { left = goes.left } } in
        let counts : IsCounted subject at = record { conditions = counted.conditions; goals = counted.goals } in
        let next : IsCounted subject v = subst (IsCounted subject) (sym goes.stands) (counted_due subject at w.due line counts) in
        has_item v last lines next (subst (λ (x : Walk). HasItem x.due) (sym goes.stands) (has_behind at w.due line counts h h)) walks

    -- what is walked from the first place
    pub walked_item : (steps : ℕ) (lines : List Line) (w : Walk) → Walks rules subject (first_walk subject steps) lines w → HasItem w.due
    walked_item steps lines w walks =
        has_item (first_walk subject steps) w lines (record { conditions = refl; goals = refl })
        (has_condition 0 (length subject.conditions) (omega arith)) walks

    pub stands_or_over : (steps : ℕ) (lines : List Line) (w : Walk) → Walks rules subject (first_walk subject steps) lines w
        → StandsOrIsOver subject w
    stands_or_over steps lines w walks = stands_where w w.due (walked_item steps lines w walks)
