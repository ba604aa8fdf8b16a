-- The parts of the prover's log over the lemma table, in either frame: how each begins, and what it is whole.
use Rattle.std.specs.Prelude.{◌≡◌, ℕ, List, [], ◌++◌, length, map}
use Rattle.geo_conditions.specs.declared.items.Item.{Item as ListedItem}
use Rattle.geo_poly.specs.declared.variables.Var.{Var}
use Rattle.geo_poly.specs.Polynomials.{Summands}
use Rattle.geo_terms.specs.Constructions.{Construction}
use Rattle.geo_terms.specs.Stores.{Store, tree_of}
use Rattle.geo_terms.specs.TermBounds.{IsTermBelow}
use Rattle.geo_terms.specs.Trees.{Tree}
use Rattle.proof_log.specs.declared.log.Line.{Line}
use Rattle.proof_log.specs.declared.log.Verdict.{Verdict}
use Rattle.geo_logs.specs.Chains.{ChainStep, line_of}
use Rattle.geo_logs.specs.Ends.{comes, text_length}
use Rattle.geo_logs.specs.Logs.{AreConditionsWorked, AreGoalsWorked, IsConcluded, IsLog, Item, Subject}
use Rattle.geo_logs.specs.Places.{AreConditionsBegun, AreGoalsBegun, IsBegun, IsBegunChain, IsBegunEnd, Place, in_chain}
use Rattle.geo_chain.specs.declared.frame.Frame.{Frame}
use Rattle.geo_chain.specs.declared.size.Size.{Size}
use Rattle.geo_chain.specs.InFrame.{IsNextIn, chosen_in, leads_in, works_in}
use Rattle.geo_chain.specs.Sizes.{Fits, IsTakable, with_text}

-- PARTS
-- the lines that begin a part of a log, each list with the place after it; and those that are all of it and of the log, with the verdict
-- and the steps that are left
pub record Part : Type 1 where
  pub begun : List Line → Place → Type 0
  pub whole : List Line → Verdict → ℕ → Type 0

-- nothing yet, at this place
abbrev pub here_part : Place → Part
here_part here = record { begun = λ lines place. (lines ≡ []) × (place ≡ here); whole = λ lines verdict left. ⊥ }

-- some steps lead from the polynomial to another, and these are their lines
pub record IsBegunSteps (frame : Frame) (c : Construction) (known : List Var) (left : ℕ) (q : Summands) (lines : List Line)
    (place : Place) : Type 0 where
  pub steps : List ChainStep
  pub after : ℕ
  pub last : Summands
  pub leads : leads_in frame c known left q steps after last
  pub split : lines ≡ map line_of steps
  pub stands : place ≡ in_chain known after last

-- the steps of a chain after a polynomial
abbrev pub steps_part : Frame → Construction → List Var → ℕ → Summands → Part
steps_part frame c known left q = record { begun = IsBegunSteps frame c known left q; whole = λ lines verdict left'. ⊥ }

-- the chain of a term, behind which something else follows
abbrev pub chain_part : Frame → Construction → Line → List Var → ℕ → Tree → Part
chain_part frame c header known left e = record {
  begun = IsBegunChain (leads_in frame c) (works_in frame c) (chosen_in frame c) header known left e;
  whole = λ lines verdict left'. ⊥;
}

-- the sample and the verdict
abbrev pub end_part : Frame → Construction → List Summands → Verdict → ℕ → Part
end_part frame c listed verdict left = record {
  begun = IsBegunEnd (leads_in frame c) (works_in frame c) (chosen_in frame c) listed verdict left;
  whole = λ lines other left'.
      (other ≡ verdict) × IsConcluded (works_in frame c) (chosen_in frame c) listed left lines verdict left';
}

-- the goals from number k on, and what follows
abbrev pub goals_part : Frame → Construction → List Var → List Summands → ℕ → ℕ → List Item → Part
goals_part frame c known listed k left items = record {
  begun = AreGoalsBegun (leads_in frame c) (works_in frame c) (chosen_in frame c) known listed k left items;
  whole = AreGoalsWorked (works_in frame c) (chosen_in frame c) known listed k left items;
}

-- the conditions from number k on, and what follows
abbrev pub conditions_part : Frame → Construction → List Item → List Var → List Summands → ℕ → ℕ → List Item → Part
conditions_part frame c goals known listed k left items = record {
  begun = AreConditionsBegun (leads_in frame c) (works_in frame c) (chosen_in frame c) goals known listed k left items;
  whole = AreConditionsWorked (works_in frame c) (chosen_in frame c) goals known listed k left items;
}

-- the log
abbrev pub log_part : Frame → Subject → ℕ → Part
log_part frame subject steps =
    let c = subject.construction in
    record {
      begun = IsBegun (leads_in frame c) (works_in frame c) (chosen_in frame c) subject steps;
      whole = IsLog (works_in frame c) (chosen_in frame c) subject steps;
    }

-- behind these lines a part goes on as another
pub record Continues (part next : Part) (lines : List Line) : Type 0 where
  pub begun : (more : List Line) (place : Place) → next.begun more place → part.begun (lines ++ more) place
  pub whole : (more : List Line) (verdict : Verdict) (left : ℕ) → next.whole more verdict left → part.whole (lines ++ more) verdict left

-- each line that comes next in the part may be written, where the text before it is within the limit
abbrev pub CanWrite : Frame → Construction → Part → Size → Type 0
CanWrite frame c part size =
    (lines : List Line) (place : Place) (line : Line) → part.begun lines place → IsNextIn frame c place (comes line)
    → Fits (with_text size (text_length lines))
    → IsTakable size line

-- ITEMS
-- a listed item as a log takes it
abbrev pub item_of : Store → ListedItem → Item
item_of nodes item = record { text = item.text; term = tree_of nodes item.term }

-- listed items as a log takes them
abbrev pub items_of : Store → List ListedItem → List Item
items_of nodes items = map (item_of nodes) items

-- the term names points and parameters of the construction
abbrev pub IsInside : Construction → Tree → Type 0
IsInside c e = IsTermBelow (length c.steps) c.params e
