-- What a citation asks, one thing after another: lines and steps are counted on behind the log, up to the first thing that is not so.
use Rattle.std.specs.Prelude.{◌≡◌, ◌≢◌, ℕ, suc, ◌+◌, ◌⊎◌, Contains, List, [], ◌∷◌, length}
use Rattle.geo_terms.specs.Trees.{Tree}
use Rattle.geo_program.specs.WellFormed.{Source}
use Rattle.geo_lowering.specs.Lowering.{layout_of, renamed}
use Rattle.geo_lowering.specs.declared.version.Version.TheVariants.{Two}
use Rattle.elim_apply.specs.LemmaTable.{lemma_table}
use Rattle.proof_log.specs.declared.log.Line.{Line}
use Rattle.proof_log.specs.declared.log.Line.TheVariants.{Goal}
use Rattle.geo_logs.specs.Chains.{Chain, chain_lines}
use Rattle.geo_logs.specs.Defined.{IsDefinedChain, LeadsBySteps}
use Rattle.geo_logs.specs.Ends.{IsNext, stops}
use Rattle.geo_logs.specs.Moves.{Stop}
use Rattle.geo_logs.specs.Places.{IsBegunChain, Place}
use Rattle.geo_logs.specs.Samples.{IsLeastSample}
use Rattle.geo_library.specs.Figures.{Figure, IsFigureChain}
use Rattle.geo_library.specs.Instances.{Asked, AskedAt, asks_condition, asks_goal, asks_statement, condition_texts, statement_text}

-- how far a citation has come: so many lines are counted, and so many steps are left
pub record Progress : Type 0 where
  pub lines : ℕ
  pub left : ℕ

-- the header of a chain. It is counted and not written, so its text means nothing
abbrev pub counted_header : Line
counted_header = Goal 0 []

-- the lines of the chain of a term
abbrev pub counted_lines : Source → Tree → Chain → ℕ
counted_lines q e chain = length (chain_lines counted_header (renamed (layout_of Two q.commands) e) chain)

-- ONE THING
-- it is so
abbrev pub IsPassed : Source → Figure → Progress → Asked → Progress → Type 0
IsPassed q figure now (asks_condition text) then = Contains (condition_texts q) text × (then ≡ now)
IsPassed q figure now (asks_goal e) then =
    (chain : Chain) × IsFigureChain q figure now.left e chain then.left × (chain.end ≡ [])
    × (then.lines ≡ now.lines + counted_lines q e chain)
IsPassed q figure now (asks_statement text) then = (text ≡ statement_text q) × (then ≡ now)

-- it is not
abbrev pub IsFailed : Source → Figure → Progress → Asked → Type 0
IsFailed q figure now (asks_condition text) = Contains (condition_texts q) text → ⊥
IsFailed q figure now (asks_goal e) = (chain : Chain) × (after : ℕ) × IsFigureChain q figure now.left e chain after × (chain.end ≢ [])
IsFailed q figure now (asks_statement text) = text ≢ statement_text q

-- the lines begin a chain of the term, and this stop comes next
pub record IsChainStopped (q : Source) (figure : Figure) (left : ℕ) (e : Tree) (lines : List Line) (stop : Stop) : Type 0 where
  pub place : Place
  pub begun : let c = figure.construction in
      IsBegunChain (LeadsBySteps lemma_table c) (IsDefinedChain lemma_table c) (IsLeastSample c) counted_header figure.known left
      (renamed (layout_of Two q.commands) e) lines place
  pub next : IsNext lemma_table figure.construction place (stops stop)

-- a stop is due at the line of this number
abbrev pub IsStoppedAt : Source → Figure → Progress → Asked → ℕ → Stop → Type 0
IsStoppedAt q figure now (asks_condition text) number stop = ⊥
IsStoppedAt q figure now (asks_goal e) number stop =
    (lines : List Line) × IsChainStopped q figure now.left e lines stop × (number ≡ suc (now.lines + length lines))
IsStoppedAt q figure now (asks_statement text) number stop = ⊥

-- ONE AFTER ANOTHER
-- all of them are so
abbrev pub ArePassed : Source → Figure → Progress → List AskedAt → Progress → Type 0
ArePassed q figure now [] then = then ≡ now
ArePassed q figure now (a ∷ more) then = (next : Progress) × IsPassed q figure now a.asked next × ArePassed q figure next more then

-- why not: what the line of this number asks is not so, or a stop is due at a line of a chain
pub data Miss : Type 0 where
  no_instance : ℕ → Miss
  stopped_at : ℕ → Stop → Miss

-- this is the first of them that is not so
abbrev pub IsFirstMiss : Source → Figure → Progress → List AskedAt → Miss → Type 0
IsFirstMiss q figure now [] miss = ⊥
IsFirstMiss q figure now (a ∷ more) miss =
    (IsFailed q figure now a.asked × (miss ≡ no_instance a.line))
    ⊎ (((number : ℕ) × (stop : Stop) × IsStoppedAt q figure now a.asked number stop × (miss ≡ stopped_at number stop))
    ⊎ ((next : Progress) × IsPassed q figure now a.asked next × IsFirstMiss q figure next more miss))
