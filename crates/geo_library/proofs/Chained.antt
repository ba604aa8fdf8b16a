-- Chains that end in 0 show that terms are 0; so accepted logs cite.
use Rattle.std.proofs.Common.{◌≡◌, All, ℕ, List, [], ◌∷◌, subst}
use Rattle.std.specs.List.{AllByRecursion}
use Rattle.std.proofs.lemmas.List.Elements.{All-from_recursion, recursion_from_All}
use Rattle.geo_terms.specs.Constructions.{Construction, IsConstruction}
use Rattle.geo_terms.specs.Trees.{Tree}
use Rattle.geo_program.specs.WellFormed.{Source}
use Rattle.geo_lowering.specs.Lowering.{IsLowered, LoweredForm, layout_of, renamed}
use Rattle.geo_lowering.specs.declared.version.Version.TheVariants.{Two}
use Rattle.elim_apply.specs.LemmaTable.{lemma_table}
use Rattle.elim_apply.proofs.MoveRows.{lemma_table_sound}
use Rattle.geo_logs.specs.Defined.{IsDefinedChain}
use Rattle.geo_logs.proofs.AcceptedChains.{ended_in_zero}
use Rattle.geo_logs.proofs.AcceptedProvers.{chain_accepted}
use Rattle.geo_logs.proofs.TermVariables.{term_sound}
use Rattle.proof_log.specs.declared.log.Verdict.TheVariants.{Proved}
use Rattle.log_checker.proofs.AcceptedBytes.{accepted_bytes_mean}
use Rattle.geo_library.specs.Citations.{IsCitation, behind_log}
use Rattle.geo_library.specs.Cites.{AcceptedLogsCite, CitationsHold}
use Rattle.geo_library.specs.Figures.{Figure, HasZeroChain, IsFigureOf}
use Rattle.geo_library.specs.Instances.{Asked, AskedAt, IsGranted, IsInstance, all_asked, asks_condition, asks_goal, asks_statement}
use Rattle.geo_library.specs.Laws.{IsZeroOver}
use Rattle.geo_library.specs.Renamings.{given_names}
use Rattle.geo_library.specs.Working.{ArePassed, IsPassed, Progress}
use Rattle.geo_library.proofs.Cited.{zero_goals_cite}

-- a term with a chain that ends in 0 is 0
zero_over : (q : Source) (figure : Figure) (f : IsFigureOf q figure) (e : Tree) → HasZeroChain q figure e → IsZeroOver Two q f.form e
zero_over q figure f e h lowered met has =
    let c = f.form.construction in
    let term = renamed (layout_of Two q.commands) e in
    let works = subst (λ (c : Construction). IsDefinedChain lemma_table c figure.known h.left term h.chain h.after) f.same_construction h.works in
    ended_in_zero lemma_table c (lemma_table_sound c f.lowered.valid) figure.known h.left term h.chain h.after
    (chain_accepted lemma_table c figure.known h.left term h.chain h.after works) (term_sound c term) h.zero lowered met has

-- what is shown by chains is 0, so an instance by chains is one by zeros
weaker : (S T : Tree → Type 0) (q : Source) → ((e : Tree) → S e → T e) → (a : Asked) → IsGranted S q a → IsGranted T q a
weaker S T q f (asks_condition text) h = h
weaker S T q f (asks_goal e) h = f e h
weaker S T q f (asks_statement text) h = h

all_weaker : (S T : Tree → Type 0) (q : Source) → ((e : Tree) → S e → T e) → (asked : List AskedAt)
    → AllByRecursion (λ a. IsGranted S q a.asked) asked → AllByRecursion (λ a. IsGranted T q a.asked) asked
all_weaker S T q f [] h = tt
all_weaker S T q f (a ∷ asked) h = (weaker S T q f a.asked h.0, all_weaker S T q f asked h.1)

instance_weaker : (S T : Tree → Type 0) (p q : Source) (texts : List (List ℕ)) → ((e : Tree) → S e → T e) → IsInstance S p q texts → IsInstance T p q texts
instance_weaker S T p q texts f i = record {
  no_lines = i.no_lines;
  renaming = i.renaming;
  renames = i.renames;
  answered = let asked = all_asked (given_names p.names texts) i.renaming p in
      All-from_recursion (λ (a : AskedAt). IsGranted T q a.asked) asked (all_weaker S T q f asked (recursion_from_All (λ (a : AskedAt). IsGranted S q a.asked) asked i.answered));
}

pub accepted_logs_cite : AcceptedLogsCite
accepted_logs_cite bytes steps p q figure texts a wq f i =
    zero_goals_cite Two p q f.form texts a.accepted.well_formed wq f.lowered (accepted_bytes_mean bytes steps p Proved a).0.holds
    (instance_weaker (HasZeroChain q figure) (IsZeroOver Two q f.form) p q texts (zero_over q figure f) i)

-- what is passed one after another is answered by chains
passed : (q : Source) (figure : Figure) (now then : Progress) (a : Asked) → IsPassed q figure now a then → IsGranted (HasZeroChain q figure) q a
passed q figure now then (asks_condition text) h = h.0
passed q figure now then (asks_goal e) h = record { left = now.left; chain = h.0; after = then.left; works = h.1; zero = h.2 }
passed q figure now then (asks_statement text) h = h.0

all_passed : (q : Source) (figure : Figure) (now then : Progress) (asked : List AskedAt) → ArePassed q figure now asked then → AllByRecursion (λ a. IsGranted (HasZeroChain q figure) q a.asked) asked
all_passed q figure now then [] h = tt
all_passed q figure now then (a ∷ asked) h = (passed q figure now h.0 a.asked h.1, all_passed q figure h.0 then asked h.2)

pub citations_hold : CitationsHold
citations_hold bytes steps text c =
    let h = c.parts in
    let p = h.theorem.program in let q = h.case.program in
    let asked = all_asked (given_names p.names h.case.texts) h.renaming p in
    accepted_logs_cite h.theorem.log steps p q h.figure h.case.texts h.theorem.accepts h.case.spelt.well_formed h.drawn
    (record {
      no_lines = h.no_lines;
      renaming = h.renaming;
      renames = h.renames;
      answered = All-from_recursion (λ (a : AskedAt). IsGranted (HasZeroChain q h.figure) q a.asked) asked (all_passed q h.figure (behind_log h.theorem) c.end asked c.passed);
    })
