use Rattle.std.proofs.Common.{◌≡◌, ◌<◌, ◌≤◌, ◌+◌, ℕ, List, ◌∷◌, length, map, drop, slice_index_or, sym, ◌∙◌, ap, subst}
use Rattle.std.proofs.lemmas.List.{drop_more}
use Rattle.geo_terms.specs.declared.steps.Step.{Step}
use Rattle.geo_program.specs.declared.commands.Command.{Command}
use Rattle.geo_program.specs.declared.commands.Command.TheVariants.{Point}
use Rattle.geo_program.specs.Programs.{source_of}
use Rattle.geo_program.specs.WellFormed.{Source}
use Rattle.geo_program.proofs.Propositions.{program_well_formed}
use Rattle.geo_lowering.specs.Inner.Growing.{HasMore}
use Rattle.geo_lowering.specs.Lowering.{Layout, command_steps}
use Rattle.geo_lowering.specs.Parts.{layout_at}
use Rattle.geo_lowering.specs.StepForms.{step_form}
use Rattle.geo_lowering.specs.Inner.StepLists.{AreStepsFrom, HaveForms}
use Rattle.geo_lowering.proofs.Begun.{IsBegun, begun_first, begun_next, kept_fractions, kept_renamed, number_below, pushes_steps, pushes_within}
use Rattle.geo_lowering.proofs.Small.{program_numbers, program_points}
use Rattle.geo_lowering.proofs.lowering.push_commands.Goals as goal
use Rattle.geo_lowering.proofs.lowering.push_commands.Goals.{In_ok-list}

pub loop-command-init : goal.loop-command-init
loop-command-init c =
    begun_first c.args.version (source_of c.args.program.now) (layout_at c.args.places.now) c.args.steps.now c.args.terms.now c.args.fractions
    (program_well_formed c.args.program.now) (program_points c.args.version c.args.program.now) c.requires.places c.requires.empty c.requires.params c.requires.terms c.requires.fractions

pub number_of-requires : goal.number_of-requires
number_of-requires c =
    let p = source_of c.args.program.now in
    number_below c.args.version p (layout_at c.args.places.now) c.loop-command.steps c.args.terms.now c.args.fractions
    (drop c.loop-command.command-index p.commands) c.loop-command.invariant (program_numbers c.args.program.now)

-- A command and the steps before it, with its number, where its own steps are listed.
module _ (c : In_ok-list) where
  abbrev p : Source
  p = source_of c.args.program.now

  abbrev l : Layout
  l = layout_at c.args.places.now

  abbrev k : Command
  k = slice_index_or c.as_slice-command-items.result.now c.loop-command.command-index Point

  abbrev rest : List Command
  rest = drop (c.loop-command.command-index + 1) p.commands

  begun : IsBegun c.args.version p l c.loop-command.steps c.args.terms.now c.args.fractions (k ∷ rest)
  begun =
      let i = c.loop-command.command-index in
      let same : c.as_slice-command-items.result.now ≡ p.commands = c.as_slice-command-items.ensures in
      let within : i < length p.commands = subst (λ (cs : List Command). i < length cs) same c.loop-command-test.true in
      let split : drop i p.commands ≡ k ∷ rest = drop_more p.commands i Point within ∙ ap (λ (cs : List Command). slice_index_or cs i Point ∷ rest) (sym same) in
      subst (λ cs. IsBegun c.args.version p l c.loop-command.steps c.args.terms.now c.args.fractions cs) split c.loop-command.invariant

  forms : HaveForms c.number_of.new.steps.nodes (command_steps c.args.version l p.nodes (length c.loop-command.steps.steps) c.loop-command.steps.params k) c.in_ok-list.list.items
  forms =
      let old = c.loop-command.steps in
      let mid = c.number_of.new.steps in
      let kept = c.in_ok-number.ensures.keeps in
      let number = c.in_ok-number.ensures.term p.nodes begun.renamed c.requires.count begun.stored.0 begun.fractions.one in
      let second = c.second_number-second.ensures l p.nodes mid.nodes
      (kept_renamed old mid kept l p.nodes c.args.terms.now begun.renamed) c.requires.count begun.stored.0
      (kept_fractions old mid kept c.args.fractions begun.fractions).one in
      subst (λ (n : ℕ). HaveForms mid.nodes (command_steps c.args.version l p.nodes n old.params k) c.in_ok-list.list.items) c.count-next.ensures.count
      (c.in_ok-list.ensures mid.nodes p.nodes old.params (kept_fractions old mid kept c.args.fractions begun.fractions) number second)

pub push_steps-requires-clause-steps : goal.push_steps-requires-clause-steps
push_steps-requires-clause-steps c =
    let at = (goal.at.push_steps-requires-clause-steps c).In_ok-list in
    let mid = c.number_of.new.steps in
    subst (λ (steps : List Step). AreStepsFrom mid.nodes (length mid.steps) mid.params steps) (sym c.deref.ensures.value)
    (pushes_steps c.args.version (p at) (l at) c.args.terms.now c.args.fractions (k at) (rest at) c.loop-command.steps (begun at) mid c.in_ok-number.ensures.keeps
    c.in_ok-number.ensures.params c.in_ok-list.list.items (forms at))

pub push_steps-requires-clause-room : goal.push_steps-requires-clause-room
push_steps-requires-clause-room c =
    let at = (goal.at.push_steps-requires-clause-room c).In_ok-list in
    let mid = c.number_of.new.steps in
    subst (λ (steps : List Step). length mid.steps + length steps ≤ 512) (sym c.deref.ensures.value)
    (pushes_within c.args.version (p at) (l at) c.args.terms.now c.args.fractions (k at) (rest at) c.loop-command.steps (begun at) mid c.in_ok-number.ensures.keeps
    c.in_ok-number.ensures.params c.in_ok-list.list.items (forms at))

pub loop-command-preserved : goal.loop-command-preserved
loop-command-preserved c =
    let at = (goal.at.loop-command-preserved c).In_ok-list in
    let mid = c.number_of.new.steps in
    let new = c.push_steps.new.steps in
    let more : HasMore mid new (map (step_form mid.nodes) c.in_ok-list.list.items) =
    subst (λ (steps : List Step). HasMore mid new (map (step_form mid.nodes) steps)) c.deref.ensures.value c.in_ok-push_steps.ensures in
    begun_next c.args.version (p at) (l at) c.args.terms.now c.args.fractions (k at) (rest at) c.loop-command.steps (begun at) mid c.in_ok-number.ensures.keeps
    c.in_ok-number.ensures.params c.in_ok-list.list.items (forms at) c.count-next.ensures.valid new more
