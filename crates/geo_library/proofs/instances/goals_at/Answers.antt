use Rattle.std.proofs.Common.{◌≤◌, List, sym, ◌∙◌, subst}
use Rattle.std.specs.List.{AllByRecursion}
use Rattle.geo_program.specs.declared.commands.Command.{Command}
use Rattle.geo_program.specs.Forms.{IsStored}
use Rattle.geo_program.specs.Programs.{source_of}
use Rattle.geo_program.proofs.Propositions.{program_well_formed}
use Rattle.geo_terms.specs.Constructions.{Construction}
use Rattle.geo_lowering.specs.Counting.{points_named}
use Rattle.geo_lowering.specs.declared.version.Version.TheVariants.{Two}
use Rattle.geo_conditions.specs.Inner.ItemTerms.{Keeps}
use Rattle.geo_conditions.proofs.ListedItems.{few_named}
use Rattle.geo_conditions.proofs.StillLowered.{still_lowered}
use Rattle.geo_library.specs.Inner.Naming.{renaming_form}
use Rattle.geo_library.proofs.PrintedImages.{all_stored}
use Rattle.geo_library.proofs.WorkedCases.{asked_there}
use Rattle.geo_library.proofs.instances.goals_at.Goals as goal

pub image_goals-requires-clause-stored : goal.image_goals-requires-clause-stored
image_goals-requires-clause-stored c =
    let p = source_of c.args.theorem.now in
    subst (λ (cs : List Command). AllByRecursion (IsStored p.nodes) cs) (sym c.as_slice-commands.ensures) (all_stored p (program_well_formed c.args.theorem.now))

pub image_goals-requires-clause-few : goal.image_goals-requires-clause-few
image_goals-requires-clause-few c =
    let p = source_of c.args.theorem.now in
    subst (λ (cs : List Command). points_named cs ≤ 512) (sym c.as_slice-commands.ensures) (few_named p (program_well_formed c.args.theorem.now))

pub returns-clause-lowered : goal.returns-clause-lowered
returns-clause-lowered c = λ q form same low.
    let new = c.image_goals.new.steps in
    still_lowered Two q form new low (subst (λ (old : Construction). Keeps old new) (sym same) c.in_ok-asked.ensures.keeps) c.count.ensures.valid

pub returns-clause-goals : goal.returns-clause-goals
returns-clause-goals c = λ q form texts wq low x y ren.
    let images = c.in_ok-images.images in
    asked_there (source_of c.args.theorem.now) q texts (renaming_form c.args.renaming.now) (program_well_formed c.args.theorem.now) wq ren form low
    c.as_slice-points.result.now c.as_slice-params.result.now (x ∙ sym (c.as_slice-points.ensures.value ∙ c.points.view_is)) (y ∙ sym (c.as_slice-params.ensures.value ∙ c.params.view_is))
    images.points.items images.params.items c.in_ok-images.ensures.points c.in_ok-images.ensures.params
    c.as_slice-commands.result.now c.as_slice-commands.ensures c.image_goals.new.steps.nodes c.in_ok-asked.asked.items c.in_ok-asked.ensures.goals
