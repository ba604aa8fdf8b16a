use Rattle.std.proofs.Common.{◌≡◌, ◌<◌, suc, List, length, map, refl, sym, ◌∙◌, subst}
use Rattle.std.specs.List.{AllByRecursion}
use Rattle.std.proofs.lemmas.Result.{IfErr-weaker}
use Rattle.geo_terms.specs.Stores.{tree_of}
use Rattle.geo_terms.specs.TermBounds.{IsTermBelow}
use Rattle.geo_program.specs.Programs.{source_of}
use Rattle.geo_program.proofs.Propositions.{program_well_formed}
use Rattle.geo_conditions.specs.Problems.{form_of_problem}
use Rattle.log_checker.proofs.PassedOn.{passed_on}
use Rattle.geo_library.specs.declared.asking.AskedGoal.{AskedGoal}
use Rattle.geo_library.specs.Inner.Asking.{AreAsked, asked_form}
use Rattle.geo_library.specs.Inner.Cases.{IsMissed, IsWorked, image_forms_from, progress_form}
use Rattle.geo_library.specs.Inner.GoalsWorked.{IsFirstGoalMiss, TellsMiss}
use Rattle.geo_library.specs.Inner.Naming.{renaming_form}
use Rattle.geo_library.specs.Instances.{statement_text}
use Rattle.geo_library.specs.Working.{no_instance}
use Rattle.geo_library.proofs.GoalsUnderWay.{miss_weaker}
use Rattle.geo_library.proofs.PrintedImages.{same_scope}
use Rattle.geo_library.proofs.WorkedCases.{another, both_told, goals_inside, items_ready, missed, under_work, worked}
use Rattle.geo_library.proofs.instances.work.Goals as goal

pub known_in-requires : goal.known_in-requires
known_in-requires c =
    let h = c.in_ok-problem.ensures in
    items_ready (source_of c.args.case.now) (form_of_problem c.in_ok-problem.problem) c.in_ok-problem.problem.conditions h.conditions

pub asked_texts-requires : goal.asked_texts-requires
asked_texts-requires c =
    same_scope (source_of c.args.theorem.now) (source_of c.args.case.now) c.args.given.now (renaming_form c.args.renaming.now) c.requires

pub work_goals-requires-clause-stored : goal.work_goals-requires-clause-stored
work_goals-requires-clause-stored c =
    let q = source_of c.args.case.now in
    let old = form_of_problem c.in_ok-problem.problem in
    let asked = c.in_ok-goals.ensures.goals q old c.requires.texts (program_well_formed c.args.case.now) c.in_ok-problem.ensures.lowered refl refl c.requires.renames in
    subst (λ (gs : List AskedGoal). AllByRecursion (λ g. g.term.0 < length c.goals_at.new.steps.nodes) gs) (sym c.deref.ensures.value) asked.stored

pub work_goals-requires-clause-inside : goal.work_goals-requires-clause-inside
work_goals-requires-clause-inside c =
    let p = source_of c.args.theorem.now in
    let q = source_of c.args.case.now in
    let r = renaming_form c.args.renaming.now in
    let old = form_of_problem c.in_ok-problem.problem in
    let new = c.goals_at.new.steps in
    let wq = program_well_formed c.args.case.now in
    let low = c.in_ok-goals.ensures.lowered q old refl c.in_ok-problem.ensures.lowered in
    let asked = c.in_ok-goals.ensures.goals q old c.requires.texts wq c.in_ok-problem.ensures.lowered refl refl c.requires.renames in
    subst (λ (gs : List AskedGoal). AllByRecursion (λ g. IsTermBelow (length new.steps) new.params (tree_of new.nodes g.term)) gs) (sym c.deref.ensures.value)
    (goals_inside p q c.args.given.now r (program_well_formed c.args.theorem.now) wq c.requires old new low c.in_ok-goals.goals.items asked)

pub returns-in_err-work_goals-clause-missed : goal.returns-in_err-work_goals-clause-missed
returns-in_err-work_goals-clause-missed c =
    let p = source_of c.args.theorem.now in
    let q = source_of c.args.case.now in
    let r = renaming_form c.args.renaming.now in
    let old = form_of_problem c.in_ok-problem.problem in
    let new = c.goals_at.new.steps in
    let given = c.args.given.now in
    let now = progress_form c.args.now in
    let vars = c.in_ok-known.known in
    let missing = c.in_ok-asked.asked.missing in
    let forms = map (asked_form new.nodes) c.deref.result.now in
    let low = c.in_ok-goals.ensures.lowered q old refl c.in_ok-problem.ensures.lowered in
    let asked = c.in_ok-goals.ensures.goals q old c.requires.texts (program_well_formed c.args.case.now) c.in_ok-problem.ensures.lowered refl refl c.requires.renames in
    let these = subst (λ (gs : List AskedGoal). AreAsked new.nodes gs (image_forms_from q r p.nodes 0 1 p.commands)) (sym c.deref.ensures.value) asked in
    let under = under_work p q given r old c.in_ok-problem.problem.conditions c.in_ok-problem.ensures.conditions new low vars c.in_ok-known.ensures missing
    c.in_ok-asked.ensures.missing c.deref.result.now these in
    passed_on c.from_residual-in_err-work_goals.result c.in_err-work_goals.field-0.0 (TellsMiss (IsMissed p q given r now)) c.from_residual-in_err-work_goals.ensures.1
    (miss_weaker (IsFirstGoalMiss new vars missing now.lines now.left forms) (IsMissed p q given r now) (missed p q given r now new vars missing forms under)
    c.in_err-work_goals.field-0.0 c.in_err-work_goals.ensures.missed)

pub returns-clause-worked : goal.returns-clause-worked
returns-clause-worked c =
    let p = source_of c.args.theorem.now in
    let q = source_of c.args.case.now in
    let r = renaming_form c.args.renaming.now in
    let old = form_of_problem c.in_ok-problem.problem in
    let new = c.goals_at.new.steps in
    let given = c.args.given.now in
    let now = progress_form c.args.now in
    let vars = c.in_ok-known.known in
    let missing = c.in_ok-asked.asked.missing in
    let statement = c.in_ok-asked.asked.statement in
    let forms = map (asked_form new.nodes) c.deref.result.now in
    let low = c.in_ok-goals.ensures.lowered q old refl c.in_ok-problem.ensures.lowered in
    let asked = c.in_ok-goals.ensures.goals q old c.requires.texts (program_well_formed c.args.case.now) c.in_ok-problem.ensures.lowered refl refl c.requires.renames in
    let these = subst (λ (gs : List AskedGoal). AreAsked new.nodes gs (image_forms_from q r p.nodes 0 1 p.commands)) (sym c.deref.ensures.value) asked in
    let under = under_work p q given r old c.in_ok-problem.problem.conditions c.in_ok-problem.ensures.conditions new low vars c.in_ok-known.ensures missing
    c.in_ok-asked.ensures.missing c.deref.result.now these in
    both_told c.cited_statement.result (statement ≡ statement_text q) (λ text. text ≡ statement_text q) (IsWorked p q given r now)
    c.cited_statement.ensures.same c.cited_statement.ensures.cited
    (λ text a b. worked p q given r now new vars missing forms under text c.in_ok-work_goals.ensures.given c.in_ok-work_goals.ensures.zero
    (sym c.in_ok-asked.ensures.statement ∙ a) b)

pub returns-clause-missed : goal.returns-clause-missed
returns-clause-missed c =
    let p = source_of c.args.theorem.now in
    let q = source_of c.args.case.now in
    let r = renaming_form c.args.renaming.now in
    let old = form_of_problem c.in_ok-problem.problem in
    let new = c.goals_at.new.steps in
    let given = c.args.given.now in
    let now = progress_form c.args.now in
    let vars = c.in_ok-known.known in
    let missing = c.in_ok-asked.asked.missing in
    let statement = c.in_ok-asked.asked.statement in
    let forms = map (asked_form new.nodes) c.deref.result.now in
    let low = c.in_ok-goals.ensures.lowered q old refl c.in_ok-problem.ensures.lowered in
    let asked = c.in_ok-goals.ensures.goals q old c.requires.texts (program_well_formed c.args.case.now) c.in_ok-problem.ensures.lowered refl refl c.requires.renames in
    let these = subst (λ (gs : List AskedGoal). AreAsked new.nodes gs (image_forms_from q r p.nodes 0 1 p.commands)) (sym c.deref.ensures.value) asked in
    let under = under_work p q given r old c.in_ok-problem.problem.conditions c.in_ok-problem.ensures.conditions new low vars c.in_ok-known.ensures missing
    c.in_ok-asked.ensures.missing c.deref.result.now these in
    IfErr-weaker c.cited_statement.result (TellsMiss (λ miss. (miss ≡ no_instance (suc (length p.commands))) × (statement ≡ statement_text q → ⊥))) (TellsMiss (IsMissed p q given r now))
    (λ error h. miss_weaker (λ miss. (miss ≡ no_instance (suc (length p.commands))) × (statement ≡ statement_text q → ⊥)) (IsMissed p q given r now)
    (λ miss k. another p q given r now new vars missing forms under miss c.in_ok-work_goals.ensures.given c.in_ok-work_goals.ensures.zero
    (λ s. k.1 (c.in_ok-asked.ensures.statement ∙ s)) k.0)
    error h)
    c.cited_statement.ensures.other
