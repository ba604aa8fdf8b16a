use Rattle.std.proofs.Common.{◌≡◌, ◌+◌, ◌<◌, ◌^◌, ℕ, ℤ, List, [], All, length, map, unsigned_abs, refl, sym, ◌∙◌, ap, subst, arith}
use Rattle.std.specs.Prelude.{Ok, Err}
use Rattle.geo_program.proofs.Propositions.{program_well_formed}
use Rattle.geo_program.specs.Names.{names_of}
use Rattle.geo_program.specs.Programs.{source_of}
use Rattle.geo_program.specs.declared.commands.Command.{Command}
use Rattle.geo_program.specs.declared.names.Name.{Name}
use Rattle.geo_program.specs.declared.names.NameKind.TheVariants as kind
use Rattle.geo_conditions.proofs.Decisions.{lists_exist}
use Rattle.geo_conditions.proofs.Listings.{listed_once}
use Rattle.geo_conditions.specs.Lists.{Found, IsProblem, all_found, condition_item}
use Rattle.geo_conditions.specs.Problems.{form_of_problem}
use Rattle.geo_place.specs.declared.placed.Placed.{Placed}
use Rattle.geo_place.specs.declared.triples.Triple.{Triple}
use Rattle.geo_place.specs.Placing.{AnswersValues, point_lines, values_wanted}
use Rattle.geo_place.proofs.Existence.{placement_least, placement_reckoned, reckoned_placement}
use Rattle.geo_place.proofs.PlaceAnswers.{all_drawable, answer_placed, answer_stopped, are_told, lines_counted, names_counted, refused_answer}
use Rattle.geo_place.proofs.ValueLists.{values_are, values_of, values_once}
use Rattle.geo_place.proofs.placing.place.Goals as goal
use Rattle.geo_lowering.specs.declared.version.Version.TheVariants.{Two}

pub evaluate-requires : goal.evaluate-requires
evaluate-requires c =
    let p = source_of c.args.program.now in
    let w = program_well_formed c.args.program.now in
    let q = c.in_ok-problem.problem in
    let i : IsProblem Two p (form_of_problem q) q.conditions q.goals = c.in_ok-problem.ensures Two c.in_ok-lowered.ensures in
    let zs = c.deref.result.now in
    let same : zs ≡ c.args.values.now = c.deref.ensures.value ∙ c.values.view_is in
    let full : length zs ≡ values_wanted p = ap (λ (ys : List ℤ). length ys) same ∙ c.requires.wanted in
    let are = values_are p zs full in
    let values = values_of p zs in
    let placed = reckoned_placement p values in
    let reckoned = placement_reckoned p w values are.1 are.2 in
    let listed = lists_exist.conditions p in
    let once = listed_once (λ (f : Found). f.condition) (all_found p) [] i.conditions.are.conditions listed.0 i.conditions.are.listed listed.1 in (
      record {
        formed = w;
        lowered = i.lowered;
        reckoned = reckoned;
        listed = listed.1;
        stored = i.conditions.stored;
        written = i.conditions.are.written ∙ ap (λ (fs : List Found). map (condition_item Two p) fs) once;
        ints_are = sym are.0;
        short = subst (λ (ys : List ℤ). All (λ z. unsigned_abs z < 2 ^ 127) ys) (sym same) c.requires.short;
      },
      (i.goals, refl),
    )

pub returns-in_err-evaluated-clause-answer : goal.returns-in_err-evaluated-clause-answer
returns-in_err-evaluated-clause-answer c = λ v l e.
    let p = source_of c.args.program.now in
    let w = program_well_formed c.args.program.now in
    let q = c.in_ok-problem.problem in
    let i : IsProblem Two p (form_of_problem q) q.conditions q.goals = c.in_ok-problem.ensures Two c.in_ok-lowered.ensures in
    let zs = c.deref.result.now in
    let same : zs ≡ c.args.values.now = c.deref.ensures.value ∙ c.values.view_is in
    let full : length zs ≡ values_wanted p = ap (λ (ys : List ℤ). length ys) same ∙ c.requires.wanted in
    let are = values_are p zs full in
    let values = values_of p zs in
    let placed = reckoned_placement p values in
    let reckoned = placement_reckoned p w values are.1 are.2 in
    let x = c.in_err-evaluated.field-0.0 in
    refused_answer p v c.from_residual-in_err-evaluated.result x c.from_residual-in_err-evaluated.ensures.1
    (subst (λ u. AnswersValues p u (Err x)) (values_once p zs v l (e ∙ sym same))
    (answer_stopped p w (form_of_problem q) i.lowered values placed reckoned (lists_exist.conditions p).0 x c.in_err-evaluated.ensures.stopped))

pub named_points-requires : goal.named_points-requires
named_points-requires c =
    let p = source_of c.args.program.now in
    let w = program_well_formed c.args.program.now in
    let q : 0 + length (point_lines 1 p.commands) ≡ length (point_lines 1 p.commands) = omega arith in
    let names = names_counted p w in
    let same = ap (λ (ns : List Name). length (names_of kind.Point ns)) (sym c.as_slice-2.ensures) in
    record {
      lines = ap (λ (ls : List ℕ). length ls) c.deref-2.ensures.value ∙ ap (λ (ls : List ℕ). length ls) c.in_ok-lines.ensures
          ∙ ap (λ (cs : List Command). length (point_lines 1 cs)) c.as_slice.ensures ∙ sym (lines_counted 0 1 p.commands ∙ q) ∙ names ∙ same;
      triples = ap (λ (ts : List Triple). length ts) c.deref-3.ensures.value ∙ c.in_ok-evaluated.ensures.told ∙ names ∙ same;
    }

pub returns-clause-answer : goal.returns-clause-answer
returns-clause-answer c = λ v l e.
    let p = source_of c.args.program.now in
    let w = program_well_formed c.args.program.now in
    let q = c.in_ok-problem.problem in
    let i : IsProblem Two p (form_of_problem q) q.conditions q.goals = c.in_ok-problem.ensures Two c.in_ok-lowered.ensures in
    let zs = c.deref.result.now in
    let same : zs ≡ c.args.values.now = c.deref.ensures.value ∙ c.values.view_is in
    let full : length zs ≡ values_wanted p = ap (λ (ys : List ℤ). length ys) same ∙ c.requires.wanted in
    let are = values_are p zs full in
    let values = values_of p zs in
    let placed = reckoned_placement p values in
    let reckoned = placement_reckoned p w values are.1 are.2 in
    let answer : Placed = record { points = c.in_ok-points.points; holds = c.in_ok-evaluated.evaluated.holds } in
    let told = c.in_ok-points.ensures in
    let told_all = are_told p w (form_of_problem q) i.lowered values placed reckoned (placement_least p values) c.in_ok-points.points c.in_ok-evaluated.evaluated.triples.items
    (told.names ∙ ap (λ (ns : List Name). names_of kind.Point ns) c.as_slice-2.ensures)
    (told.lines ∙ c.deref-2.ensures.value ∙ c.in_ok-lines.ensures ∙ ap (λ (cs : List Command). point_lines 1 cs) c.as_slice.ensures)
    (told.triples ∙ c.deref-3.ensures.value) c.in_ok-evaluated.ensures.triples in
    subst (λ u. AnswersValues p u (Ok answer)) (values_once p zs v l (e ∙ sym same))
    (answer_placed p w (form_of_problem q) i.lowered values placed reckoned answer c.in_ok-evaluated.ensures.placed told_all)

pub returns-clause-drawable : goal.returns-clause-drawable
returns-clause-drawable c =
    let p = source_of c.args.program.now in
    let w = program_well_formed c.args.program.now in
    let q = c.in_ok-problem.problem in
    let i : IsProblem Two p (form_of_problem q) q.conditions q.goals = c.in_ok-problem.ensures Two c.in_ok-lowered.ensures in
    let zs = c.deref.result.now in
    let same : zs ≡ c.args.values.now = c.deref.ensures.value ∙ c.values.view_is in
    let full : length zs ≡ values_wanted p = ap (λ (ys : List ℤ). length ys) same ∙ c.requires.wanted in
    let are = values_are p zs full in
    let values = values_of p zs in
    let placed = reckoned_placement p values in
    let reckoned = placement_reckoned p w values are.1 are.2 in
    let told = c.in_ok-points.ensures in
    all_drawable p w placed c.in_ok-points.points c.in_ok-evaluated.evaluated.triples.items (told.names ∙ ap (λ (ns : List Name). names_of kind.Point ns) c.as_slice-2.ensures)
    (told.triples ∙ c.deref-3.ensures.value) c.in_ok-evaluated.ensures.triples
