use Rattle.std.proofs.Common.{◌≡◌, ℕ, List, suc, ◌+◌, ◌-◌, ◌<◌, ◌≤◌, length, arith, refl, sym, ◌∙◌, ap, subst}
use Rattle.std.specs.Prelude.{slice_index_or}
use Rattle.geo_conditions.specs.declared.problem.Problem.{Problem}
use Rattle.geo_place.specs.Evaluation.{turns_of}
use Rattle.geo_place.specs.Inner.{Stops}
use Rattle.geo_place.proofs.CommandTaken.{TellsAll, back_fails, command_taken, front_fails, last_there, none_told, one_told, steps_fail, tell_fails}
use Rattle.geo_place.proofs.ItemTests.{passed_on}
use Rattle.geo_place.proofs.Taking.{after_is, after_long, ends_are, next_few, next_up}
use Rattle.geo_place.proofs.evaluation.Progress.take_command.Goals as goal
use Rattle.geo_place.proofs.evaluation.Progress.take_command.Goals.{then-names_point+in_ok-tell, else-names_point}

pub overflow_sub-middle : goal.overflow_sub-middle
overflow_sub-middle g c =
    let Q = c.args.problem.now in
    let V = c.args.values.now in
    let C = c.args.command.now in
    let k = c.args.k in
    let old = c.args.self.now in
    let h = c.requires.0 in
    let t = c.requires.1.0 in
    let at = c.requires.1.1 in
    let next : k + 1 ≡ suc k = omega arith in
    let through = c.conditions_through-end in
    let items = c.as_slice-items.result.now in
    let late = c.late_count.result in
    let ends = ends_are g.run Q V h k C at old t items (c.as_slice-items.ensures.value ∙ ap (λ (q : Problem). q.conditions) c.problem.view_is) (k + 1) next
    through.result through.ensures.low through.ensures.high through.ensures.these through.ensures.next late c.late_count.ensures in
    let a = ends.end_same in
    let b = ends.late_same in
    omega (arith, a, b)

pub slice_bounds-test_conditions-count : goal.slice_bounds-test_conditions-count
slice_bounds-test_conditions-count g c =
    let Q = c.args.problem.now in
    let V = c.args.values.now in
    let C = c.args.command.now in
    let k = c.args.k in
    let old = c.args.self.now in
    let h = c.requires.0 in
    let t = c.requires.1.0 in
    let at = c.requires.1.1 in
    let next : k + 1 ≡ suc k = omega arith in
    let through = c.conditions_through-end in
    let items = c.as_slice-items.result.now in
    let late = c.late_count.result in
    let ends = ends_are g.run Q V h k C at old t items (c.as_slice-items.ensures.value ∙ ap (λ (q : Problem). q.conditions) c.problem.view_is) (k + 1) next
    through.result through.ensures.low through.ensures.high through.ensures.these through.ensures.next late c.late_count.ensures in
    let a = ends.end_same in
    let b = ends.late_same in
    omega (arith, a, b)

pub slice_bounds-test_conditions-start : goal.slice_bounds-test_conditions-start
slice_bounds-test_conditions-start g c =
    let Q = c.args.problem.now in
    let V = c.args.values.now in
    let C = c.args.command.now in
    let k = c.args.k in
    let old = c.args.self.now in
    let h = c.requires.0 in
    let t = c.requires.1.0 in
    let at = c.requires.1.1 in
    let next : k + 1 ≡ suc k = omega arith in
    let through = c.conditions_through-end in
    let items = c.as_slice-items.result.now in
    let late = c.late_count.result in
    let ends = ends_are g.run Q V h k C at old t items (c.as_slice-items.ensures.value ∙ ap (λ (q : Problem). q.conditions) c.problem.view_is) (k + 1) next
    through.result through.ensures.low through.ensures.high through.ensures.these through.ensures.next late c.late_count.ensures in
    let a = ends.end_same in
    let b = ends.late_same in
    let l : old.tested ≤ through.result - late = omega (arith, a, b) in
    l

pub returns-in_err-test_conditions-clause-stops : goal.returns-in_err-test_conditions-clause-stops
returns-in_err-test_conditions-clause-stops g c =
    let Q = c.args.problem.now in
    let V = c.args.values.now in
    let C = c.args.command.now in
    let k = c.args.k in
    let old = c.args.self.now in
    let h = c.requires.0 in
    let t = c.requires.1.0 in
    let at = c.requires.1.1 in
    let next : k + 1 ≡ suc k = omega arith in
    let through = c.conditions_through-end in
    let items = c.as_slice-items.result.now in
    let late = c.late_count.result in
    let ends = ends_are g.run Q V h k C at old t items (c.as_slice-items.ensures.value ∙ ap (λ (q : Problem). q.conditions) c.problem.view_is) (k + 1) next
    through.result through.ensures.low through.ensures.high through.ensures.these through.ensures.next late c.late_count.ensures in
    let nodes = c.look-terms.result.now in
    let stored = c.look-terms.ensures ∙ ap (λ (q : Problem). q.steps.nodes) c.problem.view_is in
    let e = c.in_err-test_conditions.field-0.0 in
    passed_on c.from_residual.result e (Stops g.run (turns_of g.run.program)) c.from_residual.ensures.1
    (front_fails g.run Q V h k C at old t items through.result late ends nodes stored (k + 1) next e c.in_err-test_conditions.ensures.fails)

pub bounds-after-k : goal.bounds-after-k
bounds-after-k g c =
    let Q = c.args.problem.now in
    let V = c.args.values.now in
    let C = c.args.command.now in
    let k = c.args.k in
    let old = c.args.self.now in
    let h = c.requires.0 in
    let t = c.requires.1.0 in
    let at = c.requires.1.1 in
    let l = subst (λ (ns : List ℕ). k < length ns) (sym (c.as_slice-after.ensures.value ∙ ap (λ (q : Problem). q.after) c.problem.view_is)) (after_long g.run Q V h k C at old t) in
    l

pub offset_bounds-after-k : goal.offset_bounds-after-k
offset_bounds-after-k g c =
    let Q = c.args.problem.now in
    let V = c.args.values.now in
    let C = c.args.command.now in
    let k = c.args.k in
    let old = c.args.self.now in
    let h = c.requires.0 in
    let t = c.requires.1.0 in
    let at = c.requires.1.1 in
    let l = subst (λ (ns : List ℕ). k < length ns) (sym (c.as_slice-after.ensures.value ∙ ap (λ (q : Problem). q.after) c.problem.view_is)) (after_long g.run Q V h k C at old t) in
    let few = c.as_slice-after.type_inv.1 in
    omega (arith, l, few)

pub overflow_add-line : goal.overflow_add-line
overflow_add-line g c =
    let Q = c.args.problem.now in
    let V = c.args.values.now in
    let C = c.args.command.now in
    let k = c.args.k in
    let old = c.args.self.now in
    let h = c.requires.0 in
    let t = c.requires.1.0 in
    let at = c.requires.1.1 in
    let l = subst (λ (ns : List ℕ). k < length ns) (sym (c.as_slice-after.ensures.value ∙ ap (λ (q : Problem). q.after) c.problem.view_is)) (after_long g.run Q V h k C at old t) in
    let few = c.as_slice-after.type_inv.0 in
    omega (arith, l, few)

pub make_points-requires : goal.make_points-requires
make_points-requires g c =
    let Q = c.args.problem.now in
    let V = c.args.values.now in
    let C = c.args.command.now in
    let k = c.args.k in
    let old = c.args.self.now in
    let h = c.requires.0 in
    let t = c.requires.1.0 in
    let at = c.requires.1.1 in
    let after = slice_index_or c.as_slice-after.result.now k 0 in
    let behind = ap (λ (ns : List ℕ). slice_index_or ns k 0) (c.as_slice-after.ensures.value ∙ ap (λ (q : Problem). q.after) c.problem.view_is) ∙ after_is g.run Q V h k C at old t in
    let up = next_up g.run Q V h k C at old t in
    let few = next_few g.run Q V h k C at old t in
    (h, (t.sketch, (omega (arith, behind, up), omega (arith, behind, few))))

pub returns-in_err-make_points-clause-stops : goal.returns-in_err-make_points-clause-stops
returns-in_err-make_points-clause-stops g c =
    let Q = c.args.problem.now in
    let V = c.args.values.now in
    let C = c.args.command.now in
    let k = c.args.k in
    let old = c.args.self.now in
    let h = c.requires.0 in
    let t = c.requires.1.0 in
    let at = c.requires.1.1 in
    let next : k + 1 ≡ suc k = omega arith in
    let through = c.conditions_through-end in
    let items = c.as_slice-items.result.now in
    let late = c.late_count.result in
    let ends = ends_are g.run Q V h k C at old t items (c.as_slice-items.ensures.value ∙ ap (λ (q : Problem). q.conditions) c.problem.view_is) (k + 1) next
    through.result through.ensures.low through.ensures.high through.ensures.these through.ensures.next late c.late_count.ensures in
    let nodes = c.look-terms.result.now in
    let stored = c.look-terms.ensures ∙ ap (λ (q : Problem). q.steps.nodes) c.problem.view_is in
    let met = c.in_ok-test_conditions.ensures.met in
    let after = slice_index_or c.as_slice-after.result.now k 0 in
    let behind = ap (λ (ns : List ℕ). slice_index_or ns k 0) (c.as_slice-after.ensures.value ∙ ap (λ (q : Problem). q.after) c.problem.view_is) ∙ after_is g.run Q V h k C at old t in
    let e = c.in_err-make_points.field-0.0 in
    passed_on c.from_residual-in_err-make_points.result e (Stops g.run (turns_of g.run.program)) c.from_residual-in_err-make_points.ensures.1
    (steps_fail g.run Q V h k C at old t items through.result late ends nodes stored (k + 1) next met after behind e c.in_err-make_points.ensures.stops)

pub tell-requires : goal.tell-requires
tell-requires g c =
    let Q = c.args.problem.now in
    let V = c.args.values.now in
    let C = c.args.command.now in
    let k = c.args.k in
    let old = c.args.self.now in
    let h = c.requires.0 in
    let t = c.requires.1.0 in
    let at = c.requires.1.1 in
    let next : k + 1 ≡ suc k = omega arith in
    let through = c.conditions_through-end in
    let items = c.as_slice-items.result.now in
    let late = c.late_count.result in
    let ends = ends_are g.run Q V h k C at old t items (c.as_slice-items.ensures.value ∙ ap (λ (q : Problem). q.conditions) c.problem.view_is) (k + 1) next
    through.result through.ensures.low through.ensures.high through.ensures.these through.ensures.next late c.late_count.ensures in
    let nodes = c.look-terms.result.now in
    let stored = c.look-terms.ensures ∙ ap (λ (q : Problem). q.steps.nodes) c.problem.view_is in
    let met = c.in_ok-test_conditions.ensures.met in
    let after = slice_index_or c.as_slice-after.result.now k 0 in
    let behind = ap (λ (ns : List ℕ). slice_index_or ns k 0) (c.as_slice-after.ensures.value ∙ ap (λ (q : Problem). q.after) c.problem.view_is) ∙ after_is g.run Q V h k C at old t in
    let made = c.in_ok-make_points.ensures in
    last_there g.run Q V h k C at old t items through.result late ends nodes stored
    (k + 1) next met after behind made.passed c.make_points.new.self made.sketch made.points
    (sym c.names_point.ensures ∙ c.if-names_point.true)

pub returns-in_err-tell-clause-stops : goal.returns-in_err-tell-clause-stops
returns-in_err-tell-clause-stops g c =
    let Q = c.args.problem.now in
    let V = c.args.values.now in
    let C = c.args.command.now in
    let k = c.args.k in
    let old = c.args.self.now in
    let h = c.requires.0 in
    let t = c.requires.1.0 in
    let at = c.requires.1.1 in
    let next : k + 1 ≡ suc k = omega arith in
    let through = c.conditions_through-end in
    let items = c.as_slice-items.result.now in
    let late = c.late_count.result in
    let ends = ends_are g.run Q V h k C at old t items (c.as_slice-items.ensures.value ∙ ap (λ (q : Problem). q.conditions) c.problem.view_is) (k + 1) next
    through.result through.ensures.low through.ensures.high through.ensures.these through.ensures.next late c.late_count.ensures in
    let nodes = c.look-terms.result.now in
    let stored = c.look-terms.ensures ∙ ap (λ (q : Problem). q.steps.nodes) c.problem.view_is in
    let met = c.in_ok-test_conditions.ensures.met in
    let after = slice_index_or c.as_slice-after.result.now k 0 in
    let behind = ap (λ (ns : List ℕ). slice_index_or ns k 0) (c.as_slice-after.ensures.value ∙ ap (λ (q : Problem). q.after) c.problem.view_is) ∙ after_is g.run Q V h k C at old t in
    let made = c.in_ok-make_points.ensures in
    let e = c.in_err-tell.field-0.0 in
    passed_on c.from_residual-in_err-tell.result e (Stops g.run (turns_of g.run.program)) c.from_residual-in_err-tell.ensures.1
    (tell_fails g.run Q V h k C at old t items through.result late ends nodes stored
    (k + 1) next met after behind made.passed c.make_points.new.self made.sketch made.points
    (sym c.names_point.ensures ∙ c.if-names_point.true) e c.in_err-tell.ensures.stops)

pub returns-in_err-test_conditions-2-clause-stops : goal.returns-in_err-test_conditions-2-clause-stops
returns-in_err-test_conditions-2-clause-stops g c =
    let Q = c.args.problem.now in
    let V = c.args.values.now in
    let C = c.args.command.now in
    let k = c.args.k in
    let old = c.args.self.now in
    let h = c.requires.0 in
    let t = c.requires.1.0 in
    let at = c.requires.1.1 in
    let next : k + 1 ≡ suc k = omega arith in
    let through = c.conditions_through-end in
    let items = c.as_slice-items.result.now in
    let late = c.late_count.result in
    let ends = ends_are g.run Q V h k C at old t items (c.as_slice-items.ensures.value ∙ ap (λ (q : Problem). q.conditions) c.problem.view_is) (k + 1) next
    through.result through.ensures.low through.ensures.high through.ensures.these through.ensures.next late c.late_count.ensures in
    let nodes = c.look-terms.result.now in
    let stored = c.look-terms.ensures ∙ ap (λ (q : Problem). q.steps.nodes) c.problem.view_is in
    let met = c.in_ok-test_conditions.ensures.met in
    let after = slice_index_or c.as_slice-after.result.now k 0 in
    let behind = ap (λ (ns : List ℕ). slice_index_or ns k 0) (c.as_slice-after.ensures.value ∙ ap (λ (q : Problem). q.after) c.problem.view_is) ∙ after_is g.run Q V h k C at old t in
    let made = c.in_ok-make_points.ensures in
    let told : TellsAll g.run Q V h k C at old t items through.result late ends nodes stored
    (k + 1) next met after behind made.passed c.make_points.new.self made.sketch made.points c.if-names_point.self.sketch
    c.if-names_point.self.triples.items = elim c.if-names_point.branch [
      | then-names_point+in_ok-tell w ↦
          subst (λ z. TellsAll g.run Q V h k C at old t items through.result late ends nodes stored
          (k + 1) next met after behind made.passed c.make_points.new.self made.sketch made.points z.sketch z.triples.items)
          (sym w.self-is)
          (one_told g.run Q V h k C at old t items through.result late ends nodes stored
          (k + 1) next met after behind made.passed c.make_points.new.self made.sketch made.points
          (sym c.names_point.ensures ∙ w.if-names_point.true) w.tell.new.self.sketch w.in_ok-tell.ensures.sketch
          w.tell.new.self.triples.items w.in_ok-tell.ensures.triple)
      | else-names_point w ↦
          subst (λ z. TellsAll g.run Q V h k C at old t items through.result late ends nodes stored
          (k + 1) next met after behind made.passed c.make_points.new.self made.sketch made.points z.sketch z.triples.items)
          (sym w.self-is)
          (none_told g.run Q V h k C at old t items through.result late ends nodes stored
          (k + 1) next met after behind made.passed c.make_points.new.self made.sketch made.points
          (sym c.names_point.ensures ∙ w.if-names_point.false))
    ] in
    let e = c.in_err-test_conditions-2.field-0.0 in
    passed_on c.from_residual-in_err-test_conditions-2.result e (Stops g.run (turns_of g.run.program)) c.from_residual-in_err-test_conditions-2.ensures.1
    (back_fails g.run Q V h k C at old t items through.result late ends nodes stored
    (k + 1) next met after behind made.passed c.make_points.new.self made.sketch made.points c.if-names_point.self.sketch
    c.if-names_point.self.triples.items told e c.in_err-test_conditions-2.ensures.fails)

pub returns-clause-taken : goal.returns-clause-taken
returns-clause-taken g c =
    let Q = c.args.problem.now in
    let V = c.args.values.now in
    let C = c.args.command.now in
    let k = c.args.k in
    let old = c.args.self.now in
    let h = c.requires.0 in
    let t = c.requires.1.0 in
    let at = c.requires.1.1 in
    let next : k + 1 ≡ suc k = omega arith in
    let through = c.conditions_through-end in
    let items = c.as_slice-items.result.now in
    let late = c.late_count.result in
    let ends = ends_are g.run Q V h k C at old t items (c.as_slice-items.ensures.value ∙ ap (λ (q : Problem). q.conditions) c.problem.view_is) (k + 1) next
    through.result through.ensures.low through.ensures.high through.ensures.these through.ensures.next late c.late_count.ensures in
    let nodes = c.look-terms.result.now in
    let stored = c.look-terms.ensures ∙ ap (λ (q : Problem). q.steps.nodes) c.problem.view_is in
    let met = c.in_ok-test_conditions.ensures.met in
    let after = slice_index_or c.as_slice-after.result.now k 0 in
    let behind = ap (λ (ns : List ℕ). slice_index_or ns k 0) (c.as_slice-after.ensures.value ∙ ap (λ (q : Problem). q.after) c.problem.view_is) ∙ after_is g.run Q V h k C at old t in
    let made = c.in_ok-make_points.ensures in
    let told : TellsAll g.run Q V h k C at old t items through.result late ends nodes stored
    (k + 1) next met after behind made.passed c.make_points.new.self made.sketch made.points c.if-names_point.self.sketch
    c.if-names_point.self.triples.items = elim c.if-names_point.branch [
      | then-names_point+in_ok-tell w ↦
          subst (λ z. TellsAll g.run Q V h k C at old t items through.result late ends nodes stored
          (k + 1) next met after behind made.passed c.make_points.new.self made.sketch made.points z.sketch z.triples.items)
          (sym w.self-is)
          (one_told g.run Q V h k C at old t items through.result late ends nodes stored
          (k + 1) next met after behind made.passed c.make_points.new.self made.sketch made.points
          (sym c.names_point.ensures ∙ w.if-names_point.true) w.tell.new.self.sketch w.in_ok-tell.ensures.sketch
          w.tell.new.self.triples.items w.in_ok-tell.ensures.triple)
      | else-names_point w ↦
          subst (λ z. TellsAll g.run Q V h k C at old t items through.result late ends nodes stored
          (k + 1) next met after behind made.passed c.make_points.new.self made.sketch made.points z.sketch z.triples.items)
          (sym w.self-is)
          (none_told g.run Q V h k C at old t items through.result late ends nodes stored
          (k + 1) next met after behind made.passed c.make_points.new.self made.sketch made.points
          (sym c.names_point.ensures ∙ w.if-names_point.false))
    ] in
    command_taken g.run Q V h k C at old t items through.result late ends nodes stored
    (k + 1) next met after behind made.passed c.make_points.new.self made.sketch made.points c.if-names_point.self.sketch
    c.if-names_point.self.triples.items told c.in_ok-test_conditions-2.ensures.met
    (record { sketch = c.if-names_point.self.sketch; tested = through.result; triples = c.if-names_point.self.triples }) refl refl refl
