use Rattle.std.proofs.Common.{All, false, ◌≡◌, subst, sym, ◌∙◌, List}
use Rattle.std.proofs.lemmas.List.{take_all}
use Rattle.geo_program.specs.declared.commands.Command.{Command}
use Rattle.geo_library.specs.CitedGoals.{has_lines}
use Rattle.geo_library.proofs.WhyNoTheorem.{none_more}
use Rattle.geo_library.proofs.theorems.first_with_lines.Goals as goal

pub loop-k-preserved : goal.loop-k-preserved
loop-k-preserved c = none_more c.args.commands.now c.loop-k.k c.loop-k-test.true c.loop-k.invariant (sym c.has_lines.ensures ∙ c.if-has_lines.false)

pub returns-clause-none : goal.returns-clause-none
returns-clause-none c =
    subst (λ (cs : List Command). All (λ x. has_lines x ≡ false) cs) (take_all c.loop-k.k c.args.commands.now c.loop-k-test.false) c.loop-k.invariant
