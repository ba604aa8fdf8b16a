use Rattle.geo_cli.proofs.Begun.{begun}
use Rattle.geo_cli.proofs.Decisive.{decisive}
use Rattle.geo_cli.proofs.Ended.{completes, ends_in, has_number, misused, no_order, reads_nothing, takes_order}
use Rattle.geo_cli.proofs.InPart.{in_part}
use Rattle.geo_cli.proofs.OneDue.{one_is_called}
use Rattle.geo_cli.proofs.SomeDue.{some_is_called}
use Rattle.geo_cli.proofs.Told.{accepts, decides, done, missed, unmet}
use Rattle.geo_cli.proofs.run.run.Goals as goal

pub carry_out-requires : goal.carry_out-requires
carry_out-requires g c = has_number _ _ c.in-Some.ensures.given.row

pub returns-in-Some-clause-decides : goal.returns-in-Some-clause-decides
returns-in-Some-clause-decides g c = λ verdict.
    decides _ _ _ _ _ verdict _ _ _ _ _ (ends_in _ c.order_of.ensures.one _ c.in-Some.ensures.given _ _ _ _ _ _ _ _ _ c.carry_out.ensures.answers)

pub returns-in-Some-clause-done : goal.returns-in-Some-clause-done
returns-in-Some-clause-done g c =
    done _ _ _ _ _ _ _ _ _ _ (ends_in _ c.order_of.ensures.one _ c.in-Some.ensures.given _ _ _ _ _ _ _ _ _ c.carry_out.ensures.answers)

pub returns-in-Some-clause-unmet : goal.returns-in-Some-clause-unmet
returns-in-Some-clause-unmet g c = λ number.
    unmet _ _ _ _ _ number _ _ _ _ _ (ends_in _ c.order_of.ensures.one _ c.in-Some.ensures.given _ _ _ _ _ _ _ _ _ c.carry_out.ensures.answers)

pub returns-in-Some-clause-no_instance : goal.returns-in-Some-clause-no_instance
returns-in-Some-clause-no_instance g c = λ line.
    missed _ _ _ _ _ line _ _ _ _ _ (ends_in _ c.order_of.ensures.one _ c.in-Some.ensures.given _ _ _ _ _ _ _ _ _ c.carry_out.ensures.answers)

pub returns-in-Some-clause-accepted : goal.returns-in-Some-clause-accepted
returns-in-Some-clause-accepted g c = λ verdict.
    accepts _ _ _ _ _ verdict _ _ _ _ _ (ends_in _ c.order_of.ensures.one _ c.in-Some.ensures.given _ _ _ _ _ _ _ _ _ c.carry_out.ensures.answers)

pub returns-in-Some-clause-in_part : goal.returns-in-Some-clause-in_part
returns-in-Some-clause-in_part g c = λ steps given unfinished.
    in_part _ c.order_of.ensures.one steps given _ _ _ _ _ unfinished _ _ _ _
    (ends_in _ c.order_of.ensures.one _ c.in-Some.ensures.given _ _ _ _ _ _ _ _ _ c.carry_out.ensures.answers)

pub returns-in-None-clause-in_part : goal.returns-in-None-clause-in_part
returns-in-None-clause-in_part g c = λ steps given unfinished. absurd (no_order _ _ c.order_of.ensures.complete c.in-None.is _ given)

pub returns-in-Some-clause-begun : goal.returns-in-Some-clause-begun
returns-in-Some-clause-begun g c = λ steps given broken.
    begun _ c.order_of.ensures.one steps given _ _ _ _ _ broken _ _ _ _
    (ends_in _ c.order_of.ensures.one _ c.in-Some.ensures.given _ _ _ _ _ _ _ _ _ c.carry_out.ensures.answers)

pub returns-in-None-clause-begun : goal.returns-in-None-clause-begun
returns-in-None-clause-begun g c = λ steps given broken. absurd (no_order _ _ c.order_of.ensures.complete c.in-None.is _ given)

pub returns-in-Some-clause-ends : goal.returns-in-Some-clause-ends
returns-in-Some-clause-ends g c = ends_in _ c.order_of.ensures.one _ c.in-Some.ensures.given _ _ _ _ _ _ _ _ _ c.carry_out.ensures.answers

pub returns-in-Some-clause-complete : goal.returns-in-Some-clause-complete
returns-in-Some-clause-complete g c =
    completes _ c.order_of.ensures.one _ _ _ _ _ _ _ _ _
    (ends_in _ c.order_of.ensures.one _ c.in-Some.ensures.given _ _ _ _ _ _ _ _ _ c.carry_out.ensures.answers)

pub returns-in-Some-clause-enough : goal.returns-in-Some-clause-enough
returns-in-Some-clause-enough g c =
    decisive _ _ _ _ _ _ _ _ _
    (completes _ c.order_of.ensures.one _ _ _ _ _ _ _ _ _
    (ends_in _ c.order_of.ensures.one _ c.in-Some.ensures.given _ _ _ _ _ _ _ _ _ c.carry_out.ensures.answers))

pub returns-in-Some-clause-unread : goal.returns-in-Some-clause-unread
returns-in-Some-clause-unread g c = reads_nothing _ c.order_of.ensures.one _ c.in-Some.ensures.given _ c.carry_out.ensures.unread

pub returns-in-None-clause-ends : goal.returns-in-None-clause-ends
returns-in-None-clause-ends g c = misused _ _ _ _ _ _ _ _ (no_order _ _ c.order_of.ensures.complete c.in-None.is) c.answer.ensures.answered

pub returns-in-None-clause-enough : goal.returns-in-None-clause-enough
returns-in-None-clause-enough g c = λ asks calm calm'. absurd (no_order _ _ c.order_of.ensures.complete c.in-None.is _ asks.command)

pub returns-in-None-clause-complete : goal.returns-in-None-clause-complete
returns-in-None-clause-complete g c = λ due called calm calm'. absurd (no_order _ _ c.order_of.ensures.complete c.in-None.is called.0 called.1)

pub returns-in-Some-clause-one : goal.returns-in-Some-clause-one
returns-in-Some-clause-one g c = λ due other. one_is_called _ c.order_of.ensures.one _ due other

pub returns-in-Some-clause-some : goal.returns-in-Some-clause-some
returns-in-Some-clause-some g c = some_is_called _ _

pub returns-in-None-clause-some : goal.returns-in-None-clause-some
returns-in-None-clause-some g c = some_is_called _ _

pub returns-in-Some-clause-taken : goal.returns-in-Some-clause-taken
returns-in-Some-clause-taken g c = λ order given.
    takes_order _ c.order_of.ensures.one c.in-Some.order order c.in-Some.ensures.given given _ _ c.carry_out.ensures.taken

pub returns-in-None-clause-one : goal.returns-in-None-clause-one
returns-in-None-clause-one g c = λ due other called called'. absurd (no_order _ _ c.order_of.ensures.complete c.in-None.is called.0 called.1)
