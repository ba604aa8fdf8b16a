use Rattle.std.proofs.Common.{subst}
use Rattle.geo_figure.specs.Inner.{IsFrameOf}
use Rattle.geo_figure.proofs.FrameTurns.{first_frame}
use Rattle.geo_figure.proofs.bounds.next_frame.Goals as goal

pub returns-in-None : goal.returns-in-None
returns-in-None c = λ points h. first_frame c.args.at.now c.frame_of_one.result c.frame_of_one.ensures points (subst (λ f. IsFrameOf f points) c.in-None.is h)

pub returns-in-Some : goal.returns-in-Some
returns-in-Some c = λ points h. let k = subst (λ f. IsFrameOf f points) c.in-Some.is h in c.wider_frame.ensures points k.0 k.1
