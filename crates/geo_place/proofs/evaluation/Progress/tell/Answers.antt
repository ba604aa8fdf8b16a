use Rattle.std.proofs.Common.{◌-◌, length, sym, ◌∙◌, ap, subst}
use Rattle.std.specs.Prelude.{slice_index_or}
use Rattle.geo_place.specs.Evaluation.{IsTriplePast}
use Rattle.geo_place.specs.Inner.{IsTripleOf, point_at}
use Rattle.geo_place.proofs.ListParts.{got}
use Rattle.geo_place.proofs.evaluation.Progress.tell.Goals as goal

pub returns-clause-triple : goal.returns-clause-triple
returns-clause-triple c = λ s e.
    let points = c.args.self.now.sketch.points.items in
    let long = c.len.ensures ∙ c.args.self.now.sketch.points.ok.0 in
    let same = got points (length points - 1) c.index.result.now s (c.index.ensures ∙ ap (λ n. slice_index_or points (n - 1) c.index.result.now) long) e in
    record {
      triple = c.in_ok-told.field-0;
      pushed = c.in_ok-push.ensures.items;
      is = subst (λ q. IsTripleOf c.in_ok-told.field-0 (point_at q)) same c.in_ok-told.ensures.triple;
      fits = λ h. c.in_ok-told.ensures.fits (subst (λ q. IsTriplePast (point_at q)) (sym same) h);
    }
