use Rattle.geo_sample.proofs.OneTerm.{zeroed}
use Rattle.geo_sample.proofs.forms.put_zero_in_term.Goals as goal

pub returns : goal.returns
returns c = zeroed c.args.v c.args.term.now c.put_zero.new.self c.is_valid.ensures.monomial c.put_zero.ensures.has c.put_zero.ensures.lacks
