use Rattle.geo_library.proofs.SomeCitation.{some_citation}
use Rattle.geo_library.proofs.laws.inputs_cite_or_are_refused.Goals as goal

pub returns : goal.returns
returns c = some_citation
