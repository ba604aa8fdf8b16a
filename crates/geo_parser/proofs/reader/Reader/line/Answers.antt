use Rattle.geo_parser.proofs.Reading.{ReadsArguments-line}
use Rattle.geo_parser.proofs.reader.Reader.line.Goals as goal

pub returns-clause-line : goal.returns-clause-line
returns-clause-line c = ReadsArguments-line _ _ _ c.in_ok-name.ensures.number
