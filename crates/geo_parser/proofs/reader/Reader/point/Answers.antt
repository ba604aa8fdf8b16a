use Rattle.geo_parser.proofs.Reading.{ReadsArguments-point}
use Rattle.geo_parser.proofs.reader.Reader.point.Goals as goal

pub returns-clause-point : goal.returns-clause-point
returns-clause-point c = ReadsArguments-point _ _ _ c.in_ok-name.ensures.number
