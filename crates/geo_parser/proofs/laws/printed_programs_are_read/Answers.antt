use Rattle.geo_parser.proofs.SpeltTexts.{read_again}
use Rattle.geo_parser.proofs.laws.printed_programs_are_read.Goals as goal

pub returns : goal.returns
returns c = read_again
