use Rattle.log_checker.proofs.LineFeeds.{program_one_line}
use Rattle.log_checker.proofs.laws.source_lines_have_no_line_feed.Goals as goal

pub returns : goal.returns
returns c = program_one_line
