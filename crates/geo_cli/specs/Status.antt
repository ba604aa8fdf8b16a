-- The status that tells how a search for relations ends.
use Rattle.proof_printer.specs.declared.status.Status.{Status}
use Rattle.proof_printer.specs.declared.status.Status.TheVariants.{Done, Impossible, TooLong}
use Rattle.proof_printer.specs.Status.{ended_status}
use Rattle.geo_discover.specs.FoundTexts.{SearchEnd, cut, found, impossible, open_by}

-- how a search ends; an open candidate is told as the end of its log
abbrev pub search_status : SearchEnd → Status
search_status (found count) = Done
search_status (impossible k) = Impossible k
search_status (open_by ending number) = ended_status number ending
search_status cut = TooLong
