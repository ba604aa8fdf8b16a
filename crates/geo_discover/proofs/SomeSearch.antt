-- A program has a search: each of its candidates has a log, and the text of them is written whole or cut.
use Rattle.std.proofs.Common.{[], refl, arith}
use Rattle.geo_discover.specs.Candidates.{candidates}
use Rattle.geo_discover.specs.FoundTexts.{ProgramsHaveASearch, found_lines}
use Rattle.geo_discover.proofs.CandidateForms.{candidates_are_relations}
use Rattle.geo_discover.proofs.CandidateLaws.{candidates_are_well_formed}
use Rattle.geo_discover.proofs.SearchEnds.{searched_on, some_findings}

pub some_search : ProgramsHaveASearch
some_search p steps w short =
    let findings = some_findings p steps w short (candidates p) (candidates_are_relations p) (candidates_are_well_formed p w) in
    searched_on p steps w short findings.0 findings.1 [] (found_lines p findings.0) refl (omega arith)
