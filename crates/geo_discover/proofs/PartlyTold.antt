-- However a search ends, its findings that are not open tell what is so.
use Rattle.std.proofs.Common.{ℕ, ◌^◌, ◌<◌, All, List, [], ◌∷◌, sym, subst}
use Rattle.std.specs.List.{AllByRecursion}
use Rattle.std.proofs.lemmas.List.Elements.{All-head, All-tail}
use Rattle.geo_program.specs.declared.statements.Statement.{Statement}
use Rattle.geo_program.specs.Relations.{with_statement}
use Rattle.geo_program.specs.WellFormed.{IsWellFormed, Source}
use Rattle.geo_discover.specs.Candidates.{candidates}
use Rattle.geo_discover.specs.FoundTexts.{AreFindings, Finding, IsToldInPart, SearchesTellInPart}
use Rattle.geo_discover.proofs.CandidateLaws.{candidates_are_well_formed}
use Rattle.geo_discover.proofs.Findings.{told}

module _ (p : Source) (steps : ℕ) (few : steps < 2 ^ 127) where
  abbrev Formed : Statement → Type 0
  Formed s = IsWellFormed (with_statement p s)

  partly_told : (ss : List Statement) (fs : List Finding) → All Formed ss → AreFindings p steps ss fs → AllByRecursion (IsToldInPart p steps) fs
  partly_told [] [] w h = tt
  partly_told [] (f ∷ fs) w h = absurd h
  partly_told (s ∷ ss) [] w h = absurd h
  partly_told (s ∷ ss) (f ∷ fs) w h = (
    (λ closed. told p steps few f (subst Formed (sym h.0) (All-head Formed s ss w)) h.1 closed),
    partly_told ss fs (All-tail Formed s ss w) h.2,
  )

pub searches_tell_in_part : SearchesTellInPart
searches_tell_in_part p steps lines end w few h = partly_told p steps few (candidates p) h.findings (candidates_are_well_formed p w) h.found
