use Rattle.frac_laws.proofs.LowestTerms.{lowest_terms_are_unique}
use Rattle.frac_laws.proofs.laws.lowest_terms_are_unique.Goals as goal

pub returns : goal.returns
returns c = lowest_terms_are_unique
