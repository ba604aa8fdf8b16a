use Rattle.std.proofs.Common.{subst, ◌≤◌, ℕ, length}
use Rattle.geo_cli.specs.declared.order.Command.TheVariants.{Cite, Figure, Place, Text}
use Rattle.geo_cli.proofs.Answered.{limited, made, reads_program, within}
use Rattle.geo_cli.proofs.reading.answer_bytes.Goals as goal

pub print_bytes-requires : goal.print_bytes-requires
print_bytes-requires g c = within _ Text _ c.in-Text.is c.requires.short

pub cite_bytes-requires : goal.cite_bytes-requires
cite_bytes-requires g c = within _ Cite _ c.in-Cite.is c.requires.short

pub place_bytes-requires : goal.place_bytes-requires
place_bytes-requires g c = within _ Place _ c.in-Place.is c.requires.short

pub place_bytes-requires-in-Figure : goal.place_bytes-requires-in-Figure
place_bytes-requires-in-Figure g c = within _ Figure _ c.in-Figure.is c.requires.short

pub answer_program-requires-clause-program : goal.answer_program-requires-clause-program
answer_program-requires-clause-program g c =
    reads_program _ c.requires.whole c.in_default.not-Text c.in_default.not-Cite c.in_default.not-Place c.in_default.not-Figure

pub answer_program-requires-clause-short : goal.answer_program-requires-clause-short
answer_program-requires-clause-short g c =
    subst (λ (n : ℕ). length c.args.bytes.now ≤ n) (limited _ (answer_program-requires-clause-program g c)) c.requires.short

pub returns-in-Text-clause-answers : goal.returns-in-Text-clause-answers
returns-in-Text-clause-answers g c = made _ _ _ _ _ _ _ _ Text c.in-Text.is c.print_bytes.ensures.answers

pub returns-in-Cite-clause-answers : goal.returns-in-Cite-clause-answers
returns-in-Cite-clause-answers g c = made _ _ _ _ _ _ _ _ Cite c.in-Cite.is c.cite_bytes.ensures.answers

pub returns-in-Place-clause-answers : goal.returns-in-Place-clause-answers
returns-in-Place-clause-answers g c = made _ _ _ _ _ _ _ _ Place c.in-Place.is c.place_bytes.ensures.answers

pub returns-in-Figure-clause-answers : goal.returns-in-Figure-clause-answers
returns-in-Figure-clause-answers g c = made _ _ _ _ _ _ _ _ Figure c.in-Figure.is c.place_bytes-in-Figure.ensures.answers
