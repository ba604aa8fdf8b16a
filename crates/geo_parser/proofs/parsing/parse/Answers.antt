use Rattle.geo_program.specs.Programs.{source_of}
use Rattle.geo_parser.proofs.SpeltTexts.{printed_spells, same_or_no_memory, same_program, spelt_not_refused}
use Rattle.geo_parser.proofs.parsing.parse.Goals as goal

pub returns-clause-spells_none : goal.returns-clause-spells_none
returns-clause-spells_none c = λ f e p spelt. spelt_not_refused c.args.bytes.now (source_of p) f spelt (c.parse_tokens.ensures.refused f e)

pub returns-clause-same : goal.returns-clause-same
returns-clause-same c = λ p own. same_program c.args.bytes.now p own c.parse_tokens.result c.parse_tokens.ensures.spelt

pub returns-clause-printed : goal.returns-clause-printed
returns-clause-printed c = λ p e.
    same_or_no_memory c.args.bytes.now p (printed_spells c.args.bytes.now p e) c.parse_tokens.result c.parse_tokens.ensures.spelt c.parse_tokens.ensures.refused
