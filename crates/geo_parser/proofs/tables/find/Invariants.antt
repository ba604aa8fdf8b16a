use Rattle.std.proofs.Common.{◌≡◌, find, drop}
use Rattle.geo_parser.specs.Texts.{is_text}
use Rattle.geo_parser.proofs.tables.find.Given as goal

-- nothing was found so far
abbrev pub invariant-loop-text : goal.invariant-loop-text
invariant-loop-text g l = find (λ e. is_text e.0.now l.word) (drop l.text-index l.table) ≡ find (λ e. is_text e.0.now l.word) l.table
