use Rattle.std.proofs.Common.{map, take}
use Rattle.geo_lexer.specs.Lexemes.{word_lexeme}
use Rattle.geo_program.proofs.Spacing.{Appends}
use Rattle.geo_program.proofs.printer.push_names.Given as goal

-- the names so far
abbrev pub invariant-loop-name : goal.invariant-loop-name
invariant-loop-name l = Appends l.fn.out.items l.out.items (map (λ name. word_lexeme name.text) (take l.name-index l.names))
