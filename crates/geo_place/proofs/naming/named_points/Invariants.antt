use Rattle.std.proofs.Common.{◌≡◌, ◌++◌, drop, length, map}
use Rattle.geo_program.specs.Names.{names_of}
use Rattle.geo_program.specs.declared.names.NameKind.TheVariants as kind
use Rattle.geo_place.specs.Inner.{triple_at}
use Rattle.geo_place.proofs.naming.named_points.Given as goal

-- what is told, and then what is left, is the whole
abbrev pub invariant-loop-name : goal.invariant-loop-name
invariant-loop-name l = record {
  names : map (λ a. a.name) l.items.items ++ names_of kind.Point (drop l.name-index l.names) ≡ names_of kind.Point l.names;
  lines : map (λ a. a.line) l.items.items ++ drop (length l.items.items) l.lines ≡ l.lines;
  triples : map triple_at l.items.items ++ drop (length l.items.items) l.triples ≡ l.triples;
}
