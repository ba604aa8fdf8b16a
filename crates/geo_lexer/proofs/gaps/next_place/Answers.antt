use Rattle.std.proofs.Common.{drop, take, subst, arith, length-drop}
use Rattle.geo_lexer.proofs.GapLemmas.{Leaves, Leaves-gap, Leaves-last}
use Rattle.geo_lexer.proofs.gaps.next_place.Goals as goal

-- the bytes before one that is neither a blank nor in a comment are a gap
pub returns-then-not-is_blank-clause-gap : goal.returns-then-not-is_blank-clause-gap
returns-then-not-is_blank-clause-gap c =
    let bytes = c.args.bytes.now in
    let start = c.args.start in
    Leaves-gap bytes start c.loop-i.i (omega arith)
    (subst (Leaves (take c.loop-i.i (drop start bytes))) c.if-inside.false c.loop-i.invariant)

-- all bytes were read
pub returns-clause-none : goal.returns-clause-none
returns-clause-none c =
    let bytes = c.args.bytes.now in
    let start = c.args.start in
    λ _. Leaves-last bytes start c.loop-i.i c.loop-i.inside c.requires (omega (arith, length-drop start bytes)) c.loop-i.invariant
