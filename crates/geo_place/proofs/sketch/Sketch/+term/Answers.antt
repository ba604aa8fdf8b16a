use mir.Syntax.{w128}
use Rattle.std.proofs.Common.{◌<◌, ◌^◌, unsigned_abs, subst, arith}
use Rattle.std.specs.Prelude.{Ok}
use Rattle.std.proofs.lemmas.Int.{fits_signed_from_abs, to_z-of_z}
use Rattle.ring_laws.specs.Fraction.{whole}
use Rattle.frac_laws.specs.Numbers.{IsNumber}
use Rattle.geo_terms.specs.declared.nodes.Node.TheVariants as node
use Rattle.geo_terms.specs.Stores.{tree_of}
use Rattle.geo_place.specs.Formulas.{reckoned}
use Rattle.geo_place.specs.Inner.{placement_of}
use Rattle.geo_place.proofs.ResultLaws.{known_result}
use Rattle.geo_place.proofs.TermParts.{of_node}
use Rattle.geo_place.proofs.sketch.Sketch.+term.Goals as goal

pub whole_number-requires : goal.whole_number-requires
whole_number-requires t c =
    let n = c.in-Int.n in
    let short : unsigned_abs n < 2 ^ 127 = c.len.ensures.valid.integers c.args.e.0 (node.Int n) c.in-Int.ensures in
    rw (to_z-of_z w128 n (fits_signed_from_abs w128 n short)) short

pub term-requires : goal.term-requires
term-requires t c =
    let below : c.in-Neg.f.0 < c.args.e.0 = c.len.ensures.valid.children c.args.e.0 (node.Neg c.in-Neg.f) c.in-Neg.ensures in
    (omega (arith, below), omega (arith, below, c.requires))

pub term-requires-in-Add : goal.term-requires-in-Add
term-requires-in-Add t c =
    let below : c.in-Add.f.0 < c.args.e.0 = (c.len.ensures.valid.children c.args.e.0 (node.Add c.in-Add.f c.in-Add.g) c.in-Add.ensures).0 in
    (omega (arith, below), omega (arith, below, c.requires))

pub term-requires-in-Add-2 : goal.term-requires-in-Add-2
term-requires-in-Add-2 t c =
    let below : c.in-Add.g.0 < c.args.e.0 = (c.len.ensures.valid.children c.args.e.0 (node.Add c.in-Add.f c.in-Add.g) c.in-Add.ensures).1 in
    (omega (arith, below), omega (arith, below, c.requires))

pub term-requires-in-Sub : goal.term-requires-in-Sub
term-requires-in-Sub t c =
    let below : c.in-Sub.f.0 < c.args.e.0 = (c.len.ensures.valid.children c.args.e.0 (node.Sub c.in-Sub.f c.in-Sub.g) c.in-Sub.ensures).0 in
    (omega (arith, below), omega (arith, below, c.requires))

pub term-requires-in-Sub-2 : goal.term-requires-in-Sub-2
term-requires-in-Sub-2 t c =
    let below : c.in-Sub.g.0 < c.args.e.0 = (c.len.ensures.valid.children c.args.e.0 (node.Sub c.in-Sub.f c.in-Sub.g) c.in-Sub.ensures).1 in
    (omega (arith, below), omega (arith, below, c.requires))

pub term-requires-in-Mul : goal.term-requires-in-Mul
term-requires-in-Mul t c =
    let below : c.in-Mul.f.0 < c.args.e.0 = (c.len.ensures.valid.children c.args.e.0 (node.Mul c.in-Mul.f c.in-Mul.g) c.in-Mul.ensures).0 in
    (omega (arith, below), omega (arith, below, c.requires))

pub term-requires-in-Mul-2 : goal.term-requires-in-Mul-2
term-requires-in-Mul-2 t c =
    let below : c.in-Mul.g.0 < c.args.e.0 = (c.len.ensures.valid.children c.args.e.0 (node.Mul c.in-Mul.f c.in-Mul.g) c.in-Mul.ensures).1 in
    (omega (arith, below), omega (arith, below, c.requires))

pub term-requires-in-Div : goal.term-requires-in-Div
term-requires-in-Div t c =
    let below : c.in-Div.f.0 < c.args.e.0 = (c.len.ensures.valid.children c.args.e.0 (node.Div c.in-Div.f c.in-Div.g) c.in-Div.ensures).0 in
    (omega (arith, below), omega (arith, below, c.requires))

pub term-requires-in-Div-2 : goal.term-requires-in-Div-2
term-requires-in-Div-2 t c =
    let below : c.in-Div.g.0 < c.args.e.0 = (c.len.ensures.valid.children c.args.e.0 (node.Div c.in-Div.f c.in-Div.g) c.in-Div.ensures).1 in
    (omega (arith, below), omega (arith, below, c.requires))

pub returns-in-Int : goal.returns-in-Int
returns-in-Int t c =
    let n = c.in-Int.n in
    let short : unsigned_abs n < 2 ^ 127 = c.len.ensures.valid.integers c.args.e.0 (node.Int n) c.in-Int.ensures in
    let is = subst (λ z. IsNumber c.whole_number.result (whole z)) (to_z-of_z w128 n (fits_signed_from_abs w128 n short)) c.whole_number.ensures in
    of_node (placement_of c.args.self.now) c.args.terms.now c.args.e (node.Int n) (Ok c.whole_number.result) c.len.ensures.valid c.in-Int.ensures
    (known_result c.whole_number.result (whole n) is)

pub returns-in-Param : goal.returns-in-Param
returns-in-Param t c =
    of_node (placement_of c.args.self.now) c.args.terms.now c.args.e (node.Param c.in-Param.t) (Ok c.number.result) c.len.ensures.valid c.in-Param.ensures
    (known_result c.number.result ((placement_of c.args.self.now).number c.in-Param.t.0) c.number.ensures)

pub returns-in-S : goal.returns-in-S
returns-in-S t c =
    of_node (placement_of c.args.self.now) c.args.terms.now c.args.e (node.S c.in-S.a c.in-S.b c.in-S.c) c.area.result c.len.ensures.valid c.in-S.ensures
    (c.area.ensures ((placement_of c.args.self.now).point c.in-S.a.0) ((placement_of c.args.self.now).point c.in-S.b.0)
    ((placement_of c.args.self.now).point c.in-S.c.0) c.point.ensures c.point-in-S.ensures c.point-in-S-2.ensures)

pub returns-in-P : goal.returns-in-P
returns-in-P t c =
    of_node (placement_of c.args.self.now) c.args.terms.now c.args.e (node.P c.in-P.a c.in-P.b c.in-P.c) c.pythagoras.result c.len.ensures.valid c.in-P.ensures
    (c.pythagoras.ensures ((placement_of c.args.self.now).point c.in-P.a.0) ((placement_of c.args.self.now).point c.in-P.b.0)
    ((placement_of c.args.self.now).point c.in-P.c.0) c.point-in-P.ensures c.point-in-P-2.ensures c.point-in-P-3.ensures)

pub returns-in-R : goal.returns-in-R
returns-in-R t c =
    of_node (placement_of c.args.self.now) c.args.terms.now c.args.e (node.R c.in-R.a c.in-R.b c.in-R.c c.in-R.d) c.ratio.result c.len.ensures.valid c.in-R.ensures
    (c.ratio.ensures ((placement_of c.args.self.now).point c.in-R.a.0) ((placement_of c.args.self.now).point c.in-R.b.0)
    ((placement_of c.args.self.now).point c.in-R.c.0)
    ((placement_of c.args.self.now).point c.in-R.d.0) c.point-a.ensures c.point-b.ensures c.point-c.ensures c.point-d.ensures)

pub returns-in-Neg : goal.returns-in-Neg
returns-in-Neg t c =
    of_node (placement_of c.args.self.now) c.args.terms.now c.args.e (node.Neg c.in-Neg.f) c.opposite_of.result c.len.ensures.valid c.in-Neg.ensures
    (c.opposite_of.ensures (reckoned (placement_of c.args.self.now) (tree_of c.args.terms.now c.in-Neg.f)) c.term.ensures)

pub returns-in-Add : goal.returns-in-Add
returns-in-Add t c =
    of_node (placement_of c.args.self.now) c.args.terms.now c.args.e (node.Add c.in-Add.f c.in-Add.g) c.sum_of.result c.len.ensures.valid c.in-Add.ensures
    (c.sum_of.ensures (reckoned (placement_of c.args.self.now) (tree_of c.args.terms.now c.in-Add.f))
    (reckoned (placement_of c.args.self.now) (tree_of c.args.terms.now c.in-Add.g)) c.term-in-Add.ensures c.term-in-Add-2.ensures)

pub returns-in-Sub : goal.returns-in-Sub
returns-in-Sub t c =
    of_node (placement_of c.args.self.now) c.args.terms.now c.args.e (node.Sub c.in-Sub.f c.in-Sub.g) c.difference_of.result c.len.ensures.valid c.in-Sub.ensures
    (c.difference_of.ensures (reckoned (placement_of c.args.self.now) (tree_of c.args.terms.now c.in-Sub.f))
    (reckoned (placement_of c.args.self.now) (tree_of c.args.terms.now c.in-Sub.g)) c.term-in-Sub.ensures c.term-in-Sub-2.ensures)

pub returns-in-Mul : goal.returns-in-Mul
returns-in-Mul t c =
    of_node (placement_of c.args.self.now) c.args.terms.now c.args.e (node.Mul c.in-Mul.f c.in-Mul.g) c.product_of.result c.len.ensures.valid c.in-Mul.ensures
    (c.product_of.ensures (reckoned (placement_of c.args.self.now) (tree_of c.args.terms.now c.in-Mul.f))
    (reckoned (placement_of c.args.self.now) (tree_of c.args.terms.now c.in-Mul.g)) c.term-in-Mul.ensures c.term-in-Mul-2.ensures)

pub returns-in-Div : goal.returns-in-Div
returns-in-Div t c =
    of_node (placement_of c.args.self.now) c.args.terms.now c.args.e (node.Div c.in-Div.f c.in-Div.g) c.quotient_of.result c.len.ensures.valid c.in-Div.ensures
    (c.quotient_of.ensures (reckoned (placement_of c.args.self.now) (tree_of c.args.terms.now c.in-Div.f))
    (reckoned (placement_of c.args.self.now) (tree_of c.args.terms.now c.in-Div.g)) c.term-in-Div.ensures c.term-in-Div-2.ensures)
