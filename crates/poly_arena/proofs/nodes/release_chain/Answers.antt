use Rattle.std.proofs.Common.{Some, List, length, ap, subst, arith}
use Rattle.poly_arena.specs.declared.nodes.Node.{Node}
use Rattle.poly_arena.specs.Nodes.{places}
use Rattle.poly_arena.specs.Inner.Changes.{IsLast}
use Rattle.poly_arena.proofs.Releasing.{last-within}
use Rattle.poly_arena.proofs.nodes.release_chain.Goals as goal

pub index_mut-requires : goal.index_mut-requires
index_mut-requires c =
    let nodes = c.args.nodes.now.items in
    omega (
      arith,
      c.deref.ensures.len,
      ap length c.deref.ensures.value,
      last-within nodes c.args.first c.in-Some.i c.end_of-last.result.0 c.in-Some.is
          (subst (λ (ns : List Node). IsLast c.end_of-last.result.0 (places ns (Some c.in-Some.i))) c.deref.ensures.value c.end_of-last.ensures.last)
          c.requires.path,
    )
