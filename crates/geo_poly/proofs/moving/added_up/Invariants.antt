use Rattle.std.proofs.Common.{ℕ, ◌+◌, ◌<◌}
use Rattle.mono_store.specs.Stores.{count}
use Rattle.geo_poly.specs.Inner.Moved.{IsMovedKey}
use Rattle.geo_poly.proofs.moving.added_up.Given as goal

abbrev pub invariant-loop-link : goal.invariant-loop-link
invariant-loop-link g l = record {
  index : l.rest.0 < count l.p.monos.now;
  adds : (next : ℕ) → IsMovedKey l.p l.rows l.vars (g.K.MonomialKeys.keys l.keys) l.rest next
      → IsMovedKey l.p l.rows l.vars (g.K.MonomialKeys.keys l.keys) l.fn.id (next + l.sum);
}

abbrev pub decreases-loop-link : goal.decreases-loop-link
decreases-loop-link g l = l.rest.0
