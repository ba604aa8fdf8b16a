use Rattle.std.proofs.Common.{[], ◌∷◌, refl}
use Rattle.std.proofs.lemmas.List.Elements.{All-cons, All-nil}
use Rattle.geo_poly.specs.Inner.Factored.{IsPending}
use Rattle.geo_poly.proofs.JoinedParts.{lone_room}
use Rattle.geo_poly.proofs.OrderedRuns.{first_kept}
use Rattle.geo_poly.proofs.runs.next_key.Goals as goal

pub key_of_term-requires-clause-rising : goal.key_of_term-requires-clause-rising
key_of_term-requires-clause-rising g c = c.requires.set.rising

pub key_of_term-requires-clause-index : goal.key_of_term-requires-clause-index
key_of_term-requires-clause-index g c = c.requires.pending.index

pub key_of_term-requires-clause-monomial : goal.key_of_term-requires-clause-monomial
key_of_term-requires-clause-monomial g c = c.requires.pending.monomial

pub key_of_term-requires-clause-known : goal.key_of_term-requires-clause-known
key_of_term-requires-clause-known g c = c.requires.pending.known

pub key_of_term-requires-clause-reach : goal.key_of_term-requires-clause-reach
key_of_term-requires-clause-reach g c =
    let setting = c.args.setting.now in
    let p = c.args.p.now in
    let e = c.args.term.now in
    let one = All-cons (IsPending setting p c.args.depth) e [] c.requires.pending (All-nil (IsPending setting p c.args.depth)) in
    lone_room setting p c.args.depth e (e ∷ []) refl one (g.K.MonomialKeys.keys c.args.keys.now) c.requires.reach

pub is_before-requires-clause-key : goal.is_before-requires-clause-key
is_before-requires-clause-key g c = c.in-Ok.ensures.index.within

pub is_before-requires-clause-first : goal.is_before-requires-clause-first
is_before-requires-clause-first g c =
    first_kept (g.K.MonomialKeys.keys c.args.keys.now) (g.K.MonomialKeys.keys c.key_of_term.new.keys) c.args.first c.in-Ok.ensures.kept c.requires.first

pub returns-then-is_before-clause-next : goal.returns-then-is_before-clause-next
returns-then-is_before-clause-next g c = record {
  factors = c.has_factor.ensures c.if-has_factor.false;
  is_key = c.in-Ok.ensures.index;
  powers = c.in-Ok.ensures.powers;
  before = c.is_before.ensures c.if-is_before.true;
}
