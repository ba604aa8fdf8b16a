use Rattle.std.proofs.Common.{◌≡◌, ◌<◌, length, rules, arith}
use Rattle.mono_store.specs.Stores.{monomial_of}
use Rattle.mono_store.proofs.Unfolding.{monomial_of-one}
use Rattle.geo_poly.proofs.MarkedVariables.{Extends-mark, Walking-end, Walking-known, Walking-next, Walking-start, only_more, rest_index}
use Rattle.geo_poly.proofs.polynomial_variables.mark_powers.Goals as goal

pub loop-link-init : goal.loop-link-init
loop-link-init c = record {
  index = c.requires.index;
  room = c.requires.room;
  kept = λ k there. there;
  walking = Walking-start c.args.p.now.monos.now c.args.visited.now.items c.args.known.now.items c.args.id c.requires.visited;
  only = λ keys all known. (known, all);
}

pub loop-link-preserved : goal.loop-link-preserved
loop-link-preserved c =
    let vars = c.args.p.now.vars.now in
    let store = c.args.p.now.monos.now in
    let known = c.loop-link.known.items in
    let known' = c.mark.new.visited.items in
    let link = c.in-Some.link in
    let parts = c.in-Some.ensures.monomial in
    let rest = rest_index vars store c.loop-link.rest link.next link.var link.exp parts c.in-Some.ensures.earlier c.loop-link.invariant.index in
    let within : link.var < length known = omega (arith, rest.1, c.loop-link.invariant.room) in
    let more = Extends-mark known known' link.var within c.mark.ensures.here c.mark.ensures.others in
    record {
      index = rest.0;
      room = omega (arith, c.mark.ensures.length, c.loop-link.invariant.room);
      kept = λ k there. more k (c.loop-link.invariant.kept k there);
      walking = Walking-next store c.loop-link.visited.items c.mark_link.new.visited.items known c.loop-link.rest.0 c.args.id c.words-words.result
          c.words-words.ensures.count c.mark_link.ensures.more c.loop-link.invariant.walking known' link.next.0 link.var link.exp
          c.in-Some.ensures.earlier more (c.mark.ensures.here within) parts;
      only = λ keys all old.
          only_more vars known known' keys (monomial_of store c.loop-link.rest) (monomial_of store link.next) link.var link.exp parts
          c.mark.ensures.others (c.loop-link.invariant.only keys all old);
    }

pub returns-then-mark_link-clause-marked : goal.returns-then-mark_link-clause-marked
returns-then-mark_link-clause-marked c =
    let met = c.mark_link.ensures.before c.if-mark_link.true in
    (Walking-known c.args.p.now.monos.now c.loop-link.visited.items c.mark_link.new.visited.items c.loop-link.known.items c.loop-link.rest.0
    c.args.id c.words-words.result c.words-words.ensures.count c.mark_link.ensures.more c.loop-link.invariant.walking met.0 met.1).1

pub returns-then-mark_link-clause-visited : goal.returns-then-mark_link-clause-visited
returns-then-mark_link-clause-visited c =
    let met = c.mark_link.ensures.before c.if-mark_link.true in
    (Walking-known c.args.p.now.monos.now c.loop-link.visited.items c.mark_link.new.visited.items c.loop-link.known.items c.loop-link.rest.0
    c.args.id c.words-words.result c.words-words.ensures.count c.mark_link.ensures.more c.loop-link.invariant.walking met.0 met.1).0

pub returns-clause-marked : goal.returns-clause-marked
returns-clause-marked c =
    let store = c.args.p.now.monos.now in
    let last : c.loop-link.rest.0 ≡ 0 = search rules in
    (Walking-end store c.loop-link.visited.items c.loop-link.known.items c.loop-link.rest.0 c.args.id
    (monomial_of-one store c.loop-link.rest last) c.loop-link.invariant.walking).1

pub returns-clause-visited : goal.returns-clause-visited
returns-clause-visited c =
    let store = c.args.p.now.monos.now in
    let last : c.loop-link.rest.0 ≡ 0 = search rules in
    (Walking-end store c.loop-link.visited.items c.loop-link.known.items c.loop-link.rest.0 c.args.id
    (monomial_of-one store c.loop-link.rest last) c.loop-link.invariant.walking).0
