use Rattle.std.proofs.Common.{subst}
use Rattle.mono_store.specs.Monomials.{ComesFirst}
use Rattle.mono_store.specs.Stores.{store_of}
use Rattle.mono_store.proofs.Interning.{Keeps_self}
use Rattle.mono_store.proofs.Unfolding.{monomial_of-word, monomial_of-word_unfolds}
use Rattle.mono_store.proofs.links.interned.Goals as goal

pub word_before-requires-clause-first : goal.word_before-requires-clause-first
word_before-requires-clause-first c = λ within.
    subst (ComesFirst c.args.var) (monomial_of-word (store_of c.args.digits.now c.args.links.now.keys) c.args.next within) c.requires.first

pub returns-in-Some-clause-monomial : goal.returns-in-Some-clause-monomial
returns-in-Some-clause-monomial c =
    monomial_of-word_unfolds (store_of c.args.digits.now c.args.links.now.keys) (record { 0 = c.in-Some.word }) c.args.next c.args.var
    c.args.exp c.in-Some.ensures.within c.in-Some.ensures.next c.in-Some.ensures.powers

pub returns-in-Some-clause-kept : goal.returns-in-Some-clause-kept
returns-in-Some-clause-kept c = Keeps_self (store_of c.args.digits.now c.args.links.now.keys)
