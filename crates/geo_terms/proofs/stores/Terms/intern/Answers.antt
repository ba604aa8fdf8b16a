use Rattle.std.proofs.Common.{◌≡◌, ◌∙◌, true, Some, sym, ap, subst, rules}
use Rattle.std.specs.Ordering.{eq_by_cmp}
use Rattle.geo_terms.specs.contracts.nodes.NodeOrd.TheImpl.{cmp-value}
use Rattle.geo_terms.specs.declared.nodes.Node.{Node}
use Rattle.geo_terms.specs.Stores.{IsStore}
use Rattle.geo_terms.proofs.Interning.{IsInterned, interned, IsStore-interned, tree_of-interned, others-interned, pushed-interned, longer-interned, one_more-interned}
use Rattle.geo_terms.proofs.stores.Terms.intern.Goals as goal
use Rattle.geo_terms.proofs.stores.Terms.intern.Goals.{In_ok-index}

-- the derived order tells nodes that differ apart
same : (x y : Node) → eq_by_cmp (cmp-value).it x y ≡ true → x ≡ y
same x y e = search rules

self : (x : Node) → eq_by_cmp (cmp-value).it x x ≡ true
self x = search rules

is_interned : (c : In_ok-index) → IsInterned c.args.self.now c.args.node c.insert_full.new.self
is_interned c =
    subst (λ old. IsInterned old c.args.node c.insert_full.new.self) c.self.view_is
    (subst (IsInterned c.self.inside.nodes c.args.node) (sym c.in_ok-index.ensures.keys) (interned (eq_by_cmp (cmp-value).it) same self c.self.inside.nodes c.args.node))

is_store : (c : In_ok-index) → IsStore c.args.self.now
is_store c = subst IsStore c.self.view_is c.self.invariant

pub invariant_of-self-2 : goal.invariant_of-self-2
invariant_of-self-2 c = IsStore-interned (is_interned c) (is_store c) c.requires.children c.requires.integer c.requires.room

pub returns-clause-valid : goal.returns-clause-valid
returns-clause-valid c = invariant_of-self-2 c

pub returns-clause-tree : goal.returns-clause-tree
returns-clause-tree c =
    let stored = c.in_ok-index.ensures.stored in
    tree_of-interned (is_interned c) (is_store c) (record { 0 = c.in_ok-index.index }) (stored.1 ∙ ap Some (sym (same c.args.node stored.0 stored.2)))

pub returns-clause-added : goal.returns-clause-added
returns-clause-added c = pushed-interned (is_interned c)

pub returns-clause-others : goal.returns-clause-others
returns-clause-others c = others-interned (is_interned c)

pub returns-clause-longer : goal.returns-clause-longer
returns-clause-longer c = longer-interned (is_interned c)

pub returns-clause-one_more : goal.returns-clause-one_more
returns-clause-one_more c = one_more-interned (is_interned c)
