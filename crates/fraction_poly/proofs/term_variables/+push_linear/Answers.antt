use Rattle.std.proofs.Common.{Some, inl, inr, refl, rules, sym, ap, subst, ◌∙◌}
use Rattle.std.specs.Prelude.{Contains, Err, IfOk, Ok, OnOk, Result}
use Rattle.std.proofs.lemmas.Result.{IfOk-weaker}
use Rattle.geo_terms.specs.declared.nodes.Node.{Node}
use Rattle.geo_terms.specs.declared.nodes.Node.TheVariants.{Neg, Add, Sub}
use Rattle.geo_terms.specs.Stores.{tree_of, trees_of}
use Rattle.fraction_poly.specs.Inner.Numerators.{IsLinear}
use Rattle.fraction_poly.specs.Inner.Parts.{IsPart}
use Rattle.fraction_poly.proofs.Leaves.{linear_longer}
use Rattle.fraction_poly.proofs.LinearTerms.{linear_at}
use Rattle.fraction_poly.proofs.SmallTerms.{part_stored}
use Rattle.fraction_poly.proofs.term_variables.+push_linear.Goals as goal

joined : {T E : Type 0} (r : Result T E) (P R : T → Type 0) (Q : Type 0) → IfOk r P → OnOk r Q → ((x : T) → P x → Q → R x) → IfOk r R
joined (Ok x) P R Q p q f = f x p q
joined (Err e) P R Q p q f = tt

pub push_linear-requires : goal.push_linear-requires
push_linear-requires t c = (
  search rules,
  (part_stored c.args.terms.now c.requires.valid c.args.id (Neg c.in-Neg.e) c.in-Neg.ensures c.in-Neg.e refl, c.requires.valid),
)

pub push_linear-requires-in-Add : goal.push_linear-requires-in-Add
push_linear-requires-in-Add t c =
    let e = c.in-Add.e in
    let part : IsPart c.node.result e = elim c.in-Add.is [
      | inl is ↦ subst (λ (n : Node). IsPart n e) (sym is) (inl refl)
      | inr is ↦ subst (λ (n : Node). IsPart n e) (sym is) (inl refl)
    ] in
    (search rules, (part_stored c.args.terms.now c.requires.valid c.args.id c.node.result c.node.ensures e part, c.requires.valid))

pub push_linear-requires-in-Add-2 : goal.push_linear-requires-in-Add-2
push_linear-requires-in-Add-2 t c =
    let f = c.in-Add.f in
    let part : IsPart c.node.result f = elim c.in-Add.is [
      | inl is ↦ subst (λ (n : Node). IsPart n f) (sym is) (inr refl)
      | inr is ↦ subst (λ (n : Node). IsPart n f) (sym is) (inr refl)
    ] in
    (search rules, (part_stored c.args.terms.now c.requires.valid c.args.id c.node.result c.node.ensures f part, c.requires.valid))

pub returns-in-Neg-clause-linear : goal.returns-in-Neg-clause-linear
returns-in-Neg-clause-linear t c =
    IfOk-weaker c.push_linear.result _ _
    (λ linear h yes. linear_at c.args.terms.now c.args.id (Neg c.in-Neg.e) c.requires.valid c.in-Neg.ensures c.push_linear.new.variables.items (h yes))
    c.push_linear.ensures.linear

pub returns-else-not-branch-clause-linear : goal.returns-else-not-branch-clause-linear
returns-else-not-branch-clause-linear t c =
    let nodes = c.args.terms.now in
    let e = c.in-Add.e in
    let f = c.in-Add.f in
    let middle = c.push_linear-in-Add.new.variables.items in
    let new = c.push_linear-in-Add-2.new.variables.items in
    let left : IsLinear (Contains middle) (tree_of nodes e) = c.in_ok-push_linear-in-Add.ensures.linear (search rules) in
    joined c.push_linear-in-Add-2.result _ _ _ c.push_linear-in-Add-2.ensures.linear c.push_linear-in-Add-2.ensures.kept
    (λ linear right more yes. elim c.in-Add.is [
      | inl is ↦ linear_at nodes c.args.id (Add e f) c.requires.valid (c.node.ensures ∙ ap Some is) new (linear_longer middle new more (tree_of nodes e) left, right yes)
      | inr is ↦ linear_at nodes c.args.id (Sub e f) c.requires.valid (c.node.ensures ∙ ap Some is) new (linear_longer middle new more (tree_of nodes e) left, right yes)
    ])

pub returns-in_default-clause-linear : goal.returns-in_default-clause-linear
returns-in_default-clause-linear t c =
    let nodes = c.args.terms.now in
    IfOk-weaker c.push_leaf.result _ _
    (λ leaf h yes. linear_at nodes c.args.id c.node-in_default.result c.requires.valid c.node-in_default.ensures c.push_leaf.new.variables.items
    (h yes (trees_of nodes)))
    c.push_leaf.ensures.linear
