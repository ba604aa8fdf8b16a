use Rattle.std.proofs.Common.{sym, subst}
use Rattle.geo_terms.specs.Trees.{parameter_leaf}
use Rattle.geo_program.specs.declared.commands.Command.{Command}
use Rattle.geo_lowering.specs.Lowering.{command_steps, half_tree, one_tree}
use Rattle.geo_lowering.specs.Parts.{layout_at}
use Rattle.geo_lowering.specs.Inner.StepLists.{HaveForms}
use Rattle.geo_lowering.specs.Inner.StepNumbers.{IsTerm, own_number, second_number_tree}
use Rattle.std.proofs.lemmas.Result.{IfOk-weaker}
use Rattle.geo_lowering.proofs.step_lists.StepLists.list.Goals as goal

pub returns-in-Intersec : goal.returns-in-Intersec
returns-in-Intersec c =
    IfOk-weaker c.crossing_lines.result _ _
    (λ list h nodes source m fs own other.
    subst (λ (k : Command). HaveForms nodes (command_steps c.args.self.now.version (layout_at c.args.self.now.places.now) source c.args.self.now.next m k) list.items) (sym c.in-Intersec.is)
    (h nodes))
    c.crossing_lines.ensures

pub returns-in-Inter : goal.returns-in-Inter
returns-in-Inter c =
    IfOk-weaker c.crossing.result _ _
    (λ list h nodes source m fs own other.
    subst (λ (k : Command). HaveForms nodes (command_steps c.args.self.now.version (layout_at c.args.self.now.places.now) source c.args.self.now.next m k) list.items) (sym c.in-Inter.is)
    (h nodes))
    c.crossing.ensures

pub returns-in-Foot : goal.returns-in-Foot
returns-in-Foot c =
    IfOk-weaker c.foot.result _ _
    (λ list h nodes source m fs own other.
    subst (λ (k : Command). HaveForms nodes (command_steps c.args.self.now.version (layout_at c.args.self.now.places.now) source c.args.self.now.next m k) list.items) (sym c.in-Foot.is)
    (h nodes))
    c.foot.ensures

pub returns-in-Pratio : goal.returns-in-Pratio
returns-in-Pratio c =
    IfOk-weaker c.along.result _ _
    (λ list h nodes source m fs own other.
    subst (λ (k : Command). HaveForms nodes (command_steps c.args.self.now.version (layout_at c.args.self.now.places.now) source c.args.self.now.next m k) list.items) (sym c.in-Pratio.is)
    (h nodes _ (subst (λ (k : Command). IsTerm nodes (own_number (layout_at c.args.self.now.places.now) source m k) c.args.self.now.number) c.in-Pratio.is own)))
    c.along.ensures

pub returns-in-Tratio : goal.returns-in-Tratio
returns-in-Tratio c =
    IfOk-weaker c.turned.result _ _
    (λ list h nodes source m fs own other.
    subst (λ (k : Command). HaveForms nodes (command_steps c.args.self.now.version (layout_at c.args.self.now.places.now) source c.args.self.now.next m k) list.items) (sym c.in-Tratio.is)
    (h nodes _ (subst (λ (k : Command). IsTerm nodes (own_number (layout_at c.args.self.now.places.now) source m k) c.args.self.now.number) c.in-Tratio.is own)))
    c.turned.ensures

pub returns-in-Midpoint : goal.returns-in-Midpoint
returns-in-Midpoint c =
    IfOk-weaker c.along-in-Midpoint.result _ _
    (λ list h nodes source m fs own other.
    subst (λ (k : Command). HaveForms nodes (command_steps c.args.self.now.version (layout_at c.args.self.now.places.now) source c.args.self.now.next m k) list.items) (sym c.in-Midpoint.is)
    (h nodes half_tree fs.half))
    c.along-in-Midpoint.ensures

pub returns-in-Translate : goal.returns-in-Translate
returns-in-Translate c =
    IfOk-weaker c.along-in-Translate.result _ _
    (λ list h nodes source m fs own other.
    subst (λ (k : Command). HaveForms nodes (command_steps c.args.self.now.version (layout_at c.args.self.now.places.now) source c.args.self.now.next m k) list.items) (sym c.in-Translate.is)
    (h nodes one_tree fs.one))
    c.along-in-Translate.ensures

pub returns-in-Symmetric : goal.returns-in-Symmetric
returns-in-Symmetric c =
    IfOk-weaker c.along-in-Symmetric.result _ _
    (λ list h nodes source m fs own other.
    subst (λ (k : Command). HaveForms nodes (command_steps c.args.self.now.version (layout_at c.args.self.now.places.now) source c.args.self.now.next m k) list.items) (sym c.in-Symmetric.is)
    (h nodes one_tree fs.one))
    c.along-in-Symmetric.ensures

pub returns-in-Orthocenter : goal.returns-in-Orthocenter
returns-in-Orthocenter c =
    IfOk-weaker c.orthocenter.result _ _
    (λ list h nodes source m fs own other.
    subst (λ (k : Command). HaveForms nodes (command_steps c.args.self.now.version (layout_at c.args.self.now.places.now) source c.args.self.now.next m k) list.items) (sym c.in-Orthocenter.is)
    (h nodes))
    c.orthocenter.ensures

pub returns-in-Oncircle : goal.returns-in-Oncircle
returns-in-Oncircle c =
    IfOk-weaker c.on_circle.result _ _
    (λ list h nodes source m fs own other.
    subst (λ (k : Command). HaveForms nodes (command_steps c.args.self.now.version (layout_at c.args.self.now.places.now) source c.args.self.now.next m k) list.items) (sym c.in-Oncircle.is)
    (h nodes (parameter_leaf (record { 0 = m })) fs (subst (λ (k : Command). IsTerm nodes (own_number (layout_at c.args.self.now.places.now) source m k) c.args.self.now.number) c.in-Oncircle.is own)))
    c.on_circle.ensures

pub returns-in-Inverse : goal.returns-in-Inverse
returns-in-Inverse c =
    IfOk-weaker c.along-in-Inverse.result _ _
    (λ list h nodes source m fs own other.
    subst (λ (k : Command). HaveForms nodes (command_steps c.args.self.now.version (layout_at c.args.self.now.places.now) source c.args.self.now.next m k) list.items) (sym c.in-Inverse.is)
    (h nodes _ (subst (λ (k : Command). IsTerm nodes (own_number (layout_at c.args.self.now.places.now) source m k) c.args.self.now.number) c.in-Inverse.is own)))
    c.along-in-Inverse.ensures

pub returns-in-Online : goal.returns-in-Online
returns-in-Online c =
    IfOk-weaker c.along-in-Online.result _ _
    (λ list h nodes source m fs own other.
    subst (λ (k : Command). HaveForms nodes (command_steps c.args.self.now.version (layout_at c.args.self.now.places.now) source c.args.self.now.next m k) list.items) (sym c.in-Online.is)
    (h nodes _ (subst (λ (k : Command). IsTerm nodes (own_number (layout_at c.args.self.now.places.now) source m k) c.args.self.now.number) c.in-Online.is own)))
    c.along-in-Online.ensures

pub returns-in-Lratio : goal.returns-in-Lratio
returns-in-Lratio c =
    IfOk-weaker c.along-in-Lratio.result _ _
    (λ list h nodes source m fs own other.
    subst (λ (k : Command). HaveForms nodes (command_steps c.args.self.now.version (layout_at c.args.self.now.places.now) source c.args.self.now.next m k) list.items) (sym c.in-Lratio.is)
    (h nodes _ (subst (λ (k : Command). IsTerm nodes (own_number (layout_at c.args.self.now.places.now) source m k) c.args.self.now.number) c.in-Lratio.is own)))
    c.along-in-Lratio.ensures

pub returns-in-Weights : goal.returns-in-Weights
returns-in-Weights c =
    IfOk-weaker c.weights.result _ _
    (λ list h nodes source m fs own other.
    subst (λ (k : Command). HaveForms nodes (command_steps c.args.self.now.version (layout_at c.args.self.now.places.now) source c.args.self.now.next m k) list.items) (sym c.in-Weights.is)
    (h nodes _ _ (subst (λ (k : Command). IsTerm nodes (own_number (layout_at c.args.self.now.places.now) source m k) c.args.self.now.number) c.in-Weights.is own)
    (subst (λ (k : Command). IsTerm nodes (second_number_tree (layout_at c.args.self.now.places.now) source k) c.args.self.now.second) c.in-Weights.is other)))
    c.weights.ensures
