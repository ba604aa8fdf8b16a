use Rattle.std.proofs.Common.{ℕ, List, ◌++◌, sym, subst, String, Global}
use Rattle.geo_cli.specs.Orders.{IsOrder, IsRow}
use Rattle.geo_cli.specs.Words.{bytes_of_words}
use Rattle.geo_cli.specs.declared.order.Order.{Order}
use Rattle.geo_cli.proofs.OrderLemmas.{one_order, order_cut, placed_of, same_order}
use Rattle.geo_cli.proofs.order.order_of.Goals as goal

pub returns-in_err-steps-clause-complete : goal.returns-in_err-steps-clause-complete
returns-in_err-steps-clause-complete c = λ order is.
    let cut = order_cut _ _ _ _ order c.as_slice.ensures.value c.cut.ensures.front c.cut.ensures.tail is in
    absurd (c.in_err-steps.ensures.complete order.steps cut.back cut.splits)

pub returns-in_err-steps-clause-one : goal.returns-in_err-steps-clause-one
returns-in_err-steps-clause-one c = one_order _ _ (returns-in_err-steps-clause-complete c)

pub returns-in_err-command-clause-complete : goal.returns-in_err-command-clause-complete
returns-in_err-command-clause-complete c = λ order is.
    let cut = order_cut _ _ _ _ order c.as_slice.ensures.value c.cut.ensures.front c.cut.ensures.tail is in
    let told = c.in_ok-steps.ensures.complete order.steps cut.back cut.splits in
    let row = subst (λ (back : List (List ℕ)). IsRow (bytes_of_words c.cut.result.0.now ++ back) order.command) (sym told.1) cut.row in
    let named = c.in_err-command.ensures.complete order.command row in
    absurd (cc)

pub returns-in_err-command-clause-one : goal.returns-in_err-command-clause-one
returns-in_err-command-clause-one c = one_order _ _ (returns-in_err-command-clause-complete c)

pub returns-clause-given : goal.returns-clause-given
returns-clause-given c =
    let told = c.in_ok-steps.ensures.told in
    let order : Order = record { command = c.in_ok-command.command; steps = c.in_ok-steps.steps } in
    let is : IsOrder (bytes_of_words c.as_slice.result.now) order = record {
      front = bytes_of_words c.cut.result.0.now;
      option = told.option;
      back = bytes_of_words c.in_ok-steps.back.now;
      placed = placed_of _ _ _ told.option (bytes_of_words c.in_ok-steps.back.now) c.cut.ensures.front c.cut.ensures.tail told.joined;
      steps = told.told;
      row = c.in_ok-command.ensures.row;
    } in
    subst (λ (ws : List (String Global)). IsOrder (bytes_of_words ws) order) c.as_slice.ensures.value is

pub returns-clause-complete : goal.returns-clause-complete
returns-clause-complete c = λ order is.
    let cut = order_cut _ _ _ _ order c.as_slice.ensures.value c.cut.ensures.front c.cut.ensures.tail is in
    let told = c.in_ok-steps.ensures.complete order.steps cut.back cut.splits in
    let row = subst (λ (back : List (List ℕ)). IsRow (bytes_of_words c.cut.result.0.now ++ back) order.command) (sym told.1) cut.row in
    same_order _ _ order (c.in_ok-command.ensures.complete order.command row) told.0

pub returns-clause-one : goal.returns-clause-one
returns-clause-one c = one_order _ _ (returns-clause-complete c)
