use Rattle.std.proofs.Common.{◌∙◌, List, ℕ, sym, ap}
use Rattle.std.specs.Borrow.{Bor}
use Rattle.std.specs.Option.{option_map}
use Rattle.std.proofs.lemmas.Option.{slice_get-map}
use Rattle.proof_printer.proofs.Lookups.{looked_up}
use Rattle.proof_printer.proofs.name_list.name_there.Goals as goal

pub returns : goal.returns
returns c =
    let text : Bor (List ℕ) → List ℕ = λ name. name.now in
    let place = c.args.place in
    let read = c.copied.ensures ∙ looked_up c.get.result c.args.names.now place c.get.ensures.lookup.0 c.get.ensures.lookup.1 in
    ap (option_map text) read ∙ sym (slice_get-map text c.args.names.now place)
