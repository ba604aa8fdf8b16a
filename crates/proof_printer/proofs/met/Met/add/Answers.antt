use Rattle.std.proofs.Common.{◌≡◌, ◌∙◌, ℕ, ap}
use Rattle.std.specs.BTreeMap.{BTreeMap, keys}
use Rattle.std.specs.Map.{keys_of}
use Rattle.geo_poly.specs.declared.variables.Var.{Var}
use Rattle.proof_printer.proofs.MetNames.{keys_of-insert_entry}
use Rattle.proof_printer.proofs.met.Met.add.Goals as goal

pub returns-clause-keys : goal.returns-clause-keys
returns-clause-keys c =
    let kept : c.keep.new.self.places ≡ c.insert.new.self = c.keep.ensures.places in
    ap (λ (m : BTreeMap Var ℕ). keys m) kept ∙ ap keys_of c.in_ok-insert.ensures.entries
    ∙ keys_of-insert_entry c.args.self.now.places.entries c.args.variable _
