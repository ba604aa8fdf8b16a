use Rattle.std.proofs.Common.{◌≡◌, ◌==◌, cond, List, [], ◌∷◌, ◌++◌, OnOk, subst, ◌∙◌, rules}
use Rattle.std.specs.Prelude.{ℕ}
use Rattle.std.specs.Fmt.{decimal}
use Rattle.proof_log.proofs.MadeNames.{behind_starred, name_read}
use Rattle.proof_printer.specs.Inner.Names.{naming_in, starred}
use Rattle.proof_printer.specs.Naming.{variable_text}
use Rattle.proof_printer.proofs.namer.Namer.push_named_power.Goals as goal

pub returns-in_ok-extend_from_slice-in-Some : goal.returns-in_ok-extend_from_slice-in-Some
returns-in_ok-extend_from_slice-in-Some c =
    let first = c.args.first.now in
    let name = c.in-Some.name.now in
    let lookup = c.in-Some.ensures.lookup in
    let named = name_read c.args.names.now _ name (starred (naming_in c.args.self.now) first.var) lookup.0 lookup.1 c.requires in
    let bytes : c.deref.result.now ≡ name = search rules in
    let grew : c.extend_from_slice.new.self.items ≡ c.args.out.now.items ++ c.deref.result.now = search rules in
    let exponent : List ℕ = cond (first.exponent == 1) [] (94 ∷ decimal first.exponent) in
    let whole = behind_starred _ _ _ (variable_text (naming_in c.args.self.now) first.var) exponent grew (bytes ∙ named) in
    subst (λ (l : List ℕ). OnOk c.push_exponent.result (c.push_exponent.new.out.items ≡ l)) whole c.push_exponent.ensures
