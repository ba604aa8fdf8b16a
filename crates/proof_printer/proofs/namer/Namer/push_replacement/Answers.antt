use Rattle.std.proofs.Common.{◌≡◌, ◌++◌, [], ◌∷◌, codes, rules}
use Rattle.std.specs.List.{flat_map}
use Rattle.proof_printer.specs.Inner.Names.{naming_in}
use Rattle.proof_printer.specs.Polynomials.{polynomial_text}
use Rattle.proof_printer.specs.Readable.{ended, row_text}
use Rattle.proof_printer.proofs.PrintedLines.{four_pieces}
use Rattle.proof_printer.proofs.namer.Namer.push_replacement.Goals as goal

pub returns-clause-text : goal.returns-clause-text
returns-clause-text c = λ r t.
    let n = naming_in c.args.self.now in
    let made = c.args.made.now in
    let rows : c.push_rows.new.out.items ≡ c.args.out.now.items ++ flat_map (λ row. ended (row_text n made.den.poly row)) made.rows = search rules in
    four_pieces c.args.out.now.items (flat_map (λ row. ended (row_text n made.den.poly row)) made.rows) (codes "  gives ") (polynomial_text n r) (10 ∷ []) _ _ _ _
    rows c.in_ok-extend_from_slice.ensures.items (c.in_ok-after.ensures.text r t) c.in_ok-push.ensures.items
