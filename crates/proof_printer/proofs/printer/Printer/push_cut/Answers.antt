use Rattle.std.proofs.Common.{[], ◌∷◌, codes}
use Rattle.proof_printer.specs.Inner.Names.{naming_in}
use Rattle.proof_printer.specs.Polynomials.{factor_text, polynomial_text}
use Rattle.proof_printer.proofs.PrintedLines.{five_pieces}
use Rattle.proof_printer.proofs.printer.Printer.push_cut.Goals as goal

pub returns-clause-text : goal.returns-clause-text
returns-clause-text c = λ q t.
    let n = naming_in c.args.self.now.namer in
    five_pieces c.args.out.now.items (codes "  divide by ") (factor_text n c.args.by.now) (codes ": ") (polynomial_text n q) (10 ∷ []) _ _ _ _ _
    c.in_ok-extend_from_slice.ensures.items c.in_ok-push_factor.ensures c.in_ok-extend_from_slice-2.ensures.items (c.in_ok-after.ensures.text q t) c.in_ok-push.ensures.items
