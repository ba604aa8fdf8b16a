use Rattle.std.proofs.Common.{◌≡◌, ◌++◌, [], sym, subst}
use Rattle.std.specs.Prelude.{OnOk}
use Rattle.geo_poly.specs.Polynomials.{Summands}
use Rattle.geo_logs.specs.declared.moves.Move.{Move}
use Rattle.elim_apply.specs.Replacements.{CanMove}
use Rattle.proof_log.specs.declared.log.Line.{Line}
use Rattle.proof_log.specs.declared.log.Line.TheVariants.{Start, Ratio, Point, Coords, Cut}
use Rattle.proof_printer.specs.Inner.Heads.{IsStep}
use Rattle.proof_printer.specs.Inner.Names.{naming_in}
use Rattle.proof_printer.specs.Inner.Printing.{CanPrint}
use Rattle.proof_printer.specs.Readable.{move_lines}
use Rattle.proof_printer.proofs.PrintedSteps.{kept_as, text_as}
use Rattle.proof_printer.proofs.printer.Printer.push_step.Goals as goal

pub returns-in-Start-clause-text : goal.returns-in-Start-clause-text
returns-in-Start-clause-text c = λ q l due step.
    let s = subst (λ (h : Line). IsStep h c.args.text.now l) c.in-Start.is step in
    text_as (naming_in c.args.self.now.namer) c.args.self.now.steps c.push_start.result c.args.out.now.items c.push_start.new.out.items q l (Start s.0) s.1 (c.push_start.ensures.text s.0 s.2)

pub returns-in-Start-clause-kept : goal.returns-in-Start-clause-kept
returns-in-Start-clause-kept c = λ q l due step.
    let s = subst (λ (h : Line). IsStep h c.args.text.now l) c.in-Start.is step in
    kept_as c.push_start.result q l (Start s.0) s.1 (c.push_start.ensures.kept s.0 s.2)

pub returns-in-Cut-clause-text : goal.returns-in-Cut-clause-text
returns-in-Cut-clause-text c = λ q l due step.
    let s = subst (λ (h : Line). IsStep h c.args.text.now l) c.in-Cut.is step in
    text_as (naming_in c.args.self.now.namer) c.args.self.now.steps c.push_cut.result c.args.out.now.items c.push_cut.new.out.items q l (Cut c.in-Cut.by s.0) s.1 (c.push_cut.ensures.text s.0 s.2)

pub returns-in-Cut-clause-kept : goal.returns-in-Cut-clause-kept
returns-in-Cut-clause-kept c = λ q l due step.
    let s = subst (λ (h : Line). IsStep h c.args.text.now l) c.in-Cut.is step in
    kept_as c.push_cut.result q l (Cut c.in-Cut.by s.0) s.1 (c.push_cut.ensures.kept s.0 s.2)

pub push_move-requires : goal.push_move-requires
push_move-requires c =
    let steps = c.args.self.now.steps in
    let q = c.requires.0 in
    let s = subst (λ (h : Line). IsStep h c.args.text.now c.requires.1) c.in-Ratio.is c.requires.3 in
    let can = subst (CanPrint steps q) s.1 c.requires.2.can in
    (q, c.requires.2.kept, c.requires.2.writable.polynomial, subst (CanMove steps q) (sym c.ratio_move.ensures) can)

pub push_move-requires-in-Point : goal.push_move-requires-in-Point
push_move-requires-in-Point c =
    let steps = c.args.self.now.steps in
    let q = c.requires.0 in
    let s = subst (λ (h : Line). IsStep h c.args.text.now c.requires.1) c.in-Point.is c.requires.3 in
    (q, c.requires.2.kept, c.requires.2.writable.polynomial, subst (CanPrint steps q) s.1 c.requires.2.can)

pub push_move-requires-in-Coords : goal.push_move-requires-in-Coords
push_move-requires-in-Coords c =
    let steps = c.args.self.now.steps in
    let q = c.requires.0 in
    let s = subst (λ (h : Line). IsStep h c.args.text.now c.requires.1) c.in-Coords.is c.requires.3 in
    (q, c.requires.2.kept, c.requires.2.writable.polynomial, subst (CanPrint steps q) s.1 c.requires.2.can)

pub returns-in-Ratio-clause-text : goal.returns-in-Ratio-clause-text
returns-in-Ratio-clause-text c = λ q l due step.
    let n = naming_in c.args.self.now.namer in
    let steps = c.args.self.now.steps in
    let s = subst (λ (h : Line). IsStep h c.args.text.now l) c.in-Ratio.is step in
    let can = subst (CanMove steps q) (sym c.ratio_move.ensures) (subst (CanPrint steps q) s.1 due.can) in
    let moved = c.push_move.ensures.text q s.0 due.kept can s.2 in
    text_as n steps c.push_move.result c.args.out.now.items c.push_move.new.out.items q l (Ratio c.in-Ratio.var c.in-Ratio.lemma c.in-Ratio.at s.0) s.1
    (subst (λ (mv : Move). OnOk c.push_move.result (c.push_move.new.out.items ≡ c.args.out.now.items ++ move_lines n steps q mv s.0)) c.ratio_move.ensures moved)

pub returns-in-Ratio-clause-kept : goal.returns-in-Ratio-clause-kept
returns-in-Ratio-clause-kept c = λ q l due step.
    let s = subst (λ (h : Line). IsStep h c.args.text.now l) c.in-Ratio.is step in
    kept_as c.push_move.result q l (Ratio c.in-Ratio.var c.in-Ratio.lemma c.in-Ratio.at s.0) s.1 (c.push_move.ensures.kept s.0 s.2)

pub returns-in-Point-clause-text : goal.returns-in-Point-clause-text
returns-in-Point-clause-text c = λ q l due step.
    let n = naming_in c.args.self.now.namer in
    let steps = c.args.self.now.steps in
    let s = subst (λ (h : Line). IsStep h c.args.text.now l) c.in-Point.is step in
    text_as n steps c.push_move-in-Point.result c.args.out.now.items c.push_move-in-Point.new.out.items q l (Point c.in-Point.at s.0) s.1
    (c.push_move-in-Point.ensures.text q s.0 due.kept (subst (CanPrint steps q) s.1 due.can) s.2)

pub returns-in-Point-clause-kept : goal.returns-in-Point-clause-kept
returns-in-Point-clause-kept c = λ q l due step.
    let s = subst (λ (h : Line). IsStep h c.args.text.now l) c.in-Point.is step in
    kept_as c.push_move-in-Point.result q l (Point c.in-Point.at s.0) s.1 (c.push_move-in-Point.ensures.kept s.0 s.2)

pub returns-in-Coords-clause-text : goal.returns-in-Coords-clause-text
returns-in-Coords-clause-text c = λ q l due step.
    let n = naming_in c.args.self.now.namer in
    let steps = c.args.self.now.steps in
    let s = subst (λ (h : Line). IsStep h c.args.text.now l) c.in-Coords.is step in
    text_as n steps c.push_move-in-Coords.result c.args.out.now.items c.push_move-in-Coords.new.out.items q l (Coords s.0) s.1
    (c.push_move-in-Coords.ensures.text q s.0 due.kept (subst (CanPrint steps q) s.1 due.can) s.2)

pub returns-in-Coords-clause-kept : goal.returns-in-Coords-clause-kept
returns-in-Coords-clause-kept c = λ q l due step.
    let s = subst (λ (h : Line). IsStep h c.args.text.now l) c.in-Coords.is step in
    kept_as c.push_move-in-Coords.result q l (Coords s.0) s.1 (c.push_move-in-Coords.ensures.kept s.0 s.2)
