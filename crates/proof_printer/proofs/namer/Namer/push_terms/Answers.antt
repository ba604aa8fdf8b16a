use Rattle.std.proofs.Common.{◌≡◌, ◌<◌, ◌≤◌, length, refl, arith}
use Rattle.proof_printer.specs.Inner.Names.{naming_in}
use Rattle.proof_printer.proofs.TokenTexts.{log_spelled, tokens_of, tokens_read}
use Rattle.proof_printer.proofs.Tokens.{reading_begins, reading_ends, reading_next}
use Rattle.std.proofs.Common.{sym, ◌∙◌}
use Rattle.proof_printer.proofs.namer.Namer.push_terms.Goals as goal

pub loop-variable-init : goal.loop-variable-init
loop-variable-init c =
    let n = naming_in c.args.self.now in
    record {
      met = c.requires.met;
      reading = λ q t.
          reading_begins n c.args.out.now.items _ _ q _ c.requires.none
          (c.in_ok-rest.ensures.past n (tokens_of q) (tokens_read q t.writable) (t.spelt ∙ sym (log_spelled q)));
    }

pub loop-variable-preserved : goal.loop-variable-preserved
loop-variable-preserved c =
    let n = naming_in c.args.self.now in
    record {
      met = c.in_ok-push_met.ensures.met;
      reading = λ q t.
          let next = reading_next n c.args.out.now.items _ _ _ _ _ q (c.loop-variable.invariant.reading q t) c.in-Some.ensures.some in
          next.after _ _ _ _ c.in_ok-push_met.ensures.text c.in_ok-push_met.ensures.keys (c.in_ok-rest-2.ensures.past n next.tokens next.read next.spelt);
    }

pub returns-clause-text : goal.returns-clause-text
returns-clause-text c = λ q t.
    let n = naming_in c.args.self.now in
    (reading_ends n c.args.out.now.items _ _ _ q (c.loop-variable.invariant.reading q t) (c.in_default.ensures.none refl)).printed

pub returns-clause-variables : goal.returns-clause-variables
returns-clause-variables c = λ q t.
    let n = naming_in c.args.self.now in
    (reading_ends n c.args.out.now.items _ _ _ q (c.loop-variable.invariant.reading q t) (c.in_default.ensures.none refl)).variables
