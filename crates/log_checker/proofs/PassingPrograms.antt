-- A log that goes on with one line more of its program, judged by its text.
use Rattle.std.proofs.Common.{◌≡◌, ℕ, true, List, [], ◌∷◌, ◌++◌, ap, subst, ◌∙◌}
use Rattle.std.specs.Global.{Vec}
use Rattle.geo_lowering.specs.declared.version.Version.{Version}
use Rattle.proof_log.specs.Lines.{line_text}
use Rattle.proof_log.specs.Writable.{HasNoLineFeed}
use Rattle.proof_log.specs.declared.log.Line.{Line}
use Rattle.proof_log.specs.declared.log.Line.TheVariants.{Program as ProgramLine}
use Rattle.log_checker.specs.Checkers.{IsLeftBy}
use Rattle.log_checker.specs.Inner.ByText.{StateGoesOn}
use Rattle.log_checker.specs.Subjects.{version_number}
use Rattle.log_checker.specs.declared.state.State.{State}
use Rattle.log_checker.specs.declared.state.State.TheVariants as state
use Rattle.log_checker.proofs.JudgedNext.{program_next}

pub program_goes_on : (s : State) (version : Version) (text text' : Vec ℕ) (line bytes : List ℕ) → s ≡ state.Program version text
    → line_text (ProgramLine line) ≡ bytes → HasNoLineFeed line → text'.items ≡ text.items ++ (line ++ 10 ∷ [])
    → StateGoesOn s bytes (state.Program version text') true
program_goes_on s version text text' line bytes is spelt one_line grown =
    λ steps lines leaves. record {
      line = ProgramLine line;
      writable = one_line;
      text = spelt;
      left = go steps lines (subst (λ (x : State). IsLeftBy steps x lines) is leaves.left);
    }
  where
    go : (steps : ℕ) (lines : List Line) → IsLeftBy steps (state.Program version text) lines
        → IsLeftBy steps (state.Program version text') (lines ++ ProgramLine line ∷ [])
    go steps lines (texts, first, kept) =
        program_next steps (version_number version) texts lines line text'.items first (grown ∙ ap (λ bs. bs ++ (line ++ 10 ∷ [])) kept)
