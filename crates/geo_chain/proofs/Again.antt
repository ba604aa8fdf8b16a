-- Lines that are written by their text.
use Rattle.std.proofs.Common.{◌≡◌, ℕ, ◌+◌, List, length, ◌∙◌, ap, subst, arith}
use Rattle.proof_log.specs.declared.log.Line.{Line}
use Rattle.proof_log.specs.Lines.{log_text}
use Rattle.geo_chain.specs.Sizes.{HoldsText, IsSizeAfter}
use Rattle.geo_chain.specs.Written.{State, Writes, WritesSome}
use Rattle.geo_chain.proofs.Sizing.{holds_nothing}

-- their text is written
pub written_again : (s t : State) (text : List ℕ) (lines : ℕ) (again : List Line) → text ≡ log_text again → lines ≡ length again
    → t.lines ≡ s.lines + lines → IsSizeAfter s.size (length text) t.size → HoldsText s.size s.held text t.held → t.faults ≡ s.faults
    → Writes again s t
written_again s t text lines again same count counted measured written faults = record {
  counted = counted ∙ ap (λ (n : ℕ). s.lines + n) count;
  measured = subst (λ (xs : List ℕ). IsSizeAfter s.size (length xs) t.size) same measured;
  written = subst (λ xs. HoldsText s.size s.held xs t.held) same written;
  faults = faults;
}

-- nothing of it is
pub none_again : (text : List ℕ) (s : State) → WritesSome text s s
none_again text s = record { count = 0; written = holds_nothing s.size s.held; faults = omega arith }
