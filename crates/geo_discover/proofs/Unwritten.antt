-- A log that is bounded and not written says what the written one would say.
use Rattle.std.proofs.Common.{◌≡◌, ℕ, ◌+◌, ◌≤◌, inl, inr, Some, Ok, Err, List, [], ◌∷◌, ◌++◌, refl, subst, arith}
use Rattle.std.specs.Prelude.{IfErr, IfOk, IfSome, Result}
use Rattle.geo_logs.specs.Ends.{stop_line, text_length}
use Rattle.geo_logs.specs.Moves.{Stop, spent, too_large}
use Rattle.geo_poly.specs.declared.limits.Which.{Which}
use Rattle.geo_terms.specs.Constructions.{Construction}
use Rattle.proof_log.specs.declared.log.Line.{Line}
use Rattle.proof_log.specs.declared.log.Verdict.{Verdict}
use Rattle.proof_log.specs.declared.log.Verdict.TheVariants.{False, Impossible, Proved}
use Rattle.proof_log.specs.Lines.{log_text}
use Rattle.geo_chain.specs.declared.errors.ProveError.{ProveError}
use Rattle.geo_chain.specs.declared.errors.ProveError.TheVariants as stopped
use Rattle.geo_chain.specs.declared.frame.Frame.TheVariants.{Full}
use Rattle.geo_chain.specs.declared.size.Size.{Size}
use Rattle.geo_chain.specs.declared.size.Size.TheVariants.{Written, Counted, Bounded}
use Rattle.geo_chain.specs.Halting.{Finishes, Halts, IsStopped}
use Rattle.geo_chain.specs.Parts.{Part}
use Rattle.geo_chain.specs.Sizes.{Fits, HoldsText, IsSizeAfter, IsTakable, bytes_of, with_text}
use Rattle.geo_chain.specs.Written.{State}
use Rattle.geo_discover.specs.declared.examining.Judgement.{Judgement}
use Rattle.geo_discover.specs.declared.examining.Judgement.TheVariants as judged
use Rattle.geo_discover.specs.Inner.Searching.{judgement_by, unwritten_judgement}
use Rattle.geo_discover.specs.Inner.Sharing.{IsSaid}

-- each line may be taken
pub bounded_takes : (z : Size) (line : Line) → ((bytes : ℕ) × (z ≡ Bounded bytes)) → IsTakable z line
bounded_takes z line h = subst (λ (x : Size). IsTakable x line) (let e : Bounded h.0 ≡ z = cc in e) tt

-- what a sink would hold behind a text
held_after : Size → List ℕ → List ℕ → List ℕ
held_after (Written bytes) held text = held ++ text
held_after Counted held text = held
held_after (Bounded bytes) held text = held

holds_after : (z : Size) (held text : List ℕ) → HoldsText z (Some held) text (Some (held_after z held text))
unfolding held_after
holds_after (Written bytes) held text = refl
holds_after Counted held text = refl
holds_after (Bounded bytes) held text = refl

sized_after : (z : Size) (n : ℕ) → IsSizeAfter z n (with_text z n)
sized_after (Written bytes) n = refl
sized_after Counted n = refl
sized_after (Bounded bytes) n = (bytes + n, refl, omega arith)

fits_after : (z : Size) (n : ℕ) → bytes_of z + n ≤ 67108864 → Fits (with_text z n)
fits_after (Written bytes) n h = h
fits_after Counted n h = omega arith
fits_after (Bounded bytes) n h = h

module _ (c : Construction) (part : Part) (s t : State) (z : Size) (held : List ℕ) (most : ℕ) (bounded : s.size ≡ Bounded most)
    (less : bytes_of z ≤ most) where
  -- the log as if it was written
  abbrev before : State
  before = record { lines = s.lines; size = z; held = Some held; faults = 0 }

  abbrev after : ℕ → Size → List ℕ → State
  after lines size text = record { lines = lines; size = size; held = Some (held_after z held text); faults = 0 }

  whole_fits : (n : ℕ) → IsSizeAfter s.size n t.size → Fits t.size → Fits (with_text z n)
  whole_fits n h fits =
      let m : IsSizeAfter (Bounded most) n t.size = subst (λ (x : Size). IsSizeAfter x n t.size) bounded h in
      let f : m.0 ≤ 67108864 = subst Fits m.1 fits in
      let all = m.2 in fits_after z n (omega (arith, f, all, less))

  -- a verdict that needs no text
  pub unwritten_verdict : (verdict : Verdict) (left : ℕ) (judgement : Judgement) → Fits t.size → Finishes part s t verdict left
      → ((log : List ℕ) → judgement ≡ judgement_by verdict log) → IsSaid c part before judgement
  unwritten_verdict verdict left judgement fits h is =
      let n = text_length h.lines in
      let log = held_after z held (log_text h.lines) in
      record {
        after = after t.lines (with_text z n) (log_text h.lines);
        said = inl (
          verdict,
          left,
          log,
          is log,
          refl,
          whole_fits n h.written.measured fits,
          record {
            lines = h.lines;
            whole = h.whole;
            written = record {
              counted = h.written.counted;
              measured = sized_after z n;
              written = holds_after z held (log_text h.lines);
              faults = refl;
            };
          },
        );
      }

  stop_there : (stop : Stop) (n : ℕ) (h : IsStopped Full c part s t stop n)
      → IsStopped Full c part before (after 0 z (log_text (h.lines ++ stop_line n stop ∷ []))) stop n
  stop_there stop n h = record {
    lines = h.lines;
    place = h.place;
    begun = h.begun;
    next = h.next;
    fits =
        let f : most + text_length h.lines ≤ 67108864 =
        subst (λ (x : Size). Fits (with_text x (text_length h.lines))) bounded h.fits in
        fits_after z (text_length h.lines) (omega (arith, f, less));
    last = h.last;
    written = holds_after z held (log_text (h.lines ++ stop_line n stop ∷ []));
    faults = refl;
  }

  -- a stop
  pub unwritten_spent : (n : ℕ) → IsStopped Full c part s t spent n → IsSaid c part before (judged.Open (stopped.Spent n))
  unwritten_spent n h = record {
    after = after 0 z (log_text (h.lines ++ stop_line n spent ∷ []));
    said = inr (
      stopped.Spent n,
      refl,
      (λ e. let f : stopped.Spent n ≡ stopped.NoMemory = e in cc),
      refl,
      stop_there spent n h,
    );
  }

  pub unwritten_large : (n : ℕ) (which : Which) → IsStopped Full c part s t (too_large which) n
      → IsSaid c part before (judged.Open (stopped.TooLarge n which))
  unwritten_large n which h = record {
    after = after 0 z (log_text (h.lines ++ stop_line n (too_large which) ∷ []));
    said = inr (
      stopped.TooLarge n which,
      refl,
      (λ e. let f : stopped.TooLarge n which ≡ stopped.NoMemory = e in cc),
      refl,
      stop_there (too_large which) n h,
    );
  }

  -- so what such a log says is what the written one says
  pub unwritten_said : (r : Result Verdict ProveError) → IfOk r (λ v. (rest : ℕ) × Finishes part s t v rest) → IfErr r (Halts Full c part s t)
      → Fits t.size → IfSome (unwritten_judgement r) (IsSaid c part before)
  unwritten_said (Ok Proved) h g fits = tt
  unwritten_said (Ok (False n)) h g fits = unwritten_verdict (False n) h.0 judged.Fails fits h.1 (λ log. refl)
  unwritten_said (Ok (Impossible k)) h g fits = tt
  unwritten_said (Err (stopped.Spent n)) h g fits = unwritten_spent n g
  unwritten_said (Err (stopped.TooLarge n which)) h g fits = unwritten_large n which g
  unwritten_said (Err stopped.TooLong) h g fits = tt
  unwritten_said (Err stopped.WriteFault) h g fits = tt
  unwritten_said (Err stopped.NoMemory) h g fits = tt
