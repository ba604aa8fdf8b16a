-- Parts of a log in a row: what was written adds up, a stop behind lines is a stop of the whole.
use Rattle.std.proofs.Common.{◌≡◌, ℕ, suc, ◌+◌, ◌≤◌, inl, inr, List, [], ◌∷◌, ◌++◌, length, append-nil, append_assoc, refl, sym, ◌∙◌, ap}
use Rattle.std.proofs.Common.{subst, take, arith}
use Rattle.std.proofs.lemmas.List.{length-append}
use Rattle.std.proofs.lemmas.Grind.{flat_map-append}
use Rattle.geo_base.specs.Devices.{HasRisen}
use Rattle.geo_terms.specs.Constructions.{Construction}
use Rattle.proof_log.specs.declared.log.Line.{Line}
use Rattle.proof_log.specs.declared.log.Verdict.{Verdict}
use Rattle.proof_log.specs.Lines.{line_text, log_text}
use Rattle.elim_apply.specs.declared.errors.ApplyError.{ApplyError}
use Rattle.elim_apply.specs.declared.errors.ApplyError.TheVariants.{NoRow, Spent as SpentThere, TooLarge as TooLargeThere}
use Rattle.elim_apply.specs.declared.errors.ApplyError.TheVariants.{NoMemory as NoMemoryThere}
use Rattle.geo_poly.specs.declared.limits.Which.{Which}
use Rattle.geo_logs.specs.Ends.{comes, stop_line, stops, text_length}
use Rattle.geo_logs.specs.Moves.{Stop, spent, too_large}
use Rattle.geo_logs.specs.Places.{Place}
use Rattle.geo_chain.specs.declared.errors.ProveError.{ProveError}
use Rattle.geo_chain.specs.declared.errors.ProveError.TheVariants.{TooLarge, Spent, TooLong, WriteFault, NoMemory}
use Rattle.geo_chain.specs.declared.frame.Frame.{Frame}
use Rattle.geo_chain.specs.declared.size.Size.{Size}
use Rattle.geo_chain.specs.Halting.{Finishes, Halts, IsStopAnswered, IsBrokenOff, IsPieceOfNext, IsStopped, IsTooLong, Passes}
use Rattle.geo_chain.specs.InFrame.{IsNextIn}
use Rattle.geo_chain.specs.Parts.{CanWrite, Continues, Part, here_part}
use Rattle.geo_chain.specs.Sizes.{Fits, HoldsText, IsPastLimit, IsSizeAfter, IsTakable, with_text}
use Rattle.geo_chain.specs.Written.{HasStopped, IsCutOff, IsUnwritten, State, Writes, WritesSome}
use Rattle.geo_chain.proofs.Sizing.{fits_none, holds_nothing, size_fits, size_holds, size_more, size_none, size_past, size_takes}
use Rattle.geo_chain.proofs.Sizing.{with_both, with_none}

-- TEXTS
abbrev piece_of_line : Line → List ℕ
piece_of_line line = line_text line ++ 10 ∷ []

pub log_text-append : (xs ys : List Line) → log_text (xs ++ ys) ≡ log_text xs ++ log_text ys
log_text-append xs ys = flat_map-append piece_of_line xs ys

pub text_length-append : (xs ys : List Line) → text_length (xs ++ ys) ≡ text_length xs + text_length ys
text_length-append xs ys = ap length (log_text-append xs ys) ∙ length-append (log_text xs) (log_text ys)

-- WRITES
pub writes_nothing : (s : State) → Writes [] s s
writes_nothing s = record { counted = omega arith; measured = size_none s.size; written = holds_nothing s.size s.held; faults = refl }

-- what the size behind lines tells of that behind further ones
module _ (xs : List Line) (s t : State) (h : Writes xs s t) (ys : List Line) where
  further : text_length xs + text_length ys ≡ text_length (xs ++ ys)
  further = sym (text_length-append xs ys)

  pub fits_behind : Fits (with_text t.size (text_length ys)) → Fits (with_text s.size (text_length (xs ++ ys)))
  fits_behind fits =
      subst (λ (n : ℕ). Fits (with_text s.size n)) further (size_fits s.size (text_length xs) t.size h.measured (text_length ys) fits)

  pub past_behind : IsPastLimit (with_text t.size (text_length ys)) → IsPastLimit (with_text s.size (text_length (xs ++ ys)))
  past_behind past =
      subst (λ (n : ℕ). IsPastLimit (with_text s.size n)) further (size_past s.size (text_length xs) t.size h.measured (text_length ys) past)

-- the text behind lines
pub held_on : (xs : List Line) (s t u : State) → Writes xs s t → (text : List ℕ) → HoldsText t.size t.held text u.held
    → HoldsText s.size s.held (log_text xs ++ text) u.held
held_on xs s t u h text g = size_holds s.size (text_length xs) t.size h.measured s.held t.held u.held (log_text xs) text h.written g

pub writes_more : (xs ys : List Line) (s t u : State) → Writes xs s t → Writes ys t u → Writes (xs ++ ys) s u
writes_more xs ys s t u h g = record {
  counted = let a = h.counted in let b = g.counted in let n : length (xs ++ ys) ≡ length xs + length ys = length-append xs ys in omega
      (arith, a, b, n);
  measured =
      subst (λ (n : ℕ). IsSizeAfter s.size n u.size) (sym (text_length-append xs ys))
      (size_more s.size (text_length xs) t.size h.measured (text_length ys) u.size g.measured);
  written = subst (λ text. HoldsText s.size s.held text u.held) (sym (log_text-append xs ys)) (held_on xs s t u h (log_text ys) g.written);
  faults = g.faults ∙ h.faults;
}

-- PARTS IN A ROW
pub continues_more : (P Q R : Part) (xs ys : List Line) → Continues P Q xs → Continues Q R ys → Continues P R (xs ++ ys)
continues_more P Q R xs ys h g = record {
  begun = λ more place b. subst (λ lines. P.begun lines place) (sym (append_assoc xs ys more))
      (h.begun (ys ++ more) place (g.begun more place b));
  whole = λ more verdict left w. subst (λ lines. P.whole lines verdict left) (sym (append_assoc xs ys more))
      (h.whole (ys ++ more) verdict left (g.whole more verdict left w));
}

pub passes_on : (P Q R : Part) (s t u : State) → Passes P Q s t → Passes Q R t u → Passes P R s u
passes_on P Q R s t u h g = record {
  lines = h.lines ++ g.lines;
  continues = continues_more P Q R h.lines g.lines h.continues g.continues;
  written = writes_more h.lines g.lines s t u h.written g.written;
}

pub finishes_on : (P Q : Part) (s t u : State) (verdict : Verdict) (left : ℕ) → Passes P Q s t → Finishes Q t u verdict left
    → Finishes P s u verdict left
finishes_on P Q s t u verdict left h g = record {
  lines = h.lines ++ g.lines;
  whole = h.continues.whole g.lines verdict left g.whole;
  written = writes_more h.lines g.lines s t u h.written g.written;
}

-- a part that goes on as another at once
pub passes_at_once : (P Q : Part) (s : State) → ((lines : List Line) (place : Place) → Q.begun lines place → P.begun lines place)
    → ((lines : List Line) (verdict : Verdict) (left : ℕ) → Q.whole lines verdict left → P.whole lines verdict left) → Passes P Q s s
passes_at_once P Q s h g = record { lines = []; continues = record { begun = h; whole = g }; written = writes_nothing s }

-- lines that begin a part lead to their place
pub reaches : (P : Part) (xs : List Line) (place : Place) (s t : State) → P.begun xs place → Writes xs s t → Passes P (here_part place) s t
reaches P xs place s t b w = record {
  lines = xs;
  continues = record {
    begun = λ more other h.
        let same : xs ≡ xs ++ more = sym (ap (λ ys. xs ++ ys) h.0 ∙ append-nil xs) in
        subst (λ lines. P.begun lines other) same (subst (λ p. P.begun xs p) (sym h.1) b);
    whole = λ more verdict left w. absurd w;
  };
  written = w;
}

-- LINES THAT MAY BE TAKEN
pub can_write_on : (frame : Frame) (c : Construction) (P Q : Part) (s t : State) → Passes P Q s t → CanWrite frame c P s.size
    → CanWrite frame c Q t.size
can_write_on frame c P Q s t h can lines place line b n fits =
    size_takes s.size (text_length h.lines) t.size h.written.measured line
    (can (h.lines ++ lines) place line (h.continues.begun lines place b) n (fits_behind h.lines s t h.written lines fits))

-- so the line that comes next at a place may
pub write_here : (frame : Frame) (c : Construction) (P : Part) (place : Place) (s t : State) → Passes P (here_part place) s t
    → CanWrite frame c P s.size → Fits t.size → (line : Line)
    → IsNextIn frame c place (comes line) → IsTakable t.size line
write_here frame c P place s t h can fits line n =
    can_write_on frame c P (here_part place) s t h can [] place line (refl, refl) n (subst Fits (sym (with_none t.size)) fits)

-- STOPS
module _ (frame : Frame) (c : Construction) (P Q : Part) (s t u : State) (h : Passes P Q s t) where
  fits_on : (lines : List Line) → Fits (with_text t.size (text_length lines)) → Fits (with_text s.size (text_length (h.lines ++ lines)))
  fits_on lines fits = fits_behind h.lines s t h.written lines fits

  faults_on : t.faults ≤ u.faults → s.faults ≤ u.faults
  faults_on g = let f = h.written.faults in omega (arith, f, g)

  sound_on : u.faults ≡ t.faults → u.faults ≡ s.faults
  sound_on g = g ∙ h.written.faults

  written_on : (lines : List Line) → HoldsText t.size t.held (log_text lines) u.held
      → HoldsText s.size s.held (log_text (h.lines ++ lines)) u.held
  written_on lines g =
      subst (λ text. HoldsText s.size s.held text u.held) (sym (log_text-append h.lines lines))
      (held_on h.lines s t u h.written (log_text lines) g)

  counted_on : (lines : List Line) → t.lines + length lines ≡ s.lines + length (h.lines ++ lines)
  counted_on lines = let n = h.written.counted in let l : length
      (h.lines ++ lines) ≡ length h.lines + length lines = length-append h.lines lines in omega (arith, n, l)

  stopped_on : (stop : Stop) (number : ℕ) → IsStopped frame c Q t u stop number → IsStopped frame c P s u stop number
  stopped_on stop number g = record {
    lines = h.lines ++ g.lines;
    place = g.place;
    begun = h.continues.begun g.lines g.place g.begun;
    next = g.next;
    fits = fits_on g.lines g.fits;
    last = g.last ∙ ap suc (counted_on g.lines);
    written = subst (λ xs. HoldsText s.size s.held (log_text xs) u.held) (sym (append_assoc h.lines g.lines (stop_line number stop ∷ [])))
        (written_on (g.lines ++ stop_line number stop ∷ []) g.written);
    faults = sound_on g.faults;
  }

  too_long_on : IsTooLong frame c Q t u → IsTooLong frame c P s u
  too_long_on g = record {
    lines = h.lines ++ g.lines;
    place = g.place;
    line = g.line;
    begun = h.continues.begun g.lines g.place g.begun;
    next = g.next;
    fits = fits_on g.lines g.fits;
    long =
        let same : text_length (h.lines ++ (g.lines ++ g.line ∷ [])) ≡ text_length ((h.lines ++ g.lines) ++ g.line ∷ []) = ap text_length
        (sym (append_assoc h.lines g.lines (g.line ∷ []))) in
        subst (λ (n : ℕ). IsPastLimit (with_text s.size n)) same (past_behind h.lines s t h.written (g.lines ++ g.line ∷ []) g.long);
    written = written_on g.lines g.written;
    faults = sound_on g.faults;
  }

  piece_on : (place : Place) (lines : List Line) (piece : List ℕ)
      → IsPieceOfNext frame c place (t.lines + length lines) (with_text t.size (text_length lines)) piece
      → IsPieceOfNext frame c place (s.lines + length (h.lines ++ lines)) (with_text s.size (text_length (h.lines ++ lines))) piece
  piece_on place lines piece (inl none) = inl none
  piece_on place lines piece (inr (inl (line, count, next, fits, is))) =
      let same : text_length (h.lines ++ (lines ++ line ∷ [])) ≡ text_length (h.lines ++ lines) + text_length (line ∷ []) =
      ap text_length (sym (append_assoc h.lines lines (line ∷ []))) ∙ text_length-append (h.lines ++ lines) (line ∷ []) in
      inr (inl (
        line,
        count,
        next,
        subst Fits (ap (λ (n : ℕ). with_text s.size n) same ∙ sym (with_both s.size (text_length (h.lines ++ lines)) (text_length (line ∷ []))))
            (fits_on (lines ++ line ∷ [])
            (subst Fits (with_both t.size (text_length lines) (text_length (line ∷ [])) ∙ ap (λ (n : ℕ). with_text t.size n)
            (sym (text_length-append lines (line ∷ [])))) fits)),
        is,
      ))
  piece_on place lines piece (inr (inr (stop, count, next, is))) =
      inr (inr (stop, count, next, is ∙ ap (λ (n : ℕ). take count (log_text (stop_line (suc n) stop ∷ []))) (counted_on lines)))

  broken_on : IsBrokenOff frame c Q t u → IsBrokenOff frame c P s u
  broken_on g = record {
    lines = h.lines ++ g.lines;
    place = g.place;
    piece = g.piece;
    begun = h.continues.begun g.lines g.place g.begun;
    fits = fits_on g.lines g.fits;
    next = piece_on g.place g.lines g.piece g.next;
    written =
        subst (λ text. HoldsText s.size s.held text u.held)
        (sym (append_assoc (log_text h.lines) (log_text g.lines) g.piece) ∙ ap (λ text. text ++ g.piece)
        (sym (log_text-append h.lines g.lines)))
        (held_on h.lines s t u h.written (log_text g.lines ++ g.piece) g.written);
    faults = faults_on g.faults;
  }

  pub halts_on : (e : ProveError) → Halts frame c Q t u e → Halts frame c P s u e
  halts_on (TooLarge n which) g = stopped_on (too_large which) n g
  halts_on (Spent n) g = stopped_on spent n g
  halts_on TooLong g = too_long_on g
  halts_on WriteFault g = (broken_on g.0, subst (λ n. HasRisen n u.faults) h.written.faults g.1)
  halts_on NoMemory g = (broken_on g.0, sound_on g.1)

-- AT A PLACE
-- the place of no lines
pub stands : (place : Place) → (here_part place).begun [] place
stands place = (refl, refl)

module _ (frame : Frame) (c : Construction) where
  -- memory ran out before anything more was written
  pub memory_at : (place : Place) (s t : State) → Fits s.size → t.held ≡ s.held → s.faults ≤ t.faults
      → IsBrokenOff frame c (here_part place) s t
  memory_at place s t fits same faults = record {
    lines = [];
    place = place;
    piece = [];
    begun = stands place;
    fits = fits_none s.size fits;
    next = inl refl;
    written = subst (λ held. HoldsText s.size s.held [] held) (sym same) (holds_nothing s.size s.held);
    faults = faults;
  }

  pub memory_here : (place : Place) (s : State) → Fits s.size → Halts frame c (here_part place) s s NoMemory
  memory_here place s fits = (memory_at place s s fits refl (omega arith), refl)

  -- nor in a part that begins there
  pub memory_in : (P : Part) (place : Place) (s : State) → P.begun [] place → Fits s.size → Halts frame c P s s NoMemory
  memory_in P place s b fits = halts_on frame c P (here_part place) s s s (reaches P [] place s s b (writes_nothing s)) NoMemory
      (memory_here place s fits)

  cut_off_at : (place : Place) (line : Line) (s t : State) → IsNextIn frame c place (comes line) → Fits s.size → IsCutOff line s t
      → IsBrokenOff frame c (here_part place) s t
  cut_off_at place line s t next fits (inl h) = record {
    lines = [];
    place = place;
    piece = take h.1.count (log_text (line ∷ []));
    begun = stands place;
    fits = fits_none s.size fits;
    next = inr (inl (
      line,
      h.1.count,
      next,
      subst (λ (z : Size). Fits (with_text z (text_length (line ∷ []))))
          (sym (with_none s.size)) h.0,
      refl,
    ));
    written = h.1.written;
    faults = h.1.faults;
  }
  cut_off_at place line s t next fits (inr h) = memory_at place s t fits h.0 h.1

  -- the line that comes next was not written
  pub unwritten_here : (place : Place) (line : Line) (s t : State) → IsNextIn frame c place (comes line) → Fits s.size → (e : ProveError)
      → IsUnwritten line s t e
      → Halts frame c (here_part place) s t e
  unwritten_here place line s t next fits (TooLarge n which) h = absurd h
  unwritten_here place line s t next fits (Spent n) h = absurd h
  unwritten_here place line s t next fits TooLong h = record {
    lines = [];
    place = place;
    line = line;
    begun = stands place;
    next = next;
    fits = fits_none s.size fits;
    long = h.long;
    written = subst (λ held. HoldsText s.size s.held [] held) (sym h.kept) (holds_nothing s.size s.held);
    faults = h.faults;
  }
  unwritten_here place line s t next fits WriteFault h = (cut_off_at place line s t next fits h.0, h.1)
  unwritten_here place line s t next fits NoMemory h = (cut_off_at place line s t next fits h.0, h.1)

  -- a stop comes next
  module _ (place : Place) (stop : Stop) (s t : State) (next : IsNextIn frame c place (stops stop)) (fits : Fits s.size) where
    stop_part : WritesSome (log_text (stop_line (suc s.lines) stop ∷ [])) s t → IsBrokenOff frame c (here_part place) s t
    stop_part h = record {
      lines = [];
      place = place;
      piece = take h.count (log_text (stop_line (suc s.lines) stop ∷ []));
      begun = stands place;
      fits = fits_none s.size fits;
      next = inr (inr (
        stop,
        h.count,
        next,
        ap (λ n. take h.count (log_text (stop_line (suc n) stop ∷ [])))
            (let e : s.lines ≡ s.lines + 0 = omega arith in e),
      ));
      written = h.written;
      faults = h.faults;
    }

    stop_here : (n : ℕ) → n ≡ suc s.lines → HoldsText s.size s.held (log_text (stop_line n stop ∷ [])) t.held → t.faults ≡ s.faults
        → IsStopped frame c (here_part place) s t stop n
    stop_here n last written faults = record {
      lines = [];
      place = place;
      begun = stands place;
      next = next;
      fits = fits_none s.size fits;
      last = omega (arith, last);
      written = written;
      faults = faults;
    }

    pub stopped_here : (e : ProveError) → HasStopped stop s t e → Halts frame c (here_part place) s t e
    stopped_here (TooLarge n which) h = subst (λ z. IsStopped frame c (here_part place) s t z n) h.0
        (stop_here n h.1.last h.1.written h.1.faults)
    stopped_here (Spent n) h = subst (λ z. IsStopped frame c (here_part place) s t z n) h.0 (stop_here n h.1.last h.1.written h.1.faults)
    stopped_here TooLong h = absurd h
    stopped_here WriteFault h = (stop_part h.0, h.1)
    stopped_here NoMemory h = (stop_part h.0, h.1)

  -- CAUSES
  -- a line that is not made, at its place
  pub answered_here : (place : Place) (s t : State) → Fits s.size → (error : ApplyError)
      → (error ≡ SpentThere → IsNextIn frame c place (stops spent))
      → ((which : Which) → error ≡ TooLargeThere which → IsNextIn frame c place (stops (too_large which))) → (error ≡ NoRow → ⊥)
      → (e : ProveError) → IsStopAnswered error s t e
      → Halts frame c (here_part place) s t e
  answered_here place s t fits NoRow is_spent is_large is_made e h = absurd (is_made refl)
  answered_here place s t fits SpentThere is_spent is_large is_made e h = stopped_here place spent s t (is_spent refl) fits e h
  answered_here place s t fits (TooLargeThere which) is_spent is_large is_made e h = stopped_here place (too_large which) s t
      (is_large which refl) fits e h
  answered_here place s t fits NoMemoryThere is_spent is_large is_made e h =
      subst (λ x. Halts frame c (here_part place) s t x) (sym h.0)
      (subst (λ u. Halts frame c (here_part place) s u NoMemory) (sym h.1) (memory_here place s fits))
