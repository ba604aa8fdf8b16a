-- From the parts of a log to the defined log of a subject.
use Rattle.std.proofs.Common.{◌≡◌, All, ℕ, suc, ◌+◌, ◌<◌, ◌≤◌, inl, inr, Option, Some, List, [], ◌∷◌, ◌++◌, length, get_or}
use Rattle.std.proofs.Common.{append-nil, refl, sym, ◌∙◌, ap, subst, take, arith}
use Rattle.std.specs.Option.{option_map}
use Rattle.std.specs.Prelude.{slice_get}
use Rattle.std.proofs.lemmas.List.{length-append}
use Rattle.std.proofs.lemmas.Option.{slice_get-get_or, slice_get-map}
use Rattle.geo_base.specs.Devices.{Grows}
use Rattle.geo_conditions.specs.declared.items.Item.{Item as ListedItem}
use Rattle.geo_terms.specs.Constructions.{Construction}
use Rattle.geo_terms.specs.Stores.{Store}
use Rattle.proof_log.specs.declared.log.Line.{Line}
use Rattle.proof_log.specs.declared.log.Verdict.{Verdict}
use Rattle.proof_log.specs.Lines.{log_text}
use Rattle.proof_log.specs.Writable.{IsWritable}
use Rattle.elim_apply.specs.LemmaTable.{lemma_table}
use Rattle.geo_logs.specs.Ends.{Ending, IsDefinedLog, comes, ends_by, ends_with, stop_line, text_length, too_long}
use Rattle.geo_logs.specs.Logs.{Item, Subject}
use Rattle.geo_logs.specs.Moves.{Stop}
use Rattle.geo_logs.specs.Places.{Place, before_line, first_lines}
use Rattle.geo_chain.specs.declared.frame.Frame.TheVariants.{Full}
use Rattle.geo_chain.specs.declared.size.Size.{Size}
use Rattle.geo_chain.specs.declared.size.Size.TheVariants.{Written}
use Rattle.geo_chain.specs.FirstLines.{IsTooLongAmong}
use Rattle.geo_chain.specs.Halting.{Finishes, IsStopped, IsTooLong, Passes}
use Rattle.geo_chain.specs.InFrame.{IsNextIn}
use Rattle.geo_chain.specs.Parts.{CanWrite, IsInside, Part, conditions_part, item_of, items_of, log_part}
use Rattle.geo_chain.specs.Sizes.{Fits, HoldsText, IsPastLimit, IsSizeAfter, with_text}
use Rattle.geo_chain.specs.Tasks.{IsItemReady}
use Rattle.geo_chain.specs.Written.{State, Writes}
use Rattle.geo_chain.proofs.Listing.{conditions_start}
use Rattle.geo_chain.proofs.Sizing.{takable_of}

-- READY ITEMS
taken_at : (nodes : Store) (items : List ListedItem) (i : ℕ) (item : ListedItem) → slice_get items i ≡ Some item
    → slice_get (items_of nodes items) i ≡ Some (item_of nodes item)
taken_at nodes items i item at = slice_get-map (item_of nodes) items i ∙ ap (λ o. option_map (item_of nodes) o) at

-- listed items whose terms name what the construction has
pub items_ready : (c : Construction) (nodes : Store) (items : List ListedItem) → All (λ x. x.term.0 < length nodes) items
    → ((i : ℕ) (item : Item) → slice_get (items_of nodes items) i ≡ Some item → IsInside c item.term) → All (IsItemReady c nodes) items
items_ready c nodes items stored named i d low =
    let item = get_or items i d in
    record {
      stored = stored i d low;
      inside = named i (item_of nodes item) (taken_at nodes items i item (slice_get-get_or items i d low));
    }

-- WRITING
-- the lines of a part may be written, where those that come next within the limit are lines of the format
pub part_writable : (c : Construction) (part : Part) (z : Size) → z ≡ Written 0
    → ((lines : List Line) (place : Place) (line : Line) → part.begun lines place → text_length lines ≤ 67108864
    → IsNextIn Full c place (comes line) → IsWritable line)
    → CanWrite Full c part z
part_writable c part z none writable lines place line b n fits =
    takable_of z line
    (writable lines place line b
    (let small_text : 0 + text_length lines ≤ 67108864 = subst (λ (x : Size). Fits (with_text x (text_length lines))) none fits in omega
    (arith, small_text)) n)

-- THE LOG
-- the lines of the defined log that ends so were written
pub record WritesDefined (subject : Subject) (steps : ℕ) (held held' : Option (List ℕ)) (ending : Ending) : Type 0 where
  pub lines : List Line
  pub defined : IsDefinedLog lemma_table subject steps lines ending
  pub written : Grows held (log_text lines) held'

-- it ends by a stop, and its last line, that of the stop, has this number
pub record WritesDefinedStop (subject : Subject) (steps : ℕ) (held held' : Option (List ℕ)) (stop : Stop) (number : ℕ) : Type 0 where
  pub whole : WritesDefined subject steps held held' (ends_by stop)
  pub last : number ≡ length whole.lines

-- LINES IN A ROW
at_length : (before : List Line) (line : Line) (rest : List Line) → slice_get (before ++ line ∷ rest) (length before) ≡ Some line
at_length [] line rest = refl
at_length (x ∷ xs) line rest = at_length xs line rest

take_length : (before rest : List Line) → before ≡ take (length before) (before ++ rest)
take_length [] rest = refl
take_length (x ∷ xs) rest = ap (λ ys. x ∷ ys) (take_length xs rest)

module _ (subject : Subject) (steps : ℕ) where
  abbrev c : Construction
  c = subject.construction

  abbrev whole : Part
  whole = log_part Full subject steps

  -- behind the header and the program come the conditions
  pub past_program : (s t : State) → Writes (first_lines subject) s t
      → Passes whole (conditions_part Full c subject.goals [] [] 1 steps subject.conditions) s t
  past_program s t h = record {
    lines = first_lines subject;
    continues = record {
      begun = λ more place b. inr (more, refl, b);
      whole = λ more verdict left b. record { rest = more; split = refl; worked = b };
    };
    written = h;
  }

  pub begun_before : (before : List Line) (line : Line) (rest : List Line) → first_lines subject ≡ before ++ line ∷ rest
      → whole.begun before (before_line line)
  begun_before before line rest e =
      inl (
        length before,
        line,
        subst (λ xs. slice_get xs (length before) ≡ Some line) (sym e) (at_length before line rest),
        take_length before (line ∷ rest) ∙ ap (λ xs. take (length before) xs) (sym e),
        refl,
      )

  pub begun_among : (before rest : List Line) → first_lines subject ≡ before ++ rest → (place : Place) × whole.begun before place
  begun_among before [] e =
      let start = conditions_start Full c subject.goals [] [] 1 steps subject.conditions in
      (start.0, inr ([], sym (e ∙ append-nil before) ∙ sym (append-nil (first_lines subject)), start.1))
  begun_among before (line ∷ rest) e = (before_line line, begun_before before line rest e)

  module _ (s t : State) (size_none : s.size ≡ Written 0) where
    pub within : (n : ℕ) → Fits (with_text s.size n) → n ≤ 67108864
    within n h = let f : 0 + n ≤ 67108864 = subst (λ (z : Size). Fits (with_text z n)) size_none h in omega (arith, f)

    whole_within : (n : ℕ) → IsSizeAfter s.size n t.size → Fits t.size → n ≤ 67108864
    whole_within n h fits =
        let m : t.size ≡ Written (0 + n) = subst (λ (z : Size). IsSizeAfter z n t.size) size_none h in
        let f : 0 + n ≤ 67108864 = subst Fits m fits in omega (arith, f)

    past : (n : ℕ) → IsPastLimit (with_text s.size n) → 67108864 < n
    past n h = let f : 67108864 < 0 + n = subst (λ (z : Size). IsPastLimit (with_text z n)) size_none h in omega (arith, f)

    pub grown : (text : List ℕ) → HoldsText s.size s.held text t.held → Grows s.held text t.held
    grown text h = subst (λ (z : Size). HoldsText z s.held text t.held) size_none h

    pub stopped : s.lines ≡ 0 → (stop : Stop) (n : ℕ) → IsStopped Full c whole s t stop n
        → WritesDefinedStop subject steps s.held t.held stop n
    stopped lines_none stop n h =
        let counted : n ≡ suc (length h.lines) = let l = h.last in omega (arith, lines_none, l) in
        let lines = h.lines ++ stop_line n stop ∷ [] in
        record {
          whole = record {
            lines = lines;
            defined = (
              h.lines,
              ap (λ m. h.lines ++ stop_line m stop ∷ []) counted,
              (h.place, h.begun, h.next),
              within (text_length h.lines) h.fits,
            );
            written = grown (log_text lines) h.written;
          };
          last = let l : length lines ≡ length h.lines + 1 = length-append h.lines (stop_line n stop ∷ []) in omega (arith, counted, l);
        }

    pub left_out : IsTooLong Full c whole s t → WritesDefined subject steps s.held t.held too_long
    left_out h = record {
      lines = h.lines;
      defined = (
        h.line,
        (h.place, h.begun, h.next),
        within (text_length h.lines) h.fits,
        past (text_length (h.lines ++ h.line ∷ [])) h.long,
      );
      written = grown (log_text h.lines) h.written;
    }

    pub finished : (verdict : Verdict) (left : ℕ) (h : Finishes whole s t verdict left) → Fits t.size
        → IsDefinedLog lemma_table subject steps h.lines (ends_with verdict left)
    finished verdict left h fits = (h.whole, whole_within (text_length h.lines) h.written.measured fits)

  -- one of the first lines is left out
  pub too_long_among : (s t : State) → IsTooLongAmong (first_lines subject) s t → IsTooLong Full c whole s t
  too_long_among s t h = record {
    lines = h.before;
    place = before_line h.line;
    line = h.line;
    begun = begun_before h.before h.line h.rest h.split;
    next = refl;
    fits = h.fits;
    long = h.long;
    written = h.written;
    faults = h.faults;
  }
