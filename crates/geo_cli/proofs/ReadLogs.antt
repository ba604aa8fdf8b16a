-- A log that is read line by line, and the checker that takes its lines.
use Rattle.std.proofs.Common.{◌≡◌, ◌⊎◌, ℕ, ◌+◌, ◌-◌, ◌<◌, ◌≤◌, inl, inr, false, List, [], ◌∷◌, ◌++◌, length, Option, Some, None, Result, Ok}
use Rattle.std.proofs.Common.{Err, Contains, refl, sym, ap, subst, ◌∙◌, append-nil, append_assoc, length-append, arith}
use Rattle.std.specs.Prelude.{IfErr, IfOk, OnErr, OnOk}
use Rattle.std.proofs.lemmas.List.Elements.{Contains-append_right, Contains-get_or}
use Rattle.geo_base.specs.Devices.{HasEnded, Loses}
use Rattle.geo_base.specs.Lines.{ReaderState, handed_out, open_bytes, text_of}
use Rattle.geo_base.specs.declared.next_line.NextLine.{NextLine}
use Rattle.geo_base.specs.declared.next_line.NextLine.TheVariants.{Line, Rest}
use Rattle.geo_base.specs.declared.reading.ReadError.{ReadError}
use Rattle.geo_base.proofs.DeviceLemmas.{Loses-append}
use Rattle.geo_cli.specs.Input.{IsLong, Takes, log_limit}
use Rattle.geo_cli.specs.Inner.Judgements.{IsJudgedInput, IsJudgement}
use Rattle.geo_logs.specs.Judging.{Refusal}
use Rattle.log_checker.specs.Checked.{IsAnswer, StopsAt, TellsStop}
use Rattle.log_checker.specs.Checkers.{CheckerValue, StandsFor, error_of, with_feeds}
use Rattle.log_checker.specs.Judged.{Refuses}
use Rattle.log_checker.specs.declared.accepted.Accepted.{Accepted}
use Rattle.log_checker.specs.declared.errors.CheckError.{CheckError}
use Rattle.log_checker.proofs.EarlyStops.{stops_early}
use Rattle.log_checker.proofs.JudgedAnswers.{tells_stop_map}
use Rattle.log_checker.proofs.ProgramTexts.{with_feeds-append}
use Rattle.proof_log.specs.Writable.{HasNoLineFeed}

-- LINE FEEDS
pub no_line_feed : (xs : List ℕ) → (Contains xs 10 → ⊥) → HasNoLineFeed xs
no_line_feed [] none = tt
no_line_feed (x ∷ xs) none =
    ((λ e. none (subst (Contains (x ∷ xs)) e (Contains-get_or (x ∷ xs) 0 x (omega arith)))), no_line_feed xs (λ c. none (Contains-append_right (x ∷ []) xs 10 c)))

one_more : (pieces : List (List ℕ)) (line : List ℕ) → with_feeds (pieces ++ line ∷ []) ≡ with_feeds pieces ++ (line ++ 10 ∷ [])
one_more pieces line = with_feeds-append pieces (line ∷ []) ∙ ap (λ bs. with_feeds pieces ++ bs) (append-nil (line ++ 10 ∷ []))

-- OPEN BYTES
-- with nothing waiting they are those of the source
open_none : (waiting : List ℕ) (left : Option (List ℕ)) → waiting ≡ [] → open_bytes waiting left ≡ left
open_none waiting None none = refl
open_none waiting (Some bytes) none = ap (λ ws. Some (ws ++ bytes)) none

-- what is lost before open bytes, and then what waits, is lost before those of the source
lost_waiting : (left left' : Option (List ℕ)) (taken waiting : List ℕ) → Loses left taken (open_bytes waiting left') → Loses left (taken ++ waiting) left'
lost_waiting left None taken waiting h = h
lost_waiting left (Some bytes) taken waiting h = h ∙ ap Some (sym (append_assoc taken waiting bytes))

-- EARLY STOPS
-- the bytes begin with lines that meet this stop, whatever follows them
pub record StopsEarly (bytes : List ℕ) (steps number : ℕ) (refusal : Refusal) : Type 0 where
  pub pieces : List (List ℕ)
  pub rest : List ℕ
  pub split : bytes ≡ with_feeds pieces ++ rest
  pub stops : StopsAt steps pieces number refusal

early_refused : (bytes : List ℕ) (steps n : ℕ) (r : Refusal) → StopsEarly bytes steps n r → Refuses bytes steps n r
early_refused bytes steps n r h = stops_early bytes h.rest h.pieces steps n r h.split h.stops

-- THE CHECKER
-- it stands for the pieces, or it has failed at a stop of the first of them
abbrev pub HasTaken : ℕ → List (List ℕ) → CheckerValue → Type 0
HasTaken steps pieces checker =
    StandsFor checker pieces ⊎ ((e : CheckError) × (error_of checker ≡ Some e) × TellsStop (StopsEarly (with_feeds pieces) steps) e)

early : (steps : ℕ) (pieces : List (List ℕ)) (n : ℕ) (r : Refusal) → StopsAt steps pieces n r → StopsEarly (with_feeds pieces) steps n r
early steps pieces n r h = record { pieces = pieces; rest = []; split = sym (append-nil (with_feeds pieces)); stops = h }

early_more : (bytes more : List ℕ) (steps n : ℕ) (r : Refusal) → StopsEarly bytes steps n r → StopsEarly (bytes ++ more) steps n r
early_more bytes more steps n r h = record {
  pieces = h.pieces;
  rest = h.rest ++ more;
  split = ap (λ bs. bs ++ more) h.split ∙ append_assoc (with_feeds h.pieces) h.rest more;
  stops = h.stops;
}

-- the facts of a call that takes a line
pub record Took {T : Type 0} (checker checker' : CheckerValue) (line : List ℕ) (answer : Result T CheckError) : Type 0 where
  pub goes : (pieces : List (List ℕ)) → StandsFor checker pieces → OnOk answer (StandsFor checker' (pieces ++ line ∷ []))
  pub refused : (pieces : List (List ℕ)) → StandsFor checker pieces → IfErr answer (TellsStop (StopsAt checker.steps (pieces ++ line ∷ [])))
  pub failed : (e : CheckError) → error_of checker ≡ Some e → (answer ≡ Err e) × (checker' ≡ checker)
  pub fails : IfErr answer (λ e. error_of checker' ≡ Some e)
  pub taken : OnOk answer (checker'.taken ≡ checker.taken + length line + 1)
  pub kept : OnErr answer (checker'.taken ≡ checker.taken)
  pub steps : checker'.steps ≡ checker.steps

taken_next : {T : Type 0} (steps : ℕ) (pieces : List (List ℕ)) (checker checker' : CheckerValue) (line : List ℕ) (answer : Result T CheckError)
    → checker.steps ≡ steps → Took checker checker' line answer → HasTaken steps pieces checker → HasTaken steps (pieces ++ line ∷ []) checker'
taken_next steps pieces checker checker' line (Ok u) same took (inl stands) = inl (took.goes pieces stands)
taken_next steps pieces checker checker' line (Err e) same took (inl stands) =
    inr (
      e,
      took.fails,
      tells_stop_map (StopsAt checker.steps (pieces ++ line ∷ [])) (StopsEarly (with_feeds (pieces ++ line ∷ [])) steps)
          (λ n r h. early steps (pieces ++ line ∷ []) n r (subst (λ k. StopsAt k (pieces ++ line ∷ []) n r) same h)) e (took.refused pieces stands),
    )
taken_next steps pieces checker checker' line answer same took (inr (e, failed, tells)) =
    inr (
      e,
      ap error_of (took.failed e failed).1 ∙ failed,
      tells_stop_map (StopsEarly (with_feeds pieces) steps) (StopsEarly (with_feeds (pieces ++ line ∷ [])) steps) more e tells,
    )
  where
    more : (n : ℕ) (r : Refusal) → StopsEarly (with_feeds pieces) steps n r → StopsEarly (with_feeds (pieces ++ line ∷ [])) steps n r
    more n r h =
        subst (λ bs. StopsEarly bs steps n r) (sym (one_more pieces line)) (early_more (with_feeds pieces) (line ++ 10 ∷ []) steps n r h)

room_next : {T : Type 0} (checker checker' : CheckerValue) (line : List ℕ) (size : ℕ) (answer : Result T CheckError) → Took checker checker' line answer
    → checker.taken ≤ size → checker'.taken ≤ size + length line + 1
room_next checker checker' line size (Ok u) took few = let is = took.taken in omega (arith, few, is)
room_next checker checker' line size (Err e) took few = let is = took.kept in omega (arith, few, is)

-- READING
-- the bytes lost are the pieces with their line feeds, and then what waits; and the checker has taken the pieces
pub record IsReading (steps : ℕ) (left left' : Option (List ℕ)) (reader : ReaderState) (checker : CheckerValue) : Type 0 where
  pub pieces : List (List ℕ)
  pub opened : Loses left (with_feeds pieces) (open_bytes reader.waiting left')
  pub counted : reader.taken ≡ length (with_feeds pieces) + length reader.waiting
  pub limit : reader.limit ≡ 67108864
  pub within : reader.taken ≤ 67108864
  pub is_open : reader.ended ≡ false
  pub few : checker.taken ≤ length (with_feeds pieces)
  pub steps_are : checker.steps ≡ steps
  pub has_taken : HasTaken steps pieces checker

-- what a call that hands out these bytes counts
pub record Counts (reader reader' : ReaderState) (handed : List ℕ) : Type 0 where
  pub counted : length reader.waiting + reader'.taken ≡ reader.taken + length handed + length reader'.waiting
  pub limit : reader'.limit ≡ reader.limit

-- one line more
pub reading_next : {T : Type 0} (steps : ℕ) (left l l' : Option (List ℕ)) (reader reader' : ReaderState) (checker checker' : CheckerValue) (line : List ℕ)
    (answer : Result T CheckError) → IsReading steps left l reader checker → Took checker checker' line answer
    → Loses (open_bytes reader.waiting l) (line ++ 10 ∷ []) (open_bytes reader'.waiting l') → Counts reader reader' (line ++ 10 ∷ [])
    → reader'.taken ≤ reader'.limit → reader'.ended ≡ false → IsReading steps left l' reader' checker'
reading_next steps left l l' reader reader' checker checker' line answer h took opened counts within is_open =
    let bytes = with_feeds h.pieces in
    let size : length (with_feeds (h.pieces ++ line ∷ [])) ≡ length bytes + length (line ++ 10 ∷ []) =
    ap length (one_more h.pieces line) ∙ length-append bytes (line ++ 10 ∷ []) in
    let feed : length (line ++ 10 ∷ []) ≡ length line + 1 = length-append line (10 ∷ []) in
    record {
      pieces = h.pieces ++ line ∷ [];
      opened = subst (λ bs. Loses left bs (open_bytes reader'.waiting l')) (sym (one_more h.pieces line))
          (Loses-append left (open_bytes reader.waiting l) (open_bytes reader'.waiting l') bytes (line ++ 10 ∷ []) h.opened opened);
      counted = let c = counts.counted in let d = h.counted in omega (arith, c, d, size);
      limit = counts.limit ∙ h.limit;
      within = let c = counts.limit in let d = h.limit in omega (arith, within, c, d);
      is_open = is_open;
      few = let r = room_next checker checker' line (length bytes) answer took h.few in omega (arith, r, size, feed);
      steps_are = took.steps ∙ h.steps_are;
      has_taken = taken_next steps h.pieces checker checker' line answer h.steps_are took h.has_taken;
    }

-- the lines that may still come are fewer
pub fewer : (steps : ℕ) (left l : Option (List ℕ)) (reader reader' : ReaderState) (checker : CheckerValue) (line : List ℕ)
    → IsReading steps left l reader checker → Counts reader reader' (line ++ 10 ∷ []) → reader'.taken ≤ reader'.limit
    → (67108864 + length reader'.waiting) - reader'.taken < (67108864 + length reader.waiting) - reader.taken
fewer steps left l reader reader' checker line h counts within =
    let feed : length (line ++ 10 ∷ []) ≡ length line + 1 = length-append line (10 ∷ []) in
    let c = counts.counted in let d = counts.limit in let e = h.counted in let f = h.limit in
    omega (arith, c, d, e, f, feed, within)

-- THE END
module _ (steps : ℕ) (left l l' : Option (List ℕ)) (reader reader' : ReaderState) (checker : CheckerValue) (h : IsReading steps left l reader checker) where
  -- what finishing answers
  pub record Finishes (rest : List ℕ) (answer : Result Accepted CheckError) : Type 0 where
    pub accepted : (pieces : List (List ℕ)) → StandsFor checker pieces → IfOk answer (IsAnswer (with_feeds pieces ++ rest) checker.steps)
    pub refused : (pieces : List (List ℕ)) → StandsFor checker pieces → IfErr answer (TellsStop (Refuses (with_feeds pieces ++ rest) checker.steps))
    pub failed : (e : CheckError) → error_of checker ≡ Some e → answer ≡ Err e

  judged : (rest : List ℕ) (answer : Result Accepted CheckError) → Finishes rest answer → HasTaken steps h.pieces checker
      → IsJudgement (with_feeds h.pieces ++ rest) steps answer
  judged rest answer f (inl stands) =
      subst (λ k. IsJudgement (with_feeds h.pieces ++ rest) k answer) h.steps_are (f.accepted h.pieces stands, f.refused h.pieces stands)
  judged rest answer f (inr (e, failed, tells)) =
      subst (IsJudgement (with_feeds h.pieces ++ rest) steps) (sym (f.failed e failed)) (
        tt,
        tells_stop_map (StopsEarly (with_feeds h.pieces) steps) (Refuses (with_feeds h.pieces ++ rest) steps)
            (λ n r s. early_refused (with_feeds h.pieces ++ rest) steps n r (early_more (with_feeds h.pieces) rest steps n r s)) e tells,
      )

  -- the log was read to its end
  pub read_whole : (rest : List ℕ) (answer : Result Accepted CheckError) → Loses (open_bytes reader.waiting l) rest (open_bytes reader'.waiting l')
      → Counts reader reader' rest → reader'.taken ≤ reader'.limit → reader'.waiting ≡ [] → HasEnded l' → Finishes rest answer
      → IsJudgedInput steps left l' answer
  read_whole rest answer opened counts within none ended f =
      let bytes = with_feeds h.pieces in
      let lost : Loses left (bytes ++ rest) (open_bytes reader'.waiting l') =
      Loses-append left (open_bytes reader.waiting l) (open_bytes reader'.waiting l') bytes rest h.opened opened in
      let size = length-append bytes rest in
      let c = counts.counted in let d = counts.limit in let e = h.counted in let k = h.limit in
      let empty : length reader'.waiting ≡ 0 = ap length none in
      record {
        bytes = bytes ++ rest;
        input = record {
          lost = subst (Loses left (bytes ++ rest)) (open_none reader'.waiting l' none) lost;
          ended = ended;
          short = omega (arith, c, d, e, k, size, empty, within);
        };
        judged = judged rest answer f h.has_taken;
      }

  -- the bytes lost where a call handed out none
  lost_so_far : Loses (open_bytes reader.waiting l) [] (open_bytes reader'.waiting l') → Loses left (with_feeds h.pieces ++ reader'.waiting) l'
  lost_so_far opened =
      let bytes = with_feeds h.pieces in
      let lost : Loses left (bytes ++ []) (open_bytes reader'.waiting l') =
      Loses-append left (open_bytes reader.waiting l) (open_bytes reader'.waiting l') bytes [] h.opened opened in
      lost_waiting left l' bytes reader'.waiting (subst (λ bs. Loses left bs (open_bytes reader'.waiting l')) (append-nil bytes) lost)

  counted_so_far : Counts reader reader' [] → length (with_feeds h.pieces ++ reader'.waiting) ≡ reader'.taken
  counted_so_far counts =
      let size = length-append (with_feeds h.pieces) reader'.waiting in
      let c = counts.counted in let e = h.counted in omega (arith, c, e, size)

  -- too many bytes
  pub read_long : Loses (open_bytes reader.waiting l) [] (open_bytes reader'.waiting l') → Counts reader reader' [] → reader'.taken ≤ reader'.limit + 1
      → reader'.limit < reader'.taken → IsLong log_limit left l'
  read_long opened counts most past =
      let size = counted_so_far counts in let d = counts.limit in let k = h.limit in
      record { taken = with_feeds h.pieces ++ reader'.waiting; lost = lost_so_far opened; longer = omega (arith, size, d, k, most, past) }

  -- an error
  pub read_part : Loses (open_bytes reader.waiting l) [] (open_bytes reader'.waiting l') → Counts reader reader' [] → reader'.taken ≤ reader'.limit + 1
      → Takes log_limit left l'
  read_part opened counts most =
      let size = counted_so_far counts in let d = counts.limit in let k = h.limit in
      record { taken = with_feeds h.pieces ++ reader'.waiting; lost = lost_so_far opened; few = omega (arith, size, d, k, most) }

-- WHAT A CALL HANDS OUT
-- the bytes that the next line or the rest uses up
abbrev pub handed : NextLine → List ℕ
handed next = handed_out {E = ReadError} (Ok next)

pub record Hands (l l' : Option (List ℕ)) (reader reader' : ReaderState) (bytes : List ℕ) : Type 0 where
  pub opened : Loses (open_bytes reader.waiting l) bytes (open_bytes reader'.waiting l')
  pub counts : Counts reader reader' bytes

pub hands_line : (l l' : Option (List ℕ)) (reader reader' : ReaderState) (next : NextLine) (line text : List ℕ) → next ≡ Line line → line ≡ text
    → Hands l l' reader reader' (handed next) → Hands l l' reader reader' (text ++ 10 ∷ [])
hands_line l l' reader reader' next line text is same =
    subst (Hands l l' reader reader') (ap handed is ∙ ap (λ (xs : List ℕ). xs ++ 10 ∷ []) same)

pub hands_rest : (l l' : Option (List ℕ)) (reader reader' : ReaderState) (next : NextLine) (rest text : List ℕ) → next ≡ Rest rest → rest ≡ text
    → Hands l l' reader reader' (handed next) → Hands l l' reader reader' text
hands_rest l l' reader reader' next rest text is same = subst (Hands l l' reader reader') (ap handed is ∙ same)

-- neither has a line feed
pub line_clean : (next : NextLine) (line text : List ℕ) → next ≡ Line line → line ≡ text → (Contains (text_of next) 10 → ⊥) → HasNoLineFeed text
line_clean next line text is same none =
    no_line_feed text (subst (λ (xs : List ℕ). Contains xs 10 → ⊥) (ap text_of is ∙ same) none)

pub rest_clean : (next : NextLine) (rest text : List ℕ) → next ≡ Rest rest → rest ≡ text → (Contains (text_of next) 10 → ⊥) → HasNoLineFeed text
rest_clean next rest text is same none =
    no_line_feed text (subst (λ (xs : List ℕ). Contains xs 10 → ⊥) (ap text_of is ∙ same) none)

pub on_err : {T E : Type 0} (r : Result T E) (P : Type 0) → P → OnErr r P
on_err (Ok x) P h = tt
on_err (Err e) P h = h
