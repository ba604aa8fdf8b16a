-- A checker takes a line, and is finished.
use Rattle.std.proofs.Common.{◌≡◌, ◌≢◌, ℕ, suc, ◌+◌, ◌≤◌, inl, inr, Option, Some, None, List, [], ◌∷◌, ◌++◌, map, length, append-nil, append_assoc, refl, sym, ◌∙◌, ap, subst, arith}
use Rattle.std.proofs.lemmas.List.{length-append, map-append}
use Rattle.std.proofs.lemmas.List.Folds.{flat_map-map}
use Rattle.proof_log.specs.declared.log.Line.{Line}
use Rattle.proof_log.specs.Lines.{line_text, log_text}
use Rattle.proof_log.specs.Writable.{AllWritable, HasNoLineFeed, IsWritable}
use Rattle.proof_log.proofs.NoLineFeeds.{no_line_feed}
use Rattle.geo_logs.specs.Judging.{Refusal}
use Rattle.log_checker.specs.Checked.{AreEachRead, IsAnswer, StopsAt, TellsStop}
use Rattle.log_checker.specs.Checkers.{CheckerValue, IsSound, StandsFor, error_of, with_feeds}
use Rattle.log_checker.specs.Inner.Judged.{IsAnswerOf, IsNextPiece, IsReachedState, Leaves, StopsAtPiece, StopsNext, StopsThere}
use Rattle.log_checker.specs.Judged.{AreRead, IsFirstStop, IsRead, Refuses}
use Rattle.log_checker.specs.declared.accepted.Accepted.{Accepted}
use Rattle.log_checker.specs.declared.errors.CheckError.{CheckError}
use Rattle.log_checker.specs.declared.state.State.{State}
use Rattle.log_checker.specs.declared.state.State.TheVariants as state
use Rattle.log_checker.proofs.EarlyStops.{stops_early}
use Rattle.log_checker.proofs.Judged.{lines_read}
use Rattle.log_checker.proofs.Places.{map-length}
use Rattle.log_checker.proofs.JudgedAnswers.{tells_stop_map}
use Rattle.log_checker.proofs.ProgramTexts.{with_feeds-append}

-- the text of lines is that of their texts
text_of_lines : (lines : List Line) → with_feeds (map line_text lines) ≡ log_text lines
text_of_lines lines = flat_map-map (λ (piece : List ℕ). piece ++ 10 ∷ []) line_text lines

pub text_taken : (c : CheckerValue) (pieces : List (List ℕ)) (h : StandsFor c pieces) → with_feeds pieces ≡ log_text h.lines
text_taken c pieces h = ap with_feeds h.texts ∙ text_of_lines h.lines

pub leaves_of : (c : CheckerValue) (pieces : List (List ℕ)) (h : StandsFor c pieces) → c.taken ≤ 67108864 → Leaves c.steps h.lines c.state
leaves_of c pieces h fits =
    let same : length (with_feeds pieces) ≡ length (log_text h.lines) = ap length (text_taken c pieces h) in
    record { writable = h.writable; fits = omega (arith, h.taken, same, fits); left = h.left }

-- there are as many lines as pieces
pub lines_counted : (c : CheckerValue) (pieces : List (List ℕ)) (h : StandsFor c pieces) → c.lines ≡ length h.lines
lines_counted c pieces h = h.counted ∙ ap length h.texts ∙ map-length line_text h.lines

reached_by : (steps : ℕ) (lines : List Line) (s : State) → Leaves steps lines s → IsReachedState steps s
reached_by steps lines (state.Failed e) h = tt
reached_by steps lines state.Empty h = (lines, h)
reached_by steps lines (state.Program version text) h = (lines, h)
reached_by steps lines (state.Work w) h = (lines, h)

pub reached : (c : CheckerValue) → IsSound c → error_of c ≡ None → c.taken ≤ 67108864 → IsReachedState c.steps c.state
reached c sound none fits = let at = sound.stands none in reached_by c.steps at.1.lines c.state (leaves_of c at.0 at.1 fits)

reached_state : (steps taken lines : ℕ) (s : State) → IsSound (record { steps = steps; taken = taken; lines = lines; state = s }) → taken ≤ 67108864 → IsReachedState steps s
reached_state steps taken lines (state.Failed e) sound fits = tt
reached_state steps taken lines state.Empty sound fits = reached (record { steps = steps; taken = taken; lines = lines; state = state.Empty }) sound refl fits
reached_state steps taken lines (state.Program version text) sound fits = reached (record { steps = steps; taken = taken; lines = lines; state = state.Program version text }) sound refl fits
reached_state steps taken lines (state.Work w) sound fits = reached (record { steps = steps; taken = taken; lines = lines; state = state.Work w }) sound refl fits

-- whether it has failed or not
pub reached_or_failed : (c : CheckerValue) → IsSound c → c.taken ≤ 67108864 → IsReachedState c.steps c.state
reached_or_failed c sound fits = reached_state c.steps c.taken c.lines c.state sound fits

-- TAKING A LINE
writable-append : (lines : List Line) (line : Line) → AllWritable lines → IsWritable line → AllWritable (lines ++ line ∷ [])
writable-append [] line h g = (g, tt)
writable-append (l ∷ lines) line h g = (h.0, writable-append lines line h.1 g)

-- the checker behind one line more
abbrev pub with_line : CheckerValue → List ℕ → State → CheckerValue
with_line c piece s = record { steps = c.steps; taken = c.taken + (length piece + 1); lines = c.lines + 1; state = s }

pub take_goes : (c : CheckerValue) (pieces : List (List ℕ)) (piece : List ℕ) (s : State) (h : StandsFor c pieces) → IsNextPiece c.steps h.lines piece s
    → StandsFor (with_line c piece s) (pieces ++ piece ∷ [])
take_goes c pieces piece s h n =
    let more : length (with_feeds (pieces ++ piece ∷ [])) ≡ length (with_feeds pieces) + length (with_feeds (piece ∷ [])) =
    ap length (with_feeds-append pieces (piece ∷ [])) ∙ length-append (with_feeds pieces) (with_feeds (piece ∷ [])) in
    let last : length (with_feeds (piece ∷ [])) ≡ length piece + 1 = ap length (append-nil (piece ++ 10 ∷ [])) ∙ length-append piece (10 ∷ []) in
    let count = length-append pieces (piece ∷ []) in
    record {
      lines = h.lines ++ n.line ∷ [];
      writable = writable-append h.lines n.line h.writable n.writable;
      texts = ap (λ ps. ps ++ piece ∷ []) h.texts ∙ ap (λ (t : List ℕ). map line_text h.lines ++ t ∷ []) (sym n.text) ∙ sym (map-append line_text h.lines (n.line ∷ []));
      taken = omega (arith, h.taken, more, last);
      counted = omega (arith, h.counted, count);
      left = n.left;
    }

each_read : (lines : List Line) (piece : List ℕ) (read : Option Line) → AllWritable lines → HasNoLineFeed piece → IsRead piece read
    → AreEachRead (map line_text lines ++ piece ∷ []) (map Some lines ++ read ∷ [])
each_read [] piece read w h g = (h, g, tt)
each_read (l ∷ lines) piece read w h g = (no_line_feed l w.0, (w.0, refl), each_read lines piece read w.1 h g)

pub take_stops : (c : CheckerValue) (pieces : List (List ℕ)) (piece : List ℕ) (e : CheckError) (h : StandsFor c pieces) → HasNoLineFeed piece → TellsStop (StopsAtPiece c.steps h.lines piece) e
    → TellsStop (StopsAt c.steps (pieces ++ piece ∷ [])) e
take_stops c pieces piece e h one_line t = tells_stop_map (StopsAtPiece c.steps h.lines piece) (StopsAt c.steps (pieces ++ piece ∷ [])) go e t
  where
    go : (n : ℕ) (r : Refusal) → StopsAtPiece c.steps h.lines piece n r → StopsAt c.steps (pieces ++ piece ∷ []) n r
    go n r s = record {
      reads = map Some h.lines ++ s.read ∷ [];
      are_read = subst (λ ps. AreEachRead (ps ++ piece ∷ []) (map Some h.lines ++ s.read ∷ [])) (sym h.texts) (each_read h.lines piece s.read h.writable one_line s.is_read);
      stops = λ more. subst (λ rs. IsFirstStop c.steps rs n r) (sym (append_assoc (map Some h.lines) (s.read ∷ []) more)) (s.stops more);
    }

pub sound_with : (c : CheckerValue) (piece : List ℕ) (s : State) → IsSound c → error_of c ≡ None → c.taken ≤ 67108864
    → ((lines : List Line) → Leaves c.steps lines c.state → IsNextPiece c.steps lines piece s) → IsSound (with_line c piece s)
sound_with c piece s sound none fits next = record {
  few = omega (arith, sound.few);
  stands = λ _. let at = sound.stands none in (at.0 ++ piece ∷ [], take_goes c at.0 piece s at.1 (next at.1.lines (leaves_of c at.0 at.1 fits)));
}

-- FINISHING
pub finish_answers : (c : CheckerValue) (pieces : List (List ℕ)) (rest : List ℕ) (a : Accepted) (h : StandsFor c pieces) → rest ≡ [] → IsAnswerOf c.steps h.lines a
    → IsAnswer (with_feeds pieces ++ rest) c.steps a
finish_answers c pieces rest a h none answer = record {
  accepts = record {
    lines = h.lines;
    writable = h.writable;
    written = ap (λ bs. with_feeds pieces ++ bs) none ∙ append-nil (with_feeds pieces) ∙ text_taken c pieces h;
    accepted = answer.accepted;
  };
  version = answer.version;
  counted = answer.counted;
  charged = answer.charged;
}

pub finish_stops : (c : CheckerValue) (pieces : List (List ℕ)) (rest : List ℕ) (e : CheckError) (h : StandsFor c pieces) → rest ≡ [] → TellsStop (StopsThere c.steps h.lines) e
    → TellsStop (Refuses (with_feeds pieces ++ rest) c.steps) e
finish_stops c pieces rest e h none t = tells_stop_map (StopsThere c.steps h.lines) (Refuses (with_feeds pieces ++ rest) c.steps) go e t
  where
    go : (n : ℕ) (r : Refusal) → StopsThere c.steps h.lines n r → Refuses (with_feeds pieces ++ rest) c.steps n r
    go n r s = record {
      reads = map Some h.lines;
      are_read = lines_read h.lines (with_feeds pieces ++ rest) h.writable (ap (λ bs. with_feeds pieces ++ bs) none ∙ append-nil (with_feeds pieces) ∙ text_taken c pieces h);
      stops = s;
    }

rest_read : (lines : List Line) (rest bytes : List ℕ) → AllWritable lines → rest ≢ [] → HasNoLineFeed rest → bytes ≡ log_text lines ++ rest → AreRead bytes (map Some lines ++ None ∷ [])
rest_read [] rest bytes w some one_line e = inr ((λ none. some (sym e ∙ none)), subst HasNoLineFeed (sym e) one_line, refl, refl)
rest_read (l ∷ lines) rest bytes w some one_line e =
    inl (
      record {
        piece = line_text l;
        rest = log_text lines ++ rest;
        split = e ∙ append_assoc (line_text l ++ 10 ∷ []) (log_text lines) rest ∙ append_assoc (line_text l) (10 ∷ []) (log_text lines ++ rest);
        one_line = no_line_feed l w.0;
        is_read = (w.0, refl);
      },
      rest_read lines rest (log_text lines ++ rest) w.1 some one_line refl,
    )

pub rest_stops : (c : CheckerValue) (pieces : List (List ℕ)) (rest : List ℕ) (e : CheckError) (h : StandsFor c pieces) → rest ≢ [] → HasNoLineFeed rest → TellsStop (StopsNext c.steps h.lines None) e
    → TellsStop (Refuses (with_feeds pieces ++ rest) c.steps) e
rest_stops c pieces rest e h some one_line t = tells_stop_map (StopsNext c.steps h.lines None) (Refuses (with_feeds pieces ++ rest) c.steps) go e t
  where
    go : (n : ℕ) (r : Refusal) → StopsNext c.steps h.lines None n r → Refuses (with_feeds pieces ++ rest) c.steps n r
    go n r s = record {
      reads = map Some h.lines ++ None ∷ [];
      are_read = rest_read h.lines rest (with_feeds pieces ++ rest) h.writable some one_line (ap (λ bs. bs ++ rest) (text_taken c pieces h));
      stops = s [];
    }

-- WHOLE BYTES
-- the checker has taken the pieces before the rest
pub record IsTaken (bytes : List ℕ) (steps : ℕ) (c : CheckerValue) (rest : List ℕ) : Type 0 where
  pub pieces : List (List ℕ)
  pub stands : StandsFor c pieces
  pub split : bytes ≡ with_feeds pieces ++ rest
  pub steps_are : c.steps ≡ steps

-- the first line of the rest
pub record IsFirstPiece (rest piece behind : List ℕ) : Type 0 where
  pub one_line : HasNoLineFeed piece
  pub split : rest ≡ piece ++ 10 ∷ behind

pub moved_on : (pieces : List (List ℕ)) (bytes rest piece behind : List ℕ) → bytes ≡ with_feeds pieces ++ rest → rest ≡ piece ++ 10 ∷ behind → bytes ≡ with_feeds (pieces ++ piece ∷ []) ++ behind
moved_on pieces bytes rest piece behind e f =
    e ∙ ap (λ bs. with_feeds pieces ++ bs) (f ∙ sym (append_assoc piece (10 ∷ []) behind) ∙ ap (λ bs. bs ++ behind) (sym (append-nil (piece ++ 10 ∷ []))))
    ∙ sym (append_assoc (with_feeds pieces) (with_feeds (piece ∷ [])) behind) ∙ ap (λ bs. bs ++ behind) (sym (with_feeds-append pieces (piece ∷ [])))

-- there is room for it
pub has_room : (bytes rest piece behind : List ℕ) (steps : ℕ) (c : CheckerValue) → length bytes ≤ 67108864 → IsTaken bytes steps c rest → rest ≡ piece ++ 10 ∷ behind
    → c.taken + length piece + 1 ≤ 67108864
has_room bytes rest piece behind steps c fits t e =
    let a : length bytes ≡ length (with_feeds t.pieces) + length rest = ap length t.split ∙ length-append (with_feeds t.pieces) rest in
    let b : length rest ≡ length piece + length (10 ∷ behind) = ap length e ∙ length-append piece (10 ∷ behind) in
    let d : length (10 ∷ behind) ≡ suc (length behind) = refl in
    omega (arith, a, b, d, t.stands.taken, fits)

pub taken_more : (bytes rest piece behind : List ℕ) (steps : ℕ) (c c' : CheckerValue) (t : IsTaken bytes steps c rest) → rest ≡ piece ++ 10 ∷ behind → c'.steps ≡ c.steps
    → StandsFor c' (t.pieces ++ piece ∷ []) → IsTaken bytes steps c' behind
taken_more bytes rest piece behind steps c c' t e same stands =
    record { pieces = t.pieces ++ piece ∷ []; stands = stands; split = moved_on t.pieces bytes rest piece behind t.split e; steps_are = same ∙ t.steps_are }

pub stopped : (bytes rest piece behind : List ℕ) (steps : ℕ) (c : CheckerValue) (t : IsTaken bytes steps c rest) (e : CheckError) → rest ≡ piece ++ 10 ∷ behind
    → TellsStop (StopsAt c.steps (t.pieces ++ piece ∷ [])) e → TellsStop (Refuses bytes steps) e
stopped bytes rest piece behind steps c t e is h =
    tells_stop_map (StopsAt c.steps (t.pieces ++ piece ∷ [])) (Refuses bytes steps)
    (λ n r s. stops_early bytes behind (t.pieces ++ piece ∷ []) steps n r (moved_on t.pieces bytes rest piece behind t.split is)
    (subst (λ k. StopsAt k (t.pieces ++ piece ∷ []) n r) t.steps_are s)) e h
