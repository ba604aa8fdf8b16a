-- Bytes that begin with lines that stop are refused there.
use Rattle.std.proofs.Common.{◌≡◌, ℕ, inl, inr, Option, List, [], ◌∷◌, ◌++◌, append_assoc, refl, sym, ◌∙◌, subst}
use Rattle.proof_log.specs.declared.log.Line.{Line}
use Rattle.proof_log.specs.Writable.{HasNoLineFeed}
use Rattle.geo_logs.specs.Judging.{Refusal}
use Rattle.log_checker.specs.Checked.{AreEachRead, StopsAt}
use Rattle.log_checker.specs.Checkers.{with_feeds}
use Rattle.log_checker.specs.Judged.{AreRead, IsFirstStop, IsRead, Refuses}
use Rattle.log_checker.proofs.Judged.{first_piece, has_feed, not_empty, one_read}
use Rattle.log_checker.proofs.ReadLines.{bytes_are_read}

split_first : (piece : List ℕ) (ps : List (List ℕ)) (rest bytes : List ℕ) → bytes ≡ with_feeds (piece ∷ ps) ++ rest → bytes ≡ piece ++ 10 ∷ (with_feeds ps ++ rest)
split_first piece ps rest bytes e = e ∙ append_assoc (piece ++ 10 ∷ []) (with_feeds ps) rest ∙ append_assoc piece (10 ∷ []) (with_feeds ps ++ rest)

-- what is read of the whole begins with what is read of the first pieces
front_read : (pieces : List (List ℕ)) (reads whole : List (Option Line)) (rest bytes : List ℕ) → AreEachRead pieces reads → bytes ≡ with_feeds pieces ++ rest → AreRead bytes whole
    → (more : List (Option Line)) × (whole ≡ reads ++ more)
front_read [] [] whole rest bytes h e g = (whole, refl)
front_read [] (r ∷ rs) whole rest bytes h e g = absurd h
front_read (piece ∷ ps) [] whole rest bytes h e g = absurd h
front_read (piece ∷ ps) (r ∷ rs) [] rest bytes h e g =
    absurd (not_empty piece (with_feeds ps ++ rest) (sym g ∙ split_first piece ps rest bytes e))
front_read (piece ∷ ps) (r ∷ rs) (read ∷ whole) rest bytes h e (inl (first, g)) =
    let same = first_piece first.piece piece first.rest (with_feeds ps ++ rest) first.one_line h.0 (sym first.split ∙ split_first piece ps rest bytes e) in
    let line : read ≡ r = one_read piece read r (subst (λ bs. IsRead bs read) same.0 first.is_read) h.1 in
    let behind = front_read ps rs whole rest first.rest h.2 same.1 g in
    (behind.0, λ i. line i ∷ behind.1 i)
front_read (piece ∷ ps) (r ∷ rs) (read ∷ whole) rest bytes h e (inr g) =
    absurd (has_feed piece (with_feeds ps ++ rest) (subst HasNoLineFeed (split_first piece ps rest bytes e) g.1))

pub stops_early : (bytes rest : List ℕ) (pieces : List (List ℕ)) (steps number : ℕ) (refusal : Refusal) → bytes ≡ with_feeds pieces ++ rest → StopsAt steps pieces number refusal
    → Refuses bytes steps number refusal
stops_early bytes rest pieces steps number refusal e s =
    let read = bytes_are_read bytes in
    let front = front_read pieces s.reads read.0 rest bytes s.are_read e read.1 in
    record { reads = read.0; are_read = read.1; stops = subst (λ rs. IsFirstStop steps rs number refusal) (sym front.1) (s.stops front.0) }
