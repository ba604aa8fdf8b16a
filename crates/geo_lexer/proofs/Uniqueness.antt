-- A text has one lexing.
use Rattle.std.proofs.Common.{◌≡◌, ℕ, ◌+◌, ◌<◌, ◌≤◌, ◌^◌, Bool, true, false, Option, Some, None, List, [], ◌∷◌, length, drop, get_or, slice_range, refl, ap, sym, ◌∙◌, subst, inl, inr, ⊎_elim, arith}
use Rattle.std.proofs.lemmas.Bool.{cases_order, false≢true}
use Rattle.std.proofs.lemmas.List.{drop_more}
use Rattle.geo_base.specs.Decimals.{decimal_size}
use Rattle.geo_lexer.specs.declared.token_types.Fault.{Fault}
use Rattle.geo_lexer.specs.declared.token_types.Kind.{Kind}
use Rattle.geo_lexer.specs.declared.token_types.Kind.TheVariants.{Word, Number}
use Rattle.geo_lexer.specs.declared.token_types.Token.{Token}
use Rattle.geo_lexer.specs.Bytes.{is_blank, is_comment_start, is_gap}
use Rattle.geo_lexer.specs.Tokens.{AreTokens, IsFaultAt, IsGap, IsLastGap, IsLexed, IsLexedEnd, IsLongWordAt, IsTokenAt, IsWideNumberAt}
use Rattle.geo_lexer.proofs.GapLemmas.{from_gap, is_gap-append}
use Rattle.geo_lexer.proofs.Pieces.{IsPieceAt, IsPieceAt-token, IsSmall, first_of_piece, nothing_is_no_piece, piece_is_no_gap, same_piece}
use Rattle.geo_lexer.proofs.Ranges.{slice_range_first, slice_range_split}
use Rattle.geo_lexer.proofs.TokenListLemmas.{IsFaultAt-within, IsTokenAt-within}

-- ---- gaps end at one place

-- a byte of the text that is neither a blank nor `%`
record EndsGap (bytes : List ℕ) (place : ℕ) : Type 0 where
  within : place < length bytes
  no_blank : is_blank (get_or bytes place 0) ≡ false
  no_comment : is_comment_start (get_or bytes place 0) ≡ false

EndsGap-piece : (bytes : List ℕ) (kind : Kind) (start end : ℕ) → start < length bytes → IsPieceAt bytes kind start end → EndsGap bytes start
EndsGap-piece bytes kind start end inside at =
    let plain = piece_is_no_gap kind (get_or bytes start 0) (first_of_piece bytes kind start end at) in
    record { within = inside; no_blank = plain.0; no_comment = plain.1 }

EndsGap-token : (bytes : List ℕ) (kind : Kind) (start end : ℕ) → IsTokenAt bytes kind start end → EndsGap bytes start
EndsGap-token bytes kind start end at =
    let within = IsTokenAt-within bytes kind start end at in
    EndsGap-piece bytes kind start end (omega arith) (IsPieceAt-token bytes kind start end at).0

EndsGap-fault : (bytes : List ℕ) (refusal place : ℕ) → IsFaultAt bytes refusal place → EndsGap bytes place
EndsGap-fault bytes refusal place (inl nothing) =
    record { within = nothing.1.within; no_blank = nothing.1.no_blank; no_comment = nothing.1.no_comment }
EndsGap-fault bytes refusal place (inr (inl wide)) =
    EndsGap-piece bytes Number place wide.1.end (IsFaultAt-within bytes refusal place (inr (inl wide))) wide.1.number
EndsGap-fault bytes refusal place (inr (inr long)) =
    EndsGap-piece bytes Word place long.1.end (IsFaultAt-within bytes refusal place (inr (inr long))) long.1.word

-- a gap does not begin at what ends one
stuck : (open_end : Bool) (b : ℕ) (bs : List ℕ) → is_blank b ≡ false → is_comment_start b ≡ false → is_gap open_end false (b ∷ bs) ≡ false
stuck open_end b bs no_blank no_comment = rw (no_blank, no_comment) refl

-- a last gap passes over no byte that ends gaps
no_last_gap : (bytes : List ℕ) (start place : ℕ) → IsGap bytes start place → EndsGap bytes place → IsLastGap bytes start → ⊥
no_last_gap bytes start place gap ends last =
    false≢true
    (sym (stuck true (get_or bytes place 0) (drop (place + 1) bytes) ends.no_blank ends.no_comment)
    ∙ sym (ap (is_gap true false) (drop_more bytes place 0 ends.within))
    ∙ sym (from_gap true bytes start place gap)
    ∙ last.1)

-- nor does a gap
no_further : (bytes : List ℕ) (start place far : ℕ) → IsGap bytes start place → EndsGap bytes place → IsGap bytes start far → place < far → ⊥
no_further bytes start place far gap ends other more =
    false≢true
    (sym (stuck false (get_or bytes place 0) (slice_range bytes (place + 1) far) ends.no_blank ends.no_comment)
    ∙ sym (ap (is_gap false false) (slice_range_first bytes place far ends.within more))
    ∙ sym (is_gap-append false false (slice_range bytes start place) (slice_range bytes place far) gap.2)
    ∙ sym (ap (is_gap false false) (slice_range_split bytes start place far gap.0 (omega arith)))
    ∙ other.2)

same_place : (bytes : List ℕ) (start place far : ℕ) → IsGap bytes start place → EndsGap bytes place → IsGap bytes start far → EndsGap bytes far → place ≡ far
same_place bytes start place far gap ends other far_ends =
    ⊎_elim (λ same. same) (λ apart. absurd (⊎_elim (no_further bytes start place far gap ends other) (no_further bytes start far place other far_ends gap) apart)) (cases_order place far)

-- ---- what stands at a place

-- a token has its length and size
wide_is_no_token : (bytes : List ℕ) (kind : Kind) (start end : ℕ) → IsTokenAt bytes kind start end → IsWideNumberAt bytes start → ⊥
wide_is_no_token bytes kind start end at wide =
    let piece = IsPieceAt-token bytes kind start end at in
    let same = same_piece bytes kind Number start end wide.end piece.0 wide.number in
    let small : IsSmall bytes Number start end = subst (λ (k : Kind). IsSmall bytes k start end) same.kinds piece.1 in
    let large : 2 ^ 127 ≤ decimal_size (slice_range bytes start end) = subst (λ (e : ℕ). 2 ^ 127 ≤ decimal_size (slice_range bytes start e)) (sym same.ends) wide.wide in
    omega arith

long_is_no_token : (bytes : List ℕ) (kind : Kind) (start end : ℕ) → IsTokenAt bytes kind start end → IsLongWordAt bytes start → ⊥
long_is_no_token bytes kind start end at long =
    let piece = IsPieceAt-token bytes kind start end at in
    let same = same_piece bytes kind Word start end long.end piece.0 long.word in
    let small : IsSmall bytes Word start end = subst (λ (k : Kind). IsSmall bytes k start end) same.kinds piece.1 in
    let ends = same.ends in
    let large = long.long in
    omega arith

-- no token stands where a fault does
fault_is_no_token : (bytes : List ℕ) (kind : Kind) (refusal start end : ℕ) → IsFaultAt bytes refusal start → IsTokenAt bytes kind start end → ⊥
fault_is_no_token bytes kind refusal start end (inl nothing) at =
    nothing_is_no_piece bytes kind start end nothing.1 (IsPieceAt-token bytes kind start end at).0
fault_is_no_token bytes kind refusal start end (inr (inl wide)) at = wide_is_no_token bytes kind start end at wide.1
fault_is_no_token bytes kind refusal start end (inr (inr long)) at = long_is_no_token bytes kind start end at long.1

-- a wide number is no long word
wide_is_not_long : (bytes : List ℕ) (place : ℕ) → IsWideNumberAt bytes place → IsLongWordAt bytes place → ⊥
wide_is_not_long bytes place wide long =
    let kinds = (same_piece bytes Number Word place wide.end long.end wide.number long.word).kinds in cc

-- one refusal stands at a place
same_refusal : (bytes : List ℕ) (refusal other place : ℕ) → IsFaultAt bytes refusal place → IsFaultAt bytes other place → refusal ≡ other
same_refusal bytes refusal other place (inl a) (inl b) = a.0 ∙ sym b.0
same_refusal bytes refusal other place (inl a) (inr (inl b)) = absurd (nothing_is_no_piece bytes Number place b.1.end a.1 b.1.number)
same_refusal bytes refusal other place (inl a) (inr (inr b)) = absurd (nothing_is_no_piece bytes Word place b.1.end a.1 b.1.word)
same_refusal bytes refusal other place (inr (inl a)) (inl b) = absurd (nothing_is_no_piece bytes Number place a.1.end b.1 a.1.number)
same_refusal bytes refusal other place (inr (inl a)) (inr (inl b)) = a.0 ∙ sym b.0
same_refusal bytes refusal other place (inr (inl a)) (inr (inr b)) = absurd (wide_is_not_long bytes place a.1 b.1)
same_refusal bytes refusal other place (inr (inr a)) (inl b) = absurd (nothing_is_no_piece bytes Word place a.1.end b.1 a.1.word)
same_refusal bytes refusal other place (inr (inr a)) (inr (inl b)) = absurd (wide_is_not_long bytes place b.1 a.1)
same_refusal bytes refusal other place (inr (inr a)) (inr (inr b)) = a.0 ∙ sym b.0

-- ---- lexings

-- after the same tokens a text ends in one way
same_fault : (bytes : List ℕ) (end : ℕ) (f g : Option Fault) → IsLexedEnd bytes end f → IsLexedEnd bytes end g → f ≡ g
same_fault bytes end None None a b = refl
same_fault bytes end None (Some g) a b = absurd (no_last_gap bytes end g.place b.0 (EndsGap-fault bytes g.refusal g.place b.1) a)
same_fault bytes end (Some f) None a b = absurd (no_last_gap bytes end f.place a.0 (EndsGap-fault bytes f.refusal f.place a.1) b)
same_fault bytes end (Some f) (Some g) a b =
    let place : f.place ≡ g.place = same_place bytes end f.place g.place a.0 (EndsGap-fault bytes f.refusal f.place a.1) b.0 (EndsGap-fault bytes g.refusal g.place b.1) in
    let refusal : f.refusal ≡ g.refusal = same_refusal bytes f.refusal g.refusal g.place (subst (IsFaultAt bytes f.refusal) place a.1) b.1 in
    λ i. Some (record { refusal = refusal i; place = place i })

-- a text does not end where another token follows
end_is_no_token : (bytes : List ℕ) (end : ℕ) (fault : Option Fault) (t : Token) → IsLexedEnd bytes end fault → IsGap bytes end t.start → IsTokenAt bytes t.kind t.start t.end → ⊥
end_is_no_token bytes end None t ends gap at = no_last_gap bytes end t.start gap (EndsGap-token bytes t.kind t.start t.end at) ends
end_is_no_token bytes end (Some f) t ends gap at =
    let place : f.place ≡ t.start = same_place bytes end f.place t.start ends.0 (EndsGap-fault bytes f.refusal f.place ends.1) gap (EndsGap-token bytes t.kind t.start t.end at) in
    fault_is_no_token bytes t.kind f.refusal t.start t.end (subst (IsFaultAt bytes f.refusal) place ends.1) at

-- from one place on one token comes next
same_token : (bytes : List ℕ) (start : ℕ) (t u : Token) → IsGap bytes start t.start → IsTokenAt bytes t.kind t.start t.end → IsGap bytes start u.start → IsTokenAt bytes u.kind u.start u.end → t ≡ u
same_token bytes start t u gap at other too =
    let starts : t.start ≡ u.start = same_place bytes start t.start u.start gap (EndsGap-token bytes t.kind t.start t.end at) other (EndsGap-token bytes u.kind u.start u.end too) in
    let same = same_piece bytes t.kind u.kind u.start t.end u.end
    (subst (λ (s : ℕ). IsPieceAt bytes t.kind s t.end) starts (IsPieceAt-token bytes t.kind t.start t.end at).0)
    (IsPieceAt-token bytes u.kind u.start u.end too).0 in
    λ i. record { kind = same.kinds i; start = starts i; end = same.ends i }

one_from : (bytes : List ℕ) (start end far : ℕ) (ts us : List Token) (f g : Option Fault) → AreTokens bytes start ts end
    → IsLexedEnd bytes end f → AreTokens bytes start us far → IsLexedEnd bytes far g → (ts ≡ us) × (f ≡ g)
one_from bytes start end far [] [] f g a ends b others =
    (refl, same_fault bytes start f g (subst (λ (n : ℕ). IsLexedEnd bytes n f) (sym a) ends) (subst (λ (n : ℕ). IsLexedEnd bytes n g) (sym b) others))
one_from bytes start end far [] (u ∷ us) f g a ends b others =
    absurd (end_is_no_token bytes start f u (subst (λ (n : ℕ). IsLexedEnd bytes n f) (sym a) ends) b.0 b.1)
one_from bytes start end far (t ∷ ts) [] f g a ends b others =
    absurd (end_is_no_token bytes start g t (subst (λ (n : ℕ). IsLexedEnd bytes n g) (sym b) others) a.0 a.1)
one_from bytes start end far (t ∷ ts) (u ∷ us) f g a ends b others =
    let same : t ≡ u = same_token bytes start t u a.0 a.1 b.0 b.1 in
    let rest = one_from bytes u.end end far ts us f g (subst (λ (x : Token). AreTokens bytes x.end ts end) same a.2) ends b.2 others in
    (λ i. same i ∷ rest.0 i, rest.1)

-- two lexings have the same tokens and the same fault
pub one_lexing : (bytes : List ℕ) (ts us : List Token) (f g : Option Fault) → IsLexed bytes ts f → IsLexed bytes us g → (ts ≡ us) × (f ≡ g)
one_lexing bytes ts us f g a b = one_from bytes 0 a.end b.end ts us f g a.tokens_are a.end_is b.tokens_are b.end_is
