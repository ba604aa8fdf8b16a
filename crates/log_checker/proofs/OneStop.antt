-- What is read has one first stop at most.
use Rattle.std.proofs.Common.{◌≡◌, ℕ, ◌⊎◌, inl, inr, Option, Some, None, List, [], ◌∷◌, ◌++◌, map, refl, sym, ◌∙◌, ap₂, subst}
use Rattle.proof_log.specs.declared.log.Line.{Line}
use Rattle.proof_log.specs.declared.log.Line.TheVariants.{Header, Program as ProgramLine, Condition, Goal, Start, Ratio, Point, Coords, Cut}
use Rattle.proof_log.specs.declared.log.Line.TheVariants.{End, Sample, Verdict as VerdictLine, StopTooLarge, StopSpent}
use Rattle.geo_logs.specs.Judging.{Refusal}
use Rattle.log_checker.proofs.FirstRefusals.{one_first_refusal}
use Rattle.log_checker.specs.Judged.{BeginsWithProgram, BytesAreRefusedOnce, FirstStopIsUnique, IsFirstStop, IsHeaderRefused, IsProgramAlone, IsProgramOver, IsProgramRefused, IsRestRefused}
use Rattle.log_checker.proofs.AlikeRefusals.{first_refusal_alike}
use Rattle.log_checker.proofs.Judged.{read_once}
use Rattle.log_checker.proofs.OneSubject.{alike_subjects}

-- THE HEADER
one_header : (reads : List (Option Line)) (r s : Refusal) → IsHeaderRefused reads r → IsHeaderRefused reads s → r ≡ s
one_header [] r s h g = h ∙ sym g
one_header (None ∷ reads) r s h g = h ∙ sym g
one_header (Some (Header version) ∷ reads) r s h g = absurd h
one_header (Some (ProgramLine text) ∷ reads) r s h g = h ∙ sym g
one_header (Some (Condition k text) ∷ reads) r s h g = h ∙ sym g
one_header (Some (Goal k text) ∷ reads) r s h g = h ∙ sym g
one_header (Some (Start t) ∷ reads) r s h g = h ∙ sym g
one_header (Some (Ratio v lemma at t) ∷ reads) r s h g = h ∙ sym g
one_header (Some (Point at t) ∷ reads) r s h g = h ∙ sym g
one_header (Some (Coords t) ∷ reads) r s h g = h ∙ sym g
one_header (Some (Cut f t) ∷ reads) r s h g = h ∙ sym g
one_header (Some End ∷ reads) r s h g = h ∙ sym g
one_header (Some (Sample values) ∷ reads) r s h g = h ∙ sym g
one_header (Some (VerdictLine verdict) ∷ reads) r s h g = h ∙ sym g
one_header (Some (StopTooLarge n which) ∷ reads) r s h g = h ∙ sym g
one_header (Some (StopSpent n) ∷ reads) r s h g = h ∙ sym g

header_or_program : {A : Type 0} (reads : List (Option Line)) (r : Refusal) → IsHeaderRefused reads r → BeginsWithProgram reads → A
header_or_program reads r h first = absurd (subst (λ rs. IsHeaderRefused rs r) first.split h)

-- THE PROGRAM
abbrev programs : List (List ℕ) → List (Option Line)
programs texts = map (λ text. Some (ProgramLine text)) texts

one_program : (xs ys : List (List ℕ)) (r s : List (Option Line)) → programs xs ++ r ≡ programs ys ++ s → IsProgramOver r → IsProgramOver s → (xs ≡ ys) × (r ≡ s)
one_program [] [] r s e n m = (refl, e)
one_program [] (y ∷ ys) r s e n m = absurd (subst IsProgramOver e n)
one_program (x ∷ xs) [] r s e n m = absurd (subst IsProgramOver (sym e) m)
one_program (x ∷ xs) (y ∷ ys) r s e n m =
    let q : ◌≡◌ {A = List (Option Line)} (Some (ProgramLine x) ∷ (programs xs ++ r)) (Some (ProgramLine y) ∷ (programs ys ++ s)) = e in
    let first : ◌≡◌ {A = Option Line} (Some (ProgramLine x)) (Some (ProgramLine y)) = cc in
    let line : ProgramLine x ≡ ProgramLine y = cc in
    let text : x ≡ y = cc in
    let rest : programs xs ++ r ≡ programs ys ++ s = cc in
    let more = one_program xs ys r s rest n m in
    (ap₂ (λ (z : List ℕ) (zs : List (List ℕ)). z ∷ zs) text more.0, more.1)

same_parts : (reads : List (Option Line)) (a b : BeginsWithProgram reads) → (a.version ≡ b.version) × (a.texts ≡ b.texts) × (a.rest ≡ b.rest)
same_parts reads a b =
    let q : ◌≡◌ {A = List (Option Line)} (Some (Header a.version) ∷ (programs a.texts ++ a.rest)) (Some (Header b.version) ∷ (programs b.texts ++ b.rest)) = sym a.split ∙ b.split in
    let read : ◌≡◌ {A = Option Line} (Some (Header a.version)) (Some (Header b.version)) = cc in
    let header : Header a.version ≡ Header b.version = cc in
    let version : a.version ≡ b.version = cc in
    let rest : programs a.texts ++ a.rest ≡ programs b.texts ++ b.rest = cc in
    let more = one_program a.texts b.texts a.rest b.rest rest a.over b.over in
    (version, more.0, more.1)

module _ (steps : ℕ) where
  abbrev Behind : ℕ → List (List ℕ) → List (Option Line) → ℕ → Refusal → Type 0
  Behind version texts rest number r = IsProgramAlone texts rest number r ⊎ (IsProgramRefused texts rest number r ⊎ IsRestRefused steps version texts rest number r)

  one_behind : (version : ℕ) (texts : List (List ℕ)) (rest : List (Option Line)) (i j : ℕ) (r s : Refusal) → Behind version texts rest i r → Behind version texts rest j s → (i ≡ j) × (r ≡ s)
  one_behind version texts rest i j r s (inl a) (inl b) = (a.counted ∙ sym b.counted, a.refused ∙ sym b.refused)
  one_behind version texts rest i j r s (inl a) (inr (inl b)) = absurd (b.something a.nothing)
  one_behind version texts rest i j r s (inl a) (inr (inr b)) = absurd (b.something a.nothing)
  one_behind version texts rest i j r s (inr (inl a)) (inl b) = absurd (a.something b.nothing)
  one_behind version texts rest i j r s (inr (inr a)) (inl b) = absurd (a.something b.nothing)
  one_behind version texts rest i j r s (inr (inl a)) (inr (inl b)) = (a.counted ∙ sym b.counted, a.refused ∙ sym b.refused)
  one_behind version texts rest i j r s (inr (inl a)) (inr (inr b)) = absurd (a.wrong b.program b.well_formed b.written)
  one_behind version texts rest i j r s (inr (inr a)) (inr (inl b)) = absurd (b.wrong a.program a.well_formed a.written)
  one_behind version texts rest i j r s (inr (inr a)) (inr (inr b)) =
      let alike = alike_subjects a.program b.program a.subject b.subject a.well_formed b.well_formed (a.written ∙ sym b.written) a.about b.about (a.same_version ∙ sym b.same_version) in
      one_first_refusal b.subject steps rest i j r s (first_refusal_alike a.subject b.subject alike steps rest i r a.refused) b.refused

pub first_stop_is_unique : FirstStopIsUnique
first_stop_is_unique steps i j reads r s (inl a) (inl b) = (a.1 ∙ sym b.1, one_header reads r s a.0 b.0)
first_stop_is_unique steps i j reads r s (inl a) (inr b) = header_or_program reads r a.0 b.0
first_stop_is_unique steps i j reads r s (inr a) (inl b) = header_or_program reads s b.0 a.0
first_stop_is_unique steps i j reads r s (inr a) (inr b) =
    let parts = same_parts reads a.0 b.0 in
    one_behind steps b.0.version b.0.texts b.0.rest i j r s
    (subst (λ (v : ℕ). Behind steps v b.0.texts b.0.rest i r) parts.0
    (subst (λ (xs : List (Option Line)). Behind steps a.0.version b.0.texts xs i r) parts.2 (subst (λ (ts : List (List ℕ)). Behind steps a.0.version ts a.0.rest i r) parts.1 a.1))) b.1

pub bytes_are_refused_once : BytesAreRefusedOnce
bytes_are_refused_once bytes steps i j r s a b =
    let same : a.reads ≡ b.reads = read_once bytes a.reads b.reads a.are_read b.are_read in
    first_stop_is_unique steps i j b.reads r s (subst (λ rs. IsFirstStop steps rs i r) same a.stops) b.stops
