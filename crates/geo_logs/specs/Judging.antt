-- What is answered of a log that is not accepted: of what is read behind the lines of its program, the first line that is refused, and why.
use Rattle.std.specs.Prelude.{◌≡◌, ◌≢◌, ℕ, suc, ◌+◌, ◌⊎◌, Contains, ℤ, Option, Some, None, List, [], ◌∷◌, ◌++◌, length, map}
use Rattle.sparse_lists.specs.SparseLists.{AllKeys}
use Rattle.geo_poly.specs.declared.variables.Var.{Var}
use Rattle.geo_poly.specs.Monomials.{Powers}
use Rattle.geo_poly.specs.Polynomials.{Summands, IsPolynomial, product_of}
use Rattle.geo_poly.specs.Replace.{replaced_by}
use Rattle.geo_poly.specs.Specialise.{NoneZero}
use Rattle.geo_sample.specs.Samples.{specialised_by}
use Rattle.geo_sample.specs.Tries.{AreMade, single_tries}
use Rattle.geo_terms.specs.Constructions.{Construction}
use Rattle.proof_log.specs.declared.log.Line.{Line}
use Rattle.proof_log.specs.declared.log.Line.TheVariants.{Header, Program, Condition, Goal, Start, Ratio, Point, Coords, Cut, End, Sample, Verdict as VerdictLine, StopTooLarge, StopSpent}
use Rattle.proof_log.specs.declared.log.Verdict.{Verdict}
use Rattle.geo_logs.specs.declared.moves.Move.{Move}
use Rattle.geo_logs.specs.Moves.{IsMoveStopped, Stop, Table, replacement}
use Rattle.geo_logs.specs.Starts.{IsStarted, IsStartStopped, start_of}
use Rattle.geo_logs.specs.Chains.{IsAcceptedChain, IsEnd, LeadsTo, line_of, moves}
use Rattle.geo_logs.specs.Logs.{AreConditionsWorked, Subject}
use Rattle.geo_logs.specs.Places.{AreConditionsBegun, Place, before_line, before_sample, before_start, first_lines, in_chain}
use Rattle.geo_logs.specs.Samples.{AreTriesStopped, IsAcceptedSample, sample_variables}

-- THE REASONS
pub data Reason : Type 0 where
  -- no line of a log, or one without its line feed
  bad_line : Reason
  -- a line of a kind that may not stand there
  wrong_line : Reason
  -- the lines of no program
  wrong_program : Reason
  -- the header of another chain than the next one
  wrong_chain : Reason
  -- another start
  wrong_start : Reason
  -- a move that replaces nothing
  no_row : Reason
  -- another polynomial than the move or the cut gives
  wrong_polynomial : Reason
  -- a cut by a variable that is not known, or with a rest
  wrong_cut : Reason
  -- an end where a quantity of points is left
  not_ended : Reason
  -- a sample with other variables, or at which a listed polynomial is 0
  wrong_sample : Reason
  -- another verdict than the evidence gives
  wrong_verdict : Reason
  -- no line where one is due
  unfinished : Reason

-- the number of a reason
abbrev pub number_of : Reason → ℕ
number_of bad_line = 21
number_of wrong_line = 22
number_of wrong_program = 23
number_of wrong_chain = 24
number_of wrong_start = 25
number_of no_row = 26
number_of wrong_polynomial = 27
number_of wrong_cut = 28
number_of not_ended = 29
number_of wrong_sample = 30
number_of wrong_verdict = 31
number_of unfinished = 32

-- a line is rejected, or its charge or its size stops it
pub data Refusal : Type 0 where
  rejected : Reason → Refusal
  stopped : Stop → Refusal

-- KINDS
pub data Kind : Type 0 where
  header_kind program_kind chain_kind start_kind inner_kind sample_kind verdict_kind stop_kind : Kind

abbrev pub kind_of : Line → Kind
kind_of (Header version) = header_kind
kind_of (Program text) = program_kind
kind_of (Condition k text) = chain_kind
kind_of (Goal k text) = chain_kind
kind_of (Start q) = start_kind
kind_of (Ratio v lemma at q) = inner_kind
kind_of (Point at q) = inner_kind
kind_of (Coords q) = inner_kind
kind_of (Cut by q) = inner_kind
kind_of End = inner_kind
kind_of (Sample values) = sample_kind
kind_of (VerdictLine verdict) = verdict_kind
kind_of (StopTooLarge n which) = stop_kind
kind_of (StopSpent n) = stop_kind

-- the kind that may stand at a place
abbrev pub kind_at : Place → Kind
kind_at (before_line line) = kind_of line
kind_at (before_start left e) = start_kind
kind_at (in_chain known left q) = inner_kind
kind_at (before_sample listed left) = sample_kind

-- REFUSALS OF A LINE OF THE RIGHT KIND
-- a header of a chain or a verdict other than the one that is due
abbrev pub IsOtherLine : Line → Line → Refusal → Type 0
IsOtherLine due line (rejected wrong_chain) = (kind_of due ≡ chain_kind) × (line ≢ due)
IsOtherLine due line (rejected wrong_verdict) = (kind_of due ≡ verdict_kind) × (line ≢ due)
IsOtherLine due line _ = ⊥

-- a move: nothing is replaced; else it is stopped; else the result is another one
abbrev pub IsMoveRefused : Table → Construction → ℕ → Summands → Move → Summands → Refusal → Type 0
IsMoveRefused table c left q move r (rejected no_row) = (replacement table c move q).rows ≡ []
IsMoveRefused table c left q move r (stopped stop) =
    ((replacement table c move q).rows ≢ []) × IsMoveStopped (replacement table c move q) left q stop
IsMoveRefused table c left q move r (rejected wrong_polynomial) =
    ((replacement table c move q).rows ≢ []) × ((stop : Stop) → IsMoveStopped (replacement table c move q) left q stop → ⊥)
    × (r ≢ replaced_by (replacement table c move q).rows (replacement table c move q).den.poly q)
IsMoveRefused table c left q move r _ = ⊥

-- a monomial in known variables alone
abbrev pub IsByKnown : List Var → Powers → Type 0
IsByKnown known m = AllKeys (λ v. Contains known v) m

-- a cut: by a variable that is not known, or with a rest; else the quotient is another one
abbrev pub IsCutRefused : List Var → Summands → Powers × ℤ → Summands → Refusal → Type 0
IsCutRefused known q f r (rejected wrong_cut) = (IsByKnown known f.0 → ⊥) ⊎ ((s : Summands) → IsPolynomial s → product_of (f ∷ []) s ≢ q)
IsCutRefused known q f r (rejected wrong_polynomial) =
    IsByKnown known f.0 × ((s : Summands) × IsPolynomial s × (product_of (f ∷ []) s ≡ q) × (r ≢ s))
IsCutRefused known q f r _ = ⊥

-- a line inside a chain, after the polynomial q
abbrev pub IsInnerRefused : Table → Construction → List Var → ℕ → Summands → Line → Refusal → Type 0
IsInnerRefused table c known left q End refusal = (refusal ≡ rejected not_ended) × (IsEnd q → ⊥)
IsInnerRefused table c known left q (Cut f r) refusal = IsCutRefused known q f r refusal
IsInnerRefused table c known left q line refusal =
    (move : Move) × (r : Summands) × (line ≡ line_of (moves move r)) × IsMoveRefused table c left q move r refusal

-- a sample: other variables, or in another order; else a try is stopped; else a listed polynomial is 0
abbrev pub IsSampleRefused : Construction → List Summands → ℕ → List (Var × ℤ) → Refusal → Type 0
IsSampleRefused c listed left values (rejected wrong_sample) =
    (map (λ v. v.0) values ≢ sample_variables c)
    ⊎ ((map (λ v. v.0) values ≡ sample_variables c) × ((left' : ℕ) × AreMade left (single_tries values listed) left')
    × (NoneZero (specialised_by values listed) → ⊥))
IsSampleRefused c listed left values (stopped stop) = (map (λ v. v.0) values ≡ sample_variables c) × AreTriesStopped listed left values stop
IsSampleRefused c listed left values _ = ⊥

-- the line, which is of the right kind, is refused at the place
abbrev pub IsRefusedAt : Table → Construction → Place → Line → Refusal → Type 0
IsRefusedAt table c (before_line due) line refusal = IsOtherLine due line refusal
IsRefusedAt table c (before_start left e) (Start q) (stopped stop) = IsStartStopped left e stop
IsRefusedAt table c (before_start left e) (Start q) (rejected wrong_start) = IsStarted left e × (q ≢ start_of e)
IsRefusedAt table c (in_chain known left q) line refusal = IsInnerRefused table c known left q line refusal
IsRefusedAt table c (before_sample listed left) (Sample values) refusal = IsSampleRefused c listed left values refusal
IsRefusedAt table c _ _ _ = ⊥

-- what is read at the place is refused: no line of a log, a line of another kind, or one that is wrong
abbrev pub IsRefused : Table → Construction → Place → Option Line → Refusal → Type 0
IsRefused table c place None refusal = refusal ≡ rejected bad_line
IsRefused table c place (Some line) refusal =
    ((kind_of line ≢ kind_at place) × (refusal ≡ rejected wrong_line))
    ⊎ ((kind_of line ≡ kind_at place) × IsRefusedAt table c place line refusal)

-- what is read after the verdict is refused
abbrev pub IsAfterVerdict : Option Line → Refusal → Type 0
IsAfterVerdict None refusal = refusal ≡ rejected bad_line
IsAfterVerdict (Some line) refusal = refusal ≡ rejected wrong_line

-- JUDGING what is read line by line behind the program (None: no line of a log)
module _ (table : Table) (subject : Subject) (steps : ℕ) where
  -- the lines behind the program begin an accepted log, which stands at the place after them
  abbrev pub IsGoodSoFar : List Line → Place → Type 0
  IsGoodSoFar good place =
      let c = subject.construction in
      AreConditionsBegun (LeadsTo table c) (IsAcceptedChain table c) (IsAcceptedSample c)
      subject.goals [] [] 1 steps subject.conditions good place

  -- the lines behind the program are those of an accepted log, whole
  abbrev pub IsGoodToEnd : List Line → Type 0
  IsGoodToEnd good =
      let c = subject.construction in
      (verdict : Verdict) × (left : ℕ)
      × AreConditionsWorked (IsAcceptedChain table c) (IsAcceptedSample c) subject.goals [] [] 1 steps subject.conditions good verdict left

  -- the number of the line behind the header, the program and these lines
  abbrev pub number_after : List Line → ℕ
  number_after good = suc (length (first_lines subject) + length good)

  -- after good lines one is refused
  pub record IsLineRefused (reads : List (Option Line)) (number : ℕ) (refusal : Refusal) : Type 0 where
    pub good : List Line
    pub place : Place
    pub read : Option Line
    pub more : List (Option Line)
    pub split : reads ≡ map Some good ++ read ∷ more
    pub counted : number ≡ number_after good
    pub stands : IsGoodSoFar good place
    pub refused : IsRefused table subject.construction place read refusal

  -- after a whole log something follows
  pub record IsFollowed (reads : List (Option Line)) (number : ℕ) (refusal : Refusal) : Type 0 where
    pub good : List Line
    pub read : Option Line
    pub more : List (Option Line)
    pub split : reads ≡ map Some good ++ read ∷ more
    pub counted : number ≡ number_after good
    pub whole : IsGoodToEnd good
    pub refused : IsAfterVerdict read refusal

  -- after good lines nothing follows
  pub record IsUnfinished (reads : List (Option Line)) (number : ℕ) (refusal : Refusal) : Type 0 where
    pub good : List Line
    pub place : Place
    pub split : reads ≡ map Some good
    pub counted : number ≡ number_after good
    pub stands : IsGoodSoFar good place
    pub refused : refusal ≡ rejected unfinished

  -- of what is read behind the program the line of this number is the first that is refused
  abbrev pub IsFirstRefusal : List (Option Line) → ℕ → Refusal → Type 0
  IsFirstRefusal reads number refusal =
      IsLineRefused reads number refusal ⊎ (IsFollowed reads number refusal ⊎ IsUnfinished reads number refusal)
