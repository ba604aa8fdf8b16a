-- What is printed of a log, line by line.
use Rattle.std.proofs.Common.{◌≡◌, ℕ, List, [], ◌∷◌, ◌++◌, append-nil, append_assoc, refl, sym, ap, subst, ◌∙◌, lit<}
use Rattle.geo_poly.specs.Polynomials.{Summands}
use Rattle.geo_terms.specs.Constructions.{Construction}
use Rattle.proof_log.specs.declared.log.Line.{Line}
use Rattle.proof_log.specs.declared.log.Line.TheVariants.{Header, Program, Condition, Goal, Start, Ratio, Point, Coords, Cut}
use Rattle.proof_log.specs.declared.log.Line.TheVariants.{End, Sample, Verdict as VerdictLine, StopTooLarge, StopSpent}
use Rattle.proof_log.specs.Lines.{line_text, log_text}
use Rattle.proof_log.specs.Writable.{AllWritable, CanWritePolynomial, HasNoLineFeed, IsWritable}
use Rattle.proof_log.proofs.NoLineFeeds.{no_line_feed}
use Rattle.proof_printer.specs.Naming.{Naming}
use Rattle.proof_printer.specs.Readable.{lines_of, polynomial_after, readable}
use Rattle.proof_printer.specs.Inner.Printing.{CanPrint, CanPrintAll, IsPrintable, IsPrinted, IsPrinting}

-- a text to which five pieces are added
pub five_pieces : (o a f b p e n1 n2 n3 n4 n5 : List ℕ) → n1 ≡ o ++ a → n2 ≡ n1 ++ f → n3 ≡ n2 ++ b → n4 ≡ n3 ++ p → n5 ≡ n4 ++ e
    → n5 ≡ o ++ ((a ++ f ++ b ++ p) ++ e)
five_pieces o a f b p e n1 n2 n3 n4 n5 e1 e2 e3 e4 e5 =
    e5 ∙ ap (λ (l : List ℕ). l ++ e) (e4 ∙ ap (λ (l : List ℕ). l ++ p) (e3 ∙ ap (λ (l : List ℕ). l ++ b) (e2 ∙ ap (λ (l : List ℕ). l ++ f) e1)))
    ∙ (simp append_assoc)

-- three pieces, and four
pub three_pieces : (o a p e n1 n2 n3 : List ℕ) → n1 ≡ o ++ a → n2 ≡ n1 ++ p → n3 ≡ n2 ++ e → n3 ≡ o ++ ((a ++ p) ++ e)
three_pieces o a p e n1 n2 n3 e1 e2 e3 =
    e3 ∙ ap (λ (l : List ℕ). l ++ e) (e2 ∙ ap (λ (l : List ℕ). l ++ p) e1) ∙ (simp append_assoc)

pub four_pieces : (o a b p e n1 n2 n3 n4 : List ℕ) → n1 ≡ o ++ a → n2 ≡ n1 ++ b → n3 ≡ n2 ++ p → n4 ≡ n3 ++ e → n4 ≡ o ++ (a ++ ((b ++ p) ++ e))
four_pieces o a b p e n1 n2 n3 n4 e1 e2 e3 e4 =
    e4 ∙ ap (λ (l : List ℕ). l ++ e) (e3 ∙ ap (λ (l : List ℕ). l ++ p) (e2 ∙ ap (λ (l : List ℕ). l ++ b) e1)) ∙ (simp append_assoc)

-- THE FIRST LINE OF BYTES
first_line : (xs ys r s : List ℕ) → HasNoLineFeed xs → HasNoLineFeed ys → xs ++ (10 ∷ r) ≡ ys ++ (10 ∷ s) → (xs ≡ ys) × (r ≡ s)
first_line [] [] r s h k e = (refl, (cc))
first_line [] (y ∷ ys) r s h k e = absurd (k.0 (let q : 10 ≡ y = (cc) in sym q))
first_line (x ∷ xs) [] r s h k e = absurd (h.0 (cc))
first_line (x ∷ xs) (y ∷ ys) r s h k e =
    let rest : xs ++ (10 ∷ r) ≡ ys ++ (10 ∷ s) = (cc) in
    let head : x ≡ y = (cc) in
    let found = first_line xs ys r s h.1 k.1 rest in
    let lists = found.0 in
    ((cc), found.1)

has_feed : (xs r : List ℕ) → HasNoLineFeed (xs ++ (10 ∷ r)) → ⊥
has_feed [] r h = h.0 refl
has_feed (x ∷ xs) r h = has_feed xs r h.1

-- POLYNOMIALS
pub nothing_written : CanWritePolynomial []
nothing_written = record { polynomial = record { in_order = tt; monomials = tt; norm_fits = lit< tt }; variables = tt }

after_writable : (q : Summands) (l : Line) → CanWritePolynomial q → IsWritable l → CanWritePolynomial (polynomial_after q l)
after_writable q (Header version) h w = h
after_writable q (Program text) h w = h
after_writable q (Condition k text) h w = h
after_writable q (Goal k text) h w = h
after_writable q (Start r) h w = w
after_writable q (Ratio v lemma at r) h w = w.3
after_writable q (Point at r) h w = w.1
after_writable q (Coords r) h w = w
after_writable q (Cut by r) h w = w.1
after_writable q End h w = h
after_writable q (Sample values) h w = h
after_writable q (VerdictLine verdict) h w = h
after_writable q (StopTooLarge line which) h w = h
after_writable q (StopSpent line) h w = h

module _ (n : Naming) (c : Construction) (bytes : List ℕ) where
  -- before the first line
  pub printing_begins : (text : List ℕ) (before : Summands) → text ≡ [] → before ≡ [] → IsPrintable c bytes → IsPrinting n c bytes bytes text before
  printing_begins text before none zero h = record {
    before-writable = subst CanWritePolynomial (sym zero) nothing_written;
    lines = h.lines;
    writable = h.writable;
    written = h.written;
    left = h.lines;
    left-writable = h.writable;
    left-written = h.written;
    left-can = subst (λ (q : Summands). CanPrintAll c q h.lines) (sym zero) h.can;
    printed = ap (λ (t : List ℕ). t ++ readable n c before h.lines) none ∙ ap (λ (q : Summands). readable n c q h.lines) zero;
  }

  -- the next line, and what holds behind it
  pub record HasNext (piece behind text : List ℕ) (before : Summands) : Type 0 where
    pub line : Line
    pub writable : IsWritable line
    pub spelt : piece ≡ line_text line
    pub before-writable : CanWritePolynomial before
    pub can : CanPrint c before line
    pub after : (longer : List ℕ) (q : Summands) → longer ≡ text ++ lines_of n c before line → q ≡ polynomial_after before line → IsPrinting n c bytes behind longer q

  pub next_line : (rest text : List ℕ) (before : Summands) (piece behind : List ℕ) → IsPrinting n c bytes rest text before → rest ≡ piece ++ (10 ∷ behind) → HasNoLineFeed piece
      → HasNext piece behind text before
  next_line rest text before piece behind h split one = go h.left h.left-writable (sym h.left-written ∙ split) h.left-can h.printed
    where
      go : (left : List Line) → AllWritable left → log_text left ≡ piece ++ (10 ∷ behind) → CanPrintAll c before left → text ++ readable n c before left ≡ readable n c [] h.lines
          → HasNext piece behind text before
      go [] w e can printed = absurd (has_feed piece behind (subst HasNoLineFeed e tt))
      go (l ∷ left) w e can printed =
          let found = first_line (line_text l) piece (log_text left) behind (no_line_feed l w.0) one (sym (append_assoc (line_text l) (10 ∷ []) (log_text left)) ∙ e) in
          record {
            line = l;
            writable = w.0;
            spelt = sym found.0;
            before-writable = h.before-writable;
            can = can.0;
            after = λ longer q grown is. record {
              lines = h.lines;
              writable = h.writable;
              written = h.written;
              left = left;
              before-writable = subst CanWritePolynomial (sym is) (after_writable before l h.before-writable w.0);
              left-writable = w.1;
              left-written = sym found.1;
              left-can = subst (λ (q : Summands). CanPrintAll c q left) (sym is) can.1;
              printed =
                  ap (λ (t : List ℕ). t ++ readable n c q left) grown ∙ ap (λ (q : Summands). (text ++ lines_of n c before l) ++ readable n c q left) is
                  ∙ append_assoc text (lines_of n c before l) (readable n c (polynomial_after before l) left) ∙ printed;
            };
          }

  -- behind the last line
  pub printing_ends : (rest text : List ℕ) (before : Summands) → IsPrinting n c bytes rest text before → HasNoLineFeed rest → IsPrinted n c bytes text
  printing_ends rest text before h none = go h.left h.left-written h.printed
    where
      go : (left : List Line) → rest ≡ log_text left → text ++ readable n c before left ≡ readable n c [] h.lines → IsPrinted n c bytes text
      go [] e printed = record { lines = h.lines; writable = h.writable; written = h.written; printed = sym (append-nil text) ∙ printed }
      go (l ∷ left) e printed =
          absurd (has_feed (line_text l) (log_text left) (subst HasNoLineFeed (e ∙ append_assoc (line_text l) (10 ∷ []) (log_text left)) none))
