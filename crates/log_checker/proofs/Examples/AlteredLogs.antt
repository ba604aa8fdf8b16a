-- Altered logs of `point A point B midpoint M A B prove { collinear A M B }`, and where each of them is refused.
use Rattle.std.proofs.Common.{◌≡◌, ◌≢◌, ℕ, ◌==◌, Bool, true, false, inl, inr, pos, negsuc, Option, Some, List, [], ◌∷◌, ◌++◌, map, refl, sym, ◌∙◌, ap, ◌*ℤ◌, unsigned_abs, arith}
use Rattle.std.specs.Prelude.{codes, not}
use Rattle.std.proofs.lemmas.Int.{unsigned_abs-mul}
use Rattle.geo_poly.specs.Factors.{leading_coefficient}
use Rattle.geo_poly.specs.Polynomials.{IsPolynomial, Summands, multiples, product_of}
use Rattle.geo_poly.proofs.FactorLaws.{multiples-product}
use Rattle.geo_terms.specs.Stores.{Store}
use Rattle.geo_terms.specs.Trees.{area_leaf}
use Rattle.geo_lexer.specs.Lexemes.{Lexeme, word_lexeme}
use Rattle.geo_program.specs.declared.commands.Command.{Command}
use Rattle.geo_program.specs.declared.commands.Command.TheVariants as command
use Rattle.geo_program.specs.declared.names.Name.{Name}
use Rattle.geo_program.specs.CanonicalText.{commands_lexemes, line_text, no_sketches, statement_lexemes}
use Rattle.geo_program.specs.Forms.{command_form}
use Rattle.geo_program.specs.WellFormed.{IsWellFormed, Source}
use Rattle.proof_log.specs.declared.log.Line.{Line}
use Rattle.proof_log.specs.declared.log.Line.TheVariants.{Header, Program as ProgramLine, Goal, Start, Point as PointLine, Cut, End, Sample, Verdict as VerdictLine}
use Rattle.proof_log.specs.declared.log.Verdict.TheVariants.{Proved, False}
use Rattle.geo_logs.specs.declared.moves.Move.TheVariants.{Point as PointMove}
use Rattle.elim_apply.specs.LemmaTable.{lemma_table}
use Rattle.geo_logs.specs.Moves.{replacement}
use Rattle.geo_logs.specs.Chains.{cuts}
use Rattle.geo_logs.specs.Judging.{IsFirstRefusal, Refusal, rejected, unfinished, wrong_cut, wrong_polynomial, wrong_program, wrong_start, wrong_verdict}
use Rattle.geo_logs.specs.Places.{before_line, before_sample, before_start, in_chain}
use Rattle.geo_logs.proofs.Examples.{at}
use Rattle.geo_logs.proofs.OneNext.{not_stopped}
use Rattle.log_checker.specs.Judged.{IsFirstStop, IsProgramOver}
use Rattle.log_checker.specs.Subjects.{source_lines}
use Rattle.log_checker.proofs.Examples.Midpoints.{midpoint, midpoint_about, midpoint_chain, midpoint_chain_accepted, midpoint_construction}
use Rattle.log_checker.proofs.Examples.Midpoints.{midpoint_sample_accepted, midpoint_source, midpoint_well_formed, moved, sign_cut, some_term}
use Rattle.log_checker.proofs.Examples.Midpoints.{started, times, zeros}

-- what is read: the program, and then this
abbrev with_rest : List (Option Line) → List (Option Line)
with_rest rest = Some (Header 2) ∷ map (λ text. Some (ProgramLine text)) midpoint.program ++ rest

abbrev goal_line : Line
goal_line = Goal 1 (codes "collinear A M B")

-- behind the right program a refusal is one of the whole
stop_behind : (read : Option Line) (more : List (Option Line)) (number : ℕ) (r : Refusal) → IsProgramOver (read ∷ more) → IsFirstRefusal lemma_table midpoint 100 (read ∷ more) number r
    → IsFirstStop 100 (with_rest (read ∷ more)) number r
stop_behind read more number r over refused =
    inr (
      record { version = 2; texts = midpoint.program; rest = read ∷ more; split = refl; over = over },
      inr (inr (record {
        something = λ e. let q : ◌≡◌ {A = List (Option Line)} (read ∷ more) [] = e in cc;
        program = midpoint_source;
        well_formed = midpoint_well_formed;
        written = refl;
        subject = midpoint;
        about = midpoint_about;
        same_version = refl;
        refused = refused;
      })),
    )

-- line 7 is `start : +1*S0.1.2`: the start is another one
pub other_start : (more : List (Option Line)) → IsFirstStop 100 (with_rest (Some goal_line ∷ Some (Start (times (pos 1))) ∷ more)) 7 (rejected wrong_start)
other_start more =
    stop_behind (Some goal_line) (Some (Start (times (pos 1))) ∷ more) 7 (rejected wrong_start) tt
    (inl (record {
      good = goal_line ∷ [];
      place = before_start 100 (area_leaf (at 0) (at 2) (at 1));
      read = Some (Start (times (pos 1)));
      more = more;
      split = refl;
      counted = refl;
      stands = inl (inr (inl (refl, refl)));
      refused = inr (refl, (started, λ e. signs_apart e));
    }))
  where
    signs_apart : times (pos 1) ≡ times (negsuc 0) → ⊥
    signs_apart e = let s : pos 1 ≡ negsuc 0 = ap leading_coefficient e in cc

-- line 8 is `cut -2 : +1*S0.1.2`: 2 divides no polynomial with the coefficient -1
odd : (s : Summands) → IsPolynomial s → product_of (([], negsuc 1) ∷ []) s ≢ times (negsuc 0)
odd s h e = go s (multiples-product ([], negsuc 1) s (λ z. omega (arith, z)) h.monomials h.in_order ∙ e)
  where
    go : (ts : Summands) → multiples ([], negsuc 1) ts ≡ times (negsuc 0) → ⊥
    go [] f = some_term (negsuc 0) (sym f)
    go (t ∷ ts) f =
        let first : negsuc 1 *ℤ t.1 ≡ negsuc 0 = ap leading_coefficient f in
        let sizes : unsigned_abs (negsuc 1 *ℤ t.1) ≡ 1 = ap unsigned_abs first in
        omega (arith, sizes, unsigned_abs-mul (negsuc 1) t.1)

pub other_cut : (more : List (Option Line))
    → IsFirstStop 100 (with_rest (Some goal_line ∷ Some (Start (times (negsuc 0))) ∷ Some (Cut ([], negsuc 1) (times (pos 1))) ∷ more)) 8 (rejected wrong_cut)
other_cut more =
    stop_behind (Some goal_line) (Some (Start (times (negsuc 0))) ∷ Some (Cut ([], negsuc 1) (times (pos 1))) ∷ more) 8 (rejected wrong_cut) tt
    (inl (record {
      good = goal_line ∷ Start (times (negsuc 0)) ∷ [];
      place = in_chain [] 100 (times (negsuc 0));
      read = Some (Cut ([], negsuc 1) (times (pos 1)));
      more = more;
      split = refl;
      counted = refl;
      stands = inl (inr (inr (record { steps = []; after = 100; last = times (negsuc 0); started = started; leads = (refl, refl); split = refl; stands = refl })));
      refused = inr (refl, inr odd);
    }))

-- line 9 is `point 2 : +1*S0.1.2`: the result is another one
pub other_result : (more : List (Option Line))
    → IsFirstStop 100 (with_rest (Some goal_line ∷ Some (Start (times (negsuc 0))) ∷ Some (Cut ([], negsuc 0) (times (pos 1))) ∷ Some (PointLine (at 2) (times (pos 1))) ∷ more)) 9
    (rejected wrong_polynomial)
other_result more =
    stop_behind (Some goal_line) (Some (Start (times (negsuc 0))) ∷ Some (Cut ([], negsuc 0) (times (pos 1))) ∷ Some (PointLine (at 2) (times (pos 1))) ∷ more) 9 (rejected wrong_polynomial) tt
    (inl (record {
      good = goal_line ∷ Start (times (negsuc 0)) ∷ Cut ([], negsuc 0) (times (pos 1)) ∷ [];
      place = in_chain [] 100 (times (pos 1));
      read = Some (PointLine (at 2) (times (pos 1)));
      more = more;
      split = refl;
      counted = refl;
      stands = inl (inr (inr (record {
        steps = cuts ([], negsuc 0) (times (pos 1)) ∷ [];
        after = 100;
        last = times (pos 1);
        started = started;
        leads = (sign_cut, (refl, refl));
        split = refl;
        stands = refl;
      })));
      refused = inr (
        refl,
        (
          PointMove (at 2),
          times (pos 1),
          refl,
          (moved.replaces, λ stop s. not_stopped (replacement lemma_table midpoint_construction (PointMove (at 2)) (times (pos 1))) 100 (times (pos 1)) [] stop moved s, some_term (pos 1)),
        ),
      );
    }))

-- only the first ten lines: the eleventh is missing
abbrev chain_reads : List (Option Line) → List (Option Line)
chain_reads rest = Some goal_line ∷ Some (Start (times (negsuc 0))) ∷ Some (Cut ([], negsuc 0) (times (pos 1))) ∷ Some (PointLine (at 2) []) ∷ Some End ∷ rest

abbrev chain_good : List Line → List Line
chain_good rest = goal_line ∷ Start (times (negsuc 0)) ∷ Cut ([], negsuc 0) (times (pos 1)) ∷ PointLine (at 2) [] ∷ End ∷ rest

pub ten_lines : IsFirstStop 100 (with_rest (chain_reads [])) 11 (rejected unfinished)
ten_lines =
    stop_behind (Some goal_line) (Some (Start (times (negsuc 0))) ∷ Some (Cut ([], negsuc 0) (times (pos 1))) ∷ Some (PointLine (at 2) []) ∷ Some End ∷ []) 11 (rejected unfinished) tt
    (inr (inr (record {
      good = chain_good [];
      place = before_sample [] 76;
      split = refl;
      counted = refl;
      stands = inr (record { chain = midpoint_chain; after = 76; rest = []; split = refl; works = midpoint_chain_accepted }, inl (refl, inl (refl, refl)));
      refused = refl;
    })))

-- the last line is `verdict false 1`: the evidence gives another verdict
pub other_verdict : IsFirstStop 100 (with_rest (chain_reads (Some (Sample zeros) ∷ Some (VerdictLine (False 1)) ∷ []))) 12 (rejected wrong_verdict)
other_verdict =
    stop_behind (Some goal_line)
    (Some (Start (times (negsuc 0))) ∷ Some (Cut ([], negsuc 0) (times (pos 1))) ∷ Some (PointLine (at 2) []) ∷ Some End
    ∷ Some (Sample zeros) ∷ Some (VerdictLine (False 1)) ∷ []) 12 (rejected wrong_verdict) tt
    (inl (record {
      good = chain_good (Sample zeros ∷ []);
      place = before_line (VerdictLine Proved);
      read = Some (VerdictLine (False 1));
      more = [];
      split = refl;
      counted = refl;
      stands = inr (
        record { chain = midpoint_chain; after = 76; rest = Sample zeros ∷ []; split = refl; works = midpoint_chain_accepted },
        inl (refl, inr (zeros, 76, midpoint_sample_accepted, refl, refl)),
      );
      refused = inr (refl, (refl, λ e. verdicts_apart e));
    }))
  where
    verdicts_apart : VerdictLine (False 1) ≡ VerdictLine Proved → ⊥
    verdicts_apart e = let v : False 1 ≡ Proved = cc in cc

-- a header and the program alone: the next line is missing
pub program_alone : IsFirstStop 100 (with_rest []) 6 (rejected unfinished)
program_alone = inr (record { version = 2; texts = midpoint.program; rest = []; split = refl; over = tt }, inl (record { nothing = refl; counted = refl; refused = refl }))

-- a header twice: no program has no lines
first_word : List ℕ → Bool
first_word [] = false
first_word (b ∷ bs) = not (b == 32)

first_word_of : List (List ℕ) → Bool
first_word_of [] = false
first_word_of (t ∷ ts) = first_word t

in_word : (w r : List ℕ) → first_word w ≡ true → first_word (w ++ r) ≡ true
unfolding first_word
in_word [] r e = let q : false ≡ true = e in absurd (cc)
in_word (b ∷ w) r e = e

-- a line that begins with such a word
word_begins : (w : List ℕ) (rest : List Lexeme) → first_word w ≡ true → first_word (line_text (word_lexeme w ∷ rest)) ≡ true
word_begins w [] e = e
word_begins w (x ∷ rest) e = in_word w (32 ∷ line_text (x ∷ rest)) e

word_first : (nodes : Store) (c : Command) → first_word (command_form nodes c).word ≡ true
unfolding first_word
word_first nodes command.Point = refl
word_first nodes _ = refl

-- the first line of each program begins with a word
begins_with_word : (p : Source) → first_word_of (source_lines p) ≡ true
unfolding first_word_of first_word
begins_with_word p = go p.names p.commands
  where
    go : (names : List Name) (commands : List Command)
        → first_word_of (map line_text (commands_lexemes p.names p.nodes names commands (no_sketches commands) ++ statement_lexemes p.names p.nodes p.statement ∷ [])) ≡ true
    go names [] = refl
    go names (c ∷ cs) = word_begins (command_form p.nodes c).word _ (word_first p.nodes c)

no_program : (texts : List (List ℕ)) → first_word_of texts ≡ false → (p : Source) → IsWellFormed p → source_lines p ≢ texts
no_program texts e p w same = let q : true ≡ false = sym (begins_with_word p) ∙ ap first_word_of same ∙ e in cc

-- line 2 is `|  point A` with two spaces, and something follows the program: its lines are those of none
pub two_spaces : (read : Option Line) (more : List (Option Line)) → IsProgramOver (read ∷ more)
    → IsFirstStop 100 (Some (Header 2) ∷ map (λ text. Some (ProgramLine text)) (codes " point A" ∷ codes "point B" ∷ codes "midpoint M A B" ∷ codes "prove { collinear A M B }" ∷ []) ++ read ∷ more) 2
    (rejected wrong_program)
unfolding first_word_of first_word
two_spaces read more over =
    let texts = codes " point A" ∷ codes "point B" ∷ codes "midpoint M A B" ∷ codes "prove { collinear A M B }" ∷ [] in
    inr (
      record { version = 2; texts = texts; rest = read ∷ more; split = refl; over = over },
      inr (inl (record {
        something = λ e. let q : ◌≡◌ {A = List (Option Line)} (read ∷ more) [] = e in cc;
        wrong = no_program texts refl;
        counted = refl;
        refused = refl;
      })),
    )

-- a second header: the lines of no program stand before it
pub second_header : (more : List (Option Line)) → IsFirstStop 100 (Some (Header 2) ∷ Some (Header 2) ∷ more) 2 (rejected wrong_program)
unfolding first_word_of first_word
second_header more =
    inr (
      record { version = 2; texts = []; rest = Some (Header 2) ∷ more; split = refl; over = tt },
      inr (inl (record {
        something = λ e. let q : ◌≡◌ {A = List (Option Line)} (Some (Header 2) ∷ more) [] = e in cc;
        wrong = no_program [] refl;
        counted = refl;
        refused = refl;
      })),
    )
