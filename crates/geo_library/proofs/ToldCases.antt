-- What is told of an input that has a theorem.
use Rattle.std.proofs.Common.{◌≡◌, ℕ, ◌+◌, ◌-◌, inl, inr, Option, Some, None, List, ◌++◌, length, refl, sym, ◌∙◌, ap, subst, arith}
use Rattle.std.specs.Prelude.{MatchOption}
use Rattle.std.proofs.lemmas.List.{length-append}
use Rattle.geo_program.specs.declared.names.Name.{Name}
use Rattle.geo_program.specs.Programs.{source_of}
use Rattle.geo_program.specs.WellFormed.{Source}
use Rattle.proof_log.specs.declared.log.Verdict.{Verdict}
use Rattle.proof_log.specs.declared.log.Verdict.TheVariants.{Proved}
use Rattle.log_checker.specs.Accepted.{Accepts}
use Rattle.log_checker.specs.Checked.{IsAnswer}
use Rattle.log_checker.specs.declared.accepted.Accepted.{Accepted}
use Rattle.geo_logs.specs.Moves.{spent, too_large}
use Rattle.geo_library.specs.declared.errors.CiteError.{CiteError}
use Rattle.geo_library.specs.declared.errors.CiteError.TheVariants as cite
use Rattle.geo_library.specs.Citations.{HasCase, HasNoLines, HasParts, HasTheorem, IsCitation, Misses, behind_log}
use Rattle.geo_library.specs.Figures.{Figure, IsFigureOf}
use Rattle.geo_library.specs.Inner.Answers.{IsFaultAt}
use Rattle.geo_library.specs.Inner.Cases.{IsInput, IsMissed, IsWorked}
use Rattle.geo_library.specs.Inner.GoalsWorked.{TellsMiss}
use Rattle.geo_library.specs.Inner.Names.{HasNoNames}
use Rattle.geo_library.specs.Inner.Naming.{HasNoRenaming}
use Rattle.geo_library.specs.Inputs.{BeginsWithLog, BeginsWithNames, with_line}
use Rattle.geo_library.specs.Instances.{all_asked}
use Rattle.geo_library.specs.Renamings.{IsRenaming, Renaming, given_names}
use Rattle.geo_library.specs.Told.{TellsRefusal}
use Rattle.geo_library.specs.Working.{ArePassed, IsFirstMiss, Miss, Progress, no_instance, stopped_at}

-- what is so of an option is so of what it is
pub at_none : {A : Type 0} (o : Option A) (P : Type 0) (Q : A → Type 0) → o ≡ None → MatchOption o P Q → P
at_none {A} o P Q e h = subst (λ (m : Option A). MatchOption m P Q) e h

pub at_some : {A : Type 0} (o : Option A) (P : Type 0) (Q : A → Type 0) (x : A) → o ≡ Some x → MatchOption o P Q → Q x
at_some {A} o P Q x e h = subst (λ (m : Option A). MatchOption m P Q) e h

-- the length of an input is that of its parts
pub parts_length : (bytes log rest : List ℕ) → BeginsWithLog bytes log rest → length bytes ≡ length log + length rest
parts_length bytes log rest (inl h) = ap length h.split ∙ length-append log rest
parts_length bytes log rest (inr h) =
    let l = ap length h.whole in let r : length rest ≡ 0 = ap length h.nothing in omega (arith, l, r)

-- and behind the names stands the rest
pub names_length : (rest : List ℕ) (texts : List (List ℕ)) (written : List ℕ) → BeginsWithNames rest texts written → length rest ≡ length (with_line texts) + length written
names_length rest texts written h = ap length h.split ∙ length-append (with_line texts) written

module _ (bytes log : List ℕ) (steps : ℕ) (a : Accepted) (is : IsAnswer log steps a) (e : a.verdict ≡ Proved) (no : HasNoLines (source_of a.program)) where
  abbrev p : Source
  p = source_of a.program

  -- the same lines are accepted with Proved
  abbrev proved : (b : Accepts log steps p Proved) × (b.lines ≡ is.accepts.lines) × (b.accepted.left ≡ is.accepts.accepted.left)
  proved =
      subst (λ (v : Verdict). (b : Accepts log steps p v) × (b.lines ≡ is.accepts.lines) × (b.accepted.left ≡ is.accepts.accepted.left)) e
      (is.accepts, refl, refl)

  abbrev theorem : (rest : List ℕ) → BeginsWithLog bytes log rest → HasTheorem bytes steps
  theorem rest b = record { log = log; rest = rest; begins = b; program = p; accepts = proved.0 }

  -- NAMES
  pub no_names : (rest : List ℕ) → BeginsWithLog bytes log rest → HasNoNames rest → TellsRefusal bytes steps (cite.Syntax (record { refusal = 15; place = length log }))
  no_names rest b n = inl (refl, inl (record { theorem = theorem rest b; no_lines = no; none = n; placed = refl }))

  -- THE PROGRAM BEHIND THEM
  pub case_told : (rest : List ℕ) → BeginsWithLog bytes log rest → (texts : List (List ℕ)) (written : List ℕ) → BeginsWithNames rest texts written
      → (start : ℕ) → start ≡ length log + (length rest - length written) → (error : CiteError) → IsFaultAt written start error → TellsRefusal bytes steps error
  case_told rest b texts written n start s (cite.Syntax told) h =
      inr (record {
        theorem = theorem rest b;
        no_lines = no;
        texts = texts;
        written = written;
        named = n;
        fault = h.0;
        refused = h.1;
        told = h.2;
        placed = (let t = h.3 in let l = names_length rest texts written n in omega (arith, t, l, s));
      })
  case_told rest b texts written n start s cite.NoMemory h = tt
  case_told rest b texts written n start s (cite.Rejected line reason) h = absurd h
  case_told rest b texts written n start s (cite.NotInstance line) h = absurd h
  case_told rest b texts written n start s (cite.TooLarge line which) h = absurd h
  case_told rest b texts written n start s (cite.Spent line) h = absurd h

  -- BOTH
  -- where the citation stands behind the log
  abbrev now : Progress
  now = record { lines = a.lines; left = steps - a.charge }

  module _ (texts : List (List ℕ)) (q : Source) (input : IsInput bytes log texts q) where
    abbrev here : HasTheorem bytes steps
    here = theorem input.rest input.begins

    abbrev case : HasCase input.rest
    case = record { texts = texts; written = input.written; named = input.named; program = q; spelt = input.spelt }

    behind : behind_log here ≡ now
    behind =
        let l : length proved.0.lines ≡ a.lines = ap length proved.1 ∙ sym is.counted in
        let s : proved.0.accepted.left ≡ steps - a.charge = (let c = is.charged in let k = proved.2 in omega (arith, c, k)) in
        λ i. record { lines = l i; left = s i }

    pub wrong_names : HasNoRenaming p.names q.names texts → TellsRefusal bytes steps (cite.Syntax (record { refusal = 15; place = length log }))
    wrong_names n = inl (refl, inr (record { theorem = here; no_lines = no; case = case; wrong = n; placed = refl }))

    module _ (r : Renaming) (ren : IsRenaming p.names q.names texts r) (given : List Name) (g : given ≡ given_names p.names texts) where
      abbrev parts : (figure : Figure) → IsFigureOf q figure → HasParts bytes steps
      parts figure drawn = record {
        theorem = here;
        no_lines = no;
        case = case;
        renaming = r;
        renames = ren;
        figure = figure;
        drawn = drawn;
      }

      pub cites : (text : List ℕ) → IsWorked p q given r now text → IsCitation bytes steps text
      cites text w = record {
        parts = parts w.figure w.drawn;
        end = w.end;
        passed = subst (λ (n : Progress). ArePassed q w.figure n (all_asked (given_names p.names texts) r p) w.end) (sym behind)
            (subst (λ (ns : List Name). ArePassed q w.figure now (all_asked ns r p) w.end) g w.passed);
        cited = w.cited;
      }

      missed_here : (miss : Miss) → IsMissed p q given r now miss → Misses bytes steps miss
      missed_here miss m = record {
        parts = parts m.figure m.drawn;
        first = subst (λ (n : Progress). IsFirstMiss q m.figure n (all_asked (given_names p.names texts) r p) miss) (sym behind)
            (subst (λ (ns : List Name). IsFirstMiss q m.figure now (all_asked ns r p) miss) g m.first);
      }

      pub misses : (error : CiteError) → TellsMiss (IsMissed p q given r now) error → TellsRefusal bytes steps error
      misses (cite.NotInstance line) m = missed_here (no_instance line) m
      misses (cite.Spent number) m = inr (missed_here (stopped_at number spent) m)
      misses (cite.TooLarge number which) m = inr (missed_here (stopped_at number (too_large which)) m)
      misses cite.NoMemory m = tt
      misses (cite.Rejected number reason) m = absurd m
      misses (cite.Syntax fault) m = absurd m
