-- An input that cites is refused for nothing.
use Rattle.std.proofs.Common.{◌≡◌, ◌≢◌, ℕ, suc, zero, Bool, true, false, inl, inr, if◌then◌else◌, length, map, List, [], ◌∷◌, refl, sym, ◌∙◌, ap, subst, subst₂}
use Rattle.std.specs.List.{AllByRecursion}
use Rattle.std.proofs.lemmas.List.Elements.{recursion_from_All}
use Rattle.geo_terms.specs.Stores.{Store}
use Rattle.geo_program.specs.declared.commands.Command.{Command}
use Rattle.geo_program.specs.declared.commands.Command.TheVariants.{Point, Param, Line, Parallel, Perp, Med, Intersec, Inter, Foot, Pratio}
use Rattle.geo_program.specs.declared.commands.Command.TheVariants.{Tratio, Online, Lratio, Midpoint, Translate, Symmetric, Reflect}
use Rattle.geo_program.specs.declared.commands.Command.TheVariants.{Circumcenter, Orthocenter, Centroid, Oncircle, Second, Cc, Inverse}
use Rattle.geo_program.specs.declared.commands.Command.TheVariants.{Weights, AssumeDifferent, AssumeNotCollinear, AssumeNotParallel}
use Rattle.geo_program.specs.declared.names.Name.{Name}
use Rattle.geo_program.specs.declared.names.NameKind.TheVariants as kind
use Rattle.geo_program.specs.Forms.{Argument, CommandForm, command_form, line_argument}
use Rattle.geo_program.specs.Spelling.{SameSource, SpellsSource}
use Rattle.geo_program.specs.WellFormed.{Source}
use Rattle.geo_program.proofs.OneProgram.{spells_one}
use Rattle.geo_lowering.specs.Counting.{is_made}
use Rattle.geo_parser.proofs.SpeltTexts.{spelt_not_refused}
use Rattle.proof_log.specs.declared.log.Verdict.{Verdict}
use Rattle.proof_log.specs.declared.log.Verdict.TheVariants.{Proved}
use Rattle.geo_logs.specs.Judging.{Refusal}
use Rattle.log_checker.specs.Accepted.{Accepts}
use Rattle.log_checker.proofs.AcceptedBytes.{accepted_bytes_tell_programs}
use Rattle.log_checker.proofs.Judged.{accepted_bytes_are_not_refused}
use Rattle.log_checker.proofs.Places.{each_at}
use Rattle.geo_library.specs.declared.errors.CiteError.{CiteError}
use Rattle.geo_library.specs.declared.errors.CiteError.TheVariants as error
use Rattle.geo_library.specs.CitedGoals.{has_lines}
use Rattle.geo_library.specs.Citations.{HasFirstLine, HasNoNames, HasTheorem, HasWrongNames, IsCaseRefused, IsCitation, IsLogRefused, IsUnproved, Misses}
use Rattle.geo_library.specs.Inputs.{BeginsWithLog, BeginsWithNames}
use Rattle.geo_library.specs.NotRefused.{CitationsAreNotRefused}
use Rattle.geo_library.specs.Renamings.{IsRenaming}
use Rattle.geo_library.specs.Told.{TellsRefusal}
use Rattle.geo_library.specs.Working.{Miss}
use Rattle.geo_library.proofs.Cutting.{inputs_begin_with_one_log, names_are_read_in_one_way}
use Rattle.geo_library.proofs.Exactly.{cited_or_missed}

-- LINES
-- what has lines can be read off the form
abbrev pub takes_line : List Argument → Bool
takes_line (line_argument a ∷ more) = true
takes_line _ = false

abbrev pub lines_seen : CommandForm → Bool
lines_seen f = if is_made kind.Line f.made then true else takes_line f.arguments

pub lines-are : (nodes : Store) (c : Command) → lines_seen (command_form nodes c) ≡ has_lines c
lines-are nodes Point = refl
lines-are nodes _ = refl

abbrev pub NoLines : List Command → Type 0
NoLines cs = AllByRecursion (λ c. has_lines c ≡ false) cs

pub no_lines_alike : (np nq : Store) (cs ds : List Command) → map (command_form np) cs ≡ map (command_form nq) ds → NoLines cs → NoLines ds
no_lines_alike np nq cs [] e h = tt
no_lines_alike np nq [] (d ∷ ds) e h = absurd (let l : zero ≡ suc (length (map (command_form nq) ds)) = ap length e in cc)
no_lines_alike np nq (c ∷ cs) (d ∷ ds) e h =
    let heads : command_form np c ≡ command_form nq d = cc in let tails : map (command_form np) cs ≡ map (command_form nq) ds = cc in
    (sym (lines-are nq d) ∙ ap lines_seen (sym heads) ∙ lines-are np c ∙ h.0, no_lines_alike np nq cs ds tails h.1)

module _ (bytes : List ℕ) (steps : ℕ) (text : List ℕ) (c : IsCitation bytes steps text) where
  abbrev t : HasTheorem bytes steps
  t = c.parts.theorem

  abbrev p : Source
  p = t.program

  abbrev q : Source
  q = c.parts.case.program

  same_cut : (log rest : List ℕ) → BeginsWithLog bytes log rest → (t.log ≡ log) × (t.rest ≡ rest)
  same_cut log rest b = inputs_begin_with_one_log bytes t.log t.rest log rest t.begins b

  moved : (log : List ℕ) → t.log ≡ log → Accepts log steps p Proved
  moved log e = record { lines = t.accepts.lines; writable = t.accepts.writable; written = sym e ∙ t.accepts.written; accepted = t.accepts.accepted }

  log_refused : (number : ℕ) (refusal : Refusal) → IsLogRefused bytes steps number refusal → ⊥
  log_refused number refusal r =
      accepted_bytes_are_not_refused r.log steps number p Proved refusal (moved r.log (same_cut r.log r.rest r.begins).0) r.refuses

  unproved : (number : ℕ) → IsUnproved bytes steps number → ⊥
  unproved number u =
      let found = accepted_bytes_tell_programs u.log steps steps p u.program Proved u.verdict (moved u.log (same_cut u.log u.rest u.begins).0) u.accepts in
      u.other (sym found.1)

  -- another acceptance is of the same program
  same_program : (s : HasTheorem bytes steps) → SameSource p s.program
  same_program s =
      (accepted_bytes_tell_programs s.log steps steps p s.program Proved Proved (moved s.log (same_cut s.log s.rest s.begins).0) s.accepts).0

  first_line : (number : ℕ) → HasFirstLine bytes steps number → ⊥
  first_line number f =
      let none = no_lines_alike p.nodes f.theorem.program.nodes p.commands f.theorem.program.commands (same_program f.theorem).commands
      (recursion_from_All (λ (d : Command). has_lines d ≡ false) p.commands c.parts.no_lines) in
      let here : has_lines f.command ≡ false = each_at (λ (d : Command). has_lines d ≡ false) f.theorem.program.commands f.place f.command none f.at in
      let both : true ≡ false = sym f.lines ∙ here in cc

  -- the names behind it
  behind : (rest : List ℕ) → t.rest ≡ rest → BeginsWithNames rest c.parts.case.texts c.parts.case.written
  behind rest e = record { words = c.parts.case.named.words; split = sym e ∙ c.parts.case.named.split }

  no_names : (place : ℕ) → HasNoNames bytes steps place → ⊥
  no_names place n = n.none c.parts.case.texts c.parts.case.written (behind n.theorem.rest (same_cut n.theorem.log n.theorem.rest n.theorem.begins).1)

  case_refused : (refusal place : ℕ) → IsCaseRefused bytes steps refusal place → ⊥
  case_refused refusal place r =
      let names = names_are_read_in_one_way r.theorem.rest c.parts.case.texts r.texts c.parts.case.written r.written
      (behind r.theorem.rest (same_cut r.theorem.log r.theorem.rest r.theorem.begins).1) r.named in
      spelt_not_refused r.written q r.fault (subst (λ (bs : List ℕ). SpellsSource bs q) names.1 c.parts.case.spelt) r.refused

  wrong_names : (place : ℕ) → HasWrongNames bytes steps place → ⊥
  wrong_names place w =
      let names = names_are_read_in_one_way w.theorem.rest c.parts.case.texts w.case.texts c.parts.case.written w.case.written
      (behind w.theorem.rest (same_cut w.theorem.log w.theorem.rest w.theorem.begins).1) w.case.named in
      let programs = same_program w.theorem in
      let cases : SameSource q w.case.program = spells_one w.case.written q w.case.program (subst (λ (bs : List ℕ). SpellsSource bs q) names.1 c.parts.case.spelt) w.case.spelt in
      w.wrong c.parts.renaming
      (subst (λ (ts : List (List ℕ)). IsRenaming w.theorem.program.names w.case.program.names ts c.parts.renaming) names.0
      (subst₂ (λ (xs ys : List Name). IsRenaming xs ys c.parts.case.texts c.parts.renaming) programs.names cases.names c.parts.renames))

  misses : (miss : Miss) → Misses bytes steps miss → ⊥
  misses miss m = cited_or_missed.not_both bytes steps text miss c m

pub citations_are_not_refused : CitationsAreNotRefused
citations_are_not_refused bytes steps text (error.Rejected line reason) c (inl h) = absurd (log_refused bytes steps text c line _ h.2)
citations_are_not_refused bytes steps text (error.Rejected line reason) c (inr (inl h)) = absurd (unproved bytes steps text c line h.1)
citations_are_not_refused bytes steps text (error.Rejected line reason) c (inr (inr h)) = absurd (first_line bytes steps text c line h.1)
citations_are_not_refused bytes steps text (error.Syntax fault) c (inl (e, inl h)) = absurd (no_names bytes steps text c fault.place h)
citations_are_not_refused bytes steps text (error.Syntax fault) c (inl (e, inr h)) = absurd (wrong_names bytes steps text c fault.place h)
citations_are_not_refused bytes steps text (error.Syntax fault) c (inr h) = absurd (case_refused bytes steps text c fault.refusal fault.place h)
citations_are_not_refused bytes steps text (error.NotInstance line) c h = absurd (misses bytes steps text c _ h)
citations_are_not_refused bytes steps text (error.TooLarge line which) c (inl h) = absurd (log_refused bytes steps text c line _ h)
citations_are_not_refused bytes steps text (error.TooLarge line which) c (inr h) = absurd (misses bytes steps text c _ h)
citations_are_not_refused bytes steps text (error.Spent line) c (inl h) = absurd (log_refused bytes steps text c line _ h)
citations_are_not_refused bytes steps text (error.Spent line) c (inr h) = absurd (misses bytes steps text c _ h)
citations_are_not_refused bytes steps text error.NoMemory c h = refl
