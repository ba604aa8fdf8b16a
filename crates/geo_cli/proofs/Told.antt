-- What is told by what is due, for each command; and by a run that has answered it.
use Rattle.std.proofs.Common.{◌≡◌, inl, inr, ℕ, ◌<◌, ◌≤◌, Bool, true, false, List, Option, refl, sym, ◌∙◌, ap, subst, arith}
use Rattle.geo_base.specs.Devices.{Grows}
use Rattle.geo_cli.specs.declared.order.Command.{Command}
use Rattle.geo_cli.specs.declared.order.Command.TheVariants.{Bench, Check, Cite, Discover, Figure, Fixed, Place, Prove, Text}
use Rattle.proof_printer.specs.declared.status.Status.{Status}
use Rattle.proof_printer.specs.declared.status.Status.TheVariants as status
use Rattle.proof_printer.specs.Due.{Due}
use Rattle.proof_printer.proofs.StatusNumbers.{refusal_number}
use Rattle.proof_printer.specs.Status.{status_number, verdict_status}
use Rattle.geo_cli.specs.Due.{IsBenchDue, IsCommandDue, IsDue, IsDueForValues, IsRefusalDue, IsRejectionDue, due_for}
use Rattle.geo_cli.specs.Input.{IsInput, limit_of, program_limit}
use Rattle.geo_cli.specs.Orders.{IsOrder}
use Rattle.geo_cli.specs.Run.{CitesNone, DoneTells, Ends, IsAnswered, IsPlaceOf, PlacesInput, PlacesNone, VerdictAccepted, VerdictTells}
use Rattle.geo_cli.specs.Status.{search_status}
use Rattle.geo_cli.specs.Words.{IsBenchOf}
use Rattle.geo_cli.proofs.Ended.{differ, log_benches, log_checks, log_fixes, log_proves, no_verdict, search_finds, uncited_number, values_number}
use Rattle.geo_cli.proofs.Placed.{ending_low, fixed_low, not_done, not_unmet, refusal_low, search_done, search_low, values_done, values_unmet, verdict_low, verdict_number}
use Rattle.geo_cli.proofs.Uncited.{not_missed, uncited_missed}
use Rattle.geo_library.proofs.Chained.{citations_hold}
use Rattle.geo_program.specs.Programs.{source_of}
use Rattle.proof_log.specs.declared.log.Verdict.{Verdict}

module _ (words : List (List ℕ)) (left left' held held' : Option (List ℕ)) where
  -- WHAT IS DUE
  -- what it tells where it was answered, by its status
  pub record Tells (due : Due) : Type 0 where
    pub of_verdict : (v : Verdict) → due.status ≡ verdict_status v → Grows held due.text held' → VerdictAccepted words left left' held held' v
    pub of_done : due.status ≡ status.Done → Grows held due.text held' → DoneTells words left left' held held'
    pub of_unmet : (k : ℕ) → due.status ≡ status.Unmet k → PlacesNone words left left' k
    pub of_missed : (line : ℕ) → due.status ≡ status.NotInstance line → CitesNone words left left' line

  -- a status below that of a text that is all written tells at most a verdict
  low : (due other : Due) → due ≡ other → status_number other.status < 13
      → ((v : Verdict) → other.status ≡ verdict_status v → Grows held due.text held' → VerdictAccepted words left left' held held' v) → Tells due
  low due other is few verdict =
      let same : due.status ≡ other.status = ap (λ (d : Due). d.status) is in
      record {
        of_verdict = λ v says written. verdict v (sym same ∙ says) written;
        of_done = λ says written. not_done other.status _ (sym same ∙ says) few;
        of_unmet = λ k says. not_unmet k other.status _ (sym same ∙ says) (omega (arith, few));
        of_missed = λ line says. not_missed line other.status _ (sym same ∙ says) (omega (arith, few));
      }

  -- and no verdict, where it is above those
  silent : (due other : Due) → due ≡ other → 3 ≤ status_number other.status → status_number other.status < 13 → Tells due
  silent due other is some few = low due other is few (λ v says written. no_verdict v other.status _ says some)

  -- a text that is all written
  whole : (due : Due) (text : List ℕ) → due ≡ record { text = text; status = status.Done } → (Grows held text held' → DoneTells words left left' held held')
      → Tells due
  whole due text is done =
      let same : due.status ≡ status.Done = ap (λ (d : Due). d.status) is in
      record {
        of_verdict = λ v says written. no_verdict v status.Done _ (sym same ∙ says) (omega arith);
        of_done = λ says written. done (subst (λ (d : Due). Grows held d.text held') is written);
        of_unmet = λ k says. not_unmet k status.Done _ (sym same ∙ says) (omega arith);
        of_missed = λ line says. not_missed line status.Done _ (sym same ∙ says) (omega arith);
      }

  refused : (bytes : List ℕ) (due : Due) → IsRefusalDue bytes due → Tells due
  refused bytes due h = silent due _ h.is (omega arith) (omega arith)

  rejected : (steps : ℕ) (bytes : List ℕ) (due : Due) → IsRejectionDue steps bytes due → Tells due
  rejected steps bytes due h = silent due _ h.is (refusal_number h.number h.refusal).0 (refusal_low h.number h.refusal)

  valued : (drawn : Bool) (steps : ℕ) → IsPlaceOf drawn words steps → (bytes : List ℕ) → IsInput program_limit left bytes left' → (due : Due)
      → IsDueForValues drawn bytes due → (PlacesInput drawn words left left' held held' → DoneTells words left left' held held') → Tells due
  valued drawn steps given bytes input due h done = record {
    of_verdict = λ v says written. no_verdict v due.status _ says (values_number drawn bytes due h).0;
    of_done = λ says written. done (values_done words left left' held held' drawn steps given bytes input due h says written);
    of_unmet = λ k says. values_unmet words left left' held held' drawn steps given bytes input due k h says;
    of_missed = λ line says. not_missed line due.status _ says (values_number drawn bytes due h).1;
  }

  benched : (number steps : ℕ) → IsBenchOf words number steps → (due : Due) → IsBenchDue number steps due → Tells due
  benched number steps given due h =
      low due _ h.is (ending_low h.lines h.ending)
      (λ v says written. inr (inr (inl (log_benches words left left' held held' v number steps given due h says written))))

  -- what a command makes of its input
  made : (command : Command) (steps : ℕ) → IsOrder words (record { command = command; steps = steps }) → (bytes : List ℕ)
      → IsInput (limit_of command) left bytes left' → (due : Due) → due_for command steps bytes due → Tells due
  made Prove steps given bytes input due (inl h) =
      low due _ h.is (ending_low h.lines h.ending)
      (λ v says written. inl (log_proves words left left' held held' v steps given bytes input due h says written))
  made Prove steps given bytes input due (inr h) = refused bytes due h
  made Fixed steps given bytes input due (inl h) =
      low due due refl (fixed_low (source_of h.program) steps due h.tells)
      (λ v says written. inr (inr (inr (inl (log_fixes words left left' held held' v steps given bytes input due h says written)))))
  made Fixed steps given bytes input due (inr h) = refused bytes due h
  made Discover steps given bytes input due (inl h) =
      let same : due.status ≡ search_status h.end = ap (λ (d : Due). d.status) h.is in
      let few = search_low h.end in
      record {
        of_verdict = λ v says written. inr (inr (inr (inr (search_finds words left left' held held' v steps given bytes input due h says written))));
        of_done = λ says written. inr (inr (inr (inr (search_done words left left' held held' steps given bytes input due h says written))));
        of_unmet = λ k says. not_unmet k (search_status h.end) _ (sym same ∙ says) (omega (arith, few));
        of_missed = λ line says. not_missed line (search_status h.end) _ (sym same ∙ says) (omega (arith, few));
      }
  made Discover steps given bytes input due (inr h) = refused bytes due h
  made Place steps given bytes input due h = valued false steps given bytes input due h (λ places. inr (inl places))
  made Figure steps given bytes input due h = valued true steps given bytes input due h (λ places. inr (inr (inl places)))
  made Check steps given bytes input due (inl h) =
      low due _ h.is (verdict_low h.verdict) (λ v says written. inr (inl (log_checks words left left' held held' v steps given bytes input due h says)))
  made Check steps given bytes input due (inr h) = rejected steps bytes due h
  made Text steps given bytes input due (inl h) =
      whole due h.text h.is
      (λ written. inl (record { steps = steps; command = given; bytes = bytes; input = input; text = h.text; readable = h.readable; written = written }))
  made Text steps given bytes input due (inr h) = rejected steps bytes due h
  made Cite steps given bytes input due (inl h) =
      whole due _ h.is
      (λ written. inr (inr (inr (inl (record {
        steps = steps;
        command = given;
        bytes = bytes;
        input = input;
        text = h.text;
        cites = h.cites;
        written = written;
        holds = citations_hold bytes steps h.text h.cites;
      })))))
  made Cite steps given bytes input due (inr h) =
      let apart = uncited_number h.error due h.is in
      record {
        of_verdict = λ v says written. no_verdict v due.status _ says apart.verdict;
        of_done = λ says written. differ due.status status.Done _ says apart.done;
        of_unmet = λ k says. differ due.status (status.Unmet k) _ says apart.unmet;
        of_missed = λ line says. uncited_missed words left left' line steps given bytes input h.error due h.refused h.is says;
      }
  made (Bench number) steps given bytes input due h = benched number steps given due h

  commanded : (command : Command) (steps : ℕ) → IsOrder words (record { command = command; steps = steps }) → (due : Due)
      → IsCommandDue command steps left left' due → Tells due
  commanded (Bench number) steps given due h = benched number steps given due h.1
  commanded command steps given due (inl h) = silent due _ h.1 (omega arith) (omega arith)
  commanded command steps given due (inr (bytes, input, h)) = made command steps given bytes input due h

  due_tells : (due : Due) → IsDue words left left' due → Tells due
  due_tells due (inl h) = silent due _ h.is (omega arith) (omega arith)
  due_tells due (inr h) = commanded h.order.command h.order.steps h.given due h.of_command

  -- THE RUN
  -- what was due was answered, with this status
  record IsTold (t : Status) : Type 0 where
    pub due : Due
    pub tells : Tells due
    pub says : due.status ≡ t
    pub written : Grows held due.text held'

  -- a status by which nothing is cut short
  abbrev IsWhole : Status → Type 0
  IsWhole t = 8 ≤ status_number t → status_number t ≤ 10 → ⊥

  cut : (s t : Status) → s ≡ t → IsWhole t → 8 ≤ status_number s → status_number s ≤ 10 → IsTold t
  cut s t is whole some few =
      let same : status_number s ≡ status_number t = ap status_number is in absurd (whole (omega (arith, same, some)) (omega (arith, same, few)))

  told : (g g' f f' : ℕ) (s t : Status) → Ends words left left' g g' f f' held held' s → s ≡ t → IsWhole t → IsTold t
  told g g' f f' s t (inl h) is all = by h.answered
    where
      by : IsAnswered h.due s f f' held held' → IsTold t
      by (inl a) = record { due = h.due; tells = due_tells h.due h.cause; says = sym a.0 ∙ is; written = a.1 }
      by (inr (inl short, part)) = cut status.WriteFault t (sym short.0 ∙ is) all (omega arith) (omega arith)
      by (inr (inr short, part)) = cut status.NoMemory t (sym short ∙ is) all (omega arith) (omega arith)
  told g g' f f' s t (inr (inl h)) is all = cut status.ReadFault t (sym h.is ∙ is) all (omega arith) (omega arith)
  told g g' f f' s t (inr (inr h)) is all = cut status.NoMemory t (sym h.is ∙ is) all (omega arith) (omega arith)

  -- a run that answers a verdict
  pub accepts : (v : Verdict) (g g' f f' : ℕ) (s : Status) → Ends words left left' g g' f f' held held' s → s ≡ verdict_status v
      → VerdictAccepted words left left' held held' v
  accepts v g g' f f' s h is =
      let low = verdict_number v in
      let t = told g g' f f' s (verdict_status v) h is (λ some few. omega (arith, low, some)) in
      t.tells.of_verdict v t.says t.written

  -- what its log tells of truth
  meant : (v : Verdict) → VerdictAccepted words left left' held held' v → VerdictTells words left left' held held' v
  meant v (inl h) = inl h.proves
  meant v (inr (inl h)) = inr (inl h.checks)
  meant v (inr (inr (inl h))) = inr (inr (inl h.benches))
  meant v (inr (inr (inr (inl h)))) = inr (inr (inr (inl h.fixes)))
  meant v (inr (inr (inr (inr h)))) = inr (inr (inr (inr h.finds)))

  pub decides : (v : Verdict) (g g' f f' : ℕ) (s : Status) → Ends words left left' g g' f f' held held' s → s ≡ verdict_status v
      → VerdictTells words left left' held held' v
  decides v g g' f f' s h is = meant v (accepts v g g' f f' s h is)

  -- one that answers that its text is written
  pub done : (g g' f f' : ℕ) (s : Status) → Ends words left left' g g' f f' held held' s → s ≡ status.Done → DoneTells words left left' held held'
  done g g' f f' s h is = let t = told g g' f f' s status.Done h is (λ some few. omega (arith, few)) in t.tells.of_done t.says t.written

  -- one that answers that a condition is not met
  pub unmet : (k : ℕ) (g g' f f' : ℕ) (s : Status) → Ends words left left' g g' f f' held held' s → s ≡ status.Unmet k → PlacesNone words left left' k
  unmet k g g' f f' s h is = let t = told g g' f f' s (status.Unmet k) h is (λ some few. omega (arith, few)) in t.tells.of_unmet k t.says

  -- one that answers that the citing program is no instance
  pub missed : (line : ℕ) (g g' f f' : ℕ) (s : Status) → Ends words left left' g g' f f' held held' s → s ≡ status.NotInstance line
      → CitesNone words left left' line
  missed line g g' f f' s h is = let t = told g g' f f' s (status.NotInstance line) h is (λ some few. omega (arith, few)) in t.tells.of_missed line t.says
