-- What a run of `discover` tells where some candidate is open, or its text is too long.
use Rattle.std.proofs.Common.{◌≡◌, ℕ, inl, inr, List, Option, ap, subst, ◌∙◌}
use Rattle.geo_base.specs.Devices.{Grows}
use Rattle.geo_cli.specs.declared.order.Command.TheVariants.{Discover}
use Rattle.geo_cli.specs.declared.order.Order.{Order}
use Rattle.proof_printer.specs.declared.status.Status.{Status}
use Rattle.proof_printer.specs.Due.{Due}
use Rattle.geo_cli.specs.Due.{IsCommandDue, IsDue, IsReadDue, due_for}
use Rattle.geo_cli.specs.Input.{program_limit}
use Rattle.geo_cli.specs.Run.{Ends, IsAnswered, IsStopStatus, SearchesInPart}
use Rattle.geo_cli.specs.Words.{IsDiscover}
use Rattle.geo_cli.proofs.Ended.{few_steps}
use Rattle.geo_cli.proofs.OneDue.{GivesOne}
use Rattle.geo_discover.proofs.PartlyTold.{searches_tell_in_part}
use Rattle.geo_program.specs.Programs.{source_of}

module _ (words : List (List ℕ)) (one : GivesOne words) (steps : ℕ) (given : IsDiscover words steps) (left left' held held' : Option (List ℕ))
    (s : Status) (unfinished : IsStopStatus s) where
  abbrev Told : Type 0
  Told = SearchesInPart steps left left' held held' s

  -- no other status tells it
  finished : {A : Type 0} (other : Status) → s ≡ other → (IsStopStatus other → ⊥) → A
  finished other is none = absurd (none (subst IsStopStatus is unfinished))

  read_in_part : (due : Due) → IsReadDue program_limit (due_for Discover steps) left left' due → s ≡ due.status → Grows held due.text held' → Told
  read_in_part due (inl h) is written = inl (h.0, is ∙ ap (λ (d : Due). d.status) h.1)
  read_in_part due (inr (bytes, input, inl h)) is written =
      inr (record {
        bytes = bytes;
        input = input;
        program = h.program;
        spelt = h.spelt;
        lines = h.lines;
        end = h.end;
        searched = h.searched;
        is = is ∙ ap (λ (d : Due). d.status) h.is;
        written = subst (λ (d : Due). Grows held d.text held') h.is written;
        told = searches_tell_in_part (source_of h.program) steps h.lines h.end h.spelt.well_formed (few_steps words Discover steps given) h.searched;
      })
  read_in_part due (inr (bytes, input, inr h)) is written = finished _ (is ∙ ap (λ (d : Due). d.status) h.is) (λ none. none)

  due_in_part : (due : Due) → IsDue words left left' due → s ≡ due.status → Grows held due.text held' → Told
  due_in_part due (inl h) is written = absurd (h.no_command _ given)
  due_in_part due (inr h) is written =
      let same = one h.order (record { command = Discover; steps = steps }) h.given given in
      read_in_part due (subst (λ (o : Order). IsCommandDue o.command o.steps left left' due) same h.of_command) is written

  pub in_part : (g g' f f' : ℕ) → Ends words left left' g g' f f' held held' s → Told
  in_part g g' f f' (inl h) = by_answer h.answered
    where
      by_answer : IsAnswered h.due s f f' held held' → Told
      by_answer (inl a) = due_in_part h.due h.cause a.0 a.1
      by_answer (inr (inl short, part)) = finished _ short.0 (λ none. none)
      by_answer (inr (inr short, part)) = finished _ short (λ none. none)
  in_part g g' f f' (inr (inl h)) = finished _ h.is (λ none. none)
  in_part g g' f f' (inr (inr h)) = finished _ h.is (λ none. none)
