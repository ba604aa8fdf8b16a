-- What a run of `discover` has begun where writing failed or memory ran out.
use Rattle.std.proofs.Common.{◌≡◌, ℕ, ◌≤◌, inl, inr, List, Option, length, take, sym, subst, arith}
use Rattle.std.proofs.lemmas.List.{take_all}
use Rattle.proof_printer.specs.declared.status.Status.{Status}
use Rattle.proof_printer.specs.Due.{Due}
use Rattle.geo_base.specs.Devices.{Grows}
use Rattle.geo_cli.specs.declared.order.Command.TheVariants.{Discover}
use Rattle.geo_cli.specs.declared.order.Order.{Order}
use Rattle.geo_cli.specs.Due.{IsCommandDue, IsDue, IsReadDue, due_for}
use Rattle.geo_cli.specs.Input.{program_limit}
use Rattle.geo_cli.specs.Run.{Begins, Ends, IsAnswered, IsBrokenOff, SearchesBegun}
use Rattle.geo_cli.specs.Words.{IsDiscover}
use Rattle.geo_cli.proofs.Ended.{few_steps}
use Rattle.geo_cli.proofs.OneDue.{GivesOne}
use Rattle.geo_discover.proofs.PartlyTold.{searches_tell_in_part}
use Rattle.geo_program.specs.Programs.{source_of}

module _ (words : List (List ℕ)) (one : GivesOne words) (steps : ℕ) (given : IsDiscover words steps) (left left' held held' : Option (List ℕ))
    (s : Status) (broken : IsBrokenOff s) where
  abbrev Begun : Type 0
  Begun = SearchesBegun steps left left' held held'

  read_begun : (due : Due) → IsReadDue program_limit (due_for Discover steps) left left' due → Begins due.text held held' → Begun
  read_begun due (inl h) b = inr (inr (inr (h.0, subst (λ (d : Due). Begins d.text held held') h.1 b)))
  read_begun due (inr (bytes, input, inl h)) b =
      inr (inl (record {
        bytes = bytes;
        input = input;
        program = h.program;
        spelt = h.spelt;
        lines = h.lines;
        end = h.end;
        searched = h.searched;
        begun = subst (λ (d : Due). Begins d.text held held') h.is b;
        told = searches_tell_in_part (source_of h.program) steps h.lines h.end h.spelt.well_formed (few_steps words Discover steps given) h.searched;
      }))
  read_begun due (inr (bytes, input, inr h)) b =
      inr (inr (inl (record {
        bytes = bytes;
        input = input;
        fault = h.fault;
        no_program = h.no_program;
        begun = subst (λ (d : Due). Begins d.text held held') h.is b;
      })))

  due_begun : (due : Due) → IsDue words left left' due → Begins due.text held held' → Begun
  due_begun due (inl h) b = absurd (h.no_command _ given)
  due_begun due (inr h) b =
      let same = one h.order (record { command = Discover; steps = steps }) h.given given in
      read_begun due (subst (λ (o : Order). IsCommandDue o.command o.steps left left' due) same h.of_command) b

  -- a text that is held whole is begun
  whole : (text : List ℕ) → Grows held text held' → Begins text held held'
  whole text g =
      let same : take (length text) text ≡ text = take_all (length text) text (let q : length text ≤ length text = omega arith in q) in
      (length text, subst (λ (t : List ℕ). Grows held t held') (sym same) g)

  pub begun : (g g' f f' : ℕ) → Ends words left left' g g' f f' held held' s → Begun
  begun g g' f f' (inl h) = by h.answered
    where
      by : IsAnswered h.due s f f' held held' → Begun
      by (inl a) = due_begun h.due h.cause (whole h.due.text a.1)
      by (inr (short, part)) = due_begun h.due h.cause part
  begun g g' f f' (inr (inl h)) = absurd (subst IsBrokenOff h.is broken)
  begun g g' f f' (inr (inr h)) = inl h.unwritten
