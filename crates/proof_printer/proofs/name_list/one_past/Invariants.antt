use Rattle.std.proofs.Common.{ℕ, ◌<◌, ◌≤◌, ◌^◌, get_or}
use Rattle.proof_printer.proofs.name_list.one_past.Given as goal

abbrev pub invariant-loop-place : goal.invariant-loop-place
invariant-loop-place l = ((j : ℕ) → j < l.place-index → get_or l.places j 0 < l.past) × (l.past ≤ 2 ^ 32)
