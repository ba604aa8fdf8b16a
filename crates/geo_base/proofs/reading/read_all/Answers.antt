use Rattle.std.proofs.Common.{ℕ, ◌≤◌, ◌++◌, List, Option, take, length, Result, OnErr, Ok, Err, arith}
use Rattle.std.proofs.lemmas.Grind.{common_steps}
use Rattle.geo_base.specs.Devices.{Loses}
use Rattle.geo_base.proofs.DeviceLemmas.{Loses-append}
use Rattle.geo_base.proofs.reading.read_all.Goals as goal

-- the bytes that were taken, as the clause on errors tells them
on_err : {T E : Type 0} (r : Result T E) (before after : Option (List ℕ)) (xs : List ℕ) (most : ℕ) → length xs ≤ most
    → Loses before xs after → OnErr r ((taken : List ℕ) × (length taken ≤ most) × Loses before taken after)
on_err (Ok x) before after xs most short loses = tt
on_err (Err e) before after xs most short loses = (xs, short, loses)

-- the bytes of the turns before and those of this turn were taken
pub returns-in_err-extend_from_slice-clause-lost :
    goal.returns-in_err-extend_from_slice-clause-lost
returns-in_err-extend_from_slice-clause-lost g c =
    on_err _ _ _ (c.loop-piece.bytes.items ++ take c.in_ok-count.count c.read.new.buf) _ (grind (arith, common_steps)) (Loses-append _ _ _ _ _ c.loop-piece.invariant.taken c.in_ok-count.ensures.taken)
