-- The term at a place of a list of pending terms.
use Rattle.std.proofs.Common.{◌≡◌, ℕ, ◌<◌, List, [], get_or, length, pos}
use Rattle.sparse_lists.proofs.Merging.{get_or_any}
use Rattle.geo_poly.specs.declared.pending.Pending.{Pending}

-- what stands past the end
abbrev pub past_pending : Pending
past_pending = record { factors = record { ref_ptr = (0, 0); now = [] }; id = record { 0 = 0 }; place = 0; coefficient = pos 0 }

abbrev pub pending_at : List Pending → ℕ → Pending
pending_at es i = get_or es i past_pending

pub pending_at-is : (es : List Pending) (i : ℕ) → i < length es → pending_at es i ≡ get_or es i (pending_at es i)
pending_at-is es i within = get_or_any es i past_pending (pending_at es i) within
