-- What is done with the lines of a log, and how long the text of those that are written may get.
use Rattle.std.specs.Prelude.{◌≡◌, ℕ, ◌+◌, ◌<◌, ◌≤◌, Bool, true, false, Option, List}
use Rattle.geo_base.specs.Devices.{Grows}
use Rattle.proof_log.specs.declared.log.Line.{Line}
use Rattle.proof_log.specs.Writable.{IsWritable}
use Rattle.geo_chain.specs.declared.size.Size.{Size}
use Rattle.geo_chain.specs.declared.size.Size.TheVariants.{Written, Counted, Bounded}

-- the size after so many more bytes of text
abbrev pub with_text : Size → ℕ → Size
with_text (Written bytes) n = Written (bytes + n)
with_text Counted n = Counted
with_text (Bounded bytes) n = Bounded (bytes + n)

-- the size that is kept after so many more bytes of text: where the text is bounded, a bound of it
abbrev pub IsSizeAfter : Size → ℕ → Size → Type 0
IsSizeAfter (Written bytes) n after = after ≡ Written (bytes + n)
IsSizeAfter Counted n after = after ≡ Counted
IsSizeAfter (Bounded bytes) n after = (bound : ℕ) × (after ≡ Bounded bound) × (bytes + n ≤ bound)

-- the lines are written
abbrev pub are_written : Size → Bool
are_written (Written bytes) = true
are_written Counted = false
are_written (Bounded bytes) = false

-- how many bytes of text were written, or would be at most
abbrev pub bytes_of : Size → ℕ
bytes_of (Written bytes) = bytes
bytes_of Counted = 0
bytes_of (Bounded bytes) = bytes

-- the text is within its limit
abbrev pub Fits : Size → Type 0
Fits size = bytes_of size ≤ 67108864

-- the text passes its limit, which a bound of it does not tell
abbrev pub IsPastLimit : Size → Type 0
IsPastLimit (Written bytes) = 67108864 < bytes
IsPastLimit Counted = ⊥
IsPastLimit (Bounded bytes) = ⊥

-- the text went to the sink; lines that are not written leave it as it is
abbrev pub HoldsText : Size → Option (List ℕ) → List ℕ → Option (List ℕ) → Type 0
HoldsText (Written bytes) held text held' = Grows held text held'
HoldsText Counted held text held' = held' ≡ held
HoldsText (Bounded bytes) held text held' = held' ≡ held

-- the line may be written, where lines are
abbrev pub IsTakable : Size → Line → Type 0
IsTakable (Written bytes) line = IsWritable line
IsTakable Counted line = Unit {0}
IsTakable (Bounded bytes) line = Unit {0}
