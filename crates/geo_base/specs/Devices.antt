-- What a call does to a source's bytes to come, to a sink's bytes held, and to a device's count of faults.
use Rattle.std.specs.Prelude.{◌≡◌, ℕ, ◌+◌, ◌-◌, ◌^◌, ◌<◌, ◌⊎◌, ◌↔◌, min, List, [], ◌++◌, Option, None, Some, option_map}

-- a count of faults rose in a call: it is greater at the end, or stands at its last value
abbrev pub HasRisen : ℕ → ℕ → Type 0
HasRisen before after = (before < after) ⊎ (after ≡ 2 ^ 64 - 1)

-- what was left is `taken`, and then what is left now; what is untold stays untold
abbrev pub Loses : Option (List ℕ) → List ℕ → Option (List ℕ) → Type 0
Loses before taken after = before ≡ option_map (λ rest. taken ++ rest) after

-- what is held has grown by `taken`
abbrev pub Grows : Option (List ℕ) → List ℕ → Option (List ℕ) → Type 0
Grows before taken after = after ≡ option_map (λ held. held ++ taken) before

-- nothing is left, as far as that is told
abbrev pub HasEnded : Option (List ℕ) → Type 0
HasEnded None = Unit {0}
HasEnded (Some bytes) = bytes ≡ []

-- a count of 0 marks the end: where the bytes left are told, it comes exactly where there are none
abbrev pub MarksEnd : ℕ → Option (List ℕ) → Type 0
MarksEnd count None = Unit {0}
MarksEnd count (Some bytes) = (count ≡ 0) ↔ (bytes ≡ [])

-- a count with one more, which stays at its last value
abbrev pub count_up : ℕ → ℕ
count_up count = min (count + 1) (2 ^ 64 - 1)
