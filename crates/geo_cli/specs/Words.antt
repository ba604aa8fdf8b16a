-- The words of the command line, as lists of bytes.
use Rattle.std.specs.Prelude.{ℕ, ◌⊎◌, List, map}
use Rattle.std.specs.String.{string_bytes}
use Rattle.std.specs.declared.string.String.{String}
use Rattle.geo_cli.specs.declared.order.Command.TheVariants.{Bench, Check, Cite, Discover, Figure, Fixed, Place, Prove, Text}
use Rattle.geo_cli.specs.declared.order.Order.{Order}
use Rattle.geo_cli.specs.Orders.{IsOrder}

-- the bytes of each word
abbrev pub bytes_of_words : {Z : Type 0} → List (String Z) → List (List ℕ)
bytes_of_words words = map string_bytes words

-- the words are `prove`, with so many steps
abbrev pub IsProve : List (List ℕ) → ℕ → Type 0
IsProve words steps = IsOrder words (record { command = Prove; steps = steps })

-- the words are `check`, with so many steps
abbrev pub IsCheck : List (List ℕ) → ℕ → Type 0
IsCheck words steps = IsOrder words (record { command = Check; steps = steps })

-- the words are `text`, with so many steps
abbrev pub IsText : List (List ℕ) → ℕ → Type 0
IsText words steps = IsOrder words (record { command = Text; steps = steps })

-- the words are `place`, with so many steps, which it does not need
abbrev pub IsPlace : List (List ℕ) → ℕ → Type 0
IsPlace words steps = IsOrder words (record { command = Place; steps = steps })

-- the words are `figure`, with so many steps, which it does not need
abbrev pub IsFigure : List (List ℕ) → ℕ → Type 0
IsFigure words steps = IsOrder words (record { command = Figure; steps = steps })

-- the words are `cite`, with so many steps
abbrev pub IsCite : List (List ℕ) → ℕ → Type 0
IsCite words steps = IsOrder words (record { command = Cite; steps = steps })

-- the words are `fixed`, with so many steps
abbrev pub IsFixed : List (List ℕ) → ℕ → Type 0
IsFixed words steps = IsOrder words (record { command = Fixed; steps = steps })

-- the words are `discover`, with so many steps
abbrev pub IsDiscover : List (List ℕ) → ℕ → Type 0
IsDiscover words steps = IsOrder words (record { command = Discover; steps = steps })

-- the words are `bench` and this number, with so many steps
abbrev pub IsBenchOf : List (List ℕ) → ℕ → ℕ → Type 0
IsBenchOf words number steps = IsOrder words (record { command = Bench number; steps = steps })

-- the words are no command
abbrev pub IsNoCommand : List (List ℕ) → Type 0
IsNoCommand words = (order : Order) → IsOrder words order → ⊥

-- the words are no command, or one that reads nothing
abbrev pub ReadsNothing : List (List ℕ) → Type 0
ReadsNothing words = IsNoCommand words ⊎ ((number : ℕ) × (steps : ℕ) × IsBenchOf words number steps)
