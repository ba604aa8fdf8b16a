-- The orders that the words of the command line give.
use Rattle.std.specs.Prelude.{◌≡◌, ℕ, ◌≤◌, List, [], ◌∷◌, ◌++◌, codes}
use Rattle.geo_cli.specs.Numbers.{WritesDecimal}
use Rattle.geo_cli.specs.declared.order.Command.{Command}
use Rattle.geo_cli.specs.declared.order.Command.TheVariants.{Prove, Check, Text, Place, Figure, Cite, Fixed, Discover, Bench}
use Rattle.geo_cli.specs.declared.order.Order.{Order}

-- the words are the row of the command
abbrev pub IsRow : List (List ℕ) → Command → Type 0
IsRow words Prove = words ≡ codes "prove" ∷ []
IsRow words Check = words ≡ codes "check" ∷ []
IsRow words Text = words ≡ codes "text" ∷ []
IsRow words Place = words ≡ codes "place" ∷ []
IsRow words Figure = words ≡ codes "figure" ∷ []
IsRow words Cite = words ≡ codes "cite" ∷ []
IsRow words Fixed = words ≡ codes "fixed" ∷ []
IsRow words Discover = words ≡ codes "discover" ∷ []
IsRow words (Bench number) =
    (text : List ℕ) × (words ≡ codes "bench" ∷ text ∷ []) × WritesDecimal text number × (1 ≤ number) × (number ≤ 60)

-- the text writes a number of steps
abbrev pub WritesSteps : List ℕ → ℕ → Type 0
WritesSteps text steps = WritesDecimal text steps × (1 ≤ steps) × (steps ≤ 1000000000000)

-- the words are a steps option with this number, in one word or in two; no words leave the default
abbrev pub TellsSteps : List (List ℕ) → ℕ → Type 0
TellsSteps [] steps = steps ≡ 100000000
TellsSteps (word ∷ []) steps = (text : List ℕ) × (word ≡ codes "--steps=" ++ text) × WritesSteps text steps
TellsSteps (word ∷ text ∷ []) steps = (word ≡ codes "--steps") × WritesSteps text steps
TellsSteps (word ∷ text ∷ more ∷ words) steps = ⊥

-- the words give the order: a steps option may stand at any place, and the other words are the row of the command
pub record IsOrder (words : List (List ℕ)) (order : Order) : Type 0 where
  pub front : List (List ℕ)
  pub option : List (List ℕ)
  pub back : List (List ℕ)
  pub placed : words ≡ front ++ (option ++ back)
  pub steps : TellsSteps option order.steps
  pub row : IsRow (front ++ back) order.command
