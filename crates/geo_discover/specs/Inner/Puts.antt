-- What writing lines does to the text of a search, within its limit.
use Rattle.std.specs.Prelude.{◌≡◌, ◌⊎◌, ℕ, ◌+◌, ◌<◌, ◌≤◌, Option, List, [], ◌∷◌, ◌++◌, length, take}
use Rattle.geo_base.specs.Devices.{Grows, HasRisen}
use Rattle.geo_discover.specs.declared.errors.DiscoverError.{DiscoverError}
use Rattle.geo_discover.specs.declared.errors.DiscoverError.TheVariants.{Impossible, Spent, TooLarge, TooLong, WriteFault, NoMemory}
use Rattle.log_checker.specs.Checkers.{with_feeds}

-- the lines were written, within the limit
pub record PutsLines (lines : List (List ℕ)) (before after : ℕ) (held held' : Option (List ℕ)) : Type 0 where
  pub measured : after ≡ before + length (with_feeds lines)
  pub fits : after ≤ 67108864
  pub written : Grows held (with_feeds lines) held'

-- the first bytes of the text were written
abbrev pub IsTextCut : List ℕ → Option (List ℕ) → Option (List ℕ) → ℕ → ℕ → DiscoverError → Type 0
IsTextCut text held held' faults faults' (Impossible k) = ⊥
IsTextCut text held held' faults faults' (Spent n) = ⊥
IsTextCut text held held' faults faults' (TooLarge n which) = ⊥
IsTextCut text held held' faults faults' TooLong = ⊥
IsTextCut text held held' faults faults' WriteFault = ((n : ℕ) × Grows held (take n text) held') × HasRisen faults faults'
IsTextCut text held held' faults faults' NoMemory = (n : ℕ) × Grows held (take n text) held'

-- nothing was written, or the first bytes of the first of the lines, which is within the limit
abbrev pub IsPieceOf : List (List ℕ) → ℕ → Option (List ℕ) → Option (List ℕ) → Type 0
IsPieceOf lines before held held' =
    (held' ≡ held)
    ⊎ ((line : List ℕ) × (more : List (List ℕ)) × (count : ℕ) × (lines ≡ line ∷ more) × (before + length (line ++ 10 ∷ []) ≤ 67108864)
    × Grows held (take count (line ++ 10 ∷ [])) held')

-- why the lines were not written
abbrev pub IsUnput : List (List ℕ) → ℕ → Option (List ℕ) → Option (List ℕ) → ℕ → ℕ → DiscoverError → Type 0
IsUnput lines before held held' faults faults' (Impossible k) = ⊥
IsUnput lines before held held' faults faults' (Spent n) = ⊥
IsUnput lines before held held' faults faults' (TooLarge n which) = ⊥
IsUnput lines before held held' faults faults' TooLong =
    (line : List ℕ) × (more : List (List ℕ)) × (lines ≡ line ∷ more) × (67108864 < before + length (line ++ 10 ∷ [])) × (held' ≡ held)
IsUnput lines before held held' faults faults' WriteFault = IsPieceOf lines before held held' × HasRisen faults faults'
IsUnput lines before held held' faults faults' NoMemory = IsPieceOf lines before held held'

-- some of the lines were written, and then it stopped
pub record BreaksOff (lines : List (List ℕ)) (before : ℕ) (held held' : Option (List ℕ)) (faults faults' : ℕ) (e : DiscoverError) : Type 0 where
  pub done : List (List ℕ)
  pub left : List (List ℕ)
  pub split : lines ≡ done ++ left
  pub bytes : ℕ
  pub middle : Option (List ℕ)
  pub put : PutsLines done before bytes held middle
  pub last : IsUnput left bytes middle held' faults faults' e
