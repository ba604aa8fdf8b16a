-- Renamings as the code takes them.
use Rattle.std.specs.Prelude.{◌≡◌, ℕ, ◌<◌, [], None, Some, List, Option, length, map, slice_index_or}
use Rattle.std.specs.Borrow.{Bor}
use Rattle.std.specs.BTreeMap.{BTreeMap, get_by}
use Rattle.std.specs.Cmp.Lexicographic.{slice_cmp}
use Rattle.std.specs.Ordering.{nat_cmp}
use Rattle.geo_program.specs.declared.names.Name.{Name}
use Rattle.geo_program.specs.declared.names.NameKind.{NameKind}
use Rattle.geo_library.specs.declared.renaming.Renaming.{Renaming as Numbers}
use Rattle.geo_library.specs.Renamings.{AreNamesOf, IsRenaming, Renaming}

-- the renaming of the struct
abbrev pub renaming_form : Numbers → Renaming
renaming_form x = record { points = x.points.items; params = x.params.items }

-- the texts are no renaming
abbrev pub HasNoRenaming : List Name → List Name → List (List ℕ) → Type 0
HasNoRenaming cited citing texts = (r : Renaming) → IsRenaming cited citing texts r → ⊥

-- the texts are not those of names of this kind
abbrev pub HasNoNumbers : NameKind → List Name → List (List ℕ) → Type 0
HasNoNumbers kind names texts = (numbers : List ℕ) → AreNamesOf kind names texts numbers → ⊥

-- the number of the text among these, or none where it is none of them
abbrev pub IsNumberOf : List (List ℕ) → List ℕ → Option ℕ → Type 0
IsNumberOf texts text None = (n : ℕ) → n < length texts → slice_index_or texts n [] ≡ text → ⊥
IsNumberOf texts text (Some n) = (n < length texts) × (slice_index_or texts n [] ≡ text)

-- the map has the number of each of these texts, and of no other
pub record AreNumbersByText (texts : List (List ℕ)) (numbers : BTreeMap (Bor (List ℕ)) ℕ) : Type 0 where
  pub each : (text : List ℕ) → IsNumberOf texts text (get_by (λ key. slice_cmp nat_cmp text key.now) numbers)

-- what stands at these numbers; past the end 0
abbrev pub AreImages : List ℕ → List ℕ → List ℕ → Type 0
AreImages places numbers images = images ≡ map (λ n. slice_index_or places n 0) numbers
