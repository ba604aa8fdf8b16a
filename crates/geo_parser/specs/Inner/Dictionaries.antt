-- What words name.
use Rattle.std.specs.Prelude.{◌≡◌, ℕ, ◌+◌, ◌<◌, false, Option, Some, None, List, length, find}
use Rattle.geo_program.specs.declared.names.Name.{Name}
use Rattle.geo_program.specs.declared.names.NameKind.{NameKind}
use Rattle.geo_program.specs.declared.names.NameKind.TheVariants.{Point, Param, Line}
use Rattle.geo_program.specs.Names.{name_text, names_of}
use Rattle.geo_parser.specs.declared.dictionary.Counts.{Counts}
use Rattle.geo_parser.specs.declared.dictionary.Meaning.{Meaning}
use Rattle.geo_parser.specs.Forms.{Slot}
use Rattle.geo_parser.specs.Slots.{Reading, is_reserved, refused, taken, begin_name, use_name}
use Rattle.geo_parser.specs.Texts.{is_text}

-- the name that the word is
abbrev pub name_of : List Name → List ℕ → Option Name
name_of names word = find (λ name. is_text name.text word) names

-- the word is the name of this kind with this number
pub record IsNumbered (names : List Name) (kind : NameKind) (word : List ℕ) (number : ℕ) : Type 0 where
  pub within : number < length (names_of kind names)
  pub text : name_text kind names number ≡ word
  pub may_stand : (r : Reading) → (rest : List Slot) → r.declared ≡ names → use_name r kind word rest ≡ taken r rest

-- where a name of this kind is due, the word is refused with this number
pub record IsMisused (names : List Name) (kind : NameKind) (word : List ℕ) (refusal : ℕ) : Type 0 where
  pub may_not : (r : Reading) → (rest : List Slot) → r.declared ≡ names → use_name r kind word rest ≡ refused refusal

-- the word can be a new name
pub record IsNew (names : List Name) (word : List ℕ) : Type 0 where
  pub free : is_reserved word ≡ false
  pub undeclared : name_of names word ≡ None

-- where a new name is due, the word is refused with this number
pub record IsNoNewName (names : List Name) (word : List ℕ) (refusal : ℕ) : Type 0 where
  pub may_not : (r : Reading) → (kind : NameKind) → (points : ℕ) → (rest : List Slot) → r.declared ≡ names
      → begin_name r kind points word rest ≡ refused refusal

-- what the word names, by kind and number
pub record IsMeant (names : List Name) (word : List ℕ) (meaning : Meaning) : Type 0 where
  pub free : is_reserved word ≡ false
  pub name : Name
  pub named : name_of names word ≡ Some name
  pub kind : name.kind ≡ meaning.kind
  pub within : meaning.number < length (names_of meaning.kind names)
  pub text : name_text meaning.kind names meaning.number ≡ word

-- a look-up tells what the word names, if anything
abbrev pub Tells : List Name → List ℕ → Option Meaning → Type 0
Tells names word None = name_of names word ≡ None
Tells names word (Some meaning) = IsMeant names word meaning

-- the look-up tells what each word names, and the counts are those of the kinds
pub record IsDictionary (names : List Name) (look_up : List ℕ → Option Meaning) (counts : Counts) : Type 0 where
  pub tells : (word : List ℕ) → Tells names word (look_up word)
  pub points : counts.points ≡ length (names_of Point names)
  pub params : counts.params ≡ length (names_of Param names)
  pub lines : counts.lines ≡ length (names_of Line names)

-- how many names of a kind are counted
abbrev pub count_of : Counts → NameKind → ℕ
count_of counts Point = counts.points
count_of counts Param = counts.params
count_of counts Line = counts.lines

-- with one more name of the kind
abbrev pub counted : Counts → NameKind → Counts
counted counts Point = record counts { points = counts.points + 1 }
counted counts Param = record counts { params = counts.params + 1 }
counted counts Line = record counts { lines = counts.lines + 1 }
