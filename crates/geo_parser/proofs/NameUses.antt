-- What comes of a word where a name is due.
use Rattle.std.proofs.Common.{◌≡◌, ℕ, ◌+◌, Bool, true, false, List, [], ◌∷◌, Some, None, ap, ◌∙◌}
use Rattle.std.specs.Prelude.{Option, if◌then◌else◌, nat_le}
use Rattle.geo_program.specs.declared.names.Name.{Name}
use Rattle.geo_program.specs.declared.names.NameKind.{NameKind}
use Rattle.geo_program.specs.Names.{is_kind}
use Rattle.geo_parser.specs.Inner.Dictionaries.{name_of}
use Rattle.geo_parser.specs.Forms.{Slot}
use Rattle.geo_parser.specs.Slots.{Outcome, Reading, begin_name, declared_name, is_reserved, refused, taken, use_name}

-- a use, by what is known of the word
abbrev by_kind : Bool → Reading → List Slot → Outcome
by_kind same r rest = if same then taken r rest else refused 7

abbrev by_name : Option Name → Reading → NameKind → List Slot → Outcome
by_name o r kind rest = elim o [ None ↦ refused 5 | Some name ↦ by_kind (is_kind name.kind kind) r rest ]

abbrev by_reserved : Bool → Option Name → Reading → NameKind → List Slot → Outcome
by_reserved free name r kind rest = if free then refused 4 else by_name name r kind rest

-- the word's name among the names of a reading
declared_name_lem : (r : Reading) (names : List Name) (word : List ℕ) (o : Option Name) → r.declared ≡ names → name_of names word ≡ o → declared_name r word ≡ o
declared_name_lem r names word o e h = ap (λ ns. name_of ns word) e ∙ h

module _ (r : Reading) (names : List Name) (same : r.declared ≡ names) (kind : NameKind) (word : List ℕ) (rest : List Slot) where
  pub use_name-reserved : is_reserved word ≡ true → use_name r kind word rest ≡ refused 4
  use_name-reserved h = ap (λ b. by_reserved b (declared_name r word) r kind rest) h

  pub use_name-unknown : is_reserved word ≡ false → name_of names word ≡ None → use_name r kind word rest ≡ refused 5
  use_name-unknown h none =
      ap (λ b. by_reserved b (declared_name r word) r kind rest) h
      ∙ ap (λ o. by_name o r kind rest) (declared_name_lem r names word None same none)

  pub use_name-known : (name : Name) (b : Bool) → is_reserved word ≡ false → name_of names word ≡ Some name → is_kind name.kind kind ≡ b → use_name r kind word rest ≡ by_kind b r rest
  use_name-known name b h some of_kind =
      ap (λ c. by_reserved c (declared_name r word) r kind rest) h
      ∙ ap (λ o. by_name o r kind rest) (declared_name_lem r names word (Some name) same some)
      ∙ ap (λ c. by_kind c r rest) of_kind

-- a new name, by what is known of the word
abbrev by_points : Bool → Reading → List Slot → Outcome
by_points few r rest = if few then taken r rest else refused 10

abbrev by_new : Option Name → Bool → Reading → List Slot → Outcome
by_new o few r rest = elim o [ Some name ↦ refused 6 | None ↦ by_points few r rest ]

abbrev by_free : Bool → Option Name → Bool → Reading → List Slot → Outcome
by_free free name few r rest = if free then refused 4 else by_new name few r rest

-- the reading behind a new name
abbrev pub begun : Reading → NameKind → ℕ → List ℕ → Reading
begun r kind points word = record r { begun = (record { text = word; kind = kind }) ∷ []; points = r.points + points }

module _ (r : Reading) (names : List Name) (same : r.declared ≡ names) (kind : NameKind) (points : ℕ) (word : List ℕ) (rest : List Slot) where
  abbrev few : Bool
  few = nat_le (r.points + points) 512

  pub begin_name-reserved : is_reserved word ≡ true → begin_name r kind points word rest ≡ refused 4
  begin_name-reserved h = ap (λ b. by_free b (declared_name r word) few (begun r kind points word) rest) h

  pub begin_name-declared : (name : Name) → is_reserved word ≡ false → name_of names word ≡ Some name → begin_name r kind points word rest ≡ refused 6
  begin_name-declared name h some =
      ap (λ b. by_free b (declared_name r word) few (begun r kind points word) rest) h
      ∙ ap (λ o. by_new o few (begun r kind points word) rest) (declared_name_lem r names word (Some name) same some)

  pub begin_name-new : (b : Bool) → is_reserved word ≡ false → name_of names word ≡ None → nat_le (r.points + points) 512 ≡ b
      → begin_name r kind points word rest ≡ by_points b (begun r kind points word) rest
  begin_name-new b h none room =
      ap (λ c. by_free c (declared_name r word) few (begun r kind points word) rest) h
      ∙ ap (λ o. by_new o few (begun r kind points word) rest) (declared_name_lem r names word None same none)
      ∙ ap (λ c. by_points c (begun r kind points word) rest) room
