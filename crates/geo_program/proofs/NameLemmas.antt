-- Names by kind and number, when names are added.
use Rattle.std.proofs.Common.{◌≡◌, ℕ, ◌+◌, ◌<◌, Bool, true, false, List, [], ◌∷◌, ◌++◌, length, get_or, take, Some, None, refl, sym, ap, ◌∙◌}
use Rattle.std.specs.Prelude.{Option, if◌then◌else◌}
use Rattle.std.specs.List.{cons_option}
use Rattle.std.proofs.lemmas.List.{append-nil, get_or_append_left, get_or_push, take_more}
use Rattle.std.proofs.lemmas.List.Elements.{filter_map-append}
use Rattle.geo_program.specs.declared.names.Name.{Name}
use Rattle.geo_program.specs.declared.names.NameKind.{NameKind}
use Rattle.geo_program.specs.declared.names.NameKind.TheVariants.{Point, Param, Line}
use Rattle.geo_program.specs.Names.{is_kind, name_text, names_of}

-- a name's text, where the name is of this kind
abbrev pub kept_text : NameKind → Name → Option (List ℕ)
kept_text kind name = if is_kind name.kind kind then Some name.text else None

pub names_of-append : (kind : NameKind) (names more : List Name) → names_of kind (names ++ more) ≡ names_of kind names ++ names_of kind more
names_of-append kind names more = filter_map-append (kept_text kind) names more

-- a kind is itself
pub is_kind_self : (kind : NameKind) → is_kind kind kind ≡ true
is_kind_self Point = refl
is_kind_self Param = refl
is_kind_self Line = refl

-- kinds that pass the test are the same
pub same_kind : (k l : NameKind) → is_kind k l ≡ true → k ≡ l
same_kind Point Point h = refl
same_kind Param Param h = refl
same_kind Line Line h = refl
same_kind _ _ h = absurd (cc)

kept_text-yes : (kind : NameKind) (name : Name) (b : Bool) → b ≡ true → cons_option (if b then Some name.text else None) [] ≡ name.text ∷ []
kept_text-yes kind name b h = rw h refl

kept_text-no : (kind : NameKind) (name : Name) (b : Bool) → b ≡ false → cons_option (if b then Some name.text else None) [] ≡ []
kept_text-no kind name b h = rw h refl

-- a name of this kind is added
pub names_of-push : (kind : NameKind) (names : List Name) (name : Name) → name.kind ≡ kind → names_of kind (names ++ name ∷ []) ≡ names_of kind names ++ name.text ∷ []
names_of-push kind names name h =
    names_of-append kind names (name ∷ [])
    ∙ ap (λ texts. names_of kind names ++ texts) (kept_text-yes kind name (is_kind name.kind kind) (ap (λ k. is_kind k kind) h ∙ is_kind_self kind))

-- a name of another kind is added
pub names_of-push_other : (kind : NameKind) (names : List Name) (name : Name) → is_kind name.kind kind ≡ false → names_of kind (names ++ name ∷ []) ≡ names_of kind names
names_of-push_other kind names name h =
    names_of-append kind names (name ∷ [])
    ∙ ap (λ texts. names_of kind names ++ texts) (kept_text-no kind name (is_kind name.kind kind) h)
    ∙ append-nil (names_of kind names)

-- an old number names the same when names are added
pub name_text-append : (kind : NameKind) (names more : List Name) (k : ℕ) → k < length (names_of kind names) → name_text kind (names ++ more) k ≡ name_text kind names k
name_text-append kind names more k within =
    ap (λ texts. get_or texts k []) (names_of-append kind names more)
    ∙ get_or_append_left (names_of kind names) (names_of kind more) [] k within

-- a new name has the next number of its kind
pub name_text-push : (kind : NameKind) (names : List Name) (name : Name) (k : ℕ) → name.kind ≡ kind → length (names_of kind names) ≡ k → name_text kind (names ++ name ∷ []) k ≡ name.text
name_text-push kind names name k h last =
    ap (λ texts. get_or texts k []) (names_of-push kind names name h)
    ∙ get_or_push (names_of kind names) name.text [] k last

-- the names up to the next one
take-next : (names : List Name) (i : ℕ) (name : Name) → i < length names → name ≡ get_or names i name → take (i + 1) names ≡ take i names ++ name ∷ []
take-next names i name within at = take_more names i name within ∙ ap (λ n. take i names ++ n ∷ []) (sym at)

-- one more text, of a name of this kind
pub texts_more : (kind : NameKind) (names : List Name) (i : ℕ) (name : Name) (before : List (List ℕ)) → i < length names
    → name ≡ get_or names i name → is_kind name.kind kind ≡ true → before ≡ names_of kind (take i names)
    → before ++ name.text ∷ [] ≡ names_of kind (take (i + 1) names)
texts_more kind names i name before within at same is =
    ap (λ texts. texts ++ name.text ∷ []) is
    ∙ sym (names_of-push kind (take i names) name (same_kind name.kind kind same))
    ∙ ap (names_of kind) (sym (take-next names i name within at))

-- none, of a name of another kind
pub texts_same : (kind : NameKind) (names : List Name) (i : ℕ) (name : Name) (before : List (List ℕ)) → i < length names
    → name ≡ get_or names i name → is_kind name.kind kind ≡ false → before ≡ names_of kind (take i names)
    → before ≡ names_of kind (take (i + 1) names)
texts_same kind names i name before within at other is =
    is
    ∙ sym (names_of-push_other kind (take i names) name other)
    ∙ ap (names_of kind) (sym (take-next names i name within at))
