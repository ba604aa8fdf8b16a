-- Dictionaries, and what they tell when a name is added.
use Rattle.std.proofs.Common.{◌≡◌, ℕ, ◌+◌, ◌<◌, ◌≤◌, Bool, true, false, cond, List, [], ◌∷◌, ◌++◌, length, Some, None, refl, sym, ap, ◌∙◌, subst, arith, length-append}
use Rattle.std.specs.Prelude.{Option, find, if◌then◌else◌}
use Rattle.std.specs.List.{cons_option}
use Rattle.std.specs.Option.{option_copied, option_or}
use Rattle.std.specs.Str.{bytes_eq}
use denote.Enum.Bare.{sameb}
use denote.Ref.{Bor}
use Rattle.geo_program.specs.contracts.names.NameKind.{the_type}
use Rattle.std.specs.Map.{update}
use Rattle.std.proofs.lemmas.List.{length_push}
use Rattle.std.proofs.lemmas.List.Folds.{find-append}
use Rattle.std.proofs.lemmas.Slice.Eq.{bytes_eq-Decides}
use Rattle.geo_program.specs.declared.names.Name.{Name}
use Rattle.geo_program.specs.declared.names.NameKind.{NameKind}
use Rattle.geo_program.specs.declared.names.NameKind.TheVariants.{Point, Param, Line}
use Rattle.geo_program.specs.Names.{is_kind, name_text, names_of}
use Rattle.geo_program.proofs.NameLemmas.{is_kind_self, same_kind, name_text-append, name_text-push, names_of-append, names_of-push, names_of-push_other}
use Rattle.geo_parser.specs.declared.dictionary.Counts.{Counts}
use Rattle.geo_parser.specs.declared.dictionary.Meaning.{Meaning}
use Rattle.geo_parser.specs.Inner.Dictionaries.{IsDictionary, IsMeant, IsMisused, IsNew, IsNoNewName, IsNumbered, Tells, count_of, counted, name_of}
use Rattle.geo_parser.specs.Slots.{is_reserved}
use Rattle.geo_parser.specs.Texts.{is_text}
use Rattle.geo_parser.proofs.Finding.{is_text_lem, is_text_self}
use Rattle.geo_parser.proofs.NameUses.{begin_name-declared, use_name-known, use_name-unknown}

-- LOOKING A WORD UP

pub numbered : (names : List Name) (kind : NameKind) (word : List ℕ) (meaning : Meaning) → IsMeant names word meaning → meaning.kind ≡ kind → IsNumbered names kind word meaning.number
numbered names kind word meaning h same = record {
  within = subst (λ k. meaning.number < length (names_of k names)) same h.within;
  text = subst (λ k. name_text k names meaning.number ≡ word) same h.text;
  may_stand = λ r rest declared.
      use_name-known r names declared kind word rest h.name true h.free h.named (ap (λ k. is_kind k kind) (h.kind ∙ same) ∙ is_kind_self kind);
}

pub misused_kind : (names : List Name) (kind : NameKind) (word : List ℕ) (meaning : Meaning) → IsMeant names word meaning → is_kind meaning.kind kind ≡ false → IsMisused names kind word 7
misused_kind names kind word meaning h other = record {
  may_not = λ r rest declared. use_name-known r names declared kind word rest h.name false h.free h.named (ap (λ k. is_kind k kind) h.kind ∙ other);
}

pub misused_unknown : (names : List Name) (kind : NameKind) (word : List ℕ) → is_reserved word ≡ false → name_of names word ≡ None → IsMisused names kind word 5
misused_unknown names kind word h none = record { may_not = λ r rest declared. use_name-unknown r names declared kind word rest h none }

pub not_new_declared : (names : List Name) (word : List ℕ) (meaning : Meaning) → IsMeant names word meaning → IsNoNewName names word 6
not_new_declared names word meaning h = record { may_not = λ r kind points rest declared. begin_name-declared r names declared kind points word rest h.name h.free h.named }

-- what `==` computes of kinds
pub same_kind_test : (k l : NameKind) → sameb the_type k l ≡ is_kind k l
same_kind_test Point Point = refl
same_kind_test Point Param = refl
same_kind_test Point Line = refl
same_kind_test Param Point = refl
same_kind_test Param Param = refl
same_kind_test Param Line = refl
same_kind_test Line Point = refl
same_kind_test Line Param = refl
same_kind_test Line Line = refl

-- what a look-up tells
module _ (names : List Name) (look_up : List ℕ → Option Meaning) (counts : Counts) (view : List Name) (same : names ≡ view) (valid : IsDictionary names look_up counts) (word : List ℕ)
    (r : Option (Bor Meaning)) (read : option_copied r ≡ look_up word) where
  pub told : (m : Bor Meaning) → r ≡ Some m → IsMeant view word m.now
  told m is =
      let P : List Name → Type 0 = λ ns. IsMeant ns word m.now in
      subst P same (subst (Tells names word) (sym read ∙ ap option_copied is) (valid.tells word))

  pub told_none : r ≡ None → name_of view word ≡ None
  told_none is =
      let P : List Name → Type 0 = λ ns. name_of ns word ≡ None in
      subst P same (subst (Tells names word) (sym read ∙ ap option_copied is) (valid.tells word))

-- ADDING A NAME

-- there are no more names of a kind than names
pub length-names_of : (kind : NameKind) (names : List Name) → length (names_of kind names) ≤ length names
length-names_of kind [] = omega arith
length-names_of kind (name ∷ names) = by (is_kind name.kind kind) (length-names_of kind names)
  where
    by : (b : Bool) → length (names_of kind names) ≤ length names → length (cons_option (if b then Some name.text else None) (names_of kind names)) ≤ length (name ∷ names)
    by true h = omega arith
    by false h = omega arith

-- the counts are those of the kinds
pub count_of-dictionary : (names : List Name) (look_up : List ℕ → Option Meaning) (counts : Counts) (kind : NameKind)
    → IsDictionary names look_up counts → count_of counts kind ≡ length (names_of kind names)
count_of-dictionary names look_up counts Point h = h.points
count_of-dictionary names look_up counts Param h = h.params
count_of-dictionary names look_up counts Line h = h.lines

module _ (names : List Name) (word : List ℕ) (kind : NameKind) where
  abbrev pub new_name : Name
  new_name = record { text = word; kind = kind }

  -- a name that was found is found still
  name_of-old : (q : List ℕ) (name : Name) → name_of names q ≡ Some name → name_of (names ++ new_name ∷ []) q ≡ Some name
  name_of-old q name h = find-append (λ n. is_text n.text q) names (new_name ∷ []) ∙ ap (λ o. option_or o (find (λ n. is_text n.text q) (new_name ∷ []))) h

  -- the new name is found behind the others
  name_of-new : (q : List ℕ) (b : Bool) → name_of names q ≡ None → is_text word q ≡ b → name_of (names ++ new_name ∷ []) q ≡ cond b (Some new_name) None
  name_of-new q b h same =
      find-append (λ n. is_text n.text q) names (new_name ∷ [])
      ∙ ap (λ o. option_or o (find (λ n. is_text n.text q) (new_name ∷ []))) h
      ∙ ap (λ c. cond c (Some new_name) None) same

  -- what words mean stays
  IsMeant-more : (q : List ℕ) (meaning : Meaning) → IsMeant names q meaning → IsMeant (names ++ new_name ∷ []) q meaning
  IsMeant-more q meaning h = record {
    free = h.free;
    name = h.name;
    named = name_of-old q h.name h.named;
    kind = h.kind;
    within = omega (arith, h.within, ap length (names_of-append meaning.kind names (new_name ∷ [])), length-append (names_of meaning.kind names) (names_of meaning.kind (new_name ∷ [])));
    text = name_text-append meaning.kind names (new_name ∷ []) meaning.number h.within ∙ h.text;
  }

  -- what the new word means
  IsMeant-new : (meaning : Meaning) → IsNew names word → meaning.kind ≡ kind → meaning.number ≡ length (names_of kind names) → IsMeant (names ++ new_name ∷ []) word meaning
  IsMeant-new meaning new same last = record {
    free = new.free;
    name = new_name;
    named = name_of-new word true new.undeclared (is_text_self word);
    kind = sym same;
    within = subst (λ k. meaning.number < length (names_of k (names ++ new_name ∷ []))) (sym same)
        (omega (arith, last, ap length (names_of-push kind names new_name refl), length_push (names_of kind names) word));
    text = subst (λ k. name_text k (names ++ new_name ∷ []) meaning.number ≡ word) (sym same) (name_text-push kind names new_name meaning.number refl (sym last));
  }

  -- the look-up with the new word
  abbrev pub longer : (List ℕ → Option Meaning) → ℕ → List ℕ → Option Meaning
  longer look_up number q = update bytes_eq look_up word (Some (record { kind = kind; number = number })) q

  module _ (look_up : List ℕ → Option Meaning) (counts : Counts) (number : ℕ) (valid : IsDictionary names look_up counts) (new : IsNew names word) (next : number ≡ count_of counts kind) where
    tells_more : (q : List ℕ) (b : Bool) → bytes_eq word q ≡ b → Tells (names ++ new_name ∷ []) q (cond b (Some (record { kind = kind; number = number })) (look_up q))
    tells_more q true h =
        let meant = IsMeant-new (record { kind = kind; number = number }) new refl (next ∙ count_of-dictionary names look_up counts kind valid) in
        subst (λ w. IsMeant (names ++ new_name ∷ []) w (record { kind = kind; number = number })) ((bytes_eq-Decides word q).0 h) meant
    tells_more q false h = by (look_up q) (valid.tells q)
      where
        by : (o : Option Meaning) → Tells names q o → Tells (names ++ new_name ∷ []) q o
        by None t = name_of-new q false t (is_text_lem word q ∙ h)
        by (Some meaning) t = IsMeant-more q meaning t

    count_more : (k : NameKind) (n : ℕ) → n ≡ length (names_of k names) → is_kind kind k ≡ true → n + 1 ≡ length (names_of k (names ++ new_name ∷ []))
    count_more k n h same = omega (arith, h, ap length (names_of-push k names new_name (same_kind kind k same)), length_push (names_of k names) word)

    count_same : (k : NameKind) (n : ℕ) → n ≡ length (names_of k names) → is_kind kind k ≡ false → n ≡ length (names_of k (names ++ new_name ∷ []))
    count_same k n h other = h ∙ ap length (sym (names_of-push_other k names new_name other))

-- with the new word, its kind counted once more, they are a dictionary of the longer list
pub IsDictionary-declare : (names : List Name) (word : List ℕ) (kind : NameKind) (look_up : List ℕ → Option Meaning) (counts : Counts)
    (number : ℕ) → IsDictionary names look_up counts → IsNew names word → number ≡ count_of counts kind
    → IsDictionary (names ++ new_name names word kind ∷ []) (longer names word kind look_up number) (counted counts kind)
IsDictionary-declare names word Point look_up counts number valid new next = record {
  tells = λ q. tells_more names word Point look_up counts number valid new next q (bytes_eq word q) refl;
  points = count_more names word Point look_up counts number valid new next Point counts.points valid.points refl;
  params = count_same names word Point look_up counts number valid new next Param counts.params valid.params refl;
  lines = count_same names word Point look_up counts number valid new next Line counts.lines valid.lines refl;
}
IsDictionary-declare names word Param look_up counts number valid new next = record {
  tells = λ q. tells_more names word Param look_up counts number valid new next q (bytes_eq word q) refl;
  points = count_same names word Param look_up counts number valid new next Point counts.points valid.points refl;
  params = count_more names word Param look_up counts number valid new next Param counts.params valid.params refl;
  lines = count_same names word Param look_up counts number valid new next Line counts.lines valid.lines refl;
}
IsDictionary-declare names word Line look_up counts number valid new next = record {
  tells = λ q. tells_more names word Line look_up counts number valid new next q (bytes_eq word q) refl;
  points = count_same names word Line look_up counts number valid new next Point counts.points valid.points refl;
  params = count_same names word Line look_up counts number valid new next Param counts.params valid.params refl;
  lines = count_more names word Line look_up counts number valid new next Line counts.lines valid.lines refl;
}

-- a look-up may be given in another form
pub IsDictionary-same : (names : List Name) (f g : List ℕ → Option Meaning) (counts : Counts) → ((q : List ℕ) → g q ≡ f q) → IsDictionary names f counts → IsDictionary names g counts
IsDictionary-same names f g counts same h = record {
  tells = λ q. subst (Tells names q) (sym (same q)) (h.tells q);
  points = h.points;
  params = h.params;
  lines = h.lines;
}
