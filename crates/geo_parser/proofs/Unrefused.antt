-- What is read where nothing is refused: the next token, names, points and braces.
use Rattle.std.proofs.Common.{◌≡◌, true≢false, ℕ, suc, ◌<◌, ◌≤◌, Bool, true, false, cond, List, [], ◌∷◌, ◌++◌, length}
use Rattle.std.proofs.Common.{get_or, ℤ, Option, Some, None, is_some, refl, sym, ap, ◌∙◌, subst, arith}
use Rattle.std.specs.Prelude.{All, if◌then◌else◌, nat_le, option_map}
use Rattle.std.specs.List.{cons_option}
use Rattle.std.proofs.lemmas.Bool.Decides.{nat_tests}
use Rattle.std.proofs.lemmas.List.Elements.{All-head, All-tail}
use Rattle.geo_points.specs.declared.ids.PointId.{PointId}
use Rattle.geo_lexer.specs.declared.token_types.Fault.{Fault}
use Rattle.geo_lexer.specs.Lexemes.{Lexeme, MayStand, close_brace, number_lexeme, open_brace, word_lexeme}
use Rattle.geo_program.specs.Forms.{line_argument, point_argument}
use Rattle.geo_program.specs.Names.{is_kind, name_text, names_of}
use Rattle.geo_program.specs.declared.commands.LineId.{LineId}
use Rattle.geo_program.specs.declared.names.Name.{Name}
use Rattle.geo_program.specs.declared.names.NameKind.{NameKind}
use Rattle.geo_program.specs.declared.names.NameKind.TheVariants.{Line, Point}
use Rattle.geo_parser.specs.declared.reader.Reader.{Reader}
use Rattle.geo_parser.specs.Forms.{Slot, a_line, a_point, close_slot, name_slot, open_slot}
use Rattle.geo_parser.specs.Inner.Coming.{lexemes_of, next_lexeme}
use Rattle.geo_parser.specs.Inner.Dictionaries.{IsNumbered, name_of}
use Rattle.geo_parser.specs.Inner.Reads.{Passes, Reads, ReadsArguments, ReadsName, extent, fault_of, reading}
use Rattle.geo_parser.specs.Refusals.{fault_at, first_fault}
use Rattle.geo_parser.specs.Slots.{Reading, is_reserved, next, refusal_at_end, refused, taken, use_name}
use Rattle.geo_parser.specs.Texts.{is_text}
use Rattle.geo_parser.proofs.Finding.{same_text}
use Rattle.geo_parser.proofs.NameUses.{use_name-known, use_name-reserved, use_name-unknown}
use Rattle.geo_parser.proofs.Reading.{ReadsArguments-line, ReadsArguments-point, ReadsArguments-then, Reads-token}
use Rattle.geo_parser.proofs.Reading.{advanced, first_fault-refused, first_fault-taken, length-tail, lexemes_past}

-- all that is to come may stand in a text, and where these things are due nothing of it is refused
pub record Unrefused (s : Reader) (begun : List Name) (slots : List Slot) : Type 0 where
  pub may : All MayStand (lexemes_of s.cursor)
  pub none : fault_of s begun slots ≡ None

-- what holds of all holds behind some
all_behind : (ls more : List Lexeme) → All MayStand (ls ++ more) → All MayStand more
all_behind [] more h = h
all_behind (l ∷ ls) more h = all_behind ls more (All-tail MayStand l (ls ++ more) h)

-- behind what is read nothing is refused
pub Unrefused-then : (due : List Slot) (s t : Reader) (ls : List Lexeme) (begun : List Name) (rest : List Slot) → Reads due s t ls
    → Unrefused s begun (due ++ rest) → Unrefused t begun rest
Unrefused-then due s t ls begun rest h u = record {
  may = all_behind ls (lexemes_of t.cursor) (subst (All MayStand) h.passes.spelt u.may);
  none = sym (h.follows begun rest) ∙ u.none;
}

-- the same, by what is passed and how the search for a fault goes on
pub Unrefused-past : (s t : Reader) (ls : List Lexeme) (begun begun' : List Name) (slots rest : List Slot) → Passes s t ls
    → fault_of s begun slots ≡ fault_of t begun' rest
    → Unrefused s begun slots → Unrefused t begun' rest
Unrefused-past s t ls begun begun' slots rest h follows u = record {
  may = all_behind ls (lexemes_of t.cursor) (subst (All MayStand) h.spelt u.may);
  none = sym follows ∙ u.none;
}

-- THE NEXT TOKEN

next_of : (r : Reading) (slots : List Slot) (tokens : List (Lexeme × ℕ)) (end : ℕ) (stop : Option Fault) (n : ℕ) → refusal_at_end slots ≡ Some n
    → first_fault r slots tokens end stop ≡ None → (l : Lexeme) × (next_lexeme tokens ≡ Some l)
next_of r slots [] end (Some f) n due none = absurd (true≢false (ap is_some none))
next_of r slots [] end None n due none = absurd (true≢false (ap is_some (sym (ap (option_map (fault_at end)) due) ∙ none)))
next_of r slots (t ∷ ts) end stop n due none = (t.0, refl)

module _ (s : Reader) (begun : List Name) (slots : List Slot) (u : Unrefused s begun slots) where
  -- where something is due, a token is to come
  pub next_there : (n : ℕ) → refusal_at_end slots ≡ Some n → (l : Lexeme) × (next_lexeme s.cursor.tokens ≡ Some l)
  next_there n due = next_of (reading s.names begun s.points) slots s.cursor.tokens s.cursor.end s.cursor.stop n due u.none

  module _ (l : Lexeme) (is : next_lexeme s.cursor.tokens ≡ Some l) where
    pub never_refused : (n : ℕ) → next (reading s.names begun s.points) slots l ≡ refused n → ⊥
    never_refused n may_not = true≢false (ap is_some (sym (first_fault-refused _ slots s.cursor.tokens s.cursor.end s.cursor.stop l n is may_not) ∙ u.none))

    pub next_may_stand : MayStand l
    next_may_stand = All-head MayStand l _ (subst (All MayStand) (lexemes_past s.cursor.tokens l is) u.may)

    -- it is taken, and then other things are due
    pub Unrefused-behind : (begun' : List Name) (rest : List Slot)
        → next (reading s.names begun s.points) slots l ≡ taken (reading s.names begun' s.points) rest → Unrefused (advanced s) begun' rest
    Unrefused-behind begun' rest goes = record {
      may = all_behind (l ∷ []) (lexemes_of (advanced s).cursor) (subst (All MayStand) (lexemes_past s.cursor.tokens l is) u.may);
      none = sym (first_fault-taken _ _ slots rest s.cursor.tokens s.cursor.end s.cursor.stop l is goes) ∙ u.none;
    }

  -- where no other token may stand, a word is to come
  pub word_there : (n : ℕ) → refusal_at_end slots ≡ Some n → ((z : ℤ) → next (reading s.names begun s.points) slots (number_lexeme z) ≡ refused 4)
      → next (reading s.names begun s.points) slots open_brace ≡ refused 4 → next (reading s.names begun s.points) slots close_brace ≡ refused 4
      → (word : List ℕ) × (next_lexeme s.cursor.tokens ≡ Some (word_lexeme word))
  word_there n due no_number no_open no_close = let found = next_there n due in by found.0 found.1
    where
      by : (l : Lexeme) → next_lexeme s.cursor.tokens ≡ Some l → (word : List ℕ) × (next_lexeme s.cursor.tokens ≡ Some (word_lexeme word))
      by (word_lexeme word) is = (word, is)
      by (number_lexeme z) is = absurd (never_refused (number_lexeme z) is 4 (no_number z))
      by open_brace is = absurd (never_refused open_brace is 4 no_open)
      by close_brace is = absurd (never_refused close_brace is 4 no_close)

-- NAMES

-- a name of a kind that is found has a number among the names of the kind
pub record HasNumber (names : List Name) (kind : NameKind) (word : List ℕ) : Type 0 where
  pub number : ℕ
  pub within : number < length (names_of kind names)
  pub text : name_text kind names number ≡ word

has_number : (names : List Name) (kind : NameKind) (word : List ℕ) (name : Name) → name_of names word ≡ Some name → is_kind name.kind kind ≡ true
    → HasNumber names kind word
has_number [] kind word name h of_kind = absurd (true≢false (sym (ap is_some h)))
has_number (n ∷ names) kind word name h of_kind = by (is_text n.text word) refl (is_kind n.kind kind) refl h (λ k. has_number names kind word name k of_kind)
  where
    here : (c : Bool) → is_kind n.kind kind ≡ c → c ≡ true → is_text n.text word ≡ true → HasNumber (n ∷ names) kind word
    here c kinds passed same =
        let front : names_of kind (n ∷ names) ≡ n.text ∷ names_of kind names =
        ap (λ b. cons_option (if b then Some n.text else None) (names_of kind names)) (kinds ∙ passed) in record {
          number = 0;
          within = omega (arith, ap length front);
          text = ap (λ texts. get_or texts 0 []) front ∙ same_text n.text word same;
        }

    later : (c : Bool) → is_kind n.kind kind ≡ c → HasNumber names kind word → HasNumber (n ∷ names) kind word
    later true kinds rest =
        let front : names_of kind (n ∷ names) ≡ n.text ∷ names_of kind names =
        ap (λ b. cons_option (if b then Some n.text else None) (names_of kind names)) kinds in record {
          number = suc rest.number;
          within = omega (arith, ap length front, rest.within);
          text = ap (λ texts. get_or texts (suc rest.number) []) front ∙ rest.text;
        }
    later false kinds rest =
        let front : names_of kind (n ∷ names) ≡ names_of kind names = ap (λ b. cons_option (if b then Some n.text else None) (names_of kind names)) kinds in record {
          number = rest.number;
          within = omega (arith, ap length front, rest.within);
          text = ap (λ texts. get_or texts rest.number []) front ∙ rest.text;
        }

    by : (b : Bool) → is_text n.text word ≡ b → (c : Bool) → is_kind n.kind kind ≡ c → cond b (Some n) (name_of names word) ≡ Some name
        → (name_of names word ≡ Some name → HasNumber names kind word) → HasNumber (n ∷ names) kind word
    by true same c kinds found rest =
        let it : n ≡ name = cc in
        here c kinds (sym kinds ∙ ap (λ m. is_kind m.kind kind) it ∙ of_kind) same
    by false other c kinds found rest = later c kinds (rest found)

-- where a use of the word is not refused, it is the name of this kind with a number
pub numbered_word : (names begun : List Name) (points : ℕ) (kind : NameKind) (word : List ℕ) (rest : List Slot)
    → ((n : ℕ) → use_name (reading names begun points) kind word rest ≡ refused n → ⊥) → (k : ℕ) × IsNumbered names kind word k
numbered_word names begun points kind word rest never = by (is_reserved word) refl (name_of names word) refl
  where
    r : Reading
    r = reading names begun points

    of : is_reserved word ≡ false → (name : Name) → name_of names word ≡ Some name → (c : Bool) → is_kind name.kind kind ≡ c
        → (k : ℕ) × IsNumbered names kind word k
    of free name found true kinds =
        let h = has_number names kind word name found kinds in (
          h.number,
          record {
            within = h.within;
            text = h.text;
            may_stand = λ q more same. use_name-known q names same kind word more name true free found kinds;
          },
        )
    of free name found false kinds = absurd (never 7 (use_name-known (reading names begun points) names refl kind word rest name false free found kinds))

    by : (b : Bool) → is_reserved word ≡ b → (o : Option Name) → name_of names word ≡ o → (k : ℕ) × IsNumbered names kind word k
    by true reserved o found = absurd (never 4 (use_name-reserved (reading names begun points) names refl kind word rest reserved))
    by false free None found = absurd (never 5 (use_name-unknown (reading names begun points) names refl kind word rest free found))
    by false free (Some name) found = of free name found (is_kind name.kind kind) refl

-- such a word is read
pub ReadsName-word : (s : Reader) (kind : NameKind) (word : List ℕ) → next_lexeme s.cursor.tokens ≡ Some (word_lexeme word) → (k : ℕ)
    → IsNumbered s.names kind word k → ReadsName kind s (advanced s) k
ReadsName-word s kind word is k found =
    let due = name_slot kind ∷ [] in
    let read = Reads-token due s (word_lexeme word) is (λ begun rest. found.may_stand (reading s.names begun s.points) rest refl) in
    let Q : List ℕ → Type 0 = λ w. Reads due s (advanced s) (word_lexeme w ∷ []) in
    let shorter : extent (advanced s) < extent s = omega (arith, length-tail s.cursor.tokens (word_lexeme word) is) in
    record { reads = subst Q (sym found.text) read; within = found.within; room = shorter }

-- WHAT IS READ WHERE IT IS DUE

-- a declared name
pub name_read : (kind : NameKind) (s : Reader) (begun : List Name) (rest : List Slot) → Unrefused s begun (name_slot kind ∷ rest)
    → (t : Reader) × (k : ℕ) × ReadsName kind s t k
name_read kind s begun rest u =
    let w = word_there s begun (name_slot kind ∷ rest) u 4 refl (λ z. refl) refl refl in
    let found = numbered_word s.names begun s.points kind w.0 rest (never_refused s begun (name_slot kind ∷ rest) u (word_lexeme w.0) w.1) in
    (advanced s, found.0, ReadsName-word s kind w.0 w.1 found.0 found.1)

-- one point, or as many as are due
pub point_read : (s : Reader) (begun : List Name) (rest : List Slot) → Unrefused s begun (a_point ∷ rest)
    → (t : Reader) × (a : PointId) × ReadsArguments (point_argument a ∷ []) s t
point_read s begun rest u = let n = name_read Point s begun rest u in (n.0, record { 0 = n.1 }, ReadsArguments-point s n.0 n.1 n.2)

pub line_read : (s : Reader) (begun : List Name) (rest : List Slot) → Unrefused s begun (a_line ∷ rest)
    → (t : Reader) × (a : LineId) × ReadsArguments (line_argument a ∷ []) s t
line_read s begun rest u = let n = name_read Line s begun rest u in (n.0, record { 0 = n.1 }, ReadsArguments-line s n.0 n.1 n.2)

pub two_points_read : (s : Reader) (begun : List Name) (rest : List Slot) → Unrefused s begun (a_point ∷ a_point ∷ rest)
    → (t : Reader) × (a : PointId) × (b : PointId) × ReadsArguments (point_argument a ∷ point_argument b ∷ []) s t
two_points_read s begun rest u =
    let p = point_read s begun (a_point ∷ rest) u in
    let q = point_read p.0 begun rest (Unrefused-then (a_point ∷ []) s p.0 _ begun (a_point ∷ rest) p.2.reads u) in
    (q.0, p.1, q.1, ReadsArguments-then (point_argument p.1 ∷ []) (point_argument q.1 ∷ []) s p.0 q.0 p.2 q.2)

pub three_points_read : (s : Reader) (begun : List Name) (rest : List Slot) → Unrefused s begun (a_point ∷ a_point ∷ a_point ∷ rest)
    → (t : Reader) × (a : PointId) × (b : PointId) × (c : PointId) × ReadsArguments (point_argument a ∷ point_argument b ∷ point_argument c ∷ []) s t
three_points_read s begun rest u =
    let p = point_read s begun (a_point ∷ a_point ∷ rest) u in
    let q = two_points_read p.0 begun rest (Unrefused-then (a_point ∷ []) s p.0 _ begun (a_point ∷ a_point ∷ rest) p.2.reads u) in
    (q.0, p.1, q.1, q.2, ReadsArguments-then (point_argument p.1 ∷ []) (point_argument q.1 ∷ point_argument q.2 ∷ []) s p.0 q.0 p.2 q.3)

pub four_points_read : (s : Reader) (begun : List Name) (rest : List Slot) → Unrefused s begun (a_point ∷ a_point ∷ a_point ∷ a_point ∷ rest)
    → (t : Reader) × (a : PointId) × (b : PointId) × (c : PointId) × (d : PointId)
    × ReadsArguments (point_argument a ∷ point_argument b ∷ point_argument c ∷ point_argument d ∷ []) s t
four_points_read s begun rest u =
    let p = point_read s begun (a_point ∷ a_point ∷ a_point ∷ rest) u in
    let q = three_points_read p.0 begun rest (Unrefused-then (a_point ∷ []) s p.0 _ begun (a_point ∷ a_point ∷ a_point ∷ rest) p.2.reads u) in
    (q.0, p.1, q.1, q.2, q.3, ReadsArguments-then (point_argument p.1 ∷ []) (point_argument q.1 ∷ point_argument q.2 ∷ point_argument q.3 ∷ []) s p.0 q.0 p.2 q.4)

-- `{`, the brace of this level
pub open_read : (level : ℕ) (s : Reader) (begun : List Name) (rest : List Slot) → Unrefused s begun (open_slot level ∷ rest)
    → (t : Reader) × (level ≤ 128) × Reads (open_slot level ∷ []) s t (open_brace ∷ [])
open_read level s begun rest u = let found = next_there s begun (open_slot level ∷ rest) u 4 refl in by found.0 found.1
  where
    opened : next_lexeme s.cursor.tokens ≡ Some open_brace → (b : Bool) → nat_le level 128 ≡ b
        → (t : Reader) × (level ≤ 128) × Reads (open_slot level ∷ []) s t (open_brace ∷ [])
    opened is true h =
        let few : level ≤ 128 = grind (arith, nat_tests) in (
          advanced s,
          few,
          Reads-token (open_slot level ∷ []) s open_brace is (λ begun' more. ap (λ b. if b then taken (reading s.names begun' s.points) more else refused 9) h),
        )
    opened is false h =
        absurd (never_refused s begun (open_slot level ∷ rest) u open_brace is 9 (ap (λ b. if b then taken (reading s.names begun s.points) rest else refused 9) h))

    by : (l : Lexeme) → next_lexeme s.cursor.tokens ≡ Some l → (t : Reader) × (level ≤ 128) × Reads (open_slot level ∷ []) s t (open_brace ∷ [])
    by open_brace is = opened is (nat_le level 128) refl
    by (word_lexeme word) is = absurd (never_refused s begun (open_slot level ∷ rest) u (word_lexeme word) is 4 refl)
    by (number_lexeme z) is = absurd (never_refused s begun (open_slot level ∷ rest) u (number_lexeme z) is 4 refl)
    by close_brace is = absurd (never_refused s begun (open_slot level ∷ rest) u close_brace is 4 refl)

-- `}`
pub close_read : (s : Reader) (begun : List Name) (rest : List Slot) → Unrefused s begun (close_slot ∷ rest)
    → (t : Reader) × Reads (close_slot ∷ []) s t (close_brace ∷ [])
close_read s begun rest u = let found = next_there s begun (close_slot ∷ rest) u 4 refl in by found.0 found.1
  where
    by : (l : Lexeme) → next_lexeme s.cursor.tokens ≡ Some l → (t : Reader) × Reads (close_slot ∷ []) s t (close_brace ∷ [])
    by close_brace is = (advanced s, Reads-token (close_slot ∷ []) s close_brace is (λ begun' more. refl))
    by (word_lexeme word) is = absurd (never_refused s begun (close_slot ∷ rest) u (word_lexeme word) is 4 refl)
    by (number_lexeme z) is = absurd (never_refused s begun (close_slot ∷ rest) u (number_lexeme z) is 4 refl)
    by open_brace is = absurd (never_refused s begun (close_slot ∷ rest) u open_brace is 4 refl)
