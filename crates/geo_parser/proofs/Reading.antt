-- One token that is read or refused, and what is read one after another.
use Rattle.std.proofs.Common.{◌≡◌, ℕ, ◌+◌, List, [], ◌∷◌, ◌++◌, length, map, Some, refl, sym, ap, ◌∙◌, subst, arith}
use Rattle.std.specs.Prelude.{All, Err, IfSome, IsErrAnd, Option, Result, option_map}
use Rattle.std.proofs.lemmas.Grind.{flat_map-append}
use Rattle.std.proofs.lemmas.List.{append_assoc}
use Rattle.std.proofs.lemmas.List.Elements.{All-append, All-cons, All-nil}
use Rattle.geo_lexer.specs.declared.token_types.Fault.{Fault}
use Rattle.geo_lexer.specs.Lexemes.{Lexeme}
use Rattle.std.specs.List.{flat_map}
use Rattle.geo_program.specs.CanonicalText.{argument_lexemes}
use Rattle.geo_program.specs.Forms.{Argument, line_argument, point_argument}
use Rattle.geo_program.specs.WellFormed.{IsArgument, empty_scope, scope_of}
use Rattle.geo_program.specs.declared.names.Name.{Name}
use Rattle.geo_program.specs.declared.names.NameKind.TheVariants.{Line, Point}
use Rattle.geo_program.proofs.ScopeLemmas.{lines_declared, points_declared}
use Rattle.geo_terms.specs.Stores.{Store}
use Rattle.geo_parser.specs.declared.cursor.Symbol.{Symbol}
use Rattle.geo_parser.specs.declared.errors.ParseError.{ParseError}
use Rattle.geo_parser.specs.declared.errors.ParseError.TheVariants.{Syntax}
use Rattle.geo_parser.specs.declared.reader.Reader.{Reader}
use Rattle.geo_parser.specs.Inner.Coming.{Coming, fault_here, lexemes_of, next_lexeme, tail}
use Rattle.geo_parser.specs.Forms.{Slot}
use Rattle.geo_parser.specs.Inner.Symbols.{IsSymbol, symbol_lexeme}
use Rattle.geo_parser.specs.Inner.Reads.{Extends, Passes, Reads, ReadsArguments, ReadsName, Refuses, argument_slots, fault_of, reading, scope}
use Rattle.geo_parser.specs.Refusals.{fault_at, first_fault}
use Rattle.geo_parser.specs.Slots.{Outcome, Reading, next, refused, taken}

-- behind the next token
abbrev pub past : Coming → Coming
past c = record c { tokens = tail c.tokens }

-- the reader behind the next token
abbrev pub advanced : Reader → Reader
advanced s = record s { cursor = past s.cursor }

-- where a token may stand, the reading goes on behind it
pub first_fault-taken : (r r' : Reading) (slots rest : List Slot) (tokens : List (Lexeme × ℕ)) (end : ℕ) (stop : Option Fault) (l : Lexeme)
    → next_lexeme tokens ≡ Some l → next r slots l ≡ taken r' rest
    → first_fault r slots tokens end stop ≡ first_fault r' rest (tail tokens) end stop
first_fault-taken r r' slots rest [] end stop l is may = cc
first_fault-taken r r' slots rest (t ∷ ts) end stop l is may =
    let same : t.0 ≡ l = cc in
    ap (λ (o : Outcome). elim o [ refused refusal ↦ Some (fault_at t.1 refusal) | taken s more ↦ first_fault s more ts end stop ]) (ap (next r slots) same ∙ may)

-- where it may not, it is refused
pub first_fault-refused : (r : Reading) (slots : List Slot) (tokens : List (Lexeme × ℕ)) (end : ℕ) (stop : Option Fault) (l : Lexeme) (n : ℕ) → next_lexeme tokens ≡ Some l → next r slots l ≡ refused n
    → first_fault r slots tokens end stop ≡ Some (fault_here n tokens end stop)
first_fault-refused r slots [] end stop l n is may = cc
first_fault-refused r slots (t ∷ ts) end stop l n is may =
    let same : t.0 ≡ l = cc in
    ap (λ (o : Outcome). elim o [ refused refusal ↦ Some (fault_at t.1 refusal) | taken s more ↦ first_fault s more ts end stop ]) (ap (next r slots) same ∙ may)

-- the lexemes to come are the next one and those behind it
pub lexemes_past : (tokens : List (Lexeme × ℕ)) (l : Lexeme) → next_lexeme tokens ≡ Some l → map (λ t. t.0) tokens ≡ l ∷ map (λ t. t.0) (tail tokens)
lexemes_past [] l is = cc
lexemes_past (t ∷ ts) l is = let same : t.0 ≡ l = cc in ap (λ k. k ∷ map (λ u. u.0) ts) same

-- there is one token less to come
pub length-tail : (tokens : List (Lexeme × ℕ)) (l : Lexeme) → next_lexeme tokens ≡ Some l → length tokens ≡ length (tail tokens) + 1
length-tail [] l is = cc
length-tail (t ∷ ts) l is = omega arith

pub Extends-self : (nodes : Store) → Extends nodes nodes
Extends-self nodes = record { longer = omega arith; others = λ id within. refl }

pub Extends-same : {old new : Store} → new ≡ old → Extends old new
Extends-same {old} {new} e = let P : Store → Type 0 = λ nodes. Extends old nodes in subst P (sym e) (Extends-self old)

pub Extends-then : (a b c : Store) → Extends a b → Extends b c → Extends a c
Extends-then a b c h k = record {
  longer = omega (arith, h.longer, k.longer);
  others = λ id within. k.others id (omega (arith, within, h.longer)) ∙ h.others id within;
}

pub Passes-token : (s : Reader) (l : Lexeme) → next_lexeme s.cursor.tokens ≡ Some l → Passes s (advanced s) (l ∷ [])
Passes-token s l is = record { spelt = lexemes_past s.cursor.tokens l is; stop = refl }

module _ (due : List Slot) (s : Reader) (l : Lexeme) (is : next_lexeme s.cursor.tokens ≡ Some l) where
  -- a token that was due is read
  pub Reads-token : ((begun : List Name) (rest : List Slot) → next (reading s.names begun s.points) (due ++ rest) l ≡ taken (reading s.names begun s.points) rest) → Reads due s (advanced s) (l ∷ [])
  Reads-token may = record {
    passes = Passes-token s l is;
    names = refl;
    points = refl;
    terms = Extends-self s.terms;
    room = omega (arith, length-tail s.cursor.tokens l is);
    follows = λ begun rest. first_fault-taken _ _ _ _ s.cursor.tokens s.cursor.end s.cursor.stop l is (may begun rest);
  }

  -- another is refused
  pub Refuses-token : (n : ℕ) → ((begun : List Name) (rest : List Slot) → next (reading s.names begun s.points) (due ++ rest) l ≡ refused n)
      → Refuses due s (fault_here n s.cursor.tokens s.cursor.end s.cursor.stop)
  Refuses-token n may = record {
    first = λ begun rest. first_fault-refused _ _ s.cursor.tokens s.cursor.end s.cursor.stop l n is (may begun rest);
  }

-- ONE AFTER ANOTHER

pub Passes-then : (a b c : Reader) (xs ys : List Lexeme) → Passes a b xs → Passes b c ys → Passes a c (xs ++ ys)
Passes-then a b c xs ys h k = record {
  spelt = h.spelt ∙ ap (λ ls. xs ++ ls) k.spelt ∙ sym (append_assoc xs ys (lexemes_of c.cursor));
  stop = k.stop ∙ h.stop;
}

-- the fault that is answered is the one that was refused
pub Refuses-answer : {T : Type 0} (due : List Slot) (s : Reader) (x f : Fault) (e : ParseError) → Refuses due s x → e ≡ Syntax x
    → ◌≡◌ {A = Result T ParseError} (Err e) (Err (Syntax f)) → Refuses due s f
Refuses-answer due s x f e h is answer = let same : x ≡ f = cc in subst (Refuses due s) same h

-- a fault that `?` answers is the one of the call
pub answered : {T U : Type 0} (r : Result T ParseError) (x : ParseError) (f : Fault) → IsErrAnd r (λ e. e ≡ x) → r ≡ Err (Syntax f) → ◌≡◌ {A = Result U ParseError} (Err x) (Err (Syntax f))
answered {T} r x f h is =
    let P : Result T ParseError → Type 0 = λ k. IsErrAnd k (λ e. e ≡ x) in
    let same : Syntax f ≡ x = subst P is h in
    ap Err (sym same)

-- the next lexeme is that of the piece
pub next_piece : (tokens : List (Lexeme × ℕ)) (r : Option Symbol) (p q : Symbol) → option_map symbol_lexeme r ≡ next_lexeme tokens → r ≡ Some p → p ≡ q → next_lexeme tokens ≡ Some (symbol_lexeme q)
next_piece tokens r p q h is same = sym h ∙ ap (option_map symbol_lexeme) is ∙ ap (λ k. Some (symbol_lexeme k)) same

module _ (F G : List Slot) (a b : Reader) (xs : List Lexeme) (h : Reads F a b xs) where
  pub Reads-then : (c : Reader) (ys : List Lexeme) → Reads G b c ys → Reads (F ++ G) a c (xs ++ ys)
  Reads-then c ys k = record {
    passes = Passes-then a b c xs ys h.passes k.passes;
    names = k.names ∙ h.names;
    points = k.points ∙ h.points;
    terms = Extends-then a.terms b.terms c.terms h.terms k.terms;
    room = omega (arith, h.room, k.room);
    follows = λ begun rest.
        ap (fault_of a begun) (append_assoc F G rest) ∙ h.follows begun (G ++ rest) ∙ k.follows begun rest;
  }

  pub Refuses-then : (f : Fault) → Refuses G b f → Refuses (F ++ G) a f
  Refuses-then f k = record {
    first = λ begun rest. ap (fault_of a begun) (append_assoc F G rest) ∙ h.follows begun (G ++ rest) ∙ k.first begun rest;
  }

-- what is refused is refused whatever is due behind it
pub Refuses-first : (F G : List Slot) (s : Reader) (f : Fault) → Refuses F s f → Refuses (F ++ G) s f
Refuses-first F G s f h = record { first = λ begun rest. ap (fault_of s begun) (append_assoc F G rest) ∙ h.first begun (G ++ rest) }

-- arguments one after another
pub ReadsArguments-then : (as' bs : List Argument) (a b c : Reader) → ReadsArguments as' a b → ReadsArguments bs b c → ReadsArguments (as' ++ bs) a c
ReadsArguments-then as' bs a b c h k =
    let slots = flat_map-append argument_slots as' bs in
    let names = h.reads.names in
    let P : List Name → Type 0 = λ ns. Reads (flat_map argument_slots bs) b c (flat_map (argument_lexemes ns) bs) in
    let Q : List Name → Type 0 = λ ns. All (IsArgument (scope_of empty_scope ns)) bs in
    let both = Reads-then (flat_map argument_slots as') (flat_map argument_slots bs) a b _ h.reads c _ (subst P names k.reads) in
    let R : List Slot → Type 0 = λ F. Reads F a c (flat_map (argument_lexemes a.names) as' ++ flat_map (argument_lexemes a.names) bs) in
    let S : List Lexeme → Type 0 = λ ls. Reads (flat_map argument_slots (as' ++ bs)) a c ls in
    record {
      reads = subst S (sym (flat_map-append (argument_lexemes a.names) as' bs)) (subst R (sym slots) both);
      valid = All-append (IsArgument (scope a)) as' bs h.valid (subst Q names k.valid);
    }

-- a declared name is an argument
pub ReadsArguments-point : (a b : Reader) (k : ℕ) → ReadsName Point a b k → ReadsArguments (point_argument (record { 0 = k }) ∷ []) a b
ReadsArguments-point a b k h = record {
  reads = h.reads;
  valid = All-cons (IsArgument (scope a)) _ [] (omega (arith, points_declared a.names, h.within)) (All-nil (IsArgument (scope a)));
}

pub ReadsArguments-line : (a b : Reader) (k : ℕ) → ReadsName Line a b k → ReadsArguments (line_argument (record { 0 = k }) ∷ []) a b
ReadsArguments-line a b k h = record {
  reads = h.reads;
  valid = All-cons (IsArgument (scope a)) _ [] (omega (arith, lines_declared a.names, h.within)) (All-nil (IsArgument (scope a)));
}

-- where a token may stand at two places alike, nothing changes
first_fault-same : (r : Reading) (F G : List Slot) (tokens : List (Lexeme × ℕ)) (end : ℕ) (stop : Option Fault) (l : Lexeme)
    → next_lexeme tokens ≡ Some l → next r F l ≡ next r G l → first_fault r F tokens end stop ≡ first_fault r G tokens end stop
first_fault-same r F G [] end stop l is same = cc
first_fault-same r F G (t ∷ ts) end stop l is same =
    let here : t.0 ≡ l = cc in
    ap (λ (o : Outcome). elim o [ refused refusal ↦ Some (fault_at t.1 refusal) | taken s more ↦ first_fault s more ts end stop ]) (ap (next r F) here ∙ same ∙ ap (next r G) (sym here))

-- a token is read or refused where another thing is due, if it may stand there alike
module _ (F G : List Slot) (a : Reader) (l : Lexeme) (is : next_lexeme a.cursor.tokens ≡ Some l)
    (same : (begun : List Name) (rest : List Slot) → next (reading a.names begun a.points) (F ++ rest) l ≡ next (reading a.names begun a.points) (G ++ rest) l) where
  pub Reads-other : (b : Reader) (xs : List Lexeme) → Reads G a b xs → Reads F a b xs
  Reads-other b xs h = record {
    passes = h.passes;
    names = h.names;
    points = h.points;
    terms = h.terms;
    room = h.room;
    follows = λ begun rest. first_fault-same _ (F ++ rest) (G ++ rest) a.cursor.tokens a.cursor.end a.cursor.stop l is (same begun rest) ∙ h.follows begun rest;
  }

  pub Refuses-other : (f : Fault) → Refuses G a f → Refuses F a f
  Refuses-other f h = record {
    first = λ begun rest. first_fault-same _ (F ++ rest) (G ++ rest) a.cursor.tokens a.cursor.end a.cursor.stop l is (same begun rest) ∙ h.first begun rest;
  }

-- a token that is read makes other things due
module _ (F G : List Slot) (a : Reader) (l : Lexeme) (is : next_lexeme a.cursor.tokens ≡ Some l)
    (goes : (begun : List Name) (rest : List Slot) → next (reading a.names begun a.points) (F ++ rest) l ≡ taken (reading a.names begun a.points) (G ++ rest)) where
  pub Reads-behind : (b : Reader) (xs : List Lexeme) → Reads G (advanced a) b xs → Reads F a b (l ∷ xs)
  Reads-behind b xs h = record {
    passes = Passes-then a (advanced a) b (l ∷ []) xs (Passes-token a l is) h.passes;
    names = h.names;
    points = h.points;
    terms = h.terms;
    room = omega (arith, h.room, length-tail a.cursor.tokens l is);
    follows = λ begun rest. first_fault-taken _ _ _ _ a.cursor.tokens a.cursor.end a.cursor.stop l is (goes begun rest) ∙ h.follows begun rest;
  }

  pub Refuses-behind : (f : Fault) → Refuses G (advanced a) f → Refuses F a f
  Refuses-behind f h = record {
    first = λ begun rest. first_fault-taken _ _ _ _ a.cursor.tokens a.cursor.end a.cursor.stop l is (goes begun rest) ∙ h.first begun rest;
  }

-- the piece is one
pub valid_piece : (r : Option Symbol) (p q : Symbol) → IfSome r IsSymbol → r ≡ Some p → p ≡ q → IsSymbol q
valid_piece r p q h is same =
    let P : Option Symbol → Type 0 = λ o. IfSome o IsSymbol in
    subst IsSymbol same (subst P is h)
