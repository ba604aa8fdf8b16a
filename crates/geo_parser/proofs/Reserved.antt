-- Which words are reserved.
use Rattle.std.proofs.Common.{◌≡◌, ℕ, zero, suc, ◌<◌, length, get_or, true≢false, arith, Bool, true, false, ◌||◌, List, [], ◌∷◌, ◌++◌, is_some, map, refl, sym, ap, ◌∙◌, codes, None, Some}
use Rattle.std.specs.List.{list_any}
use Rattle.std.specs.Prelude.{Contains, Option, option_map}
use Rattle.geo_program.specs.Words.{command_words, expression_words, reserved_words, statement_words}
use Rattle.geo_parser.specs.Forms.{due_behind, expressions, naming_commands, statements}
use Rattle.geo_parser.specs.Slots.{is_reserved}
use Rattle.geo_parser.specs.Texts.{found, is_text}
use Rattle.geo_parser.proofs.Finding.{is_text_self, is_some-due_behind, is_some-found}

-- the reserved words that begin no command with a new name, no statement and no expression
abbrev pub other_words : List (List ℕ × Unit {0})
other_words = (codes "assume", tt) ∷ (codes "prove", tt) ∷ []

-- the words of the commands with a new name
abbrev naming_words : List (List ℕ)
naming_words = map (λ d. d.0) naming_commands

or_assoc : (a b c : Bool) → (a || b) || c ≡ (a || (b || c))
or_assoc true b c = refl
or_assoc false b c = refl

or_true : (a : Bool) → (a || true) ≡ true
or_true true = refl
or_true false = refl

list_any-append : (p : List ℕ → Bool) (xs ys : List (List ℕ)) → list_any p (xs ++ ys) ≡ (list_any p xs || list_any p ys)
list_any-append p [] ys = refl
list_any-append p (x ∷ xs) ys = ap (λ r. p x || r) (list_any-append p xs ys) ∙ sym (or_assoc (p x) (list_any p xs) (list_any p ys))

-- a word that no table has is not reserved, and one that the first three have not is reserved where it is another
pub is_reserved-others : (word : List ℕ) → is_some (due_behind word naming_commands) ≡ false → is_some (due_behind word statements) ≡ false
    → is_some (due_behind word (expressions 0 true)) ≡ false → is_reserved word ≡ is_some (found other_words word)
is_reserved-others word no_command no_statement no_expression =
    let p = is_text word in
    let c : list_any p naming_words ≡ false = sym (is_some-due_behind naming_commands word) ∙ no_command in
    let s : list_any p statement_words ≡ false = sym (is_some-due_behind statements word) ∙ no_statement in
    let e : list_any p expression_words ≡ false = sym (is_some-due_behind (expressions 0 true) word) ∙ no_expression in
    let last : List (List ℕ) = codes "prove" ∷ [] in
    let behind : list_any p (naming_words ++ statement_words ++ expression_words ++ last) ≡ list_any p last =
    list_any-append p (naming_words ++ statement_words ++ expression_words) last
    ∙ ap (λ r. r || list_any p last) (list_any-append p (naming_words ++ statement_words) expression_words
    ∙ ap (λ r. r || list_any p expression_words) (list_any-append p naming_words statement_words ∙ ap (λ r. r || list_any p statement_words) c ∙ s) ∙ e) in
    ap (λ b. p (codes "assume") || b) behind
    ∙ sym (is_some-found other_words word)

is_some-option_map : {X Y : Type 0} (f : X → Y) (o : Option X) → is_some (option_map f o) ≡ is_some o
is_some-option_map f None = refl
is_some-option_map f (Some x) = refl

-- where nothing is found, nothing is due
pub is_some-map : {X Y : Type 0} (f : X → Y) (o : Option X) (d : Option Y) (r : Bool) → r ≡ is_some o → option_map f o ≡ d → is_some d ≡ r
is_some-map f o d r h e = ap is_some (sym e) ∙ is_some-option_map f o ∙ sym h

-- a list that has a word passes the test
any_text : (word : List ℕ) (words : List (List ℕ)) (k : ℕ) → k < length words → get_or words k word ≡ word → list_any (is_text word) words ≡ true
any_text word [] k lt is = absurd (omega arith)
any_text word (w ∷ ws) zero lt is = ap (λ b. b || list_any (is_text word) ws) (ap (is_text word) is ∙ is_text_self word)
any_text word (w ∷ ws) (suc k) lt is = ap (λ b. is_text word w || b) (any_text word ws k (omega arith) is) ∙ or_true (is_text word w)

-- a word that passes no test is not reserved
pub not_reserved : (word : List ℕ) → is_reserved word ≡ false → Contains reserved_words word → ⊥
not_reserved word h there = true≢false (sym (any_text word reserved_words there.0 there.1 there.2) ∙ h)

or_false : (a b : Bool) → (a || b) ≡ false → (a ≡ false) × (b ≡ false)
or_false true b h = absurd (true≢false h)
or_false false b h = (refl, h)

none_of : {X : Type 0} (o : Option X) → is_some o ≡ false → o ≡ None
none_of None h = refl
none_of (Some x) h = absurd (true≢false h)

-- a word that is not reserved begins no expression
pub free_of_expressions : (level : ℕ) (ratios : Bool) (word : List ℕ) → is_reserved word ≡ false → due_behind word (expressions level ratios) ≡ None
free_of_expressions level ratios word free =
    let p = is_text word in
    let last : List (List ℕ) = codes "prove" ∷ [] in
    let first = or_false _ _ (sym (list_any-append p (command_words ++ statement_words ++ expression_words) last) ∙ free) in
    let second = or_false _ _ (sym (list_any-append p (command_words ++ statement_words) expression_words) ∙ first.0) in
    none_of _ (is_some-due_behind (expressions level ratios) word ∙ second.1)
