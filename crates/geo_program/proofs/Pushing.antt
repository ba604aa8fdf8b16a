-- Commands, with one more at the end.
use Rattle.std.proofs.Common.{◌≡◌, ℕ, zero, suc, ◌⊎◌, List, [], ◌∷◌, ◌++◌, length, None, refl, sym, ap, ap₂, subst, subst₂, ◌∙◌, arith, append_assoc, inl, inr}
use Rattle.std.specs.Prelude.{Contains, map}
use Rattle.std.proofs.lemmas.List.{map_push}
use Rattle.std.proofs.lemmas.List.Elements.{Contains-append_cases, Contains-append_right}
use Rattle.geo_program.specs.declared.commands.Command.{Command}
use Rattle.geo_program.specs.declared.commands.Command.TheVariants.{Point}
use Rattle.geo_program.specs.declared.names.Name.{Name}
use Rattle.geo_program.specs.CanonicalText.{Sketch, command_lexemes, commands_lexemes, sketch_lexemes}
use Rattle.geo_program.specs.Forms.{command_form}
use Rattle.geo_program.specs.Spelling.{AreSketches}
use Rattle.geo_program.specs.WellFormed.{AllDiffer, AreCommands, IsCommand, Scope, empty_scope, kinds_made, later_names, own_names, scope_of}
use Rattle.geo_program.proofs.OwnNames.{later-append, later-none, own-append, own-whole, own_and_later}
use Rattle.geo_program.proofs.ScopeLemmas.{scope_of-append}
use Rattle.geo_program.proofs.Staying.{command_form-kept, command_lexemes-append, command_lexemes-kept, KeepsTrees}
use Rattle.geo_terms.specs.Stores.{Store}

-- one more command, over what the names before it declare
pub AreCommands-push : (nodes : Store) (s : Scope) (names : List Name) (commands : List Command) (own : List Name) (command : Command)
    → AreCommands nodes s names commands → IsCommand nodes (scope_of s names) own command
    → AreCommands nodes s (names ++ own) (commands ++ command ∷ [])
AreCommands-push nodes s names [] own command h one =
    let f = command_form nodes command in
    let here : IsCommand nodes s own command = subst (λ (ns : List Name). IsCommand nodes (scope_of s ns) own command) h one in
    let only : IsCommand nodes s (own_names f own) command = subst (λ (ns : List Name). IsCommand nodes s ns command) (sym (own-whole f own one.named)) here in
    subst (λ (ns : List Name). IsCommand nodes s (own_names f (ns ++ own)) command × (later_names f (ns ++ own) ≡ [])) (sym h) (only, later-none f own one.named)
AreCommands-push nodes s names (c ∷ commands) own command h one =
    let f = command_form nodes c in
    let here : IsCommand nodes s (own_names f (names ++ own)) c = subst (λ (ns : List Name). IsCommand nodes s ns c) (sym (own-append f names own h.0.named)) h.0 in
    let scopes : scope_of s names ≡ scope_of (scope_of s (own_names f names)) (later_names f names) =
    ap (scope_of s) (sym (own_and_later f names)) ∙ scope_of-append s (own_names f names) (later_names f names) in
    let rest = AreCommands-push nodes (scope_of s (own_names f names)) (later_names f names) commands own command h.1 (subst (λ (t : Scope). IsCommand nodes t own command) scopes one) in
    (here, subst₂ (λ (ns ms : List Name). AreCommands nodes (scope_of s ns) ms (commands ++ command ∷ [])) (sym (own-append f names own h.0.named)) (sym (later-append f names own h.0.named)) rest)

-- as many places for two numbers as commands
pub AreSketches-length : (commands : List Command) (sketches : List Sketch) → AreSketches commands sketches → length commands ≡ length sketches
AreSketches-length [] [] h = refl
AreSketches-length [] (sketch ∷ sketches) h = absurd h
AreSketches-length (command ∷ commands) [] h = absurd h
AreSketches-length (command ∷ commands) (sketch ∷ sketches) h = ap suc (AreSketches-length commands sketches h.1)

pub AreSketches-push : (commands : List Command) (sketches : List Sketch) (command : Command) (sketch : Sketch)
    → AreSketches commands sketches → (sketch ≡ None) ⊎ (command ≡ Point) → AreSketches (commands ++ command ∷ []) (sketches ++ sketch ∷ [])
AreSketches-push [] [] command sketch h one = (one, tt)
AreSketches-push [] (s ∷ sketches) command sketch h one = absurd h
AreSketches-push (c ∷ commands) [] command sketch h one = absurd h
AreSketches-push (c ∷ commands) (s ∷ sketches) command sketch h one = (h.0, AreSketches-push commands sketches command sketch h.1 one)

only_element : (x y : List ℕ) → Contains (x ∷ []) y → x ≡ y
only_element x y (zero, below, is) = is
only_element x y (suc k, below, is) = absurd (omega arith)

-- a name that no name before it equals
pub AllDiffer-push : (names : List Name) (name : Name) → AllDiffer names → (Contains (map (λ n. n.text) names) name.text → ⊥) → AllDiffer (names ++ name ∷ [])
AllDiffer-push [] name h new = (λ found. absurd (omega (arith, found.1)), tt)
AllDiffer-push (n ∷ names) name h new =
    let texts = map (λ (x : Name). x.text) names in (
      λ found. first_stays found,
      AllDiffer-push names name h.1 (λ found. new (Contains-append_right (n.text ∷ []) texts name.text found)),
    )
  where
    first_stays : Contains (map (λ x. x.text) (names ++ name ∷ [])) n.text → ⊥
    first_stays found = by_cases (Contains-append_cases (map (λ (x : Name). x.text) names) (name.text ∷ []) n.text (rw map_push at found))
      where
        by_cases : Contains (map (λ x. x.text) names) n.text ⊎ Contains (name.text ∷ []) n.text → ⊥
        by_cases (inl before) = h.0 before
        by_cases (inr last) = new (0, omega arith, sym (only_element name.text n.text last))

-- THE LEXEMES

-- a command over the first names is spelt the same with more of the others
command_stays : (before rest more : List Name) (nodes : Store) (own : List Name) (command : Command)
    → IsCommand nodes (scope_of empty_scope before) own command
    → command_lexemes ((before ++ rest) ++ more) nodes own command ≡ command_lexemes (before ++ rest) nodes own command
command_stays before rest more nodes own command h =
    ap (λ l. command_lexemes l nodes own command) (append_assoc before rest more)
    ∙ command_lexemes-append before (rest ++ more) nodes own command h
    ∙ sym (command_lexemes-append before rest nodes own command h)

-- the commands are spelt the same with more names and more nodes
pub commands_lexemes-kept : (before names more all : List Name) (nodes wider : Store) (commands : List Command) (sketches : List Sketch)
    → all ≡ before ++ names → KeepsTrees nodes wider → AreCommands nodes (scope_of empty_scope before) names commands
    → commands_lexemes (all ++ more) wider names commands sketches ≡ commands_lexemes all nodes names commands sketches
commands_lexemes-kept before names more all nodes wider [] sketches is kept h = refl
commands_lexemes-kept before names more all nodes wider (command ∷ commands) [] is kept h = refl
commands_lexemes-kept before names more all nodes wider (command ∷ commands) (sketch ∷ sketches) is kept h =
    let f = command_form nodes command in
    let own = own_names f names in
    let later = later_names f names in
    let next = before ++ own in
    let joined : all ≡ next ++ later = is ∙ ap (λ ns. before ++ ns) (sym (own_and_later f names)) ∙ sym (append_assoc before own later) in
    let rest = commands_lexemes-kept next later more all nodes wider commands sketches joined kept
    (subst (λ (s : Scope). AreCommands nodes s later commands) (sym (scope_of-append empty_scope before own)) h.1) in
    let one = command_lexemes-kept nodes wider kept (all ++ more) own command h.0.stored
    ∙ ap (λ l. command_lexemes (l ++ more) nodes own command) is
    ∙ command_stays before names more nodes own command h.0
    ∙ ap (λ l. command_lexemes l nodes own command) (sym is) in
    ap (λ g. (command_lexemes (all ++ more) wider (own_names g names) command ++ sketch_lexemes sketch)
    ∷ commands_lexemes (all ++ more) wider (later_names g names) commands sketches)
    (command_form-kept nodes wider kept command h.0.stored)
    ∙ ap₂ (λ l lines. (l ++ sketch_lexemes sketch) ∷ lines) one rest

-- one more command is one more line
pub commands_lexemes-push : (all : List Name) (nodes : Store) (s : Scope) (names : List Name) (commands : List Command) (sketches : List Sketch) (own : List Name) (command : Command) (sketch : Sketch)
    → AreCommands nodes s names commands → length commands ≡ length sketches → map (λ n. n.kind) own ≡ kinds_made (command_form nodes command)
    → commands_lexemes all nodes (names ++ own) (commands ++ command ∷ []) (sketches ++ sketch ∷ [])
    ≡ commands_lexemes all nodes names commands sketches ++ (command_lexemes all nodes own command ++ sketch_lexemes sketch) ∷ []
commands_lexemes-push all nodes s names [] [] own command sketch h k named =
    ap (λ ns. (command_lexemes all nodes (own_names (command_form nodes command) (ns ++ own)) command ++ sketch_lexemes sketch) ∷ []) h
    ∙ ap (λ ns. (command_lexemes all nodes ns command ++ sketch_lexemes sketch) ∷ []) (own-whole (command_form nodes command) own named)
commands_lexemes-push all nodes s names (c ∷ commands) (k ∷ sketches) own command sketch h lengths named =
    let f = command_form nodes c in
    ap₂ (λ ns ms. (command_lexemes all nodes ns c ++ sketch_lexemes k) ∷ commands_lexemes all nodes ms (commands ++ command ∷ [])
    (sketches ++ sketch ∷ [])) (own-append f names own h.0.named) (later-append f names own h.0.named)
    ∙ ap (λ lines. (command_lexemes all nodes (own_names f names) c ++ sketch_lexemes k) ∷ lines)
    (commands_lexemes-push all nodes (scope_of s (own_names f names)) (later_names f names) commands sketches own command sketch h.1 (omega arith) named)
commands_lexemes-push all nodes s names [] (k ∷ sketches) own command sketch h lengths named = absurd (omega arith)
commands_lexemes-push all nodes s names (c ∷ commands) [] own command sketch h lengths named = absurd (omega arith)
