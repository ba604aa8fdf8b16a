-- A program has few commands: its canonical text has a word for each.
use Rattle.std.proofs.Common.{◌≡◌, ℕ, suc, ◌+◌, ◌<◌, ◌≤◌, Bool, true, false, List, [], ◌∷◌, ◌++◌, length, arith}
use Rattle.std.proofs.lemmas.List.Sums.{sum_by-append, sum_by-cons}
use Rattle.std.specs.List.{flat_map}
use Rattle.std.specs.Prelude.{sum_by}
use Rattle.geo_program.specs.declared.commands.Command.{Command}
use Rattle.geo_program.specs.declared.names.Name.{Name}
use Rattle.geo_program.specs.declared.program_type.Program.{Program}
use Rattle.geo_program.specs.declared.statements.Statement.{Statement}
use Rattle.geo_program.specs.CanonicalText.{canonical_text, command_lexemes, commands_lexemes, lexeme_text, no_sketches, statement_lexemes}
use Rattle.geo_program.specs.Forms.{command_form}
use Rattle.geo_program.specs.Programs.{source_of}
use Rattle.geo_program.specs.WellFormed.{AreCommands, IsWellFormed, Scope, Source, empty_scope, later_names, own_names, scope_of}
use Rattle.geo_program.proofs.Lengths.{length-canonical_text, lexeme_size}
use Rattle.geo_program.proofs.Propositions.{program_well_formed}
use Rattle.geo_terms.specs.Stores.{Store}
use Rattle.geo_lowering.specs.declared.version.Version.{Version}
use Rattle.geo_lowering.specs.declared.version.Version.TheVariants.{One, Two}
use Rattle.geo_lowering.specs.Counting.{has_number, next_number, next_point, numbers_from, numbers_had, points_past}
use Rattle.geo_lowering.proofs.LawProofs.{points_are_counted}

-- the points of commands are at most those that their forms count
counts_most : (version : Version) (nodes : Store) (n : ℕ) (c : Command) → next_point version n c ≤ n + (command_form nodes c).points
counts_most One nodes n c = omega (arith, points_are_counted.exact nodes n c)
counts_most Two nodes n c = points_are_counted.most nodes n c

points_sum : (version : Version) (nodes : Store) (n : ℕ) (cs : List Command) → points_past version n cs ≤ n + sum_by (λ c. (command_form nodes c).points) cs
points_sum version nodes n [] = omega arith
points_sum version nodes n (c ∷ cs) =
    let counts : Command → ℕ = λ c. (command_form nodes c).points in
    let here : next_point version n c ≤ n + counts c = counts_most version nodes n c in
    let rest : points_past version (next_point version n c) cs ≤ next_point version n c + sum_by counts cs = points_sum version nodes (next_point version n c) cs in
    let all : sum_by counts (c ∷ cs) ≡ counts c + sum_by counts cs = sum_by-cons counts c cs in omega arith

pub points_within : (version : Version) (p : Source) → IsWellFormed p → points_past version 0 p.commands ≤ 512
points_within version p w =
    let e : points_past version 0 p.commands ≤ 0
    + sum_by (λ c. (command_form p.nodes c).points) p.commands = points_sum version p.nodes 0 p.commands in let few = w.few in omega arith

-- at most one number for each command
next_number-few : (m : ℕ) (c : Command) → next_number m c ≤ suc m
next_number-few m c = go (has_number c)
  where
    go : (b : Bool) → elim b [ true ↦ suc m | false ↦ m ] ≤ suc m
    go true = omega arith
    go false = omega arith

pub numbers_few : (m : ℕ) (cs : List Command) → numbers_from m cs ≤ m + length cs
numbers_few m [] = omega arith
numbers_few m (c ∷ cs) =
    let h : next_number m c ≤ suc m = next_number-few m c in
    let k : numbers_from (next_number m c) cs ≤ next_number m c + length cs = numbers_few (next_number m c) cs in omega arith

-- the list has an item
abbrev HasFirst : {X : Type 0} → List X → Type 0
HasFirst [] = ⊥
HasFirst (x ∷ xs) = Unit {0}

-- which counts
first_counts : {X : Type 0} (text : X → List ℕ) (xs : List X) → HasFirst xs → 1 ≤ sum_by (λ y. length (text y) + 1) xs
first_counts text [] h = absurd h
first_counts text (x ∷ xs) h =
    let all : sum_by (λ y. length (text y) + 1) (x ∷ xs) ≡ (length (text x) + 1) + sum_by (λ y. length (text y) + 1) xs = sum_by-cons (λ y. length (text y) + 1) x xs in omega arith

-- what all lines come to
unfoldable pub total : {X : Type 0} → (X → ℕ) → List (List X) → ℕ
total size lines = sum_by size (flat_map (λ line. line) lines)

pub total-cons : {X : Type 0} (size : X → ℕ) (line : List X) (lines : List (List X)) → total size (line ∷ lines) ≡ sum_by size line + total size lines
unfolding total
total-cons {X} size line lines = sum_by-append size line (flat_map (λ (line : List X). line) lines)

-- each command has a word in the text
commands_few : (all : List Name) (nodes : Store) (s : Scope) (names : List Name) (cs : List Command) (last : Statement) → AreCommands nodes s names cs
    → length cs ≤ total lexeme_size (commands_lexemes all nodes names cs (no_sketches cs) ++ statement_lexemes all nodes last ∷ [])
commands_few all nodes s names [] last h = omega arith
commands_few all nodes s names (c ∷ cs) last h =
    let made = own_names (command_form nodes c) names in
    let later = later_names (command_form nodes c) names in
    let own = command_lexemes all nodes made c in
    let word : 1 ≤ sum_by lexeme_size (own ++ []) = first_counts lexeme_text (own ++ []) tt in
    omega (
      arith,
      commands_few all nodes (scope_of s made) later cs last h.1,
      total-cons lexeme_size (own ++ []) (commands_lexemes all nodes later cs (no_sketches cs) ++ statement_lexemes all nodes last ∷ []),
      word,
    )

pub commands_within : (p : Source) → IsWellFormed p → length p.commands ≤ length (canonical_text p)
unfolding total
commands_within p w =
    omega (arith, length-canonical_text p, commands_few p.names p.nodes empty_scope p.names p.commands p.statement w.commands)

pub program_commands : (p : Program) → length p.commands < 4294967295
program_commands p =
    let few : length p.commands ≤ length (canonical_text (source_of p)) = commands_within (source_of p) (program_well_formed p) in
    let short : length (canonical_text (source_of p)) ≤ 268435456 = p.short in omega arith

pub program_points : (version : Version) (p : Program) → points_past version 0 p.commands ≤ 512
program_points version p = points_within version (source_of p) (program_well_formed p)

pub program_numbers : (p : Program) → numbers_had p.commands < 4294967295
program_numbers p = let e : numbers_from 0 p.commands ≤ 0 + length p.commands = numbers_few 0 p.commands in let few : length p.commands < 4294967295 = program_commands p in omega arith
