-- The text of a workload's program is short.
use Rattle.std.proofs.Common.{◌≡◌, ℕ, zero, suc, ◌+◌, ◌*◌, ◌≤◌, List, [], ◌∷◌, ◌++◌, length, refl, arith, length-append, take, drop}
use Rattle.std.specs.Prelude.{codes, sum_by}
use Rattle.std.specs.List.{AllByRecursion, flat_map}
use Rattle.std.proofs.lemmas.List.{length-take}
use Rattle.std.proofs.lemmas.List.Elements.{All-drop, All-from_recursion, All-take, recursion_from_All}
use Rattle.std.proofs.lemmas.List.Sums.{sum_by-append}
use Rattle.geo_lexer.specs.Lexemes.{Lexeme, word_lexeme}
use Rattle.geo_points.specs.declared.ids.PointId.{PointId}
use Rattle.geo_program.specs.declared.commands.Command.{Command}
use Rattle.geo_program.specs.declared.commands.Command.TheVariants.{Midpoint, Point}
use Rattle.geo_program.specs.declared.names.Name.{Name}
use Rattle.geo_program.specs.declared.names.NameKind.TheVariants as kind
use Rattle.geo_program.specs.CanonicalText.{argument_lexemes, command_lexemes, commands_lexemes, no_sketches}
use Rattle.geo_program.specs.Expressions.{braced}
use Rattle.geo_program.specs.Forms.{StatementForm, command_form}
use Rattle.geo_program.specs.Names.{name_text}
use Rattle.geo_program.specs.WellFormed.{kinds_made}
use Rattle.geo_program.proofs.Lengths.{lexeme_size, sizes_small}
use Rattle.geo_terms.specs.Stores.{Store}
use Rattle.geo_prover.specs.Bench.{bench_commands, bench_statement, corner, middles, quadrangle_commands}

-- a free point or a middle
abbrev pub IsSimple : Command → Type 0
IsSimple Point = Unit {0}
IsSimple (Midpoint a b) = Unit {0}
IsSimple _ = ⊥

abbrev HasShortText : Name → Type 0
HasShortText n = length n.text ≤ 64

module _ (all : List Name) (nodes : Store) (short : (k : ℕ) → length (name_text kind.Point all k) ≤ 64) where
  -- the lexemes of a command, with a byte after each
  command_short : (own : List Name) (command : Command) → AllByRecursion HasShortText own → length own ≤ 1 → IsSimple command
      → sum_by lexeme_size (command_lexemes all nodes own command) ≤ 300
  command_short (name ∷ other ∷ own) command h few simple = absurd (omega (arith, few))
  command_short [] Point h few simple = let small = sizes_small 65 (command_lexemes all nodes [] Point) (omega arith, tt) in omega (arith, small)
  command_short [] (Midpoint a b) h few simple =
      let small = sizes_small 65 (command_lexemes all nodes [] (Midpoint a b)) (omega arith, (omega (arith, short a.0), (omega (arith, short b.0), tt))) in
      omega (arith, small)
  command_short (name ∷ []) Point h few simple =
      let small = sizes_small 65 (command_lexemes all nodes (name ∷ []) Point) (omega arith, (omega (arith, h.0), tt)) in omega (arith, small)
  command_short (name ∷ []) (Midpoint a b) h few simple =
      let small = sizes_small 65 (command_lexemes all nodes (name ∷ []) (Midpoint a b)) (omega arith, (omega (arith, h.0), (omega (arith, short a.0), (omega (arith, short b.0), tt)))) in
      omega (arith, small)
  command_short _ _ h few simple = absurd simple

  one_made : (command : Command) → IsSimple command → length (kinds_made (command_form nodes command)) ≡ 1
  one_made Point simple = refl
  one_made (Midpoint a b) simple = refl
  one_made _ simple = absurd simple

  pub commands_short : (names : List Name) (commands : List Command) → AllByRecursion (λ n. length n.text ≤ 64) names → AllByRecursion IsSimple commands
      → sum_by lexeme_size (flat_map (λ line. line) (commands_lexemes all nodes names commands (no_sketches commands))) ≤ 300 * length commands
  commands_short names [] h simple = omega arith
  commands_short names (command ∷ commands) h simple =
      let k = length (kinds_made (command_form nodes command)) in
      let each = All-from_recursion HasShortText names h in
      let few : length (take k names) ≤ 1 = omega (arith, one_made command simple.0, length-take k names) in
      let own = command_lexemes all nodes (take k names) command in
      omega (
        arith,
        commands_short (drop k names) commands (recursion_from_All HasShortText (drop k names) (All-drop HasShortText k names each)) simple.1,
        command_short (take k names) command (recursion_from_All HasShortText (take k names) (All-take HasShortText k names each)) few simple.0,
        sum_by-append lexeme_size (own ++ []) (flat_map (λ (line : List Lexeme). line) (commands_lexemes all nodes (drop k names) commands (no_sketches commands))),
        sum_by-append lexeme_size own [],
      )

-- the commands of a workload
simple_append : (one other : List Command) → AllByRecursion IsSimple one → AllByRecursion IsSimple other → AllByRecursion IsSimple (one ++ other)
simple_append [] other h k = k
simple_append (c ∷ one) other h k = (h.0, simple_append one other h.1 k)

quadrangles_simple : (n : ℕ) → AllByRecursion IsSimple (quadrangle_commands n)
quadrangles_simple zero = (tt, (tt, (tt, (tt, tt))))
quadrangles_simple (suc n) = simple_append (quadrangle_commands n) (middles n) (quadrangles_simple n) (tt, (tt, (tt, (tt, tt))))

pub bench_simple : (n : ℕ) → AllByRecursion IsSimple (bench_commands n)
bench_simple n = simple_append (quadrangle_commands n) (Midpoint (corner 0 n) (corner 2 n) ∷ Midpoint (corner 0 1) (corner 2 1) ∷ []) (quadrangles_simple n) (tt, (tt, tt))

quadrangles_count : (n : ℕ) → length (quadrangle_commands n) ≡ 4 * n + 4
quadrangles_count zero = refl
quadrangles_count (suc n) = omega (arith, quadrangles_count n, length-append (quadrangle_commands n) (middles n))

pub bench_count : (n : ℕ) → length (bench_commands n) ≡ 4 * n + 6
bench_count n = omega (arith, quadrangles_count n, length-append (quadrangle_commands n) (Midpoint (corner 0 n) (corner 2 n) ∷ Midpoint (corner 0 1) (corner 2 1) ∷ []))

-- THE STATEMENT
-- the lexemes of a statement of this form
abbrev pub form_lexemes : List Name → StatementForm → List Lexeme
form_lexemes names f = word_lexeme (codes "prove") ∷ braced (word_lexeme f.word ∷ flat_map (argument_lexemes names) f.arguments)

pub statement_short : (names : List Name) (n : ℕ) → ((k : ℕ) → length (name_text kind.Point names k) ≤ 64) → sum_by lexeme_size (form_lexemes names (bench_statement n)) ≤ 1040
statement_short names n short =
    let name = λ (a : PointId). let h : length (name_text kind.Point names a.0) + 1 ≤ 65 = omega (arith, short a.0) in h in
    let small = sizes_small 65 (form_lexemes names (bench_statement n)) (
      omega arith,
      (
        omega arith,
        (
          omega arith,
          (
            omega arith,
            (
              omega arith,
              (
                name (corner 0 0),
                (
                  name (corner 0 (suc n)),
                  (
                    name (corner 1 0),
                    (
                      omega arith,
                      (
                        omega arith,
                        (
                          omega arith,
                          (
                            name (corner 0 0),
                            (
                              name (corner 1 (suc n)),
                              (
                                name (corner 1 0),
                                (
                                  omega arith,
                                  (omega arith, tt),
                                ),
                              ),
                            ),
                          ),
                        ),
                      ),
                    ),
                  ),
                ),
              ),
            ),
          ),
        ),
      ),
    ) in
    omega (arith, small)
