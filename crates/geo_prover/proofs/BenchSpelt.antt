-- The parts of a workload's program are those of a program.
use Rattle.std.proofs.Common.{◌≡◌, ℕ, ◌+◌, ◌*◌, ◌≤◌, List, [], ◌∷◌, ◌++◌, length, sym, ap, subst, ◌∙◌, arith}
use Rattle.std.specs.Prelude.{All, sum_by}
use Rattle.std.specs.List.{flat_map}
use Rattle.std.proofs.lemmas.Grind.{flat_map-append}
use Rattle.std.proofs.lemmas.List.Elements.{All-from_recursion}
use Rattle.std.proofs.lemmas.List.Sums.{sum_by-append}
use Rattle.geo_lexer.specs.Lexemes.{Lexeme}
use Rattle.geo_program.specs.declared.commands.Command.{Command}
use Rattle.geo_program.specs.declared.names.Name.{Name}
use Rattle.geo_program.specs.declared.statements.Statement.{Statement}
use Rattle.geo_program.specs.CanonicalText.{canonical_text, commands_lexemes, no_sketches, statement_lexemes}
use Rattle.geo_program.specs.Forms.{AreSidesStored, StatementForm, side_argument, statement_form}
use Rattle.geo_program.specs.Spelling.{SpellsSource}
use Rattle.geo_program.specs.WellFormed.{IsArgument, IsWellFormed, Scope, Source, empty_scope, scope_of}
use Rattle.geo_program.proofs.Lengths.{length-canonical_text, lexeme_size, short_points, texts_short}
use Rattle.geo_program.proofs.LinesSpelt.{well_formed_is_spelt}
use Rattle.geo_terms.specs.Stores.{Store}
use Rattle.geo_prover.specs.Bench.{bench_commands, bench_names, bench_statement, x_area, y_area}
use Rattle.geo_prover.proofs.BenchLengths.{bench_count, bench_simple, commands_short, form_lexemes, statement_short}
use Rattle.geo_prover.proofs.BenchNames.{bench_differ, bench_texts}
use Rattle.geo_prover.proofs.BenchPrograms.{bench_few, bench_made, bench_scope, points_scope}

module _ (n : ℕ) (some : 1 ≤ n) (few : n ≤ 60) (nodes : Store) (statement : Statement) (form : statement_form nodes statement ≡ bench_statement n) (sides : AreSidesStored nodes statement) where
  -- the program, over this store
  abbrev pub stored : Source
  stored = record { names = bench_names n; nodes = nodes; commands = bench_commands n; statement = statement }

  areas : All (IsArgument (points_scope (4 * n + 6))) (bench_statement n).arguments
  areas =
      All-from_recursion (IsArgument (points_scope (4 * n + 6))) (side_argument (x_area n) ∷ side_argument (y_area n) ∷ [])
      (((omega arith, omega arith, omega arith), omega arith), (((omega arith, omega arith, omega arith), omega arith), tt))

  arguments : All (IsArgument (scope_of empty_scope (bench_names n))) (statement_form nodes statement).arguments
  arguments =
      subst (λ (s : Scope). All (IsArgument s) (statement_form nodes statement).arguments) (sym (bench_scope n))
      (subst (λ (f : StatementForm). All (IsArgument (points_scope (4 * n + 6))) f.arguments) (sym form) areas)

  pub stored_well_formed : IsWellFormed stored
  stored_well_formed = record {
    names = bench_texts n few;
    differ = bench_differ n few;
    commands = bench_made nodes n some;
    few = bench_few nodes n few;
    statement = arguments;
    sides = sides;
  }

  pub stored_short : length (canonical_text stored) ≤ 268435456
  stored_short =
      let names = bench_names n in
      let texts = texts_short names (bench_texts n few) in
      let points = short_points names texts in
      let lines = commands_lexemes names nodes names (bench_commands n) (no_sketches (bench_commands n)) in
      let last = statement_lexemes names nodes statement in
      let whole : sum_by lexeme_size (flat_map (λ line. line) (lines ++ last ∷ [])) ≡ sum_by lexeme_size (flat_map (λ line. line) lines) + sum_by lexeme_size (last ++ []) =
      ap (sum_by lexeme_size) (flat_map-append (λ (line : List Lexeme). line) lines (last ∷ [])) ∙ sum_by-append lexeme_size (flat_map (λ (line : List Lexeme). line) lines) (last ++ []) in
      let end : sum_by lexeme_size last ≤ 1040 = subst (λ (f : StatementForm). sum_by lexeme_size (form_lexemes names f) ≤ 1040) (sym form) (statement_short names n points) in
      omega (
        arith,
        length-canonical_text stored,
        whole,
        sum_by-append lexeme_size last [],
        end,
        commands_short names nodes points names (bench_commands n) texts (bench_simple n),
        bench_count n,
      )

  -- and so for parts that are these
  module _ (names : List Name) (commands : List Command) (ns : names ≡ bench_names n) (cs : commands ≡ bench_commands n) where
    same : ◌≡◌ {A = Source} (record { names = names; nodes = nodes; commands = commands; statement = statement }) stored
    same = λ i. record { names = ns i; nodes = nodes; commands = cs i; statement = statement }

    pub bench_spelt : SpellsSource (canonical_text (record { names = names; nodes = nodes; commands = commands; statement = statement }))
        (record { names = names; nodes = nodes; commands = commands; statement = statement })
    bench_spelt = subst (λ (p : Source). SpellsSource (canonical_text p) p) (sym same) (well_formed_is_spelt stored stored_well_formed)

    pub bench_short : length (canonical_text (record { names = names; nodes = nodes; commands = commands; statement = statement })) ≤ 268435456
    bench_short = subst (λ (p : Source). length (canonical_text p) ≤ 268435456) (sym same) stored_short
