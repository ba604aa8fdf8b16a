use Rattle.std.proofs.Common.{◌≡◌, ◌*◌, ◌≤◌, List, [], length, sym, ap, ◌∙◌, subst, arith}
use Rattle.geo_lexer.proofs.TokenListLemmas.{StandInRow-lexed}
use Rattle.geo_program.specs.CanonicalText.{canonical_text}
use Rattle.geo_program.specs.Spelling.{SpellsSource}
use Rattle.geo_program.specs.WellFormed.{IsWellFormed, Source}
use Rattle.geo_program.specs.declared.commands.Command.{Command}
use Rattle.geo_program.specs.declared.names.Name.{Name}
use Rattle.geo_program.specs.declared.statements.Statement.{Statement}
use Rattle.geo_program.proofs.LinesSpelt.{well_formed_is_spelt}
use Rattle.geo_terms.specs.Stores.{Store}
use Rattle.geo_parser.specs.declared.reader.Reader.{Reader}
use Rattle.geo_parser.specs.Inner.Coming.{Coming}
use Rattle.geo_parser.specs.Inner.Reads.{ReadsAllCommands, extent}
use Rattle.geo_parser.proofs.ProgramReading.{extent-all, extent-first, first_reader, refused_later, short, spelt}
use Rattle.geo_parser.proofs.Reading.{answered}
use Rattle.geo_parser.proofs.parsing.parse_tokens.Goals as goal
use Rattle.geo_parser.proofs.parsing.parse_tokens.Goals.{In_ok-reader}

pub new-cursor-requires-clause-tokens : goal.new-cursor-requires-clause-tokens
new-cursor-requires-clause-tokens c = (StandInRow-lexed c.args.bytes.now c.args.tokens.now c.args.stop c.requires.lexed).at_places

-- the reader is at the first token
first : (c : In_ok-reader) → c.in_ok-reader.reader ≡ first_reader c.args.bytes.now c.args.tokens.now c.args.stop
first c = c.in_ok-reader.ensures.ok ∙ ap (λ (k : Coming). record { cursor = k; names = []; terms = []; points = 0 }) c.new-cursor.ensures

pub commands-requires-clause-room : goal.commands-requires-clause-room
commands-requires-clause-room c =
    omega (arith, ap extent (first (goal.at.commands-requires-clause-room c).In_ok-reader), extent-first c.args.bytes.now c.args.tokens.now c.args.stop c.requires.lexed, c.requires.length)

pub statement-requires : goal.statement-requires
statement-requires c =
    omega (
      arith,
      extent-all c.in_ok-reader.reader c.commands.new.self c.in_ok-commands.commands c.in_ok-commands.ensures.ok,
      ap extent (first (goal.at.statement-requires c).In_ok-reader),
      extent-first c.args.bytes.now c.args.tokens.now c.args.stop c.requires.lexed,
      c.requires.length,
    )

pub returns-in_err-statement-clause-refused : goal.returns-in_err-statement-clause-refused
returns-in_err-statement-clause-refused c = λ f e.
    let P : Reader → Type 0 = λ a. ReadsAllCommands a c.commands.new.self c.in_ok-commands.commands in
    let all = subst P (first (goal.at.returns-in_err-statement-clause-refused c).In_ok-reader) c.in_ok-commands.ensures.ok in
    refused_later c.args.bytes.now c.args.tokens.now c.args.stop c.requires.lexed c.commands.new.self c.in_ok-commands.commands f all
    (c.in_err-statement.ensures.refused f (answered _ _ f c.from_residual-in_err-statement.ensures.1 e))

-- the parts of the program
parts : List Name → Store → List Command → Statement → Source
parts names nodes commands statement = record { names = names; nodes = nodes; commands = commands; statement = statement }

pub invariant_of-result : goal.invariant_of-result
unfolding parts
invariant_of-result c =
    let P : Reader → Type 0 = λ a. ReadsAllCommands a c.commands.new.self c.in_ok-commands.commands in
    let all = subst P (first (goal.at.invariant_of-result c).In_ok-reader) c.in_ok-commands.ensures.ok in
    let text = spelt c.args.bytes.now c.args.tokens.now c.args.stop c.requires.lexed c.commands.new.self c.statement.new.self
    c.in_ok-commands.commands c.in_ok-statement.statement all c.in_ok-statement.ensures.ok in
    let size = short c.args.bytes.now c.args.tokens.now c.args.stop c.requires.lexed c.commands.new.self c.statement.new.self
    c.in_ok-commands.commands c.in_ok-statement.statement all c.in_ok-statement.ensures.ok in
    let Q : List Name → Type 0 = λ ns. IsWellFormed (parts ns c.statement.new.self.terms c.in_ok-commands.commands c.in_ok-statement.statement) in
    let well_formed : Q c.into_names.result = subst Q (sym c.into_names.ensures) text.well_formed in
    let R : List Name → Type 0 = λ ns. length (canonical_text (parts ns c.statement.new.self.terms c.in_ok-commands.commands c.in_ok-statement.statement)) ≤ 268435456 in
    let small : R c.statement.new.self.names = omega (arith, size, c.requires.length) in
    record {
      spelt = ∣ well_formed_is_spelt (parts c.into_names.result c.statement.new.self.terms c.in_ok-commands.commands c.in_ok-statement.statement) well_formed ∣₁;
      short = subst R (sym c.into_names.ensures) small;
    }

pub returns-clause-spelt : goal.returns-clause-spelt
unfolding parts
returns-clause-spelt c =
    let P : Reader → Type 0 = λ a. ReadsAllCommands a c.commands.new.self c.in_ok-commands.commands in
    let all = subst P (first (goal.at.returns-clause-spelt c).In_ok-reader) c.in_ok-commands.ensures.ok in
    let text = spelt c.args.bytes.now c.args.tokens.now c.args.stop c.requires.lexed c.commands.new.self c.statement.new.self
    c.in_ok-commands.commands c.in_ok-statement.statement all c.in_ok-statement.ensures.ok in
    let Q : List Name → Type 0 = λ ns. SpellsSource c.args.bytes.now (parts ns c.statement.new.self.terms c.in_ok-commands.commands c.in_ok-statement.statement) in
    subst Q (sym c.into_names.ensures) text

pub returns-clause-short : goal.returns-clause-short
unfolding parts
returns-clause-short c =
    let P : Reader → Type 0 = λ a. ReadsAllCommands a c.commands.new.self c.in_ok-commands.commands in
    let all = subst P (first (goal.at.returns-clause-short c).In_ok-reader) c.in_ok-commands.ensures.ok in
    let size = short c.args.bytes.now c.args.tokens.now c.args.stop c.requires.lexed c.commands.new.self c.statement.new.self
    c.in_ok-commands.commands c.in_ok-statement.statement all c.in_ok-statement.ensures.ok in
    let R : List Name → Type 0 = λ ns. length (canonical_text (parts ns c.statement.new.self.terms c.in_ok-commands.commands c.in_ok-statement.statement)) ≤ 4 * length c.args.bytes.now in
    let small : R c.statement.new.self.names = omega (arith, size) in
    subst R (sym c.into_names.ensures) small
