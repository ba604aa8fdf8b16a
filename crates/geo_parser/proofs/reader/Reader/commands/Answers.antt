use Rattle.std.proofs.Common.{◌<◌, [], ◌∷◌, List, length, sym, ◌∙◌, subst, arith}
use Rattle.geo_program.specs.declared.commands.Command.{Command}
use Rattle.geo_parser.specs.Forms.{command_slot}
use Rattle.geo_parser.specs.Inner.Reads.{ReadsCommands, ReadsWord}
use Rattle.geo_parser.proofs.CommandReading.{Passes-length}
use Rattle.geo_parser.proofs.CommandsReading.{ReadsCommands-more, at_some}
use Rattle.geo_parser.proofs.Reading.{answered}
use Rattle.geo_parser.proofs.reader.Reader.commands.Goals as goal

pub returns-in_err-word-clause-refused : goal.returns-in_err-word-clause-refused
returns-in_err-word-clause-refused c = λ f e.
    c.loop-items.invariant.follows ∙ c.in_err-word.ensures.refused f (answered _ _ f c.from_residual.ensures.1 e)

pub returns-in_err-command-clause-refused : goal.returns-in_err-command-clause-refused
returns-in_err-command-clause-refused c = λ f e.
    let word = at_some c.in_ok-word.field-0 c.in-Some.word (λ w. ReadsWord w c.loop-items.self c.command_word.new.self) c.in-Some.is c.in_ok-word.ensures.command in
    let refused = c.in_err-command.ensures.refused f (answered _ _ f c.from_residual-in_err-command.ensures.1 e) in
    c.loop-items.invariant.follows ∙ word.follows [] ∙ refused.first [] (command_slot ∷ [])

pub loop-items-smaller : goal.loop-items-smaller
loop-items-smaller c =
    let word = at_some c.in_ok-word.field-0 c.in-Some.word (λ w. ReadsWord w c.loop-items.self c.command_word.new.self) c.in-Some.is c.in_ok-word.ensures.command in
    let less : length c.command.new.self.cursor.tokens < length c.loop-items.self.cursor.tokens =
    omega (arith, Passes-length c.loop-items.self c.command_word.new.self _ word.passes, Passes-length c.command_word.new.self c.command.new.self _ c.in_ok-command.ensures.ok.passes) in
    less

pub loop-items-preserved : goal.loop-items-preserved
loop-items-preserved c =
    let word = at_some c.in_ok-word.field-0 c.in-Some.word (λ w. ReadsWord w c.loop-items.self c.command_word.new.self) c.in-Some.is c.in_ok-word.ensures.command in
    let P : List Command → Type 0 = λ cs. ReadsCommands c.args.self.now c.command.new.self cs in
    subst P (sym c.in_ok-push.ensures.items)
    (ReadsCommands-more c.args.self.now c.loop-items.self c.command_word.new.self c.command.new.self c.loop-items.items.items c.in-Some.word
    c.in_ok-command.command c.loop-items.invariant word c.in_ok-command.ensures.ok)
