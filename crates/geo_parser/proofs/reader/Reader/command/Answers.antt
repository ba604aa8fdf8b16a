use Rattle.std.proofs.Common.{◌≡◌, None, sym, ◌∙◌}
use Rattle.std.proofs.lemmas.Result.{IfOk-weaker}
use Rattle.geo_parser.specs.Inner.CommandWords.{command_kind}
use Rattle.geo_parser.specs.Inner.Reads.{ReadsCommand, ReadsForm}
use Rattle.geo_parser.proofs.CommandReading.{ReadsCommand-unnamed, Refuses-unnamed}
use Rattle.geo_parser.proofs.reader.Reader.command.Goals as goal

pub named_command-requires-clause-kind : goal.named_command-requires-clause-kind
named_command-requires-clause-kind c = sym c.kind.ensures ∙ c.in-Some.is

pub returns-in-None-clause-ok : goal.returns-in-None-clause-ok
returns-in-None-clause-ok c =
    let none : command_kind c.args.word ≡ None = sym c.kind.ensures ∙ c.in-None.is in
    let old = c.args.self.now in
    let new = c.arguments.new.self in
    IfOk-weaker c.arguments.result (ReadsForm c.args.word old new) (ReadsCommand c.args.word old new)
    (λ command form. ReadsCommand-unnamed c.args.word none old new command c.requires.few form) c.arguments.ensures.ok

pub returns-in-None-clause-refused : goal.returns-in-None-clause-refused
returns-in-None-clause-refused c = λ f e.
    let none : command_kind c.args.word ≡ None = sym c.kind.ensures ∙ c.in-None.is in
    Refuses-unnamed c.args.word none c.args.self.now f (c.arguments.ensures.refused f e)
