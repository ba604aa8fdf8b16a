use Rattle.std.proofs.Common.{◌≡◌, [], ◌∷◌, ◌++◌, List, sym, subst, arith}
use Rattle.geo_program.specs.declared.names.Name.{Name}
use Rattle.geo_parser.specs.Inner.Reads.{ReadsCommand, a_name}
use Rattle.geo_parser.proofs.CommandReading.{ReadsCommand-made, Refuses-form, Refuses-name, extent-name}
use Rattle.geo_parser.proofs.Reading.{answered}
use Rattle.geo_parser.proofs.reader.Reader.named_command.Goals as goal

pub returns-in_err-name-clause-refused : goal.returns-in_err-name-clause-refused
returns-in_err-name-clause-refused c = λ f e.
    Refuses-name c.args.word c.args.kind c.requires.kind c.points.result c.points.ensures _ f (c.in_err-name.ensures.refused f (answered _ _ f c.from_residual.ensures.1 e) c.args.kind)

pub arguments-requires : goal.arguments-requires
arguments-requires c = omega (arith, extent-name c.args.word c.args.kind c.requires.kind c.points.result c.points.ensures _ _ _ c.in_ok-name.ensures.ok, c.requires.room)

pub returns-in_err-command-clause-refused : goal.returns-in_err-command-clause-refused
returns-in_err-command-clause-refused c = λ f e.
    Refuses-form c.args.word c.args.kind c.requires.kind c.points.result c.points.ensures _ _ _ c.in_ok-name.ensures.ok f
    (c.in_err-command.ensures.refused f (answered _ _ f c.from_residual-in_err-command.ensures.1 e))

pub returns-clause-ok : goal.returns-clause-ok
returns-clause-ok c =
    let d = c.arguments.new.self in
    let made = ReadsCommand-made c.args.word c.args.kind c.requires.kind c.points.result c.points.ensures c.args.self.now
    c.new_name.new.self c.in_ok-name.name.now c.in_ok-name.ensures.ok d c.in_ok-command.command c.in_ok-command.ensures.ok in
    let P : List Name → Type 0 = λ ns. ReadsCommand c.args.word c.args.self.now (record d { names = ns }) c.in_ok-command.command in
    let declared : c.declare.new.self ≡ d.names ++ a_name c.in_ok-name.name.now c.args.kind ∷ [] = c.in_ok-declare.ensures.ok in
    subst P (sym declared) made
