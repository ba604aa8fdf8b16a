use Rattle.std.proofs.Common.{◌≡◌, [], ◌∷◌, map, ◌∙◌, rules}
use Rattle.std.proofs.lemmas.Result.{IfErr-weaker, on_ok_weaker}
use Rattle.geo_program.specs.Programs.{program_text, source_of}
use Rattle.geo_chain.specs.FirstLines.{text_lines}
use Rattle.proof_log.specs.Writable.{IsWritable}
use Rattle.proof_log.specs.declared.log.Line.TheVariants.{Header, Program as ProgramLine}
use Rattle.geo_chain.proofs.FirstLines.{broken_on, program_pieces, unwritten_first}
use Rattle.geo_chain.proofs.Handing.{if_err}
use Rattle.geo_chain.proofs.Passing.{writes_more}
use Rattle.geo_chain.proofs.Sizing.{takable_of}
use Rattle.geo_chain.proofs.program_lines.write_first_lines.Goals as goal

pub write-requires : goal.write-requires
write-requires g c = takable_of _ (Header 2) (let h : IsWritable (Header 2) = search rules in h)

pub returns-in_err-write-clause-err : goal.returns-in_err-write-clause-err
returns-in_err-write-clause-err g c =
    if_err _ _ c.in_err-write.field-0.0 c.from_residual-in_err-write.ensures.1
    (λ clean. unwritten_first _ _ c.args.log.now.within (Header 2)
    (map ProgramLine (text_lines (source_of c.args.program.now))) c.in_err-write.field-0.0 c.in_err-write.ensures.err)

pub returns-clause-ok : goal.returns-clause-ok
returns-clause-ok g c =
    let p = source_of c.args.program.now in
    let text : c.deref.result.now ≡ program_text c.args.program.now = search rules in
    on_ok_weaker c.write_pieces.result
    (λ f clean. writes_more (Header 2 ∷ []) (map ProgramLine (text_lines p)) _ _ _ c.in_ok-write.ensures.ok
    (f (text_lines p) (text ∙ program_pieces p) clean))
    c.write_pieces.ensures.ok

pub returns-clause-err : goal.returns-clause-err
returns-clause-err g c =
    let p = source_of c.args.program.now in
    let text : c.deref.result.now ≡ program_text c.args.program.now = search rules in
    IfErr-weaker c.write_pieces.result _ _
    (λ e f clean. broken_on (Header 2 ∷ []) _ _ _ c.in_ok-write.ensures.ok (map ProgramLine (text_lines p)) e
    (f (text_lines p) (text ∙ program_pieces p) clean))
    c.write_pieces.ensures.err
