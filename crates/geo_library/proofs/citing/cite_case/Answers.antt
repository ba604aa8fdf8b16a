use Rattle.std.proofs.Common.{List, map, sym, ◌∙◌, ap, subst}
use Rattle.std.proofs.lemmas.Result.{IfErr-weaker, IfOk-weaker}
use Rattle.geo_program.specs.declared.names.Name.{Name}
use Rattle.geo_program.specs.Programs.{source_of}
use Rattle.geo_library.specs.declared.renaming.Renaming.{Renaming as Numbers}
use Rattle.geo_library.specs.Citations.{IsCitation}
use Rattle.geo_library.specs.Inner.Naming.{HasNoRenaming, renaming_form}
use Rattle.geo_library.specs.Renamings.{IsRenaming, given_names}
use Rattle.geo_library.specs.Told.{TellsRefusal}
use Rattle.geo_library.proofs.ToldCases.{at_none, at_some, cites, misses, wrong_names}
use Rattle.geo_library.proofs.citing.cite_case.Goals as goal

pub returns-in_default-clause-refused : goal.returns-in_default-clause-refused
returns-in_default-clause-refused c = λ bytes input.
    let q = source_of c.args.case.now in
    let texts = map (λ t. t.now) c.args.texts.now in
    let cited = c.as_slice-cited.result.now in
    let citing = c.as_slice-citing.result.now in
    let none = at_none _ (HasNoRenaming cited citing texts) (λ (x : Numbers). IsRenaming cited citing texts (renaming_form x)) c.in_default.is c.in_ok-renaming.ensures in
    subst (TellsRefusal bytes c.args.steps) (sym c.wrong_names.ensures)
    (wrong_names bytes c.args.log.now c.args.steps c.args.theorem.now c.requires.accepted c.requires.proved c.requires.no_lines texts q input
    (subst (λ (ns : List Name). HasNoRenaming ns q.names texts) c.as_slice-cited.ensures
    (subst (λ (ns : List Name). HasNoRenaming c.as_slice-cited.result.now ns texts) c.as_slice-citing.ensures none)))

pub returns-clause-cited : goal.returns-clause-cited
returns-clause-cited c = λ bytes input.
    let a = c.args.theorem.now in
    let p = source_of a.program in
    let q = source_of c.args.case.now in
    let texts = map (λ t. t.now) c.args.texts.now in
    let r = renaming_form c.in-Some.renaming in
    let given = c.deref.result.now in
    let cited = c.as_slice-cited.result.now in
    let citing = c.as_slice-citing.result.now in
    let some = at_some _ (HasNoRenaming cited citing texts) (λ (x : Numbers). IsRenaming cited citing texts (renaming_form x)) c.in-Some.renaming c.in-Some.is
    c.in_ok-renaming.ensures in
    let ren = subst (λ (ns : List Name). IsRenaming ns q.names texts r) c.as_slice-cited.ensures
    (subst (λ (ns : List Name). IsRenaming c.as_slice-cited.result.now ns texts r) c.as_slice-citing.ensures some) in
    let names = c.deref.ensures.value ∙ c.in_ok-given.ensures ∙ ap (λ (ns : List Name). given_names ns texts) c.as_slice-cited.ensures in
    IfOk-weaker c.work.result _ (IsCitation bytes c.args.steps)
    (λ text w. cites bytes c.args.log.now c.args.steps a c.requires.accepted c.requires.proved c.requires.no_lines texts q input r ren given names text w)
    c.work.ensures.worked

pub returns-clause-refused : goal.returns-clause-refused
returns-clause-refused c = λ bytes input.
    let a = c.args.theorem.now in
    let p = source_of a.program in
    let q = source_of c.args.case.now in
    let texts = map (λ t. t.now) c.args.texts.now in
    let r = renaming_form c.in-Some.renaming in
    let given = c.deref.result.now in
    let cited = c.as_slice-cited.result.now in
    let citing = c.as_slice-citing.result.now in
    let some = at_some _ (HasNoRenaming cited citing texts) (λ (x : Numbers). IsRenaming cited citing texts (renaming_form x)) c.in-Some.renaming c.in-Some.is
    c.in_ok-renaming.ensures in
    let ren = subst (λ (ns : List Name). IsRenaming ns q.names texts r) c.as_slice-cited.ensures
    (subst (λ (ns : List Name). IsRenaming c.as_slice-cited.result.now ns texts r) c.as_slice-citing.ensures some) in
    let names = c.deref.ensures.value ∙ c.in_ok-given.ensures ∙ ap (λ (ns : List Name). given_names ns texts) c.as_slice-cited.ensures in
    IfErr-weaker c.work.result _ (TellsRefusal bytes c.args.steps)
    (λ error m. misses bytes c.args.log.now c.args.steps a c.requires.accepted c.requires.proved c.requires.no_lines texts q input r ren given names error m)
    c.work.ensures.missed
