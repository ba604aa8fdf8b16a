use Rattle.std.proofs.Common.{ℕ, List, map, refl, sym, subst, Bor}
use Rattle.log_checker.proofs.PassedOn.{passed_on}
use Rattle.geo_library.specs.declared.inputs.Names.{Names}
use Rattle.geo_library.specs.Inner.Names.{HasNoNames}
use Rattle.geo_library.specs.Inputs.{BeginsWithNames}
use Rattle.geo_library.specs.Told.{TellsRefusal}
use Rattle.geo_library.proofs.ToldCases.{at_none, at_some, case_told, no_names}
use Rattle.geo_library.proofs.citing.cite_theorem.Goals as goal

pub returns-in_default-clause-refused : goal.returns-in_default-clause-refused
returns-in_default-clause-refused c = λ bytes b.
    subst (TellsRefusal bytes c.args.steps) (sym c.wrong_names.ensures)
    (no_names bytes c.args.log.now c.args.steps c.args.theorem.now c.requires.accepted c.requires.proved c.requires.no_lines c.args.rest.now b
    (at_none _ (HasNoNames c.args.rest.now) (λ (n : Names). BeginsWithNames c.args.rest.now (map (λ t. t.now) n.texts.items) n.program.now) c.in_default.is
    c.in_ok-names.ensures))

pub returns-in_err-case-clause-refused : goal.returns-in_err-case-clause-refused
returns-in_err-case-clause-refused c = λ bytes b.
    let some = at_some _ (HasNoNames c.args.rest.now) (λ (n : Names). BeginsWithNames c.args.rest.now (map (λ t. t.now) n.texts.items) n.program.now) c.in-Some.names
    c.in-Some.is c.in_ok-names.ensures in
    passed_on c.from_residual-in_err-case.result c.in_err-case.field-0.0 (TellsRefusal bytes c.args.steps) c.from_residual-in_err-case.ensures.1
    (case_told bytes c.args.log.now c.args.steps c.args.theorem.now c.requires.accepted c.requires.proved c.requires.no_lines c.args.rest.now b
    (map (λ t. t.now) c.in-Some.names.texts.items) c.in-Some.names.program.now some _ refl c.in_err-case.field-0.0 c.in_err-case.ensures.refused)

pub returns-clause-refused : goal.returns-clause-refused
returns-clause-refused c = λ bytes b.
    let some = at_some _ (HasNoNames c.args.rest.now) (λ (n : Names). BeginsWithNames c.args.rest.now (map (λ t. t.now) n.texts.items) n.program.now) c.in-Some.names
    c.in-Some.is c.in_ok-names.ensures in
    c.cite_case.ensures.refused bytes (record {
      rest = c.args.rest.now;
      written = c.in-Some.names.program.now;
      begins = b;
      named = subst (λ (ts : List (Bor (List ℕ))). BeginsWithNames c.args.rest.now (map (λ t. t.now) ts) c.in-Some.names.program.now) (sym c.deref.ensures.value) some;
      spelt = c.in_ok-case.ensures.spelt;
    })
