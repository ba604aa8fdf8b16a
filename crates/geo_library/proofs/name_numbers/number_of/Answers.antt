use Rattle.std.proofs.Common.{ℕ, Option, sym, ◌∙◌, subst}
use Rattle.geo_library.specs.Inner.Naming.{IsNumberOf}
use Rattle.geo_library.proofs.NumbersByText.{declared_of, named_of, none_of}
use Rattle.geo_library.proofs.name_numbers.number_of.Goals as goal

pub returns-clause-declared : goal.returns-clause-declared
returns-clause-declared c = λ texts h.
    let read = c.copied.ensures ∙ c.get.ensures.value in
    declared_of texts c.args.text.now c.copied.result (subst (λ (o : Option ℕ). IsNumberOf texts c.args.text.now o) (sym read) (h.each c.args.text.now))

pub returns-clause-named : goal.returns-clause-named
returns-clause-named c = λ texts h.
    let read = c.copied.ensures ∙ c.get.ensures.value in
    named_of texts c.args.text.now c.copied.result (subst (λ (o : Option ℕ). IsNumberOf texts c.args.text.now o) (sym read) (h.each c.args.text.now))

pub returns-clause-none : goal.returns-clause-none
returns-clause-none c = λ texts h.
    let read = c.copied.ensures ∙ c.get.ensures.value in
    none_of texts c.args.text.now c.copied.result (subst (λ (o : Option ℕ). IsNumberOf texts c.args.text.now o) (sym read) (h.each c.args.text.now))
