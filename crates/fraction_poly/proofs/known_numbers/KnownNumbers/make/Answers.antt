use Rattle.fraction_poly.specs.Forms.{step_number}
use Rattle.fraction_poly.proofs.KnownTerms.{each_kept, each_put, some_kept, some_same}
use Rattle.geo_points.specs.declared.ids.TermId.{TermId}
use Rattle.geo_terms.specs.Stores.{tree_of}
use Rattle.fraction_poly.proofs.known_numbers.KnownNumbers.make.Goals as goal

pub returns-in_err-insert-clause-others : goal.returns-in_err-insert-clause-others
returns-in_err-insert-clause-others c other made r is =
    some_kept c.measure.new.self.made c.insert.new.self c.in_err-insert.ensures.err r.0
    (some_same c.args.self.now.made c.measure.new.self.made c.in_ok-numbers.ensures.made r.0 (made r is))

pub returns-in_err-insert-clause-known : goal.returns-in_err-insert-clause-known
returns-in_err-insert-clause-known c =
    let known = c.in_ok-numbers.ensures.known in
    let number = λ (r : TermId). step_number (tree_of c.args.terms.now r) in
    record {
      measured = known.measured;
      made = each_kept c.measure.new.self.made c.insert.new.self c.in_err-insert.ensures.err number known.made;
      one = known.one;
    }

pub returns-clause-known : goal.returns-clause-known
returns-clause-known c =
    let known = c.in_ok-numbers.ensures.known in
    let number = λ (r : TermId). step_number (tree_of c.args.terms.now r) in
    record {
      measured = known.measured;
      made = each_put c.measure.new.self.made c.insert.new.self c.in-Some.id c.in_ok-made.made c.in_ok-insert.ensures.updates number c.in_ok-made.ensures known.made;
      one = known.one;
    }
