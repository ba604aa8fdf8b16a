use Rattle.std.proofs.Common.{sym, ap, ◌∙◌}
use Rattle.std.specs.BTreeMap.{get}
use Rattle.std.specs.List.{list_any}
use Rattle.std.specs.Ordering.{eq_by_cmp}
use Rattle.first_seen.proofs.Places.{told}
use Rattle.first_seen.proofs.first_seen.FirstSeen.contains.Goals as goal

pub returns : goal.returns
returns g c =
    let eq = eq_by_cmp g.K.Ord.cmp in
    c.contains_key.ensures
    ∙ sym (told eq c.self.inside.keys.items c.args.key.now (get g.K.Ord.cmp c.self.inside.places c.args.key.now) (c.self.invariant c.args.key.now))
    ∙ ap (λ keys. list_any (eq c.args.key.now) keys) c.self.view_is
