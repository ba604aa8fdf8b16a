use Rattle.geo_poly.proofs.term_keys.key_of_term.Goals as goal

pub returns-in-Some-clause-index : goal.returns-in-Some-clause-index
returns-in-Some-clause-index g c =
    let setting = c.args.setting.now in
    (c.in-Some.ensures c.args.p.now setting.rows.now setting.vars.now (g.K.MonomialKeys.keys c.args.keys.now) c.requires.table.listed).new_index

pub returns-in-Some-clause-powers : goal.returns-in-Some-clause-powers
returns-in-Some-clause-powers g c =
    let setting = c.args.setting.now in
    (c.in-Some.ensures c.args.p.now setting.rows.now setting.vars.now (g.K.MonomialKeys.keys c.args.keys.now) c.requires.table.listed).powers
