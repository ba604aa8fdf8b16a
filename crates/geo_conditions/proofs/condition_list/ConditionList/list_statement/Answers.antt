use Rattle.geo_conditions.proofs.condition_list.ConditionList.list_statement.Goals as goal

pub list_source-requires-clause-kept : goal.list_source-requires-clause-kept
list_source-requires-clause-kept c = c.statement_sources-first.ensures.first c.args.terms.now c.requires.braced

pub list_source-requires-2-clause-kept : goal.list_source-requires-2-clause-kept
list_source-requires-2-clause-kept c = c.statement_sources-first.ensures.second c.args.terms.now c.requires.braced
