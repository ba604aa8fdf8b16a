use Rattle.std.proofs.Common.{rules, refl, inl, inr, ◌∙◌, ap, Err}
use Rattle.geo_cli.proofs.ProgramsDue.{long_search, search_part, searched}
use Rattle.geo_cli.proofs.discovering.discover_program.Goals as goal
use Rattle.geo_discover.specs.FoundTexts.{found, impossible, open_by}
use Rattle.geo_logs.specs.Ends.{ends_by}
use Rattle.geo_logs.specs.Moves.{spent, too_large}

pub returns-in-Ok-clause-answers : goal.returns-in-Ok-clause-answers
returns-in-Ok-clause-answers g c = λ bytes spelt.
    searched c.args.program.now _ bytes spelt _ _ _ _ _ (found _) refl c.in-Ok.ensures.found

pub returns-in-Err-Impossible-clause-answers : goal.returns-in-Err-Impossible-clause-answers
returns-in-Err-Impossible-clause-answers g c = λ bytes spelt.
    searched c.args.program.now _ bytes spelt _ _ _ _ _ (impossible _) refl
    (c.discover.ensures.impossible _ (c.in-Err-Impossible.is ∙ ap Err c.in-Err-Impossible.field-0-is))

pub returns-in-Err-TooLarge-clause-answers : goal.returns-in-Err-TooLarge-clause-answers
returns-in-Err-TooLarge-clause-answers g c = λ bytes spelt.
    searched c.args.program.now _ bytes spelt _ _ _ _ _ (open_by (ends_by (too_large _)) _) refl
    (c.discover.ensures.too_large _ _ (c.in-Err-TooLarge.is ∙ ap Err c.in-Err-TooLarge.field-0-is))

pub returns-in-Err-Spent-clause-answers : goal.returns-in-Err-Spent-clause-answers
returns-in-Err-Spent-clause-answers g c = λ bytes spelt.
    searched c.args.program.now _ bytes spelt _ _ _ _ _ (open_by (ends_by spent) _) refl
    (c.discover.ensures.spent _ (c.in-Err-Spent.is ∙ ap Err c.in-Err-Spent.field-0-is))

pub returns-in-Err-TooLong-clause-answers : goal.returns-in-Err-TooLong-clause-answers
returns-in-Err-TooLong-clause-answers g c = λ bytes spelt.
    long_search c.args.program.now _ bytes spelt _ _ _ _ (c.discover.ensures.too_long (search rules))

pub returns-in-Err-WriteFault-clause-answers : goal.returns-in-Err-WriteFault-clause-answers
returns-in-Err-WriteFault-clause-answers g c = λ bytes spelt.
    let both = c.discover.ensures.write_fault (search rules) in
    search_part c.args.program.now _ bytes spelt _ _ _ _ _ (inl (refl, both.0)) both.1

pub returns-in-Err-NoMemory-clause-answers : goal.returns-in-Err-NoMemory-clause-answers
returns-in-Err-NoMemory-clause-answers g c = λ bytes spelt.
    search_part c.args.program.now _ bytes spelt _ _ _ _ _ (inr refl) (c.discover.ensures.memory (search rules))
