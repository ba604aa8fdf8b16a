use Rattle.std.proofs.Common.{◌<◌, length, sym, subst}
use Rattle.mono_store.specs.Words.{Limits}
use Rattle.mono_store.proofs.DigitLists.{IsDigit, IsDigit-at}
use Rattle.mono_store.proofs.words.Digits.digit.Goals as goal

found : (c : goal.After-result-1) → IsDigit c.args.self.now c.args.var c.index.result.now
found c =
    subst (λ (limits : Limits). IsDigit limits c.args.var c.index.result.now) c.self.view_is
    (IsDigit-at c.self.inside.digits.items c.self.inside.words c.args.var c.index.result.now c.self.invariant
    (subst (λ (limits : Limits). c.args.var < length limits) (sym c.self.view_is) c.requires) c.index.ensures)

pub returns-clause-limit : goal.returns-clause-limit
returns-clause-limit c = (found c).limit

pub returns-clause-unit : goal.returns-clause-unit
returns-clause-unit c = (found c).unit
