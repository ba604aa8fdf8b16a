-- The error that `?` hands on.
use Rattle.std.proofs.Common.{◌≡◌, sym, subst}
use Rattle.std.specs.Prelude.{IfErr, IsErrAnd, Result}
use Rattle.std.proofs.lemmas.Result.{err_from_is_err_and}
use Rattle.geo_chain.specs.declared.errors.ProveError.{ProveError}

-- what holds of it is told of the answer
pub if_err : {T : Type 0} (P : ProveError → Type 0) (r : Result T ProveError) (x : ProveError) → IsErrAnd r (λ e. e ≡ x) → P x → IfErr r P
if_err {T} P r x h p =
    let q = err_from_is_err_and r h in
    let Q : Result T ProveError → Type 0 = λ s. IfErr s P in subst Q (sym q.1) (subst P (sym q.2) p)
