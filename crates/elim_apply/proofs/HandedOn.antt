-- The error that `?` hands on.
use Rattle.std.proofs.Common.{◌≡◌, Err, sym, subst}
use Rattle.std.specs.Prelude.{IsErrAnd, Result}

pub handed_on : {T E : Type 0} (r : Result T E) (x b : E) → IsErrAnd r (λ e. e ≡ x) → r ≡ Err b → x ≡ b
handed_on {T} {E} r x b h e = let P : Result T E → Type 0 = λ q. IsErrAnd q (λ e. e ≡ x) in sym (subst P e h)
