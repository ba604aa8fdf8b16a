use Rattle.std.proofs.Common.{◌≡◌, ℕ, ℤ, ◌%◌, ◌<◌, slice_get, Some}
use Rattle.mono_store.specs.declared.links.MonoId.{MonoId}
use Rattle.geo_poly.proofs.polynomial_variables.has_digit.Given as goal

abbrev pub invariant-loop-id : goal.invariant-loop-id
invariant-loop-id l = (k : ℕ) (t : MonoId × ℤ) → k < l.id-index → slice_get l.list k ≡ Some t → t.0.0 % l.above < l.unit
