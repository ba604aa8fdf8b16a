use Rattle.std.proofs.Common.{◌≡◌, ℕ, ◌<◌, [], false, get_or}
use Rattle.std.specs.Str.Parse.{starts_with_minus}
use Rattle.geo_cli.specs.Words.{bytes_of_words}
use Rattle.geo_cli.proofs.order.cut.Given as goal

abbrev pub invariant-loop-i : goal.invariant-loop-i
invariant-loop-i l = (k : ℕ) → k < l.i → starts_with_minus (get_or (bytes_of_words l.words) k []) ≡ false
