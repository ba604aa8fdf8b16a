-- Powers that divide words.
use Rattle.std.specs.Prelude.{◌≡◌, ◌+◌, ◌*◌, ◌^◌, ◌<◌, ◌≤◌, [], ◌∷◌, length, sum}
use Rattle.mono_store.specs.Words.{count_from}
use Rattle.geo_poly.specs.declared.shared.Shared.{Shared}
use Rattle.geo_poly.specs.declared.word_division.WordDivisor.{WordDivisor}
use Rattle.geo_poly.specs.Monomials.{Powers}
use Rattle.geo_poly.specs.Shared.{var_at}

-- the monomial that is divided by
abbrev pub divisor_powers : Shared → WordDivisor → Powers
divisor_powers p d = (var_at p.vars.now d.number, d.exponent) ∷ []

-- the monomials are words, each digit is that of a variable, and the power has its amounts in its digit
pub record IsWordDivisor (p : Shared) (d : WordDivisor) : Type 0 where
  pub words : length p.monos.now.links ≡ 0
  pub places : length p.monos.now.limits ≤ length p.vars.now
  pub degree : sum p.monos.now.limits ≤ 65535
  pub known : d.number < length p.monos.now.limits
  pub amount-is : d.amount ≡ d.exponent * count_from p.monos.now.limits (d.number + 1)
  pub above-is : d.above ≡ count_from p.monos.now.limits d.number
  pub amount_fits : d.amount < d.above
  pub above_fits : d.above ≤ 2 ^ 63
