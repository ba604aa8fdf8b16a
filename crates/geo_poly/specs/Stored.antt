-- How a polynomial is stored.
use Rattle.std.specs.Prelude.{◌≡◌}
use Rattle.geo_poly.specs.declared.stored.Stored.{Stored}
use Rattle.geo_poly.specs.Polynomials.{Summands}
use Rattle.geo_poly.specs.Shared.{IsShared, terms_of}

-- the terms that are stored
abbrev pub stored_terms : Stored → Summands
stored_terms s = terms_of s.vars s.monos s.list.items

-- the polynomial is stored so
pub record IsStoredBy (p : Summands) (s : Stored) : Type 0 where
  pub valid : IsShared s.vars s.monos s.list.items
  pub terms : stored_terms s ≡ p
