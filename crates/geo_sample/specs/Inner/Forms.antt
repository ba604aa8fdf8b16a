-- A polynomial into which numbers are put, in either form.
use Rattle.std.specs.Prelude.{ℤ, []}
use Rattle.sparse_lists.specs.Coefficients.{coefficients}
use Rattle.sparse_lists.specs.SparseLists.{put}
use Rattle.geo_poly.specs.Monomials.{Powers}
use Rattle.geo_poly.specs.Polynomials.{Summands}
use Rattle.geo_sample.specs.declared.forms.Form.{Form}
use Rattle.geo_sample.specs.declared.forms.Form.TheVariants.{Term, Sum}

-- the polynomial of a term, which is zero where the coefficient is 0
abbrev pub of_term : Powers × ℤ → Summands
of_term t = put coefficients t.0 t.1 []

-- the polynomial that a form stands for
abbrev pub polynomial_in : Form → Summands
polynomial_in (Term t) = of_term t
polynomial_in (Sum p) = p
