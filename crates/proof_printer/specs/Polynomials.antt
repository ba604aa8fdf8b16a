-- Polynomials, factors and values, spelled as in a log but with the names of a readable proof.
use Rattle.std.specs.Prelude.{ℕ, ◌==◌, cond, codes, ℤ, unsigned_abs, List, [], ◌∷◌, ◌++◌, map}
use Rattle.std.specs.Fmt.{decimal, signed_decimal}
use Rattle.std.specs.List.{flat_map, join_with_byte}
use Rattle.geo_poly.specs.declared.variables.Var.{Var}
use Rattle.geo_poly.specs.Monomials.{Powers}
use Rattle.geo_poly.specs.Polynomials.{Summands}
use Rattle.proof_log.specs.Lines.{sign_text}
use Rattle.proof_printer.specs.Naming.{Naming, variable_text}

-- `^2`; nothing where the exponent is 1
abbrev pub exponent_text : ℕ → List ℕ
exponent_text e = cond (e == 1) [] (codes "^" ++ decimal e)

-- `*S(A,B,M)`, with its exponent
abbrev pub power_text : Naming → Var × ℕ → List ℕ
power_text n p = codes "*" ++ variable_text n p.0 ++ exponent_text p.1

-- the sign, the absolute coefficient and the powers
abbrev pub term_text : Naming → Powers × ℤ → List ℕ
term_text n t = sign_text t.1 ++ decimal (unsigned_abs t.1) ++ flat_map (power_text n) t.0

-- `0`, or the terms with single spaces between them
abbrev pub polynomial_text : Naming → Summands → List ℕ
polynomial_text n [] = codes "0"
polynomial_text n (t ∷ ts) = join_with_byte 32 (map (term_text n) (t ∷ ts))

-- an integer, without `+`, and the powers
abbrev pub factor_text : Naming → Powers × ℤ → List ℕ
factor_text n f = signed_decimal f.1 ++ flat_map (power_text n) f.0

-- ` x(A)=5`
abbrev pub value_text : Naming → Var × ℤ → List ℕ
value_text n v = codes " " ++ variable_text n v.0 ++ codes "=" ++ signed_decimal v.1
