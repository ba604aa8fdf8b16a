-- A monomial and a polynomial as they are read, piece by piece.
use Rattle.std.specs.Prelude.{◌≡◌, ℕ, ℤ, Option, Some, None, List, [], ◌∷◌, ◌++◌}
use Rattle.geo_poly.specs.declared.variables.Var.{Var}
use Rattle.geo_poly.specs.Monomials.{Powers, degree_of}
use Rattle.geo_poly.specs.Polynomials.{Summands, norm_of}
use Rattle.proof_log.specs.Writable.{CanWriteMonomial, CanWritePolynomial}
use Rattle.proof_log.specs.Inner.Reading.{Begins, single_powers, terms}

-- the last item
abbrev pub last_of : {X : Type 0} → List X → Option X
last_of [] = None
last_of (x ∷ []) = Some x
last_of (x ∷ y ∷ xs) = last_of (y ∷ xs)

-- a power is read that may stand behind those of the factor, and the factor has it, with its degree
pub record PushesPower (bytes rest : List ℕ) (old new : Powers × ℤ) (degree : ℕ) : Type 0 where
  pub power : Var × ℕ
  pub read : Begins single_powers bytes power rest
  pub grown : new ≡ (old.0 ++ power ∷ [], old.1)
  pub fits : CanWriteMonomial new.0
  pub degree_is : degree ≡ degree_of new.0

-- no power is there that may stand behind these
abbrev pub RefusesPower : List ℕ → Powers → Type 0
RefusesPower bytes done =
    (p : Var × ℕ) (rest : List ℕ) → Begins single_powers bytes p rest → (more : Powers) → CanWriteMonomial (done ++ p ∷ more) → ⊥

-- a term is read that may stand behind those of the list, and the list has it, with its norm
pub record PushesTerm (bytes rest : List ℕ) (old new : Summands) (norm : ℕ) : Type 0 where
  pub term : Powers × ℤ
  pub read : Begins terms bytes term rest
  pub grown : new ≡ old ++ term ∷ []
  pub fits : CanWritePolynomial new
  pub norm_is : norm ≡ norm_of new

-- no term is there that may stand behind these
abbrev pub RefusesTerm : List ℕ → Summands → Type 0
RefusesTerm bytes done =
    (t : Powers × ℤ) (rest : List ℕ) → Begins terms bytes t rest → (more : Summands) → CanWritePolynomial (done ++ t ∷ more) → ⊥
