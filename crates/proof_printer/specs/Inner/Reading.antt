-- The text of a polynomial of a log, as it is read: single bytes, and names of variables.
use Rattle.std.specs.Prelude.{◌≡◌, ◌↔◌, ℕ, true, List, [], ◌∷◌, ◌++◌, All, Contains, IsTrue}
use Rattle.std.specs.BTreeMap.{keys}
use Rattle.std.specs.BTreeSet.{insert_key}
use Rattle.std.specs.List.{fold}
use Rattle.std.specs.List.Sorted.{IsStrictlySortedBy}
use Rattle.geo_poly.specs.declared.variables.Var.{Var}
use Rattle.geo_poly.specs.Polynomials.{Summands}
use Rattle.geo_poly.specs.PolynomialVariables.{variables_of}
use Rattle.geo_poly.specs.Variables.{var_cmp}
use Rattle.proof_log.specs.Inner.Reading.{StopsAt, is_number_byte, is_plain_byte}
use Rattle.proof_log.specs.Lines as logs
use Rattle.proof_log.specs.Lines.{variable_name}
use Rattle.proof_log.specs.Writable.{CanWritePolynomial, IsVariable}
use Rattle.proof_printer.specs.Naming.{Naming, variable_text}
use Rattle.proof_printer.specs.Polynomials.{polynomial_text}
use Rattle.proof_printer.specs.declared.met.Met.{Met}
use Rattle.proof_printer.specs.declared.reading.Before.{Before}

-- TOKENS: a byte, or the name of a variable
pub data Token : Type 0 where
  byte_token : ℕ → Token
  name_token : Var → Token

abbrev pub Tokens : Type 0
Tokens = List Token

-- their text, with these names
abbrev pub spelled : (Var → List ℕ) → Tokens → List ℕ
spelled name [] = []
spelled name (byte_token b ∷ tokens) = b ∷ spelled name tokens
spelled name (name_token v ∷ tokens) = name v ++ spelled name tokens

-- their variables
abbrev pub variables_in : Tokens → List Var
variables_in [] = []
variables_in (byte_token b ∷ tokens) = variables_in tokens
variables_in (name_token v ∷ tokens) = v ∷ variables_in tokens

-- they are read from their text with the names of a log
abbrev pub AreTokens : Tokens → Type 0
AreTokens [] = Unit {0}
AreTokens (byte_token b ∷ tokens) = (is_plain_byte b ≡ true) × AreTokens tokens
AreTokens (name_token v ∷ tokens) = IsVariable v × StopsAt is_number_byte (spelled variable_name tokens) × AreTokens tokens

-- what is left of them behind the bytes before the first name, which were appended
pub record IsPast (n : Naming) (tokens : Tokens) (before after rest : List ℕ) : Type 0 where
  pub left : Tokens
  pub tokens-left : AreTokens left
  pub spelt : rest ≡ spelled variable_name left
  pub stops : StopsAt is_plain_byte rest
  pub grown : after ++ spelled (variable_text n) left ≡ before ++ spelled (variable_text n) tokens
  pub variables : variables_in tokens ≡ variables_in left

-- of the text of the polynomial `rest` is left, `out` is appended, and the variables of the others were met
pub record IsReading (n : Naming) (start rest out : List ℕ) (met : List Var) (q : Summands) : Type 0 where
  pub left : Tokens
  pub tokens-left : AreTokens left
  pub spelt : rest ≡ spelled variable_name left
  pub stops : StopsAt is_plain_byte rest
  pub printed : out ++ spelled (variable_text n) left ≡ start ++ polynomial_text n q
  pub variables : fold (insert_key var_cmp) met (variables_in left) ≡ variables_of q

-- the text is that of the polynomial
pub record IsTextOf (text : List ℕ) (q : Summands) : Type 0 where
  pub writable : CanWritePolynomial q
  pub spelt : text ≡ logs.polynomial_text q

-- the variables that were met are in order, and each that has a name has its own
pub record AreMet (n : Naming) (met : Met) : Type 0 where
  pub rising : IsStrictlySortedBy var_cmp (keys met.places)
  pub named : All (λ named. (named.name ≡ variable_text n named.variable) × Contains (keys met.places) named.variable) met.names.items

-- what is kept of the polynomial
pub record IsKept (before : Before) (q : Summands) : Type 0 where
  pub variables : before.variables ≡ variables_of q
  pub zero : IsTrue before.zero ↔ (q ≡ [])
