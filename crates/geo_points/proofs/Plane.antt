-- Twice the signed area and the Pythagoras difference, in a ring's coordinates and as expressions.
use Rattle.std.specs.Prelude.{ℕ}
use Rattle.ring_laws.specs.Ring.{Ring}
use Rattle.ring_laws.specs.Solver.{Expression, variable, numeral, ◌⊞◌, ◌⊟◌, ◌⊠◌, natural}

-- two coordinates
pub record Spot (A : Type 0) : Type 0 where
  pub x : A
  pub y : A

module _ (R : Ring) where
  open R use {carrier, add as ◌+◌, mul as ◌*◌, neg}

  infixl 6 ◌+◌
  infixl 6 ◌-◌
  infixl 7 ◌*◌
  abbrev pub ◌-◌ : carrier → carrier → carrier
  a - b = a + neg b

  -- twice the signed area
  abbrev pub double_area : Spot carrier → Spot carrier → Spot carrier → carrier
  double_area a b c = (b.x - a.x) * (c.y - a.y) - (c.x - a.x) * (b.y - a.y)

  -- the Pythagoras difference
  abbrev pub pythagoras_value : Spot carrier → Spot carrier → Spot carrier → carrier
  pythagoras_value a b c = natural R 2 * ((a.x - b.x) * (c.x - b.x) + (a.y - b.y) * (c.y - b.y))

-- the same as expressions
abbrev pub double_area_expression : Spot Expression → Spot Expression → Spot Expression → Expression
double_area_expression a b c = (b.x ⊟ a.x) ⊠ (c.y ⊟ a.y) ⊟ (c.x ⊟ a.x) ⊠ (b.y ⊟ a.y)

abbrev pub pythagoras_expression : Spot Expression → Spot Expression → Spot Expression → Expression
pythagoras_expression a b c = numeral 2 ⊠ ((a.x ⊟ b.x) ⊠ (c.x ⊟ b.x) ⊞ (a.y ⊟ b.y) ⊠ (c.y ⊟ b.y))

-- the variables i and j as coordinates
abbrev pub spot : ℕ → ℕ → Spot Expression
spot i j = record { x = variable i; y = variable j }
