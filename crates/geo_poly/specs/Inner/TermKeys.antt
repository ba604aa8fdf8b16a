-- Keys of what is left of the monomials of terms.
use Rattle.std.specs.Prelude.{ℕ, ◌+◌, All, IfSome, List}
use Rattle.mono_store.specs.declared.links.MonoId.{MonoId}
use Rattle.geo_poly.specs.declared.pending.Listed.{Listed}
use Rattle.geo_poly.specs.declared.rows.Row.{Row}
use Rattle.geo_poly.specs.declared.settings.Setting.{Setting}
use Rattle.geo_poly.specs.declared.shared.Shared.{Shared}
use Rattle.geo_poly.specs.declared.term_keys.TermKeys.{TermKeys}
use Rattle.geo_poly.specs.declared.variables.Var.{Var}
use Rattle.geo_poly.specs.Keys.{Keys}
use Rattle.geo_poly.specs.Inner.Moved.{AreMoved, IsMovedKey}

-- a key of what is left of the rest of a monomial and the sum are one of what is left of the whole
abbrev pub AddsUp : Shared → List Row → List Var → Keys → MonoId → MonoId → ℕ → Type 0
AddsUp p rows vars keys id rest sum = (next : ℕ) → IsMovedKey p rows vars keys rest next → IsMovedKey p rows vars keys id (next + sum)

-- where the term has a key, it is that of what is left of its monomial
abbrev pub IsKeyed : Shared → List Row → List Var → Keys → Listed → Type 0
IsKeyed p rows vars keys t = IfSome t.key (IsMovedKey p rows vars keys t.id)

-- the listed terms have such keys, and the rest of the table tells keys too
pub record AreTermKeys (setting : Setting) (p : Shared) (keys : Keys) (table : TermKeys) : Type 0 where
  pub listed : All (IsKeyed p setting.rows.now setting.vars.now keys) table.listed.now
  pub moved : AreMoved p setting.rows.now setting.vars.now keys table.moved
