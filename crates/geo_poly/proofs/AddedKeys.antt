-- Keys of what is left of monomials, added up power by power where the powers are read with their variables.
use Rattle.std.proofs.Common.{◌≡◌, ℕ, zero, suc, ◌+◌, ◌<◌, Option, None, Some, List, [], ◌∷◌, get_or, length, sym, subst, ap, ap₂, ◌∙◌, arith}
use Rattle.std.specs.Prelude.{IfSome, slice_get}
use Rattle.std.specs.List.Sorted.{IsStrictlySortedBy}
use Rattle.std.proofs.lemmas.List.Sums.{sum_by-cons}
use Rattle.mono_store.specs.declared.links.MonoId.{MonoId}
use Rattle.geo_poly.specs.declared.rows.Row.{Row}
use Rattle.geo_poly.specs.declared.roles.Role.TheVariants.{Kept, Replaced}
use Rattle.geo_poly.specs.declared.settings.Setting.{Setting}
use Rattle.geo_poly.specs.declared.shared.Shared.{Shared}
use Rattle.geo_poly.specs.declared.term_keys.TermKeys.{TermKeys}
use Rattle.geo_poly.specs.declared.variables.Var.{Var}
use Rattle.geo_poly.specs.Inner.Keyed.{IsAmount, KeepsKeys}
use Rattle.geo_poly.specs.Inner.Moved.{IsMovedKey}
use Rattle.geo_poly.specs.Inner.Roles.{IsRole}
use Rattle.geo_poly.specs.Inner.TermKeys.{AddsUp, AreTermKeys}
use Rattle.geo_poly.specs.Keys.{Keys}
use Rattle.geo_poly.specs.Monomials.{IsMonomial, Powers}
use Rattle.geo_poly.specs.Replace.{kept, others, row_of}
use Rattle.geo_poly.specs.Shared.{AllPlaces, IsIndexOf, named, told_powers, var_at}
use Rattle.geo_poly.specs.Variables.{var_cmp}
use Rattle.geo_poly.proofs.KeysKept.{IsKeyUnder-kept}
use Rattle.geo_poly.proofs.Moved.{AreMoved-kept}
use Rattle.geo_poly.proofs.MovedAmounts.{same_key}
use Rattle.geo_poly.proofs.Naming.{IsPowerBefore-named}
use Rattle.geo_poly.proofs.ReplaceTerms.{IsMonomial-others, others-none}

-- what is behind the first power of a monomial is one
pub IsMonomial-behind : (m rest : Powers) (v : Var × ℕ) → m ≡ v ∷ rest → IsMonomial m → IsMonomial rest
IsMonomial-behind m rest v is h = go (subst IsMonomial is h)
  where
    go : IsMonomial (v ∷ rest) → IsMonomial rest
    go g = record { in_order = g.in_order.2; degree_fits = omega (arith, sum_by-cons (λ (p : Var × ℕ). p.1) v rest, g.degree_fits) }

-- a power whose variable has a row is not left
replaced : (rows : List Row) (i : ℕ) (o : Option Row) (v : Var × ℕ) (m : Powers) → i < length rows → slice_get rows i ≡ o → kept o v m ≡ m
replaced [] i o v m within at = absurd (omega (arith, within))
replaced (r ∷ rows) zero o v m within at = ap (λ (q : Option Row). kept q v m) (sym at)
replaced (r ∷ rows) (suc i) o v m within at = replaced rows i o v m (omega (arith, within)) at

module _ (p : Shared) (rows : List Row) (vars : List Var) (keys : Keys) where
  -- BEFORE THE FIRST POWER, AND BEHIND THE LAST
  pub AddsUp-none : (id : MonoId) (sum : ℕ) → sum ≡ 0 → AddsUp p rows vars keys id id sum
  AddsUp-none id sum is = λ next same. same_key p rows vars keys id next (next + sum) (omega (arith, is)) same

  AddsUp-whole : (id rest : MonoId) (sum : ℕ) → keys.powers 0 ≡ [] → 0 < keys.count → IsIndexOf p rest → told_powers p rest ≡ []
      → AddsUp p rows vars keys id rest sum → IsMovedKey p rows vars keys id sum
  AddsUp-whole id rest sum first some index none adds =
      same_key p rows vars keys id (0 + sum) sum (omega arith) (adds 0 (record {
        old_index = index;
        new_index = record { within = some; places = subst (AllPlaces (length vars)) (sym first) tt };
        powers = ap (named vars) first ∙ sym (ap (others rows) none);
      }))

  -- so of each sum that is known
  pub AddsUp-end : (id rest : MonoId) (sum : Option ℕ) → keys.powers 0 ≡ [] → 0 < keys.count → IsIndexOf p rest → told_powers p rest ≡ []
      → IfSome sum (AddsUp p rows vars keys id rest) → IfSome sum (IsMovedKey p rows vars keys id)
  AddsUp-end id rest None first some index none adds = tt
  AddsUp-end id rest (Some k) first some index none adds = AddsUp-whole id rest k first some index none adds

  -- ONE POWER
  module _ (id : MonoId) (left rest : MonoId) (v : Var) (exp : ℕ) (is : told_powers p left ≡ (v, exp) ∷ told_powers p rest) (index : IsIndexOf p left) (sum : ℕ)
      (adds : AddsUp p rows vars keys id left sum) where
    -- the variable has a row
    pub AddsUp-replaced : (i : ℕ) → IsRole rows vars v (Replaced i) → AddsUp p rows vars keys id rest sum
    AddsUp-replaced i role = λ next same. adds next (record {
      old_index = index;
      new_index = same.new_index;
      powers = same.powers ∙ sym (ap (others rows) is ∙ replaced rows i (row_of rows v) (v, exp) (others rows (told_powers p rest)) role.0 role.1);
    })

    -- it has none
    pub AddsUp-kept : (k : ℕ) → IsRole rows vars v (Kept k) → IsStrictlySortedBy var_cmp vars → IsMonomial (told_powers p left) → (amount : ℕ) → IsAmount keys k exp amount
        → (more : ℕ) → more ≡ sum + amount → AddsUp p rows vars keys id rest more
    AddsUp-kept k role rising monomial amount here more more-is = λ next same.
        let others-are = ap (others rows) is ∙ others-none rows (v, exp) (told_powers p rest) role.0 in
        let left_are : others rows (told_powers p left) ≡ (var_at vars k, exp) ∷ named vars (keys.powers next) =
        others-are ∙ ap₂ (λ (w : Var) (ms : Powers). (w, exp) ∷ ms) (sym role.1.1) (sym same.powers) in
        let before = IsPowerBefore-named vars rising k exp (keys.powers next) role.1.0 same.new_index.places
        (subst IsMonomial left_are (IsMonomial-others rows (told_powers p left) monomial)) in
        let there = here next same.new_index.within before.exponent before.first in
        same_key p rows vars keys id (next + amount + sum) (next + more) (omega (arith, more-is))
        (adds (next + amount) (record {
          old_index = index;
          new_index = record { within = there.0; places = subst (AllPlaces (length vars)) (sym there.1) (role.1.0, same.new_index.places) };
          powers = ap (named vars) there.1 ∙ sym left_are;
        }))

-- where keys are added, the table stays right
module _ (setting : Setting) (p : Shared) (old new : Keys) (stays : KeepsKeys old new) where
  key_kept : (id : MonoId) (key : Option ℕ) → IfSome key (IsMovedKey p setting.rows.now setting.vars.now old id)
      → IfSome key (IsMovedKey p setting.rows.now setting.vars.now new id)
  key_kept id None is = tt
  key_kept id (Some there) is = record {
    old_index = is.old_index;
    new_index = IsKeyUnder-kept setting.vars.now old new there stays is.new_index;
    powers = ap (named setting.vars.now) (stays.powers there is.new_index.within) ∙ is.powers;
  }

  pub AreTermKeys-kept : (table : TermKeys) → AreTermKeys setting p old table → AreTermKeys setting p new table
  AreTermKeys-kept table are = record {
    listed = λ k d within. let t = get_or table.listed.now k d in key_kept t.id t.key (are.listed k d within);
    moved = AreMoved-kept p setting.rows.now setting.vars.now old new stays table.moved are.moved;
  }
