-- The role of the variable of a power, and the denominators that the powers before have used up.
use Rattle.std.proofs.Common.{◌≡◌, ℕ, ◌+◌, ◌*◌, ◌<◌, Some, List, [], ◌∷◌, ◌++◌, inl, inr, length, length-append, sym, ap, subst, ◌∙◌, arith}
use Rattle.std.specs.Prelude.{slice_get, slice_index_or}
use Rattle.std.proofs.lemmas.Bool.{cases_lt}
use Rattle.std.proofs.lemmas.List.{get_or_append_left, get_or_push}
use Rattle.std.proofs.lemmas.Option.{get_or_from_slice_get, slice_get_within}
use Rattle.geo_poly.specs.declared.rows.Row.{Row}
use Rattle.geo_poly.specs.declared.roles.Role.{Role}
use Rattle.geo_poly.specs.declared.roles.Role.TheVariants.{Absent}
use Rattle.geo_poly.specs.declared.variables.Var.{Var}
use Rattle.geo_poly.specs.Inner.Roles.{AreRoles, IsRole}
use Rattle.geo_poly.specs.Monomials.{Powers}
use Rattle.geo_poly.specs.Replace.{denominators, power_in, row_of}
use Rattle.geo_poly.specs.Shared.{var_at}

-- the role at a number is that of the variable
pub role_there : (rows : List Row) (vars former : List Var) (roles : List Role) (n : ℕ) (v : Var) (role : Role) → slice_get roles n ≡ Some role
    → AreRoles rows vars former roles → slice_get former n ≡ Some v → IsRole rows vars v role
role_there rows vars former roles n v role is h at =
    let here : var_at former n ≡ v = get_or_from_slice_get former n v (var_at [] 0) at in
    let found : slice_index_or roles n Absent ≡ role = get_or_from_slice_get roles n role Absent is in
    subst (λ (r : Role). IsRole rows vars v r) found
    (subst (λ (w : Var). IsRole rows vars w (slice_index_or roles n Absent)) here (h.each n (slice_get_within roles n role is)))

-- the number of a variable has a role
pub role_known : (rows : List Row) (vars former : List Var) (roles : List Role) (n : ℕ) (v : Var) → AreRoles rows vars former roles
    → slice_get former n ≡ Some v → n < length roles
role_known rows vars former roles n v h at = omega (arith, h.whole, slice_get_within former n v at)

-- the denominators that are still missing, where one power more is read
pub missing_step : (rows : List Row) (w : Var) (e : ℕ) (left rest : Powers) (missing lacking : ℕ) → left ≡ (w, e) ∷ rest
    → missing ≡ denominators rows left + lacking → missing ≡ power_in (row_of rows w) * e + (denominators rows rest + lacking)
missing_step rows w e left rest missing lacking is h = omega (arith, h, ap (denominators rows) is)

-- one role more
pub roles_push : (rows : List Row) (vars former : List Var) (old new : List Role) (n : ℕ) (role : Role) → new ≡ old ++ role ∷ [] → length old ≡ n
    → IsRole rows vars (var_at former n) role
    → ((k : ℕ) → k < length old → IsRole rows vars (var_at former k) (slice_index_or old k Absent))
    → (k : ℕ) → k < length new → IsRole rows vars (var_at former k) (slice_index_or new k Absent)
roles_push rows vars former old new n role pushed room here before k within =
    subst (λ (rs : List Role). IsRole rows vars (var_at former k) (slice_index_or rs k Absent)) (sym pushed)
    (elim (cases_lt k n) [
      | inl less ↦
          let known : k < length old = omega (arith, less, room) in
          subst (λ (r : Role). IsRole rows vars (var_at former k) r) (sym (get_or_append_left old (role ∷ []) Absent k known)) (before k known)
      | inr past ↦
          let last : k ≡ n = omega (arith, past, within, room, ap length pushed, length-append old (role ∷ [])) in
          subst (λ (r : Role). IsRole rows vars (var_at former k) r) (sym (get_or_push old role Absent k (room ∙ sym last)))
          (subst (λ (j : ℕ). IsRole rows vars (var_at former j) role) (sym last) here)
    ])
