-- What stays where keys are added; the indices of a store that grows are such.
use Rattle.std.proofs.Common.{◌≡◌, ◌<◌, ℕ, List, [], ◌∷◌, length, refl, sym, ap, ap₂, subst, ◌∙◌, arith}
use Rattle.sparse_lists.specs.SparseLists.{AllKeys}
use Rattle.mono_store.specs.Monomials.{Powers as NumberedPowers}
use Rattle.mono_store.specs.Stores.{Keeps, Store}
use Rattle.geo_poly.specs.declared.variables.Var.{Var}
use Rattle.geo_poly.specs.Inner.Keyed.{IsIndexUnder, KeepsKeys, terms_under}
use Rattle.geo_poly.specs.Keys.{IsKeyUnder, Keys, store_keys}
use Rattle.geo_poly.specs.Monomials.{Powers}
use Rattle.geo_poly.specs.Polynomials.{Summands}
use Rattle.geo_poly.specs.Shared.{Indices, named}

pub KeepsKeys-refl : (keys : Keys) → KeepsKeys keys keys
KeepsKeys-refl keys = record { longer = omega arith; powers = λ k within. refl; limits = refl }

pub KeepsKeys-trans : (a b c : Keys) → KeepsKeys a b → KeepsKeys b c → KeepsKeys a c
KeepsKeys-trans a b c h g = record {
  longer = omega (arith, h.longer, g.longer);
  powers = λ k within. g.powers k (omega (arith, h.longer, within)) ∙ h.powers k within;
  limits = g.limits ∙ h.limits;
}

-- a store that grows keeps its indices
pub keeps_keys : (old new : Store) → Keeps old new → KeepsKeys (store_keys old) (store_keys new)
keeps_keys old new h = record { longer = omega (arith, h.longer); powers = λ k within. h.monomials (record { 0 = k }) within; limits = refl }

pub keeps_store : (old new : Store) → KeepsKeys (store_keys old) (store_keys new) → Keeps old new
keeps_store old new h = record { longer = omega (arith, h.longer); monomials = λ id within. h.powers id.0 within }

pub IsKeyUnder-kept : (vars : List Var) (old new : Keys) (k : ℕ) → KeepsKeys old new → IsKeyUnder vars old k → IsKeyUnder vars new k
IsKeyUnder-kept vars old new k h is = record {
  within = omega (arith, h.longer, is.within);
  places = subst (λ (m : NumberedPowers). AllKeys (λ v. v < length vars) m) (sym (h.powers k is.within)) is.places;
}

pub indices_under-kept : (vars : List Var) (old new : Keys) (list : Indices) → KeepsKeys old new → AllKeys (IsIndexUnder vars old) list
    → AllKeys (IsIndexUnder vars new) list
indices_under-kept vars old new [] h g = tt
indices_under-kept vars old new (t ∷ list) h g = (IsKeyUnder-kept vars old new t.0.0 h g.0, indices_under-kept vars old new list h g.1)

pub terms_under-kept : (vars : List Var) (old new : Keys) (list : Indices) → KeepsKeys old new → AllKeys (IsIndexUnder vars old) list
    → terms_under vars new list ≡ terms_under vars old list
terms_under-kept vars old new [] h g = refl
terms_under-kept vars old new (t ∷ list) h g =
    ap₂ (λ (m : Powers) (ts : Summands). (m, t.1) ∷ ts) (ap (named vars) (h.powers t.0.0 g.0.within)) (terms_under-kept vars old new list h g.1)
