-- The first variable of a kind in a polynomial.
use Rattle.std.proofs.Common.{◌≡◌, ◌≢◌, inr, Contains, Option, Some, None, refl, sym, subst, ◌∙◌}
use Rattle.std.specs.Prelude.{IfNone, IfSome}
use Rattle.std.specs.declared.cmp.Ordering.{Ordering}
use Rattle.std.specs.declared.cmp.Ordering.TheVariants.{Less, Equal, Greater}
use Rattle.geo_poly.specs.declared.shared.Shared.{Shared}
use Rattle.geo_poly.specs.declared.variables.Var.{Var}
use Rattle.geo_poly.specs.Polynomials.{Summands}
use Rattle.geo_poly.specs.PolynomialVariables.{variables_of}
use Rattle.geo_poly.specs.Shared.{AreParts, told}
use Rattle.geo_poly.specs.Variables.{var_cmp}
use Rattle.geo_poly.proofs.Orders.{var_order}
use Rattle.geo_poly.proofs.Unions.{parts_known}
use Rattle.geo_chain.specs.declared.first.Sought.{Sought}
use Rattle.geo_chain.specs.Inner.Searches.{Fits, HasFittingIn, Improves, IsFirstFitting, IsFitting, IsNotAfter, NoneFits, Reaches}
use Rattle.geo_chain.proofs.Searches.{IsGrade, contained_in, found, further, in_contained, one_with, stays}

own : (v : Var) → IsNotAfter v v
own v less = let q : Less ≡ Equal = sym less ∙ var_order.self v in absurd (cc)

follows : (u v w : Var) → IsNotAfter u v → IsNotAfter v w → IsNotAfter u w
follows u v w h g less = go (var_cmp w v) refl
  where
    go : (o : Ordering) → var_cmp w v ≡ o → ⊥
    go Less e = g e
    go Equal e = h (subst (λ (x : Var). var_cmp x u ≡ Less) (var_order.exact w v e) less)
    go Greater e = h (var_order.trans v w u (var_order.flip_back w v e) less)

pub by_order : IsGrade IsNotAfter
by_order = record { self = own; trans = follows }

-- ONE VARIABLE MORE
module _ (sought : Sought) (v : Var) where
  pub kept_unfit : (before : Option Var) → (Fits sought v → ⊥) → Improves IsNotAfter (IsFitting sought v) before before
  kept_unfit before unfit = stays IsNotAfter by_order (IsFitting sought v) before (λ a f. absurd (unfit (subst (Fits sought) (sym f.0) f.1)))

  pub kept_earlier : (w : Var) → var_cmp w v ≢ Greater → Improves IsNotAfter (IsFitting sought v) (Some w) (Some w)
  kept_earlier w early = stays IsNotAfter by_order (IsFitting sought v) (Some w)
      (λ a f. subst (IsNotAfter w) f.0 (λ less. early (var_order.flip v w less)))

  pub taken : (before : Option Var) → Fits sought v → ((w : Var) → before ≡ Some w → IsNotAfter v w) → Improves IsNotAfter (IsFitting sought v) before (Some v)
  taken before fits later = record { from = inr (v, refl, (refl, fits)); keeps = later; reaches = λ a f. subst (IsNotAfter v) f.0 (own v) }

-- WHAT A WHOLE SEARCH FINDS
module _ (sought : Sought) (q : Summands) where
  pub some_first : (o : Option Var) → Improves IsNotAfter (HasFittingIn sought q) None o → IfSome o (IsFirstFitting sought (variables_of q))
  some_first None h = tt
  some_first (Some v) h =
      let one = in_contained (λ w. IsFitting sought w v) q (found IsNotAfter by_order (HasFittingIn sought q) v h) in
      record {
        stands = subst (Contains (variables_of q)) one.2.0 one.1;
        fits = one.2.1;
        first = λ w stands fits. h.reaches w (contained_in (λ u. IsFitting sought u w) q w stands (refl, fits));
      }

  pub none_first : (o : Option Var) → Improves IsNotAfter (HasFittingIn sought q) None o → IfNone o (NoneFits sought (variables_of q))
  none_first (Some v) h = tt
  none_first None h = λ w stands fits. h.reaches w (contained_in (λ u. IsFitting sought u w) q w stands (refl, fits))

-- what stands no later than the first one listed stands no later than any of the terms
module _ (p : Shared) (sought : Sought) (parts : AreParts p) where
  listed : (w : Var) → HasFittingIn sought (told p) w → (v : Var) × Contains p.vars.now v × IsFitting sought v w
  listed w in_terms = one_with (λ v. IsFitting sought v w) (Contains p.vars.now) (told p) in_terms (parts_known p parts)

  pub listed_first : (least o : Option Var) → IfSome least (IsFirstFitting sought p.vars.now) → IfNone least (NoneFits sought p.vars.now)
      → IfSome least (Reaches IsNotAfter o) → (w : Var) → HasFittingIn sought (told p) w → Reaches IsNotAfter o w
  listed_first None o some none reach w in_terms =
      let one = listed w in_terms in absurd (none one.0 one.1 (subst (Fits sought) (sym one.2.0) one.2.1))
  listed_first (Some v) o some none reach w in_terms =
      let one = listed w in_terms in
      further IsNotAfter by_order o v w reach (subst (IsNotAfter v) one.2.0 (some.first one.0 one.1 (subst (Fits sought) (sym one.2.0) one.2.1)))
