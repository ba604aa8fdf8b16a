-- The highest constructed point.
use Rattle.std.proofs.Common.{◌<◌, Contains, Option, Some, None, length, arith}
use Rattle.std.specs.Prelude.{IfNone, IfSome}
use Rattle.std.proofs.lemmas.Option.{slice_get_within}
use Rattle.geo_points.specs.declared.ids.PointId.{PointId}
use Rattle.geo_poly.specs.declared.shared.Shared.{Shared}
use Rattle.geo_poly.specs.Polynomials.{Summands}
use Rattle.geo_poly.specs.Shared.{AreParts, told}
use Rattle.geo_poly.proofs.Unions.{parts_known}
use Rattle.geo_terms.specs.Constructions.{Construction}
use Rattle.geo_logs.specs.Defined.{HasFreePointsAlone, IsConstructed, IsHighest}
use Rattle.geo_chain.specs.Inner.Searches.{Improves, IsAsHigh, MakesOneIn, MakesOneOf, MakesPoint, Reaches}
use Rattle.geo_chain.proofs.Searches.{IsGrade, contained_in, contained_of, found, further, in_contained, one_with}

pub by_height : IsGrade IsAsHigh
by_height = record { self = λ a. omega arith; trans = λ a b c h g. omega (arith, h, g) }

-- a constructed point is one of the construction
pub below_steps : (c : Construction) (y : PointId) → IsConstructed c y → y.0 < length c.steps
below_steps c y made = slice_get_within c.steps y.0 made.step made.made

module _ (c : Construction) (q : Summands) where
  pub some_highest : (o : Option PointId) → Improves IsAsHigh (MakesOneIn c q) None o → IfSome o (λ y. IsHighest c y q)
  some_highest None h = tt
  some_highest (Some y) h =
      let one = in_contained (λ v. MakesPoint c v y) q (found IsAsHigh by_height (MakesOneIn c q) y h) in
      record {
        constructed = one.2.0;
        occurs = (one.1.0, one.0, one.1.1, one.1.2, one.2.1);
        highest = λ z made (k, v, lt, at, has). h.reaches z (contained_in (λ w. MakesPoint c w z) q v (k, lt, at) (made, has));
      }

  pub none_highest : (o : Option PointId) → Improves IsAsHigh (MakesOneIn c q) None o → IfNone o (HasFreePointsAlone c q)
  none_highest (Some y) h = tt
  none_highest None h = λ z made (k, v, lt, at, has). h.reaches z (contained_in (λ w. MakesPoint c w z) q v (k, lt, at) (made, has))

-- what is as high as all points of the listed variables is as high as all of the terms
pub listed_reached : (c : Construction) (p : Shared) (most o : Option PointId) → AreParts p → Improves IsAsHigh (MakesOneOf c p.vars.now) None most
    → IfSome most (Reaches IsAsHigh o) → (z : PointId) → MakesOneIn c (told p) z → Reaches IsAsHigh o z
listed_reached c p None o parts h reach z in_terms =
    let one = one_with (λ v. MakesPoint c v z) (Contains p.vars.now) (told p) in_terms (parts_known p parts) in
    absurd (h.reaches z (contained_of (λ v. MakesPoint c v z) p.vars.now one.0 one.1 one.2))
listed_reached c p (Some y) o parts h reach z in_terms =
    let one = one_with (λ v. MakesPoint c v z) (Contains p.vars.now) (told p) in_terms (parts_known p parts) in
    further IsAsHigh by_height o y z reach (h.reaches z (contained_of (λ v. MakesPoint c v z) p.vars.now one.0 one.1 one.2))
