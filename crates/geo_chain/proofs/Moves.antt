-- Which move is the next one.
use Rattle.std.proofs.Common.{◌≡◌, inl, inr, Option, Some, None, refl}
use Rattle.std.specs.Prelude.{IfSome}
use Rattle.geo_points.specs.declared.ids.PointId.{PointId}
use Rattle.geo_poly.specs.declared.variables.Var.{Var}
use Rattle.geo_poly.specs.declared.variables.Var.TheVariants.{R, S, P, X as Abscissa, Y as Ordinate, T as Number}
use Rattle.geo_poly.specs.Polynomials.{Summands}
use Rattle.geo_poly.specs.PolynomialVariables.{IsPlain, IsQuantity, variables_of}
use Rattle.geo_poly.proofs.EachVariable.{all_variables}
use Rattle.geo_terms.specs.Constructions.{Construction}
use Rattle.geo_logs.specs.declared.moves.Move.{Move}
use Rattle.geo_logs.specs.declared.moves.Move.TheVariants.{Ratio, Point}
use Rattle.geo_logs.specs.Chains.{IsEnd}
use Rattle.geo_logs.specs.Defined.{HasFreePointsAlone, IsHighest, IsNextMove, named_point}
use Rattle.elim_ratio.specs.RatioTable.{first_lemma}
use Rattle.elim_apply.specs.LemmaTable.{lemma_table}
use Rattle.geo_logs.proofs.OneStep.{no_move}
use Rattle.geo_chain.specs.declared.first.Sought.TheVariants.{RatioWith, AnyRatio, AnyQuantity}
use Rattle.geo_chain.specs.Inner.Searches.{IsFirstFitting, NoneFits}

plain_or : (v : Var) → (IsQuantity v → ⊥) → IsPlain v
plain_or (R a b c d) h = h tt
plain_or (S a b c) h = h tt
plain_or (P a b c) h = h tt
plain_or (Abscissa a) h = tt
plain_or (Ordinate a) h = tt
plain_or (Number t) h = tt

module _ (q : Summands) where
  -- where no quantity of points is left, a chain ends
  pub end_of : NoneFits AnyQuantity (variables_of q) → IsEnd q
  end_of none = all_variables IsPlain q (λ v stands. plain_or v (none v stands))

  module _ (c : Construction) where
    -- the move of the highest constructed point
    pub ratio_next : (y : PointId) (v : Var) → IsHighest c y q → IsFirstFitting (RatioWith y) (variables_of q) v
        → IsNextMove lemma_table c q (Ratio v (first_lemma c y v) (named_point (first_lemma c y v) y))
    ratio_next y v high f = inl (
      y,
      high,
      record { stands = f.stands; ratio = f.fits.0; fits = f.fits.1; first = λ w s ratio has. f.first w s (ratio, has) },
      refl,
      refl,
    )

    pub point_next : (y : PointId) → IsHighest c y q → NoneFits (RatioWith y) (variables_of q) → IsNextMove lemma_table c q (Point y)
    point_next y high none = (high, λ v s ratio has. none v s (ratio, has))

    -- and without constructed points
    pub free_ratio_next : (v : Var) → HasFreePointsAlone c q → IsFirstFitting AnyRatio (variables_of q) v
        → IsNextMove lemma_table c q (Ratio v 0 (record { 0 = 0 }))
    free_ratio_next v free f = inr (
      free,
      record { stands = f.stands; ratio = f.fits; fits = tt; first = λ w s ratio any. f.first w s ratio },
      refl,
      refl,
    )

-- at an end there is no next move
pub none_at_end : (c : Construction) (q : Summands) (o : Option Move) → IfSome o (IsNextMove lemma_table c q) → IsEnd q → o ≡ None
none_at_end c q None h e = refl
none_at_end c q (Some m) h e = absurd (no_move lemma_table c q m e h)
