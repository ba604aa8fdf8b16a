-- The rows of ratios hold wherever the ratio is defined, and their denominators are light.
use Rattle.std.proofs.Common.{◌≡◌, ℕ, ◌≤◌, max, Bool, true, false, cond, eqb, ◌&&◌, ◌||◌, Option, Some, None, slice_get, refl, sym, subst, ap, not, IfSome, IsTrue, ◌⊎◌, inl, inr, arith}
use Rattle.std.specs.Option.{option_and_then, option_map}
use Rattle.std.proofs.lemmas.Bool.{eqb-true}
use Rattle.ring_laws.proofs.Laws as Laws
use Rattle.elim_ratio.specs.RatioTable.{end_at, same_line, with_sign, plain_row, crossing_row, shared_row, along_row, foot_row, pythagoras_row, first_line, second_line, lemma_row, ratio_table}
use Rattle.fraction_poly.specs.Forms.{Form, area, pythagoras, ratio, ◌⊞◌, ◌⊟◌, ◌⊠◌, piece_of}
use Rattle.fraction_poly.specs.Laws.{polynomial_value}
use Rattle.fraction_poly.specs.MultipliedOut.{multiplied_out}
use Rattle.fraction_poly.specs.Measures.{numbers_of}
use Rattle.fraction_poly.specs.StepForms.{numerator_at, denominator_at}
use Rattle.fraction_poly.specs.TableRows.{TableRow, AreLight, HasVariable, IsLight, IsPointMet, IsSound, IsSoundAnywhere, row_numbers}
use Rattle.fraction_poly.proofs.FormValues.{Holds, form_value, holds_one, no_ratios, of_some, has_no_ratio, RatiosDefined}
use Rattle.fraction_poly.proofs.PolynomialValues.{◌∘◌, flip, self, products, opposites}
use Rattle.fraction_poly.proofs.StepValues.{number_over}
use Rattle.geo_points.proofs.Denominators.{crossing_nonzero, crossing_flip, square_nonzero, side_nonzero_first, side_nonzero_second}
use Rattle.ring_laws.proofs.Fractions.{fractions}
use Rattle.geo_points.proofs.RatioRows.{ratio-zero, ratio-inter_first, ratio-inter_both, ratio-foot, ratio-pratio}
use Rattle.geo_points.proofs.RatioSigns.{HasRatio-turned_first, HasRatio-turned_last, ratio-turned_first, ratio-turned_last}
use Rattle.geo_points.specs.declared.ids.PointId.{PointId}
use Rattle.ring_laws.specs.Fraction.{Fraction, IsNonzero, Same, times, negated}
use Rattle.geo_points.specs.Placements.{Placement}
use Rattle.geo_points.specs.Points.{Point as Triple, HasRatio, ratio as point_ratio}
use Rattle.geo_points.specs.Steps.{IsCrossing}
use Rattle.geo_poly.specs.declared.variables.Var.{Var}
use Rattle.geo_poly.specs.declared.variables.Var.TheVariants.{R, S, P, X as Abscissa, Y as Ordinate, T}
use Rattle.geo_poly.specs.Canonical.{is_point}
use Rattle.geo_terms.specs.declared.steps.Step.{Step}
use Rattle.geo_terms.specs.declared.steps.Step.TheVariants.{Point, Inter, Foot, Pratio, Tratio, Weights}
use Rattle.geo_terms.specs.Constructions.{Construction, IsStepMet}
use Rattle.geo_terms.specs.Stores.{Store, tree_of}
use Rattle.geo_terms.specs.Values.{tree_value}

-- THE SIGN
-- a fraction with the sign that two turned pairs give it
abbrev signed : Bool → Bool → Fraction → Fraction
signed true false a = negated a
signed false true a = negated a
signed _ _ a = a

signed-form : (placed : Placement) (s t : Bool) (f : Form) → Same (form_value placed (with_sign s t f)) (signed s t (form_value placed f))
signed-form placed true true f = self
signed-form placed true false f = self
signed-form placed false true f = self
signed-form placed false false f = self

signed-defined : (placed : Placement) (s t : Bool) (f : Form) → RatiosDefined placed f → RatiosDefined placed (with_sign s t f)
signed-defined placed true true f h = h
signed-defined placed true false f h = h
signed-defined placed false true f h = h
signed-defined placed false false f h = h

signed-times : (s t : Bool) (a d n : Fraction) → Same (times a d) n → Same (times (signed s t a) d) (signed s t n)
signed-times true true a d n h = h
signed-times true false a d n h = Laws.neg-mul fractions a d ∘ opposites h
signed-times false true a d n h = Laws.neg-mul fractions a d ∘ opposites h
signed-times false false a d n h = h

-- READING A RATIO
-- the ratio ij / kl is the ratio AY / CD with a sign, and the latter is defined
record Reads (at : ℕ → Triple) (i j k l A Y C D : PointId) (s t : Bool) : Type 0 where
  has : HasRatio (at A.0) (at Y.0) (at C.0) (at D.0)
  same : Same (point_ratio (at i.0) (at j.0) (at k.0) (at l.0)) (signed s t (point_ratio (at A.0) (at Y.0) (at C.0) (at D.0)))

module _ (at : ℕ → Triple) (i j k l : PointId) (h : HasRatio (at i.0) (at j.0) (at k.0) (at l.0)) where
  -- as it stands, with either pair turned, and with both
  plain : Reads at i j k l i j k l false false
  plain = record { has = h; same = self }

  turned_first : Reads at i j k l j i k l true false
  turned_first = record { has = HasRatio-turned_first (at i.0) (at j.0) (at k.0) (at l.0) h; same = ratio-turned_first (at i.0) (at j.0) (at k.0) (at l.0) h }

  turned_last : Reads at i j k l i j l k false true
  turned_last = record { has = HasRatio-turned_last (at i.0) (at j.0) (at k.0) (at l.0) h; same = ratio-turned_last (at i.0) (at j.0) (at k.0) (at l.0) h }

  turned_both : Reads at i j k l j i l k true true
  turned_both =
      let first = HasRatio-turned_first (at i.0) (at j.0) (at k.0) (at l.0) h in
      record {
        has = HasRatio-turned_last (at j.0) (at i.0) (at k.0) (at l.0) first;
        same =
            ratio-turned_first (at i.0) (at j.0) (at k.0) (at l.0) h
            ∘ opposites (ratio-turned_last (at j.0) (at i.0) (at k.0) (at l.0) first)
            ∘ Laws.neg-neg fractions _;
      }

  -- along equations of the points
  moved : (A B C D A' B' C' D' : PointId) (s t : Bool) → A.0 ≡ A'.0 → B.0 ≡ B'.0 → C.0 ≡ C'.0 → D.0 ≡ D'.0 → Reads at i j k l A B C D s t → Reads at i j k l A' B' C' D' s t
  moved A B C D A' B' C' D' s t a b c d r =
      subst (λ (n : ℕ). Reads at i j k l A' B' C' (record { 0 = n }) s t) d
      (subst (λ (n : ℕ). Reads at i j k l A' B' (record { 0 = n }) D s t) c
      (subst (λ (n : ℕ). Reads at i j k l A' (record { 0 = n }) C D s t) b
      (subst (λ (n : ℕ). Reads at i j k l (record { 0 = n }) B C D s t) a r)))

-- what the tests of a pair say
both_points : (p q : Bool) (a b c d : ℕ) → eqb a b ≡ p → eqb c d ≡ q → (p && q) ≡ true → (a ≡ b) × (c ≡ d)
both_points true true a b c d e f g = (eqb-true a b e, eqb-true c d f)
both_points true false a b c d e f g = absurd (cc)
both_points false q a b c d e f g = absurd (cc)

-- the pair i, j is A, Y, turned where s says so
record IsEnd (Y i j A : PointId) (s : Bool) : Type 0 where
  plain : s ≡ false → (i.0 ≡ A.0) × (j.0 ≡ Y.0)
  turned : s ≡ true → (j.0 ≡ A.0) × (i.0 ≡ Y.0)

-- the pair k, l is U, V, turned where t says so
record IsLine (U V k l : PointId) (t : Bool) : Type 0 where
  plain : t ≡ false → (k.0 ≡ U.0) × (l.0 ≡ V.0)
  turned : t ≡ true → (k.0 ≡ V.0) × (l.0 ≡ U.0)

end_is : (Y i j : PointId) → IfSome (end_at Y i j) (λ end. IsEnd Y i j end.0 end.1)
end_is Y i j = go (eqb j.0 Y.0) (eqb i.0 Y.0) refl refl
  where
    go : (p q : Bool) → eqb j.0 Y.0 ≡ p → eqb i.0 Y.0 ≡ q
        → IfSome (cond {A = Option (PointId × Bool)} p (Some (i, false)) (cond q (Some (j, true)) None)) (λ end. IsEnd Y i j end.0 end.1)
    go true q e f = record { plain = λ _. (refl, eqb-true j.0 Y.0 e); turned = λ n. absurd (cc) }
    go false true e f = record { plain = λ n. absurd (cc); turned = λ _. (refl, eqb-true i.0 Y.0 f) }
    go false false e f = tt

line_is : (U V k l : PointId) → IfSome (same_line U V k l) (λ t. IsLine U V k l t)
line_is U V k l = go (is_point k U && is_point l V) (is_point k V && is_point l U) refl refl
  where
    go : (p q : Bool) → (is_point k U && is_point l V) ≡ p → (is_point k V && is_point l U) ≡ q
        → IfSome (cond {A = Option Bool} p (Some false) (cond q (Some true) None)) (λ t. IsLine U V k l t)
    go true q e f = record { plain = λ _. both_points (eqb k.0 U.0) (eqb l.0 V.0) k.0 U.0 l.0 V.0 refl refl e; turned = λ n. absurd (cc) }
    go false true e f = record { plain = λ n. absurd (cc); turned = λ _. both_points (eqb k.0 V.0) (eqb l.0 U.0) k.0 V.0 l.0 U.0 refl refl f }
    go false false e f = tt

-- the ratio ij / kl as AY / UV
reads : (at : ℕ → Triple) (i j k l A Y U V : PointId) (s t : Bool) → HasRatio (at i.0) (at j.0) (at k.0) (at l.0) → IsEnd Y i j A s → IsLine U V k l t → Reads at i j k l A Y U V s t
reads at i j k l A Y U V false false h end line =
    let p = end.plain refl in let q = line.plain refl in moved at i j k l h i j k l A Y U V false false p.0 p.1 q.0 q.1 (plain at i j k l h)
reads at i j k l A Y U V true false h end line =
    let p = end.turned refl in let q = line.plain refl in moved at i j k l h j i k l A Y U V true false p.0 p.1 q.0 q.1 (turned_first at i j k l h)
reads at i j k l A Y U V false true h end line =
    let p = end.plain refl in let q = line.turned refl in moved at i j k l h i j l k A Y U V false true p.0 p.1 q.1 q.0 (turned_last at i j k l h)
reads at i j k l A Y U V true true h end line =
    let p = end.turned refl in let q = line.turned refl in moved at i j k l h j i l k A Y U V true true p.0 p.1 q.1 q.0 (turned_both at i j k l h)

-- an end D, Y is the line D, Y
end_line : (Y k l D : PointId) (t : Bool) → IsEnd Y k l D t → IsLine D Y k l t
end_line Y k l D t end = record { plain = end.plain; turned = λ e. let p = end.turned e in (p.1, p.0) }

-- SOUNDNESS
module _ (placed : Placement) (nodes : Store) (y i j k l : PointId) (has : HasRatio (placed.point i.0) (placed.point j.0) (placed.point k.0) (placed.point l.0)) where
  abbrev at : ℕ → Triple
  at = placed.point

  -- the row of a ratio that is read as AY / CD
  signed_row : (A C D : PointId) (s t : Bool) (num den : Form) (charge : ℕ) → Reads at i j k l A y C D s t → RatiosDefined placed num → has_no_ratio den ≡ true
      → IsNonzero (form_value placed den) → Same (times (point_ratio (at A.0) (at y.0) (at C.0) (at D.0)) (form_value placed den)) (form_value placed num)
      → Holds placed (R i j k l) (record { power = 1; num = with_sign s t num; den = den; charge = charge })
  signed_row A C D s t num den charge r defined plain_den nonzero same =
      holds_one placed (R i j k l) (with_sign s t num) den charge (signed-defined placed s t num defined) (no_ratios placed den plain_den) nonzero
      (products r.same self ∘ signed-times s t (point_ratio (at A.0) (at y.0) (at C.0) (at D.0)) (form_value placed den) (form_value placed num) same ∘ flip (signed-form placed s t num))

  crossing_holds : (U V P Q A : PointId) (s : Bool) → IsCrossing (at U.0) (at V.0) (at P.0) (at Q.0) (at y.0) → IsEnd y i j A s
      → IfSome (crossing_row U V P Q A s k l) (Holds placed (R i j k l))
  crossing_holds U V P' Q A s met end = go (same_line U V k l) (line_is U V k l)
    where
      go : (o : Option Bool) → IfSome o (λ t. IsLine U V k l t)
          → IfSome (option_map (λ other. plain_row (with_sign s other (area A P' Q)) (area U P' Q ⊟ area V P' Q)) o) (Holds placed (R i j k l))
      go None line = tt
      go (Some t) line =
          let r = reads at i j k l A y U V s t has end line in
          signed_row A U V s t (area A P' Q) (area U P' Q ⊟ area V P' Q) 0 r tt refl
          (crossing_nonzero (at U.0) (at V.0) (at P'.0) (at Q.0) (at y.0) met)
          (ratio-inter_first (at A.0) (at U.0) (at V.0) (at P'.0) (at Q.0) (at y.0) met r.has)

  either : (p q : Bool) → (p || q) ≡ true → (p ≡ true) ⊎ (q ≡ true)
  either true q e = inl refl
  either false q e = inr e

  shared_holds : (U V P Q A : PointId) (s : Bool) → IsCrossing (at U.0) (at V.0) (at P.0) (at Q.0) (at y.0) → IsEnd y i j A s
      → IfSome (shared_row y U V P Q A s k l) (Holds placed (R i j k l))
  shared_holds U V P' Q A s met end = go (end_at y k l) (end_is y k l)
    where
      side : (D : PointId) (t : Bool) → Reads at i j k l A y D y s t → IsNonzero (form_value placed (area D P' Q)) → Holds placed (R i j k l) (plain_row (with_sign s t (area A P' Q)) (area D P' Q))
      side D t r nonzero =
          signed_row A D y s t (area A P' Q) (area D P' Q) 0 r tt refl nonzero
          (ratio-inter_both (at A.0) (at D.0) (at P'.0) (at Q.0) (at y.0) met.on_second r.has)

      by_side : (D : PointId) (t : Bool) → Reads at i j k l A y D y s t → (b : Bool) → (is_point D U || is_point D V) ≡ b
          → IfSome (cond b (Some (plain_row (with_sign s t (area A P' Q)) (area D P' Q))) None) (Holds placed (R i j k l))
      by_side D t r false e = tt
      by_side D t r true e =
          elim (either (eqb D.0 U.0) (eqb D.0 V.0) e) [
            | inl is ↦ side D t r
                (subst (λ (n : ℕ). IsNonzero (form_value placed (area (record { 0 = n }) P' Q))) (sym (eqb-true D.0 U.0 is))
                (side_nonzero_first (at U.0) (at V.0) (at P'.0) (at Q.0) (at y.0) met
                (subst (λ (n : ℕ). HasRatio (at A.0) (at y.0) (at n) (at y.0)) (eqb-true D.0 U.0 is) r.has).apart))
            | inr is ↦ side D t r
                (subst (λ (n : ℕ). IsNonzero (form_value placed (area (record { 0 = n }) P' Q))) (sym (eqb-true D.0 V.0 is))
                (side_nonzero_second (at U.0) (at V.0) (at P'.0) (at Q.0) (at y.0) met
                (subst (λ (n : ℕ). HasRatio (at A.0) (at y.0) (at n) (at y.0)) (eqb-true D.0 V.0 is) r.has).apart))
          ]

      go : (o : Option (PointId × Bool)) → IfSome o (λ e. IsEnd y k l e.0 e.1)
          → IfSome (option_and_then (λ (e : PointId × Bool). cond (is_point e.0 U || is_point e.0 V)
          (Some (plain_row (with_sign s e.1 (area A P' Q)) (area e.0 P' Q))) None) o) (Holds placed (R i j k l))
      go None other = tt
      go (Some e) other = by_side e.0 e.1 (reads at i j k l A y e.0 y s e.1 has end (end_line y k l e.0 e.1 other)) (is_point e.0 U || is_point e.0 V) refl

  along_holds : (step : Step) → IsStepMet placed nodes y.0 step → (A : PointId) (s : Bool) → IsEnd y i j A s
      → IfSome (along_row nodes step A s k l) (Holds placed (R i j k l))
  along_holds Point met A s end = tt
  along_holds (Inter u v p q) met A s end = tt
  along_holds (Foot p u v) met A s end = tt
  along_holds (Tratio u v r) met A s end = tt
  along_holds (Weights o u v r t) met A s end = tt
  along_holds (Pratio w u v r) met A s end = go (same_line u v k l) (line_is u v k l)
    where
      go : (o : Option Bool) → IfSome o (λ t. IsLine u v k l t)
          → IfSome (option_map (λ other.
          record {
            power = 1;
            num = with_sign s other (denominator_at nodes r ⊠ ratio A w u v ⊞ numerator_at nodes r);
            den = denominator_at nodes r;
            charge = (numbers_of (tree_of nodes r)).charge;
          }) o) (Holds placed (R i j k l))
      go None line = tt
      go (Some t) line =
          let read = reads at i j k l A y u v s t has end line in
          let e = tree_of nodes r in
          let over = number_over placed nodes r met.0 in
          let row = ratio-pratio (at A.0) (at w.0) (at u.0) (at v.0) (at y.0) (tree_value placed e)
          (polynomial_value placed (multiplied_out e).0) (polynomial_value placed (multiplied_out e).1) met.1 over.same read.has in
          signed_row A u v s t (denominator_at nodes r ⊠ ratio A w u v ⊞ numerator_at nodes r) (denominator_at nodes r) (numbers_of e).charge read ((tt, row.0), tt) refl over.nonzero row.1

  foot_holds : (step : Step) → IsStepMet placed nodes y.0 step → (A : PointId) (s : Bool) → IsEnd y i j A s
      → IfSome (foot_row step A s k l) (Holds placed (R i j k l))
  foot_holds Point met A s end = tt
  foot_holds (Inter u v p q) met A s end = tt
  foot_holds (Pratio w u v r) met A s end = tt
  foot_holds (Tratio u v r) met A s end = tt
  foot_holds (Weights o u v r t) met A s end = tt
  foot_holds (Foot p u v) met A s end = go (same_line u v k l) (line_is u v k l)
    where
      go : (o : Option Bool) → IfSome o (λ t. IsLine u v k l t)
          → IfSome (option_map (λ other. plain_row (with_sign s other (pythagoras p u v ⊟ pythagoras A u v)) (pythagoras u v u)) o) (Holds placed (R i j k l))
      go None line = tt
      go (Some t) line =
          let read = reads at i j k l A y u v s t has end line in
          signed_row A u v s t (pythagoras p u v ⊟ pythagoras A u v) (pythagoras u v u) 0 read (tt, tt) refl
          (square_nonzero (at u.0) (at v.0) met.apart) (ratio-foot (at A.0) (at p.0) (at u.0) (at v.0) (at y.0) met read.has)

  first_holds : (step : Step) → IsStepMet placed nodes y.0 step → (row : PointId → PointId → PointId → PointId → Option TableRow)
      → ((U V P Q : PointId) → IsCrossing (at U.0) (at V.0) (at P.0) (at Q.0) (at y.0) → IfSome (row U V P Q) (Holds placed (R i j k l)))
      → IfSome (first_line step row) (Holds placed (R i j k l))
  first_holds Point met row h = tt
  first_holds (Inter u v p q) met row h = h u v p q met
  first_holds (Foot p u v) met row h = tt
  first_holds (Pratio w u v r) met row h = tt
  first_holds (Tratio u v r) met row h = tt
  first_holds (Weights o u v r t) met row h = tt

  second_holds : (step : Step) → IsStepMet placed nodes y.0 step → (row : PointId → PointId → PointId → PointId → Option TableRow)
      → ((U V P Q : PointId) → IsCrossing (at U.0) (at V.0) (at P.0) (at Q.0) (at y.0) → IfSome (row U V P Q) (Holds placed (R i j k l)))
      → IfSome (second_line step row) (Holds placed (R i j k l))
  second_holds Point met row h = tt
  second_holds (Inter u v p q) met row h = h p q u v (crossing_flip (at u.0) (at v.0) (at p.0) (at q.0) (at y.0) met)
  second_holds (Foot p u v) met row h = tt
  second_holds (Pratio w u v r) met row h = tt
  second_holds (Tratio u v r) met row h = tt
  second_holds (Weights o u v r t) met row h = tt

  lemma_holds : (lemma : ℕ) (step : Step) → IsStepMet placed nodes y.0 step → (A : PointId) (s : Bool) → IsEnd y i j A s
      → IfSome (lemma_row lemma nodes y step A s k l) (Holds placed (R i j k l))
  lemma_holds lemma step met A s end = go (eqb lemma 11) (eqb lemma 12) (eqb lemma 21) (eqb lemma 22) (eqb lemma 3) (eqb lemma 4)
    where
      crossing : PointId → PointId → PointId → PointId → Option TableRow
      crossing u v p q = crossing_row u v p q A s k l

      shared : PointId → PointId → PointId → PointId → Option TableRow
      shared u v p q = shared_row y u v p q A s k l

      go : (a b c d e f : Bool)
          → IfSome (cond {A = Option TableRow} a (first_line step (λ u v p q. crossing_row u v p q A s k l))
          (cond b (second_line step (λ u v p q. crossing_row u v p q A s k l))
          (cond c (first_line step (λ u v p q. shared_row y u v p q A s k l))
          (cond d (second_line step (λ u v p q. shared_row y u v p q A s k l))
          (cond e (along_row nodes step A s k l) (cond f (foot_row step A s k l) None)))))) (Holds placed (R i j k l))
      go true b c d e f = first_holds step met (λ u v p q. crossing_row u v p q A s k l) (λ U V P' Q is. crossing_holds U V P' Q A s is end)
      go false true c d e f = second_holds step met (λ u v p q. crossing_row u v p q A s k l) (λ U V P' Q is. crossing_holds U V P' Q A s is end)
      go false false true d e f = first_holds step met (λ u v p q. shared_row y u v p q A s k l) (λ U V P' Q is. shared_holds U V P' Q A s is end)
      go false false false true e f = second_holds step met (λ u v p q. shared_row y u v p q A s k l) (λ U V P' Q is. shared_holds U V P' Q A s is end)
      go false false false false true f = along_holds step met A s end
      go false false false false false true = foot_holds step met A s end
      go false false false false false false = tt

  pythagoras_holds : Holds placed (R i j k l) (pythagoras_row i j k l)
  pythagoras_holds =
      holds_one placed (R i j k l) (pythagoras j k l ⊟ pythagoras i k l) (pythagoras k l k) 0 (tt, tt) tt (square_nonzero (at k.0) (at l.0) has.apart)
      (ratio-zero (at i.0) (at j.0) (at k.0) (at l.0) has)

ratio_row-holds : (lemma : ℕ) (c : Construction) (y i j k l : PointId) (placed : Placement) → IsPointMet placed c y
    → HasRatio (placed.point i.0) (placed.point j.0) (placed.point k.0) (placed.point l.0) → IfSome (ratio_table lemma c y (R i j k l)) (Holds placed (R i j k l))
ratio_row-holds lemma c y i j k l placed met has = go (eqb lemma 0) (slice_get c.steps y.0) met
  where
    read : (step : Step) → IsStepMet placed c.nodes y.0 step → (o : Option (PointId × Bool)) → IfSome o (λ e. IsEnd y i j e.0 e.1)
        → IfSome (option_and_then (λ (e : PointId × Bool). lemma_row lemma c.nodes y step e.0 e.1 k l) o) (Holds placed (R i j k l))
    read step met None end = tt
    read step met (Some e) end = lemma_holds placed c.nodes y i j k l has lemma step met e.0 e.1 end

    go : (b : Bool) (o : Option Step) → ((step : Step) → o ≡ Some step → IsStepMet placed c.nodes y.0 step)
        → IfSome (cond {A = Option TableRow} b (Some (pythagoras_row i j k l))
        (option_and_then (λ step. option_and_then (λ end. lemma_row lemma c.nodes y step end.0 end.1 k l) (end_at y i j)) o))
        (Holds placed (R i j k l))
    go true o met = pythagoras_holds placed c.nodes y i j k l has
    go false None met = tt
    go false (Some step) met = read step (met step refl) (end_at y i j) (end_is y i j)

pub ratio_rows_hold : (lemma : ℕ) → IsSound (ratio_table lemma)
ratio_rows_hold lemma c y (R i j k l) r is placed met has = of_some (ratio_table lemma c y (R i j k l)) r (Holds placed (R i j k l)) is (ratio_row-holds lemma c y i j k l placed met has)
ratio_rows_hold lemma c y (S i j k) r is placed met has = absurd (cc)
ratio_rows_hold lemma c y (P i j k) r is placed met has = absurd (cc)
ratio_rows_hold lemma c y (Abscissa i) r is placed met has = absurd (cc)
ratio_rows_hold lemma c y (Ordinate i) r is placed met has = absurd (cc)
ratio_rows_hold lemma c y (T t) r is placed met has = absurd (cc)

-- the lemma 0 looks at no step
pub pythagoras_rows_hold : IsSoundAnywhere (ratio_table 0)
pythagoras_rows_hold c y (R i j k l) r is placed has = of_some (ratio_table 0 c y (R i j k l)) r (Holds placed (R i j k l)) is (pythagoras_holds placed c.nodes y i j k l has)
pythagoras_rows_hold c y (S i j k) r is placed has = absurd (cc)
pythagoras_rows_hold c y (P i j k) r is placed has = absurd (cc)
pythagoras_rows_hold c y (Abscissa i) r is placed has = absurd (cc)
pythagoras_rows_hold c y (Ordinate i) r is placed has = absurd (cc)
pythagoras_rows_hold c y (T t) r is placed has = absurd (cc)

-- by any lemma, where the step of the point is met if the lemma looks at it
pub rows_hold_looking : (lemma : ℕ) (c : Construction) (y : PointId) (v : Var) (r : TableRow) → ratio_table lemma c y v ≡ Some r
    → (placed : Placement) → (IsTrue (not (eqb lemma 0)) → IsPointMet placed c y) → HasVariable placed v → Holds placed v r
rows_hold_looking lemma c y v r is placed met has = go (eqb lemma 0) refl
  where
    go : (b : Bool) → eqb lemma 0 ≡ b → Holds placed v r
    go true e = pythagoras_rows_hold c y v r (subst (λ (n : ℕ). ratio_table n c y v ≡ Some r) (eqb-true lemma 0 e) is) placed has
    go false e = ratio_rows_hold lemma c y v r is placed (met (ap not e)) has

-- DENOMINATORS
-- the sign changes no number
pub with_sign-weight : (s t : Bool) (f : Form) → (piece_of (with_sign s t f)).weight ≡ (piece_of f).weight
with_sign-weight true true f = refl
with_sign-weight true false f = refl
with_sign-weight false true f = refl
with_sign-weight false false f = refl

pub with_sign-degree : (s t : Bool) (f : Form) → (piece_of (with_sign s t f)).degree ≡ (piece_of f).degree
with_sign-degree true true f = refl
with_sign-degree true false f = refl
with_sign-degree false true f = refl
with_sign-degree false false f = refl

light_row : (s t : Bool) (num den : Form) (charge : ℕ) → (piece_of den).weight ≤ max (piece_of num).weight 2 → (piece_of den).degree ≤ max (piece_of num).degree 1
    → AreLight (row_numbers (record { power = 1; num = with_sign s t num; den = den; charge = charge }))
light_row s t num den charge weight degree = record {
  power = omega arith;
  weight = omega (arith, weight, with_sign-weight s t num);
  degree = omega (arith, degree, with_sign-degree s t num);
}

crossing_light : (u v p q a : PointId) (s : Bool) (k l : PointId) → IfSome (crossing_row u v p q a s k l) (λ r. AreLight (row_numbers r))
crossing_light u v p q a s k l = go (same_line u v k l)
  where
    go : (o : Option Bool) → IfSome (option_map (λ other. plain_row (with_sign s other (area a p q)) (area u p q ⊟ area v p q)) o) (λ r. AreLight (row_numbers r))
    go None = tt
    go (Some t) = light_row s t (area a p q) (area u p q ⊟ area v p q) 0 (omega arith) (omega arith)

shared_light : (y u v p q a : PointId) (s : Bool) (k l : PointId) → IfSome (shared_row y u v p q a s k l) (λ r. AreLight (row_numbers r))
shared_light y u v p q a s k l = go (end_at y k l)
  where
    test : (e : PointId × Bool) (b : Bool) → IfSome (cond {A = Option TableRow} b (Some (plain_row (with_sign s e.1 (area a p q)) (area e.0 p q))) None) (λ r. AreLight (row_numbers r))
    test e true = light_row s e.1 (area a p q) (area e.0 p q) 0 (omega arith) (omega arith)
    test e false = tt

    go : (o : Option (PointId × Bool))
        → IfSome (option_and_then (λ (e : PointId × Bool). cond (is_point e.0 u || is_point e.0 v)
        (Some (plain_row (with_sign s e.1 (area a p q)) (area e.0 p q))) None) o) (λ r. AreLight (row_numbers r))
    go None = tt
    go (Some e) = test e (is_point e.0 u || is_point e.0 v)

along_light : (nodes : Store) (step : Step) (a : PointId) (s : Bool) (k l : PointId) → IfSome (along_row nodes step a s k l) (λ r. AreLight (row_numbers r))
along_light nodes Point a s k l = tt
along_light nodes (Inter u v p q) a s k l = tt
along_light nodes (Foot p u v) a s k l = tt
along_light nodes (Tratio u v r) a s k l = tt
along_light nodes (Weights o u v r t) a s k l = tt
along_light nodes (Pratio w u v r) a s k l = go (same_line u v k l)
  where
    go : (o : Option Bool)
        → IfSome (option_map (λ other.
        record {
          power = 1;
          num = with_sign s other (denominator_at nodes r ⊠ ratio a w u v ⊞ numerator_at nodes r);
          den = denominator_at nodes r;
          charge = (numbers_of (tree_of nodes r)).charge;
        }) o) (λ r. AreLight (row_numbers r))
    go None = tt
    go (Some t) = light_row s t (denominator_at nodes r ⊠ ratio a w u v ⊞ numerator_at nodes r) (denominator_at nodes r) (numbers_of (tree_of nodes r)).charge (omega arith) (omega arith)

foot_light : (step : Step) (a : PointId) (s : Bool) (k l : PointId) → IfSome (foot_row step a s k l) (λ r. AreLight (row_numbers r))
foot_light Point a s k l = tt
foot_light (Inter u v p q) a s k l = tt
foot_light (Pratio w u v r) a s k l = tt
foot_light (Tratio u v r) a s k l = tt
foot_light (Weights o u v r t) a s k l = tt
foot_light (Foot p u v) a s k l = go (same_line u v k l)
  where
    go : (o : Option Bool) → IfSome (option_map (λ other. plain_row (with_sign s other (pythagoras p u v ⊟ pythagoras a u v)) (pythagoras u v u)) o) (λ r. AreLight (row_numbers r))
    go None = tt
    go (Some t) = light_row s t (pythagoras p u v ⊟ pythagoras a u v) (pythagoras u v u) 0 (omega arith) (omega arith)

first_light : (step : Step) (row : PointId → PointId → PointId → PointId → Option TableRow) → ((u v p q : PointId) → IfSome (row u v p q) (λ r. AreLight (row_numbers r)))
    → IfSome (first_line step row) (λ r. AreLight (row_numbers r))
first_light Point row h = tt
first_light (Inter u v p q) row h = h u v p q
first_light (Foot p u v) row h = tt
first_light (Pratio w u v r) row h = tt
first_light (Tratio u v r) row h = tt
first_light (Weights o u v r t) row h = tt

second_light : (step : Step) (row : PointId → PointId → PointId → PointId → Option TableRow) → ((u v p q : PointId) → IfSome (row u v p q) (λ r. AreLight (row_numbers r)))
    → IfSome (second_line step row) (λ r. AreLight (row_numbers r))
second_light Point row h = tt
second_light (Inter u v p q) row h = h p q u v
second_light (Foot p u v) row h = tt
second_light (Pratio w u v r) row h = tt
second_light (Tratio u v r) row h = tt
second_light (Weights o u v r t) row h = tt

lemma_light : (lemma : ℕ) (nodes : Store) (y : PointId) (step : Step) (a : PointId) (s : Bool) (k l : PointId) → IfSome (lemma_row lemma nodes y step a s k l) (λ r. AreLight (row_numbers r))
lemma_light lemma nodes y step A s k l = go (eqb lemma 11) (eqb lemma 12) (eqb lemma 21) (eqb lemma 22) (eqb lemma 3) (eqb lemma 4)
  where
    go : (a b c d e f : Bool)
        → IfSome (cond {A = Option TableRow} a (first_line step (λ u v p q. crossing_row u v p q A s k l))
        (cond b (second_line step (λ u v p q. crossing_row u v p q A s k l))
        (cond c (first_line step (λ u v p q. shared_row y u v p q A s k l))
        (cond d (second_line step (λ u v p q. shared_row y u v p q A s k l))
        (cond e (along_row nodes step A s k l) (cond f (foot_row step A s k l) None)))))) (λ r. AreLight (row_numbers r))
    go true b c d e f = first_light step (λ u v p q. crossing_row u v p q A s k l) (λ u v p q. crossing_light u v p q A s k l)
    go false true c d e f = second_light step (λ u v p q. crossing_row u v p q A s k l) (λ u v p q. crossing_light u v p q A s k l)
    go false false true d e f = first_light step (λ u v p q. shared_row y u v p q A s k l) (λ u v p q. shared_light y u v p q A s k l)
    go false false false true e f = second_light step (λ u v p q. shared_row y u v p q A s k l) (λ u v p q. shared_light y u v p q A s k l)
    go false false false false true f = along_light nodes step A s k l
    go false false false false false true = foot_light step A s k l
    go false false false false false false = tt

ratio_row-light : (lemma : ℕ) (c : Construction) (y i j k l : PointId) → IfSome (ratio_table lemma c y (R i j k l)) (λ r. AreLight (row_numbers r))
ratio_row-light lemma c y i j k l = go (eqb lemma 0) (slice_get c.steps y.0)
  where
    read : (step : Step) (o : Option (PointId × Bool)) → IfSome (option_and_then (λ (e : PointId × Bool). lemma_row lemma c.nodes y step e.0 e.1 k l) o) (λ r. AreLight (row_numbers r))
    read step None = tt
    read step (Some e) = lemma_light lemma c.nodes y step e.0 e.1 k l

    go : (b : Bool) (o : Option Step)
        → IfSome (cond {A = Option TableRow} b (Some (pythagoras_row i j k l))
        (option_and_then (λ step. option_and_then (λ end. lemma_row lemma c.nodes y step end.0 end.1 k l) (end_at y i j)) o))
        (λ r. AreLight (row_numbers r))
    go true o = record { power = omega arith; weight = omega arith; degree = omega arith }
    go false None = tt
    go false (Some step) = read step (end_at y i j)

pub ratio_rows_light : (lemma : ℕ) → IsLight (ratio_table lemma)
ratio_rows_light lemma c y (R i j k l) r is = of_some (ratio_table lemma c y (R i j k l)) r (λ r. AreLight (row_numbers r)) is (ratio_row-light lemma c y i j k l)
ratio_rows_light lemma c y (S i j k) r is = absurd (cc)
ratio_rows_light lemma c y (P i j k) r is = absurd (cc)
ratio_rows_light lemma c y (Abscissa i) r is = absurd (cc)
ratio_rows_light lemma c y (Ordinate i) r is = absurd (cc)
ratio_rows_light lemma c y (T t) r is = absurd (cc)
