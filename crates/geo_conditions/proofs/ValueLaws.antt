-- Values fix the placement that has them, and statements are of points.
use Rattle.std.proofs.Common.{◌≡◌, ℕ, suc, Bool, true, false, ◌<◌, List, [], ◌∷◌, length, refl, sym, ◌∙◌, ap, arith}
use Rattle.std.specs.Prelude.{slice_index_or}
use Rattle.std.proofs.lemmas.List.Elements.{recursion_from_All}
use Rattle.geo_points.specs.Placements.{Placement, SamePoint}
use Rattle.geo_points.proofs.Exchange.{HasRatio-same, ratio-same}
use Rattle.geo_points.proofs.Expressions.{Quantity, abscissa, ordinate, whole_number, ◌+'◌, ◌-'◌, ◌*'◌}
use Rattle.ring_laws.proofs.Fractions.{fractions}
use Rattle.geo_terms.specs.Stores.{tree_of}
use Rattle.geo_program.specs.declared.statements.Statement.{Statement}
use Rattle.geo_program.specs.declared.statements.Statement.TheVariants.{Equal, Collinear, Parallel, Perpendicular, Identical, Midpoint, SameLength, Harmonic, Concyclic}
use Rattle.geo_program.specs.declared.commands.Command.{Command}
use Rattle.geo_program.specs.declared.names.NameKind.TheVariants as kind
use Rattle.geo_program.specs.WellFormed.{Source}
use Rattle.geo_lowering.specs.declared.version.Version.TheVariants.{Two}
use Rattle.geo_lowering.specs.Building.{AreFreesSame}
use Rattle.geo_lowering.specs.CommandsMet.{reading}
use Rattle.geo_lowering.specs.Conditions.{IsConditionMet}
use Rattle.geo_lowering.specs.Counting.{named, counted, points_from}
use Rattle.geo_lowering.specs.Lowering.{layout_of}
use Rattle.geo_lowering.proofs.Bounds.{no_bounds}
use Rattle.geo_points.proofs.Coordinates.{dot'}
use Rattle.geo_lowering.proofs.Exists.{params_past}
use Rattle.geo_lowering.proofs.Fixed.{fixed, bounds_all}
use Rattle.geo_lowering.proofs.Laying.{named_program, laid_program}
use Rattle.geo_points.proofs.Same.{flip_point, point_trans, cross_product-same, dot_product-same, geo-moved}
use Rattle.geo_lowering.proofs.Values.{AgreeBelow, value-same, over_expression}
use Rattle.geo_conditions.specs.Laws.{ValuesFixPlacements, OneFailureBreaks}
use Rattle.geo_conditions.specs.Lists.{Found, all_found}
use Rattle.geo_conditions.specs.Statements.{StatementHolds}
use Rattle.geo_conditions.specs.Truth.{Meets, free_points, is_free}
use Rattle.geo_conditions.proofs.Agreement.{IsStatementOver}
use Rattle.geo_conditions.proofs.ConditionScopes.{program_statement_over}
use Rattle.geo_conditions.proofs.Extensions.{met_program}

-- placements are the same at the points of these numbers
abbrev AreSameAt : Placement → Placement → List ℕ → Type 0
AreSameAt one other xs = (k : ℕ) → k < length xs → SamePoint (one.point (slice_index_or xs k 0)) (other.point (slice_index_or xs k 0))

pub frees_same : (one other : Placement) (cs : List Command) (x : ℕ) → AreSameAt one other (free_points x cs) → AreFreesSame one other x cs
frees_same one other [] x h = tt
frees_same one other (c ∷ cs) x h = next (is_free c) refl h (frees_same one other cs (counted kind.Point (named c) x))
  where
    next : (b : Bool) → is_free c ≡ b
        → AreSameAt one other (elim b [ true ↦ x ∷ free_points (counted kind.Point (named c) x) cs | false ↦ free_points (counted kind.Point (named c) x) cs ])
        → (AreSameAt one other (free_points (counted kind.Point (named c) x) cs) → AreFreesSame one other (counted kind.Point (named c) x) cs) → AreFreesSame one other x (c ∷ cs)
    next true e h later = (λ i. h 0 (omega arith), later (λ k l. h (suc k) (omega arith)))
    next false e h later = (λ i. let q : false ≡ true = sym e ∙ ap is_free i in cc, later h)

pub values_fix_placements : ValuesFixPlacements
values_fix_placements p v one other w h m k n =
    let met : (q : Placement) → Meets p q → _ = λ q i. met_program p q (recursion_from_All (λ (f : Found). IsConditionMet p q f.condition) (all_found p) i.conditions) in
    let points = h.points in let numbers = h.numbers in
    fixed p one other w m.commands (met one m) n.commands (met other n)
    (frees_same one other p.commands 0 (λ i b. point_trans _ _ _ (h.same_points i (omega arith)) (flip_point _ _ (k.same_points i (omega arith)))))
    (λ i b. fractions.same_trans _ _ _ (h.same_numbers i (omega arith)) (fractions.same_sym _ _ (k.same_numbers i (let q = k.numbers in omega arith))))

-- STATEMENTS
norm' : ℕ → Quantity
norm' i = abscissa i *' abscissa i +' ordinate i *' ordinate i

minor' : ℕ → ℕ → ℕ → Quantity
minor' i j k = ((abscissa i *' ordinate j -' abscissa j *' ordinate i) +' (abscissa j *' ordinate k -' abscissa k *' ordinate j)) +' (abscissa k *' ordinate i -' abscissa i *' ordinate k)

module _ (p : Source) (V W : Placement) (x y : ℕ) (g : AgreeBelow x y (reading p V) (reading p W)) where
  statement_moved : (s : Statement) → IsStatementOver p.nodes x y s → StatementHolds p V s → StatementHolds p W s
  unfolding norm' minor'
  statement_moved (Equal e f) o h =
      let E = tree_of p.nodes e in let G = tree_of p.nodes f in
      let k = value-same x y (reading p V) (reading p W) g E (over_expression x y true E o.0) h.left in
      let m = value-same x y (reading p V) (reading p W) g G (over_expression x y true G o.1) h.right in
      record { left = k.0; right = m.0; same = fractions.same_trans _ _ _ (fractions.same_sym _ _ k.1) (fractions.same_trans _ _ _ h.same m.1) }
  statement_moved (Collinear a b c) o h =
      let A = g.points a.0 o.0 in cross_product-same _ _ _ _ _ _ _ _ A (g.points b.0 o.1) A (g.points c.0 o.2) h
  statement_moved (Parallel a b c d) o h = cross_product-same _ _ _ _ _ _ _ _ (g.points a.0 o.0) (g.points b.0 o.1) (g.points c.0 o.2) (g.points d.0 o.3) h
  statement_moved (Perpendicular a b c d) o h = dot_product-same _ _ _ _ _ _ _ _ (g.points a.0 o.0) (g.points b.0 o.1) (g.points c.0 o.2) (g.points d.0 o.3) h
  statement_moved (Identical a b) o h = point_trans _ _ _ (flip_point _ _ (g.points a.0 o.0)) (point_trans _ _ _ h (g.points b.0 o.1))
  statement_moved (Midpoint m a b) o h =
      let moved = geo-moved (V.point m.0 ∷ V.point a.0 ∷ V.point b.0 ∷ []) (W.point m.0 ∷ W.point a.0 ∷ W.point b.0 ∷ []) [] []
      (g.points m.0 o.0, (g.points a.0 o.1, (g.points b.0 o.2, tt))) tt in
      record { by_x = moved (whole_number 2 *' abscissa 0) (abscissa 1 +' abscissa 2) h.by_x; by_y = moved (whole_number 2 *' ordinate 0) (ordinate 1 +' ordinate 2) h.by_y }
  statement_moved (SameLength a b c d) o h =
      geo-moved (V.point a.0 ∷ V.point b.0 ∷ V.point c.0 ∷ V.point d.0 ∷ []) (W.point a.0 ∷ W.point b.0 ∷ W.point c.0 ∷ W.point d.0 ∷ []) [] []
      (g.points a.0 o.0, (g.points b.0 o.1, (g.points c.0 o.2, (g.points d.0 o.3, tt)))) tt (dot' 0 1 0 1) (dot' 2 3 2 3) h
  statement_moved (Harmonic a b c d) o h =
      let A = g.points a.0 o.0 in let B = g.points b.0 o.1 in let C = g.points c.0 o.2 in let D = g.points d.0 o.3 in
      let s = ratio-same _ _ _ _ _ _ _ _ A C C B h.first in let t = ratio-same _ _ _ _ _ _ _ _ A D B D h.second in
      record {
        first = HasRatio-same _ _ _ _ _ _ _ _ A C C B h.first;
        second = HasRatio-same _ _ _ _ _ _ _ _ A D B D h.second;
        equal = fractions.same_trans _ _ _ (fractions.same_sym _ _ s) (fractions.same_trans _ _ _ h.equal t);
      }
  statement_moved (Concyclic a b c d) o h =
      geo-moved (V.point a.0 ∷ V.point b.0 ∷ V.point c.0 ∷ V.point d.0 ∷ []) (W.point a.0 ∷ W.point b.0 ∷ W.point c.0 ∷ W.point d.0 ∷ []) [] []
      (g.points a.0 o.0, (g.points b.0 o.1, (g.points c.0 o.2, (g.points d.0 o.3, tt)))) tt
      (((norm' 0 *' minor' 1 2 3 -' norm' 1 *' minor' 0 2 3) +' norm' 2 *' minor' 0 1 3) -' norm' 3 *' minor' 0 1 2) (whole_number 0) h

pub one_failure_breaks : OneFailureBreaks
one_failure_breaks p v placed w h m n = record {
  placed = placed;
  has = h;
  meets = m;
  unique = λ one other a b c d. values_fix_placements p v one other w a b c d;
  fails = λ other a b holds.
      let same = values_fix_placements p v other placed w a b h m in
      let B = bounds_all Two p p.commands 0 0 0 0 0 (no_bounds (layout_of Two p.commands)) (named_program p w) (laid_program Two p.commands) in
      n (statement_moved p other placed (points_from 0 p.commands) (params_past 0 p.commands)
      (record { points = same.same_points; numbers = λ t l. same.same_numbers ((layout_of Two p.commands).param t) (B.params t l) }) p.statement (program_statement_over p w) holds);
}
