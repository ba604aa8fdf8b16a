-- The goals of commands: what they name, and where they have values.
use Rattle.std.proofs.Common.{◌≡◌, ℕ, suc, ◌<◌, ◌≤◌, Bool, true, false, Option, Some, List, [], ◌∷◌, subst, arith}
use Rattle.std.specs.List.{AllByRecursion}
use Rattle.geo_points.specs.Placements.{Placement}
use Rattle.geo_points.specs.declared.ids.PointId.{PointId}
use Rattle.geo_terms.specs.Stores.{Store, tree_of}
use Rattle.geo_terms.specs.Trees.{Tree}
use Rattle.geo_terms.specs.Values.{HasTreeValue}
use Rattle.geo_program.specs.declared.commands.Command.{Command}
use Rattle.geo_program.specs.declared.commands.Command.TheVariants.{Point, Param, Line, Parallel, Perp, Med, Intersec, Inter, Foot, Pratio}
use Rattle.geo_program.specs.declared.commands.Command.TheVariants.{Tratio, Online, Lratio, Midpoint, Translate, Symmetric, Reflect}
use Rattle.geo_program.specs.declared.commands.Command.TheVariants.{Circumcenter, Orthocenter, Centroid, Oncircle, Second, Cc, Inverse}
use Rattle.geo_program.specs.declared.commands.Command.TheVariants.{Weights, AssumeDifferent, AssumeNotCollinear, AssumeNotParallel}
use Rattle.geo_program.specs.declared.names.NameKind.TheVariants as kind
use Rattle.geo_program.specs.Expressions.{IsExpression}
use Rattle.geo_lowering.specs.Counting.{counted, named}
use Rattle.geo_lowering.proofs.Exists.{lines_past}
use Rattle.geo_lowering.proofs.Laying.{IsNamed}
use Rattle.geo_lowering.proofs.Values.{IsOver, over_expression}
use Rattle.geo_program.proofs.ScopeLemmas.{IsExpression-wider}
use Rattle.geo_library.specs.CitedGoals.{command_goals, has_lines}

-- a command without lines declares none
line_kept : (j : ℕ) (c : Command) → has_lines c ≡ false → counted kind.Line (named c) j ≡ j
line_kept j (Line a b) e = let f : true ≡ false = e in cc
line_kept j (Parallel p b) e = let f : true ≡ false = e in cc
line_kept j (Perp p b) e = let f : true ≡ false = e in cc
line_kept j (Med a b) e = let f : true ≡ false = e in cc
line_kept j c e = λ i. j

pub lines_kept : (j : ℕ) (cs : List Command) → AllByRecursion (λ c. has_lines c ≡ false) cs → lines_past j cs ≡ j
lines_kept j [] h = λ i. j
lines_kept j (c ∷ cs) h =
    let k : counted kind.Line (named c) j ≡ j = line_kept j c h.0 in
    let r : lines_past (counted kind.Line (named c) j) cs ≡ counted kind.Line (named c) j = lines_kept (counted kind.Line (named c) j) cs h.1 in omega arith

-- the numbers of a command, if it has some
abbrev pub OnNumber : (Tree → Type 0) → Store → Command → Type 0
OnNumber P nodes (Pratio w u v r) = P (tree_of nodes r)
OnNumber P nodes (Tratio u v r) = P (tree_of nodes r)
OnNumber P nodes (Lratio a b r) = P (tree_of nodes r)
OnNumber P nodes (Weights a b c r s) = P (tree_of nodes r) × P (tree_of nodes s)
OnNumber P nodes _ = Unit {0}

-- are expressions
pub number_expression : (nodes : Store) (x y j : ℕ) (c : Command) → IsNamed nodes x y j c → OnNumber (IsExpression x y false) nodes c
number_expression nodes x y j (Pratio w u v r) k = k.1.1.1.0.0
number_expression nodes x y j (Tratio u v r) k = k.1.1.0.0
number_expression nodes x y j (Lratio a b r) k = k.1.1.0.0
number_expression nodes x y j (Weights a b c r s) k = (k.1.1.1.0.0, k.1.1.1.1.0.0)
number_expression nodes x y j c k = tt

-- where they have values, so have the goals
pub goals_valued : (nodes : Store) (R : Placement) (x : PointId) (c : Command) → OnNumber (HasTreeValue R) nodes c → AllByRecursion (HasTreeValue R) (command_goals nodes x c)
goals_valued nodes R x Point h = tt
goals_valued nodes R x Param h = tt
goals_valued nodes R x (Line a b) h = tt
goals_valued nodes R x (Parallel p b) h = tt
goals_valued nodes R x (Perp p b) h = tt
goals_valued nodes R x (Med a b) h = tt
goals_valued nodes R x (Intersec a b) h = tt
goals_valued nodes R x (Inter a b c d) h = (tt, (tt, tt))
goals_valued nodes R x (Foot p a b) h = (tt, ((tt, tt), tt))
goals_valued nodes R x (Pratio w u v r) h = (((tt, ((h, h), tt)), ((tt, h), (tt, tt))), tt)
goals_valued nodes R x (Tratio u v r) h = (((tt, ((h, h), tt)), ((tt, h), tt)), tt)
goals_valued nodes R x (Online a b) h = (tt, tt)
goals_valued nodes R x (Lratio a b r) h = (((tt, ((h, h), tt)), ((tt, h), (tt, tt))), tt)
goals_valued nodes R x (Midpoint a b) h = ((((tt, tt), (tt, tt)), tt), tt)
goals_valued nodes R x (Translate a b c) h = (((tt, ((tt, tt), tt)), ((tt, tt), (tt, tt))), tt)
goals_valued nodes R x (Symmetric a o) h = ((((tt, tt), (tt, tt)), tt), tt)
goals_valued nodes R x (Reflect a p q) h = ((tt, tt), ((tt, tt), tt))
goals_valued nodes R x (Circumcenter a b c) h = ((tt, tt), ((tt, tt), tt))
goals_valued nodes R x (Orthocenter a b c) h = ((tt, tt), ((tt, tt), tt))
goals_valued nodes R x (Centroid a b c) h = ((((tt, tt), tt), (tt, ((tt, tt), tt))), tt)
goals_valued nodes R x (Oncircle o a) h = ((tt, tt), tt)
goals_valued nodes R x (Second a b o) h = (tt, ((tt, tt), tt))
goals_valued nodes R x (Cc o p a) h = ((tt, tt), ((tt, tt), tt))
goals_valued nodes R x (Inverse p o a) h = (tt, ((tt, tt), tt))
goals_valued nodes R x (Weights a b c r s) h =
    (((((((tt, ((h.0, h.0), tt)), ((h.1, h.1), tt)), ((tt, h.0), tt)), ((tt, h.1), tt)), (((tt, h.0), h.1), tt))), tt)
goals_valued nodes R x (AssumeDifferent a b) h = tt
goals_valued nodes R x (AssumeNotCollinear a b c) h = tt
goals_valued nodes R x (AssumeNotParallel a b c d) h = tt

-- goals name the command's point, and what stands before it
module _ (nodes : Store) (x y j X Y : ℕ) (xs : x < X) (ys : y ≤ Y) where
  up : (a : PointId) → a.0 < x → a.0 < X
  up a h = omega (arith, h, xs)

  number_over : (e : Tree) → IsExpression x y false e → IsOver X Y e
  number_over e h = over_expression X Y false e (IsExpression-wider x y X Y false e (omega (arith, xs)) ys h)

  here_goals : (c : Command) → IsNamed nodes x y j c → AllByRecursion (IsOver X Y) (command_goals nodes (record { 0 = x }) c)
  here_goals Point k = tt
  here_goals Param k = tt
  here_goals (Line a b) k = tt
  here_goals (Parallel p b) k = tt
  here_goals (Perp p b) k = tt
  here_goals (Med a b) k = tt
  here_goals (Intersec a b) k = tt
  here_goals (Inter a b c d) k = let a' = up a k.0 in let b' = up b k.1.0 in let c' = up c k.1.1.0 in let d' = up d k.1.1.1.0 in ((a', b', xs), ((c', d', xs), tt))
  here_goals (Foot p a b) k = let p' = up p k.0 in let a' = up a k.1.0 in let b' = up b k.1.1.0 in ((a', b', xs), (((xs, a', b'), (p', a', b')), tt))
  here_goals (Pratio w u v r) k =
      let w' = up w k.0 in let u' = up u k.1.0 in let v' = up v k.1.1.0 in let e = number_over (tree_of nodes r) k.1.1.1.0.0 in
      ((((xs, w', xs), ((e, e), (u', v', u'))), ((tt, e), ((xs, u', v'), (w', u', v')))), tt)
  here_goals (Tratio u v r) k =
      let u' = up u k.0 in let v' = up v k.1.0 in let e = number_over (tree_of nodes r) k.1.1.0.0 in
      ((((xs, u', xs), ((e, e), (u', v', u'))), ((tt, e), (u', v', xs))), tt)
  here_goals (Online a b) k = ((up a k.0, up b k.1.0, xs), tt)
  here_goals (Lratio a b r) k =
      let a' = up a k.0 in let b' = up b k.1.0 in let e = number_over (tree_of nodes r) k.1.1.0.0 in
      ((((xs, a', xs), ((e, e), (a', b', a'))), ((tt, e), ((xs, a', b'), (a', a', b')))), tt)
  here_goals (Midpoint a b) k = let a' = up a k.0 in let b' = up b k.1.0 in ((((tt, (a', xs, a')), (tt, (b', xs, b'))), (a', b', a')), tt)
  here_goals (Translate a b c) k =
      let a' = up a k.0 in let b' = up b k.1.0 in let c' = up c k.1.1.0 in
      ((((xs, c', xs), ((tt, tt), (a', b', a'))), ((tt, tt), ((xs, a', b'), (c', a', b')))), tt)
  here_goals (Symmetric a o) k = let a' = up a k.0 in let n' = up o k.1.0 in ((((tt, (a', n', a')), (tt, (xs, n', xs))), (a', xs, a')), tt)
  here_goals (Reflect a p q) k = let a' = up a k.0 in let p' = up p k.1.0 in let q' = up q k.1.1.0 in (((p', q', xs), (p', q', a')), (((xs, p', q'), (a', p', q')), tt))
  here_goals (Circumcenter a b c) k = let a' = up a k.0 in let b' = up b k.1.0 in let c' = up c k.1.1.0 in (((xs, a', xs), (xs, b', xs)), (((xs, a', xs), (xs, c', xs)), tt))
  here_goals (Orthocenter a b c) k = let a' = up a k.0 in let b' = up b k.1.0 in let c' = up c k.1.1.0 in (((xs, c', b'), (a', c', b')), (((xs, c', a'), (b', c', a')), tt))
  here_goals (Centroid a b c) k =
      let a' = up a k.0 in let b' = up b k.1.0 in let c' = up c k.1.1.0 in
      (((((a', xs, a'), (b', xs, b')), (c', xs, c')), (tt, (((a', xs, b'), (b', xs, c')), (c', xs, a')))), tt)
  here_goals (Oncircle o a) k = let n' = up o k.0 in let a' = up a k.1.0 in (((xs, n', xs), (a', n', a')), tt)
  here_goals (Second a b o) k = let a' = up a k.0 in let b' = up b k.1.0 in let n' = up o k.1.1.0 in ((a', b', xs), (((xs, n', xs), (a', n', a')), tt))
  here_goals (Cc o p a) k = let n' = up o k.0 in let p' = up p k.1.0 in let a' = up a k.1.1.0 in (((xs, n', xs), (a', n', a')), (((xs, p', xs), (a', p', a')), tt))
  here_goals (Inverse p o a) k = let p' = up p k.0 in let n' = up o k.1.0 in let a' = up a k.1.1.0 in ((n', p', xs), (((xs, n', p'), (a', n', a')), tt))
  here_goals (Weights a b c r s) k =
      let a' = up a k.0 in let b' = up b k.1.0 in let c' = up c k.1.1.0 in
      let e = number_over (tree_of nodes r) k.1.1.1.0.0 in let f = number_over (tree_of nodes s) k.1.1.1.1.0.0 in
      (((((((xs, a', xs), ((e, e), (b', a', b'))), ((f, f), (c', a', c'))), ((tt, e), (xs, a', b'))), ((tt, f), (xs, a', c'))), (((tt, e), f), (b', a', c'))), tt)
  here_goals (AssumeDifferent a b) k = tt
  here_goals (AssumeNotCollinear a b c) k = tt
  here_goals (AssumeNotParallel a b c d) k = tt

-- where a command that names a point has such goals, so has each: the others have none
pointed : (nodes : Store) (x : PointId) (P : Tree → Type 0) (c : Command) → (named c ≡ Some kind.Point → AllByRecursion P (command_goals nodes x c)) → AllByRecursion P (command_goals nodes x c)
pointed nodes x P Param h = tt
pointed nodes x P (Line a b) h = tt
pointed nodes x P (Parallel p b) h = tt
pointed nodes x P (Perp p b) h = tt
pointed nodes x P (Med a b) h = tt
pointed nodes x P (AssumeDifferent a b) h = tt
pointed nodes x P (AssumeNotCollinear a b c) h = tt
pointed nodes x P (AssumeNotParallel a b c d) h = tt
pointed nodes x P c h = h (λ i. Some kind.Point)

pub goals_over : (nodes : Store) (x y j X Y : ℕ) (c : Command) → counted kind.Point (named c) x ≤ X → y ≤ Y → IsNamed nodes x y j c
    → AllByRecursion (IsOver X Y) (command_goals nodes (record { 0 = x }) c)
goals_over nodes x y j X Y c xs ys k =
    pointed nodes (record { 0 = x }) (IsOver X Y) c
    (λ e. here_goals nodes x y j X Y (let u : suc x ≤ X = subst (λ n. counted kind.Point n x ≤ X) e xs in omega (arith, u)) ys c k)
