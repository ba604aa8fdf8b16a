-- Steps name points and numbers that stand before them.
use Rattle.std.proofs.Common.{◌≡◌, ℕ, zero, suc, ◌-◌, ◌<◌, ◌≤◌, ⊎_elim, Option, Some, None, List, [], ◌∷◌, refl, sym, subst, arith}
use Rattle.std.proofs.Math.Nat.{eq-or-lt_of_le}
use Rattle.geo_program.specs.declared.commands.Command.{Command}
use Rattle.geo_program.specs.declared.commands.Command.TheVariants.{Point, Param, Line, Parallel, Perp, Med, Intersec, Inter, Foot, Pratio}
use Rattle.geo_program.specs.declared.commands.Command.TheVariants.{Tratio, Online, Lratio, Midpoint, Translate, Symmetric, Reflect}
use Rattle.geo_program.specs.declared.commands.Command.TheVariants.{Circumcenter, Orthocenter, Centroid, Oncircle, Second, Cc, Inverse}
use Rattle.geo_program.specs.declared.commands.Command.TheVariants.{Weights, AssumeDifferent, AssumeNotCollinear, AssumeNotParallel}
use Rattle.geo_program.specs.declared.names.NameKind.{NameKind}
use Rattle.geo_program.specs.declared.names.NameKind.TheVariants as kind
use Rattle.geo_program.specs.WellFormed.{IsWellFormed, Source}
use Rattle.geo_terms.specs.Stores.{Store, tree_of}
use Rattle.geo_lowering.specs.declared.version.Version.{Version}
use Rattle.geo_lowering.specs.declared.version.Version.TheVariants.{One, Two}
use Rattle.geo_terms.specs.Trees.{IsStepNumber, Tree}
use Rattle.geo_lowering.specs.Counting.{named, hidden, further, counted, next_point, next_number, numbers_from, numbers_had, weights_points}
use Rattle.geo_lowering.specs.Lowering.{Layout, Pair, layout_of, pair_of, command_steps, steps_from, steps_of, renamed, weights_steps}
use Rattle.geo_lowering.proofs.FormLaws.{AreFormsOver, past, over_append}
use Rattle.geo_lowering.proofs.Laying.{IsNamed, AreNamed, IsLaid, AreLaid, named_program, laid_program}
use Rattle.geo_lowering.proofs.Values.{number_expression, number_renamed}

-- what has a name stands below n, and parameters below m
pub record Bounds (l : Layout) (x q j n m : ℕ) : Type 0 where
  pub points : (a : ℕ) → a < x → l.point a < n
  pub lines : (i : ℕ) → i < j → ((l.line i).left < n) × ((l.line i).right < n)
  pub params : (t : ℕ) → t < q → l.param t < m

pub further-up : (n h : ℕ) → n ≤ further n h
further-up n zero = omega arith
further-up n (suc h) = let k : suc n ≤ further (suc n) h = further-up (suc n) h in omega arith

pub counted-up : (g : NameKind) (k : Option NameKind) (n : ℕ) → n ≤ counted g k n
counted-up kind.Point (Some kind.Point) n = omega arith
counted-up kind.Param (Some kind.Param) n = omega arith
counted-up kind.Line (Some kind.Line) n = omega arith
counted-up kind.Point (Some kind.Param) n = omega arith
counted-up kind.Point (Some kind.Line) n = omega arith
counted-up kind.Param (Some kind.Point) n = omega arith
counted-up kind.Param (Some kind.Line) n = omega arith
counted-up kind.Line (Some kind.Point) n = omega arith
counted-up kind.Line (Some kind.Param) n = omega arith
counted-up g None n = omega arith

pub next_point-up : (version : Version) (n : ℕ) (c : Command) → n ≤ next_point version n c
next_point-up version n c =
    let h : n ≤ further n (hidden version c) = further-up n (hidden version c) in
    let k : further n (hidden version c) ≤ next_point version n c = counted-up kind.Point (named c) (further n (hidden version c)) in omega arith

pub next_number-up : (m : ℕ) (c : Command) → m ≤ next_number m c
next_number-up m Point = omega arith
next_number-up m _ = omega arith

-- the number of a parameter's command goes on by one
param_next : (m : ℕ) (c : Command) → named c ≡ Some kind.Param → next_number m c ≡ suc m
param_next m Point e = cc
param_next m Param e = refl
param_next m _ e = cc

pub numbers_from-up : (m : ℕ) (cs : List Command) → m ≤ numbers_from m cs
numbers_from-up m [] = omega arith
numbers_from-up m (c ∷ cs) =
    let h : m ≤ next_number m c = next_number-up m c in
    let k : next_number m c ≤ numbers_from (next_number m c) cs = numbers_from-up (next_number m c) cs in omega arith

-- the steps of `weights` stand past its points
weights_past : (version : Version) (n a b c : ℕ) (r s : Tree) → past n (weights_steps version n a b c r s) ≡ suc (further n (weights_points version - 1))
weights_past One n a b c r s = refl
weights_past Two n a b c r s = refl

-- and name what stands before them
weights_over : (version : Version) (n M a b c : ℕ) (r s : Tree) → a < n → b < n → c < n → IsStepNumber n M r → IsStepNumber n M s → IsStepNumber (suc n) M s
    → AreFormsOver n M (weights_steps version n a b c r s)
weights_over One n M a b c r s x y z p q q' = ((x, x, y, p), ((omega arith, omega arith, omega arith, q'), tt))
weights_over Two n M a b c r s x y z p q q' = ((x, y, z, p, q), tt)

module _ (version : Version) (l : Layout) (nodes : Store) where
  -- the pair of a new line stands below the next point
  pair_below : (x q j n m : ℕ) (c : Command) → Bounds l x q j n m → IsNamed nodes x q j c → named c ≡ Some kind.Line
      → ((pair_of l.point n c).left < next_point version n c) × ((pair_of l.point n c).right < next_point version n c)
  pair_below x y j n m Point b h e = cc
  pair_below x y j n m (Line a b') b h e = (b.points a.0 h.0, b.points b'.0 h.1.0)
  pair_below x y j n m (Parallel p b') b h e = let p' : l.point p.0 < n = b.points p.0 h.0 in (omega arith, omega arith)
  pair_below x y j n m (Perp p b') b h e = let p' : l.point p.0 < n = b.points p.0 h.0 in (omega arith, omega arith)
  pair_below x y j n m (Med a b') b h e = (omega arith, omega arith)
  pair_below x y j n m _ b h e = cc

  next_points : (x n f : ℕ) (k : Option NameKind) → n ≤ f → (k ≡ Some kind.Point → l.point x ≡ f) → ((a : ℕ) → a < x → l.point a < n)
      → (a : ℕ) → a < counted kind.Point k x → l.point a < counted kind.Point k f
  next_points x n f (Some kind.Point) u e b a h =
      let v : l.point x ≡ f = e refl in
      ⊎_elim (λ (i : a ≡ x). subst (λ y. l.point y < suc f) (sym i) (omega arith)) (λ (c : a < x). let w : l.point a < n = b a c in omega arith) (eq-or-lt_of_le (omega arith))
  next_points x n f (Some kind.Param) u e b a h = let w : l.point a < n = b a h in omega arith
  next_points x n f (Some kind.Line) u e b a h = let w : l.point a < n = b a h in omega arith
  next_points x n f None u e b a h = let w : l.point a < n = b a h in omega arith

  next_lines : (j n f : ℕ) (k : Option NameKind) → n ≤ f → (k ≡ Some kind.Line → ((l.line j).left < f) × ((l.line j).right < f)) → ((i : ℕ) → i < j → ((l.line i).left < n) × ((l.line i).right < n))
      → (i : ℕ) → i < counted kind.Line k j → ((l.line i).left < f) × ((l.line i).right < f)
  next_lines j n f (Some kind.Line) u e b i h =
      ⊎_elim (λ (y : i ≡ j). subst (λ z. ((l.line z).left < f) × ((l.line z).right < f)) (sym y) (e refl))
      (λ (c : i < j). let w = b i c in let w0 : (l.line i).left < n = w.0 in let w1 : (l.line i).right < n = w.1 in (omega arith, omega arith)) (eq-or-lt_of_le (omega arith))
  next_lines j n f (Some kind.Point) u e b i h = let w = b i h in let w0 : (l.line i).left < n = w.0 in let w1 : (l.line i).right < n = w.1 in (omega arith, omega arith)
  next_lines j n f (Some kind.Param) u e b i h = let w = b i h in let w0 : (l.line i).left < n = w.0 in let w1 : (l.line i).right < n = w.1 in (omega arith, omega arith)
  next_lines j n f None u e b i h = let w = b i h in let w0 : (l.line i).left < n = w.0 in let w1 : (l.line i).right < n = w.1 in (omega arith, omega arith)

  next_params : (q m f : ℕ) (k : Option NameKind) → m ≤ f → (k ≡ Some kind.Param → l.param q < f) → ((t : ℕ) → t < q → l.param t < m) → (t : ℕ) → t < counted kind.Param k q → l.param t < f
  next_params q m f (Some kind.Param) u e b t h =
      ⊎_elim (λ (y : t ≡ q). subst (λ z. l.param z < f) (sym y) (e refl)) (λ (c : t < q). let w : l.param t < m = b t c in omega arith) (eq-or-lt_of_le (omega arith))
  next_params q m f (Some kind.Point) u e b t h = let w : l.param t < m = b t h in omega arith
  next_params q m f (Some kind.Line) u e b t h = let w : l.param t < m = b t h in omega arith
  next_params q m f None u e b t h = let w : l.param t < m = b t h in omega arith

  -- one command later
  pub bounds_next : (x q j n m : ℕ) (c : Command) → Bounds l x q j n m → IsNamed nodes x q j c → IsLaid version l x q j n m c
      → Bounds l (counted kind.Point (named c) x) (counted kind.Param (named c) q) (counted kind.Line (named c) j) (next_point version n c) (next_number m c)
  bounds_next x q j n m c b h d = record {
    points = next_points x n (further n (hidden version c)) (named c) (further-up n (hidden version c)) d.point b.points;
    lines = next_lines j n (next_point version n c) (named c) (next_point-up version n c)
        (λ e. subst (λ (p : Pair). (p.left < next_point version n c) × (p.right < next_point version n c)) (sym (d.line e)) (pair_below x q j n m c b h e)) b.lines;
    params = next_params q m (next_number m c) (named c) (next_number-up m c)
        (λ e. let p : l.param q ≡ m = d.param e in let s : next_number m c ≡ suc m = param_next m c e in omega arith) b.params;
  }

  -- the steps of a command stand past its points
  pub past_steps : (n m : ℕ) (c : Command) → past n (command_steps version l nodes n m c) ≡ next_point version n c
  past_steps n m Point = refl
  past_steps n m (Weights a b c r s) = weights_past version n (l.point a.0) (l.point b.0) (l.point c.0) (renamed l (tree_of nodes r)) (renamed l (tree_of nodes s))
  past_steps n m _ = refl

  -- the steps of a command name what stands before them
  pub command_over : (x q j n m M : ℕ) (c : Command) → Bounds l x q j n m → next_number m c ≤ M → IsNamed nodes x q j c → AreFormsOver n M (command_steps version l nodes n m c)
  command_over x y j n m M Point B f h = (tt, tt)
  command_over x y j n m M Param B f h = tt
  command_over x y j n m M (Line a b) B f h = tt
  command_over x y j n m M (Parallel p b) B f h = let p' : l.point p.0 < n = B.points p.0 h.0 in let q' = B.lines b.0 h.1.0 in ((p', q'.0, q'.1, tt), tt)
  command_over x y j n m M (Perp p b) B f h = let p' : l.point p.0 < n = B.points p.0 h.0 in let q' = B.lines b.0 h.1.0 in ((p', q'.0, q'.1, tt), ((omega arith, omega arith, tt), tt))
  command_over x y j n m M (Med a b) B f h = let a' : l.point a.0 < n = B.points a.0 h.0 in let b' : l.point b.0 < n = B.points b.0 h.1.0 in
      ((a', a', b', (tt, tt)), ((omega arith, omega arith, tt), tt))
  command_over x y j n m M (Intersec a b) B f h = let p' = B.lines a.0 h.0 in let q' = B.lines b.0 h.1.0 in ((p'.0, p'.1, q'.0, q'.1), tt)
  command_over x y j n m M (Inter a b c d) B f h = let a' : l.point a.0 < n = B.points a.0 h.0 in
      let b' : l.point b.0 < n = B.points b.0 h.1.0 in let c' : l.point c.0 < n = B.points c.0 h.1.1.0 in
      let d' : l.point d.0 < n = B.points d.0 h.1.1.1.0 in ((a', b', c', d'), tt)
  command_over x y j n m M (Foot p a b) B f h = let p' : l.point p.0 < n = B.points p.0 h.0 in
      let a' : l.point a.0 < n = B.points a.0 h.1.0 in let b' : l.point b.0 < n = B.points b.0 h.1.1.0 in ((p', a', b'), tt)
  command_over x y j n m M (Pratio w u v r) B f h = let w' : l.point w.0 < n = B.points w.0 h.0 in
      let u' : l.point u.0 < n = B.points u.0 h.1.0 in let v' : l.point v.0 < n = B.points v.0 h.1.1.0 in (
        (
          w',
          u',
          v',
          number_renamed l x y n M B.points (λ t e. let w : l.param t < m = B.params t e in omega arith) (tree_of nodes r)
              (number_expression x y (tree_of nodes r) h.1.1.1.0.0),
        ),
        tt,
      )
  command_over x y j n m M (Tratio u v r) B f h = let u' : l.point u.0 < n = B.points u.0 h.0 in
      let v' : l.point v.0 < n = B.points v.0 h.1.0 in (
        (
          u',
          v',
          number_renamed l x y n M B.points (λ t e. let w : l.param t < m = B.params t e in omega arith) (tree_of nodes r)
              (number_expression x y (tree_of nodes r) h.1.1.0.0),
        ),
        tt,
      )
  command_over x y j n m M (Online a b) B f h = let a' : l.point a.0 < n = B.points a.0 h.0 in let b' : l.point b.0 < n = B.points b.0 h.1.0 in ((a', a', b', omega arith), tt)
  command_over x y j n m M (Lratio a b r) B f h = let a' : l.point a.0 < n = B.points a.0 h.0 in
      let b' : l.point b.0 < n = B.points b.0 h.1.0 in (
        (
          a',
          a',
          b',
          number_renamed l x y n M B.points (λ t e. let w : l.param t < m = B.params t e in omega arith) (tree_of nodes r)
              (number_expression x y (tree_of nodes r) h.1.1.0.0),
        ),
        tt,
      )
  command_over x y j n m M (Midpoint a b) B f h = let a' : l.point a.0 < n = B.points a.0 h.0 in let b' : l.point b.0 < n = B.points b.0 h.1.0 in ((a', a', b', (tt, tt)), tt)
  command_over x y j n m M (Translate a b c) B f h = let a' : l.point a.0 < n = B.points a.0 h.0 in
      let b' : l.point b.0 < n = B.points b.0 h.1.0 in let c' : l.point c.0 < n = B.points c.0 h.1.1.0 in ((c', a', b', tt), tt)
  command_over x y j n m M (Symmetric a o) B f h = let a' : l.point a.0 < n = B.points a.0 h.0 in let o' : l.point o.0 < n = B.points o.0 h.1.0 in ((o', a', o', tt), tt)
  command_over x y j n m M (Reflect a p q) B f h = let a' : l.point a.0 < n = B.points a.0 h.0 in
      let p' : l.point p.0 < n = B.points p.0 h.1.0 in let q' : l.point q.0 < n = B.points q.0 h.1.1.0 in
      ((a', p', q'), ((omega arith, omega arith, omega arith, tt), tt))
  command_over x y j n m M (Circumcenter a b c) B f h = let a' : l.point a.0 < n = B.points a.0 h.0 in
      let b' : l.point b.0 < n = B.points b.0 h.1.0 in let c' : l.point c.0 < n = B.points c.0 h.1.1.0 in (
        (a', a', b', (tt, tt)),
        (
          (omega arith, omega arith, tt),
          (
            (omega arith, omega arith, omega arith, (tt, tt)),
            ((omega arith, omega arith, tt), ((omega arith, omega arith, omega arith, omega arith), tt)),
          ),
        ),
      )
  command_over x y j n m M (Orthocenter a b c) B f h = let a' : l.point a.0 < n = B.points a.0 h.0 in
      let b' : l.point b.0 < n = B.points b.0 h.1.0 in let c' : l.point c.0 < n = B.points c.0 h.1.1.0 in
      ((a', b', c'), ((omega arith, omega arith, omega arith), ((omega arith, omega arith, omega arith, omega arith), tt)))
  command_over x y j n m M (Centroid a b c) B f h = let a' : l.point a.0 < n = B.points a.0 h.0 in
      let b' : l.point b.0 < n = B.points b.0 h.1.0 in let c' : l.point c.0 < n = B.points c.0 h.1.1.0 in
      ((b', b', c', (tt, tt)), ((omega arith, omega arith, omega arith, (tt, tt)), tt))
  command_over x y j n m M (Oncircle o a) B f h = let o' : l.point o.0 < n = B.points o.0 h.0 in
      let a' : l.point a.0 < n = B.points a.0 h.1.0 in
      ((o', a', omega arith), ((omega arith, omega arith, omega arith), ((omega arith, omega arith, omega arith, tt), tt)))
  command_over x y j n m M (Second a b o) B f h = let a' : l.point a.0 < n = B.points a.0 h.0 in
      let b' : l.point b.0 < n = B.points b.0 h.1.0 in let o' : l.point o.0 < n = B.points o.0 h.1.1.0 in
      ((o', a', b'), ((omega arith, omega arith, omega arith, tt), tt))
  command_over x y j n m M (Cc o p a) B f h = let o' : l.point o.0 < n = B.points o.0 h.0 in
      let p' : l.point p.0 < n = B.points p.0 h.1.0 in let a' : l.point a.0 < n = B.points a.0 h.1.1.0 in
      ((a', o', p'), ((omega arith, omega arith, omega arith, tt), tt))
  command_over x y j n m M (Inverse p o a) B f h = let p' : l.point p.0 < n = B.points p.0 h.0 in
      let o' : l.point o.0 < n = B.points o.0 h.1.0 in let a' : l.point a.0 < n = B.points a.0 h.1.1.0 in
      ((o', o', p', ((o', a', o'), (o', p', o'))), tt)
  command_over x y j n m M (Weights a b c r s) B f h =
      let a' : l.point a.0 < n = B.points a.0 h.0 in
      let b' : l.point b.0 < n = B.points b.0 h.1.0 in
      let c' : l.point c.0 < n = B.points c.0 h.1.1.0 in
      let params : (t : ℕ) → t < y → l.param t < M = λ t e. let w : l.param t < m = B.params t e in omega arith in
      let more : (k : ℕ) → k < x → l.point k < suc n = λ k e. let w : l.point k < n = B.points k e in omega arith in
      let p = number_renamed l x y n M B.points params (tree_of nodes r) (number_expression x y (tree_of nodes r) h.1.1.1.0.0) in
      let q = number_renamed l x y n M B.points params (tree_of nodes s) (number_expression x y (tree_of nodes s) h.1.1.1.1.0.0) in
      let q' = number_renamed l x y (suc n) M more params (tree_of nodes s) (number_expression x y (tree_of nodes s) h.1.1.1.1.0.0) in
      weights_over version n M (l.point a.0) (l.point b.0) (l.point c.0) (renamed l (tree_of nodes r)) (renamed l (tree_of nodes s)) a' b' c' p q q'
  command_over x y j n m M (AssumeDifferent a b) B f h = tt
  command_over x y j n m M (AssumeNotCollinear a b c) B f h = tt
  command_over x y j n m M (AssumeNotParallel a b c d) B f h = tt

  -- those of all commands do
  pub steps_over : (cs : List Command) (x q j n m M : ℕ) → Bounds l x q j n m → numbers_from m cs ≤ M → AreNamed nodes x q j cs → AreLaid version l x q j n m cs
      → AreFormsOver n M (steps_from version l nodes n m cs)
  steps_over [] x q j n m M b u h d = tt
  steps_over (c ∷ cs) x q j n m M b u h d =
      let v : next_number m c ≤ numbers_from (next_number m c) cs = numbers_from-up (next_number m c) cs in
      over_append n M (command_steps version l nodes n m c) (steps_from version l nodes (next_point version n c) (next_number m c) cs)
      (command_over x q j n m M c b (omega arith) h.0)
      (subst (λ i. AreFormsOver i M (steps_from version l nodes (next_point version n c) (next_number m c) cs)) (sym (past_steps n m c))
      (steps_over cs _ _ _ (next_point version n c) (next_number m c) M (bounds_next x q j n m c b h.0 d.0) u h.1 d.1))

pub no_bounds : (l : Layout) → Bounds l 0 0 0 0 0
no_bounds l = record { points = λ a h. absurd (omega arith); lines = λ i h. absurd (omega arith); params = λ t h. absurd (omega arith) }

pub program_over : (version : Version) (p : Source) → IsWellFormed p → AreFormsOver 0 (numbers_had p.commands) (steps_of version p)
program_over version p w =
    steps_over version (layout_of version p.commands) p.nodes p.commands 0 0 0 0 0 (numbers_had p.commands) (no_bounds (layout_of version p.commands))
    (omega arith) (named_program p w) (laid_program version p.commands)
