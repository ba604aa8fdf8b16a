-- Values have a reckoned placement: each point is put where its step's reckonings come to.
use Rattle.std.proofs.Common.{◌≡◌, ◌⊎◌, inl, inr, ⊎_elim, ℕ, zero, suc, ◌<◌, Bool, true, false, ℤ, pos, List, [], ◌∷◌, ◌++◌, length, map, refl, sym, ◌∙◌, ap, subst, arith}
use Rattle.std.specs.Prelude.{slice_index_or}
use Rattle.std.proofs.lemmas.List.{length-map, get_or-map}
use Rattle.ring_laws.specs.Fraction.{Fraction, whole}
use Rattle.ring_laws.proofs.Fractions.{fractions}
use Rattle.geo_points.specs.Placements.{Placement}
use Rattle.geo_points.specs.Points.{Point}
use Rattle.geo_points.proofs.Placed.{point_exists}
use Rattle.geo_program.specs.declared.commands.Command.{Command}
use Rattle.geo_program.specs.declared.commands.Command.TheVariants.{Point as Free, Param, Line, Parallel, Perp, Med, Intersec, Inter, Foot}
use Rattle.geo_program.specs.declared.commands.Command.TheVariants.{Pratio, Tratio, Online, Lratio, Midpoint, Translate, Symmetric, Reflect}
use Rattle.geo_program.specs.declared.commands.Command.TheVariants.{Circumcenter, Orthocenter, Centroid, Oncircle, Second, Cc, Inverse}
use Rattle.geo_program.specs.declared.commands.Command.TheVariants.{Weights, AssumeDifferent, AssumeNotCollinear, AssumeNotParallel}
use Rattle.geo_program.specs.declared.names.NameKind.TheVariants as kind
use Rattle.geo_program.specs.WellFormed.{IsWellFormed, Source}
use Rattle.geo_terms.specs.Stores.{Store}
use Rattle.geo_lowering.specs.Counting.{counted, further, hidden, named, next_number, next_point, numbers_had}
use Rattle.geo_lowering.specs.Lowering.{Layout, command_steps, layout_of, point_place, steps_from, steps_of}
use Rattle.geo_lowering.specs.StepForms.{StepForm, free, crossing_of, foot_of, along, turned_along, weighted}
use Rattle.geo_lowering.proofs.Bounds.{past_steps, program_over}
use Rattle.geo_lowering.proofs.FormLaws.{AreFormsOver, past}
use Rattle.geo_lowering.proofs.Laying.{AreLaid, laid_program}
use Rattle.geo_lowering.proofs.Puts.{of_path, put, put_here, put_other}
use Rattle.geo_lowering.proofs.Values.{AgreeBelow}
use Rattle.geo_lowering.specs.declared.version.Version.TheVariants.{Two}
use Rattle.geo_conditions.specs.Truth.{ProgramValues, free_points, is_free, whole_point}
use Rattle.geo_place.specs.Evaluation.{AreAt, IsLeast, IsReckoned}
use Rattle.geo_place.specs.Formulas.{IsAt, Spot, step_spot}
use Rattle.geo_place.specs.Inner.{free_places}
use Rattle.geo_place.specs.Reckonings.{number}
use Rattle.geo_place.proofs.Alike.{alike_number, step_alike}
use Rattle.geo_place.proofs.LeastTriples.{least_exists}

-- THE FREE POINTS AMONG THOSE OF STEPS
pub places_append : (n : ℕ) (fs gs : List StepForm) → free_places n (fs ++ gs) ≡ free_places n fs ++ free_places (past n fs) gs
places_append n [] gs = refl
places_append n (free ∷ fs) gs = ap (λ (xs : List ℕ). n ∷ xs) (places_append (suc n) fs gs)
places_append n (crossing_of u v p q ∷ fs) gs = places_append (suc n) fs gs
places_append n (foot_of p u v ∷ fs) gs = places_append (suc n) fs gs
places_append n (along w u v r ∷ fs) gs = places_append (suc n) fs gs
places_append n (turned_along u v r ∷ fs) gs = places_append (suc n) fs gs
places_append n (weighted o u v r s ∷ fs) gs = places_append (suc n) fs gs

-- that of a command
abbrev PlaceOf : Bool → ℕ → List ℕ
PlaceOf b n = elim b [ true ↦ n ∷ [] | false ↦ [] ]

command_places : (l : Layout) (nodes : Store) (n m : ℕ) (c : Command) → free_places n (command_steps Two l nodes n m c) ≡ PlaceOf (is_free c) n
command_places l nodes n m Free = refl
command_places l nodes n m _ = refl

free_is : (c : Command) → is_free c ≡ true → c ≡ Free
free_is Free e = refl
free_is _ e = cc

-- they are the free points that the commands name
commands_places : (l : Layout) (nodes : Store) (cs : List Command) (x q j n m : ℕ) → AreLaid Two l x q j n m cs
    → free_places n (steps_from Two l nodes n m cs) ≡ map l.point (free_points x cs)
commands_places l nodes [] x q j n m d = refl
commands_places l nodes (c ∷ cs) x q j n m d =
    let rest = steps_from Two l nodes (next_point Two n c) (next_number m c) cs in
    places_append n (command_steps Two l nodes n m c) rest
    ∙ ap (λ (xs : List ℕ). xs ++ free_places (past n (command_steps Two l nodes n m c)) rest) (command_places l nodes n m c)
    ∙ ap (λ (k : ℕ). PlaceOf (is_free c) n ++ free_places k rest) (past_steps Two l nodes n m c)
    ∙ ap (λ (xs : List ℕ). PlaceOf (is_free c) n ++ xs) (commands_places l nodes cs _ _ _ (next_point Two n c) (next_number m c) d.1)
    ∙ next (is_free c) refl
  where
    next : (b : Bool) → is_free c ≡ b
        → PlaceOf b n ++ map l.point (free_points (counted kind.Point (named c) x) cs)
        ≡ map l.point (elim b [ true ↦ x ∷ free_points (counted kind.Point (named c) x) cs | false ↦ free_points (counted kind.Point (named c) x) cs ])
    next true e =
        let f = free_is c e in
        let here : l.point x ≡ n = d.0.point (ap (λ b. named b) f) ∙ ap (λ b. further n (hidden Two b)) f in
        ap (λ (k : ℕ). k ∷ map l.point (free_points (counted kind.Point (named c) x) cs)) (sym here)
    next false e = refl

pub program_places : (p : Source) → free_places 0 (steps_of Two p) ≡ map (point_place Two p.commands) (free_points 0 p.commands)
program_places p = commands_places (layout_of Two p.commands) p.nodes p.commands 0 0 0 0 0 (laid_program Two p.commands)

-- POINTS THAT ARE LAID OUT
same_or_not : (i n : ℕ) → (i ≡ n) ⊎ (i ≡ n → ⊥)
same_or_not zero zero = inl refl
same_or_not zero (suc n) = inr (λ e. omega arith)
same_or_not (suc i) zero = inr (λ e. omega arith)
same_or_not (suc i) (suc n) = ⊎_elim (λ (e : i ≡ n). inl (ap suc e)) (λ (d : i ≡ n → ⊥). inr (λ e. d (omega arith))) (same_or_not i n)

-- the point of these reckonings
abbrev spot_point : Spot → Point
spot_point s = (least_exists (point_exists (number s.x) (number s.y)).0).0

spot_least : (s : Spot) → IsLeast (spot_point s)
spot_least s = (least_exists (point_exists (number s.x) (number s.y)).0).2

spot_is : (s : Spot) → IsAt (spot_point s) s
spot_is s =
    let made = point_exists (number s.x) (number s.y) in
    let same = (least_exists made.0).1 in
    record { by_x = fractions.same_trans _ _ _ same.by_x made.1; by_y = fractions.same_trans _ _ _ same.by_y made.2 }

whole_least : (xy : ℤ × ℤ) → IsLeast (whole_point xy)
whole_least xy = record { least = λ A s. A.positive }

-- the point that a step makes; a free point is the first of the values that are left
abbrev made_at : Placement → ℕ → StepForm → List (ℤ × ℤ) → Point
made_at placed n free [] = whole_point (pos 0, pos 0)
made_at placed n free (xy ∷ xys) = whole_point xy
made_at placed n (crossing_of u v p q) xys = spot_point (step_spot placed n (crossing_of u v p q))
made_at placed n (foot_of p u v) xys = spot_point (step_spot placed n (foot_of p u v))
made_at placed n (along w u v r) xys = spot_point (step_spot placed n (along w u v r))
made_at placed n (turned_along u v r) xys = spot_point (step_spot placed n (turned_along u v r))
made_at placed n (weighted o u v r t) xys = spot_point (step_spot placed n (weighted o u v r t))

-- the values that are left then
abbrev left_over : StepForm → List (ℤ × ℤ) → List (ℤ × ℤ)
left_over free [] = []
left_over free (xy ∷ xys) = xys
left_over (crossing_of u v p q) xys = xys
left_over (foot_of p u v) xys = xys
left_over (along w u v r) xys = xys
left_over (turned_along u v r) xys = xys
left_over (weighted o u v r t) xys = xys

module _ (numbers : ℕ → Fraction) where
  abbrev with_points : (ℕ → Point) → Placement
  with_points f = record { point = f; number = numbers }

  -- f, and the points of the steps from n on
  abbrev laid_out : (ℕ → Point) → ℕ → List StepForm → List (ℤ × ℤ) → ℕ → Point
  laid_out f n [] xys = f
  laid_out f n (s ∷ fs) xys = laid_out (put f n (made_at (with_points f) n s xys)) (suc n) fs (left_over s xys)

  below : (fs : List StepForm) (f : ℕ → Point) (n : ℕ) (xys : List (ℤ × ℤ)) (k : ℕ) → k < n → laid_out f n fs xys k ≡ f k
  below [] f n xys k lt = refl
  below (s ∷ fs) f n xys k lt =
      below fs (put f n (made_at (with_points f) n s xys)) (suc n) (left_over s xys) k (omega arith) ∙ put_other f n (made_at (with_points f) n s xys) k (λ e. omega arith)

  here : (fs : List StepForm) (s : StepForm) (f : ℕ → Point) (n : ℕ) (xys : List (ℤ × ℤ)) → laid_out f n (s ∷ fs) xys n ≡ made_at (with_points f) n s xys
  here fs s f n xys =
      below fs (put f n (made_at (with_points f) n s xys)) (suc n) (left_over s xys) n (omega arith) ∙ put_here f n (made_at (with_points f) n s xys)

  agrees : (fs : List StepForm) (f : ℕ → Point) (n m : ℕ) (xys : List (ℤ × ℤ)) → AgreeBelow n m (with_points f) (with_points (laid_out f n fs xys))
  agrees fs f n m xys = record { points = λ k b. of_path (sym (below fs f n xys k b)); numbers = λ k b. fractions.same_refl _ }

  -- a point that is made is where its reckonings come to
  spot_at : (n m : ℕ) (p p' : Placement) → AgreeBelow n m p p' → (s : StepForm) → (s ≡ free → ⊥)
      → AreFormsOver n m (s ∷ []) → p'.point n ≡ spot_point (step_spot p n s) → IsAt (p'.point n) (step_spot p' n s)
  spot_at n m p p' g s d o e =
      let made = spot_is (step_spot p n s) in
      let a = step_alike n m p p' g n s (λ q. absurd (d q)) o.0 in
      subst (λ A. IsAt A (step_spot p' n s)) (sym e)
      (record {
        by_x = fractions.same_trans _ _ _ made.by_x (alike_number (step_spot p n s).x (step_spot p' n s).x a.0);
        by_y = fractions.same_trans _ _ _ made.by_y (alike_number (step_spot p n s).y (step_spot p' n s).y a.1);
      })

  one_at : (m : ℕ) (fs : List StepForm) (s : StepForm) (f : ℕ → Point) (n : ℕ) (xys : List (ℤ × ℤ)) → AreFormsOver n m (s ∷ [])
      → IsAt (laid_out f n (s ∷ fs) xys n) (step_spot (with_points (laid_out f n (s ∷ fs) xys)) n s)
  one_at m fs free f n xys o = record { by_x = fractions.same_refl _; by_y = fractions.same_refl _ }
  one_at m fs (crossing_of u v p q) f n xys o =
      let s = crossing_of u v p q in spot_at n m (with_points f) (with_points (laid_out f n (s ∷ fs) xys)) (agrees (s ∷ fs) f n m xys) s (λ e. cc) o (here fs s f n xys)
  one_at m fs (foot_of p u v) f n xys o =
      let s = foot_of p u v in spot_at n m (with_points f) (with_points (laid_out f n (s ∷ fs) xys)) (agrees (s ∷ fs) f n m xys) s (λ e. cc) o (here fs s f n xys)
  one_at m fs (along w u v r) f n xys o =
      let s = along w u v r in spot_at n m (with_points f) (with_points (laid_out f n (s ∷ fs) xys)) (agrees (s ∷ fs) f n m xys) s (λ e. cc) o (here fs s f n xys)
  one_at m fs (turned_along u v r) f n xys o =
      let s = turned_along u v r in spot_at n m (with_points f) (with_points (laid_out f n (s ∷ fs) xys)) (agrees (s ∷ fs) f n m xys) s (λ e. cc) o (here fs s f n xys)
  one_at m fs (weighted i u v r t) f n xys o =
      let s = weighted i u v r t in spot_at n m (with_points f) (with_points (laid_out f n (s ∷ fs) xys)) (agrees (s ∷ fs) f n m xys) s (λ e. cc) o (here fs s f n xys)

  all_at : (m : ℕ) (fs : List StepForm) (f : ℕ → Point) (n : ℕ) (xys : List (ℤ × ℤ)) → AreFormsOver n m fs → AreAt (with_points (laid_out f n fs xys)) n fs
  all_at m [] f n xys o = tt
  all_at m (s ∷ fs) f n xys o =
      (one_at m fs s f n xys (o.0, tt), all_at m fs (put f n (made_at (with_points f) n s xys)) (suc n) (left_over s xys) o.1)

  -- the free points are the values
  frees_laid : (fs : List StepForm) (f : ℕ → Point) (n : ℕ) (xys : List (ℤ × ℤ)) (k : ℕ) → k < length (free_places n fs) → k < length xys
      → laid_out f n fs xys (slice_index_or (free_places n fs) k 0) ≡ whole_point (slice_index_or xys k (pos 0, pos 0))
  frees_laid [] f n xys k lt l = absurd (omega arith)
  frees_laid (free ∷ fs) f n [] k lt l = absurd (omega arith)
  frees_laid (free ∷ fs) f n (xy ∷ xys) zero lt l = here fs free f n (xy ∷ xys)
  frees_laid (free ∷ fs) f n (xy ∷ xys) (suc k) lt l = frees_laid fs (put f n (whole_point xy)) (suc n) xys k (omega arith) (omega arith)
  frees_laid (crossing_of u v p q ∷ fs) f n xys k lt l = frees_laid fs (put f n (made_at (with_points f) n (crossing_of u v p q) xys)) (suc n) xys k lt l
  frees_laid (foot_of p u v ∷ fs) f n xys k lt l = frees_laid fs (put f n (made_at (with_points f) n (foot_of p u v) xys)) (suc n) xys k lt l
  frees_laid (along w u v r ∷ fs) f n xys k lt l = frees_laid fs (put f n (made_at (with_points f) n (along w u v r) xys)) (suc n) xys k lt l
  frees_laid (turned_along u v r ∷ fs) f n xys k lt l = frees_laid fs (put f n (made_at (with_points f) n (turned_along u v r) xys)) (suc n) xys k lt l
  frees_laid (weighted o u v r t ∷ fs) f n xys k lt l = frees_laid fs (put f n (made_at (with_points f) n (weighted o u v r t) xys)) (suc n) xys k lt l

  -- all triples are least
  made_least : (placed : Placement) (n : ℕ) (s : StepForm) (xys : List (ℤ × ℤ)) → IsLeast (made_at placed n s xys)
  made_least placed n free [] = whole_least (pos 0, pos 0)
  made_least placed n free (xy ∷ xys) = whole_least xy
  made_least placed n (crossing_of u v p q) xys = spot_least (step_spot placed n (crossing_of u v p q))
  made_least placed n (foot_of p u v) xys = spot_least (step_spot placed n (foot_of p u v))
  made_least placed n (along w u v r) xys = spot_least (step_spot placed n (along w u v r))
  made_least placed n (turned_along u v r) xys = spot_least (step_spot placed n (turned_along u v r))
  made_least placed n (weighted o u v r t) xys = spot_least (step_spot placed n (weighted o u v r t))

  laid_least : (fs : List StepForm) (f : ℕ → Point) (n : ℕ) (xys : List (ℤ × ℤ)) → ((k : ℕ) → IsLeast (f k)) → (k : ℕ) → IsLeast (laid_out f n fs xys k)
  laid_least [] f n xys h k = h k
  laid_least (s ∷ fs) f n xys h k = laid_least fs (put f n (made_at (with_points f) n s xys)) (suc n) (left_over s xys) next k
    where
      next : (i : ℕ) → IsLeast (put f n (made_at (with_points f) n s xys) i)
      next i =
          ⊎_elim (λ (e : i ≡ n). subst (λ A. IsLeast A) (sym (ap (put f n (made_at (with_points f) n s xys)) e ∙ put_here f n (made_at (with_points f) n s xys))) (made_least (with_points f) n s xys))
          (λ (d : i ≡ n → ⊥). subst (λ A. IsLeast A) (sym (put_other f n (made_at (with_points f) n s xys) i d)) (h i)) (same_or_not i n)

-- THE PLACEMENT
-- the points that the values give, and their numbers
abbrev pub reckoned_placement : Source → ProgramValues → Placement
reckoned_placement p v =
    let numbers : ℕ → Fraction = λ k. whole (slice_index_or v.numbers k (pos 0)) in
    record { point = laid_out numbers (λ k. whole_point (pos 0, pos 0)) 0 (steps_of Two p) v.coordinates; number = numbers }

pub placement_reckoned : (p : Source) → IsWellFormed p → (v : ProgramValues) → length v.coordinates ≡ length (free_points 0 p.commands)
    → length v.numbers ≡ numbers_had p.commands → IsReckoned p v (reckoned_placement p v)
placement_reckoned p w v a b =
    let numbers : ℕ → Fraction = λ k. whole (slice_index_or v.numbers k (pos 0)) in
    let start : ℕ → Point = λ k. whole_point (pos 0, pos 0) in
    let frees = free_points 0 p.commands in
    let places = program_places p in
    let wide : length (free_places 0 (steps_of Two p)) ≡ length frees = ap length places ∙ length-map frees (point_place Two p.commands) in
    record {
      values = record {
        points = a;
        numbers = b;
        same_points = λ k lt.
            let c : k < length frees = omega arith in
            let at : slice_index_or (free_places 0 (steps_of Two p)) k 0 ≡ point_place Two p.commands (slice_index_or frees k 0) =
            ap (λ (xs : List ℕ). slice_index_or xs k 0) places ∙ get_or-map (point_place Two p.commands) frees k 0 0 c in
            of_path (subst (λ i. laid_out numbers start 0 (steps_of Two p) v.coordinates i ≡ whole_point (slice_index_or v.coordinates k (pos 0, pos 0))) at
            (frees_laid numbers (steps_of Two p) start 0 v.coordinates k (omega (arith, c, wide)) lt));
        same_numbers = λ k lt. fractions.same_refl (numbers k);
      };
      points = all_at numbers (numbers_had p.commands) (steps_of Two p) start 0 v.coordinates (program_over Two p w);
    }

pub placement_least : (p : Source) (v : ProgramValues) (k : ℕ) → IsLeast ((reckoned_placement p v).point k)
placement_least p v k =
    let numbers : ℕ → Fraction = λ k. whole (slice_index_or v.numbers k (pos 0)) in
    laid_least numbers (steps_of Two p) (λ k. whole_point (pos 0, pos 0)) 0 v.coordinates (λ i. whole_least (pos 0, pos 0)) k
