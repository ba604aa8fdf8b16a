-- The points that steps make, one after another, are those of the run's placement.
use Rattle.std.proofs.Common.{◌≡◌, ℕ, zero, suc, ◌+◌, ◌<◌, Bool, true, false, ◌⊎◌, inl, inr, ⊎_elim, List, [], ◌∷◌, ◌++◌, length, refl, sym, ◌∙◌, ap, subst, append_assoc, pos, lit<, arith}
use Rattle.std.specs.Prelude.{Option, Some, None, slice_get, slice_index_or, take, drop}
use Rattle.std.specs.List.{AllByRecursion}
use Rattle.std.proofs.Math.Nat.{eq-or-lt_of_le}
use Rattle.std.proofs.lemmas.List.{length-append, length-take-le, map-append, take-append-drop}
use Rattle.ring_laws.specs.Fraction.{Fraction, Same, whole}
use Rattle.ring_laws.proofs.Fractions.{fractions}
use Rattle.frac_laws.specs.declared.frac.Frac.{Frac}
use Rattle.frac_laws.specs.Numbers.{fraction_of}
use Rattle.geo_points.specs.Placements.{Placement, SamePoint, SamePlacement}
use Rattle.geo_points.proofs.Same.{point_trans}
use Rattle.geo_lowering.specs.Lowering.{steps_of}
use Rattle.geo_lowering.specs.StepForms.{StepForm, free, crossing_of, foot_of, along, turned_along, weighted}
use Rattle.geo_lowering.proofs.FormLaws.{AreFormsOver, IsFormOver, past}
use Rattle.geo_lowering.proofs.ConditionValues.{each_append}
use Rattle.geo_lowering.proofs.Puts.{of_path}
use Rattle.geo_lowering.specs.declared.version.Version.TheVariants.{Two}
use Rattle.geo_place.specs.declared.errors.PlaceError.{PlaceError}
use Rattle.geo_place.specs.declared.errors.PlaceError.TheVariants.{NoMemory, TooLarge, Unmet}
use Rattle.geo_place.specs.declared.positions.Position.{Position}
use Rattle.geo_place.specs.declared.sketch.Sketch.{Sketch}
use Rattle.geo_place.specs.Evaluation.{AreAt, TurnOverflows, LineTurn, Succeeds, Turn, at_line, make, makes}
use Rattle.geo_place.specs.Formulas.{IsAt, Spot, step_spot}
use Rattle.geo_place.specs.Inner.{IsSketchOf, Run, Stop, Stops, free_places, placement_of, point_at}
use Rattle.geo_place.specs.Reckonings.{Overflows, IsResult, number}
use Rattle.geo_place.proofs.Alike.{alike_number, alike_refused, step_alike}
use Rattle.geo_place.proofs.Existence.{places_append}
use Rattle.geo_place.proofs.ResultLaws.{moved}
use Rattle.geo_place.proofs.Sketches.{own_position, point_found, position_same}
use Rattle.geo_place.proofs.TestTurns.{agree_back, agree_of}

-- STOPS AMONG MORE TURNS
pub stop_in : (run : Run) (all xs ys zs : List LineTurn) (e : PlaceError) → all ≡ xs ++ ys ++ zs → AllByRecursion (Succeeds run.program run.placed) xs → Stop run ys e → Stop run all e
stop_in run all xs ys zs e parts h s = record {
  before = xs ++ s.before;
  turn = s.turn;
  after = s.after ++ zs;
  parts = parts ∙ ap (λ (ts : List LineTurn). xs ++ ts ++ zs) s.parts ∙ ap (λ (ts : List LineTurn). ts ++ zs) (sym (append_assoc xs s.before (s.turn ∷ s.after)))
      ∙ append_assoc (xs ++ s.before) (s.turn ∷ s.after) zs;
  passed = each_append (Succeeds run.program run.placed) xs s.before h s.passed;
  stops = s.stops;
}

pub stops_in : (run : Run) (all xs ys zs : List LineTurn) (e : PlaceError) → all ≡ xs ++ ys ++ zs → AllByRecursion (Succeeds run.program run.placed) xs → Stops run ys e → Stops run all e
stops_in run all xs ys zs (Unmet k) parts h s = stop_in run all xs ys zs (Unmet k) parts h s
stops_in run all xs ys zs (TooLarge k) parts h s = stop_in run all xs ys zs (TooLarge k) parts h s
stops_in run all xs ys zs NoMemory parts h s = tt

-- LISTS OF STEPS
pub makes_append : (n : ℕ) (fs gs : List StepForm) → makes n (fs ++ gs) ≡ makes n fs ++ makes (n + length fs) gs
makes_append n [] gs = let q : n ≡ n + 0 = omega arith in ap (λ (k : ℕ). makes k gs) q
makes_append n (f ∷ fs) gs =
    let q : suc n + length fs ≡ n + suc (length fs) = omega arith in
    ap (λ (ts : List Turn). make n f ∷ ts) (makes_append (suc n) fs gs ∙ ap (λ (k : ℕ). makes (suc n) fs ++ makes k gs) q)

pub line_append : (line : ℕ) (xs ys : List Turn) → at_line line (xs ++ ys) ≡ at_line line xs ++ at_line line ys
line_append line xs ys = map-append (λ (t : Turn). record { line = line; turn = t }) xs ys

-- one step more
pub take_next : {A : Type 0} (i : ℕ) (xs : List A) (x : A) → slice_get xs i ≡ Some x → take (suc i) xs ≡ take i xs ++ x ∷ []
take_next i [] x e = cc
take_next zero (y ∷ ys) x e = ap (λ (o : Option _). elim o [ None ↦ y ∷ [] | Some z ↦ z ∷ [] ]) e
take_next (suc i) (y ∷ ys) x e = ap (λ (zs : List _). y ∷ zs) (take_next i ys x e)

pub drop_next : {A : Type 0} (i : ℕ) (xs : List A) (x : A) → slice_get xs i ≡ Some x → drop i xs ≡ x ∷ drop (suc i) xs
drop_next i [] x e = cc
drop_next zero (y ∷ ys) x e = ap (λ (o : Option _). elim o [ None ↦ y ∷ ys | Some z ↦ z ∷ ys ]) e
drop_next (suc i) (y ∷ ys) x e = drop_next i ys x e

pub at_place : (placed : Placement) (n : ℕ) (fs : List StepForm) (i : ℕ) (f : StepForm) → AreAt placed n fs → slice_get fs i ≡ Some f
    → IsAt (placed.point (n + i)) (step_spot placed (n + i) f)
at_place placed n [] i f h e = cc
at_place placed n (g ∷ fs) zero f h e =
    let q : n ≡ n + 0 = omega arith in
    let same : g ≡ f = ap (λ (o : Option StepForm). elim o [ None ↦ g | Some z ↦ z ]) e in
    subst (λ k. IsAt (placed.point k) (step_spot placed k f)) q (subst (λ z. IsAt (placed.point n) (step_spot placed n z)) same h.0)
at_place placed n (g ∷ fs) (suc i) f h e =
    let q : suc n + i ≡ n + suc i = omega arith in
    subst (λ k. IsAt (placed.point k) (step_spot placed k f)) q (at_place placed (suc n) fs i f h.1 e)

pub over_place : (n m : ℕ) (fs : List StepForm) (i : ℕ) (f : StepForm) → AreFormsOver n m fs → slice_get fs i ≡ Some f → IsFormOver (n + i) m f
over_place n m [] i f h e = cc
over_place n m (g ∷ fs) zero f h e =
    let q : n ≡ n + 0 = omega arith in
    let same : g ≡ f = ap (λ (o : Option StepForm). elim o [ None ↦ g | Some z ↦ z ]) e in
    subst (λ k. IsFormOver k m f) q (subst (λ z. IsFormOver n m z) same h.0)
over_place n m (g ∷ fs) (suc i) f h e =
    let q : suc n + i ≡ n + suc i = omega arith in
    subst (λ k. IsFormOver k m f) q (over_place (suc n) m fs i f h.1 e)

-- FREE POINTS
-- whether the step leaves its point free
abbrev pub is_free_step : StepForm → Bool
is_free_step free = true
is_free_step (crossing_of u v p q) = false
is_free_step (foot_of p u v) = false
is_free_step (along w u v r) = false
is_free_step (turned_along u v r) = false
is_free_step (weighted o u v r s) = false

-- the place of a free point among those of all steps
pub place_at : (n : ℕ) (fs : List StepForm) (i : ℕ) → slice_get fs i ≡ Some free
    → (slice_index_or (free_places n fs) (length (free_places n (take i fs))) 0 ≡ n + i) × (length (free_places n (take i fs)) < length (free_places n fs))
place_at n [] i e = cc
place_at n (free ∷ fs) zero e = (omega arith, omega arith)
place_at n (crossing_of u v p q ∷ fs) zero e = cc
place_at n (foot_of p u v ∷ fs) zero e = cc
place_at n (along w u v r ∷ fs) zero e = cc
place_at n (turned_along u v r ∷ fs) zero e = cc
place_at n (weighted o u v r s ∷ fs) zero e = cc
place_at n (free ∷ fs) (suc i) e = let h = place_at (suc n) fs i e in let a = h.0 in let b = h.1 in (a ∙ (let q : suc n + i ≡ n + suc i = omega arith in q), omega arith)
place_at n (crossing_of u v p q ∷ fs) (suc i) e = let h = place_at (suc n) fs i e in (h.0 ∙ (let q : suc n + i ≡ n + suc i = omega arith in q), h.1)
place_at n (foot_of p u v ∷ fs) (suc i) e = let h = place_at (suc n) fs i e in (h.0 ∙ (let q : suc n + i ≡ n + suc i = omega arith in q), h.1)
place_at n (along w u v r ∷ fs) (suc i) e = let h = place_at (suc n) fs i e in (h.0 ∙ (let q : suc n + i ≡ n + suc i = omega arith in q), h.1)
place_at n (turned_along u v r ∷ fs) (suc i) e = let h = place_at (suc n) fs i e in (h.0 ∙ (let q : suc n + i ≡ n + suc i = omega arith in q), h.1)
place_at n (weighted o u v r s ∷ fs) (suc i) e = let h = place_at (suc n) fs i e in (h.0 ∙ (let q : suc n + i ≡ n + suc i = omega arith in q), h.1)

-- SKETCHES GROW
pub get_below : {A : Type 0} (xs : List A) (i : ℕ) (x : A) → slice_get xs i ≡ Some x → i < length xs
get_below [] i x e = cc
get_below (y ∷ ys) zero x e = omega arith
get_below (y ∷ ys) (suc i) x e = let h : i < length ys = get_below ys i x e in omega arith

get_last : {A : Type 0} (xs : List A) (x : A) → slice_get (xs ++ x ∷ []) (length xs) ≡ Some x
get_last [] x = refl
get_last (y ∷ ys) x = get_last ys x

get_front : {A : Type 0} (xs ys : List A) (i : ℕ) → i < length xs → slice_get (xs ++ ys) i ≡ slice_get xs i
get_front [] ys i l = absurd (omega arith)
get_front (x ∷ xs) ys zero l = refl
get_front (x ∷ xs) ys (suc i) l = get_front xs ys i (omega arith)

point_same : (a b : Sketch) (k : ℕ) → slice_get a.points.items k ≡ slice_get b.points.items k → (placement_of a).point k ≡ (placement_of b).point k
unfolding placement_of
point_same a b k e = ap (λ (o : Option Position). elim o [ None ↦ record { x = pos 0; y = pos 0; w = 1; positive = lit< tt } | Some s ↦ point_at s ]) e

numbers_same : (a b : Sketch) → a.numbers.items ≡ b.numbers.items → (placement_of a).number ≡ (placement_of b).number
unfolding placement_of
numbers_same a b e = ap (λ (rs : List Frac). λ (k : ℕ). elim (slice_get rs k) [ None ↦ whole (pos 0) | Some r ↦ fraction_of r ]) e

module _ (run : Run) (old new : Sketch) (s : Position) (f : StepForm) (points : new.points.items ≡ old.points.items ++ s ∷ []) (numbers : new.numbers.items ≡ old.numbers.items)
    (frees : new.free ≡ old.free + length (free_places 0 (f ∷ []))) (at : slice_get (steps_of Two run.program) (length old.points.items) ≡ Some f) (h : IsSketchOf run old)
    (there : SamePoint (point_at s) (run.placed.point (length old.points.items))) where
  abbrev n : ℕ
  n = length old.points.items

  grown : length new.points.items ≡ suc n
  grown = ap (λ (xs : List Position). length xs) points ∙ length-append old.points.items (s ∷ []) ∙ (let q : n + 1 ≡ suc n = omega arith in q)

  one_free : (m : ℕ) → length (free_places m (f ∷ [])) ≡ length (free_places 0 (f ∷ []))
  one_free m = go f
    where
      go : (g : StepForm) → length (free_places m (g ∷ [])) ≡ length (free_places 0 (g ∷ []))
      go free = refl
      go (crossing_of u v p q) = refl
      go (foot_of p u v) = refl
      go (along w u v r) = refl
      go (turned_along u v r) = refl
      go (weighted o u v r s) = refl

  abbrev front : List StepForm
  front = take n (steps_of Two run.program)

  free_now : new.free ≡ length (free_places 0 (take (length new.points.items) (steps_of Two run.program)))
  free_now =
      let parts : take (suc n) (steps_of Two run.program) ≡ front ++ f ∷ [] = take_next n (steps_of Two run.program) f at in
      let all : free_places 0 (take (length new.points.items) (steps_of Two run.program)) ≡ free_places 0 front ++ free_places (past 0 front) (f ∷ []) =
      ap (λ (k : ℕ). free_places 0 (take k (steps_of Two run.program))) grown ∙ ap (λ (fs : List StepForm). free_places 0 fs) parts ∙ places_append 0 front (f ∷ []) in
      let a = h.free in let b = one_free (past 0 front) in
      let c : length (free_places 0 (take (length new.points.items) (steps_of Two run.program))) ≡ length (free_places 0 front) + length (free_places (past 0 front) (f ∷ [])) =
      ap (λ (xs : List ℕ). length xs) all ∙ length-append (free_places 0 front) (free_places (past 0 front) (f ∷ [])) in
      omega (arith, a, b, c, frees)

  pub sketch_next : IsSketchOf run new
  sketch_next = record {
    few = let l : n < length (steps_of Two run.program) = get_below (steps_of Two run.program) n f at in let g = grown in omega arith;
    numbers = ap (λ (xs : List Frac). length xs) numbers ∙ h.numbers;
    free = free_now;
    same = record {
      same_points = λ k b.
          ⊎_elim
          (λ (e : k ≡ n). subst (λ i. SamePoint ((placement_of new).point i) (run.placed.point i)) (sym e)
          (point_trans _ _ _ (of_path (point_found new n s (ap (λ (xs : List Position). slice_get xs n) points ∙ get_last old.points.items s))) there))
          (λ (c : k < n). point_trans _ _ _ (of_path (point_same new old k (ap (λ (xs : List Position). slice_get xs k) points ∙ get_front old.points.items (s ∷ []) k c))) (h.same.same_points k c))
          (eq-or-lt_of_le (let g = grown in omega arith));
      same_numbers = λ k b.
          subst (λ (g : ℕ → Fraction). Same (g k) (run.placed.number k)) (sym (numbers_same new old numbers))
          (h.same.same_numbers k (subst (λ (xs : List Frac). k < length xs) numbers b));
    };
  }

-- WHERE THE NEXT POINT IS
module _ (n m : ℕ) (p p' : Placement) (g : SamePlacement n m p p') (f : StepForm) (o : IsFormOver n m f) (d : f ≡ free → ⊥) (at : IsAt (p'.point n) (step_spot p' n f)) where
  abbrev S : Spot
  S = step_spot p n f

  abbrev T : Spot
  T = step_spot p' n f

  -- the position that comes of its step is that of the placement
  pub made_there : (s : Position) → IsResult s.x S.x → IsResult s.y S.y → SamePoint (point_at s) (p'.point n)
  made_there s x y =
      let a = step_alike n m p p' (agree_of n m p p' g) n f (λ e. absurd (d e)) o in
      position_same s (point_at s) (p'.point n) (own_position s)
      (record {
        x = moved s.x (number S.x) _ (fractions.same_trans _ _ _ (alike_number S.x T.x a.0) (fractions.same_sym _ _ at.by_x)) x.is;
        y = moved s.y (number S.y) _ (fractions.same_trans _ _ _ (alike_number S.y T.y a.1) (fractions.same_sym _ _ at.by_y)) y.is;
      })

  pub not_large : (s : Position) → IsResult s.x S.x → IsResult s.y S.y → Overflows T.x ⊎ Overflows T.y → ⊥
  not_large s x y h =
      let b = step_alike n m p' p (agree_back n m p p' g) n f (λ e. absurd (d e)) o in
      ⊎_elim (λ r. x.kept (alike_refused T.x S.x b.0 r)) (λ r. y.kept (alike_refused T.y S.y b.1 r)) h

  pub large_there : Overflows S.x ⊎ Overflows S.y → Overflows T.x ⊎ Overflows T.y
  large_there h =
      let a = step_alike n m p p' (agree_of n m p p' g) n f (λ e. absurd (d e)) o in
      ⊎_elim (λ r. inl (alike_refused S.x T.x a.0 r)) (λ r. inr (alike_refused S.y T.y a.1 r)) h

-- ONE POINT AFTER ANOTHER
-- the first i of these steps
module _ (run : Run) (line n : ℕ) (fs : List StepForm) where
  abbrev Pass : LineTurn → Type 0
  Pass t = Succeeds run.program run.placed t

  abbrev pub made : ℕ → List LineTurn
  made i = at_line line (makes n (take i fs))

  made_next : (i : ℕ) (f : StepForm) → slice_get fs i ≡ Some f → made (suc i) ≡ made i ++ record { line = line; turn = make (n + i) f } ∷ []
  made_next i f e =
      let l : i < length fs = get_below fs i f e in
      let long : length (take i fs) ≡ i = length-take-le i fs (omega arith) in
      ap (λ (gs : List StepForm). at_line line (makes n gs)) (take_next i fs f e) ∙ ap (λ (ts : List Turn). at_line line ts) (makes_append n (take i fs) (f ∷ []))
      ∙ line_append line (makes n (take i fs)) (make (n + length (take i fs)) f ∷ []) ∙ ap (λ (k : ℕ). made i ++ record { line = line; turn = make (n + k) f } ∷ []) long

  pub pass_next : (i : ℕ) (f : StepForm) → slice_get fs i ≡ Some f → AllByRecursion Pass (made i) → (TurnOverflows run.program run.placed (make (n + i) f) → ⊥) → AllByRecursion Pass (made (suc i))
  pass_next i f e h p = subst (λ ts. AllByRecursion Pass ts) (sym (made_next i f e)) (each_append Pass (made i) (record { line = line; turn = make (n + i) f } ∷ []) h ((p, tt), tt))

  pub stop_next : (i : ℕ) (f : StepForm) (e : PlaceError) → slice_get fs i ≡ Some f → AllByRecursion Pass (made i)
      → Stops run (record { line = line; turn = make (n + i) f } ∷ []) e → Stops run (at_line line (makes n fs)) e
  stop_next i f e at h s =
      let l : i < length fs = get_below fs i f at in
      let long : length (take i fs) ≡ i = length-take-le i fs (omega arith) in
      let rest = drop (suc i) fs in
      let parts : fs ≡ take i fs ++ (f ∷ rest) = sym (take-append-drop i fs) ∙ ap (λ (gs : List StepForm). take i fs ++ gs) (drop_next i fs f at) in
      let all : at_line line (makes n fs) ≡ made i ++ (record { line = line; turn = make (n + i) f } ∷ []) ++ at_line line (makes (suc (n + i)) rest) =
      ap (λ (gs : List StepForm). at_line line (makes n gs)) parts ∙ ap (λ (ts : List Turn). at_line line ts) (makes_append n (take i fs) (f ∷ rest))
      ∙ line_append line (makes n (take i fs)) (makes (n + length (take i fs)) (f ∷ rest)) ∙ ap (λ (k : ℕ). made i ++ at_line line (makes (n + k) (f ∷ rest))) long
      ∙ sym (append_assoc (made i) (record { line = line; turn = make (n + i) f } ∷ []) (at_line line (makes (suc (n + i)) rest))) in
      stops_in run (at_line line (makes n fs)) (made i) (record { line = line; turn = make (n + i) f } ∷ []) (at_line line (makes (suc (n + i)) rest)) e all h s
