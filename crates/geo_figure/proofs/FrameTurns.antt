-- What comes of frames and cells, point by point.
use Rattle.std.proofs.Common.{◌≡◌, ◌≢◌, ◌⊎◌, ⊎_elim, ℕ, suc, ◌+◌, ◌-◌, ◌<◌, ◌≤◌, true, false, List, [], ◌∷◌, ◌++◌, length, get_or, map, refl, sym, ◌∙◌, ap, subst, append_assoc, arith}
use Rattle.std.specs.Prelude.{IfErr, IfOk, IsErr, Result, Ok, Err, slice_index, take, drop}
use Rattle.std.specs.List.{AllByRecursion}
use Rattle.std.proofs.lemmas.List.{map-append, take_more}
use Rattle.geo_place.proofs.ItemTests.{parted}
use Rattle.geo_place.proofs.ListParts.{each_append, each_back, each_front}
use Rattle.std.proofs.lemmas.List.Elements.{All-from_recursion, recursion_from_All}
use Rattle.ring_laws.specs.Fraction.{Fraction}
use Rattle.frac_laws.specs.declared.frac.Frac.{Frac}
use Rattle.frac_laws.specs.declared.frac.FracTooLarge.{FracTooLarge}
use Rattle.frac_laws.specs.Numbers.{IsNumber}
use Rattle.geo_place.specs.Reckonings.{Overflows, Reckoning, known, ◌⊖◌}
use Rattle.geo_place.specs.declared.placed.At.{At}
use Rattle.geo_figure.specs.declared.bounds.CoordinateBounds.{CoordinateBounds}
use Rattle.geo_figure.specs.declared.bounds.PictureFrame.{PictureFrame}
use Rattle.geo_figure.specs.declared.cells.Cell.{Cell}
use Rattle.geo_figure.specs.declared.errors.DrawError.{DrawError}
use Rattle.geo_figure.specs.declared.errors.DrawError.TheVariants.{NoMemory, TooLarge}
use Rattle.geo_figure.specs.Bounds.{greatest, least}
use Rattle.geo_figure.specs.Drawing.{DrawTurn, FitsNumbers, bound_turn, bound_turns, differences, share_turn, shares, step_of, x_of, y_of}
use Rattle.geo_figure.specs.Inner.{AreBounds, AreKept, AreWider, IsCellOf, IsFrame, IsGreater, IsLesser, IsStep, IsWiderFrame, Stop, Stops}
use Rattle.geo_figure.proofs.BoundLaws.{greatest_next, least_next}

-- ALL OF TWO LISTS
abbrev Kept : Reckoning → Type 0
Kept e = Overflows e → ⊥

pub kept_both : (xs ys : List Reckoning) → AreKept xs → AreKept ys → AreKept (xs ++ ys)
kept_both xs ys h k = All-from_recursion Kept (xs ++ ys) (each_append Kept xs ys (recursion_from_All Kept xs h) (recursion_from_All Kept ys k))

pub kept_left : (xs ys : List Reckoning) → AreKept (xs ++ ys) → AreKept xs
kept_left xs ys h = All-from_recursion Kept xs (each_front Kept xs ys (recursion_from_All Kept (xs ++ ys) h))

pub kept_right : (xs ys : List Reckoning) → AreKept (xs ++ ys) → AreKept ys
kept_right xs ys h = All-from_recursion Kept ys (each_back Kept xs ys (recursion_from_All Kept (xs ++ ys) h))

-- BOUNDS

module _ (bounds : CoordinateBounds) (xs : List Fraction) (a : Fraction) (n : xs ≢ []) where
  two_kept : (ys : List Fraction) → Kept (known a ⊖ known (least ys)) → Kept (known a ⊖ known (greatest ys)) → AreKept (differences ys a)
  two_kept [] p q = All-from_recursion Kept [] tt
  two_kept (y ∷ ys) p q = All-from_recursion Kept (differences (y ∷ ys) a) (p, (q, tt))

  first_refused : (ys : List Fraction) → ys ≢ [] → Overflows (known a ⊖ known (least ys)) → AreKept (differences ys a) → ⊥
  first_refused [] n r k = n refl
  first_refused (y ∷ ys) n r k = (recursion_from_All Kept (differences (y ∷ ys) a) k).0 r

  second_refused : (ys : List Fraction) → ys ≢ [] → Overflows (known a ⊖ known (greatest ys)) → AreKept (differences ys a) → ⊥
  second_refused [] n r k = n refl
  second_refused (y ∷ ys) n r k = (recursion_from_All Kept (differences (y ∷ ys) a) k).1.0 r

  pub wider_found : (L G : Result Frac FracTooLarge) → IsLesser (least xs) a L → IsGreater (greatest xs) a G → (r : Result CoordinateBounds FracTooLarge)
      → IfOk r (λ b. (L ≡ Ok b.least) × (G ≡ Ok b.greatest)) → (IsErr r → IsErr L ⊎ IsErr G) → AreWider xs a r
  wider_found L G l g (Ok b) ok err =
      let p = subst (λ z. IsLesser (least xs) a z) ok.0 l in
      let q = subst (λ z. IsGreater (greatest xs) a z) ok.1 g in (
        record {
          least = subst (λ z. IsNumber b.least z) (sym (least_next xs a n)) p.0;
          greatest = subst (λ z. IsNumber b.greatest z) (sym (greatest_next xs a n)) q.0;
        },
        two_kept xs p.1 q.1,
      )
  wider_found (Ok l') (Ok g') l g (Err e) ok err = absurd (⊎_elim (λ z. no_err l' z) (λ z. no_err g' z) (err refl))
    where
      no_err : (r : Frac) → IsErr {E = FracTooLarge} (Ok r) → ⊥
      no_err r h = let z : false ≡ true = h in cc
  wider_found (Err e') G l g (Err e) ok err = λ k. first_refused xs n l k
  wider_found (Ok l') (Err e') l g (Err e) ok err = λ k. second_refused xs n g k

-- FRAMES
pub no_points : (points : List At) (f : At → Fraction) → points ≢ [] → map f points ≢ []
no_points [] f n e = n refl
no_points (p ∷ ps) f n e = cc

module _ (at : At) (points : List At) where
  pub joined : (f : At → Fraction) → map f (points ++ at ∷ []) ≡ map f points ++ f at ∷ []
  joined f = map-append f points (at ∷ [])

  abbrev turn : DrawTurn
  turn = bound_turn points at

  alone : (t : DrawTurn) → (FitsNumbers t → ⊥) → t.line ≡ at.line → Stop (t ∷ []) at.line
  alone t h l = record { before = []; turn = t; after = []; parts = refl; passed = tt; refused = h; same_line = l }

  pub frame_found : (X Y : Result CoordinateBounds FracTooLarge) → AreWider (map x_of points) (x_of at) X → AreWider (map y_of points) (y_of at) Y → (r : Result PictureFrame DrawError)
      → IfOk r (λ f. (X ≡ Ok f.x) × (Y ≡ Ok f.y)) → IfErr r (λ e. (e ≡ TooLarge at.line) × (IsErr X ⊎ IsErr Y)) → IsWiderFrame points at r
  frame_found X Y x y (Ok f) ok err =
      let p = subst (λ z. AreWider (map x_of points) (x_of at) z) ok.0 x in
      let q = subst (λ z. AreWider (map y_of points) (y_of at) z) ok.1 y in (
        record { x = subst (λ zs. AreBounds f.x zs) (sym (joined x_of)) p.0; y = subst (λ zs. AreBounds f.y zs) (sym (joined y_of)) q.0 },
        kept_both (differences (map x_of points) (x_of at)) (differences (map y_of points) (y_of at)) p.1 q.1,
      )
  frame_found (Err e') Y x y (Err e) ok err =
      subst (λ z. Stops (turn ∷ []) z) (sym err.0)
      (alone turn (λ k. x (kept_left (differences (map x_of points) (x_of at)) (differences (map y_of points) (y_of at)) k)) refl)
  frame_found (Ok b) (Err e') x y (Err e) ok err =
      subst (λ z. Stops (turn ∷ []) z) (sym err.0)
      (alone turn (λ k. y (kept_right (differences (map x_of points) (x_of at)) (differences (map y_of points) (y_of at)) k)) refl)
  frame_found (Ok b) (Ok d) x y (Err e) ok err = absurd (⊎_elim (λ z. no_err b z) (λ z. no_err d z) err.1)
    where
      no_err : (r : CoordinateBounds) → IsErr {E = FracTooLarge} (Ok r) → ⊥
      no_err r h = let z : false ≡ true = h in cc

-- a first point
pub first_frame : (at : At) (f : PictureFrame) → IsFrame f (at ∷ []) → (points : List At) → points ≡ [] → IsWiderFrame points at (Ok f)
first_frame at f h [] e = (h, All-from_recursion Kept [] tt)
first_frame at f h (p ∷ ps) e = cc

-- CELLS
module _ (all : List At) (at : At) where
  pub cell_found : (C H : Result ℕ FracTooLarge) → IsStep 40 (map x_of all) (x_of at) C → IsStep 20 (map y_of all) (y_of at) H → (letter : ℕ) → letter ≡ slice_index at.name 0
      → (r : Result Cell DrawError) → IfOk r (λ c. (C ≡ Ok c.column) × (c.letter ≡ letter) × IfOk H (λ k. c.line ≡ 20 - k) × (IsErr H → ⊥))
      → IfErr r (λ e. (e ≡ TooLarge at.line) × (IsErr C ⊎ IsErr H)) → IsCellOf all at r
  cell_found C (Ok k) x y letter l (Ok c) ok err =
      let p = subst (λ z. IsStep 40 (map x_of all) (x_of at) z) ok.0 x in
      let column : c.column ≡ step_of 40 (map x_of all) (x_of at) = p.0 in
      let line : c.line ≡ 20 - step_of 20 (map y_of all) (y_of at) = ok.2 ∙ ap (λ (i : ℕ). 20 - i) y.0 in
      let same : c.letter ≡ slice_index at.name 0 = ok.1 ∙ l in (
        (λ i. record { column = column i; line = line i; letter = same i }),
        kept_both (shares 40 (map x_of all) (x_of at)) (shares 20 (map y_of all) (y_of at)) p.1 y.1,
      )
  cell_found C (Err e) x y letter l (Ok c) ok err = absurd (ok.3 refl)
  cell_found (Err e') H x y letter l (Err e) ok err =
      subst (λ z. Stops (share_turn all at ∷ []) z) (sym err.0)
      (alone at [] (share_turn all at) (λ k. x (kept_left (shares 40 (map x_of all) (x_of at)) (shares 20 (map y_of all) (y_of at)) k)) refl)
  cell_found (Ok b) (Err e') x y letter l (Err e) ok err =
      subst (λ z. Stops (share_turn all at ∷ []) z) (sym err.0)
      (alone at [] (share_turn all at) (λ k. y (kept_right (shares 40 (map x_of all) (x_of at)) (shares 20 (map y_of all) (y_of at)) k)) refl)
  cell_found (Ok b) (Ok d) x y letter l (Err e) ok err = absurd (⊎_elim (λ z. no_err b z) (λ z. no_err d z) err.1)
    where
      no_err : (r : ℕ) → IsErr {E = FracTooLarge} (Ok r) → ⊥
      no_err r h = let z : false ≡ true = h in cc

-- ONE TURN AFTER ANOTHER
pub stop_in : (all xs ys zs : List DrawTurn) (e : DrawError) → all ≡ xs ++ ys ++ zs → AllByRecursion FitsNumbers xs → Stops ys e → Stops all e
stop_in all xs ys zs NoMemory parts h s = tt
stop_in all xs ys zs (TooLarge line) parts h s = record {
  before = xs ++ s.before;
  turn = s.turn;
  after = s.after ++ zs;
  parts = parts ∙ ap (λ (ts : List DrawTurn). xs ++ ts ++ zs) s.parts ∙ ap (λ (ts : List DrawTurn). ts ++ zs) (sym (append_assoc xs s.before (s.turn ∷ s.after)))
      ∙ append_assoc (xs ++ s.before) (s.turn ∷ s.after) zs;
  passed = each_append FitsNumbers xs s.before h s.passed;
  refused = s.refused;
  same_line = s.same_line;
}

pub bounds_append : (before xs ys : List At) → bound_turns before (xs ++ ys) ≡ bound_turns before xs ++ bound_turns (before ++ xs) ys
bounds_append before [] ys = ap (λ (zs : List At). bound_turns zs ys) (sym (append-nil' before))
  where
    append-nil' : (zs : List At) → zs ++ [] ≡ zs
    append-nil' [] = refl
    append-nil' (z ∷ zs) = ap (λ (ws : List At). z ∷ ws) (append-nil' zs)
bounds_append before (x ∷ xs) ys =
    ap (λ (ts : List DrawTurn). bound_turn before x ∷ ts)
    (bounds_append (before ++ x ∷ []) xs ys ∙ ap (λ (zs : List At). bound_turns (before ++ x ∷ []) xs ++ bound_turns zs ys) (append_assoc before (x ∷ []) xs))

pub no_more : (xs ys : List DrawTurn) → xs ++ ys ≡ xs ++ ys ++ []
no_more xs ys = sym (nil (xs ++ ys))
  where
    nil : (ts : List DrawTurn) → ts ++ [] ≡ ts
    nil [] = refl
    nil (t ∷ ts) = ap (λ (us : List DrawTurn). t ∷ us) (nil ts)

pub if_err : {T E : Type 0} (r : Result T E) (P Q : E → Type 0) → ((e : E) → P e → Q e) → IfErr r P → IfErr r Q
if_err (Ok t) P Q f h = tt
if_err (Err e) P Q f h = f e h

pub first_byte : (text : List ℕ) (x : ℕ) → 1 ≤ length text → x ≡ get_or text 0 x → x ≡ slice_index text 0
first_byte [] x l e = absurd (omega (arith, l))
first_byte (b ∷ bs) x l e = e

-- POINT BY POINT
module _ (points : List At) (k : ℕ) (at : At) (l : k < length points) (e : at ≡ get_or points k at) where
  abbrev before : List At
  before = take k points

  whole : points ≡ before ++ at ∷ drop (suc k) points
  whole = parted points k at l e

  more : take (k + 1) points ≡ before ++ at ∷ []
  more = take_more points k at l ∙ ap (λ (a : At). before ++ a ∷ []) (sym e)

  some : (xs : List At) → xs ++ at ∷ [] ≢ []
  some [] q = cc
  some (x ∷ xs) q = cc

  turns_more : bound_turns [] (before ++ at ∷ []) ≡ bound_turns [] before ++ bound_turn before at ∷ []
  turns_more = bounds_append [] before (at ∷ [])

  -- the frame of one point more
  pub record NextFrame (f : PictureFrame) : Type 0 where
    pub frame : (take (k + 1) points ≢ []) × IsFrame f (take (k + 1) points)
    pub passed : AllByRecursion FitsNumbers (bound_turns [] (take (k + 1) points))

  pub frame_next : (f : PictureFrame) → IsWiderFrame before at (Ok f) → AllByRecursion FitsNumbers (bound_turns [] before) → NextFrame f
  frame_next f h p = record {
    frame = subst (λ (ps : List At). (ps ≢ []) × IsFrame f ps) (sym more) (some before, h.0);
    passed =
        subst (λ (ps : List At). AllByRecursion FitsNumbers (bound_turns [] ps)) (sym more)
        (subst (λ (ts : List DrawTurn). AllByRecursion FitsNumbers ts) (sym turns_more) (each_append FitsNumbers (bound_turns [] before) (bound_turn before at ∷ []) p (h.1, tt)));
  }

  pub frame_stops : (x : DrawError) → IsWiderFrame before at (Err x) → AllByRecursion FitsNumbers (bound_turns [] before) → Stops (bound_turns [] points) x
  frame_stops x h p =
      stop_in (bound_turns [] points) (bound_turns [] before) (bound_turn before at ∷ []) (bound_turns (before ++ at ∷ []) (drop (suc k) points)) x
      (ap (λ (ps : List At). bound_turns [] ps) whole ∙ bounds_append [] before (at ∷ drop (suc k) points)
      ∙ sym (append_assoc (bound_turns [] before) (bound_turn before at ∷ []) (bound_turns (before ++ at ∷ []) (drop (suc k) points)))) p h

  pub cells_stop : (all : List At) (x : DrawError) → IsCellOf all at (Err x) → AllByRecursion FitsNumbers (map (share_turn all) before) → Stops (map (share_turn all) points) x
  cells_stop all x h p =
      stop_in (map (share_turn all) points) (map (share_turn all) before) (share_turn all at ∷ []) (map (share_turn all) (drop (suc k) points)) x
      (ap (λ (ps : List At). map (share_turn all) ps) whole ∙ map-append (share_turn all) before (at ∷ drop (suc k) points)
      ∙ sym (append_assoc (map (share_turn all) before) (share_turn all at ∷ []) (map (share_turn all) (drop (suc k) points)))) p h
