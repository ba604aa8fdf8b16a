-- Placed points have a drawing, or a line at which a number is too large: the turns are decided one after another.
use Rattle.std.proofs.Common.{◌≡◌, ◌⊎◌, inl, inr, List, [], ◌∷◌, ◌++◌, Result, Ok, Err, refl, ap, subst}
use Rattle.std.specs.List.{AllByRecursion}
use Rattle.std.proofs.lemmas.List.Elements.{All-from_recursion, recursion_from_All}
use Rattle.geo_base.specs.declared.texts.Text.{Text}
use Rattle.geo_place.proofs.Decided.{Decided, reckoning_decided}
use Rattle.geo_place.proofs.ListParts.{each_back}
use Rattle.geo_place.specs.Reckonings.{Overflows, Reckoning}
use Rattle.geo_figure.specs.declared.errors.DrawError.{DrawError}
use Rattle.geo_figure.specs.declared.errors.DrawError.TheVariants.{NoMemory, TooLarge}
use Rattle.geo_figure.specs.Drawing.{DrawTurn, FitsNumbers, IsDrawn, draw_turns, drawing}
use Rattle.geo_figure.specs.Laws.{PointsHaveADrawing}

abbrev Fits : Reckoning → Type 0
Fits e = Overflows e → ⊥

all_decided : (es : List Reckoning) → Decided (AllByRecursion Fits es)
all_decided [] = inl tt
all_decided (e ∷ es) = by (reckoning_decided e) (all_decided es)
  where
    by : Decided (Overflows e) → Decided (AllByRecursion Fits es) → Decided (AllByRecursion Fits (e ∷ es))
    by (inl o) d = inr (λ h. h.0 o)
    by (inr n) (inl h) = inl (n, h)
    by (inr n) (inr m) = inr (λ h. m h.1)

turn_decided : (t : DrawTurn) → Decided (FitsNumbers t)
turn_decided t = by (all_decided t.reckonings)
  where
    by : Decided (AllByRecursion Fits t.reckonings) → Decided (FitsNumbers t)
    by (inl h) = inl (All-from_recursion Fits t.reckonings h)
    by (inr n) = inr (λ h. n (recursion_from_All Fits t.reckonings h))

-- the first turn of which a number is too large
record Stuck (ts : List DrawTurn) : Type 0 where
  before : List DrawTurn
  turn : DrawTurn
  after : List DrawTurn
  parts : ts ≡ before ++ turn ∷ after
  passed : AllByRecursion FitsNumbers before
  refused : FitsNumbers turn → ⊥

walk : (ts : List DrawTurn) → AllByRecursion FitsNumbers ts ⊎ Stuck ts
walk [] = inl tt
walk (t ∷ ts) = by (turn_decided t) (walk ts)
  where
    by : Decided (FitsNumbers t) → AllByRecursion FitsNumbers ts ⊎ Stuck ts → AllByRecursion FitsNumbers (t ∷ ts) ⊎ Stuck (t ∷ ts)
    by (inr n) d = inr (record { before = []; turn = t; after = ts; parts = refl; passed = tt; refused = n })
    by (inl h) (inl all) = inl (h, all)
    by (inl h) (inr s) =
        inr (record {
          before = t ∷ s.before;
          turn = s.turn;
          after = s.after;
          parts = ap (λ (us : List DrawTurn). t ∷ us) s.parts;
          passed = (h, s.passed);
          refused = s.refused;
        })

pub some_drawing : PointsHaveADrawing
some_drawing placed = by (walk (draw_turns placed.points))
  where
    by : AllByRecursion FitsNumbers (draw_turns placed.points) ⊎ Stuck (draw_turns placed.points)
        → (answer : Result Text DrawError) × IsDrawn placed answer × (answer ≡ Err NoMemory → ⊥)
    by (inl all) = (
      Ok (drawing placed),
      (refl, λ line h. h.refused (each_back FitsNumbers h.before (h.turn ∷ h.after) (subst (AllByRecursion FitsNumbers) h.parts all)).0),
      λ q. cc,
    )
    by (inr s) = (
      Err (TooLarge s.turn.line),
      record {
        before = s.before;
        after = s.after;
        turn = s.turn;
        parts = s.parts;
        passed = All-from_recursion FitsNumbers s.before s.passed;
        refused = s.refused;
        same_line = refl;
      },
      λ q. cc,
    )
