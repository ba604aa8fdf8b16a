-- The tests of items are the turns of the conditions that they are listed for.
use Rattle.std.proofs.Common.{◌≡◌, ℕ, suc, ◌+◌, pos, List, [], ◌∷◌, ◌++◌, length, map, refl, sym, ◌∙◌, ap, subst, append_assoc, arith}
use Rattle.std.specs.List.{AllByRecursion}
use Rattle.std.proofs.lemmas.List.{length-append, map-append}
use Rattle.ring_laws.specs.Fraction.{IsNonzero, Same, whole}
use Rattle.ring_laws.proofs.Fractions.{fractions}
use Rattle.geo_points.specs.Placements.{Placement, SamePlacement}
use Rattle.geo_points.proofs.Same.{flip_point}
use Rattle.geo_points.proofs.Zeros.{not_same}
use Rattle.geo_terms.specs.Stores.{Store, tree_of}
use Rattle.geo_terms.specs.Trees.{Tree}
use Rattle.geo_lowering.specs.Conditions.{Condition}
use Rattle.geo_lowering.specs.Lowering.{layout_of}
use Rattle.geo_lowering.proofs.ConditionValues.{each_append, each_back, each_front}
use Rattle.geo_lowering.proofs.Values.{AgreeBelow, IsOver}
use Rattle.geo_lowering.specs.declared.version.Version.TheVariants.{Two}
use Rattle.geo_conditions.specs.declared.items.Item.{Item}
use Rattle.geo_conditions.specs.Lists.{AreConditions, Found, IsListed, ItemForm, condition_item, found_at, item_form}
use Rattle.geo_conditions.specs.Terms.{condition_term}
use Rattle.geo_place.specs.declared.errors.PlaceError.{PlaceError}
use Rattle.geo_place.specs.declared.errors.PlaceError.TheVariants.{NoMemory, TooLarge, Unmet}
use Rattle.geo_place.specs.declared.sketch.Sketch.{Sketch}
use Rattle.geo_place.specs.Evaluation.{LineTurn, Succeeds, at_line, test}
use Rattle.geo_place.specs.Formulas.{reckoned}
use Rattle.geo_place.specs.Inner.{FailsItem, FirstFails, IsItemMet, IsPassed, Run, Stop, StopsAt, Stops, placement_of}
use Rattle.geo_place.specs.Reckonings.{Overflows, number}
use Rattle.geo_place.proofs.Alike.{alike_number, alike_refused, term_alike}
use Rattle.geo_place.proofs.Inverses.{nonzero_same}
use Rattle.geo_place.proofs.ListParts.{beside, first_fresh, fresh_hold, head_of, none_before, same_length, tail_of}
use Rattle.geo_conditions.proofs.Listings.{all_hold}

-- the same placement, as lemmas on terms take it
pub agree_of : (n m : ℕ) (p p' : Placement) → SamePlacement n m p p' → AgreeBelow n m p p'
agree_of n m p p' g = record { points = g.same_points; numbers = g.same_numbers }

pub agree_back : (n m : ℕ) (p p' : Placement) → SamePlacement n m p p' → AgreeBelow n m p' p
agree_back n m p p' g = record { points = λ k b. flip_point _ _ (g.same_points k b); numbers = λ k b. fractions.same_sym _ _ (g.same_numbers k b) }

-- what comes of a term in one placement comes of it in the other
module _ (n m : ℕ) (p p' : Placement) (g : SamePlacement n m p p') (t : Tree) (o : IsOver n m t) where
  pub refused_there : Overflows (reckoned p t) → Overflows (reckoned p' t)
  refused_there h = alike_refused (reckoned p t) (reckoned p' t) (term_alike n m p p' (agree_of n m p p' g) t o) h

  pub refused_here : Overflows (reckoned p' t) → Overflows (reckoned p t)
  refused_here h = alike_refused (reckoned p' t) (reckoned p t) (term_alike n m p' p (agree_back n m p p' g) t o) h

  pub same_there : Same (number (reckoned p t)) (number (reckoned p' t))
  same_there = alike_number (reckoned p t) (reckoned p' t) (term_alike n m p p' (agree_of n m p p' g) t o)

-- TURNS OF CONDITIONS
abbrev pub found_turn : Found → LineTurn
found_turn f = record { line = f.line; turn = test f.condition }

pub tests_found : (line : ℕ) (cs : List Condition) → at_line line (map test cs) ≡ map found_turn (found_at line cs)
tests_found line [] = refl
tests_found line (c ∷ cs) = ap (λ (ts : List LineTurn). record { line = line; turn = test c } ∷ ts) (tests_found line cs)

module _ (run : Run) where
  abbrev Pass : LineTurn → Type 0
  Pass t = Succeeds run.program run.placed t

  found_pass : (fs : List Found) → AllByRecursion (λ f. IsPassed run f.condition) fs → AllByRecursion Pass (map found_turn fs)
  found_pass [] h = tt
  found_pass (f ∷ fs) h = (h.0, found_pass fs h.1)

  abbrev key : Found → Condition
  key f = f.condition

  module _ (sketch : Sketch) (nodes : Store) (n m : ℕ) (g : SamePlacement n m (placement_of sketch) run.placed) where
    abbrev Over : Condition → Type 0
    Over c = IsOver n m (condition_term (layout_of Two run.program.commands) c)

    abbrev FoundOver : Found → Type 0
    FoundOver f = Over f.condition

    term_is : (item : Item) (f : Found) → item_form nodes item ≡ condition_item Two run.program f → tree_of nodes item.term ≡ condition_term (layout_of Two run.program.commands) f.condition
    term_is item f e = ap (λ (i : ItemForm). i.term) e

    item_passes : (item : Item) (f : Found) → item_form nodes item ≡ condition_item Two run.program f → FoundOver f → IsItemMet sketch nodes item → IsPassed run f.condition
    item_passes item f e o h =
        let t = condition_term (layout_of Two run.program.commands) f.condition in
        let k = subst (λ u. (Overflows (reckoned (placement_of sketch) u) → ⊥) × IsNonzero (number (reckoned (placement_of sketch) u))) (term_is item f e) h in
        (λ r. k.0 (refused_here n m (placement_of sketch) run.placed g t o r), nonzero_same _ _ (same_there n m (placement_of sketch) run.placed g t o) k.1)

    items_pass : (items : List Item) (fs : List Found) → map (item_form nodes) items ≡ map (condition_item Two run.program) fs → AllByRecursion FoundOver fs
        → AllByRecursion (IsItemMet sketch nodes) items → AllByRecursion (λ f. IsPassed run f.condition) fs
    items_pass items [] e o h = tt
    items_pass [] (f ∷ fs) e o h = absurd (none_before [] (condition_item Two run.program f) (map (condition_item Two run.program) fs) (sym e))
    items_pass (item ∷ items) (f ∷ fs) e o h = (item_passes item f (head_of e) o.0 h.0, items_pass items fs (tail_of e) o.1 h.1)

    found_over : (line : ℕ) (cs : List Condition) → AllByRecursion Over cs → AllByRecursion FoundOver (found_at line cs)
    found_over line [] h = tt
    found_over line (c ∷ cs) h = (h.0, found_over line cs h.1)

    condition_pass : (line : ℕ) (cs : List Condition) → AllByRecursion (λ f. IsPassed run f.condition) (found_at line cs) → AllByRecursion Pass (at_line line (map test cs))
    condition_pass line [] h = tt
    condition_pass line (c ∷ cs) h = (h.0, condition_pass line cs h.1)

    module _ (line : ℕ) (cs : List Condition) (old more : List Found) (l : IsListed key old (found_at line cs) (old ++ more))
        (held : AllByRecursion (λ f. IsPassed run f.condition) old) (o : AllByRecursion Over cs) (items : List Item)
        (e : map (item_form nodes) items ≡ map (condition_item Two run.program) more) where
      more_over : AllByRecursion FoundOver more
      more_over = fresh_hold key FoundOver (found_at line cs) old more l (found_over line cs o)

      -- where all items are met, all tests pass
      pub tests_held : AllByRecursion (IsItemMet sketch nodes) items → AllByRecursion (λ f. IsPassed run f.condition) (old ++ more)
      tests_held h = each_append (λ f. IsPassed run f.condition) old more held (items_pass items more e more_over h)

      pub tests_pass : AllByRecursion (IsItemMet sketch nodes) items → AllByRecursion Pass (at_line line (map test cs))
      tests_pass h = condition_pass line cs (all_hold key (IsPassed run) (found_at line cs) old (old ++ more) l (tests_held h)).1

      -- and the first that is not met stops evaluation
      module _ (later : List Found) (all : run.conditions ≡ (old ++ more) ++ later) (listed : AreConditions run.program run.conditions) where
        stop_at : (item : Item) (b : List Found) (f : Found) (a : List Found) (k : ℕ) → more ≡ b ++ f ∷ a → item_form nodes item ≡ condition_item Two run.program f → FoundOver f
            → k ≡ suc (length (old ++ b)) → (error : PlaceError) → FailsItem sketch nodes item k error → (error ≡ NoMemory → ⊥) → StopsAt run (found_turn f) error
        stop_at item b f a k parts same o place (Unmet j) h d =
            let t = condition_term (layout_of Two run.program.commands) f.condition in
            let q = subst (λ u. (Overflows (reckoned (placement_of sketch) u) → ⊥) × Same (number (reckoned (placement_of sketch) u)) (whole (pos 0))) (term_is item f same) h.1 in
            let split : run.conditions ≡ (old ++ b) ++ f ∷ (a ++ later) =
            all ∙ ap (λ (zs : List Found). (old ++ zs) ++ later) parts ∙ ap (λ (zs : List Found). zs ++ later) (sym (append_assoc old b (f ∷ a))) ∙ append_assoc (old ++ b) (f ∷ a) later in (
              f.condition,
              refl,
              record { earlier = old ++ b; later = a ++ later; line = f.line; listed = subst (λ fs. AreConditions run.program fs) split listed; place = h.0 ∙ place },
              λ x. q.0 (refused_here n m (placement_of sketch) run.placed g t o x),
              λ x. not_same _ x (fractions.same_trans _ _ _ (fractions.same_sym _ _ (same_there n m (placement_of sketch) run.placed g t o)) q.1),
            )
        stop_at item b f a k parts same o place (TooLarge line') h d =
            let t = condition_term (layout_of Two run.program.commands) f.condition in (
              ap (λ (i : ItemForm). i.line) (sym same) ∙ sym h.0,
              refused_there n m (placement_of sketch) run.placed g t o (subst (λ u. Overflows (reckoned (placement_of sketch) u)) (term_is item f same) h.1),
            )
        stop_at item b f a k parts same o place NoMemory h d = absurd (d refl)

        stop_found : (error : PlaceError) → FirstFails sketch nodes items (length old) error → (error ≡ NoMemory → ⊥) → Stop run (at_line line (map test cs)) error
        stop_found error h d =
            let s = beside (item_form nodes) (condition_item Two run.program) h.before h.item h.after more
            (subst (λ is. map (item_form nodes) is ≡ map (condition_item Two run.program) more) h.parts e) in
            let over = subst (λ fs. AllByRecursion FoundOver fs) s.parts more_over in
            let b = items_pass h.before s.before s.same_before (each_front FoundOver s.before (s.item ∷ s.after) over) h.met in
            let first = first_fresh key (IsPassed run) (found_at line cs) old s.before s.item s.after (subst (λ fs. IsListed key old (found_at line cs) (old ++ fs)) s.parts l) held b in
            let long : suc (length old + length h.before) ≡ suc (length (old ++ s.before)) =
            let p = same_length (item_form nodes) (condition_item Two run.program) h.before s.before s.same_before in let q = length-append old s.before in omega arith in
            record {
              before = map found_turn first.before;
              turn = found_turn s.item;
              after = map found_turn first.after;
              parts = tests_found line cs ∙ ap (λ (fs : List Found). map found_turn fs) first.parts ∙ map-append found_turn first.before (s.item ∷ first.after);
              passed = found_pass first.before first.good;
              stops = stop_at h.item s.before s.item s.after (suc (length old + length h.before)) s.parts s.same (each_back FoundOver s.before (s.item ∷ s.after) over).0 long error h.fails d;
            }

        pub tests_stop : (error : PlaceError) → FirstFails sketch nodes items (length old) error → Stops run (at_line line (map test cs)) error
        tests_stop (Unmet k) h = stop_found (Unmet k) h (λ e. cc)
        tests_stop (TooLarge k) h = stop_found (TooLarge k) h (λ e. cc)
        tests_stop NoMemory h = tt
