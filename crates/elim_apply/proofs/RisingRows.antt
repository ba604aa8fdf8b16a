-- Rows in the order of their variables.
use Rattle.std.proofs.Common.{◌≡◌, cond, Option, Some, None, List, [], ◌∷◌, ◌++◌, map, refl, sym, ap, subst, ◌∙◌, append_assoc}
use Rattle.std.specs.List.{AllByRecursion, cons_option, filter_map}
use Rattle.std.specs.List.Sorted.{IsStrictlySortedBy}
use Rattle.std.specs.Option.{option_map}
use Rattle.std.specs.Ordering.{is_eq}
use Rattle.std.specs.declared.cmp.Ordering.{Ordering}
use Rattle.std.specs.declared.cmp.Ordering.TheVariants.{Less, Equal, Greater}
use Rattle.std.proofs.lemmas.List.{map-append}
use Rattle.fraction_poly.specs.TableRows.{TableRow, row_numbers}
use Rattle.geo_poly.specs.declared.variables.Var.{Var}
use Rattle.geo_poly.specs.Polynomials.{Summands}
use Rattle.geo_poly.specs.PolynomialVariables.{variables_of}
use Rattle.geo_poly.specs.Replace.{row_of}
use Rattle.geo_poly.specs.Variables.{var_cmp}
use Rattle.geo_poly.proofs.Orders.{var_order}
use Rattle.geo_poly.proofs.VariablesInOrder.{IsBelow, below_trans, variables_in_order}
use Rattle.geo_terms.specs.Constructions.{Construction}
use Rattle.geo_logs.specs.declared.moves.Move.{Move}
use Rattle.elim_apply.specs.declared.numbered.NumberedRow.{NumberedRow}
use Rattle.elim_apply.specs.Inner.Sketches.{AreRising, numbered_row, sketched, sketches}
use Rattle.elim_apply.specs.LemmaTable.{row_of_move}

abbrev variables : List NumberedRow → List Var
variables rows = map (λ r. r.var) rows

-- ONE VARIABLE
at_first : (r : NumberedRow) (rows : List NumberedRow) (v : Var) (o : Ordering) → var_cmp r.var v ≡ o
    → row_of (sketches (r ∷ rows)) v ≡ cond (is_eq o) (Some (sketched r)) (row_of (sketches rows) v)
at_first r rows v o e = ap (λ (o : Ordering). cond (is_eq o) (Some (sketched r)) (row_of (sketches rows) v)) e

-- a row of an earlier variable is passed over
row_passed : (r : NumberedRow) (rows : List NumberedRow) (v : Var) → var_cmp r.var v ≡ Less
    → row_of (sketches (r ∷ rows)) v ≡ row_of (sketches rows) v
row_passed r rows v e = at_first r rows v Less e

-- the row of the variable is found
pub row_found : (r : NumberedRow) (rows : List NumberedRow) (v : Var) → var_cmp r.var v ≡ Equal
    → row_of (sketches (r ∷ rows)) v ≡ Some (sketched r)
row_found r rows v e = at_first r rows v Equal e

-- rows of later variables are none of this one
none_below : (rows : List NumberedRow) (v : Var) → IsBelow v (variables rows) → row_of (sketches rows) v ≡ None
none_below [] v h = refl
none_below (r ∷ rows) v h = at_first r rows v Greater (var_order.flip v r.var h.0) ∙ none_below rows v h.1

pub row_missing : (r : NumberedRow) (rows : List NumberedRow) (v : Var) → AreRising (r ∷ rows) → var_cmp r.var v ≡ Greater
    → row_of (sketches (r ∷ rows)) v ≡ None
unfolding IsStrictlySortedBy
row_missing r rows v s e =
    let below : var_cmp v r.var ≡ Less = var_order.flip_back r.var v e in
    none_below (r ∷ rows) v (below, below_trans v r.var (variables rows) below s.0)

-- what the rows behind the first one have for a variable that is behind it
pub behind_first : (left : List NumberedRow) (r : NumberedRow) (rows : List NumberedRow) (v : Var) → left ≡ r ∷ rows → var_cmp r.var v ≡ Less
    → row_of (sketches rows) v ≡ row_of (sketches left) v
behind_first left r rows v first e = sym (row_passed r rows v e) ∙ ap (λ (rs : List NumberedRow). row_of (sketches rs) v) (sym first)

-- the rows behind the first one
pub others_rise : (left : List NumberedRow) (r : NumberedRow) (rows : List NumberedRow) → left ≡ r ∷ rows → AreRising left → AreRising rows
unfolding IsStrictlySortedBy
others_rise left r rows first s = let rising : AreRising (r ∷ rows) = subst AreRising first s in rising.1

-- A WALK
-- the rows that are left rise, and have for each of these variables, which rise too, what all rows have
pub record IsWalk (rows left : List NumberedRow) (vs : List Var) : Type 0 where
  pub rising : AreRising left
  pub in_order : IsStrictlySortedBy var_cmp vs
  pub each : AllByRecursion (λ w. row_of (sketches left) w ≡ row_of (sketches rows) w) vs

each_same : (rows : List NumberedRow) (vs : List Var) → AllByRecursion (λ w. row_of (sketches rows) w ≡ row_of (sketches rows) w) vs
each_same rows [] = tt
each_same rows (v ∷ vs) = (refl, each_same rows vs)

pub walk_begins : (rows : List NumberedRow) (vs : List Var) → AreRising rows → IsStrictlySortedBy var_cmp vs → IsWalk rows rows vs
walk_begins rows vs rising sorted = record { rising = rising; in_order = sorted; each = each_same rows vs }

-- what the rows that are left have for later variables
abbrev pub HaveLater : List NumberedRow → List NumberedRow → Var → Type 0
HaveLater left others v = (w : Var) → var_cmp v w ≡ Less → row_of (sketches others) w ≡ row_of (sketches left) w

each_later : (rows left others : List NumberedRow) (v : Var) (vs : List Var) → HaveLater left others v → IsBelow v vs
    → AllByRecursion (λ w. row_of (sketches left) w ≡ row_of (sketches rows) w) vs
    → AllByRecursion (λ w. row_of (sketches others) w ≡ row_of (sketches rows) w) vs
each_later rows left others v [] later below each = tt
each_later rows left others v (w ∷ vs) later below each = (later w below.0 ∙ each.0, each_later rows left others v vs later below.1 each.1)

pub walk_here : (rows left : List NumberedRow) (us vs : List Var) (v : Var) → us ≡ v ∷ vs → IsWalk rows left us
    → row_of (sketches left) v ≡ row_of (sketches rows) v
walk_here rows left us vs v first walk = let here : IsWalk rows left (v ∷ vs) = subst (IsWalk rows left) first walk in here.each.0

pub walk_on : (rows left others : List NumberedRow) (us vs : List Var) (v : Var) → us ≡ v ∷ vs → IsWalk rows left us
    → AreRising others → HaveLater left others v → IsWalk rows others vs
unfolding IsStrictlySortedBy
walk_on rows left others us vs v first walk rising later =
    let here : IsWalk rows left (v ∷ vs) = subst (IsWalk rows left) first walk in
    record { rising = rising; in_order = here.in_order.1; each = each_later rows left others v vs later here.in_order.0 here.each.1 }

-- one more image on the left, and one fewer on the right
pub one_more : {A B C : Type 0} (f : A → C) (g : B → C) (xs ys : List A) (x : A) (us vs : List B) (v : B) (whole : List C)
    → ys ≡ xs ++ x ∷ [] → us ≡ v ∷ vs → f x ≡ g v → map f xs ++ map g us ≡ whole → map f ys ++ map g vs ≡ whole
one_more {A} {B} {C} f g xs ys x us vs v whole pushed first same so_far =
    ap (λ (l : List A). map f l ++ map g vs) pushed ∙ ap (λ (l : List C). l ++ map g vs) (map-append f xs (x ∷ []))
    ∙ append_assoc (map f xs) (f x ∷ []) (map g vs) ∙ ap (λ (z : C). map f xs ++ z ∷ map g vs) same
    ∙ sym (ap (λ (l : List B). map f xs ++ map g l) first) ∙ so_far

-- THE ROWS OF A MOVE
module _ (c : Construction) (move : Move) where
  below_numbered : (u : Var) (vs : List Var) → IsBelow u vs → IsBelow u (variables (filter_map (numbered_row c move) vs))
  below_numbered u [] h = tt
  below_numbered u (v ∷ vs) h = go (row_of_move c move v) (below_numbered u vs h.1)
    where
      go : (o : Option TableRow) → IsBelow u (variables (filter_map (numbered_row c move) vs))
          → IsBelow u (variables (cons_option (option_map (λ t. record { var = v; numbers = row_numbers t }) o) (filter_map (numbered_row c move) vs)))
      go None rest = rest
      go (Some t) rest = (h.0, rest)

  numbered_rise : (vs : List Var) → IsStrictlySortedBy var_cmp vs → AreRising (filter_map (numbered_row c move) vs)
  unfolding IsStrictlySortedBy
  numbered_rise [] s = tt
  numbered_rise (v ∷ vs) s = go (row_of_move c move v) (below_numbered v vs s.0) (numbered_rise vs s.1)
    where
      go : (o : Option TableRow) → IsBelow v (variables (filter_map (numbered_row c move) vs)) → AreRising (filter_map (numbered_row c move) vs)
          → AreRising (cons_option (option_map (λ t. record { var = v; numbers = row_numbers t }) o) (filter_map (numbered_row c move) vs))
      go None below rest = rest
      go (Some t) below rest = (below, rest)

  -- the rows that the move has for a polynomial
  pub rows_rise : (q : Summands) → AreRising (filter_map (numbered_row c move) (variables_of q))
  rows_rise q = numbered_rise (variables_of q) (variables_in_order q)
