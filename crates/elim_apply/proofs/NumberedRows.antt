-- The rows that a move has for a list of variables, and their numbers.
use Rattle.std.proofs.Common.{◌≡◌, ℕ, ◌+◌, ◌^◌, ◌<◌, ◌≤◌, Option, Some, None, List, [], ◌∷◌, ◌++◌, length, get_or, take, map, refl, sym, ap, ap₂, subst, ◌∙◌, arith}
use Rattle.std.specs.Prelude.{All, IfSome, IsSomeAnd}
use Rattle.std.specs.List.{cons_option, filter_map}
use Rattle.std.specs.Option.{option_map}
use Rattle.std.proofs.lemmas.List.{append-nil, map-append, take_more}
use Rattle.std.proofs.lemmas.List.Elements.{All-cons, All-nil, filter_map-append}
use Rattle.fraction_poly.specs.declared.table.RowNumbers.{RowNumbers}
use Rattle.fraction_poly.specs.Forms.{Form, piece_of}
use Rattle.fraction_poly.specs.Measures.{capped_number}
use Rattle.fraction_poly.specs.TableRows.{AreLight, HasPointsBelow, RowFits, TableRow, made_row, row_numbers}
use Rattle.fraction_poly.proofs.PieceBounds.{bounded_form}
use Rattle.fraction_poly.proofs.TableLemmas.{fits_of_numbers}
use Rattle.geo_poly.specs.declared.rows.Row.{Row}
use Rattle.geo_poly.specs.declared.variables.Var.{Var}
use Rattle.geo_poly.specs.declared.variables.Var.TheVariants.{R, S, P, X, Y, T}
use Rattle.geo_poly.specs.Replace.{AllBounded, AllPowersSmall, IsBounded}
use Rattle.geo_poly.proofs.EachVariable.{EachIn}
use Rattle.geo_terms.specs.Constructions.{Construction}
use Rattle.area_coords.proofs.FreeSoundness.{free_rows_light}
use Rattle.area_coords.specs.FreeTable.{free_table}
use Rattle.elim_area.proofs.AreaSoundness.{area_rows_light}
use Rattle.elim_area.specs.AreaTable.{area_table}
use Rattle.elim_pyth.proofs.DifferenceSoundness.{difference_rows_light}
use Rattle.elim_pyth.specs.DifferenceTable.{difference_table}
use Rattle.elim_ratio.proofs.RatioSoundness.{ratio_rows_light}
use Rattle.elim_ratio.specs.RatioTable.{ratio_table}
use Rattle.geo_logs.specs.declared.moves.Move.{Move}
use Rattle.geo_logs.specs.declared.moves.Move.TheVariants.{Ratio, Point, Coords}
use Rattle.elim_apply.specs.declared.numbered.NumberedRow.{NumberedRow}
use Rattle.elim_apply.specs.Kept.{CanBeMade, IsRowOf}
use Rattle.elim_apply.specs.LemmaTable.{lemma_table, move_denominator, row_of_move}
use Rattle.elim_apply.specs.Inner.Sketches.{numbered_row, sketched_denominator, sketches}
use Rattle.elim_apply.proofs.CappedRows.{capped_piece, capped_row, capped_rows}
use Rattle.elim_apply.proofs.LemmaTableSound.{by_own, some_of}
use Rattle.elim_apply.proofs.TableCharges.{denominators_agree}

each_row : (o : Option TableRow) (Q : TableRow → Type 0) → ((t : TableRow) → o ≡ Some t → Q t) → IfSome o Q
each_row None Q h = tt
each_row (Some t) Q h = h t refl

-- a list is known by the list of its options
all_some : {A : Type 0} (xs ys : List A) → map Some xs ≡ map Some ys → xs ≡ ys
all_some [] [] e = refl
all_some {A} [] (y ∷ ys) e = absurd (let z : ◌≡◌ {A = List (Option A)} [] (Some y ∷ map Some ys) = e in cc)
all_some {A} (x ∷ xs) [] e = absurd (let z : ◌≡◌ {A = List (Option A)} (Some x ∷ map Some xs) [] = e in cc)
all_some {A} (x ∷ xs) (y ∷ ys) e =
    let z : ◌≡◌ {A = List (Option A)} (Some x ∷ map Some xs) (Some y ∷ map Some ys) = e in
    let left : map Some xs ≡ map Some ys = cc in
    let first : x ≡ y = cc in ap₂ (λ (a : A) (rest : List A). a ∷ rest) first (all_some xs ys left)

module _ (c : Construction) (move : Move) where
  abbrev row : Var → Option Row
  row v = lemma_table.row c move v

  -- each row of a move is light
  pub light_rows : (v : Var) → IfSome (row_of_move c move v) (λ t. AreLight (row_numbers t))
  light_rows v = go move v
    where
      go : (move : Move) (v : Var) → IfSome (row_of_move c move v) (λ t. AreLight (row_numbers t))
      go (Ratio w lemma at) v =
          by_own c w v lemma at (λ t. AreLight (row_numbers t)) (λ same. each_row (ratio_table lemma c at v) (λ t. AreLight (row_numbers t)) (λ t e. ratio_rows_light lemma c at v t e))
      go (Point y) (S i j k) = each_row (area_table c y (S i j k)) (λ t. AreLight (row_numbers t)) (λ t e. area_rows_light c y (S i j k) t e)
      go (Point y) (P i j k) = each_row (difference_table c y (P i j k)) (λ t. AreLight (row_numbers t)) (λ t e. difference_rows_light c y (P i j k) t e)
      go (Point y) (R i j k l) = tt
      go (Point y) (X i) = tt
      go (Point y) (Y i) = tt
      go (Point y) (T t) = tt
      go Coords v = each_row (free_table c (record { 0 = 0 }) v) (λ t. AreLight (row_numbers t)) (λ t e. free_rows_light c (record { 0 = 0 }) v t e)

  -- the numbers are those of the rows, capped
  pub sketches_are : (vs : List Var) → sketches (filter_map (numbered_row c move) vs) ≡ capped_rows (filter_map row vs)
  sketches_are [] = refl
  sketches_are (v ∷ vs) = go (row_of_move c move v) (sketches_are vs)
    where
      go : (o : Option TableRow) → sketches (filter_map (numbered_row c move) vs) ≡ capped_rows (filter_map row vs)
          → sketches (cons_option (option_map (λ t. record { var = v; numbers = row_numbers t }) o) (filter_map (numbered_row c move) vs))
          ≡ capped_rows (cons_option (option_map (λ t. (made_row v t).0) o) (filter_map row vs))
      go None h = h
      go (Some t) h = ap (λ (rs : List Row). capped_row (made_row v t).0 ∷ rs) h

  -- the numbers of the row of one variable
  pub numbered_some : (v : Var) (n : RowNumbers) (o : Option RowNumbers) → o ≡ option_map row_numbers (row_of_move c move v) → o ≡ Some n
      → numbered_row c move v ≡ Some (record { var = v; numbers = n })
  numbered_some v n o is some = go (row_of_move c move v) (sym is ∙ some)
    where
      go : (t : Option TableRow) → option_map row_numbers t ≡ Some n → option_map {U = NumberedRow} (λ t. record { var = v; numbers = row_numbers t }) t ≡ Some (record { var = v; numbers = n })
      go None e = absurd (let z : ◌≡◌ {A = Option RowNumbers} None (Some n) = e in cc)
      go (Some t) e = let same : row_numbers t ≡ n = cc in ap (λ (n : RowNumbers). let r : Option NumberedRow = Some (record { var = v; numbers = n }) in r) same

  pub numbered_none : (v : Var) (o : Option RowNumbers) → o ≡ option_map row_numbers (row_of_move c move v) → o ≡ None → numbered_row c move v ≡ None
  numbered_none v o is none = go (row_of_move c move v) (sym is ∙ none)
    where
      go : (t : Option TableRow) → option_map row_numbers t ≡ None → option_map {U = NumberedRow} (λ t. record { var = v; numbers = row_numbers t }) t ≡ None
      go None e = refl
      go (Some t) e = absurd (let z : ◌≡◌ {A = Option RowNumbers} (Some (row_numbers t)) None = e in cc)

  -- where there are no numbers there are no rows
  no_rows : (rows : List Row) → capped_rows rows ≡ [] → rows ≡ []
  no_rows [] e = refl
  no_rows (r ∷ rows) e = absurd (let z : ◌≡◌ {A = List Row} (capped_row r ∷ capped_rows rows) [] = e in cc)

  no_sketches : (rows : List NumberedRow) → sketches rows ≡ [] → rows ≡ []
  no_sketches [] e = refl
  no_sketches (n ∷ rows) e = absurd (let z : ◌≡◌ {A = List Row} (sketches (n ∷ rows)) [] = e in cc)

  pub none_made : (vs : List Var) → filter_map (numbered_row c move) vs ≡ [] → filter_map row vs ≡ []
  none_made vs e = no_rows (filter_map row vs) (sym (sketches_are vs) ∙ ap sketches e)

  pub some_numbered : (vs : List Var) → filter_map row vs ≡ [] → filter_map (numbered_row c move) vs ≡ []
  some_numbered vs e = no_sketches (filter_map (numbered_row c move) vs) (sketches_are vs ∙ ap capped_rows e)

  -- the bounds of the rows
  pub rows_bounded : (vs : List Var) → AllBounded (filter_map row vs)
  rows_bounded [] = tt
  rows_bounded (v ∷ vs) = go (row_of_move c move v) (rows_bounded vs)
    where
      go : (o : Option TableRow) → AllBounded (filter_map row vs) → AllBounded (cons_option (option_map (λ t. (made_row v t).0) o) (filter_map row vs))
      go None h = h
      go (Some t) h = (bounded_form t.num, h)

  pub denominator_bounded : IsBounded (lemma_table.denominator c move)
  denominator_bounded = bounded_form (move_denominator c move)

  rows_small : (vs : List Var) → AllPowersSmall (filter_map row vs)
  rows_small [] = tt
  rows_small (v ∷ vs) = go (row_of_move c move v) (light_rows v) (rows_small vs)
    where
      go : (o : Option TableRow) → IfSome o (λ t. AreLight (row_numbers t)) → AllPowersSmall (filter_map row vs)
          → AllPowersSmall (cons_option (option_map (λ t. (made_row v t).0) o) (filter_map row vs))
      go None l h = h
      go (Some t) l h = (l.power, h)

  capped_small : (rows : List Row) → AllPowersSmall rows → AllPowersSmall (capped_rows rows)
  capped_small [] h = tt
  capped_small (r ∷ rows) h = (h.0, capped_small rows h.1)

  pub sketches_small : (vs : List Var) → AllPowersSmall (sketches (filter_map (numbered_row c move) vs))
  sketches_small vs = subst AllPowersSmall (sym (sketches_are vs)) (capped_small (filter_map row vs) (rows_small vs))

  -- the numbers of the denominator, and the charge
  pub record HasDenominator (n : NumberedRow) : Type 0 where
    pub den : sketched_denominator n.numbers ≡ capped_piece (lemma_table.denominator c move)
    pub charge : n.numbers.charge ≡ capped_number (lemma_table.charge c move)

  pub all_over_one : (vs : List Var) → All HasDenominator (filter_map (numbered_row c move) vs)
  all_over_one [] = All-nil HasDenominator
  all_over_one (v ∷ vs) = go (row_of_move c move v) refl (all_over_one vs)
    where
      go : (o : Option TableRow) → row_of_move c move v ≡ o → All HasDenominator (filter_map (numbered_row c move) vs)
          → All HasDenominator (cons_option (option_map (λ t. record { var = v; numbers = row_numbers t }) o) (filter_map (numbered_row c move) vs))
      go None e h = h
      go (Some t) e h =
          let agree = denominators_agree c move v t e in
          All-cons HasDenominator (record { var = v; numbers = row_numbers t }) (filter_map (numbered_row c move) vs)
          (record { den = ap (λ (f : Form). capped_piece (piece_of f)) agree.0; charge = ap capped_number agree.1 }) h

  -- WITHIN THE BOUNDS OF A POLYNOMIAL
  -- the numerator is within the bounds of a polynomial
  pub record NumeratorFits (r : Row) : Type 0 where
    pub weight : r.num.weight < 2 ^ 127
    pub degree : r.num.degree ≤ 65535

  -- the row of the variable is
  abbrev pub HasFittingRow : Var → Type 0
  HasFittingRow v = (r : Row) → row v ≡ Some r → NumeratorFits r

  pub numbered_fit : (vs : List Var) → EachIn HasFittingRow vs → EachIn (HasPointsBelow (length c.steps)) vs
      → All (λ (n : NumberedRow). CanBeMade c move n.var) (filter_map (numbered_row c move) vs)
  numbered_fit [] fits points = All-nil (λ (n : NumberedRow). CanBeMade c move n.var)
  numbered_fit (v ∷ vs) fits points = go (row_of_move c move v) refl (numbered_fit vs fits.1 points.1)
    where
      go : (o : Option TableRow) → row_of_move c move v ≡ o → All (λ (n : NumberedRow). CanBeMade c move n.var) (filter_map (numbered_row c move) vs)
          → All (λ (n : NumberedRow). CanBeMade c move n.var)
          (cons_option (option_map (λ t. record { var = v; numbers = row_numbers t }) o) (filter_map (numbered_row c move) vs))
      go None e h = h
      go (Some t) e h =
          let light : AreLight (row_numbers t) = some_of (row_of_move c move v) t (λ t. AreLight (row_numbers t)) e (light_rows v) in
          let fit : NumeratorFits (made_row v t).0 = fits.0 (made_row v t).0 (ap (option_map (λ t. (made_row v t).0)) e) in
          let row : IsSomeAnd (Some t) RowFits = fits_of_numbers (Some t) (row_numbers t) refl (omega (arith, fit.weight)) (omega (arith, fit.degree)) light in
          All-cons (λ (n : NumberedRow). CanBeMade c move n.var) (record { var = v; numbers = row_numbers t }) (filter_map (numbered_row c move) vs)
          (points.0, subst (λ (o : Option TableRow). IsSomeAnd o RowFits) (sym e) row) h

  -- THE ROWS MULTIPLIED OUT
  rows_numbered : (vs : List Var) → map (λ (n : NumberedRow). row n.var) (filter_map (numbered_row c move) vs) ≡ map Some (filter_map row vs)
  rows_numbered [] = refl
  rows_numbered (v ∷ vs) = go (row_of_move c move v) refl (rows_numbered vs)
    where
      go : (o : Option TableRow) → row_of_move c move v ≡ o → map (λ (n : NumberedRow). row n.var) (filter_map (numbered_row c move) vs) ≡ map Some (filter_map row vs)
          → map (λ (n : NumberedRow). row n.var) (cons_option (option_map (λ t. record { var = v; numbers = row_numbers t }) o) (filter_map (numbered_row c move) vs))
          ≡ map Some (cons_option (option_map (λ t. (made_row v t).0) o) (filter_map row vs))
      go None e h = h
      go (Some t) e h = ap₂ (λ (r : Option Row) (rs : List (Option Row)). r ∷ rs) (ap (option_map (λ t. (made_row v t).0)) e) h

  pub rows_made : (vs : List Var) (rows : List Row) → map Some rows ≡ map (λ (n : NumberedRow). row n.var) (filter_map (numbered_row c move) vs) → rows ≡ filter_map row vs
  rows_made vs rows e = all_some rows (filter_map row vs) (e ∙ rows_numbered vs)

  -- each is the row of its variable
  pub rows_own : (vs : List Var) → All (IsRowOf c move) (filter_map row vs)
  rows_own [] = All-nil (IsRowOf c move)
  rows_own (v ∷ vs) = go (row_of_move c move v) refl (rows_own vs)
    where
      go : (o : Option TableRow) → row_of_move c move v ≡ o → All (IsRowOf c move) (filter_map row vs)
          → All (IsRowOf c move) (cons_option (option_map (λ t. (made_row v t).0) o) (filter_map row vs))
      go None e h = h
      go (Some t) e h = All-cons (IsRowOf c move) (made_row v t).0 (filter_map row vs) (ap (option_map (λ t. (made_row v t).0)) e) h

-- LISTS
-- what holds of each variable of a list holds at each place
pub all_each : (Holds : Var → Type 0) (vs : List Var) → EachIn Holds vs → All Holds vs
all_each Holds [] h = All-nil Holds
all_each Holds (v ∷ vs) h = All-cons Holds v vs h.0 (all_each Holds vs h.1)

-- the rows of one more variable
module _ {B : Type 0} (f : Var → Option B) (vs : List Var) (i : ℕ) (d : Var) (lt : i < length vs) where
  rows_more : filter_map f (take (i + 1) vs) ≡ filter_map f (take i vs) ++ cons_option (f (get_or vs i d)) []
  rows_more = ap (filter_map f) (take_more vs i d lt) ∙ filter_map-append f (take i vs) (get_or vs i d ∷ [])

  pub rows_some : (r : B) → f (get_or vs i d) ≡ Some r → filter_map f (take (i + 1) vs) ≡ filter_map f (take i vs) ++ r ∷ []
  rows_some r e = rows_more ∙ ap (λ (o : Option B). filter_map f (take i vs) ++ cons_option o []) e

  pub rows_none : f (get_or vs i d) ≡ None → filter_map f (take (i + 1) vs) ≡ filter_map f (take i vs)
  rows_none e = rows_more ∙ ap (λ (o : Option B). filter_map f (take i vs) ++ cons_option o []) e ∙ append-nil (filter_map f (take i vs))

-- one more element's image is pushed
pub mapped_push : {A B : Type 0} (f : A → B) (xs : List A) (i : ℕ) (d : A) → i < length xs
    → (before after : List B) (y : B) → after ≡ before ++ y ∷ [] → before ≡ map f (take i xs) → y ≡ f (get_or xs i d) → after ≡ map f (take (i + 1) xs)
mapped_push {A} {B} f xs i d lt before after y pushed images image =
    pushed ∙ ap₂ (λ (ys : List B) (z : B). ys ++ z ∷ []) images image
    ∙ sym (ap (map f) (take_more xs i d lt) ∙ map-append f (take i xs) (get_or xs i d ∷ []))

-- a list with elements
pub some_length : {A : Type 0} (xs : List A) → (xs ≡ [] → ⊥) → 0 < length xs
some_length [] n = absurd (n refl)
some_length (x ∷ xs) n = omega arith
