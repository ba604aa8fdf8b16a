-- What moves and cuts do to the value of a polynomial, where the steps they look at are met.
use Rattle.std.proofs.Common.{◌≡◌, ℕ, zero, suc, Bool, true, ℤ, pos, Option, Some, None, List, [], ◌∷◌, Contains, refl, sym, subst, unsigned_abs}
use Rattle.std.specs.List.{cons_option, filter_map}
use Rattle.std.specs.Ordering.{is_eq}
use Rattle.std.specs.declared.cmp.Ordering.{Ordering}
use Rattle.std.specs.declared.cmp.Ordering.TheVariants.{Less, Equal, Greater}
use Rattle.ring_laws.specs.Powers.{power}
use Rattle.ring_laws.proofs.Laws as Laws
use Rattle.sparse_lists.specs.SparseLists.{AllKeys}
use Rattle.fraction_poly.specs.Laws.{polynomial_value}
use Rattle.fraction_poly.proofs.PolynomialValues.{◌∘◌, flip, self, products, integer_is}
use Rattle.ring_laws.specs.Fraction.{Fraction, Same, whole, times, IsNonzero}
use Rattle.geo_points.specs.Placements.{Placement}
use Rattle.ring_laws.proofs.Fractions.{fractions}
use Rattle.ring_laws.proofs.Quotients.{cancel_fraction, same_of_zero, zero_of_same}
use Rattle.geo_poly.specs.declared.rows.Row.{Row}
use Rattle.geo_poly.specs.declared.variables.Var.{Var}
use Rattle.geo_poly.specs.Monomials.{Powers}
use Rattle.geo_poly.specs.Polynomials.{Summands, product_of}
use Rattle.geo_poly.specs.Replace.{most_denominators}
use Rattle.geo_poly.specs.Values.{integer, monomial_value, variable_value}
use Rattle.geo_poly.specs.Variables.{var_cmp}
use Rattle.geo_poly.proofs.FactorDivision.{value-factor}
use Rattle.geo_poly.proofs.Orders.{var_order}
use Rattle.geo_poly.proofs.ReplaceValue.{RowsHold, value-replaced_by}
use Rattle.geo_terms.specs.Constructions.{Construction}
use Rattle.geo_logs.specs.declared.moves.Move.{Move}
use Rattle.geo_poly.specs.Cuts.{IsCut}
use Rattle.geo_logs.specs.Moves.{IsMoved, Table, place_of, replacement}
use Rattle.fraction_poly.specs.TableRows.{HasVariable}
use Rattle.geo_logs.specs.Naming.{IsNamed, IsPlaceBelow, IsPlaceMet}
use Rattle.geo_logs.specs.Sound.{IsSoundTable, NamesNoLater, TellsValue}
use Rattle.geo_poly.specs.PolynomialVariables.{AllVariables, variables_of}
use Rattle.geo_poly.proofs.EachVariable.{EachIn, OfNumerators, each-variables, of-replaced_by, of-rows, some_row}

-- FRACTIONS
abbrev pub zero_fraction : Fraction
zero_fraction = whole (pos 0)

-- the fraction is another number than 0
abbrev pub IsApart : Fraction → Type 0
IsApart a = Same a zero_fraction → ⊥

pub apart : (a : Fraction) → IsNonzero a → IsApart a
apart a n h = n (zero_of_same a h)

pub nonzero : (a : Fraction) → IsApart a → IsNonzero a
nonzero a n h = n (same_of_zero a h)

equal_of : (o : Ordering) → is_eq o ≡ true → o ≡ Equal
equal_of Less e = absurd (let q : ◌≡◌ {A = Bool} (is_eq Less) true = e in cc)
equal_of Equal e = refl
equal_of Greater e = absurd (let q : ◌≡◌ {A = Bool} (is_eq Greater) true = e in cc)

-- variables that compare as equal are the same
pub one_variable : (v w : Var) → is_eq (var_cmp v w) ≡ true → v ≡ w
one_variable v w e = var_order.exact v w (equal_of (var_cmp v w) e)

zero_times : (d : Fraction) → Same (times zero_fraction d) zero_fraction
zero_times d = fractions.mul_comm zero_fraction d ∘ Laws.mul-zero fractions d

-- a factor that is not 0 cancels, and so do its powers
pub null_of_times : (a d : Fraction) → IsNonzero d → Same (times a d) zero_fraction → Same a zero_fraction
null_of_times a d n h = cancel_fraction a zero_fraction d n (h ∘ flip (zero_times d))

null_of_power : (a d : Fraction) (k : ℕ) → IsNonzero d → Same (times a (power fractions d k)) zero_fraction → Same a zero_fraction
null_of_power a d zero n h = flip (fractions.mul-one a) ∘ h
null_of_power a d (suc k) n h =
    null_of_power a d k n (null_of_times (times a (power fractions d k)) d n (fractions.mul_assoc a (power fractions d k) d ∘ h))

-- a product is 0 where a factor is
pub null_times : (a d : Fraction) → Same a zero_fraction → Same (times a d) zero_fraction
null_times a d h = products h self ∘ zero_times d

pub times_null : (a d : Fraction) → Same d zero_fraction → Same (times a d) zero_fraction
times_null a d h = products self h ∘ Laws.mul-zero fractions a

-- products and powers of fractions other than 0
apart_times : (a b : Fraction) → IsApart a → IsApart b → IsApart (times a b)
apart_times a b n m h = n (null_of_times a b (nonzero b m) h)

pub whole_nonzero : (z : ℤ) → (z ≡ pos 0 → ⊥) → IsNonzero (whole z)
unfolding whole
whole_nonzero z n = n

not_zero : pos 1 ≡ pos 0 → ⊥
not_zero e = cc

one_apart : IsApart fractions.one
one_apart = apart (whole (pos 1)) (whole_nonzero (pos 1) not_zero)

apart_power : (a : Fraction) (k : ℕ) → IsApart a → IsApart (power fractions a k)
apart_power a zero n = one_apart
apart_power a (suc k) n = apart_times (power fractions a k) a (apart_power a k n) n

module _ (placed : Placement) where
  -- the value of a variable
  abbrev pub at_variable : Var → Fraction
  at_variable = variable_value placed.point placed.number

  -- the value of a polynomial
  abbrev pub at_placement : Summands → Fraction
  at_placement = polynomial_value placed

  pub value_as : (q r : Summands) → r ≡ q → Same (at_placement r) zero_fraction → Same (at_placement q) zero_fraction
  value_as q r e h = subst (λ (p : Summands). Same (at_placement p) zero_fraction) e h

  -- MOVES
  module _ (table : Table) (c : Construction) (sound : IsSoundTable table c) where
    rows_hold : (move : Move) → IsPlaceMet placed c (place_of move) → (vs : List Var) → EachIn (HasVariable placed) vs
        → RowsHold fractions at_variable (at_placement (table.denominator c move).poly) (filter_map (table.row c move) vs)
    rows_hold move met [] h = tt
    rows_hold move met (v ∷ vs) h = go (table.row c move v) refl (rows_hold move met vs h.1)
      where
        go : (o : Option Row) → table.row c move v ≡ o → RowsHold fractions at_variable (at_placement (table.denominator c move).poly) (filter_map (table.row c move) vs)
            → RowsHold fractions at_variable (at_placement (table.denominator c move).poly) (cons_option o (filter_map (table.row c move) vs))
        go None e rest = rest
        go (Some r) e rest =
            let tells = (sound.sound placed move v r e met h.0).tells in (
              subst (λ (w : Var). Same (times (at_variable w) (power fractions (at_placement (table.denominator c move).poly) r.power)) (at_placement r.num.poly)) (sym (sound.own move v r e)) tells,
              rest,
            )

    -- a move multiplies the value by a power of a number that is not 0, and leaves ratios that are defined
    pub record IsKept (move : Move) (q r : Summands) : Type 0 where
      pub nonzero : IsNonzero (at_placement (table.denominator c move).poly)
      pub exponent : ℕ
      pub value : Same (at_placement r) (times (at_placement q) (power fractions (at_placement (table.denominator c move).poly) exponent))
      pub defined : AllVariables (HasVariable placed) r

    pub move_kept : (move : Move) (left : ℕ) (q r : Summands) → IsPlaceMet placed c (place_of move) → AllVariables (HasVariable placed) q
        → IsMoved (replacement table c move q) left q r → IsKept move q r
    move_kept move left q r met defined moved =
        let rows : List Row = filter_map (table.row c move) (variables_of q) in
        let den : Summands = (table.denominator c move).poly in
        let each : EachIn (HasVariable placed) (variables_of q) = each-variables (HasVariable placed) q defined in
        let one = some_row (HasVariable placed) (table.row c move) (variables_of q) each moved.replaces in
        let told : TellsValue placed table c move one.0 one.1 = sound.sound placed move one.0 one.1 one.2 met one.3 in
        let numerators : OfNumerators (HasVariable placed) rows =
        of-rows (HasVariable placed) (table.row c move) (variables_of q) (λ v r e h. (sound.sound placed move v r e met h).numerator) each in
        record {
          nonzero = told.nonzero;
          exponent = most_denominators rows q;
          value = subst (λ (p : Summands). Same (at_placement p) (times (at_placement q) (power fractions (at_placement den) (most_denominators rows q)))) (sym moved.result)
              (value-replaced_by fractions at_variable one_variable (at_placement den) rows den q (rows_hold move met (variables_of q) each) self);
          defined = subst (AllVariables (HasVariable placed)) (sym moved.result) (of-replaced_by (HasVariable placed) rows den q numerators told.denominator defined);
        }

    -- so it is 0 just where it was
    pub null_before_move : (move : Move) (q r : Summands) → IsKept move q r → Same (at_placement r) zero_fraction → Same (at_placement q) zero_fraction
    null_before_move move q r k e = null_of_power (at_placement q) (at_placement (table.denominator c move).poly) k.exponent k.nonzero (flip k.value ∘ e)

    pub null_after_move : (move : Move) (q r : Summands) → IsKept move q r → Same (at_placement q) zero_fraction → Same (at_placement r) zero_fraction
    null_after_move move q r k e = k.value ∘ null_times (at_placement q) _ e

  -- CUTS
  -- a product is 0 where its second factor is
  pub null_before_cut : (known : List Var) (f : Powers × ℤ) (q r : Summands) → IsCut known f q r → Same (at_placement r) zero_fraction → Same (at_placement q) zero_fraction
  null_before_cut known f q r cut e =
      value_as q (product_of (f ∷ []) r) cut.exact
      (value-factor fractions at_variable f r ∘ times_null _ (at_placement r) e)

  apart_monomial : (known : List Var) (m : Powers) → ((v : Var) → Contains known v → IsApart (at_variable v)) → AllKeys (λ v. Contains known v) m
      → IsApart (monomial_value fractions at_variable m)
  apart_monomial known [] n h = one_apart
  apart_monomial known (p ∷ m) n h =
      apart_times (power fractions (at_variable p.0) p.1) (monomial_value fractions at_variable m)
      (apart_power (at_variable p.0) p.1 (n p.0 h.0)) (apart_monomial known m n h.1)

  null_of_abs : (z : ℤ) → (unsigned_abs z ≡ 0 → ⊥) → z ≡ pos 0 → ⊥
  null_of_abs z n e = n (subst (λ (y : ℤ). unsigned_abs y ≡ 0) (sym e) refl)

  apart_integer : (z : ℤ) → (unsigned_abs z ≡ 0 → ⊥) → IsApart (integer fractions z)
  apart_integer z n h = apart (whole z) (whole_nonzero z (null_of_abs z n)) (flip (integer_is z) ∘ h)

  -- where no known variable is 0, a product is 0 only where its second factor is
  pub null_after_cut : (known : List Var) (f : Powers × ℤ) (q r : Summands) → ((v : Var) → Contains known v → IsApart (at_variable v)) → IsCut known f q r
      → Same (at_placement q) zero_fraction → Same (at_placement r) zero_fraction
  null_after_cut known f q r n cut e =
      let by : Fraction = times (integer fractions f.1) (monomial_value fractions at_variable f.0) in
      let far : IsApart by = apart_times (integer fractions f.1) (monomial_value fractions at_variable f.0) (apart_integer f.1 cut.factor.nonzero) (apart_monomial known f.0 n cut.by_known) in
      let both : Same (at_placement q) (times by (at_placement r)) =
      subst (λ (p : Summands). Same (at_placement p) (times by (at_placement r))) cut.exact (value-factor fractions at_variable f r) in
      null_of_times (at_placement r) by (nonzero by far) (fractions.mul_comm (at_placement r) by ∘ flip both ∘ e)

-- NAMES
module _ (table : Table) (c : Construction) (sound : IsSoundTable table c) (n : ℕ) where
  -- a move looks at no later step, and brings in no later point
  pub record IsNamedOn (move : Move) (r : Summands) : Type 0 where
    pub place : IsPlaceBelow n (place_of move)
    pub names : AllVariables (IsNamed c n) r

  pub move_named : (move : Move) (left : ℕ) (q r : Summands) → AllVariables (IsNamed c n) q → IsMoved (replacement table c move q) left q r → IsNamedOn move r
  move_named move left q r named moved =
      let rows : List Row = filter_map (table.row c move) (variables_of q) in
      let each : EachIn (IsNamed c n) (variables_of q) = each-variables (IsNamed c n) q named in
      let one = some_row (IsNamed c n) (table.row c move) (variables_of q) each moved.replaces in
      let told : NamesNoLater table c n move one.1 = sound.named n move one.0 one.1 one.2 one.3 in
      let numerators : OfNumerators (IsNamed c n) rows =
      of-rows (IsNamed c n) (table.row c move) (variables_of q) (λ v r e h. (sound.named n move v r e h).numerator) each in
      record {
        place = told.place;
        names = subst (AllVariables (IsNamed c n)) (sym moved.result)
            (of-replaced_by (IsNamed c n) rows (table.denominator c move).poly q numerators told.denominator named);
      }
