-- The factors of a term, read power by power.
use Rattle.std.proofs.Common.{◌≡◌, ℕ, ◌+◌, ◌*◌, ◌-◌, ◌<◌, ◌≤◌, Option, Some, None, List, [], ◌∷◌, ◌++◌, append_assoc, length, replicate, refl, sym, ap, subst, ◌∙◌, arith}
use Rattle.std.specs.Prelude.{◌≢◌, IfNone, IfSome, ℤ, slice_get}
use Rattle.std.proofs.lemmas.List.{append-nil}
use Rattle.geo_poly.specs.declared.pending.FactorPower.{FactorPower}
use Rattle.geo_poly.specs.declared.pending.Found.{Found}
use Rattle.geo_poly.specs.declared.rows.Row.{Row}
use Rattle.geo_poly.specs.declared.settings.Setting.{Setting}
use Rattle.geo_poly.specs.declared.variables.Var.{Var}
use Rattle.geo_poly.specs.Inner.Accumulated.{accumulated_term}
use Rattle.geo_poly.specs.Inner.Factored.{AreFactors, factors_listed}
use Rattle.geo_poly.specs.Inner.TermFactors.{IsNonzeroRow}
use Rattle.geo_poly.specs.Monomials.{IsMonomial, Powers}
use Rattle.geo_poly.specs.Polynomials.{Summands}
use Rattle.geo_poly.specs.Replace.{AllBounded, IsBounded, denominators, power_in, row_of}
use Rattle.geo_poly.proofs.FactorPaths.{Path, Path-end, Path-none, Path-place, Path-start}
use Rattle.geo_poly.proofs.TickBounds.{counted, counted_row}
use Rattle.geo_poly.proofs.ZeroFactors.{Seen}

pub factors_listed-push : (fs : List FactorPower) (f : FactorPower) → factors_listed (fs ++ f ∷ []) ≡ factors_listed fs ++ replicate f.exponent f.factor
factors_listed-push [] f = append-nil (replicate f.exponent f.factor)
factors_listed-push (g ∷ fs) f =
    ap (λ (ks : List ℕ). replicate g.exponent g.factor ++ ks) (factors_listed-push fs f)
    ∙ sym (append_assoc (replicate g.exponent g.factor) (factors_listed fs) (replicate f.exponent f.factor))

-- NO ZERO SO FAR

pub Seen-all : (rows : List Row) (top : ℕ) (m : Powers) → IsMonomial m → denominators rows m ≤ top → Seen rows top m m top
Seen-all rows top m monomial fits =
    record { in_order = monomial.in_order; lost = λ gone. gone; nonzero = λ all. all; missing-is = omega (arith, fits) }

pub Seen-none : (rows : List Row) (top : ℕ) (m : Powers) (v : Var × ℕ) (left rest : Powers) (missing : ℕ) → left ≡ v ∷ rest → row_of rows v.0 ≡ None
    → Seen rows top m left missing → Seen rows top m rest missing
Seen-none rows top m v left rest missing is e h = go (subst (λ (n : Powers). Seen rows top m n missing) is h)
  where
    go : Seen rows top m (v ∷ rest) missing → Seen rows top m rest missing
    go g = record {
      in_order = g.in_order.2;
      lost = λ gone. g.lost (λ q. gone _);
      nonzero = λ all. g.nonzero (subst IsNonzeroRow (sym e) tt, all);
      missing-is =
          let none : power_in (row_of rows v.0) * v.1 ≡ 0 * v.1 = ap (λ (o : Option Row). power_in o * v.1) e in
          omega (arith, none, g.missing-is);
    }

pub Seen-some : (rows : List Row) (top : ℕ) (m : Powers) (v : Var × ℕ) (left rest : Powers) (missing less : ℕ) (r : Row) → left ≡ v ∷ rest
    → row_of rows v.0 ≡ Some r → r.num.poly ≢ [] → less ≡ missing - r.power * v.1
    → Seen rows top m left missing → Seen rows top m rest less
Seen-some rows top m v left rest missing less r is e some lost h = go (subst (λ (n : Powers). Seen rows top m n missing) is h)
  where
    go : Seen rows top m (v ∷ rest) missing → Seen rows top m rest less
    go g = record {
      in_order = g.in_order.2;
      lost = λ gone. g.lost (λ q. gone _);
      nonzero = λ all. g.nonzero (subst IsNonzeroRow (sym e) some, all);
      missing-is =
          let some : power_in (row_of rows v.0) * v.1 ≡ r.power * v.1 = ap (λ (o : Option Row). power_in o * v.1) e in
          omega (arith, some, lost, g.missing-is);
    }

-- THE FACTORS SO FAR

-- the numerators of the powers before those of `left`, with any number of denominators before them
pub record Walked (setting : Setting) (m left : Powers) (found : List FactorPower) : Type 0 where
  pub done : Powers
  pub whole : m ≡ done ++ left
  pub path : (lacking : ℕ) → (0 < lacking → 1 ≤ setting.den.piece.now.count)
      → Path setting.rows.now setting.den.piece.now done lacking (replicate lacking 0 ++ factors_listed found)

pub Walked-all : (setting : Setting) (m : Powers) (found : List FactorPower) → found ≡ [] → Walked setting m m found
Walked-all setting m found none = record {
  done = [];
  whole = refl;
  path = λ lacking counts.
      subst (λ (ks : List ℕ). Path setting.rows.now setting.den.piece.now [] lacking ks)
      (sym (ap (λ (fs : List FactorPower). replicate lacking 0 ++ factors_listed fs) none ∙ append-nil (replicate lacking 0)))
      (Path-start setting.rows.now setting.den.piece.now lacking counts);
}

whole_next : (m done left rest : Powers) (v : Var × ℕ) → m ≡ done ++ left → left ≡ v ∷ rest → m ≡ (done ++ v ∷ []) ++ rest
whole_next m done left rest v whole is = whole ∙ ap (λ (n : Powers). done ++ n) is ∙ sym (append_assoc done (v ∷ []) rest)

pub Walked-none : (setting : Setting) (m : Powers) (v : Var × ℕ) (left rest : Powers) (found : List FactorPower) → left ≡ v ∷ rest
    → row_of setting.rows.now v.0 ≡ None → Walked setting m left found → Walked setting m rest found
Walked-none setting m v left rest found is e h = record {
  done = h.done ++ v ∷ [];
  whole = whole_next m h.done left rest v h.whole is;
  path = λ lacking counts.
      Path-none setting.rows.now setting.den.piece.now v h.done lacking (replicate lacking 0 ++ factors_listed found) e (h.path lacking counts);
}

pub Walked-some : (setting : Setting) (m : Powers) (v : Var × ℕ) (left rest : Powers) (found more : List FactorPower) (i : ℕ) (r : Row)
    → left ≡ v ∷ rest → i < length setting.rows.now → slice_get setting.rows.now i ≡ row_of setting.rows.now v.0
    → row_of setting.rows.now v.0 ≡ Some r → r.num.poly ≢ [] → AllBounded setting.rows.now
    → more ≡ found ++ record { factor = i + 1; exponent = v.1 } ∷ [] → Walked setting m left found → Walked setting m rest more
Walked-some setting m v left rest found more i r is within at e some bounded pushed h = record {
  done = h.done ++ v ∷ [];
  whole = whole_next m h.done left rest v h.whole is;
  path = λ lacking counts.
      let rows = setting.rows.now in
      let den = setting.den.piece.now in
      let ks = replicate lacking 0 ++ factors_listed found in
      let listed : ks ++ replicate v.1 (i + 1) ≡ replicate lacking 0 ++ factors_listed more =
      append_assoc (replicate lacking 0) (factors_listed found) (replicate v.1 (i + 1))
      ∙ ap (λ (xs : List ℕ). replicate lacking 0 ++ xs)
      (sym (ap factors_listed pushed ∙ factors_listed-push found (record { factor = i + 1; exponent = v.1 }))) in
      subst (λ (xs : List ℕ). Path rows den (h.done ++ v ∷ []) lacking xs) listed
      (Path-place rows den v h.done lacking ks i within at
      (λ s is_s. counted_row rows v.0 s bounded is_s (subst IsNonzeroRow (sym e) some)) (h.path lacking counts));
}

-- all powers are read
pub Walked-end : (setting : Setting) (m left : Powers) (found : List FactorPower) (missing : ℕ) → left ≡ [] → IsBounded setting.den.piece.now
    → (0 < missing → setting.den.piece.now.poly ≢ []) → Seen setting.rows.now setting.top m left missing → Walked setting m left found
    → AreFactors setting m (replicate missing 0 ++ factors_listed found)
Walked-end setting m left found missing none bounded some seen h =
    let ks = replicate missing 0 ++ factors_listed found in
    let lacking : missing ≡ setting.top - denominators setting.rows.now m = omega (arith, seen.missing-is, ap (denominators setting.rows.now) none) in
    let all : h.done ≡ m = sym (h.whole ∙ ap (λ (n : Powers). h.done ++ n) none ∙ append-nil h.done) in
    Path-end setting m missing ks lacking
    (subst (λ (n : Powers). Path setting.rows.now setting.den.piece.now n missing ks) all
    (h.path missing (λ more. counted setting.den.piece.now bounded (some more))))

-- the factors, where some are found
pub factors_found : (setting : Setting) (m : Powers) (fs : List FactorPower) (found : Option Found) (f : Found) → found ≡ Some f
    → IfSome found (λ g. AreFactors setting m (replicate g.lacking 0 ++ factors_listed fs)) → AreFactors setting m (replicate f.lacking 0 ++ factors_listed fs)
factors_found setting m fs found f is h =
    subst (λ (o : Option Found). IfSome o (λ g. AreFactors setting m (replicate g.lacking 0 ++ factors_listed fs))) is h

-- what becomes of the term is zero, where none are found
pub zero_found : (rows : List Row) (den : Summands) (top : ℕ) (m : Powers) (found : Option Found) → found ≡ None
    → IfNone found ((k : ℤ) → accumulated_term rows den top (m, k) ≡ []) → (k : ℤ) → accumulated_term rows den top (m, k) ≡ []
zero_found rows den top m found is h = subst (λ (o : Option Found). IfNone o ((k : ℤ) → accumulated_term rows den top (m, k) ≡ [])) is h
