-- Monomials, polynomials and values as they are read, piece by piece.
use Rattle.std.proofs.Common.{◌≡◌, ◌≢◌, ℕ, zero, suc, ◌+◌, ◌-◌, ◌<◌, ◌≤◌, ◌^◌, Bool, true, false, eqb, List, [], ◌∷◌, ◌++◌, length, refl, sym, ap, ◌∙◌, subst, append_assoc, arith, length-append}
use Rattle.std.specs.Prelude.{ℤ, pos, unsigned_abs, All, IfSome, Option, Some, None, IsNone, Result, Ok, Err, ◌↔◌, ◌==◌, IsTrue}
use Rattle.std.specs.Ordering.{ordering_index}
use Rattle.std.specs.Option.{ok_or}
use Rattle.std.specs.List.{slice_get}
use Rattle.std.specs.List.{flat_map}
use Rattle.std.specs.declared.cmp.Ordering.{Ordering}
use Rattle.std.specs.declared.cmp.Ordering.TheVariants.{Less, Equal, Greater}
use Rattle.std.proofs.lemmas.Bool.Decides.{nat_tests}
use Rattle.std.proofs.lemmas.List.Sums.{sum_by-append, sum_by-cons}
use Rattle.std.proofs.lemmas.List.Elements.{All-cons, All-nil}
use Rattle.sparse_lists.specs.SparseLists.{AllKeys, Amounts, IsBefore, IsCanonical, IsKeyOrder}
use Rattle.geo_poly.specs.declared.variables.Var.{Var}
use Rattle.geo_poly.specs.Monomials.{Powers, IsEarlier, IsMonomial, degree_of, exponents}
use Rattle.geo_poly.specs.Factors.{AreInOrder}
use Rattle.sparse_lists.specs.Coefficients.{coefficients}
use Rattle.geo_poly.specs.Polynomials.{Summands, norm_of, term_cmp}
use Rattle.geo_poly.specs.Variables.{var_cmp}
use Rattle.geo_poly.proofs.MonomialOrder.{IsEarlier-from_cmp, cmp_from_IsEarlier}
use Rattle.geo_poly.proofs.Orders.{term_order, var_order}
use Rattle.proof_log.specs.Lines.{polynomial_text, power_text, sign_text, term_text, value_text}
use Rattle.proof_log.specs.Writable.{CanWriteFactor, CanWriteMonomial, CanWritePolynomial, CanWriteValue, CanWriteValues, IsVariable}
use Rattle.proof_log.specs.Inner.Reading.{coefficients as signed_coefficients, factors, integers, Begins, BeginsWith, NoneBegins, StopsAt}
use Rattle.proof_log.specs.Inner.Reading.{is_byte, is_power_byte, next_term, polynomials, powers_after, single_powers, single_values, terms}
use Rattle.proof_log.specs.Inner.Reading.{terms_after, value_lists}
use Rattle.proof_log.specs.Inner.Growing.{PushesPower, PushesTerm, RefusesPower, RefusesTerm, last_of}
use Rattle.proof_log.specs.declared.errors.LineError.{LineError}
use Rattle.std.specs.Prelude.{IsErrAnd}
use Rattle.std.specs.Fmt.{decimal, signed_decimal}
use Rattle.proof_log.proofs.Runs.{integers_unique}
use Rattle.proof_log.proofs.Found.{unfold_mag}
use Rattle.std.proofs.lemmas.Int.{to_z-of_z}
use mir.Val.{to_z, of_z}
use mir.Syntax.{w128}
use Rattle.proof_log.proofs.Unique.{nothing_stops, not_stopped, single_powers_unique}
use Rattle.proof_log.proofs.UniqueLists.{after, item_begins, refuse_byte, refuse_item, refuse_rest, text_more}
use Rattle.proof_log.proofs.UniqueTerms.{joined_terms, coefficients_unique, factor_parts, polynomial_parts, powers_listed, term_parts, term_is_no_zero, terms_listed, terms_unique, values_listed}

-- ONE MORE KEY AT THE END

module _ {K V : Type 0} (cmp : K → K → Ordering) (A : Amounts V) (order : IsKeyOrder cmp) where
  -- what is before the last key is before a key behind it
  behind_last : (k : K) (d : K × V) (ds : List (K × V)) (x : K) → IsBefore cmp k (d ∷ ds) → IfSome (last_of (d ∷ ds)) (λ p. cmp p.0 x ≡ Less) → cmp k x ≡ Less
  behind_last k d [] x h last = order.trans k d.0 x h.0 last
  behind_last k d (e ∷ ds) x h last = behind_last k e ds x h.1 last

  before_more : (k : K) (ds : List (K × V)) (t : K × V) → IsBefore cmp k ds → cmp k t.0 ≡ Less → IsBefore cmp k (ds ++ t ∷ [])
  before_more k [] t h e = (e, tt)
  before_more k (d ∷ ds) t h e = (h.0, before_more k ds t h.1 e)

  -- a key behind the last one
  pub canonical_more : (ds : List (K × V)) (t : K × V) → IsCanonical cmp A ds → A.is_zero t.1 ≡ false → IfSome (last_of ds) (λ p. cmp p.0 t.0 ≡ Less) → IsCanonical cmp A (ds ++ t ∷ [])
  canonical_more [] t h some last = (some, tt, tt)
  canonical_more (d ∷ []) t h some last = (h.0, (last, tt), (some, tt, tt))
  canonical_more (d ∷ e ∷ ds) t h some last =
      (h.0, before_more d.0 (e ∷ ds) t h.1 (behind_last d.0 e ds t.0 h.1 last), canonical_more (e ∷ ds) t h.2 some last)

  pub all_before : (ds : List (K × V)) (x : K) → IsCanonical cmp A ds → IfSome (last_of ds) (λ p. cmp p.0 x ≡ Less) → All (λ p. cmp p.0 x ≡ Less) ds
  all_before [] x h last = All-nil (λ (p : K × V). cmp p.0 x ≡ Less)
  all_before (d ∷ []) x h last = All-cons (λ (p : K × V). cmp p.0 x ≡ Less) d [] last (All-nil (λ (p : K × V). cmp p.0 x ≡ Less))
  all_before (d ∷ e ∷ ds) x h last = All-cons (λ (p : K × V). cmp p.0 x ≡ Less) d (e ∷ ds) (behind_last d.0 e ds x h.1 last) (all_before (e ∷ ds) x h.2 last)

  -- a key in the middle is behind the one before it
  pub canonical_last : (ds : List (K × V)) (t : K × V) (ts : List (K × V)) → IsCanonical cmp A (ds ++ t ∷ ts) → IfSome (last_of ds) (λ p. cmp p.0 t.0 ≡ Less)
  canonical_last [] t ts h = tt
  canonical_last (d ∷ []) t ts h = h.1.0
  canonical_last (d ∷ e ∷ ds) t ts h = canonical_last (e ∷ ds) t ts h.2

keys_more : {K V : Type 0} (P : K → Type 0) (ds : List (K × V)) (t : K × V) → AllKeys P ds → P t.0 → AllKeys P (ds ++ t ∷ [])
keys_more P [] t h p = (p, tt)
keys_more P (d ∷ ds) t h p = (h.0, keys_more P ds t h.1 p)

-- MONOMIALS

pub degree_more : (m : Powers) (p : Var × ℕ) (n : Powers) → degree_of (m ++ p ∷ n) ≡ degree_of m + p.1 + degree_of n
degree_more m p n = let whole = sum_by-append (λ (q : Var × ℕ). q.1) m (p ∷ n) in let tail = sum_by-cons (λ (q : Var × ℕ). q.1) p n in omega arith

module _ (done : Powers) (p : Var × ℕ) where
  pub monomial_more : CanWriteMonomial done → IsVariable p.0 → 1 ≤ p.1 → degree_of done + p.1 ≤ 65535 → IfSome (last_of done) (λ q. var_cmp q.0 p.0 ≡ Less) → CanWriteMonomial (done ++ p ∷ [])
  monomial_more h variable some fits last =
      let nonzero : eqb p.1 0 ≡ false = grind (arith, nat_tests) in record {
        monomial = record {
          in_order = canonical_more var_cmp exponents var_order done p h.monomial.in_order nonzero last;
          degree_fits = let sum = degree_more done p [] in let none : degree_of [] ≡ 0 = refl in omega arith;
        };
        variables = keys_more IsVariable done p h.variables variable;
      }

  pub powers_before : CanWriteMonomial done → IfSome (last_of done) (λ q. var_cmp q.0 p.0 ≡ Less) → All (λ q. var_cmp q.0 p.0 ≡ Less) done
  powers_before h last = all_before var_cmp exponents var_order done p.0 h.monomial.in_order last

  module _ (s0 s1 : List ℕ) (read : Begins single_powers s0 p s1) where
    -- a power is refused whose place is not behind the others
    power_refused : ((more : Powers) → CanWriteMonomial (done ++ p ∷ more) → ⊥) → RefusesPower s0 done
    power_refused none q rest other more fits =
        let same = (single_powers_unique s0 p q s1 rest read other).0 in
        let P : (Var × ℕ) → Type 0 = λ z. CanWriteMonomial (done ++ z ∷ more) in
        none more (subst P (sym same) fits)

    pub power_too_high : (degree_of done + p.1 ≤ 65535 → ⊥) → RefusesPower s0 done
    power_too_high high = power_refused (λ more fits. let sum = degree_more done p more in let room : degree_of (done ++ p ∷ more) ≤ 65535 = fits.monomial.degree_fits in high (omega arith))

    pub power_misplaced : (IfSome (last_of done) (λ q. var_cmp q.0 p.0 ≡ Less) → ⊥) → RefusesPower s0 done
    power_misplaced other = power_refused (λ more fits. other (canonical_last var_cmp exponents var_order done p more fits.monomial.in_order))

-- a power is put behind those of a factor
pub power_pushed : (s0 s1 : List ℕ) (f g : Powers × ℤ) (p : Var × ℕ) (degree : ℕ) → Begins single_powers s0 p s1 → CanWriteMonomial f.0 → degree ≡ degree_of f.0 → p.1 ≤ 65535 - degree
    → IfSome (last_of f.0) (λ q. var_cmp q.0 p.0 ≡ Less) → g ≡ (f.0 ++ p ∷ [], f.1) → PushesPower s0 s1 f g (degree + p.1)
power_pushed s0 s1 f g p degree read written is room last grown =
    let powers : g.0 ≡ f.0 ++ p ∷ [] = ap (λ z. z.0) grown in
    let some : 1 ≤ p.1 = read.fits.1 in
    let sum = degree_more f.0 p [] in
    let none : degree_of [] ≡ 0 = refl in
    let fits : degree_of f.0 ≤ 65535 = written.monomial.degree_fits in record {
      power = p;
      read = read;
      grown = grown;
      fits = subst CanWriteMonomial (sym powers) (monomial_more f.0 p written read.fits.0 some (omega arith) last);
      degree_is = let total : degree_of g.0 ≡ degree_of (f.0 ++ p ∷ []) = ap degree_of powers in omega arith;
    }

-- the powers of a factor, as far as they are read
pub record ArePowersRead (s0 now : List ℕ) (f : Powers × ℤ) (number : ℤ) (degree : ℕ) : Type 0 where
  pub number_is : f.1 ≡ number
  pub degree_is : degree ≡ degree_of f.0
  pub written : CanWriteMonomial f.0
  pub read : s0 ≡ flat_map power_text f.0 ++ now
  pub refuses : NoneBegins (powers_after f.0) now → NoneBegins (powers_after []) s0

pub powers_begin : (s0 : List ℕ) (number : ℤ) → ArePowersRead s0 s0 ([], number) number 0
powers_begin s0 number = record {
  number_is = refl;
  degree_is = refl;
  written = record { monomial = record { in_order = tt; degree_fits = omega arith }; variables = tt };
  read = refl;
  refuses = λ none. none;
}

module _ (s0 now : List ℕ) (f : Powers × ℤ) (number : ℤ) (degree : ℕ) (h : ArePowersRead s0 now f number degree) where
  pub powers_step : (next : List ℕ) (g : Powers × ℤ) (sum : ℕ) → PushesPower now next f g sum → ArePowersRead s0 next g number sum
  powers_step next g sum k =
      let powers : g.0 ≡ f.0 ++ k.power ∷ [] = ap (λ z. z.0) k.grown in
      let P : Powers → Type 0 = λ m. NoneBegins (powers_after m) next in record {
        number_is = ap (λ z. z.1) k.grown ∙ h.number_is;
        degree_is = k.degree_is;
        written = k.fits;
        read = text_more single_powers is_power_byte CanWriteMonomial s0 now next f.0 k.power h.read k.read.spelt ∙ ap (λ m. flat_map power_text m ++ next) (sym powers);
        refuses = λ none. h.refuses (refuse_rest single_powers is_power_byte CanWriteMonomial powers_listed f.0 now next k.power k.read (subst P powers none));
      }

  pub powers_refused : (rest : List ℕ) → now ≡ 42 ∷ rest → RefusesPower now f.0 → NoneBegins (powers_after []) s0
  powers_refused rest star none = h.refuses inner
    where
      inner : NoneBegins (powers_after f.0) now
      inner [] r k = not_stopped is_power_byte 42 rest r refl k.stops (sym k.spelt ∙ star)
      inner (p ∷ m) r k = none p (flat_map power_text m ++ r) (item_begins single_powers is_power_byte CanWriteMonomial powers_listed f.0 now p m r k) m k.fits

  pub powers_go_on : BeginsWith is_power_byte now → ((rest : List ℕ) → now ≡ 42 ∷ rest → ⊥) → NoneBegins (powers_after []) s0
  powers_go_on more none = h.refuses (inner now more none)
    where
      inner : (s : List ℕ) → BeginsWith is_power_byte s → ((rest : List ℕ) → s ≡ 42 ∷ rest → ⊥) → NoneBegins (powers_after f.0) s
      inner [] more none = absurd more
      inner (b ∷ bs) more none = refuse_byte single_powers is_power_byte CanWriteMonomial powers_listed f.0 (b ∷ bs) bs b refl more (λ e. none bs (ap (λ z. z ∷ bs) e))

  pub powers_end : StopsAt is_power_byte now → Begins (powers_after []) s0 f.0 now
  powers_end stops = record { spelt = h.read; fits = h.written; stops = stops }

-- a power that is read leaves less
pub shorter : (p : Var × ℕ) (s0 s1 : List ℕ) → Begins single_powers s0 p s1 → length s1 < length s0
shorter p s0 s1 h = let n : length s0 ≡ length (power_text p ++ s1) = ap length h.spelt in let m = length-append (power_text p) s1 in let some : 1 ≤ length (power_text p) = omega arith in omega arith

-- POLYNOMIALS

pub norm_more : (q : Summands) (t : Powers × ℤ) (more : Summands) → norm_of (q ++ t ∷ more) ≡ norm_of q + unsigned_abs t.1 + norm_of more
norm_more q t more =
    let whole = sum_by-append (λ (u : Powers × ℤ). unsigned_abs u.1) q (t ∷ more) in let tail = sum_by-cons (λ (u : Powers × ℤ). unsigned_abs u.1) t more in omega arith

-- the last item, by its place
pub last_at : {X : Type 0} (xs : List X) (i : ℕ) (x : X) → i + 1 ≡ length xs → slice_get xs i ≡ Some x → last_of xs ≡ Some x
last_at [] i x n e = absurd (omega arith)
last_at (y ∷ []) zero x n e = e
last_at (y ∷ []) (suc i) x n e = absurd (omega arith)
last_at (y ∷ z ∷ xs) zero x n e = absurd (omega arith)
last_at (y ∷ z ∷ xs) (suc i) x n e = last_at (z ∷ xs) i x (omega arith) e

pub last_by_get : {X : Type 0} (xs ys : List X) (x : X) → ys ≡ xs → slice_get ys (length ys - 1) ≡ Some x → last_of xs ≡ Some x
last_by_get xs ys x e h = ap last_of (sym e) ∙ inner ys h
  where
    inner : {X : Type 0} (zs : List X) {x : X} → slice_get zs (length zs - 1) ≡ Some x → last_of zs ≡ Some x
    inner [] h = absurd (cc)
    inner (z ∷ zs) {x} h = last_at (z ∷ zs) (length (z ∷ zs) - 1) x (omega arith) h

-- what a comparison tells
pub less_test : (o p : Ordering) (b : Bool) → o ≡ p → b ≡ (ordering_index o == 0) → IsTrue b ↔ (p ≡ Less)
less_test o p b e t = let P : Ordering → Type 0 = λ q. IsTrue b ↔ (q ≡ Less) in subst P e (inner o b t)
  where
    inner : (o : Ordering) (b : Bool) → b ≡ (ordering_index o == 0) → IsTrue b ↔ (o ≡ Less)
    inner Less b t = ((λ h. refl), (λ h. t))
    inner Equal b t = ((λ h. let f : true ≡ false = sym h ∙ t in absurd (cc)), (λ h. absurd (cc)))
    inner Greater b t = ((λ h. let f : true ≡ false = sym h ∙ t in absurd (cc)), (λ h. absurd (cc)))

-- what is told of the last item
pub if_last : {X : Type 0} (P : X → Type 0) (xs : List X) (x : X) (B : Type 0) → last_of xs ≡ Some x → B ↔ P x → B ↔ IfSome (last_of xs) P
if_last {X} P xs x B e h = let Q : Option X → Type 0 = λ o. B ↔ IfSome o P in subst Q (sym e) h

-- a monomial stands before another exactly where it comes first in the order of terms
earlier_first : (m n : Powers) → IsMonomial m → IsMonomial n → IsEarlier m n ↔ (term_cmp m n ≡ Less)
earlier_first m n h g = ((λ e. term_order.flip_back n m (cmp_from_IsEarlier m n h.in_order g.in_order e)), (λ e. IsEarlier-from_cmp m n h.in_order g.in_order (term_order.flip m n e)))

-- so do the last terms of polynomials
pub last_first : (q : Summands) (n : Powers) → CanWritePolynomial q → IsMonomial n → IfSome (last_of q) (λ u. IsEarlier u.0 n) ↔ IfSome (last_of q) (λ u. term_cmp u.0 n ≡ Less)
last_first q n h g = inner q h.polynomial.monomials
  where
    inner : (q : Summands) → AllKeys IsMonomial q → IfSome (last_of q) (λ u. IsEarlier u.0 n) ↔ IfSome (last_of q) (λ u. term_cmp u.0 n ≡ Less)
    inner [] h = ((λ e. tt), (λ e. tt))
    inner (u ∷ []) h = earlier_first u.0 n h.0 g
    inner (u ∷ v ∷ q) h = inner (v ∷ q) h.1

-- the terms of a polynomial stand in order
pub terms_in_order : (q : Summands) → CanWritePolynomial q → AreInOrder q
terms_in_order q h = inner q h.polynomial.in_order h.polynomial.monomials
  where
    inner : (q : Summands) → IsCanonical term_cmp coefficients q → AllKeys IsMonomial q → AreInOrder q
    inner [] h g = tt
    inner (t ∷ []) h g = tt
    inner (t ∷ u ∷ q) h g = ((earlier_first t.0 u.0 g.0 g.1.0).1 h.1.0, inner (u ∷ q) h.2 g.1)

module _ (done : Summands) (t : Powers × ℤ) where
  pub polynomial_more : CanWritePolynomial done → CanWriteFactor t → norm_of done + unsigned_abs t.1 < 2 ^ 127
      → IfSome (last_of done) (λ u. term_cmp u.0 t.0 ≡ Less) → CanWritePolynomial (done ++ t ∷ [])
  polynomial_more h term fits last =
      let some : unsigned_abs t.1 ≢ 0 = term.factor.nonzero in
      let nonzero : eqb (unsigned_abs t.1) 0 ≡ false = grind (arith, nat_tests) in record {
        polynomial = record {
          in_order = canonical_more term_cmp coefficients term_order done t h.polynomial.in_order nonzero last;
          monomials = keys_more IsMonomial done t h.polynomial.monomials term.factor.monomial;
          norm_fits = let sum = norm_more done t [] in let none : norm_of [] ≡ 0 = refl in omega arith;
        };
        variables = keys_more (λ m. AllKeys IsVariable m) done t h.variables term.variables;
      }

  module _ (s0 s1 : List ℕ) (read : Begins terms s0 t s1) where
    term_refused : ((more : Summands) → CanWritePolynomial (done ++ t ∷ more) → ⊥) → RefusesTerm s0 done
    term_refused none u rest other more fits =
        let same = (terms_unique s0 t u s1 rest read other).0 in
        let P : (Powers × ℤ) → Type 0 = λ z. CanWritePolynomial (done ++ z ∷ more) in
        none more (subst P (sym same) fits)

    pub term_too_large : (norm_of done + unsigned_abs t.1 < 2 ^ 127 → ⊥) → RefusesTerm s0 done
    term_too_large large = term_refused (λ more fits. let sum = norm_more done t more in let room : norm_of (done ++ t ∷ more) < 2 ^ 127 = fits.polynomial.norm_fits in large (omega arith))

    pub term_misplaced : (IfSome (last_of done) (λ u. term_cmp u.0 t.0 ≡ Less) → ⊥) → RefusesTerm s0 done
    term_misplaced other = term_refused (λ more fits. other (canonical_last term_cmp coefficients term_order done t more fits.polynomial.in_order))

-- a term is put behind those of a list
pub term_pushed : (s0 s1 : List ℕ) (list more : Summands) (t : Powers × ℤ) (sum : ℕ) → Begins terms s0 t s1 → CanWritePolynomial list → norm_of list + unsigned_abs t.1 < 2 ^ 127
    → IfSome (last_of list) (λ u. term_cmp u.0 t.0 ≡ Less) → more ≡ list ++ t ∷ [] → sum ≡ norm_of list + unsigned_abs t.1 → PushesTerm s0 s1 list more sum
term_pushed s0 s1 list more t sum read written room last grown is =
    let total = norm_more list t [] in
    let none : norm_of [] ≡ 0 = refl in
    let all : norm_of list + unsigned_abs t.1 ≡ norm_of more = omega (arith, ap norm_of grown) in record {
      term = t;
      read = read;
      grown = grown;
      fits = subst CanWritePolynomial (sym grown) (polynomial_more list t written read.fits room last);
      norm_is = is ∙ all;
    }

-- the terms of a polynomial, as far as they are read: at least one
pub record AreTermsRead (s0 now : List ℕ) (list : Summands) (norm : ℕ) : Type 0 where
  pub first : Powers × ℤ
  pub others : Summands
  pub list_is : list ≡ first ∷ others
  pub norm_is : norm ≡ norm_of list
  pub written : CanWritePolynomial list
  pub read : s0 ≡ term_text first ++ (flat_map next_term.text others ++ now)
  pub refuses : NoneBegins (terms_after list) now → NoneBegins polynomials s0

-- no text of a term is `0`
not_zero : (s0 r : List ℕ) → (s0 ≡ 48 ∷ [] → ⊥) → s0 ≡ 48 ∷ r → StopsAt is_byte r → ⊥
not_zero s0 r other e stops = other (e ∙ ap (λ l. 48 ∷ l) (nothing_stops r stops))

pub first_term_refused : (s0 : List ℕ) → (s0 ≡ 48 ∷ [] → ⊥) → RefusesTerm s0 [] → NoneBegins polynomials s0
first_term_refused s0 other none [] r k = not_zero s0 r other k.spelt k.stops
first_term_refused s0 other none (t ∷ ts) r k = none t (flat_map next_term.text ts ++ r) (polynomial_parts s0 t ts r k).0 ts k.fits

first_refuses : (s0 s1 : List ℕ) (t : Powers × ℤ) → Begins terms s0 t s1 → NoneBegins (terms_after (t ∷ [])) s1 → NoneBegins polynomials s0
first_refuses s0 s1 t read none [] r k = term_is_no_zero t s1 r (sym read.spelt ∙ k.spelt)
first_refuses s0 s1 t read none (u ∷ us) r k =
    let parts = polynomial_parts s0 u us r k in
    let one = terms_unique s0 t u s1 (flat_map next_term.text us ++ r) read parts.0 in
    let P : (Powers × ℤ) → Type 0 = λ z. Begins (terms_after (z ∷ [])) (flat_map next_term.text us ++ r) us r in
    let Q : List ℕ → Type 0 = λ l. Begins (terms_after (t ∷ [])) l us r in
    none us r (subst Q (sym one.1) (subst P (sym one.0) parts.1))

pub terms_begin : (s0 s1 : List ℕ) (list : Summands) (norm : ℕ) → PushesTerm s0 s1 [] list norm → AreTermsRead s0 s1 list norm
terms_begin s0 s1 list norm k =
    let P : Summands → Type 0 = λ l. NoneBegins (terms_after l) s1 in record {
      first = k.term;
      others = [];
      list_is = k.grown;
      norm_is = k.norm_is;
      written = k.fits;
      read = k.read.spelt;
      refuses = λ none. first_refuses s0 s1 k.term k.read (subst P k.grown none);
    }

module _ (s0 now : List ℕ) (list : Summands) (norm : ℕ) (h : AreTermsRead s0 now list norm) where
  pub terms_no_space : (now ≡ [] → ⊥) → ((rest : List ℕ) → now ≡ 32 ∷ rest → ⊥) → NoneBegins polynomials s0
  terms_no_space some none = h.refuses inner
    where
      inner : NoneBegins (terms_after list) now
      inner [] r k = some (k.spelt ∙ nothing_stops r k.stops)
      inner (t ∷ ts) r k = none (term_text t ++ flat_map next_term.text ts ++ r) k.spelt

  module _ (s1 : List ℕ) (space : now ≡ 32 ∷ s1) where
    -- behind a space a term is due
    pub due_term : (t : Powers × ℤ) (ts : Summands) (r : List ℕ) → Begins (terms_after list) now (t ∷ ts) r → Begins terms s1 t (flat_map next_term.text ts ++ r)
    due_term t ts r k =
        let item = item_begins next_term is_byte CanWritePolynomial terms_listed list now t ts r k in
        let both : 32 ∷ s1 ≡ 32 ∷ (term_text t ++ (flat_map next_term.text ts ++ r)) = sym space ∙ item.spelt in
        let same : s1 ≡ term_text t ++ (flat_map next_term.text ts ++ r) = cc in
        record { spelt = same; fits = item.fits; stops = item.stops }

    pub terms_refused : RefusesTerm s1 list → NoneBegins polynomials s0
    terms_refused none = h.refuses inner
      where
        inner : NoneBegins (terms_after list) now
        inner [] r k = let e : [] ≡ 32 ∷ s1 = sym (k.spelt ∙ nothing_stops r k.stops) ∙ space in absurd (cc)
        inner (t ∷ ts) r k = none t (flat_map next_term.text ts ++ r) (due_term t ts r k) ts k.fits

    pub terms_step : (s2 : List ℕ) (more : Summands) (sum : ℕ) → PushesTerm s1 s2 list more sum → AreTermsRead s0 s2 more sum
    terms_step s2 more sum k =
        let next : Begins next_term now k.term s2 = record { spelt = space ∙ ap (λ l. 32 ∷ l) k.read.spelt; fits = k.read.fits; stops = k.read.stops } in
        let P : Summands → Type 0 = λ l. NoneBegins (terms_after l) s2 in record {
          first = h.first;
          others = h.others ++ k.term ∷ [];
          list_is = k.grown ∙ ap (λ l. l ++ k.term ∷ []) h.list_is;
          norm_is = k.norm_is;
          written = k.fits;
          read = h.read ∙ ap (λ l. term_text h.first ++ l) (text_more next_term is_byte CanWritePolynomial (flat_map next_term.text h.others ++ now) now s2 h.others k.term refl next.spelt);
          refuses = λ none. h.refuses (refuse_rest next_term is_byte CanWritePolynomial terms_listed list now s2 k.term next (subst P k.grown none));
        }

  pub terms_end : now ≡ [] → Begins polynomials s0 list []
  terms_end e =
      let text : polynomial_text list ≡ term_text h.first ++ flat_map next_term.text h.others = ap polynomial_text h.list_is ∙ joined_terms h.first h.others in record {
        spelt = h.read ∙ ap (λ l. term_text h.first ++ (flat_map next_term.text h.others ++ l)) e
            ∙ sym (append_assoc (term_text h.first) (flat_map next_term.text h.others) []) ∙ ap (λ l. l ++ []) (sym text);
        fits = h.written;
        stops = tt;
      }

-- a term that is read leaves less
pub term_shorter : (t : Powers × ℤ) (s0 s1 : List ℕ) → Begins terms s0 t s1 → length s1 ≤ length s0
term_shorter t s0 s1 h = let n : length s0 ≡ length (term_text t ++ s1) = ap length h.spelt in let m = length-append (term_text t) s1 in omega arith

-- VALUES

-- values, as far as they are read
pub record AreValuesRead (s0 now : List ℕ) (items : List (Var × ℤ)) : Type 0 where
  pub written : CanWriteValues items
  pub read : s0 ≡ flat_map value_text items ++ now
  pub refuses : NoneBegins (after single_values is_byte CanWriteValues items) now → NoneBegins value_lists s0

values_more : (done : List (Var × ℤ)) (v : Var × ℤ) → CanWriteValues done → CanWriteValue v → CanWriteValues (done ++ v ∷ [])
values_more [] v h k = (k, tt)
values_more (w ∷ done) v h k = (h.0, values_more done v h.1 k)

pub values_begin : (s0 : List ℕ) → AreValuesRead s0 s0 []
values_begin s0 = record { written = tt; read = refl; refuses = λ none. none }

module _ (s0 now : List ℕ) (items : List (Var × ℤ)) (h : AreValuesRead s0 now items) where
  pub values_step : (v : Var × ℤ) (next : List ℕ) → Begins single_values now v next → AreValuesRead s0 next (items ++ v ∷ [])
  values_step v next k = record {
    written = values_more items v h.written k.fits;
    read = text_more single_values is_byte CanWriteValues s0 now next items v h.read k.spelt;
    refuses = λ none. h.refuses (refuse_rest single_values is_byte CanWriteValues values_listed items now next v k none);
  }

  pub values_refused : (now ≡ [] → ⊥) → NoneBegins single_values now → NoneBegins value_lists s0
  values_refused some none = h.refuses (inner now some none)
    where
      inner : (s : List ℕ) → (s ≡ [] → ⊥) → NoneBegins single_values s → NoneBegins (after single_values is_byte CanWriteValues items) s
      inner [] some none = absurd (some refl)
      inner (b ∷ bs) some none = refuse_item single_values is_byte CanWriteValues values_listed items (b ∷ bs) bs b refl refl none

  pub values_end : now ≡ [] → Begins value_lists s0 items []
  values_end e = record { spelt = h.read ∙ ap (λ l. flat_map value_text items ++ l) e; fits = h.written; stops = tt }

pub value_shorter : (v : Var × ℤ) (s0 s1 : List ℕ) → Begins single_values s0 v s1 → length s1 < length s0
value_shorter v s0 s1 h = let n : length s0 ≡ length (value_text v ++ s1) = ap length h.spelt in let m = length-append (value_text v) s1 in
    let some : 1 ≤ length (value_text v) = omega arith in omega arith

-- WHAT `OK_OR` HANDS ON

pub from_ok_or : {A E : Type 0} (P : A → Type 0) (o : Option A) (e : E) (r : Result A E) (x : A) → r ≡ ok_or o e → r ≡ Ok x → IfSome o P → P x
from_ok_or {A} {E} P None e r x is ok h = let f : ◌≡◌ {A = Result A E} (Err e) (Ok x) = sym is ∙ ok in absurd (cc)
from_ok_or {A} {E} P (Some y) e r x is ok h = let f : ◌≡◌ {A = Result A E} (Ok y) (Ok x) = sym is ∙ ok in let same : y ≡ x = cc in subst P same h

pub from_err : {A E : Type 0} (o : Option A) (e : E) (r : Result A E) (x : E) → r ≡ ok_or o e → r ≡ Err x → IsNone o
from_err None e r x is err = refl
from_err {A} {E} (Some y) e r x is err = let f : ◌≡◌ {A = Result A E} (Ok y) (Err x) = sym is ∙ err in absurd (cc)

-- the error that `?` hands on
pub bad_error : {T : Type 0} (r : Result T LineError) (x b : LineError) → IsErrAnd r (λ e. e ≡ x) → r ≡ Err b → x ≡ b
bad_error {T} r x b h e = let P : Result T LineError → Type 0 = λ q. IsErrAnd q (λ e. e ≡ x) in sym (subst P e h)

-- TERMS AND FACTORS THAT ARE REFUSED

pub term_no_number : (s0 : List ℕ) → NoneBegins signed_coefficients s0 → NoneBegins terms s0
term_no_number s0 none t r h = none t.1 (flat_map power_text t.0 ++ r) (term_parts s0 t r h).0

pub term_no_powers : (s0 s1 : List ℕ) (z : ℤ) → Begins signed_coefficients s0 z s1 → NoneBegins (powers_after []) s1 → NoneBegins terms s0
term_no_powers s0 s1 z read none t r h =
    let parts = term_parts s0 t r h in
    let P : List ℕ → Type 0 = λ l. Begins (powers_after []) l t.0 r in
    none t.0 r (subst P (sym (coefficients_unique s0 z t.1 s1 (flat_map power_text t.0 ++ r) read parts.0).1) parts.1)

pub factor_no_number : (s0 : List ℕ) → NoneBegins integers s0 → NoneBegins factors s0
factor_no_number s0 none t r h = none t.1 (flat_map power_text t.0 ++ r) (factor_parts s0 t r h).0

pub factor_zero : (s0 s1 : List ℕ) (z : ℤ) → Begins integers s0 z s1 → z ≡ pos 0 → NoneBegins factors s0
factor_zero s0 s1 z read nothing t r h =
    let same = (integers_unique s0 z t.1 s1 (flat_map power_text t.0 ++ r) read (factor_parts s0 t r h).0).0 in
    h.fits.factor.nonzero (ap unsigned_abs (sym same ∙ nothing))

pub factor_no_powers : (s0 s1 : List ℕ) (z : ℤ) → Begins integers s0 z s1 → NoneBegins (powers_after []) s1 → NoneBegins factors s0
factor_no_powers s0 s1 z read none t r h =
    let parts = factor_parts s0 t r h in
    let P : List ℕ → Type 0 = λ l. Begins (powers_after []) l t.0 r in
    none t.0 r (subst P (sym (integers_unique s0 z t.1 s1 (flat_map power_text t.0 ++ r) read parts.0).1) parts.1)

-- and those that are read
pub term_read : (s0 s1 s2 : List ℕ) (z : ℤ) (f : Powers × ℤ) → Begins signed_coefficients s0 z s1 → Begins (powers_after []) s1 f.0 s2 → f.1 ≡ z → Begins terms s0 f s2
term_read s0 s1 s2 z f read powers is =
    let at : Begins signed_coefficients s0 f.1 s1 = subst (λ (y : ℤ). Begins signed_coefficients s0 y s1) (sym is) read in
    let front = sign_text f.1 ++ decimal (unsigned_abs f.1) in record {
      spelt = at.spelt ∙ ap (λ l. front ++ l) powers.spelt ∙ sym (append_assoc front (flat_map power_text f.0) s2);
      fits = record {
        factor = record {
          monomial = powers.fits.monomial;
          nonzero = (λ none. let some : 1 ≤ unsigned_abs f.1 = at.fits.0 in omega arith);
          fits = at.fits.1;
        };
        variables = powers.fits.variables;
      };
      stops = powers.stops;
    }

pub factor_read : (s0 s1 s2 : List ℕ) (z : ℤ) (f : Powers × ℤ) → unsigned_abs z ≢ 0 → Begins integers s0 z s1 → Begins (powers_after []) s1 f.0 s2 → f.1 ≡ z → Begins factors s0 f s2
factor_read s0 s1 s2 z f some read powers is =
    let at : Begins integers s0 f.1 s1 = subst (λ (y : ℤ). Begins integers s0 y s1) (sym is) read in
    let front = signed_decimal f.1 in record {
      spelt = at.spelt ∙ ap (λ l. front ++ l) powers.spelt ∙ sym (append_assoc front (flat_map power_text f.0) s2);
      fits = record { factor = record { monomial = powers.fits.monomial; nonzero = (λ none. some (ap unsigned_abs (sym is) ∙ none)); fits = at.fits }; variables = powers.fits.variables };
      stops = powers.stops;
    }

-- the size of a number that fits its type
pub size_is : (z y : ℤ) (n : ℕ) → n ≡ unsigned_abs (to_z w128 (of_z w128 z)) → z ≡ y → unsigned_abs y < 2 ^ 127 → n ≡ unsigned_abs y
size_is z y n e is fits =
    let size : unsigned_abs z ≡ unsigned_abs y = ap unsigned_abs is in
    let cast : to_z w128 (of_z w128 z) ≡ z = to_z-of_z w128 z (omega (arith, unfold_mag z)) in
    e ∙ ap unsigned_abs cast ∙ size
