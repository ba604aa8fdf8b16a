-- What readers of numbers, names and powers have found, and what they refuse.
use Rattle.std.proofs.Common.{◌≡◌, ℕ, suc, ◌-◌, ◌<◌, ◌≤◌, ◌^◌, true, false, cond, eqb, List, [], ◌∷◌, ◌++◌}
use Rattle.std.proofs.Common.{refl, sym, ap, ◌∙◌, subst, append_assoc, arith, lit≤}
use Rattle.std.specs.Prelude.{ℤ, pos, negsuc, unsigned_abs, slice_get, Option, Some, None, Result, Ok}
use Rattle.std.specs.Result.{result_ok}
use Rattle.std.proofs.lemmas.Fmt.{decimal_digit}
use Rattle.std.proofs.lemmas.Int.{to_z-of_z}
use mir.Val.{to_z, of_z}
use mir.Syntax.{w128}
use Rattle.std.specs.Int.Signed.{mag}
use Rattle.std.specs.Fmt.{decimal, signed_decimal}
use Rattle.std.proofs.lemmas.Bool.Decides.{nat_tests}
use Rattle.geo_base.proofs.DecimalLemmas.{signed_decimal_writes}
use Rattle.geo_base.specs.Decimals.{IsDecimal, decimal_size, decimal_value}
use Rattle.geo_poly.specs.declared.variables.Var.{Var}
use Rattle.proof_log.specs.Lines.{numbers_text}
use Rattle.proof_log.specs.Writable.{IsSorted, numbers}
use Rattle.proof_log.specs.Inner.Reading.{Begins, NoneBegins, Passes, StopsAt, coefficients, exponent_text, exponents, integers}
use Rattle.proof_log.specs.Inner.Reading.{is_exponent_byte, is_number_byte, names, naturals, number_lists, single_powers, single_values}
use Rattle.proof_log.specs.Inner.Reading.{variables}
use Rattle.proof_log.proofs.Runs.{integer_passes, integers_unique, natural_integer, naturals_unique, same_run, wide}
use Rattle.proof_log.proofs.UniqueTerms.{value_parts}
use Rattle.proof_log.proofs.Unique.{exponent_text-more, letter, arity, name_numbers, names_unique, not_stopped, power_parts, small_unique}
use Rattle.proof_log.proofs.Unique.{unwritten_exponent, variable_name_begins, variables_unique, written_exponent, name_parts}

-- WHOLE NUMBERS

-- the run of digits and `-` that stands next
module _ (bytes run rest : List ℕ) (split : bytes ≡ run ++ rest) (all : Passes is_number_byte run) (stops : StopsAt is_number_byte rest) where
  -- a number that is due is the run
  due_integer : (z : ℤ) (r : List ℕ) → Begins integers bytes z r → signed_decimal z ≡ run
  due_integer z r h = (same_run is_number_byte (signed_decimal z) run r rest (integer_passes z (wide _ h.fits)) all h.stops stops (sym h.spelt ∙ split)).0

  pub integer_read : (z : ℤ) → signed_decimal z ≡ run → unsigned_abs z < 2 ^ 127 → Begins integers bytes z rest
  integer_read z is fits = record { spelt = split ∙ ap (λ l. l ++ rest) (sym is); fits = fits; stops = stops }

  -- the run is no decimal text, or the number is too wide
  pub integer_unread : (IsDecimal run → decimal_size run < 2 ^ 127 → ⊥) → NoneBegins integers bytes
  integer_unread none z r h =
      let writes = signed_decimal_writes z (wide _ h.fits) in
      let P : List ℕ → Type 0 = λ l. IsDecimal l in
      let is = due_integer z r h in
      let size : decimal_size run ≡ unsigned_abs z = ap decimal_size (sym is) ∙ writes.size in
      let fits : unsigned_abs z < 2 ^ 127 = h.fits in
      none (subst P is writes.decimal) (let Q : ℕ → Type 0 = λ n. n < 2 ^ 127 in subst Q (sym size) fits)

  -- the run is another spelling of its number
  pub integer_misspelt : (n : ℤ) → n ≡ decimal_value run → (signed_decimal n ≡ run → ⊥) → NoneBegins integers bytes
  integer_misspelt n value other z r h =
      let is = due_integer z r h in
      let same : n ≡ z = value ∙ ap decimal_value (sym is) ∙ (signed_decimal_writes z (wide _ h.fits)).value in
      other (ap signed_decimal same ∙ is)

-- a digit that stands alone is a number
pub digit_read : (bytes rest : List ℕ) (b : ℕ) → bytes ≡ b ∷ rest → 48 ≤ b → b ≤ 57 → StopsAt is_number_byte rest
    → Begins (naturals 32) bytes (b - 48) rest
digit_read bytes rest b is low high stops =
    let digit : decimal (b - 48) ≡ b ∷ [] = decimal_digit (b - 48) (omega arith) ∙ ap (λ (x : ℕ). x ∷ []) (omega arith) in
    let room : 10 ≤ 2 ^ 32 = lit≤ tt in
    record { spelt = is ∙ ap (λ (l : List ℕ). l ++ rest) (sym digit); fits = omega arith; stops = stops }

-- a digit with a dot behind it
pub dotted_digit_read : (bytes more rest : List ℕ) (b dot : ℕ) → bytes ≡ b ∷ more → more ≡ dot ∷ rest → dot ≡ 46 → 48 ≤ b → b ≤ 57
    → Begins (naturals 32) bytes (b - 48) (46 ∷ rest)
dotted_digit_read bytes more rest b dot is behind point low high =
    digit_read bytes (46 ∷ rest) b (is ∙ ap (λ (l : List ℕ). b ∷ l) (behind ∙ ap (λ (d : ℕ). d ∷ rest) point)) low high refl

pub unfold_mag : (z : ℤ) → mag z ≤ unsigned_abs z
unfold_mag (pos n) = omega arith
unfold_mag (negsuc n) = omega arith

-- a result that is there is no want of one
pub no_result : {E : Type 0} (r : Result ℤ E) (o : Option ℤ) (z : ℤ) → r ≡ Ok z → o ≡ result_ok r → o ≡ None → ⊥
no_result r o z is ok none = let some : Some z ≡ None = sym (ok ∙ ap result_ok is) ∙ none in cc

-- a whole number that is read is a natural number where it fits
pub natural_read : (bits : ℕ) (bytes rest : List ℕ) (z : ℤ) (n : ℕ) → z ≡ pos n → n < 2 ^ bits → Begins integers bytes z rest → Begins (naturals bits) bytes n rest
natural_read bits bytes rest z n is small h = record { spelt = h.spelt ∙ ap (λ y. signed_decimal y ++ rest) is; fits = small; stops = h.stops }

pub natural_unread : (bits : ℕ) (bytes : List ℕ) → 2 ^ bits ≤ 2 ^ 64 → NoneBegins integers bytes → NoneBegins (naturals bits) bytes
natural_unread bits bytes small none n r h = none (pos n) r (natural_integer bits bytes n r small h)

pub natural_unfit : (bits : ℕ) (bytes rest : List ℕ) (z : ℤ) → 2 ^ bits ≤ 2 ^ 64 → Begins integers bytes z rest → ((n : ℕ) → z ≡ pos n → n < 2 ^ bits → ⊥) → NoneBegins (naturals bits) bytes
natural_unfit bits bytes rest z small h other n r k =
    other n (integers_unique bytes z (pos n) rest r h (natural_integer bits bytes n r small k)).0 k.fits

-- a number of 64 bits is one of 32 where it fits
widened : (bytes : List ℕ) (n : ℕ) (r : List ℕ) → Begins (naturals 32) bytes n r → Begins (naturals 64) bytes n r
widened bytes n r h = record { spelt = h.spelt; fits = let fits : n < 2 ^ 32 = h.fits in let room : 2 ^ 32 ≤ 2 ^ 64 = lit≤ tt in omega arith; stops = h.stops }

pub small_unfit : (bytes rest : List ℕ) (n : ℕ) → Begins (naturals 64) bytes n rest → (n < 2 ^ 32 → ⊥) → NoneBegins (naturals 32) bytes
small_unfit bytes rest n h other m r k =
    let same : n ≡ m = (naturals_unique 64 (lit≤ tt) bytes n m rest r h (widened bytes m r k)).0 in
    let fits : m < 2 ^ 32 = k.fits in
    other (omega arith)

-- NUMBERS WITH DOTS BETWEEN THEM

pub one_read : (bytes rest : List ℕ) (a : ℕ) → Begins (naturals 32) bytes a rest → Begins (number_lists 1) bytes (a ∷ []) rest
one_read bytes rest a h = record { spelt = h.spelt; fits = (refl, (h.fits, tt)); stops = h.stops }

pub one_unread : (bytes : List ℕ) → NoneBegins (naturals 32) bytes → NoneBegins (number_lists 1) bytes
one_unread bytes none [] r h = let n : 0 ≡ 1 = h.fits.0 in absurd (omega arith)
one_unread bytes none (a ∷ []) r h = none a r (record { spelt = h.spelt; fits = h.fits.1.0; stops = h.stops })
one_unread bytes none (a ∷ b ∷ ns) r h = let n = h.fits.0 in absurd (omega arith)

-- a number, a dot and others
record AreDotted (k : ℕ) (bytes r : List ℕ) : Type 0 where
  first : ℕ
  others : List ℕ
  rest : List ℕ
  read : Begins (naturals 32) bytes first (46 ∷ rest)
  more : Begins (number_lists (suc k)) rest others r

dotted : (k : ℕ) (bytes ns r : List ℕ) → Begins (number_lists (suc (suc k))) bytes ns r → AreDotted k bytes r
dotted k bytes [] r h = let n = h.fits.0 in absurd (omega arith)
dotted k bytes (a ∷ []) r h = let n = h.fits.0 in absurd (omega arith)
dotted k bytes (a ∷ b ∷ ns) r h = record {
  first = a;
  others = b ∷ ns;
  rest = numbers_text (b ∷ ns) ++ r;
  read = record { spelt = h.spelt ∙ append_assoc (decimal a) (46 ∷ numbers_text (b ∷ ns)) r; fits = h.fits.1.0; stops = refl };
  more = record { spelt = refl; fits = (let n = h.fits.0 in omega arith, h.fits.1.1); stops = h.stops };
}

module _ (k : ℕ) (s0 : List ℕ) where
  pub dotted_unread : NoneBegins (naturals 32) s0 → NoneBegins (number_lists (suc (suc k))) s0
  dotted_unread none ns r h = let d = dotted k s0 ns r h in none d.first (46 ∷ d.rest) d.read

  module _ (a : ℕ) (s1 : List ℕ) (first : Begins (naturals 32) s0 a s1) where
    pub dotted_no_dot : ((rest : List ℕ) → s1 ≡ 46 ∷ rest → ⊥) → NoneBegins (number_lists (suc (suc k))) s0
    dotted_no_dot none ns r h =
        let d = dotted k s0 ns r h in
        none d.rest (small_unique s0 a d.first s1 (46 ∷ d.rest) first d.read).1

    module _ (s2 : List ℕ) (dot : s1 ≡ 46 ∷ s2) where
      pub dotted_no_more : NoneBegins (number_lists (suc k)) s2 → NoneBegins (number_lists (suc (suc k))) s0
      dotted_no_more none ns r h =
          let d = dotted k s0 ns r h in
          let both : 46 ∷ s2 ≡ 46 ∷ d.rest = sym dot ∙ (small_unique s0 a d.first s1 (46 ∷ d.rest) first d.read).1 in
          let same : s2 ≡ d.rest = cc in
          let P : List ℕ → Type 0 = λ l. Begins (number_lists (suc k)) l d.others r in
          none d.others r (subst P (sym same) d.more)

      pub dotted_read : (ns s3 : List ℕ) → Begins (number_lists (suc k)) s2 ns s3 → Begins (number_lists (suc (suc k))) s0 (a ∷ ns) s3
      dotted_read [] s3 h = let n = h.fits.0 in absurd (omega arith)
      dotted_read (b ∷ ns) s3 h = record {
        spelt = first.spelt ∙ ap (λ l. decimal a ++ l) (dot ∙ ap (λ l. 46 ∷ l) h.spelt) ∙ sym (append_assoc (decimal a) (46 ∷ numbers_text (b ∷ ns)) s3);
        fits = (let n = h.fits.0 in omega arith, (first.fits, h.fits.1));
        stops = h.stops;
      }

-- three digits with dots between them
pub lone_digits_read : (s0 s1 s2 rest : List ℕ) (a b c : ℕ) → Begins (naturals 32) s0 a (46 ∷ s1) → Begins (naturals 32) s1 b (46 ∷ s2)
    → Begins (naturals 32) s2 c rest → Begins (number_lists 3) s0 (a ∷ b ∷ c ∷ []) rest
lone_digits_read s0 s1 s2 rest a b c first second third =
    dotted_read 1 s0 a (46 ∷ s1) first s1 refl (b ∷ c ∷ []) rest
    (dotted_read 0 s1 b (46 ∷ s2) second s2 refl (c ∷ []) rest (one_read s2 rest c third))

-- NAMES

-- no name behind no byte
pub name_nothing : (bytes : List ℕ) → bytes ≡ [] → NoneBegins names bytes
name_nothing bytes e v r h =
    let whole : [] ≡ letter v ∷ (numbers_text (numbers v) ++ r) = sym e ∙ h.spelt ∙ ap (λ l. l ++ r) (name_parts v) in absurd (cc)

-- behind a letter stand as many numbers as it has
pub name_unread : (bytes bs : List ℕ) (b : ℕ) → bytes ≡ b ∷ bs → NoneBegins (number_lists (arity b)) bs → NoneBegins names bytes
name_unread bytes bs b e none v r h = none (numbers v) r (name_numbers bytes v r b bs h e).1

-- a byte that is no letter of a name
pub name_no_letter : (bytes bs : List ℕ) (b : ℕ) → bytes ≡ b ∷ bs → ((v : Var) → letter v ≡ b → ⊥) → NoneBegins names bytes
name_no_letter bytes bs b e none v r h = none v (name_numbers bytes v r b bs h e).0

pub variable_read : (bytes rest : List ℕ) (v : Var) → IsSorted v → Begins names bytes v rest → Begins variables bytes v rest
variable_read bytes rest v sorted h = record { spelt = h.spelt; fits = record { sorted = sorted; small = h.fits }; stops = h.stops }

pub variable_unread : (bytes : List ℕ) → NoneBegins names bytes → NoneBegins variables bytes
variable_unread bytes none v r h = none v r (variable_name_begins bytes v r h)

pub variable_unsorted : (bytes rest : List ℕ) (v : Var) → Begins names bytes v rest → (IsSorted v → ⊥) → NoneBegins variables bytes
variable_unsorted bytes rest v h other w r k =
    let same = (names_unique bytes w v r rest (variable_name_begins bytes w r k) h).0 in
    other (subst IsSorted same k.fits.sorted)

-- EXPONENTS AND POWERS

no_caret : (bytes : List ℕ) → StopsAt is_number_byte bytes → ((rest : List ℕ) → bytes ≡ 94 ∷ rest → ⊥) → StopsAt is_exponent_byte bytes
no_caret [] h none = tt
no_caret (b ∷ bs) h none =
    elim (eqb b 94) as (λ p. eqb b 94 ≡ p → cond p true (is_number_byte b) ≡ false) [
      | true ↦ λ e. let is : b ≡ 94 = grind (arith, nat_tests) in absurd (none bs (ap (λ z. z ∷ bs) is))
      | false ↦ λ e. h
    ] refl

pub exponent_none : (bytes new : List ℕ) → StopsAt is_number_byte bytes → ((rest : List ℕ) → bytes ≡ 94 ∷ rest → ⊥) → new ≡ bytes → Begins exponents bytes 1 new
exponent_none bytes new h none e = record { spelt = sym e; fits = (lit≤ tt, lit≤ tt); stops = subst (StopsAt is_exponent_byte) (sym e) (no_caret bytes h none) }

module _ (s0 s1 : List ℕ) (caret : s0 ≡ 94 ∷ s1) where
  -- the exponent that is due stands behind `^`
  due_exponent : (e : ℕ) (r : List ℕ) → Begins exponents s0 e r → (eqb e 1 ≡ false) × Begins (naturals 32) s1 e r
  due_exponent e r h =
      elim (eqb e 1) as (λ p. eqb e 1 ≡ p → (p ≡ false) × Begins (naturals 32) s1 e r) [
        | true ↦ λ t. absurd (not_stopped is_exponent_byte 94 s1 r refl h.stops (sym (unwritten_exponent s0 e r t h).1 ∙ caret))
        | false ↦ λ t.
            let w = written_exponent s0 e r t h in
            let both : 94 ∷ w.rest ≡ 94 ∷ s1 = sym w.spelt ∙ caret in
            let same : w.rest ≡ s1 = cc in
            let P : List ℕ → Type 0 = λ l. Begins (naturals 32) l e r in
            (refl, subst P same w.number)
      ] refl

  pub exponent_unread : NoneBegins (naturals 32) s1 → NoneBegins exponents s0
  exponent_unread none e r h = none e r (due_exponent e r h).1

  module _ (n : ℕ) (s2 : List ℕ) (number : Begins (naturals 32) s1 n s2) where
    pub exponent_unfit : (2 ≤ n → n ≤ 65535 → StopsAt is_exponent_byte s2 → ⊥) → NoneBegins exponents s0
    exponent_unfit other e r h =
        let due = due_exponent e r h in
        let same = small_unique s1 n e s2 r number due.1 in
        let is : n ≡ e = same.0 in
        let low : 1 ≤ e = h.fits.0 in
        let high : e ≤ 65535 = h.fits.1 in
        let not_one : eqb e 1 ≡ false = due.0 in
        let more : 2 ≤ e = grind (arith, nat_tests) in
        other (omega arith) (omega arith) (subst (StopsAt is_exponent_byte) (sym same.1) h.stops)

    pub exponent_read : 2 ≤ n → n ≤ 65535 → ((rest : List ℕ) → s2 ≡ 94 ∷ rest → ⊥) → Begins exponents s0 n s2
    exponent_read low high none =
        let not_one : eqb n 1 ≡ false = grind (arith, nat_tests) in record {
          spelt = caret ∙ ap (λ l. 94 ∷ l) number.spelt ∙ ap (λ l. l ++ s2) (sym (exponent_text-more n not_one));
          fits = (omega arith, high);
          stops = no_caret s2 number.stops none;
        }

-- the next byte
pub next_is : (s : List ℕ) (b : ℕ) → slice_get s 0 ≡ Some b → (rest : List ℕ) × (s ≡ b ∷ rest)
next_is [] b h = absurd (cc)
next_is (a ∷ s) b h = let same : a ≡ b = cc in (s, ap (λ z. z ∷ s) same)

pub next_is_not : (s : List ℕ) (b : ℕ) → (slice_get s 0 ≡ Some b → ⊥) → (rest : List ℕ) → s ≡ b ∷ rest → ⊥
next_is_not s b h rest e = h (ap (λ l. slice_get l 0) e)

pub power_no_star : (s0 : List ℕ) → ((rest : List ℕ) → s0 ≡ 42 ∷ rest → ⊥) → NoneBegins single_powers s0
power_no_star s0 none p r h = let parts = power_parts s0 p r h in none parts.0 parts.1

module _ (s0 s1 : List ℕ) (star : s0 ≡ 42 ∷ s1) where
  due_power : (p : Var × ℕ) (r : List ℕ) → Begins single_powers s0 p r → Begins variables s1 p.0 (exponent_text p.1 ++ r) × Begins exponents (exponent_text p.1 ++ r) p.1 r
  due_power p r h =
      let parts = power_parts s0 p r h in
      let both : 42 ∷ parts.0 ≡ 42 ∷ s1 = sym parts.1 ∙ star in
      let same : parts.0 ≡ s1 = cc in
      let P : List ℕ → Type 0 = λ l. Begins variables l p.0 (exponent_text p.1 ++ r) in
      (subst P same parts.2, parts.3)

  pub power_no_variable : NoneBegins variables s1 → NoneBegins single_powers s0
  power_no_variable none p r h = none p.0 (exponent_text p.1 ++ r) (due_power p r h).0

  pub power_no_exponent : (v : Var) (s2 : List ℕ) → Begins variables s1 v s2 → NoneBegins exponents s2 → NoneBegins single_powers s0
  power_no_exponent v s2 h none p r k =
      let due = due_power p r k in
      let same = (variables_unique s1 v p.0 s2 (exponent_text p.1 ++ r) h due.0).1 in
      let P : List ℕ → Type 0 = λ l. Begins exponents l p.1 r in
      none p.1 r (subst P (sym same) due.1)

-- COEFFICIENTS

module _ (s0 s1 : List ℕ) (z : ℤ) (s2 : List ℕ) where
  -- behind `+`
  pub coefficient_plus : s0 ≡ 43 ∷ s1 → Begins integers s1 z s2 → (n : ℕ) → z ≡ pos n → 1 ≤ n → Begins coefficients s0 z s2
  coefficient_plus plus h n is some =
      let P : ℤ → Type 0 = λ y. Begins coefficients s0 y s2 in
      let at : Begins integers s1 (pos n) s2 = subst (λ (y : ℤ). Begins integers s1 y s2) is h in
      subst P (sym is) (record { spelt = plus ∙ ap (λ l. 43 ∷ l) at.spelt; fits = (some, at.fits); stops = at.stops })

-- without `+`
pub coefficient_minus : (s0 s2 : List ℕ) (z : ℤ) → Begins integers s0 z s2 → (n : ℕ) → z ≡ negsuc n → Begins coefficients s0 z s2
coefficient_minus s0 s2 z h n is =
    let P : ℤ → Type 0 = λ y. Begins coefficients s0 y s2 in
    let at : Begins integers s0 (negsuc n) s2 = subst (λ (y : ℤ). Begins integers s0 y s2) is h in
    subst P (sym is) (record { spelt = at.spelt; fits = (let some : 1 ≤ suc n = omega arith in some, at.fits); stops = at.stops })

-- with a `+` a positive number is due, and without it a negative one
pub coefficient_unplus : (s0 s1 : List ℕ) → s0 ≡ 43 ∷ s1 → ((z : ℤ) (r : List ℕ) → Begins integers s1 z r → (n : ℕ) → z ≡ pos n → 1 ≤ n → ⊥) → NoneBegins coefficients s0
coefficient_unplus s0 s1 plus none (pos n) r h =
    let both : 43 ∷ (decimal n ++ r) ≡ 43 ∷ s1 = sym h.spelt ∙ plus in
    let same : decimal n ++ r ≡ s1 = cc in
    none (pos n) r (record { spelt = sym same; fits = h.fits.1; stops = h.stops }) n refl h.fits.0
coefficient_unplus s0 s1 plus none (negsuc n) r h =
    let both : 45 ∷ (decimal (suc n) ++ r) ≡ 43 ∷ s1 = sym h.spelt ∙ plus in
    let same : ◌≡◌ {A = ℕ} 45 43 = cc in absurd (omega (arith, same))

pub coefficient_unminus : (s0 : List ℕ) → ((rest : List ℕ) → s0 ≡ 43 ∷ rest → ⊥) → ((z : ℤ) (r : List ℕ) → Begins integers s0 z r → (n : ℕ) → z ≡ negsuc n → ⊥) → NoneBegins coefficients s0
coefficient_unminus s0 no_plus none (pos n) r h = no_plus (decimal n ++ r) h.spelt
coefficient_unminus s0 no_plus none (negsuc n) r h = none (negsuc n) r (record { spelt = h.spelt; fits = h.fits.1; stops = h.stops }) n refl

-- VALUES

pub value_no_space : (s0 : List ℕ) → ((rest : List ℕ) → s0 ≡ 32 ∷ rest → ⊥) → NoneBegins single_values s0
value_no_space s0 none v r h = let parts = value_parts s0 v r h in none parts.0 parts.1

module _ (s0 s1 : List ℕ) (space : s0 ≡ 32 ∷ s1) where
  due_value : (v : Var × ℤ) (r : List ℕ) → Begins single_values s0 v r → Begins variables s1 v.0 (61 ∷ (signed_decimal v.1 ++ r)) × Begins integers (signed_decimal v.1 ++ r) v.1 r
  due_value v r h =
      let parts = value_parts s0 v r h in
      let both : 32 ∷ parts.0 ≡ 32 ∷ s1 = sym parts.1 ∙ space in
      let same : parts.0 ≡ s1 = cc in
      let P : List ℕ → Type 0 = λ l. Begins variables l v.0 (61 ∷ (signed_decimal v.1 ++ r)) in
      (subst P same parts.2, parts.3)

  pub value_no_variable : NoneBegins variables s1 → NoneBegins single_values s0
  value_no_variable none v r h = none v.0 (61 ∷ (signed_decimal v.1 ++ r)) (due_value v r h).0

  module _ (w : Var) (s2 : List ℕ) (name : Begins variables s1 w s2) where
    due_sign : (v : Var × ℤ) (r : List ℕ) → Begins single_values s0 v r → s2 ≡ 61 ∷ (signed_decimal v.1 ++ r)
    due_sign v r h = (variables_unique s1 w v.0 s2 (61 ∷ (signed_decimal v.1 ++ r)) name (due_value v r h).0).1

    pub value_no_sign : ((rest : List ℕ) → s2 ≡ 61 ∷ rest → ⊥) → NoneBegins single_values s0
    value_no_sign none v r h = none (signed_decimal v.1 ++ r) (due_sign v r h)

    pub value_no_number : (s3 : List ℕ) → s2 ≡ 61 ∷ s3 → NoneBegins integers s3 → NoneBegins single_values s0
    value_no_number s3 sign none v r h =
        let both : 61 ∷ s3 ≡ 61 ∷ (signed_decimal v.1 ++ r) = sym sign ∙ due_sign v r h in
        let same : s3 ≡ signed_decimal v.1 ++ r = cc in
        let due = (due_value v r h).1 in
        none v.1 r (record { spelt = same; fits = due.fits; stops = due.stops })

-- COEFFICIENTS THAT ARE REFUSED

pub coefficient_not_plus : (s0 s1 s2 : List ℕ) (number : ℤ) → s0 ≡ 43 ∷ s1 → Begins integers s1 number s2 → ((n : ℕ) → number ≡ pos n → 1 ≤ n → ⊥) → NoneBegins coefficients s0
coefficient_not_plus s0 s1 s2 number plus read none =
    coefficient_unplus s0 s1 plus (λ z r h n is some. none n ((integers_unique s1 number z s2 r read h).0 ∙ is) some)

pub coefficient_not_minus : (s0 s1 s2 : List ℕ) (number : ℤ) → ((rest : List ℕ) → s0 ≡ 43 ∷ rest → ⊥) → s1 ≡ s0
    → Begins integers s1 number s2 → ((n : ℕ) → number ≡ negsuc n → ⊥) → NoneBegins coefficients s0
coefficient_not_minus s0 s1 s2 number no_plus kept read none =
    let P : List ℕ → Type 0 = λ l. Begins integers l number s2 in
    let at = subst P kept read in
    coefficient_unminus s0 no_plus (λ z r h n is. none n ((integers_unique s0 number z s2 r at h).0 ∙ is))

-- a number without bits is 0
pub zero_bits : (z : ℤ) → of_z w128 z ≡ 0 → unsigned_abs z < 2 ^ 127 → z ≡ pos 0
zero_bits z e fits = sym (to_z-of_z w128 z (omega (arith, unfold_mag z))) ∙ ap (to_z w128) e
