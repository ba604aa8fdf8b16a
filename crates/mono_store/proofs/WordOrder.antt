-- Words of monomials: below the number of words, in the order of monomials.
use Rattle.std.proofs.Common.{◌≡◌, ℕ, zero, suc, ◌+◌, ◌-◌, ◌*◌, ◌<◌, ◌≤◌, eqb, false, cond, inl, inr, [], ◌∷◌, length, drop, refl, sym}
use Rattle.std.proofs.Common.{ap, ap₂, subst, ◌∙◌, arith}
use Rattle.std.specs.Ordering.{nat_cmp, ordering_then, is_eq}
use Rattle.std.specs.declared.cmp.Ordering.{Ordering}
use Rattle.std.specs.declared.cmp.Ordering.TheVariants.{Less, Equal, Greater}
use Rattle.std.proofs.lemmas.Bool.{cases_lt}
use Rattle.std.proofs.lemmas.Bool.Decides.{nat_tests}
use Rattle.std.proofs.lemmas.Cmp.{ranked}
use Rattle.std.proofs.lemmas.List.{drop_all, drop_more, get_or_past}
use Rattle.std.proofs.lemmas.List.Sums.{sum_by-cons}
use Rattle.std.proofs.lemmas.Nat.{mul-add-lt, mul-le, row_fits}
use Rattle.sparse_lists.specs.SparseLists.{IsBefore, IsCanonical}
use Rattle.sparse_lists.proofs.NaturalAmounts.{natural_order}
use Rattle.mono_store.specs.Monomials.{Powers, exponent, exponents, monomial_cmp}
use Rattle.mono_store.proofs.Numbers.{below, is_below}
use Rattle.mono_store.specs.Words.{Limits, FitsLimits, count_from, limit, word, word_count}

-- DIGITS

pub word_count-some : (limits : Limits) → 1 ≤ word_count limits
word_count-some [] = omega arith
word_count-some (n ∷ ns) = omega (arith, mul-le 1 1 (n + 1) (word_count ns) (omega arith) (word_count-some ns))

pub count_from-some : (limits : Limits) (v : ℕ) → 1 ≤ count_from limits v
count_from-some limits v = word_count-some (drop v limits)

-- the words from a variable on are those of the later ones, times one more than its limit
pub count_from-step : (limits : Limits) (v : ℕ) → count_from limits v ≡ (limit limits v + 1) * count_from limits (v + 1)
count_from-step limits v =
    elim (cases_lt v (length limits)) [
      | inl within ↦ ap word_count (drop_more limits v 0 within)
      | inr past ↦
          let here : count_from limits v ≡ 1 = ap word_count (drop_all v limits past) in
          let later : count_from limits (v + 1) ≡ 1 = ap word_count (drop_all (v + 1) limits (omega arith)) in
          let none : limit limits v ≡ 0 = get_or_past limits v 0 past in
          here ∙ sym (ap₂ (λ (n x : ℕ). (n + 1) * x) none later)
    ]

count_from-next : (limits : Limits) (v : ℕ) → count_from limits (v + 1) ≤ count_from limits v
count_from-next limits v =
    omega (
      arith,
      count_from-step limits v,
      mul-le 1 (count_from limits (v + 1)) (limit limits v + 1) (count_from limits (v + 1)) (omega arith) (omega arith),
    )

count_from-plus : (limits : Limits) (v d : ℕ) → count_from limits (v + d) ≤ count_from limits v
count_from-plus limits v zero =
    subst (λ (x : ℕ). count_from limits x ≤ count_from limits v) (let e : v ≡ v + 0 = omega arith in e) (omega arith)
count_from-plus limits v (suc d) =
    let next : v + suc d ≡ v + d + 1 = omega arith in
    omega (arith, ap (count_from limits) next, count_from-next limits (v + d), count_from-plus limits v d)

pub count_from-le : (limits : Limits) (u v : ℕ) → u ≤ v → count_from limits v ≤ count_from limits u
count_from-le limits u v h =
    subst (λ (x : ℕ). count_from limits x ≤ count_from limits u) (let e : u + (v - u) ≡ v = omega arith in e)
    (count_from-plus limits u (v - u))

-- a number in the digit of a variable, over one in the later digits
pub in_digit : (limits : Limits) (v e rest : ℕ) → e ≤ limit limits v → rest < count_from limits (v + 1)
    → e * count_from limits (v + 1) + rest < count_from limits v
in_digit limits v e rest h g =
    let whole = count_from-step limits v in
    omega (arith, whole, mul-add-lt e (count_from limits (v + 1)) rest (limit limits v + 1) (omega arith) g)

-- WORDS

pub word-cons : (limits : Limits) (p : ℕ × ℕ) (m : Powers) → word limits (p ∷ m) ≡ p.1 * count_from limits (p.0 + 1) + word limits m
word-cons limits p m = sum_by-cons (λ (p : ℕ × ℕ). p.1 * count_from limits (p.0 + 1)) p m

-- the variables of the monomial are numbered from v on
abbrev pub StartsAt : ℕ → Powers → Type 0
StartsAt v [] = Unit {0}
StartsAt v (p ∷ m) = v ≤ p.0

StartsAt-rest : (v : ℕ) (m : Powers) → IsBefore nat_cmp v m → StartsAt (v + 1) m
StartsAt-rest v [] h = tt
StartsAt-rest v (p ∷ m) h = omega (arith, is_below v p.0 h.0)

pub StartsAt-zero : (m : Powers) → StartsAt 0 m
StartsAt-zero [] = tt
StartsAt-zero (p ∷ m) = omega arith

pub FitsLimits-rest : {limits : Limits} {p : ℕ × ℕ} {m : Powers} → FitsLimits limits (p ∷ m) → FitsLimits limits m
FitsLimits-rest {limits} {p} {m} h = record { exponents = λ v. omega (arith, h.exponents v) }

pub FitsLimits-first : {limits : Limits} {p : ℕ × ℕ} {m : Powers} → FitsLimits limits (p ∷ m) → p.1 ≤ limit limits p.0
FitsLimits-first {limits} {p} {m} h =
    let here : exponent p.0 (p ∷ m) ≡ p.1 + exponent p.0 m =
    ap (λ (o : Ordering). cond (is_eq o) p.1 0 + exponent p.0 m) (natural_order.self p.0) in
    omega (arith, here, h.exponents p.0)

-- a monomial in the variables from v on is below the words of these
pub word-below : (limits : Limits) (v : ℕ) (m : Powers) → IsCanonical nat_cmp exponents m → StartsAt v m → FitsLimits limits m
    → word limits m < count_from limits v
word-below limits v [] h s f = count_from-some limits v
word-below limits v (p ∷ m) h s f =
    let rest : word limits m < count_from limits (p.0 + 1) =
    word-below limits (p.0 + 1) m h.2 (StartsAt-rest p.0 m h.1) (FitsLimits-rest f) in
    let whole = in_digit limits p.0 p.1 (word limits m) (FitsLimits-first f) rest in
    let wider = count_from-le limits v p.0 s in
    omega (arith, whole, wider, word-cons limits p m)

-- ORDER

above : (a b : ℕ) → b < a → nat_cmp a b ≡ Greater
above a b h = natural_order.flip b a (below b a h)

one_more : (a b s x y : ℕ) → a < b → x < s → a * s + x < b * s + y
one_more a b s x y h g = omega (arith, row_fits a s b s h (omega arith))

plus : (a x y : ℕ) → nat_cmp (a + x) (a + y) ≡ nat_cmp x y
plus a x y = grind (arith, nat_tests)

positive : (p : ℕ × ℕ) (m : Powers) → IsCanonical nat_cmp exponents (p ∷ m) → 0 < p.1
positive p m h = let nonzero : eqb p.1 0 ≡ false = h.0 in grind (arith, nat_tests)

word-positive : (limits : Limits) (p : ℕ × ℕ) (m : Powers) → IsCanonical nat_cmp exponents (p ∷ m)
    → count_from limits (p.0 + 1) ≤ word limits (p ∷ m)
word-positive limits p m h =
    let once = mul-le 1 (count_from limits (p.0 + 1)) p.1 (count_from limits (p.0 + 1)) (positive p m h) (omega arith) in
    omega (arith, once, word-cons limits p m)

-- the first power of the one stands before that of the other
word-later : (limits : Limits) (p q : ℕ × ℕ) (m n : Powers) → IsCanonical nat_cmp exponents (p ∷ m) → IsCanonical nat_cmp exponents (q ∷ n)
    → FitsLimits limits (p ∷ m) → q.0 < p.0 → word limits (p ∷ m) < word limits (q ∷ n)
word-later limits p q m n h g f lt =
    let less = word-below limits p.0 (p ∷ m) h (omega arith) f in
    let wider = count_from-le limits (q.0 + 1) p.0 (omega arith) in
    omega (arith, less, wider, word-positive limits q n g)

-- both have the same first variable, and the one has less of it
word-less : (limits : Limits) (p q : ℕ × ℕ) (m n : Powers) → IsCanonical nat_cmp exponents (p ∷ m) → FitsLimits limits (p ∷ m)
    → q.0 ≡ p.0 → p.1 < q.1 → word limits (p ∷ m) < word limits (q ∷ n)
word-less limits p q m n h f same lt =
    let rest : word limits m < count_from limits (p.0 + 1) =
    word-below limits (p.0 + 1) m h.2 (StartsAt-rest p.0 m h.1) (FitsLimits-rest f) in
    let place : count_from limits (q.0 + 1) ≡ count_from limits (p.0 + 1) = ap (λ (v : ℕ). count_from limits (v + 1)) same in
    let other : word limits (q ∷ n) ≡ q.1 * count_from limits (p.0 + 1) + word limits n =
    word-cons limits q n ∙ ap (λ (s : ℕ). q.1 * s + word limits n) place in
    omega (arith, word-cons limits p m, other, one_more p.1 q.1 (count_from limits (p.0 + 1)) (word limits m) (word limits n) lt rest)

-- both have the same first power
word-rest : (limits : Limits) (p q : ℕ × ℕ) (m n : Powers) → q.0 ≡ p.0 → p.1 ≡ q.1
    → nat_cmp (word limits (p ∷ m)) (word limits (q ∷ n)) ≡ nat_cmp (word limits m) (word limits n)
word-rest limits p q m n same times =
    ap₂ nat_cmp (word-cons limits p m)
    (word-cons limits q n ∙ ap₂ (λ (v e : ℕ). e * count_from limits (v + 1) + word limits n) same (sym times))
    ∙ plus (p.1 * count_from limits (p.0 + 1)) (word limits m) (word limits n)

-- words of monomials that fit are in the order of monomials
pub monomial_cmp-word : (limits : Limits) (m n : Powers) → IsCanonical nat_cmp exponents m → IsCanonical nat_cmp exponents n
    → FitsLimits limits m → FitsLimits limits n → monomial_cmp m n ≡ nat_cmp (word limits m) (word limits n)
monomial_cmp-word limits [] [] h g f k = refl
monomial_cmp-word limits [] (q ∷ n) h g f k =
    sym (below 0 (word limits (q ∷ n)) (omega (arith, word-positive limits q n g, count_from-some limits (q.0 + 1))))
monomial_cmp-word limits (p ∷ m) [] h g f k =
    sym (above (word limits (p ∷ m)) 0 (omega (arith, word-positive limits p m h, count_from-some limits (p.0 + 1))))
monomial_cmp-word limits (p ∷ m) (q ∷ n) h g f k =
    go (nat_cmp q.0 p.0) refl (nat_cmp p.1 q.1) refl (monomial_cmp-word limits m n h.2 g.2 (FitsLimits-rest f) (FitsLimits-rest k))
  where
    go : (o : Ordering) → nat_cmp q.0 p.0 ≡ o → (r : Ordering) → nat_cmp p.1 q.1 ≡ r
        → monomial_cmp m n ≡ nat_cmp (word limits m) (word limits n)
        → ordering_then (ordering_then o r) (monomial_cmp m n) ≡ nat_cmp (word limits (p ∷ m)) (word limits (q ∷ n))
    go Less a r b rec = sym (below _ _ (word-later limits p q m n h g f (is_below q.0 p.0 a)))
    go Greater a r b rec = sym (above _ _ (word-later limits q p n m g h k (ranked q.0 p.0 Greater (sym a))))
    go Equal a Less b rec = sym (below _ _ (word-less limits p q m n h f (natural_order.exact q.0 p.0 a) (is_below p.1 q.1 b)))
    go Equal a Greater b rec =
        sym (above _ _ (word-less limits q p n m g k (sym (natural_order.exact q.0 p.0 a)) (ranked p.1 q.1 Greater (sym b))))
    go Equal a Equal b rec = rec ∙ sym (word-rest limits p q m n (natural_order.exact q.0 p.0 a) (natural_order.exact p.1 q.1 b))
