-- The variables of words, told digit by digit.
use Rattle.std.proofs.Common.{◌≡◌, ℕ, zero, suc, ◌+◌, ◌*◌, ◌/◌, ◌%◌, ◌<◌, ◌≤◌, eqb, Bool, true, false, cond, ℤ, pos, List, [], ◌∷◌, ◌++◌}
use Rattle.std.proofs.Common.{inl, inr, drop, take, length, Some, slice_get, refl, sym, ap, subst, ◌∙◌, arith}
use Rattle.std.specs.Prelude.{Any, Contains, slice_index_or}
use Rattle.std.proofs.Math.Arith.{mod-mul}
use Rattle.std.proofs.lemmas.Bool.{cases_lt, false≢true}
use Rattle.std.proofs.lemmas.Bool.Decides.{nat_tests}
use Rattle.std.proofs.lemmas.List.{drop_all, get_or_append_left, get_or_push, length-append, length-take-le, take_all}
use Rattle.std.proofs.lemmas.Nat.{mod_below}
use Rattle.sparse_lists.specs.SparseLists.{AllKeys}
use Rattle.sparse_lists.proofs.Merging.{get_or_any}
use Rattle.sparse_lists.proofs.Sums.{AllKeys-at}
use Rattle.mono_store.specs.declared.links.MonoId.{MonoId}
use Rattle.mono_store.specs.Monomials.{Powers as NumberedPowers}
use Rattle.mono_store.specs.Stores.{monomial_of}
use Rattle.mono_store.specs.Words.{Limits, count_from, limit, powers_from, powers_of_word, word_count}
use Rattle.mono_store.proofs.DigitLists.{powers_from-step}
use Rattle.mono_store.proofs.Unfolding.{monomial_of-word}
use Rattle.mono_store.proofs.WordOrder.{count_from-some, count_from-step}
use Rattle.geo_poly.specs.declared.shared.Shared.{Shared}
use Rattle.geo_poly.specs.declared.variables.Var.{Var}
use Rattle.geo_poly.specs.Inner.Visits.{AreKnown, AreMarked, AreNumbersOf, IsMarked, marked}
use Rattle.geo_poly.specs.Monomials.{Powers}
use Rattle.geo_poly.specs.PolynomialVariables.{variables_of}
use Rattle.geo_poly.specs.Shared.{AllPlaces, AreParts, Indices, named, told, told_term, var_at}
use Rattle.geo_poly.proofs.EachVariable.{all_variables}
use Rattle.geo_poly.proofs.MarkedVariables.{each_item, marked-last, marked_variables_of}
use Rattle.geo_poly.proofs.Told.{index_at, item, take_more, told-is, told-within}

-- ONE WORD

module _ (limits : Limits) (w : ℕ) where
  -- something stands in the digit of the variable
  abbrev pub HasDigit : ℕ → Type 0
  HasDigit v = count_from limits (v + 1) ≤ w % count_from limits v

  abbrev digit : ℕ → ℕ
  digit v = w / count_from limits (v + 1) % (limit limits v + 1)

  split : (v : ℕ) → w % count_from limits v ≡ digit v * count_from limits (v + 1) + w % count_from limits (v + 1)
  split v = ap (λ (n : ℕ). w % n) (count_from-step limits v) ∙ mod-mul w (let some : 0 < limit limits v + 1 = omega arith in some) (count_from-some limits (v + 1))

  below : (v : ℕ) → w % count_from limits (v + 1) < count_from limits (v + 1)
  below v = mod_below w (count_from limits (v + 1)) (count_from-some limits (v + 1))

  no_digit : (v : ℕ) → digit v ≡ 0 → HasDigit v → ⊥
  no_digit v none has =
      let gone : digit v * count_from limits (v + 1) ≡ 0 * count_from limits (v + 1) = ap (λ (d : ℕ). d * count_from limits (v + 1)) none in
      omega (arith, has, split v, below v, gone)

  some_digit : (v : ℕ) → (digit v ≡ 0 → ⊥) → HasDigit v
  some_digit v some = go (digit v) (split v) some
    where
      go : (d : ℕ) → w % count_from limits v ≡ d * count_from limits (v + 1) + w % count_from limits (v + 1) → (d ≡ 0 → ⊥) → HasDigit v
      go zero e some = absurd (some refl)
      go (suc d) e some =
          let whole : suc d * count_from limits (v + 1) ≡ count_from limits (v + 1) + d * count_from limits (v + 1) = omega arith in
          omega (arith, e, whole)

  -- what holds of each variable that has something in its digit holds of each power
  all_from : (P : ℕ → Type 0) (n v : ℕ) → v + n ≡ length limits → ((k : ℕ) → HasDigit k → P k) → AllKeys P (powers_from v (drop v limits) w)
  all_from P zero v e each = subst (λ (ns : Limits). AllKeys P (powers_from v ns w)) (sym (drop_all v limits (omega (arith, e)))) tt
  all_from P (suc n) v e each =
      subst (AllKeys P) (sym (powers_from-step limits v w (omega (arith, e))))
      (go (eqb (digit v) 0) refl (all_from P n (v + 1) (omega (arith, e)) each))
    where
      rest : NumberedPowers
      rest = powers_from (v + 1) (drop (v + 1) limits) w

      go : (b : Bool) → eqb (digit v) 0 ≡ b → AllKeys P rest → AllKeys P (cond b rest ((v, digit v) ∷ rest))
      go true is later = later
      go false is later = (each v (some_digit v (λ none. grind (arith, nat_tests, is, none))), later)

  -- and what holds of each power holds of each such variable
  from_all : (P : ℕ → Type 0) (n v k : ℕ) → v + n ≡ length limits → v ≤ k → k < length limits → AllKeys P (powers_from v (drop v limits) w)
      → HasDigit k → P k
  from_all P zero v k e from within all has = absurd (omega (arith, e, from, within))
  from_all P (suc n) v k e from within all has =
      go (eqb (digit v) 0) refl (subst (AllKeys P) (powers_from-step limits v w (omega (arith, e))) all)
      (λ more later. from_all P n (v + 1) k (omega (arith, e)) (omega (arith, more)) within later has)
    where
      rest : NumberedPowers
      rest = powers_from (v + 1) (drop (v + 1) limits) w

      go : (b : Bool) → eqb (digit v) 0 ≡ b → AllKeys P (cond b rest ((v, digit v) ∷ rest)) → (v < k → AllKeys P rest → P k) → P k
      go true is later on = elim (cases_lt v k) [
        | inl more ↦ on more later
        | inr last ↦
            let same : k ≡ v = omega (arith, from, last) in
            let none : digit v ≡ 0 = grind (arith, nat_tests, is) in
            absurd (no_digit v none (subst HasDigit same has))
      ]
      go false is later on = elim (cases_lt v k) [
        | inl more ↦ on more later.1
        | inr last ↦ let same : v ≡ k = omega (arith, from, last) in subst P same later.0
      ]

  -- a variable past the digits has nothing
  pub digit_known : (k : ℕ) → HasDigit k → k < length limits
  digit_known k has = elim (cases_lt k (length limits)) [
    | inl known ↦ known
    | inr past ↦
        let one : count_from limits k ≡ 1 = ap word_count (drop_all k limits past) in
        absurd (omega (arith, has, count_from-some limits (k + 1), one, mod_below w (count_from limits k) (count_from-some limits k)))
  ]

  pub all_digits : (P : ℕ → Type 0) → ((k : ℕ) → HasDigit k → P k) → AllKeys P (powers_of_word limits w)
  all_digits P each = all_from P (length limits) 0 (let e : 0 + length limits ≡ length limits = omega arith in e) each

  pub digits_all : (P : ℕ → Type 0) (k : ℕ) → AllKeys P (powers_of_word limits w) → HasDigit k → P k
  digits_all P k all has =
      from_all P (length limits) 0 k (let e : 0 + length limits ≡ length limits = omega arith in e) (omega arith) (digit_known k has) all has

-- A LIST OF WORDS

slice_get_item : (list : Indices) (i : ℕ) → i < length list → slice_get list i ≡ Some (item list i)
slice_get_item [] i within = absurd (omega arith)
slice_get_item (t ∷ list) zero within = refl
slice_get_item (t ∷ list) (suc i) within = slice_get_item list i (omega (arith, within))

marked_within : (known : List Bool) (k : ℕ) → IsMarked known k → k < length known
marked_within [] k there = absurd (false≢true there)
marked_within (b ∷ known) zero there = omega arith
marked_within (b ∷ known) (suc k) there = let later = marked_within known k there in omega (arith, later)

-- the number is marked just where a word of the list has something in the digit
pub record TellsDigit (limits : Limits) (list : Indices) (known : List Bool) (k : ℕ) : Type 0 where
  pub some : IsMarked known k → Any (λ t. HasDigit limits t.0.0 k) list
  pub none : slice_index_or known k false ≡ false → (i : ℕ) (t : MonoId × ℤ) → slice_get list i ≡ Some t → t.0.0 % count_from limits k < count_from limits (k + 1)

-- one more number
pub TellsDigit-push : (limits : Limits) (list : Indices) (known : List Bool) (n unit above : ℕ) (b : Bool) → length known ≡ n
    → unit ≡ count_from limits (n + 1) → above ≡ count_from limits n → ((k : ℕ) → k < n → TellsDigit limits list known k)
    → (b ≡ true → Any (λ t. unit ≤ t.0.0 % above) list)
    → (b ≡ false → (i : ℕ) (t : MonoId × ℤ) → slice_get list i ≡ Some t → t.0.0 % above < unit)
    → (k : ℕ) → k < n + 1 → TellsDigit limits list (known ++ b ∷ []) k
TellsDigit-push limits list known n unit above b room u a before some none k within = elim (cases_lt k n) [
  | inl old ↦
      let same : slice_index_or (known ++ b ∷ []) k false ≡ slice_index_or known k false =
      get_or_append_left known (b ∷ []) false k (omega (arith, old, room)) in
      record {
        some = λ there. (before k old).some (sym same ∙ there);
        none = λ there. (before k old).none (sym same ∙ there);
      }
  | inr last ↦
      let at_end : k ≡ n = omega (arith, within, last) in
      let here : slice_index_or (known ++ b ∷ []) k false ≡ b = get_or_push known b false k (room ∙ sym at_end) in
      record {
        some = λ there.
            let found = some (sym here ∙ there) in
            let first : above ≡ count_from limits k = a ∙ ap (count_from limits) (sym at_end) in
            let digit : unit ≤ found.1.0.0 % count_from limits k = subst (λ (m : ℕ). unit ≤ found.1.0.0 % m) first found.4 in
            (found.0, found.1, found.2, found.3, omega (arith, digit, u, ap (λ (j : ℕ). count_from limits (j + 1)) at_end));
        none = λ there. λ i t at.
            let first : above ≡ count_from limits k = a ∙ ap (count_from limits) (sym at_end) in
            let less : t.0.0 % count_from limits k < unit = subst (λ (m : ℕ). t.0.0 % m < unit) first (none (sym here ∙ there) i t at) in
            omega (arith, less, u, ap (λ (j : ℕ). count_from limits (j + 1)) at_end);
      }
]

marks_word : (limits : Limits) (list : Indices) (known : List Bool) (n i : ℕ) (t : MonoId × ℤ) → slice_get list i ≡ Some t
    → AllPlaces n (powers_of_word limits t.0.0) → ((k : ℕ) → k < n → TellsDigit limits list known k) → AreMarked known (powers_of_word limits t.0.0)
marks_word limits list known n i t at places tells =
    all_digits limits t.0.0 (IsMarked known)
    (λ k has. go k has (digits_all limits t.0.0 (λ j. j < n) k places has) (slice_index_or known k false) refl)
  where
    go : (k : ℕ) → HasDigit limits t.0.0 k → k < n → (b : Bool) → slice_index_or known k false ≡ b → IsMarked known k
    go k has below true is = is
    go k has below false is = let less = (tells k below).none is i t at in absurd (omega (arith, has, less))

-- the numbers of the names
numbers_of_names : (vars keys : List Var) (m : NumberedPowers) → AllKeys (Contains keys) (named vars m) → AllKeys (λ k. Contains keys (var_at vars k)) m
numbers_of_names vars keys [] h = tt
numbers_of_names vars keys (p ∷ m) h = (h.0, numbers_of_names vars keys m h.1)

-- POLYNOMIALS OF WORDS

module _ (p : Shared) (parts : AreParts p) (none : length p.monos.now.links ≡ 0) (known : List Bool) (room : length known ≡ length p.vars.now)
    (tells : (k : ℕ) → k < length p.vars.now → TellsDigit p.monos.now.limits p.list.now known k) where
  is_word : (i : ℕ) → i < length p.list.now → monomial_of p.monos.now (item p.list.now i).0 ≡ powers_of_word p.monos.now.limits (item p.list.now i).0.0
  is_word i within =
      let index = (index_at p i within parts).within in
      monomial_of-word p.monos.now (item p.list.now i).0 (omega (arith, index, none))

  -- the numbers that occur are marked
  words_marked : AllKeys (λ id. AreMarked known (monomial_of p.monos.now id)) p.list.now
  words_marked =
      each_item (λ id. AreMarked known (monomial_of p.monos.now id)) p.list.now
      (λ i within. subst (AreMarked known) (sym (is_word i within))
      (marks_word p.monos.now.limits p.list.now known (length p.vars.now) i (item p.list.now i) (slice_get_item p.list.now i within)
      (subst (AllPlaces (length p.vars.now)) (is_word i within) (index_at p i within parts).places) tells))

  -- and no others are
  words_known : AreKnown p.vars.now known (variables_of (told p))
  words_known k there =
      let keys = variables_of (told p) in
      let below : k < length p.vars.now = omega (arith, marked_within known k there, room) in
      let found = (tells k below).some there in
      let i = found.0 in
      let within = found.2 in
      let same : item p.list.now i ≡ found.1 = get_or_any p.list.now i (record { 0 = 0 }, pos 0) found.1 within ∙ found.3 in
      let has : HasDigit p.monos.now.limits (item p.list.now i).0.0 k = subst (λ (t : MonoId × ℤ). HasDigit p.monos.now.limits t.0.0 k) (sym same) found.4 in
      let names = AllKeys-at (λ (m : Powers). AllKeys (Contains keys) m) (told p) i (told_term p (item p.list.now i))
      (told-within p i within) (told-is p i within) (all_variables (Contains keys) (told p) (λ v stands. stands)) in
      let numbers = numbers_of_names p.vars.now keys (monomial_of p.monos.now (item p.list.now i).0) names in
      digits_all p.monos.now.limits (item p.list.now i).0.0 (λ j. Contains keys (var_at p.vars.now j)) k
      (subst (AllKeys (λ j. Contains keys (var_at p.vars.now j))) (is_word i within) numbers) has

  pub words_numbers : AreNumbersOf p known
  words_numbers = record { room = room; all = words_marked; only = words_known }

-- THE VARIABLES OF THE FIRST NUMBERS

-- these are the variables of the first numbers in whose digits a word has something
pub record AreFound (p : Shared) (known : List Bool) (n : ℕ) (found : List Var) : Type 0 where
  pub room : length known ≡ n
  pub tells : (k : ℕ) → k < n → TellsDigit p.monos.now.limits p.list.now known k
  pub all : found ≡ marked (take n p.vars.now) known

pub AreFound-none : (p : Shared) (found : List Var) → found ≡ [] → AreFound p [] 0 found
AreFound-none p found is = record { room = refl; tells = λ k within. absurd (omega (arith, within)); all = is }

-- one more number
pub AreFound-more : (p : Shared) (known : List Bool) (n unit above : ℕ) (b : Bool) (old new : List Var) → n < length p.vars.now
    → unit ≡ count_from p.monos.now.limits (n + 1) → above ≡ count_from p.monos.now.limits n
    → (b ≡ true → Any (λ t. unit ≤ t.0.0 % above) p.list.now)
    → (b ≡ false → (i : ℕ) (t : MonoId × ℤ) → slice_get p.list.now i ≡ Some t → t.0.0 % above < unit)
    → new ≡ old ++ cond b (var_at p.vars.now n ∷ []) [] → AreFound p known n old → AreFound p (known ++ b ∷ []) (n + 1) new
AreFound-more p known n unit above b old new within u a some none is h =
    let vars = p.vars.now in
    let v = var_at vars n in
    let size : length known ≡ length (take n p.vars.now) = h.room ∙ sym (length-take-le n vars (omega (arith, within))) in
    record {
      room = omega (arith, length-append known (b ∷ []), h.room);
      tells = TellsDigit-push p.monos.now.limits p.list.now known n unit above b h.room u a h.tells some none;
      all = is ∙ ap (λ (vs : List Var). vs ++ cond b (v ∷ []) []) h.all ∙ sym (marked-last (take n vars) known v b size)
          ∙ sym (ap (λ (vs : List Var). marked vs (known ++ b ∷ [])) (take_more vars n v within (get_or_any vars n (var_at [] 0) v within)));
    }

-- all numbers
pub AreFound-all : (p : Shared) (known : List Bool) (n : ℕ) (found : List Var) → n ≡ length p.vars.now → AreParts p → length p.monos.now.links ≡ 0
    → AreFound p known n found → found ≡ variables_of (told p)
AreFound-all p known n found whole parts none h =
    let numbers = words_numbers p parts none known (h.room ∙ whole) (λ k within. h.tells k (omega (arith, within, whole))) in
    h.all ∙ ap (λ (vs : List Var). marked vs known) (take_all n p.vars.now (omega (arith, whole))) ∙ marked_variables_of p known parts numbers
