-- Shares of words, from those of their first and of their last powers.
use Rattle.std.proofs.Common.{◌≡◌, ℕ, zero, suc, ◌+◌, ◌-◌, ◌*◌, ◌^◌, ◌<◌, ◌≤◌, Option, Some, None, List, [], ◌∷◌, ◌++◌, length, map, refl, sym, ap, ◌∙◌, append_assoc, arith}
use Rattle.std.specs.Prelude.{slice_get}
use Rattle.std.specs.Option.{option_map}
use Rattle.geo_poly.specs.declared.rows.Row.{Row}
use Rattle.geo_poly.specs.declared.shared.Shared.{Shared}
use Rattle.geo_poly.specs.declared.variables.Var.{Var}
use Rattle.geo_poly.specs.Replace.{row_of}
use Rattle.geo_poly.specs.Shared.{AllPlaces, IsIndexOf, named, told_powers, var_at}
use Rattle.mono_store.specs.declared.links.MonoId.{MonoId}
use Rattle.mono_store.specs.Monomials.{Powers}
use Rattle.mono_store.specs.Stores.{monomial_of}
use Rattle.mono_store.specs.Words.{Limits, powers_of_word, word_count}
use Rattle.mono_store.proofs.WordDigits.{powers_of_word-zero}
use Rattle.mono_store.proofs.Unfolding.{monomial_of-word}
use Rattle.proof_log.proofs.WordFronts.{same_front}
use Rattle.elim_apply.specs.declared.numbered.NumberedRow.{NumberedRow}
use Rattle.elim_apply.specs.declared.small_shares.SmallShare.{SmallShare}
use Rattle.elim_apply.specs.Inner.KeptShares.{BeginWith, joined, known_row, with_numbered, word_share}
use Rattle.elim_apply.specs.Inner.Shares.{no_power, with_power, with_powers}
use Rattle.elim_apply.specs.Inner.Sketches.{AreKnown, sketched}

-- JOINED SHARES
times_three : (a b c : ℕ) → a * b * c ≡ a * (b * c)
times_three a b c = omega arith

plus_three : (a b c : ℕ) → a + b + c ≡ a + (b + c)
plus_three a b c = omega arith

joined-none : (s : SmallShare) → joined s no_power ≡ s
joined-none s =
    let exponents : s.exponents + 0 ≡ s.exponents = omega arith in
    let denominators : s.denominators + 0 ≡ s.denominators = omega arith in
    let count : s.count * 1 ≡ s.count = omega arith in
    let weight : s.weight * 1 ≡ s.weight = omega arith in
    let degree : s.degree + 0 ≡ s.degree = omega arith in
    λ i. record { exponents = exponents i; denominators = denominators i; count = count i; weight = weight i; degree = degree i }

joined-power : (o : Option Row) (e : ℕ) (s t : SmallShare) → with_power o e (joined s t) ≡ joined s (with_power o e t)
joined-power None e s t =
    let degree = plus_three s.degree t.degree e in
    λ i. record {
      exponents = s.exponents + t.exponents;
      denominators = s.denominators + t.denominators;
      count = s.count * t.count;
      weight = s.weight * t.weight;
      degree = degree i;
    }
joined-power (Some r) e s t =
    let exponents = plus_three s.exponents t.exponents e in
    let denominators = plus_three s.denominators t.denominators (r.power * e) in
    let count = times_three s.count t.count (r.num.count ^ e) in
    let weight = times_three s.weight t.weight (r.num.weight ^ e) in
    let degree = plus_three s.degree t.degree (r.num.degree * e) in
    λ i. record { exponents = exponents i; denominators = denominators i; count = count i; weight = weight i; degree = degree i }

module _ (known : List (Option NumberedRow)) where
  joined-numbered : (m : Powers) (s t : SmallShare) → with_numbered known m (joined s t) ≡ joined s (with_numbered known m t)
  joined-numbered [] s t = refl
  joined-numbered (p ∷ m) s t =
      ap (with_numbered known m) (joined-power (known_row known p.0) p.1 s t) ∙ joined-numbered m s (with_power (known_row known p.0) p.1 t)

  numbered-append : (m n : Powers) (s : SmallShare) → with_numbered known (m ++ n) s ≡ with_numbered known n (with_numbered known m s)
  numbered-append [] n s = refl
  numbered-append (p ∷ m) n s = numbered-append m n (with_power (known_row known p.0) p.1 s)

  -- the share of first powers and of others
  numbered-joined : (m n : Powers) → with_numbered known (m ++ n) no_power ≡ joined (with_numbered known m no_power) (with_numbered known n no_power)
  numbered-joined m n =
      let first = with_numbered known m no_power in
      numbered-append m n no_power ∙ ap (with_numbered known n) (sym (joined-none first)) ∙ joined-numbered n first no_power

  module _ (limits : Limits) where
    -- HEADS
    -- every word begins with nothing
    pub begin_none : (share : SmallShare) (word room : ℕ) → share ≡ no_power → word ≡ 0 → BeginWith known limits share word room
    begin_none share word room is none = record {
      powers = [];
      share-is = is;
      begin = λ r le. ap (powers_of_word limits) (let e : word + r ≡ r = omega (arith, none) in e);
    }

    -- what a word begins with, and then the others
    pub begun_whole : (share : SmallShare) (word first room : ℕ) → BeginWith known limits share first room → first ≤ word → word - first ≤ room
        → joined share (word_share known limits (word - first)) ≡ word_share known limits word
    begun_whole share word first room h up near =
        let e : first + (word - first) ≡ word = omega (arith, up) in
        ap (λ (s : SmallShare). joined s (word_share known limits (word - first))) h.share-is
        ∙ sym (numbered-joined h.powers (powers_of_word limits (word - first)))
        ∙ ap (λ (m : Powers). with_numbered known m no_power) (sym (h.begin (word - first) near))
        ∙ ap (word_share known limits) e

    -- where nothing is left, the first powers are all
    pub begun_all : (share : SmallShare) (word first room : ℕ) → BeginWith known limits share first room → first + room ≡ word → room ≤ 0
        → share ≡ word_share known limits word
    begun_all share word first room h is none =
        let left : word - first ≡ 0 = omega (arith, is, none) in
        let nothing : word_share known limits (word - first) ≡ no_power =
        ap (word_share known limits) left ∙ ap (λ (m : Powers). with_numbered known m no_power) (powers_of_word-zero limits) in
        sym (joined-none share) ∙ ap (joined share) (sym nothing) ∙ begun_whole share word first room h (omega (arith, is)) (omega (arith, is))

    -- one more power
    pub begun_step : (share after : SmallShare) (word rest v e next : ℕ) → word < word_count limits → rest ≤ word
        → powers_of_word limits rest ≡ (v, e) ∷ powers_of_word limits next → next < rest
        → after ≡ with_power (known_row known v) e share → BeginWith known limits share (word - rest) rest
        → BeginWith known limits after (word - next) next
    begun_step share after word rest v e next within up is less more h = record {
      powers = h.powers ++ (v, e) ∷ [];
      share-is =
          more ∙ ap (with_power (known_row known v) e) h.share-is ∙ sym (numbered-append h.powers ((v, e) ∷ []) no_power);
      begin = λ r le.
          let place : word - next + r ≡ word - rest + (rest - next + r) = omega (arith, up, less) in
          let front = same_front limits rest next v e (omega (arith, up, within)) (omega (arith, up, within, less)) is r le in
          ap (powers_of_word limits) place ∙ h.begin (rest - next + r) (omega (arith, less, le))
          ∙ ap (λ (m : Powers). h.powers ++ m) front
          ∙ sym (append_assoc h.powers ((v, e) ∷ []) (powers_of_word limits r));
    }

    -- TAILS
    -- the word 0 has no power
    pub tail_none : (share : SmallShare) → share ≡ no_power → share ≡ word_share known limits 0
    tail_none share is = is ∙ ap (λ (m : Powers). with_numbered known m no_power) (sym (powers_of_word-zero limits))

-- WITH NAMES
-- the row of a variable, by its number
named_row : (rows : List Row) (vars : List Var) (known : List (Option NumberedRow)) (k : ℕ) → AreKnown rows vars known → k < length vars
    → known_row known k ≡ row_of rows (var_at vars k)
named_row rows [] known k are within = absurd (omega (arith, within))
named_row rows (v ∷ vars) [] k are within = absurd (cc)
named_row rows (v ∷ vars) (r ∷ known) zero are within = let first : option_map sketched r ≡ row_of rows v = cc in first
named_row rows (v ∷ vars) (r ∷ known) (suc k) are within =
    let rest : map (option_map sketched) known ≡ map (row_of rows) vars = cc in named_row rows vars known k rest (omega (arith, within))

named_share : (rows : List Row) (vars : List Var) (known : List (Option NumberedRow)) → AreKnown rows vars known
    → (m : Powers) (s : SmallShare) → AllPlaces (length vars) m → with_numbered known m s ≡ with_powers rows (named vars m) s
named_share rows vars known are [] s places = refl
named_share rows vars known are (p ∷ m) s places =
    ap (λ (o : Option Row). with_numbered known m (with_power o p.1 s)) (named_row rows vars known p.0 are places.0)
    ∙ named_share rows vars known are m (with_power (row_of rows (var_at vars p.0)) p.1 s) places.1

-- the share of a word is that of its monomial
pub told_share : (rows : List Row) (p : Shared) (known : List (Option NumberedRow)) (id : MonoId) → AreKnown rows p.vars.now known → IsIndexOf p id
    → id.0 < word_count p.monos.now.limits → word_share known p.monos.now.limits id.0 ≡ with_powers rows (told_powers p id) no_power
told_share rows p known id are is within =
    ap (λ (m : Powers). with_numbered known m no_power) (sym (monomial_of-word p.monos.now id within))
    ∙ named_share rows p.vars.now known are (monomial_of p.monos.now id) no_power is.places

-- the row of a variable whose number is known
pub row_at_number : (rows : List Row) (vars : List Var) (known : List (Option NumberedRow)) (k : ℕ) (v : Var) → AreKnown rows vars known
    → slice_get vars k ≡ Some v → known_row known k ≡ row_of rows v
row_at_number rows [] known k v are at = absurd (let q : ◌≡◌ {A = Option Var} None (Some v) = at in cc)
row_at_number rows (w ∷ vars) [] k v are at = absurd (cc)
row_at_number rows (w ∷ vars) (r ∷ known) zero v are at =
    let q : ◌≡◌ {A = Option Var} (Some w) (Some v) = at in
    let same : w ≡ v = cc in
    let first : option_map sketched r ≡ row_of rows w = cc in
    first ∙ ap (row_of rows) same
row_at_number rows (w ∷ vars) (r ∷ known) (suc k) v are at =
    let rest : map (option_map sketched) known ≡ map (row_of rows) vars = cc in row_at_number rows vars known k v rest at
