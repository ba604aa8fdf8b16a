-- Runs: the bytes from a place on that pass a test, as many as there are.
use Rattle.std.proofs.Common.{◌≡◌, ℕ, ◌+◌, ◌-◌, ◌<◌, ◌≤◌, Bool, true, List, length, drop, get_or, slice_range, ap, sym, ◌∙◌, inl, inr}
use Rattle.std.proofs.Common.{⊎_elim, arith, length-drop, get_or-drop, get_or-take, length-take}
use Rattle.std.specs.List.{AllPass, prefix_len}
use Rattle.std.proofs.Math.Nat.{eq-or-lt_of_le}
use Rattle.std.proofs.lemmas.List.Elements.{All-from_get_or}
use Rattle.std.proofs.lemmas.List.Sums.{prefix_len-le-length, prefix_len_passes, prefix_len_stops}
use Rattle.geo_lexer.specs.Tokens.{StopsAt}

-- the bytes from one place to another pass the test, and no more of them do
pub record IsRun (test : ℕ → Bool) (bytes : List ℕ) (start end : ℕ) : Type 0 where
  pub onward : start ≤ end
  pub within : end ≤ length bytes
  pub all : AllPass test (slice_range bytes start end)
  pub whole : StopsAt test bytes end

-- so many bytes as the longest front that passes has are a run
pub IsRun-prefix_len : (test : ℕ → Bool) (bytes : List ℕ) (start end : ℕ) → start ≤ length bytes → end ≡ start + prefix_len test (drop start bytes) → IsRun test bytes start end
IsRun-prefix_len test bytes start end inside is =
    let rest = drop start bytes in
    let size = prefix_len test rest in
    let left : length rest ≡ length bytes - start = length-drop start bytes in
    let most : size ≤ length rest = prefix_len-le-length test rest in
    let within : end ≤ length bytes = omega arith in record {
      onward = omega arith;
      within = within;
      all = All-from_get_or (λ b. test b ≡ true) (slice_range bytes start end) 0 (λ i below.
          let short : i < end - start = omega (arith, length-take (end - start) rest) in
          ap test (get_or-take (end - start) rest i 0 short) ∙ prefix_len_passes test rest i 0 (omega arith));
      whole = ⊎_elim (λ ends. inl ends) (λ more. inr (
        more,
        ap (λ (k : ℕ). test (get_or bytes k 0)) is
            ∙ ap test (sym (get_or-drop start bytes size 0))
            ∙ prefix_len_stops test rest 0 (omega arith),
      )) (eq-or-lt_of_le within);
    }
