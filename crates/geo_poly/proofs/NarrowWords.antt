-- Words without the digits that have no room, under the names of the others.
use Rattle.std.proofs.Common.{◌≡◌, ℕ, ◌+◌, ◌/◌, ◌%◌, eqb, Bool, true, false, cond, ltb, List, [], ◌∷◌, ◌++◌, length, map, refl, sym, ap, ap₂, subst, ◌∙◌}
use Rattle.std.proofs.Common.{append_assoc, arith}
use Rattle.std.proofs.lemmas.Bool.Decides.{nat_tests}
use Rattle.std.proofs.lemmas.List.{get_or_at, length-append}
use Rattle.std.proofs.lemmas.Nat.{mod_below}
use Rattle.sparse_lists.specs.SparseLists.{AllKeys, put}
use Rattle.mono_store.specs.Monomials.{Powers as NumberedPowers, exponents}
use Rattle.mono_store.specs.Words.{Limits, powers_from, powers_of_word, word_count}
use Rattle.mono_store.proofs.WithoutEmpty.{above_zero, word_count-above_zero}
use Rattle.mono_store.proofs.WordDigits.{FitsLimits-powers_of_word, IsCanonical-powers_from}
use Rattle.geo_poly.specs.declared.variables.Var.{Var}
use Rattle.geo_poly.specs.declared.variables.Var.TheVariants.{R}
use Rattle.geo_poly.specs.Inner.Keyed.{IsIndexUnder, terms_under}
use Rattle.geo_poly.specs.Inner.Visits.{marked}
use Rattle.geo_poly.specs.Inner.Words.{word_keys}
use Rattle.geo_poly.specs.Monomials.{Powers}
use Rattle.geo_poly.specs.Polynomials.{Summands}
use Rattle.geo_poly.specs.Shared.{AllPlaces, Indices, named, var_at}
use Rattle.geo_poly.proofs.WordKeys.{AllPlaces-fits}

-- the variables whose digits have room
abbrev pub narrow : List Var → Limits → List Var
narrow vars limits = marked vars (map (ltb 0) limits)

-- the powers of a word by the names of its digits
abbrev names_of_word : List Var → Limits → ℕ → Powers
names_of_word [] ns w = []
names_of_word (v ∷ vs) [] w = []
names_of_word (v ∷ vs) (n ∷ ns) w = put exponents v (w / word_count ns % (n + 1)) (names_of_word vs ns w)

named-put : (vars : List Var) (k d : ℕ) (m : NumberedPowers) → named vars (put exponents k d m) ≡ put exponents (var_at vars k) d (named vars m)
named-put vars k d m =
    elim (eqb d 0) as (λ b. named vars (cond b m ((k, d) ∷ m)) ≡ cond b (named vars m) ((var_at vars k, d) ∷ named vars m)) [
      | true ↦ refl
      | false ↦ refl
    ]

named-names : (front vars : List Var) (ns : Limits) (w : ℕ) → length vars ≡ length ns
    → named (front ++ vars) (powers_from (length front) ns w) ≡ names_of_word vars ns w
named-names front [] [] w e = refl
named-names front [] (n ∷ ns) w e = absurd (omega (arith, e))
named-names front (v ∷ vs) [] w e = absurd (omega (arith, e))
named-names front (v ∷ vs) (n ∷ ns) w e =
    let digit = w / word_count ns % (n + 1) in
    let k = length front in
    let none = R (record { 0 = 0 }) (record { 0 = 0 }) (record { 0 = 0 }) (record { 0 = 0 }) in
    let here : var_at (front ++ v ∷ vs) k ≡ v = get_or_at front v vs none k refl in
    let longer : length (front ++ v ∷ []) ≡ k + 1 = omega (arith, length-append front (v ∷ [])) in
    let rest : named (front ++ v ∷ vs) (powers_from (k + 1) ns w) ≡ names_of_word vs ns w =
    sym (ap₂ (λ (l : List Var) (j : ℕ). named l (powers_from j ns w)) (append_assoc front (v ∷ []) vs) longer)
    ∙ named-names (front ++ v ∷ []) vs ns w (omega (arith, e)) in
    named-put (front ++ v ∷ vs) k digit (powers_from (k + 1) ns w) ∙ ap₂ (λ (u : Var) (m : Powers). put exponents u digit m) here rest

narrow-names : (vars : List Var) (ns : Limits) (w : ℕ) → length vars ≡ length ns
    → names_of_word (narrow vars ns) (above_zero ns) w ≡ names_of_word vars ns w
narrow-names [] [] w e = refl
narrow-names [] (n ∷ ns) w e = absurd (omega (arith, e))
narrow-names (v ∷ vs) [] w e = absurd (omega (arith, e))
narrow-names (v ∷ vs) (n ∷ ns) w e = go (ltb 0 n) refl (narrow-names vs ns w (omega (arith, e)))
  where
    go : (b : Bool) → ltb 0 n ≡ b → names_of_word (narrow vs ns) (above_zero ns) w ≡ names_of_word vs ns w
        → names_of_word (cond b (v ∷ narrow vs ns) (narrow vs ns)) (cond b (n ∷ above_zero ns) (above_zero ns)) w
        ≡ put exponents v (w / word_count ns % (n + 1)) (names_of_word vs ns w)
    go true is rest = ap₂ (λ (c : ℕ) (m : Powers). put exponents v (w / c % (n + 1)) m) (word_count-above_zero ns) rest
    go false is rest =
        let none : n ≡ 0 = grind (arith, nat_tests, is) in
        let digit : w / word_count ns % (n + 1) ≡ 0 = omega (arith, none, mod_below (w / word_count ns) (n + 1) (omega arith)) in
        rest ∙ sym (ap (λ (d : ℕ). put exponents v d (names_of_word vs ns w)) digit)

length-narrow : (vars : List Var) (ns : Limits) → length vars ≡ length ns → length (narrow vars ns) ≡ length (above_zero ns)
length-narrow [] [] e = refl
length-narrow [] (n ∷ ns) e = absurd (omega (arith, e))
length-narrow (v ∷ vs) [] e = absurd (omega (arith, e))
length-narrow (v ∷ vs) (n ∷ ns) e = go (ltb 0 n) (length-narrow vs ns (omega (arith, e)))
  where
    go : (b : Bool) → length (narrow vs ns) ≡ length (above_zero ns)
        → length (cond b (v ∷ narrow vs ns) (narrow vs ns)) ≡ length (cond b (n ∷ above_zero ns) (above_zero ns))
    go true rest = omega (arith, rest)
    go false rest = rest

module _ (vars : List Var) (limits : Limits) (same : length vars ≡ length limits) where
  -- a word stands for the same monomial
  same_named : (w : ℕ) → named (narrow vars limits) (powers_of_word (above_zero limits) w) ≡ named vars (powers_of_word limits w)
  same_named w =
      named-names [] (narrow vars limits) (above_zero limits) w (length-narrow vars limits same)
      ∙ narrow-names vars limits w same ∙ sym (named-names [] vars limits w same)

  -- words with coefficients stand for the same terms
  pub narrow_terms : (list : Indices) → terms_under (narrow vars limits) (word_keys (above_zero limits)) list
      ≡ terms_under vars (word_keys limits) list
  narrow_terms [] = refl
  narrow_terms (t ∷ ts) = ap₂ (λ (m : Powers) (rest : Summands). (m, t.1) ∷ rest) (same_named t.0.0) (narrow_terms ts)

  places : (w : ℕ) → AllPlaces (length (narrow vars limits)) (powers_of_word (above_zero limits) w)
  places w =
      subst (λ (n : ℕ). AllPlaces n (powers_of_word (above_zero limits) w)) (sym (length-narrow vars limits same))
      (AllPlaces-fits (above_zero limits) (powers_of_word (above_zero limits) w) (IsCanonical-powers_from 0 (above_zero limits) w)
      (FitsLimits-powers_of_word (above_zero limits) w))

  -- and are words
  pub narrow_keys : (list : Indices) → AllKeys (IsIndexUnder vars (word_keys limits)) list
      → AllKeys (IsIndexUnder (narrow vars limits) (word_keys (above_zero limits))) list
  narrow_keys [] h = tt
  narrow_keys (t ∷ ts) h = (
    record {
      within = (let below = h.0.within in omega (arith, below, word_count-above_zero limits));
      places = places t.0.0;
    },
    narrow_keys ts h.1,
  )
