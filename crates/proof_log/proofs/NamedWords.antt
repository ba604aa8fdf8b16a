-- The text of a word is that of its monomial, where the names of its variables are made.
use Rattle.std.proofs.Common.{◌≡◌, ◌==◌, ℕ, ◌<◌, inl, inr, cond, List, [], ◌∷◌, ◌++◌, length, map, slice_index_or, refl, sym, ap, ap₂, ◌∙◌}
use Rattle.std.proofs.Common.{append_assoc, arith}
use Rattle.std.specs.Prelude.{ℤ, codes, unsigned_abs}
use Rattle.std.specs.Fmt.{decimal}
use Rattle.std.specs.List.{flat_map}
use Rattle.std.proofs.lemmas.List.{get_or-map}
use Rattle.std.proofs.lemmas.List.Concat.{flat_map-cons}
use Rattle.sparse_lists.specs.SparseLists.{AllKeys}
use Rattle.mono_store.specs.declared.links.MonoId.{MonoId}
use Rattle.mono_store.specs.Monomials.{Powers as NumberedPowers}
use Rattle.mono_store.specs.Stores.{words}
use Rattle.mono_store.specs.Words.{Limits}
use Rattle.mono_store.proofs.Unfolding.{monomial_of-word}
use Rattle.geo_poly.specs.declared.shared.Shared.{Shared}
use Rattle.geo_poly.specs.declared.variables.Var.{Var}
use Rattle.geo_poly.specs.Polynomials.{term_at}
use Rattle.geo_poly.specs.Shared.{IsIndexOf, named, told, told_powers, told_term, var_at}
use Rattle.proof_log.specs.Inner.KeptTexts.{numbered_text, word_text}
use Rattle.proof_log.specs.Inner.Names.{AreNames, starred}
use Rattle.proof_log.specs.Lines.{power_text, sign_text, term_text, variable_name}

-- the name at the place of a variable
name_at : (vars : List Var) (n : ℕ) → n < length vars → slice_index_or (map starred vars) n [] ≡ starred (var_at vars n)
name_at vars n known = get_or-map starred vars n _ [] known

power_at : (vars : List Var) (q : ℕ × ℕ) → q.0 < length vars → numbered_text (map starred vars) q ≡ power_text (var_at vars q.0, q.1)
power_at vars q known =
    let exponent : List ℕ = cond (q.1 == 1) [] (codes "^" ++ decimal q.1) in
    ap (λ (l : List ℕ). l ++ exponent) (name_at vars q.0 known)
    ∙ append_assoc (codes "*") (variable_name (var_at vars q.0)) exponent

powers_at_places : (vars : List Var) (m : NumberedPowers) → AllKeys (λ n. n < length vars) m
    → flat_map (numbered_text (map starred vars)) m ≡ flat_map power_text (named vars m)
powers_at_places vars [] h = refl
powers_at_places vars (q ∷ m) h =
    flat_map-cons (numbered_text (map starred vars)) q m
    ∙ ap₂ (λ (front behind : List ℕ). front ++ behind) (power_at vars q h.0) (powers_at_places vars m h.1)
    ∙ sym (flat_map-cons power_text (var_at vars q.0, q.1) (named vars m))

pub named_word : (p : Shared) (names : List (List ℕ)) (id : MonoId) → IsIndexOf p id → AreNames p.vars.now names → 0 < length names
    → id.0 < words p.monos.now → word_text names p.monos.now.limits id.0 ≡ flat_map power_text (told_powers p id)
named_word p names id index (inl none) some within = absurd (omega (arith, some, ap length none))
named_word p names id index (inr all) some within =
    let same = monomial_of-word p.monos.now id within in
    ap₂ (λ (ns : List (List ℕ)) (m : NumberedPowers). flat_map (numbered_text ns) m) all (sym same)
    ∙ powers_at_places p.vars.now _ index.places

-- a coefficient and then the powers, of a term that is a word
pub named_term : (p : Shared) (names : List (List ℕ)) (limits : Limits) (id : MonoId) (c : ℤ) (i : ℕ) (old now : List ℕ)
    → limits ≡ p.monos.now.limits → IsIndexOf p id → AreNames p.vars.now names → 0 < length names → id.0 < words p.monos.now
    → told_term p (id, c) ≡ term_at (told p) i → now ≡ old ++ sign_text c ++ decimal (unsigned_abs c)
    → now ++ word_text names limits id.0 ≡ old ++ term_text (term_at (told p) i)
named_term p names limits id c i old now same index are some within term is =
    let sign = sign_text c in
    let number = decimal (unsigned_abs c) in
    let powers = flat_map power_text (told_powers p id) in
    let text = ap (λ (ls : Limits). word_text names ls id.0) same ∙ named_word p names id index are some within in
    let whole : sign ++ number ++ powers ≡ term_text (term_at (told p) i) = ap term_text term in
    ap₂ (λ (front behind : List ℕ). front ++ behind) (is ∙ append_assoc old sign number) text
    ∙ append_assoc old (sign ++ number) powers ∙ ap (λ (l : List ℕ). old ++ l) whole
