-- Terms with the numbers of their factors, which stand in one list, term by term.
use Rattle.std.proofs.Common.{◌≡◌, ℕ, ◌≤◌, List, [], ◌∷◌, ◌++◌, ℤ, drop, length, refl, subst, sym, ap, ap₂, ◌∙◌, arith}
use Rattle.std.specs.Prelude.{sum_by}
use Rattle.std.proofs.lemmas.List.{drop-append-le, length-append, length-drop, take-append-le, take_all}
use Rattle.std.proofs.lemmas.List.Sums.{sum_by-cons, sum_by_push}
use Rattle.mono_store.specs.declared.links.MonoId.{MonoId}
use Rattle.geo_poly.specs.declared.pending.Listed.{Listed}
use Rattle.geo_poly.specs.declared.settings.Setting.{Setting}
use Rattle.geo_poly.specs.declared.shared.Shared.{Shared}
use Rattle.geo_poly.specs.Inner.Factored.{AreFactors, Numbered, numbered_terms}
use Rattle.geo_poly.specs.Polynomials.{Summands}
use Rattle.geo_poly.specs.Shared.{IsIndexOf, told, told_powers, told_term}
use Rattle.geo_poly.proofs.PendingTerms.{Made, Made-more}
use Rattle.geo_poly.proofs.TermPlaces.{IsReplaceable}

-- how many numbers the terms count
abbrev pub counted : List Listed → ℕ
counted ts = sum_by (λ (t : Listed). t.count) ts

-- one more term, with its numbers at the end
pub numbered_terms-push : (ts : List Listed) (t : Listed) (ks more : List ℕ) → counted ts ≡ length ks → t.count ≡ length more
    → numbered_terms (ks ++ more) (ts ++ t ∷ []) ≡ numbered_terms ks ts ++ (more, (t.id, t.coefficient)) ∷ []
numbered_terms-push [] t [] more all own = ap (λ (xs : List ℕ). (xs, (t.id, t.coefficient)) ∷ []) (take_all t.count more (omega (arith, own)))
numbered_terms-push [] t (k ∷ ks) more all own = absurd (omega (arith, all))
numbered_terms-push (u ∷ ts) t ks more all own =
    let whole = sum_by-cons (λ (v : Listed). v.count) u ts in
    let le : u.count ≤ length ks = omega (arith, all, whole) in
    let rest : counted ts ≡ length (drop u.count ks) = omega (arith, all, whole, length-drop u.count ks) in
    ap₂ (λ (xs : List ℕ) (us : List Numbered). (xs, (u.id, u.coefficient)) ∷ us) (take-append-le u.count ks more le)
    (ap (λ (xs : List ℕ). numbered_terms xs (ts ++ t ∷ [])) (drop-append-le u.count ks more le)
    ∙ numbered_terms-push ts t (drop u.count ks) more rest own)

pub counted_push : (ts : List Listed) (t : Listed) (ks more : List ℕ) → counted ts ≡ length ks → t.count ≡ length more
    → counted (ts ++ t ∷ []) ≡ length (ks ++ more)
counted_push ts t ks more all own = omega (arith, sum_by_push (λ (u : Listed). u.count) ts t, length-append ks more, all, own)

module _ (setting : Setting) (p : Shared) (ks ls own : List ℕ) (ts us : List Listed) (t : Listed) (factors-are : ls ≡ ks ++ own) (terms-are : us ≡ ts ++ t ∷ [])
    (all : counted ts ≡ length ks) (count : t.count ≡ length own) where
  pub counted-more : counted us ≡ length ls
  counted-more = ap counted terms-are ∙ counted_push ts t ks own all count ∙ sym (ap length factors-are)

  pub Made-listed : (q : Summands) (m : MonoId × ℤ) → (t.id, t.coefficient) ≡ m → IsIndexOf p m.0 → AreFactors setting (told_powers p m.0) own
      → IsReplaceable setting (told p) (told_term p m) → Made setting p q (numbered_terms ks ts) → Made setting p (q ++ told_term p m ∷ []) (numbered_terms ls us)
  Made-listed q m same index factors here before =
      let listed = ap₂ numbered_terms factors-are terms-are ∙ numbered_terms-push ts t ks own all count
      ∙ ap (λ (n : MonoId × ℤ). numbered_terms ks ts ++ (own, n) ∷ []) same in
      subst (Made setting p (q ++ told_term p m ∷ [])) (sym listed)
      (Made-more setting p (own, m) (told_term p m) refl factors q (numbered_terms ks ts) index here.monomial here.known here.nonzero here.degree here.exponents before)
