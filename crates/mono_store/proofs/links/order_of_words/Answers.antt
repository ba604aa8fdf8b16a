use Rattle.std.proofs.Common.{◌≡◌, ◌≢◌, ◌<◌, ℕ, Bool, true, false, nat_eq, refl, ◌∙◌, sym, ap, ap₂, arith}
use Rattle.std.specs.Ordering.{nat_cmp}
use Rattle.std.proofs.lemmas.Cmp.{tied_itself, nat_cmp_total}
use Rattle.mono_store.specs.Monomials.{monomial_cmp}
use Rattle.mono_store.specs.Stores.{Store, monomial_of, store_of}
use Rattle.mono_store.specs.Words.{word_count}
use Rattle.mono_store.specs.declared.links.MonoId.{MonoId}
use Rattle.mono_store.proofs.Numbers.{monomial_total}
use Rattle.mono_store.proofs.Unfolding.{monomial_of-word}
use Rattle.mono_store.proofs.WordDigits.{monomial_cmp-powers_of_word}
use Rattle.mono_store.proofs.links.order_of_words.Goals as goal

eq_at : (a b : ℕ) → nat_eq a b ≡ true → a ≡ b
eq_at a b h = grind (arith, h)

same_is-equal : (a b : ℕ) → a ≡ b → nat_eq a b ≡ true
same_is-equal a b h = grind (arith, h)

-- the numbers of equal indices and of words are in the order of their monomials
in_order : (store : Store) (a b : MonoId) → (a ≢ b → a.0 < word_count store.limits) → (a ≢ b → b.0 < word_count store.limits)
    → nat_cmp a.0 b.0 ≡ monomial_cmp (monomial_of store a) (monomial_of store b)
in_order store a b left right = go (nat_eq a.0 b.0) refl
  where
    go : (k : Bool) → nat_eq a.0 b.0 ≡ k → nat_cmp a.0 b.0 ≡ monomial_cmp (monomial_of store a) (monomial_of store b)
    go true e =
        let same : a ≡ b = λ i. record { 0 = eq_at a.0 b.0 e i } in
        ap (λ (m : MonoId). nat_cmp a.0 m.0) (sym same) ∙ tied_itself nat_cmp_total a.0
        ∙ sym (tied_itself monomial_total (monomial_of store a))
        ∙ ap (λ (m : MonoId). monomial_cmp (monomial_of store a) (monomial_of store m)) same
    go false e =
        let differ : a ≢ b = λ (s : a ≡ b). (let t = same_is-equal a.0 b.0 (ap (λ (m : MonoId). m.0) s) in grind (arith, e, t)) in
        sym (monomial_cmp-powers_of_word store.limits a.0 b.0 (left differ) (right differ))
        ∙ ap₂ monomial_cmp (sym (monomial_of-word store a (left differ))) (sym (monomial_of-word store b (right differ)))

pub returns : goal.returns
returns c = c.cmp.ensures ∙ in_order (store_of c.args.digits.now c.args.links.now) c.args.a c.args.b c.requires.left c.requires.right
