use Rattle.std.proofs.Common.{◌≡◌, ℕ, zero, suc, ◌≤◌, ◌<◌, ◌⊎◌, inl, inr, List, [], ◌∷◌, drop, length, refl, ap₂, ◌∙◌, arith}
use Rattle.std.specs.Ordering.{nat_cmp}
use Rattle.std.specs.declared.cmp.Ordering.{Ordering}
use Rattle.std.specs.declared.cmp.Ordering.TheVariants.{Less, Greater}
use Rattle.std.specs.Cmp.Lexicographic.{slice_cmp}
use Rattle.std.proofs.lemmas.Bool.Decides.{nat_tests}
use Rattle.geo_poly.specs.Monomials.{power_cmp, monomial_cmp}
use Rattle.geo_poly.proofs.monomials.Monomial.compare.Goals as goal
use Rattle.geo_poly.proofs.monomials.Monomial.compare.Goals.{then-loop-i-test+else-i-len, else-loop-i-test}

below : (a b : ℕ) → a < b → nat_cmp a b ≡ Less
below a b h = grind (arith, nat_tests)

above : (a b : ℕ) → b < a → nat_cmp a b ≡ Greater
above a b h = grind (arith, nat_tests)

both_more : (a b : ℕ) → nat_cmp (suc a) (suc b) ≡ nat_cmp a b
both_more a b = grind (arith, nat_tests)

-- where one list has run out, the lengths decide
by_length : {X : Type 0} (R : X → X → Ordering) (xs ys : List X) (i : ℕ) → i ≤ length xs → i ≤ length ys → (length xs ≤ i) ⊎ (length ys ≤ i)
    → nat_cmp (length xs) (length ys) ≡ slice_cmp R (drop i xs) (drop i ys)
by_length R [] [] zero h g past = refl
by_length R [] (y ∷ ys) zero h g past = below 0 (length (y ∷ ys)) (omega arith)
by_length R (x ∷ xs) [] zero h g past = above (length (x ∷ xs)) 0 (omega arith)
by_length R (x ∷ xs) (y ∷ ys) zero h g past = absurd (omega arith)
by_length R [] ys (suc i) h g past = absurd (omega arith)
by_length R (x ∷ xs) [] (suc i) h g past = absurd (omega arith)
by_length R (x ∷ xs) (y ∷ ys) (suc i) h g past =
    both_more (length xs) (length ys) ∙ by_length R xs ys i (omega arith) (omega arith) (elim past [ inl p ↦ inl (omega arith) | inr p ↦ inr (omega arith) ])

pub returns : goal.returns
returns c =
    let xs = c.self.inside.powers.items in
    let ys = c.other.inside.powers.items in
    let i = c.loop-i.i in
    let past : (length xs ≤ i) ⊎ (length ys ≤ i) =
    elim c.loop-i-test.branch [
      | then-loop-i-test+else-i-len w ↦ inr (omega (arith, w.len-in-loop-i.ensures, c.other.inside.powers.ok.0))
      | else-loop-i-test w ↦ inl (omega (arith, c.len.ensures, c.self.inside.powers.ok.0))
    ] in
    let left : c.len-2.result ≡ length xs = omega (arith, c.len-2.ensures, c.self.inside.powers.ok.0) in
    let right : c.len-3.result ≡ length ys = omega (arith, c.len-3.ensures, c.other.inside.powers.ok.0) in
    c.cmp-2.ensures ∙ ap₂ nat_cmp left right
    ∙ by_length power_cmp xs ys i c.loop-i.invariant.left_in c.loop-i.invariant.right_in past
    ∙ c.loop-i.invariant.same_so_far ∙ ap₂ monomial_cmp c.self.view_is c.other.view_is
