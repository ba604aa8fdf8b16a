-- Keys of a list, looked at one after another.
use Rattle.std.proofs.Common.{◌≡◌, ℕ, zero, suc, ◌+◌, ◌<◌, ◌≤◌, ◌⊎◌, inl, inr, true, false, IsTrue, ◌↔◌, Option, Some, List, [], ◌∷◌, length, refl, sym, subst, arith}
use Rattle.sparse_lists.specs.SparseLists.{AllKeys}
use Rattle.geo_poly.specs.Polynomials.{Summands, term_at}
use Rattle.geo_poly.specs.Monomials.{Powers}
use Rattle.log_checker.proofs.Places.{At, first, none}

pub false_not : IsTrue false → ⊥
false_not e = let q : false ≡ true = e in cc

-- no, since it fails
pub answers_no : {P : Type 0} → (P → ⊥) → IsTrue false ↔ P
answers_no n = ((λ e. absurd (false_not e)), (λ p. absurd (n p)))

-- yes, since it holds
pub answers_yes : {P : Type 0} → P → IsTrue true ↔ P
answers_yes p = ((λ e. p), (λ q. refl))

-- no, since what fails would follow
pub no_by : {P Q : Type 0} → IsTrue false ↔ Q → (P → Q) → IsTrue false ↔ P
no_by e f = answers_no (λ p. false_not (e.1 (f p)))

pub same_or_below : (k n : ℕ) → k < n + 1 → (k < n) ⊎ (k ≡ n)
same_or_below zero zero l = inr refl
same_or_below zero (suc n) l = inl (omega arith)
same_or_below (suc k) zero l = absurd (omega (arith, l))
same_or_below (suc k) (suc n) l = go (same_or_below k n (omega (arith, l)))
  where
    go : (k < n) ⊎ (k ≡ n) → (suc k < suc n) ⊎ (suc k ≡ suc n)
    go (inl h) = inl (omega (arith, h))
    go (inr h) = inr (λ i. suc (h i))

module _ {K V : Type 0} (P : K → Type 0) where
  -- the keys at the places below n have the property
  abbrev pub KeysBelow : ℕ → List (K × V) → Type 0
  KeysBelow n xs = (k : ℕ) (x : K × V) → k < n → At xs k x → P x.0

  pub keys_more : (xs : List (K × V)) (n : ℕ) (y : K × V) → At xs n y → P y.0 → KeysBelow n xs → KeysBelow (n + 1) xs
  keys_more xs n y at p h k x l e = go (same_or_below k n l)
    where
      go : (k < n) ⊎ (k ≡ n) → P x.0
      go (inl lt) = h k x lt e
      go (inr same) =
          let here : At xs n x = subst (λ i. At xs i x) same e in
          let q : ◌≡◌ {A = Option (K × V)} (Some y) (Some x) = cc in
          let is : y ≡ x = cc in subst (λ (z : K × V). P z.0) is p

  pub keys_all : (xs : List (K × V)) (n : ℕ) → length xs ≤ n → KeysBelow n xs → AllKeys P xs
  keys_all [] n l h = tt
  keys_all (x ∷ xs) zero l h = absurd (omega (arith, l))
  keys_all (x ∷ xs) (suc n) l h = (h 0 x (omega arith) refl, keys_all xs n (omega (arith, l)) (λ k y lt e. h (suc k) y (omega (arith, lt)) e))

  pub key_at : (xs : List (K × V)) (k : ℕ) (x : K × V) → At xs k x → AllKeys P xs → P x.0
  key_at [] k x e h = none k x e
  key_at (y ∷ xs) zero x e h = subst (λ (z : K × V). P z.0) (first y x xs e) h.0
  key_at (y ∷ xs) (suc k) x e h = key_at xs k x e h.1

-- the same of the terms of a polynomial
module _ (P : Powers → Type 0) where
  abbrev pub TermsBelow : ℕ → Summands → Type 0
  TermsBelow n q = (k : ℕ) → k < n → P (term_at q k).0

  pub terms_more : (q : Summands) (n : ℕ) → P (term_at q n).0 → TermsBelow n q → TermsBelow (n + 1) q
  terms_more q n p h k l = go (same_or_below k n l)
    where
      go : (k < n) ⊎ (k ≡ n) → P (term_at q k).0
      go (inl lt) = h k lt
      go (inr same) = subst (λ i. P (term_at q i).0) (sym same) p

  pub terms_all : (q : Summands) (n : ℕ) → length q ≤ n → TermsBelow n q → AllKeys P q
  terms_all [] n l h = tt
  terms_all (t ∷ q) zero l h = absurd (omega (arith, l))
  terms_all (t ∷ q) (suc n) l h = (h 0 (omega arith), terms_all q n (omega (arith, l)) (λ k lt. h (suc k) (omega (arith, lt))))

  pub term_of : (q : Summands) (k : ℕ) → k < length q → AllKeys P q → P (term_at q k).0
  term_of [] k l h = absurd (omega (arith, l))
  term_of (t ∷ q) zero l h = h.0
  term_of (t ∷ q) (suc k) l h = term_of q k (omega (arith, l)) h.1
