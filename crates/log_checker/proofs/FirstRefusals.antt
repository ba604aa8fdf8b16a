-- Of what is read behind the program one line at most is the first that is refused, for one reason.
use Rattle.std.proofs.Common.{◌≡◌, ℕ, ◌⊎◌, inl, inr, Option, Some, List, [], ◌∷◌, ◌++◌, map, append-nil, refl, sym, ◌∙◌, ap, subst}
use Rattle.proof_log.specs.declared.log.Line.{Line}
use Rattle.geo_terms.specs.Constructions.{Construction}
use Rattle.elim_apply.specs.LemmaTable.{lemma_table}
use Rattle.geo_logs.specs.Judging.{IsAfterVerdict, IsFirstRefusal, IsGoodSoFar, IsGoodToEnd, IsRefused, Refusal, number_after, rejected, unfinished}
use Rattle.geo_logs.specs.Logs.{Subject}
use Rattle.geo_logs.specs.Places.{Place}
use Rattle.log_checker.proofs.Beginnings.{Goes, log_done, log_goes}
use Rattle.log_checker.proofs.BegunTwice.{begun_not_done, begun_reaches, no_item}
use Rattle.log_checker.proofs.OneRefusal.{after_once, refused_once}
use Rattle.log_checker.proofs.Refusals.{not_refused}

-- of two beginnings one is the longer
abbrev IsLonger : List Line → List (Option Line) → List Line → List (Option Line) → Type 0
IsLonger xs m ys n = (zs : List Line) × (ys ≡ xs ++ zs) × (m ≡ map Some zs ++ n)

compared : (xs ys : List Line) (m n : List (Option Line)) → map Some xs ++ m ≡ map Some ys ++ n → IsLonger xs m ys n ⊎ IsLonger ys n xs m
compared [] ys m n e = inl (ys, refl, e)
compared (x ∷ xs) [] m n e = inr (x ∷ xs, refl, sym e)
compared (x ∷ xs) (y ∷ ys) m n e = go (compared xs ys m n rest)
  where
    both : ◌≡◌ {A = List (Option Line)} (Some x ∷ (map Some xs ++ m)) (Some y ∷ (map Some ys ++ n))
    both = e

    rest : map Some xs ++ m ≡ map Some ys ++ n
    rest = let q = both in cc

    same : x ≡ y
    same = let q = both in let f : ◌≡◌ {A = Option Line} (Some x) (Some y) = cc in cc

    go : IsLonger xs m ys n ⊎ IsLonger ys n xs m → IsLonger (x ∷ xs) m (y ∷ ys) n ⊎ IsLonger (y ∷ ys) n (x ∷ xs) m
    go (inl l) = inl (l.0, (λ i. sym same i ∷ l.1 i), l.2)
    go (inr l) = inr (l.0, (λ i. same i ∷ l.1 i), l.2)

nothing : (zs : List Line) (n : List (Option Line)) → [] ≡ map Some zs ++ n → (zs ≡ []) × (n ≡ [])
nothing [] n e = (refl, sym e)
nothing (z ∷ zs) n e = no_item (Some z) (map Some zs ++ n) e

head_read : (r s : Option Line) (rs ss : List (Option Line)) → r ∷ rs ≡ s ∷ ss → r ≡ s
head_read r s rs ss e = cc

module _ (subject : Subject) (steps : ℕ) where
  abbrev C : Construction
  C = subject.construction

  -- what is found behind good lines: one that is refused, one after a whole log, or none
  abbrev Found : List Line → List (Option Line) → Refusal → Type 0
  Found good m r =
      ((place : Place) × IsGoodSoFar lemma_table subject steps good place × (read : Option Line) × (more : List (Option Line)) × (m ≡ read ∷ more) × IsRefused lemma_table C place read r)
      ⊎ ((IsGoodToEnd lemma_table subject steps good × (read : Option Line) × (more : List (Option Line)) × (m ≡ read ∷ more) × IsAfterVerdict read r)
      ⊎ ((place : Place) × IsGoodSoFar lemma_table subject steps good place × (m ≡ []) × (r ≡ rejected unfinished)))

  fits_not : {A : Type 0} (place : Place) (zs : List Line) (read : Option Line) (more m n : List (Option Line)) (r : Refusal) → Goes C place zs → m ≡ map Some zs ++ n → m ≡ read ∷ more
      → IsRefused lemma_table C place read r → A
  fits_not place zs read more m n r goes longer e refused =
      let both : read ∷ more ≡ Some goes.0 ∷ (map Some goes.1 ++ n) = sym e ∙ longer ∙ ap (λ (ys : List Line). map Some ys ++ n) goes.2 in
      let same : read ≡ Some goes.0 = head_read read (Some goes.0) more (map Some goes.1 ++ n) both in
      absurd (not_refused C place goes.0 r goes.3 (subst (λ o. IsRefused lemma_table C place o r) same refused))

  one_way : (x y zs : List Line) (m n : List (Option Line)) (r s : Refusal) → y ≡ x ++ zs → m ≡ map Some zs ++ n → Found x m r → Found y n s → (zs ≡ []) × (r ≡ s)
  one_way x y zs m n r s e longer (inl a) (inl b) = go (begun_reaches C subject.goals [] [] 1 steps subject.conditions y x zs a.0 b.0 e b.1 a.1)
    where
      go : ((zs ≡ []) × (a.0 ≡ b.0)) ⊎ Goes C a.0 zs → (zs ≡ []) × (r ≡ s)
      go (inl h) =
          let tails : m ≡ n = longer ∙ ap (λ (ys : List Line). map Some ys ++ n) h.0 in
          let same : a.2 ≡ b.2 = head_read a.2 b.2 a.3 b.3 (sym a.4 ∙ tails ∙ b.4) in
          (h.0, refused_once C b.0 b.2 r s (subst (λ p. IsRefused lemma_table C p b.2 r) h.1 (subst (λ o. IsRefused lemma_table C a.0 o r) same a.5)) b.5)
      go (inr h) = fits_not a.0 zs a.2 a.3 m n r h longer a.4 a.5
  one_way x y zs m n r s e longer (inl a) (inr (inl b)) =
      fits_not a.0 zs a.2 a.3 m n r (log_goes subject steps b.0.1 y b.0.0 b.0.2 x zs a.0 e a.1) longer a.4 a.5
  one_way x y zs m n r s e longer (inl a) (inr (inr b)) = go (begun_reaches C subject.goals [] [] 1 steps subject.conditions y x zs a.0 b.0 e b.1 a.1)
    where
      go : ((zs ≡ []) × (a.0 ≡ b.0)) ⊎ Goes C a.0 zs → (zs ≡ []) × (r ≡ s)
      go (inl h) = no_item a.2 a.3 (sym b.2 ∙ sym (longer ∙ ap (λ (ys : List Line). map Some ys ++ n) h.0) ∙ a.4)
      go (inr h) = fits_not a.0 zs a.2 a.3 m n r h longer a.4 a.5
  one_way x y zs m n r s e longer (inr (inl a)) (inl b) = begun_not_done C subject.goals [] [] 1 steps a.0.1 subject.conditions y x zs a.0.0 b.0 e b.1 a.0.2
  one_way x y zs m n r s e longer (inr (inl a)) (inr (inl b)) =
      let none = log_done subject steps b.0.1 y b.0.0 b.0.2 x zs e a.0 in
      let tails : m ≡ n = longer ∙ ap (λ (ys : List Line). map Some ys ++ n) none in
      let same : a.1 ≡ b.1 = head_read a.1 b.1 a.2 b.2 (sym a.3 ∙ tails ∙ b.3) in
      (none, after_once b.1 r s (subst (λ o. IsAfterVerdict o r) same a.4) b.4)
  one_way x y zs m n r s e longer (inr (inl a)) (inr (inr b)) = begun_not_done C subject.goals [] [] 1 steps a.0.1 subject.conditions y x zs a.0.0 b.0 e b.1 a.0.2
  one_way x y zs m n r s e longer (inr (inr a)) (inl b) = no_item b.2 b.3 (sym (nothing zs n (sym a.2 ∙ longer)).1 ∙ b.4)
  one_way x y zs m n r s e longer (inr (inr a)) (inr (inl b)) = no_item b.1 b.2 (sym (nothing zs n (sym a.2 ∙ longer)).1 ∙ b.3)
  one_way x y zs m n r s e longer (inr (inr a)) (inr (inr b)) = ((nothing zs n (sym a.2 ∙ longer)).0, a.3 ∙ sym b.3)

  -- a first refusal, by its good lines and what follows them
  abbrev IsFoundBy : List (Option Line) → ℕ → Refusal → Type 0
  IsFoundBy reads number r = (good : List Line) × (m : List (Option Line)) × (reads ≡ map Some good ++ m) × (number ≡ number_after lemma_table subject steps good) × Found good m r

  found_by : (reads : List (Option Line)) (number : ℕ) (r : Refusal) → IsFirstRefusal lemma_table subject steps reads number r → IsFoundBy reads number r
  found_by reads number r (inl f) = (f.good, f.read ∷ f.more, f.split, f.counted, inl (f.place, f.stands, f.read, f.more, refl, f.refused))
  found_by reads number r (inr (inl f)) = (f.good, f.read ∷ f.more, f.split, f.counted, inr (inl (f.whole, f.read, f.more, refl, f.refused)))
  found_by reads number r (inr (inr f)) = (f.good, [], f.split ∙ sym (append-nil (map Some f.good)), f.counted, inr (inr (f.place, f.stands, refl, f.refused)))

  same_number : (x y zs : List Line) → y ≡ x ++ zs → zs ≡ [] → number_after lemma_table subject steps x ≡ number_after lemma_table subject steps y
  same_number x y zs e none = ap (number_after lemma_table subject steps) (sym (append-nil x) ∙ ap (λ (ys : List Line). x ++ ys) (sym none) ∙ sym e)

  pub one_first_refusal : (reads : List (Option Line)) (i j : ℕ) (r s : Refusal) → IsFirstRefusal lemma_table subject steps reads i r → IsFirstRefusal lemma_table subject steps reads j s
      → (i ≡ j) × (r ≡ s)
  one_first_refusal reads i j r s h g = go (found_by reads i r h) (found_by reads j s g)
    where
      go : IsFoundBy reads i r → IsFoundBy reads j s → (i ≡ j) × (r ≡ s)
      go (x, m, e, p, a) (y, n, f, q, b) = compare (compared x y m n (sym e ∙ f))
        where
          compare : IsLonger x m y n ⊎ IsLonger y n x m → (i ≡ j) × (r ≡ s)
          compare (inl l) = let one = one_way x y l.0 m n r s l.1 l.2 a b in (p ∙ same_number x y l.0 l.1 one.0 ∙ sym q, one.1)
          compare (inr l) = let one = one_way y x l.0 n m s r l.1 l.2 b a in (p ∙ sym (same_number y x l.0 l.1 one.0) ∙ sym q, sym one.1)
