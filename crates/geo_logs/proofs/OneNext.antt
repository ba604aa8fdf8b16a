-- What comes next in the prover's chain is determined.
use Rattle.std.proofs.Common.{◌≡◌, ℕ, ◌-◌, ◌⊎◌, inl, inr, ℤ, List, [], ◌∷◌, ◌++◌, map, append_assoc, refl, sym, ap, ap₂, ◌∙◌, subst, arith}
use Rattle.geo_poly.specs.declared.limits.Which.TheVariants.{Norm, Degree}
use Rattle.geo_poly.specs.declared.variables.Var.{Var}
use Rattle.geo_poly.specs.Monomials.{Powers}
use Rattle.geo_poly.specs.Polynomials.{Summands}
use Rattle.geo_terms.specs.Constructions.{Construction}
use Rattle.geo_terms.specs.Trees.{Tree}
use Rattle.proof_log.specs.declared.log.Line.{Line}
use Rattle.proof_log.specs.declared.log.Line.TheVariants.{End}
use Rattle.geo_logs.specs.declared.moves.Move.{Move}
use Rattle.geo_logs.specs.declared.moves.Replacement.{Replacement}
use Rattle.geo_logs.specs.Chains.{ChainStep, moves, cuts, IsEnd, line_of}
use Rattle.geo_poly.specs.Cuts.{IsCut}
use Rattle.geo_logs.specs.Starts.{IsStarted, IsStartStopped}
use Rattle.geo_logs.specs.Defined.{LeadsBySteps, NoCutDue}
use Rattle.geo_logs.specs.Ends.{IsAfterPolynomial, Next, comes, stops}
use Rattle.geo_logs.specs.Moves.{IsMoveStopped, IsMoved, Table, move_charge, replacement, Stop, spent, too_large}
use Rattle.geo_logs.proofs.OneStep.{no_cut, no_move, one_cut, one_factor, one_move, one_result}

-- TWO BEGINNINGS
-- the first goes on with a line of the second
abbrev pub IsAhead : List Line → Next → List Line → Type 0
IsAhead xs n ys = (l : Line) × (zs : List Line) × (n ≡ comes l) × (ys ≡ xs ++ l ∷ zs)

-- they are the same, or one goes on with a line of the other
abbrev pub AreCompared : List Line → Next → List Line → Next → Type 0
AreCompared xs n ys m = ((xs ≡ ys) × (n ≡ m)) ⊎ (IsAhead xs n ys ⊎ IsAhead ys m xs)

pub ahead_behind : (hs xs : List Line) (n : Next) (ys : List Line) → IsAhead xs n ys → IsAhead (hs ++ xs) n (hs ++ ys)
ahead_behind hs xs n ys (l, zs, e, f) = (l, zs, e, ap (λ (ws : List Line). hs ++ ws) f ∙ sym (append_assoc hs xs (l ∷ zs)))

pub compared_behind : (hs xs : List Line) (n : Next) (ys : List Line) (m : Next) → AreCompared xs n ys m → AreCompared (hs ++ xs) n (hs ++ ys) m
compared_behind hs xs n ys m (inl h) = inl (ap (λ (ws : List Line). hs ++ ws) h.0, h.1)
compared_behind hs xs n ys m (inr (inl h)) = inr (inl (ahead_behind hs xs n ys h))
compared_behind hs xs n ys m (inr (inr h)) = inr (inr (ahead_behind hs ys m xs h))

pub no_stop_ahead : {A : Type 0} (xs : List Line) (s : Stop) (ys : List Line) → IsAhead xs (stops s) ys → A
no_stop_ahead xs s ys (l, zs, e, f) = absurd (let q : stops s ≡ comes l = e in cc)

-- STOPS
pub one_stop : (made : Replacement) (left : ℕ) (q : Summands) (s s' : Stop) → IsMoveStopped made left q s → IsMoveStopped made left q s' → s ≡ s'
one_stop made left q spent spent h g = refl
one_stop made left q spent (too_large Norm) h g = absurd (omega (arith, h, g.0))
one_stop made left q spent (too_large Degree) h g = absurd (omega (arith, h, g.0))
one_stop made left q (too_large Norm) spent h g = absurd (omega (arith, g, h.0))
one_stop made left q (too_large Norm) (too_large Norm) h g = refl
one_stop made left q (too_large Norm) (too_large Degree) h g = absurd (omega (arith, h.1, g.1))
one_stop made left q (too_large Degree) spent h g = absurd (omega (arith, g, h.0))
one_stop made left q (too_large Degree) (too_large Norm) h g = absurd (omega (arith, g.1, h.1))
one_stop made left q (too_large Degree) (too_large Degree) h g = refl

pub not_stopped : (made : Replacement) (left : ℕ) (q r : Summands) (s : Stop) → IsMoved made left q r → IsMoveStopped made left q s → ⊥
not_stopped made left q r spent h g = omega (arith, h.paid, g)
not_stopped made left q r (too_large Norm) h g = omega (arith, h.weight_fits, g.1)
not_stopped made left q r (too_large Degree) h g = omega (arith, h.degree_fits, g.2)

pub one_start_stop : (left : ℕ) (e : Tree) (s s' : Stop) → IsStartStopped left e s → IsStartStopped left e s' → s ≡ s'
one_start_stop left e spent spent h g = refl
one_start_stop left e spent (too_large Norm) h g = absurd (omega (arith, h, g.0))
one_start_stop left e spent (too_large Degree) h g = absurd (omega (arith, h, g.0))
one_start_stop left e (too_large Norm) spent h g = absurd (omega (arith, g, h.0))
one_start_stop left e (too_large Norm) (too_large Norm) h g = refl
one_start_stop left e (too_large Norm) (too_large Degree) h g = absurd (omega (arith, h.1, g.1))
one_start_stop left e (too_large Degree) spent h g = absurd (omega (arith, g, h.0))
one_start_stop left e (too_large Degree) (too_large Norm) h g = absurd (omega (arith, g.1, h.1))
one_start_stop left e (too_large Degree) (too_large Degree) h g = refl

pub start_not_stopped : (left : ℕ) (e : Tree) (s : Stop) → IsStarted left e → IsStartStopped left e s → ⊥
start_not_stopped left e spent h g = omega (arith, h.paid, g)
start_not_stopped left e (too_large Norm) h g = omega (arith, h.room.numerator_weight, h.room.denominator_weight, g.1)
start_not_stopped left e (too_large Degree) h g = omega (arith, h.room.numerator_degree, h.room.denominator_degree, g.2)

module _ (table : Table) (c : Construction) (known : List Var) where
  -- STEPS
  -- a step that is due is the only one
  one_due : (left : ℕ) (q : Summands) (x y : ChainStep) (l l' : ℕ) (r r' : Summands) → LeadsBySteps table c known left q (x ∷ []) l r → LeadsBySteps table c known left q (y ∷ []) l' r' → x ≡ y
  one_due left q (moves m r) (moves n s) l l' e e' h g =
      let move : n ≡ m = one_move table c q n m g.1 h.1 in
      let result : s ≡ r = one_result table c left q s r m (subst (λ (x : Move). IsMoved (replacement table c x q) left q s) move g.2) h.2 in
      ap₂ moves (sym move) (sym result)
  one_due left q (moves m r) (cuts f s) l l' e e' h g = absurd (no_cut known q f h.0 g.0)
  one_due left q (cuts f r) (moves m s) l l' e e' h g = absurd (no_cut known q f g.0 h.0)
  one_due left q (cuts f r) (cuts k s) l l' e e' h g =
      let factor : k ≡ f = one_factor known q k f g.0 h.0 in
      let result : s ≡ r = one_cut known f q s r (subst (λ (x : Powers × ℤ). IsCut known x q s) factor g.1) h.1 in
      ap₂ cuts (sym factor) (sym result)

  -- the first of some steps is due
  record IsDue (left : ℕ) (q : Summands) (x : ChainStep) : Type 0 where
    after : ℕ
    result : Summands
    leads : LeadsBySteps table c known left q (x ∷ []) after result

  first_due : (left : ℕ) (q : Summands) (x : ChainStep) (xs : List ChainStep) (l : ℕ) (e : Summands) → LeadsBySteps table c known left q (x ∷ xs) l e → IsDue left q x
  first_due left q (moves m r) xs l e h = record { after = left - move_charge (replacement table c m q) q; result = r; leads = (h.0, h.1, h.2, (refl, refl)) }
  first_due left q (cuts f r) xs l e h = record { after = left; result = r; leads = (h.0, h.1, (refl, refl)) }

  -- where a step is due, nothing is over, and nothing is stopped
  not_over : (left : ℕ) (q : Summands) (x : ChainStep) (l : ℕ) (r : Summands) → LeadsBySteps table c known left q (x ∷ []) l r → NoCutDue known q → IsEnd q → ⊥
  not_over left q (moves m r) l e h none end = no_move table c q m end h.1
  not_over left q (cuts f r) l e h none end = no_cut known q f none h.0

  due_not_stopped : (left : ℕ) (q : Summands) (x : ChainStep) (l : ℕ) (r : Summands) (s : Stop) → LeadsBySteps table c known left q (x ∷ []) l r → IsAfterPolynomial table c known left q (stops s) → ⊥
  due_not_stopped left q (moves m r) l e s h (n, none, next, stopped) =
      let move : n ≡ m = one_move table c q n m next h.1 in
      not_stopped (replacement table c m q) left q r s h.2 (subst (λ (x : Move). IsMoveStopped (replacement table c x q) left q s) move stopped)
  due_not_stopped left q (cuts f r) l e s h (n, none, next, stopped) = no_cut known q f none h.0

  -- what comes after a polynomial is the only thing
  pub one_next : (left : ℕ) (q : Summands) (n m : Next) → IsAfterPolynomial table c known left q n → IsAfterPolynomial table c known left q m → n ≡ m
  one_next left q (comes a) (comes b) (inl (x, l, r, h, e)) (inl (y, l', r', g, f)) = ap comes (e ∙ ap line_of (one_due left q x y l l' r r' h g) ∙ sym f)
  one_next left q (comes a) (comes b) (inl (x, l, r, h, e)) (inr (none, end, f)) = absurd (not_over left q x l r h none end)
  one_next left q (comes a) (comes b) (inr (none, end, e)) (inl (y, l', r', g, f)) = absurd (not_over left q y l' r' g none end)
  one_next left q (comes a) (comes b) (inr (none, end, e)) (inr (none', end', f)) = ap comes (e ∙ sym f)
  one_next left q (comes a) (stops s) (inl (x, l, r, h, e)) g = absurd (due_not_stopped left q x l r s h g)
  one_next left q (comes a) (stops s) (inr (none, end, e)) (m, none', next, stopped) = absurd (no_move table c q m end next)
  one_next left q (stops s) (comes b) g (inl (x, l, r, h, e)) = absurd (due_not_stopped left q x l r s h g)
  one_next left q (stops s) (comes b) (m, none', next, stopped) (inr (none, end, e)) = absurd (no_move table c q m end next)
  one_next left q (stops s) (stops s') (m, none, next, stopped) (m', none', next', stopped') =
      let move : m' ≡ m = one_move table c q m' m next' next in
      ap stops (one_stop (replacement table c m q) left q s s' stopped (subst (λ (x : Move). IsMoveStopped (replacement table c x q) left q s') move stopped'))

  -- where a step is due, its line comes
  comes_step : (left : ℕ) (q : Summands) (x : ChainStep) (n : Next) → IsDue left q x → IsAfterPolynomial table c known left q n → n ≡ comes (line_of x)
  comes_step left q x n due h = one_next left q n (comes (line_of x)) h (inl (x, due.after, due.result, due.leads, refl))

  moved_on : (left : ℕ) (q l : Summands) (k : ℕ) → k ≡ left → q ≡ l → (n : Next) → IsAfterPolynomial table c known k l n → IsAfterPolynomial table c known left q n
  moved_on left q l k e f n h = subst (λ (x : Summands). IsAfterPolynomial table c known left x n) (sym f) (subst (λ j. IsAfterPolynomial table c known j l n) e h)

  -- PATHS
  pub compare_paths : (left : ℕ) (q : Summands) (xs ys : List ChainStep) (l l' : ℕ) (r r' : Summands) (n m : Next)
      → LeadsBySteps table c known left q xs l r → IsAfterPolynomial table c known l r n
      → LeadsBySteps table c known left q ys l' r' → IsAfterPolynomial table c known l' r' m
      → AreCompared (map line_of xs) n (map line_of ys) m
  compare_paths left q [] [] l l' r r' n m h after g after' =
      inl (refl, one_next left q n m (moved_on left q r l (sym h.0) h.1 n after) (moved_on left q r' l' (sym g.0) g.1 m after'))
  compare_paths left q [] (y ∷ ys) l l' r r' n m h after g after' =
      inr (inl (line_of y, map line_of ys, comes_step left q y n (first_due left q y ys l' r' g) (moved_on left q r l (sym h.0) h.1 n after), refl))
  compare_paths left q (x ∷ xs) [] l l' r r' n m h after g after' =
      inr (inr (line_of x, map line_of xs, comes_step left q x m (first_due left q x xs l r h) (moved_on left q r' l' (sym g.0) g.1 m after'), refl))
  compare_paths left q (moves a s ∷ xs) (cuts f t ∷ ys) l l' r r' n m h after g after' = absurd (no_cut known q f h.0 g.0)
  compare_paths left q (cuts f s ∷ xs) (moves a t ∷ ys) l l' r r' n m h after g after' = absurd (no_cut known q f g.0 h.0)
  compare_paths left q (moves a s ∷ xs) (moves b t ∷ ys) l l' r r' n m h after g after' =
      let move : b ≡ a = one_move table c q b a g.1 h.1 in
      let result : t ≡ s = one_result table c left q t s a (subst (λ (x : Move). IsMoved (replacement table c x q) left q t) move g.2) h.2 in
      let rest : ℕ = left - move_charge (replacement table c a q) q in
      let goes : LeadsBySteps table c known rest t ys l' r' = subst (λ (x : Move). LeadsBySteps table c known (left - move_charge (replacement table c x q) q) t ys l' r') move g.3 in
      let found = compare_paths rest s xs ys l l' r r' n m h.3 after (subst (λ (x : Summands). LeadsBySteps table c known rest x ys l' r') result goes) after' in
      subst (λ (x : ChainStep). AreCompared (line_of (moves a s) ∷ map line_of xs) n (line_of x ∷ map line_of ys) m) (ap₂ moves (sym move) (sym result))
      (compared_behind (line_of (moves a s) ∷ []) (map line_of xs) n (map line_of ys) m found)
  compare_paths left q (cuts f s ∷ xs) (cuts k t ∷ ys) l l' r r' n m h after g after' =
      let factor : k ≡ f = one_factor known q k f g.0 h.0 in
      let result : t ≡ s = one_cut known f q t s (subst (λ (x : Powers × ℤ). IsCut known x q t) factor g.1) h.1 in
      let found = compare_paths left s xs ys l l' r r' n m h.2 after (subst (λ (x : Summands). LeadsBySteps table c known left x ys l' r') result g.2) after' in
      subst (λ (x : ChainStep). AreCompared (line_of (cuts f s) ∷ map line_of xs) n (line_of x ∷ map line_of ys) m) (ap₂ cuts (sym factor) (sym result))
      (compared_behind (line_of (cuts f s) ∷ []) (map line_of xs) n (map line_of ys) m found)

  -- a path that is not over stands within a whole chain
  pub path_within : (left : ℕ) (q : Summands) (xs ys : List ChainStep) (l l' : ℕ) (r r' : Summands) (n : Next) (rest : List Line)
      → LeadsBySteps table c known left q xs l r → IsAfterPolynomial table c known l r n
      → LeadsBySteps table c known left q ys l' r' → NoCutDue known r' → IsEnd r'
      → IsAhead (map line_of xs) n (map line_of ys ++ End ∷ rest)
  path_within left q [] [] l l' r r' n rest h after g none end =
      let none_here : NoCutDue known q = subst (NoCutDue known) (sym g.1) none in
      let end_here : IsEnd q = subst IsEnd (sym g.1) end in
      (End, rest, one_next left q n (comes End) (moved_on left q r l (sym h.0) h.1 n after) (inr (none_here, end_here, refl)), refl)
  path_within left q [] (y ∷ ys) l l' r r' n rest h after g none end =
      (line_of y, map line_of ys ++ End ∷ rest, comes_step left q y n (first_due left q y ys l' r' g) (moved_on left q r l (sym h.0) h.1 n after), refl)
  path_within left q (x ∷ xs) [] l l' r r' n rest h after g none end =
      let due = first_due left q x xs l r h in
      absurd (not_over left q x due.after due.result due.leads (subst (NoCutDue known) (sym g.1) none) (subst IsEnd (sym g.1) end))
  path_within left q (moves a s ∷ xs) (cuts f t ∷ ys) l l' r r' n rest h after g none end = absurd (no_cut known q f h.0 g.0)
  path_within left q (cuts f s ∷ xs) (moves a t ∷ ys) l l' r r' n rest h after g none end = absurd (no_cut known q f g.0 h.0)
  path_within left q (moves a s ∷ xs) (moves b t ∷ ys) l l' r r' n rest h after g none end =
      let move : b ≡ a = one_move table c q b a g.1 h.1 in
      let result : t ≡ s = one_result table c left q t s a (subst (λ (x : Move). IsMoved (replacement table c x q) left q t) move g.2) h.2 in
      let on : ℕ = left - move_charge (replacement table c a q) q in
      let goes : LeadsBySteps table c known on t ys l' r' = subst (λ (x : Move). LeadsBySteps table c known (left - move_charge (replacement table c x q) q) t ys l' r') move g.3 in
      let found = path_within on s xs ys l l' r r' n rest h.3 after (subst (λ (x : Summands). LeadsBySteps table c known on x ys l' r') result goes) none end in
      subst (λ (x : ChainStep). IsAhead (line_of (moves a s) ∷ map line_of xs) n (line_of x ∷ map line_of ys ++ End ∷ rest)) (ap₂ moves (sym move) (sym result))
      (ahead_behind (line_of (moves a s) ∷ []) (map line_of xs) n (map line_of ys ++ End ∷ rest) found)
  path_within left q (cuts f s ∷ xs) (cuts k t ∷ ys) l l' r r' n rest h after g none end =
      let factor : k ≡ f = one_factor known q k f g.0 h.0 in
      let result : t ≡ s = one_cut known f q t s (subst (λ (x : Powers × ℤ). IsCut known x q t) factor g.1) h.1 in
      let found = path_within left s xs ys l l' r r' n rest h.2 after (subst (λ (x : Summands). LeadsBySteps table c known left x ys l' r') result g.2) none end in
      subst (λ (x : ChainStep). IsAhead (line_of (cuts f s) ∷ map line_of xs) n (line_of x ∷ map line_of ys ++ End ∷ rest)) (ap₂ cuts (sym factor) (sym result))
      (ahead_behind (line_of (cuts f s) ∷ []) (map line_of xs) n (map line_of ys ++ End ∷ rest) found)
