-- A start, a move and a sample are within their limits, or they are stopped.
use Rattle.std.proofs.Common.{◌≢◌, ℕ, zero, suc, ◌-◌, ◌^◌, ◌<◌, ◌≤◌, ◌⊎◌, inl, inr, ⊎_elim, max, All, List, [], ◌∷◌, refl, sym, subst, arith}
use Rattle.std.specs.Prelude.{Any}
use Rattle.geo_poly.specs.declared.limits.Which.TheVariants.{Norm, Degree}
use Rattle.geo_poly.specs.Polynomials.{Summands}
use Rattle.geo_poly.specs.Replace.{replaced_by, replaced_degree, replaced_weight}
use Rattle.geo_poly.specs.Specialise.{IsCollected, NoneZero, specialised_weight}
use Rattle.geo_terms.specs.Constructions.{Construction}
use Rattle.geo_terms.specs.Trees.{Tree}
use Rattle.fraction_poly.specs.Measures.{numbers_of}
use Rattle.geo_sample.specs.Tries.{AreMade, EndIn, IsTooLarge, Try, charge_of, search_tries}
use Rattle.geo_sample.proofs.LeastSamples.{exists_one}
use Rattle.geo_sample.proofs.TryEnds.{AreMade-append, AreMade-nil, EndIn-after, EndIn-before, one_large, one_made, one_spent}
use Rattle.proof_log.specs.declared.log.Line.TheVariants.{Sample, Start}
use Rattle.geo_logs.specs.declared.moves.Replacement.{Replacement}
use Rattle.geo_logs.specs.Starts.{IsStarted, start_charge, start_of}
use Rattle.geo_logs.specs.Ends.{IsAfterHeader, IsAtSample, Next, comes, stops}
use Rattle.geo_logs.specs.Moves.{IsMoveStopped, IsMoved, move_charge, Stop, spent, too_large}
use Rattle.geo_logs.specs.Samples.{error_of, sample_variables}
use Rattle.log_checker.proofs.GoingOn.{at_most}

-- STARTS
pub start_next : (left : ℕ) (e : Tree) → (next : Next) × IsAfterHeader left e next
start_next left e =
    let n = numbers_of e in
    ⊎_elim
    (λ (paid : start_charge e ≤ left).
    ⊎_elim
    (λ (light : suc (max n.wn n.wd) ≤ 2 ^ 127).
    ⊎_elim
    (λ (low : max n.gn n.gd ≤ 65535).
    let started : IsStarted left e = record {
      paid = paid;
      room = record {
        numerator_weight = omega (arith, light);
        denominator_weight = omega (arith, light);
        numerator_degree = omega (arith, low);
        denominator_degree = omega (arith, low);
      };
    } in
    let found : (next : Next) × IsAfterHeader left e next = (comes (Start (start_of e)), (refl, started)) in found)
    (λ (high : 65535 < max n.gn n.gd). let found : (next : Next) × IsAfterHeader left e next = (stops (too_large Degree), (paid, omega (arith, light), high)) in found)
    (at_most (max n.gn n.gd) 65535))
    (λ (heavy : 2 ^ 127 < suc (max n.wn n.wd)). let found : (next : Next) × IsAfterHeader left e next = (stops (too_large Norm), (paid, omega (arith, heavy))) in found)
    (at_most (suc (max n.wn n.wd)) (2 ^ 127)))
    (λ (short : left < start_charge e). let found : (next : Next) × IsAfterHeader left e next = (stops spent, short) in found) (at_most (start_charge e) left)

-- MOVES
pub moved_or_stopped : (made : Replacement) (left : ℕ) (q : Summands) → made.rows ≢ [] → IsMoved made left q (replaced_by made.rows made.den.poly q) ⊎ ((stop : Stop) × IsMoveStopped made left q stop)
moved_or_stopped made left q some =
    let w = replaced_weight made.rows made.den q in let d = replaced_degree made.rows made.den q in
    ⊎_elim
    (λ (paid : move_charge made q ≤ left).
    ⊎_elim
    (λ (light : suc w ≤ 2 ^ 127).
    ⊎_elim (λ (low : d ≤ 65535). inl (record { replaces = some; paid = paid; weight_fits = omega (arith, light); degree_fits = low; result = refl }))
    (λ (high : 65535 < d). inr (too_large Degree, (paid, omega (arith, light), high))) (at_most d 65535))
    (λ (heavy : 2 ^ 127 < suc w). inr (too_large Norm, (paid, omega (arith, heavy)))) (at_most (suc w) (2 ^ 127)))
    (λ (short : left < move_charge made q). inr (spent, short)) (at_most (move_charge made q) left)

-- SAMPLES
any_behind : {X : Type 0} (P : X → Type 0) (x : X) (xs : List X) → Any P xs → Any P (x ∷ xs)
any_behind P x xs (i, y, lt, at, p) = (suc i, y, omega (arith, lt), at, p)

pub any_or_none : {X : Type 0} (P : X → Type 0) → ((x : X) → P x ⊎ (P x → ⊥)) → (xs : List X) → Any P xs ⊎ (Any P xs → ⊥)
any_or_none P test [] = inr (λ a. omega (arith, a.2))
any_or_none {X} P test (x ∷ xs) =
    ⊎_elim (λ (h : P x). inl (0, x, omega arith, refl, h))
    (λ (none : P x → ⊥).
    ⊎_elim (λ (h : Any P xs). inl (any_behind P x xs h)) (λ (others : Any P xs → ⊥). inr (neither none others)) (any_or_none P test xs)) (test x)
  where
    neither : (P x → ⊥) → (Any P xs → ⊥) → Any P (x ∷ xs) → ⊥
    neither none others (zero, y, lt, at, h) = none (subst P (sym at) h)
    neither none others (suc i, y, lt, at, h) = others (i, y, omega (arith, lt), at, h)

try_large : (t : Try) → IsTooLarge t ⊎ (IsTooLarge t → ⊥)
try_large t =
    any_or_none (λ p. 2 ^ 127 ≤ specialised_weight t.variable t.number p)
    (λ p. ⊎_elim (λ (h : 2 ^ 127 ≤ specialised_weight t.variable t.number p). inl h) (λ (h : specialised_weight t.variable t.number p < 2 ^ 127). inr (λ k. omega (arith, h, k)))
    (at_most (2 ^ 127) (specialised_weight t.variable t.number p))) t.polys

-- how tries end: all are made, or they are stopped
abbrev pub TriesEnd : ℕ → List Try → Type 0
TriesEnd left tries = ((rest : ℕ) × AreMade left tries rest) ⊎ ((stop : Stop) × (rest : ℕ) × EndIn (error_of stop) left tries rest)

try_end : (left : ℕ) (t : Try) → TriesEnd left (t ∷ [])
try_end left t =
    ⊎_elim
    (λ (paid : charge_of t ≤ left).
    ⊎_elim (λ (large : IsTooLarge t). let found : TriesEnd left (t ∷ []) = inr (too_large Norm, left, one_large left t paid large) in found)
    (λ (fits : IsTooLarge t → ⊥). let found : TriesEnd left (t ∷ []) = inl (left - charge_of t, one_made left (left - charge_of t) t (omega (arith, paid)) fits) in found) (try_large t))
    (λ (short : left < charge_of t). let found : TriesEnd left (t ∷ []) = inr (spent, left, one_spent left t short) in found) (at_most (charge_of t) left)

pub tries_end : (tries : List Try) (left : ℕ) → TriesEnd left tries
tries_end [] left = inl (left, AreMade-nil left)
tries_end (t ∷ ts) left =
    ⊎_elim
    (λ (h : (rest : ℕ) × AreMade left (t ∷ []) rest).
    ⊎_elim (λ (k : (rest : ℕ) × AreMade h.0 ts rest). let found : TriesEnd left (t ∷ ts) = inl (k.0, AreMade-append left h.0 k.0 (t ∷ []) ts h.1 k.1) in found)
    (λ (k : (stop : Stop) × (rest : ℕ) × EndIn (error_of stop) h.0 ts rest).
    let found : TriesEnd left (t ∷ ts) = inr (k.0, k.1, EndIn-after (error_of k.0) left h.0 k.1 (t ∷ []) ts h.1 k.2) in found) (tries_end ts h.0))
    (λ (h : (stop : Stop) × (rest : ℕ) × EndIn (error_of stop) left (t ∷ []) rest).
    let found : TriesEnd left (t ∷ ts) = inr (h.0, h.1, EndIn-before (error_of h.0) left h.1 (t ∷ []) ts h.2) in found) (try_end left t)

pub sample_next : (c : Construction) (listed : List Summands) (left : ℕ) → All IsCollected listed → NoneZero listed → (next : Next) × IsAtSample c listed left next
sample_next c listed left collected some =
    let s = exists_one.exists (sample_variables c) listed collected some in
    ⊎_elim
    (λ (h : (rest : ℕ) × AreMade left (search_tries s.0 listed) rest).
    let found : (next : Next) × IsAtSample c listed left next = (comes (Sample s.0), (s.0, h.0, record { least = s.1; made = h.1 }, refl)) in found)
    (λ (h : (stop : Stop) × (rest : ℕ) × EndIn (error_of stop) left (search_tries s.0 listed) rest).
    let found : (next : Next) × IsAtSample c listed left next = (stops h.0, (h.1, (s.0, s.1, h.2))) in found) (tries_end (search_tries s.0 listed) left)
