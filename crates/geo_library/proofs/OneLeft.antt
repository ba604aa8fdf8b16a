-- The lines of an accepted log tell how many steps are left.
use Rattle.std.proofs.Common.{◌≡◌, ◌≢◌, ℕ, zero, suc, ◌+◌, ◌-◌, inl, inr, ℤ, Option, Some, map, List, [], ◌∷◌, ◌++◌, append_assoc, refl, sym, ◌∙◌, ap, subst, subst₂, arith}
use Rattle.std.specs.Prelude.{sum_by}
use Rattle.geo_points.specs.declared.ids.PointId.{PointId}
use Rattle.geo_poly.specs.declared.variables.Var.{Var}
use Rattle.geo_poly.specs.Monomials.{Powers}
use Rattle.geo_poly.specs.Polynomials.{Summands}
use Rattle.geo_sample.specs.Tries.{charge_of, single_tries}
use Rattle.geo_terms.specs.Constructions.{Construction}
use Rattle.geo_terms.specs.Trees.{Tree}
use Rattle.proof_log.specs.declared.log.Line.{Line}
use Rattle.proof_log.specs.declared.log.Line.TheVariants.{Header, Program as ProgramLine, Condition, Goal, Start, Ratio as RatioLine}
use Rattle.proof_log.specs.declared.log.Line.TheVariants.{Point as PointLine, Coords as CoordsLine, Cut, End, Sample}
use Rattle.proof_log.specs.declared.log.Line.TheVariants.{Verdict as VerdictLine}
use Rattle.proof_log.specs.declared.log.Verdict.{Verdict}
use Rattle.proof_log.specs.declared.log.Verdict.TheVariants.{Proved, False}
use Rattle.geo_logs.specs.declared.moves.Move.{Move}
use Rattle.geo_logs.specs.declared.moves.Move.TheVariants.{Ratio, Point, Coords}
use Rattle.geo_logs.specs.declared.moves.Replacement.{Replacement}
use Rattle.geo_logs.specs.Chains.{Chain, ChainStep, IsAcceptedChain, LeadsTo, chain_lines, cuts, line_of, moves}
use Rattle.geo_logs.specs.Logs.{AreConditionsWorked, AreGoalsWorked, IsConcluded, Item, Subject, known_by}
use Rattle.geo_logs.specs.Moves.{Table, move_charge, place_of_lemma, replacement}
use Rattle.geo_logs.specs.Samples.{IsAcceptedSample}
use Rattle.geo_logs.specs.Starts.{start_charge, start_of}
use Rattle.geo_library.specs.LeftLaws.{AcceptedLogsLeaveOneNumber, LooksAtNoPoint}

-- a step's line is no end
not_end : (x : ChainStep) → End ≡ line_of x → ⊥
not_end (moves (Ratio v lemma at) r) e = let z : End ≡ RatioLine v lemma (place_of_lemma lemma at) r = e in cc
not_end (moves (Point at) r) e = let z : End ≡ PointLine at r = e in cc
not_end (moves Coords r) e = let z : End ≡ CoordsLine r = e in cc
not_end (cuts f r) e = let z : End ≡ Cut f r = e in cc

-- a move's line is no cut
not_cut : (m : Move) (r : Summands) (f : Powers × ℤ) (s : Summands) → line_of (moves m r) ≡ Cut f s → ⊥
not_cut (Ratio v lemma at) r f s e = let z : RatioLine v lemma (place_of_lemma lemma at) r ≡ Cut f s = e in cc
not_cut (Point at) r f s e = let z : PointLine at r ≡ Cut f s = e in cc
not_cut Coords r f s e = let z : CoordsLine r ≡ Cut f s = e in cc

module _ (table : Table) (c : Construction) (ignores : LooksAtNoPoint table c) where
  -- one line tells what is replaced, and the result
  same_moves : (m n : Move) (r s q : Summands) → line_of (moves m r) ≡ line_of (moves n s) → (replacement table c m q ≡ replacement table c n q) × (r ≡ s)
  same_moves (Ratio v lemma at) (Ratio w other to) r s q e =
      let z : RatioLine v lemma (place_of_lemma lemma at) r ≡ RatioLine w other (place_of_lemma other to) s = e in
      let one : v ≡ w = cc in let two : lemma ≡ other = cc in let three : place_of_lemma lemma at ≡ place_of_lemma other to = cc in let four : r ≡ s = cc in
      (by lemma other one two three, four)
    where
      by : (i j : ℕ) → v ≡ w → i ≡ j → place_of_lemma i at ≡ place_of_lemma j to → replacement table c (Ratio v i at) q ≡ replacement table c (Ratio w j to) q
      by zero zero a b p = ignores v at to q ∙ ap (λ (u : Var). replacement table c (Ratio u 0 to) q) a
      by zero (suc j) a b p = absurd (omega (arith, b))
      by (suc i) zero a b p = absurd (omega (arith, b))
      by (suc i) (suc j) a b p = let x : ◌≡◌ {A = Option PointId} (Some at) (Some to) = p in let y : at ≡ to = cc in λ k. replacement table c (Ratio (a k) (b k) (y k)) q
  same_moves (Point y) (Point z) r s q e =
      let l : PointLine y r ≡ PointLine z s = e in let one : y ≡ z = cc in let two : r ≡ s = cc in (λ i. replacement table c (Point (one i)) q, two)
  same_moves Coords Coords r s q e = let l : CoordsLine r ≡ CoordsLine s = e in let two : r ≡ s = cc in (refl, two)
  same_moves (Ratio v lemma at) (Point z) r s q e = let l : RatioLine v lemma (place_of_lemma lemma at) r ≡ PointLine z s = e in absurd (cc)
  same_moves (Ratio v lemma at) Coords r s q e = let l : RatioLine v lemma (place_of_lemma lemma at) r ≡ CoordsLine s = e in absurd (cc)
  same_moves (Point y) (Ratio w other to) r s q e = let l : PointLine y r ≡ RatioLine w other (place_of_lemma other to) s = e in absurd (cc)
  same_moves (Point y) Coords r s q e = let l : PointLine y r ≡ CoordsLine s = e in absurd (cc)
  same_moves Coords (Ratio w other to) r s q e = let l : CoordsLine r ≡ RatioLine w other (place_of_lemma other to) s = e in absurd (cc)
  same_moves Coords (Point z) r s q e = let l : CoordsLine r ≡ PointLine z s = e in absurd (cc)

  one_path : (known : List Var) (left : ℕ) (q : Summands) (xs ys : List ChainStep) (l k : ℕ) (e f : Summands) (rest more : List Line)
      → LeadsTo table c known left q xs l e → LeadsTo table c known left q ys k f → map line_of xs ++ End ∷ rest ≡ map line_of ys ++ End ∷ more → (l ≡ k) × (e ≡ f) × (rest ≡ more)
  one_path known left q [] [] l k e f rest more h g s = (sym h.0 ∙ g.0, sym h.1 ∙ g.1, let z : rest ≡ more = cc in z)
  one_path known left q [] (y ∷ ys) l k e f rest more h g s = let z : End ≡ line_of y = cc in absurd (not_end y z)
  one_path known left q (x ∷ xs) [] l k e f rest more h g s = let z : End ≡ line_of x = cc in absurd (not_end x z)
  one_path known left q (moves m r ∷ xs) (moves n t ∷ ys) l k e f rest more h g s =
      let heads : line_of (moves m r) ≡ line_of (moves n t) = cc in let tails : map line_of xs ++ End ∷ rest ≡ map line_of ys ++ End ∷ more = cc in
      let same = same_moves m n r t q heads in
      one_path known (left - move_charge (replacement table c m q) q) r xs ys l k e f rest more h.1
      (subst₂ (λ (made : Replacement) (p : Summands). LeadsTo table c known (left - move_charge made q) p ys k f) (sym same.0) (sym same.1) g.1) tails
  one_path known left q (moves m r ∷ xs) (cuts w t ∷ ys) l k e f rest more h g s = let z : line_of (moves m r) ≡ Cut w t = cc in absurd (not_cut m r w t z)
  one_path known left q (cuts w t ∷ xs) (moves m r ∷ ys) l k e f rest more h g s = let z : line_of (moves m r) ≡ Cut w t = cc in absurd (not_cut m r w t z)
  one_path known left q (cuts w r ∷ xs) (cuts x t ∷ ys) l k e f rest more h g s =
      let heads : Cut w r ≡ Cut x t = cc in let same : r ≡ t = cc in let tails : map line_of xs ++ End ∷ rest ≡ map line_of ys ++ End ∷ more = cc in
      one_path known left r xs ys l k e f rest more h.1 (subst (λ (p : Summands). LeadsTo table c known left p ys k f) (sym same) g.1) tails

  one_chain : (head : Line) (known : List Var) (left : ℕ) (e : Tree) (a b : Chain) (l k : ℕ) (rest more : List Line)
      → IsAcceptedChain table c known left e a l → IsAcceptedChain table c known left e b k → chain_lines head e a ++ rest ≡ chain_lines head e b ++ more
      → (l ≡ k) × (a.end ≡ b.end) × (rest ≡ more)
  one_chain head known left e a b l k rest more h g s =
      let tails : (map line_of a.steps ++ End ∷ []) ++ rest ≡ (map line_of b.steps ++ End ∷ []) ++ more = cc in
      one_path known (left - start_charge e) (start_of e) a.steps b.steps l k a.end b.end rest more h.leads g.leads
      (sym (append_assoc (map line_of a.steps) (End ∷ []) rest) ∙ tails ∙ append_assoc (map line_of b.steps) (End ∷ []) more)

  -- LOGS
  concluded : (listed : List Summands) (left : ℕ) (lines : List Line) (verdict : Verdict) (l k : ℕ)
      → IsConcluded (IsAcceptedChain table c) (IsAcceptedSample c) listed left lines verdict l → IsConcluded (IsAcceptedChain table c) (IsAcceptedSample c) listed left lines verdict k → l ≡ k
  concluded listed left lines verdict l k a b =
      let both : Sample a.values ∷ VerdictLine verdict ∷ [] ≡ Sample b.values ∷ VerdictLine verdict ∷ [] = sym a.split ∙ b.split in
      let line : Sample a.values ≡ Sample b.values = cc in let same : a.values ≡ b.values = cc in
      let sums : sum_by charge_of (single_tries a.values listed) ≡ sum_by charge_of (single_tries b.values listed) = ap (λ (vs : List (Var × ℤ)). sum_by charge_of (single_tries vs listed)) same in
      let one = a.chosen.made.charged in let two = b.chosen.made.charged in omega (arith, sums, one, two)

  goals_left : (known : List Var) (listed : List Summands) (n left : ℕ) (items : List Item) (lines : List Line) (verdict : Verdict) (l k : ℕ)
      → AreGoalsWorked (IsAcceptedChain table c) (IsAcceptedSample c) known listed n left items lines verdict l
      → AreGoalsWorked (IsAcceptedChain table c) (IsAcceptedSample c) known listed n left items lines verdict k → l ≡ k
  goals_left known listed n left [] lines verdict l k a b = concluded listed left lines Proved l k a.1 b.1
  goals_left known listed n left (item ∷ items) lines verdict l k (a, inl x) (b, inl y) =
      let s = one_chain (Goal n item.text) known left item.term a.chain b.chain a.after b.after a.rest b.rest a.works b.works (sym a.split ∙ b.split) in
      goals_left known listed (suc n) a.after items a.rest verdict l k x.1
      (subst₂ (λ (m : ℕ) (ls : List Line). AreGoalsWorked (IsAcceptedChain table c) (IsAcceptedSample c) known listed (suc n) m items ls verdict k) (sym s.0) (sym s.2) y.1)
  goals_left known listed n left (item ∷ items) lines verdict l k (a, inl x) (b, inr y) =
      let s = one_chain (Goal n item.text) known left item.term a.chain b.chain a.after b.after a.rest b.rest a.works b.works (sym a.split ∙ b.split) in absurd (y.0 (sym s.1 ∙ x.0))
  goals_left known listed n left (item ∷ items) lines verdict l k (a, inr x) (b, inl y) =
      let s = one_chain (Goal n item.text) known left item.term a.chain b.chain a.after b.after a.rest b.rest a.works b.works (sym a.split ∙ b.split) in absurd (x.0 (s.1 ∙ y.0))
  goals_left known listed n left (item ∷ items) lines verdict l k (a, inr x) (b, inr y) =
      let s = one_chain (Goal n item.text) known left item.term a.chain b.chain a.after b.after a.rest b.rest a.works b.works (sym a.split ∙ b.split) in
      concluded (listed ++ a.chain.end ∷ []) a.after a.rest (False n) l k x.2
      (subst (λ (z : Summands). IsConcluded (IsAcceptedChain table c) (IsAcceptedSample c) (listed ++ z ∷ []) a.after a.rest (False n) k) (sym s.1)
      (subst₂ (λ (m : ℕ) (ls : List Line). IsConcluded (IsAcceptedChain table c) (IsAcceptedSample c) (listed ++ b.chain.end ∷ []) m ls (False n) k) (sym s.0) (sym s.2) y.2))

  conditions_left : (goals : List Item) (known : List Var) (listed : List Summands) (n left : ℕ) (items : List Item) (lines : List Line) (verdict : Verdict) (l k : ℕ)
      → AreConditionsWorked (IsAcceptedChain table c) (IsAcceptedSample c) goals known listed n left items lines verdict l
      → AreConditionsWorked (IsAcceptedChain table c) (IsAcceptedSample c) goals known listed n left items lines verdict k → l ≡ k
  conditions_left goals known listed n left [] lines verdict l k a b = goals_left known listed 1 left goals lines verdict l k a b
  conditions_left goals known listed n left (item ∷ items) lines verdict l k (a, inl x) (b, inl y) =
      let s = one_chain (Condition n item.text) known left item.term a.chain b.chain a.after b.after a.rest b.rest a.works b.works (sym a.split ∙ b.split) in sym x.3 ∙ s.0 ∙ y.3
  conditions_left goals known listed n left (item ∷ items) lines verdict l k (a, inl x) (b, inr y) =
      let s = one_chain (Condition n item.text) known left item.term a.chain b.chain a.after b.after a.rest b.rest a.works b.works (sym a.split ∙ b.split) in absurd (y.0 (sym s.1 ∙ x.0))
  conditions_left goals known listed n left (item ∷ items) lines verdict l k (a, inr x) (b, inl y) =
      let s = one_chain (Condition n item.text) known left item.term a.chain b.chain a.after b.after a.rest b.rest a.works b.works (sym a.split ∙ b.split) in absurd (x.0 (s.1 ∙ y.0))
  conditions_left goals known listed n left (item ∷ items) lines verdict l k (a, inr x) (b, inr y) =
      let s = one_chain (Condition n item.text) known left item.term a.chain b.chain a.after b.after a.rest b.rest a.works b.works (sym a.split ∙ b.split) in
      conditions_left goals (known ++ known_by (item ∷ [])) (listed ++ a.chain.end ∷ []) (suc n) a.after items a.rest verdict l k x.1
      (subst (λ (z : Summands). AreConditionsWorked (IsAcceptedChain table c) (IsAcceptedSample c) goals (known ++ known_by (item ∷ []))
      (listed ++ z ∷ []) (suc n) a.after items a.rest verdict k) (sym s.1)
      (subst₂ (λ (m : ℕ) (ls : List Line). AreConditionsWorked (IsAcceptedChain table c) (IsAcceptedSample c) goals
      (known ++ known_by (item ∷ [])) (listed ++ b.chain.end ∷ []) (suc n) m items ls verdict k) (sym s.0) (sym s.2) y.1))

-- what follows the same lines is the same
same_rest : (xs : List (List ℕ)) (r s : List Line) → map ProgramLine xs ++ r ≡ map ProgramLine xs ++ s → r ≡ s
same_rest [] r s e = e
same_rest (x ∷ xs) r s e = let tails : map ProgramLine xs ++ r ≡ map ProgramLine xs ++ s = cc in same_rest xs r s tails

pub accepted_logs_leave_one_number : AcceptedLogsLeaveOneNumber
accepted_logs_leave_one_number table subject steps left other lines verdict ignores a b =
    let c = subject.construction in
    let both : Header subject.version ∷ (map ProgramLine subject.program ++ a.rest) ≡ Header subject.version ∷ (map ProgramLine subject.program ++ b.rest) = sym a.split ∙ b.split in
    let tails : map ProgramLine subject.program ++ a.rest ≡ map ProgramLine subject.program ++ b.rest = cc in
    let same = same_rest subject.program a.rest b.rest tails in
    conditions_left table c ignores subject.goals [] [] 1 steps subject.conditions a.rest verdict left other a.worked
    (subst (λ (ls : List Line). AreConditionsWorked (IsAcceptedChain table c) (IsAcceptedSample c) subject.goals [] [] 1 steps subject.conditions ls verdict other) (sym same) b.worked)
