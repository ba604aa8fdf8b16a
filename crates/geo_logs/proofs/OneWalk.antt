-- Where rules leave no choice, the walk has one next line and one next place.
use Rattle.std.proofs.Common.{◌≡◌, ℕ, ◌-◌, inl, inr, ℤ, List, [], ◌∷◌, refl, sym, ap, ap₂, ◌∙◌, subst}
use Rattle.geo_poly.specs.declared.variables.Var.{Var}
use Rattle.geo_poly.specs.Polynomials.{Summands}
use Rattle.proof_log.specs.declared.log.Line.{Line}
use Rattle.proof_log.specs.declared.log.Line.TheVariants.{Start, Sample}
use Rattle.geo_logs.specs.Chains.{ChainStep, IsEnd, cuts, line_of, moves}
use Rattle.geo_logs.specs.Logs.{Item, Subject}
use Rattle.geo_logs.specs.Starts.{start_charge, start_of}
use Rattle.geo_logs.specs.declared.walk.Walk.{Walk}
use Rattle.geo_logs.specs.declared.walk.DueLine.{DueLine}
use Rattle.geo_logs.specs.declared.walk.DueLine.TheVariants as due
use Rattle.geo_logs.specs.Behind.{behind}
use Rattle.geo_logs.specs.Walks.{AllowsWhere, Goes, IsWalked, Rules, Walks, first_walk, header_of, item_of, proving, result_of}
use Rattle.geo_logs.specs.WalkLaws.{ProversWalkIsUnique}
use Rattle.proof_log.specs.declared.log.Verdict.{Verdict}
use Rattle.proof_log.specs.declared.log.Verdict.TheVariants.{Proved}
use Rattle.geo_terms.specs.Constructions.{Construction}
use Rattle.geo_poly.specs.Monomials.{Powers}
use Rattle.geo_poly.specs.Cuts.{IsCut}
use Rattle.geo_logs.specs.declared.moves.Move.{Move}
use Rattle.geo_logs.specs.Defined.{LeadsBySteps, NoCutDue}
use Rattle.geo_logs.specs.Moves.{IsMoved, Table, move_charge, replacement}
use Rattle.geo_logs.proofs.OneStep.{no_cut, no_move, one_cut, one_factor, one_move, one_result}
use Rattle.geo_logs.proofs.OneChain.{one_sample}
use Rattle.geo_logs.proofs.WalkPlaces.{one_item}

-- the rules leave no choice
pub record LeaveNoChoice (rules : Rules) : Type 0 where
  pub step : (known : List Var) (left : ℕ) (q : Summands) (s t : ChainStep) (l m : ℕ) → rules.steps known left q s l → rules.steps known left q t m → (s ≡ t) × (l ≡ m)
  pub over : (known : List Var) (left : ℕ) (q : Summands) (s : ChainStep) (l : ℕ) → rules.steps known left q s l → rules.ends known q → ⊥
  pub sample : (listed : List Summands) (left : ℕ) (v w : List (Var × ℤ)) (l m : ℕ) → rules.samples listed left v l → rules.samples listed left w m → (v ≡ w) × (l ≡ m)

module _ (rules : Rules) (subject : Subject) (sure : LeaveNoChoice rules) where
  one_line : (w : Walk) (d : DueLine) (line other : Line) (l m : ℕ) → AllowsWhere rules subject w d line l → AllowsWhere rules subject w d other m → (line ≡ other) × (l ≡ m)
  one_line w (due.Header t) line other l m (a, ia, sa, la) (b, ib, sb, lb) =
      (sa ∙ ap (λ (x : Item). header_of t x) (one_item a b (item_of subject t) ia ib) ∙ sym sb, la ∙ sym lb)
  one_line w (due.Start t) line other l m (a, ia, na, sa, la) (b, ib, nb, sb, lb) =
      let same : a ≡ b = one_item a b (item_of subject t) ia ib in
      (sa ∙ ap (λ (x : Item). Start (start_of x.term)) same ∙ sym sb, la ∙ ap (λ (x : Item). w.budget.left - start_charge x.term) same ∙ sym lb)
  one_line w (due.Step t own q) line other l m (inl (s, g, sa)) (inl (r, h, sb)) =
      let same = sure.step w.known w.budget.left q s r l m g h in (sa ∙ ap line_of same.0 ∙ sym sb, same.1)
  one_line w (due.Step t own q) line other l m (inl (s, g, sa)) (inr (e, sb, lb)) = absurd (sure.over w.known w.budget.left q s l g e)
  one_line w (due.Step t own q) line other l m (inr (e, sa, la)) (inl (r, h, sb)) = absurd (sure.over w.known w.budget.left q r m h e)
  one_line w (due.Step t own q) line other l m (inr (e, sa, la)) (inr (f, sb, lb)) = (sa ∙ sym sb, la ∙ sym lb)
  one_line w (due.Sample v) line other l m (x, g, sa) (y, h, sb) =
      let same = sure.sample w.ends w.budget.left x y l m g h in (sa ∙ ap Sample same.0 ∙ sym sb, same.1)
  one_line w (due.Verdict v) line other l m (sa, la) (sb, lb) = (sa ∙ sym sb, la ∙ sym lb)
  one_line w (due.Nothing v) line other l m a b = absurd a

  pub one_next : (w v u : Walk) (line other : Line) → Goes rules subject w line v → Goes rules subject w other u → (line ≡ other) × (v ≡ u)
  one_next w v u line other g h =
      let same = one_line w w.due line other g.left h.left g.allows h.allows in
      (same.0, g.stands ∙ ap₂ (λ (n : ℕ) (x : Line). behind (record w { budget = record { left = n } }) x) same.1 same.0 ∙ sym h.stands)

  -- two walks to their ends are one
  pub one_walk : (w v u : Walk) (xs ys : List Line) → Walks rules subject w xs v → Walks rules subject w ys u
      → ((line : Line) (x : Walk) → Goes rules subject v line x → ⊥) → ((line : Line) (x : Walk) → Goes rules subject u line x → ⊥) → (xs ≡ ys) × (v ≡ u)
  one_walk w v u [] [] a b nv nu = (refl, sym a ∙ b)
  one_walk w v u [] (y ∷ ys) a (n, g, b) nv nu = absurd (nv y n (subst (λ (x : Walk). Goes rules subject x y n) a g))
  one_walk w v u (x ∷ xs) [] (n, g, a) b nv nu = absurd (nu x n (subst (λ (z : Walk). Goes rules subject z x n) b g))
  one_walk w v u (x ∷ xs) (y ∷ ys) (n, g, a) (k, h, b) nv nu =
      let same = one_next w n k x y g h in
      let rest = one_walk n v u xs ys a (subst (λ (z : Walk). Walks rules subject z ys u) (sym same.1) b) nv nu in
      (ap₂ (λ (l : Line) (ls : List Line). l ∷ ls) same.0 rest.0, rest.1)

-- those of the prover do not
pub proving_is_sure : (table : Table) (c : Construction) → LeaveNoChoice (proving table c)
proving_is_sure table c = record {
  step = step;
  over = over;
  sample = one_sample c;
}
  where
    step : (known : List Var) (left : ℕ) (q : Summands) (s t : ChainStep) (l m : ℕ) → LeadsBySteps table c known left q (s ∷ []) l (result_of s)
        → LeadsBySteps table c known left q (t ∷ []) m (result_of t) → (s ≡ t) × (l ≡ m)
    step known left q (moves a r) (moves b s) l m (na, ia, ga, (la, ra)) (nb, ib, gb, (lb, rb)) =
        let move : b ≡ a = one_move table c q b a ib ia in
        let result : s ≡ r = one_result table c left q s r a (subst (λ (x : Move). IsMoved (replacement table c x q) left q s) move gb) ga in
        (ap₂ moves (sym move) (sym result), sym la ∙ ap (λ (x : Move). left - move_charge (replacement table c x q) q) (sym move) ∙ lb)
    step known left q (moves a r) (cuts f s) l m (na, ia, ga, sa) (db, gb, sb) = absurd (no_cut known q f na db)
    step known left q (cuts f r) (moves b s) l m (da, ga, sa) (nb, ib, gb, sb) = absurd (no_cut known q f nb da)
    step known left q (cuts f r) (cuts k s) l m (da, ga, (la, ra)) (db, gb, (lb, rb)) =
        let factor : k ≡ f = one_factor known q k f db da in
        let result : s ≡ r = one_cut known f q s r (subst (λ (x : Powers × ℤ). IsCut known x q s) factor gb) ga in
        (ap₂ cuts (sym factor) (sym result), sym la ∙ lb)

    over : (known : List Var) (left : ℕ) (q : Summands) (s : ChainStep) (l : ℕ) → LeadsBySteps table c known left q (s ∷ []) l (result_of s) → NoCutDue known q × IsEnd q → ⊥
    over known left q (moves a r) l (na, ia, ga, sa) e = no_move table c q a e.1 ia
    over known left q (cuts f r) l (da, ga, sa) e = no_cut known q f e.0 da

abbrev verdict_in : DueLine → Verdict
verdict_in (due.Nothing v) = v
verdict_in _ = Proved

one_log : (table : Table) (subject : Subject) (steps l m : ℕ) (xs ys : List Line) (v w : Verdict)
    → IsWalked (proving table subject.construction) subject steps xs v l → IsWalked (proving table subject.construction) subject steps ys w m
    → (xs ≡ ys) × (v ≡ w) × (l ≡ m)
one_log table subject steps l m xs ys v w g h =
    let rules : Rules = proving table subject.construction in
    let same = one_walk rules subject (proving_is_sure table subject.construction) (first_walk subject steps) g.last h.last xs ys g.walks h.walks
    (λ line x go. subst (λ (d : DueLine). AllowsWhere rules subject g.last d line go.left) g.over go.allows)
    (λ line x go. subst (λ (d : DueLine). AllowsWhere rules subject h.last d line go.left) h.over go.allows) in
    (same.0, ap verdict_in (sym g.over ∙ ap (λ (x : Walk). x.due) same.1 ∙ h.over), sym g.leaves ∙ ap (λ (x : Walk). x.budget.left) same.1 ∙ h.leaves)

pub provers_walk_is_unique : ProversWalkIsUnique
provers_walk_is_unique = record {
  next = λ table subject. one_next (proving table subject.construction) subject (proving_is_sure table subject.construction);
  whole = one_log;
}
