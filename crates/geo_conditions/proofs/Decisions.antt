-- Conditions and goals are equal or not, so each list is there.
use Rattle.std.proofs.Common.{◌≡◌, ℕ, zero, suc, ◌<◌, Bool, true, false, ◌⊎◌, inl, inr, ⊎_elim, ℤ, pos, negsuc, Contains, List, [], ◌∷◌}
use Rattle.std.proofs.Common.{◌++◌, length, get_or, map, refl, sym, ap, subst, ◌∙◌, true≢false, rules, arith}
use Rattle.std.proofs.lemmas.Bool.Decides.{eqb_tells}
use Rattle.std.proofs.lemmas.List.Elements.{Contains-append_right, Contains-get_or}
use Rattle.geo_points.specs.declared.ids.PointId.{PointId}
use Rattle.geo_points.specs.declared.ids.ParamId.{ParamId}
use Rattle.geo_terms.specs.Trees.{Tree, integer_leaf, parameter_leaf, area_leaf, pythagoras_leaf, ratio_leaf, negation, addition, subtraction, multiplication, division}
use Rattle.geo_program.specs.contracts.statements.StatementPartialEq.TheImpl.{eq-value}
use Rattle.geo_program.specs.declared.commands.LineId.{LineId}
use Rattle.geo_program.specs.declared.statements.Statement.{Statement}
use Rattle.geo_lowering.specs.Conditions.{Condition, different, not_collinear, not_parallel, crossing, nonzero}
use Rattle.geo_conditions.specs.Laws.{ListsExist}
use Rattle.geo_conditions.specs.Lists.{IsListed, all_found}
use Rattle.geo_conditions.specs.Statements.{statement_goals}

-- DECISIONS
-- it holds or it does not
abbrev Decided : Type 0 → Type 0
Decided A = A ⊎ (A → ⊥)

and_also : {A B : Type 0} → Decided A → Decided B → Decided (A × B)
and_also (inl a) (inl b) = inl (a, b)
and_also (inl a) (inr n) = inr (λ h. n h.1)
and_also (inr n) d = inr (λ h. n h.0)

decided_by : {A B : Type 0} → (A → B) → (B → A) → Decided A → Decided B
decided_by f g (inl a) = inl (f a)
decided_by f g (inr n) = inr (λ b. n (g b))

same_number : (a b : ℕ) → Decided (a ≡ b)
same_number a b = ⊎_elim (λ h. inl h.1) (λ h. inr h.1) (eqb_tells a b)

same_whole : (a b : ℤ) → Decided (a ≡ b)
same_whole (pos m) (pos n) = decided_by (ap pos) (λ e. let k : m ≡ n = cc in k) (same_number m n)
same_whole (negsuc m) (negsuc n) = decided_by (ap negsuc) (λ e. let k : m ≡ n = cc in k) (same_number m n)
same_whole (pos m) (negsuc n) = inr (λ e. absurd cc)
same_whole (negsuc m) (pos n) = inr (λ e. absurd cc)

same_point : (a b : PointId) → Decided (a ≡ b)
same_point a b = decided_by (λ e i. record { 0 = e i }) (λ e i. (e i).0) (same_number a.0 b.0)

same_param : (a b : ParamId) → Decided (a ≡ b)
same_param a b = decided_by (λ e i. record { 0 = e i }) (λ e i. (e i).0) (same_number a.0 b.0)

same_line : (a b : LineId) → Decided (a ≡ b)
same_line a b = decided_by (λ e i. record { 0 = e i }) (λ e i. (e i).0) (same_number a.0 b.0)

-- a number that tells the kind of a tree
abbrev tree_kind : Tree → ℕ
tree_kind (integer_leaf n) = 0
tree_kind (parameter_leaf t) = 1
tree_kind (area_leaf a b c) = 2
tree_kind (pythagoras_leaf a b c) = 3
tree_kind (ratio_leaf a b c d) = 4
tree_kind (negation e) = 5
tree_kind (addition e f) = 6
tree_kind (subtraction e f) = 7
tree_kind (multiplication e f) = 8
tree_kind (division e f) = 9

same_tree : (s t : Tree) → Decided (s ≡ t)
same_tree (integer_leaf m) (integer_leaf n) = decided_by (ap integer_leaf) (λ e. let k : m ≡ n = cc in k) (same_whole m n)
same_tree (parameter_leaf m) (parameter_leaf n) = decided_by (ap parameter_leaf) (λ e. let k : m ≡ n = cc in k) (same_param m n)
same_tree (area_leaf a b c) (area_leaf p q r) =
    decided_by (λ h i. area_leaf (h.0 i) (h.1.0 i) (h.1.1 i)) (λ e. let x : a ≡ p = cc in let y : b ≡ q = cc in let z : c ≡ r = cc in (x, (y, z)))
    (and_also (same_point a p) (and_also (same_point b q) (same_point c r)))
same_tree (pythagoras_leaf a b c) (pythagoras_leaf p q r) =
    decided_by (λ h i. pythagoras_leaf (h.0 i) (h.1.0 i) (h.1.1 i)) (λ e. let x : a ≡ p = cc in let y : b ≡ q = cc in let z : c ≡ r = cc in (x, (y, z)))
    (and_also (same_point a p) (and_also (same_point b q) (same_point c r)))
same_tree (ratio_leaf a b c d) (ratio_leaf p q r s) =
    decided_by (λ h i. ratio_leaf (h.0 i) (h.1.0 i) (h.1.1.0 i) (h.1.1.1 i))
    (λ e. let x : a ≡ p = cc in let y : b ≡ q = cc in let z : c ≡ r = cc in let w : d ≡ s = cc in (x, (y, (z, w))))
    (and_also (same_point a p) (and_also (same_point b q) (and_also (same_point c r) (same_point d s))))
same_tree (negation e) (negation f) = decided_by (ap negation) (λ h. let k : e ≡ f = cc in k) (same_tree e f)
same_tree (addition e f) (addition g h) = decided_by (λ k i. addition (k.0 i) (k.1 i)) (λ k. let x : e ≡ g = cc in let y : f ≡ h = cc in (x, y)) (and_also (same_tree e g) (same_tree f h))
same_tree (subtraction e f) (subtraction g h) = decided_by (λ k i. subtraction (k.0 i) (k.1 i)) (λ k. let x : e ≡ g = cc in let y : f ≡ h = cc in (x, y)) (and_also (same_tree e g) (same_tree f h))
same_tree (multiplication e f) (multiplication g h) =
    decided_by (λ k i. multiplication (k.0 i) (k.1 i)) (λ k. let x : e ≡ g = cc in let y : f ≡ h = cc in (x, y))
    (and_also (same_tree e g) (same_tree f h))
same_tree (division e f) (division g h) = decided_by (λ k i. division (k.0 i) (k.1 i)) (λ k. let x : e ≡ g = cc in let y : f ≡ h = cc in (x, y)) (and_also (same_tree e g) (same_tree f h))
same_tree s t = inr (λ e. let kinds : tree_kind s ≡ tree_kind t = ap tree_kind e in absurd (omega arith))

-- a number that tells the kind of a condition
abbrev condition_kind : Condition → ℕ
condition_kind (different a b) = 0
condition_kind (not_collinear a b c) = 1
condition_kind (not_parallel a b c d) = 2
condition_kind (crossing a b) = 3
condition_kind (nonzero e) = 4

same_condition : (c d : Condition) → Decided (c ≡ d)
same_condition (different a b) (different p q) = decided_by (λ h i. different (h.0 i) (h.1 i)) (λ e. let x : a ≡ p = cc in let y : b ≡ q = cc in (x, y)) (and_also (same_point a p) (same_point b q))
same_condition (not_collinear a b c) (not_collinear p q r) =
    decided_by (λ h i. not_collinear (h.0 i) (h.1.0 i) (h.1.1 i)) (λ e. let x : a ≡ p = cc in let y : b ≡ q = cc in let z : c ≡ r = cc in (x, (y, z)))
    (and_also (same_point a p) (and_also (same_point b q) (same_point c r)))
same_condition (not_parallel a b c d) (not_parallel p q r s) =
    decided_by (λ h i. not_parallel (h.0 i) (h.1.0 i) (h.1.1.0 i) (h.1.1.1 i))
    (λ e. let x : a ≡ p = cc in let y : b ≡ q = cc in let z : c ≡ r = cc in let w : d ≡ s = cc in (x, (y, (z, w))))
    (and_also (same_point a p) (and_also (same_point b q) (and_also (same_point c r) (same_point d s))))
same_condition (crossing a b) (crossing p q) = decided_by (λ h i. crossing (h.0 i) (h.1 i)) (λ e. let x : a ≡ p = cc in let y : b ≡ q = cc in (x, y)) (and_also (same_line a p) (same_line b q))
same_condition (nonzero e) (nonzero f) = decided_by (ap nonzero) (λ h. let k : e ≡ f = cc in k) (same_tree e f)
same_condition c d = inr (λ e. let kinds : condition_kind c ≡ condition_kind d = ap condition_kind e in absurd (omega arith))

-- by the derived `==`
same_goal : (g h : Statement) → Decided (g ≡ h)
same_goal g h = by ((eq-value).it g h) refl
  where
    same : (x y : Statement) → (eq-value).it x y ≡ true → x ≡ y
    same x y e = search rules

    self : (x : Statement) → (eq-value).it x x ≡ true
    self x = search rules

    by : (b : Bool) → (eq-value).it g h ≡ b → Decided (g ≡ h)
    by true e = inl (same g h e)
    by false e = inr (λ is. true≢false (sym (self g) ∙ ap ((eq-value).it g) is ∙ e))

-- LISTS
module _ {A B : Type 0} (key : A → B) (decide : (x y : B) → Decided (x ≡ y)) where
  -- what is contained in a longer list stands first or in the rest
  among : (ys : List B) (b : B) → Decided (Contains ys b)
  among [] b = inr (λ c. let h : c.0 < length {A = B} [] = c.1 in absurd (omega arith))
  among (y ∷ ys) b = by (decide y b) (among ys b)
    where
      by : Decided (y ≡ b) → Decided (Contains ys b) → Decided (Contains (y ∷ ys) b)
      by (inl e) d = inl (subst (Contains (y ∷ ys)) e (Contains-get_or (y ∷ ys) 0 y (omega arith)))
      by (inr n) (inl c) = inl (Contains-append_right (y ∷ []) ys b c)
      by (inr n) (inr m) = inr (λ c. at c.0 c.1 c.2)
        where
          at : (k : ℕ) → k < length (y ∷ ys) → get_or (y ∷ ys) k b ≡ b → ⊥
          at zero h e = n e
          at (suc k) h e = m (k, omega arith, e)

  listing : (xs listed : List A) → (result : List A) × IsListed key listed xs result
  listing [] listed = (listed, refl)
  listing (x ∷ xs) listed = by (among (map key listed) (key x)) (listing xs listed) (listing xs (listed ++ x ∷ []))
    where
      by : Decided (Contains (map key listed) (key x)) → ((result : List A) × IsListed key listed xs result) → ((result : List A) × IsListed key (listed ++ x ∷ []) xs result)
          → (result : List A) × IsListed key listed (x ∷ xs) result
      by (inl c) r s = (r.0, inl (c, r.1))
      by (inr n) r s = (s.0, inr (n, s.1))

pub lists_exist : ListsExist
lists_exist = record {
  conditions = λ p. listing (λ f. f.condition) same_condition (all_found p) [];
  goals = λ p. listing (λ g. g) same_goal (statement_goals p.nodes p.statement) [];
}
