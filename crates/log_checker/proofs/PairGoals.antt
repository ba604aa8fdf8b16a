-- The goals of a list are those of ratios, that pairs of points are parallel, and then the statement.
use Rattle.std.proofs.Common.{◌≡◌, ◌⊎◌, inl, inr, ⊎_elim, ℕ, suc, ◌+◌, ◌<◌, List, [], ◌∷◌, ◌++◌, length, refl, ap, subst, sym, arith}
use Rattle.std.specs.List.{AllByRecursion}
use Rattle.std.proofs.Math.Nat.{eq-or-lt_of_le}
use Rattle.std.proofs.lemmas.List.{length-append}
use Rattle.geo_points.specs.declared.ids.PointId.{PointId}
use Rattle.geo_program.specs.declared.statements.Statement.{Statement}
use Rattle.geo_program.specs.declared.statements.Statement.TheVariants.{Equal, Collinear, Parallel, Perpendicular, Identical, Midpoint, SameLength, Harmonic, Concyclic}
use Rattle.geo_program.specs.WellFormed.{Source}
use Rattle.geo_terms.specs.Stores.{Store, tree_of}
use Rattle.geo_terms.specs.Trees.{Tree, integer_leaf, parameter_leaf, area_leaf, pythagoras_leaf, ratio_leaf, negation, addition, subtraction, multiplication, division}
use Rattle.geo_lowering.proofs.ConditionValues.{each_append}
use Rattle.geo_conditions.specs.Lists.{AreGoals, IsListed}
use Rattle.geo_conditions.specs.Statements.{pair_goals, ratio_goals}
use Rattle.geo_conditions.proofs.Listings.{listed_hold}
use Rattle.log_checker.proofs.Places.{At, below, each_at, first, of_front}

module _ (P : Statement → Type 0) (parallel : (a b c d : PointId) → P (Parallel a b c d)) where
  ratios_hold : (e : Tree) → AllByRecursion P (ratio_goals e)
  ratios_hold (integer_leaf z) = tt
  ratios_hold (parameter_leaf t) = tt
  ratios_hold (area_leaf a b c) = tt
  ratios_hold (pythagoras_leaf a b c) = tt
  ratios_hold (ratio_leaf a b c d) = (parallel a b c d, tt)
  ratios_hold (negation e) = ratios_hold e
  ratios_hold (addition e f) = each_append P (ratio_goals e) (ratio_goals f) (ratios_hold e) (ratios_hold f)
  ratios_hold (subtraction e f) = each_append P (ratio_goals e) (ratio_goals f) (ratios_hold e) (ratios_hold f)
  ratios_hold (multiplication e f) = each_append P (ratio_goals e) (ratio_goals f) (ratios_hold e) (ratios_hold f)
  ratios_hold (division e f) = each_append P (ratio_goals e) (ratio_goals f) (ratios_hold e) (ratios_hold f)

  -- what holds wherever pairs are parallel holds of the goals of a statement's ratios
  pub pairs_hold : (nodes : Store) (s : Statement) → AllByRecursion P (pair_goals nodes s)
  pairs_hold nodes (Equal e f) = each_append P (ratio_goals (tree_of nodes e)) (ratio_goals (tree_of nodes f)) (ratios_hold (tree_of nodes e)) (ratios_hold (tree_of nodes f))
  pairs_hold nodes (Collinear a b c) = tt
  pairs_hold nodes (Parallel a b c d) = tt
  pairs_hold nodes (Perpendicular a b c d) = tt
  pairs_hold nodes (Identical a b) = tt
  pairs_hold nodes (Midpoint m a b) = tt
  pairs_hold nodes (SameLength a b c d) = tt
  pairs_hold nodes (Harmonic a b c d) = (parallel a c c b, (parallel a d b d, tt))
  pairs_hold nodes (Concyclic a b c d) = tt

module _ {A : Type 0} where
  -- what is listed of the first items, and the last behind it where it is not among them
  pub record IsLast (xs : List A) (x : A) (listed result : List A) : Type 0 where
    pub front : List A
    pub listing : IsListed (λ (a : A). a) listed xs front
    pub whole : (result ≡ front) ⊎ (result ≡ front ++ x ∷ [])

  pub lasting : (xs : List A) (x : A) (listed result : List A) → IsListed (λ (a : A). a) listed (xs ++ x ∷ []) result → IsLast xs x listed result
  lasting [] x listed result e = record { front = listed; listing = refl; whole = ⊎_elim (λ c. inl c.1) (λ c. inr c.1) e }
  lasting (y ∷ xs) x listed result e =
      ⊎_elim
      (λ c.
      let h = lasting xs x listed result c.1 in
      let here : IsListed (λ (a : A). a) listed (y ∷ xs) h.front = inl (c.0, h.listing) in
      let made : IsLast (y ∷ xs) x listed result = record { front = h.front; listing = here; whole = h.whole } in made)
      (λ c.
      let h = lasting xs x (listed ++ y ∷ []) result c.1 in
      let here : IsListed (λ (a : A). a) listed (y ∷ xs) h.front = inr (c.0, h.listing) in
      let made : IsLast (y ∷ xs) x listed result = record { front = h.front; listing = here; whole = h.whole } in made) e

  at_end : (xs : List A) (x y : A) → At (xs ++ x ∷ []) (length xs) y → x ≡ y
  at_end [] x y e = first x y [] e
  at_end (z ∷ xs) x y e = at_end xs x y e

module _ (p : Source) (P : Statement → Type 0) (parallel : (a b c d : PointId) → P (Parallel a b c d)) (goals : List Statement) (listed : AreGoals p goals) where
  last : IsLast (pair_goals p.nodes p.statement) p.statement [] goals
  last = lasting (pair_goals p.nodes p.statement) p.statement [] goals listed

  front_hold : AllByRecursion P last.front
  front_hold = listed_hold (λ (s : Statement). s) P (pair_goals p.nodes p.statement) [] last.front last.listing tt (pairs_hold P parallel p.nodes p.statement)

  front_length : (i : ℕ) → i < length goals → i < suc (length last.front)
  front_length i lt =
      ⊎_elim (λ (e : goals ≡ last.front). let n : length goals ≡ length last.front = ap length e in omega (arith, lt, n))
      (λ (e : goals ≡ last.front ++ p.statement ∷ []).
      let n : length goals ≡ length last.front + 1 = subst (λ gs. length gs ≡ length last.front + 1) (sym e) (length-append last.front (p.statement ∷ [])) in omega (arith, lt, n)) last.whole

  at_front : (i : ℕ) (g : Statement) → i < length last.front → At goals i g → At last.front i g
  at_front i g lt at =
      ⊎_elim (λ (e : goals ≡ last.front). subst (λ gs. At gs i g) e at)
      (λ (e : goals ≡ last.front ++ p.statement ∷ []). of_front last.front (p.statement ∷ []) i g lt (subst (λ gs. At gs i g) e at)) last.whole

  -- it holds of a goal behind which there is another
  pub followed_hold : (n i : ℕ) (h g : Statement) → n < i → At goals n h → At goals i g → P h
  followed_hold n i h g lt at_n at_i =
      let q : i < suc (length last.front) = front_length i (below goals i g at_i) in
      each_at P last.front n h front_hold (at_front n h (omega (arith, lt, q)) at_n)

  -- it holds of each goal but the statement
  pub holds_or_statement : (i : ℕ) (g : Statement) → At goals i g → P g ⊎ (g ≡ p.statement)
  holds_or_statement i g at =
      let q : i < suc (length last.front) = front_length i (below goals i g at) in
      ⊎_elim
      (λ (e : i ≡ length last.front).
      ⊎_elim (λ (f : goals ≡ last.front). let n : length goals ≡ length last.front = ap length f in let b : i < length goals = below goals i g at in absurd (omega (arith, b, n, e)))
      (λ (f : goals ≡ last.front ++ p.statement ∷ []).
      inr (sym (at_end last.front p.statement g (subst (λ j. At (last.front ++ p.statement ∷ []) j g) e (subst (λ gs. At gs i g) f at))))) last.whole)
      (λ (lt : i < length last.front). inl (each_at P last.front i g front_hold (at_front i g lt at)))
      (eq-or-lt_of_le (omega (arith, q)))
