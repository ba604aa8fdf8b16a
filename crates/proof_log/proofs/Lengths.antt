-- How many bytes the texts of polynomials and lines have at most.
use native.Mathlib.Nat.{suc-mul}
use Rattle.std.proofs.Common.{◌≡◌, ◌⊎◌, ℕ, zero, suc, ◌+◌, ◌*◌, ◌^◌, ◌<◌, ◌≤◌, ◌==◌, inl, inr, Bool, true, false, cond, codes, ℤ, pos, negsuc}
use Rattle.std.proofs.Common.{Option, Some, None, List, [], ◌∷◌, ◌++◌, get_or, map, length, take, refl, sym, ◌∙◌, ap, subst, unsigned_abs, arith, lit≤}
use Rattle.std.specs.Prelude.{IfSome, sum_by}
use Rattle.std.specs.Fmt.{decimal}
use Rattle.std.specs.List.{AllByRecursion, flat_map, join_with_byte}
use Rattle.std.proofs.lemmas.Fmt.{length-decimal-le_wide}
use Rattle.std.proofs.lemmas.List.{length-append}
use Rattle.std.proofs.lemmas.List.{take_more}
use Rattle.std.proofs.lemmas.List.Sums.{sum_by-append, sum_by-cons}
use Rattle.std.specs.declared.cmp.Ordering.TheVariants.{Less, Equal}
use Rattle.sparse_lists.specs.SparseLists.{AllKeys, IsBefore, IsCanonical}
use Rattle.geo_points.specs.declared.ids.PointId.{PointId}
use Rattle.geo_poly.specs.declared.variables.Var.{Var}
use Rattle.geo_poly.specs.declared.variables.Var.TheVariants.{R, S, P}
use Rattle.geo_poly.specs.Monomials.{IsMonomial, Powers, degree_of, exponents}
use Rattle.geo_poly.specs.Polynomials.{Summands, norm_of}
use Rattle.geo_poly.specs.declared.shared.Shared.{Shared}
use Rattle.geo_poly.specs.Shared.{AreParts, Indices, IsIndex, named, term_of, terms_of, told, var_at}
use Rattle.geo_poly.specs.Variables.{var_cmp}
use Rattle.geo_poly.proofs.Orders.{var_order}
use Rattle.proof_log.specs.declared.log.Line.{Line}
use Rattle.proof_log.specs.declared.log.Line.TheVariants as line
use Rattle.proof_log.specs.Inner.Names.{most_of_power}
use Rattle.proof_log.specs.Lines.{factor_text, line_text, log_text, numbers_text, place_text, polynomial_text, power_text, sign_text, term_text, variable_name}

-- NUMBERS
pub short_number : (k top n : ℕ) → 0 < k → top ≤ 10 ^ k → top ≤ 10 ^ 64 → n < top → length (decimal n) ≤ k
short_number k top n some fits small h = length-decimal-le_wide k n some (omega (arith, h, fits)) (omega (arith, h, small))

pub one_digit : (n : ℕ) → n < 10 → length (decimal n) ≤ 1
one_digit n h = short_number 1 10 n (omega arith) (lit≤ tt) (lit≤ tt) h

pub two_digits : (n : ℕ) → n < 100 → length (decimal n) ≤ 2
two_digits n h = short_number 2 100 n (omega arith) (lit≤ tt) (lit≤ tt) h

pub ten_digits : (n : ℕ) → n < 2 ^ 32 → length (decimal n) ≤ 10
ten_digits n h = short_number 10 (2 ^ 32) n (omega arith) (lit≤ tt) (lit≤ tt) h

wide_short : (n : ℕ) → n < 2 ^ 127 → length (decimal n) ≤ 39
wide_short n h = short_number 39 (2 ^ 127) n (omega arith) (lit≤ tt) (lit≤ tt) h

exponent_short : (b : Bool) (e : ℕ) → e ≤ 65535 → length (cond b [] (codes "^" ++ decimal e)) ≤ 6
exponent_short true e h = omega arith
exponent_short false e h =
    let d = short_number 5 65536 e (omega arith) (lit≤ tt) (lit≤ tt) (omega (arith, h)) in omega (arith, d)

sign_short : (z : ℤ) → length (sign_text z) ≤ 1
sign_short (pos n) = omega arith
sign_short (negsuc n) = omega arith

-- NAMES
pub ratio_name : (a b e d : PointId) (w x y z : ℕ) → length (decimal a.0) ≤ w → length (decimal b.0) ≤ x → length (decimal e.0) ≤ y
    → length (decimal d.0) ≤ z → length (variable_name (R a b e d)) ≤ 4 + w + x + y + z
ratio_name a b e d w x y z g h k l =
    let p = length-append (decimal a.0) (46 ∷ (decimal b.0 ++ (46 ∷ (decimal e.0 ++ (46 ∷ decimal d.0))))) in
    let q = length-append (decimal b.0) (46 ∷ (decimal e.0 ++ (46 ∷ decimal d.0))) in
    let r = length-append (decimal e.0) (46 ∷ decimal d.0) in omega (arith, g, h, k, l, p, q, r)

three_numbers : (a b e w x y : ℕ) → length (decimal a) ≤ w → length (decimal b) ≤ x → length (decimal e) ≤ y
    → length (numbers_text (a ∷ b ∷ e ∷ [])) ≤ 2 + w + x + y
three_numbers a b e w x y g h k =
    omega (arith, g, h, k, length-append (decimal a) (46 ∷ (decimal b ++ (46 ∷ decimal e))), length-append (decimal b) (46 ∷ decimal e))

pub area_name : (a b e : PointId) (w x y : ℕ) → length (decimal a.0) ≤ w → length (decimal b.0) ≤ x → length (decimal e.0) ≤ y
    → length (variable_name (S a b e)) ≤ 3 + w + x + y
area_name a b e w x y g h k = let n = three_numbers a.0 b.0 e.0 w x y g h k in omega (arith, n)

pub difference_name : (a b e : PointId) (w x y : ℕ) → length (decimal a.0) ≤ w → length (decimal b.0) ≤ x → length (decimal e.0) ≤ y
    → length (variable_name (P a b e)) ≤ 3 + w + x + y
difference_name a b e w x y g h k = let n = three_numbers a.0 b.0 e.0 w x y g h k in omega (arith, n)

pub place_short : (at : PointId) (n : ℕ) → length (decimal at.0) ≤ n → length (place_text (Some at)) ≤ 4 + n
place_short at n h = omega (arith, h)

-- POWERS
-- one more variable
pub most_next : (vars : List Var) (i : ℕ) (d : Var) (total name : ℕ) → i < length vars → sum_by most_of_power (take i vars) ≤ total
    → length (variable_name (get_or vars i d)) ≤ name → sum_by most_of_power (take (i + 1) vars) ≤ total + (7 + name)
most_next vars i d total name within before h =
    let v = get_or vars i d in
    let a = ap (λ (l : List Var). sum_by most_of_power l) (take_more vars i d within) in
    let b = sum_by-append most_of_power (take i vars) (v ∷ []) in
    let e = sum_by-cons most_of_power v [] in omega (arith, a, b, e, before, h)

-- the variable is one of the list
abbrev Has : Var → List Var → Type 0
Has v [] = ⊥
Has v (w ∷ ws) = (v ≡ w) ⊎ Has v ws

-- the others
without : (v : Var) (ws : List Var) → Has v ws → List Var
without v [] h = absurd h
without v (w ∷ ws) (inl e) = ws
without v (w ∷ ws) (inr h) = w ∷ without v ws h

-- the most bytes of a power of each
abbrev most : List Var → ℕ
most ws = sum_by most_of_power ws

split_most : (v : Var) (ws : List Var) (h : Has v ws) → most ws ≡ most_of_power v + most (without v ws h)
unfolding without
split_most v [] h = absurd h
split_most v (w ∷ ws) (inl e) = sum_by-cons most_of_power w ws ∙ ap (λ (u : Var). most_of_power u + most ws) (sym e)
split_most v (w ∷ ws) (inr h) =
    let a = sum_by-cons most_of_power w ws in
    let b = sum_by-cons most_of_power w (without v ws h) in
    let c = split_most v ws h in omega (arith, a, b, c)

still_there : (v u : Var) (ws : List Var) (h : Has v ws) → var_cmp v u ≡ Less → Has u ws → Has u (without v ws h)
unfolding without
still_there v u [] h l k = absurd h
still_there v u (w ∷ ws) (inl e) l (inl f) =
    let same : v ≡ u = e ∙ sym f in
    let s : var_cmp u u ≡ Less = subst (λ (x : Var). var_cmp x u ≡ Less) same l in
    let q : Less ≡ Equal = sym s ∙ var_order.self u in cc
still_there v u (w ∷ ws) (inl e) l (inr k) = k
still_there v u (w ∷ ws) (inr h) l (inl f) = inl f
still_there v u (w ∷ ws) (inr h) l (inr k) = inr (still_there v u ws h l k)

all_still_there : (v : Var) (ws : List Var) (h : Has v ws) (m : Powers) → IsBefore var_cmp v m → AllKeys (λ u. Has u ws) m
    → AllKeys (λ u. Has u (without v ws h)) m
all_still_there v ws h [] b k = tt
all_still_there v ws h (p ∷ m) b k = (still_there v p.0 ws h b.0 k.0, all_still_there v ws h m b.1 k.1)

power_short : (p : Var × ℕ) → p.1 ≤ 65535 → length (power_text p) ≤ most_of_power p.0
power_short p h =
    let d = exponent_short (p.1 == 1) p.1 h in
    omega (arith, d, length-append (variable_name p.0) (cond (p.1 == 1) [] (codes "^" ++ decimal p.1)))

-- each variable stands once in a monomial
powers_short : (m : Powers) (vars : List Var) → IsCanonical var_cmp exponents m → AllKeys (λ v. Has v vars) m → degree_of m ≤ 65535
    → length (flat_map power_text m) ≤ most vars
powers_short [] vars c k d = omega arith
powers_short (p ∷ m) vars c k d =
    let s = sum_by-cons (λ (x : Var × ℕ). x.1) p m in
    let one = power_short p (omega (arith, d, s)) in
    let rest = powers_short m (without p.0 vars k.0) c.2 (all_still_there p.0 vars k.0 m c.1 k.1) (omega (arith, d, s)) in
    omega (arith, one, rest, split_most p.0 vars k.0, length-append (power_text p) (flat_map power_text m))

-- TERMS
has_at : (vars : List Var) (k : ℕ) → k < length vars → Has (var_at vars k) vars
has_at [] k h = absurd (omega (arith, h))
has_at (v ∷ vs) zero h = inl refl
has_at (v ∷ vs) (suc k) h = inr (has_at vs k (omega (arith, h)))

named_there : (vars : List Var) (m : List (ℕ × ℕ)) → AllKeys (λ k. k < length vars) m → AllKeys (λ v. Has v vars) (named vars m)
named_there vars [] h = tt
named_there vars (p ∷ m) h = (has_at vars p.0 h.0, named_there vars m h.1)

-- the term has fewer bytes than this
abbrev IsShortTerm : ℕ → Powers × ℤ → Type 0
IsShortTerm each t = length (term_text t) < each

term_short : (each w : ℕ) (t : Powers × ℤ) → length (flat_map power_text t.0) ≤ w → unsigned_abs t.1 < 2 ^ 127 → w + 41 ≤ each
    → IsShortTerm each t
term_short each w t h fits enough =
    let d = wide_short (unsigned_abs t.1) fits in
    let s = sign_short t.1 in
    omega (arith, d, s, h, enough, length-append (sign_text t.1 ++ decimal (unsigned_abs t.1)) (flat_map power_text t.0), length-append (sign_text t.1) (decimal (unsigned_abs t.1)))

module _ (p : Shared) (each : ℕ) (enough : most p.vars.now + 41 ≤ each) where
  terms_short : (list : Indices) → AllKeys (IsIndex p.vars.now p.monos.now) list → AllKeys IsMonomial (terms_of p.vars.now p.monos.now list)
      → norm_of (terms_of p.vars.now p.monos.now list) < 2 ^ 127
      → AllByRecursion (IsShortTerm each) (terms_of p.vars.now p.monos.now list)
  terms_short [] k m n = tt
  terms_short (t ∷ ts) k m n =
      let vars = p.vars.now in
      let term : Powers × ℤ = term_of vars p.monos.now t in
      let s = sum_by-cons (λ (u : Powers × ℤ). unsigned_abs u.1) term (terms_of vars p.monos.now ts) in
      let short = powers_short term.0 vars m.0.in_order (named_there vars _ k.0.places) m.0.degree_fits in (
        term_short each (most vars) term short (omega (arith, n, s)) enough,
        terms_short ts k.1 m.1 (omega (arith, n, s)),
      )

-- POLYNOMIALS
joined_short : (each : ℕ) (t : Powers × ℤ) (ts : Summands) → AllByRecursion (IsShortTerm each) (t ∷ ts)
    → length (join_with_byte 32 (map term_text (t ∷ ts))) ≤ length (t ∷ ts) * each
joined_short each t [] h = let a = h.0 in omega (arith, a)
joined_short each t (u ∷ us) h =
    let a = h.0 in
    let next = suc-mul (suc (length us)) each in
    omega (arith, a, next, joined_short each u us h.1, length-append (term_text t) (32 ∷ join_with_byte 32 (map term_text (u ∷ us))))

all_short : (each : ℕ) (q : Summands) → AllByRecursion (IsShortTerm each) q → length (polynomial_text q) ≤ length q * each + 1
all_short each [] h = omega arith
all_short each (t ∷ ts) h = let a = joined_short each t ts h in omega (arith, a)

-- each term has its number, and each variable at most once
pub polynomial_short : (p : Shared) (q : Summands) (bound each terms sum n head : ℕ) → told p ≡ q → AreParts p → most p.vars.now ≤ bound
    → each ≡ bound + 41 → terms ≡ length q * each → sum ≡ terms + head → n ≡ sum + 1 → head + length (polynomial_text q) ≤ n
polynomial_short p q bound each terms sum n head is h small made times added last =
    let enough : most p.vars.now + 41 ≤ each = omega (arith, small, made) in
    let parts = terms_short p each enough p.list.now h.indices h.polynomial.monomials h.polynomial.norm_fits in
    let all = all_short each q (subst (λ (x : Summands). AllByRecursion (IsShortTerm each) x) is parts) in
    omega (arith, all, times, added, last)

-- LINES
one_line : (l : Line) → length (log_text (l ∷ [])) ≡ length (line_text l) + 1
one_line l =
    let a = length-append (line_text l ++ 10 ∷ []) [] in let b = length-append (line_text l) (10 ∷ []) in omega (arith, a, b)

-- a bound of more is one of less
bounds_less : (o : Option ℕ) (a b : ℕ) → b ≤ a → IfSome o (λ n. a ≤ n) → IfSome o (λ n. b ≤ n)
bounds_less None a b h g = tt
bounds_less (Some n) a b h g = omega (arith, h, g)

pub start_bound : (q : Summands) (o : Option ℕ) → IfSome o (λ n. 9 + length (polynomial_text q) ≤ n)
    → IfSome o (λ n. length (log_text (line.Start q ∷ [])) ≤ n)
start_bound q o h = bounds_less o _ _ (let a = one_line (line.Start q) in omega (arith, a)) h

pub coords_bound : (q : Summands) (o : Option ℕ) → IfSome o (λ n. 10 + length (polynomial_text q) ≤ n)
    → IfSome o (λ n. length (log_text (line.Coords q ∷ [])) ≤ n)
coords_bound q o h = bounds_less o _ _ (let a = one_line (line.Coords q) in omega (arith, a)) h

pub point_bound : (at : PointId) (q : Summands) (d : ℕ) (o : Option ℕ) → length (decimal at.0) ≤ d
    → IfSome o (λ n. 10 + d + length (polynomial_text q) ≤ n) → IfSome o (λ n. length (log_text (line.Point at q ∷ [])) ≤ n)
point_bound at q d o g h =
    bounds_less o _ _
    (let a = one_line (line.Point at q) in
    omega (arith, a, g, length-append (decimal at.0 ++ codes " : ") (polynomial_text q), length-append (decimal at.0) (codes " : "))) h

pub cut_bound : (f : Powers × ℤ) (q : Summands) (d : ℕ) (o : Option ℕ) → d ≡ length (factor_text f)
    → IfSome o (λ n. 8 + d + length (polynomial_text q) ≤ n) → IfSome o (λ n. length (log_text (line.Cut f q ∷ [])) ≤ n)
cut_bound f q d o g h =
    bounds_less o _ _
    (let a = one_line (line.Cut f q) in
    omega (arith, a, g, length-append (factor_text f ++ codes " : ") (polynomial_text q), length-append (factor_text f) (codes " : "))) h

pub ratio_bound : (v : Var) (lemma : ℕ) (at : Option PointId) (q : Summands) (w x y : ℕ) (o : Option ℕ) → length (variable_name v) ≤ w
    → length (decimal lemma) ≤ x → length (place_text at) ≤ y → IfSome o (λ n. 14 + (w + x + y) + length (polynomial_text q) ≤ n)
    → IfSome o (λ n. length (log_text (line.Ratio v lemma at q ∷ [])) ≤ n)
ratio_bound v lemma at q w x y o g k l h =
    let name : List ℕ = variable_name v in
    let number : List ℕ = decimal lemma in
    let place : List ℕ = place_text at in
    let p = length-append (name ++ codes " by " ++ number ++ place ++ codes " : ") (polynomial_text q) in
    let r = length-append (name ++ codes " by " ++ number ++ place) (codes " : ") in
    let s = length-append (name ++ codes " by " ++ number) place in
    let t = length-append (name ++ codes " by ") number in
    let u = length-append name (codes " by ") in
    let a = one_line (line.Ratio v lemma at q) in bounds_less o _ _ (omega (arith, a, g, k, l, p, r, s, t, u)) h
