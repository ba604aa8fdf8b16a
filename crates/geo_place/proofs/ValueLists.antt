-- The values of a program, one after another.
use Rattle.std.proofs.Common.{◌≡◌, ℕ, zero, suc, ◌+◌, ◌-◌, ◌*◌, ◌<◌, ◌≤◌, Bool, true, false, ℤ, pos, List, [], ◌∷◌, ◌++◌, length, refl, sym, ◌∙◌, ap, arith}
use Rattle.std.specs.Prelude.{slice_index_or, drop, if◌then◌else◌}
use Rattle.std.specs.List.{filter, flat_map}
use Rattle.std.proofs.lemmas.List.{length-drop}
use Rattle.geo_program.specs.declared.commands.Command.{Command}
use Rattle.geo_program.specs.declared.names.NameKind.TheVariants as kind
use Rattle.geo_lowering.specs.Counting.{counted, has_number, named, next_number, numbers_from, numbers_had}
use Rattle.geo_conditions.specs.Truth.{ProgramValues, free_points, integers_of, is_free}
use Rattle.geo_program.specs.WellFormed.{Source}
use Rattle.geo_place.specs.Placing.{values_wanted}

-- COUNTS
pub frees_counted : (x : ℕ) (cs : List Command) → length (free_points x cs) ≡ length (filter is_free cs)
frees_counted x [] = refl
frees_counted x (c ∷ cs) = go (is_free c) (frees_counted (counted kind.Point (named c) x) cs)
  where
    go : (b : Bool) → length (free_points (counted kind.Point (named c) x) cs) ≡ length (filter is_free cs)
        → length {A = ℕ} (elim b [ true ↦ x ∷ free_points (counted kind.Point (named c) x) cs | false ↦ free_points (counted kind.Point (named c) x) cs ])
        ≡ length {A = Command} (if b then c ∷ filter is_free cs else filter is_free cs)
    go true e = ap suc e
    go false e = e

pub numbers_counted : (m : ℕ) (cs : List Command) → numbers_from m cs ≡ m + length (filter has_number cs)
numbers_counted m [] = omega arith
numbers_counted m (c ∷ cs) = numbers_counted (next_number m c) cs ∙ go (has_number c)
  where
    go : (b : Bool) → elim b [ true ↦ suc m | false ↦ m ] + length (filter has_number cs) ≡ m + length {A = Command} (if b then c ∷ filter has_number cs else filter has_number cs)
    go true = omega arith
    go false = refl

pub filter_few : {A : Type 0} (test : A → Bool) (xs : List A) → length (filter test xs) ≤ length xs
filter_few test [] = omega arith
filter_few {A} test (x ∷ xs) = go (test x) (filter_few test xs)
  where
    go : (b : Bool) → length (filter test xs) ≤ length xs → length {A = A} (if b then x ∷ filter test xs else filter test xs) ≤ suc (length xs)
    go true h = omega arith
    go false h = omega arith

-- PLACES
abbrev pub pairs : List (ℤ × ℤ) → List ℤ
pairs xys = flat_map (λ xy. xy.0 ∷ xy.1 ∷ []) xys

pub pairs_length : (xys : List (ℤ × ℤ)) → length (pairs xys) ≡ 2 * length xys
pairs_length [] = refl
pairs_length (xy ∷ xys) = let h = pairs_length xys in omega arith

pub abscissa_at : (xys : List (ℤ × ℤ)) (more : List ℤ) (k : ℕ) → k < length xys → slice_index_or (pairs xys ++ more) (2 * k) (pos 0) ≡ (slice_index_or xys k (pos 0, pos 0)).0
abscissa_at [] more k l = absurd (omega arith)
abscissa_at (xy ∷ xys) more zero l = refl
abscissa_at (xy ∷ xys) more (suc k) l =
    let q : 2 * suc k ≡ suc (suc (2 * k)) = omega arith in
    ap (λ (i : ℕ). slice_index_or (pairs (xy ∷ xys) ++ more) i (pos 0)) q ∙ abscissa_at xys more k (omega arith)

pub ordinate_at : (xys : List (ℤ × ℤ)) (more : List ℤ) (k : ℕ) → k < length xys → slice_index_or (pairs xys ++ more) (2 * k + 1) (pos 0) ≡ (slice_index_or xys k (pos 0, pos 0)).1
ordinate_at [] more k l = absurd (omega arith)
ordinate_at (xy ∷ xys) more zero l = refl
ordinate_at (xy ∷ xys) more (suc k) l =
    let q : 2 * suc k + 1 ≡ suc (suc (2 * k + 1)) = omega arith in
    ap (λ (i : ℕ). slice_index_or (pairs (xy ∷ xys) ++ more) i (pos 0)) q ∙ ordinate_at xys more k (omega arith)

pub numbers_behind : (xys : List (ℤ × ℤ)) (more : List ℤ) → drop (2 * length xys) (pairs xys ++ more) ≡ more
numbers_behind [] more = refl
numbers_behind (xy ∷ xys) more =
    let q : 2 * suc (length xys) ≡ suc (suc (2 * length xys)) = omega arith in
    ap (λ (i : ℕ). drop i (pairs (xy ∷ xys) ++ more)) q ∙ numbers_behind xys more

-- TAKEN APART
-- the first pairs of whole numbers
abbrev pub pairs_of : ℕ → List ℤ → List (ℤ × ℤ)
pairs_of zero zs = []
pairs_of (suc n) [] = []
pairs_of (suc n) (a ∷ []) = []
pairs_of (suc n) (a ∷ b ∷ zs) = (a, b) ∷ pairs_of n zs

pub pairs_joined : (n : ℕ) (zs : List ℤ) → 2 * n ≤ length zs → (pairs (pairs_of n zs) ++ drop (2 * n) zs ≡ zs) × (length (pairs_of n zs) ≡ n)
pairs_joined zero zs l = (refl, refl)
pairs_joined (suc n) [] l = absurd (omega arith)
pairs_joined (suc n) (a ∷ []) l = absurd (omega arith)
pairs_joined (suc n) (a ∷ b ∷ zs) l =
    let q : 2 * suc n ≡ suc (suc (2 * n)) = omega arith in
    let h = pairs_joined n zs (omega arith) in
    (ap (λ (i : ℕ). pairs ((a, b) ∷ pairs_of n zs) ++ drop i (a ∷ b ∷ zs)) q ∙ ap (λ (ys : List ℤ). a ∷ b ∷ ys) h.0, ap suc h.1)

pub pairs_parted : (xys : List (ℤ × ℤ)) (more : List ℤ) → pairs_of (length xys) (pairs xys ++ more) ≡ xys
pairs_parted [] more = refl
pairs_parted (xy ∷ xys) more = ap (λ (ys : List (ℤ × ℤ)). (xy.0, xy.1) ∷ ys) (pairs_parted xys more)

-- the values that whole numbers are to a program
abbrev pub values_of : Source → List ℤ → ProgramValues
values_of p zs =
    let n = length (free_points 0 p.commands) in
    record { coordinates = pairs_of n zs; numbers = drop (2 * n) zs }

pub values_are : (p : Source) (zs : List ℤ) → length zs ≡ values_wanted p
    → (integers_of (values_of p zs) ≡ zs) × (length (values_of p zs).coordinates ≡ length (free_points 0 p.commands)) × (length (values_of p zs).numbers ≡ numbers_had p.commands)
values_are p zs e =
    let n = length (free_points 0 p.commands) in
    let h = pairs_joined n zs (omega arith) in
    let k : length (drop (2 * n) zs) ≡ length zs - 2 * n = length-drop (2 * n) zs in
    (h.0, h.1, omega arith)

pub values_once : (p : Source) (zs : List ℤ) (v : ProgramValues) → length v.coordinates ≡ length (free_points 0 p.commands) → integers_of v ≡ zs → values_of p zs ≡ v
values_once p zs v l e =
    let n = length (free_points 0 p.commands) in
    let a : pairs_of n zs ≡ v.coordinates = ap (λ (ys : List ℤ). pairs_of n ys) (sym e)
    ∙ ap (λ (i : ℕ). pairs_of i (pairs v.coordinates ++ v.numbers)) (sym l) ∙ pairs_parted v.coordinates v.numbers in
    let b : drop (2 * n) zs ≡ v.numbers = ap (λ (ys : List ℤ). drop (2 * n) ys) (sym e)
    ∙ ap (λ (i : ℕ). drop (2 * i) (pairs v.coordinates ++ v.numbers)) (sym l) ∙ numbers_behind v.coordinates v.numbers in
    λ i. record { coordinates = a i; numbers = b i }
