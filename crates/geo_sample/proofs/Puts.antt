-- What some of a list of polynomials become, put in one after another.
use Rattle.std.proofs.Common.{◌≡◌, ℕ, zero, suc, ◌+◌, ◌<◌, Some, None, List, [], ◌∷◌, ◌++◌, length, take, drop, get_or, set, ℤ, refl, sym, ap, ap₂, ◌∙◌, arith}
use Rattle.std.specs.Prelude.{◌↔◌, Bool, Option, unwrap_or, IfNone, IfSome, IsTrue}
use Rattle.std.proofs.lemmas.List.{drop-set-lt, get_or-drop, map_more}
use Rattle.geo_poly.specs.declared.variables.Var.{Var}
use Rattle.geo_poly.specs.Polynomials.{Summands}
use Rattle.geo_poly.specs.Specialise.{specialised}
use Rattle.geo_sample.specs.Inner.Changes.{changed_by}
use Rattle.geo_sample.specs.Tries.{all_specialised}

-- one more that may become another
pub changed-push : (v : Var) (z : ℤ) (os : List (Option Summands)) (ps : List Summands) (i : ℕ) (o : Option Summands) (p : Summands) → length os ≡ i → i < length ps
    → p ≡ get_or ps i p → changed_by v z (os ++ o ∷ []) ps ≡ changed_by v z os ps ++ unwrap_or o (specialised v z p) ∷ []
changed-push v z os [] i o p long lt is = absurd (omega arith)
changed-push v z [] (q ∷ ps) zero o p long lt is = ap (λ r. unwrap_or o (specialised v z r) ∷ []) (sym is)
changed-push v z [] (q ∷ ps) (suc i) o p long lt is = absurd (omega (arith, long))
changed-push v z (n ∷ os) (q ∷ ps) zero o p long lt is = absurd (omega (arith, long))
changed-push v z (n ∷ os) (q ∷ ps) (suc i) o p long lt is =
    ap (λ rs. unwrap_or n (specialised v z q) ∷ rs) (changed-push v z os ps i o p (omega (arith, long)) (omega (arith, lt)) is)

-- what a change is, it is what the number makes
after_is : (o : Option Summands) (q : Summands) → IfSome o (λ r. r ≡ q) → unwrap_or o q ≡ q
after_is None q h = refl
after_is (Some r) q h = h

pub changed-more : (v : Var) (z : ℤ) (os : List (Option Summands)) (ps : List Summands) (i : ℕ) (o : Option Summands) (p : Summands) → length os ≡ i → i < length ps
    → p ≡ get_or ps i p → changed_by v z os ps ≡ all_specialised v z (take i ps) → IfSome o (λ r. r ≡ specialised v z p)
    → changed_by v z (os ++ o ∷ []) ps ≡ all_specialised v z (take (i + 1) ps)
changed-more v z os ps i o p long lt is before one =
    changed-push v z os ps i o p long lt is
    ∙ ap₂ (λ (rs : List Summands) (r : Summands). rs ++ r ∷ []) before (after_is o (specialised v z p) one ∙ ap (specialised v z) is)
    ∙ sym (map_more (specialised v z) ps i p lt)

-- whether it is zero then, told of the change or of what is there now
pub zero_after : (o : Option Summands) (b : Bool) (p q : Summands) → IfSome o (λ r. r ≡ q) → IfNone o ((q ≡ []) ↔ (p ≡ []))
    → IfSome o (λ r. IsTrue b ↔ (r ≡ [])) → IfNone o (IsTrue b ↔ (p ≡ [])) → IsTrue b ↔ (q ≡ [])
zero_after None b p q some none told now = (λ t. none.1 (now.0 t), λ e. now.1 (none.0 e))
zero_after (Some r) b p q some none told now = (λ t. sym some ∙ told.0 t, λ e. told.1 (some ∙ e))

-- with the first ones put in, as far as that place
abbrev pub put_before : Var → ℤ → List (Option Summands) → List Summands → ℕ → List Summands
put_before v z os ps i = changed_by v z (take i os) ps ++ drop i ps

-- the polynomial at that place is still there
pub put-ahead : (v : Var) (z : ℤ) (os : List (Option Summands)) (ps : List Summands) (i : ℕ) (p : Summands) → i < length os → length os ≡ length ps
    → p ≡ get_or (put_before v z os ps i) i p → p ≡ get_or ps i p
put-ahead v z [] ps i p lt long at = absurd (omega (arith, lt))
put-ahead v z (n ∷ os) [] i p lt long at = absurd (omega (arith, long))
put-ahead v z (n ∷ os) (q ∷ ps) zero p lt long at = at
put-ahead v z (n ∷ os) (q ∷ ps) (suc i) p lt long at = put-ahead v z os ps i p (omega (arith, lt)) (omega (arith, long)) at

pub put-one : (v : Var) (z : ℤ) (os : List (Option Summands)) (ps : List Summands) (i : ℕ) (o : Option Summands) (p : Summands) → i < length os → length os ≡ length ps
    → o ≡ get_or os i o → p ≡ get_or (put_before v z os ps i) i p → set (put_before v z os ps i) i (unwrap_or o (specialised v z p)) ≡ put_before v z os ps (suc i)
put-one v z [] ps i o p lt long is at = absurd (omega (arith, lt))
put-one v z (n ∷ os) [] i o p lt long is at = absurd (omega (arith, long))
put-one v z (n ∷ os) (q ∷ ps) zero o p lt long is at = ap₂ (λ (m : Option Summands) (r : Summands). unwrap_or m (specialised v z r) ∷ ps) is at
put-one v z (n ∷ os) (q ∷ ps) (suc i) o p lt long is at =
    ap (λ rs. unwrap_or n (specialised v z q) ∷ rs) (put-one v z os ps i o p (omega (arith, lt)) (omega (arith, long)) is at)

-- WHAT IS LEFT OF THE CHANGES

pub left-same : (os ns : List (Option Summands)) (i : ℕ) (o : Option Summands) → drop i os ≡ drop i ns → o ≡ get_or os i o → o ≡ get_or ns i o
left-same os ns i o same is =
    let at : i + 0 ≡ i = omega arith in
    is ∙ ap (λ k. get_or os k o) (sym at) ∙ sym (get_or-drop i os 0 o) ∙ ap (λ (l : List (Option Summands)). get_or l 0 o) same
    ∙ get_or-drop i ns 0 o ∙ ap (λ k. get_or ns k o) at

drop-one : (os : List (Option Summands)) (i : ℕ) → drop (suc i) os ≡ drop 1 (drop i os)
drop-one [] zero = refl
drop-one [] (suc i) = refl
drop-one (o ∷ os) zero = refl
drop-one (o ∷ os) (suc i) = drop-one os i

pub left-next : (os ns : List (Option Summands)) (i : ℕ) (o : Option Summands) → drop i os ≡ drop i ns → drop (suc i) (set os i o) ≡ drop (suc i) ns
left-next os ns i o same =
    drop-set-lt (suc i) os i o (omega arith) ∙ drop-one os i ∙ ap (λ (l : List (Option Summands)). drop 1 l) same ∙ sym (drop-one ns i)
