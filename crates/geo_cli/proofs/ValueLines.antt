-- The line of values: it is one at most, and how it is read.
use Rattle.std.proofs.Common.{◌≡◌, ℕ, ◌<◌, ◌^◌, ℤ, unsigned_abs, List, [], ◌∷◌, ◌++◌, codes, refl, sym, ◌∙◌, ap, subst, append_assoc, arith}
use Rattle.std.specs.Fmt.{signed_decimal}
use Rattle.std.specs.List.{AllByRecursion, flat_map}
use Rattle.std.proofs.lemmas.Grind.{flat_map-append}
use Rattle.std.proofs.lemmas.List.Elements.{recursion_from_All}
use Rattle.geo_cli.specs.Values.{HasNoValuesLine, HasValuesLine, values_line}
use Rattle.geo_lowering.proofs.ConditionValues.{each_append}
use Rattle.geo_place.proofs.ListParts.{head_of, tail_of}
use Rattle.proof_log.specs.Inner.Reading.{Begins, NoneBegins, StopsAt, integers, is_number_byte}
use Rattle.proof_log.proofs.Runs.{integers_unique}

-- numbers, a blank before each
abbrev pub blanks : List ℤ → List ℕ
blanks values = flat_map (λ z. 32 ∷ signed_decimal z) values

-- what stands behind `at`
abbrev pub behind_at : List ℤ → List ℕ → List ℕ
behind_at values rest = blanks values ++ 10 ∷ rest

abbrev pub IsShort : ℤ → Type 0
IsShort z = unsigned_abs z < 2 ^ 127

abbrev pub at_text : List ℕ
at_text = codes "at"

pub line_parts : (values : List ℤ) (rest : List ℕ) → values_line values ++ rest ≡ at_text ++ behind_at values rest
line_parts values rest =
    append_assoc at_text (blanks values ++ 10 ∷ []) rest ∙ ap (λ (t : List ℕ). at_text ++ t) (append_assoc (blanks values) (10 ∷ []) rest)

-- what follows a number is no digit
stops : (values : List ℤ) (rest : List ℕ) → StopsAt is_number_byte (behind_at values rest)
stops [] rest = refl
stops (z ∷ zs) rest = refl

next_text : (z : ℤ) (zs : List ℤ) (rest : List ℕ) → behind_at (z ∷ zs) rest ≡ 32 ∷ (signed_decimal z ++ behind_at zs rest)
next_text z zs rest = ap (λ (t : List ℕ). 32 ∷ t) (append_assoc (signed_decimal z) (blanks zs) (10 ∷ rest))

begins : (text : List ℕ) (z : ℤ) (zs : List ℤ) (rest : List ℕ) → IsShort z → 32 ∷ text ≡ behind_at (z ∷ zs) rest
    → Begins integers text z (behind_at zs rest)
begins text z zs rest short e = record { spelt = tail_of (e ∙ next_text z zs rest); fits = short; stops = stops zs rest }

-- an equation of bytes that are not equal
differ : (a b : ℕ) → a ≡ b → (a ≡ b → ⊥) → ⊥
differ a b e apart = apart e

-- ONE LINE
same_behind : (v v' : List ℤ) (r r' : List ℕ) → AllByRecursion IsShort v → AllByRecursion IsShort v' → behind_at v r ≡ behind_at v' r'
    → (v ≡ v') × (r ≡ r')
same_behind [] [] r r' h k e = (refl, tail_of e)
same_behind [] (z ∷ zs) r r' h k e = absurd (differ 10 32 (head_of e) (λ q. omega (arith, q)))
same_behind (z ∷ zs) [] r r' h k e = absurd (differ 32 10 (head_of e) (λ q. omega (arith, q)))
same_behind (z ∷ zs) (y ∷ ys) r r' h k e =
    let text = signed_decimal z ++ behind_at zs r in
    let one : Begins integers text z (behind_at zs r) = record { spelt = refl; fits = h.0; stops = stops zs r } in
    let other : Begins integers text y (behind_at ys r') = begins text y ys r' k.0 (sym (next_text z zs r) ∙ e) in
    let u = integers_unique text z y (behind_at zs r) (behind_at ys r') one other in
    let more = same_behind zs ys r r' h.1 k.1 u.1 in
    ((λ i. u.0 i ∷ more.0 i), more.1)

pub one_line : (bytes : List ℕ) (v v' : List ℤ) (r r' : List ℕ) → HasValuesLine bytes v r → HasValuesLine bytes v' r' → (v ≡ v') × (r ≡ r')
one_line bytes v v' r r' h k =
    let e : at_text ++ behind_at v r ≡ at_text ++ behind_at v' r' = sym (line_parts v r) ∙ sym h.parts ∙ k.parts ∙ line_parts v' r' in
    same_behind v v' r r' (recursion_from_All IsShort v h.short) (recursion_from_All IsShort v' k.short) (tail_of (tail_of e))

-- READING
-- of a line that stands in the bytes, these values are read, and this is left
pub record IsLeft (items : List ℤ) (left_text : List ℕ) (values : List ℤ) (rest : List ℕ) : Type 0 where
  pub left : List ℤ
  pub values_are : values ≡ items ++ left
  pub text : left_text ≡ behind_at left rest
  pub short : AllByRecursion IsShort left

-- how far the line is read
pub record IsRead (bytes : List ℕ) (items : List ℤ) (left_text : List ℕ) : Type 0 where
  pub parts : bytes ≡ at_text ++ (blanks items ++ left_text)
  pub short : AllByRecursion IsShort items
  pub lines : (values : List ℤ) (rest : List ℕ) → HasValuesLine bytes values rest → IsLeft items left_text values rest

pub first_read : (bytes left_text : List ℕ) (items : List ℤ) → items ≡ [] → bytes ≡ at_text ++ left_text → IsRead bytes items left_text
first_read bytes left_text [] none e = record {
  parts = e;
  short = tt;
  lines = λ values rest h.
      let same : at_text ++ left_text ≡ at_text ++ behind_at values rest = sym e ∙ h.parts ∙ line_parts values rest in
      record { left = values; values_are = refl; text = tail_of (tail_of same); short = recursion_from_All IsShort values h.short };
}
first_read bytes left_text (z ∷ zs) none e = cc

module _ (bytes : List ℕ) (items : List ℤ) (left_text text : List ℕ) (blank : left_text ≡ 32 ∷ text) (before : IsRead bytes items left_text) where
  h : IsRead bytes items (32 ∷ text)
  h = subst (λ (t : List ℕ). IsRead bytes items t) blank before

  -- a further number is read
  pub next_read : (z : ℤ) (behind : List ℕ) → Begins integers text z behind → (more : List ℤ) → more ≡ items ++ z ∷ []
      → IsRead bytes more behind
  next_read z behind b more is =
      subst (λ (zs : List ℤ). IsRead bytes zs behind) (sym is)
      (record {
        parts =
            let one : blanks (items ++ z ∷ []) ≡ blanks items ++ ((32 ∷ signed_decimal z) ++ []) = flat_map-append (λ y. 32 ∷ signed_decimal y) items (z ∷ []) in
            let two : (32 ∷ signed_decimal z) ++ [] ≡ 32 ∷ signed_decimal z = nil (32 ∷ signed_decimal z) in
            h.parts ∙ ap (λ (t : List ℕ). at_text ++ (blanks items ++ 32 ∷ t)) b.spelt
            ∙ ap (λ (t : List ℕ). at_text ++ t) (sym (append_assoc (blanks items) (32 ∷ signed_decimal z) behind))
            ∙ ap (λ (t : List ℕ). at_text ++ (t ++ behind)) (sym (one ∙ ap (λ (t : List ℕ). blanks items ++ t) two));
        short = each_append IsShort items (z ∷ []) h.short (b.fits, tt);
        lines = λ values rest line. step values rest (h.lines values rest line);
      })
    where
      nil : (xs : List ℕ) → xs ++ [] ≡ xs
      nil [] = refl
      nil (x ∷ xs) = ap (λ (ys : List ℕ). x ∷ ys) (nil xs)

      step : (values : List ℤ) (rest : List ℕ) → IsLeft items (32 ∷ text) values rest → IsLeft (items ++ z ∷ []) behind values rest
      step values rest l = go l.left l.values_are l.text l.short
        where
          go : (left : List ℤ) → values ≡ items ++ left → 32 ∷ text ≡ behind_at left rest → AllByRecursion IsShort left
              → IsLeft (items ++ z ∷ []) behind values rest
          go [] v e s = absurd (differ 32 10 (head_of e) (λ q. omega (arith, q)))
          go (y ∷ ys) v e s =
              let u = integers_unique text z y behind (behind_at ys rest) b (begins text y ys rest s.0 e) in
              record {
                left = ys;
                values_are = v ∙ ap (λ (x : ℤ). items ++ x ∷ ys) (sym u.0) ∙ sym (append_assoc items (z ∷ []) ys);
                text = u.1;
                short = s.1;
              }

  -- no number stands next
  pub no_number : NoneBegins integers text → HasNoValuesLine bytes
  no_number none values rest line = go (h.lines values rest line)
    where
      go : IsLeft items (32 ∷ text) values rest → ⊥
      go l = at l.left l.text l.short
        where
          at : (left : List ℤ) → 32 ∷ text ≡ behind_at left rest → AllByRecursion IsShort left → ⊥
          at [] e s = differ 32 10 (head_of e) (λ q. omega (arith, q))
          at (y ∷ ys) e s = none y (behind_at ys rest) (begins text y ys rest s.0 e)

-- neither a blank nor a line feed stands next
pub no_line : (bytes : List ℕ) (items : List ℤ) (left_text : List ℕ) → IsRead bytes items left_text
    → ((text : List ℕ) → left_text ≡ 32 ∷ text → ⊥)
    → ((rest : List ℕ) → left_text ≡ 10 ∷ rest → ⊥) → HasNoValuesLine bytes
no_line bytes items left_text h blank feed values rest line = go (h.lines values rest line)
  where
    go : IsLeft items left_text values rest → ⊥
    go l = at l.left l.text
      where
        at : (left : List ℤ) → left_text ≡ behind_at left rest → ⊥
        at [] e = feed rest e
        at (y ∷ ys) e = blank (signed_decimal y ++ behind_at ys rest) (e ∙ next_text y ys rest)
