-- The names that texts give are looked up one after another.
use Rattle.std.proofs.Common.{◌≡◌, ℕ, suc, ◌+◌, ◌<◌, ◌≤◌, List, [], ◌∷◌, ◌++◌, drop, get_or, length, map, refl, sym, ◌∙◌, ap, subst}
use Rattle.std.proofs.Common.{add-one, append-nil, append_assoc, drop-cons, arith}
use Rattle.std.specs.Prelude.{slice_index_or}
use Rattle.std.specs.List.{AllByRecursion}
use Rattle.std.proofs.lemmas.List.Elements.{All-from_recursion, recursion_from_All}
use Rattle.std.proofs.lemmas.List.{drop_all, map_push}
use Rattle.geo_program.specs.declared.names.Name.{Name}
use Rattle.geo_program.specs.declared.names.NameKind.{NameKind}
use Rattle.geo_program.specs.declared.names.NameKind.TheVariants.{Point, Param, Line}
use Rattle.geo_program.specs.Names.{name_text, names_of}
use Rattle.geo_lowering.proofs.ConditionValues.{each_append}
use Rattle.geo_library.specs.Inner.Naming.{HasNoNumbers}
use Rattle.geo_library.specs.Renamings.{AreNamesOf, given_names}

-- THE FIRST OF THE GIVEN NAMES
-- a text for a name of this kind comes first among those of the kind
first_text : (k : NameKind) (c : Name) (cs : List Name) (t : List ℕ) (ts : List (List ℕ)) → c.kind ≡ k → names_of k (given_names (c ∷ cs) (t ∷ ts)) ≡ t ∷ names_of k (given_names cs ts)
first_text Point c cs t ts e = ap (λ (kind : NameKind). names_of Point (record { text = t; kind = kind } ∷ given_names cs ts)) e
first_text Param c cs t ts e = ap (λ (kind : NameKind). names_of Param (record { text = t; kind = kind } ∷ given_names cs ts)) e
first_text Line c cs t ts e = ap (λ (kind : NameKind). names_of Line (record { text = t; kind = kind } ∷ given_names cs ts)) e

-- and among no others
other_text : (k j : NameKind) (c : Name) (cs : List Name) (t : List ℕ) (ts : List (List ℕ)) → c.kind ≡ j → (k ≡ j → ⊥) → names_of k (given_names (c ∷ cs) (t ∷ ts)) ≡ names_of k (given_names cs ts)
other_text Point Param c cs t ts e n = ap (λ (kind : NameKind). names_of Point (record { text = t; kind = kind } ∷ given_names cs ts)) e
other_text Point Line c cs t ts e n = ap (λ (kind : NameKind). names_of Point (record { text = t; kind = kind } ∷ given_names cs ts)) e
other_text Param Point c cs t ts e n = ap (λ (kind : NameKind). names_of Param (record { text = t; kind = kind } ∷ given_names cs ts)) e
other_text Param Line c cs t ts e n = ap (λ (kind : NameKind). names_of Param (record { text = t; kind = kind } ∷ given_names cs ts)) e
other_text Line Point c cs t ts e n = ap (λ (kind : NameKind). names_of Line (record { text = t; kind = kind } ∷ given_names cs ts)) e
other_text Line Param c cs t ts e n = ap (λ (kind : NameKind). names_of Line (record { text = t; kind = kind } ∷ given_names cs ts)) e
other_text Point Point c cs t ts e n = absurd (n refl)
other_text Param Param c cs t ts e n = absurd (n refl)
other_text Line Line c cs t ts e n = absurd (n refl)

-- THE NUMBERS OF ONE KIND
-- the numbers so far are those of the first of these texts, and the others are left
pub record AreNumbersSoFar (kind : NameKind) (names : List Name) (texts left : List (List ℕ)) (ns : List ℕ) : Type 0 where
  pub split : texts ≡ map (name_text kind names) ns ++ left
  pub declared : AllByRecursion (λ a. a < length (names_of kind names)) ns

pub no_numbers : (kind : NameKind) (names : List Name) (texts : List (List ℕ)) (ns : List ℕ) → ns ≡ [] → AreNumbersSoFar kind names texts texts ns
no_numbers kind names texts ns e = subst (AreNumbersSoFar kind names texts texts) (sym e) (record { split = refl; declared = tt })

module _ (kind : NameKind) (names : List Name) (texts left : List (List ℕ)) (ns : List ℕ) (h : AreNumbersSoFar kind names texts left ns) where
  -- one more
  pub one_more : (t : List ℕ) (more : List (List ℕ)) (n : ℕ) (now : List ℕ) → left ≡ t ∷ more → n < length (names_of kind names) → name_text kind names n ≡ t → now ≡ ns ++ n ∷ []
      → AreNumbersSoFar kind names texts more now
  one_more t more n now e b is push = subst (AreNumbersSoFar kind names texts more) (sym push) (record {
    split =
        h.split ∙ ap (λ (ts : List (List ℕ)). map (name_text kind names) ns ++ ts) (e ∙ ap (λ (u : List ℕ). u ∷ more) (sym is))
        ∙ sym (append_assoc (map (name_text kind names) ns) (name_text kind names n ∷ []) more)
        ∙ ap (λ (ts : List (List ℕ)). ts ++ more) (sym (map_push (name_text kind names) ns n));
    declared = each_append (λ a. a < length (names_of kind names)) ns (n ∷ []) h.declared (b, tt);
  })

  -- what is left may be written otherwise
  pub same_left : (more : List (List ℕ)) → left ≡ more → AreNumbersSoFar kind names texts more ns
  same_left more e = subst (λ (ts : List (List ℕ)). AreNumbersSoFar kind names texts ts ns) e h

  -- all of them
  pub all_numbers : left ≡ [] → AreNamesOf kind names texts ns
  all_numbers e = record {
    declared = All-from_recursion (λ (a : ℕ). a < length (names_of kind names)) ns h.declared;
    named = sym (h.split ∙ ap (λ (ts : List (List ℕ)). map (name_text kind names) ns ++ ts) e ∙ append-nil (map (name_text kind names) ns));
  }

  -- where a text is none of the names there are no numbers
  pub not_named : (t : List ℕ) (more : List (List ℕ)) → left ≡ t ∷ more → ((n : ℕ) → n < length (names_of kind names) → name_text kind names n ≡ t → ⊥) → HasNoNumbers kind names texts
  not_named t more e none xs g =
      by (map (name_text kind names) ns) xs (recursion_from_All (λ (a : ℕ). a < length (names_of kind names)) xs g.declared)
      (g.named ∙ h.split ∙ ap (λ (ts : List (List ℕ)). map (name_text kind names) ns ++ ts) e)
    where
      by : (front : List (List ℕ)) (xs : List ℕ) → AllByRecursion (λ a. a < length (names_of kind names)) xs → map (name_text kind names) xs ≡ front ++ t ∷ more → ⊥
      by [] [] d e = let l : ◌≡◌ {A = ℕ} 0 (suc (length more)) = ap length e in omega (arith, l)
      by [] (x ∷ xs) d e = let heads : name_text kind names x ≡ t = cc in none x d.0 heads
      by (f ∷ front) [] d e = let l : ◌≡◌ {A = ℕ} 0 (suc (length (front ++ t ∷ more))) = ap length e in omega (arith, l)
      by (f ∷ front) (x ∷ xs) d e = let tails : map (name_text kind names) xs ≡ front ++ t ∷ more = cc in by front xs d.1 tails

-- the texts of this kind that are left from a place
abbrev pub left_at : NameKind → List Name → List (List ℕ) → ℕ → List (List ℕ)
left_at kind cited texts k = names_of kind (given_names (drop k cited) (drop k texts))

module _ (kind : NameKind) (cited : List Name) (texts : List (List ℕ)) (k : ℕ) (name : Name) (b : k < length cited) (l : length texts ≡ length cited) (is : name ≡ get_or cited k name) where
  at_place : given_names (drop k cited) (drop k texts) ≡ given_names (name ∷ drop (suc k) cited) (slice_index_or texts k [] ∷ drop (suc k) texts)
  at_place =
      ap (λ cs. given_names cs (drop k texts)) (drop-cons cited k name b ∙ ap (λ x. x ∷ drop (suc k) cited) (sym is))
      ∙ ap (λ ts. given_names (name ∷ drop (suc k) cited) ts) (drop-cons texts k [] (omega (arith, b, l)))

  -- the one here is of the kind
  pub left_here : name.kind ≡ kind → left_at kind cited texts k ≡ slice_index_or texts k [] ∷ left_at kind cited texts (k + 1)
  left_here e =
      ap (names_of kind) at_place ∙ first_text kind name (drop (suc k) cited) (slice_index_or texts k []) (drop (suc k) texts) e
      ∙ ap (λ m. slice_index_or texts k [] ∷ left_at kind cited texts m) (sym (add-one k))

  -- and where it is not
  pub left_other : (name.kind ≡ kind → ⊥) → left_at kind cited texts k ≡ left_at kind cited texts (k + 1)
  left_other o =
      ap (names_of kind) at_place ∙ other_text kind name.kind name (drop (suc k) cited) (slice_index_or texts k []) (drop (suc k) texts) refl (λ e. o (sym e))
      ∙ ap (left_at kind cited texts) (sym (add-one k))

-- past the end nothing is left
pub none_left : (kind : NameKind) (cited : List Name) (texts : List (List ℕ)) (k : ℕ) → (k < length cited → ⊥) → left_at kind cited texts k ≡ []
none_left kind cited texts k b = ap (λ cs. names_of kind (given_names cs (drop k texts))) (drop_all k cited (omega (arith, b)))

-- THE NAMES WITH THEIR TEXTS
module _ (cited : List Name) (texts : List (List ℕ)) (k : ℕ) (name : Name) (b : k < length cited) (is : name ≡ get_or cited k name) (all names : List Name)
    (h : all ≡ names ++ given_names (drop k cited) (drop k texts)) where
  -- one more
  pub name_more : k < length texts → (n : Name) → n ≡ record { text = slice_index_or texts k []; kind = name.kind } → (now : List Name) → now ≡ names ++ n ∷ []
      → all ≡ now ++ given_names (drop (k + 1) cited) (drop (k + 1) texts)
  name_more l n e now push =
      h
      ∙ ap (λ cs. names ++ given_names cs (drop k texts)) (drop-cons cited k name b ∙ ap (λ x. x ∷ drop (suc k) cited) (sym is))
      ∙ ap (λ ts. names ++ given_names (name ∷ drop (suc k) cited) ts) (drop-cons texts k [] l)
      ∙ ap (λ (x : Name). names ++ x ∷ given_names (drop (suc k) cited) (drop (suc k) texts)) (sym e)
      ∙ sym (append_assoc names (n ∷ []) (given_names (drop (suc k) cited) (drop (suc k) texts)))
      ∙ ap (λ (ns : List Name). ns ++ given_names (drop (suc k) cited) (drop (suc k) texts)) (sym push)
      ∙ ap (λ m. now ++ given_names (drop m cited) (drop m texts)) (sym (add-one k))

  -- there is no text for it
  pub name_past : length texts ≤ k → all ≡ names ++ given_names (drop (k + 1) cited) (drop (k + 1) texts)
  name_past l =
      h ∙ ap (λ ns. names ++ ns) (none_for (drop k cited) k l ∙ sym (none_for (drop (k + 1) cited) (k + 1) (omega (arith, l))))
    where
      no_text : (cs : List Name) → given_names cs [] ≡ []
      no_text [] = refl
      no_text (c ∷ cs) = refl

      none_for : (cs : List Name) (m : ℕ) → length texts ≤ m → given_names cs (drop m texts) ≡ []
      none_for cs m l = ap (given_names cs) (drop_all m texts l) ∙ no_text cs
