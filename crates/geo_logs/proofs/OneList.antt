-- A subject has one defined list, with one end.
use Rattle.std.proofs.Common.{◌≡◌, ℕ, zero, suc, ◌+◌, ◌<◌, ◌≤◌, inl, inr, Option, Some, None, List, [], ◌∷◌, ◌++◌, length, take, append_assoc, refl, sym, ap, ap₂, ◌∙◌, subst, arith}
use Rattle.std.specs.Prelude.{slice_get}
use Rattle.std.proofs.lemmas.List.{length-append}
use Rattle.geo_poly.specs.declared.variables.Var.{Var}
use Rattle.geo_poly.specs.Polynomials.{Summands}
use Rattle.geo_terms.specs.Constructions.{Construction}
use Rattle.proof_log.specs.declared.log.Line.{Line}
use Rattle.proof_log.specs.declared.log.Line.TheVariants.{Condition, Goal, Verdict as VerdictLine}
use Rattle.proof_log.specs.declared.log.Verdict.{Verdict}
use Rattle.proof_log.specs.declared.log.Verdict.TheVariants.{Proved, False, Impossible}
use Rattle.geo_logs.specs.Chains.{Chain, chain_lines}
use Rattle.geo_logs.specs.Defined.{IsDefinedChain, IsLogOfProver}
use Rattle.geo_logs.specs.Ends.{Ending, GoesOn, IsDefinedLog, Next, comes, stops, ends_with, ends_by, too_long, stop_line, text_length}
use Rattle.geo_logs.specs.Places.{first_lines}
use Rattle.geo_logs.proofs.NextLines.{AreConditionsBegun, AreGoalsBegun, IsBegun, IsBegunChain, IsBegunEnd, goes_on}
use Rattle.geo_logs.specs.Laws.{DefinedLogIsUnique}
use Rattle.proof_log.specs.Lines.{line_text, log_text}
use Rattle.geo_logs.specs.Logs.{AreConditionsWorked, AreGoalsWorked, BeginsWithChain, Item, Subject, known_by}
use Rattle.geo_logs.specs.Moves.{Table, Stop}
use Rattle.geo_logs.specs.Samples.{IsLeastSample}
use Rattle.geo_logs.proofs.OneChain.{one_chain, provers_log_unique}
use Rattle.geo_logs.proofs.OneEnd.{begun_compared, begun_within, end_within, ends_compared}
use Rattle.geo_logs.proofs.OneNext.{AreCompared, IsAhead, ahead_behind, compared_behind, no_stop_ahead}

-- the same beginnings, by equal lists
compared_as : (xs xs' ys ys' : List Line) (n m : Next) → xs ≡ xs' → ys ≡ ys' → AreCompared xs' n ys' m → AreCompared xs n ys m
compared_as xs xs' ys ys' n m e f h = subst (λ (ws : List Line). AreCompared ws n ys m) (sym e) (subst (λ (ws : List Line). AreCompared xs' n ws m) (sym f) h)

ahead_as : (xs xs' ys ys' : List Line) (n : Next) → xs ≡ xs' → ys ≡ ys' → IsAhead xs' n ys' → IsAhead xs n ys
ahead_as xs xs' ys ys' n e f h = subst (λ (ws : List Line). IsAhead ws n ys) (sym e) (subst (λ (ws : List Line). IsAhead xs' n ws) (sym f) h)

module _ (table : Table) (c : Construction) where
  abbrev First : Line → List Var → ℕ → Item → List Line → Type 0
  First head known left item lines = BeginsWithChain (IsDefinedChain table c) (IsLeastSample c) head known left item lines

  -- a begun chain stands within one that the lines begin with
  within_first : (head : Line) (known : List Var) (left : ℕ) (item : Item) (xs ys : List Line) (n : Next) → IsBegunChain table c head known left item.term xs n
      → First head known left item ys → IsAhead xs n ys
  within_first head known left item xs ys n h first =
      ahead_as xs xs ys (chain_lines head item.term first.chain ++ first.rest) n refl first.split
      (begun_within table c head known left item.term xs n first.chain first.after first.rest h first.works)

  -- two beginnings with chains have the same chain
  record AreSameFirst (head : Line) (known : List Var) (left : ℕ) (item : Item) (xs ys : List Line) (first : First head known left item xs) (second : First head known left item ys) : Type 0 where
    chain : first.chain ≡ second.chain
    after : first.after ≡ second.after
    split : xs ≡ chain_lines head item.term second.chain ++ first.rest

  same_first : (head : Line) (known : List Var) (left : ℕ) (item : Item) (xs ys : List Line) (first : First head known left item xs) (second : First head known left item ys)
      → AreSameFirst head known left item xs ys first second
  same_first head known left item xs ys first second =
      let same = one_chain table c known left item.term first.chain second.chain first.after second.after first.works second.works in
      record { chain = same.0; after = same.1; split = first.split ∙ ap (λ (x : Chain). chain_lines head item.term x ++ first.rest) same.0 }

  goals_compared : (known : List Var) (listed : List Summands) (k left : ℕ) (items : List Item) (xs ys : List Line) (n m : Next)
      → AreGoalsBegun table c known listed k left items xs n → AreGoalsBegun table c known listed k left items ys m → AreCompared xs n ys m
  goals_compared known listed k left [] xs ys n m h g = ends_compared c listed left Proved xs ys n m h g
  goals_compared known listed k left (item ∷ items) xs ys n m (inl h) (inl g) = begun_compared table c (Goal k item.text) known left item.term xs ys n m h g
  goals_compared known listed k left (item ∷ items) xs ys n m (inl h) (inr (second, g)) = inr (inl (within_first (Goal k item.text) known left item xs ys n h second))
  goals_compared known listed k left (item ∷ items) xs ys n m (inr (first, h)) (inl g) = inr (inr (within_first (Goal k item.text) known left item ys xs m g first))
  goals_compared known listed k left (item ∷ items) xs ys n m (inr (first, inl h)) (inr (second, inl g)) =
      let head : Line = Goal k item.text in
      let same = same_first head known left item xs ys first second in
      let goes = subst (λ j. AreGoalsBegun table c known listed (suc k) j items first.rest n) same.after h.1 in
      compared_as xs (chain_lines head item.term second.chain ++ first.rest) ys (chain_lines head item.term second.chain ++ second.rest) n m same.split second.split
      (compared_behind (chain_lines head item.term second.chain) first.rest n second.rest m (goals_compared known listed (suc k) second.after items first.rest second.rest n m goes g.1))
  goals_compared known listed k left (item ∷ items) xs ys n m (inr (first, inl h)) (inr (second, inr g)) =
      let same = same_first (Goal k item.text) known left item xs ys first second in
      absurd (g.0 (ap (λ (x : Chain). x.end) (sym same.chain) ∙ h.0))
  goals_compared known listed k left (item ∷ items) xs ys n m (inr (first, inr h)) (inr (second, inl g)) =
      let same = same_first (Goal k item.text) known left item xs ys first second in
      absurd (h.0 (ap (λ (x : Chain). x.end) same.chain ∙ g.0))
  goals_compared known listed k left (item ∷ items) xs ys n m (inr (first, inr h)) (inr (second, inr g)) =
      let head : Line = Goal k item.text in
      let same = same_first head known left item xs ys first second in
      let goes = subst (λ (x : Chain). IsBegunEnd c (listed ++ x.end ∷ []) (False k) second.after first.rest n) same.chain
      (subst (λ j. IsBegunEnd c (listed ++ first.chain.end ∷ []) (False k) j first.rest n) same.after h.1) in
      compared_as xs (chain_lines head item.term second.chain ++ first.rest) ys (chain_lines head item.term second.chain ++ second.rest) n m same.split second.split
      (compared_behind (chain_lines head item.term second.chain) first.rest n second.rest m
      (ends_compared c (listed ++ second.chain.end ∷ []) second.after (False k) first.rest second.rest n m goes g.1))

  goals_within : (known : List Var) (listed : List Summands) (k left : ℕ) (items : List Item) (xs ys : List Line) (n : Next) (verdict : Verdict) (left' : ℕ)
      → AreGoalsBegun table c known listed k left items xs n → AreGoalsWorked (IsDefinedChain table c) (IsLeastSample c) known listed k left items ys verdict left' → IsAhead xs n ys
  goals_within known listed k left [] xs ys n verdict left' h g = end_within c listed left Proved table xs n ys left' h g.1
  goals_within known listed k left (item ∷ items) xs ys n verdict left' (inl h) (second, g) = within_first (Goal k item.text) known left item xs ys n h second
  goals_within known listed k left (item ∷ items) xs ys n verdict left' (inr (first, inl h)) (second, inl g) =
      let head : Line = Goal k item.text in
      let same = same_first head known left item xs ys first second in
      let goes = subst (λ j. AreGoalsBegun table c known listed (suc k) j items first.rest n) same.after h.1 in
      ahead_as xs (chain_lines head item.term second.chain ++ first.rest) ys (chain_lines head item.term second.chain ++ second.rest) n same.split second.split
      (ahead_behind (chain_lines head item.term second.chain) first.rest n second.rest (goals_within known listed (suc k) second.after items first.rest second.rest n verdict left' goes g.1))
  goals_within known listed k left (item ∷ items) xs ys n verdict left' (inr (first, inl h)) (second, inr g) =
      let same = same_first (Goal k item.text) known left item xs ys first second in
      absurd (g.0 (ap (λ (x : Chain). x.end) (sym same.chain) ∙ h.0))
  goals_within known listed k left (item ∷ items) xs ys n verdict left' (inr (first, inr h)) (second, inl g) =
      let same = same_first (Goal k item.text) known left item xs ys first second in
      absurd (h.0 (ap (λ (x : Chain). x.end) same.chain ∙ g.0))
  goals_within known listed k left (item ∷ items) xs ys n verdict left' (inr (first, inr h)) (second, inr g) =
      let head : Line = Goal k item.text in
      let same = same_first head known left item xs ys first second in
      let goes = subst (λ (x : Chain). IsBegunEnd c (listed ++ x.end ∷ []) (False k) second.after first.rest n) same.chain
      (subst (λ j. IsBegunEnd c (listed ++ first.chain.end ∷ []) (False k) j first.rest n) same.after h.1) in
      ahead_as xs (chain_lines head item.term second.chain ++ first.rest) ys (chain_lines head item.term second.chain ++ second.rest) n same.split second.split
      (ahead_behind (chain_lines head item.term second.chain) first.rest n second.rest
      (end_within c (listed ++ second.chain.end ∷ []) second.after (False k) table first.rest n second.rest left' goes g.2))

  conditions_compared : (goals : List Item) (known : List Var) (listed : List Summands) (k left : ℕ) (items : List Item) (xs ys : List Line) (n m : Next)
      → AreConditionsBegun table c goals known listed k left items xs n → AreConditionsBegun table c goals known listed k left items ys m → AreCompared xs n ys m
  conditions_compared goals known listed k left [] xs ys n m h g = goals_compared known listed 1 left goals xs ys n m h g
  conditions_compared goals known listed k left (item ∷ items) xs ys n m (inl h) (inl g) = begun_compared table c (Condition k item.text) known left item.term xs ys n m h g
  conditions_compared goals known listed k left (item ∷ items) xs ys n m (inl h) (inr (second, g)) = inr (inl (within_first (Condition k item.text) known left item xs ys n h second))
  conditions_compared goals known listed k left (item ∷ items) xs ys n m (inr (first, h)) (inl g) = inr (inr (within_first (Condition k item.text) known left item ys xs m g first))
  conditions_compared goals known listed k left (item ∷ items) xs ys n m (inr (first, inl h)) (inr (second, inl g)) =
      let head : Line = Condition k item.text in
      let same = same_first head known left item xs ys first second in
      let there : List Line = chain_lines head item.term second.chain in
      inl (same.split ∙ ap (λ (ws : List Line). there ++ ws) (h.1 ∙ sym g.1) ∙ sym second.split, h.2 ∙ sym g.2)
  conditions_compared goals known listed k left (item ∷ items) xs ys n m (inr (first, inl h)) (inr (second, inr g)) =
      let same = same_first (Condition k item.text) known left item xs ys first second in
      absurd (g.0 (ap (λ (x : Chain). x.end) (sym same.chain) ∙ h.0))
  conditions_compared goals known listed k left (item ∷ items) xs ys n m (inr (first, inr h)) (inr (second, inl g)) =
      let same = same_first (Condition k item.text) known left item xs ys first second in
      absurd (h.0 (ap (λ (x : Chain). x.end) same.chain ∙ g.0))
  conditions_compared goals known listed k left (item ∷ items) xs ys n m (inr (first, inr h)) (inr (second, inr g)) =
      let head : Line = Condition k item.text in
      let same = same_first head known left item xs ys first second in
      let goes = subst (λ (x : Chain). AreConditionsBegun table c goals (known ++ known_by (item ∷ [])) (listed ++ x.end ∷ []) (suc k) second.after items first.rest n) same.chain
      (subst (λ j. AreConditionsBegun table c goals (known ++ known_by (item ∷ [])) (listed ++ first.chain.end ∷ []) (suc k) j items first.rest n) same.after h.1) in
      compared_as xs (chain_lines head item.term second.chain ++ first.rest) ys (chain_lines head item.term second.chain ++ second.rest) n m same.split second.split
      (compared_behind (chain_lines head item.term second.chain) first.rest n second.rest m
      (conditions_compared goals (known ++ known_by (item ∷ [])) (listed ++ second.chain.end ∷ []) (suc k) second.after items first.rest second.rest n m goes g.1))

  conditions_within : (goals : List Item) (known : List Var) (listed : List Summands) (k left : ℕ) (items : List Item) (xs ys : List Line) (n : Next) (verdict : Verdict) (left' : ℕ)
      → AreConditionsBegun table c goals known listed k left items xs n → AreConditionsWorked (IsDefinedChain table c) (IsLeastSample c) goals known listed k left items ys verdict left'
      → IsAhead xs n ys
  conditions_within goals known listed k left [] xs ys n verdict left' h g = goals_within known listed 1 left goals xs ys n verdict left' h g
  conditions_within goals known listed k left (item ∷ items) xs ys n verdict left' (inl h) (second, g) = within_first (Condition k item.text) known left item xs ys n h second
  conditions_within goals known listed k left (item ∷ items) xs ys n verdict left' (inr (first, inl h)) (second, inl g) =
      let head : Line = Condition k item.text in
      let same = same_first head known left item xs ys first second in
      let there : List Line = chain_lines head item.term second.chain in
      ahead_as xs (there ++ []) ys (there ++ VerdictLine (Impossible k) ∷ []) n (same.split ∙ ap (λ (ws : List Line). there ++ ws) h.1)
      (second.split ∙ ap (λ (ws : List Line). there ++ ws) g.2)
      (ahead_behind there [] n (VerdictLine (Impossible k) ∷ []) (VerdictLine (Impossible k), [], h.2, refl))
  conditions_within goals known listed k left (item ∷ items) xs ys n verdict left' (inr (first, inl h)) (second, inr g) =
      let same = same_first (Condition k item.text) known left item xs ys first second in
      absurd (g.0 (ap (λ (x : Chain). x.end) (sym same.chain) ∙ h.0))
  conditions_within goals known listed k left (item ∷ items) xs ys n verdict left' (inr (first, inr h)) (second, inl g) =
      let same = same_first (Condition k item.text) known left item xs ys first second in
      absurd (h.0 (ap (λ (x : Chain). x.end) same.chain ∙ g.0))
  conditions_within goals known listed k left (item ∷ items) xs ys n verdict left' (inr (first, inr h)) (second, inr g) =
      let head : Line = Condition k item.text in
      let same = same_first head known left item xs ys first second in
      let goes = subst (λ (x : Chain). AreConditionsBegun table c goals (known ++ known_by (item ∷ [])) (listed ++ x.end ∷ []) (suc k) second.after items first.rest n) same.chain
      (subst (λ j. AreConditionsBegun table c goals (known ++ known_by (item ∷ [])) (listed ++ first.chain.end ∷ []) (suc k) j items first.rest n) same.after h.1) in
      ahead_as xs (chain_lines head item.term second.chain ++ first.rest) ys (chain_lines head item.term second.chain ++ second.rest) n same.split second.split
      (ahead_behind (chain_lines head item.term second.chain) first.rest n second.rest
      (conditions_within goals (known ++ known_by (item ∷ [])) (listed ++ second.chain.end ∷ []) (suc k) second.after items first.rest second.rest n verdict left' goes g.1))

-- THE FIRST LINES
same_line : (a b : Line) → ◌≡◌ {A = Option Line} (Some a) (Some b) → a ≡ b
same_line a b e = cc

-- a beginning of a list goes on with the line at its place
take_ahead : (all : List Line) (k : ℕ) (l : Line) (rest : List Line) → slice_get all k ≡ Some l → IsAhead (take k all) (comes l) (all ++ rest)
take_ahead [] k l rest e = absurd (let q : ◌≡◌ {A = Option Line} None (Some l) = e in cc)
take_ahead (a ∷ all) zero l rest e = (a, all ++ rest, ap comes (sym (same_line a l e)), refl)
take_ahead (a ∷ all) (suc k) l rest e = ahead_behind (a ∷ []) (take k all) (comes l) (all ++ rest) (take_ahead all k l rest e)

takes_compared : (all : List Line) (k j : ℕ) (a b : Line) → slice_get all k ≡ Some a → slice_get all j ≡ Some b → AreCompared (take k all) (comes a) (take j all) (comes b)
takes_compared [] k j a b e f = absurd (let q : ◌≡◌ {A = Option Line} None (Some a) = e in cc)
takes_compared (l ∷ all) zero zero a b e f = inl (refl, ap comes (sym (same_line l a e) ∙ same_line l b f))
takes_compared (l ∷ all) zero (suc j) a b e f = inr (inl (l, take j all, ap comes (sym (same_line l a e)), refl))
takes_compared (l ∷ all) (suc k) zero a b e f = inr (inr (l, take k all, ap comes (sym (same_line l b f)), refl))
takes_compared (l ∷ all) (suc k) (suc j) a b e f = compared_behind (l ∷ []) (take k all) (comes a) (take j all) (comes b) (takes_compared all k j a b e f)

module _ (table : Table) (subject : Subject) (steps : ℕ) where
  begun_all : (xs ys : List Line) (n m : Next) → IsBegun table subject steps xs n → IsBegun table subject steps ys m → AreCompared xs n ys m
  begun_all xs ys n m (inl (k, a, at, e, f)) (inl (j, b, at', e', f')) =
      compared_as xs (take k (first_lines subject)) ys (take j (first_lines subject)) n m e e'
      (subst (λ (x : Next). AreCompared (take k (first_lines subject)) x (take j (first_lines subject)) m) (sym f)
      (subst (λ (x : Next). AreCompared (take k (first_lines subject)) (comes a) (take j (first_lines subject)) x) (sym f') (takes_compared (first_lines subject) k j a b at at')))
  begun_all xs ys n m (inl (k, a, at, e, f)) (inr (rest, e', g)) =
      inr (inl (ahead_as xs (take k (first_lines subject)) ys (first_lines subject ++ rest) n e e'
      (subst (λ (x : Next). IsAhead (take k (first_lines subject)) x (first_lines subject ++ rest)) (sym f) (take_ahead (first_lines subject) k a rest at))))
  begun_all xs ys n m (inr (rest, e', g)) (inl (k, a, at, e, f)) =
      inr (inr (ahead_as ys (take k (first_lines subject)) xs (first_lines subject ++ rest) m e e'
      (subst (λ (x : Next). IsAhead (take k (first_lines subject)) x (first_lines subject ++ rest)) (sym f) (take_ahead (first_lines subject) k a rest at))))
  begun_all xs ys n m (inr (rest, e, h)) (inr (rest', e', g)) =
      compared_as xs (first_lines subject ++ rest) ys (first_lines subject ++ rest') n m e e'
      (compared_behind (first_lines subject) rest n rest' m (conditions_compared table subject.construction subject.goals [] [] 1 steps subject.conditions rest rest' n m h g))

  begun_in_whole : (xs ys : List Line) (n : Next) (verdict : Verdict) (left : ℕ) → IsBegun table subject steps xs n → IsLogOfProver table subject steps ys verdict left → IsAhead xs n ys
  begun_in_whole xs ys n verdict left (inl (k, a, at, e, f)) g =
      ahead_as xs (take k (first_lines subject)) ys (first_lines subject ++ g.rest) n e g.split
      (subst (λ (x : Next). IsAhead (take k (first_lines subject)) x (first_lines subject ++ g.rest)) (sym f) (take_ahead (first_lines subject) k a g.rest at))
  begun_in_whole xs ys n verdict left (inr (rest, e, h)) g =
      ahead_as xs (first_lines subject ++ rest) ys (first_lines subject ++ g.rest) n e g.split
      (ahead_behind (first_lines subject) rest n g.rest (conditions_within table subject.construction subject.goals [] [] 1 steps subject.conditions rest g.rest n verdict left h g.worked))

-- TEXTS
text_length-append : (xs ys : List Line) → text_length (xs ++ ys) ≡ text_length xs + text_length ys
text_length-append [] ys = omega arith
text_length-append (x ∷ xs) ys =
    omega (arith, text_length-append xs ys, length-append (line_text x ++ 10 ∷ []) (log_text (xs ++ ys)), length-append (line_text x ++ 10 ∷ []) (log_text xs))

-- a line behind other lines makes no text shorter
text_within : (xs : List Line) (l l' : Line) (zs ys : List Line) → comes l' ≡ comes l → ys ≡ xs ++ l ∷ zs → text_length (xs ++ l' ∷ []) ≤ text_length ys
text_within xs l l' zs ys e f =
    let same : l' ≡ l = cc in
    let whole : text_length ys ≡ text_length (xs ++ l' ∷ []) + text_length zs =
    ap text_length (f ∙ ap (λ (x : Line). xs ++ x ∷ zs) (sym same) ∙ sym (append_assoc xs (l' ∷ []) zs)) ∙ text_length-append (xs ++ l' ∷ []) zs in
    omega (arith, whole)

-- ONE DEFINED LIST
stops_once : {A : Type 0} (s : Stop) (l : Line) → stops s ≡ comes l → A
stops_once s l e = absurd (let q : stops s ≡ comes l = e in cc)

same_stop : (s s' : Stop) → stops s ≡ stops s' → s ≡ s'
same_stop s s' e = cc

module _ (table : Table) (subject : Subject) (steps : ℕ) where
  abbrev Both : List Line → List Line → Ending → Ending → Type 0
  Both xs ys e f = (xs ≡ ys) × (e ≡ f)

  stopped_alike : (xs ys : List Line) (s s' : Stop) → AreCompared xs (stops s) ys (stops s')
      → Both (xs ++ stop_line (suc (length xs)) s ∷ []) (ys ++ stop_line (suc (length ys)) s' ∷ []) (ends_by s) (ends_by s')
  stopped_alike xs ys s s' (inl h) =
      let same : s ≡ s' = same_stop s s' h.1 in
      (ap₂ (λ (ws : List Line) (x : Stop). ws ++ stop_line (suc (length ws)) x ∷ []) h.0 same, ap ends_by same)
  stopped_alike xs ys s s' (inr (inl h)) = no_stop_ahead xs s ys h
  stopped_alike xs ys s s' (inr (inr h)) = no_stop_ahead ys s' xs h

  long_alike : (xs ys : List Line) (l l' : Line) → text_length xs ≤ 67108864 → 67108864 < text_length (xs ++ l ∷ []) → text_length ys ≤ 67108864 → 67108864 < text_length (ys ++ l' ∷ [])
      → AreCompared xs (comes l) ys (comes l') → xs ≡ ys
  long_alike xs ys l l' fits long fits' long' (inl h) = h.0
  long_alike xs ys l l' fits long fits' long' (inr (inl (a, zs, e, f))) = absurd (omega (arith, text_within xs a l zs ys e f, long, fits'))
  long_alike xs ys l l' fits long fits' long' (inr (inr (a, zs, e, f))) = absurd (omega (arith, text_within ys a l' zs xs e f, long', fits))

  not_long_and_stopped : {A : Type 0} (xs ys : List Line) (s : Stop) (l : Line) → text_length xs ≤ 67108864 → 67108864 < text_length (ys ++ l ∷ []) → AreCompared xs (stops s) ys (comes l) → A
  not_long_and_stopped xs ys s l fits long (inl h) = stops_once s l h.1
  not_long_and_stopped xs ys s l fits long (inr (inl h)) = no_stop_ahead xs s ys h
  not_long_and_stopped xs ys s l fits long (inr (inr (a, zs, e, f))) = absurd (omega (arith, text_within ys a l zs xs e f, long, fits))

  not_long_and_whole : {A : Type 0} (xs ys : List Line) (l : Line) → text_length ys ≤ 67108864 → 67108864 < text_length (xs ++ l ∷ []) → IsAhead xs (comes l) ys → A
  not_long_and_whole xs ys l fits long (a, zs, e, f) = absurd (omega (arith, text_within xs a l zs ys e f, long, fits))

  on : (lines : List Line) (next : Next) → GoesOn table subject steps lines next → IsBegun table subject steps lines next
  on lines next h = goes_on table subject steps lines next h

  one_list : (xs ys : List Line) (e f : Ending) → IsDefinedLog table subject steps xs e → IsDefinedLog table subject steps ys f → Both xs ys e f
  one_list xs ys (ends_with v l) (ends_with w l') h g =
      let same = provers_log_unique table subject steps l l' xs ys v w h.0 g.0 in (same.0, ap₂ ends_with same.1 same.2)
  one_list xs ys (ends_with v l) (ends_by s) h (before, e, begun, fits) = no_stop_ahead before s xs (begun_in_whole table subject steps before xs (stops s) v l (on before (stops s) begun) h.0)
  one_list xs ys (ends_with v l) too_long h (a, begun, fits, long) = not_long_and_whole ys xs a h.1 long (begun_in_whole table subject steps ys xs (comes a) v l (on ys (comes a) begun) h.0)
  one_list xs ys (ends_by s) (ends_with v l) (before, e, begun, fits) h = no_stop_ahead before s ys (begun_in_whole table subject steps before ys (stops s) v l (on before (stops s) begun) h.0)
  one_list xs ys (ends_by s) (ends_by s') (before, e, begun, fits) (before', e', begun', fits') =
      let both = stopped_alike before before' s s'
      (begun_all table subject steps before before' (stops s) (stops s') (on before (stops s) begun) (on before' (stops s') begun')) in
      (e ∙ both.0 ∙ sym e', both.1)
  one_list xs ys (ends_by s) too_long (before, e, begun, fits) (a, begun', fits', long) =
      not_long_and_stopped before ys s a fits long (begun_all table subject steps before ys (stops s) (comes a) (on before (stops s) begun) (on ys (comes a) begun'))
  one_list xs ys too_long (ends_with v l) (a, begun, fits, long) h = not_long_and_whole xs ys a h.1 long (begun_in_whole table subject steps xs ys (comes a) v l (on xs (comes a) begun) h.0)
  one_list xs ys too_long (ends_by s) (a, begun, fits, long) (before, e, begun', fits') =
      not_long_and_stopped before xs s a fits' long (begun_all table subject steps before xs (stops s) (comes a) (on before (stops s) begun') (on xs (comes a) begun))
  one_list xs ys too_long too_long (a, begun, fits, long) (b, begun', fits', long') =
      (long_alike xs ys a b fits long fits' long' (begun_all table subject steps xs ys (comes a) (comes b) (on xs (comes a) begun) (on ys (comes b) begun')), refl)

pub defined_log_unique : DefinedLogIsUnique
defined_log_unique table subject steps lines other ending ending' h g = one_list table subject steps lines other ending ending' h g
