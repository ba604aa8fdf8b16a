-- Where a condition of a program is given: behind which commands, and behind which other conditions.
use Rattle.std.proofs.Common.{◌≡◌, ◌⊎◌, inl, inr, ⊎_elim, ℕ, suc, ◌+◌, List, [], ◌∷◌, ◌++◌, append-nil, length, refl, sym, ◌∙◌, ap, subst, arith}
use Rattle.std.specs.List.{AllByRecursion}
use Rattle.std.proofs.lemmas.List.{append_assoc}
use Rattle.geo_points.specs.declared.ids.PointId.{PointId}
use Rattle.geo_program.specs.declared.commands.Command.{Command}
use Rattle.geo_program.specs.declared.commands.Command.TheVariants.{Oncircle, Second, Cc}
use Rattle.geo_program.specs.declared.names.NameKind.TheVariants as kind
use Rattle.geo_program.specs.WellFormed.{Source, IsWellFormed}
use Rattle.geo_terms.specs.Stores.{Store}
use Rattle.geo_lowering.specs.Conditions.{Condition, command_conditions, early_conditions, late_conditions}
use Rattle.geo_lowering.specs.Counting.{named, counted, points_from}
use Rattle.geo_lowering.proofs.ConditionValues.{each_append, each_back, each_front}
use Rattle.geo_lowering.proofs.Exists.{params_past, lines_past}
use Rattle.geo_lowering.proofs.Laying.{AreNamed, named_program}
use Rattle.geo_conditions.specs.Lists.{Found, all_found, found_at, found_from}
use Rattle.geo_conditions.specs.Statements.{statement_conditions}
use Rattle.geo_conditions.proofs.Agreement.{IsConditionOver}
use Rattle.geo_conditions.proofs.ConditionScopes.{FoundOver, at_line, command_over, early_over, program_over}
use Rattle.log_checker.proofs.Origins.{among, none_there, parted_by, single}
use Rattle.log_checker.proofs.Prefixes.{found_append}

-- the conditions of a line
on_line : (line : ℕ) (cs : List Condition) → AllByRecursion (λ (f : Found). f.line ≡ line) (found_at line cs)
on_line line [] = tt
on_line line (c ∷ cs) = (refl, on_line line cs)

at_its_line : (P : Condition → Type 0) (line : ℕ) (cs : List Condition) → AllByRecursion P cs → AllByRecursion (λ (f : Found). P f.condition) (found_at line cs)
at_its_line P line [] h = tt
at_its_line P line (c ∷ cs) h = (h.0, at_its_line P line cs h.1)

-- a command gives one condition on its own point at most
abbrev IsFew : List Condition → Type 0
IsFew [] = Unit {0}
IsFew (c ∷ []) = Unit {0}
IsFew (c ∷ d ∷ cs) = ⊥

late_few : (x : PointId) (c : Command) → IsFew (late_conditions x c)
late_few x (Oncircle o a) = tt
late_few x (Second a b o) = tt
late_few x (Cc o p a) = tt
late_few x _ = tt

one_late : (line : ℕ) (cs : List Condition) → IsFew cs → (ys us : List Found) (f : Found) → found_at line cs ≡ ys ++ f ∷ us → cs ≡ f.condition ∷ []
one_late line [] few ys us f e = none_there f ys us e
one_late line (c ∷ []) few ys us f e = ap (λ (g : Found). g.condition ∷ []) (single (record { condition = c; line = line }) f ys us e)
one_late line (c ∷ d ∷ cs) few ys us f e = absurd few

module _ (nodes : Store) (M : Condition → Type 0) where
  abbrev Hold : List Found → Type 0
  Hold fs = AllByRecursion (λ (g : Found). M g.condition) fs

  -- the condition is that of the point of the last of the first commands
  pub record IsLate (x line : ℕ) (first : List Command) (f : Found) : Type 0 where
    pub before : List Command
    pub command : Command
    pub whole : first ≡ before ++ command ∷ []
    pub at : f.line ≡ line + length before
    pub late : late_conditions (record { 0 = points_from x before }) command ≡ f.condition ∷ []

  -- the condition is over what the first commands name, all conditions of these hold, and they are those above its line, or those up to it
  pub record IsGiven (cs : List Command) (x y j line : ℕ) (f : Found) : Type 0 where
    pub first : List Command
    pub rest : List Command
    pub whole : cs ≡ first ++ rest
    pub over : IsConditionOver (points_from x first) (params_past y first) (lines_past j first) f.condition
    pub held : Hold (found_from nodes x line first)
    pub at : (f.line ≡ line + length first) ⊎ IsLate x line first f

  given_at : (c : Command) (cs : List Command) (x y j line : ℕ) (f : Found)
      → Hold (found_at line (command_conditions nodes (record { 0 = x }) c))
      → IsGiven cs (counted kind.Point (named c) x) (counted kind.Param (named c) y) (counted kind.Line (named c) j) (suc line) f → IsGiven (c ∷ cs) x y j line f
  given_at c cs x y j line f here g = record {
    first = c ∷ g.first;
    rest = g.rest;
    whole = ap (λ ds. c ∷ ds) g.whole;
    over = g.over;
    held = each_append (λ (h : Found). M h.condition) (found_at line (command_conditions nodes (record { 0 = x }) c))
        (found_from nodes (counted kind.Point (named c) x) (suc line) g.first) here g.held;
    at = ⊎_elim
        (λ (e : f.line ≡ suc line + length g.first).
        let s : f.line ≡ line + suc (length g.first) = omega (arith, e) in inl s)
        (λ (h : IsLate (counted kind.Point (named c) x) (suc line) g.first f).
        let s : f.line ≡ line + suc (length h.before) = let e = h.at in omega (arith, e) in
        inr (record { before = c ∷ h.before; command = h.command; whole = ap (λ ds. c ∷ ds) h.whole; at = s; late = h.late })) g.at;
  }

  -- a condition that is given with those before it is given behind the first commands, or stands behind all conditions of the commands
  abbrev IsBehind : List Command → ℕ → ℕ → List Found → List Found → Found → List Found → Type 0
  IsBehind cs x line tail ys f zs = (vs : List Found) × (ys ≡ found_from nodes x line cs ++ vs) × (tail ≡ vs ++ f ∷ zs)

  pub given : (cs : List Command) (x y j line : ℕ) → AreNamed nodes x y j cs → (tail ys zs : List Found) (f : Found)
      → found_from nodes x line cs ++ tail ≡ ys ++ f ∷ zs → Hold ys → M f.condition → IsGiven cs x y j line f ⊎ IsBehind cs x line tail ys f zs
  given [] x y j line k tail ys zs f e held m = inr (ys, refl, e)
  given (c ∷ cs) x y j line k tail ys zs f e held m =
      let x' = counted kind.Point (named c) x in
      let early = early_conditions nodes c in let late = late_conditions (record { 0 = x }) c in
      let E = found_at line early in let L = found_at line late in
      let R = found_from nodes x' (suc line) cs in
      let both : found_at line (early ++ late) ≡ E ++ L = found_append line early late in
      let P : Found → Type 0 = λ h. M h.condition in
      let whole : E ++ (L ++ (R ++ tail)) ≡ ys ++ f ∷ zs =
      sym (append_assoc E L (R ++ tail)) ∙ ap (λ fs. fs ++ (R ++ tail)) (sym both) ∙ sym (append_assoc (found_at line (early ++ late)) R tail) ∙ e in
      ⊎_elim
      (λ (h : (us : List Found) × (E ≡ ys ++ f ∷ us)).
      inl (record {
        first = [];
        rest = c ∷ cs;
        whole = refl;
        over = among (λ (g : Found). IsConditionOver x y j g.condition) E ys h.0 f h.1 (at_line x y j line early (early_over nodes x y j c k.0));
        held = tt;
        at = let q = among (λ (g : Found). g.line ≡ line) E ys h.0 f h.1 (on_line line early) in let s : f.line ≡ line + 0 = omega (arith, q) in inl s;
      }))
      (λ (h : (vs : List Found) × (ys ≡ E ++ vs) × (L ++ (R ++ tail) ≡ vs ++ f ∷ zs)).
      let held_E = each_front P E h.0 (subst Hold h.1 held) in
      let held_vs = each_back P E h.0 (subst Hold h.1 held) in
      ⊎_elim
      (λ (g : (us : List Found) × (L ≡ h.0 ++ f ∷ us)).
      let one : late ≡ f.condition ∷ [] = one_late line late (late_few (record { 0 = x }) c) h.0 g.0 f g.1 in
      let held_L : Hold L = at_its_line M line late (subst (AllByRecursion M) (sym one) (m, tt)) in
      let over = at_line x' (counted kind.Param (named c) y) (counted kind.Line (named c) j) line (command_conditions nodes (record { 0 = x }) c) (command_over nodes x y j c k.0) in
      let late_over = each_back (λ (g : Found). IsConditionOver x' (counted kind.Param (named c) y) (counted kind.Line (named c) j) g.condition) E L
      (subst (FoundOver x' (counted kind.Param (named c) y) (counted kind.Line (named c) j)) both over) in
      inl (record {
        first = c ∷ [];
        rest = cs;
        whole = refl;
        over = among (λ (g : Found). IsConditionOver x' (counted kind.Param (named c) y) (counted kind.Line (named c) j) g.condition) L h.0 g.0 f g.1 late_over;
        held = each_append P (found_at line (early ++ late)) [] (subst Hold (sym both) (each_append P E L held_E held_L)) tt;
        at = let q = among (λ (g : Found). g.line ≡ line) L h.0 g.0 f g.1 (on_line line late) in
            let s : f.line ≡ line + 0 = omega (arith, q) in
            inr (record { before = []; command = c; whole = refl; at = s; late = one });
      }))
      (λ (g : (ws : List Found) × (h.0 ≡ L ++ ws) × (R ++ tail ≡ ws ++ f ∷ zs)).
      let held_L = each_front P L g.0 (subst Hold g.1 held_vs) in
      let held_ws = each_back P L g.0 (subst Hold g.1 held_vs) in
      let here : Hold (found_at line (early ++ late)) = subst Hold (sym both) (each_append P E L held_E held_L) in
      ⊎_elim (λ (s : IsGiven cs x' (counted kind.Param (named c) y) (counted kind.Line (named c) j) (suc line) f). inl (given_at c cs x y j line f here s))
      (λ (s : IsBehind cs x' (suc line) tail g.0 f zs).
      let split : ys ≡ (found_at line (early ++ late) ++ R) ++ s.0 =
      h.1 ∙ ap (λ fs. E ++ fs) (g.1 ∙ ap (λ fs. L ++ fs) s.1) ∙ sym (append_assoc E L (R ++ s.0)) ∙ ap (λ fs. fs ++ (R ++ s.0)) (sym both) ∙ sym (append_assoc (found_at line (early ++ late)) R s.0) in
      inr (s.0, split, s.2))
      (given cs x' (counted kind.Param (named c) y) (counted kind.Line (named c) j) (suc line) k.1 tail g.0 zs f g.2 held_ws m))
      (parted_by L (R ++ tail) h.0 zs f h.2))
      (parted_by E (L ++ (R ++ tail)) ys zs f whole)

-- so it is for the whole program, where the statement's conditions come last
pub given_in : (p : Source) (M : Condition → Type 0) → IsWellFormed p → (ys zs : List Found) (f : Found) → all_found p ≡ ys ++ f ∷ zs
    → AllByRecursion (λ (g : Found). M g.condition) ys → M f.condition → IsGiven p.nodes M p.commands 0 0 0 1 f
given_in p M w ys zs f e held m =
    let F = found_from p.nodes 0 1 p.commands in
    let line = suc (length p.commands) in
    let cs = statement_conditions p.nodes p.statement in
    ⊎_elim (λ (g : IsGiven p.nodes M p.commands 0 0 0 1 f). g)
    (λ (h : IsBehind p.nodes M p.commands 0 1 (found_at line cs) ys f zs).
    let X = points_from 0 p.commands in let Y = params_past 0 p.commands in let J = lines_past 0 p.commands in
    let q = among (λ (g : Found). g.line ≡ line) (found_at line cs) h.0 zs f h.2 (on_line line cs) in
    let s : f.line ≡ 1 + length p.commands = omega (arith, q) in
    let made : IsGiven p.nodes M p.commands 0 0 0 1 f = record {
      first = p.commands;
      rest = [];
      whole = sym (append-nil p.commands);
      over = among (λ (g : Found). IsConditionOver X Y J g.condition) (all_found p) ys zs f e (program_over p w (named_program p w));
      held = each_front (λ (g : Found). M g.condition) F h.0 (subst (AllByRecursion (λ (g : Found). M g.condition)) h.1 held);
      at = inl s;
    } in made)
    (given p.nodes M p.commands 0 0 0 1 (named_program p w) (found_at line cs) ys zs f e held m)
