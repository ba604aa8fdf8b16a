-- Lines: each has one text, and each lead tells its lines.
use Rattle.std.proofs.Common.{◌≡◌, ℕ, ◌+◌, ◌<◌, ◌≤◌, true, false, cond, eqb, List, [], ◌∷◌, ◌++◌, get_or, refl, sym, ap, ◌∙◌, subst, arith, lit≤, lit<, below_more}
use Rattle.std.specs.Prelude.{codes, Option, Some, None, OnSome, is_some, Result, Ok, Err, IfOk}
use Rattle.proof_log.specs.declared.errors.LineError.{LineError}
use Rattle.std.proofs.lemmas.List.{append_cancel_left}
use Rattle.geo_poly.specs.declared.limits.Which.{Which}
use Rattle.proof_log.specs.declared.log.Line.{Line}
use Rattle.proof_log.specs.declared.log.Line.TheVariants.{Header, Program, Condition, Goal, Start, Ratio, Point, Coords, Cut, Sample, Verdict as VerdictLine, StopTooLarge, StopSpent}
use Rattle.proof_log.specs.declared.log.Verdict.TheVariants.{False, Impossible}
use Rattle.proof_log.specs.declared.leads.Lead.{Lead}
use Rattle.proof_log.specs.declared.leads.Lead.TheVariants.{Header as HeaderLead, Program as ProgramLead, Condition as ConditionLead}
use Rattle.proof_log.specs.declared.leads.Lead.TheVariants.{Goal as GoalLead, Start as StartLead, Ratio as RatioLead, Point as PointLead}
use Rattle.proof_log.specs.declared.leads.Lead.TheVariants.{Coords as CoordsLead, Cut as CutLead, End as EndLead, Sample as SampleLead}
use Rattle.proof_log.specs.declared.leads.Lead.TheVariants.{Proved as ProvedLead, False as FalseLead, Impossible as ImpossibleLead}
use Rattle.proof_log.specs.declared.leads.Lead.TheVariants.{TooLarge as TooLargeLead, Spent as SpentLead}
use Rattle.proof_log.specs.Lines.{line_text}
use Rattle.proof_log.specs.Writable.{IsWritable}
use Rattle.proof_log.specs.Inner.Reading.{Begins, NoneBegins, StopsAt}
use Rattle.proof_log.specs.Inner.Leads.{IsBody, body_text, is_no_byte, lead_of, lead_text, leads, lemmas, results}
use Rattle.proof_log.proofs.Runs.{Unique}
use Rattle.proof_log.proofs.Unique.{small_unique, variables_unique}
use Rattle.proof_log.proofs.UniqueTerms.{factors_unique, polynomials_unique, value_lists_unique}
use Rattle.proof_log.proofs.Bodies.{IsCutLine, IsPointLine, IsRatioLine, header_body, program_body, condition_body, goal_body, start_body}
use Rattle.proof_log.proofs.Bodies.{ratio_body, point_body, coords_body, cut_body, end_body, sample_body, proved_body, false_body}
use Rattle.proof_log.proofs.Bodies.{impossible_body, too_large_body, spent_body, heads_unique, last_unique, lemmas_unique, line_parts}
use Rattle.proof_log.proofs.Bodies.{results_unique, stops_unique, text_is, versions_unique}

-- LEADS

-- the lead that stands at the beginning of a line
lead_from : List ℕ → Lead
lead_from bytes =
    let b = λ (i : ℕ). get_or bytes i 0 in
    cond (eqb (b 0) 103) (cond (eqb (b 1) 101) HeaderLead GoalLead)
    (cond (eqb (b 0) 124) ProgramLead
    (cond (eqb (b 0) 99) (cond (eqb (b 1) 117) CutLead (cond (eqb (b 2) 110) ConditionLead CoordsLead))
    (cond (eqb (b 0) 115) (cond (eqb (b 1) 97) SampleLead (cond (eqb (b 2) 97) StartLead (cond (eqb (b 5) 116) TooLargeLead SpentLead)))
    (cond (eqb (b 0) 114) RatioLead
    (cond (eqb (b 0) 112) PointLead
    (cond (eqb (b 0) 101) EndLead
    (cond (eqb (b 8) 112) ProvedLead (cond (eqb (b 8) 102) FalseLead ImpossibleLead))))))))

lead_from-text : (lead : Lead) (r : List ℕ) → lead_from (lead_text lead ++ r) ≡ lead
unfolding lead_from
lead_from-text HeaderLead r = refl
lead_from-text ProgramLead r = refl
lead_from-text ConditionLead r = refl
lead_from-text GoalLead r = refl
lead_from-text StartLead r = refl
lead_from-text RatioLead r = refl
lead_from-text PointLead r = refl
lead_from-text CoordsLead r = refl
lead_from-text CutLead r = refl
lead_from-text EndLead r = refl
lead_from-text SampleLead r = refl
lead_from-text ProvedLead r = refl
lead_from-text FalseLead r = refl
lead_from-text ImpossibleLead r = refl
lead_from-text TooLargeLead r = refl
lead_from-text SpentLead r = refl

pub leads_unique : Unique leads
leads_unique bytes a b r s h k =
    let same : a ≡ b = sym (lead_from-text a r) ∙ ap lead_from (sym h.spelt ∙ k.spelt) ∙ lead_from-text b s in
    let e : lead_text a ++ r ≡ lead_text a ++ s = sym h.spelt ∙ k.spelt ∙ ap (λ l. lead_text l ++ s) (sym same) in
    (same, append_cancel_left (lead_text a) r s e)

pub anything_follows : (r : List ℕ) → StopsAt is_no_byte r
anything_follows [] = tt
anything_follows (b ∷ bs) = refl

-- what holds where there is a value
pub on_some : {A : Type 0} (r : Option A) (Q : Type 0) → is_some r ≡ true → OnSome r Q → Q
on_some None Q e h = let f : false ≡ true = e in absurd (cc)
on_some (Some x) Q e h = h

-- the leads, one after another
abbrev pub all_leads : List Lead
all_leads = HeaderLead ∷ ProgramLead ∷ ConditionLead ∷ GoalLead ∷ StartLead ∷ RatioLead ∷ PointLead ∷ CoordsLead ∷ CutLead ∷ EndLead
    ∷ SampleLead ∷ ProvedLead ∷ FalseLead ∷ ImpossibleLead ∷ TooLargeLead ∷ SpentLead ∷ []

-- so many of them do not stand at the beginning of the bytes, and the reader is still there
pub record AreLeadsPassed (s0 now : List ℕ) (items : List Lead) (count : ℕ) : Type 0 where
  pub same : now ≡ s0
  pub items_are : items ≡ all_leads
  pub none : (k : ℕ) → k < count → (rest : List ℕ) → s0 ≡ lead_text (get_or all_leads k HeaderLead) ++ rest → ⊥

pub leads_begin : (s0 : List ℕ) (items : List Lead) → items ≡ all_leads → AreLeadsPassed s0 s0 items 0
leads_begin s0 items e = record { same = refl; items_are = e; none = λ k below. absurd (omega arith) }

pub leads_step : (s0 now next : List ℕ) (items : List Lead) (i : ℕ) (lead : Lead) → AreLeadsPassed s0 now items i
    → lead ≡ get_or items i HeaderLead → next ≡ now → ((rest : List ℕ) → now ≡ lead_text lead ++ rest → ⊥)
    → AreLeadsPassed s0 next items (i + 1)
leads_step s0 now next items i lead h is kept none = record {
  same = kept ∙ h.same;
  items_are = h.items_are;
  none = below_more _ _ h.none (λ rest e. none rest (h.same ∙ e ∙ ap (λ l. lead_text l ++ rest) (sym (is ∙ ap (λ l. get_or l i HeaderLead) h.items_are))));
}

pub lead_read : (s0 now next : List ℕ) (items : List Lead) (i : ℕ) (lead : Lead) → AreLeadsPassed s0 now items i → now ≡ lead_text lead ++ next → Begins leads s0 lead next
lead_read s0 now next items i lead h e = record { spelt = sym h.same ∙ e; fits = tt; stops = anything_follows next }

-- none of them stands there
pub leads_end : (s0 now : List ℕ) (items : List Lead) (count : ℕ) → 16 ≤ count → AreLeadsPassed s0 now items count → NoneBegins leads s0
leads_end s0 now items count all h HeaderLead r b = h.none 0 (let less : 0 < 16 = lit< tt in omega arith) r b.spelt
leads_end s0 now items count all h ProgramLead r b = h.none 1 (let less : 1 < 16 = lit< tt in omega arith) r b.spelt
leads_end s0 now items count all h ConditionLead r b = h.none 2 (let less : 2 < 16 = lit< tt in omega arith) r b.spelt
leads_end s0 now items count all h GoalLead r b = h.none 3 (let less : 3 < 16 = lit< tt in omega arith) r b.spelt
leads_end s0 now items count all h StartLead r b = h.none 4 (let less : 4 < 16 = lit< tt in omega arith) r b.spelt
leads_end s0 now items count all h RatioLead r b = h.none 5 (let less : 5 < 16 = lit< tt in omega arith) r b.spelt
leads_end s0 now items count all h PointLead r b = h.none 6 (let less : 6 < 16 = lit< tt in omega arith) r b.spelt
leads_end s0 now items count all h CoordsLead r b = h.none 7 (let less : 7 < 16 = lit< tt in omega arith) r b.spelt
leads_end s0 now items count all h CutLead r b = h.none 8 (let less : 8 < 16 = lit< tt in omega arith) r b.spelt
leads_end s0 now items count all h EndLead r b = h.none 9 (let less : 9 < 16 = lit< tt in omega arith) r b.spelt
leads_end s0 now items count all h SampleLead r b = h.none 10 (let less : 10 < 16 = lit< tt in omega arith) r b.spelt
leads_end s0 now items count all h ProvedLead r b = h.none 11 (let less : 11 < 16 = lit< tt in omega arith) r b.spelt
leads_end s0 now items count all h FalseLead r b = h.none 12 (let less : 12 < 16 = lit< tt in omega arith) r b.spelt
leads_end s0 now items count all h ImpossibleLead r b = h.none 13 (let less : 13 < 16 = lit< tt in omega arith) r b.spelt
leads_end s0 now items count all h TooLargeLead r b = h.none 14 (let less : 14 < 16 = lit< tt in omega arith) r b.spelt
leads_end s0 now items count all h SpentLead r b = h.none 15 (let less : 15 < 16 = lit< tt in omega arith) r b.spelt

-- the lead of a line stands at its beginning
pub line_leads : (bytes : List ℕ) (l : Line) → bytes ≡ line_text l → Begins leads bytes (lead_of l) (body_text l)
line_leads bytes l e = record { spelt = e ∙ line_parts l; fits = tt; stops = anything_follows (body_text l) }

-- a line that is due has a lead
pub no_lead : (bytes : List ℕ) → NoneBegins leads bytes → (l : Line) → IsWritable l → bytes ≡ line_text l → ⊥
no_lead bytes none l writable e = none (lead_of l) (body_text l) (line_leads bytes l e)

-- a line that is due has the lead that is read, and the rest is what follows it
pub due_body : (bytes rest : List ℕ) (lead : Lead) (l : Line) → Begins leads bytes lead rest → IsWritable l → bytes ≡ line_text l → IsBody lead rest l
due_body bytes rest lead l h writable e =
    let same = leads_unique bytes lead (lead_of l) rest (body_text l) h (line_leads bytes l e) in
    record { writable = writable; lead_is = sym same.0; spelt = same.1 }

-- and the other way round
pub line_from_body : (bytes rest : List ℕ) (lead : Lead) (l : Line) → Begins leads bytes lead rest → IsBody lead rest l → bytes ≡ line_text l
line_from_body bytes rest lead l h b =
    h.spelt ∙ ap (λ k. lead_text k ++ rest) (sym b.lead_is) ∙ ap (λ r. lead_text (lead_of l) ++ r) b.spelt ∙ sym (line_parts l)

-- LINES OF SEVERAL PARTS

same_point : (bytes : List ℕ) (l m : Line) → IsPointLine bytes l → IsPointLine bytes m → l ≡ m
same_point bytes l m a b =
    let one = small_unique bytes a.at.0 b.at.0 a.rest b.rest a.number b.number in
    let P : List ℕ → Type 0 = λ r. Begins results r b.poly [] in
    let two = results_unique a.rest a.poly b.poly a.result (subst P (sym one.1) b.result) in
    a.is ∙ (λ i. Point (record { 0 = one.0 i }) (two i)) ∙ sym b.is

same_cut : (bytes : List ℕ) (l m : Line) → IsCutLine bytes l → IsCutLine bytes m → l ≡ m
same_cut bytes l m a b =
    let one = factors_unique bytes a.by b.by a.rest b.rest a.factor b.factor in
    let P : List ℕ → Type 0 = λ r. Begins results r b.poly [] in
    let two = results_unique a.rest a.poly b.poly a.result (subst P (sym one.1) b.result) in
    a.is ∙ (λ i. Cut (one.0 i) (two i)) ∙ sym b.is

by_off : (a b : List ℕ) → codes " by " ++ a ≡ codes " by " ++ b → a ≡ b
by_off a b e = cc

same_ratio : (bytes : List ℕ) (l m : Line) → IsRatioLine bytes l → IsRatioLine bytes m → l ≡ m
same_ratio bytes l m a b =
    let one = variables_unique bytes a.var b.var (codes " by " ++ a.rest) (codes " by " ++ b.rest) a.variable b.variable in
    let rest = by_off a.rest b.rest one.1 in
    let P : List ℕ → Type 0 = λ r. Begins lemmas r b.lemma b.behind in
    let two = lemmas_unique a.rest a.lemma b.lemma a.behind b.behind a.read_lemma (subst P (sym rest) b.read_lemma) in
    let Q : List ℕ → Type 0 = λ r. Begins results r b.poly [] in
    let three = results_unique a.behind a.poly b.poly a.result (subst Q (sym two.1) b.result) in
    a.is ∙ (λ i. Ratio (one.0 i) (two.0 i).0 (two.0 i).1 (three i)) ∙ sym b.is

-- ONE LINE

-- two lines with one lead and one body are the same
same_body : (lead : Lead) (bytes : List ℕ) (l m : Line) → IsBody lead bytes l → IsBody lead bytes m → l ≡ m
same_body HeaderLead bytes l m h k =
    let a = header_body bytes l h in let b = header_body bytes m k in
    a.1 ∙ ap Header (versions_unique bytes a.0 b.0 a.2 b.2) ∙ sym b.1
same_body ProgramLead bytes l m h k =
    let a = program_body bytes l h in let b = program_body bytes m k in
    a.1 ∙ ap Program (sym (text_is bytes a.0 [] a.2).0 ∙ (text_is bytes b.0 [] b.2).0) ∙ sym b.1
same_body ConditionLead bytes l m h k =
    let a = condition_body bytes l h in let b = condition_body bytes m k in
    a.1 ∙ ap (λ (p : ℕ × List ℕ). Condition p.0 p.1) (heads_unique bytes a.0 b.0 a.2 b.2) ∙ sym b.1
same_body GoalLead bytes l m h k =
    let a = goal_body bytes l h in let b = goal_body bytes m k in
    a.1 ∙ ap (λ (p : ℕ × List ℕ). Goal p.0 p.1) (heads_unique bytes a.0 b.0 a.2 b.2) ∙ sym b.1
same_body StartLead bytes l m h k =
    let a = start_body bytes l h in let b = start_body bytes m k in
    a.1 ∙ ap Start (polynomials_unique bytes a.0 b.0 [] [] a.2 b.2).0 ∙ sym b.1
same_body RatioLead bytes l m h k = same_ratio bytes l m (ratio_body bytes l h) (ratio_body bytes m k)
same_body PointLead bytes l m h k = same_point bytes l m (point_body bytes l h) (point_body bytes m k)
same_body CoordsLead bytes l m h k =
    let a = coords_body bytes l h in let b = coords_body bytes m k in
    a.1 ∙ ap Coords (polynomials_unique bytes a.0 b.0 [] [] a.2 b.2).0 ∙ sym b.1
same_body CutLead bytes l m h k = same_cut bytes l m (cut_body bytes l h) (cut_body bytes m k)
same_body EndLead bytes l m h k = (end_body bytes l h).0 ∙ sym (end_body bytes m k).0
same_body SampleLead bytes l m h k =
    let a = sample_body bytes l h in let b = sample_body bytes m k in
    a.1 ∙ ap Sample (value_lists_unique bytes a.0 b.0 [] [] a.2 b.2).0 ∙ sym b.1
same_body ProvedLead bytes l m h k = (proved_body bytes l h).0 ∙ sym (proved_body bytes m k).0
same_body FalseLead bytes l m h k =
    let a = false_body bytes l h in let b = false_body bytes m k in
    a.1 ∙ ap (λ (g : ℕ). VerdictLine (False g)) (last_unique 32 (lit≤ tt) bytes a.0 b.0 a.2 b.2) ∙ sym b.1
same_body ImpossibleLead bytes l m h k =
    let a = impossible_body bytes l h in let b = impossible_body bytes m k in
    a.1 ∙ ap (λ (g : ℕ). VerdictLine (Impossible g)) (last_unique 32 (lit≤ tt) bytes a.0 b.0 a.2 b.2) ∙ sym b.1
same_body TooLargeLead bytes l m h k =
    let a = too_large_body bytes l h in let b = too_large_body bytes m k in
    a.1 ∙ ap (λ (s : ℕ × Which). StopTooLarge s.0 s.1) (stops_unique bytes a.0 b.0 a.2 b.2) ∙ sym b.1
same_body SpentLead bytes l m h k =
    let a = spent_body bytes l h in let b = spent_body bytes m k in
    a.1 ∙ ap StopSpent (last_unique 64 (lit≤ tt) bytes a.0 b.0 a.2 b.2) ∙ sym b.1

pub lines_told : (l m : Line) → IsWritable l → IsWritable m → line_text l ≡ line_text m → l ≡ m
lines_told l m h k e =
    let a : IsBody (lead_of l) (body_text l) l = record { writable = h; lead_is = refl; spelt = refl } in
    let b = due_body (line_text l) (body_text l) (lead_of l) m (line_leads (line_text l) l refl) k e in
    same_body (lead_of l) (body_text l) l m a b

-- a line that is read is the one whose text the bytes are
pub exact_line : (r : Result Line LineError) (bytes rest : List ℕ) (lead : Lead) (l : Line) → Begins leads bytes lead rest
    → IfOk r (IsBody lead rest) → IsWritable l → bytes ≡ line_text l → IfOk r (λ m. m ≡ l)
exact_line (Err e) bytes rest lead l h b writable text = tt
exact_line (Ok m) bytes rest lead l h b writable text = lines_told m l b.writable writable (sym (line_from_body bytes rest lead m h b) ∙ text)
