-- What is asked has the same outcome for programs that are the same.
use Rattle.std.proofs.Common.{◌≡◌, ◌≢◌, ℕ, suc, ◌+◌, ◌-◌, Contains, inl, inr, if◌then◌else◌, length, map, List, [], ◌∷◌, ◌++◌, sym, ◌∙◌, ap, subst, subst₂}
use Rattle.std.specs.List.{flat_map}
use Rattle.geo_poly.specs.declared.variables.Var.{Var}
use Rattle.geo_poly.specs.PolynomialVariables.{variables_of}
use Rattle.geo_terms.specs.Constructions.{Construction}
use Rattle.geo_terms.specs.Trees.{Tree}
use Rattle.geo_program.specs.FormTexts.{form_text}
use Rattle.geo_program.specs.Spelling.{SameSource}
use Rattle.geo_program.specs.WellFormed.{Source}
use Rattle.geo_lowering.specs.Lowering.{IsLowered, Layout, layout_of, renamed}
use Rattle.geo_lowering.specs.declared.version.Version.TheVariants.{Two}
use Rattle.geo_lowering.proofs.Alike.{lowered_forms_agree, same_programs_lower_alike}
use Rattle.geo_conditions.specs.Lists.{Found, IsListed, all_found, condition_form}
use Rattle.geo_conditions.specs.Terms.{condition_term}
use Rattle.geo_conditions.proofs.Listings.{listed_once}
use Rattle.geo_conditions.proofs.Sightings.{same_found, same_layout}
use Rattle.elim_apply.specs.LemmaTable.{lemma_table}
use Rattle.proof_log.specs.declared.log.Line.{Line}
use Rattle.geo_logs.specs.Chains.{Chain, chain_lines}
use Rattle.geo_logs.specs.Defined.{IsDefinedChain, LeadsBySteps}
use Rattle.geo_logs.specs.Ends.{IsNext, stops}
use Rattle.geo_logs.specs.Moves.{Stop}
use Rattle.geo_logs.specs.Places.{IsBegunChain, Place}
use Rattle.geo_logs.specs.Samples.{IsLeastSample}
use Rattle.geo_logs.specs.Starts.{start_charge, start_of}
use Rattle.log_checker.proofs.AlikeLogs.{defined_alike, next_line_alike, steps_alike}
use Rattle.log_checker.proofs.AlikeSteps.{AlikeConstructions}
use Rattle.geo_library.specs.Figures.{Figure, IsFigureChain, IsFigureOf, tells_quantity}
use Rattle.geo_library.specs.Instances.{Asked, AskedAt, asks_condition, asks_goal, asks_statement, condition_texts, statement_text}
use Rattle.geo_library.specs.SameLaws.{FiguresAgree}
use Rattle.geo_library.specs.Working.{ArePassed, IsChainStopped, IsFailed, IsFirstMiss, IsPassed, IsStoppedAt, Miss, Progress, counted_header, counted_lines}

-- the variables that conditions tell, over a layout
abbrev known_over : Layout → List Found → List Var
known_over l conditions = flat_map (λ f. if tells_quantity f.condition then variables_of (start_of (condition_term l f.condition)) else []) conditions

-- lines begin a chain of the term, and this stop comes next
abbrev AreStopped : Construction → List Var → ℕ → Tree → List Line → Stop → Type 0
AreStopped c known left e lines stop =
    (place : Place) × IsBegunChain (LeadsBySteps lemma_table c) (IsDefinedChain lemma_table c) (IsLeastSample c) counted_header known left e lines place
    × IsNext lemma_table c place (stops stop)

stopped_alike : (c d : Construction) (known : List Var) (left : ℕ) (e : Tree) (lines : List Line) (stop : Stop) → AlikeConstructions c d
    → AreStopped c known left e lines stop → AreStopped d known left e lines stop
stopped_alike c d known left e lines stop a h = (h.0, by h.1, next_line_alike c d a h.0 (stops stop) h.2)
  where
    by : IsBegunChain (LeadsBySteps lemma_table c) (IsDefinedChain lemma_table c) (IsLeastSample c) counted_header known left e lines h.0
        → IsBegunChain (LeadsBySteps lemma_table d) (IsDefinedChain lemma_table d) (IsLeastSample d) counted_header known left e lines h.0
    by (inl g) = inl g
    by (inr (inl g)) = inr (inl g)
    by (inr (inr g)) = inr (inr (record {
      steps = g.steps;
      after = g.after;
      last = g.last;
      started = g.started;
      leads = steps_alike c d a known (left - start_charge e) (start_of e) g.steps g.after g.last g.leads;
      split = g.split;
      stands = g.stands;
    }))

module _ (p q : Source) (one other : Figure) (s : SameSource p q) (f : IsFigureOf p one) (g : IsFigureOf q other) where
  layouts : layout_of Two p.commands ≡ layout_of Two q.commands
  layouts = same_layout p q s Two

  alike : AlikeConstructions one.construction other.construction
  alike =
      let same = lowered_forms_agree Two q f.form g.form (same_programs_lower_alike Two p q f.form s f.lowered) g.lowered in
      subst₂ AlikeConstructions (sym f.same_construction) (sym g.same_construction) (record { steps = same.steps; params = same.numbers })

  conditions : f.conditions ≡ g.conditions
  conditions =
      listed_once (λ (k : Found). k.condition) (all_found q) [] f.conditions g.conditions
      (subst (λ (fs : List Found). IsListed (λ (k : Found). k.condition) [] fs f.conditions) (same_found p q s) f.listed) g.listed

  known : one.known ≡ other.known
  known = f.same_known ∙ (λ i. known_over (layouts i) (conditions i)) ∙ sym g.same_known

  texts : condition_texts p ≡ condition_texts q
  texts = λ i. map (λ k. form_text (s.names i) (condition_form k.condition)) (same_found p q s i)

  statement : statement_text p ≡ statement_text q
  statement = λ i. form_text (s.names i) (s.statement i)

  chains : (left : ℕ) (e : Tree) (chain : Chain) (after : ℕ) → IsFigureChain p one left e chain after → IsFigureChain q other left e chain after
  chains left e chain after h =
      subst₂ (λ (vs : List Var) (l : Layout). IsDefinedChain lemma_table other.construction vs left (renamed l e) chain after) known layouts
      (defined_alike one.construction other.construction alike one.known left (renamed (layout_of Two p.commands) e) chain after h)

  stops_alike : (left : ℕ) (e : Tree) (lines : List Line) (stop : Stop) → IsChainStopped p one left e lines stop → IsChainStopped q other left e lines stop
  stops_alike left e lines stop h =
      let found = subst₂ (λ (vs : List Var) (l : Layout). AreStopped other.construction vs left (renamed l e) lines stop) known layouts
      (stopped_alike one.construction other.construction one.known left (renamed (layout_of Two p.commands) e) lines stop alike (h.place, h.begun, h.next)) in
      record { place = found.0; begun = found.1; next = found.2 }

  passed_alike : (now end : Progress) (a : Asked) → IsPassed p one now a end → IsPassed q other now a end
  passed_alike now end (asks_condition text) h = (subst (λ (ts : List (List ℕ)). Contains ts text) texts h.0, h.1)
  passed_alike now end (asks_goal e) h = (
    h.0,
    chains now.left e h.0 end.left h.1,
    h.2,
    h.3 ∙ ap (λ (l : Layout). now.lines + length (chain_lines counted_header (renamed l e) h.0)) layouts,
  )
  passed_alike now end (asks_statement text) h = (h.0 ∙ statement, h.1)

  failed_alike : (now : Progress) (a : Asked) → IsFailed p one now a → IsFailed q other now a
  failed_alike now (asks_condition text) h = λ c. h (subst (λ (ts : List (List ℕ)). Contains ts text) (sym texts) c)
  failed_alike now (asks_goal e) h = (h.0, h.1, chains now.left e h.0 h.1 h.2, h.3)
  failed_alike now (asks_statement text) h = λ e. h (e ∙ sym statement)

  stopped_at_alike : (now : Progress) (a : Asked) (number : ℕ) (stop : Stop) → IsStoppedAt p one now a number stop → IsStoppedAt q other now a number stop
  stopped_at_alike now (asks_condition text) number stop h = h
  stopped_at_alike now (asks_goal e) number stop h = (h.0, stops_alike now.left e h.0 stop h.1, h.2)
  stopped_at_alike now (asks_statement text) number stop h = h

  all_passed_alike : (now end : Progress) (asked : List AskedAt) → ArePassed p one now asked end → ArePassed q other now asked end
  all_passed_alike now end [] h = h
  all_passed_alike now end (a ∷ more) h = (h.0, passed_alike now h.0 a.asked h.1, all_passed_alike h.0 end more h.2)

  missed_alike : (now : Progress) (asked : List AskedAt) (miss : Miss) → IsFirstMiss p one now asked miss → IsFirstMiss q other now asked miss
  missed_alike now [] miss h = h
  missed_alike now (a ∷ more) miss (inl h) = inl (failed_alike now a.asked h.0, h.1)
  missed_alike now (a ∷ more) miss (inr (inl h)) = inr (inl (h.0, h.1, stopped_at_alike now a.asked h.0 h.1 h.2, h.3))
  missed_alike now (a ∷ more) miss (inr (inr h)) = inr (inr (h.0, passed_alike now h.0 a.asked h.1, missed_alike h.0 more miss h.2))

pub figures_agree : FiguresAgree
figures_agree = record {
  passed = λ p q one other now end asked s f g h. all_passed_alike p q one other s f g now end asked h;
  missed = λ p q one other now asked miss s f g h. missed_alike p q one other s f g now asked miss h;
}
