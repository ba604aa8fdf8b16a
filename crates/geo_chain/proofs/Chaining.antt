-- Chains: the header, the start, the steps, the end.
use Rattle.std.proofs.Common.{◌≡◌, ℕ, ◌-◌, inl, inr, Option, Some, None, List, [], ◌∷◌, ◌++◌, map, length, refl, sym, ◌∙◌, ap, subst}
use Rattle.std.proofs.lemmas.List.{map-append}
use Rattle.fraction_poly.specs.TableRows.{HasPointsBelow}
use Rattle.geo_chain.specs.NextLines.{HasLinePointsBelow, IsNextLine, IsStepLine}
use Rattle.geo_poly.specs.declared.variables.Var.{Var}
use Rattle.geo_poly.specs.declared.variables.Var.TheVariants.{R, S, P, X, Y, T}
use Rattle.geo_poly.specs.Monomials.{Powers}
use Rattle.geo_poly.specs.Polynomials.{Summands}
use Rattle.geo_poly.specs.PolynomialVariables.{AllVariables}
use Rattle.sparse_lists.specs.SparseLists.{AllKeys}
use Rattle.geo_terms.specs.Constructions.{Construction}
use Rattle.geo_terms.specs.Trees.{Tree}
use Rattle.proof_log.specs.declared.log.Line.{Line}
use Rattle.proof_log.specs.declared.log.Line.TheVariants as line
use Rattle.proof_log.specs.Steps.{polynomial_on}
use Rattle.elim_apply.specs.LemmaTable.{lemma_table}
use Rattle.geo_logs.specs.declared.moves.Move.TheVariants.{Ratio, Point, Coords}
use Rattle.geo_logs.specs.Chains.{Chain, ChainStep, IsEnd, moves, cuts, line_of}
use Rattle.geo_logs.specs.Defined.{LeadsBySteps, NoCutDue}
use Rattle.geo_logs.specs.Ends.{comes}
use Rattle.geo_logs.specs.Logs.{only_variable}
use Rattle.geo_logs.specs.Moves.{move_charge, replacement}
use Rattle.geo_logs.specs.Naming.{IsNamed}
use Rattle.geo_logs.specs.Places.{before_line, before_start, in_chain}
use Rattle.geo_logs.specs.Starts.{IsStarted, start_charge, start_of}
use Rattle.geo_logs.proofs.TermVariables.{term_sound}
use Rattle.geo_chain.specs.declared.frame.Frame.{Frame}
use Rattle.geo_chain.specs.declared.frame.Frame.TheVariants.{Full, Fixed}
use Rattle.geo_chain.specs.FixedLogs.{LeadsInFrame}
use Rattle.geo_chain.specs.Frames.{after_step, framed}
use Rattle.geo_chain.specs.InFrame.{IsNextIn, IsNextLineIn, framed_line, leads_in, works_in}
use Rattle.geo_chain.specs.Halting.{Passes, WorksChain, WorksSteps}
use Rattle.geo_chain.specs.Parts.{IsInside, chain_part, here_part, steps_part}
use Rattle.geo_chain.specs.Written.{State, Writes}
use Rattle.geo_chain.proofs.Passing.{reaches, writes_more}

-- STEPS IN EITHER FRAME
on_line : (step : ChainStep) → polynomial_on (line_of step) ≡ Some (after_step step)
on_line (moves (Ratio v lemma at) s) = refl
on_line (moves (Point at) s) = refl
on_line (moves Coords s) = refl
on_line (cuts f s) = refl

framed_is : (step : ChainStep) → framed_line Fixed (line_of step) ≡ line_of (framed step)
framed_is (moves (Ratio v lemma at) s) = refl
framed_is (moves (Point at) s) = refl
framed_is (moves Coords s) = refl
framed_is (cuts f s) = refl

module _ (c : Construction) (known : List Var) where
  -- where one step leads
  own_after : (left : ℕ) (q : Summands) (step : ChainStep) (left' : ℕ) (r : Summands)
      → LeadsBySteps lemma_table c known left q (step ∷ []) left' r → after_step step ≡ r
  own_after left q (moves m s) left' r h = h.3.1
  own_after left q (cuts f s) left' r h = h.2.1

  full_more : (left : ℕ) (q : Summands) (xs : List ChainStep) (mid : ℕ) (r : Summands) (ys : List ChainStep) (left' : ℕ) (e : Summands)
      → LeadsBySteps lemma_table c known left q xs mid r
      → LeadsBySteps lemma_table c known mid r ys left' e → LeadsBySteps lemma_table c known left q (xs ++ ys) left' e
  full_more left q [] mid r ys left' e h g =
      subst (λ k. LeadsBySteps lemma_table c known k q ys left' e) (sym h.0)
      (subst (λ t. LeadsBySteps lemma_table c known mid t ys left' e) (sym h.1) g)
  full_more left q (moves m s ∷ xs) mid r ys left' e h g =
      (h.0, h.1, h.2, full_more (left - move_charge (replacement lemma_table c m q) q) s xs mid r ys left' e h.3 g)
  full_more left q (cuts f s ∷ xs) mid r ys left' e h g = (h.0, h.1, full_more left s xs mid r ys left' e h.2 g)

  fixed_more : (left : ℕ) (q : Summands) (xs : List ChainStep) (mid : ℕ) (r : Summands) (ys : List ChainStep) (left' : ℕ) (e : Summands)
      → LeadsInFrame lemma_table c known left q xs mid r
      → LeadsInFrame lemma_table c known mid r ys left' e → LeadsInFrame lemma_table c known left q (xs ++ ys) left' e
  fixed_more left q [] mid r ys left' e h g =
      subst (λ k. LeadsInFrame lemma_table c known k q ys left' e) (sym h.0)
      (subst (λ t. LeadsInFrame lemma_table c known mid t ys left' e) (sym h.1) g)
  fixed_more left q (step ∷ xs) mid r ys left' e h g = (h.0, h.1, h.2, h.3, fixed_more h.1 (after_step step) xs mid r ys left' e h.4 g)

  -- the prover's step, in the frame
  pub record IsStepIn (frame : Frame) (left : ℕ) (q : Summands) (l : Line) (left' : ℕ) : Type 0 where
    pub step : ChainStep
    pub leads : leads_in frame c known left q (step ∷ []) left' (after_step step)
    pub is : l ≡ line_of step

  step_in : (frame : Frame) (left : ℕ) (q : Summands) (own : Line) (left' : ℕ) → IsStepLine c known left q own left'
      → IsStepIn frame left q (framed_line frame own) left'
  step_in Full left q own left' h =
      record {
        step = h.step;
        leads = subst (λ r. LeadsBySteps lemma_table c known left q (h.step ∷ []) left' r)
            (sym (own_after left q h.step left' h.next h.leads)) h.leads;
        is = h.is;
      }
  step_in Fixed left q own left' h = record {
    step = framed h.step;
    leads = (
      h.step,
      left',
      subst (λ r. LeadsBySteps lemma_table c known left q (h.step ∷ []) left' r)
          (sym (own_after left q h.step left' h.next h.leads)) h.leads,
      refl,
      (refl, refl),
    );
    is = ap (λ (l : Line). framed_line Fixed l) h.is ∙ framed_is h.step;
  }

  end_in : (frame : Frame) → framed_line frame line.End ≡ line.End
  end_in Full = refl
  end_in Fixed = refl

module _ (frame : Frame) (c : Construction) (known : List Var) where
  abbrev Leads : ℕ → Summands → List ChainStep → ℕ → Summands → Type 0
  Leads left q steps left' r = leads_in frame c known left q steps left' r

  none_lead : (left : ℕ) (q : Summands) → Leads left q [] left q
  none_lead left q = go frame
    where
      go : (f : Frame) → leads_in f c known left q [] left q
      go Full = (refl, refl)
      go Fixed = (refl, refl)

  leads_more : (left : ℕ) (q : Summands) (xs : List ChainStep) (mid : ℕ) (r : Summands) (ys : List ChainStep) (left' : ℕ) (e : Summands)
      → Leads left q xs mid r → Leads mid r ys left' e
      → Leads left q (xs ++ ys) left' e
  leads_more left q xs mid r ys left' e = go frame
    where
      go : (f : Frame) → leads_in f c known left q xs mid r → leads_in f c known mid r ys left' e
          → leads_in f c known left q (xs ++ ys) left' e
      go Full h g = full_more c known left q xs mid r ys left' e h g
      go Fixed h g = fixed_more c known left q xs mid r ys left' e h g

  works_of : (left : ℕ) (e : Tree) (chain : Chain) (left' : ℕ) → IsStarted left e
      → Leads (left - start_charge e) (start_of e) chain.steps left' chain.end → NoCutDue known chain.end → IsEnd chain.end
      → works_in frame c known left e chain left'
  works_of left e chain left' = go frame
    where
      go : (f : Frame) → IsStarted left e → leads_in f c known (left - start_charge e) (start_of e) chain.steps left' chain.end
          → NoCutDue known chain.end → IsEnd chain.end
          → works_in f c known left e chain left'
      go Full s l n d = record { started = s; leads = l; no_cut = n; ended = d }
      go Fixed s l n d = record { started = s; leads = l; no_cut = n; ended = d }

  -- a next line comes next
  pub line_comes : (left : ℕ) (q : Summands) (l : Line) (left' : ℕ) → IsNextLineIn frame c known left q l left'
      → IsNextIn frame c (in_chain known left q) (comes l)
  line_comes left q l left' h = go frame h.is h.next
    where
      by_step : (f : Frame) → IsStepIn c known f left q l left' → IsNextIn f c (in_chain known left q) (comes l)
      by_step Full g = inl (g.step, left', after_step g.step, g.leads, g.is)
      by_step Fixed g = inl (g.step, left', after_step g.step, g.leads, g.is)

      by_end : (f : Frame) → NoCutDue known q → IsEnd q → l ≡ line.End → IsNextIn f c (in_chain known left q) (comes l)
      by_end Full n d e = inr (n, d, e)
      by_end Fixed n d e = inr (n, d, e)

      go : (f : Frame) → l ≡ framed_line f h.own → IsNextLine c known left q h.own left' → IsNextIn f c (in_chain known left q) (comes l)
      go f is (inl g) = by_step f (subst (λ (x : Line). IsStepIn c known f left q x left') (sym is)
          (step_in c known f left q h.own left' g))
      go f is (inr g) = by_end f g.no_cut g.ended (is ∙ ap (λ (x : Line). framed_line f x) g.is ∙ end_in c known f)

  -- what was made of the first polynomial so far
  pub record IsUnderWay (left : ℕ) (first : Summands) (left' : ℕ) (last : Summands) (s t : State) : Type 0 where
    pub steps : List ChainStep
    pub leads : Leads left first steps left' last
    pub written : Writes (map line_of steps) s t

  pub begins : (left : ℕ) (first : Summands) (s : State) → Writes [] s s → IsUnderWay left first left first s s
  begins left first s w = record { steps = []; leads = none_lead left first; written = w }

  pub stands_at : (left : ℕ) (first : Summands) (left' : ℕ) (last : Summands) (s t : State) → IsUnderWay left first left' last s t
      → Passes (steps_part frame c known left first) (here_part (in_chain known left' last)) s t
  stands_at left first left' last s t h =
      reaches (steps_part frame c known left first) (map line_of h.steps) (in_chain known left' last) s t
      (record { steps = h.steps; after = left'; last = last; leads = h.leads; split = refl; stands = refl }) h.written

  -- with a polynomial it is a step
  pub goes_on : (left : ℕ) (first : Summands) (mid : ℕ) (last : Summands) (l : Line) (left' : ℕ) (q : Summands) (s t u : State)
      → IsUnderWay left first mid last s t
      → IsNextLineIn frame c known mid last l left' → polynomial_on l ≡ Some q → Writes (l ∷ []) t u → IsUnderWay left first left' q s u
  goes_on left first mid last l left' q s t u h n on w = go n.next
    where
      go : IsNextLine c known mid last n.own left' → IsUnderWay left first left' q s u
      go (inl own) =
          let g = step_in c known frame mid last n.own left' own in
          let line_is : l ≡ line_of g.step = n.is ∙ g.is in
          let same : Some (after_step g.step) ≡ Some q = sym (on_line g.step) ∙ ap polynomial_on (sym line_is) ∙ on in
          let is : after_step g.step ≡ q = cc in
          record {
            steps = h.steps ++ g.step ∷ [];
            leads = leads_more left first h.steps mid last (g.step ∷ []) left' q h.leads
                (subst (λ r. Leads mid last (g.step ∷ []) left' r) is g.leads);
            written =
                subst (λ lines. Writes lines s u) (ap (λ x. map line_of h.steps ++ x ∷ []) line_is ∙ sym
                (map-append line_of h.steps (g.step ∷ [])))
                (writes_more (map line_of h.steps) (l ∷ []) s t u h.written w);
          }
      go (inr own) =
          let same : None ≡ Some q = ap polynomial_on (sym (n.is ∙ ap (λ (x : Line). framed_line frame x) own.is ∙ end_in c known frame))
          ∙ on in absurd (let f : ⊥ = cc in f)

  -- without one it is the end
  pub ends : (left : ℕ) (first : Summands) (mid : ℕ) (last : Summands) (l : Line) (left' : ℕ) (s t u : State)
      → IsUnderWay left first mid last s t → IsNextLineIn frame c known mid last l left'
      → polynomial_on l ≡ None → Writes (l ∷ []) t u → WorksSteps frame c known left first left' s u last
  ends left first mid last l left' s t u h n on w = go n.next
    where
      go : IsNextLine c known mid last n.own left' → WorksSteps frame c known left first left' s u last
      go (inl own) =
          let g = step_in c known frame mid last n.own left' own in
          let same : Some (after_step g.step) ≡ None = sym (on_line g.step) ∙ ap polynomial_on (sym (n.is ∙ g.is)) ∙ on in absurd
          (let f : ⊥ = cc in f)
      go (inr own) = record {
        steps = h.steps;
        leads = subst (λ k. Leads left first h.steps k last) (sym own.kept) h.leads;
        no_cut = own.no_cut;
        ended = own.ended;
        written = subst (λ x. Writes (map line_of h.steps ++ x ∷ []) s u)
            (n.is ∙ ap (λ (x : Line). framed_line frame x) own.is ∙ end_in c known frame)
            (writes_more (map line_of h.steps) (l ∷ []) s t u h.written w);
      }

  -- THE START
  module _ (header : Line) (left : ℕ) (e : Tree) where
    pub at_header : (s : State) → Writes [] s s → Passes (chain_part frame c header known left e) (here_part (before_line header)) s s
    at_header s w = reaches (chain_part frame c header known left e) [] (before_line header) s s (inl (refl, refl)) w

    pub at_start : (s t : State) → Writes (header ∷ []) s t
        → Passes (chain_part frame c header known left e) (here_part (before_start left e)) s t
    at_start s t w = reaches (chain_part frame c header known left e) (header ∷ []) (before_start left e) s t (inr (inl (refl, refl))) w

    pub past_start : (left' : ℕ) (q : Summands) (s t : State) → IsStarted left e → left' ≡ left - start_charge e → q ≡ start_of e
        → Writes (header ∷ line.Start q ∷ []) s t
        → Passes (chain_part frame c header known left e) (steps_part frame c known left' q) s t
    past_start left' q s t started paid is w = record {
      lines = header ∷ line.Start q ∷ [];
      continues = record {
        begun = λ more place h. inr (inr (record {
          steps = h.steps;
          after = h.after;
          last = h.last;
          started = started;
          leads = subst (λ k. Leads k (start_of e) h.steps h.after h.last) paid
              (subst (λ r. Leads left' r h.steps h.after h.last) is h.leads);
          split = λ i. header ∷ line.Start (is i) ∷ h.split i;
          stands = h.stands;
        }));
        whole = λ more verdict l w. absurd w;
      };
      written = w;
    }

    pub works_chain : (mid : ℕ) (q : Summands) (variable : Option Var) (left' : ℕ) (end : Summands) (s t u : State) → IsStarted left e
        → mid ≡ left - start_charge e → q ≡ start_of e
        → variable ≡ only_variable q → Writes (header ∷ line.Start q ∷ []) s t → WorksSteps frame c known mid q left' t u end
        → WorksChain frame c header known left e left' s u end variable
    works_chain mid q variable left' end s t u started paid is told w h = record {
      chain = record { steps = h.steps; end = end };
      works =
          works_of left e (record { steps = h.steps; end = end }) left' started
          (subst (λ k. Leads k (start_of e) h.steps left' end) paid
          (subst (λ r. Leads mid r h.steps left' end) is h.leads)) h.no_cut h.ended;
      ended = refl;
      told = told ∙ ap only_variable is;
      written =
          subst (λ r. Writes (header ∷ line.Start r ∷ map line_of h.steps ++ line.End ∷ []) s u) is
          (writes_more (header ∷ line.Start q ∷ []) (map line_of h.steps ++ line.End ∷ []) s t u w h.written);
    }
