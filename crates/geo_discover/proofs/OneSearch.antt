-- A program's search has one text and one end, and so have programs that are the same.
use Rattle.std.proofs.Common.{◌≡◌, ℕ, ◌+◌, ◌<◌, ◌≤◌, ◌⊎◌, inl, inr, All, Option, Some, None, List, [], ◌∷◌, ◌++◌, length, map}
use Rattle.std.proofs.Common.{refl, sym, ap, ap₂, ◌∙◌, subst, arith}
use Rattle.std.specs.List.{range_with_len}
use Rattle.std.proofs.lemmas.List.Elements.{All-head, All-tail}
use Rattle.geo_points.specs.declared.ids.PointId.{PointId}
use Rattle.geo_program.specs.CanonicalText.{line_text}
use Rattle.geo_program.specs.declared.names.Name.{Name}
use Rattle.geo_program.specs.declared.statements.Statement.{Statement}
use Rattle.geo_program.specs.declared.statements.Statement.TheVariants as statement
use Rattle.geo_program.specs.Forms.{statement_form}
use Rattle.geo_program.specs.FormTexts.{form_text}
use Rattle.geo_program.specs.Relations.{IsRelation, with_statement}
use Rattle.geo_program.specs.Spelling.{SameSource}
use Rattle.geo_program.specs.WellFormed.{IsWellFormed, Source, empty_scope, scope_of}
use Rattle.geo_program.proofs.OneText.{same_lines}
use Rattle.elim_apply.specs.LemmaTable.{lemma_table}
use Rattle.geo_logs.specs.Ends.{Ending}
use Rattle.geo_logs.proofs.OneList.{defined_log_unique}
use Rattle.log_checker.specs.Subjects.{source_lines}
use Rattle.log_checker.proofs.OneSubject.{subjects_agree}
use Rattle.proof_log.specs.declared.log.Line.{Line}
use Rattle.log_checker.specs.ProgramLogs.{IsLogOf}
use Rattle.geo_discover.specs.Candidates.{candidates, candidates_over}
use Rattle.geo_discover.specs.FoundTexts.{AreFindings, Finding, SearchEnd, SearchIsUnique, candidate_lines, cut, first_impossible}
use Rattle.geo_discover.specs.FoundTexts.{found_lines, lines_with, opens, outcome_of, relations, candidate_text, whole_end}
use Rattle.geo_discover.specs.Inner.Searching.{counts_line, lines_of}
use Rattle.log_checker.specs.Checkers.{with_feeds}
use Rattle.geo_discover.proofs.CandidateForms.{candidates_are_relations}
use Rattle.geo_discover.proofs.CandidateLaws.{candidates_are_well_formed}
use Rattle.geo_discover.proofs.Putting.{text_length-append}

-- programs with the same lines have one defined log
pub one_log : (p q : Source) (steps : ℕ) (lines other : List Line) (ending ending' : Ending) → IsWellFormed p → IsWellFormed q
    → source_lines p ≡ source_lines q → IsLogOf p steps lines ending → IsLogOf q steps other ending' → (lines ≡ other) × (ending ≡ ending')
one_log p q steps lines other ending ending' v w e h g =
    defined_log_unique lemma_table g.subject steps lines other ending ending'
    (subjects_agree.defined p q h.subject g.subject v w e h.about g.about (h.version ∙ sym g.version) steps lines ending h.defined) g.defined

-- PROGRAMS THAT ARE THE SAME
module _ (p q : Source) (steps : ℕ) (v : IsWellFormed p) (w : IsWellFormed q) (same : SameSource p q) where
  -- they have the same candidates
  same_candidates : candidates p ≡ candidates q
  same_candidates =
      let point : ℕ → PointId = λ k. record { 0 = k } in
      ap (λ (names : List Name). candidates_over (map point (range_with_len 0 (scope_of empty_scope names).points))) same.names

  -- a relation has the same form over both stores
  same_form : (s : Statement) → IsRelation s → statement_form p.nodes s ≡ statement_form q.nodes s
  same_form (statement.Equal e f) r = absurd r
  same_form (statement.Collinear a b c) r = refl
  same_form (statement.Parallel a b c d) r = refl
  same_form (statement.Perpendicular a b c d) r = refl
  same_form (statement.Identical a b) r = refl
  same_form (statement.Midpoint m a b) r = refl
  same_form (statement.SameLength a b c d) r = refl
  same_form (statement.Harmonic a b c d) r = refl
  same_form (statement.Concyclic a b c d) r = refl

  same_source : (s : Statement) → IsRelation s → SameSource (with_statement p s) (with_statement q s)
  same_source s r = record { names = same.names; commands = same.commands; statement = same_form s r }

  same_text : (s : Statement) → IsRelation s → candidate_text p s ≡ candidate_text q s
  same_text s r = λ i. form_text (same.names i) (same_form s r i)

  -- a candidate with its log
  one_finding : (s : Statement) (f g : Finding) → IsRelation s → IsWellFormed (with_statement p s) → IsWellFormed (with_statement q s) → f.statement ≡ s
      → IsLogOf (with_statement p f.statement) steps f.lines f.ending → g.statement ≡ s
      → IsLogOf (with_statement q g.statement) steps g.lines g.ending → f ≡ g
  one_finding s f g r a b e h e' k =
      let lines : source_lines (with_statement p s) ≡ source_lines (with_statement q s) =
      ap (map line_text) (same_lines (with_statement p s) (with_statement q s) (same_source s r)) in
      let one = one_log (with_statement p s) (with_statement q s) steps f.lines g.lines f.ending g.ending a b lines
      (subst (λ (x : Statement). IsLogOf (with_statement p x) steps f.lines f.ending) e h)
      (subst (λ (x : Statement). IsLogOf (with_statement q x) steps g.lines g.ending) e' k) in
      λ i. record { statement = (e ∙ sym e') i; lines = one.0 i; ending = one.1 i }

  one_findings : (ss : List Statement) (fs gs : List Finding) → All (λ s. IsRelation s) ss → All (λ s. IsWellFormed (with_statement p s)) ss
      → All (λ s. IsWellFormed (with_statement q s)) ss → AreFindings p steps ss fs → AreFindings q steps ss gs → fs ≡ gs
  one_findings [] [] [] r a b h k = refl
  one_findings [] [] (g ∷ gs) r a b h k = absurd k
  one_findings [] (f ∷ fs) gs r a b h k = absurd h
  one_findings (s ∷ ss) [] gs r a b h k = absurd h
  one_findings (s ∷ ss) (f ∷ fs) [] r a b h k = absurd k
  one_findings (s ∷ ss) (f ∷ fs) (g ∷ gs) r a b h k =
      let P = λ (x : Statement). IsWellFormed (with_statement p x) in
      let Q = λ (x : Statement). IsWellFormed (with_statement q x) in
      let first : f ≡ g = one_finding s f g (All-head (λ x. IsRelation x) s ss r) (All-head P s ss a) (All-head Q s ss b) h.0 h.1 k.0 k.1 in
      let rest : fs ≡ gs = one_findings ss fs gs (All-tail (λ x. IsRelation x) s ss r) (All-tail P s ss a) (All-tail Q s ss b) h.2 k.2 in
      ap₂ (λ (x : Finding) (xs : List Finding). x ∷ xs) first rest

  -- what is written of findings
  same_lines_of : (ss : List Statement) (fs : List Finding) → All (λ s. IsRelation s) ss → AreFindings p steps ss fs → lines_of p fs ≡ lines_of q fs
  same_lines_of [] [] r h = refl
  same_lines_of [] (f ∷ fs) r h = absurd h
  same_lines_of (s ∷ ss) [] r h = absurd h
  same_lines_of (s ∷ ss) (f ∷ fs) r h =
      let own = subst (λ (x : Statement). IsRelation x) (sym h.0) (All-head (λ x. IsRelation x) s ss r) in
      ap₂ (λ (text : List ℕ) (more : List (List ℕ)). candidate_lines (outcome_of f.ending) text f.lines ++ more) (same_text f.statement own)
      (same_lines_of ss fs (All-tail (λ x. IsRelation x) s ss r) h.2)

  same_found : (fs : List Finding) → lines_of p fs ≡ lines_of q fs → found_lines p fs ≡ found_lines q fs
  same_found fs e = go (first_impossible fs)
    where
      go : (o : Option ℕ) → lines_with o p fs ≡ lines_with o q fs
      go (Some k) = refl
      go None = ap (λ (ls : List (List ℕ)). ls ++ counts_line (relations fs) (opens fs) ∷ []) e

-- WHERE A TEXT IS CUT
text_more : (xs : List (List ℕ)) (a : List ℕ) (more : List (List ℕ))
    → length (with_feeds (xs ++ a ∷ [])) ≤ length (with_feeds (xs ++ a ∷ more))
text_more xs a more =
    omega (
      arith,
      text_length-append xs (a ∷ []),
      text_length-append xs (a ∷ more),
      text_length-append (a ∷ []) more,
    )

-- a text that is cut goes past the limit
cut_is_longer : (limit : ℕ) (whole xs : List (List ℕ)) (a : List ℕ) (more : List (List ℕ)) → whole ≡ xs ++ a ∷ more
    → limit < length (with_feeds (xs ++ a ∷ [])) → length (with_feeds whole) ≤ limit → ⊥
cut_is_longer limit whole xs a more e over fits =
    let same : length (with_feeds whole) ≡ length (with_feeds (xs ++ a ∷ more)) = ap (λ ls. length (with_feeds ls)) e in
    omega (arith, same, text_more xs a more, over, fits)

one_cut : (before limit : ℕ) (xs ys : List (List ℕ)) (a b : List ℕ) (more rest : List (List ℕ)) → xs ++ a ∷ more ≡ ys ++ b ∷ rest
    → before + length (with_feeds xs) ≤ limit → limit < before + length (with_feeds (xs ++ a ∷ []))
    → before + length (with_feeds ys) ≤ limit → limit < before + length (with_feeds (ys ++ b ∷ [])) → xs ≡ ys
one_cut before limit [] [] a b more rest e fits over fits' over' = refl
one_cut before limit [] (y ∷ ys) a b more rest e fits over fits' over' =
    let first : a ≡ y = cc in
    let same : length (with_feeds (a ∷ [])) ≡ length (with_feeds (y ∷ [])) = ap (λ x. length (with_feeds (x ∷ []))) first in
    absurd (let no : ⊥ = omega (arith, same, text_length-append (y ∷ []) ys, over, fits') in no)
one_cut before limit (x ∷ xs) [] a b more rest e fits over fits' over' =
    let first : x ≡ b = cc in
    let same : length (with_feeds (x ∷ [])) ≡ length (with_feeds (b ∷ [])) = ap (λ z. length (with_feeds (z ∷ []))) first in
    absurd (let no : ⊥ = omega (arith, same, text_length-append (x ∷ []) xs, over', fits) in no)
one_cut before limit (x ∷ xs) (y ∷ ys) a b more rest e fits over fits' over' =
    let first : x ≡ y = cc in
    let behind : xs ++ a ∷ more ≡ ys ++ b ∷ rest = cc in
    let same : length (with_feeds (x ∷ [])) ≡ length (with_feeds (y ∷ [])) = ap (λ z. length (with_feeds (z ∷ []))) first in
    let on : ℕ = before + length (with_feeds (x ∷ [])) in
    let tail : xs ≡ ys = one_cut on limit xs ys a b more rest behind (omega (arith, text_length-append (x ∷ []) xs, fits))
    (omega (arith, text_length-append (x ∷ []) (xs ++ a ∷ []), over)) (omega (arith, same, text_length-append (y ∷ []) ys, fits'))
    (omega (arith, same, text_length-append (y ∷ []) (ys ++ b ∷ []), over')) in
    ap₂ (λ (z : List ℕ) (zs : List (List ℕ)). z ∷ zs) first tail

-- SEARCHES
-- the lines are all of these, and this is the end; or they are the first of them, up to the limit, and the end says so
abbrev Writes : List (List ℕ) → SearchEnd → List (List ℕ) → SearchEnd → Type 0
Writes all whole lines end =
    ((lines ≡ all) × (length (with_feeds lines) ≤ 67108864) × (end ≡ whole))
    ⊎ ((line : List ℕ) × (more : List (List ℕ)) × (all ≡ lines ++ line ∷ more) × (length (with_feeds lines) ≤ 67108864)
    × (67108864 < length (with_feeds (lines ++ line ∷ []))) × (end ≡ cut))

one_text : (all : List (List ℕ)) (whole : SearchEnd) (lines other : List (List ℕ)) (end end' : SearchEnd) → Writes all whole lines end
    → Writes all whole other end' → (lines ≡ other) × (end ≡ end')
one_text all whole lines other end end' (inl h) (inl g) = (h.0 ∙ sym g.0, h.2 ∙ sym g.2)
one_text all whole lines other end end' (inl h) (inr (a, more, split, fits, over, is)) =
    absurd (cut_is_longer 67108864 lines other a more (h.0 ∙ split) over h.1)
one_text all whole lines other end end' (inr (a, more, split, fits, over, is)) (inl g) =
    absurd (cut_is_longer 67108864 other lines a more (g.0 ∙ split) over g.1)
one_text all whole lines other end end' (inr (a, more, split, fits, over, is)) (inr (b, more', split', fits', over', is')) = (
  one_cut 0 67108864 lines other a b more more' (sym split ∙ split') (omega (arith, fits)) (omega (arith, over))
      (omega (arith, fits')) (omega (arith, over')),
  is ∙ sym is',
)

pub search_unique : SearchIsUnique
search_unique p q steps lines other end end' v w same h g =
    let ss = candidates p in
    let over : AreFindings q steps ss g.findings =
    subst (λ (xs : List Statement). AreFindings q steps xs g.findings) (sym (same_candidates p q steps v w same)) g.found in
    let formed = subst (λ (xs : List Statement). All (λ s. IsWellFormed (with_statement q s)) xs) (sym (same_candidates p q steps v w same))
    (candidates_are_well_formed q w) in
    let fs : h.findings ≡ g.findings =
    one_findings p q steps v w same ss h.findings g.findings (candidates_are_relations p) (candidates_are_well_formed p v) formed h.found over in
    let texts : found_lines p h.findings ≡ found_lines q g.findings =
    same_found p q steps v w same h.findings (same_lines_of p q steps v w same ss h.findings (candidates_are_relations p) h.found)
    ∙ ap (found_lines q) fs in
    one_text (found_lines q g.findings) (whole_end g.findings) lines other end end'
    (subst (λ (e : SearchEnd). Writes (found_lines q g.findings) e lines end) (ap whole_end fs)
    (subst (λ (ls : List (List ℕ)). Writes ls (whole_end h.findings) lines end) texts h.written)) g.written
