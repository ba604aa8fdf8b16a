-- Commands are read where nothing is refused.
use Rattle.std.proofs.Common.{◌≡◌, true≢false, ℕ, ◌+◌, ◌<◌, ◌≤◌, Bool, true, false, List, [], ◌∷◌, ◌++◌, length, ℤ}
use Rattle.std.proofs.Common.{Option, Some, None, is_some, refl, sym, ap, ◌∙◌, subst, inr, arith}
use Rattle.std.specs.Prelude.{nat_le}
use Rattle.std.proofs.lemmas.Bool.Decides.{nat_tests}
use Rattle.std.proofs.lemmas.List.Elements.{All-nil}
use Rattle.geo_points.specs.declared.ids.PointId.{PointId}
use Rattle.geo_points.specs.declared.ids.TermId.{TermId}
use Rattle.geo_lexer.specs.declared.token_types.Fault.{Fault}
use Rattle.geo_lexer.specs.Lexemes.{Lexeme, close_brace, number_lexeme, open_brace, word_lexeme}
use Rattle.geo_program.specs.Forms.{IsStored, command_form, line_argument, number_argument, point_argument}
use Rattle.geo_program.specs.declared.commands.Command.{Command}
use Rattle.geo_program.specs.declared.commands.Command.TheVariants as command
use Rattle.geo_program.specs.declared.commands.LineId.{LineId}
use Rattle.geo_program.specs.declared.names.Name.{Name}
use Rattle.geo_program.specs.declared.names.NameKind.{NameKind}
use Rattle.geo_terms.specs.Stores.{Store, tree_of}
use Rattle.geo_terms.specs.Trees.{Tree}
use Rattle.geo_parser.specs.declared.command_words.CommandWord.{CommandWord}
use Rattle.geo_parser.specs.declared.command_words.CommandWord.TheVariants.{Point, Param, Pair, Triple, Inter, Direction, Intersec, Pratio, Step, Weights, Assume}
use Rattle.geo_parser.specs.declared.command_words.ConditionWord.{ConditionWord}
use Rattle.geo_parser.specs.declared.command_words.ConditionWord.TheVariants.{Different, NotCollinear, NotParallel}
use Rattle.geo_parser.specs.declared.command_words.DirectionWord.{DirectionWord}
use Rattle.geo_parser.specs.declared.command_words.DirectionWord.TheVariants.{Parallel, Perp}
use Rattle.geo_parser.specs.declared.command_words.PairWord.{PairWord}
use Rattle.geo_parser.specs.declared.command_words.PairWord.TheVariants.{Line, Med, Online, Midpoint, Symmetric, Oncircle}
use Rattle.geo_parser.specs.declared.command_words.StepWord.{StepWord}
use Rattle.geo_parser.specs.declared.command_words.StepWord.TheVariants.{Tratio, Lratio}
use Rattle.geo_parser.specs.declared.command_words.TripleWord.{TripleWord}
use Rattle.geo_parser.specs.declared.command_words.TripleWord.TheVariants.{Foot, Translate, Reflect, Circumcenter, Orthocenter, Centroid, Second, Cc, Inverse}
use Rattle.geo_parser.specs.declared.reader.Reader.{Reader}
use Rattle.geo_parser.specs.Forms.{Slot, a_line, a_number, a_point, command_slot, new_name_slot, second_number_slot, sketch_slot}
use Rattle.geo_parser.specs.Inner.Coming.{next_lexeme}
use Rattle.geo_parser.specs.Inner.CommandWords.{command_due, command_kind, command_points, command_slots}
use Rattle.geo_parser.specs.Inner.Dictionaries.{name_of}
use Rattle.geo_parser.specs.Inner.Reads.{Reads, ReadsArguments, ReadsCommand, ReadsForm, ReadsNewName, ReadsSketch, a_name, reading}
use Rattle.geo_parser.specs.Inner.Symbols.{IsWord}
use Rattle.geo_parser.specs.Refusals.{fault_at, first_fault}
use Rattle.geo_parser.specs.Slots.{Outcome, Reading, is_reserved, next, refused, taken}
use Rattle.geo_parser.proofs.CommandReading.{ReadsCommand-made, ReadsCommand-unnamed, ReadsNewName-token, due_named, due_unnamed}
use Rattle.geo_parser.proofs.FormReading.{ReadsArguments-number, ReadsForm-made, form_of}
use Rattle.geo_parser.proofs.NameUses.{begin_name-declared, begin_name-new, begin_name-reserved}
use Rattle.geo_parser.proofs.Reading.{Extends-self, ReadsArguments-then, Reads-behind, Reads-token, advanced}
use Rattle.geo_parser.proofs.Reserved.{not_reserved}
use Rattle.geo_parser.proofs.Unrefused.{Unrefused, Unrefused-behind, Unrefused-past, Unrefused-then, four_points_read, line_read, never_refused}
use Rattle.geo_parser.proofs.Unrefused.{next_may_stand, next_there, point_read, three_points_read, two_points_read, word_there}
use Rattle.geo_parser.proofs.UnrefusedExpressions.{number_read}

-- TWO NUMBERS

-- nothing was due, and nothing is read
Reads-nothing : (s : Reader) → Reads [] s s []
Reads-nothing s = record {
  passes = record { spelt = refl; stop = refl };
  names = refl;
  points = refl;
  terms = Extends-self s.terms;
  room = omega arith;
  follows = λ begun rest. refl;
}

-- where no number is to come, the two numbers are passed over
unsketched : (r : Reading) (rest : List Slot) (tokens : List (Lexeme × ℕ)) (end : ℕ) (stop : Option Fault)
    → ((z : ℤ) → next_lexeme tokens ≡ Some (number_lexeme z) → ⊥)
    → first_fault r (sketch_slot ∷ rest) tokens end stop ≡ first_fault r rest tokens end stop
unsketched r rest [] end (Some f) none = refl
unsketched r rest [] end None none = refl
unsketched r rest (t ∷ ts) end stop none =
    ap (λ (o : Outcome). elim o [ refused refusal ↦ Some (fault_at t.1 refusal) | taken s more ↦ first_fault s more ts end stop ]) (by t.0 none)
  where
    by : (l : Lexeme) → ((z : ℤ) → Some l ≡ Some (number_lexeme z) → ⊥) → next r (sketch_slot ∷ rest) l ≡ next r rest l
    by (word_lexeme word) no_number = refl
    by (number_lexeme z) no_number = absurd (no_number z refl)
    by open_brace no_number = refl
    by close_brace no_number = refl

ReadsSketch-none : (s : Reader) → ((z : ℤ) → next_lexeme s.cursor.tokens ≡ Some (number_lexeme z) → ⊥) → ReadsSketch s s
ReadsSketch-none s none = record {
  sketch = None;
  reads = record {
    passes = record { spelt = refl; stop = refl };
    names = refl;
    points = refl;
    terms = Extends-self s.terms;
    room = omega arith;
    follows = λ begun rest. unsketched (reading s.names begun s.points) rest s.cursor.tokens s.cursor.end s.cursor.stop none;
  };
}

-- the second number
second_read : (s : Reader) (begun : List Name) (rest : List Slot) → Unrefused s begun (second_number_slot ∷ rest)
    → (z : ℤ) × Reads (second_number_slot ∷ []) s (advanced s) (number_lexeme z ∷ [])
second_read s begun rest u = let found = next_there s begun (second_number_slot ∷ rest) u 4 refl in by found.0 found.1
  where
    by : (l : Lexeme) → next_lexeme s.cursor.tokens ≡ Some l → (z : ℤ) × Reads (second_number_slot ∷ []) s (advanced s) (number_lexeme z ∷ [])
    by (number_lexeme z) is = (z, Reads-token (second_number_slot ∷ []) s (number_lexeme z) is (λ begun' more. refl))
    by (word_lexeme word) is = absurd (never_refused s begun (second_number_slot ∷ rest) u (word_lexeme word) is 4 refl)
    by open_brace is = absurd (never_refused s begun (second_number_slot ∷ rest) u open_brace is 4 refl)
    by close_brace is = absurd (never_refused s begun (second_number_slot ∷ rest) u close_brace is 4 refl)

sketch_read : (s : Reader) (begun : List Name) (rest : List Slot) → Unrefused s begun (sketch_slot ∷ rest) → (t : Reader) × ReadsSketch s t
sketch_read s begun rest u = by (next_lexeme s.cursor.tokens) refl
  where
    by : (o : Option Lexeme) → next_lexeme s.cursor.tokens ≡ o → (t : Reader) × ReadsSketch s t
    by None is = (s, ReadsSketch-none s (λ z e. true≢false (ap is_some (sym e ∙ is))))
    by (Some (word_lexeme word)) is =
        (s, ReadsSketch-none s (λ z e. let same : ◌≡◌ {A = Option Lexeme} (Some (word_lexeme word)) (Some (number_lexeme z)) = sym is ∙ e in cc))
    by (Some open_brace) is = (s, ReadsSketch-none s (λ z e. let same : ◌≡◌ {A = Option Lexeme} (Some open_brace) (Some (number_lexeme z)) = sym is ∙ e in cc))
    by (Some close_brace) is = (s, ReadsSketch-none s (λ z e. let same : ◌≡◌ {A = Option Lexeme} (Some close_brace) (Some (number_lexeme z)) = sym is ∙ e in cc))
    by (Some (number_lexeme z)) is =
        let second =
        second_read (advanced s) begun rest (Unrefused-behind s begun (sketch_slot ∷ rest) u (number_lexeme z) is begun (second_number_slot ∷ rest) refl) in (
          advanced (advanced s),
          record {
            sketch = Some (z, second.0);
            reads = Reads-behind (sketch_slot ∷ []) (second_number_slot ∷ []) s (number_lexeme z) is (λ begun' more. refl) (advanced (advanced s)) _ second.1;
          },
        )

-- WHAT STANDS BEHIND THE NEW NAME

pair_made : (word : PairWord) (a b : PointId) → (c : Command)
    × ((nodes : Store) → command_form nodes c ≡ form_of (Pair word) (point_argument a ∷ point_argument b ∷ [])) × ((nodes : Store) → IsStored nodes c)
pair_made Line a b = (command.Line a b, λ nodes. refl, λ nodes. tt)
pair_made Med a b = (command.Med a b, λ nodes. refl, λ nodes. tt)
pair_made Online a b = (command.Online a b, λ nodes. refl, λ nodes. tt)
pair_made Midpoint a b = (command.Midpoint a b, λ nodes. refl, λ nodes. tt)
pair_made Symmetric a b = (command.Symmetric a b, λ nodes. refl, λ nodes. tt)
pair_made Oncircle a b = (command.Oncircle a b, λ nodes. refl, λ nodes. tt)

triple_made : (word : TripleWord) (a b c : PointId) → (k : Command)
    × ((nodes : Store) → command_form nodes k ≡ form_of (Triple word) (point_argument a ∷ point_argument b ∷ point_argument c ∷ []))
    × ((nodes : Store) → IsStored nodes k)
triple_made Foot a b c = (command.Foot a b c, λ nodes. refl, λ nodes. tt)
triple_made Translate a b c = (command.Translate a b c, λ nodes. refl, λ nodes. tt)
triple_made Reflect a b c = (command.Reflect a b c, λ nodes. refl, λ nodes. tt)
triple_made Circumcenter a b c = (command.Circumcenter a b c, λ nodes. refl, λ nodes. tt)
triple_made Orthocenter a b c = (command.Orthocenter a b c, λ nodes. refl, λ nodes. tt)
triple_made Centroid a b c = (command.Centroid a b c, λ nodes. refl, λ nodes. tt)
triple_made Second a b c = (command.Second a b c, λ nodes. refl, λ nodes. tt)
triple_made Cc a b c = (command.Cc a b c, λ nodes. refl, λ nodes. tt)
triple_made Inverse a b c = (command.Inverse a b c, λ nodes. refl, λ nodes. tt)

direction_made : (word : DirectionWord) (p : PointId) (b : LineId) → (c : Command)
    × ((nodes : Store) → command_form nodes c ≡ form_of (Direction word) (point_argument p ∷ line_argument b ∷ [])) × ((nodes : Store) → IsStored nodes c)
direction_made Parallel p b = (command.Parallel p b, λ nodes. refl, λ nodes. tt)
direction_made Perp p b = (command.Perp p b, λ nodes. refl, λ nodes. tt)

step_made : (word : StepWord) (a b : PointId) (r : TermId) → (c : Command)
    × ((nodes : Store) → command_form nodes c ≡ form_of (Step word) (point_argument a ∷ point_argument b ∷ number_argument (tree_of nodes r) ∷ []))
    × ((nodes : Store) → r.0 < length nodes → IsStored nodes c)
step_made Tratio a b r = (command.Tratio a b r, λ nodes. refl, λ nodes h. h)
step_made Lratio a b r = (command.Lratio a b r, λ nodes. refl, λ nodes h. h)

module _ (s : Reader) (begun : List Name) (rest : List Slot) where
  -- three points and two numbers
  weights_read : Unrefused s begun (command_slots Weights ++ rest) → (t : Reader) × (c : Command) × ReadsForm Weights s t c
  weights_read u =
      let p = three_points_read s begun (a_number ∷ a_number ∷ rest) u in
      let v = Unrefused-then (a_point ∷ a_point ∷ a_point ∷ []) s p.0 _ begun (a_number ∷ a_number ∷ rest) p.4.reads u in
      let m = number_read p.0 begun (a_number ∷ rest) v in
      let n = number_read m.0 begun rest (Unrefused-then (a_number ∷ []) p.0 m.0 _ begun (a_number ∷ rest) m.2.reads v) in
      let nodes = n.0.terms in
      let later = n.2.reads.terms in
      let kept : tree_of nodes m.1 ≡ tree_of m.0.terms m.1 = later.others m.1 m.2.stored in
      let points = point_argument p.1 ∷ point_argument p.2 ∷ point_argument p.3 ∷ [] in
      let P : Tree → Type 0 = λ e. ReadsArguments (number_argument e ∷ []) p.0 m.0 in
      let first = subst P (sym kept) (ReadsArguments-number p.0 m.0 m.1 m.2) in
      let numbers =
      ReadsArguments-then (number_argument (tree_of nodes m.1) ∷ []) (number_argument (tree_of nodes n.1) ∷ []) p.0 m.0 n.0 first
      (ReadsArguments-number m.0 n.0 n.1 n.2) in
      let read = ReadsArguments-then points (number_argument (tree_of nodes m.1) ∷ number_argument (tree_of nodes n.1) ∷ []) s p.0 n.0 p.4 numbers in
      (n.0, command.Weights p.1 p.2 p.3 m.1 n.1, ReadsForm-made Weights _ s n.0 _ read refl refl (omega (arith, m.2.stored, later.longer), n.2.stored))

  -- three points and a number
  pratio_read : Unrefused s begun (command_slots Pratio ++ rest) → (t : Reader) × (c : Command) × ReadsForm Pratio s t c
  pratio_read u =
      let p = three_points_read s begun (a_number ∷ rest) u in
      let n = number_read p.0 begun rest (Unrefused-then (a_point ∷ a_point ∷ a_point ∷ []) s p.0 _ begun (a_number ∷ rest) p.4.reads u) in
      let points = point_argument p.1 ∷ point_argument p.2 ∷ point_argument p.3 ∷ [] in
      let read = ReadsArguments-then points (number_argument (tree_of n.0.terms n.1) ∷ []) s p.0 n.0 p.4 (ReadsArguments-number p.0 n.0 n.1 n.2) in
      (n.0, command.Pratio p.1 p.2 p.3 n.1, ReadsForm-made Pratio _ s n.0 _ read refl refl n.2.stored)

  -- two points and a number
  step_read : (word : StepWord) → Unrefused s begun (command_slots (Step word) ++ rest) → (t : Reader) × (c : Command) × ReadsForm (Step word) s t c
  step_read word u =
      let p = two_points_read s begun (a_number ∷ rest) u in
      let n = number_read p.0 begun rest (Unrefused-then (a_point ∷ a_point ∷ []) s p.0 _ begun (a_number ∷ rest) p.3.reads u) in
      let points = point_argument p.1 ∷ point_argument p.2 ∷ [] in
      let read = ReadsArguments-then points (number_argument (tree_of n.0.terms n.1) ∷ []) s p.0 n.0 p.3 (ReadsArguments-number p.0 n.0 n.1 n.2) in
      let made = step_made word p.1 p.2 n.1 in
      (n.0, made.0, ReadsForm-made (Step word) _ s n.0 made.0 read refl (made.1 n.0.terms) (made.2 n.0.terms n.2.stored))

  -- a point and a line
  direction_read : (word : DirectionWord) → Unrefused s begun (command_slots (Direction word) ++ rest) → (t : Reader) × (c : Command) × ReadsForm (Direction word) s t c
  direction_read word u =
      let p = point_read s begun (a_line ∷ rest) u in
      let b = line_read p.0 begun rest (Unrefused-then (a_point ∷ []) s p.0 _ begun (a_line ∷ rest) p.2.reads u) in
      let made = direction_made word p.1 b.1 in
      let read = ReadsArguments-then (point_argument p.1 ∷ []) (line_argument b.1 ∷ []) s p.0 b.0 p.2 b.2 in
      (b.0, made.0, ReadsForm-made (Direction word) _ s b.0 made.0 read refl (made.1 b.0.terms) (made.2 b.0.terms))

  -- two lines
  intersec_read : Unrefused s begun (command_slots Intersec ++ rest) → (t : Reader) × (c : Command) × ReadsForm Intersec s t c
  intersec_read u =
      let a = line_read s begun (a_line ∷ rest) u in
      let b = line_read a.0 begun rest (Unrefused-then (a_line ∷ []) s a.0 _ begun (a_line ∷ rest) a.2.reads u) in
      let read = ReadsArguments-then (line_argument a.1 ∷ []) (line_argument b.1 ∷ []) s a.0 b.0 a.2 b.2 in
      (b.0, command.Intersec a.1 b.1, ReadsForm-made Intersec _ s b.0 _ read refl refl tt)

  -- the points of a condition
  assumed_read : (word : ConditionWord) → Unrefused s begun (command_slots (Assume word) ++ rest) → (t : Reader) × (c : Command) × ReadsForm (Assume word) s t c
  assumed_read Different u =
      let p = two_points_read s begun rest u in (p.0, command.AssumeDifferent p.1 p.2, ReadsForm-made (Assume Different) _ s p.0 _ p.3 refl refl tt)
  assumed_read NotCollinear u =
      let p = three_points_read s begun rest u in (p.0, command.AssumeNotCollinear p.1 p.2 p.3, ReadsForm-made (Assume NotCollinear) _ s p.0 _ p.4 refl refl tt)
  assumed_read NotParallel u =
      let p = four_points_read s begun rest u in (p.0, command.AssumeNotParallel p.1 p.2 p.3 p.4, ReadsForm-made (Assume NotParallel) _ s p.0 _ p.5 refl refl tt)

  -- a point, which two numbers may follow
  sketched_read : Unrefused s begun (command_slots Point ++ rest) → (t : Reader) × (c : Command) × ReadsForm Point s t c
  sketched_read u =
      let h = sketch_read s begun rest u in (
        h.0,
        command.Point,
        record {
          sketch = h.1.sketch;
          sketched = inr refl;
          named = record { text = refl; condition = refl; kind = refl; points = refl };
          reads = h.1.reads;
          valid = All-nil _;
          stored = tt;
        },
      )

  pub form_read : (word : CommandWord) → Unrefused s begun (command_slots word ++ rest) → (t : Reader) × (c : Command) × ReadsForm word s t c
  form_read Point u = sketched_read u
  form_read Param u = (s, command.Param, ReadsForm-made Param [] s s command.Param (record { reads = Reads-nothing s; valid = All-nil _ }) refl refl tt)
  form_read (Pair word) u =
      let p = two_points_read s begun rest u in
      let made = pair_made word p.1 p.2 in
      (p.0, made.0, ReadsForm-made (Pair word) _ s p.0 made.0 p.3 refl (made.1 p.0.terms) (made.2 p.0.terms))
  form_read (Triple word) u =
      let p = three_points_read s begun rest u in
      let made = triple_made word p.1 p.2 p.3 in
      (p.0, made.0, ReadsForm-made (Triple word) _ s p.0 made.0 p.4 refl (made.1 p.0.terms) (made.2 p.0.terms))
  form_read Inter u =
      let p = four_points_read s begun rest u in (p.0, command.Inter p.1 p.2 p.3 p.4, ReadsForm-made Inter _ s p.0 _ p.5 refl refl tt)
  form_read (Direction word) u = direction_read word u
  form_read Intersec u = intersec_read u
  form_read Pratio u = pratio_read u
  form_read (Step word) u = step_read word u
  form_read Weights u = weights_read u
  form_read (Assume word) u = assumed_read word u

-- A COMMAND

-- the new name of a command that makes so many points
new_name_read : (kind : NameKind) (points : ℕ) (s : Reader) (begun : List Name) (rest : List Slot) → Unrefused s begun (new_name_slot kind points ∷ rest)
    → (t : Reader) × (text : List ℕ) × ReadsNewName points s t text
new_name_read kind points s begun rest u =
    let w = word_there s begun (new_name_slot kind points ∷ rest) u 4 refl (λ z. refl) refl refl in
    by w.0 w.1 (is_reserved w.0) refl (name_of s.names w.0) refl (nat_le (s.points + points) 512) refl
  where
    by : (word : List ℕ) → next_lexeme s.cursor.tokens ≡ Some (word_lexeme word) → (b : Bool) → is_reserved word ≡ b
        → (o : Option Name) → name_of s.names word ≡ o
        → (few : Bool) → nat_le (s.points + points) 512 ≡ few → (t : Reader) × (text : List ℕ) × ReadsNewName points s t text
    by word is true reserved o found few h =
        absurd (never_refused s begun (new_name_slot kind points ∷ rest) u (word_lexeme word) is 4
        (begin_name-reserved (reading s.names begun s.points) s.names refl kind points word rest reserved))
    by word is false free (Some name) found few h =
        absurd (never_refused s begun (new_name_slot kind points ∷ rest) u (word_lexeme word) is 6
        (begin_name-declared (reading s.names begun s.points) s.names refl kind points word rest name free found))
    by word is false free None found false h =
        absurd (never_refused s begun (new_name_slot kind points ∷ rest) u (word_lexeme word) is 10
        (begin_name-new (reading s.names begun s.points) s.names refl kind points word rest false free found h))
    by word is false free None found true h =
        let below : s.points + points ≤ 512 = grind (arith, nat_tests) in
        let may = next_may_stand s begun (new_name_slot kind points ∷ rest) u (word_lexeme word) is in
        let valid : IsWord word = record { first = may.first; rest = may.all; short = may.short } in (
          record (advanced s) { points = s.points + points },
          word,
          ReadsNewName-token s word is points (record { free = free; undeclared = found }) h below valid (not_reserved word free),
        )

-- what stands behind the word of a command
pub command_read : (word : CommandWord) (s : Reader) → s.points ≤ 512 → Unrefused s [] (command_due word ++ command_slot ∷ [])
    → (t : Reader) × (c : Command) × ReadsCommand word s t c
command_read word s few u = by (command_kind word) refl
  where
    by : (o : Option NameKind) → command_kind word ≡ o → (t : Reader) × (c : Command) × ReadsCommand word s t c
    by None has =
        let v = subst (λ due. Unrefused s [] (due ++ command_slot ∷ [])) (sym (due_unnamed word has s)) u in
        let a = form_read s [] (command_slot ∷ []) word v in
        (a.0, a.1, ReadsCommand-unnamed word has s a.0 a.1 few a.2)
    by (Some kind) has =
        let points = command_points word in
        let behind = command_slots word ++ command_slot ∷ [] in
        let v = subst (λ due. Unrefused s [] (due ++ command_slot ∷ [])) (due_named word kind has) u in
        let n = new_name_read kind points s [] behind v in
        let own = a_name n.1 kind ∷ [] in
        let a =
        form_read n.0 own (command_slot ∷ []) word
        (Unrefused-past s n.0 _ [] own (new_name_slot kind points ∷ behind) behind n.2.passes (n.2.follows kind [] behind) v) in
        (record a.0 { names = a.0.names ++ own }, a.1, ReadsCommand-made word kind has points refl s n.0 n.1 n.2 a.0 a.1 a.2)
