-- Every well-formed program of a short text has a lowered form.
use Rattle.std.proofs.Common.{◌≡◌, ℕ, suc, ◌+◌, ◌*◌, ◌≤◌, Bool, false, List, [], ◌∷◌, ◌++◌, length, map, refl, sym, ◌∙◌, ap, ap₂, subst, arith, lit<, length-append}
use Rattle.std.specs.Prelude.{sum_by}
use Rattle.std.specs.List.{AllByRecursion, flat_map}
use Rattle.std.proofs.lemmas.List.{length-map}
use Rattle.std.proofs.lemmas.List.Sums.{sum_by-cons}
use Rattle.geo_points.specs.declared.ids.ParamId.{ParamId}
use Rattle.geo_points.specs.declared.ids.PointId.{PointId}
use Rattle.geo_terms.specs.Constructions.{IsStep}
use Rattle.geo_terms.specs.Stores.{Store, tree_of}
use Rattle.geo_terms.specs.Trees.{Tree, integer_leaf, parameter_leaf, area_leaf, pythagoras_leaf, ratio_leaf, negation, addition, subtraction, multiplication, division}
use Rattle.geo_program.specs.declared.commands.Command.{Command}
use Rattle.geo_program.specs.declared.commands.Command.TheVariants.{Point, Param, Line, Parallel, Perp, Med, Intersec, Inter, Foot, Pratio}
use Rattle.geo_program.specs.declared.commands.Command.TheVariants.{Tratio, Online, Lratio, Midpoint, Translate, Symmetric, Reflect}
use Rattle.geo_program.specs.declared.commands.Command.TheVariants.{Circumcenter, Orthocenter, Centroid, Oncircle, Second, Cc, Inverse}
use Rattle.geo_program.specs.declared.commands.Command.TheVariants.{Weights, AssumeDifferent, AssumeNotCollinear, AssumeNotParallel}
use Rattle.geo_program.specs.declared.names.Name.{Name}
use Rattle.geo_program.specs.declared.statements.Statement.{Statement}
use Rattle.geo_program.specs.CanonicalText.{argument_lexemes, canonical_text, command_lexemes, commands_lexemes, condition_lexemes, lexeme_text, no_sketches, statement_lexemes}
use Rattle.geo_lexer.specs.Lexemes.{word_lexeme}
use Rattle.geo_program.specs.Forms.{command_form}
use Rattle.geo_program.specs.Expressions.{IsExpression, braced, expression_lexemes}
use Rattle.geo_program.specs.WellFormed.{AreCommands, IsWellFormed, Scope, Source, empty_scope, later_names, own_names, scope_of}
use Rattle.geo_program.proofs.Lengths.{length-canonical_text, lexeme_size}
use Rattle.geo_lowering.specs.declared.version.Version.{Version}
use Rattle.geo_lowering.specs.declared.version.Version.TheVariants.{One, Two}
use Rattle.geo_lowering.specs.Counting.{next_number, next_point, numbers_had, param_places, points_past}
use Rattle.geo_lowering.specs.Laws.{ProgramsHaveLoweredForms}
use Rattle.geo_lowering.specs.Lowering.{Layout, command_steps, layout_of, line_places, pair_numbers, point_place, point_places, points_after, renamed, steps_from, steps_of, weights_steps}
use Rattle.geo_lowering.specs.StepForms.{StepForm, step_form}
use Rattle.geo_lowering.proofs.Begun.{are_steps, past-length}
use Rattle.geo_lowering.proofs.Bounds.{program_over}
use Rattle.geo_lowering.proofs.Built.{HasShortIntegers, IsShortForm, empty_store, forms_size, list_forms, size, steps_at}
use Rattle.geo_lowering.proofs.Fixed.{past_all}
use Rattle.geo_lowering.proofs.FormLaws.{AreFormsOver, past}
use Rattle.geo_lowering.proofs.Laying.{AreNamed, IsNamed, named_program}
use Rattle.geo_lowering.proofs.Small.{commands_within, numbers_few, points_within, total, total-cons}

-- INTEGERS

short_expression : (n m : ℕ) (ratios : Bool) (e : Tree) → IsExpression n m ratios e → HasShortIntegers e
short_expression n m r (integer_leaf z) h = h
short_expression n m r (parameter_leaf t) h = tt
short_expression n m r (area_leaf a b c) h = tt
short_expression n m r (pythagoras_leaf a b c) h = tt
short_expression n m r (ratio_leaf a b c d) h = tt
short_expression n m r (negation e) h = short_expression n m r e h
short_expression n m r (addition e f) h = (short_expression n m r e h.0, short_expression n m r f h.1)
short_expression n m r (subtraction e f) h = (short_expression n m r e h.0, short_expression n m r f h.1)
short_expression n m r (multiplication e f) h = (short_expression n m r e h.0, short_expression n m r f h.1)
short_expression n m r (division e f) h = (short_expression n m r e h.0, short_expression n m false f h.1)

short_renamed : (l : Layout) (e : Tree) → HasShortIntegers e → HasShortIntegers (renamed l e)
short_renamed l (integer_leaf z) h = h
short_renamed l (parameter_leaf t) h = tt
short_renamed l (area_leaf a b c) h = tt
short_renamed l (pythagoras_leaf a b c) h = tt
short_renamed l (ratio_leaf a b c d) h = tt
short_renamed l (negation e) h = short_renamed l e h
short_renamed l (addition e f) h = (short_renamed l e h.0, short_renamed l f h.1)
short_renamed l (subtraction e f) h = (short_renamed l e h.0, short_renamed l f h.1)
short_renamed l (multiplication e f) h = (short_renamed l e h.0, short_renamed l f h.1)
short_renamed l (division e f) h = (short_renamed l e h.0, short_renamed l f h.1)

size_renamed : (l : Layout) (e : Tree) → size (renamed l e) ≡ size e
size_renamed l (integer_leaf z) = refl
size_renamed l (parameter_leaf t) = refl
size_renamed l (area_leaf a b c) = refl
size_renamed l (pythagoras_leaf a b c) = refl
size_renamed l (ratio_leaf a b c d) = refl
size_renamed l (negation e) = ap suc (size_renamed l e)
size_renamed l (addition e f) = ap₂ (λ (i j : ℕ). suc (i + j)) (size_renamed l e) (size_renamed l f)
size_renamed l (subtraction e f) = ap₂ (λ (i j : ℕ). suc (i + j)) (size_renamed l e) (size_renamed l f)
size_renamed l (multiplication e f) = ap₂ (λ (i j : ℕ). suc (i + j)) (size_renamed l e) (size_renamed l f)
size_renamed l (division e f) = ap₂ (λ (i j : ℕ). suc (i + j)) (size_renamed l e) (size_renamed l f)

short_weights : (version : Version) (n a b c : ℕ) (e f : Tree) → HasShortIntegers e → HasShortIntegers f → AllByRecursion IsShortForm (weights_steps version n a b c e f)
short_weights One n a b c e f h k = (h, (k, tt))
short_weights Two n a b c e f h k = ((h, k), tt)

short_command : (version : Version) (l : Layout) (nodes : Store) (x q j n m : ℕ) (c : Command) → IsNamed nodes x q j c → AllByRecursion IsShortForm (command_steps version l nodes n m c)
short_command version l nodes x q j n m Point h = (tt, tt)
short_command version l nodes x q j n m Param h = tt
short_command version l nodes x q j n m (Line a b) h = tt
short_command version l nodes x q j n m (Parallel p b) h = (lit< tt, tt)
short_command version l nodes x q j n m (Perp p b) h = (lit< tt, (lit< tt, tt))
short_command version l nodes x q j n m (Med a b) h = ((lit< tt, lit< tt), (lit< tt, tt))
short_command version l nodes x q j n m (Intersec a b) h = (tt, tt)
short_command version l nodes x q j n m (Inter a b c d) h = (tt, tt)
short_command version l nodes x q j n m (Foot p a b) h = (tt, tt)
short_command version l nodes x q j n m (Pratio w u v r) h = (short_renamed l (tree_of nodes r) (short_expression x q false (tree_of nodes r) h.1.1.1.0.0), tt)
short_command version l nodes x q j n m (Tratio u v r) h = (short_renamed l (tree_of nodes r) (short_expression x q false (tree_of nodes r) h.1.1.0.0), tt)
short_command version l nodes x q j n m (Online a b) h = (tt, tt)
short_command version l nodes x q j n m (Lratio a b r) h = (short_renamed l (tree_of nodes r) (short_expression x q false (tree_of nodes r) h.1.1.0.0), tt)
short_command version l nodes x q j n m (Midpoint a b) h = ((lit< tt, lit< tt), tt)
short_command version l nodes x q j n m (Translate a b c) h = (lit< tt, tt)
short_command version l nodes x q j n m (Symmetric a o) h = (lit< tt, tt)
short_command version l nodes x q j n m (Reflect a p q') h = (tt, (lit< tt, tt))
short_command version l nodes x q j n m (Circumcenter a b c) h = ((lit< tt, lit< tt), (lit< tt, ((lit< tt, lit< tt), (lit< tt, (tt, tt)))))
short_command version l nodes x q j n m (Orthocenter a b c) h = (tt, (tt, (tt, tt)))
short_command version l nodes x q j n m (Centroid a b c) h = ((lit< tt, lit< tt), ((lit< tt, lit< tt), tt))
short_command version l nodes x q j n m (Oncircle o a) h = (tt, (tt, (lit< tt, tt)))
short_command version l nodes x q j n m (Second a b o) h = (tt, (lit< tt, tt))
short_command version l nodes x q j n m (Cc o p a) h = (tt, (lit< tt, tt))
short_command version l nodes x q j n m (Inverse p o a) h = ((tt, tt), tt)
short_command version l nodes x q j n m (Weights a b c r s) h =
    short_weights version n (l.point a.0) (l.point b.0) (l.point c.0) (renamed l (tree_of nodes r)) (renamed l (tree_of nodes s))
    (short_renamed l (tree_of nodes r) (short_expression x q false (tree_of nodes r) h.1.1.1.0.0)) (short_renamed l (tree_of nodes s) (short_expression x q false (tree_of nodes s) h.1.1.1.1.0.0))
short_command version l nodes x q j n m (AssumeDifferent a b) h = tt
short_command version l nodes x q j n m (AssumeNotCollinear a b c) h = tt
short_command version l nodes x q j n m (AssumeNotParallel a b c d) h = tt

all_append : (fs gs : List StepForm) → AllByRecursion IsShortForm fs → AllByRecursion IsShortForm gs → AllByRecursion IsShortForm (fs ++ gs)
all_append [] gs h k = k
all_append (f ∷ fs) gs h k = (h.0, all_append fs gs h.1 k)

short_commands : (version : Version) (l : Layout) (nodes : Store) (x q j n m : ℕ) (cs : List Command) → AreNamed nodes x q j cs → AllByRecursion IsShortForm (steps_from version l nodes n m cs)
short_commands version l nodes x q j n m [] h = tt
short_commands version l nodes x q j n m (c ∷ cs) h =
    all_append (command_steps version l nodes n m c) (steps_from version l nodes (next_point version n c) (next_number m c) cs) (short_command version l nodes x q j n m c h.0)
    (short_commands version l nodes _ _ _ (next_point version n c) (next_number m c) cs h.1)

-- SIZES

-- how many nodes the numbers of a command have
abbrev number_size : Store → Command → ℕ
number_size nodes (Pratio w u v r) = size (tree_of nodes r)
number_size nodes (Tratio u v r) = size (tree_of nodes r)
number_size nodes (Lratio a b r) = size (tree_of nodes r)
number_size nodes (Weights a b c r s) = size (tree_of nodes r) + size (tree_of nodes s)
number_size nodes _ = 0

weights_small : (version : Version) (n a b c : ℕ) (e f : Tree) → forms_size (weights_steps version n a b c e f) ≤ size e + size f
weights_small One n a b c e f = omega arith
weights_small Two n a b c e f = omega arith

command_small : (version : Version) (l : Layout) (nodes : Store) (n m : ℕ) (c : Command) → forms_size (command_steps version l nodes n m c) ≤ 8 + number_size nodes c
command_small version l nodes n m Point = omega arith
command_small version l nodes n m (Pratio w u v r) = let e : size (renamed l (tree_of nodes r)) ≡ size (tree_of nodes r) = size_renamed l (tree_of nodes r) in omega arith
command_small version l nodes n m (Tratio u v r) = let e : size (renamed l (tree_of nodes r)) ≡ size (tree_of nodes r) = size_renamed l (tree_of nodes r) in omega arith
command_small version l nodes n m (Lratio a b r) = let e : size (renamed l (tree_of nodes r)) ≡ size (tree_of nodes r) = size_renamed l (tree_of nodes r) in omega arith
command_small version l nodes n m (Weights a b c r s) =
    omega (
      arith,
      size_renamed l (tree_of nodes r),
      size_renamed l (tree_of nodes s),
      weights_small version n (l.point a.0) (l.point b.0) (l.point c.0) (renamed l (tree_of nodes r)) (renamed l (tree_of nodes s)),
    )
command_small version l nodes n m _ = omega arith

-- an expression has a word for each node
longer : {X : Type 0} (xs ys : List X) → length xs ≤ suc (length (xs ++ ys))
longer xs ys = let e : length (xs ++ ys) ≡ length xs + length ys = length-append xs ys in omega arith

braces : (names : List Name) (e : Tree) → length (expression_lexemes names e) ≤ length (braced (expression_lexemes names e))
braces names e = longer (expression_lexemes names e) _

both : (names : List Name) (e f : Tree) → size e ≤ length (expression_lexemes names e) → size f ≤ length (expression_lexemes names f)
    → suc (size e + size f) ≤ suc (length (braced (expression_lexemes names e) ++ braced (expression_lexemes names f)))
both names e f h k =
    let all : length (braced (expression_lexemes names e) ++ braced (expression_lexemes names f)) ≡ length (braced (expression_lexemes names e)) + length (braced (expression_lexemes names f)) =
    length-append (braced (expression_lexemes names e)) (braced (expression_lexemes names f)) in
    omega (arith, h, k, all, braces names e, braces names f)

expression_long : (names : List Name) (e : Tree) → size e ≤ length (expression_lexemes names e)
expression_long names (integer_leaf z) = omega arith
expression_long names (parameter_leaf t) = omega arith
expression_long names (area_leaf a b c) = omega arith
expression_long names (pythagoras_leaf a b c) = omega arith
expression_long names (ratio_leaf a b c d) = omega arith
expression_long names (negation e) =
    let h : size e ≤ length (expression_lexemes names e) = expression_long names e in
    let k : length (expression_lexemes names e) ≤ length (braced (expression_lexemes names e)) = braces names e in omega arith
expression_long names (addition e f) = both names e f (expression_long names e) (expression_long names f)
expression_long names (subtraction e f) = both names e f (expression_long names e) (expression_long names f)
expression_long names (multiplication e f) = both names e f (expression_long names e) (expression_long names f)
expression_long names (division e f) = both names e f (expression_long names e) (expression_long names f)

arguments_long : (names : List Name) (nodes : Store) (c : Command) → number_size nodes c ≤ length (flat_map (argument_lexemes names) (command_form nodes c).arguments)
arguments_long names nodes Point = omega arith
arguments_long names nodes (Pratio w u v r) = omega (arith, expression_long names (tree_of nodes r), length-append (expression_lexemes names (tree_of nodes r)) [])
arguments_long names nodes (Tratio u v r) = omega (arith, expression_long names (tree_of nodes r), length-append (expression_lexemes names (tree_of nodes r)) [])
arguments_long names nodes (Lratio a b r) = omega (arith, expression_long names (tree_of nodes r), length-append (expression_lexemes names (tree_of nodes r)) [])
arguments_long names nodes (Weights a b c r s) =
    let e = expression_lexemes names (tree_of nodes r) in
    let f = expression_lexemes names (tree_of nodes s) in
    omega (arith, expression_long names (tree_of nodes r), expression_long names (tree_of nodes s), length-append e (f ++ []), length-append f [])
arguments_long names nodes _ = omega arith

command_long : (names : List Name) (nodes : Store) (own : List Name) (c : Command) → number_size nodes c + 1 ≤ length (command_lexemes names nodes own c)
command_long names nodes own c =
    let f = command_form nodes c in
    let texts = map (λ (name : Name). word_lexeme name.text) own in
    let spelling = flat_map (argument_lexemes names) f.arguments in
    omega (arith, arguments_long names nodes c, length-append (condition_lexemes f.condition) (texts ++ spelling), length-append texts spelling)

-- a byte for each word at least
bytes_long : {X : Type 0} (text : X → List ℕ) (xs : List X) → length xs ≤ sum_by (λ y. length (text y) + 1) xs
bytes_long text [] = omega arith
bytes_long text (x ∷ xs) =
    let h : length xs ≤ sum_by (λ y. length (text y) + 1) xs = bytes_long text xs in
    let all : sum_by (λ y. length (text y) + 1) (x ∷ xs) ≡ (length (text x) + 1) + sum_by (λ y. length (text y) + 1) xs = sum_by-cons (λ y. length (text y) + 1) x xs in omega arith

forms_size-append : (fs gs : List StepForm) → forms_size (fs ++ gs) ≡ forms_size fs + forms_size gs
forms_size-append [] gs = omega arith
forms_size-append (f ∷ fs) gs = let h : forms_size (fs ++ gs) ≡ forms_size fs + forms_size gs = forms_size-append fs gs in omega arith

steps_small : (version : Version) (l : Layout) (all : List Name) (nodes : Store) (s : Scope) (names : List Name) (n m : ℕ) (cs : List Command) (last : Statement) → AreCommands nodes s names cs
    → forms_size (steps_from version l nodes n m cs) ≤ 8 * total lexeme_size (commands_lexemes all nodes names cs (no_sketches cs) ++ statement_lexemes all nodes last ∷ [])
steps_small version l all nodes s names n m [] last h = omega arith
steps_small version l all nodes s names n m (c ∷ cs) last h =
    let made = own_names (command_form nodes c) names in
    let later = later_names (command_form nodes c) names in
    let own = command_lexemes all nodes made c in
    let here : forms_size (command_steps version l nodes n m c) ≤ 8 + number_size nodes c = command_small version l nodes n m c in
    let long : number_size nodes c + 1 ≤ length own = command_long all nodes made c in
    let more : length (own ++ []) ≡ length own + 0 = length-append own [] in
    let bytes : length (own ++ []) ≤ sum_by lexeme_size (own ++ []) = bytes_long lexeme_text (own ++ []) in
    omega (
      arith,
      here,
      long,
      more,
      bytes,
      steps_small version l all nodes (scope_of s made) later (next_point version n c) (next_number m c) cs last h.1,
      forms_size-append (command_steps version l nodes n m c) (steps_from version l nodes (next_point version n c) (next_number m c) cs),
      total-cons lexeme_size (own ++ []) (commands_lexemes all nodes later cs (no_sketches cs) ++ statement_lexemes all nodes last ∷ []),
    )

program_small : (version : Version) (p : Source) → IsWellFormed p → forms_size (steps_of version p) ≤ 8 * length (canonical_text p)
unfolding total
program_small version p w =
    omega (arith, length-canonical_text p, steps_small version (layout_of version p.commands) p.names p.nodes empty_scope p.names 0 0 p.commands p.statement w.commands)

-- THE FORM

there_and_back : {A B : Type 0} (f : A → B) (g : B → A) → ((b : B) → f (g b) ≡ b) → (bs : List B) → map f (map g bs) ≡ bs
there_and_back f g h [] = refl
there_and_back f g h (b ∷ bs) = ap₂ (λ x xs. x ∷ xs) (h b) (there_and_back f g h bs)

abbrev point_of : ℕ → PointId
point_of k = record { 0 = k }

abbrev param_of : ℕ → ParamId
param_of k = record { 0 = k }

pub programs_have_lowered_forms : ProgramsHaveLoweredForms
programs_have_lowered_forms version p w short =
    let fs = steps_of version p in
    let small : forms_size fs ≤ 8 * length (canonical_text p) = program_small version p w in
    let r = list_forms fs (short_commands version (layout_of version p.commands) p.nodes 0 0 0 0 0 p.commands (named_program p w)) [] empty_store (omega arith) in
    let many : length p.commands ≤ length (canonical_text p) = commands_within p w in
    let numbers : numbers_had p.commands ≤ 0 + length p.commands = numbers_few 0 p.commands in
    let M = numbers_had p.commands in
    let over = are_steps r.nodes 0 M r.steps (subst (λ gs. AreFormsOver 0 M gs) (sym r.forms.formed) (program_over version p w)) r.forms.stored in
    let count : length r.steps ≡ points_past version 0 p.commands =
    sym (length-map r.steps (step_form r.nodes)) ∙ ap length r.forms.formed
    ∙ (let q : length fs ≡ past 0 fs = let e : past 0 fs ≡ 0 + length fs = past-length 0 fs in omega arith in q)
    ∙ past_all version p p.commands 0 0 in
    let points : points_past version 0 p.commands ≤ 512 = points_within version p w in (
      record {
        construction = record { nodes = r.nodes; steps = r.steps; params = M };
        points = map point_of (point_places version 0 p.commands);
        lines = map (λ q. (point_of q.left, point_of q.right)) (line_places version (point_place version p.commands) 0 p.commands);
        params = map param_of (param_places 0 p.commands);
        after = points_after version 0 p.commands;
      },
      record {
        valid = record {
          store = r.grown.store;
          steps = λ k s e. subst (λ i. IsStep r.nodes i M s) (let q : 0 + k ≡ k = omega arith in q) (steps_at r.nodes M 0 r.steps over k s e);
          few = omega arith;
          params_fit = omega arith;
        };
        steps = r.forms.formed;
        numbers = refl;
        points = there_and_back (λ (a : PointId). a.0) point_of (λ k. refl) (point_places version 0 p.commands);
        lines = there_and_back pair_numbers (λ q. (point_of q.left, point_of q.right)) (λ q. refl) (line_places version (point_place version p.commands) 0 p.commands);
        params = there_and_back (λ (t : ParamId). t.0) param_of (λ k. refl) (param_places 0 p.commands);
        after = refl;
      },
    )
