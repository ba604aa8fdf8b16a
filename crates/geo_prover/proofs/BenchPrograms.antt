-- The commands of a workload may stand in a program.
use Rattle.std.proofs.Common.{◌≡◌, ℕ, zero, suc, ◌+◌, ◌*◌, ◌<◌, ◌≤◌, List, [], ◌∷◌, ◌++◌, refl, sym, ap, subst, ◌∙◌, arith, subst₂}
use Rattle.std.specs.Prelude.{codes, sum_by}
use Rattle.std.proofs.lemmas.List.Elements.{All-from_recursion, All-nil}
use Rattle.std.proofs.lemmas.List.Sums.{sum_by-append}
use Rattle.geo_points.specs.declared.ids.PointId.{PointId}
use Rattle.geo_program.specs.declared.commands.Command.{Command}
use Rattle.geo_program.specs.declared.commands.Command.TheVariants.{Midpoint, Point}
use Rattle.geo_program.specs.declared.names.Name.{Name}
use Rattle.geo_program.specs.declared.names.NameKind.TheVariants as kind
use Rattle.geo_program.specs.Forms.{command_form, point_argument}
use Rattle.geo_program.proofs.OwnNames.{later-append, own-append, own_and_later}
use Rattle.geo_program.specs.WellFormed.{AreCommands, IsArgument, IsCommand, Scope, empty_scope, later_names, own_names, scope_of}
use Rattle.geo_program.proofs.ScopeLemmas.{scope_of-append}
use Rattle.geo_terms.specs.Stores.{Store}
use Rattle.geo_prover.specs.Bench.{bench_commands, bench_names, corner, corner_names, middles, numbered_name, quadrangle_commands, quadrangle_names}

-- SCOPES
-- n points
abbrev pub points_scope : ℕ → Scope
points_scope n = record { points = n; params = 0; lines = 0 }

quadrangles_scope : (n : ℕ) → scope_of empty_scope (quadrangle_names n) ≡ points_scope (4 * n + 4)
quadrangles_scope zero = refl
quadrangles_scope (suc n) =
    scope_of-append empty_scope (quadrangle_names n) (corner_names (suc n))
    ∙ ap (λ s. scope_of s (corner_names (suc n))) (quadrangles_scope n)
    ∙ ap points_scope (omega arith)

-- COMMANDS
-- the middle of two points that are declared
middle_command : (nodes : Store) (s : Scope) (name : Name) (a b : PointId) → name.kind ≡ kind.Point → a.0 < s.points → b.0 < s.points → IsCommand nodes s (name ∷ []) (Midpoint a b)
middle_command nodes s name a b named ha hb = record {
  named = ap (λ k. k ∷ []) named;
  arguments = All-from_recursion (IsArgument s) (point_argument a ∷ point_argument b ∷ []) (ha, (hb, tt));
  stored = tt;
}

free_command : (nodes : Store) (s : Scope) (name : Name) → name.kind ≡ kind.Point → IsCommand nodes s (name ∷ []) Point
free_command nodes s name named = record { named = ap (λ k. k ∷ []) named; arguments = All-nil (IsArgument s); stored = tt }

-- commands, and then more over what the names before them declare
AreCommands-append : (nodes : Store) (s : Scope) (names more : List Name) (commands others : List Command) → AreCommands nodes s names commands
    → AreCommands nodes (scope_of s names) more others → AreCommands nodes s (names ++ more) (commands ++ others)
AreCommands-append nodes s names more [] others h k =
    subst (λ (ns : List Name). AreCommands nodes (scope_of s ns) more others → AreCommands nodes s (ns ++ more) others) (sym h) (λ j. j) k
AreCommands-append nodes s names more (c ∷ commands) others h k =
    let f = command_form nodes c in
    let own = own_names f names in let later = later_names f names in
    let scopes : scope_of s names ≡ scope_of (scope_of s own) later = ap (scope_of s) (sym (own_and_later f names)) ∙ scope_of-append s own later in
    let rest = AreCommands-append nodes (scope_of s own) later more commands others h.1 (subst (λ (t : Scope). AreCommands nodes t more others) scopes k) in
    subst₂ (λ (ns ms : List Name). IsCommand nodes s ns c × AreCommands nodes (scope_of s ns) ms (commands ++ others))
    (sym (own-append f names more h.0.named)) (sym (later-append f names more h.0.named)) (h.0, rest)

quadrangles_made : (nodes : Store) (n : ℕ) → AreCommands nodes empty_scope (quadrangle_names n) (quadrangle_commands n)
quadrangles_made nodes zero =
    let free = λ (s : Scope) (letter : ℕ). free_command nodes s (numbered_name letter 0) refl in
    (free empty_scope 65, (free (points_scope 1) 66, (free (points_scope 2) 67, (free (points_scope 3) 68, refl))))
quadrangles_made nodes (suc n) =
    AreCommands-append nodes empty_scope (quadrangle_names n) (corner_names (suc n)) (quadrangle_commands n) (middles n) (quadrangles_made nodes n)
    (subst (λ (s : Scope). AreCommands nodes s (corner_names (suc n)) (middles n)) (sym (quadrangles_scope n)) (
      middle_command nodes (points_scope (4 * n + 4)) (numbered_name 65 (suc n)) (corner 0 n) (corner 1 n) refl (omega arith) (omega arith),
      (
        middle_command nodes (points_scope (suc (4 * n + 4))) (numbered_name 66 (suc n)) (corner 1 n) (corner 2 n) refl (omega arith) (omega arith),
        (
          middle_command nodes (points_scope (suc (suc (4 * n + 4)))) (numbered_name 67 (suc n)) (corner 2 n) (corner 3 n) refl (omega arith) (omega arith),
          (middle_command nodes (points_scope (suc (suc (suc (4 * n + 4))))) (numbered_name 68 (suc n)) (corner 3 n) (corner 0 n) refl (omega arith) (omega arith), refl),
        ),
      ),
    ))

-- the last two names
abbrev pub x_name : Name
x_name = record { text = codes "X"; kind = kind.Point }

abbrev pub y_name : Name
y_name = record { text = codes "Y"; kind = kind.Point }

pub bench_made : (nodes : Store) (n : ℕ) → 1 ≤ n → AreCommands nodes empty_scope (bench_names n) (bench_commands n)
bench_made nodes n some =
    AreCommands-append nodes empty_scope (quadrangle_names n) (x_name ∷ y_name ∷ []) (quadrangle_commands n) (Midpoint (corner 0 n) (corner 2 n) ∷ Midpoint (corner 0 1) (corner 2 1) ∷ [])
    (quadrangles_made nodes n)
    (subst (λ (s : Scope). AreCommands nodes s (x_name ∷ y_name ∷ []) (Midpoint (corner 0 n) (corner 2 n) ∷ Midpoint (corner 0 1) (corner 2 1) ∷ [])) (sym (quadrangles_scope n)) (
      middle_command nodes (points_scope (4 * n + 4)) x_name (corner 0 n) (corner 2 n) refl (omega arith) (omega arith),
      (middle_command nodes (points_scope (suc (4 * n + 4))) y_name (corner 0 1) (corner 2 1) refl (omega arith) (omega arith), refl),
    ))

pub bench_scope : (n : ℕ) → scope_of empty_scope (bench_names n) ≡ points_scope (4 * n + 6)
bench_scope n =
    scope_of-append empty_scope (quadrangle_names n) (x_name ∷ y_name ∷ [])
    ∙ ap (λ s. scope_of s (x_name ∷ y_name ∷ [])) (quadrangles_scope n)
    ∙ ap points_scope (omega arith)

-- HOW MANY POINTS THEY MAKE
quadrangles_few : (nodes : Store) (n : ℕ) → sum_by (λ c. (command_form nodes c).points) (quadrangle_commands n) ≡ 4 * n + 4
quadrangles_few nodes zero = refl
quadrangles_few nodes (suc n) =
    omega (arith, quadrangles_few nodes n, sum_by-append (λ c. (command_form nodes c).points) (quadrangle_commands n) (middles n))

pub bench_few : (nodes : Store) (n : ℕ) → n ≤ 60 → sum_by (λ c. (command_form nodes c).points) (bench_commands n) ≤ 512
bench_few nodes n few =
    omega (
      arith,
      quadrangles_few nodes n,
      sum_by-append (λ c. (command_form nodes c).points) (quadrangle_commands n) (Midpoint (corner 0 n) (corner 2 n) ∷ Midpoint (corner 0 1) (corner 2 1) ∷ []),
    )
