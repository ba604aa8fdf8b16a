-- The conditions of one more command are listed.
use Rattle.std.proofs.Common.{add-one, drop-cons, ◌≡◌, ℕ, suc, ◌+◌, ◌<◌, List, [], ◌++◌, drop, get_or, length, refl, sym, subst, subst₂}
use Rattle.std.proofs.lemmas.List.{append-nil}
use Rattle.geo_program.specs.declared.commands.Command.{Command}
use Rattle.geo_program.specs.declared.commands.Command.TheVariants.{Point}
use Rattle.geo_program.specs.declared.names.NameKind.TheVariants as kind
use Rattle.geo_terms.specs.Stores.{Store}
use Rattle.geo_lowering.specs.Conditions.{Condition, command_conditions, early_conditions, late_conditions}
use Rattle.geo_lowering.specs.Counting.{named, counted, points_from, points_named}
use Rattle.geo_conditions.specs.declared.condition_list.ConditionList.{ConditionList}
use Rattle.geo_conditions.specs.declared.condition_sources.ConditionSource.{ConditionSource}
use Rattle.geo_conditions.specs.Inner.ConditionLists.{Lists, conditions_given}
use Rattle.geo_conditions.specs.Lists.{IsListed, found_at, found_from}
use Rattle.geo_conditions.proofs.KeptConditions.{found, key, lists_at, lists_both}
use Rattle.geo_conditions.proofs.Listings.{Ahead, ahead_next}

-- the command at a place
abbrev pub command_at : List Command → ℕ → Command
command_at commands k = get_or commands k Point

pub next_command : (nodes : Store) (start one two three : ConditionList) (commands : List Command) (k x y : ℕ) (early late : ConditionSource) → k < length commands
    → Ahead key (found nodes start.items.items) (found_from nodes 0 1 commands) (found nodes one.items.items) (found_from nodes x (k + 1) (drop k commands))
    → early_conditions nodes (command_at commands k) ≡ conditions_given nodes early → late_conditions (record { 0 = x }) (command_at commands k) ≡ conditions_given nodes late
    → Lists nodes one two (found_at (k + 1) (conditions_given nodes early)) → Lists nodes two three (found_at (k + 1) (conditions_given nodes late))
    → y ≡ counted kind.Point (named (command_at commands k)) x
    → Ahead key (found nodes start.items.items) (found_from nodes 0 1 commands) (found nodes three.items.items) (found_from nodes y ((k + 1) + 1) (drop (k + 1) commands))
next_command nodes start one two three commands k x y early late b ahead e l f g is =
    let c = command_at commands k in
    let xs = found_at (k + 1) (command_conditions nodes (record { 0 = x }) c) in
    let z = counted kind.Point (named c) x in
    let left = found_from nodes z (suc (k + 1)) (drop (suc k) commands) in
    let from = found nodes start.items.items in
    let all = found_from nodes 0 1 commands in
    let now : Ahead key from all (found nodes one.items.items) (xs ++ left) =
    subst (λ cs. Ahead key from all (found nodes one.items.items) (found_from nodes x (k + 1) cs)) (drop-cons commands k Point b) ahead in
    let both : Lists nodes one three xs = lists_at nodes one two three (k + 1) (early_conditions nodes c) (late_conditions (record { 0 = x }) c)
    (subst (λ (cs : List Condition). Lists nodes one two (found_at (k + 1) cs)) (sym e) f) (subst (λ (cs : List Condition). Lists nodes two three (found_at (k + 1) cs)) (sym l) g) in
    let next : Ahead key from all (found nodes three.items.items) left = ahead_next key from all (found nodes one.items.items) xs (found nodes three.items.items) left now both.leads in
    subst (λ v. Ahead key from all (found nodes three.items.items) (found_from nodes v ((k + 1) + 1) (drop (k + 1) commands))) (sym is)
    (subst₂ (λ m n. Ahead key from all (found nodes three.items.items) (found_from nodes z m (drop n commands))) (sym (add-one (k + 1))) (sym (add-one k)) next)

pub next_count : (commands : List Command) (k x y : ℕ) → k < length commands → points_from x (drop k commands) ≡ points_named commands
    → y ≡ counted kind.Point (named (command_at commands k)) x → points_from y (drop (k + 1) commands) ≡ points_named commands
next_count commands k x y b h is =
    let z = counted kind.Point (named (command_at commands k)) x in
    let now : points_from z (drop (suc k) commands) ≡ points_named commands = subst (λ cs. points_from x cs ≡ points_named commands) (drop-cons commands k Point b) h in
    subst₂ (λ v n. points_from v (drop n commands) ≡ points_named commands) (sym is) (sym (add-one k)) now

-- the conditions of the commands and then those of the statement are all that are listed
pub listed_conditions : (nodes : Store) (start one two : ConditionList) (commands : List Command) (last : List Condition) → start.items.items ≡ []
    → Lists nodes start one (found_from nodes 0 1 commands) → Lists nodes one two (found_at (length commands + 1) last)
    → IsListed key [] (found_from nodes 0 1 commands ++ found_at (suc (length commands)) last) (found nodes two.items.items)
listed_conditions nodes start one two commands last none f g =
    let xs = found_from nodes 0 1 commands in
    let ys = found_at (length commands + 1) last in
    let result = found nodes two.items.items in
    let ends : IsListed key (found nodes start.items.items) ((xs ++ ys) ++ []) result = (lists_both nodes start one two xs ys f g).leads [] result refl in
    let whole : IsListed key (found nodes start.items.items) (xs ++ ys) result = subst (λ l. IsListed key (found nodes start.items.items) l result) (append-nil (xs ++ ys)) ends in
    subst₂ (λ items n. IsListed key (found nodes items) (xs ++ found_at n last) result) none (add-one (length commands)) whole
