use Rattle.std.proofs.Common.{◌≡◌, ◌∙◌, ℕ, ◌+◌, ◌<◌, List, Option, [], ◌∷◌, ◌++◌, length, map, sym, ap, subst, arith}
use Rattle.std.specs.Prelude.{slice_get, unwrap_or}
use Rattle.std.specs.Fmt.{decimal}
use Rattle.std.proofs.lemmas.List.{get_or_read, length-map}
use Rattle.proof_printer.specs.Naming.{name_or_number}
use Rattle.proof_printer.proofs.Lookups.{NamedBelow, marked_past, named-more, names_are}
use Rattle.proof_printer.proofs.name_list.NameList.new.Goals as goal

pub loop-n-preserved : goal.loop-n-preserved
loop-n-preserved c =
    let names = map (λ name. name.now) c.args.names.now in
    let name = name_or_number c.args.mark.now c.args.places.now names in
    let n = c.loop-n.n in
    let firsts = c.in_ok-firsts.firsts.items in
    let within : n < length firsts = omega (arith, c.loop-n-test.true) in
    let there =
    ap (slice_get names) (get_or_read firsts n c.index.result.now within c.index.ensures 0)
    ∙ c.in_ok-firsts.ensures.first.names names (omega (arith, length-map c.args.names.now (λ name. name.now))) n within
    in
    let text = c.in_ok-name_or_mark.ensures ∙ ap (λ (o : Option (List ℕ)). unwrap_or o (c.args.mark.now ++ decimal n)) there in
    let longer : c.push.new.self.items ≡ c.loop-n.list.items ++ name n ∷ [] =
    ◌∙◌ {A = List (List ℕ)} c.in_ok-push.ensures.items (ap (λ (x : List ℕ). c.loop-n.list.items ++ x ∷ []) text) in
    subst (λ (l : List (List ℕ)). NamedBelow name l (n + 1)) (sym longer) (named-more name c.loop-n.list.items n c.loop-n.invariant)

pub returns : goal.returns
returns c =
    let names = map (λ name. name.now) c.args.names.now in
    let name = name_or_number c.args.mark.now c.args.places.now names in
    let list = c.loop-n.list.items in
    let all = names_are name c.args.mark.now list c.loop-n.n c.loop-n.invariant
    (λ k le. marked_past c.args.mark.now c.args.places.now names (length c.in_ok-firsts.firsts.items) c.in_ok-firsts.ensures.past k (omega (arith, le, c.loop-n-test.false))) in
    subst (λ (mark : List ℕ). ◌≡◌ {A = ℕ → List ℕ} (λ k. unwrap_or (slice_get list k) (mark ++ decimal k)) name) (sym c.in_ok-from_slice.ensures.items) all
