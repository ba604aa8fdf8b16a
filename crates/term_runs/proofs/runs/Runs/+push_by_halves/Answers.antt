use Rattle.std.proofs.Common.{◌≡◌, ◌/◌, ◌++◌, [], ◌∷◌, length, map, sym, ap, subst, ◌∙◌, arith, rules}
use Rattle.std.specs.Result.{OnOk}
use Rattle.term_runs.specs.Runs.{IsRun, KeysFit, norm_of, products, run_of}
use Rattle.term_runs.proofs.Parts.{one_item, two_items}
use Rattle.term_runs.proofs.Products.{both_norms, halves, joined, joined_left, joined_right, left_keys, left_norm, left_part, one_product}
use Rattle.term_runs.proofs.Products.{right_keys, right_norm, right_part, run_of-is, whole_product}
use Rattle.term_runs.proofs.runs.Runs.+push_by_halves.Goals as goal

pub push_multiples-requires-clause-keys : goal.push_multiples-requires-clause-keys
push_multiples-requires-clause-keys g t c =
    let f = g.T.Term.pair in
    let is = one_item c.args.left.now c.term-item.result c.in-len1.len_at_least c.in-len1.len_below c.term-item.is in
    (subst (λ xs. KeysFit g.T.Term.keys (map f xs) (map f c.args.right.now)) is c.requires.keys).0

pub push_two_multiples-requires-clause-first_keys : goal.push_two_multiples-requires-clause-first_keys
push_two_multiples-requires-clause-first_keys g t c =
    let f = g.T.Term.pair in
    let is = two_items c.args.left.now c.first-item.result c.second-item.result c.in-len2.len_at_least c.in-len2.len_below c.first-item.is c.second-item.is in
    (subst (λ xs. KeysFit g.T.Term.keys (map f xs) (map f c.args.right.now)) is c.requires.keys).0

pub push_two_multiples-requires-clause-second_keys : goal.push_two_multiples-requires-clause-second_keys
push_two_multiples-requires-clause-second_keys g t c =
    let f = g.T.Term.pair in
    let is = two_items c.args.left.now c.first-item.result c.second-item.result c.in-len2.len_at_least c.in-len2.len_below c.first-item.is c.second-item.is in
    (subst (λ xs. KeysFit g.T.Term.keys (map f xs) (map f c.args.right.now)) is c.requires.keys).1.0

pub returns-in-len1 : goal.returns-in-len1
returns-in-len1 g t c =
    let f = g.T.Term.pair in
    let is = one_item c.args.left.now c.term-item.result c.in-len1.len_at_least c.in-len1.len_below c.term-item.is in
    let run : IsRun (map f (c.term-item.result ∷ [])) = subst (λ xs. IsRun (map f xs)) is c.requires.left in
    let old = c.args.self.now in
    let product = one_product (f c.term-item.result) (map f c.args.right.now) run c.requires.right in
    subst (λ xs. OnOk c.push_multiples.result (c.push_multiples.new.self ≡ old ++ run_of (products (map f xs) (map f c.args.right.now)))) (sym is)
    (subst (λ ps. OnOk c.push_multiples.result (c.push_multiples.new.self ≡ old ++ ps)) product c.push_multiples.ensures.terms)

pub push_by_halves-requires : goal.push_by_halves-requires
push_by_halves-requires g t c = λ κs below.
    let f = g.T.Term.pair in
    let left = c.args.left.now in
    let front = c.split_at.result.0.now in
    let back = c.split_at.result.1.now in
    let parts = halves left front back (length left / 2) c.split_at.ensures.front c.split_at.ensures.back in
    let right = map f c.args.right.now in (
      search rules,
      (
        below,
        (
          left_part f left front back parts c.requires.left,
          (
            c.requires.right,
            (
              left_keys f left front back parts right g.T.Term.keys c.requires.keys,
              left_norm f left front back parts right g.T.Term.size c.requires.norm,
            ),
          ),
        ),
      ),
    )

pub push_by_halves-requires-in_default : goal.push_by_halves-requires-in_default
push_by_halves-requires-in_default g t c = λ κs below.
    let f = g.T.Term.pair in
    let left = c.args.left.now in
    let front = c.split_at.result.0.now in
    let back = c.split_at.result.1.now in
    let parts = halves left front back (length left / 2) c.split_at.ensures.front c.split_at.ensures.back in
    let right = map f c.args.right.now in (
      search rules,
      (
        below,
        (
          right_part f left front back parts c.requires.left,
          (
            c.requires.right,
            (
              right_keys f left front back parts right g.T.Term.keys c.requires.keys,
              right_norm f left front back parts right g.T.Term.size c.requires.norm,
            ),
          ),
        ),
      ),
    )

pub join-requires-clause-left : goal.join-requires-clause-left
join-requires-clause-left g t c =
    let f = g.T.Term.pair in
    let front = c.split_at.result.0.now in
    let back = c.split_at.result.1.now in
    let right = map f c.args.right.now in
    let first = run_of (products (map f front) right) in
    let second = run_of (products (map f back) right) in
    let old = c.args.self.now in
    let middle = c.push_by_halves.new.self in
    let last = c.push_by_halves-in_default.new.self in
    let put : middle ≡ old ++ first = c.in_ok-push_by_halves-in_default.ensures in
    let again : last ≡ middle ++ second = c.in_ok-push_by_halves-in_default-2.ensures in
    subst IsRun (sym (joined_left old middle last first second c.len-base.result c.len-middle.result c.len-base.ensures c.len-middle.ensures put again))
    (run_of-is (products (map f front) right))

pub join-requires-clause-right : goal.join-requires-clause-right
join-requires-clause-right g t c =
    let f = g.T.Term.pair in
    let front = c.split_at.result.0.now in
    let back = c.split_at.result.1.now in
    let right = map f c.args.right.now in
    let first = run_of (products (map f front) right) in
    let second = run_of (products (map f back) right) in
    let old = c.args.self.now in
    let middle = c.push_by_halves.new.self in
    let last = c.push_by_halves-in_default.new.self in
    let put : middle ≡ old ++ first = c.in_ok-push_by_halves-in_default.ensures in
    let again : last ≡ middle ++ second = c.in_ok-push_by_halves-in_default-2.ensures in
    subst IsRun (sym (joined_right old middle last first second c.len-base.result c.len-middle.result c.len-base.ensures c.len-middle.ensures put again))
    (run_of-is (products (map f back) right))

pub join-requires-clause-fits : goal.join-requires-clause-fits
join-requires-clause-fits g t c =
    let f = g.T.Term.pair in
    let front = c.split_at.result.0.now in
    let back = c.split_at.result.1.now in
    let right = map f c.args.right.now in
    let first = run_of (products (map f front) right) in
    let second = run_of (products (map f back) right) in
    let old = c.args.self.now in
    let middle = c.push_by_halves.new.self in
    let last = c.push_by_halves-in_default.new.self in
    let put : middle ≡ old ++ first = c.in_ok-push_by_halves-in_default.ensures in
    let again : last ≡ middle ++ second = c.in_ok-push_by_halves-in_default-2.ensures in
    let parts = halves c.args.left.now front back (length c.args.left.now / 2) c.split_at.ensures.front c.split_at.ensures.back in
    omega (
      arith,
      ap norm_of (joined_left old middle last first second c.len-base.result c.len-middle.result c.len-base.ensures c.len-middle.ensures put again),
      ap norm_of (joined_right old middle last first second c.len-base.result c.len-middle.result c.len-base.ensures c.len-middle.ensures put again),
      both_norms f c.args.left.now front back parts right g.T.Term.size c.requires.norm,
    )

pub returns-in_ok-push_by_halves-in_default-2 : goal.returns-in_ok-push_by_halves-in_default-2
returns-in_ok-push_by_halves-in_default-2 g t c =
    let f = g.T.Term.pair in
    let front = c.split_at.result.0.now in
    let back = c.split_at.result.1.now in
    let right = map f c.args.right.now in
    let first = run_of (products (map f front) right) in
    let second = run_of (products (map f back) right) in
    let old = c.args.self.now in
    let middle = c.push_by_halves.new.self in
    let last = c.push_by_halves-in_default.new.self in
    let put : middle ≡ old ++ first = c.in_ok-push_by_halves-in_default.ensures in
    let again : last ≡ middle ++ second = c.in_ok-push_by_halves-in_default-2.ensures in
    let parts = halves c.args.left.now front back (length c.args.left.now / 2) c.split_at.ensures.front c.split_at.ensures.back in
    subst (λ ps. OnOk c.join.result (c.join.new.self ≡ ps))
    (joined old middle last first second c.len-base.result c.len-middle.result c.len-base.ensures c.len-middle.ensures put again
    ∙ ap (λ ps. old ++ ps) (whole_product f c.args.left.now front back parts right)) c.join.ensures.sum
