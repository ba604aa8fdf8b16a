use Rattle.std.proofs.Common.{◌≡◌, length, codes, rules}
use Rattle.std.specs.String.{string_bytes}
use Rattle.geo_cli.proofs.OrderLemmas.{numbered_words}
use Rattle.geo_cli.proofs.order.named_command.Goals as goal

pub returns-in_ok-number_of-in-Some-clause-row : goal.returns-in_ok-number_of-in-Some-clause-row
returns-in_ok-number_of-in-Some-clause-row c =
    let named : string_bytes c.args.name.now ≡ codes "bench" = search rules in
    let alone : length c.in-Some.rest.now ≡ 0 = search rules in (
      c.as_bytes.result.now,
      numbered_words _ _ _ _ _ named c.in-Some.ensures.cases.0 alone c.as_bytes.ensures.value,
      c.in_ok-number_of-in-Some.ensures.written,
      c.in_ok-number_of-in-Some.ensures.least,
      c.in_ok-number_of-in-Some.ensures.most,
    )
