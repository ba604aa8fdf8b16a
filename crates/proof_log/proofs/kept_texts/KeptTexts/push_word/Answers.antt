use Rattle.std.proofs.Common.{◌≡◌, ◌-◌, ◌++◌, ℕ, List, length, take, rules, ap, ◌∙◌}
use Rattle.proof_log.proofs.WordTexts.{begun_behind, begun_head, begun_there, begun_whole}
use Rattle.proof_log.proofs.kept_texts.KeptTexts.push_word.Goals as goal

pub text-requires-clause-ordered : goal.text-requires-clause-ordered
text-requires-clause-ordered c =
    let head = c.head_of-head.ensures.kept c.args.names.now c.args.digits.now c.requires.kept in head.1.span.ordered

pub text-requires-clause-within : goal.text-requires-clause-within
text-requires-clause-within c =
    let head = c.head_of-head.ensures.kept c.args.names.now c.args.digits.now c.requires.kept in head.1.span.within

pub text-requires-in-Some-clause-ordered : goal.text-requires-in-Some-clause-ordered
text-requires-in-Some-clause-ordered c =
    let head = c.head_of-head.ensures.kept c.args.names.now c.args.digits.now c.requires.kept in
    let tail = c.in-Some.ensures.kept c.args.names.now c.args.digits.now head.0 in tail.ordered

pub text-requires-in-Some-clause-within : goal.text-requires-in-Some-clause-within
text-requires-in-Some-clause-within c =
    let head = c.head_of-head.ensures.kept c.args.names.now c.args.digits.now c.requires.kept in
    let tail = c.in-Some.ensures.kept c.args.names.now c.args.digits.now head.0 in tail.within

pub returns-in-Some-clause-text : goal.returns-in-Some-clause-text
returns-in-Some-clause-text c =
    let names = c.args.names.now in
    let limits = c.args.digits.now in
    let old = c.args.out.now.items in
    let now = c.extend_from_slice.new.self.items in
    let first = c.head_of-head.result in
    let head = c.head_of-head.ensures.kept names limits c.requires.kept in
    let begun = begun_head names limits c.head_of-head.new.self.bytes.items old now c.text.result.now c.args.word first head.1
    c.head_of-head.ensures.up c.head_of-head.ensures.near c.in_ok-extend_from_slice.ensures.items (c.text.ensures _ head.1.span) in
    let tail = c.in-Some.ensures.kept names limits head.0 in
    c.in_ok-extend_from_slice-2.ensures.items ∙ ap (λ (l : List ℕ). now ++ l) (c.text-in-Some.ensures _ tail)
    ∙ begun_whole names limits old now c.args.word (c.args.word - first.word) begun

pub returns-in-Some-clause-kept : goal.returns-in-Some-clause-kept
returns-in-Some-clause-kept c =
    let head = c.head_of-head.ensures.kept c.args.names.now c.args.digits.now c.requires.kept in head.0

pub push_powers-requires-clause-kept : goal.push_powers-requires-clause-kept
push_powers-requires-clause-kept c =
    let head = c.head_of-head.ensures.kept c.args.names.now c.args.digits.now c.requires.kept in head.0

pub push_powers-requires-clause-begun : goal.push_powers-requires-clause-begun
push_powers-requires-clause-begun c =
    let names = c.args.names.now in
    let limits = c.args.digits.now in
    let old = c.args.out.now.items in
    let now = c.extend_from_slice.new.self.items in
    let first = c.head_of-head.result in
    let head = c.head_of-head.ensures.kept names limits c.requires.kept in
    let begun = begun_head names limits c.head_of-head.new.self.bytes.items old now c.text.result.now c.args.word first head.1
    c.head_of-head.ensures.up c.head_of-head.ensures.near c.in_ok-extend_from_slice.ensures.items (c.text.ensures _ head.1.span) in
    let start : length old ≡ c.len-begin.result = search rules in
    begun_there names limits old now c.args.word (c.args.word - first.word) begun c.len-begin.result start

pub keep_tail-requires : goal.keep_tail-requires
keep_tail-requires c =
    let names = c.args.names.now in
    let limits = c.args.digits.now in
    let old = c.args.out.now.items in
    let now = c.extend_from_slice.new.self.items in
    let first = c.head_of-head.result in
    let rest = c.args.word - first.word in
    let head = c.head_of-head.ensures.kept names limits c.requires.kept in
    let begun = begun_head names limits c.head_of-head.new.self.bytes.items old now c.text.result.now c.args.word first head.1
    c.head_of-head.ensures.up c.head_of-head.ensures.near c.in_ok-extend_from_slice.ensures.items (c.text.ensures _ head.1.span) in
    let start : length old ≡ c.len-begin.result = search rules in
    let there = begun_there names limits old now c.args.word rest begun c.len-begin.result start in
    let behind : length now ≡ c.len-behind.result = search rules in
    let parts = begun_behind names limits (take c.len-begin.result now) now c.args.word rest there c.deref.result.now c.len-behind.result
    (c.deref.ensures.value ∙ c.in_ok-push_powers.ensures.text) behind in
    parts.0

pub returns-clause-kept : goal.returns-clause-kept
returns-clause-kept c =
    let names = c.args.names.now in
    let limits = c.args.digits.now in
    let old = c.args.out.now.items in
    let now = c.extend_from_slice.new.self.items in
    let first = c.head_of-head.result in
    let rest = c.args.word - first.word in
    let head = c.head_of-head.ensures.kept names limits c.requires.kept in
    let begun = begun_head names limits c.head_of-head.new.self.bytes.items old now c.text.result.now c.args.word first head.1
    c.head_of-head.ensures.up c.head_of-head.ensures.near c.in_ok-extend_from_slice.ensures.items (c.text.ensures _ head.1.span) in
    let start : length old ≡ c.len-begin.result = search rules in
    let there = begun_there names limits old now c.args.word rest begun c.len-begin.result start in
    let behind : length now ≡ c.len-behind.result = search rules in
    let parts = begun_behind names limits (take c.len-begin.result now) now c.args.word rest there c.deref.result.now c.len-behind.result
    (c.deref.ensures.value ∙ c.in_ok-push_powers.ensures.text) behind in
    c.keep_tail.ensures names limits c.in_ok-push_powers.ensures.kept parts.1
