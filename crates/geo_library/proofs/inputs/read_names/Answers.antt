use Rattle.std.proofs.Common.{◌≡◌, ◌≤◌, ℕ, List, [], ◌∷◌, ◌++◌, drop, length, map, take, sym, ◌∙◌, ap, subst}
use Rattle.std.specs.List.{AllPass, prefix_len}
use Rattle.std.proofs.lemmas.List.{map_push}
use Rattle.std.proofs.lemmas.List.Sums.{prefix_len-le-length}
use Rattle.geo_lexer.specs.Bytes.{is_word_byte}
use Rattle.geo_lexer.specs.Lexemes.{IsWord}
use Rattle.geo_library.proofs.ReadingNames.{AreReadSoFar, all_word_bytes, begins, goes_on, no_word, undone}
use Rattle.geo_library.proofs.inputs.read_names.Goals as goal

pub loop-next-init : goal.loop-next-init
loop-next-init c =
    subst (λ texts. AreReadSoFar c.args.rest.now texts c.in-Some.words.now) (ap (map (λ t. t.now)) (sym c.new-texts.ensures.items))
    (begins c.args.rest.now c.in-Some.words.now c.in-Some.ensures.some)

pub split_at-requires : goal.split_at-requires
split_at-requires c =
    let next = c.in-Some-behind.next.now in
    subst (λ (n : ℕ). n ≤ length next) (sym c.word_length.ensures) (prefix_len-le-length is_word_byte next)

pub is_word-requires : goal.is_word-requires
is_word-requires c =
    let next = c.in-Some-behind.next.now in
    subst (AllPass is_word_byte) (sym (c.split_at.ensures.front ∙ ap (λ (n : ℕ). take n next) c.word_length.ensures)) (all_word_bytes next)

pub returns-then-not-is_word : goal.returns-then-not-is_word
returns-then-not-is_word c =
    let next = c.in-Some-behind.next.now in
    no_word c.args.rest.now (map (λ t. t.now) c.loop-next.texts.items) c.loop-next.left.now next c.loop-next.invariant c.in-Some-behind.ensures.some
    (λ w. c.if-not-is_word.ensures (subst IsWord (sym (c.split_at.ensures.front ∙ ap (λ (n : ℕ). take n next) c.word_length.ensures)) w))

pub loop-next-preserved : goal.loop-next-preserved
loop-next-preserved c =
    let next = c.in-Some-behind.next.now in
    let texts = map (λ t. t.now) c.loop-next.texts.items in
    let front = c.split_at.ensures.front ∙ ap (λ (n : ℕ). take n next) c.word_length.ensures in
    let back = c.split_at.ensures.back ∙ ap (λ (n : ℕ). drop n next) c.word_length.ensures in
    let pushed = ap (map (λ t. t.now)) c.in_ok-push.ensures.items ∙ map_push (λ t. t.now) c.loop-next.texts.items c.split_at.result.0 in
    subst (λ ts. AreReadSoFar c.args.rest.now ts c.split_at.result.1.now) (sym pushed)
    (subst (λ (w : List ℕ). AreReadSoFar c.args.rest.now (texts ++ w ∷ []) c.split_at.result.1.now) (sym front)
    (subst (λ (l : List ℕ). AreReadSoFar c.args.rest.now (texts ++ take (prefix_len is_word_byte next) next ∷ []) l) (sym back)
    (goes_on c.args.rest.now texts c.loop-next.left.now next c.loop-next.invariant c.in-Some-behind.ensures.some (subst IsWord front c.if-not-is_word.ensures))))

pub returns : goal.returns
returns c =
    undone c.args.rest.now (map (λ t. t.now) c.loop-next.texts.items) c.loop-next.left.now c.loop-next.invariant
    (λ more e. c.in_default-behind.ensures.none more e) (λ more e. c.in-None.ensures.none more e)
