use Rattle.std.proofs.Common.{ℕ, List, ap, sym, ◌∙◌, Bor}
use Rattle.std.specs.Prelude.{option_map}
use Rattle.geo_parser.specs.Texts.{is_text}
use Rattle.geo_parser.proofs.Finding.{found-map, find_here, find_later, find_none, is_text_lem}
use Rattle.geo_parser.proofs.tables.find.Goals as goal

pub returns-then-eq : goal.returns-then-eq
returns-then-eq g c =
    let p = λ (e : Bor (List ℕ) × g.row.M.Denot). is_text e.0.now c.args.word.now in
    let passed = is_text_lem c.loop-text-item.result.0.now c.args.word.now ∙ sym c.eq.ensures ∙ c.if-eq.true in
    ap (option_map (λ e. e.1)) (sym (find_here p c.args.table.now c.loop-text.text-index c.loop-text-item.result c.loop-text-test.true c.loop-text-item.is passed) ∙ c.loop-text.invariant)
    ∙ sym (found-map c.args.table.now c.args.word.now)

pub loop-text-preserved : goal.loop-text-preserved
loop-text-preserved g c =
    let p = λ (e : Bor (List ℕ) × g.row.M.Denot). is_text e.0.now c.args.word.now in
    let failed = is_text_lem c.loop-text-item.result.0.now c.args.word.now ∙ sym c.eq.ensures ∙ c.if-eq.false in
    find_later p c.args.table.now c.loop-text.text-index c.loop-text-item.result c.loop-text-test.true c.loop-text-item.is failed ∙ c.loop-text.invariant

pub returns : goal.returns
returns g c =
    let p = λ (e : Bor (List ℕ) × g.row.M.Denot). is_text e.0.now c.args.word.now in
    ap (option_map (λ e. e.1)) (sym (find_none p c.args.table.now c.loop-text.text-index c.loop-text-test.false) ∙ c.loop-text.invariant)
    ∙ sym (found-map c.args.table.now c.args.word.now)
