use Rattle.std.proofs.Common.{◌≡◌, ℕ, ◌+◌, ◌<◌, ◌≤◌, List, drop, length, rules, take, sym, ap, subst, ◌∙◌, arith}
use Rattle.std.specs.Prelude.{All}
use Rattle.std.proofs.lemmas.List.{take-take, take_all}
use Rattle.std.proofs.lemmas.List.Elements.{All-nil, All-push, All-weaker}
use Rattle.geo_poly.specs.declared.pending.Pending.{Pending}
use Rattle.geo_poly.proofs.Told.{take_more}
use Rattle.geo_poly.proofs.PendingItems.{pending_at, pending_at-is}
use Rattle.geo_poly.proofs.sharing.shared_factors.Goals as goal
use Rattle.geo_poly.proofs.sharing.shared_factors.Goals.{else-not-begin_with, then-not-begin_with}

fewer : (first : List ℕ) (depth s r : ℕ) (es : List Pending) → r ≤ s
    → All (λ (e : Pending). take s (drop depth e.factors.now) ≡ take s first) es
    → All (λ (e : Pending). take r (drop depth e.factors.now) ≡ take r first) es
fewer first depth s r es le h =
    All-weaker (λ (e : Pending). take s (drop depth e.factors.now) ≡ take s first) (λ (e : Pending). take r (drop depth e.factors.now) ≡ take r first)
    (λ e same. sym (take-take r s (drop depth e.factors.now) le) ∙ ap (take r) same ∙ take-take r s first le) es h

pub loop-term-init : goal.loop-term-init
loop-term-init c = record { within = c.shared_with_last-shared.ensures.within; bound = c.shared_with_last-shared.ensures.bound; shared = All-nil _ }

-- one term more shares the first r
one_more : (first : List ℕ) (depth s r : ℕ) (es : List Pending) (i : ℕ) (within : i < length es) → r ≤ s
    → take r (drop depth (pending_at es i).factors.now) ≡ take r first
    → All (λ (e : Pending). take s (drop depth e.factors.now) ≡ take s first) (take i es)
    → All (λ (e : Pending). take r (drop depth e.factors.now) ≡ take r first) (take (i + 1) es)
one_more first depth s r es i within le here before =
    let e = pending_at es i in
    subst (λ (fs : List Pending). All (λ (e : Pending). take r (drop depth e.factors.now) ≡ take r first) fs)
    (sym (take_more es i e within (pending_at-is es i within)))
    (All-push (λ (e : Pending). take r (drop depth e.factors.now) ≡ take r first) (take i es) e (fewer first depth s r (take i es) le before) here)

pub loop-term-preserved : goal.loop-term-preserved
loop-term-preserved c =
    let first = c.args.first.now in
    let depth = c.args.depth in
    let es = c.args.pending.now in
    let i = c.loop-term.term-index in
    let s = c.loop-term.shared in
    let before = c.loop-term.invariant in
    elim c.if-not-begin_with.branch [
      | then-not-begin_with w ↦
          let r = w.common_factors-shared.result in
          let most = w.common_factors-shared.ensures.most in
          let here = ap (take r) (sym w.factors_from.ensures) ∙ w.common_factors-shared.ensures.common in
          rw w.shared-is
          (record {
            within = omega (arith, before.within, most);
            bound = omega (arith, before.bound, most);
            shared = one_more first depth s r es i c.loop-term-test.true most here before.shared;
          })
      | else-not-begin_with w ↦
          rw w.shared-is
          (record {
            within = before.within;
            bound = before.bound;
            shared = one_more first depth s s es i c.loop-term-test.true (omega arith) (search rules) before.shared;
          })
    ]

pub returns-clause-shared : goal.returns-clause-shared
returns-clause-shared c =
    let first = c.args.first.now in
    let depth = c.args.depth in
    let s = c.loop-term.shared in
    subst (λ (es : List Pending). All (λ (e : Pending). take s (drop depth e.factors.now) ≡ take s first) es)
    (take_all c.loop-term.term-index c.args.pending.now (omega (arith, c.loop-term-test.false))) c.loop-term.invariant.shared
