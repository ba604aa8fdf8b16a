use Rattle.std.proofs.Common.{◌≡◌, Bool, ltb, List, map, ap, subst, ◌∙◌}
use Rattle.std.specs.Prelude.{IfOk}
use Rattle.mono_store.specs.declared.words.Digit.{Digit}
use Rattle.mono_store.proofs.WithoutEmpty.{room-by_limits}
use Rattle.mono_store.proofs.words.Digits.with_room.Goals as goal

pub returns : goal.returns
returns c =
    let same =
    ap (map (λ (d : Digit). ltb 0 d.limit)) c.as_slice.ensures.value ∙ room-by_limits c.self.inside.digits.items ∙ ap (map (ltb 0)) c.self.view_is in
    subst (λ (bs : List Bool). IfOk c.have_room.result (λ known. known.items ≡ bs)) same c.have_room.ensures
