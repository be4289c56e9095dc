use Rattle.std.proofs.Common.{List, subst}
use Rattle.std.proofs.lemmas.Result.{IfOk-weaker}
use Rattle.zones.specs.Places.{Corner}
use Rattle.zone_windows.specs.Near.{AgreeAlong, AgreeIn}
use Rattle.zone_windows.specs.declared.near.Window.{Window}
use Rattle.zone_windows.proofs.CourseLemmas.{agree_on}
use Rattle.zone_windows.proofs.windows.Windows.near.Goals as goal

pub returns : goal.returns
returns c =
    let kept : List (List Corner) = c.rings_in.result.now in
    let whole : List (List Corner) = c.args.self.now in
    let course = c.args.course.now in
    IfOk-weaker c.rings_along.result _ _
    (λ near h.
    agree_on course near.items kept whole
    (subst (λ (w : Window). AgreeAlong w course near.items kept) c.window_of-window.ensures h)
    (subst (λ (w : Window). AgreeIn w kept whole) c.window_of-window.ensures c.rings_in.ensures)) c.rings_along.ensures
