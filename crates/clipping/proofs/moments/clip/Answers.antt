use Rattle.std.proofs.Common.{arith, None, Some, ◌≡◌, ◌<ℤ◌, ◌∙◌, ap, subst}
use Rattle.std.proofs.lemmas.Int.{ints}
use Rattle.legs.specs.Legs.{LegView}
use Rattle.legs.specs.Boxes.{RectView}
use Rattle.clipping.specs.Line.{Keeps, IsAcross}
use Rattle.clipping.proofs.Cuts.{IsAcross-same, Keeps-none, Keeps-then}
use Rattle.clipping.proofs.InsideLemmas.{Clips-from}
use Rattle.clipping.proofs.moments.clip.Goals as goal

pub returns-in_err-across : goal.returns-in_err-across
returns-in_err-across c =
    let l = c.args.leg.now in
    let r = c.args.rect.now in
    let p = c.args.period.now in
    let v = c.leg.view_is in
    let whole = c.whole.result in
    let rises : l.t0 <ℤ l.t1 = subst (λ (x : LegView). x.t0 <ℤ x.t1) v c.leg.invariant.rises in
    let t0 : c.millis-t0.result ≡ l.t0 = c.millis-t0.ensures.value ∙ ap (λ (x : LegView). x.t0) v in
    let t1 : c.millis-t1.result ≡ l.t1 = c.millis-t1.ensures.value ∙ ap (λ (x : LegView). x.t1) v in
    let start : c.millis.result ≡ p.start = c.millis.ensures.value ∙ c.start.ensures.value in
    let end : c.millis-2.result ≡ p.end = c.millis-2.ensures.value ∙ c.end.ensures.value in
    let t : Keeps whole (IsAcross l.t0 l.t1 p.start p.end) None =
    IsAcross-same whole _ _ _ _ l.t0 l.t1 p.start p.end None (omega (arith, ints)) (omega (arith, ints)) (omega (arith, ints)) (omega (arith, ints)) c.in_err-across.ensures in
    rw c.from_residual.ensures
    (Clips-from l r p whole None rises c.whole.ensures
    (Keeps-none whole _ (IsAcross l.y0 l.y1 r.y_min r.y_max) (Keeps-none whole _ (IsAcross l.x0 l.x1 r.x_min r.x_max) t)))

pub returns-in_err-across-2 : goal.returns-in_err-across-2
returns-in_err-across-2 c =
    let l = c.args.leg.now in
    let r = c.args.rect.now in
    let p = c.args.period.now in
    let v = c.leg.view_is in
    let u = c.rect.view_is in
    let whole = c.whole.result in
    let one = c.in_ok-across.field-0 in
    let rises : l.t0 <ℤ l.t1 = subst (λ (x : LegView). x.t0 <ℤ x.t1) v c.leg.invariant.rises in
    let t0 : c.millis-t0.result ≡ l.t0 = c.millis-t0.ensures.value ∙ ap (λ (x : LegView). x.t0) v in
    let t1 : c.millis-t1.result ≡ l.t1 = c.millis-t1.ensures.value ∙ ap (λ (x : LegView). x.t1) v in
    let x0 : c.units-x0.result ≡ l.x0 = c.units-x0.ensures.value ∙ ap (λ (x : LegView). x.x0) v in
    let x1 : c.units-x1.result ≡ l.x1 = c.units-x1.ensures.value ∙ ap (λ (x : LegView). x.x1) v in
    let start : c.millis.result ≡ p.start = c.millis.ensures.value ∙ c.start.ensures.value in
    let end : c.millis-2.result ≡ p.end = c.millis-2.ensures.value ∙ c.end.ensures.value in
    let x_min : c.units.result ≡ r.x_min = c.units.ensures.value ∙ ap (λ (x : RectView). x.x_min) u in
    let x_max : c.units-2.result ≡ r.x_max = c.units-2.ensures.value ∙ ap (λ (x : RectView). x.x_max) u in
    let t : Keeps whole (IsAcross l.t0 l.t1 p.start p.end) (Some one) =
    IsAcross-same whole _ _ _ _ l.t0 l.t1 p.start p.end (Some one) (omega (arith, ints)) (omega (arith, ints)) (omega (arith, ints)) (omega (arith, ints)) c.in_ok-across.ensures in
    let x : Keeps one (IsAcross l.x0 l.x1 r.x_min r.x_max) None =
    IsAcross-same one _ _ _ _ l.x0 l.x1 r.x_min r.x_max None (omega (arith, ints)) (omega (arith, ints)) (omega (arith, ints)) (omega (arith, ints)) c.in_err-across-2.ensures in
    rw c.from_residual-in_err-across-2.ensures
    (Clips-from l r p whole None rises c.whole.ensures
    (Keeps-none whole _ (IsAcross l.y0 l.y1 r.y_min r.y_max) (Keeps-then whole one _ _ None t x)))

pub returns : goal.returns
returns c =
    let l = c.args.leg.now in
    let r = c.args.rect.now in
    let p = c.args.period.now in
    let v = c.leg.view_is in
    let u = c.rect.view_is in
    let whole = c.whole.result in
    let one = c.in_ok-across.field-0 in
    let two = c.in_ok-across-2.field-0 in
    let rises : l.t0 <ℤ l.t1 = subst (λ (x : LegView). x.t0 <ℤ x.t1) v c.leg.invariant.rises in
    let t0 : c.millis-t0.result ≡ l.t0 = c.millis-t0.ensures.value ∙ ap (λ (x : LegView). x.t0) v in
    let t1 : c.millis-t1.result ≡ l.t1 = c.millis-t1.ensures.value ∙ ap (λ (x : LegView). x.t1) v in
    let x0 : c.units-x0.result ≡ l.x0 = c.units-x0.ensures.value ∙ ap (λ (x : LegView). x.x0) v in
    let x1 : c.units-x1.result ≡ l.x1 = c.units-x1.ensures.value ∙ ap (λ (x : LegView). x.x1) v in
    let y0 : c.units-y0.result ≡ l.y0 = c.units-y0.ensures.value ∙ ap (λ (x : LegView). x.y0) v in
    let y1 : c.units-y1.result ≡ l.y1 = c.units-y1.ensures.value ∙ ap (λ (x : LegView). x.y1) v in
    let start : c.millis.result ≡ p.start = c.millis.ensures.value ∙ c.start.ensures.value in
    let end : c.millis-2.result ≡ p.end = c.millis-2.ensures.value ∙ c.end.ensures.value in
    let x_min : c.units.result ≡ r.x_min = c.units.ensures.value ∙ ap (λ (x : RectView). x.x_min) u in
    let x_max : c.units-2.result ≡ r.x_max = c.units-2.ensures.value ∙ ap (λ (x : RectView). x.x_max) u in
    let y_min : c.units-3.result ≡ r.y_min = c.units-3.ensures.value ∙ ap (λ (x : RectView). x.y_min) u in
    let y_max : c.units-4.result ≡ r.y_max = c.units-4.ensures.value ∙ ap (λ (x : RectView). x.y_max) u in
    let t : Keeps whole (IsAcross l.t0 l.t1 p.start p.end) (Some one) =
    IsAcross-same whole _ _ _ _ l.t0 l.t1 p.start p.end (Some one) (omega (arith, ints)) (omega (arith, ints)) (omega (arith, ints)) (omega (arith, ints)) c.in_ok-across.ensures in
    let x : Keeps one (IsAcross l.x0 l.x1 r.x_min r.x_max) (Some two) =
    IsAcross-same one _ _ _ _ l.x0 l.x1 r.x_min r.x_max (Some two) (omega (arith, ints)) (omega (arith, ints)) (omega (arith, ints)) (omega (arith, ints)) c.in_ok-across-2.ensures in
    let y : Keeps two (IsAcross l.y0 l.y1 r.y_min r.y_max) c.across-3.result =
    IsAcross-same two _ _ _ _ l.y0 l.y1 r.y_min r.y_max c.across-3.result (omega (arith, ints)) (omega (arith, ints)) (omega (arith, ints)) (omega (arith, ints)) c.across-3.ensures in
    Clips-from l r p whole c.across-3.result rises c.whole.ensures
    (Keeps-then whole two _ _ c.across-3.result (Keeps-then whole one _ _ (Some two) t x) y)
