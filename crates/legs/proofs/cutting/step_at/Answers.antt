use Rattle.std.proofs.Common.{◌≡◌, ◌∙◌, ap, ◌<◌, ◌≤◌, length}
use Rattle.mfcsv.specs.Views.{RecordView}
use Rattle.legs.specs.Legs.{step_between}
use Rattle.legs.proofs.CutLemmas.{step_rises, step_at-read, cut_at, within-leg_count}
use Rattle.legs.proofs.cutting.step_at.Goals as goal

pub unwrap-requires : goal.unwrap-requires
unwrap-requires c =
    let start = ap (λ (r : RecordView). r.t0) c.record.view_is in
    let end = ap (λ (r : RecordView). r.t1) c.record.view_is in
    let from = cut_at c.args.record.now _ _ _ _ _ c.cut_moment-from.ensures start end c.leg_count-legs.ensures.count in
    let to = cut_at c.args.record.now _ _ _ _ _ c.cut_moment-to.ensures start end c.leg_count-legs.ensures.count in
    c.between.ensures.some.1 (rw (from, to) (step_rises c.args.record.now c.args.k c.leg_count-legs.ensures.record c.requires))

pub returns : goal.returns
returns c =
    let start = ap (λ (r : RecordView). r.t0) c.record.view_is in
    let end = ap (λ (r : RecordView). r.t1) c.record.view_is in
    let positions = c.as_slice-positions.ensures ∙ ap (λ (r : RecordView). r.positions) c.record.view_is in
    let from = cut_at c.args.record.now _ _ _ _ _ c.cut_moment-from.ensures start end c.leg_count-legs.ensures.count in
    let to = cut_at c.args.record.now _ _ _ _ _ c.cut_moment-to.ensures start end c.leg_count-legs.ensures.count in
    let n : length c.as_slice-positions.result.now ≡ length c.args.record.now.positions = ap length positions in
    let value : c.unwrap.result ≡ step_between c.cut_moment-from.result c.cut_moment-to.result c.index-positions-k.result c.index-positions-min.result = rw c.unwrap.ensures at c.between.ensures.value in
    let placed : 1 ≤ length c.args.record.now.positions = c.leg_count-legs.ensures.record.placed in
    let within : c.args.k < length c.args.record.now.positions = within-leg_count _ _ placed c.requires in
    value ∙ step_at-read c.args.record.now c.args.k _ _ _ _ placed c.requires within from to (rw positions at c.index-positions-k.is) (rw (c.min.ensures, positions) at c.index-positions-min.is)
