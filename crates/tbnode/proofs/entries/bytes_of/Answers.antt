use Rattle.std.proofs.Common.{ap, refl, ◌∙◌, replicate, rules}
use Rattle.std.proofs.Common.{subst, arith, ◌<◌, ◌^◌, ◌≡◌}
use Rattle.legs.specs.Boxes.{BoxView, IsBox}
use Rattle.tbnode.proofs.LegLemmas.{BoundsFit, entry_reads_back}
use Rattle.tbnode.proofs.LaidLemmas.{put_bits, put_number, entry_filled-is}
use Rattle.tbnode.proofs.entries.bytes_of.Goals as goal

pub returns-clause-value : goal.returns-clause-value
returns-clause-value c =
    let e = c.args.entry.now in
    let i = c.bounds.inside in
    let v = c.bounds.view_is ∙ ap (λ x. x.bounds) c.entry.view_is in
    let s0 = put_number 4 0 c.entry.inside.child e.child (replicate 56 0) (replicate 56 0) c.put_u32.new.bytes c.put_u32.ensures (ap (λ x. x.child) c.entry.view_is) refl in
    let s1 = put_bits 8 i.x_min e.bounds.x_min _ c.put_u32.new.bytes c.put_i64.new.bytes (search rules) c.put_i64.ensures (ap (λ b. b.x_min) v) s0 in
    let s2 = put_bits 16 i.y_min e.bounds.y_min _ c.put_i64.new.bytes c.put_i64-2.new.bytes (search rules) c.put_i64-2.ensures (ap (λ b. b.y_min) v) s1 in
    let s3 = put_bits 24 i.t_min e.bounds.t_min _ c.put_i64-2.new.bytes c.put_i64-3.new.bytes (search rules) c.put_i64-3.ensures (ap (λ b. b.t_min) v) s2 in
    let s4 = put_bits 32 i.x_max e.bounds.x_max _ c.put_i64-3.new.bytes c.put_i64-4.new.bytes (search rules) c.put_i64-4.ensures (ap (λ b. b.x_max) v) s3 in
    let s5 = put_bits 40 i.y_max e.bounds.y_max _ c.put_i64-4.new.bytes c.put_i64-5.new.bytes (search rules) c.put_i64-5.ensures (ap (λ b. b.y_max) v) s4 in
    let s6 = put_bits 48 i.t_max e.bounds.t_max _ c.put_i64-5.new.bytes c.put_i64-6.new.bytes (search rules) c.put_i64-6.ensures (ap (λ b. b.t_max) v) s5 in
    s6 ∙ entry_filled-is e

pub returns-clause-reads_back : goal.returns-clause-reads_back
returns-clause-reads_back c =
    let e = c.args.entry.now in
    let i = c.bounds.inside in
    let v = c.bounds.view_is ∙ ap (λ x. x.bounds) c.entry.view_is in
    let h : c.entry.inside.child < 2 ^ 32 = search rules in
    let same : c.entry.inside.child ≡ e.child = ap (λ x. x.child) c.entry.view_is in
    let b : BoxView = record { x_min = i.x_min; y_min = i.y_min; t_min = i.t_min; x_max = i.x_max; y_max = i.y_max; t_max = i.t_max } in
    let f : BoundsFit b = record { x_min = search rules; y_min = search rules; t_min = search rules; x_max = search rules; y_max = search rules; t_max = search rules } in
    entry_reads_back e (omega (arith, h, same)) (subst BoundsFit v f) (subst IsBox v c.bounds.invariant)
