use Rattle.std.proofs.Common.{ap, refl, ◌∙◌, replicate, rules, subst, arith, ◌<◌, ◌^◌, ◌≡◌}
use Rattle.legs.specs.Legs.{IsLeg}
use Rattle.tbnode.proofs.LegLemmas.{leg_reads_back}
use Rattle.tbnode.proofs.LaidLemmas.{put_signed, put_number, leg_filled-is}
use Rattle.tbnode.proofs.laid.bytes_of.Goals as goal

pub returns-clause-value : goal.returns-clause-value
returns-clause-value c =
    let l = c.args.leg.now in
    let i = c.leg.inside in
    let v = c.leg.view_is in
    let s0 = put_number 8 0 i.ordinal l.ordinal (replicate 80 0) (replicate 80 0) c.put_u64.new.bytes c.put_u64.ensures (ap (λ l. l.ordinal) v) refl in
    let s1 = put_signed 8 i.t0 l.t0 _ c.put_u64.new.bytes c.put_moment.new.bytes c.put_moment.ensures (ap (λ l. l.t0) v) s0 in
    let s2 = put_signed 16 i.t1 l.t1 _ c.put_moment.new.bytes c.put_moment-2.new.bytes c.put_moment-2.ensures (ap (λ l. l.t1) v) s1 in
    let s3 = put_signed 24 i.x0 l.x0 _ c.put_moment-2.new.bytes c.put_coord.new.bytes c.put_coord.ensures (ap (λ l. l.x0) v) s2 in
    let s4 = put_signed 32 i.y0 l.y0 _ c.put_coord.new.bytes c.put_coord-2.new.bytes c.put_coord-2.ensures (ap (λ l. l.y0) v) s3 in
    let s5 = put_signed 40 i.z0 l.z0 _ c.put_coord-2.new.bytes c.put_coord-3.new.bytes c.put_coord-3.ensures (ap (λ l. l.z0) v) s4 in
    let s6 = put_signed 48 i.x1 l.x1 _ c.put_coord-3.new.bytes c.put_coord-4.new.bytes c.put_coord-4.ensures (ap (λ l. l.x1) v) s5 in
    let s7 = put_signed 56 i.y1 l.y1 _ c.put_coord-4.new.bytes c.put_coord-5.new.bytes c.put_coord-5.ensures (ap (λ l. l.y1) v) s6 in
    let s8 = put_signed 64 i.z1 l.z1 _ c.put_coord-5.new.bytes c.put_coord-6.new.bytes c.put_coord-6.ensures (ap (λ l. l.z1) v) s7 in
    let s9 = put_number 4 72 i.row l.row _ c.put_coord-6.new.bytes c.put_u32.new.bytes c.put_u32.ensures (ap (λ l. l.row) v) s8 in
    s9 ∙ leg_filled-is l

pub returns-clause-reads_back : goal.returns-clause-reads_back
returns-clause-reads_back c =
    let l = c.args.leg.now in
    let i = c.leg.inside in
    let v = c.leg.view_is in
    let o : i.ordinal < 2 ^ 64 = search rules in
    let r : i.row < 2 ^ 32 = search rules in
    let same_o : i.ordinal ≡ l.ordinal = ap (λ l. l.ordinal) v in
    let same_r : i.row ≡ l.row = ap (λ l. l.row) v in
    leg_reads_back l (omega (arith, o, same_o)) (omega (arith, r, same_r)) (subst IsLeg v c.leg.invariant)
