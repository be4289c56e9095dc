use Rattle.std.proofs.Common.{◌∙◌, ◌-ℤ◌, ap, int_lt, length, pos, sym, List, ℤ}
use Rattle.mfcsv.specs.Unread.{cells}
use Rattle.mfcsv.specs.Views.{leg_count}
use Rattle.mfcsv.specs.declared.Position.{Position}
use Rattle.mfcsv.proofs.RowLemmas.{long_enough, named}
use Rattle.mfcsv.proofs.data_record.read_record.Goals as goal

pub invariant_of-result : goal.invariant_of-result
invariant_of-result c =
    let name = named (cells c.args.row.now) (sym c.has_wrong_name.ensures ∙ c.if-has_wrong_name.false) in
    let time : ℤ = c.in_ok-t0.t1 -ℤ c.in_ok-t0.t0 in
    record {
      in_order = c.in_ok-t0.ensures.in_order;
      named = rw c.in_ok-mfidref.ensures name.0;
      short = rw c.in_ok-mfidref.ensures name.1;
      placed = c.in_ok-positions.ensures.placed;
      long_enough = long_enough time (pos (leg_count (length c.in_ok-positions.positions))) (ap (λ (ps : List Position). int_lt time (pos (leg_count (length ps)))) (sym c.as_slice.ensures) ∙ sym c.lacks_time.ensures ∙ c.if-lacks_time.false);
    }
