use Rattle.csv.specs.Records.{fields_of}
use Rattle.rows.proofs.RowLemmas.{equal-row}
use Rattle.rows.proofs.growing.is_equal.Goals as goal

pub returns : goal.returns
returns c = λ t.
    let counts = c.has_counts_of.ensures c.if-not-has_counts_of.false in
    equal-row (fields_of c.args.values.now) c.args.known c.args.place c.requires counts.0 counts.1 (c.stands_before.ensures c.if-not-stands_before.false) (c.are_same.ensures t)
