use Rattle.std.proofs.Common.{rules, ◌≡◌, ◌+◌, ◌≤◌, [], take, drop, sym, ap, ◌∙◌, arith}
use Rattle.std.proofs.lemmas.List.{length-drop, get_or-drop, take_more_same, take-take}
use Rattle.csv.specs.Records.{fields_of}
use Rattle.csv.proofs.RecordFacts.{field-get}
use Rattle.rows.proofs.growing.are_same.Goals as goal

pub loop-i-preserved : goal.loop-i-preserved
loop-i-preserved c =
    let values = fields_of c.args.values.now in
    let i = c.loop-i.i in
    let one = field-get values (c.args.one + i) c.in-Some-Some.value.now (sym c.in-Some-Some.ensures.value) in
    let same : c.in-Some-Some.value.now ≡ c.in-Some-Some.next.now = search rules in
    let other = field-get values (c.args.other + i) c.in-Some-Some.next.now (sym c.in-Some-Some.ensures'.value) in
    take_more_same (drop c.args.one values) (drop c.args.other values) i []
    (omega (arith, length-drop c.args.one values, c.requires.one, c.loop-i-test.true))
    (omega (arith, length-drop c.args.other values, c.requires.other, c.loop-i-test.true))
    c.loop-i.invariant
    (get_or-drop c.args.one values i [] ∙ one ∙ same ∙ sym other ∙ sym (get_or-drop c.args.other values i []))

pub returns : goal.returns
returns c =
    let values = fields_of c.args.values.now in
    let count = c.args.count in
    let i = c.loop-i.i in
    let past : count ≤ i = omega (arith, c.loop-i-test.false) in
    λ t. sym (take-take count i (drop c.args.one values) past) ∙ ap (take count) c.loop-i.invariant ∙ take-take count i (drop c.args.other values) past
