use Rattle.std.proofs.Common.{arith, rules, ◌≡◌, ◌∙◌, sym, ap, pos, ◌-ℤ◌, ◌+ℤ◌, ◌*◌, ◌/◌, ◌≤ℤ◌, Some, to_z, of_z, w64}
use Rattle.std.proofs.lemmas.Int.{ints}
use Rattle.timebase.specs.Instant.{some_moment, least_moment, greatest_moment}
use Rattle.legs.proofs.CutLemmas.{passed-le, cut_moment-passed, some_moment-in}
use Rattle.legs.proofs.cutting.cut_moment.Goals as goal

pub overflow_cast-passed-3 : goal.overflow_cast-passed-3
overflow_cast-passed-3 c =
    let p = passed-le c.from.result c.args.k c.args.legs c.requires.some c.requires.within in
    omega (arith, ints)

pub overflow_add-millis : goal.overflow_add-millis
overflow_add-millis c =
    let p = passed-le c.from.result c.args.k c.args.legs c.requires.some c.requires.within in
    omega (arith, ints)

pub unwrap-requires : goal.unwrap-requires
unwrap-requires c =
    let p = passed-le c.from.result c.args.k c.args.legs c.requires.some c.requires.within in
    let at : to_z w64 (of_z w64 (to_z w64 (of_z w64 c.millis-3.result) +ℤ to_z w64 (c.from.result * c.args.k / c.args.legs))) ≡ c.args.start +ℤ pos (c.from.result * c.args.k / c.args.legs) = omega (arith, ints) in
    let low : least_moment ≤ℤ (c.args.start +ℤ pos (c.from.result * c.args.k / c.args.legs)) = omega (arith, ints) in
    let high : (c.args.start +ℤ pos (c.from.result * c.args.k / c.args.legs)) ≤ℤ greatest_moment = omega (arith, ints) in
    rw (c.new.ensures, at, some_moment-in _ (low, high)) (search rules)

pub returns : goal.returns
returns c =
    let p = passed-le c.from.result c.args.k c.args.legs c.requires.some c.requires.within in
    let d : pos c.from.result ≡ c.args.end -ℤ c.args.start = omega (arith, ints) in
    let at : to_z w64 (of_z w64 (to_z w64 (of_z w64 c.millis-3.result) +ℤ to_z w64 (c.from.result * c.args.k / c.args.legs))) ≡ c.args.start +ℤ pos (c.from.result * c.args.k / c.args.legs) = omega (arith, ints) in
    let low : least_moment ≤ℤ (c.args.start +ℤ pos (c.from.result * c.args.k / c.args.legs)) = omega (arith, ints) in
    let high : (c.args.start +ℤ pos (c.from.result * c.args.k / c.args.legs)) ≤ℤ greatest_moment = omega (arith, ints) in
    let e : Some c.unwrap.result ≡ Some (c.args.start +ℤ pos (c.from.result * c.args.k / c.args.legs)) = sym c.unwrap.ensures ∙ c.new.ensures ∙ ap some_moment at ∙ some_moment-in _ (low, high) in
    let f : c.unwrap.result ≡ c.args.start +ℤ pos (c.from.result * c.args.k / c.args.legs) = cc in
    f ∙ sym (cut_moment-passed c.args.start c.args.end c.from.result c.args.legs c.args.k d)
