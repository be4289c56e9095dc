use Rattle.std.proofs.Common.{◌≡◌, ◌∙◌, ℤ, pos, ◌+ℤ◌, arith, ap, to_z, of_z, w64}
use Rattle.std.proofs.lemmas.Int.{ints}
use Rattle.timebase.specs.Instant.{some_moment}
use Rattle.legs.proofs.CutLemmas.{some_moment-in}
use Rattle.zoning.proofs.part.later.Goals as goal

pub unreachable-requires : goal.unreachable-requires
unreachable-requires c =
    let sum : ℤ = c.args.start +ℤ pos c.args.by in
    let m = c.millis.ensures.moment in
    let v = c.millis.ensures.value in
    let low = c.requires.0 in
    let high = c.requires.1 in
    let code : to_z w64 (of_z w64 (to_z w64 (of_z w64 c.millis.result) +ℤ to_z w64 c.args.by)) ≡ sum = let a = m.0 in omega (arith, ints, v, a, low, high) in
    let some = c.new.ensures ∙ ap some_moment code ∙ some_moment-in sum c.requires in
    let none = c.in-None.is in
    cc
