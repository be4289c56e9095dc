use Rattle.std.proofs.Common.{take}
use Rattle.clipping.specs.Inside.{InRect}
use Rattle.predicates.specs.Courses.{IsCourse}
use Rattle.predicates.proofs.courses.course_of.Given as goal

-- the legs that were walked over
abbrev pub invariant-loop-leg : goal.invariant-loop-leg
invariant-loop-leg l = IsCourse (InRect l.rect) l.course (take l.leg-index l.legs) l.period
