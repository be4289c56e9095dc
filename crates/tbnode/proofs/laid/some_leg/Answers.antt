use Rattle.std.proofs.Common.{ap, sym, ◌∙◌, arith}
use Rattle.std.specs.Option.{is_some}
use Rattle.tbnode.specs.Parts.{signed_at}
use Rattle.tbnode.proofs.LawLemmas.{not_some, not_after, moment_is, last_zero, rises, t0_some, t1_some, x0_some, y0_some, z0_some, x1_some, y1_some, z1_some}
use Rattle.tbnode.proofs.laid.some_leg.Goals as goal

pub returns-in_default : goal.returns-in_default
returns-in_default c = λ e. absurd (not_some c.some_moment.result c.in_default.not-Some (ap is_some c.some_moment.ensures ∙ t0_some c.args.bytes.now e))

pub returns-in_default-some_moment : goal.returns-in_default-some_moment
returns-in_default-some_moment c = λ e. absurd (not_some c.some_moment-2.result c.in_default-some_moment.not-Some (ap is_some c.some_moment-2.ensures ∙ t1_some c.args.bytes.now e))

pub returns-in_default-some_coord : goal.returns-in_default-some_coord
returns-in_default-some_coord c = λ e. absurd (not_some c.some_coord.result c.in_default-some_coord.not-Some (ap is_some c.some_coord.ensures ∙ x0_some c.args.bytes.now e))

pub returns-in_default-some_coord-2 : goal.returns-in_default-some_coord-2
returns-in_default-some_coord-2 c = λ e. absurd (not_some c.some_coord-2.result c.in_default-some_coord-2.not-Some (ap is_some c.some_coord-2.ensures ∙ y0_some c.args.bytes.now e))

pub returns-in_default-some_coord-3 : goal.returns-in_default-some_coord-3
returns-in_default-some_coord-3 c = λ e. absurd (not_some c.some_coord-3.result c.in_default-some_coord-3.not-Some (ap is_some c.some_coord-3.ensures ∙ z0_some c.args.bytes.now e))

pub returns-in_default-some_coord-4 : goal.returns-in_default-some_coord-4
returns-in_default-some_coord-4 c = λ e. absurd (not_some c.some_coord-4.result c.in_default-some_coord-4.not-Some (ap is_some c.some_coord-4.ensures ∙ x1_some c.args.bytes.now e))

pub returns-in_default-some_coord-5 : goal.returns-in_default-some_coord-5
returns-in_default-some_coord-5 c = λ e. absurd (not_some c.some_coord-5.result c.in_default-some_coord-5.not-Some (ap is_some c.some_coord-5.ensures ∙ y1_some c.args.bytes.now e))

pub returns-in_default-some_coord-6 : goal.returns-in_default-some_coord-6
returns-in_default-some_coord-6 c = λ e. absurd (not_some c.some_coord-6.result c.in_default-some_coord-6.not-Some (ap is_some c.some_coord-6.ensures ∙ z1_some c.args.bytes.now e))

pub returns-then-le : goal.returns-then-le
returns-then-le c = λ e.
    let a = moment_is c.in-Some.t0 (signed_at 8 c.args.bytes.now) (sym c.in-Some.is ∙ c.some_moment.ensures) in
    let b = moment_is c.in-Some-some_moment.t1 (signed_at 16 c.args.bytes.now) (sym c.in-Some-some_moment.is ∙ c.some_moment-2.ensures) in
    absurd (not_after (signed_at 8 c.args.bytes.now) (signed_at 16 c.args.bytes.now) c.in-Some.t0 c.in-Some-some_moment.t1 a b (rises c.args.bytes.now e) (sym c.le.ensures ∙ c.if-le.true))

pub returns-then-u32_at-ne0 : goal.returns-then-u32_at-ne0
returns-then-u32_at-ne0 c = λ e. let z = last_zero c.args.bytes.now e in absurd (omega (arith, z, c.u32_at.ensures, c.if-u32_at-ne0.true))
