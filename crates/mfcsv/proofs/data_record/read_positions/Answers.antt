use Rattle.std.proofs.Common.{◌∷◌, ◌∙◌, ◌≡◌, ◌<◌, arith, false, refl, rules, sym, true, subst}
use Rattle.std.proofs.lemmas.Bool.Decides.{nat_tests}
use Rattle.mfcsv.specs.Rows.{words}
use Rattle.mfcsv.specs.Placing.{waits}
use Rattle.mfcsv.specs.declared.data_record.Placed.{Placed}
use Rattle.mfcsv.specs.declared.data_record.Waiting.{Waiting}
use Rattle.mfcsv.specs.declared.data_record.Waiting.TheVariants.{Nothing, X, XAndY}
use Rattle.mfcsv.proofs.PositionLemmas.{IsReading, Reads, count_of, reading-end, reading-fault, reading-left_over, reading-more, reading-none}
use Rattle.mfcsv.proofs.data_record.read_positions.Goals as goal
use Rattle.mfcsv.proofs.data_record.read_positions.Goals.{then-waits-via-then-waits, then-waits-via-else-waits+then-is_empty}

some_wait : (waiting : Waiting) → waits waiting ≡ true → 0 < count_of waiting
some_wait Nothing e = absurd (cc)
some_wait (X x) e = omega arith
some_wait (XAndY x y) e = omega arith

none_waits : (waiting : Waiting) → waits waiting ≡ false → waiting ≡ Nothing
none_waits Nothing e = refl
none_waits (X x) e = absurd (cc)
none_waits (XAndY x y) e = absurd (cc)

pub returns-in_default-read_coord-clause-positions : goal.returns-in_default-read_coord-clause-positions
returns-in_default-read_coord-clause-positions c =
    reading-fault c.args.dimension (words c.args.text.now) c.loop-word.positions.items c.loop-word.waiting c.in-Some.word.now (words c.in-Some.after.now) c.in_default-read_coord.field-0 (rw c.in-Some.ensures.found.0 at c.loop-word.invariant.0) (sym c.in_default-read_coord.ensures.value)

pub loop-word-preserved-in-Part : goal.loop-word-preserved-in-Part
loop-word-preserved-in-Part c =
    let here : IsReading c.args.dimension (words c.args.text.now) c.loop-word.positions.items c.loop-word.waiting (c.in-Some.word.now ∷ words c.in-Some.after.now) = rw c.in-Some.ensures.found.0 at c.loop-word.invariant.0 in
    let more = reading-more c.args.dimension (words c.args.text.now) c.loop-word.positions.items c.loop-word.waiting c.in-Some.word.now (words c.in-Some.after.now) c.in-Ok.coordinate here (sym c.in-Ok.ensures.value) in
    (subst (λ (p : Placed). Reads c.args.dimension (words c.args.text.now) c.loop-word.positions.items p (words c.in-Some.after.now)) (sym c.in-Part.ensures) more, search rules)

pub loop-word-preserved : goal.loop-word-preserved
loop-word-preserved c =
    let here : IsReading c.args.dimension (words c.args.text.now) c.loop-word.positions.items c.loop-word.waiting (c.in-Some.word.now ∷ words c.in-Some.after.now) = rw c.in-Some.ensures.found.0 at c.loop-word.invariant.0 in
    let more = reading-more c.args.dimension (words c.args.text.now) c.loop-word.positions.items c.loop-word.waiting c.in-Some.word.now (words c.in-Some.after.now) c.in-Ok.coordinate here (sym c.in-Ok.ensures.value) in
    (rw c.in_ok-push-in-Whole.ensures.items (subst (λ (p : Placed). Reads c.args.dimension (words c.args.text.now) c.loop-word.positions.items p (words c.in-Some.after.now)) (sym c.in-Whole.ensures) more), search rules)

pub returns-then-waits-clause-positions : goal.returns-then-waits-clause-positions
returns-then-waits-clause-positions c =
    let here = rw c.in_default.ensures.found at c.loop-word.invariant.0 in
    elim c.then-waits.branch [
      | then-waits-via-then-waits w ↦
          reading-left_over c.args.dimension (words c.args.text.now) c.loop-word.positions.items c.loop-word.waiting here (some_wait c.loop-word.waiting (sym c.waits.ensures ∙ w.if-waits.true))
      | then-waits-via-else-waits+then-is_empty w ↦
          reading-none c.args.dimension (words c.args.text.now) c.loop-word.positions.items (rw (none_waits c.loop-word.waiting (sym c.waits.ensures ∙ w.if-waits.false)) at here) (grind (arith, nat_tests))
    ]

pub returns-clause-positions : goal.returns-clause-positions
returns-clause-positions c =
    let here = rw c.in_default.ensures.found at c.loop-word.invariant.0 in
    rw c.from.ensures (reading-end c.args.dimension (words c.args.text.now) c.loop-word.positions.items (rw (none_waits c.loop-word.waiting (sym c.waits.ensures ∙ c.if-waits.false)) at here) (grind (arith, nat_tests)))
