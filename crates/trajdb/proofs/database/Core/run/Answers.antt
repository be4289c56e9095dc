use Rattle.std.proofs.Common.{[], ℕ, ◌≡◌, ◌+◌, ◌∙◌, ap, refl, List, subst, sym, take}
use Rattle.std.specs.Io.KnownBytes.{Appends}
use Rattle.std.specs.Prelude.{◌⊎◌, IsTrue}
use Rattle.pages.specs.Store.{HasRisen}
use Rattle.trajdb.specs.Database.{CoreView}
use Rattle.trajdb.specs.Promises.{DoesLine}
use Rattle.trajdb.specs.Script.{lines_of}
use Rattle.trajdb.proofs.LineLaws.{run_cut, run_done, run_stopped, runs_of}
use Rattle.trajdb.proofs.RunLemmas.{flushed_or, next_line, nil_from_length}
use Rattle.trajdb.proofs.StepLemmas.{traced_cut, traced_end, traced_more, traced_start, traced_unflushed}
use Rattle.trajdb.proofs.database.Core.run.Goals as goal

pub loop-rest-init : goal.loop-rest-init
loop-rest-init g c = record { lives = ap (λ (v : CoreView g.row.I.Denot). v.failed) (sym c.self.view_is) ∙ c.if-self.false; refuses_none = refl; traced = (0, traced_start (DoesLine g.I.Listed c.args.files.now) _ _ _) }

pub loop-rest-preserved : goal.loop-rest-preserved
loop-rest-preserved g c =
    let traced = c.loop-rest.invariant.traced in
    let next = next_line c.loop-rest.rest.now c.first_piece.result.0.now c.first_piece.result.1.now c.without_return.result.now c.first_piece.ensures.pieces c.without_return.ensures in
    let sends = subst (λ (t : List ℕ). Appends (g.O.Output.seen c.loop-rest.out).contents (g.O.Output.seen c.send.new.self).contents t) c.as_slice.ensures.value c.in-Ok-send.ensures.sent in
    record {
      lives = c.loop-rest.invariant.lives;
      refuses_none = c.in-Ok-send.ensures.refuses_none ∙ c.loop-rest.invariant.refuses_none;
      traced = (traced.0 + 1, traced_more (DoesLine g.I.Listed c.args.files.now) _ _ _ _ _ _ _ _ _ _ traced.0 traced.1 next c.in-Ok.text.items c.in-Ok.ensures.does sends);
    }

pub returns-in-Ok-flush-clause-ok : goal.returns-in-Ok-flush-clause-ok
returns-in-Ok-flush-clause-ok g c =
    let traced = c.loop-rest.invariant.traced in
    let none = nil_from_length c.loop-rest.rest.now (sym c.is_empty.ensures ∙ c.loop-rest-test.false) in
    let run = traced_end (DoesLine g.I.Listed c.args.files.now) _ _ _ _ _ _ _ traced.0 traced.1 none c.in-Ok-flush.ensures.stays in
    λ sound. runs_of g.I.Listed c.args.files.now _ _ _ _ _ run sound

pub returns-in-Ok-flush-clause-call : goal.returns-in-Ok-flush-clause-call
returns-in-Ok-flush-clause-call g c =
    let traced = c.loop-rest.invariant.traced in
    let none = nil_from_length c.loop-rest.rest.now (sym c.is_empty.ensures ∙ c.loop-rest-test.false) in
    let run = traced_end (DoesLine g.I.Listed c.args.files.now) _ _ _ _ _ _ _ traced.0 traced.1 none c.in-Ok-flush.ensures.stays in
    run_done g.I.Listed c.args.files.now g.O.Output.seen c.args.out.now c.flush-2.new.self c.args.self.now c.loop-rest.self (lines_of c.args.script.now) c.loop-rest.invariant.lives run
    (record { refuses_none = c.in-Ok-flush.ensures.flushed.refuses_none ∙ c.loop-rest.invariant.refuses_none; flushed = c.in-Ok-flush.ensures.flushed.flushed })

pub returns-in-Err-flush-clause-call : goal.returns-in-Err-flush-clause-call
returns-in-Err-flush-clause-call g c =
    let traced = c.loop-rest.invariant.traced in
    run_cut g.I.Listed c.args.files.now g.O.Output.seen c.args.out.now c.flush-2.new.self c.args.self.now c.loop-rest.self (lines_of c.args.script.now) c.loop-rest.invariant.lives
    (traced_unflushed (DoesLine g.I.Listed c.args.files.now) _ _ _ _ _ _ _ traced.0 traced.1 c.in-Err-flush.ensures.stays)
    (subst (λ (n : ℕ). HasRisen n (g.O.Output.seen c.flush-2.new.self).refusals) c.loop-rest.invariant.refuses_none c.in-Err-flush.ensures.cause)

pub returns-in-Err-send-clause-call : goal.returns-in-Err-send-clause-call
returns-in-Err-send-clause-call g c =
    let traced = c.loop-rest.invariant.traced in
    let next = next_line c.loop-rest.rest.now c.first_piece.result.0.now c.first_piece.result.1.now c.without_return.result.now c.first_piece.ensures.pieces c.without_return.ensures in
    let part = c.in-Err-send.ensures.part in
    let sends = subst (λ (t : List ℕ). Appends (g.O.Output.seen c.loop-rest.out).contents (g.O.Output.seen c.send.new.self).contents (take part.0 t)) c.as_slice.ensures.value part.1 in
    run_cut g.I.Listed c.args.files.now g.O.Output.seen c.args.out.now c.send.new.self c.args.self.now c.answer.new.self (lines_of c.args.script.now) c.loop-rest.invariant.lives
    (traced_cut (DoesLine g.I.Listed c.args.files.now) _ _ _ _ _ _ _ _ _ _ traced.0 traced.1 next c.in-Ok.text.items c.in-Ok.ensures.does part.0 sends)
    (subst (λ (n : ℕ). HasRisen n (g.O.Output.seen c.send.new.self).refusals) c.loop-rest.invariant.refuses_none c.in-Err-send.ensures.cause)

pub returns-in-Err-clause-call : goal.returns-in-Err-clause-call
returns-in-Err-clause-call g c =
    let traced = c.loop-rest.invariant.traced in
    let next = next_line c.loop-rest.rest.now c.first_piece.result.0.now c.first_piece.result.1.now c.without_return.result.now c.first_piece.ensures.pieces c.without_return.ensures in
    let out' = g.O.Output.seen c.flush.new.self in
    run_stopped g.I.Listed c.args.files.now g.O.Output.seen c.args.out.now c.loop-rest.out c.flush.new.self c.args.self.now c.loop-rest.self c.answer.new.self (lines_of c.args.script.now)
    c.loop-rest.rest.now c.first_piece.result.1.now c.without_return.result.now traced.0 traced.1 next c.in-Err.fault c.in-Err.ensures.stops c.loop-rest.invariant.lives c.flush.ensures.stays
    (subst (λ (n : ℕ). IsTrue out'.is_flushed ⊎ HasRisen n out'.refusals) c.loop-rest.invariant.refuses_none (flushed_or c.flush.result (g.O.Output.seen c.loop-rest.out) out' c.flush.ensures.flushed c.flush.ensures.cause))
