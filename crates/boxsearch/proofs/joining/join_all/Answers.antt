use Rattle.std.proofs.lemmas.List.{length-drop}
use Rattle.std.proofs.Common.{sym, ap, ◌≡◌, ◌+◌, drop, length, arith, subst, ◌∙◌}
use Rattle.std.specs.Prelude.{Ok, Err}
use Rattle.std.proofs.lemmas.Result.{err_from_is_err_and}
use Rattle.boxsearch.specs.Taking.{Taking, taken}
use Rattle.boxsearch.proofs.TakingTurns.{IsTaking, run_fits, taking_more, taking_refused, taking_start, taken_run}
use Rattle.boxsearch.proofs.joining.join_all.Goals as goal

pub returns-in_err-join : goal.returns-in_err-join
returns-in_err-join g c =
    let old = c.args.index.now in
    let legs = c.args.legs.now in
    let turns = c.args.turns.now in
    let k = c.runs.from in
    let run = c.next_run.new.run.items in
    let left = taken_run legs run turns k c.in-Ok.ensures.run in
    let so_far = subst (λ ls. IsTaking old c.runs.index (taken legs turns) ls) left c.runs.invariant.taking in
    let more = subst (λ ls. Taking c.runs.index c.join.new.index ls (Err c.in_err-join.field-0.0)) c.as_slice.ensures.value c.in_err-join.ensures in
    let p = err_from_is_err_and c.from_residual.result c.from_residual.ensures.1 in
    rw (p.1, p.2) (taking_refused old c.runs.index c.join.new.index (taken legs turns) (taken legs (drop (k + length run) turns)) run _ so_far more)

pub runs-init : goal.runs-init
runs-init g c = record {
  within = omega arith;
  taking = taking_start c.args.index.now (taken c.args.legs.now c.args.turns.now) c.requires.works;
}

pub runs-preserved : goal.runs-preserved
runs-preserved g c =
    let old = c.args.index.now in
    let legs = c.args.legs.now in
    let turns = c.args.turns.now in
    let k = c.runs.from in
    let run = c.next_run.new.run.items in
    let many : c.len-from.result ≡ length run = c.len-from.ensures ∙ sym c.as_slice.ensures.len ∙ ap length c.as_slice.ensures.value in
    let left = taken_run legs run turns k c.in-Ok.ensures.run in
    let so_far = subst (λ ls. IsTaking old c.runs.index (taken legs turns) ls) left c.runs.invariant.taking in
    let most = run_fits legs run _ c.in-Ok.ensures.run in
    let all = taking_more old c.runs.index c.join.new.index (taken legs turns) (taken legs (drop (k + length run) turns)) run so_far (subst (λ ls. Taking c.runs.index c.join.new.index ls (Ok tt)) c.as_slice.ensures.value c.in_ok-join.ensures) in
    record {
      within = (let d = length-drop k turns in omega (arith, many, most, d, c.runs.invariant.within));
      taking = subst (λ n. IsTaking old c.join.new.index (taken legs turns) (taken legs (drop (k + n) turns))) (sym many) all;
    }
