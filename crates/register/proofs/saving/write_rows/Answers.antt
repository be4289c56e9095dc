use Rattle.std.proofs.lemmas.Option.{get_or_from_slice_get}
use Rattle.std.proofs.lemmas.List.{take_all}
use Rattle.std.proofs.Common.{◌++◌, ◌<◌, ◌≤◌, ◌^◌, length, sym, All, arith, rules, subst}
use Rattle.std.specs.List.{flat_map}
use Rattle.byteorder.specs.Endian.{big_bytes}
use Rattle.register.specs.Text.{row_text, IsShortText}
use Rattle.register.proofs.EncodingLemmas.{all_taken}
use Rattle.register.proofs.SavingLemmas.{listed_put, puts_refused, puts_same, puts_then, puts_whole}
use Rattle.register.proofs.saving.write_rows.Goals as goal

pub loop-i-preserved : goal.loop-i-preserved
loop-i-preserved g c =
    let rows = c.args.rows.now in
    let row = c.in-Some.row in
    let less : c.loop-i.i < length rows = omega (arith, c.loop-i-test.true, c.len-i-end.ensures) in
    listed_put row_text (All IsShortText) rows less (get_or_from_slice_get rows c.loop-i.i row row (sym c.in-Some.ensures)) (big_bytes 4 c.args.count) c.loop-i.invariant c.in_ok-write_row.ensures

pub returns : goal.returns
returns g c = λ e.
    let rows = c.args.rows.now in
    let all : length rows ≤ c.loop-i.i = omega (arith, c.loop-i-test.false, c.len-i-end.ensures) in
    let few : c.args.count < 2 ^ 32 = search rules in
    puts_same (λ i. big_bytes 4 (e i) ++ flat_map row_text (take_all c.loop-i.i rows all i))
    (puts_whole (λ each. record { each = all_taken (All IsShortText) rows c.loop-i.i all each; few = subst (λ k. k < 2 ^ 32) e few }) c.loop-i.invariant)

pub returns-in_err-write_row : goal.returns-in_err-write_row
returns-in_err-write_row g c = λ e. puts_refused (λ _. tt) c.from_residual-in_err-write_row.ensures.1 (puts_then c.loop-i.invariant (λ _ whole. whole) _ c.in_err-write_row.ensures)
