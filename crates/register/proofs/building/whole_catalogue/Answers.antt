use Rattle.std.proofs.Common.{◌≡◌, ◌∙◌, ◌<◌, ◌≤◌, ◌-◌, ◌^◌, ap, sym, refl, arith, length, nat_le, true, false, ⊎_elim}
use Rattle.std.proofs.lemmas.Bool.{cases_lt, true≢false}
use Rattle.register.proofs.ReaderLemmas.{makes_refused}
use Rattle.register.proofs.BuildLemmas.{of_lawful, of_few, of_rows, of_some_row, whole_is, too_many, no_more}
use Rattle.register.proofs.building.whole_catalogue.Goals as goal

pub returns-in_err-tracks : goal.returns-in_err-tracks
returns-in_err-tracks c =
    makes_refused c.in_err-tracks.field-0.0 c.from_residual.ensures.1 (λ b k places of. c.in_err-tracks.ensures.broken b (of_lawful c.args.count c.args.fields.now c.args.contents k places of)) c.in_err-tracks.ensures.fault

pub returns-then-not-is_few : goal.returns-then-not-is_few
returns-then-not-is_few c = record {
  is = tt;
  broken = λ b k places of.
      let few : c.is_few.result ≡ true = c.is_few.ensures.few.1 (of_few c.args.count c.args.fields.now c.args.contents k places of c.in_ok-tracks.field-0.tracks c.in_ok-tracks.ensures.is.tracks) in
      let not = c.if-not-is_few.true in
      (cc);
  fault = tt;
}

pub returns-then-lacks_rows : goal.returns-then-lacks_rows
returns-then-lacks_rows c = record {
  is = tt;
  broken = λ b k places of.
      let none = c.lacks_rows.ensures.0 c.if-lacks_rows.true in
      let len : c.len.result ≡ length c.args.contents.lists.rows = c.len.ensures in
      let row = of_some_row c.args.count c.args.fields.now c.args.contents k places of c.in_ok-tracks.field-0.tracks c.in_ok-tracks.ensures.is.tracks none.1 in
      let no = none.0 in
      omega (arith, no, len, row);
  fault = tt;
}

pub returns-then-not-set_rows : goal.returns-then-not-set_rows
returns-then-not-set_rows c = record {
  is = tt;
  broken = λ b k places of.
      let most : c.args.fields.now.limits.legs < 2 ^ 64 - 1 = let l = c.is_few.ensures.limits.few_legs in omega (arith, l) in
      let few = of_rows c.args.count c.args.fields.now c.args.contents k places of c.in_ok-tracks.field-0.tracks c.in_ok-tracks.ensures.is.tracks most in
      let len : c.len-2.result ≡ length c.args.contents.lists.rows = c.len-2.ensures in
      let fits : nat_le (c.len-2.result) c.in_ok-tracks.field-0.tracks.legs ≡ false = sym c.set_rows.ensures.fits ∙ c.if-not-set_rows.true in
      too_many (c.len-2.result) c.in_ok-tracks.field-0.tracks.legs fits (omega (arith, len, few));
  fault = tt;
}

pub returns : goal.returns
returns c =
    let most : c.args.fields.now.limits.legs < 2 ^ 64 - 1 = let l = c.is_few.ensures.limits.few_legs in omega (arith, l) in
    let few = c.is_few.ensures.few.0 (let e = c.if-not-is_few.false in (cc)) in
    let len : c.len-2.result ≡ length c.args.contents.lists.rows = c.len-2.ensures in
    let fits = no_more (c.len-2.result) c.in_ok-tracks.field-0.tracks.legs (sym c.if-not-set_rows.ensures.fits) in
    let is = c.in_ok-tracks.ensures.is in
    let head = c.in-Some.ensures.some in
    let len-all : c.len.result ≡ length c.args.contents.lists.rows = c.len.ensures in
    let some_row : 0 < c.in_ok-tracks.field-0.tracks.legs → 0 < length c.args.contents.lists.rows = λ some. ⊎_elim
    (λ (row : 0 < length c.args.contents.lists.rows). row)
    (λ (none : length c.args.contents.lists.rows ≤ 0). absurd (true≢false (sym (c.lacks_rows.ensures.1 ((let z : c.len.result ≡ 0 = omega (arith, len-all, none) in z), some)) ∙ c.if-lacks_rows.false)))
    (cases_lt 0 (length c.args.contents.lists.rows)) in
    record {
      is = whole_is c.args.count c.args.fields.now c.args.contents _ _ c.in_ok-tracks.field-0 c.in-Some.head is head.2 head.0 head.1 few.0 few.1 most (omega (arith, len, fits)) some_row
          refl refl (c.if-not-set_rows.ensures.set ∙ ap (λ n. record c.in_ok-tracks.field-0.tracks { rows = n }) len) refl refl;
      broken = tt;
      fault = tt;
    }
