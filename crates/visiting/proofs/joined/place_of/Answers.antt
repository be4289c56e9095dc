use Rattle.std.proofs.Common.{◌≡◌, ◌∙◌, ap, sym, arith, Some}
use Rattle.visiting.specs.Joining.{joined_at}
use Rattle.visiting.specs.Places.{last_place}
use Rattle.visiting.proofs.PlaceLemmas.{last_in}
use Rattle.visiting.proofs.JoinLemmas.{begins_one}
use Rattle.visiting.proofs.joined.place_of.Goals as goal
use Rattle.visiting.proofs.joined.place_of.Goals.{else-place-all-via-then-place-all+else-goes_on, else-place-all-via-else-place-all}

pub returns-else-place-all : goal.returns-else-place-all
returns-else-place-all g c =
    let feature = g.J.Joined.feature in
    let part_feature = g.J.Joined.part_feature in
    let of = g.J.Joined.of in
    let goes_on = g.J.Joined.goes_on in
    let with_part = g.J.Joined.with_part in
    let all = c.args.all.now in
    let part = c.args.part.now in
    let place = c.in_ok-place.field-0.now in
    let found : last_place feature (part_feature part) all ≡ Some place =
    ap (λ f. last_place feature f all) (sym c.feature_of.ensures) ∙ sym (c.requires.places c.feature_of.result) ∙ sym c.in_ok-place.ensures.value in
    elim c.else-place-all.branch [
      | else-place-all-via-then-place-all+else-goes_on w ↦
          ap (joined_at feature part_feature of goes_on with_part all part) found
          ∙ begins_one feature part_feature of goes_on with_part all part place w.index-all-place.result w.if-place-all.true w.index-all-place.is w.if-goes_on.ensures
      | else-place-all-via-else-place-all w ↦
          let within = (last_in feature (part_feature part) place all (of part) found).0 in
          let over = w.if-place-all.false in
          absurd (omega (arith, within, over))
    ]
