use Rattle.std.proofs.Common.{ℕ, ◌≡◌, ◌∙◌, ◌<◌, ◌++◌, ◌∷◌, [], List, drop, set, ap, sym, subst, arith, length, cond}
use Rattle.std.specs.Prelude.{get_or, Some}
use Rattle.std.specs.BTreeMap.{get, is_at}
use Rattle.std.specs.Ordering.{nat_cmp}
use Rattle.std.proofs.lemmas.List.{drop_all}
use Rattle.std.specs.Prelude.{fold}
use Rattle.visiting.specs.Joining.{joined, joined_with}
use Rattle.visiting.specs.Places.{last_place}
use Rattle.visiting.proofs.PlaceLemmas.{fold_more, last_set, places_more}
use Rattle.visiting.proofs.JoinLemmas.{goes_one}
use Rattle.visiting.proofs.joined.joined_of.Goals as goal
use Rattle.visiting.proofs.joined.joined_of.Goals.{in-Some, in-None+in_ok-insert-in-None+in_ok-push-in-None}

pub loop-part-preserved : goal.loop-part-preserved
loop-part-preserved g c =
    let feature = g.J.Joined.feature in
    let part_feature = g.J.Joined.part_feature in
    let of = g.J.Joined.of in
    let goes_on = g.J.Joined.goes_on in
    let with_part = g.J.Joined.with_part in
    let step = joined_with feature part_feature of goes_on with_part in
    let all = c.loop-part.all.items in
    let part = c.part-item.result in
    let parts = c.args.parts.now in
    let i = c.loop-part.part-index in
    let test = c.loop-part-test.true in
    let places = c.loop-part.invariant.places in
    let whole = joined feature part_feature of goes_on with_part parts in
    elim c.match-place_of.branch [
      | in-Some w ↦
          let place = w.in-Some.place in
          let kept = w.with_part.result in
          let one = w.index.result.now in
          let found = subst
          (λ (l : List _). (place < length l) × (last_place feature (part_feature part) l ≡ Some place) × (step l part ≡ set l place (with_part (get_or l place (of part)) part)))
          c.deref.ensures.value w.in-Some.ensures in
          let items : c.match-place_of.all.items ≡ set all place kept = ap (λ v. v.items) w.all-is in
          let same : feature kept ≡ feature (get_or all place one) = ap feature w.with_part.ensures ∙ g.met.J.Joined.keeps one part ∙ ap feature w.index.ensures in
          record {
            places = λ f. ap (λ m. get nat_cmp m f) w.last-is ∙ places f ∙ sym (ap (last_place feature f) items ∙ last_set feature f place all kept one same);
            value = fold_more step whole parts i part all c.match-place_of.all.items (omega (arith, test)) c.part-item.is
                (items ∙ goes_one feature part_feature of goes_on with_part all part place one kept found.0 found.2 w.index.ensures w.with_part.ensures) c.loop-part.invariant.value;
          }
      | in-None+in_ok-insert-in-None+in_ok-push-in-None w ↦
          let begun = subst (λ (l : List _). step l part ≡ l ++ of part ∷ []) c.deref.ensures.value w.in-None.ensures in
          let key : w.feature_of.result ≡ feature (of part) = w.feature_of.ensures ∙ sym (g.met.J.Joined.begins part) in
          let put : (f : ℕ) → get nat_cmp w.insert.new.self f ≡ cond (is_at (nat_cmp (feature (of part))) f) (Some w.len.result) (get nat_cmp c.loop-part.last f) =
          λ f. w.in_ok-insert-in-None.ensures.updates.0 f ∙ ap (λ k. cond (is_at (nat_cmp k) f) (Some w.len.result) (get nat_cmp c.loop-part.last f)) key in
          let items : c.match-place_of.all.items ≡ all ++ of part ∷ [] = ap (λ v. v.items) w.all-is ∙ w.in_ok-push-in-None.ensures.items ∙ ap (λ v. all ++ v ∷ []) w.of.ensures in
          record {
            places = λ f.
                ap (λ m. get nat_cmp m f) w.last-is
                ∙ places_more feature (λ f. get nat_cmp c.loop-part.last f) (λ f. get nat_cmp w.insert.new.self f) all (of part) w.len.result places (w.len.ensures ∙ c.loop-part.all.ok.0) put f
                ∙ sym (ap (last_place feature f) items);
            value = fold_more step whole parts i part all c.match-place_of.all.items (omega (arith, test)) c.part-item.is (items ∙ sym begun) c.loop-part.invariant.value;
          }
    ]

pub returns : goal.returns
returns g c =
    let over = c.loop-part-test.false in
    let step = joined_with g.J.Joined.feature g.J.Joined.part_feature g.J.Joined.of g.J.Joined.goes_on g.J.Joined.with_part in
    let whole = joined g.J.Joined.feature g.J.Joined.part_feature g.J.Joined.of g.J.Joined.goes_on g.J.Joined.with_part c.args.parts.now in
    subst (λ (l : List _). fold step c.loop-part.all.items l ≡ whole) (drop_all c.loop-part.part-index c.args.parts.now (omega (arith, over))) c.loop-part.invariant.value
