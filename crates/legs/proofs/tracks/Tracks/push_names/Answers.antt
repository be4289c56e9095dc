use Rattle.std.proofs.Common.{cond, length, sym, ◌∙◌, ◌∷◌, [], nat_le, take}
use Rattle.legs.specs.Names.{fresh_names}
use Rattle.legs.proofs.CountLemmas.{adds_append}
use Rattle.legs.proofs.MetLemmas.{fresh_next}
use Rattle.legs.proofs.tracks.Tracks.push_names.Goals as goal

pub loop-place-preserved : goal.loop-place-preserved
loop-place-preserved c =
    let base = length c.args.self.now.names in
    let names = c.args.names.now.names in
    let latest = c.args.names.now.latest in
    let i = c.loop-place.place in
    let last = c.latest.result in
    rw (fresh_next base names latest i c.name.result.now last (sym c.len-place-end.ensures.paired ∙ c.len-place-end.ensures.value) c.name.ensures c.latest.ensures)
    (adds_append c.args.self.now c.loop-place.self c.push_new.new.self (fresh_names base (take i names) (take i latest)) (cond (nat_le base last.feature) (c.name.result.now ∷ []) []) c.loop-place.invariant
    (rw c.feature_count-known.ensures at c.in_ok-push_new.ensures.ok))
