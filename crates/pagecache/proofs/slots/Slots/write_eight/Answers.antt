use Rattle.std.proofs.Common.{◌≡◌, refl, arith, sym, subst, ◌∙◌, Some, IfSome, get_or, []}
use Rattle.pages.specs.Unsealed.{unsealed}
use Rattle.pagecache.proofs.CacheLemmas.{rests, steps-trans, writes-trans}
use Rattle.pagecache.proofs.slots.Slots.write_eight.Goals as goal

pub places-init : goal.places-init
places-init g c = record { steps = rests _ c.requires; keys = refl; memory = λ n. refl }

pub write_sealed-requires-clause-seals : goal.write_sealed-requires-clause-seals
write_sealed-requires-clause-seals g c =
    let n = get_or c.args.numbers.now c.places.place 0 in
    subst (λ o. IfSome o (λ p. unsealed n (get_or c.sealed_eight-pages.result c.places.place []) ≡ Some p)) (sym (c.places.invariant.memory n)) (c.sealed_eight-pages.ensures c.places.place (omega arith))

pub places-preserved : goal.places-preserved
places-preserved g c =
    let i = c.places.invariant in
    let e = c.write_sealed.ensures in record {
      steps = steps-trans _ _ _ i.steps e.writes.steps;
      keys = e.writes.keys ∙ i.keys;
      memory = λ n. e.memory n ∙ i.memory n;
    }

pub returns-in-Err : goal.returns-in-Err
returns-in-Err g c = writes-trans _ _ _ _ c.places.invariant.steps c.places.invariant.keys c.in-Err.ensures.writes
