use Rattle.std.proofs.Common.{rules, refl, arith, ◌∙◌}
use Rattle.std.proofs.lemmas.List.{length-set}
use Rattle.pagecache.proofs.BringLemmas.{all_read_after, one_read_more}
use Rattle.pagecache.proofs.CacheLemmas.{rests, steps-trans}
use Rattle.pagecache.proofs.slots.Slots.read_eight.Goals as goal

pub places-init : goal.places-init
places-init g c = record { steps = rests _ c.requires; found = refl; buffers = search rules; read = record { each = λ j lt f. absurd (omega arith) } }

pub places-preserved : goal.places-preserved
places-preserved g c =
    let i = c.places.invariant in
    let e = c.read_absent.ensures in record {
      steps = steps-trans _ _ _ i.steps e.steps;
      found = length-set c.places.found c.places.place _ ∙ i.found;
      buffers = length-set c.places.pages c.places.place _ ∙ i.buffers;
      read = one_read_more _ _ _ _ c.places.place _ _ (omega (arith, i.found)) (omega (arith, i.buffers)) (all_read_after _ _ _ _ _ _ e.steps i.read) c.in-Ok.ensures.read;
    }

pub returns-in-Err-clause-steps : goal.returns-in-Err-clause-steps
returns-in-Err-clause-steps g c = steps-trans _ _ _ c.places.invariant.steps c.read_absent.ensures.steps
