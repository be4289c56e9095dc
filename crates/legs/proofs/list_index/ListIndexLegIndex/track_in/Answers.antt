use Rattle.std.proofs.Common.{◌∙◌, ap, refl}
use Rattle.std.specs.Prelude.{filter}
use Rattle.legs.specs.Index.{live_legs_of}
use Rattle.legs.specs.Legs.{is_live}
use Rattle.legs.proofs.list_index.ListIndexLegIndex.track_in.Goals as goal
use Rattle.legs.proofs.SieveLaws.{sieved_same}

pub returns-clause-found : goal.returns-clause-found
returns-clause-found c = λ sound.
    let live = live_legs_of c.args.feature c.args.period.now c.args.self.now.legs in
    sieved_same c.args._sieve.now c.args.period.now live c.in_ok-live_legs.field-0.items
    (c.in_ok-live_legs.ensures ∙ ap (filter (is_live c.args.period.now)) (c.as_slice.ensures.value ∙ c.in_ok-legs.ensures))

pub returns-clause-told : goal.returns-clause-told
returns-clause-told c =
    let live = live_legs_of c.args.feature c.args.period.now c.args.self.now.legs in (
      live,
      refl,
      sieved_same c.args._sieve.now c.args.period.now live c.in_ok-live_legs.field-0.items
          (c.in_ok-live_legs.ensures ∙ ap (filter (is_live c.args.period.now)) (c.as_slice.ensures.value ∙ c.in_ok-legs.ensures)),
    )
