use Rattle.std.proofs.Common.{◌≡◌, ◌∙◌, ◌<◌, ◌<ℤ◌, ap, sym, length, slice_get, List, Some, arith, true, int_le}
use Rattle.std.proofs.lemmas.Int.{ints}
use Rattle.std.proofs.lemmas.Option.{slice_get_within, slice_get-get_or, get_or_from_slice_get}
use Rattle.legs.specs.Index.{last_end}
use Rattle.legs.specs.declared.tracks.Track.{Track}
use Rattle.legs.proofs.OverLemmas.{over_is, reaches_last}
use Rattle.legs.proofs.tracks.Tracks.is_over.Goals as goal

pub returns-in-Some-clause-none : goal.returns-in-Some-clause-none
returns-in-Some-clause-none c = λ over limits book stands law lawful.
    let tracks : List Track = c.args.self.now.tracks in
    let found = sym c.in-Some.ensures.value in
    let within : c.args.feature < length book.names = omega (arith, slice_get_within tracks c.args.feature c.in-Some.track found, stands.paired) in
    let here = get_or_from_slice_get tracks c.args.feature c.in-Some.track c.in-Some.track found in
    let last : last_end c.args.feature book.legs ≡ Some c.in-Some.track.end = (stands.each c.args.feature c.in-Some.track within).end ∙ ap (λ (t : Track). Some t.end) here in
    let test = sym c.lt.ensures ∙ over in
    let start = c.start.ensures.value in
    let less : c.in-Some.track.end <ℤ c.start.result = grind (arith, ints) in
    over_is c.args.feature c.in-Some.track.end c.args.period.now book.legs lawful law.ordered.in_turn last (omega (arith, ints, less, start))

pub returns-in-Some-clause-exact : goal.returns-in-Some-clause-exact
returns-in-Some-clause-exact c =
    let found : slice_get c.args.self.now.tracks c.args.feature ≡ Some c.in-Some.track = sym c.in-Some.ensures.value in
    let start = c.start.ensures.value in (
      λ over.
          let test = sym c.lt.ensures ∙ over in
          let less : c.in-Some.track.end <ℤ c.start.result = grind (arith, ints) in
          record { track = c.in-Some.track; there = found; before = omega (arith, ints, less, start) },
      λ h.
          let same : h.track ≡ c.in-Some.track = cc (h.there, found) in
          let before = h.before in
          let end : h.track.end ≡ c.in-Some.track.end = ap (λ (t : Track). t.end) same in
          let less : c.in-Some.track.end <ℤ c.start.result = omega (arith, ints, before, end, start) in
          c.lt.ensures ∙ grind (arith, ints),
    )

pub returns-in-Some-clause-reached : goal.returns-in-Some-clause-reached
returns-in-Some-clause-reached c = λ over book stands less.
    let tracks : List Track = c.args.self.now.tracks in
    let found = sym c.in-Some.ensures.value in
    let here = get_or_from_slice_get tracks c.args.feature c.in-Some.track c.in-Some.track found in
    let last : last_end c.args.feature book.legs ≡ Some c.in-Some.track.end = (stands.each c.args.feature c.in-Some.track less).end ∙ ap (λ (t : Track). Some t.end) here in
    let test = sym c.lt.ensures ∙ over in
    let start = c.start.ensures.value in
    let up : int_le c.args.period.now.start c.in-Some.track.end ≡ true = grind (arith, ints) in
    reaches_last c.args.feature c.args.period.now book.legs c.in-Some.track.end last up

pub returns-in-None-clause-reached : goal.returns-in-None-clause-reached
returns-in-None-clause-reached c = λ over book stands less.
    absurd (let none = c.in-None.ensures.value in let there = slice_get-get_or c.args.self.now.tracks c.args.feature (record { end = c.args.period.now.start; legs = 0 }) (let p = stands.paired in omega (arith, less, p)) in cc)
