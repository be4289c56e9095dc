use Rattle.std.proofs.Common.{true, false, ◌||◌, ◌≡◌, ℕ, ◌+◌, ◌<◌, suc, List, [], ◌∷◌, length, drop, get_or, ap, sym, ◌∙◌, add-one}
use Rattle.std.proofs.Math.Seq.{drop-cons}
use Rattle.std.proofs.lemmas.List.{drop_all}
use Rattle.zones.proofs.ZoneLemmas.{either_assoc, either_false, on_some_more, odd_more}
use Rattle.zones.specs.Places.{Corner, Point, point_at}
use Rattle.zones.specs.Edges.{either}
use Rattle.zones.specs.Zones.{edges, zone_edges, is_on_some, is_odd, in_zone}
use Rattle.zones.proofs.inside.is_inside.Goals as goal

cut : (rings : List (List Corner)) (i : ℕ) (ring : List Corner) → i < length rings → ring ≡ get_or rings i ring → drop i rings ≡ ring ∷ drop (i + 1) rings
cut rings i ring h e = rw add-one (drop-cons rings i ring h ∙ ap (λ (r : List Corner). r ∷ drop (suc i) rings) (sym e))

pub returns-then-is_on_ring : goal.returns-then-is_on_ring
unfolding in_zone
returns-then-is_on_ring c =
    let p : Point = point_at c.args.course.now c.args.at.num c.args.at.den in
    let rs : List (List Corner) = c.args.rings.now in
    let ring : List Corner = c.ring-item.result in
    let i = c.loop-ring.ring-index in
    let split = cut rs i ring c.loop-ring-test.true c.ring-item.is in
    let on : true ≡ is_on_some (edges ring) p = sym c.if-is_on_ring.true ∙ c.is_on_ring.ensures in
    (λ j. (on j || is_on_some (zone_edges (drop (i + 1) rs)) p) || is_odd (zone_edges rs) p)
    ∙ ap (λ b. b || is_odd (zone_edges rs) p) (sym (on_some_more ring (drop (i + 1) rs) p) ∙ ap (λ (rest : List (List Corner)). is_on_some (zone_edges rest) p) (sym split) ∙ c.loop-ring.invariant.on)

pub loop-ring-preserved : goal.loop-ring-preserved
loop-ring-preserved c =
    let p : Point = point_at c.args.course.now c.args.at.num c.args.at.den in
    let rs : List (List Corner) = c.args.rings.now in
    let ring : List Corner = c.ring-item.result in
    let i = c.loop-ring.ring-index in
    let split = cut rs i ring c.loop-ring-test.true c.ring-item.is in
    let off : false ≡ is_on_some (edges ring) p = sym c.if-is_on_ring.false ∙ c.is_on_ring.ensures in
    record {
      on =
          (λ j. off j || is_on_some (zone_edges (drop (i + 1) rs)) p)
          ∙ sym (on_some_more ring (drop (i + 1) rs) p) ∙ ap (λ (rest : List (List Corner)). is_on_some (zone_edges rest) p) (sym split) ∙ c.loop-ring.invariant.on;
      odd =
          (λ j. either (c.either-odd.ensures j) (is_odd (zone_edges (drop (i + 1) rs)) p))
          ∙ either_assoc c.loop-ring.odd c.is_odd_round.result (is_odd (zone_edges (drop (i + 1) rs)) p)
          ∙ (λ j. either c.loop-ring.odd (either (c.is_odd_round.ensures j) (is_odd (zone_edges (drop (i + 1) rs)) p)))
          ∙ ap (either c.loop-ring.odd) (sym (odd_more ring (drop (i + 1) rs) p) ∙ ap (λ (rest : List (List Corner)). is_odd (zone_edges rest) p) (sym split))
          ∙ c.loop-ring.invariant.odd;
    }

pub returns : goal.returns
unfolding in_zone
returns c =
    let p : Point = point_at c.args.course.now c.args.at.num c.args.at.den in
    let rs : List (List Corner) = c.args.rings.now in
    let i = c.loop-ring.ring-index in
    let none : drop i rs ≡ [] = drop_all i rs c.loop-ring-test.false in
    let off : false ≡ is_on_some (zone_edges rs) p = ap (λ (rest : List (List Corner)). is_on_some (zone_edges rest) p) (sym none) ∙ c.loop-ring.invariant.on in
    let odd : c.loop-ring.odd ≡ is_odd (zone_edges rs) p = sym (either_false c.loop-ring.odd) ∙ ap (λ (rest : List (List Corner)). either c.loop-ring.odd (is_odd (zone_edges rest) p)) (sym none) ∙ c.loop-ring.invariant.odd in
    odd ∙ (λ j. off j || is_odd (zone_edges rs) p)
