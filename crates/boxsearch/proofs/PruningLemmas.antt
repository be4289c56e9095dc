-- A box that meets makes each box that holds it meet.
use Rattle.std.proofs.Common.{◌≡◌, Bool, true, false, ◌&&◌, refl, sym, ◌∙◌, arith, ℤ, ◌≤ℤ◌}
use Rattle.std.specs.Prelude.{int_le}
use Rattle.std.proofs.lemmas.Bool.{false≢true}
use Rattle.std.proofs.lemmas.Int.{ints, clamps}
use Rattle.legs.specs.Boxes.{BoxView, Holds, cover_of, boxes_meet, intervals_meet, meet_in_plane}
use Rattle.legs.specs.Hull.{IsPruning, leg_boxes}
use Rattle.boxsearch.specs.Way.{meets}

and_left : (a b : Bool) → (a && b) ≡ true → a ≡ true
and_left true b e = refl
and_left false b e = e

and_right : (a b : Bool) → (a && b) ≡ true → b ≡ true
and_right true b e = e
and_right false b e = absurd (false≢true e)

and_both : (a b : Bool) → a ≡ true → b ≡ true → (a && b) ≡ true
and_both true b e f = f
and_both false b e f = e

le_lower : (a b d : ℤ) → b ≤ℤ a → int_le a d ≡ true → int_le b d ≡ true
le_lower a b d l e = grind (arith, ints)

le_higher : (c a b : ℤ) → a ≤ℤ b → int_le c a ≡ true → int_le c b ≡ true
le_higher c a b l e = grind (arith, ints)

wider_interval : (a b c d e f : ℤ) → e ≤ℤ a → b ≤ℤ f → intervals_meet a b c d ≡ true → intervals_meet e f c d ≡ true
wider_interval a b c d e f l m h =
    and_both (int_le e d) (int_le c f) (le_lower a e d l (and_left (int_le a d) (int_le c b) h)) (le_higher c b f m (and_right (int_le a d) (int_le c b) h))

wider_meets : (outer inner query : BoxView) → Holds outer inner → boxes_meet inner query ≡ true → boxes_meet outer query ≡ true
wider_meets outer inner query h e =
    let in_x = intervals_meet inner.x_min inner.x_max query.x_min query.x_max in
    let in_y = intervals_meet inner.y_min inner.y_max query.y_min query.y_max in
    let in_t = intervals_meet inner.t_min inner.t_max query.t_min query.t_max in
    let plane : (in_x && in_y) ≡ true = and_left (in_x && in_y) in_t e in
    and_both (meet_in_plane outer query) (intervals_meet outer.t_min outer.t_max query.t_min query.t_max)
    (and_both (intervals_meet outer.x_min outer.x_max query.x_min query.x_max) (intervals_meet outer.y_min outer.y_max query.y_min query.y_max)
    (wider_interval inner.x_min inner.x_max query.x_min query.x_max outer.x_min outer.x_max h.left h.right (and_left in_x in_y plane))
    (wider_interval inner.y_min inner.y_max query.y_min query.y_max outer.y_min outer.y_max h.bottom h.top (and_right in_x in_y plane)))
    (wider_interval inner.t_min inner.t_max query.t_min query.t_max outer.t_min outer.t_max h.first h.last (and_right (in_x && in_y) in_t e))

holds_one : (p q : BoxView) → Holds (cover_of p q) p
holds_one p q = record { left = omega (arith, ints, clamps); right = omega (arith, ints, clamps); bottom = omega (arith, ints, clamps); top = omega (arith, ints, clamps); first = omega (arith, ints, clamps); last = omega (arith, ints, clamps) }

holds_other : (p q : BoxView) → Holds (cover_of p q) q
holds_other p q = record { left = omega (arith, ints, clamps); right = omega (arith, ints, clamps); bottom = omega (arith, ints, clamps); top = omega (arith, ints, clamps); first = omega (arith, ints, clamps); last = omega (arith, ints, clamps) }

misses : (a b : Bool) → (a ≡ true → b ≡ true) → b ≡ false → a ≡ false
misses true b f e = absurd (false≢true (sym e ∙ f refl))
misses false b f e = refl

pub pruning : (query : BoxView) → IsPruning leg_boxes (meets query)
pruning query p q e = (
  misses (boxes_meet p query) (boxes_meet (cover_of p q) query) (wider_meets (cover_of p q) p query (holds_one p q)) e,
  misses (boxes_meet q query) (boxes_meet (cover_of p q) query) (wider_meets (cover_of p q) q query (holds_other p q)) e,
)
