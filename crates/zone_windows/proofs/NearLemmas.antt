-- Corners that are far from a window do not count in it.
use Rattle.std.proofs.Common.{Bool, true, false, ◌&&◌, ◌||◌, if◌then◌else◌, ◌≡◌, ⊎_elim, ◌∙◌, ◌++◌, ℕ, suc, List, [], ◌∷◌, ℤ, pos, negsuc, ◌-ℤ◌, ◌*ℤ◌, ◌<ℤ◌, length, get_or, arith, ap, refl, sym, subst, int_lt}
use Rattle.std.specs.List.{list_all}
use Rattle.std.proofs.lemmas.Int.{ints}
use Rattle.std.proofs.lemmas.List.{append_assoc}
use Rattle.zones.specs.Places.{Corner, CourseView, Edge, Point}
use Rattle.zones.specs.Edges.{either, is_crossed, is_on_edge}
use Rattle.zones.specs.Zones.{edges, edges_after, in_zone, is_odd, is_on_some, last_after, zone_edges}
use Rattle.zones.proofs.Products.{scale_strictly}
use Rattle.zones.proofs.ZoneLemmas.{either_assoc, odd_append, on_some_append}
use Rattle.zone_windows.specs.Near.{AgreeAlong, IsInWindow, IsOnLine, across, along, are_above, are_below, are_left, are_port, are_right, are_starboard, is_above, is_below, is_far, is_left, is_needless, is_port, is_right, is_ring_far, is_starboard, near_after, near_ring, near_rings}
use Rattle.zone_windows.specs.declared.near.Window.{Window}
use Rattle.zone_windows.proofs.Sides.{IsBeside, Quiet, all_three, both_true, cross_from, edge, negated, one_of, quiet}

last_true : (P : Corner → Bool) (c : Corner) (cs : List Corner) → P c ≡ true → list_all P cs ≡ true → P (last_after c cs) ≡ true
last_true P c [] h all = h
last_true P c (next ∷ rest) h all = let t = both_true (P next) (list_all P rest) all in last_true P next rest t.0 t.1

last_by : (far : Bool) (x b last : Corner) (left kept : List Corner) → last_after x left ≡ last → last_after b kept ≡ last → last_after x (if far then left else b ∷ kept) ≡ last
last_by true x b last left kept h k = h
last_by false x b last left kept h k = k

-- what stays has the last corner of all
last_near : (window : Window) (course : CourseView) (x a b : Corner) (rest : List Corner) → last_after x (near_after window course a (b ∷ rest)) ≡ last_after b rest
last_near window course x a b [] = refl
last_near window course x a b (c ∷ rest) =
    last_by (is_far window course a b c) x b (last_after c rest) (near_after window course a (c ∷ rest)) (near_after window course b (c ∷ rest)) (last_near window course x a c rest) (last_near window course b b c rest)

edges_from : (x last : Corner) (cs : List Corner) → last_after x cs ≡ last → edges_after last cs ≡ edges cs
edges_from x last [] e = refl
edges_from x last (c ∷ cs) e = ap (λ (from : Corner). edges_after from (c ∷ cs)) (sym e)

-- the two lists of edges are one at the point
abbrev pub Same : Point → List Edge → List Edge → Type 0
Same p es fs = (is_on_some es p ≡ is_on_some fs p) × (is_odd es p ≡ is_odd fs p)

-- corners of which the test holds are quiet at the point
abbrev pub IsQuiet : Point → (Corner → Bool) → Type 0
IsQuiet p P = (a b c : Corner) → P a ≡ true → P b ≡ true → P c ≡ true → Quiet a b c p

less_of : (x y : ℤ) → int_lt x y ≡ true → x <ℤ y
less_of x y h = grind (arith, ints)

module _ (window : Window) (course : CourseView) (p : Point) (within : IsInWindow window p) (line : IsOnLine course p) where
  d0 : pos 0 <ℤ p.d
  d0 = within.positive

  quiet_above : IsQuiet p (is_above window)
  quiet_above a b c i j k = quiet (pos 1) (pos 0) p d0 a b c (by a i) (by b j) (by c k)
    where
      by : (c : Corner) → is_above window c ≡ true → IsBeside (pos 1) (pos 0) p d0 c
      by c h = let s = scale_strictly window.high c.y p.d d0 (less_of window.high c.y h) in let t = within.to_high in omega (arith, ints, s, t)

  quiet_below : IsQuiet p (is_below window)
  quiet_below a b c i j k = quiet (negsuc 0) (pos 0) p d0 a b c (by a i) (by b j) (by c k)
    where
      by : (c : Corner) → is_below window c ≡ true → IsBeside (negsuc 0) (pos 0) p d0 c
      by c h = let s = scale_strictly c.y window.low p.d d0 (less_of c.y window.low h) in let t = within.from_low in omega (arith, ints, s, t)

  quiet_left : IsQuiet p (is_left window)
  quiet_left a b c i j k = quiet (pos 0) (pos 1) p d0 a b c (by a i) (by b j) (by c k)
    where
      by : (c : Corner) → is_left window c ≡ true → IsBeside (pos 0) (pos 1) p d0 c
      by c h = let s = scale_strictly c.x window.left p.d d0 (less_of c.x window.left h) in let t = within.from_left in omega (arith, ints, s, t)

  quiet_right : IsQuiet p (is_right window)
  quiet_right a b c i j k = quiet (pos 0) (negsuc 0) p d0 a b c (by a i) (by b j) (by c k)
    where
      by : (c : Corner) → is_right window c ≡ true → IsBeside (pos 0) (negsuc 0) p d0 c
      by c h = let s = scale_strictly window.right c.x p.d d0 (less_of window.right c.x h) in let t = within.to_right in omega (arith, ints, s, t)

  abbrev run : ℤ
  run = course.x1 -ℤ course.x0

  abbrev rise : ℤ
  rise = course.y1 -ℤ course.y0

  -- the point's cross product with the course's line, seen from a corner
  beside : (c : Corner) → (p.x -ℤ c.x *ℤ p.d) *ℤ rise -ℤ (p.y -ℤ c.y *ℤ p.d) *ℤ run ≡ (along course c -ℤ across course c) *ℤ p.d
  beside c = let on = line.on in cross_from p.x p.y course.x0 course.y0 c.x c.y run rise p.d on

  quiet_port : IsQuiet p (is_port course)
  quiet_port a b c i j k = quiet run rise p d0 a b c (by a i) (by b j) (by c k)
    where
      by : (c : Corner) → is_port course c ≡ true → IsBeside run rise p d0 c
      by c h =
          let l = less_of (across course c) (along course c) h in
          let s = scale_strictly (pos 0) (along course c -ℤ across course c) p.d d0 (omega (arith, ints, l)) in
          omega (arith, ints, s, beside c)

  quiet_starboard : IsQuiet p (is_starboard course)
  quiet_starboard a b c i j k = quiet (pos 0 -ℤ run) (pos 0 -ℤ rise) p d0 a b c (by a i) (by b j) (by c k)
    where
      by : (c : Corner) → is_starboard course c ≡ true → IsBeside (pos 0 -ℤ run) (pos 0 -ℤ rise) p d0 c
      by c h =
          let l = less_of (along course c) (across course c) h in
          let s = scale_strictly (along course c -ℤ across course c) (pos 0) p.d d0 (omega (arith, ints, l)) in
          omega (arith, ints, s, beside c, negated (p.x -ℤ c.x *ℤ p.d) rise, negated (p.y -ℤ c.y *ℤ p.d) run)

  three : (P : Corner → Bool) → IsQuiet p P → (a b c : Corner) → P a && P b && P c ≡ true → Quiet a b c p
  three P q a b c h = let t = all_three (P a) (P b) (P c) h in q a b c t.0 t.1 t.2

  far_above : (a b c : Corner) → are_above window a b c ≡ true → Quiet a b c p
  unfolding are_above
  far_above = three (is_above window) quiet_above

  far_below : (a b c : Corner) → are_below window a b c ≡ true → Quiet a b c p
  unfolding are_below
  far_below = three (is_below window) quiet_below

  far_left : (a b c : Corner) → are_left window a b c ≡ true → Quiet a b c p
  unfolding are_left
  far_left = three (is_left window) quiet_left

  far_right : (a b c : Corner) → are_right window a b c ≡ true → Quiet a b c p
  unfolding are_right
  far_right = three (is_right window) quiet_right

  far_port : (a b c : Corner) → are_port course a b c ≡ true → Quiet a b c p
  unfolding are_port
  far_port = three (is_port course) quiet_port

  far_starboard : (a b c : Corner) → are_starboard course a b c ≡ true → Quiet a b c p
  unfolding are_starboard
  far_starboard = three (is_starboard course) quiet_starboard

  quiet_far : (a b c : Corner) → is_far window course a b c ≡ true → Quiet a b c p
  quiet_far a b c h =
      let above : Bool = are_above window a b c in
      let below : Bool = are_below window a b c in
      let left : Bool = are_left window a b c in
      let right : Bool = are_right window a b c in
      let port : Bool = are_port course a b c in
      let starboard : Bool = are_starboard course a b c in
      ⊎_elim (λ m. ⊎_elim (λ l. ⊎_elim (λ k. ⊎_elim (λ j. ⊎_elim (far_above a b c) (far_below a b c) (one_of above below j)) (far_left a b c) (one_of (above || below) left k))
      (far_right a b c) (one_of (above || below || left) right l)) (far_port a b c) (one_of (above || below || left || right) port m))
      (far_starboard a b c) (one_of (above || below || left || right || port) starboard h)

  same_cons : (e : Edge) (es fs : List Edge) → Same p es fs → Same p (e ∷ es) (e ∷ fs)
  same_cons e es fs s = (λ i. is_on_edge e p || s.0 i, λ i. either (is_crossed e p) (s.1 i))

  -- one edge in the place of two
  past : (a b c : Corner) (es fs : List Edge) → Quiet a b c p → Same p es (edge a c ∷ fs) → Same p es (edge a b ∷ edge b c ∷ fs)
  past a b c es fs q s = (
    s.0 ∙ (λ i. q.on_ac i || is_on_some fs p) ∙ sym (λ i. q.on_ab i || (q.on_bc i || is_on_some fs p)),
    s.1 ∙ (λ i. either (q.through i) (is_odd fs p)) ∙ either_assoc (is_crossed (edge a b) p) (is_crossed (edge b c) p) (is_odd fs p),
  )

  -- one corner more
  near_by : (far : Bool) (a b c : Corner) (rest left kept : List Corner) → is_far window course a b c ≡ far
      → Same p (edges_after a left) (edges_after a (c ∷ rest)) → Same p (edges_after b kept) (edges_after b (c ∷ rest))
      → Same p (edges_after a (if far then left else b ∷ kept)) (edges_after a (b ∷ c ∷ rest))
  near_by true a b c rest left kept i s t = past a b c (edges_after a left) (edges_after c rest) (quiet_far a b c i) s
  near_by false a b c rest left kept i s t = same_cons (edge a b) (edges_after b kept) (edges_after b (c ∷ rest)) t

  near_same : (a : Corner) (cs : List Corner) → Same p (edges_after a (near_after window course a cs)) (edges_after a cs)
  near_same a [] = (refl, refl)
  near_same a (b ∷ []) = (refl, refl)
  near_same a (b ∷ c ∷ rest) =
      near_by (is_far window course a b c) a b c rest (near_after window course a (c ∷ rest)) (near_after window course b (c ∷ rest)) refl (near_same a (c ∷ rest)) (near_same b (c ∷ rest))

  ring_same : (ring : List Corner) → Same p (edges (near_ring window course ring)) (edges ring)
  ring_same [] = (refl, refl)
  ring_same (first ∷ rest) =
      let last : Corner = last_after first rest in
      let near : List Corner = near_after window course last (first ∷ rest) in
      subst (λ (es : List Edge). Same p es (edges (first ∷ rest))) (edges_from first last near (last_near window course first last first rest)) (near_same last (first ∷ rest))

  -- the edges through corners on one side of the point count as the one from the first to the last
  abbrev IsPassed : Corner → Corner → List Edge → Type 0
  IsPassed from to es = (is_on_some es p ≡ false) × (is_odd es p ≡ is_crossed (edge from to) p)

  passed : (P : Corner → Bool) → IsQuiet p P → (from : Corner) (cs : List Corner) → P from ≡ true → list_all P cs ≡ true → IsPassed from (last_after from cs) (edges_after from cs)
  passed P q from [] h all = (refl, sym (q from from from h h h).still)
  passed P q from (to ∷ rest) h all =
      let t = both_true (P to) (list_all P rest) all in
      let last : Corner = last_after to rest in
      let k = q from to last h t.0 (last_true P to rest t.0 t.1) in
      let more = passed P q to rest t.0 t.1 in (
        (λ i. k.on_ab i || more.0 i),
        (λ i. either (is_crossed (edge from to) p) (more.1 i)) ∙ sym k.through,
      )

  ring_quiet : (P : Corner → Bool) → IsQuiet p P → (ring : List Corner) → list_all P ring ≡ true → Same p [] (edges ring)
  ring_quiet P q [] all = (refl, refl)
  ring_quiet P q (first ∷ rest) all =
      let t = both_true (P first) (list_all P rest) all in
      let last : Corner = last_after first rest in
      let h = last_true P first rest t.0 t.1 in
      let s = passed P q last (first ∷ rest) h all in
      (sym s.0, sym (s.1 ∙ (q last last last h h h).still))

  far_quiet : (ring : List Corner) → is_ring_far window ring ≡ true → Same p [] (edges ring)
  far_quiet ring h =
      let above : Bool = list_all (is_above window) ring in
      let below : Bool = list_all (is_below window) ring in
      let left : Bool = list_all (is_left window) ring in
      let right : Bool = list_all (is_right window) ring in
      ⊎_elim (λ g. ⊎_elim (λ f.
      ⊎_elim (ring_quiet (is_above window) quiet_above ring) (ring_quiet (is_below window) quiet_below ring) (one_of above below f))
      (ring_quiet (is_left window) quiet_left ring) (one_of (above || below) left g))
      (ring_quiet (is_right window) quiet_right ring) (one_of (above || below || left) right h)

  -- a ring more
  rings_by : (far : Bool) (ring : List Corner) (left rings : List (List Corner)) → is_ring_far window ring ≡ far → Same p (zone_edges left) (zone_edges rings)
      → Same p (zone_edges ((if far then [] else near_ring window course ring ∷ []) ++ left)) (zone_edges (ring ∷ rings))
  rings_by true ring left rings i s =
      let m = far_quiet ring i in (
        s.0 ∙ (λ j. m.0 j || is_on_some (zone_edges rings) p) ∙ sym (on_some_append (edges ring) (zone_edges rings) p),
        s.1 ∙ (λ j. either (m.1 j) (is_odd (zone_edges rings) p)) ∙ sym (odd_append (edges ring) (zone_edges rings) p),
      )
  rings_by false ring left rings i s =
      let r = ring_same ring in (
        on_some_append (edges (near_ring window course ring)) (zone_edges left) p ∙ (λ j. r.0 j || s.0 j) ∙ sym (on_some_append (edges ring) (zone_edges rings) p),
        odd_append (edges (near_ring window course ring)) (zone_edges left) p ∙ (λ j. either (r.1 j) (s.1 j)) ∙ sym (odd_append (edges ring) (zone_edges rings) p),
      )

  rings_same : (rings : List (List Corner)) → Same p (zone_edges (near_rings window course rings)) (zone_edges rings)
  rings_same [] = (refl, refl)
  rings_same (ring ∷ rings) = rings_by (is_ring_far window ring) ring (near_rings window course rings) rings refl (rings_same rings)

  zone_same : (rings : List (List Corner)) → in_zone (near_rings window course rings) p ≡ in_zone rings p
  unfolding in_zone
  zone_same rings = let s = rings_same rings in λ i. s.0 i || s.1 i

pub agree_if : (window : Window) (course : CourseView) (near rings : List (List Corner)) → near ≡ near_rings window course rings → AgreeAlong window course near rings
agree_if window course near rings e = subst (λ (l : List (List Corner)). AgreeAlong window course l rings) (sym e) (λ p within line. zone_same window course p within line rings)

-- each point is on the line of a course that stands still
pub on_still : (p : Point) → IsOnLine (record { x0 = pos 0; y0 = pos 0; x1 = pos 0; y1 = pos 0 }) p
on_still p = record { on = omega (arith, ints) }

last_is : (c d : Corner) (rest : List Corner) → get_or (c ∷ rest) (length rest) d ≡ last_after c rest
last_is c d [] = refl
last_is c d (next ∷ rest) = last_is next d rest

-- what stays of a ring, from its last corner on
pub near_from_last : (window : Window) (course : CourseView) (d : Corner) (cs : List Corner) (k : ℕ) → suc k ≡ length cs → near_after window course (get_or cs k d) cs ≡ near_ring window course cs
near_from_last window course d [] k h = absurd (omega arith)
near_from_last window course d (c ∷ rest) k h =
    let e : k ≡ length rest = omega arith in
    ap (λ (i : ℕ). near_after window course (get_or (c ∷ rest) i d) (c ∷ rest)) e ∙ ap (λ (from : Corner). near_after window course from (c ∷ rest)) (last_is c d rest)

left_by : (b : Bool) (one other : List Corner) → b ≡ true → (if b then one else other) ≡ one
left_by true one other h = refl
left_by false one other h = absurd (cc)

kept_by : (b : Bool) (one other : List Corner) → b ≡ false → (if b then one else other) ≡ other
kept_by true one other h = absurd (cc)
kept_by false one other h = refl

-- a corner is left out
pub leaving : (window : Window) (course : CourseView) (near behind all : List Corner) (a b : Corner) → is_needless window course a b behind ≡ true → near ++ near_after window course a (b ∷ behind) ≡ all → near ++ near_after window course a behind ≡ all
leaving window course near behind all a b i h =
    ap (λ l. near ++ l) (sym (left_by (is_needless window course a b behind) (near_after window course a behind) (b ∷ near_after window course b behind) i)) ∙ h

-- a corner stays
pub keeping : (window : Window) (course : CourseView) (near behind all : List Corner) (a b : Corner) → is_needless window course a b behind ≡ false → near ++ near_after window course a (b ∷ behind) ≡ all → (near ++ b ∷ []) ++ near_after window course b behind ≡ all
keeping window course near behind all a b i h =
    append_assoc near (b ∷ []) (near_after window course b behind)
    ∙ ap (λ l. near ++ l) (sym (kept_by (is_needless window course a b behind) (near_after window course a behind) (b ∷ near_after window course b behind) i)) ∙ h
