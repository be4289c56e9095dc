-- Cuts so far, and one more.
use Rattle.std.proofs.Common.{true, false, Bool, ◌≡◌, ◌⊎◌, inl, inr, ◌↔◌, List, [], ◌∷◌, ◌++◌, ℤ, pos, ◌*ℤ◌, ◌<ℤ◌, ◌≤ℤ◌, arith}
use Rattle.std.proofs.lemmas.Int.{ints, by_lt_z}
use Rattle.zones.specs.declared.cuts.CoursePlace.{CoursePlace}
use Rattle.zones.specs.declared.cuts.Cut.{Cut}
use Rattle.zones.specs.Places.{Corner, CourseView, point_at}
use Rattle.zones.specs.Zones.{in_zone}
use Rattle.zones.specs.Stays.{IsStay, IsEntry, IsNever, IsOutAfter}
use Rattle.zones.specs.Cuts.{IsWithinCut, IsHeld, AllAfter, AllApart, AllBetween, IsStays}
use Rattle.zones.proofs.Products.{scale_strictly, swap}
use Rattle.zones.proofs.Orders.{scale, less_back}
use Rattle.zones.proofs.Shrinking.{through}

-- a/b < c/d ≤ e/f
pub less_le : (a b c d e f : ℤ) → pos 0 <ℤ b → pos 0 <ℤ d → pos 0 <ℤ f → (a *ℤ d) <ℤ (c *ℤ b) → (c *ℤ f) ≤ℤ (e *ℤ d) → (a *ℤ f) <ℤ (e *ℤ b)
less_le a b c d e f p q r h k =
    let b0 : pos 0 ≤ℤ b = omega (arith, ints) in
    let x : ((a *ℤ d) *ℤ f) <ℤ ((c *ℤ b) *ℤ f) = scale_strictly (a *ℤ d) (c *ℤ b) f r h in
    let y : ((c *ℤ f) *ℤ b) ≤ℤ ((e *ℤ d) *ℤ b) = scale (c *ℤ f) (e *ℤ d) b b0 k in
    less_back (a *ℤ f) (e *ℤ b) d q (omega (arith, ints, x, y, swap a d f, swap c b f, swap e d b))

-- a/b ≤ c/d < e/f
pub le_less : (a b c d e f : ℤ) → pos 0 <ℤ b → pos 0 <ℤ d → pos 0 <ℤ f → (a *ℤ d) ≤ℤ (c *ℤ b) → (c *ℤ f) <ℤ (e *ℤ d) → (a *ℤ f) <ℤ (e *ℤ b)
le_less a b c d e f p q r h k =
    let f0 : pos 0 ≤ℤ f = omega (arith, ints) in
    let x : ((a *ℤ d) *ℤ f) ≤ℤ ((c *ℤ b) *ℤ f) = scale (a *ℤ d) (c *ℤ b) f f0 h in
    let y : ((c *ℤ f) *ℤ b) <ℤ ((e *ℤ d) *ℤ b) = scale_strictly (c *ℤ f) (e *ℤ d) b p k in
    less_back (a *ℤ f) (e *ℤ b) d q (omega (arith, ints, x, y, swap a d f, swap c b f, swap e d b))

-- all of the cuts end before the place
abbrev pub AllBefore : CoursePlace → List Cut → Type 0
AllBefore place [] = Unit {0}
AllBefore place (cut ∷ cuts) = ((cut.hi.num *ℤ place.den) <ℤ (place.num *ℤ cut.hi.den)) × AllBefore place cuts

held_first : (cs : List Cut) (c : Cut) (n d : ℤ) → IsHeld cs n d → IsHeld (cs ++ (c ∷ [])) n d
held_first [] c n d h = absurd h
held_first (x ∷ xs) c n d (inl h) = inl h
held_first (x ∷ xs) c n d (inr h) = inr (held_first xs c n d h)

held_last : (cs : List Cut) (c : Cut) (n d : ℤ) → IsWithinCut c n d → IsHeld (cs ++ (c ∷ [])) n d
held_last [] c n d h = inl h
held_last (x ∷ xs) c n d h = inr (held_last xs c n d h)

held_split : (cs : List Cut) (c : Cut) (n d : ℤ) → IsHeld (cs ++ (c ∷ [])) n d → IsHeld cs n d ⊎ IsWithinCut c n d
held_split [] c n d (inl h) = inr h
held_split [] c n d (inr h) = absurd h
held_split (x ∷ xs) c n d (inl h) = inl (inl h)
held_split (x ∷ xs) c n d (inr h) = more (held_split xs c n d h)
  where
    more : IsHeld xs n d ⊎ IsWithinCut c n d → IsHeld (x ∷ xs) n d ⊎ IsWithinCut c n d
    more (inl k) = inl (inr k)
    more (inr k) = inr k

-- no cut that ends before a place holds it or a later one
not_held : (p : CoursePlace) (cs : List Cut) (n d : ℤ) → pos 0 <ℤ d → AllBefore p cs → (p.num *ℤ d) ≤ℤ (n *ℤ p.den) → IsHeld cs n d → ⊥
not_held p [] n d z b from h = h
not_held p (x ∷ xs) n d z b from (inl h) =
    let l : (x.hi.num *ℤ d) <ℤ (n *ℤ x.hi.den) = less_le x.hi.num x.hi.den p.num p.den n d x.hi.positive p.positive z b.0 from in
    let g = h.before in
    absurd (omega (arith, ints, l, g))
not_held p (x ∷ xs) n d z b from (inr h) = not_held p xs n d z b.1 from h

after_more : (p : CoursePlace) (cs : List Cut) (c : Cut) → AllAfter p cs → (p.num *ℤ c.lo.den) <ℤ (c.lo.num *ℤ p.den) → AllAfter p (cs ++ (c ∷ []))
after_more p [] c a h = (h, tt)
after_more p (x ∷ xs) c a h = (a.0, after_more p xs c a.1 h)

apart_more : (cs : List Cut) (c : Cut) → AllApart cs → AllBefore c.lo cs → AllApart (cs ++ (c ∷ []))
apart_more [] c a b = (tt, tt)
apart_more (x ∷ xs) c a b = (after_more x.hi xs c a.0 b.0, apart_more xs c a.1 b.1)

before_later : (p q : CoursePlace) (cs : List Cut) → (p.num *ℤ q.den) ≤ℤ (q.num *ℤ p.den) → AllBefore p cs → AllBefore q cs
before_later p q [] h b = tt
before_later p q (x ∷ xs) h b = (less_le x.hi.num x.hi.den p.num p.den q.num q.den x.hi.positive p.positive q.positive b.0 h, before_later p q xs h b.1)

before_more : (p : CoursePlace) (cs : List Cut) (c : Cut) → AllBefore p cs → (c.hi.num *ℤ p.den) <ℤ (p.num *ℤ c.hi.den) → AllBefore p (cs ++ (c ∷ []))
before_more p [] c b h = (h, tt)
before_more p (x ∷ xs) c b h = (b.0, before_more p xs c b.1 h)

between_more : (p q : CoursePlace) (cs : List Cut) (c : Cut) → AllBetween p q cs → (p.num *ℤ c.lo.den) ≤ℤ (c.lo.num *ℤ p.den) → (c.hi.num *ℤ q.den) ≤ℤ (q.num *ℤ c.hi.den) → AllBetween p q (cs ++ (c ∷ []))
between_more p q [] c b h k = (h, k, tt)
between_more p q (x ∷ xs) c b h k = (b.0, b.1, between_more p q xs c b.2 h k)

-- one cut more, at one fraction
exact_more : (b : Bool) (cs : List Cut) (c : Cut) (from : CoursePlace) (n d : ℤ) → pos 0 <ℤ d → AllBefore from cs → (from.num *ℤ c.lo.den) ≤ℤ (c.lo.num *ℤ from.den)
    → ((n *ℤ from.den) <ℤ (from.num *ℤ d) → (b ≡ true) ↔ IsHeld cs n d)
    → ((from.num *ℤ d) ≤ℤ (n *ℤ from.den) → (n *ℤ c.lo.den) <ℤ (c.lo.num *ℤ d) → b ≡ false)
    → ((c.lo.num *ℤ d) ≤ℤ (n *ℤ c.lo.den) → (n *ℤ c.hi.den) ≤ℤ (c.hi.num *ℤ d) → b ≡ true)
    → ((c.hi.num *ℤ d) <ℤ (n *ℤ c.hi.den) → b ≡ false)
    → (b ≡ true) ↔ IsHeld (cs ++ (c ∷ [])) n d
exact_more b cs c from n d z below up old before inside outside =
    by_lt_z (n *ℤ from.den) (from.num *ℤ d)
    (λ early. let t = old early in (
      λ yes. held_first cs c n d (t.0 yes),
      λ h. early_only early t (held_split cs c n d h),
    ))
    (λ late. by_lt_z (n *ℤ c.lo.den) (c.lo.num *ℤ d)
    (λ l. (
      λ yes. absurd (no yes (before late l)),
      λ h. none late (λ w. let k = w.after in omega (arith, ints, k, l)) (held_split cs c n d h),
    ))
    (λ l. by_lt_z (c.hi.num *ℤ d) (n *ℤ c.hi.den)
    (λ past. (
      λ yes. absurd (no yes (outside past)),
      λ h. none late (λ w. let k = w.before in omega (arith, ints, k, past)) (held_split cs c n d h),
    ))
    (λ up_to. (λ yes. held_last cs c n d (record { after = l; before = up_to }), λ h. inside l up_to))))
  where
    no : b ≡ true → b ≡ false → ⊥
    no p q = cc

    early_only : (n *ℤ from.den) <ℤ (from.num *ℤ d) → ((b ≡ true) ↔ IsHeld cs n d) → IsHeld cs n d ⊎ IsWithinCut c n d → b ≡ true
    early_only e t (inl h) = t.1 h
    early_only e t (inr w) =
        let l : (n *ℤ c.lo.den) <ℤ (c.lo.num *ℤ d) = less_le n d from.num from.den c.lo.num c.lo.den z from.positive c.lo.positive e up in
        let k = w.after in
        absurd (omega (arith, ints, l, k))

    none : (from.num *ℤ d) ≤ℤ (n *ℤ from.den) → (IsWithinCut c n d → ⊥) → IsHeld cs n d ⊎ IsWithinCut c n d → b ≡ true
    none late f (inl h) = absurd (not_held from cs n d z below late h)
    none late f (inr w) = absurd (f w)

-- what is known of the cuts up to a place, without it
pub record IsSoFar (rings : List (List Corner)) (course : CourseView) (first last from : CoursePlace) (cuts : List Cut) : Type 0 where
  pub start : (first.num *ℤ from.den) ≤ℤ (from.num *ℤ first.den)
  pub order : (from.num *ℤ last.den) ≤ℤ (last.num *ℤ from.den)
  pub apart : AllApart cuts
  pub between : AllBetween first last cuts
  pub before : AllBefore from cuts
  pub exact :
      (n d : ℤ) → pos 0 <ℤ d → (first.num *ℤ d) ≤ℤ (n *ℤ first.den) → (n *ℤ from.den) <ℤ (from.num *ℤ d)
      → (in_zone rings (point_at course n d) ≡ true) ↔ IsHeld cuts n d

pub so_far_none : (rings : List (List Corner)) (course : CourseView) (first last : CoursePlace) → (first.num *ℤ last.den) ≤ℤ (last.num *ℤ first.den) → IsSoFar rings course first last first []
so_far_none rings course first last h = record {
  start = omega (arith, ints);
  order = h;
  apart = tt;
  between = tt;
  before = tt;
  exact = λ n d z low high. absurd (omega (arith, ints, low, high));
}

module _ (rings : List (List Corner)) (course : CourseView) (first last from next : CoursePlace) (cuts : List Cut) (cut : Cut)
    (s : IsSoFar rings course first last from cuts)
    (e : IsEntry rings course from last cut.lo)
    (t : IsStay rings course cut.lo last (record { end = cut.hi; next = next }))
  where
    -- up to the stay's end, and so far after it as the course is outside
    exact_so_far : (n d : ℤ) → pos 0 <ℤ d → (first.num *ℤ d) ≤ℤ (n *ℤ first.den) → ((cut.hi.num *ℤ d) <ℤ (n *ℤ cut.hi.den) → in_zone rings (point_at course n d) ≡ false)
        → (in_zone rings (point_at course n d) ≡ true) ↔ IsHeld (cuts ++ (cut ∷ [])) n d
    exact_so_far n d z low out =
        exact_more (in_zone rings (point_at course n d)) cuts cut from n d z s.before e.from
        (λ early. s.exact n d z low early)
        (λ late l. e.before n d z late l)
        (λ l h. t.inside n d z l h)
        out

    start_so_far : (first.num *ℤ cut.lo.den) ≤ℤ (cut.lo.num *ℤ first.den)
    start_so_far = through first.num first.den from.num from.den cut.lo.num cut.lo.den first.positive from.positive cut.lo.positive s.start e.from

    pub so_far_more : IsOutAfter rings course cut.hi next last → IsSoFar rings course first last next (cuts ++ (cut ∷ []))
    so_far_more o =
        let ahead : (cut.hi.num *ℤ next.den) ≤ℤ (next.num *ℤ cut.hi.den) = let a = o.after in omega (arith, ints, a) in
        let lo_next : (cut.lo.num *ℤ next.den) ≤ℤ (next.num *ℤ cut.lo.den) = through cut.lo.num cut.lo.den cut.hi.num cut.hi.den next.num next.den cut.lo.positive cut.hi.positive next.positive t.from ahead in
        record {
          start = through first.num first.den cut.lo.num cut.lo.den next.num next.den first.positive cut.lo.positive next.positive start_so_far lo_next;
          order = o.up_to;
          apart = apart_more cuts cut s.apart (before_later from cut.lo cuts e.from s.before);
          between = between_more first last cuts cut s.between start_so_far t.up_to;
          before = before_more next cuts cut (before_later from next cuts (through from.num from.den cut.lo.num cut.lo.den next.num next.den from.positive cut.lo.positive next.positive e.from lo_next) s.before) o.after;
          exact = λ n d z low high. exact_so_far n d z low (λ past. o.outside n d z past high);
        }

    pub so_far_last : (last.num *ℤ cut.hi.den) ≤ℤ (cut.hi.num *ℤ last.den) → IsStays rings course first last (cuts ++ (cut ∷ []))
    so_far_last over = record {
      apart = apart_more cuts cut s.apart (before_later from cut.lo cuts e.from s.before);
      between = between_more first last cuts cut s.between start_so_far t.up_to;
      exact = λ n d z low high. exact_so_far n d z low
          (λ past. let k = through n d last.num last.den cut.hi.num cut.hi.den z last.positive cut.hi.positive high over in absurd (omega (arith, ints, k, past)));
    }

pub so_far_never : (rings : List (List Corner)) (course : CourseView) (first last from : CoursePlace) (cuts : List Cut)
    → IsSoFar rings course first last from cuts → IsNever rings course from last → IsStays rings course first last cuts
so_far_never rings course first last from cuts s never = record {
  apart = s.apart;
  between = s.between;
  exact = λ n d z low high.
      by_lt_z (n *ℤ from.den) (from.num *ℤ d)
      (λ early. s.exact n d z low early)
      (λ late. (
        λ yes. absurd (no (in_zone rings (point_at course n d)) yes (never.outside n d z late high)),
        λ h. absurd (not_held from cuts n d z s.before late h),
      ));
}
  where
    no : (b : Bool) → b ≡ true → b ≡ false → ⊥
    no b p q = cc

-- where the first place is after the last, there is none between them
pub none_between : (rings : List (List Corner)) (course : CourseView) (first last : CoursePlace) → (last.num *ℤ first.den) <ℤ (first.num *ℤ last.den) → IsStays rings course first last []
none_between rings course first last h = record {
  apart = tt;
  between = tt;
  exact = λ n d z low high.
      let k = through first.num first.den n d last.num last.den first.positive z last.positive low high in
      absurd (omega (arith, ints, k, h));
}
