-- What is known of the leaves of a chain, along a walk back.
use Rattle.std.proofs.Common.{ℕ, zero, suc, ◌+◌, ◌-◌, ◌≡◌, ◌≤◌, ◌<◌, true, false, cond, List, [], ◌∷◌, ◌++◌, take, drop, length, refl, sym, ap, ◌∙◌, arith, subst, append_assoc, get_or, ⊎_elim, inl, inr, Option, Some, None, slice_get, ℤ, pos, ◌≤ℤ◌, ◌<ℤ◌, All, IsTrue}
use Rattle.std.specs.Prelude.{◌⊎◌, Any, int_le, int_lt, if◌then◌else◌}
use Rattle.std.specs.Int.{div_ceil, int_max, int_min}
use Rattle.std.specs.List.{filter}
use Rattle.std.proofs.lemmas.Bool.{cases_eq}
use Rattle.std.proofs.lemmas.Int.{ints, clamps}
use Rattle.std.proofs.lemmas.List.{drop_all, length_push, take_all}
use Rattle.std.proofs.lemmas.List.Elements.{All-head, All-more, All-same, All-tail, All-weaker}
use Rattle.std.proofs.lemmas.Option.{get_or_from_slice_get, slice_get-get_or, slice_get_within}
use Rattle.timebase.specs.Period.{PeriodView}
use Rattle.legs.specs.Boxes.{BoxView}
use Rattle.legs.specs.Costs.{ShapeView}
use Rattle.legs.specs.Legs.{LegView, is_live}
use Rattle.pagecache.specs.Cache.{Cache}
use Rattle.tbtree.specs.Nodes.{Pages, pages_of_cache, Node, LeafView, ALeaf, AnInner}
use Rattle.tbtree.specs.declared.tree.Place.{Place}
use Rattle.chains.specs.Chains.{last_link}
use Rattle.chains.specs.Links.{begins_before, is_end, is_kept, link_back, spot_of, IsLinked}
use Rattle.chains.specs.Reads.{OnlyReads}
use Rattle.chains.specs.Spans.{AreSpans, IsKnown, IsSpanOf, IsWithin, Learns, link_over, over, pass_at}
use Rattle.chains.specs.declared.leaves.Link.{Link}
use Rattle.chains.specs.declared.spans.LeafSpan.{LeafSpan}
use Rattle.chains.specs.declared.spans.Passing.{Passing}
use Rattle.chains.specs.declared.spans.Passing.TheVariants.{Into, Over, End}
use Rattle.legs.proofs.GroupLemmas.{some_none, some_same}
use Rattle.chains.proofs.KeepLemmas.{drop_at}
use Rattle.chains.proofs.StepLemmas.{same_at}

le_from : (x y : ℤ) → int_le x y ≡ true → x ≤ℤ y
le_from x y e = grind (arith, ints)

not_le : (x y : ℤ) → int_le x y ≡ false → y <ℤ x
not_le x y e = grind (arith, ints)

lt_from : (x y : ℤ) → int_lt x y ≡ true → x <ℤ y
lt_from x y e = grind (arith, ints)

lt_to : (x y : ℤ) → x <ℤ y → int_lt x y ≡ true
lt_to x y h = grind (arith, ints)

lt_not : (x y : ℤ) → y ≤ℤ x → int_lt x y ≡ false
lt_not x y h = grind (arith, ints)

-- a span with one leg more in it
within_wider : (s e s' e' : ℤ) → s' ≤ℤ s → e ≤ℤ e' → (leg : LegView) → IsWithin s e leg → IsWithin s' e' leg
within_wider s e s' e' a b leg h =
    let starts = h.starts in
    let ends = h.ends in
    record { starts = omega (arith, ints, a, starts); rises = h.rises; ends = omega (arith, ints, b, ends) }

pub within_more : (legs : List LegView) (i : ℕ) (leg : LegView) (s e s' e' : ℤ) → slice_get legs i ≡ Some leg → s' ≡ int_min s leg.t0 → e' ≡ int_max e leg.t1 → leg.t0 ≤ℤ leg.t1
    → All (IsWithin s e) (take i legs) → All (IsWithin s' e') (take (i + 1) legs)
within_more legs i leg s e s' e' at a b rises all =
    let sooner : s' ≤ℤ s = omega (arith, ints, clamps, a) in
    let later : e ≤ℤ e' = omega (arith, ints, clamps, b) in
    let new : IsWithin s' e' leg = record { starts = omega (arith, ints, clamps, a); rises = rises; ends = omega (arith, ints, clamps, b) } in
    All-more (IsWithin s' e') legs i leg (slice_get_within legs i leg at) (All-weaker (IsWithin s e) (IsWithin s' e') (within_wider s e s' e' sooner later) (take i legs) all)
    (subst (IsWithin s' e') (sym (get_or_from_slice_get legs i leg leg at)) new)

pub within_all : (legs : List LegView) (i : ℕ) (s e : ℤ) → length legs ≤ i → All (IsWithin s e) (take i legs) → All (IsWithin s e) legs
within_all legs i s e long all = All-same (IsWithin s e) legs (take i legs) (sym (take_all i legs long)) all

-- one of the first legs has that moment
pub record HasAt (moment : LegView → ℤ) (legs : List LegView) (i : ℕ) (z : ℤ) : Type 0 where
  pub place : ℕ
  pub leg : LegView
  pub within : place < i
  pub is : slice_get legs place ≡ Some leg
  pub has : moment leg ≡ z

pub has_more : (moment : LegView → ℤ) (legs : List LegView) (i : ℕ) (leg : LegView) (z z' : ℤ) → slice_get legs i ≡ Some leg → (z' ≡ z) ⊎ (z' ≡ moment leg) → HasAt moment legs i z → HasAt moment legs (i + 1) z'
has_more moment legs i leg z z' at which h =
    let within = h.within in
    ⊎_elim
    (λ (e : z' ≡ z). record { place = h.place; leg = h.leg; within = omega (arith, within); is = h.is; has = h.has ∙ sym e })
    (λ (e : z' ≡ moment leg). record { place = i; leg = leg; within = omega arith; is = at; has = sym e })
    which

pub least_of : (a b z : ℤ) → z ≡ int_min a b → (z ≡ a) ⊎ (z ≡ b)
least_of a b z e =
    (elim (int_le a b) as (λ v. int_le a b ≡ v → (z ≡ a) ⊎ (z ≡ b)) [
      | true ↦ λ t. let h = le_from a b t in inl (omega (arith, ints, clamps, e, h))
      | false ↦ λ t. let h = not_le a b t in inr (omega (arith, ints, clamps, e, h))
    ]) refl

pub greatest_of : (a b z : ℤ) → z ≡ int_max a b → (z ≡ a) ⊎ (z ≡ b)
greatest_of a b z e =
    (elim (int_le a b) as (λ v. int_le a b ≡ v → (z ≡ a) ⊎ (z ≡ b)) [
      | true ↦ λ t. let h = le_from a b t in inr (omega (arith, ints, clamps, e, h))
      | false ↦ λ t. let h = not_le a b t in inl (omega (arith, ints, clamps, e, h))
    ]) refl

pub has_any : (moment : LegView → ℤ) (legs : List LegView) (i : ℕ) (z : ℤ) → HasAt moment legs i z → Any (λ (leg : LegView). moment leg ≡ z) legs
has_any moment legs i z h = (h.place, h.leg, slice_get_within legs h.place h.leg h.is, get_or_from_slice_get legs h.place h.leg h.leg h.is, h.has)

-- a leg within a span that is off a period has no moment in it
not_live : (period : PeriodView) (leg : LegView) → (int_max leg.t0 period.start ≤ℤ int_min leg.t1 period.end → ⊥) → is_live period leg ≡ false
not_live period leg off =
    (elim (is_live period leg) as (λ v. is_live period leg ≡ v → v ≡ false) [
      | true ↦ λ live. absurd (off (le_from (int_max leg.t0 period.start) (int_min leg.t1 period.end) live))
      | false ↦ λ live. refl
    ]) refl

module _ (period : PeriodView) (span : LeafSpan) where
  none_live : ((leg : LegView) → IsWithin span.start span.end leg → int_max leg.t0 period.start ≤ℤ int_min leg.t1 period.end → ⊥) → (legs : List LegView) → All (IsWithin span.start span.end) legs → filter (is_live period) legs ≡ []
  none_live off [] all = refl
  none_live off (leg ∷ legs) all =
      let out = not_live period leg (off leg (All-head (IsWithin span.start span.end) leg legs all)) in
      ap (λ b. cond b (leg ∷ filter (is_live period) legs) (filter (is_live period) legs)) out ∙ none_live off legs (All-tail (IsWithin span.start span.end) leg legs all)

  none_after : period.end <ℤ span.start → (legs : List LegView) → All (IsWithin span.start span.end) legs → filter (is_live period) legs ≡ []
  none_after off = none_live (λ leg h live. let starts = h.starts in omega (arith, ints, clamps, live, off, starts))

  none_before : span.end <ℤ period.start → (legs : List LegView) → All (IsWithin span.start span.end) legs → filter (is_live period) legs ≡ []
  none_before off = none_live (λ leg h live. let ends = h.ends in omega (arith, ints, clamps, live, off, ends))

  begins_not : period.end <ℤ span.start → period.start ≤ℤ period.end → (legs : List LegView) → All (IsWithin span.start span.end) legs → begins_before period legs ≡ false
  begins_not off order [] all = refl
  begins_not off order (leg ∷ legs) all =
      let h = All-head (IsWithin span.start span.end) leg legs all in
      let starts = h.starts in
      lt_not leg.t0 period.start (omega (arith, ints, off, order, starts))

  begins : span.end <ℤ period.start → (legs : List LegView) → 0 < length legs → All (IsWithin span.start span.end) legs → begins_before period legs ≡ true
  begins off [] some all = absurd (omega (arith, some))
  begins off (leg ∷ legs) some all =
      let h = All-head (IsWithin span.start span.end) leg legs all in
      let rises = h.rises in
      let ends = h.ends in
      lt_to leg.t0 period.start (omega (arith, ints, off, rises, ends))

-- where a walk passes a known leaf, or ends at it, nothing is kept of it
pub off_over : (period : PeriodView) (span : LeafSpan) (page : ℕ) (leaf : LeafView LegView) → period.start ≤ℤ period.end → period.end <ℤ span.start → IsSpanOf span page leaf
    → (is_end (Some period) leaf.legs ≡ false) × (filter (is_kept (Some period)) leaf.legs ≡ [])
off_over period span page leaf order off s = (begins_not period span off order leaf.legs s.each, none_after period span off leaf.legs s.each)

pub off_end : (period : PeriodView) (span : LeafSpan) (page : ℕ) (leaf : LeafView LegView) → span.end <ℤ period.start → IsSpanOf span page leaf
    → (is_end (Some period) leaf.legs ≡ true) × (filter (is_kept (Some period)) leaf.legs ≡ [])
off_end period span page leaf off s = (begins period span off leaf.legs s.some s.each, none_before period span off leaf.legs s.each)

-- what makes a walk pass a leaf
pub record PassesOver (span : LeafSpan) (before : Option LeafSpan) (left : ℕ) (period : Option PeriodView) (link : Link) : Type 0 where
  pub at : PeriodView
  pub is : period ≡ Some at
  pub off : at.end <ℤ span.start
  pub link_is : over span before left ≡ Over link

-- or end
pub record EndsAt (span : LeafSpan) (period : Option PeriodView) : Type 0 where
  pub at : PeriodView
  pub is : period ≡ Some at
  pub off : span.end <ℤ at.start

abbrev IsOver : Passing → Type 0
IsOver (Over link) = Unit {0}
IsOver _ = ⊥

abbrev IsAnEnd : Passing → Type 0
IsAnEnd End = Unit {0}
IsAnEnd _ = ⊥

link_or : Passing → Link → Link
link_or (Over link) d = link
link_or _ d = d

over_same : (a b : Link) → Over a ≡ Over b → a ≡ b
unfolding link_or
over_same a b e = ap (λ x. link_or x a) e

over_no_end : (span : LeafSpan) (before : Option LeafSpan) (left : ℕ) → End ≡ over span before left → ⊥
over_no_end span (Some before) left e = subst IsAnEnd e tt
over_no_end span None zero e = subst IsAnEnd e tt
over_no_end span None (suc left) e = subst IsAnEnd e tt

over_of : (span : LeafSpan) (before : Option LeafSpan) (left : ℕ) (period : PeriodView) (link : Link) → Over link ≡ pass_at (Some span) before left (Some period)
    → (period.end <ℤ span.start) × (over span before left ≡ Over link)
over_of span before left period link e =
    (elim (int_lt span.end period.start) as (λ v. Over link ≡ (if v then End else if int_le span.start period.end then Into else over span before left) → (period.end <ℤ span.start) × (over span before left ≡ Over link)) [
      | true ↦ λ e. absurd (subst IsOver e tt)
      | false ↦ λ e.
          (elim (int_le span.start period.end) as (λ v. int_le span.start period.end ≡ v → Over link ≡ (if v then Into else over span before left) → (period.end <ℤ span.start) × (over span before left ≡ Over link)) [
            | true ↦ λ z e. absurd (subst IsOver e tt)
            | false ↦ λ z e. (not_le span.start period.end z, sym e)
          ]) refl e
    ]) e

end_of : (span : LeafSpan) (before : Option LeafSpan) (left : ℕ) (period : PeriodView) → End ≡ pass_at (Some span) before left (Some period) → span.end <ℤ period.start
end_of span before left period e =
    (elim (int_lt span.end period.start) as (λ v. int_lt span.end period.start ≡ v → End ≡ (if v then End else if int_le span.start period.end then Into else over span before left) → span.end <ℤ period.start) [
      | true ↦ λ z e. lt_from span.end period.start z
      | false ↦ λ z e.
          (elim (int_le span.start period.end) as (λ v. End ≡ (if v then Into else over span before left) → span.end <ℤ period.start) [
            | true ↦ λ e. absurd (subst IsAnEnd e tt)
            | false ↦ λ e. absurd (over_no_end span before left e)
          ]) e
    ]) refl e

pub passes_over : (o before : Option LeafSpan) (left : ℕ) (period : Option PeriodView) (link : Link) → Over link ≡ pass_at o before left period
    → (span : LeafSpan) × (o ≡ Some span) × PassesOver span before left period link
passes_over None before left period link e = absurd (subst IsOver e tt)
passes_over (Some span) before left None link e = absurd (subst IsOver e tt)
passes_over (Some span) before left (Some period) link e =
    let h = over_of span before left period link e in
    (span, refl, record { at = period; is = refl; off = h.0; link_is = h.1 })

pub ends_at : (o before : Option LeafSpan) (left : ℕ) (period : Option PeriodView) → End ≡ pass_at o before left period
    → (span : LeafSpan) × (o ≡ Some span) × EndsAt span period
ends_at None before left period e = absurd (subst IsAnEnd e tt)
ends_at (Some span) before left None e = absurd (subst IsAnEnd e tt)
ends_at (Some span) before left (Some period) e = (span, refl, record { at = period; is = refl; off = end_of span before left period e })

pub get_within : (n : ℕ) (xs : List LeafSpan) (x : LeafSpan) → slice_get xs n ≡ Some x → suc n ≤ length xs
get_within n [] x e = absurd (some_none x (sym e))
get_within zero (y ∷ xs) x e = omega arith
get_within (suc n) (y ∷ xs) x e = let h = get_within n xs x e in omega (arith, h)

leaf_of : LeafView LegView → Option (Option (Node LegView BoxView)) → LeafView LegView
leaf_of d (Some (Some (ALeaf leaf))) = leaf
leaf_of d _ = d

abbrev leaf_there : LeafView LegView → Option (Option (Node LegView BoxView))
leaf_there leaf = Some (Some (ALeaf leaf))

pub leaf_same : (a b : LeafView LegView) → leaf_there a ≡ leaf_there b → a ≡ b
unfolding leaf_of
leaf_same a b e = ap (λ (o : Option (Option (Node LegView BoxView))). leaf_of a o) e

module _ (nodes : Pages LegView BoxView) (most legs first : ℕ) where
  abbrev Spans : List LeafSpan → ℕ → Link → Type 0
  Spans spans n link = AreSpans nodes most legs first spans n link

  -- a known leaf is there
  pub record IsThere (span : LeafSpan) (spans : List LeafSpan) (n : ℕ) (link : Link) : Type 0 where
    pub rest : ℕ
    pub more : n ≡ suc rest
    pub leaf : LeafView LegView
    pub linked : IsLinked nodes link (spot_of most legs first rest) leaf
    pub is : IsSpanOf span link.page leaf
    pub before : Spans spans rest (link_back link.page leaf)

  pub there : (span : LeafSpan) (spans : List LeafSpan) (n : ℕ) (link : Link) → Spans (span ∷ spans) n link → IsThere span spans n link
  there span spans zero link h = absurd h
  there span spans (suc n) link h = record { rest = n; more = refl; leaf = h.0; linked = h.1; is = h.2; before = h.3 }

  -- a walk has passed so many of the known leaves, and is at that link with n leaves to go, from the start of a chain
  pub record IsOnWay (blocks : ℕ) (start : Link) (passed : ℕ) (spans : List LeafSpan) (n : ℕ) (link : Link) : Type 0 where
    pub within : passed ≤ length spans
    pub ahead : Spans (drop passed spans) n link
    pub behind : (more : List LeafSpan) → Spans more n link → Spans (take passed spans ++ more) blocks start

  pub take_drop : (n : ℕ) (xs : List LeafSpan) → take n xs ++ drop n xs ≡ xs
  take_drop zero xs = refl
  take_drop (suc n) [] = refl
  take_drop (suc n) (x ∷ xs) = ap (λ l. x ∷ l) (take_drop n xs)

  pub take_more : (n : ℕ) (xs : List LeafSpan) (x : LeafSpan) (more : List LeafSpan) → slice_get xs n ≡ Some x → take (suc n) xs ++ more ≡ take n xs ++ (x ∷ more)
  take_more n [] x more e = absurd (some_none x (sym e))
  take_more zero (y ∷ xs) x more e = ap (λ z. z ∷ more) (some_same y x e)
  take_more (suc n) (y ∷ xs) x more e = ap (λ l. y ∷ l) (take_more n xs x more e)

  module _ (blocks : ℕ) (start : Link) where
    abbrev OnWay : ℕ → List LeafSpan → ℕ → Link → Type 0
    OnWay passed spans n link = IsOnWay blocks start passed spans n link

    -- all that is known is so, wherever the walk is
    pub all_known : (passed : ℕ) (spans : List LeafSpan) (n : ℕ) (link : Link) → OnWay passed spans n link → Spans spans blocks start
    all_known passed spans n link w = subst (λ l. Spans l blocks start) (take_drop passed spans) (w.behind (drop passed spans) w.ahead)

    -- the known leaf at which a walk is
    pub known_here : (passed : ℕ) (spans : List LeafSpan) (n : ℕ) (link : Link) (span : LeafSpan) → OnWay passed spans n link → slice_get spans passed ≡ Some span
        → IsThere span (drop (suc passed) spans) n link
    known_here passed spans n link span w e = there span (drop (suc passed) spans) n link (subst (λ l. Spans l n link) (drop_at spans passed span e) w.ahead)

    -- past a known leaf
    pub past_known : (passed : ℕ) (spans : List LeafSpan) (n rest : ℕ) (link : Link) (span : LeafSpan) (leaf : LeafView LegView) → OnWay passed spans n link → slice_get spans passed ≡ Some span → n ≡ suc rest
        → nodes.at link.page ≡ Some (Some (ALeaf leaf)) → OnWay (suc passed) spans rest (link_back link.page leaf)
    past_known passed spans n rest link span leaf w e z is =
        let t = known_here passed spans n link span w e in
        let same_rest : t.rest ≡ rest = let m = t.more in omega (arith, m, z) in
        let same_leaf : t.leaf ≡ leaf = leaf_same t.leaf leaf (sym t.linked.is ∙ is) in
        let ahead : Spans (drop (suc passed) spans) rest (link_back link.page leaf) =
        subst (λ (l : LeafView LegView). Spans (drop (suc passed) spans) rest (link_back link.page l)) same_leaf (subst (λ k. Spans (drop (suc passed) spans) k (link_back link.page t.leaf)) same_rest t.before) in
        record {
          within = get_within passed spans span e;
          ahead = ahead;
          behind = λ more h. subst (λ l. Spans l blocks start) (sym (take_more passed spans span more e))
              (w.behind (span ∷ more) (subst (λ k. Spans (span ∷ more) k link) (sym t.more)
              (t.leaf, t.linked, t.is, subst (λ k. Spans more k (link_back link.page t.leaf)) (sym same_rest) (subst (λ (l : LeafView LegView). Spans more rest (link_back link.page l)) (sym same_leaf) h))));
        }

    -- past one that is learned
    pub past_new : (passed : ℕ) (spans : List LeafSpan) (n rest : ℕ) (link : Link) (span : LeafSpan) (leaf : LeafView LegView) → OnWay passed spans n link → passed ≡ length spans → n ≡ suc rest
        → IsLinked nodes link (spot_of most legs first rest) leaf → IsSpanOf span link.page leaf → OnWay (suc passed) (spans ++ span ∷ []) rest (link_back link.page leaf)
    past_new passed spans n rest link span leaf w e z linked is =
        let all : List LeafSpan = spans ++ span ∷ [] in
        let long : length all ≡ suc passed = let l = length_push spans span in omega (arith, l, e) in
        record {
          within = omega (arith, long);
          ahead = subst (λ l. Spans l rest (link_back link.page leaf)) (sym (drop_all (suc passed) all (omega (arith, long)))) tt;
          behind = λ more h.
              let front : take (suc passed) all ≡ all = take_all (suc passed) all (omega (arith, long)) in
              let old : take passed spans ≡ spans = take_all passed spans (omega (arith, e)) in
              let joined : take passed spans ++ (span ∷ more) ≡ take (suc passed) all ++ more =
              ap (λ l. l ++ (span ∷ more)) old ∙ sym (append_assoc spans (span ∷ []) more) ∙ ap (λ l. l ++ more) (sym front) in
              subst (λ l. Spans l blocks start) joined (w.behind (span ∷ more) (subst (λ k. Spans (span ∷ more) k link) (sym z) (leaf, linked, is, h)));
        }

    -- past a leaf that was read: it was known, or is learned
    pub past_read : (passed : ℕ) (old new : List LeafSpan) (n rest : ℕ) (link : Link) (leaf : LeafView LegView) → OnWay passed old n link → n ≡ suc rest
        → IsLinked nodes link (spot_of most legs first rest) leaf → Learns old new passed link.page leaf → OnWay (suc passed) new rest (link_back link.page leaf)
    past_read passed old new n rest link leaf w z linked learns =
        ⊎_elim
        (λ (e : passed ≡ length old).
        let l = learns.next e in
        subst (λ spans. OnWay (suc passed) spans rest (link_back link.page leaf)) (sym l.2) (past_new passed old n rest link l.0 leaf w e z linked l.1))
        (λ (e : passed ≡ length old → ⊥).
        let inside : passed < length old = let k = w.within in omega (arith, k, e) in
        let span : LeafSpan = get_or old passed (record { page = 0; feature = 0; start = pos 0; end = pos 0 }) in
        subst (λ spans. OnWay (suc passed) spans rest (link_back link.page leaf)) (sym (learns.same e))
        (past_known passed old n rest link span leaf w (slice_get-get_or old passed _ inside) z linked.is))
        (cases_eq passed (length old))

  -- the link over a known leaf is that to the leaf before it
  pub link_over_is : (passed : ℕ) (spans : List LeafSpan) (n rest : ℕ) (link back : Link) (span : LeafSpan) (t : IsThere span (drop (suc passed) spans) n link)
      → over span (slice_get spans (suc passed)) rest ≡ Over back → n ≡ suc rest → back ≡ link_back link.page t.leaf
  link_over_is passed spans n rest link back span t o z =
      let same_rest : t.rest ≡ rest = let m = t.more in omega (arith, m, z) in
      let after : (page : ℕ) → page ≡ t.leaf.previous → link_over span page ≡ link_back link.page t.leaf =
      λ page p. ap (λ q. link_over span q) p ∙ ap (λ n. record { page = t.leaf.previous; next = n; feature = span.feature }) t.is.page_is ∙ ap (λ f. record { page = t.leaf.previous; next = link.page; feature = f }) t.is.feature_is in
      (elim (slice_get spans (suc passed)) as (λ v. slice_get spans (suc passed) ≡ v → over span v rest ≡ Over back → back ≡ link_back link.page t.leaf) [
        | Some next ↦ λ g o.
            let b = there next (drop (suc (suc passed)) spans) t.rest (link_back link.page t.leaf) (subst (λ l. Spans l t.rest (link_back link.page t.leaf)) (drop_at spans (suc passed) next g) t.before) in
            sym (over_same (link_over span next.page) back o) ∙ after next.page b.is.page_is
        | None ↦ λ g o.
            (elim rest as (λ r. t.rest ≡ r → over span None r ≡ Over back → back ≡ link_back link.page t.leaf) [
              | zero ↦ λ r o. sym (over_same (link_over span 0) back o) ∙ after 0 (sym (t.linked.fits.placed.none_before r))
              | suc m ↦ λ r o. absurd (subst IsOver (sym o) tt)
            ]) same_rest o
      ]) refl o

-- what is known lasts where no page changes
module _ (old new : Pages LegView BoxView) (same : (n : ℕ) → new.at n ≡ old.at n) (most legs first : ℕ) where
  pub spans_last : (spans : List LeafSpan) (n : ℕ) (link : Link) → AreSpans old most legs first spans n link → AreSpans new most legs first spans n link
  spans_last [] n link h = tt
  spans_last (span ∷ spans) zero link h = h
  spans_last (span ∷ spans) (suc n) link h =
      (h.0, record { above = h.1.above; is = same link.page ∙ h.1.is; fits = h.1.fits }, h.2, spans_last spans n (link_back link.page h.0) h.3)

pub known_lasts : (old new : Cache) (shape : ShapeView) (f : ℕ) (place : Place) (spans : List LeafSpan) → OnlyReads old new → IsTrue old.store.is_faithful
    → IsKnown (pages_of_cache old) shape f place spans → IsKnown (pages_of_cache new) shape f place spans
known_lasts old new shape f place spans r fa h =
    spans_last (pages_of_cache old) (pages_of_cache new) (same_at old new r fa) shape.leaf place.legs place.first spans (div_ceil place.legs shape.leaf) (last_link f place) h
