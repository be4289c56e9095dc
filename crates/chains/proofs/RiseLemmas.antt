-- Each leg of a leaf ends after it starts: a payload whose legs do not is no leaf.
use Rattle.std.proofs.Common.{ℕ, zero, suc, ◌≡◌, ◌<◌, Bool, true, false, ◌&&◌, List, refl, sym, ap, ◌∙◌, arith, subst, ⊎_elim, Option, Some, None, option_map, ℤ, ◌≤ℤ◌, All}
use Rattle.std.specs.Prelude.{int_lt, if◌then◌else◌}
use Rattle.std.proofs.lemmas.Bool.{cases_lt, false≢true}
use Rattle.std.proofs.lemmas.Int.{ints}
use Rattle.std.proofs.lemmas.List.FromFn.{length-map-range_with_len, get_or-map-range_with_len}
use Rattle.legs.specs.Legs.{LegView}
use Rattle.legs.specs.Boxes.{BoxView}
use Rattle.pages.specs.declared.payload.Kind.{Kind}
use Rattle.pages.specs.declared.payload.Kind.TheVariants.{Header, Leaf, Inner, Catalogue}
use Rattle.pages.specs.declared.payload.Payload.{Payload}
use Rattle.pagecache.specs.Cache.{Cache, payload_of}
use Rattle.tbnode.specs.Form.{node_of, node_by, is_leaf, is_inner, leaf_from_bytes, inner_of, is_leg_at, leaf_leg, leaf_leg_count}
use Rattle.tbnode.specs.Layout.{is_leg, has_moments, leg_from_bytes}
use Rattle.tbnode.specs.Parts.{all_below, slot}
use Rattle.tbtree.specs.Nodes.{Node, ALeaf, AnInner, LeafView, pages_of_cache}
use Rattle.legs.proofs.GroupLemmas.{some_none, some_same}

-- a leg does not end before it starts
abbrev pub Rises : LegView → Type 0
Rises leg = leg.t0 ≤ℤ leg.t1

and_left : (a b : Bool) → (a && b) ≡ true → a ≡ true
and_left true b e = refl
and_left false b e = e

and_right : (a b : Bool) → (a && b) ≡ true → b ≡ true
and_right true b e = e
and_right false b e = absurd (false≢true e)

lt_rises : (a b : ℤ) → int_lt a b ≡ true → a ≤ℤ b
lt_rises a b e = grind (arith, ints)

all_below-at : (p : ℕ → Bool) (n i : ℕ) → all_below p n ≡ true → i < n → p i ≡ true
all_below-at p zero i e h = absurd (omega (arith, h))
all_below-at p (suc n) i e h =
    ⊎_elim
    (λ lt. all_below-at p n i (and_left (all_below p n) (p n) e) lt)
    (λ ge. let s : n ≡ i = omega arith in ap p (sym s) ∙ and_right (all_below p n) (p n) e)
    (cases_lt i n)

leg_rises : (bytes : List ℕ) (i : ℕ) → is_leg_at bytes i ≡ true → Rises (leaf_leg bytes i)
unfolding is_leg_at is_leg has_moments leg_from_bytes
leg_rises bytes i e =
    let one = and_left (is_leg (slot 80 i bytes)) _ e in
    let moments = and_left _ _ (and_left _ _ (and_left _ _ one)) in
    lt_rises (leaf_leg bytes i).t0 (leaf_leg bytes i).t1 (and_left _ _ (and_left _ _ moments))

all_legs : (bytes : List ℕ) → is_leaf bytes ≡ true → all_below (is_leg_at bytes) (leaf_leg_count bytes) ≡ true
unfolding is_leaf
all_legs bytes e = and_right _ (all_below (is_leg_at bytes) (leaf_leg_count bytes)) e

leaf_rises : (bytes : List ℕ) → is_leaf bytes ≡ true → All Rises (leaf_from_bytes bytes).legs
unfolding leaf_from_bytes
leaf_rises bytes e = λ k d b.
    let n = leaf_leg_count bytes in
    let within : k < n = let l = length-map-range_with_len (leaf_leg bytes) 0 n in omega (arith, b, l) in
    let is = get_or-map-range_with_len (leaf_leg bytes) 0 n k k d within (omega arith) in
    subst Rises (sym is) (leg_rises bytes k (all_below-at (is_leg_at bytes) n k (all_legs bytes e) within))

abbrev leaf_node : LeafView LegView → Node LegView BoxView
leaf_node leaf = ALeaf leaf

abbrev leaf_or : LeafView LegView → Node LegView BoxView → LeafView LegView
leaf_or d (ALeaf leaf) = leaf
leaf_or d (AnInner page) = d

abbrev IsLeafOf : Node LegView BoxView → Type 0
IsLeafOf (ALeaf leaf) = Unit {0}
IsLeafOf (AnInner page) = ⊥

by_form : (b : Bool) (is leaf : LeafView LegView) → (b ≡ true → All Rises is.legs) → (if b then Some (leaf_node is) else None) ≡ Some (ALeaf leaf) → All Rises leaf.legs
by_form true is leaf h e = let same : is ≡ leaf = ap (leaf_or is) (some_same (leaf_node is) (ALeaf leaf) e) in subst (λ (l : LeafView LegView). All Rises l.legs) same (h refl)
by_form false is leaf h e = absurd (some_none (leaf_node leaf) (sym e))

no_leaf : (b : Bool) (page : Node LegView BoxView) (leaf : LeafView LegView) → (IsLeafOf page → ⊥) → (if b then Some page else None) ≡ Some (ALeaf leaf) → ⊥
no_leaf true page leaf h e = h (subst IsLeafOf (sym (some_same page (ALeaf leaf) e)) tt)
no_leaf false page leaf h e = some_none (leaf_node leaf) (sym e)

kind_rises : (kind : Kind) (bytes : List ℕ) (leaf : LeafView LegView) → node_by kind bytes ≡ Some (ALeaf leaf) → All Rises leaf.legs
kind_rises Header bytes leaf e = absurd (some_none (leaf_node leaf) (sym e))
kind_rises Leaf bytes leaf e = by_form (is_leaf bytes) (leaf_from_bytes bytes) leaf (leaf_rises bytes) e
kind_rises Inner bytes leaf e = absurd (no_leaf (is_inner bytes) (AnInner (inner_of bytes)) leaf (λ z. z) e)
kind_rises Catalogue bytes leaf e = absurd (some_none (leaf_node leaf) (sym e))

node_rises : (payload : Payload) (leaf : LeafView LegView) → node_of payload ≡ Some (ALeaf leaf) → All Rises leaf.legs
unfolding node_of
node_rises payload leaf e = kind_rises payload.kind payload.bytes leaf e

payload_rises : (o : Option Payload) (leaf : LeafView LegView) → option_map node_of o ≡ Some (Some (ALeaf leaf)) → All Rises leaf.legs
payload_rises None leaf e = absurd (some_none (Some (leaf_node leaf)) (sym e))
payload_rises (Some payload) leaf e = node_rises payload leaf (some_same (node_of payload) (Some (ALeaf leaf)) e)

-- the legs of each leaf of a cache
pub page_rises : (c : Cache) (p : ℕ) (leaf : LeafView LegView) → (pages_of_cache c).at p ≡ Some (Some (ALeaf leaf)) → All Rises leaf.legs
page_rises c p leaf e = payload_rises (payload_of c p) leaf e
