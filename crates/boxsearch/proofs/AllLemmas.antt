-- What all legs of a slice make of an index.
use Rattle.std.proofs.Common.{◌≡◌, ◌≤◌, ◌+◌, ◌*◌, ◌-◌, ◌^◌, min, arith, ◌∙◌, ◌∷◌, ◌++◌, [], length, false, List, All, ap, refl, sym, subst, Result, Ok, Err, OnOk, Some}
use Rattle.std.specs.Prelude.{IfErr}
use Rattle.std.proofs.lemmas.Bool.{true≢false}
use Rattle.std.proofs.lemmas.Int.{clamps}
use Rattle.std.proofs.lemmas.List.Elements.{All-nil, All-cons}
use Rattle.legs.specs.Asking.{Grows, LegRefusals}
use Rattle.legs.specs.Costs.{RisesAtMost, add_bound, height, leaves_of}
use Rattle.legs.specs.Index.{CanFollowInTurn, MayRefuseLeg, feature_count}
use Rattle.legs.specs.Legs.{IsLeg, LegView}
use Rattle.legs.specs.declared.index.IndexFault.{IndexFault}
use Rattle.tbtree.specs.Insert.{IsPlace, Stands}
use Rattle.tbtree.specs.Joining.{CanTakeInTurn}
use Rattle.tbtree.specs.Nodes.{pages_of_cache}
use Rattle.tbtree.specs.declared.fault.TreeFault.{TreeFault}
use Rattle.boxsearch.specs.Answers.{answered, of_tree}
use Rattle.boxsearch.specs.Index.{IndexView, words, content, IsSoundIndex}
use Rattle.boxsearch.specs.Putting.{PutsAll}
use Rattle.boxsearch.specs.Taking.{HoldsLegs, Taking}
use Rattle.tbnode.proofs.LawLemmas.{legs_are_lawful}
use Rattle.tbtree.proofs.LawLemmas as tree
use Rattle.tbtree.proofs.LegalLemmas.{content_lawful}
use Rattle.tbtree.proofs.TakenOrder.{reordered, turns_taken}
use Rattle.boxsearch.proofs.AddLemmas.{made}
use Rattle.boxsearch.proofs.IndexLemmas.{content_is}
use Rattle.boxsearch.proofs.PlaceLemmas.{some_same}
use Rattle.boxsearch.proofs.TakingTurns.{joined}
use Rattle.boxsearch.proofs.TurnNumbers.{ArePlacesOf}
use Rattle.tbtree.proofs.TurnOrders.{leaf_by_leaf}

pub holds_sound : (i : IndexView) → IsSoundIndex i → HoldsLegs i (content i)
holds_sound i s = record {
  faithful = s.faithful;
  works = s.works;
  shape = s.shape;
  count = s.count;
  pages = s.pages;
  holds = record { tree_stands = s.stands.tree_stands; leaves_are = s.stands.leaves_are };
  counted = s.counted;
  features = s.features;
  placed = s.placed;
}

places_sound : (i : IndexView) → IsSoundIndex i → ArePlacesOf i.places (content i)
places_sound i s = record { features = s.features; counts = λ f place e. (s.placed f place e).legs_are }

-- these are the legs, leaf by leaf, whatever the legs before them
abbrev AreOrdered : IndexView → List LegView → List LegView → Type 0
AreOrdered old legs ordered =
    (before : List LegView) → ArePlacesOf old.places before → CanFollowInTurn [] before → CanFollowInTurn before legs → ordered ≡ leaf_by_leaf old.tree.shape.leaf before legs

module _ (old new : IndexView) (legs ordered : List LegView) (are : AreOrdered old legs ordered) where
  can : (s : IsSoundIndex old) → CanFollowInTurn (content old) legs → CanTakeInTurn (content old) ordered
  can s w = subst (λ l. CanTakeInTurn (content old) l) (sym (are (content old) (places_sound old s) s.stands.in_turn w)) (turns_taken old.tree.shape.leaf (content old) legs s.stands.in_turn w)

  pub all_added : (r : Result (Unit {0}) IndexFault) → Taking old new ordered r → OnOk r (Grows words old new legs)
  all_added (Ok tt) k = λ s w.
      let before = content old in
      let same : ordered ≡ leaf_by_leaf new.tree.shape.leaf before legs = are before (places_sound old s) s.stands.in_turn w ∙ ap (λ shape. leaf_by_leaf shape.leaf before legs) (sym (some_same _ _ k.later.plan)) in
      let h : HoldsLegs new (before ++ leaf_by_leaf new.tree.shape.leaf before legs) = subst (λ l. HoldsLegs new (before ++ l)) same (k.takes before (holds_sound old s) (can s w)) in
      let o = reordered new.tree.shape.leaf before legs (pages_of_cache new.cache) new.tree h.pages refl s.stands.in_turn w h.holds in
      let is : content new ≡ before ++ legs = content_is new h.faithful ∙ tree.content_is (pages_of_cache new.cache) new.tree (before ++ legs) h.pages h.shape o.stands in
      record {
        sound = record {
          faithful = h.faithful;
          works = h.works;
          shape = h.shape;
          count = h.count;
          pages = h.pages;
          stands = subst (λ l. Stands (pages_of_cache new.cache) new.tree l h.pages) (sym is) o.stands;
          lawful = subst (λ l. All IsLeg l) (sym (content_is new h.faithful)) (content_lawful legs_are_lawful new.cache new.tree);
          counted = h.counted ∙ o.as_many ∙ sym (ap length is);
          features = h.features ∙ o.features ∙ sym (ap feature_count is);
          placed = λ f place e. subst (λ l. IsPlace new.tree l h.pages f place) (sym is) (o.places f place (h.placed f place e));
        };
        content = is;
      }
  all_added (Err x) k = tt

  pub all_refusals : (r : Result (Unit {0}) IndexFault) → old.tree.spent ≡ false → Taking old new ordered r → LegRefusals words old new legs r
  all_refusals r works k = record {
    spent = k.spent;
    was_spent = λ e. absurd (true≢false (sym e ∙ works));
    sound = refused r k.refused;
    store = k.store;
    full = k.full;
  }
    where
      refused : (r : Result (Unit {0}) IndexFault) → IfErr r (λ fault. (before : List LegView) → HoldsLegs old before → CanTakeInTurn before ordered → MayRefuseLeg fault) → IfErr r (λ fault. IsSoundIndex old → CanFollowInTurn (content old) legs → MayRefuseLeg fault)
      refused (Ok tt) h = tt
      refused (Err x) h = λ s w. h (content old) (holds_sound old s) (can s w)

-- one leg
module _ (old new : IndexView) (leg : LegView) where
  pub one_taken : (r : Result (Unit {0}) TreeFault) → PutsAll (made old leg.feature) new leg.feature (leg ∷ []) r → old.tree.spent ≡ false → Taking old new (leg ∷ []) (answered (λ fault. of_tree fault) r)
  one_taken r p works =
      let own : LegView → Type 0 = λ l. l.feature ≡ leg.feature in
      joined old new leg.feature (leg ∷ []) (omega arith) (All-cons own leg [] refl (All-nil own)) r p works

  pub one_added : (r : Result (Unit {0}) IndexFault) → Taking old new (leg ∷ []) r → OnOk r (Grows words old new (leg ∷ []))
  one_added r k = all_added old new (leg ∷ []) (leg ∷ []) (λ before p i w. refl) r k

  pub one_refusals : (r : Result (Unit {0}) IndexFault) → old.tree.spent ≡ false → Taking old new (leg ∷ []) r → LegRefusals words old new (leg ∷ []) r
  one_refusals r works k = all_refusals old new (leg ∷ []) (leg ∷ []) (λ before p i w. refl) r works k

  -- how many pages it asks for
  pub one_asked : (r : Result (Unit {0}) TreeFault) → OnOk r (new.cache.asked ≤ old.cache.asked + (2 * (new.tree.levels - 1) + 4)) → Taking old new (leg ∷ []) (answered (λ fault. of_tree fault) r)
      → OnOk (answered (λ fault. of_tree fault) r) (IsSoundIndex old → CanFollowInTurn (content old) (leg ∷ []) → RisesAtMost (min old.cache.asked (2 ^ 64 - 1)) (min new.cache.asked (2 ^ 64 - 1)) (add_bound (Some old.tree.shape) (content old ++ leg ∷ [])))
  unfolding add_bound
  one_asked (Ok tt) a k = λ s w.
      let longer = content old ++ leg ∷ [] in
      let made = one_added (Ok tt) k s w in
      let stands = subst (λ l. Stands (pages_of_cache new.cache) new.tree l made.sound.pages) made.content made.sound.stands in
      let h = tree.height_is (pages_of_cache new.cache) new.tree longer made.sound.pages made.sound.shape stands in
      let g : height new.tree.shape.inner (leaves_of new.tree.shape longer) ≡ height old.tree.shape.inner (leaves_of old.tree.shape longer) = ap (λ shape. height shape.inner (leaves_of shape longer)) (some_same _ _ k.later.plan) in
      omega (arith, clamps, h, g, a)
  one_asked (Err x) a k = tt
