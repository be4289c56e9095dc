-- What the ways along the chains of all features found.
use Rattle.std.proofs.Common.{◌≡◌, ℕ, zero, suc, ◌+◌, ◌<◌, ◌≤◌, List, [], ◌∷◌, ◌++◌, length, map, drop, Some, None, slice_get, refl, sym, ap, ◌∙◌, arith, subst, append_assoc}
use Rattle.std.specs.List.{All}
use Rattle.std.specs.Option.{unwrap_or}
use Rattle.std.proofs.lemmas.List.{append-nil, map-append}
use Rattle.std.proofs.lemmas.List.Concat.{flat_map-append}
use Rattle.std.proofs.lemmas.List.Elements.{All-append}
use Rattle.legs.specs.Blocks.{joined}
use Rattle.legs.specs.Boxes.{BoxView}
use Rattle.legs.specs.Legs.{LegView}
use Rattle.legs.specs.declared.tracks.Track.{Track}
use Rattle.treecheck.specs.Check.{legs_on, AreLeavesOf, AreChains}
use Rattle.tbtree.specs.Turn.{first_ordinal}
use Rattle.tbtree.specs.Descent.{legs_in}
use Rattle.tbtree.specs.Nodes.{Pages}
use Rattle.tbtree.specs.declared.tree.Place.{Place}
use Rattle.treecheck.specs.Walking.{IsMet, Surveys, Walks}
use Rattle.treecheck.specs.declared.walking.Met.{Met}
use Rattle.treecheck.specs.declared.walking.Survey.{Survey}
use Rattle.treecheck.proofs.WalkLemmas.{drop_at, same_some}

joined-push : {X : Type 0} (xss : List (List X)) (xs : List X) → joined (xss ++ xs ∷ []) ≡ joined xss ++ xs
joined-push [] xs = append-nil xs
joined-push (ys ∷ xss) xs = ap (λ l. ys ++ l) (joined-push xss xs) ∙ sym (append_assoc ys (joined xss) xs)

get_past : {X : Type 0} (xs ys : List X) → slice_get (xs ++ ys) (length xs) ≡ slice_get ys 0
get_past [] ys = refl
get_past (x ∷ xs) ys = get_past xs ys

first_get : (legs : List LegView) → unwrap_or (slice_get (map (λ leg. leg.ordinal) legs) 0) 0 ≡ first_ordinal legs
first_get [] = refl
first_get (x ∷ legs) = refl

module _ (nodes : Pages LegView BoxView) (most rows : ℕ) where
  abbrev ordinals_on : List ℕ → List ℕ
  ordinals_on pages = map (λ leg. leg.ordinal) (legs_on nodes pages)

  -- the features before that one
  pub record Surveyed (feature : ℕ) (places : List Place) (tracks : List Track) (survey : Survey) : Type 0 where
    pub done : List (List ℕ)
    pub on : (rest : List (List ℕ)) → AreChains nodes most rows feature (drop feature places) (drop feature tracks) rest → AreChains nodes most rows 0 places tracks (done ++ rest)
    pub ordinals : survey.ordinals.items ≡ ordinals_on (joined done)
    pub pages_are : map (λ (m : Met). m.page) survey.leaves.items ≡ joined done
    pub are_met : All (λ (m : Met). IsMet (nodes.at m.page) m) survey.leaves.items
    pub firsts : survey.firsts.items ≡ map (λ pages. first_ordinal (legs_on nodes pages)) done

  pub surveyed_on : (feature next : ℕ) (places : List Place) (tracks : List Track) (place : Place) (track : Track) (old mid new : Survey) → feature + 1 ≡ next
      → slice_get places feature ≡ Some place → slice_get tracks feature ≡ Some track → Surveyed feature places tracks old → Walks nodes most rows feature place track old mid
      → new.ordinals ≡ mid.ordinals → new.leaves ≡ mid.leaves → new.firsts.items ≡ mid.firsts.items ++ unwrap_or (slice_get mid.ordinals.items (length old.ordinals.items)) 0 ∷ [] → Surveyed next places tracks new
  surveyed_on feature next places tracks place track old mid new s p t h w o l f =
      let pages = w.pages in
      let n = w.notes in
      let more : (rest : List (List ℕ)) → AreChains nodes most rows next (drop next places) (drop next tracks) rest → AreChains nodes most rows feature (drop feature places) (drop feature tracks) (pages ∷ rest) = λ rest c.
      let c' : AreChains nodes most rows (suc feature) (drop (feature + 1) places) (drop (feature + 1) tracks) rest = subst (λ n. AreChains nodes most rows n (drop (feature + 1) places) (drop (feature + 1) tracks) rest) (omega (arith, s)) (subst (λ n. AreChains nodes most rows next (drop n places) (drop n tracks) rest) (sym s) c) in
      subst (λ ps. AreChains nodes most rows feature ps (drop feature tracks) (pages ∷ rest)) (sym (drop_at places feature place p))
      (subst (λ ts. AreChains nodes most rows feature (place ∷ drop (feature + 1) places) ts (pages ∷ rest)) (sym (drop_at tracks feature track t)) (w.leaves, c')) in
      let mine : ordinals_on (joined (h.done ++ pages ∷ [])) ≡ ordinals_on (joined h.done) ++ ordinals_on pages =
      ap ordinals_on (joined-push h.done pages) ∙ ap (map (λ leg. leg.ordinal)) (flat_map-append (λ p. legs_in (nodes.at p)) (joined h.done) pages) ∙ map-append (λ (leg : LegView). leg.ordinal) (legs_on nodes (joined h.done)) (legs_on nodes pages) in
      record {
        done = h.done ++ pages ∷ [];
        on = λ rest c. subst (AreChains nodes most rows 0 places tracks) (sym (append_assoc h.done (pages ∷ []) rest)) (h.on (pages ∷ rest) (more rest c));
        ordinals = ap (λ v. v.items) o ∙ n.ordinals ∙ ap (λ l. l ++ ordinals_on pages) h.ordinals ∙ sym mine;
        pages_are = ap (λ v. map (λ (m : Met). m.page) v.items) l ∙ ap (map (λ (m : Met). m.page)) n.leaves ∙ map-append (λ (m : Met). m.page) old.leaves.items n.mets ∙ (λ i. h.pages_are i ++ n.pages_are i) ∙ sym (joined-push h.done pages);
        are_met = subst (All (λ (m : Met). IsMet (nodes.at m.page) m)) (sym (ap (λ v. v.items) l ∙ n.leaves)) (All-append (λ (m : Met). IsMet (nodes.at m.page) m) old.leaves.items n.mets h.are_met n.are_met);
        firsts = f ∙ (λ i. (ap (λ v. v.items) n.firsts ∙ h.firsts) i ++ (ap (λ l. unwrap_or (slice_get l (length old.ordinals.items)) 0) n.ordinals ∙ ap (λ o. unwrap_or o 0) (get_past old.ordinals.items (ordinals_on pages)) ∙ first_get (legs_on nodes pages)) i ∷ [])
            ∙ sym (map-append (λ pages. first_ordinal (legs_on nodes pages)) h.done (pages ∷ []));
      }

  drop_none : {X : Type 0} (xs : List X) (i : ℕ) → length xs ≤ i → drop i xs ≡ []
  drop_none [] zero l = refl
  drop_none [] (suc i) l = refl
  drop_none (x ∷ xs) zero l = absurd (omega (arith, l))
  drop_none (x ∷ xs) (suc i) l = drop_none xs i (omega (arith, l))

  pub surveyed_all : (feature : ℕ) (places : List Place) (tracks : List Track) (survey : Survey) → length places ≤ feature → length tracks ≡ length places → Surveyed feature places tracks survey → Surveys nodes most rows places tracks survey
  surveyed_all feature places tracks survey l e h = record {
    chains = h.done;
    are_chains = subst (AreChains nodes most rows 0 places tracks) (append-nil h.done)
        (h.on [] (subst (λ ps. AreChains nodes most rows feature ps (drop feature tracks) []) (sym (drop_none places feature l)) (subst (λ ts. AreChains nodes most rows feature [] ts []) (sym (drop_none tracks feature (omega (arith, l, e)))) tt)));
    ordinals = h.ordinals;
    pages_are = h.pages_are;
    are_met = h.are_met;
    firsts = h.firsts;
  }

  -- the leaves of one feature among those of all
  pub chain_of : (g f : ℕ) (places : List Place) (tracks : List Track) (chains : List (List ℕ)) (j : ℕ) (place : Place) (track : Track) → AreChains nodes most rows g places tracks chains
      → slice_get places j ≡ Some place → slice_get tracks j ≡ Some track → g + j ≡ f → (pages : List ℕ) × AreLeavesOf nodes most rows f place track pages
  chain_of g f [] tracks chains j place track c p t e = let none : None ≡ Some place = p in absurd (cc)
  chain_of g f (q ∷ places) [] chains j place track c p t e = absurd c
  chain_of g f (q ∷ places) (u ∷ tracks) [] j place track c p t e = absurd c
  chain_of g f (q ∷ places) (u ∷ tracks) (ps ∷ chains) zero place track c p t e =
      let s : g ≡ f = omega (arith, e) in
      (ps, subst (λ f. AreLeavesOf nodes most rows f place track ps) s (subst (λ p. AreLeavesOf nodes most rows g p track ps) (same_some q place p) (subst (λ t. AreLeavesOf nodes most rows g q t ps) (same_some u track t) c.0)))
  chain_of g f (q ∷ places) (u ∷ tracks) (ps ∷ chains) (suc j) place track c p t e = chain_of (suc g) f places tracks chains j place track c.1 p t (omega (arith, e))

  pub as_many : (g : ℕ) (places : List Place) (tracks : List Track) (chains : List (List ℕ)) → AreChains nodes most rows g places tracks chains → length tracks ≡ length places
  as_many g [] [] chains c = refl
  as_many g [] (u ∷ tracks) chains c = absurd c
  as_many g (q ∷ places) [] chains c = absurd c
  as_many g (q ∷ places) (u ∷ tracks) [] c = absurd c
  as_many g (q ∷ places) (u ∷ tracks) (ps ∷ chains) c = ap (λ n. suc n) (as_many (suc g) places tracks chains c.1)

pub get_at : {X : Type 0} (xs : List X) (i : ℕ) → i < length xs → (x : X) × (slice_get xs i ≡ Some x)
get_at [] i l = absurd (omega (arith, l))
get_at (x ∷ xs) zero l = (x, refl)
get_at (x ∷ xs) (suc i) l = get_at xs i (omega (arith, l))
