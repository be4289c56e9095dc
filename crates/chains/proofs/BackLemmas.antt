-- A feature's leaves, from the last one back.
use Rattle.std.proofs.Common.{ℕ, suc, ◌+◌, ◌-◌, ◌*◌, ◌≡◌, ◌<◌, ◌==◌, Bool, true, false, cond, List, [], ◌∷◌, ◌++◌, take, drop, length, refl, sym, ap, ◌∙◌, arith, subst, append_assoc, Option, Some, slice_get, length-append}
use Rattle.std.specs.Prelude.{min}
use Rattle.std.specs.List.{filter, count_by}
use Rattle.std.proofs.lemmas.Bool.{eqb-true}
use Rattle.std.proofs.lemmas.List.{append-nil, take-append-le, take_all, drop-append-le, drop_all}
use Rattle.std.proofs.lemmas.List.Elements.{filter-append}
use Rattle.std.proofs.lemmas.List.Sums.{sum_by-cons}
use Rattle.timebase.specs.Period.{PeriodView}
use Rattle.legs.specs.Legs.{LegView}
use Rattle.legs.specs.Boxes.{BoxView}
use Rattle.legs.specs.Blocks.{joined}
use Rattle.tbtree.specs.Nodes.{Pages, ALeaf, LeafView}
use Rattle.tbtree.specs.Stands.{owner, marks, pages_of, head_or_zero, last_or, leaf_of, LeavesStand}
use Rattle.tbtree.specs.Descent.{legs_in}
use Rattle.chains.specs.Chains.{IsChain, walk, previous_of}
use Rattle.chains.specs.Links.{FitsLeaf, IsLinked, IsPlaced, spot_of, is_kept, is_end, link_back}
use Rattle.chains.specs.declared.leaves.Link.{Link}

-- lists in the other order, before acc
abbrev pub onto : {X : Type 0} → List X → List X → List X
onto [] acc = acc
onto (x ∷ xs) acc = onto xs (x ∷ acc)

abbrev pub unwound : {X : Type 0} → List (List X) → List X
unwound [] = []
unwound (r ∷ rs) = unwound rs ++ r

pub unwound_onto : {X : Type 0} (gs acc : List (List X)) → unwound (onto gs acc) ≡ unwound acc ++ joined gs
unwound_onto [] acc = sym (append-nil (unwound acc))
unwound_onto (g ∷ gs) acc = unwound_onto gs (g ∷ acc) ∙ append_assoc (unwound acc) g (joined gs)

pub length_onto : {X : Type 0} (gs acc : List X) → length (onto gs acc) ≡ length gs + length acc
length_onto [] acc = omega arith
length_onto (g ∷ gs) acc = length_onto gs (g ∷ acc) ∙ omega arith

pub count_onto : {X : Type 0} (p : X → Bool) (gs acc : List X) → count_by p (onto gs acc) ≡ count_by p gs + count_by p acc
count_onto p [] acc = omega arith
count_onto p (g ∷ gs) acc =
    let a = count_onto p gs (g ∷ acc) in
    let b = sum_by-cons (λ x. cond (p x) 1 0) g gs in
    let c = sum_by-cons (λ x. cond (p x) 1 0) g acc in
    omega (arith, a, b, c)

last_or-push : (d p : ℕ) (xs : List ℕ) → last_or d (xs ++ p ∷ []) ≡ p
last_or-push d p [] = refl
last_or-push d p (x ∷ xs) = last_or-push x p xs

pages_of-push : (g : ℕ) (ms : List (ℕ × ℕ)) (m : ℕ × ℕ) → pages_of g (ms ++ m ∷ []) ≡ pages_of g ms ++ cond (m.0 == g) (m.1 ∷ []) []
pages_of-push g [] m = refl
pages_of-push g (a ∷ ms) m =
    (elim (a.0 == g) as (λ b. cond b (a.1 ∷ pages_of g (ms ++ m ∷ [])) (pages_of g (ms ++ m ∷ [])) ≡ cond b (a.1 ∷ pages_of g ms) (pages_of g ms) ++ cond (m.0 == g) (m.1 ∷ []) []) [
      | true ↦ ap (λ l. a.1 ∷ l) (pages_of-push g ms m)
      | false ↦ pages_of-push g ms m
    ])

-- the page p is the leaf of the feature with these legs, and its next leaf is that one
pub record IsRunPage {L B : Type 0} (nodes : Pages L B) (f next p : ℕ) (run : List L) (leaf : LeafView L) : Type 0 where
  pub above : 0 < p
  pub is : nodes.at p ≡ Some (Some (ALeaf leaf))
  pub legs_are : leaf.legs ≡ run
  pub feature_is : leaf.feature ≡ f
  pub next_is : leaf.next ≡ next

module _ {L B : Type 0} (nodes : Pages L B) (f first : ℕ) where
  -- from page p back, whose next leaf is that one, the leaves of these runs, the last one first
  abbrev pub IsBack : ℕ → ℕ → List (List L) → Type 0
  IsBack next p [] = (p ≡ 0) × (next ≡ first)
  IsBack next p (r ∷ rs) = (leaf : LeafView L) × IsRunPage nodes f next p r leaf × IsBack p leaf.previous rs

module _ {L B : Type 0} (nodes : Pages L B) (feature : L → ℕ) (f : ℕ) (ms : List (ℕ × ℕ)) where
  abbrev own : List (List L) → List (List L)
  own rs = filter (λ r. owner feature r == f) rs

  abbrev Back : ℕ → ℕ → List (List L) → Type 0
  Back next p rs = IsBack nodes f (head_or_zero (pages_of f ms)) next p rs

  back_from : (ps : List ℕ) (rs : List (List L)) (pre : List (ℕ × ℕ)) (acc : List (List L)) → length ps ≡ length rs → pre ++ marks feature rs ps ≡ ms
      → ((j p : ℕ) (r : List L) → slice_get ps j ≡ Some p → slice_get rs j ≡ Some r → (0 < p) × (nodes.at p ≡ Some (Some (ALeaf (leaf_of (owner feature r) ms (length pre + j) r)))))
      → Back (head_or_zero (pages_of f (marks feature rs ps))) (last_or 0 (pages_of f pre)) acc → Back 0 (last_or 0 (pages_of f ms)) (onto (own rs) acc)
  back_from [] [] pre acc e w h b = subst (λ l. Back 0 (last_or 0 (pages_of f l)) acc) (sym (append-nil pre) ∙ w) b
  back_from [] (r ∷ rs) pre acc e w h b = absurd (omega (arith, e))
  back_from (p ∷ ps) [] pre acc e w h b = absurd (omega (arith, e))
  back_from (p ∷ ps) (r ∷ rs) pre acc e w h b =
      let m : ℕ × ℕ = (owner feature r, p) in
      let pre' = pre ++ m ∷ [] in
      let rest = marks feature rs ps in
      let w' : pre' ++ rest ≡ ms = append_assoc pre (m ∷ []) rest ∙ w in
      let n : length pre' ≡ length pre + 1 = length-append pre (m ∷ []) ∙ omega arith in
      let h' : (j p : ℕ) (r : List L) → slice_get ps j ≡ Some p → slice_get rs j ≡ Some r → (0 < p) × (nodes.at p ≡ Some (Some (ALeaf (leaf_of (owner feature r) ms (length pre' + j) r)))) =
      λ j p r a c. subst (λ k. (0 < p) × (nodes.at p ≡ Some (Some (ALeaf (leaf_of (owner feature r) ms k r))))) (omega (arith, n)) (h (suc j) p r a c) in
      let pushed : pages_of f pre' ≡ pages_of f pre ++ cond (owner feature r == f) (p ∷ []) [] = pages_of-push f pre m in
      (elim (owner feature r == f) as (λ v. (owner feature r == f) ≡ v → pages_of f pre' ≡ pages_of f pre ++ cond v (p ∷ []) []
      → Back (head_or_zero (cond v (p ∷ pages_of f rest) (pages_of f rest))) (last_or 0 (pages_of f pre)) acc → Back 0 (last_or 0 (pages_of f ms)) (onto (cond v (r ∷ own rs) (own rs)) acc)) [
        | true ↦ λ t u b.
            let here = h 0 p r refl refl in
            let same : owner feature r ≡ f = eqb-true (owner feature r) f t in
            let leaf = leaf_of (owner feature r) ms (length pre + 0) r in
            let at_pre : take (length pre + 0) ms ≡ pre =
            ap (λ k. take k ms) (let z : length pre + 0 ≡ length pre = omega arith in z) ∙ ap (take (length pre)) (sym w) ∙ take-append-le (length pre) pre (marks feature (r ∷ rs) (p ∷ ps)) (omega arith) ∙ take_all (length pre) pre (omega arith) in
            let past_pre : drop (suc (length pre + 0)) ms ≡ rest =
            ap (λ k. drop k ms) (let z : suc (length pre + 0) ≡ length pre' = omega (arith, n) in z) ∙ ap (drop (length pre')) (sym w')
            ∙ drop-append-le (length pre') pre' rest (omega arith) ∙ ap (λ l. l ++ rest) (drop_all (length pre') pre' (omega arith)) in
            let before : last_or 0 (pages_of f pre) ≡ leaf.previous =
            sym (ap (λ l. last_or 0 (pages_of (owner feature r) l)) at_pre ∙ ap (λ g. last_or 0 (pages_of g pre)) same) in
            let after : leaf.next ≡ head_or_zero (pages_of f rest) =
            ap (λ l. head_or_zero (pages_of (owner feature r) l)) past_pre ∙ ap (λ g. head_or_zero (pages_of g rest)) same in
            let one : IsRunPage nodes f (head_or_zero (pages_of f rest)) p r leaf = record { above = here.0; is = here.1; legs_are = refl; feature_is = same; next_is = after } in
            let new : Back (head_or_zero (pages_of f rest)) p (r ∷ acc) = (leaf, one, subst (λ q. Back p q acc) before b) in
            back_from ps rs pre' (r ∷ acc) (omega (arith, e)) w' h' (subst (λ q. Back (head_or_zero (pages_of f rest)) q (r ∷ acc)) (sym (ap (last_or 0) u ∙ last_or-push 0 p (pages_of f pre))) new)
        | false ↦ λ t u b.
            back_from ps rs pre' acc (omega (arith, e)) w' h' (subst (λ q. Back (head_or_zero (pages_of f rest)) q acc) (sym (ap (last_or 0) (u ∙ append-nil (pages_of f pre)))) b)
      ]) refl pushed b

-- the leaves of a feature, from its last page back
pub back_of : {L B : Type 0} (nodes : Pages L B) (feature : L → ℕ) (f : ℕ) (ps : List ℕ) (rs : List (List L)) → length ps ≡ length rs → LeavesStand nodes feature rs ps
    → ((j p : ℕ) → slice_get ps j ≡ Some p → 0 < p)
    → IsBack nodes f (head_or_zero (pages_of f (marks feature rs ps))) 0 (last_or 0 (pages_of f (marks feature rs ps))) (onto (filter (λ r. owner feature r == f) rs) [])
back_of nodes feature f ps rs e h a =
    let ms = marks feature rs ps in
    back_from nodes feature f ms ps rs [] [] e refl (λ j p r u v. (a j p u, subst (λ k. nodes.at p ≡ Some (Some (ALeaf (leaf_of (owner feature r) ms k r)))) (omega arith) (h j p r u v))) (refl, refl)

-- each run is as long as its place in a chain of so many legs wants
abbrev pub Counted : {L : Type 0} → ℕ → ℕ → List (List L) → Type 0
Counted most legs [] = Unit {0}
Counted most legs (r ∷ rs) = (length r ≡ min most (legs - length rs * most)) × Counted most legs rs

pub counted_onto : {L : Type 0} (most legs : ℕ) (gs acc : List (List L)) → ((j : ℕ) (g : List L) → slice_get gs j ≡ Some g → length g ≡ min most (legs - (length acc + j) * most)) → Counted most legs acc → Counted most legs (onto gs acc)
counted_onto most legs [] acc h c = c
counted_onto most legs (g ∷ gs) acc h c =
    counted_onto most legs gs (g ∷ acc)
    (λ j r e. h (suc j) r e ∙ ap (λ k. min most (legs - k * most)) (let z : length acc + suc j ≡ length (g ∷ acc) + j = omega arith in z))
    (h 0 g refl ∙ ap (λ k. min most (legs - k * most)) (let z : length acc + 0 ≡ length acc = omega arith in z), c)

-- a leaf of such a row is placed as the chain has it
placed_back : (nodes : Pages LegView BoxView) (f first most legs p : ℕ) (leaf : LeafView LegView) (rs : List (List LegView)) → IsBack nodes f first p leaf.previous rs
    → IsPlaced leaf.previous p (spot_of most legs first (length rs))
placed_back nodes f first most legs p leaf [] b = record { one_before = λ l. absurd (omega (arith, l)); none_before = λ _. b.0; first_is = λ _. b.1 }
placed_back nodes f first most legs p leaf (r ∷ rs) b =
    let above = b.1.above in
    record { one_before = λ _ e. omega (arith, above, e); none_before = λ z. absurd (omega (arith, z)); first_is = λ z. absurd (omega (arith, z)) }

-- without a run none is named
pub back_none : (nodes : Pages LegView BoxView) (f first next p : ℕ) (rs : List (List LegView)) → length rs ≡ 0 → IsBack nodes f first next p rs → (p ≡ 0) × (next ≡ first)
back_none nodes f first next p [] z b = b
back_none nodes f first next p (r ∷ rs) z b = absurd (omega (arith, z))

module _ (nodes : Pages LegView BoxView) (period : Option PeriodView) where
  -- the leaves are a chain
  pub is_chain : (f first most legs : ℕ) (rs : List (List LegView)) (link : Link) → IsBack nodes f first link.next link.page rs → Counted most legs rs → f ≡ link.feature
      → IsChain nodes period most legs first (length rs) link
  is_chain f first most legs [] link b c s = tt
  is_chain f first most legs (r ∷ rs) link b c s =
      let leaf = b.0 in
      let spot = spot_of most legs first (length rs) in
      let placed = placed_back nodes f first most legs link.page leaf rs b.2 in
      let fits : FitsLeaf leaf link spot = record { count_is = ap length b.1.legs_are ∙ c.0; next_is = b.1.next_is; feature_is = b.1.feature_is ∙ s; placed = placed } in
      let here : IsLinked nodes link spot leaf = record { above = b.1.above; is = b.1.is; fits = fits } in
      (leaf, here, λ _. is_chain f first most legs rs (link_back link.page leaf) b.2 c.1 (sym b.1.feature_is))

  -- where the walk stops, nothing before is kept
  abbrev pub StopsRight : List (List LegView) → Type 0
  StopsRight [] = Unit {0}
  StopsRight (r ∷ rs) = (is_end period r ≡ true → filter (is_kept period) (unwound rs) ≡ []) × StopsRight rs

  pub walk_is : (f first next p : ℕ) (rs : List (List LegView)) → IsBack nodes f first next p rs → StopsRight rs → walk nodes period (length rs) p ≡ filter (is_kept period) (unwound rs)
  walk_is f first next p [] b s = refl
  walk_is f first next p (r ∷ rs) b s =
      let leaf = b.0 in
      let keep = is_kept period in
      let legs : legs_in (nodes.at p) ≡ r = ap legs_in b.1.is ∙ b.1.legs_are in
      let on : walk nodes period (length rs) (previous_of (nodes.at p)) ≡ filter keep (unwound rs) =
      ap (λ n. walk nodes period (length rs) (previous_of n)) b.1.is ∙ walk_is f first p leaf.previous rs b.2 s.1 in
      let split : filter keep (unwound rs ++ r) ≡ filter keep (unwound rs) ++ filter keep r = filter-append keep (unwound rs) r in
      let before = walk nodes period (length rs) (previous_of (nodes.at p)) in
      ap (λ l. cond (is_end period l) (filter keep l) (before ++ filter keep l)) legs
      ∙ (elim (is_end period r) as (λ v. is_end period r ≡ v → cond v (filter keep r) (before ++ filter keep r) ≡ filter keep (unwound rs ++ r)) [
        | true ↦ λ e. sym (split ∙ ap (λ l. l ++ filter keep r) (s.0 e))
        | false ↦ λ e. ap (λ l. l ++ filter keep r) on ∙ sym split
      ]) refl

  -- what a walk back over the blocks gives
  pub walk_blocks : (f first next p : ℕ) (gs : List (List LegView)) → IsBack nodes f first next p (onto gs []) → StopsRight (onto gs [])
      → walk nodes period (length gs) p ≡ filter (is_kept period) (joined gs)
  walk_blocks f first next p gs b s =
      ap (λ n. walk nodes period n p) (let l = length_onto gs [] in let z : length gs ≡ length (onto gs []) = omega (arith, l) in z)
      ∙ walk_is f first next p (onto gs []) b s ∙ ap (filter (is_kept period)) (unwound_onto gs [])
