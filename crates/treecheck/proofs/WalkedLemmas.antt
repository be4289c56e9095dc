-- How far the way along the chain of a feature has come.
use Rattle.std.proofs.Common.{◌≡◌, ℕ, suc, ◌+◌, ◌-◌, ◌*◌, ◌<◌, ◌≤◌, List, [], ◌∷◌, ◌++◌, map, Option, Some, None, refl, sym, ap, ◌∙◌, arith, subst, append_assoc, IsTrue}
use Rattle.std.specs.Int.{div_ceil}
use Rattle.std.proofs.lemmas.Grind.{div_ceil_times}
use Rattle.std.proofs.lemmas.Nat.{mul-le}
use Rattle.std.specs.Option.{option_map}
use Rattle.std.proofs.lemmas.List.{append-nil, map-append}
use Rattle.std.proofs.lemmas.List.Concat.{flat_map-append}
use Rattle.std.proofs.lemmas.List.Elements.{All-nil, All-cons, All-append}
use Rattle.legs.specs.Boxes.{BoxView}
use Rattle.legs.specs.Legs.{LegView}
use Rattle.legs.specs.declared.tracks.Track.{Track}
use Rattle.pages.specs.declared.payload.Payload.{Payload}
use Rattle.pagecache.specs.Cache.{Cache}
use Rattle.tbnode.specs.Form.{node_of}
use Rattle.chains.specs.Reads.{OnlyReads}
use Rattle.treecheck.specs.Check.{next_in, legs_on, IsLeafOf, AreLeavesFrom, AreLeavesOf}
use Rattle.tbtree.specs.Turn.{last_leg, ComeInTurn}
use Rattle.tbtree.specs.Descent.{legs_in}
use Rattle.tbtree.specs.Nodes.{Pages, Node, pages_of_cache}
use Rattle.tbtree.specs.Stands.{last_or}
use Rattle.tbtree.specs.declared.tree.Place.{Place}
use Rattle.treecheck.specs.Walking.{after, pages_by, IsAtEnd, IsMet, NotesAll, TakesLeaf, Walks}
use Rattle.treecheck.specs.declared.walking.Met.{Met}
use Rattle.treecheck.specs.declared.walking.Survey.{Survey}
use Rattle.treecheck.specs.declared.walking.Walk.{Walk}

-- what is only read says the same, whatever node a payload says
pub same_by : (node : Payload → Option (Node LegView BoxView)) (old new : Cache) → OnlyReads old new → IsTrue old.store.is_faithful → pages_by node new ≡ pages_by node old
same_by node old new r fa = λ i. record { at = λ p. option_map node (r.payloads fa p i); count = r.count i }

-- what is only read says the same of a tree
pub same_pages : (old new : Cache) → OnlyReads old new → IsTrue old.store.is_faithful → pages_of_cache new ≡ pages_of_cache old
same_pages old new = same_by node_of old new

-- what is so of the pages as they were and of some leaves is so of pages that were only read since and of the same leaves
pub as_after : (old new : Cache) → OnlyReads old new → IsTrue old.store.is_faithful → (given leaves : List Met) → given ≡ leaves → (P : Pages LegView BoxView → List Met → Type 0)
    → P (pages_of_cache old) leaves → P (pages_of_cache new) given
as_after old new r fa given leaves e P h = subst (λ nodes. P nodes given) (sym (same_pages old new r fa)) (subst (P (pages_of_cache old)) (sym e) h)

-- and the other way
pub as_before : (old new : Cache) → OnlyReads old new → IsTrue old.store.is_faithful → (given leaves : List Met) → given ≡ leaves → (P : Pages LegView BoxView → List Met → Type 0)
    → P (pages_of_cache new) given → P (pages_of_cache old) leaves
as_before old new r fa given leaves e P h = subst (P (pages_of_cache old)) e (subst (λ nodes. P nodes given) (same_pages old new r fa) h)

pub turn_append : (f rows : ℕ) (d : Option LegView) (xs ys : List LegView) → ComeInTurn f rows d (xs ++ ys) → ComeInTurn f rows (last_leg d xs) ys
turn_append f rows d [] ys h = h
turn_append f rows d (x ∷ xs) ys h = turn_append f rows (Some x) xs ys h.3

pub turn_before : (f rows : ℕ) (d : Option LegView) (xs ys : List LegView) → ComeInTurn f rows d (xs ++ ys) → ComeInTurn f rows d xs
turn_before f rows d [] ys h = tt
turn_before f rows d (x ∷ xs) ys h = (h.0, h.1, h.2, turn_before f rows (Some x) xs ys h.3)

pub turn_join : (f rows : ℕ) (d : Option LegView) (xs ys : List LegView) → ComeInTurn f rows d xs → ComeInTurn f rows (last_leg d xs) ys → ComeInTurn f rows d (xs ++ ys)
turn_join f rows d [] ys h k = k
turn_join f rows d (x ∷ xs) ys h k = (h.0, h.1, h.2, turn_join f rows (Some x) xs ys h.3 k)

last_join : (d : Option LegView) (xs ys : List LegView) → last_leg d (xs ++ ys) ≡ last_leg (last_leg d xs) ys
last_join d [] ys = refl
last_join d (x ∷ xs) ys = last_join (Some x) xs ys

last_push : (d q : ℕ) (xs : List ℕ) → last_or d (xs ++ q ∷ []) ≡ q
last_push d q [] = refl
last_push d q (x ∷ xs) = last_push x q xs

module _ (nodes : Pages LegView BoxView) (most rows f : ℕ) (place : Place) where
  abbrev legs_at : ℕ → List LegView
  legs_at p = legs_in (nodes.at p)

  -- so many leaves were met
  pub record Walked (walk : Walk) (old new : Survey) : Type 0 where
    pub done : List ℕ
    pub on : (rest : List ℕ) → AreLeavesFrom nodes most f walk.previous walk.page walk.left rest → AreLeavesFrom nodes most f 0 place.first place.legs (done ++ rest)
    pub back : (pages : List ℕ) → AreLeavesFrom nodes most f 0 place.first place.legs pages
        → (rest : List ℕ) × (pages ≡ done ++ rest) × AreLeavesFrom nodes most f walk.previous walk.page walk.left rest
    pub turn : ComeInTurn f rows None (legs_on nodes done)
    pub last : walk.last ≡ last_leg None (legs_on nodes done)
    pub previous : walk.previous ≡ last_or 0 done
    pub feature : walk.feature ≡ f
    pub notes : NotesAll nodes done old new

  pub walked_none : (survey : Survey) → Walked (record { feature = f; previous = 0; page = place.first; left = place.legs; last = None }) survey survey
  walked_none survey = record {
    done = [];
    on = λ rest h. h;
    back = λ pages h. (pages, refl, h);
    turn = tt;
    last = refl;
    previous = refl;
    feature = refl;
    notes = record { mets = []; pages_are = refl; are_met = All-nil (λ (m : Met). IsMet (nodes.at m.page) m); ordinals = sym (append-nil survey.ordinals.items); leaves = sym (append-nil survey.leaves.items); firsts = refl };
  }

  legs_push : (done : List ℕ) (p : ℕ) → legs_on nodes (done ++ p ∷ []) ≡ legs_on nodes done ++ legs_at p
  legs_push done p = flat_map-append legs_at done (p ∷ []) ∙ ap (λ l. legs_on nodes done ++ l) (append-nil (legs_at p))

  step : (walk : Walk) (old mid new : Survey) → Walked walk old mid → TakesLeaf nodes most rows walk (after most walk (nodes.at walk.page)) mid new → Walked (after most walk (nodes.at walk.page)) old new
  step walk old mid new w t =
      let p = walk.page in
      let leaf : IsLeafOf nodes most f walk.previous walk.left p = subst (λ f. IsLeafOf nodes most f walk.previous walk.left p) w.feature t.leaf in
      let turn : ComeInTurn f rows (last_leg None (legs_on nodes w.done)) (legs_at p) = subst (λ d. ComeInTurn f rows d (legs_at p)) w.last (subst (λ f. ComeInTurn f rows walk.last (legs_at p)) w.feature t.turn) in
      let n = t.notes in
      record {
        done = w.done ++ p ∷ [];
        on = λ rest h. subst (AreLeavesFrom nodes most f 0 place.first place.legs) (sym (append_assoc w.done (p ∷ []) rest)) (w.on (p ∷ rest) (refl, leaf, h));
        back = λ pages h. let b = w.back pages h in next b.0 leaf b.1 b.2;
        turn = subst (ComeInTurn f rows None) (sym (legs_push w.done p)) (turn_join f rows None (legs_on nodes w.done) (legs_at p) w.turn turn);
        last = ap (λ d. last_leg d (legs_at p)) w.last ∙ sym (last_join None (legs_on nodes w.done) (legs_at p)) ∙ ap (last_leg None) (sym (legs_push w.done p));
        previous = sym (last_push 0 p w.done);
        feature = w.feature;
        notes = record {
          mets = w.notes.mets ++ n.met ∷ [];
          pages_are = map-append (λ (m : Met). m.page) w.notes.mets (n.met ∷ []) ∙ (λ i. w.notes.pages_are i ++ n.page_is i ∷ []);
          are_met = All-append (λ (m : Met). IsMet (nodes.at m.page) m) w.notes.mets (n.met ∷ []) w.notes.are_met
              (All-cons (λ (m : Met). IsMet (nodes.at m.page) m) n.met [] (subst (λ p. IsMet (nodes.at p) n.met) (sym n.page_is) n.is_met) (All-nil (λ (m : Met). IsMet (nodes.at m.page) m)));
          ordinals = n.ordinals ∙ ap (λ l. l ++ map (λ leg. leg.ordinal) (legs_at p)) w.notes.ordinals
              ∙ append_assoc old.ordinals.items (map (λ leg. leg.ordinal) (legs_on nodes w.done)) (map (λ leg. leg.ordinal) (legs_at p))
              ∙ ap (λ l. old.ordinals.items ++ l) (sym (map-append (λ (leg : LegView). leg.ordinal) (legs_on nodes w.done) (legs_at p)) ∙ ap (map (λ leg. leg.ordinal)) (sym (legs_push w.done p)));
          leaves = n.leaves ∙ ap (λ l. l ++ n.met ∷ []) w.notes.leaves ∙ append_assoc old.leaves.items w.notes.mets (n.met ∷ []);
          firsts = n.firsts ∙ w.notes.firsts;
        };
      }
    where
      next : {pages : List ℕ} (rest : List ℕ) → IsLeafOf nodes most f walk.previous walk.left walk.page → pages ≡ w.done ++ rest → AreLeavesFrom nodes most f walk.previous walk.page walk.left rest
          → (rest' : List ℕ) × (pages ≡ (w.done ++ walk.page ∷ []) ++ rest') × AreLeavesFrom nodes most f walk.page (next_in (nodes.at walk.page)) (walk.left - most) rest'
      next [] leaf e h = absurd (let s = leaf.some in let z = h.0 in omega (arith, s, z))
      next (q ∷ qs) leaf e h =
          let s = h.0 in (
            qs,
            e ∙ ap (λ q. w.done ++ q ∷ qs) (sym s) ∙ sym (append_assoc w.done (walk.page ∷ []) qs),
            subst (λ q. AreLeavesFrom nodes most f q (next_in (nodes.at q)) (walk.left - most) qs) (sym s) h.2,
          )

  pub walked_on : (walk next : Walk) (old mid new : Survey) → Walked walk old mid → TakesLeaf nodes most rows walk next mid new → Walked next old new
  walked_on walk next old mid new w t = subst (λ v. Walked v old new) (sym t.next_is) (step walk old mid new w (subst (λ v. TakesLeaf nodes most rows walk v mid new) t.next_is t))

  -- where the chain is whole, the next page is its next leaf
  pub walked_leaf : (walk : Walk) (old new : Survey) (track : Track) (pages : List ℕ) → Walked walk old new → 0 < walk.left → AreLeavesOf nodes most rows f place track pages
      → IsLeafOf nodes most walk.feature walk.previous walk.left walk.page × ComeInTurn walk.feature rows walk.last (legs_in (nodes.at walk.page))
  walked_leaf walk old new track pages w l c = let b = w.back pages c.leaves in at b.0 b.1 b.2
    where
      at : (rest : List ℕ) → pages ≡ w.done ++ rest → AreLeavesFrom nodes most f walk.previous walk.page walk.left rest
          → IsLeafOf nodes most walk.feature walk.previous walk.left walk.page × ComeInTurn walk.feature rows walk.last (legs_in (nodes.at walk.page))
      at [] e h = absurd (let z = h.0 in omega (arith, z, l))
      at (q ∷ qs) e h =
          let all : legs_on nodes pages ≡ legs_on nodes w.done ++ (legs_at q ++ legs_on nodes qs) = ap (legs_on nodes) e ∙ flat_map-append legs_at w.done (q ∷ qs) in
          let turn = turn_append f rows None (legs_on nodes w.done) (legs_at q ++ legs_on nodes qs) (subst (ComeInTurn f rows None) all c.in_turn) in
          let here = turn_before f rows (last_leg None (legs_on nodes w.done)) (legs_at q) (legs_on nodes qs) turn in (
            subst (λ f. IsLeafOf nodes most f walk.previous walk.left walk.page) (sym w.feature) (subst (IsLeafOf nodes most f walk.previous walk.left) (sym h.0) h.1),
            subst (λ f. ComeInTurn f rows walk.last (legs_at walk.page)) (sym w.feature) (subst (λ d. ComeInTurn f rows d (legs_at walk.page)) (sym w.last) (subst (λ p. ComeInTurn f rows (last_leg None (legs_on nodes w.done)) (legs_at p)) (sym h.0) here)),
          )

  pub walked_end : (walk : Walk) (old new : Survey) (track : Track) → Walked walk old new → walk.left ≡ 0 → IsAtEnd walk place track → Walks nodes most rows f place track old new
  walked_end walk old new track w z e = record {
    pages = w.done;
    leaves = record {
      leaves = subst (AreLeavesFrom nodes most f 0 place.first place.legs) (append-nil w.done) (w.on [] (z, e.page));
      last = sym w.previous ∙ e.last;
      in_turn = w.turn;
      end = λ leg s. e.end leg (w.last ∙ s);
      legs = e.legs;
    };
    notes = w.notes;
  }

  pub walked_whole : (walk : Walk) (old new : Survey) (track : Track) (pages : List ℕ) → Walked walk old new → walk.left ≡ 0 → AreLeavesOf nodes most rows f place track pages → IsAtEnd walk place track
  walked_whole walk old new track pages w z c = let b = w.back pages c.leaves in at b.0 b.1 b.2
    where
      at : (rest : List ℕ) → pages ≡ w.done ++ rest → AreLeavesFrom nodes most f walk.previous walk.page walk.left rest → IsAtEnd walk place track
      at [] e h =
          let s : pages ≡ w.done = e ∙ append-nil w.done in
          record {
            page = h.1;
            last = w.previous ∙ ap (last_or 0) (sym s) ∙ c.last;
            legs = c.legs;
            end = λ leg q. c.end leg (ap (λ p. last_leg None (legs_on nodes p)) s ∙ sym w.last ∙ q);
          }
      at (q ∷ qs) e h = absurd (let s = h.1.some in omega (arith, s, z))

-- legs are left as long as fewer leaves were read than they fill
pub some_left : (legs most i left : ℕ) → 0 < most → i < div_ceil legs most → left ≡ legs - i * most → 0 < left
some_left legs most i left h l e =
    let d = div_ceil_times legs most h in
    let m : suc i * most ≤ div_ceil legs most * most = mul-le (suc i) most (div_ceil legs most) most (omega (arith, l)) (omega arith) in
    let s : suc i * most ≡ most + i * most = omega arith in
    omega (arith, d.1, m, s, e)

pub none_left : (legs most i left : ℕ) → 0 < most → div_ceil legs most ≤ i → left ≡ legs - i * most → left ≡ 0
none_left legs most i left h l e =
    let d = div_ceil_times legs most h in
    let m : div_ceil legs most * most ≤ i * most = mul-le (div_ceil legs most) most i most l (omega arith) in
    omega (arith, d.0, m, e)

pub next_left : (legs most i left : ℕ) → left ≡ legs - i * most → left - most ≡ legs - (i + 1) * most
next_left legs most i left e = let s : (i + 1) * most ≡ i * most + most = omega arith in omega (arith, e, s)
