-- The cases of hang, as its goals state them.
use Rattle.std.proofs.Common.{ℕ, suc, ◌+◌, ◌/◌, ◌%◌, ◌<◌, ◌≡◌, ◌≢◌, [], ◌∷◌, ◌++◌, length, sym, arith, subst}
use Rattle.std.specs.Prelude.{Result, Ok, Err}
use Rattle.tbtree.specs.Faults.{MayRefuseWrite}
use Rattle.legs.specs.Hull.{Boxes}
use Rattle.tbtree.proofs.LawfulBoxes.{AreLawful}
use Rattle.tbtree.specs.Nodes.{Pages, AnInner, Attaches, Adds, Covers, HasCover, HasRoom}
use Rattle.tbtree.specs.Way.{IsOnWay, Hangs, Hung}
use Rattle.tbtree.specs.declared.fault.TreeFault.{TreeFault}
use Rattle.tbtree.specs.declared.tree.Top.{Top}
use Rattle.tbtree.proofs.HangLemmas.{hang_room, hang_up, hang_going, parent_room}
use Rattle.tbtree.proofs.RootLemmas.{hang_root, root_has}

module _ {L B : Type 0} (s : Boxes L B) (laws : AreLawful s) (feature : L → ℕ) (inner levels root : ℕ) where
  pub hang_rooted : (old mid new : Pages L B) (K j p q : ℕ) (f box : B) → 1 < inner → K + 1 ≡ levels → Covers s old root f mid
      → Adds mid (AnInner (record { level = K + 1; entries = record { child = root; bounds = f } ∷ record { child = p; bounds = box } ∷ [] })) new q → Hangs s feature inner levels root old new K j p box (Ok (record { root = q; levels = levels + 1 }))
  hang_rooted old mid new K j p q f box h e c w runs ys pages count eb ep ej v =
      let u : suc levels ≡ levels + 1 = omega arith in
      subst (λ z. Hung s feature inner z q new runs ys (pages 0) count) u (hang_root s laws feature inner levels root old mid new K j p q (K + 1) f box runs ys pages count h (omega (arith, e)) (omega arith) c w eb ep ej v)

  -- the old root cannot be read
  pub cover_refused : (old new : Pages L B) (K j p : ℕ) (box : B) (x : TreeFault) → 1 < inner → K + 1 ≡ levels → (0 < root → HasCover s old root → MayRefuseWrite x) → Hangs s feature inner levels root old new K j p box (Err x)
  cover_refused old new K j p box x h e only runs ys pages count eb ep ej v =
      let top = v.numbers.top K (omega (arith, e)) in
      only (v.numbers.within K 0 root top.1).0 (root_has s laws feature inner levels root K old runs ys pages count (omega (arith, h)) (omega (arith, e)) v)

  pub hang_ups : (old mid new : Pages L B) (K j p q : ℕ) (box : B) (res : Result Top TreeFault) → 1 < inner → K < levels → j % inner ≡ 0 → Adds old (AnInner (record { level = K + 1; entries = record { child = p; bounds = box } ∷ [] })) mid q
      → Hangs s feature inner levels root mid new (K + 1) (j / inner) q box res → Hangs s feature inner levels root old new K j p box res
  hang_ups old mid new K j p q box res h b full w on =
      let u : K + 1 ≡ suc K = omega arith in
      hang_up s laws feature inner levels root old mid new K j p q (K + 1) box res (omega (arith, h)) b full u w (subst (λ z. Hangs s feature inner levels root mid new z (j / inner) q box res) u on)

  pub hang_on : (old mid new : Pages L B) (K j p parent : ℕ) (box : B) → 1 < inner → suc K < levels → j % inner ≢ 0 → IsOnWay s inner levels root old mid (K + 1) (j / inner) box (Ok parent) → Attaches mid parent (K + 1) p box new
      → Hangs s feature inner levels root old new K j p box (Ok (record { root = root; levels = levels }))
  hang_on old mid new K j p parent box h b ne on w runs ys pages count eb ep ej v =
      let u : K + 1 ≡ suc K = omega arith in
      let h' : 0 < inner = omega (arith, h) in
      let on' : IsOnWay s inner levels root old mid (suc K) (j / inner) box (Ok parent) = subst (λ z. IsOnWay s inner levels root old mid z (j / inner) box (Ok parent)) u on in
      let o = on' runs (runs ++ ys ∷ []) pages count (length runs) (hang_going s laws feature inner levels root old K j box runs ys pages count h' ne eb ej v) in
      hang_room s laws feature inner levels root old mid new K j p parent box runs ys pages count h' b ne eb ep ej v o (subst (λ z. Attaches mid parent z p box new) u w)

  pub way_not : (old mid new : Pages L B) (K j p : ℕ) (box : B) (x : TreeFault) → 1 < inner → j % inner ≢ 0 → IsOnWay s inner levels root old mid (K + 1) (j / inner) box (Err x) → Hangs s feature inner levels root old new K j p box (Err x)
  way_not old mid new K j p box x h ne on runs ys pages count eb ep ej v =
      let u : K + 1 ≡ suc K = omega arith in
      let on' : IsOnWay s inner levels root old mid (suc K) (j / inner) box (Err x) = subst (λ z. IsOnWay s inner levels root old mid z (j / inner) box (Err x)) u on in
      on' runs (runs ++ ys ∷ []) pages count (length runs) (hang_going s laws feature inner levels root old K j box runs ys pages count (omega (arith, h)) ne eb ej v)

  pub attach_not : (old mid new : Pages L B) (K j p parent : ℕ) (box : B) (x : TreeFault) → 1 < inner → suc K < levels → j % inner ≢ 0 → IsOnWay s inner levels root old mid (K + 1) (j / inner) box (Ok parent) → (HasRoom mid parent (K + 1) inner → MayRefuseWrite x)
      → Hangs s feature inner levels root old new K j p box (Err x)
  attach_not old mid new K j p parent box x h b ne on only runs ys pages count eb ep ej v =
      let u : K + 1 ≡ suc K = omega arith in
      let h' : 0 < inner = omega (arith, h) in
      let on' : IsOnWay s inner levels root old mid (suc K) (j / inner) box (Ok parent) = subst (λ z. IsOnWay s inner levels root old mid z (j / inner) box (Ok parent)) u on in
      let o = on' runs (runs ++ ys ∷ []) pages count (length runs) (hang_going s laws feature inner levels root old K j box runs ys pages count h' ne eb ej v) in
      only (subst (λ z. HasRoom mid parent z inner) (sym u) (parent_room s laws feature inner levels root old mid K j parent runs ys pages count h' b ej v o))
