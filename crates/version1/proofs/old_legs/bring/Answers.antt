use Rattle.std.proofs.Common.{rules, length, arith, ◌≡◌, ◌+◌, ◌∙◌, inl, inr, Err, IsErrOf, IsTrue, List, ℕ, Some, nat_eq, refl, sym, ap, subst}
use Rattle.std.proofs.lemmas.List.{append-nil}
use Rattle.std.proofs.lemmas.Result.{err_from_is_err_and}
use Rattle.legs.specs.declared.index.IndexFault.TheVariants as index
use Rattle.std.specs.Map.{lookup}
use Rattle.std.specs.Option.{IsSome}
use Rattle.pages.specs.Store.{Store, Stays}
use Rattle.pagecache.specs.Cache.{fresh}
use Rattle.version1.specs.OldForm.{old_node_of}
use Rattle.legs.specs.Index.{MayRefuseLeg}
use Rattle.legs.specs.Legs.{LegView}
use Rattle.legs.specs.declared.listed.Listed.{Ghosts}
use Rattle.version1.specs.Migrating.{IsReady}
use Rattle.version1.specs.OldLegs.{AreOpened, AreReadable, HaveLegsOf, IsNumbered, StandByOrdinal}
use Rattle.treecheck.specs.Walking.{pages_by}
use Rattle.treecheck.specs.declared.walking.Met.{Met}
use Rattle.version1.proofs.OldLemmas.{reads_stays}
use Rattle.version1.proofs.OpenedLemmas.{allowed_leg, next_opened, not_none, opened_none, opened_taken}
use Rattle.version1.proofs.TakingLemmas.{same_err, on_err, on_ok, all_taken, brought_none, brought_on, next_waits, later_refl, later_trans, risen_after, stays_refl, stays_trans, stand_taken, store_failed, Brought, StandsNext}
use Rattle.treecheck.proofs.WalkedLemmas.{same_by}
use Rattle.version1.proofs.old_legs.bring.Given as given
use Rattle.version1.proofs.old_legs.bring.Goals as goal

module _ (first now : Store) (stays : Stays first now) (fa : IsTrue first.is_faithful) where
  -- the pages of a store that was read have the nodes that they had
  same_nodes : pages_by old_node_of (fresh now 1) ≡ pages_by old_node_of (fresh first 1)
  same_nodes = same_by old_node_of (fresh first 1) (fresh now 1) (reads_stays first now stays) fa

  -- with the next leaf those that begin with the next leg or an earlier one are opened
  opened_on : {leaves : List Met} {next later n : ℕ} {opened more : List (ℕ × LegView)} → AreOpened (pages_by old_node_of (fresh first 1)) leaves next n n opened
      → (IsTrue now.is_faithful → AreOpened (pages_by old_node_of (fresh now 1)) leaves next n n opened → AreOpened (pages_by old_node_of (fresh now 1)) leaves later n (n + 1) more)
      → AreOpened (pages_by old_node_of (fresh first 1)) leaves later n (n + 1) more
  opened_on {leaves} {next} {later} {n} {opened} {more} are on =
      subst (λ nodes. AreOpened nodes leaves later n (n + 1) more) same_nodes
      (on (stays.keeps.faithful ∙ fa) (subst (λ nodes. AreOpened nodes leaves next n n opened) (sym same_nodes) are))

  -- the leg that is taken is the next one of the list
  stands_next : {I : Type 0} (g : Ghosts I) {old index : I} {opened more : List (ℕ × LegView)} {waiting : List LegView} {n total : ℕ} {list : List LegView} {leg : LegView} (leaves : List Met) → Brought g old index opened waiting n list
      → HaveLegsOf (pages_by old_node_of (fresh first 1)) leaves list → IsNumbered total list
      → (IsTrue now.is_faithful → (legs : List LegView) → StandByOrdinal legs opened → HaveLegsOf (pages_by old_node_of (fresh now 1)) leaves legs → StandByOrdinal legs more)
      → lookup (nat_eq n) more ≡ Some leg → StandsNext g old index opened more waiting n total list leg
  stands_next g {list = list} leaves b have numbered on at = record {
    brought = b;
    numbered = numbered;
    stand = on (stays.keeps.faithful ∙ fa) list b.stand (subst (λ nodes. HaveLegsOf nodes leaves list) (sym same_nodes) have);
    at = at;
  }

-- where the leg is not put, it is the next one
next_refused : (g : given.Over) (c : goal.After-drop-opened-in_err-put_behind g) → IsReady g.I.Listed (g.S.PageStore.seen c.args.old.now) c.args.index.now
    → (list : List LegView) → HaveLegsOf (pages_by old_node_of (fresh (g.S.PageStore.seen c.args.old.now) 1)) c.args.leaves.now list → IsNumbered c.args.legs list
    → StandsNext g.I.Listed c.args.index.now c.legs.index c.legs.opened.entries c.open_next.new.opened.entries c.legs.waiting.items c.legs.ordinal-counter c.args.legs list c.in-Some.leg
next_refused g c ready list have numbered =
    stands_next (g.S.PageStore.seen c.args.old.now) (g.S.PageStore.seen c.legs.old) c.legs.invariant.stays ready.faithful g.I.Listed c.args.leaves.now (c.legs.invariant.brought ready list have numbered) have numbered c.in-Ok.ensures.opened
    (sym c.remove.ensures.value ∙ c.in-Some.is)

pub legs-init : goal.legs-init
legs-init g c = record {
  stays = stays_refl (g.S.PageStore.seen c.args.old.now);
  later = later_refl g.I.Listed c.args.index.now;
  few = (let e = ap length c.new-waiting.ensures.items in omega (arith, e));
  brought = λ ready list have numbered. brought_none g.I.Listed c.args.index.now c.with_hasher-opened.result.entries c.new-waiting.result.items c.args.legs list c.with_hasher-opened.ensures.empty c.new-waiting.ensures.items ready.sound ready.empty numbered;
  opened = λ fa rises. opened_none (pages_by old_node_of (fresh (g.S.PageStore.seen c.args.old.now) 1)) c.args.leaves.now c.with_hasher-opened.result.entries;
}

pub legs-preserved : goal.legs-preserved
legs-preserved g c =
    let first = g.S.PageStore.seen c.args.old.now in
    let now = g.S.PageStore.seen c.legs.old in
    let inv = c.legs.invariant in
    let n = c.legs.ordinal-counter in
    let put = c.in_ok-put_behind.ensures in
    record {
      stays = stays_trans first now (g.S.PageStore.seen c.open_next.new.store) inv.stays c.open_next.ensures.stays;
      later = later_trans g.I.Listed c.args.index.now c.legs.index c.put_behind.new.index inv.later put.puts.later;
      few = put.few;
      brought = λ ready list have numbered.
          let k = stands_next first now inv.stays ready.faithful g.I.Listed c.args.leaves.now (inv.brought ready list have numbered) have numbered c.in-Ok.ensures.opened (sym c.remove.ensures.value ∙ c.in-Some.is) in
          brought_on g.I.Listed k c.put_behind.new.index c.remove.new.self.entries c.put_behind.new.waiting.items (n + 1) refl
          (stand_taken list c.open_next.new.opened.entries c.remove.new.self.entries (nat_eq n) k.stand c.remove.ensures.updates.0) put.puts.holds put.puts.marked;
      opened = λ fa rises.
          opened_taken (pages_by old_node_of (fresh first 1)) c.args.leaves.now c.in-Ok.next n c.open_next.new.opened.entries c.remove.new.self.entries
          (opened_on first now inv.stays fa (inv.opened fa rises) (λ f. c.in-Ok.ensures.on f rises)) c.remove.ensures.updates.0;
    }

pub returns-clause-brought : goal.returns-clause-brought
returns-clause-brought g c = on_ok c.put_waiting.result (λ holds ready list have numbered.
    let b = c.legs.invariant.brought ready list have numbered in
    let h = holds b.may in
    (h.may.0, sym (append-nil (g.I.Listed.content c.put_waiting.new.index)) ∙ h.content ∙ b.content ∙ all_taken c.args.legs c.legs.ordinal-counter list numbered c.legs-test.false)) c.put_waiting.ensures.puts.holds

pub returns-clause-only : goal.returns-clause-only
returns-clause-only g c = on_err c.put_waiting.result (λ fault may ready list have each numbered.
    may (c.legs.invariant.brought ready list have numbered).may) c.put_waiting.ensures.puts.only

pub returns-clause-marked : goal.returns-clause-marked
returns-clause-marked g c = λ ready marked list have numbered.
    let b = c.legs.invariant.brought ready list have numbered in
    c.put_waiting.ensures.puts.marked b.may (b.marked marked)

pub returns-clause-takes : goal.returns-clause-takes
returns-clause-takes g c =
    let i = c.legs.invariant in
    record {
      stays = i.stays;
      later = later_trans g.I.Listed c.args.index.now c.legs.index c.put_waiting.new.index i.later c.put_waiting.ensures.puts.later;
      store = λ e. inr (risen_after (g.I.Listed.faults c.args.index.now) (g.I.Listed.faults c.legs.index) (g.I.Listed.faults c.put_waiting.new.index) i.later.faults (c.put_waiting.ensures.puts.store e));
      full = c.put_waiting.ensures.puts.full;
    }

pub returns-in-Err-clause-marked : goal.returns-in-Err-clause-marked
returns-in-Err-clause-marked g c = λ ready marked list have numbered. (c.legs.invariant.brought ready list have numbered).marked marked

pub returns-in-Err-clause-takes : goal.returns-in-Err-clause-takes
returns-in-Err-clause-takes g c =
    let first = g.S.PageStore.seen c.args.old.now in
    let now = g.S.PageStore.seen c.legs.old in
    let after = g.S.PageStore.seen c.open_next.new.store in
    let i = c.legs.invariant in
    record {
      stays = stays_trans first now after i.stays c.open_next.ensures.stays;
      later = i.later;
      store = λ e. inl (risen_after first.faults now.faults after.faults i.stays.keeps.faults
          (store_failed now after c.in-Err.fault c.in-Err.ensures.caused (sym c.of_tree.ensures ∙ same_err c.of_tree.result index.Store e)));
      full = search rules;
    }

pub returns-in_default-clause-marked : goal.returns-in_default-clause-marked
returns-in_default-clause-marked g c = λ ready marked list have numbered. (c.legs.invariant.brought ready list have numbered).marked marked

pub returns-in_default-clause-takes : goal.returns-in_default-clause-takes
returns-in_default-clause-takes g c = record {
  stays = stays_trans (g.S.PageStore.seen c.args.old.now) (g.S.PageStore.seen c.legs.old) (g.S.PageStore.seen c.open_next.new.store) c.legs.invariant.stays c.open_next.ensures.stays;
  later = c.legs.invariant.later;
  store = search rules;
  full = search rules;
}

pub returns-in_err-put_behind-clause-marked : goal.returns-in_err-put_behind-clause-marked
returns-in_err-put_behind-clause-marked g c = λ ready marked list have numbered.
    let k = next_refused g c ready list have numbered in
    c.put_behind.ensures.puts.marked (next_waits g.I.Listed k) (k.brought.marked marked)

pub returns-in_err-put_behind-clause-takes : goal.returns-in_err-put_behind-clause-takes
returns-in_err-put_behind-clause-takes g c =
    let i = c.legs.invariant in
    let put = c.in_err-put_behind.ensures.puts in
    let p = err_from_is_err_and c.from_residual.result c.from_residual.ensures.1 in
    record {
      stays = stays_trans (g.S.PageStore.seen c.args.old.now) (g.S.PageStore.seen c.legs.old) (g.S.PageStore.seen c.open_next.new.store) i.stays c.open_next.ensures.stays;
      later = later_trans g.I.Listed c.args.index.now c.legs.index c.put_behind.new.index i.later put.later;
      store = λ e. inr (risen_after (g.I.Listed.faults c.args.index.now) (g.I.Listed.faults c.legs.index) (g.I.Listed.faults c.put_behind.new.index) i.later.faults
          (put.store (subst (λ r. IsErrOf r index.Store) (p.1 ∙ ap (λ x. Err x) p.2) e)));
      full = λ e. put.full (subst (λ r. IsErrOf r index.StoreFull) (p.1 ∙ ap (λ x. Err x) p.2) e);
    }

pub returns-in-Err-clause-only : goal.returns-in-Err-clause-only
returns-in-Err-clause-only g c = λ ready list have each numbered.
    let inv = c.legs.invariant in
    let same = same_nodes (g.S.PageStore.seen c.args.old.now) (g.S.PageStore.seen c.legs.old) inv.stays ready.faithful in
    subst MayRefuseLeg (sym c.of_tree.ensures)
    (allowed_leg c.in-Err.fault (c.in-Err.ensures.only (inv.stays.keeps.faithful ∙ ready.faithful) (subst (λ nodes. AreReadable nodes c.args.leaves.now) (sym same) each.readable)))

pub returns-in_default-clause-only : goal.returns-in_default-clause-only
returns-in_default-clause-only g c = λ ready list have each numbered.
    let fa = ready.faithful in
    let n = c.legs.ordinal-counter in
    let nodes = pages_by old_node_of (fresh (g.S.PageStore.seen c.args.old.now) 1) in
    let there = next_opened nodes c.args.leaves.now c.in-Ok.next n c.args.legs list c.open_next.new.opened.entries each numbered c.legs-test.true
    (opened_on (g.S.PageStore.seen c.args.old.now) (g.S.PageStore.seen c.legs.old) c.legs.invariant.stays fa (c.legs.invariant.opened fa each.rises) (λ f. c.in-Ok.ensures.on f each.rises)) in
    not_none c.remove.result c.in_default.not-Some (subst IsSome (sym c.remove.ensures.value) there)

pub returns-in_err-put_behind-clause-only : goal.returns-in_err-put_behind-clause-only
returns-in_err-put_behind-clause-only g c =
    let p = err_from_is_err_and c.from_residual.result c.from_residual.ensures.1 in
    rw (p.1, p.2) (λ ready list have each numbered.
    c.in_err-put_behind.ensures.puts.only (next_waits g.I.Listed (next_refused g c ready list have numbered)))
