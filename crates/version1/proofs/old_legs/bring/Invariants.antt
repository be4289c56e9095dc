use Rattle.std.specs.Prelude.{◌<◌, List, length, IsTrue}
use Rattle.legs.specs.Asking.{IsLater}
use Rattle.legs.specs.Legs.{LegView}
use Rattle.pages.specs.Store.{Stays}
use Rattle.pagecache.specs.Cache.{fresh}
use Rattle.version1.proofs.TakingLemmas.{Brought}
use Rattle.version1.specs.OldForm.{old_node_of}
use Rattle.tbtree.specs.Turn.{IsRising}
use Rattle.version1.specs.Migrating.{IsReady}
use Rattle.version1.specs.OldLegs.{AreOpened, HaveLegsOf, IsNumbered}
use Rattle.treecheck.specs.Walking.{pages_by}
use Rattle.treecheck.specs.declared.walking.Met.{Met}
use Rattle.version1.proofs.old_legs.bring.Given as goal

abbrev pub invariant-legs : goal.invariant-legs
invariant-legs g l = record {
  stays : Stays (g.S.PageStore.seen l.initial.old) (g.S.PageStore.seen l.old);
  later : IsLater g.I.Listed l.initial.index l.index;
  few : length l.waiting.items < 65536;
  brought : IsReady g.I.Listed (g.S.PageStore.seen l.initial.old) l.initial.index → (list : List LegView)
      → HaveLegsOf (pages_by old_node_of (fresh (g.S.PageStore.seen l.initial.old) 1)) l.leaves list → IsNumbered l.legs list
      → Brought g.I.Listed l.initial.index l.index l.opened.entries l.waiting.items l.ordinal-counter list;
  opened : IsTrue (g.S.PageStore.seen l.initial.old).is_faithful → IsRising (λ (m : Met). m.first) l.leaves
      → AreOpened (pages_by old_node_of (fresh (g.S.PageStore.seen l.initial.old) 1)) l.leaves l.next l.ordinal-counter l.ordinal-counter l.opened.entries;
}
