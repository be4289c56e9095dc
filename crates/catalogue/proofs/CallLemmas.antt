-- What closing a store promises.
use Rattle.std.proofs.Common.{◌≡◌, ◌<◌, ◌≤◌, false, [], inl, inr, refl, ap, ◌∙◌, arith, IsTrue, Ok, Err, None, Some}
use Rattle.timebase.specs.Instant.{IsMoment}
use Rattle.legs.specs.declared.head.BookHead.{BookHead}
use Rattle.pages.specs.Store.{IsLawful, NoneUnsynced}
use Rattle.pagecache.specs.Cache.{is_changed, page_of, payload_of, Cache, IsRefused, IsSettled}
use Rattle.pagecache.specs.declared.fault.CacheFault.{CacheFault}
use Rattle.pagecache.specs.declared.fault.CacheFault.TheVariants as cache
use Rattle.boxsearch.specs.Beside.{with_cache}
use Rattle.boxsearch.specs.Index.{IndexView, IsMarked}
use Rattle.boxsearch.proofs.BoundLemmas.{first_held, first_there}
use Rattle.boxsearch.proofs.StartLemmas.{IsBeside}
use Rattle.register.specs.ChainReader.{fault_of}
use Rattle.register.specs.Lasting.{Says}
use Rattle.register.specs.Saved.{CatalogueView, Continues, IsWrittenButFirst, KeepsFront}
use Rattle.register.specs.Saving.{contents_of, HasFew, HasPageZero, IsCatalogue, IsCaused, IsSavingStop}
use Rattle.register.specs.Text.{IsWhole}
use Rattle.register.specs.declared.fault.CatalogueFault.{CatalogueFault}
use Rattle.register.specs.declared.fault.CatalogueFault.TheVariants.{Memory, Store, StoreFull, Damaged, Unfinished, Version, Malformed}
use Rattle.catalogue.specs.Closing.{CloseStoreCall, IsClosingFault, IsNoStoreFault}
use Rattle.catalogue.specs.Finishing.{FinishesAll}
use Rattle.catalogue.specs.Holding.{IsUnfinishedStore}
use Rattle.catalogue.proofs.CloseLemmas.{closed_holds, front_says, front_unfinished, of_catalogue, of_few, saved_of}
use Rattle.catalogue.proofs.FinishLemmas.{store_then}
use Rattle.catalogue.proofs.RefusedLemmas.{behind_holds, synced_but_first}
use Rattle.catalogue.proofs.RestLemmas.{StateLaw}
use Rattle.catalogue.proofs.StateLemmas.{still_says}

-- what keeping a catalogue beside the tree of an index leaves
pub record IsKeptBeside (c : CatalogueView) (i : IndexView) (b : Cache) : Type 0 where
  pub saved : IsTrue i.cache.store.is_faithful → Says (payload_of b) b.count c i.tree i.places
  pub whole : IsCatalogue c → IsWhole (contents_of c i.places)
  pub front : IsTrue i.cache.store.is_faithful → 0 < i.cache.count → KeepsFront i.cache b
  pub some : 0 < i.cache.count
  pub beside : IsBeside i.cache b
  pub but : IsWrittenButFirst b
  pub synced : NoneUnsynced b.store

-- a catalogue that is not kept leaves a store that is not closed
keeping_fault : (a b : Cache) (e : CatalogueFault) → IsLawful b.store → b.count ≤ b.store.count → IsCaused a b e → IsClosingFault a.store b.store e
keeping_fault a b Memory l n h = tt
keeping_fault a b Store l n h = h
keeping_fault a b StoreFull l n h = (let w = l.within in omega (arith, h, n, w))
keeping_fault a b (Damaged page) l n h = tt
keeping_fault a b Unfinished l n h = absurd h
keeping_fault a b Version l n h = absurd h
keeping_fault a b Malformed l n h = tt

-- so does one that is not finished
finishing_fault : (a b d : Cache) (e : CacheFault) → a.store.faults ≤ b.store.faults → IsRefused 0 e b d → IsClosingFault a.store d.store (fault_of e)
finishing_fault a b d cache.NoPage n h = tt
finishing_fault a b d cache.Store n h = omega (arith, h, n)
finishing_fault a b d (cache.Damaged m) n h = tt
finishing_fault a b d cache.StoreFull n h = absurd h
finishing_fault a b d cache.Memory n h = tt

-- where page 0 has a payload, finishing fails only for want of memory or if the store fails
finishing_stop : (b d : Cache) (e : CacheFault) → IsTrue b.store.is_faithful → (payload_of b 0 ≡ None → ⊥) → IsRefused 0 e b d → IsSavingStop (fault_of e)
finishing_stop b d cache.NoPage f some h = some (h.1 f)
finishing_stop b d cache.Store f some h = tt
finishing_stop b d (cache.Damaged m) f some h = some (h.1 f)
finishing_stop b d cache.StoreFull f some h = tt
finishing_stop b d cache.Memory f some h = tt

-- and only want of memory is no fault of the store
only_memory : {P : Type 0} (b d : Cache) (e : CacheFault) → IsRefused 0 e b d → (e ≡ cache.Memory → P) → IsNoStoreFault (fault_of e) → P
only_memory b d cache.NoPage h f none = absurd none
only_memory b d cache.Store h f none = absurd none
only_memory b d (cache.Damaged m) h f none = absurd none
only_memory b d cache.StoreFull h f none = absurd h
only_memory b d cache.Memory h f none = f refl

module _ (c : CatalogueView) (i : IndexView) (b : Cache) (later : Continues i.cache b)
    (first_written : IsTrue i.cache.store.is_faithful → 0 < i.cache.count → is_changed i.cache 0 ≡ false → page_of b 0 ≡ page_of i.cache 0) where
  same_first : IsMarked i.cache → page_of b 0 ≡ page_of i.cache 0
  same_first m = first_written m.faithful m.there m.unchanged

  pub not_kept : (e : CatalogueFault) → (HasFew c → IsTrue i.cache.store.is_faithful → 0 < i.cache.count → HasPageZero i.cache → IsSavingStop e) → IsCaused i.cache b e → IsLawful b.store → b.count ≤ b.store.count
      → CloseStoreCall c i b.store (Err e)
  not_kept e only caused lawful small =
      let still : IsMarked i.cache → IsUnfinishedStore b.store = λ m. still_says i.cache b m (same_first m) in
      record {
        holds = tt;
        synced = tt;
        only = λ sound book of legs. only (of_few c book of) sound.faithful (first_there i sound) (λ _. first_held i sound);
        unfinished = λ none m. still m;
        refused = λ sound m book of legs. inl (still m);
        ordered = λ m. inl (still m);
        keeps = later.store;
        caused = keeping_fault i.cache b e lawful small caused;
      }

  module _ (states : StateLaw) (dated : (head : BookHead) → c.head ≡ Some head → IsMoment head.base) (settled : IsSettled i.cache) (k : IsKeptBeside c i b) (d : Cache) (lawful : IsLawful d.store) where
    there : 0 < b.count
    there = let some = k.some in let more = later.count in omega (arith, some, more)

    front : IsMarked i.cache → KeepsFront i.cache b
    front m = k.front m.faithful m.there

    pub finished_call : FinishesAll b d (Ok tt) → CloseStoreCall c i d.store (Ok tt)
    finished_call f = record {
      holds = λ sound m book of legs.
          let s = saved_of c i book b k.beside dated sound of legs (k.saved sound.faithful) (k.whole (of_catalogue c book of)) in
          closed_holds states c (with_cache i b []) book d.store s (front m).payload (front m).is (front_unfinished i.cache b m settled (front m))
          (f.finishes s.sound.faithful s.sound.count) lawful f.others.store.faithful;
      synced = f.synced;
      only = tt;
      unfinished = tt;
      refused = tt;
      ordered = tt;
      keeps = store_then i.cache.store b.store d.store later.store f.others.store;
      caused = tt;
    }

    pub refused_call : (e : CacheFault) → FinishesAll b d (Err e) → CloseStoreCall c i d.store (Err (fault_of e))
    refused_call e f = record {
      holds = tt;
      synced = tt;
      only = λ sound book of legs.
          let s = saved_of c i book b k.beside dated sound of legs (k.saved sound.faithful) (k.whole (of_catalogue c book of)) in
          finishing_stop b d e s.sound.faithful (first_held (with_cache i b []) s.sound) f.caused;
      unfinished = only_memory b d e f.caused (λ memory m.
          f.unfinished (ap (λ x. Err x) memory) (later.store.faithful ∙ m.faithful) there (still_says i.cache b m (same_first m)) (front_says i.cache b m settled (front m)));
      refused = λ sound m book of legs.
          let s = saved_of c i book b k.beside dated sound of legs (k.saved sound.faithful) (k.whole (of_catalogue c book of)) in
          inr (behind_holds states c (with_cache i b []) book d s (front m).payload (front m).is (front_unfinished i.cache b m settled (front m))
          k.but there f.others lawful (f.others.synced k.but.clean (synced_but_first b.store k.synced)));
      ordered = λ m. inr (f.others.synced k.but.clean (synced_but_first b.store k.synced));
      keeps = store_then i.cache.store b.store d.store later.store f.others.store;
      caused = finishing_fault i.cache b d e later.store.faults f.caused;
    }
