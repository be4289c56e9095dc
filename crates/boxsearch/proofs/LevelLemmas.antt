-- A loop over the pages of a level, of which each is read in its turn.
use Rattle.std.proofs.Common.{ℕ, suc, ◌≡◌, ◌<◌, ◌≤◌, ◌+◌, ◌-◌, ◌^◌, ◌++◌, List, length, take, get_or, Some, All, IsTrue, Ok, Err, refl, sym, ap, ◌∙◌, arith, subst}
use Rattle.std.specs.List.{flat_map}
use Rattle.std.proofs.lemmas.List.{take_all}
use Rattle.std.proofs.lemmas.Option.{slice_get-get_or}
use Rattle.legs.specs.Boxes.{BoxView}
use Rattle.legs.specs.Legs.{LegView}
use Rattle.pagecache.specs.Cache.{Cache}
use Rattle.chains.specs.Reads.{OnlyReads}
use Rattle.chains.proofs.ReadLemmas.{caused_after, reads_trans}
use Rattle.chains.proofs.StepLemmas.{one_more}
use Rattle.tbtree.specs.Faults.{IfNamed}
use Rattle.tbtree.specs.Nodes.{Pages, pages_of_cache}
use Rattle.tbtree.specs.declared.fault.TreeFault.{TreeFault}
use Rattle.tbtree.proofs.FaultLemmas.{named_then}
use Rattle.boxsearch.specs.Way.{IsOneNot, LevelCall, PageCall}
use Rattle.boxsearch.proofs.SameLemmas.{all_more, as_before, flat_more}

next_is : (i : ℕ) → i + 1 ≡ suc i
next_is i = omega arith

module _ {X : Type 0} (is : Pages LegView BoxView → ℕ → Type 0) (gives : Pages LegView BoxView → ℕ → List X) (pages : List ℕ) (old : Cache) where
  -- what so many pages say was found
  pub record IsSoFar (i : ℕ) (now : Cache) (items : List X) : Type 0 where
    pub within : i ≤ length pages
    pub reads : OnlyReads old now
    pub found : IsTrue old.store.is_faithful → items ≡ flat_map (gives (pages_of_cache old)) (take i pages)
    pub way : IsTrue old.store.is_faithful → All (is (pages_of_cache old)) (take i pages)
    pub asked : now.asked < 2 ^ 64 - 1 → now.asked ≡ old.asked + i
    pub most : now.asked ≤ old.asked + i

  module _ (i : ℕ) (now : Cache) (items : List X) (so_far : IsSoFar i now items) where
    module _ (l : i < length pages) (new : Cache) (more : List X) where
      abbrev page : ℕ
      page = get_or pages i 0

      -- with one page more
      pub page_read : (unit : Unit {0}) → PageCall is gives page now new items more (Ok unit) → IsSoFar (i + 1) new more
      page_read unit call = record {
        within = omega (arith, l);
        reads = reads_trans old now new so_far.reads call.reads.only;
        found = λ fa.
            flat_more (gives (pages_of_cache old)) pages i (i + 1) page items more (gives (pages_of_cache old) page) (slice_get-get_or pages i 0 l) (next_is i) refl
            (as_before old now so_far.reads (λ n. more ≡ items ++ gives n page) call.pushed fa) (so_far.found fa);
        way = λ fa.
            all_more (is (pages_of_cache old)) pages i (i + 1) page (slice_get-get_or pages i 0 l) (next_is i)
            (as_before old now so_far.reads (λ n. is n page) call.way fa) (so_far.way fa);
        asked = λ less.
            let one = one_more now.asked new.asked call.asked less in
            let was = so_far.asked one.0 in
            omega (arith, one.1, was);
        most = let one = call.most in let was = so_far.most in omega (arith, one, was);
      }

      -- where that page is not read
      pub page_refused : {T : Type 0} (read : T → List X) (fault : TreeFault) → PageCall is gives page now new items more (Err fault) → LevelCall is gives pages old new read (Err fault)
      page_refused read fault call = record {
        found = λ fa. tt;
        way = λ fa. tt;
        named = λ fa.
            named_then (λ n. (n ≡ page) × (is (pages_of_cache old) page → ⊥)) (IsOneNot (is (pages_of_cache old)) pages)
            (λ n h. (i, slice_get-get_or pages i 0 l ∙ ap Some (sym h.0), λ has. h.1 (subst (is (pages_of_cache old)) h.0 has))) fault
            (as_before old now so_far.reads (λ nodes. IfNamed (λ n. (n ≡ page) × (is nodes page → ⊥)) fault) call.named fa);
        reads = record { only = reads_trans old now new so_far.reads call.reads.only; caused = caused_after old now new fault so_far.reads call.reads.caused };
        asked = tt;
        most = let one = call.most in let was = so_far.most in omega (arith, one, was, l);
      }

    -- all pages
    pub level_read : {T : Type 0} (read : T → List X) (value : T) → length pages ≤ i → read value ≡ items → LevelCall is gives pages old now read (Ok value)
    level_read read value end same =
        let within = so_far.within in
        record {
          found = λ fa. same ∙ so_far.found fa ∙ ap (flat_map (gives (pages_of_cache old))) (take_all i pages end);
          way = λ fa. subst (All (is (pages_of_cache old))) (take_all i pages end) (so_far.way fa);
          named = λ fa. tt;
          reads = record { only = so_far.reads; caused = tt };
          asked = λ below. let rose = so_far.asked below in omega (arith, rose, within, end);
          most = let rose = so_far.most in omega (arith, rose, within);
        }
