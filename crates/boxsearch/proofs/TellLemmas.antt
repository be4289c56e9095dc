-- What an index over pages tells, and why it does not.
use Rattle.std.proofs.Common.{ℕ, ◌≡◌, ◌∙◌, refl, sym, subst, true, false, List, [], IsTrue, Option, Some, None, slice_get, Result, Ok, Err}
use Rattle.std.proofs.lemmas.Bool.{true≢false}
use Rattle.std.specs.Prelude.{MatchResult, Bool}
use Rattle.legs.specs.Asking as asking
use Rattle.legs.specs.Asking.{TellsSieved}
use Rattle.legs.specs.declared.sieve.Sieve.{Sieve}
use Rattle.legs.specs.Legs.{LegView}
use Rattle.legs.specs.Boxes.{BoxView}
use Rattle.legs.specs.Questions.{Question, InBox, OfFeature}
use Rattle.timebase.specs.Period.{PeriodView}
use Rattle.pagecache.specs.Cache.{Cache}
use Rattle.pagecache.specs.declared.fault.CacheFault.TheVariants as cache
use Rattle.chains.specs.Chains.{IsOffPlaceChain, chain_legs}
use Rattle.chains.specs.Trajectory.{RetrievalCall}
use Rattle.chains.specs.declared.spans.LeafSpan.{LeafSpan}
use Rattle.tbtree.specs.Faults.{IfNamed, RefusesRead}
use Rattle.tbtree.specs.Nodes.{pages_of_cache}
use Rattle.tbtree.specs.declared.fault.TreeFault.{TreeFault}
use Rattle.tbtree.specs.declared.fault.TreeFault.TheVariants as tree
use Rattle.tbtree.specs.declared.tree.Place.{Place}
use Rattle.boxsearch.specs.Answers.{answered, of_tree}
use Rattle.boxsearch.specs.Index.{IndexView, words, tells}
use Rattle.boxsearch.specs.Telling.{Denies, TellsTrack, DeniesTrack}
use Rattle.boxsearch.specs.Way.{IsOffWay, Searches}
use Rattle.legs.proofs.SieveLaws.{sieved_same, sieved_self}

-- a page that is named is one that denies the question
named_denies : (i : IndexView) (c : Cache) (question : Question) (P : ℕ → Type 0) → ((n : ℕ) → P n → Denies (pages_of_cache i.cache) i.tree i.places question n) → (fault : TreeFault)
    → (IsTrue i.cache.store.is_faithful → IfNamed P fault) → RefusesRead i.cache c fault → asking.Denies words i question (of_tree fault)
named_denies i c question P denies (tree.Cache cache.NoPage) named caused = absurd caused
named_denies i c question P denies (tree.Cache cache.Store) named caused = tt
named_denies i c question P denies (tree.Cache (cache.Damaged n)) named caused = λ f. denies n (named f)
named_denies i c question P denies (tree.Cache cache.StoreFull) named caused = caused
named_denies i c question P denies (tree.Cache cache.Memory) named caused = tt
named_denies i c question P denies (tree.Malformed n) named caused = λ f. denies n (named f)
named_denies i c question P denies tree.Spent named caused = absurd caused

-- of a search
module _ {A : Type 0} (i : IndexView) (c : Cache) (query : BoxView) (items : A → List LegView) where
  abbrev Told : Result A TreeFault → Type 0
  Told r = MatchResult (answered (λ fault. of_tree fault) r) (λ found. tells i (InBox query) (items found)) (λ fault. asking.Denies words i (InBox query) fault)

  told : (r : Result A TreeFault) → Searches query i.tree i.cache c items r → i.tree.spent ≡ false → Told r
  told (Ok found) k works = λ f. record { way = k.way f; met = k.met f }
  told (Err fault) k works = named_denies i c (InBox query) (IsOffWay query (pages_of_cache i.cache) i.tree.root i.tree.levels) (λ n h. h) fault k.named (k.caused works)

  told_by : (spent : Bool) → i.tree.spent ≡ spent → (r : Result A TreeFault) → Searches query i.tree i.cache c items r → (i.tree.spent ≡ true → (r ≡ Err tree.Spent) × (c ≡ i.cache)) → Told r
  told_by true e r k refused = subst Told (sym (refused e).0) e
  told_by false e r k refused = told r k e

  pub search_told : (r : Result A TreeFault) → Searches query i.tree i.cache c items r → (i.tree.spent ≡ true → (r ≡ Err tree.Spent) × (c ≡ i.cache)) → Told r
  search_told r k refused = told_by i.tree.spent refl r k refused

-- of a retrieval
module _ {A : Type 0} (i : IndexView) (c : Cache) (feature : ℕ) (sieve : Sieve) (place : Place) (at : slice_get i.places feature ≡ Some place) (spans : List LeafSpan) (items : A → List LegView) where
  track_denies : (period : Option PeriodView) (fault : TreeFault) → RetrievalCall period sieve i.tree.shape feature place i.cache c spans items (Err fault) → asking.Denies words i (OfFeature feature period) (of_tree fault)
  track_denies period fault call =
      named_denies i c (OfFeature feature period) (IsOffPlaceChain (pages_of_cache i.cache) period i.tree.shape feature place)
      (λ n off. subst (λ o. DeniesTrack (pages_of_cache i.cache) i.tree.shape period feature o n) (sym at) off) fault call.named call.reads.caused

  pub track_told : (r : Result A TreeFault) → RetrievalCall None sieve i.tree.shape feature place i.cache c spans items r
      → MatchResult (answered (λ fault. of_tree fault) r) (λ found. tells i (OfFeature feature None) (items found)) (λ fault. asking.Denies words i (OfFeature feature None) fault)
  track_told (Ok found) call = λ f. subst (λ o. TellsTrack (pages_of_cache i.cache) i.tree.shape None feature o (items found)) (sym at) (call.chain f, call.legs f)
  track_told (Err fault) call = track_denies None fault call

  -- what a sieve keeps
  pub track_sieved : (period : PeriodView) (r : Result A TreeFault) → RetrievalCall (Some period) sieve i.tree.shape feature place i.cache c spans items r
      → MatchResult (answered (λ fault. of_tree fault) r) (λ found. TellsSieved words i feature period sieve (items found)) (λ fault. asking.Denies words i (OfFeature feature (Some period)) fault)
  track_sieved period (Ok found) call = by i.cache.store.is_faithful refl
    where
      by : (b : Bool) → i.cache.store.is_faithful ≡ b → TellsSieved words i feature period sieve (items found)
      by true e =
          let legs = chain_legs (pages_of_cache i.cache) (Some period) i.tree.shape place in
          (legs, λ f. subst (λ o. TellsTrack (pages_of_cache i.cache) i.tree.shape (Some period) feature o legs) (sym at) (call.chain f, refl), call.legs e)
      by false e = (items found, λ f. absurd (true≢false (sym f ∙ e)), sieved_self sieve period (items found))
  track_sieved period (Err fault) call = track_denies (Some period) fault call

-- of a feature that is not there
pub none_told : (i : IndexView) (feature : ℕ) (period : Option PeriodView) (legs : List LegView) → slice_get i.places feature ≡ None → legs ≡ [] → tells i (OfFeature feature period) legs
none_told i feature period legs at e = λ f. subst (λ o. TellsTrack (pages_of_cache i.cache) i.tree.shape period feature o legs) (sym at) e

pub none_sieved : (i : IndexView) (feature : ℕ) (period : PeriodView) (s : Sieve) (some : List LegView) → slice_get i.places feature ≡ None → some ≡ [] → TellsSieved words i feature period s some
none_sieved i feature period s some at e = ([], none_told i feature (Some period) [] at refl, sieved_same s period [] some e)
