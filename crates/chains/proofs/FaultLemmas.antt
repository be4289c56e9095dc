-- A page that is named is not the chain's, so that none is named of a whole chain.
use Rattle.std.proofs.Common.{ℕ, zero, suc, ◌≡◌, false, refl, sym, ap, ◌∙◌, subst, inl, inr, Option, Some}
use Rattle.std.specs.Prelude.{option_map}
use Rattle.std.specs.Int.{div_ceil}
use Rattle.timebase.specs.Period.{PeriodView}
use Rattle.legs.specs.Legs.{LegView}
use Rattle.legs.specs.Boxes.{BoxView}
use Rattle.legs.specs.Costs.{ShapeView}
use Rattle.pages.specs.declared.payload.Payload.{Payload}
use Rattle.pagecache.specs.Cache.{Cache, payload_of}
use Rattle.pagecache.specs.declared.fault.CacheFault.TheVariants as cache
use Rattle.tbnode.specs.Form.{node_of}
use Rattle.tbtree.specs.Faults.{IfNamed, RefusesRead}
use Rattle.tbtree.specs.Nodes.{Pages, Node, pages_of_cache, ALeaf, LeafView}
use Rattle.tbtree.specs.declared.fault.TreeFault.{TreeFault}
use Rattle.tbtree.specs.declared.fault.TreeFault.TheVariants.{Cache as OfCache, Malformed, Spent}
use Rattle.tbtree.specs.declared.tree.Place.{Place}
use Rattle.chains.specs.Chains.{IsChain, IsOffChain, IsOffPlaceChain, IsPlaceChain, last_link}
use Rattle.chains.specs.Links.{is_end, link_back}
use Rattle.chains.specs.Taking.{IsNodeFault}
use Rattle.chains.specs.declared.leaves.Link.{Link}
use Rattle.legs.proofs.GroupLemmas.{some_same}
use Rattle.chains.proofs.SpanLemmas.{leaf_same}

-- a chain that is whole is broken at no page
module _ (nodes : Pages LegView BoxView) (period : Option PeriodView) where
  off_none : (most legs first n : ℕ) (link : Link) (page : ℕ) → IsChain nodes period most legs first n link → IsOffChain nodes period most legs first n link page → ⊥
  off_none most legs first zero link page h off = off
  off_none most legs first (suc n) link page h (inl off) = off.1 h.0 h.1
  off_none most legs first (suc n) link page h (inr off) =
      let same : off.0 ≡ h.0 = leaf_same off.0 h.0 (sym off.1.is ∙ h.1.is) in
      off_none most legs first n (link_back link.page h.0) page (h.2 (subst (λ (l : LeafView LegView). is_end period l.legs ≡ false) same off.2))
      (subst (λ (l : LeafView LegView). IsOffChain nodes period most legs first n (link_back link.page l) page) same off.3)

  pub whole_off : (shape : ShapeView) (feature : ℕ) (place : Place) (page : ℕ) → IsPlaceChain nodes period shape feature place → IsOffPlaceChain nodes period shape feature place page → ⊥
  whole_off shape feature place page h (inl off) = off.1 h.0
  whole_off shape feature place page h (inr off) = off_none shape.leaf place.legs place.first (div_ceil place.legs shape.leaf) (last_link feature place) page h.1 off

-- what a page has is what its payload says
pub node_is : (c : Cache) (p : ℕ) (payload : Payload) (says : Option (Node LegView BoxView)) → payload_of c p ≡ Some payload → (pages_of_cache c).at p ≡ Some says → node_of payload ≡ says
node_is c p payload says at is = some_same _ _ (sym (ap (option_map node_of) at) ∙ is)

-- a payload that is refused is of a page that is named, if any
pub node_named : (P : ℕ → Type 0) (unfit : Type 0) (page : ℕ) (fault : TreeFault) → (unfit → P page) → IsNodeFault unfit page fault → IfNamed P fault
node_named P unfit page (Malformed n) f h = subst P (sym h.0) (f h.1)
node_named P unfit page (OfCache cache.Memory) f h = tt
node_named P unfit page (OfCache cache.NoPage) f h = tt
node_named P unfit page (OfCache cache.Store) f h = tt
node_named P unfit page (OfCache (cache.Damaged n)) f h = absurd h
node_named P unfit page (OfCache cache.StoreFull) f h = tt
node_named P unfit page Spent f h = tt

pub node_caused : (old new : Cache) (unfit : Type 0) (page : ℕ) (fault : TreeFault) → IsNodeFault unfit page fault → RefusesRead old new fault
node_caused old new unfit page (Malformed n) h = tt
node_caused old new unfit page (OfCache cache.Memory) h = tt
node_caused old new unfit page (OfCache cache.NoPage) h = absurd h
node_caused old new unfit page (OfCache cache.Store) h = absurd h
node_caused old new unfit page (OfCache (cache.Damaged n)) h = absurd h
node_caused old new unfit page (OfCache cache.StoreFull) h = absurd h
node_caused old new unfit page Spent h = absurd h
