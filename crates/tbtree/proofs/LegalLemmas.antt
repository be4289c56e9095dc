-- The legs of a tree's content are lawful, whatever its pages hold.
use Rattle.std.proofs.Common.{ℕ, zero, suc, ◌≡◌, Bool, true, List, [], ◌∷◌, refl, Option, Some, None, option_map}
use Rattle.std.specs.List.{flat_map, All}
use Rattle.std.proofs.lemmas.List.Elements.{All-nil, All-append, All-filter}
use Rattle.std.proofs.lemmas.List.Sorted.{All-permutation}
use Rattle.legs.specs.Boxes.{BoxView}
use Rattle.legs.specs.Hull.{leg_boxes}
use Rattle.legs.specs.Legs.{IsLeg, LegView}
use Rattle.pagecache.specs.Cache.{Cache, payload_of}
use Rattle.pages.specs.declared.payload.Payload.{Payload}
use Rattle.tbnode.specs.Form.{node_of}
use Rattle.tbtree.specs.Descent.{content_of, found_legs, hits, legs_in, legs_met, node_at, pages_met, sort_by_ordinal}
use Rattle.tbtree.specs.Nodes.{ALeaf, AnInner, Pages, pages_of_cache}
use Rattle.tbtree.specs.declared.tree.TbTree.{TbTree}
use Rattle.tbtree.proofs.SortLemmas.{sort_moves}
use Rattle.tbnode.proofs.LawLemmas.{LegsAreLawful}

lawful_in : LegsAreLawful → (payload : Option Payload) → All IsLeg (legs_in (option_map node_of payload))
lawful_in laws None = All-nil IsLeg
lawful_in laws (Some p) =
    (elim (node_of p) as (λ n. node_of p ≡ n → All IsLeg (legs_in (Some n))) [
      | None ↦ λ e. All-nil IsLeg
      | Some node ↦ elim node as (λ node. node_of p ≡ Some node → All IsLeg (legs_in (Some (Some node)))) [
        | ALeaf leaf ↦ λ e. laws p leaf e
        | AnInner page ↦ λ e. All-nil IsLeg
      ]
    ]) refl

all_flat : {X A : Type 0} (P : A → Type 0) (f : X → List A) (xs : List X) → ((x : X) → All P (f x)) → All P (flat_map f xs)
all_flat P f [] h = All-nil P
all_flat P f (x ∷ xs) h = All-append P (f x) (flat_map f xs) (h x) (all_flat P f xs h)

module _ (laws : LegsAreLawful) (cache : Cache) where
  abbrev nodes : Pages LegView BoxView
  nodes = pages_of_cache cache

  lawful_at : (p : ℕ) → All IsLeg (legs_in (node_at nodes p))
  lawful_at zero = All-nil IsLeg
  lawful_at (suc p) = lawful_in laws (payload_of cache (suc p))

  met_lawful : (meets : BoxView → Bool) (root levels : ℕ) → All IsLeg (legs_met leg_boxes meets nodes root levels)
  met_lawful meets root zero = All-nil IsLeg
  met_lawful meets root (suc n) =
      all_flat IsLeg (hits leg_boxes meets nodes) (pages_met meets nodes root n)
      (λ p. All-filter (λ leg. meets (leg_boxes.of leg)) IsLeg (legs_in (node_at nodes p)) (lawful_at p))

  pub content_lawful : (tree : TbTree) → All IsLeg (content_of nodes tree)
  unfolding found_legs
  content_lawful tree =
      let met = legs_met leg_boxes (λ _. true) nodes tree.root tree.levels in
      All-permutation IsLeg met (sort_by_ordinal met) (sort_moves met) (met_lawful (λ _. true) tree.root tree.levels)
