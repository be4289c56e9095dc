-- A tree of no legs.
use Rattle.std.proofs.Common.{ℕ, ◌<◌, ◌≡◌, ◌≢◌, [], refl, sym, arith, None}
use Rattle.tbtree.specs.Nodes.{Pages}
use Rattle.tbtree.specs.Insert.{Stands, IsPlace}
use Rattle.legs.specs.Legs.{LegView}
use Rattle.legs.specs.Boxes.{BoxView}
use Rattle.tbtree.specs.declared.tree.TbTree.{TbTree}
use Rattle.legs.proofs.GroupLemmas.{some_none}

pub empty_stands : (nodes : Pages LegView BoxView) (tree : TbTree) → tree.root ≡ 0 → tree.levels ≡ 0 → tree.leaves ≡ 0 → 0 < nodes.count → ((p : ℕ) → p < nodes.count → nodes.at p ≢ None) → Stands nodes tree [] (λ _. [])
empty_stands nodes tree r l v h held = record {
  in_turn = tt;
  tree_stands = record {
    held = held;
    numbers = record {
      page_0 = h;
      one_each = λ k b. absurd (omega (arith, b, l));
      no_more = λ k b. refl;
      below_top = λ k b. absurd (omega (arith, b, l));
      top = λ k e. absurd (omega (arith, e, l));
      empty = λ e. (refl, r);
      within = λ k j p a. absurd (some_none p (sym a));
      apart = λ k j k' j' p a b. absurd (some_none p (sym a));
    };
    leaves = λ i p r a b. absurd (some_none p (sym a));
    inners = λ k j p a. absurd (some_none p (sym a));
  };
  leaves_are = v;
}

pub empty_place : (tree : TbTree) (f : ℕ) → IsPlace tree [] (λ _. []) f (record { first = 0; last = 0; last_index = 0; legs = 0 })
empty_place tree f = record { first = refl; last = refl; legs_are = refl; last_index = λ h. absurd (omega (arith, h)); none = λ h. (refl, refl, refl) }
