-- An index without legs.
use Rattle.std.proofs.Common.{◌≡◌, refl, ap, sym, subst, true, false, cond, [], length, All, IsTrue}
use Rattle.std.proofs.lemmas.List.Elements.{All-nil}
use Rattle.legs.specs.Costs.{ShapeView}
use Rattle.legs.specs.Index.{feature_count}
use Rattle.legs.specs.Legs.{IsLeg}
use Rattle.pagecache.specs.Cache.{Cache}
use Rattle.tbtree.specs.Descent.{content_of, found_legs}
use Rattle.tbtree.specs.Insert.{Stands}
use Rattle.tbtree.specs.Nodes.{pages_of_cache}
use Rattle.tbtree.specs.Shape.{IsShape}
use Rattle.tbtree.specs.Stands.{empty_tree}
use Rattle.boxsearch.specs.Index.{content, new_index, IsSoundIndex}
use Rattle.boxsearch.proofs.PlaceLemmas.{some_none}

no_content : (cache : Cache) (shape : ShapeView) → content (new_index cache shape) ≡ []
unfolding found_legs
no_content cache shape = elim cache.store.is_faithful as (λ b. cond b (content_of (pages_of_cache cache) (empty_tree shape)) [] ≡ []) [ true ↦ refl | false ↦ refl ]

pub new_sound : (cache : Cache) (shape : ShapeView) → IsTrue cache.store.is_faithful → IsShape shape → cache.count ≡ cache.store.count → Stands (pages_of_cache cache) (empty_tree shape) [] (λ _. []) → IsSoundIndex (new_index cache shape)
new_sound cache shape f s count stands =
    let e = no_content cache shape in
    record {
      faithful = f;
      works = refl;
      shape = s;
      count = count;
      pages = λ _. [];
      stands = subst (λ l. Stands (pages_of_cache cache) (empty_tree shape) l (λ _. [])) (sym e) stands;
      lawful = subst (λ l. All IsLeg l) (sym e) (All-nil IsLeg);
      counted = sym (ap length e);
      features = sym (ap feature_count e);
      placed = λ f place h. absurd (some_none place (sym h));
    }
