use Rattle.std.proofs.Common.{◌≡◌, ◌<◌, ◌∙◌, [], ap, sym, subst, IsTrue}
use Rattle.pagecache.specs.Cache.{Cache}
use Rattle.boxsearch.specs.Beside.{with_cache}
use Rattle.boxsearch.specs.Index.{content, IndexView, IsSoundIndex}
use Rattle.boxsearch.proofs.StartLemmas.{beside_content, beside_sound, IsBeside}
use Rattle.register.specs.Saved.{KeepsFront}
use Rattle.catalogue.proofs.LentLemmas.{lent}
use Rattle.catalogue.proofs.ResultLemmas.{on_ok}
use Rattle.catalogue.proofs.saving.save.Given as given
use Rattle.catalogue.proofs.saving.save.Goals as goal

-- the cache that was lent is that of the index
lent_is : (g : given.Over) (c : goal.After-put_places g) → c.cache_mut.result.now ≡ c.args.index.now.cache
lent_is g c = c.cache_mut.ensures.value ∙ ap (λ (i : IndexView). i.cache) c.take_places-places.ensures.rest

-- and the index is as it was, over what is left of it
index_is : (g : given.Over) (c : goal.After-put_places g) → c.put_places.new.self ≡ with_cache c.args.index.now c.keep-result.new.cache []
index_is g c =
    let k = c.take_places-places.ensures in
    c.put_places.ensures ∙ (λ x. record { cache = c.keep-result.new.cache; tree = (k.rest x).tree; places = k.taken x; legs = (k.rest x).legs; known = [] })

-- so what is so of both is so of the index
of_index : (g : given.Over) (c : goal.After-put_places g) (P : Cache → Cache → Type 0) → P c.cache_mut.result.now c.keep-result.new.cache → P c.args.index.now.cache c.put_places.new.self.cache
of_index g c P = lent P c.args.index.now c.put_places.new.self c.cache_mut.result.now c.keep-result.new.cache (lent_is g c) (index_is g c)

pub returns-clause-front : goal.returns-clause-front
returns-clause-front g c = on_ok c.keep-result.result (of_index g c (λ old new. IsTrue old.store.is_faithful → 0 < old.count → KeepsFront old new)) c.keep-result.ensures.front

-- the pages of the tree say what they said
beside : (g : given.Over) (c : goal.After-put_places g) → (c.cache_mut.result.now.count ≡ c.cache_mut.result.now.store.count → c.keep-result.new.cache.count ≡ c.keep-result.new.cache.store.count) → IsBeside c.args.index.now.cache c.keep-result.new.cache
beside g c length = subst (λ (x : Cache). IsBeside x c.keep-result.new.cache) (lent_is g c) (record { faithful = c.keep-result.ensures.later.store.faithful; length = length; tree = c.keep-result.ensures.tree })

pub returns-clause-content : goal.returns-clause-content
returns-clause-content g c = on_ok c.keep-result.result (λ length.
    ap (λ x. content x) (index_is g c) ∙ beside_content c.args.index.now c.keep-result.new.cache [] (beside g c length)) c.keep-result.ensures.length

pub returns-clause-sound : goal.returns-clause-sound
returns-clause-sound g c = on_ok c.keep-result.result (λ length sound.
    subst IsSoundIndex (sym (index_is g c)) (beside_sound c.args.index.now c.keep-result.new.cache [] (beside g c length) sound)) c.keep-result.ensures.length
