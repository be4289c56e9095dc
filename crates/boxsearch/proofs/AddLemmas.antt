-- An index with a place for a feature, and page 0 after legs are put.
use Rattle.std.proofs.Common.{ℕ, ◌≡◌, ◌+◌, max, ap, ◌∙◌, arith, List, [], ◌∷◌, ◌++◌, option_and_then}
use Rattle.std.proofs.lemmas.Grind.{fold-append}
use Rattle.legs.specs.Index.{feature_count}
use Rattle.legs.specs.Legs.{LegView}
use Rattle.pages.specs.Unsealed.{unsealed}
use Rattle.pagecache.specs.Cache.{Cache, sealed_payload}
use Rattle.tbtree.specs.Passes.{Passes}
use Rattle.boxsearch.specs.Index.{IndexView, IsMarked, with_place}

abbrev pub made : IndexView → ℕ → IndexView
made old feature = record old { places = with_place old.places feature; known = [] }

pub feature_count-push : (legs : List LegView) (leg : LegView) → feature_count (legs ++ leg ∷ []) ≡ max (feature_count legs) (leg.feature + 1)
feature_count-push legs leg = fold-append (λ count l. max count (l.feature + 1)) 0 legs (leg ∷ [])

-- page 0 stays marked
pub marked_after : (old new : Cache) → Passes old new → IsMarked old → IsMarked new
unfolding sealed_payload
marked_after old new p m = record {
  faithful = p.store.faithful ∙ m.faithful;
  there = (let a = m.there in let b = p.count in omega (arith, a, b));
  unchanged = p.unmarked m.there m.unchanged;
  payload = m.payload;
  sealed = ap (option_and_then (unsealed 0)) (p.written m.faithful m.there m.unchanged) ∙ m.sealed;
  unfinished = m.unfinished;
}
