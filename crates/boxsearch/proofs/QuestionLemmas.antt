-- A search of an index over pages.
use Rattle.std.proofs.Common.{ℕ, ◌≡◌, ap, true, false, List, IsTrue, Result, Err}
use Rattle.std.specs.Prelude.{IfOk, IfErr, OnOk}
use Rattle.legs.specs.Asking.{Refusals}
use Rattle.legs.specs.Index.{MayRefuse}
use Rattle.legs.specs.Legs.{LegView}
use Rattle.legs.specs.declared.index.IndexFault.{IndexFault}
use Rattle.legs.specs.declared.index.IndexFault.TheVariants as index
use Rattle.pagecache.specs.Cache.{Cache}
use Rattle.tbtree.specs.Faults.{GivesRead, MayRefuseRead, RefusesRead}
use Rattle.tbtree.specs.Insert.{Stands}
use Rattle.tbtree.specs.Nodes.{pages_of_cache}
use Rattle.tbtree.specs.declared.fault.TreeFault.{TreeFault}
use Rattle.tbtree.specs.declared.fault.TreeFault.TheVariants.{Spent}
use Rattle.boxsearch.specs.Answers.{answered, of_tree}
use Rattle.boxsearch.specs.Index.{IndexView, words, content, IsSoundIndex}
use Rattle.boxsearch.proofs.AnswerLemmas.{each_fault, each_value, faults_of, values_of, the_fault, under, under_ok, Said, read_allowed, search_said}
use Rattle.boxsearch.specs.Beside.{with_cache}

module _ {A : Type 0} (i : IndexView) (c : Cache) (r : Result A TreeFault) where
  abbrev say : TreeFault → IndexFault
  say fault = of_tree fault

  pub search_found : (P : List LegView → A → Type 0)
      → (i.tree.spent ≡ false → IsTrue i.cache.store.is_faithful → (legs : List LegView) (pages : ℕ → List ℕ) → Stands (pages_of_cache i.cache) i.tree legs pages → GivesRead r (P legs))
      → IfOk (answered (λ fault. of_tree fault) r) (λ value. IsSoundIndex i → P (content i) value)
  search_found P gives =
      each_value say (λ value. IsSoundIndex i → P (content i) value) r
      (under_ok (P (content i)) r (λ s. values_of (P (content i)) MayRefuseRead r (gives s.works s.faithful (content i) s.pages s.stands)))

  pub search_asked : (Q : List LegView → Type 0)
      → (IsTrue i.cache.store.is_faithful → (legs : List LegView) (pages : ℕ → List ℕ) → Stands (pages_of_cache i.cache) i.tree legs pages → OnOk r (Q legs))
      → OnOk (answered (λ fault. of_tree fault) r) (IsSoundIndex i → Q (content i))
  search_asked Q asked =
      each_value say (λ value. IsSoundIndex i → Q (content i)) r
      (under_ok (λ _. Q (content i)) r (λ s. asked s.faithful (content i) s.pages s.stands))

  pub search_refusals : (P : List LegView → A → Type 0)
      → (i.tree.spent ≡ false → IsTrue i.cache.store.is_faithful → (legs : List LegView) (pages : ℕ → List ℕ) → Stands (pages_of_cache i.cache) i.tree legs pages → GivesRead r (P legs))
      → (i.tree.spent ≡ true → (r ≡ Err Spent) × (c ≡ i.cache))
      → (i.tree.spent ≡ false → IfErr r (RefusesRead i.cache c)) → Refusals words i (with_cache i c i.known) (answered (λ fault. of_tree fault) r)
  search_refusals P gives spent caused =
      let said = search_said i.tree.spent i.cache c r spent caused in
      record {
        was_spent = λ e. (ap (answered say) (spent e).0, ap (λ v. with_cache i v i.known) (spent e).1);
        sound = each_fault say (λ fault. IsSoundIndex i → MayRefuseRead fault) (λ fault. IsSoundIndex i → MayRefuse fault) (λ x h s. read_allowed x (h s)) r
            (under MayRefuseRead r (λ s. faults_of (P (content i)) MayRefuseRead r (gives s.works s.faithful (content i) s.pages s.stands)));
        store = λ e. the_fault (answered say r) (Said i.cache c) index.Store e said;
        full = λ e. the_fault (answered say r) (Said i.cache c) index.StoreFull e said;
      }
