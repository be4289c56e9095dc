-- An index whose pages hold a list of legs is sound, and a sound one's do.
use Rattle.std.proofs.Common.{◌≡◌, ℕ, suc, ◌<◌, ◌==◌, false, true, cond, if◌then◌else◌, List, [], ◌∷◌, length, fold, Some, None, slice_get, refl, sym, ap, ◌∙◌, arith, subst, IsTrue}
use Rattle.std.specs.List.{All}
use Rattle.std.proofs.lemmas.List.Elements.{All-nil, All-cons}
use Rattle.legs.specs.Index.{feature_count, legs_of}
use Rattle.legs.specs.Legs.{IsLeg, LegView}
use Rattle.legs.specs.Tracks.{TracksView, IsTrack}
use Rattle.legs.specs.declared.tracks.Track.{Track}
use Rattle.treecheck.specs.Check.{HoldLegs}
use Rattle.tbtree.specs.Descent.{content_of}
use Rattle.tbtree.specs.Insert.{Stands, IsPlace}
use Rattle.tbtree.specs.Nodes.{pages_of_cache}
use Rattle.tbtree.specs.Shape.{IsShape}
use Rattle.tbtree.specs.declared.tree.Place.{Place}
use Rattle.std.specs.Prelude.{Result, Ok, Err, OnOk}
use Rattle.tbtree.specs.declared.fault.TreeFault.{TreeFault}
use Rattle.treecheck.specs.Checking.{Agree, AreTracksOf}
use Rattle.boxsearch.specs.Beside.{with_cache}
use Rattle.boxsearch.specs.Index.{content, IndexView, IsSoundIndex}
use Rattle.tbnode.proofs.LawLemmas.{legs_are_lawful}
use Rattle.tbtree.proofs.LawLemmas as tree
use Rattle.tbtree.proofs.LegalLemmas.{content_lawful}
use Rattle.treecheck.proofs.CheckingLemmas.{at_default}
use Rattle.treecheck.proofs.OrderLemmas.{at_less}
use Rattle.treecheck.proofs.SurveyLemmas.{get_at}

-- a feature without legs ends nowhere
none_ends : (f : ℕ) (legs : List LegView) → legs_of f legs ≡ [] → fold (λ end leg. if leg.feature == f then Some leg.t1 else end) None legs ≡ None
none_ends f [] e = refl
none_ends f (x ∷ legs) e =
    (elim (x.feature == f) as (λ b. cond b (x ∷ legs_of f legs) (legs_of f legs) ≡ [] → fold (λ end leg. if leg.feature == f then Some leg.t1 else end) (if b then Some x.t1 else None) legs ≡ None) [
      | true ↦ λ e. let no : x ∷ legs_of f legs ≡ [] = e in absurd (cc)
      | false ↦ λ e. none_ends f legs e
    ]) e

all_from : {X : Type 0} (P : X → Type 0) (xs : List X) → ((i : ℕ) (x : X) → slice_get xs i ≡ Some x → P x) → All P xs
all_from P [] h = All-nil P
all_from P (x ∷ xs) h = All-cons P x xs (h 0 x refl) (all_from P xs (λ i. h (suc i)))

all_at : {X : Type 0} (P : X → Type 0) (xs : List X) (i : ℕ) (x : X) → All P xs → slice_get xs i ≡ Some x → P x
all_at P xs i x all e = subst P (at_default xs i x x e) (all i x (at_less xs i x e))

pub content_is : (i : IndexView) → IsTrue i.cache.store.is_faithful → content i ≡ content_of (pages_of_cache i.cache) i.tree
content_is i fa = ap (λ b. if b then content_of (pages_of_cache i.cache) i.tree else []) fa

module _ (i : IndexView) (tracks : TracksView) (rows : ℕ) where
  module _ (fa : IsTrue i.cache.store.is_faithful) (works : i.tree.spent ≡ false) (shape : IsShape i.tree.shape) (count : i.cache.count ≡ i.cache.store.count)
      (h : HoldLegs (pages_of_cache i.cache) i.tree rows i.legs i.places tracks.tracks) where
    same : content i ≡ h.legs
    same = content_is i fa ∙ tree.content_is (pages_of_cache i.cache) i.tree h.legs h.pages shape h.stands

    pub sound : IsSoundIndex i
    sound = record {
      faithful = fa;
      works = works;
      shape = shape;
      count = count;
      pages = h.pages;
      stands = subst (λ l. Stands (pages_of_cache i.cache) i.tree l h.pages) (sym same) h.stands;
      lawful = subst (All IsLeg) (sym (content_is i fa)) (content_lawful legs_are_lawful i.cache i.tree);
      counted = sym (ap length same ∙ h.counted);
      features = h.features ∙ ap feature_count (sym same);
      placed = λ f place e. subst (λ l. IsPlace i.tree l h.pages f place) (sym same) (h.placed f place e);
    }

    pub tracks_are : Agree tracks rows i.legs → AreTracksOf tracks rows (content i)
    tracks_are a = subst (AreTracksOf tracks rows) (sym same) (record {
      paired = a.paired;
      numbered = names;
      each = λ f d l. let t = at f l in subst (λ t. IsTrack t h.legs f) (sym (at_default tracks.tracks f t.0 d t.1)) (h.tracked f t.0 t.1);
      led = λ f l e. let t = at f l in let none : None ≡ Some t.0.end = sym e ∙ (h.tracked f t.0 t.1).end in absurd (cc);
      legs_are = a.legs_are ∙ sym h.counted;
      rows_are = a.rows_are;
      in_rows = all_from (λ leg. leg.row < rows) h.legs h.in_rows;
      few_rows = (let r = a.few_rows in let n = h.counted in omega (arith, r, n));
      few_names = a.few_names;
    })
      where
        names : feature_count h.legs ≡ length tracks.names
        names = sym h.features ∙ sym h.paired ∙ a.paired

        at : (f : ℕ) → f < length tracks.names → (t : Track) × (slice_get tracks.tracks f ≡ Some t)
        at f l = get_at tracks.tracks f (let p = a.paired in omega (arith, l, p))

  module _ (s : IsSoundIndex i) (a : AreTracksOf tracks rows (content i)) where
    pub agrees : Agree tracks rows i.legs
    agrees = record { paired = a.paired; legs_are = a.legs_are ∙ sym s.counted; rows_are = a.rows_are; few_rows = (let r = a.few_rows in let n = s.counted in omega (arith, r, n)); few_names = a.few_names }

    pub held : HoldLegs (pages_of_cache i.cache) i.tree rows i.legs i.places tracks.tracks
    held = record {
      legs = content i;
      counted = sym s.counted;
      pages = s.pages;
      stands = s.stands;
      features = s.features;
      placed = s.placed;
      paired = a.paired ∙ sym a.numbered ∙ sym s.features;
      tracked = λ f t e. subst (λ t. IsTrack t (content i) f) (at_default tracks.tracks f t t e) (a.each f t (let l = at_less tracks.tracks f t e in let p = a.paired in omega (arith, l, p)));
      led = λ f l e. a.led f (let n = s.features in let m = a.numbered in omega (arith, l, n, m)) (none_ends f (content i) e);
      in_rows = λ j leg e. all_at (λ leg. leg.row < rows) (content i) j leg a.in_rows e;
    }

-- what passed says more, over a faithful store
pub passed : (r : Result (Unit {0}) TreeFault) (F K S : Type 0) → (F → OnOk r K) → (F → K → S) → OnOk r (F → S)
passed r F K S k s = (elim r as (λ r. (F → OnOk r K) → OnOk r (F → S)) [ Ok x ↦ λ k fa. s fa (k fa) | Err e ↦ λ k. tt ]) k

-- an index whose places are given away, and brought back once its cache was lent, is the index over another cache
pub ended : (index lent left : IndexView) (items : List Place) → lent ≡ record index { places = []; known = [] } → left ≡ with_cache lent left.cache left.known → items ≡ index.places
    → record left { places = items; known = [] } ≡ with_cache index left.cache []
ended index lent left items rest same taken = λ i. record {
  cache = left.cache;
  tree = (ap (λ (v : IndexView). v.tree) same ∙ ap (λ (v : IndexView). v.tree) rest) i;
  places = taken i;
  legs = (ap (λ (v : IndexView). v.legs) same ∙ ap (λ (v : IndexView). v.legs) rest) i;
  known = [];
}
