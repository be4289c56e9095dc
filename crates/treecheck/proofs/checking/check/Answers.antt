use Rattle.std.proofs.Common.{[], refl, ◌≡◌, false, sym, ap, ◌∙◌, subst, arith, List, IsTrue}
use Rattle.std.specs.Prelude.{IfErr, OnOk}
use Rattle.legs.specs.Asking.{Leaves}
use Rattle.legs.specs.Index.{MayRefuse}
use Rattle.pagecache.specs.Cache.{payload_of}
use Rattle.chains.specs.Reads.{OnlyReads}
use Rattle.treecheck.specs.Check.{HoldLegs}
use Rattle.tbtree.specs.Nodes.{pages_of_cache}
use Rattle.tbtree.specs.declared.tree.Place.{Place}
use Rattle.tbtree.specs.declared.tree.TbTree.{TbTree}
use Rattle.boxsearch.specs.Answers.{of_tree}
use Rattle.boxsearch.specs.Beside.{with_cache}
use Rattle.tbtree.specs.Faults.{MayRefuseRead}
use Rattle.boxsearch.specs.Index.{IndexView, words, content, IsSoundIndex}
use Rattle.header.specs.Front.{SaysState}
use Rattle.boxsearch.proofs.AnswerLemmas.{each_fault, each_value, read_allowed}
use Rattle.boxsearch.proofs.IndexLemmas.{reads_leave}
use Rattle.treecheck.specs.Checking.{AreTracksOf, IsWholeCache}
use Rattle.treecheck.proofs.CheckTree.{hold}
use Rattle.treecheck.proofs.HeldTree.{checked}
use Rattle.treecheck.proofs.SoundLemmas.{ended, sound, tracks_are, agrees, held, passed}
use Rattle.treecheck.proofs.WalkedLemmas.{same_pages}
use Rattle.treecheck.proofs.checking.check.Given as given
use Rattle.treecheck.proofs.checking.check.Goals as goal

-- the index is as it was, over the cache that was lent
index_is : (g : given.Over) (c : goal.After-answer g) → c.put_places.new.self ≡ with_cache c.args.index.now c.check_index-given.new.index.cache []
index_is g c =
    c.put_places.ensures
    ∙ ended c.args.index.now c.take_places-places.new.self c.check_index-given.new.index c.take_places-places.result.items c.take_places-places.ensures.rest c.check_index-given.ensures.same c.take_places-places.ensures.taken

-- whose pages were only read
index_reads : (g : given.Over) (c : goal.After-answer g) → OnlyReads c.args.index.now.cache c.check_index-given.new.index.cache
index_reads g c = subst (λ (v : IndexView). OnlyReads v.cache c.check_index-given.new.index.cache) c.take_places-places.ensures.rest c.check_index-given.ensures.tests.reads.only

-- where the pages pass, what follows from them is so
passes : (g : given.Over) (c : goal.After-answer g) (P : Type 0)
    → (IsTrue c.args.index.now.cache.store.is_faithful → IsWholeCache c.args.index.now.cache c.args.index.now.tree c.args.rows c.args.index.now.legs c.args.index.now.places c.args.tracks.now c.args.begun → P)
    → OnOk c.answer.result (IsTrue c.args.index.now.cache.store.is_faithful → P)
passes g c P follows =
    let given = c.check_index-given in
    let F = IsTrue c.args.index.now.cache.store.is_faithful in
    let whole : IndexView → List Place → Type 0 = λ v places. IsWholeCache v.cache v.tree c.args.rows v.legs places c.args.tracks.now c.args.begun in
    subst (λ r. OnOk r (F → P)) (sym c.answer.ensures)
    (each_value (λ fault. of_tree fault) (λ _. F → P) given.result
    (passed given.result F (whole c.args.index.now c.as_slice.result.now) P
    (subst (λ (v : IndexView). IsTrue v.cache.store.is_faithful → OnOk given.result (whole v c.as_slice.result.now)) c.take_places-places.ensures.rest given.ensures.tests.found)
    (λ fa k. follows fa (subst (whole c.args.index.now) (c.as_slice.ensures.value ∙ c.take_places-places.ensures.taken) k))))

-- and the index is sound, with the tracks that were given
sound_after : (g : given.Over) (c : goal.After-answer g) (P : IndexView → Type 0) → ((v : IndexView) → IsSoundIndex v → AreTracksOf c.args.tracks.now c.args.rows (content v) → P v)
    → OnOk c.answer.result (IsTrue c.args.index.now.cache.store.is_faithful → P c.put_places.new.self)
sound_after g c P holds = passes g c (P c.put_places.new.self) (λ fa k.
    let index : IndexView = c.args.index.now in
    let left = c.check_index-given.new.index.cache in
    let new : IndexView = with_cache index left [] in
    let tracks = c.args.tracks.now in
    let rows = c.args.rows in
    let works : index.tree.spent ≡ false = sym (ap (λ (v : TbTree). v.spent) c.tree.ensures) ∙ c.if-tree.false in
    let reads = index_reads g c in
    let h = subst (λ nodes. HoldLegs nodes index.tree rows index.legs index.places tracks.tracks) (sym (same_pages index.cache left reads fa))
    (hold (pages_of_cache index.cache) index.tree rows index.legs index.places tracks.tracks k.shape k.checked) in
    let many : left.count ≡ left.store.count = reads.count ∙ k.count ∙ sym reads.length in
    subst P (sym (index_is g c))
    (holds new (sound new tracks rows (reads.store.faithful ∙ fa) works k.shape many h) (tracks_are new tracks rows (reads.store.faithful ∙ fa) works k.shape many h k.agree)))

pub returns-clause-same : goal.returns-clause-same
returns-clause-same g c = subst (λ (v : IndexView). v ≡ with_cache c.args.index.now v.cache v.known) (sym (index_is g c)) refl

pub returns-clause-sound : goal.returns-clause-sound
returns-clause-sound g c = sound_after g c IsSoundIndex (λ v s a. s)

pub returns-clause-tracks : goal.returns-clause-tracks
returns-clause-tracks g c = sound_after g c (λ v. AreTracksOf c.args.tracks.now c.args.rows (content v)) (λ v s a. a)

pub returns-clause-says : goal.returns-clause-says
returns-clause-says g c = passes g c (SaysState c.args.begun (payload_of c.put_places.new.self.cache 0)) (λ fa k.
    subst (λ (v : IndexView). SaysState c.args.begun (payload_of v.cache 0)) (sym (index_is g c)) (subst (SaysState c.args.begun) (sym ((index_reads g c).payloads fa 0)) k.says))

pub returns-clause-only : goal.returns-clause-only
returns-clause-only g c = λ s a says.
    let index : IndexView = c.args.index.now in
    let given = c.check_index-given in
    let tracks = c.args.tracks.now in
    let rows = c.args.rows in
    let places : List Place = c.as_slice.result.now in
    let whole : IndexView → List Place → Type 0 = λ v places. IsWholeCache v.cache v.tree rows v.legs places tracks c.args.begun in
    let k = checked (pages_of_cache index.cache) index.tree rows index.legs index.places tracks.tracks (let l = s.shape.least_leaf in omega (arith, l)) (held index tracks rows s a) in
    let allowed = subst (λ (v : IndexView). IsTrue v.cache.store.is_faithful → whole v places → IfErr given.result MayRefuseRead) c.take_places-places.ensures.rest given.ensures.tests.only in
    subst (λ r. IfErr r MayRefuse) (sym c.answer.ensures)
    (each_fault (λ fault. of_tree fault) MayRefuseRead MayRefuse (λ x h. read_allowed x h) given.result
    (allowed s.faithful (subst (whole index) (sym (c.as_slice.ensures.value ∙ c.take_places-places.ensures.taken))
    (record { shape = s.shape; count = s.count; says = says; checked = k; agree = agrees index tracks rows s a }))))

pub returns-clause-leaves : goal.returns-clause-leaves
returns-clause-leaves g c =
    subst (λ (v : IndexView). Leaves words c.args.index.now v) (sym (index_is g c)) (reads_leave c.args.index.now c.check_index-given.new.index.cache [] (index_reads g c))
