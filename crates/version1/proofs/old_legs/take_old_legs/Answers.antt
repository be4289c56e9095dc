use Rattle.std.proofs.Common.{rules, ◌≡◌, ◌∙◌, ℕ, List, map, IsTrue, inl, inr, ⊎_elim, sym, subst}
use Rattle.std.specs.List.{range_with_len}
use Rattle.std.specs.List.Sorted.{IsPermutation}
use Rattle.legs.specs.Blocks.{joined}
use Rattle.pagecache.specs.Cache.{fresh}
use Rattle.version1.specs.OldForm.{old_node_of}
use Rattle.treecheck.specs.Check.{legs_on, HoldChains}
use Rattle.tbtree.specs.Descent.{sort_by_ordinal}
use Rattle.legs.specs.Index.{MayRefuseLeg}
use Rattle.legs.specs.Boxes.{BoxView}
use Rattle.legs.specs.Legs.{LegView}
use Rattle.legs.specs.declared.tracks.Track.{Track}
use Rattle.tbtree.specs.Nodes.{Pages}
use Rattle.tbtree.specs.declared.tree.Place.{Place}
use Rattle.legs.specs.declared.index.IndexFault.TheVariants as index
use Rattle.version1.specs.Migrating.{IsReady}
use Rattle.version1.specs.OldLegs.{pages_of_old, HaveEachOf, HaveLegsOf, IsNumbered}
use Rattle.treecheck.specs.Walking.{pages_by}
use Rattle.treecheck.specs.declared.walking.Met.{Met}
use Rattle.version1.proofs.OldLemmas.{same_old, stays_read}
use Rattle.version1.proofs.OpenedLemmas.{allowed_leg}
use Rattle.version1.proofs.SurveyedLemmas.{have_each}
use Rattle.version1.proofs.TakingLemmas.{held_list, later_refl, legs_are, on_err, on_ok, risen_after, same_err, stays_trans, store_failed}
use Rattle.tbtree.proofs.OwnedLists.{numbered}
use Rattle.tbtree.proofs.SortLemmas.{sort_moves}
use Rattle.treecheck.proofs.ChainLemmas.{chained}
use Rattle.treecheck.proofs.WalkedLemmas.{same_by}
use Rattle.version1.proofs.old_legs.take_old_legs.Given as given
use Rattle.version1.proofs.old_legs.take_old_legs.Goals as goal

-- what the chains hold, in order, and what the leaves, as they are given on, have of it
record Listed (chains nodes : Pages LegView BoxView) (most rows total : ℕ) (places : List Place) (tracks : List Track) (leaves : List Met) (legs : ℕ) : Type 0 where
  list : List LegView
  held : HoldChains chains most rows total places tracks list
  have : HaveLegsOf nodes leaves list
  each : HaveEachOf nodes leaves list
  numbered : IsNumbered legs list

-- the store that the leaves were read from is as faithful as it was
still : (g : given.Over) (c : goal.After-drop-survey-3 g) → IsTrue (g.S.PageStore.seen c.args.old.now).is_faithful → IsTrue (g.S.PageStore.seen c.survey_leaves.new.store).is_faithful
still g c fa = c.survey_leaves.ensures.reads.only.store.faithful ∙ fa

-- a survey says what the chains hold
listed : (g : given.Over) (c : goal.After-drop-survey-3 g) → IsTrue (g.S.PageStore.seen c.args.old.now).is_faithful
    → Listed (pages_of_old (g.S.PageStore.seen c.args.old.now)) (pages_by old_node_of (fresh (g.S.PageStore.seen c.survey_leaves.new.store) 1)) c.args.most c.args.rows c.args.tracks.now.legs c.args.places.now c.args.tracks.now.tracks c.as_slice.result.now c.leg_count.result
listed g c fa =
    let first = g.S.PageStore.seen c.args.old.now in
    let total = c.args.tracks.now.legs in
    let places = c.args.places.now in
    let tracks = c.args.tracks.now.tracks in
    let nodes = pages_by old_node_of (fresh first 1) in
    let leaves = c.in-Ok.survey.leaves.items in
    let s = c.in-Ok.ensures.found fa in
    let list = sort_by_ordinal (legs_on nodes (joined s.chains)) in
    let n : IsPermutation (legs_on nodes (joined s.chains)) list × (map (λ leg. leg.ordinal) list ≡ range_with_len 0 total) = (sort_moves (legs_on nodes (joined s.chains)), numbered (legs_on nodes (joined s.chains)) total s.once) in
    let held : HoldChains nodes c.args.most c.args.rows total places tracks list = held_list nodes c.args.most c.args.rows total places tracks leaves s n in
    let have : HaveLegsOf nodes leaves list = legs_are nodes c.args.most c.args.rows total places tracks leaves s n in
    let each : HaveEachOf nodes leaves list = have_each nodes c.args.most c.args.rows total places tracks leaves c.requires s list n.0 in
    let same = sym (same_by old_node_of (fresh first 1) (fresh (g.S.PageStore.seen c.survey_leaves.new.store) 1) c.survey_leaves.ensures.reads.only fa) in
    let back = sym c.as_slice.ensures.value in
    record {
      list = list;
      held = subst (λ nodes. HoldChains nodes c.args.most c.args.rows total places tracks list) (same_old first (g.met.S.PageStore.lawful c.args.old.now) fa) held;
      have = subst (λ nodes. HaveLegsOf nodes c.as_slice.result.now list) same (subst (λ ms. HaveLegsOf nodes ms list) back have);
      each = subst (λ nodes. HaveEachOf nodes c.as_slice.result.now list) same (subst (λ ms. HaveEachOf nodes ms list) back each);
      numbered = subst (λ n. IsNumbered n list) (sym c.leg_count.ensures) (record { in_turn = chained nodes c.args.most c.args.rows total places tracks c.requires list held; numbers = n.1 });
    }

pub returns : goal.returns
returns g c =
    let first = g.S.PageStore.seen c.args.old.now in
    let mid = g.S.PageStore.seen c.survey_leaves.new.store in
    let ready : IsReady g.I.Listed first c.args.index.now → IsReady g.I.Listed mid c.args.index.now = λ r. record { faithful = still g c r.faithful; sound = r.sound; empty = r.empty } in
    let b = c.bring.ensures in
    let stays = stays_read first mid (g.met.S.PageStore.lawful c.args.old.now) (g.met.S.PageStore.lawful c.survey_leaves.new.store) c.survey_leaves.ensures.reads.only in
    record {
      brought = on_ok c.bring.result (λ h r.
          let l = listed g c r.faithful in
          let s = h (ready r) l.list l.have l.numbered in
          (s.0, subst (HoldChains (pages_of_old first) c.args.most c.args.rows c.args.tracks.now.legs c.args.places.now c.args.tracks.now.tracks) (sym s.1) l.held)) b.brought;
      only = on_err c.bring.result (λ fault h r agrees legs held.
          let l = listed g c r.faithful in
          h (ready r) l.list l.have l.each l.numbered) b.only;
      marked = λ r marked. (let l = listed g c r.faithful in b.marked (ready r) marked l.list l.have l.numbered);
      takes = record {
        stays = stays_trans first mid (g.S.PageStore.seen c.bring.new.old) stays b.takes.stays;
        later = b.takes.later;
        store = λ e. ⊎_elim (λ f. inl (let n = stays.keeps.faults in risen_after first.faults mid.faults (g.S.PageStore.seen c.bring.new.old).faults n f)) (λ f. inr f) (b.takes.store e);
        full = b.takes.full;
      };
    }

pub returns-in-Err : goal.returns-in-Err
returns-in-Err g c =
    let first = g.S.PageStore.seen c.args.old.now in
    let mid = g.S.PageStore.seen c.survey_leaves.new.store in
    record {
      brought = tt;
      only = λ r agrees legs held.
          let there = subst (λ nodes. HoldChains nodes c.args.most c.args.rows c.args.tracks.now.legs c.args.places.now c.args.tracks.now.tracks legs) (sym (same_old first (g.met.S.PageStore.lawful c.args.old.now) r.faithful)) held in
          subst MayRefuseLeg (sym c.of_tree.ensures) (allowed_leg c.in-Err.fault (c.in-Err.ensures.only r.faithful (agrees, legs, there)));
      marked = λ r marked. marked;
      takes = record {
        stays = stays_read first mid (g.met.S.PageStore.lawful c.args.old.now) (g.met.S.PageStore.lawful c.survey_leaves.new.store) c.survey_leaves.ensures.reads.only;
        later = later_refl g.I.Listed c.args.index.now;
        store = λ e. inl (store_failed first mid c.in-Err.fault c.in-Err.ensures.reads.caused (sym c.of_tree.ensures ∙ same_err c.of_tree.result index.Store e));
        full = search rules;
      };
    }
