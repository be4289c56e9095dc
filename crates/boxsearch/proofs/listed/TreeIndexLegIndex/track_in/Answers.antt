use Rattle.std.proofs.Common.{set, sym, ap, ◌∙◌, Some, map}
use Rattle.std.specs.Prelude.{MatchResult, filter}
use Rattle.legs.specs.Asking.{Denies, TellsSieved}
use Rattle.legs.specs.Sieves.{IsSieved}
use Rattle.legs.specs.Questions.{OfFeature}
use Rattle.legs.specs.Costs.{RisesAtMost, track_in_bound}
use Rattle.legs.specs.Index.{live_legs_of}
use Rattle.legs.specs.Legs.{is_live}
use Rattle.chains.proofs.SpanLemmas.{known_lasts}
use Rattle.boxsearch.specs.Index.{words, content}
use Rattle.boxsearch.proofs.AskedLemmas.{asked_found, asked_known, asked_knows, asked_leaves, asked_place, asked_refusals, asked_rises}
use Rattle.boxsearch.proofs.ResultLemmas.{from_ok, of_same, seen_of}
use Rattle.boxsearch.proofs.TellLemmas.{none_sieved, track_sieved}
use Rattle.boxsearch.proofs.TrackLemmas.{absent, rises_capped_most}
use Rattle.boxsearch.proofs.listed.TreeIndexLegIndex.track_in.Goals as goal
use Rattle.legs.proofs.SieveLaws.{sieved_same}

pub returns-in_default-clause-found : goal.returns-in_default-clause-found
returns-in_default-clause-found g c = λ s.
    sieved_same c.args.sieve.now c.args.period.now (live_legs_of c.args.feature c.args.period.now (content c.args.self.now)) c.new.result.items
    (c.new.ensures.items ∙ sym (ap (filter (is_live c.args.period.now)) (absent c.args.self.now c.args.feature s (sym c.place.ensures ∙ c.in_default.is))))

pub returns-in_default-clause-told : goal.returns-in_default-clause-told
returns-in_default-clause-told g c = none_sieved c.args.self.now c.args.feature c.args.period.now c.args.sieve.now c.new.result.items (sym c.place.ensures ∙ c.in_default.is) c.new.ensures.items

pub trajectory_in-requires : goal.trajectory_in-requires
trajectory_in-requires g c =
    let room = from_ok c.make_room.result (sym c.is_err.ensures.value ∙ c.if-is_err.false) c.make_room.ensures.room in
    record { known = asked_knows c.self.view_is c.args.feature c.place.ensures c.in-Some.is (λ v. v.items) c.make_room.new.known.items c.self.invariant c.make_room.ensures.widens c.index_mut-spans.result.now room c.index_mut-spans.ensures.value }

pub returns-clause-found : goal.returns-clause-found
returns-clause-found g c =
    asked_found c.self.view_is c.args.feature c.place.ensures c.in-Some.is c.trajectory_in.result c.answer.ensures (λ legs feature v. IsSieved c.args.sieve.now c.args.period.now (live_legs_of feature c.args.period.now legs) v.items) c.trajectory_in.ensures.found

pub invariant_of-self-2 : goal.invariant_of-self-2
invariant_of-self-2 g c =
    asked_known c.self.view_is c.args.feature c.place.ensures c.in-Some.is (λ v. v.items) c.make_room.new.known.items c.self.invariant c.make_room.ensures.widens c.trajectory_in.new.cache c.trajectory_in.new.spans c.trajectory_in.ensures.reads.only known_lasts c.trajectory_in.ensures.learns

pub returns-clause-asks : goal.returns-clause-asks
returns-clause-asks g c =
    asked_rises c.self.view_is c.args.feature c.place.ensures c.in-Some.is c.trajectory_in.result c.answer.ensures (λ a b cost. RisesAtMost a b cost) rises_capped_most (λ feature shape legs. track_in_bound feature c.args.period.now (Some shape) legs) c.trajectory_in.new.cache.asked c.trajectory_in.ensures.asked

pub returns-clause-leaves : goal.returns-clause-leaves
returns-clause-leaves g c =
    asked_leaves c.self.view_is c.trajectory_in.new.cache (map (λ spans. spans.items) (set c.make_room.new.known.items c.args.feature c.trajectory_in.new.spans)) c.trajectory_in.ensures.reads.only

pub returns-clause-refusals : goal.returns-clause-refusals
returns-clause-refusals g c =
    asked_refusals c.self.view_is c.args.feature c.place.ensures c.in-Some.is c.trajectory_in.result c.answer.ensures c.trajectory_in.new.cache (map (λ spans. spans.items) (set c.make_room.new.known.items c.args.feature c.trajectory_in.new.spans)) (λ legs feature v. IsSieved c.args.sieve.now c.args.period.now (live_legs_of feature c.args.period.now legs) v.items) c.if-self.false c.trajectory_in.ensures.found c.trajectory_in.ensures.reads.caused

pub returns-clause-told : goal.returns-clause-told
returns-clause-told g c =
    let f = c.args.feature in
    let period = c.args.period.now in
    let sieve = c.args.sieve.now in
    of_same (λ i r. MatchResult r (λ legs. TellsSieved words i f period sieve legs.items) (λ fault. Denies words i (OfFeature f (Some period)) fault)) c.self.view_is c.answer.ensures
    (track_sieved (seen_of c.self.view_is) c.trajectory_in.new.cache f sieve c.in-Some.place (asked_place c.self.view_is f c.place.ensures c.in-Some.is) c.trajectory_in.new.spans.items (λ legs. legs.items) period c.trajectory_in.result c.trajectory_in.ensures)
