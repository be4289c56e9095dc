use Rattle.legs.specs.Costs.{RisesBy, track_cost}
use Rattle.std.proofs.Common.{set, ◌≡◌, sym, ◌∙◌, arith, None, Some, map}
use Rattle.std.specs.Prelude.{MatchResult}
use Rattle.legs.specs.Asking.{Denies}
use Rattle.legs.specs.Questions.{OfFeature}
use Rattle.legs.specs.Index.{legs_of}
use Rattle.legs.specs.declared.sieve.Sieve.TheVariants as sieve
use Rattle.chains.proofs.SpanLemmas.{known_lasts}
use Rattle.boxsearch.specs.Index.{words, tells}
use Rattle.boxsearch.proofs.AskedLemmas.{asked_found, asked_known, asked_knows, asked_leaves, asked_place, asked_refusals, asked_rises}
use Rattle.boxsearch.proofs.ResultLemmas.{from_ok, of_same, seen_of}
use Rattle.boxsearch.proofs.TellLemmas.{none_told, track_told}
use Rattle.boxsearch.proofs.TrackLemmas.{absent, absent_cost, rises_capped}
use Rattle.boxsearch.proofs.listed.TreeIndexLegIndex.track.Goals as goal

pub returns-in_default-clause-found : goal.returns-in_default-clause-found
returns-in_default-clause-found g c = λ s. c.new.ensures.items ∙ sym (absent c.args.self.now c.args.feature s (sym c.place.ensures ∙ c.in_default.is))

pub returns-in_default-clause-asks : goal.returns-in_default-clause-asks
returns-in_default-clause-asks g c = λ s below. let z = absent_cost c.args.self.now c.args.feature s (sym c.place.ensures ∙ c.in_default.is) in omega (arith, z)

pub returns-in_default-clause-told : goal.returns-in_default-clause-told
returns-in_default-clause-told g c = none_told c.args.self.now c.args.feature None c.new.result.items (sym c.place.ensures ∙ c.in_default.is) c.new.ensures.items

pub returns-clause-found : goal.returns-clause-found
returns-clause-found g c =
    asked_found c.self.view_is c.args.feature c.place.ensures c.in-Some.is c.trajectory.result c.answer.ensures (λ legs feature v. v.items ≡ legs_of feature legs) c.trajectory.ensures.found

pub returns-clause-asks : goal.returns-clause-asks
returns-clause-asks g c =
    asked_rises c.self.view_is c.args.feature c.place.ensures c.in-Some.is c.trajectory.result c.answer.ensures (λ a b cost. RisesBy a b cost) rises_capped (λ feature shape legs. track_cost feature (Some shape) legs) c.trajectory.new.cache.asked c.trajectory.ensures.asked

pub returns-clause-leaves : goal.returns-clause-leaves
returns-clause-leaves g c =
    asked_leaves c.self.view_is c.trajectory.new.cache (map (λ spans. spans.items) (set c.make_room.new.known.items c.args.feature c.trajectory.new.spans)) c.trajectory.ensures.reads.only

pub returns-clause-refusals : goal.returns-clause-refusals
returns-clause-refusals g c =
    asked_refusals c.self.view_is c.args.feature c.place.ensures c.in-Some.is c.trajectory.result c.answer.ensures c.trajectory.new.cache (map (λ spans. spans.items) (set c.make_room.new.known.items c.args.feature c.trajectory.new.spans)) (λ legs feature v. v.items ≡ legs_of feature legs) c.if-self.false c.trajectory.ensures.found c.trajectory.ensures.reads.caused

pub returns-clause-told : goal.returns-clause-told
returns-clause-told g c =
    let f = c.args.feature in
    of_same (λ i r. MatchResult r (λ legs. tells i (OfFeature f None) legs.items) (λ fault. Denies words i (OfFeature f None) fault)) c.self.view_is c.answer.ensures
    (track_told (seen_of c.self.view_is) c.trajectory.new.cache f sieve.All c.in-Some.place (asked_place c.self.view_is f c.place.ensures c.in-Some.is) c.trajectory.new.spans.items (λ legs. legs.items) c.trajectory.result c.trajectory.ensures)

pub trajectory-requires : goal.trajectory-requires
trajectory-requires g c =
    let room = from_ok c.make_room.result (sym c.is_err.ensures.value ∙ c.if-is_err.false) c.make_room.ensures.room in
    record { known = asked_knows c.self.view_is c.args.feature c.place.ensures c.in-Some.is (λ v. v.items) c.make_room.new.known.items c.self.invariant c.make_room.ensures.widens c.index_mut-spans.result.now room c.index_mut-spans.ensures.value }

pub invariant_of-self-2 : goal.invariant_of-self-2
invariant_of-self-2 g c =
    asked_known c.self.view_is c.args.feature c.place.ensures c.in-Some.is (λ v. v.items) c.make_room.new.known.items c.self.invariant c.make_room.ensures.widens c.trajectory.new.cache c.trajectory.new.spans c.trajectory.ensures.reads.only known_lasts c.trajectory.ensures.learns
