use Rattle.std.proofs.Common.{◌≡◌, ◌++◌, sym, ◌∙◌, arith, subst, All, ◌<◌, ◌^◌, rules, map, length, ℕ}
use Rattle.std.specs.List.{flat_map, range_with_len}
use Rattle.std.proofs.lemmas.List.{length-map}
use Rattle.std.proofs.lemmas.List.FromFn.{length-range_with_len}
use Rattle.byteorder.specs.Endian.{big_bytes}
use Rattle.register.specs.Saving.{feature_at}
use Rattle.register.specs.Text.{feature_text, IsFeature}
use Rattle.register.specs.declared.contents.Feature.{Feature}
use Rattle.register.proofs.SavingLemmas.{named_put, puts_refused, puts_same, puts_then, puts_whole}
use Rattle.register.proofs.saving.write_features.Goals as goal

pub loop-feature-preserved : goal.loop-feature-preserved
loop-feature-preserved g c = named_put feature_text IsFeature (feature_at c.args.tracks.now c.args.places.now) (big_bytes 4 c.args.count) c.loop-feature.invariant c.in_ok-write_feature.ensures

pub returns : goal.returns
returns g c = λ e.
    let at : ℕ → Feature = feature_at c.args.tracks.now c.args.places.now in
    let n = c.loop-feature.feature in
    let many = length c.args.tracks.now.names in
    let all : n ≡ many = omega (arith, e, c.loop-feature.auto.feature-end, c.loop-feature-test.false) in
    let long = length-map (range_with_len 0 many) at ∙ length-range_with_len 0 many in
    let count : c.args.count ≡ length (map at (range_with_len 0 many)) = e ∙ sym long in
    let few : c.args.count < 2 ^ 32 = search rules in
    puts_same (λ i. big_bytes 4 (count i) ++ flat_map feature_text (map at (range_with_len 0 (all i))))
    (puts_whole (λ each. record { each = subst (λ k. All IsFeature (map at (range_with_len 0 k))) all each; few = subst (λ k. k < 2 ^ 32) count few }) c.loop-feature.invariant)

pub returns-in_err-write_feature : goal.returns-in_err-write_feature
returns-in_err-write_feature g c = λ e. puts_refused (λ _. tt) c.from_residual-in_err-write_feature.ensures.1 (puts_then c.loop-feature.invariant (λ _ whole. whole) _ c.in_err-write_feature.ensures)
