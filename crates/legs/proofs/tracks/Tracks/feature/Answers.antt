use Rattle.std.proofs.Common.{arith, ◌≡◌, ◌∙◌, ◌<◌, ap, sym, length, ℕ, Some, Ok, Err, Result}
use Rattle.std.specs.Prelude.{bytes_eq}
use Rattle.std.specs.String.{string_bytes}
use Rattle.std.specs.Result.{result_ok, OkIff}
use Rattle.std.proofs.lemmas.List.{length-map}
use Rattle.legs.specs.Tracks.{TracksView}
use Rattle.legs.proofs.NameLemmas.{position-map}
use Rattle.legs.proofs.tracks.Tracks.feature.Goals as goal

ok_then : {E : Type 0} (r : Result ℕ E) (P : Type 0) (v : ℕ) → OkIff r P v → P → result_ok r ≡ Some v
ok_then (Ok x) P v h p = ap Some h.1
ok_then (Err e) P v h p = absurd (h p)

pub returns-in_err-feature : goal.returns-in_err-feature
returns-in_err-feature c = λ few.
    rw (← c.self.view_is) (c.from_residual.ensures ∙ c.in_err-feature.ensures.index ∙ sym (position-map (bytes_eq c.args.name.now) string_bytes c.self.inside.names.keys))

pub returns : goal.returns
returns c = λ few.
    let names = ap (λ (t : TracksView). length t.names) c.self.view_is in
    let n = length-map c.self.inside.names.keys string_bytes in
    let small : c.in_ok-feature.feature < 4294967296 = omega (arith, names, n, c.in_ok-feature.ensures.within) in
    rw (← c.self.view_is)
    (c.ok.ensures.value ∙ ok_then c.try_from.result _ c.in_ok-feature.feature c.try_from.ensures small ∙ c.in_ok-feature.ensures.index
    ∙ sym (position-map (bytes_eq c.args.name.now) string_bytes c.self.inside.names.keys))
