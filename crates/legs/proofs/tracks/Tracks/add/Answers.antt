use Rattle.std.proofs.Common.{◌≡◌, ◌∙◌, ◌++◌, ◌∷◌, [], ap, refl, List, length, map, arith}
use Rattle.std.proofs.lemmas.List.{length_push}
use Rattle.std.specs.String.{string_bytes}
use Rattle.legs.specs.declared.tracks.Track.{Track}
use Rattle.legs.proofs.CountLemmas.{name_there, key_added, feature_added}
use Rattle.legs.proofs.LawLemmas.{other_at}
use Rattle.legs.proofs.tracks.Tracks.add.Goals as goal

pub returns-then-contains-clause-there : goal.returns-then-contains-clause-there
returns-then-contains-clause-there c = λ there. (rw (← c.self.view_is) (name_there c.self.inside.names.keys (string_bytes c.args.name) c.as_str.result.now c.contains.result c.as_str.ensures.value c.contains.ensures ∙ c.if-contains.true), refl)

pub invariant_of-self-2 : goal.invariant_of-self-2
invariant_of-self-2 c =
    let none = name_there c.self.inside.names.keys (string_bytes c.args.name) c.as_str.result.now c.contains.result c.as_str.ensures.value c.contains.ensures ∙ c.if-contains.false in
    let keys = (key_added c.self.inside.names.keys c.insert.new.self.keys c.args.name none c.in_ok-insert.ensures.keys).1 in
    let pushed : c.push.new.self.items ≡ c.self.inside.tracks.items ++ c.args.track ∷ [] =
    (rw c.unwrap.ensures at c.push.ensures.items) ∙ ap (λ (ts : List Track). ts ++ c.args.track ∷ []) c.in_ok-reserve.ensures.items in
    let tracks = ap length pushed ∙ length_push c.self.inside.tracks.items c.args.track in
    (omega (arith, keys, tracks, c.self.invariant.0), omega (arith, c.self.invariant.1, c.self.ranges, c.saturating_add-self-inside.ensures))

pub returns-clause-added : goal.returns-clause-added
returns-clause-added c =
    let none = name_there c.self.inside.names.keys (string_bytes c.args.name) c.as_str.result.now c.contains.result c.as_str.ensures.value c.contains.ensures ∙ c.if-contains.false in
    let keys = (key_added c.self.inside.names.keys c.insert.new.self.keys c.args.name none c.in_ok-insert.ensures.keys).0 in
    let pushed : c.push.new.self.items ≡ c.self.inside.tracks.items ++ c.args.track ∷ [] =
    (rw c.unwrap.ensures at c.push.ensures.items) ∙ ap (λ (ts : List Track). ts ++ c.args.track ∷ []) c.in_ok-reserve.ensures.items in
    rw (← c.self.view_is) (λ new. (
      other_at (map string_bytes c.self.inside.names.keys) (string_bytes c.args.name) none,
      rw c.saturating_add-self-inside.ensures (feature_added (map string_bytes c.self.inside.names.keys) _ c.self.inside.tracks.items _ _ c.self.inside.rows (string_bytes c.args.name) c.args.track keys pushed),
    ))
