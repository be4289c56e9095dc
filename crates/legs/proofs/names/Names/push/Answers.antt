use Rattle.std.proofs.Common.{◌≡◌, ◌∙◌, ◌++◌, ◌∷◌, [], ap, List, map, None}
use Rattle.std.specs.String.{string_bytes}
use Rattle.legs.specs.Book.{feature_named}
use Rattle.legs.specs.Names.{NamesView}
use Rattle.legs.specs.declared.draft.Latest.{Latest}
use Rattle.legs.proofs.MetLemmas.{pushed, pushed_view}
use Rattle.legs.proofs.names.Names.push.Goals as goal

pub invariant_of-self-2 : goal.invariant_of-self-2
invariant_of-self-2 c =
    let none : feature_named (map string_bytes c.self.inside.names.keys) c.args.name.now ≡ None = ap (λ (v : NamesView). feature_named v.names c.args.name.now) c.self.view_is ∙ c.requires in
    let more : c.push.new.self.items ≡ c.self.inside.latest.items ++ c.args.latest ∷ [] =
    (rw c.unwrap.ensures at c.push.ensures.items) ∙ ap (λ (ls : List Latest). ls ++ c.args.latest ∷ []) c.in_ok-reserve.ensures.items in
    (pushed c.self.inside.names.keys c.insert.new.self.keys c.self.inside.latest.items c.push.new.self.items c.in_ok-name.name c.args.name.now c.args.latest none c.in_ok-name.ensures.ok c.in_ok-insert.ensures.keys more c.self.invariant).0

pub returns : goal.returns
returns c =
    let none : feature_named (map string_bytes c.self.inside.names.keys) c.args.name.now ≡ None = ap (λ (v : NamesView). feature_named v.names c.args.name.now) c.self.view_is ∙ c.requires in
    let more : c.push.new.self.items ≡ c.self.inside.latest.items ++ c.args.latest ∷ [] =
    (rw c.unwrap.ensures at c.push.ensures.items) ∙ ap (λ (ls : List Latest). ls ++ c.args.latest ∷ []) c.in_ok-reserve.ensures.items in
    let parts = (pushed c.self.inside.names.keys c.insert.new.self.keys c.self.inside.latest.items c.push.new.self.items c.in_ok-name.name c.args.name.now c.args.latest none c.in_ok-name.ensures.ok c.in_ok-insert.ensures.keys more c.self.invariant).1 in
    rw (← c.self.view_is) (pushed_view (map string_bytes c.self.inside.names.keys) _ c.self.inside.latest.items _ c.args.name.now c.args.latest parts.0 parts.1)
