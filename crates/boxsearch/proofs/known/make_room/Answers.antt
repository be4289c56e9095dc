use Rattle.std.proofs.Common.{ap, map, ◌∙◌, ◌≡◌, ◌++◌, ◌∷◌, [], List}
use Rattle.std.proofs.lemmas.List.{map-append}
use Rattle.chains.specs.declared.spans.LeafSpan.{LeafSpan}
use Rattle.boxsearch.proofs.KnownLemmas.{widens_more}
use Rattle.boxsearch.proofs.known.make_room.Goals as goal

pub room-preserved : goal.room-preserved
room-preserved c =
    let old = map (λ spans. spans.items) c.args.known.now.items in
    let mid = map (λ spans. spans.items) c.room.known.items in
    let new = map (λ spans. spans.items) c.push.new.self.items in
    let more : new ≡ mid ++ [] ∷ [] = ap (map (λ spans. spans.items)) c.in_ok-push.ensures.items ∙ map-append (λ spans. spans.items) c.room.known.items (c.new.result ∷ []) ∙ ap (λ (l : List LeafSpan). mid ++ (l ∷ [])) c.new.ensures.items in
    widens_more old mid new c.room.invariant more
