use Rattle.std.proofs.Common.{ℕ, ◌≡◌, ◌<◌, ◌+◌, ◌∙◌, ◌++◌, ◌∷◌, [], ap, arith, get_or, length, map, sym, take, List}
use Rattle.std.proofs.lemmas.List.{map-append, take_more}
use Rattle.std.proofs.lemmas.List.Elements.{All-more}
use Rattle.trajdb.specs.Answers.{feature_name}
use Rattle.trajdb.proofs.database.Core.names.Goals as goal
use denote.Ref.{Bor}

-- one more of a list that is shown
map_next : {X Y : Type 0} (f : X → Y) (xs : List X) (i : ℕ) (d : X) (y : Y) (ys zs : List Y) → i < length xs → ys ≡ map f (take i xs) → zs ≡ ys ++ y ∷ [] → y ≡ f (get_or xs i d) → zs ≡ map f (take (i + 1) xs)
map_next f xs i d y ys zs less so_far more is =
    more ∙ ap (λ y. ys ++ y ∷ []) is ∙ ap (λ l. l ++ f (get_or xs i d) ∷ []) so_far
    ∙ sym (ap (map f) (take_more xs i d less) ∙ map-append f (take i xs) (get_or xs i d ∷ []))

pub loop-feature-preserved : goal.loop-feature-preserved
loop-feature-preserved g c =
    let book = c.args.self.now.book in
    let features = c.args.features.now in
    let i = c.loop-feature.feature-index in
    let name = c.in_ok-name.field-0 in
    let seen : List (Bor (List ℕ)) → List (List ℕ) = map (λ (n : Bor (List ℕ)). n.now) in
    let P : ℕ → Type 0 = λ feature. feature < length book.names in
    let t = c.loop-feature-test.true in
    record {
      names = map_next (feature_name book) features i _ name.now (seen c.loop-feature.names.items) (seen c.push.new.self.items) (omega (arith, t)) c.loop-feature.invariant.names
          (ap seen c.in_ok-push.ensures.items ∙ map-append (λ (n : Bor (List ℕ)). n.now) c.loop-feature.names.items (name ∷ [])) c.in_ok-name.ensures.made;
      there = All-more P features i _ (omega (arith, t)) c.loop-feature.invariant.there c.in_ok-name.ensures.there;
    }
