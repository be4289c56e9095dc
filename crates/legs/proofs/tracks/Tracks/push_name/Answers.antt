use Rattle.std.proofs.Common.{◌∙◌, ◌≡◌, ◌++◌, ◌∷◌, [], ap, refl, sym, List}
use Rattle.std.proofs.lemmas.List.{append-nil}
use Rattle.std.proofs.lemmas.List.Elements.{All-push, All-nil}
use Rattle.legs.specs.declared.tracks.Track.{Track}
use Rattle.legs.proofs.CountLemmas.{adds_one}
use Rattle.legs.proofs.tracks.Tracks.push_name.Goals as goal

pub returns-then-branch : goal.returns-then-branch
returns-then-branch c =
    rw (← c.self.view_is) (record {
      err = tt;
      ok =
          (adds_one _ _ c.args.name.now (record { end = c.args.end; legs = 0 } ∷ []) c.in_ok-insert_name.ensures.names
          ((rw c.unwrap.ensures at c.push.ensures.items) ∙ ap (λ (ts : List Track). ts ++ record { end = c.args.end; legs = 0 } ∷ []) c.in_ok-reserve.ensures.items)
          (All-push (λ (t : Track). t.legs ≡ 0) [] (record { end = c.args.end; legs = 0 }) (All-nil (λ (t : Track). t.legs ≡ 0)) refl) refl refl);
    })

pub returns-else-branch : goal.returns-else-branch
returns-else-branch c =
    rw (← c.self.view_is) (record {
      err = tt;
      ok =
          (adds_one _ _ c.args.name.now [] c.in_ok-insert_name.ensures.names
          (c.in_ok-reserve.ensures.items ∙ sym (append-nil c.self.inside.tracks.items)) (All-nil (λ (t : Track). t.legs ≡ 0)) refl refl);
    })
