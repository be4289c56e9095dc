use Rattle.std.proofs.Common.{◌∙◌, ap, sym, length, take, map}
use Rattle.std.specs.String.{string_bytes}
use Rattle.std.proofs.lemmas.List.{take-map, length-map}
use Rattle.legs.specs.Tracks.{TracksView}
use Rattle.legs.proofs.CountLemmas.{taken_back}
use Rattle.legs.proofs.tracks.Tracks.add_names.Goals as goal

pub returns-in-Err : goal.returns-in-Err
returns-in-Err c =
    let names = ap (λ (t : TracksView). length t.names) c.self.view_is in
    let n = length-map c.self.inside.names.keys string_bytes in
    record {
      ok = tt;
      err = taken_back c.args.self.now c.push_names.new.self _ c.len-known.result c.in-Err.ensures.err (c.len-known.ensures.len ∙ sym n ∙ names)
          (sym (ap (λ (t : TracksView). length t.tracks) c.self.view_is) ∙ c.self.invariant.0 ∙ sym n ∙ names)
          (ap (map string_bytes) c.truncate.ensures.keys ∙ sym (take-map string_bytes c.len-known.result c.self-2.inside.names.keys) ∙ ap (λ (t : TracksView). take c.len-known.result t.names) c.self-2.view_is)
          (c.truncate-in-Err.ensures.items ∙ ap (λ (t : TracksView). take c.len-known.result t.tracks) c.self-2.view_is)
          (ap (λ (t : TracksView). t.legs) c.self-2.view_is) (ap (λ (t : TracksView). t.rows) c.self-2.view_is);
    }
