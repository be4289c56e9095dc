use Rattle.std.proofs.Common.{◌∙◌, ◌≡◌, ◌+◌, ◌-◌, ◌^◌, ap, sym, List, length, fold, min, arith}
use Rattle.std.proofs.lemmas.List.{with_items_is, length-map}
use Rattle.std.specs.String.{string_bytes}
use Rattle.legs.specs.Legs.{LegView}
use Rattle.legs.specs.Tracks.{TracksView}
use Rattle.legs.specs.Counting.{counted}
use Rattle.legs.specs.declared.tracks.Track.{Track}
use Rattle.legs.proofs.LawLemmas.{law_with_file}
use Rattle.legs.proofs.AcceptLemmas.{accepted, length-counted, names_taken}
use Rattle.legs.proofs.tracks.Tracks.accept.Goals as goal

pub returns-clause-ok : goal.returns-clause-ok
returns-clause-ok c = λ limits book file is stands joined.
    let by = rw (← c.joined.view_is) at joined in
    let n = length-map c.self.inside.names.keys string_bytes in
    let items : List LegView = c.joined.inside.legs.items in
    let tracks = ap (λ (t : TracksView). t.tracks) c.self.view_is in
    let legs = ap (λ (t : TracksView). t.legs) c.self.view_is in
    let rows = ap (λ (t : TracksView). t.rows) c.self.view_is in
    let counts : c.count.new.tracks ≡ fold counted c.add_names.new.self.tracks items =
    c.count.ensures ∙ ap (λ (ls : List LegView). fold counted c.deref_mut.result.now ls) c.as_slice-legs.ensures.value ∙ ap (λ (ts : List Track). fold counted ts items) (c.deref_mut.ensures.value ∙ tracks) in
    let long : length c.count.new.tracks ≡ c.self.inside.tracks.len =
    ap length counts ∙ length-counted c.add_names.new.self.tracks items ∙ ap length (sym tracks) ∙ sym c.self.inside.tracks.ok.0 in
    let paired : length c.add_names.new.self.tracks ≡ length c.add_names.new.self.names =
    ap length (sym tracks) ∙ c.self.invariant.0 ∙ sym n ∙ ap (λ (t : TracksView). length t.names) c.self.view_is in
    accepted limits book file items c.args.self.now c.add_names.new.self _ is stands by.legs by.lawful c.in_ok-add_names.ensures.ok.extends (names_taken limits book file _ c.args.self.now c.add_names.new.self stands by c.in_ok-add_names.ensures.ok) paired
    (omega (arith, c.self.invariant.1, legs, rows)) (ap (λ (t : TracksView). t.names) c.self.view_is) (with_items_is c.self.inside.tracks c.count.new.tracks long ∙ counts)
    (c.saturating_add-self-inside.ensures ∙ ap (λ n. min (n + length c.as_slice-legs.result.now) (2 ^ 64 - 1)) legs ∙ ap (λ (ls : List LegView). min (c.add_names.new.self.legs + length ls) (2 ^ 64 - 1)) c.as_slice-legs.ensures.value)
    (c.min-self-inside.ensures ∙ ap (λ n. min n c.saturating_add-self-inside.result)
    (c.saturating_add.ensures ∙ ap (λ n. min (n + c.joined.inside.records) (2 ^ 64 - 1)) rows ∙ ap (λ n. min (c.add_names.new.self.rows + n) (2 ^ 64 - 1)) by.records))

pub returns-clause-law : goal.returns-clause-law
returns-clause-law c = λ limits book file is law whole joined. law_with_file limits book file c.args.joined.now.legs is joined.lawful law whole joined.legs
