use Rattle.std.proofs.Common.{◌≡◌, ◌≤◌, ◌+◌, map, take}
use Rattle.sessions.specs.Parts.{numbered, with_puts}
use Rattle.sessions.proofs.part_folder.put_texts.Given as goal

abbrev pub invariant-loop-text : goal.invariant-loop-text
invariant-loop-text g l = record {
  next : l.part ≡ l.first + l.text-index;
  puts : g.F.PartFolder.seen l.folder ≡ with_puts (g.F.PartFolder.seen l.initial.folder) (numbered l.first (take l.text-index (map (λ text. text.items) l.texts)));
}
