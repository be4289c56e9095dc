use Rattle.std.proofs.Common.{ℕ, Vec, Global, ◌∙◌, ap}
use Rattle.std.specs.Option.{option_map}
use Rattle.trajdb.proofs.FileLemmas.{file_named-seen}
use Rattle.trajdb.proofs.files.Files.get.Goals as goal

pub returns-in-Some : goal.returns-in-Some
returns-in-Some c =
    let found = ap (option_map (λ (v : Vec ℕ Global). v.items)) c.in-Some.ensures.value ∙ file_named-seen c.args.name.now c.self.inside.files.entries in
    rw (c.as_slice.ensures.value, ← c.self.view_is) found

pub returns-in-None : goal.returns-in-None
returns-in-None c =
    let found = ap (option_map (λ (v : Vec ℕ Global). v.items)) c.in-None.ensures.value ∙ file_named-seen c.args.name.now c.self.inside.files.entries in
    rw (← c.self.view_is) found
