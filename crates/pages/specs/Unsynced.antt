-- Which pages of a store are not synced.
use Rattle.std.specs.Prelude.{ℕ, ◌==◌, if◌then◌else◌}
use Rattle.pages.specs.declared.unsynced.Unsynced.{Unsynced}
use Rattle.pages.specs.declared.unsynced.Unsynced.TheVariants.{Nothing, First, Others}

-- what is not synced once page n is written too: page 0 alone, or another page
abbrev pub with_written : ℕ → Unsynced → Unsynced
with_written n Nothing = if n == 0 then First else Others
with_written n First = if n == 0 then First else Others
with_written n Others = Others
