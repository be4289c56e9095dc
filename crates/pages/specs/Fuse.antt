-- What contracts see of a fuse.
use Rattle.pages.specs.declared.fuse.Fuse.{Fuse}

-- the store below
abbrev pub inner : {S : Type 0} → Fuse S → S
inner f = f.store
