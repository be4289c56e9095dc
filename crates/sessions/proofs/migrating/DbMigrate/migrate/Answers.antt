use Rattle.std.proofs.Common.{true, subst, sym}
use Rattle.std.proofs.lemmas.Bool.{true≢false}
use Rattle.version1.specs.OldStore.{present_shape}
use Rattle.trajdb.specs.Db.{HasPages}
use Rattle.trajdb.proofs.LastingLemmas.{opened_book}
use Rattle.sessions.proofs.migrating.DbMigrate.migrate.Goals as goal

pub returns-in-Ok-clause-book : goal.returns-in-Ok-clause-book
returns-in-Ok-clause-book g c = λ fa fb shape limits book h.
    opened_book (present_shape shape) limits book c.in-Ok.catalogue c.in-Ok.index true c.from_parts.result c.from_parts.ensures.parts c.from_parts.ensures.limits (c.in-Ok.ensures.migrated.book fa fb shape limits book h)

pub returns-in-Ok-clause-pages : goal.returns-in-Ok-clause-pages
returns-in-Ok-clause-pages g c = λ fa fb.
    subst HasPages (sym c.from_parts.ensures.parts) (record { begun = λ _. c.in-Ok.ensures.migrated.marked fa fb; idle = λ rests. absurd (true≢false rests) })
