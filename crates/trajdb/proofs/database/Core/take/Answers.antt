use Rattle.std.proofs.Common.{◌++◌, ◌∙◌, ap, sym, subst, List, ℕ}
use Rattle.legs.specs.Book.{Book, head_with}
use Rattle.legs.specs.Tracks.{StandsFor}
use Rattle.legs.specs.Law.{IsBook}
use Rattle.trajdb.proofs.BookLemmas.{with_file-parts}
use Rattle.trajdb.proofs.database.Core.take.Goals as goal

pub returns-clause-taken : goal.returns-clause-taken
returns-clause-taken g c =
    rw (← c.self.view_is) (λ file accepts sound.
    let book : Book = record { head = c.self.inside.head; names = c.self.inside.tracks.names; legs = g.I.Listed.content c.self.inside.index; rows = c.self.inside.rows } in
    let tracks = c.in_ok-accept.ensures.ok c.self.inside.limits book file sound.limits sound.tracks accepts.0 in
    let law = c.in_ok-accept.ensures.law c.self.inside.limits book file sound.limits sound.law accepts.2 accepts.0 in
    let ends = (rw c.legs.ensures at c.in_ok-put_legs.ensures.added) sound.index accepts.1 in
    let same = with_file-parts c.self.inside.limits book file c.args.new.joined.legs (g.I.Listed.content c.put_legs.new.index) c.keep_head.new.first c.accept.new.self.names c.append.new.self
    accepts.0.legs (c.keep_head.ensures ∙ ap (head_with c.self.inside.head) accepts.3) tracks.names ends.content (c.in_ok-append.ensures.appended ∙ ap (λ (rows : List (List (List ℕ))). c.self.inside.rows ++ rows) accepts.4) in (
      record {
        index = ends.sound;
        limits = sound.limits;
        tracks = subst (λ (b : Book). StandsFor c.accept.new.self b) (sym same) tracks;
        law = subst (λ (b : Book). IsBook c.self.inside.limits b) (sym same) law;
      },
      same,
    ))
