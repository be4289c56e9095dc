use Rattle.std.proofs.Common.{◌∙◌, ap, rules, sym, Ok}
use Rattle.trajdb.proofs.LoadLemmas.{accepted_book, accepted_counts, told_kept}
use Rattle.trajdb.proofs.database.Core.load.Goals as goal

pub returns-in-Err : goal.returns-in-Err
returns-in-Err g c =
    let old = c.args.self.now in
    record {
      counts = search rules;
      becomes = λ told sound. (sound, told_kept old.limits old.book c.args.bytes.now c.in-Err.refused told (c.in-Err.ensures.refused sound));
      lives = search rules;
      failed = search rules;
      stopped = search rules;
      later = search rules;
      refused = search rules;
      begun = search rules;
      marks = search rules;
      idle = search rules;
      pages = search rules;
      was_failed = search rules;
    }

pub returns-in-Ok-take : goal.returns-in-Ok-take
returns-in-Ok-take g c =
    let old = c.args.self.now in
    let is = c.in-Ok.ensures.joined in
    record {
      counts = λ sound. accepted_counts old.limits old.book c.args.bytes.now is.0 c.in-Ok.new is.1 (is.2 sound) ∙ ap Ok (sym c.counts_of-counts.ensures);
      becomes = λ told sound.
          let becomes = c.in-Ok-take.ensures.taken is.0 (is.2 sound) sound in
          (becomes.0, becomes.1 ∙ sym (accepted_book old.limits old.book c.args.bytes.now is.0 c.in-Ok.new is.1 (is.2 sound)));
      lives = search rules;
      failed = search rules;
      stopped = search rules;
      later = search rules;
      refused = search rules;
      begun = search rules;
      marks = search rules;
      idle = search rules;
      pages = search rules;
      was_failed = search rules;
    }

pub returns-in-Err-take : goal.returns-in-Err-take
returns-in-Err-take g c =
    let is = c.in-Ok.ensures.joined in
    record {
      counts = search rules;
      becomes = search rules;
      lives = search rules;
      failed = search rules;
      stopped = record { sound = λ sound works. c.in-Err-take.ensures.sound is.0 sound (is.2 sound); store = search rules };
      later = search rules;
      refused = search rules;
      begun = search rules;
      marks = search rules;
      idle = search rules;
      pages = search rules;
      was_failed = search rules;
    }
