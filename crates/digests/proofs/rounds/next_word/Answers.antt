use Rattle.std.proofs.Common.{◌≡◌, ◌+◌, ◌%◌, arith, refl}
use Rattle.digests.proofs.LaneLemmas.{slice_index-lane}
use Rattle.digests.proofs.rounds.next_word.Goals as goal

pub returns-clause-value : goal.returns-clause-value
returns-clause-value c = λ j lt.
    let w = c.args.words.now in
    let at : c.args.place % 16 ≡ c.args.place = omega arith in
    rw (
      slice_index-lane w j ((c.args.place + 14) % 16),
      slice_index-lane w j ((c.args.place + 9) % 16),
      slice_index-lane w j ((c.args.place + 1) % 16),
      slice_index-lane w j (c.args.place % 16),
      at,
      c.add-word.ensures j lt,
      c.add.ensures j lt,
      c.small_sigma0.ensures j lt,
      c.add-first.ensures j lt,
      c.small_sigma1.ensures j lt,
    ) refl
