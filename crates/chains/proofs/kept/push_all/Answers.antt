use Rattle.std.proofs.Common.{ap, ◌∙◌, ◌++◌}
use Rattle.std.specs.Prelude.{reverse}
use Rattle.std.proofs.lemmas.Result.{IfOk-weaker}
use Rattle.chains.proofs.SieveLemmas.{whole_taken}
use Rattle.chains.proofs.kept.push_all.Goals as goal

pub returns : goal.returns
returns c = λ view e s.
    IfOk-weaker c.push_each.result _ _ (λ whole put. (put.0, whole_taken s view.legs c.args.found.now.items c.push_each.new.found.items (put.1 ∙ ap (λ l. l ++ reverse view.legs) c.in_ok-make_room.ensures)))
    (c.push_each.ensures view e)
