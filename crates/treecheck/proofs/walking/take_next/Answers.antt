use Rattle.std.proofs.Common.{rules, sym, ◌∙◌}
use Rattle.std.proofs.lemmas.Bool.{true≢false}
use Rattle.treecheck.proofs.walking.take_next.Goals as goal

pub returns-then-not-is_next : goal.returns-then-not-is_next
returns-then-not-is_next g c = record { taken = λ t. absurd (true≢false (sym t)); whole = λ h. sym c.if-not-is_next.true ∙ c.is_next.ensures.1 h.0 }

pub returns : goal.returns
returns g c = record {
  taken = λ t. ((search rules, search rules), (search rules, search rules));
  whole = λ h. search rules;
}
