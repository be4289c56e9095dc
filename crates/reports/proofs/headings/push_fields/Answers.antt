use Rattle.std.proofs.Common.{◌∙◌, ◌++◌, ◌∷◌, ℕ, List, ap}
use Rattle.reports.specs.StayTexts.{fields_text}
use Rattle.reports.proofs.TextLemmas.{line_of_parts}
use Rattle.reports.proofs.headings.push_fields.Goals as goal

pub returns : goal.returns
unfolding fields_text
returns c =
    record {
      text = line_of_parts c.args.text.now.items _ _ _ _ _ _ _ _ _ _ (c.in_ok-extend_from_slice.ensures.items ∙ ap (λ (word : List ℕ). c.args.text.now.items ++ word) c.as_bytes.ensures.value) c.in_ok-extend_from_slice-2.ensures.items
          (c.in_ok-push_word.ensures ∙ ap (λ (word : List ℕ). c.extend_from_slice-2.new.self.items ++ 44 ∷ word) c.position_fields.ensures)
          c.in_ok-push_word-2.ensures c.in_ok-push.ensures.items;
    }
