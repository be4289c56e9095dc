use Rattle.std.proofs.Common.{◌∙◌, ◌++◌, ap, sym, subst}
use Rattle.std.specs.Prelude.{IsUtf8}
use Rattle.std.proofs.lemmas.Str.{IsUtf8-string_bytes}
use Rattle.register.proofs.chain_reader.ChainReader.ready_text.Goals as goal

pub returns-in-Ok : goal.returns-in-Ok
returns-in-Ok c = record {
  is = (
    c.from.ensures ∙ ap (λ v. v.items) c.in-Ok.ensures.ok ∙ c.in_ok-extend_from_slice.ensures.items
        ∙ ap (λ l. l ++ c.ahead.result.now) c.new-bytes.ensures.items ∙ c.ahead.ensures.value,
    subst (λ l. IsUtf8 l) (sym c.from.ensures) (IsUtf8-string_bytes c.in-Ok.text),
  );
  broken = tt;
  fault = tt;
}
