use Rattle.std.proofs.Common.{ℕ, List, ◌≡◌, ◌++◌, ◌∙◌, [], ap, refl, sym, Option, Some, None, option_map}
use Rattle.register.specs.Chain.{text_at}
use Rattle.register.specs.ChainReader.{rest_of}
use Rattle.register.proofs.ReaderLemmas.{if_err, if_ok}
use Rattle.register.proofs.restoring.read_contents.Goals as goal

pub returns : goal.returns
returns g c = record {
  is = if_ok _ _ c.whole.result (λ contents read at shows. record {
    few = c.is_short.ensures.0 c.if-not-is_short.false;
    text = sym (begun (text_at at c.args.fields.now.length c.args.fields.now.first)) ∙ sym (ap (rest_of at) c.new-reader.ensures) ∙ (read at shows).1;
    whole = (read at shows).0.whole;
  }) c.whole.ensures.is;
  broken = if_err _ _ c.whole.result (λ e broken at shows b contents few holds.
      broken at shows b contents (record { whole = holds.whole; few = few }) (ap (rest_of at) c.new-reader.ensures ∙ ap (option_map (λ t. [] ++ t)) holds.text)) c.whole.ensures.broken;
  reads = c.whole.ensures.reads;
  caused = c.whole.ensures.caused;
} where
  begun : (o : Option (List ℕ)) → option_map (λ t. [] ++ t) o ≡ o
  begun None = refl
  begun (Some t) = refl
