use Rattle.std.proofs.Common.{◌∙◌, ◌++◌, ap, sym, Some, option_map}
use Rattle.std.proofs.lemmas.List.{append-nil}
use Rattle.std.proofs.lemmas.Bool.{true≢false}
use Rattle.register.specs.ChainReader.{rest_of}
use Rattle.register.specs.Text.{catalogue_text}
use Rattle.register.proofs.ReaderLemmas.{pages_refused}
use Rattle.register.proofs.WholeLemmas.{no_whole, left_over}
use Rattle.register.proofs.chain_reader.ChainReader.whole.Goals as goal

pub returns-in_err-contents : goal.returns-in_err-contents
returns-in_err-contents g c =
    let refused = c.in_err-contents.ensures in
    pages_refused c.in_err-contents.field-0.0 c.from_residual.ensures.1 (λ at shows b contents k. no_whole c.args.limits.now.legs (rest_of at c.args.self.now) (refused.lacks at shows b) contents k) refused.reads refused.caused

pub returns-then-not-is_at_end : goal.returns-then-not-is_at_end
returns-then-not-is_at_end g c = record {
  is = tt;
  broken = λ at shows u contents k.
      let read = c.in_ok-contents.ensures.taken at shows in
      left_over c.args.limits.now.legs (rest_of at c.args.self.now) (rest_of at c.catalogue.new.self) c.in_ok-contents.contents contents read.0 k read.1
      (λ e. true≢false (sym ((c.is_at_end.ensures at).1 e) ∙ c.if-not-is_at_end.true));
  reads = c.in_ok-contents.ensures.reads;
  caused = tt;
}

pub returns : goal.returns
returns g c = record {
  is = λ at shows.
      let text = catalogue_text c.in_ok-contents.contents in
      let read = c.in_ok-contents.ensures.taken at shows in
      let ended = (c.is_at_end.ensures at).0 c.if-not-is_at_end.false in
      (read.0, read.1 ∙ ap (option_map (λ t. text ++ t)) ended ∙ ap Some (append-nil text));
  broken = tt;
  reads = c.in_ok-contents.ensures.reads;
  caused = tt;
}
