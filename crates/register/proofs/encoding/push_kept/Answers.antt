use Rattle.std.proofs.Common.{◌++◌, ap, ◌∙◌, FitsSigned, rules}
use Rattle.std.specs.Int.{w64}
use Rattle.std.proofs.lemmas.Int.{to_z-of_z}
use Rattle.byteorder.specs.Endian.{big_bytes}
use Rattle.tbnode.specs.Parts.{signed_bytes}
use Rattle.register.specs.Text.{kept_text}
use Rattle.register.proofs.EncodingLemmas.{extended, then_pushed}
use Rattle.register.proofs.ReaderLemmas.{on_ok}
use Rattle.register.proofs.encoding.push_kept.Goals as goal

pub returns : goal.returns
unfolding kept_text
returns c =
    let place = c.args.kept.now.place in
    let fits : FitsSigned w64 c.args.kept.now.end = search rules in
    let end = c.in_ok-push_i64.ensures ∙ ap (λ z. extended c.args.writer.now (signed_bytes z)) (to_z-of_z w64 c.args.kept.now.end fits) in
    record {
      pushed = then_pushed c.push_place.result c.args.writer.now c.push_i64.new.writer c.push_place.new.writer (signed_bytes c.args.kept.now.end)
          (big_bytes 4 place.first ++ (big_bytes 4 place.last ++ (big_bytes 4 place.last_index ++ big_bytes 8 place.legs))) end c.push_place.ensures.pushed;
      whole = on_ok c.push_place.result (λ place. record { end = fits; place = place }) c.push_place.ensures.whole;
    }
