use Rattle.std.proofs.Common.{rules, ◌≡◌, ◌≤◌, ◌∙◌, ap, arith, sym, ℕ, IsTrue, Option, Some}
use Rattle.std.specs.Int.{div_ceil}
use Rattle.pages.specs.declared.payload.Payload.{Payload}
use Rattle.pagecache.specs.Cache.{payload_of}
use Rattle.register.specs.ChainReader.{rest_of, Shows}
use Rattle.register.specs.Restoring.{HoldsContents}
use Rattle.register.specs.Text.{catalogue_text, AreFew, IsRead}
use Rattle.register.specs.declared.contents.Contents.{Contents}
use Rattle.register.proofs.ReaderLemmas.{if_err, if_ok, on_err_and, shows_own}
use Rattle.version1.specs.OldStore.{ReadsLent, ShowsStored}
use Rattle.version1.proofs.OldStoreLemmas.{filled_text, not_filled, not_parsed}
use Rattle.version1.proofs.old_store.read_old_contents.Goals as goal

pub returns : goal.returns
returns g c =
    let s = g.S.PageStore.seen c.args.lent.now in
    let bt = payload_of c.args.cache.now in
    let f = c.args.fields.now in
    let fill = c.in_ok-fill_lent.ensures in
    let few : div_ceil f.length 4040 ≤ s.count = omega (arith, c.if-div_ceil-from.false, c.div_ceil.ensures, c.from.ensures, c.len.ensures) in
    record {
      is = if_ok (λ contents. (at : ℕ → Option Payload) → Shows c.args.cache.now at → IsRead f.limits.legs contents × (rest_of at c.fill_lent.new.reader ≡ Some (catalogue_text contents)))
          (λ contents. IsTrue c.args.cache.now.store.is_faithful → (at : ℕ → Option Payload) → ShowsStored s at → HoldsContents at s.count f.first f.length contents) c.whole.result
          (λ contents read fb at lent.
          let shows = shows_own c.args.cache.now fb in
          let same = fill.reads.same at lent ∙ ap (rest_of at) c.new-reader.ensures in
          record {
            few = few;
            text = filled_text at bt s.count f.first f.length c.fill_lent.new.reader fill.ended same contents (read bt shows).1;
            whole = (read bt shows).0.whole;
          }) c.whole.ensures.is;
      broken = if_err _ _ c.whole.result (λ e none fb at lent b.
          let same = fill.reads.same at lent ∙ ap (rest_of at) c.new-reader.ensures in
          not_parsed at bt s.count f.first f.length c.fill_lent.new.reader fill.ended same f.limits.legs (none bt (shows_own c.args.cache.now fb) b)) c.whole.ensures.broken;
      stays = search rules;
      reads = search rules;
      caused = search rules;
    }

pub returns-in_err-fill_lent : goal.returns-in_err-fill_lent
returns-in_err-fill_lent g c =
    let s = g.S.PageStore.seen c.args.lent.now in
    let f = c.args.fields.now in
    let r = c.in_err-fill_lent.ensures.reads in
    on_err_and (λ x. ReadsLent s (g.S.PageStore.seen c.fill_lent.new.store) c.args.cache.now c.args.cache.now (λ at contents. HoldsContents at s.count f.first f.length contents)
    (λ at. (contents : Option Contents) → AreFew f.limits.legs contents → HoldsContents at s.count f.first f.length contents → ⊥) x) c.from_residual.result c.in_err-fill_lent.field-0.0 c.from_residual.ensures.1 (record {
      is = tt;
      broken = λ fb at lent b contents few h.
          not_filled at (payload_of c.args.cache.now) s.count f.first f.length (sym (ap (rest_of at) c.new-reader.ensures) ∙ r.broken at lent b) contents h;
      stays = r.stays;
      reads = search rules;
      caused = search rules;
    })
