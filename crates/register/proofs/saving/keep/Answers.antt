use Rattle.std.proofs.Common.{◌∙◌, refl, sym, ⊎_elim}
use Rattle.register.proofs.ReaderLemmas.{on_ok}
use Rattle.register.proofs.SaveLemmas.{all_spare, keeps_front, not_zero, puts_length, says}
use Rattle.register.proofs.saving.keep.Goals as goal

pub returns-clause-front : goal.returns-clause-front
returns-clause-front g c =
    on_ok c.write_fields.result (λ puts fa some. keeps_front puts c.earlier_page.ensures.reads c.write_whole.ensures.puts.passes fa some) c.write_fields.ensures.puts

pub returns-clause-saved : goal.returns-clause-saved
returns-clause-saved g c =
    let tree = c.args.tree in
    let places = c.args.places.now in
    let reads = c.earlier_page.ensures.reads in
    let put = c.in_ok-first.ensures.puts in
    on_ok c.write_fields.result (λ puts fa.
    let text = put.text (reads.store.faithful ∙ fa) in
    says puts reads put.passes fa c.args.catalogue.now tree tree places places c.in_ok-first.first c.in_ok-first.length
    c.fields_for-fields.ensures refl refl text.0 text.1) c.write_fields.ensures.puts

pub returns-clause-length : goal.returns-clause-length
returns-clause-length g c =
    let reads = c.earlier_page.ensures.reads in
    on_ok c.write_fields.result (λ puts even. puts_length puts (c.in_ok-first.ensures.puts.length (reads.count ∙ even ∙ sym reads.length))) c.write_fields.ensures.puts

pub returns-clause-written : goal.returns-clause-written
returns-clause-written g c =
    on_ok c.write_fields.result (λ puts. record {
      clean = λ n h. puts.lends.writes.changed n (not_zero n h) (c.in_ok-first.ensures.written n);
      settled = puts.lends.writes.keeps.settled;
    }) c.write_fields.ensures.puts

pub returns-clause-tree : goal.returns-clause-tree
returns-clause-tree g c =
    let put = c.write_whole.ensures.puts in
    all_spare c.write_fields.new.cache c.fields_for-fields.result c.write_fields.result c.earlier_page.ensures.reads put.passes put.tree c.write_fields.ensures.puts c.write_fields.ensures.rests

pub returns-clause-synced : goal.returns-clause-synced
returns-clause-synced g c =
    on_ok c.write_fields.result (λ puts. ⊎_elim (λ e. e ∙ c.in_ok-first.ensures.synced.none) (λ e. e) (puts.lends.unsynced.clean c.in_ok-first.ensures.written)) c.write_fields.ensures.puts
