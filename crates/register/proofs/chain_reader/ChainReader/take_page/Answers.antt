use Rattle.std.proofs.Common.{◌≡◌, ◌++◌, ap, sym, ◌∙◌, true}
use Rattle.register.specs.Chain.{is_part, next_in, text_in}
use Rattle.register.proofs.ReaderLemmas.{take_in}
use Rattle.register.proofs.chain_reader.ChainReader.take_page.Goals as goal

pub returns-clause-taken : goal.returns-clause-taken
unfolding next_in text_in
returns-clause-taken c =
    let payload = c.args.payload.now in
    let form : is_part c.min-used.result payload ≡ true = sym c.is_part.ensures ∙ c.if-not-is_part.false in
    take_in payload c.self.inside.next c.self.inside.left c.self.inside.taken c.min-used.result c.u32_at-self-inside.result c.self.inside.bytes.items
    c.args.self.now (c.self.view_is ∙ c.forget.ensures) c.self.invariant c.min-used.ensures form c.u32_at-self-inside.ensures
    c.extend_from_slice.new.self.items (c.in_ok-extend_from_slice.ensures.items ∙ ap (λ l. c.self.inside.bytes.items ++ l) c.part.ensures.value)
