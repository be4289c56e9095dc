use Rattle.std.proofs.Common.{arith, ◌≡◌, ◌∙◌, length}
use Rattle.std.proofs.lemmas.List.{take_at}
use Rattle.pages.proofs.sealing.page_with.Goals as goal

pub returns-clause-start : goal.returns-clause-start
returns-clause-start c =
    let long : length c.put_front.new.page ≡ 4064 = omega (arith, c.put_front.auto.page, c.split_at_mut-start.ensures.front_len) in
    take_at c.put_front.new.page c.copy_from_slice.new.self 4064 long ∙ c.put_front.ensures
