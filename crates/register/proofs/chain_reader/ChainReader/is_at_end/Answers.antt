use Rattle.std.proofs.Common.{◌≡◌, ap, sym, ◌∙◌, arith, length, nat_eq, IsTrue}
use Rattle.std.proofs.lemmas.Bool.Decides.{nat_tests}
use Rattle.std.proofs.lemmas.List.{length-drop}
use Rattle.register.proofs.WholeLemmas.{is_end, end_is}
use Rattle.register.proofs.chain_reader.ChainReader.is_at_end.Goals as goal

pub returns-then-self-ne0 : goal.returns-then-self-ne0
returns-then-self-ne0 c = λ at. ((λ f. absurd cc), (λ e. absurd (let x = end_is at c.args.self.now e in let l = ap (λ v. v.left) c.self.view_is in omega (arith, x.0, l, c.if-self-ne0.true))))

pub returns-then-self-ne0-2 : goal.returns-then-self-ne0-2
returns-then-self-ne0-2 c = λ at. ((λ f. absurd cc), (λ e. absurd (let x = end_is at c.args.self.now e in let l = ap (λ v. v.next) c.self.view_is in omega (arith, x.2, l, c.if-self-ne0-2.true))))

pub returns : goal.returns
returns c = λ at.
    let left = ap (λ v. v.left) c.self.view_is in
    let next = ap (λ v. v.next) c.self.view_is in
    let bytes = ap (λ v. length v.bytes) c.self.view_is in
    let ready = length-drop c.self.inside.taken c.self.inside.bytes.items in (
      (λ (t : IsTrue (nat_eq c.self.inside.taken c.len.result)).
          let same : c.self.inside.taken ≡ c.len.result = grind (arith, nat_tests, t) in
          is_end at c.args.self.now (sym left ∙ c.if-self-ne0.false) (sym next ∙ c.if-self-ne0-2.false) (omega (arith, bytes, ready, same, c.len.ensures))),
      (λ e. let x = end_is at c.args.self.now e in
          let same : c.self.inside.taken ≡ c.len.result = omega (arith, x.1, bytes, ready, c.len.ensures, c.self.invariant) in
          grind (arith, nat_tests, same)),
    )
