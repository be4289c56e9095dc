use Rattle.std.proofs.Common.{arith, sym, subst, ℕ, List, Option, Some, None, length, ◌∙◌}
use Rattle.std.proofs.lemmas.List.{take_all}
use Rattle.std.specs.Io.KnownBytes.{Appends, Keeps}
use Rattle.sessions.proofs.answering.send_all.Goals as goal

-- what was sent stays
kept : (a b c : Option (List ℕ)) (bs : List ℕ) → Appends a b bs → Keeps b c → Appends a c bs
kept None b c bs p q = tt
kept (Some x) None c bs p q = absurd p
kept (Some x) (Some y) None bs p q = absurd q
kept (Some x) (Some y) (Some z) bs p q = q ∙ p

pub returns-in-Err-flush-clause-part : goal.returns-in-Err-flush-clause-part
returns-in-Err-flush-clause-part g c =
    let bytes = c.args.bytes.now in
    let old = (g.O.Output.seen c.args.out.now).contents in
    let new = (g.O.Output.seen c.flush.new.self).contents in
    (length bytes, subst (Appends old new) (sym (take_all (length bytes) bytes (omega arith))) (kept old (g.O.Output.seen c.send.new.self).contents new bytes c.in-Ok.ensures.sent c.flush.ensures.stays))
