use Rattle.std.proofs.Common.{ℕ, ◌≡◌, refl, rules, subst, sym, ◌∙◌, List, Option, Result, Ok, Err, take, drop, take-append-drop}
use Rattle.std.proofs.KnownBytes.{Appends-nil}
use Rattle.std.specs.Io.KnownBytes.{Appends}
use Rattle.std.specs.Prelude.{OnErr, OnOk}
use Rattle.parts.specs.Part.{part_text}
use Rattle.parts.proofs.ManyLemmas.{part_text_says}
use Rattle.sessions.specs.Parts.{SendsPart, SendsSome}
use Rattle.sessions.proofs.part.send_part.Goals as goal

-- the text of the part, and a front of it
sent_part : {E : Type 0} (k n : ℕ) (bytes text : List ℕ) (sent sent' : Option (List ℕ)) (r : Result (Unit {0}) E) → text ≡ part_text k n bytes → OnOk r (Appends sent sent' text) → OnOk r (SendsPart k n bytes sent sent')
sent_part k n bytes text sent sent' (Ok x) same a = record { appended = subst (Appends sent sent') same a; says = part_text_says k n bytes }
sent_part k n bytes text sent sent' (Err e) same a = tt

sent_some : {E : Type 0} (k n : ℕ) (bytes text : List ℕ) (sent sent' : Option (List ℕ)) (r : Result (Unit {0}) E) → text ≡ part_text k n bytes → OnErr r ((x : ℕ) × Appends sent sent' (take x text)) → OnErr r (SendsSome k n bytes sent sent')
sent_some k n bytes text sent sent' (Ok x) same p = tt
sent_some k n bytes text sent sent' (Err e) same p = record { front = take p.0 text; appended = p.1; of = (drop p.0 text, sym same ∙ sym (take-append-drop p.0 text)); says = part_text_says k n bytes }

pub returns-in-Ok-clause-sends : goal.returns-in-Ok-clause-sends
returns-in-Ok-clause-sends g c =
    let text = c.deref.result.now in
    let same : text ≡ part_text c.args.k c.args.n c.args.bytes.now = search rules in
    sent_part c.args.k c.args.n c.args.bytes.now text (g.O.Output.seen c.args.out.now).contents (g.O.Output.seen c.send_all.new.out).contents c.send_all.result same c.send_all.ensures.sent

pub returns-in-Ok-clause-cut : goal.returns-in-Ok-clause-cut
returns-in-Ok-clause-cut g c =
    let text = c.deref.result.now in
    let same : text ≡ part_text c.args.k c.args.n c.args.bytes.now = search rules in
    sent_some c.args.k c.args.n c.args.bytes.now text (g.O.Output.seen c.args.out.now).contents (g.O.Output.seen c.send_all.new.out).contents c.send_all.result same c.send_all.ensures.part

pub returns-in-Err-clause-cut : goal.returns-in-Err-clause-cut
returns-in-Err-clause-cut g c = record { front = _; appended = Appends-nil (g.O.Output.seen c.args.out.now).contents; of = (part_text c.args.k c.args.n c.args.bytes.now, refl); says = part_text_says c.args.k c.args.n c.args.bytes.now }
