use Rattle.std.proofs.Common.{◌≡◌, ◌∙◌, ap, ℕ, List, Option, take, drop, length, ◌+◌, ◌-◌, arith}
use Rattle.std.proofs.Math.Seq.{take-add}
use Rattle.std.proofs.lemmas.List.{drop-drop, take_all, length-drop}
use Rattle.std.proofs.KnownBytes.{Appends-trans}
use Rattle.std.specs.Io.KnownBytes.{Appends}
use Rattle.outputs.proofs.counted.write_each.Goals as goal

-- m more bytes were taken
sent_more : (a b c : Option (List ℕ)) (bytes rest : List ℕ) (n m : ℕ) → Appends a b (take n bytes) → rest ≡ drop n bytes → Appends b c (take m rest)
    → (x : ℕ) × Appends a c (take x bytes) × (take (length rest - m) (drop m rest) ≡ drop x bytes)
sent_more a b c bytes rest n m before e now = (
  n + m,
  rw (take-add n m bytes) (Appends-trans a b c (take n bytes) (take m (drop n bytes)) before (rw e at now)),
  take_all (length rest - m) (drop m rest) (omega (arith, length-drop m rest)) ∙ ap (drop m) e ∙ drop-drop m n bytes,
)

pub loop-rest-preserved : goal.loop-rest-preserved
loop-rest-preserved g c =
    sent_more (g.W.Write.contents c.args.out.now) (g.W.Write.contents c.loop-rest.out) (g.W.Write.contents c.write.new.self) c.args.bytes.now c.loop-rest.rest.now c.loop-rest.invariant.0 c.in-Ok.n
    c.loop-rest.invariant.1 c.loop-rest.invariant.2 c.in-Ok.ensures.bytes
