use Rattle.std.proofs.lemmas.Bool.Decides.{nat_tests}
use Rattle.std.proofs.Common.{arith, rules, ◌≡◌, ◌∙◌, ◌∷◌, ap, sym, subst, refl, IsTrue, Bool, true, false}
use Rattle.trajdb.specs.Calls.{HasLoad, IsLoadLine}
use Rattle.trajdb.specs.Script.{lines_of}
use Rattle.trajdb.proofs.LineLemmas.{lines_behind, load_behind, load_later, no_load}
use Rattle.trajdb.proofs.script.has_load.Goals as goal

not_true : (b : Bool) → b ≡ false → IsTrue b → ⊥
not_true false e t = search rules
not_true true e t = absurd (search rules)

pub loop-rest-preserved : goal.loop-rest-preserved
loop-rest-preserved c =
    let line = c.without_return.result.now in
    let lines : lines_of c.loop-rest.rest.now ≡ line ∷ lines_of c.first_piece.result.1.now =
    lines_behind c.loop-rest.rest.now c.first_piece.result.0.now c.first_piece.result.1.now c.first_piece.ensures.pieces
    ∙ ap (λ l. l ∷ lines_of c.first_piece.result.1.now) (sym c.without_return.ensures) in
    let none : IsLoadLine line → ⊥ = λ is. not_true c.in_ok-is_load.field-0 c.if-branch.false (c.in_ok-is_load.ensures.load.1 is) in
    record {
      behind = λ has. load_behind line (lines_of c.first_piece.result.1.now) none (subst HasLoad lines (c.loop-rest.invariant.behind has));
      within = λ has. c.loop-rest.invariant.within (subst HasLoad (sym lines) (load_later line (lines_of c.first_piece.result.1.now) has));
    }

pub returns-clause-load : goal.returns-clause-load
returns-clause-load c = (λ is. absurd (not_true false refl is), λ has. absurd (no_load c.loop-rest.rest.now (grind (arith, nat_tests)) (c.loop-rest.invariant.behind has)))
