-- What calls leave of the pages.
use Rattle.std.proofs.Common.{◌≡◌, ◌∙◌, refl, sym, ap, Bool, true, false, inl, inr, arith, drop}
use Rattle.std.specs.Prelude.{◌⊎◌}
use Rattle.legs.specs.Asking.{Leaves as IndexLeaves}
use Rattle.legs.specs.declared.listed.Listed.{Ghosts}
use Rattle.trajdb.specs.Database.{CoreView}
use Rattle.trajdb.specs.Calls.{HasIndexPages, IsUnwritten, KeepsPages, LeavesBook, LeavesPages}
use Rattle.trajdb.proofs.FaultLemmas.{leaves-refl, leaves-trans}

either : (b : Bool) → (b ≡ true) ⊎ (b ≡ false)
either true = inl refl
either false = inr refl

pub clash : (b : Bool) → b ≡ true → b ≡ false → ⊥
clash b t f = let e : true ≡ false = sym t ∙ f in cc

-- a question leaves them
pub keeps_leaves : {I : Type 0} (g : Ghosts I) (old new : CoreView I) → LeavesBook g old new → KeepsPages g old new
keeps_leaves g old new l = record {
  begun = λ b. l.begun ∙ b;
  idle = λ b f. l;
  pages = λ s h. record { begun = λ b. l.index.marked (h.begun (sym l.begun ∙ b)); idle = λ b f. l.index.clean (h.idle (sym l.begun ∙ b) (sym l.failed ∙ f)) };
  written = λ s h. record { marked = l.index.marked; clean = λ k. inr (record { others = ap (drop 1) (l.index.written k); first = λ rise. l.index.written k; sound = l.index.sound }) };
}

pub keeps-refl : {I : Type 0} (g : Ghosts I) (a : CoreView I) → KeepsPages g a a
keeps-refl g a = keeps_leaves g a a (leaves-refl g a)

unbegun : {I : Type 0} (g : Ghosts I) (b c : CoreView I) → KeepsPages g b c → c.begun ≡ false → (b.begun ≡ true) ⊎ (b.begun ≡ false) → b.begun ≡ false
unbegun g b c q f (inl t) = absurd (clash c.begun (q.begun t) f)
unbegun g b c q f (inr n) = n

unwritten : {I : Type 0} (g : Ghosts I) (a b c : I) → IndexLeaves g a b → g.is_clean a → g.is_marked c ⊎ IsUnwritten g b c → g.is_marked c ⊎ IsUnwritten g a c
unwritten g a b c l k (inl m) = inl m
unwritten g a b c l k (inr u) = inr (record {
  others = u.others ∙ ap (drop 1) (l.written k);
  first = λ rise. u.first (λ r. rise (let x = l.later.faults in omega (arith, x, r))) ∙ l.written k;
  sound = λ s. u.sound (l.sound s);
})

left_after : {I : Type 0} (g : Ghosts I) (a b c : CoreView I) → (b.begun ≡ true) ⊎ (b.begun ≡ false) → b.failed ≡ false → KeepsPages g a b → HasIndexPages g b → LeavesPages g b.index c.index → LeavesPages g a.index c.index
left_after g a b c (inl t) lives p h r = record { marked = λ m. r.marked (h.begun t); clean = λ k. inl (r.marked (h.begun t)) }
left_after g a b c (inr n) lives p h r =
    let l = (p.idle n lives).index in
    record { marked = λ m. r.marked (l.marked m); clean = λ k. unwritten g a.index b.index c.index l k (r.clean (l.clean k)) }

-- one call after others, that did not fail it
pub keeps-trans : {I : Type 0} (g : Ghosts I) (a b c : CoreView I) → b.failed ≡ false → (g.is_faithful a.index → g.is_faithful b.index) → KeepsPages g a b → KeepsPages g b c → KeepsPages g a c
keeps-trans g a b c lives stays p q = record {
  begun = λ t. q.begun (p.begun t);
  idle = λ n f. leaves-trans g a b c (p.idle (unbegun g b c q n (either b.begun)) lives) (q.idle n f);
  pages = λ f h. q.pages (stays f) (p.pages f h);
  written = λ f h. left_after g a b c (either b.begun) lives p (p.pages f h) (q.written (stays f) (p.pages f h));
}
