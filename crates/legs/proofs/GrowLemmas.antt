-- Legs put at the end of an index, one after another.
use Rattle.std.proofs.lemmas.Int.{clamps}
use Rattle.std.proofs.Common.{◌+◌, ◌≡◌, ◌≤◌, ◌∙◌, ◌++◌, true, Err, ◌∷◌, [], false, ap, sym, subst, refl, length, All, None, List, arith, append_assoc}
use Rattle.legs.specs.Legs.{IsLeg, LegView}
use Rattle.legs.specs.Places.{ListView}
use Rattle.legs.specs.Questions.{answer_in}
use Rattle.legs.specs.Finding.{no_finding}
use Rattle.legs.specs.Index.{feature_count, CanFollowInTurn}
use Rattle.legs.specs.Asking.{LegRefusals, Grows, IsLater, Leaves}
use Rattle.legs.specs.declared.index.IndexFault.{IndexFault}
use Rattle.legs.specs.declared.index.IndexFault.TheVariants as index
use Rattle.legs.specs.declared.listed.Listed.{Ghosts}

-- what contracts say of an index that keeps a list
abbrev pub list_words : Ghosts ListView
list_words = record {
  content = λ index. index.legs;
  tells = λ index question legs. legs ≡ answer_in question index.legs;
  denies = λ index question page. ⊥;
  counted = λ index. length index.legs;
  features = λ index. feature_count index.legs;
  is_sound = λ index. (index.spent ≡ false) × All IsLeg index.legs;
  is_spent = λ index. index.spent;
  faults = λ index. 0;
  is_store_full = λ index. ⊥;
  asked = λ index. 0;
  plan = λ index. None;
  found_by = λ index. no_finding;
  is_faithful = λ index. ⊥;
  is_clean = λ index. ⊥;
  is_marked = λ index. ⊥;
  is_synced = λ index. Unit {0};
  written = λ index. [];
}

-- what is left to put makes of the index what all makes of it
abbrev pub IsGrowing : {I : Type 0} → Ghosts I → I → I → List LegView → List LegView → Type 0
IsGrowing g old now all left =
    g.is_sound old → CanFollowInTurn (g.content old) all
    → g.is_sound now × CanFollowInTurn (g.content now) left × (g.content now ++ left ≡ g.content old ++ all)

pub growing-more : {I : Type 0} (g : Ghosts I) (old now new : I) (all left : List LegView) (leg : LegView)
    → IsGrowing g old now all (leg ∷ left) → Grows g now new (leg ∷ []) → IsGrowing g old new all left
growing-more g old now new all left leg so_far more = λ sound turn.
    let at = so_far sound turn in
    let ends = more at.0 (at.1.0, tt) in
    let content : g.content new ≡ g.content now ++ leg ∷ [] = ends.content in (
      ends.sound,
      subst (λ (ls : List LegView). CanFollowInTurn ls left) (sym content) at.1.1,
      ap (λ (ls : List LegView). ls ++ left) content ∙ append_assoc (g.content now) (leg ∷ []) left ∙ at.2,
    )

-- a leg that is refused spends the index
pub growing-refused : {I : Type 0} (g : Ghosts I) (old now new : I) (all left : List LegView) (leg : LegView) (fault : IndexFault) → (g.is_spent old ≡ true → ⊥) → g.faults old ≤ g.faults now → IsGrowing g old now all (leg ∷ left)
    → LegRefusals {A = Unit {0}} g now new (leg ∷ []) (Err fault) → LegRefusals {A = Unit {0}} g old new all (Err fault)
growing-refused g old now new all left leg fault works faults so_far r = record {
  spent = r.spent;
  was_spent = λ e. absurd (works e);
  sound = λ s w. (let at = so_far s w in r.sound at.0 (at.1.0, tt));
  store = λ e. (let risen = r.store e in omega (arith, clamps, faults, risen));
  full = r.full;
}

pub later-trans : {I : Type 0} (g : Ghosts I) (a b c : I) → IsLater g a b → IsLater g b c → IsLater g a c
later-trans g a b c p q = record {
  plan = q.plan ∙ p.plan;
  faults = let x = p.faults in let y = q.faults in omega (arith, x, y);
  asked = let x = p.asked in let y = q.asked in omega (arith, x, y);
  faithful = λ f. q.faithful (p.faithful f);
}

pub leaves-refl : {I : Type 0} (g : Ghosts I) (a : I) → Leaves g a a
leaves-refl g a = record {
  content = refl;
  told = λ q l h. h;
  denied = λ q n h. h;
  sound = λ s. s;
  spent = refl;
  found_by = refl;
  later = record { plan = refl; faults = omega arith; asked = omega arith; faithful = λ f. f };
  clean = λ c. c;
  marked = λ m. m;
  written = λ c. refl;
}

pub leaves-trans : {I : Type 0} (g : Ghosts I) (a b c : I) → Leaves g a b → Leaves g b c → Leaves g a c
leaves-trans g a b c p q = record {
  content = q.content ∙ p.content;
  told = λ x l h. p.told x l (q.told x l h);
  denied = λ x n h. p.denied x n (q.denied x n h);
  sound = λ s. q.sound (p.sound s);
  spent = q.spent ∙ p.spent;
  found_by = q.found_by ∙ p.found_by;
  later = later-trans g a b c p.later q.later;
  clean = λ x. q.clean (p.clean x);
  marked = λ x. q.marked (p.marked x);
  written = λ x. q.written (p.clean x) ∙ p.written x;
}
