-- Two legs are one exactly where they are the same in all that is known of them.
use Rattle.std.proofs.Common.{ℕ, ℤ, ◌≡◌, ◌∙◌, sym, refl, subst, true, false}
use Rattle.std.specs.Prelude.{◌==◌}
use Rattle.std.specs.Ordering.{int_eq}
use Rattle.std.proofs.lemmas.Bool.{eq-eqb, eqb-true, false≢true}
use Rattle.std.proofs.lemmas.Bool.Decides.{Decides-int_eq}
use Rattle.legs.specs.Legs.{LegView}
use Rattle.predicates.proofs.CourseLemmas.{and_parts, and_true}
use Rattle.zoning.specs.Holding.{same_leg}

int_from : (a b : ℤ) → int_eq a b ≡ true → a ≡ b
int_from a b e = (Decides-int_eq a b).0 e

int_self : (a : ℤ) → int_eq a a ≡ true
int_self a = (Decides-int_eq a a).1 refl

nat_self : (a : ℕ) → (a == a) ≡ true
nat_self a = eq-eqb a a refl

pub same_from : (a b : LegView) → same_leg a b ≡ true → a ≡ b
same_from a b e =
    let s1 = and_parts (a.ordinal == b.ordinal) _ e in
    let s2 = and_parts (a.feature == b.feature) _ s1.1 in
    let s3 = and_parts (a.row == b.row) _ s2.1 in
    let s4 = and_parts (int_eq a.t0 b.t0) _ s3.1 in
    let s5 = and_parts (int_eq a.t1 b.t1) _ s4.1 in
    let s6 = and_parts (int_eq a.x0 b.x0) _ s5.1 in
    let s7 = and_parts (int_eq a.y0 b.y0) _ s6.1 in
    let s8 = and_parts (int_eq a.z0 b.z0) _ s7.1 in
    let s9 = and_parts (int_eq a.x1 b.x1) _ s8.1 in
    let s10 = and_parts (int_eq a.y1 b.y1) (int_eq a.z1 b.z1) s9.1 in
    let ordinal = eqb-true a.ordinal b.ordinal s1.0 in
    let feature = eqb-true a.feature b.feature s2.0 in
    let row = eqb-true a.row b.row s3.0 in
    let t0 = int_from a.t0 b.t0 s4.0 in
    let t1 = int_from a.t1 b.t1 s5.0 in
    let x0 = int_from a.x0 b.x0 s6.0 in
    let y0 = int_from a.y0 b.y0 s7.0 in
    let z0 = int_from a.z0 b.z0 s8.0 in
    let x1 = int_from a.x1 b.x1 s9.0 in
    let y1 = int_from a.y1 b.y1 s10.0 in
    let z1 = int_from a.z1 b.z1 s10.1 in
    λ i. record {
      ordinal = ordinal i;
      feature = feature i;
      t0 = t0 i;
      t1 = t1 i;
      x0 = x0 i;
      y0 = y0 i;
      z0 = z0 i;
      x1 = x1 i;
      y1 = y1 i;
      z1 = z1 i;
      row = row i;
    }

same_self : (a : LegView) → same_leg a a ≡ true
same_self a =
    and_true _ _ (nat_self a.ordinal)
    (and_true _ _ (nat_self a.feature)
    (and_true _ _ (nat_self a.row)
    (and_true _ _ (int_self a.t0)
    (and_true _ _ (int_self a.t1)
    (and_true _ _ (int_self a.x0)
    (and_true _ _ (int_self a.y0)
    (and_true _ _ (int_self a.z0)
    (and_true _ _ (int_self a.x1)
    (and_true _ _ (int_self a.y1) (int_self a.z1))))))))))

pub same_one : (a b : LegView) → same_leg a b ≡ false → a ≡ b → ⊥
same_one a b e h = false≢true (sym e ∙ subst (λ (l : LegView). same_leg a l ≡ true) h (same_self a))
