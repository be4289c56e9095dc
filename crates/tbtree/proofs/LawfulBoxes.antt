-- The least box that holds two boxes: it is the same in either order, and of three in either grouping.
use Rattle.std.proofs.Common.{◌≡◌, ℤ, arith}
use Rattle.std.proofs.lemmas.Int.{ints, clamps}
use Rattle.std.specs.Int.{int_max, int_min}
use Rattle.legs.specs.Hull.{Boxes, leg_boxes}

pub record AreLawful {L B : Type 0} (s : Boxes L B) : Type 0 where
  pub assoc : (a b c : B) → s.cover (s.cover a b) c ≡ s.cover a (s.cover b c)
  pub comm : (a b : B) → s.cover a b ≡ s.cover b a

min_assoc : (a b c : ℤ) → int_min (int_min a b) c ≡ int_min a (int_min b c)
min_assoc a b c = omega (arith, ints, clamps)

max_assoc : (a b c : ℤ) → int_max (int_max a b) c ≡ int_max a (int_max b c)
max_assoc a b c = omega (arith, ints, clamps)

min_comm : (a b : ℤ) → int_min a b ≡ int_min b a
min_comm a b = omega (arith, ints, clamps)

max_comm : (a b : ℤ) → int_max a b ≡ int_max b a
max_comm a b = omega (arith, ints, clamps)

pub lawful : AreLawful leg_boxes
lawful = record {
  assoc = λ a b c i. record {
    x_min = min_assoc a.x_min b.x_min c.x_min i;
    y_min = min_assoc a.y_min b.y_min c.y_min i;
    t_min = min_assoc a.t_min b.t_min c.t_min i;
    x_max = max_assoc a.x_max b.x_max c.x_max i;
    y_max = max_assoc a.y_max b.y_max c.y_max i;
    t_max = max_assoc a.t_max b.t_max c.t_max i;
  };
  comm = λ a b i. record {
    x_min = min_comm a.x_min b.x_min i;
    y_min = min_comm a.y_min b.y_min i;
    t_min = min_comm a.t_min b.t_min i;
    x_max = max_comm a.x_max b.x_max i;
    y_max = max_comm a.y_max b.y_max i;
    t_max = max_comm a.t_max b.t_max i;
  };
}
