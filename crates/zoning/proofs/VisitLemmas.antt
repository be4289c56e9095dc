-- Visits, one stay more at a time.
use Rattle.std.proofs.Common.{ℕ, ℤ, ◌≡◌, ◌<◌, [], Bool, true, false, List, All, pos, ◌+ℤ◌, ◌*ℤ◌, ◌≤ℤ◌, ◌<ℤ◌, arith, subst, refl}
use Rattle.std.specs.Prelude.{◌==◌, ◌&&◌}
use Rattle.std.specs.Ordering.{int_eq}
use Rattle.std.proofs.lemmas.Bool.{false≢true}
use Rattle.std.proofs.lemmas.Bool.Decides.{Decides-int_eq, nat_tests}
use Rattle.std.proofs.lemmas.Int.{ints}
use Rattle.std.proofs.lemmas.List.Elements.{All-nil}
use Rattle.clipping.proofs.Fractions.{through}
use Rattle.visiting.proofs.JoinLemmas.{all_hold}
use Rattle.visiting.proofs.LengthLemmas as lengths
use Rattle.zoning.specs.Lengths.{IsBetween, IsNotAfter, least_of, most_of}
use Rattle.zoning.specs.Parts.{numerator_of}
use Rattle.zoning.specs.Visits.{goes_on, visit_of, visit_with, visits_of}
use Rattle.zoning.specs.declared.stay.Stay.{Stay}
use Rattle.zoning.specs.declared.visits.Visit.{Visit}

pub between_of : (visit : Visit) → IsNotAfter visit.enters visit.leaves → IsBetween visit.enters visit.leaves (least_of visit) (most_of visit)
between_of visit = lengths.between_of (numerator_of visit.enters) (numerator_of visit.leaves) visit.enters.den visit.leaves.den visit.enters.positive visit.leaves.positive

-- no visit ends before it begins, where no stay does
abbrev pub IsForward : Visit → Type 0
IsForward visit = IsNotAfter visit.enters visit.leaves

abbrev pub IsForwardStay : Stay → Type 0
IsForwardStay stay = IsNotAfter stay.enters stay.leaves

both_tests : (a b : Bool) → (a && b) ≡ true → (a ≡ true) × (b ≡ true)
both_tests true true e = (refl, refl)
both_tests true false e = absurd (false≢true e)
both_tests false b e = absurd (false≢true e)

-- the ends of moments that are the same
same_ends : (last : Visit) (stay : Stay) → goes_on last stay ≡ true → (numerator_of last.leaves ≡ numerator_of stay.enters) × (last.leaves.den ≡ stay.enters.den)
same_ends last stay e =
    let one = both_tests (int_eq last.leaves.whole stay.enters.whole && (last.leaves.rest == stay.enters.rest)) (last.leaves.den == stay.enters.den) e in
    let two = both_tests (int_eq last.leaves.whole stay.enters.whole) (last.leaves.rest == stay.enters.rest) one.0 in
    let rest_test = two.1 in
    let den_test = one.1 in
    let whole : last.leaves.whole ≡ stay.enters.whole = (Decides-int_eq last.leaves.whole stay.enters.whole).0 two.0 in
    let rest : last.leaves.rest ≡ stay.enters.rest = grind (arith, nat_tests, rest_test) in
    let den : last.leaves.den ≡ stay.enters.den = grind (arith, nat_tests, den_test) in
    (λ i. whole i *ℤ pos (den i) +ℤ pos (rest i), den)

positive_pos : (d : ℕ) → 0 < d → pos 0 <ℤ pos d
positive_pos d h = omega (arith, ints, h)

-- n / d ≤ m / e, which is n' / d', and n' / d' ≤ k / f
join : (n m n' k : ℤ) (d e d' f : ℕ) → 0 < d → 0 < d' → 0 < f → m ≡ n' → e ≡ d' → (n *ℤ pos e) ≤ℤ (m *ℤ pos d) → (n' *ℤ pos f) ≤ℤ (k *ℤ pos d') → (n *ℤ pos f) ≤ℤ (k *ℤ pos d)
join n m n' k d e d' f d0 d0' f0 same den h g =
    let first : (n *ℤ pos d') ≤ℤ (n' *ℤ pos d) =
    subst (λ (z : ℤ). (n *ℤ pos d') ≤ℤ (z *ℤ pos d)) same (subst (λ (q : ℕ). (n *ℤ pos q) ≤ℤ (m *ℤ pos d)) den h) in
    through n (pos d) n' (pos d') k (pos f) (positive_pos d d0) (positive_pos d' d0') (positive_pos f f0) first g

forward_more : (last : Visit) (stay : Stay) → IsForward last → IsForwardStay stay → goes_on last stay ≡ true → IsForward (visit_with last stay)
forward_more last stay h k e =
    let same = same_ends last stay e in
    join (numerator_of last.enters) (numerator_of last.leaves) (numerator_of stay.enters) (numerator_of stay.leaves) last.enters.den last.leaves.den stay.enters.den stay.leaves.den
    last.enters.positive stay.enters.positive stay.leaves.positive same.0 same.1 h k

pub forward_all : (stays : List Stay) → All IsForwardStay stays → All IsForward (visits_of stays)
forward_all stays = all_hold (λ (visit : Visit). visit.feature) (λ (stay : Stay). stay.leg.feature) visit_of goes_on visit_with IsForward IsForwardStay (λ stay h. h) forward_more stays [] (All-nil IsForward)
