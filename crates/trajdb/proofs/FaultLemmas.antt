-- Why calls stopped.
use Rattle.std.proofs.Common.{ℕ, ◌+◌, ◌≤◌, ◌≡◌, ◌∙◌, refl, arith, List, Option, Some, None, All, Bool, [], ◌∷◌, eqb, inl, inr, length, ◌<◌}
use Rattle.std.specs.Prelude.{filter}
use Rattle.legs.specs.Legs.{LegView}
use Rattle.legs.specs.Book.{Book}
use Rattle.legs.specs.Law.{IsThere}
use Rattle.std.proofs.lemmas.List.FromFn.{sum_by-map-range_with_len_more, get_or-range_with_len, length-range_with_len}
use Rattle.std.proofs.lemmas.List.Elements.{All-filter, All-nil, All-cons, All-head, All-tail}
use Rattle.legs.proofs.GrowLemmas.{later-trans as index_later-trans, leaves-refl as index_leaves-refl, leaves-trans as index_leaves-trans}
use Rattle.legs.specs.declared.listed.Listed.{Ghosts}
use Rattle.trajdb.specs.declared.RunFault.{RunFault}
use Rattle.trajdb.specs.declared.RunFault.TheVariants.{Memory, Damaged}
use Rattle.std.specs.List.{range_with_len}
use Rattle.timebase.specs.Period.{PeriodView}
use Rattle.legs.specs.Costs.{ShapeView}
use Rattle.trajdb.specs.Answers.{track_of}
use Rattle.trajdb.specs.Picks.{Picks}
use Rattle.trajdb.specs.Database.{CoreView, IsSound}
use Rattle.trajdb.specs.Calls.{IsLater, LeavesBook, feature_bound, features_bound, IsText, IsRefused}

-- a text that was not made, of what is there
pub text_refused : {I : Type 0} (g : Ghosts I) (old new : CoreView I) (P : Type 0) (fault : RunFault) → IsText P fault → (IsSound g old → P) → IsRefused g old new fault
text_refused g old new P Memory text there = record { sound = λ s. tt; store = tt }
text_refused g old new P (Damaged page) text there = record { sound = λ s. text.1 (there s); store = tt }
text_refused g old new P _ text there = absurd text

pub later-trans : {I : Type 0} (g : Ghosts I) (a b c : CoreView I) → IsLater g a b → IsLater g b c → IsLater g a c
later-trans g a b c p q = record {
  limits = q.limits ∙ p.limits;
  index = index_later-trans g a.index b.index c.index p.index q.index;
}

-- legs that were found are there
pub there_among : (old new : Book) (p : LegView → Bool) (legs : List LegView) → All (IsThere old) old.legs → new ≡ old → legs ≡ filter p old.legs → All (IsThere new) legs
there_among old new p legs all same found = rw (same, found) (All-filter p (IsThere old) old.legs all)

pub there_track : (old new : Book) (o : Option ℕ) (legs : List LegView) → All (IsThere old) old.legs → new ≡ old → legs ≡ track_of o old.legs → All (IsThere new) legs
there_track old new None legs all same found = rw found (All-nil (IsThere new))
there_track old new (Some feature) legs all same found = there_among old new (λ leg. eqb leg.feature feature) legs all same found

pub picks_all : {T : Type 0} (P L : T → Type 0) (xs picked : List T) → All L xs → Picks P xs picked → All L picked
picks_all P L [] picked all h = rw h (All-nil L)
picks_all P L (x ∷ xs) picked all (inl (held, others, e, h)) = rw e (All-cons L x others (All-head L x xs all) (picks_all P L xs others (All-tail L x xs all) h))
picks_all P L (x ∷ xs) picked all (inr (unheld, h)) = picks_all P L xs picked (All-tail L x xs all) h

pub there_picked : (old new : Book) (P : LegView → Type 0) (legs found : List LegView) → All (IsThere old) old.legs → new ≡ old → legs ≡ found → Picks P old.legs found → All (IsThere new) legs
there_picked old new P legs found all same e h = rw (same, e) (picks_all P (IsThere old) old.legs found all h)

-- the numbers below one are below each that is no less
pub below : (n m : ℕ) → n ≤ m → All (λ f. f < m) (range_with_len 0 n)
below n m h = λ k d inside.
    let all = length-range_with_len 0 n in
    let less : k < n = omega (arith, inside, all) in
    let i = get_or-range_with_len 0 n k d less in
    omega (arith, i, less, h)

pub features_there : (old new : Book) (P : ℕ → Type 0) (features found : List ℕ) → new ≡ old → features ≡ found → Picks P (range_with_len 0 (length old.names)) found → All (λ f. f < length new.names) features
features_there old new P features found same e h = rw (same, e) (picks_all P (λ f. f < length old.names) (range_with_len 0 (length old.names)) found (below (length old.names) (length old.names) (omega arith)) h)

pub later-refl : {I : Type 0} (g : Ghosts I) (a : CoreView I) → IsLater g a a
later-refl g a = record { limits = refl; index = (index_leaves-refl g a.index).later }

pub leaves-refl : {I : Type 0} (g : Ghosts I) (a : CoreView I) → LeavesBook g a a
leaves-refl g a = record { book = refl; tracks = refl; begun = refl; sound = λ s. s; failed = refl; limits = refl; index = index_leaves-refl g a.index }

pub leaves-trans : {I : Type 0} (g : Ghosts I) (a b c : CoreView I) → LeavesBook g a b → LeavesBook g b c → LeavesBook g a c
leaves-trans g a b c p q = record {
  book = q.book ∙ p.book;
  tracks = q.tracks ∙ p.tracks;
  begun = q.begun ∙ p.begun;
  sound = λ s. q.sound (p.sound s);
  failed = q.failed ∙ p.failed;
  limits = q.limits ∙ p.limits;
  index = index_leaves-trans g a.index b.index c.index p.index q.index;
}

-- the bounds of features, with one more
pub bound_more : (k : ℕ) (period : PeriodView) (plan : Option ShapeView) (legs : List LegView) → features_bound (range_with_len 0 (k + 1)) period plan legs ≡ features_bound (range_with_len 0 k) period plan legs + feature_bound k period plan legs
bound_more k period plan legs = sum_by-map-range_with_len_more (λ bound. bound) (λ feature. feature_bound feature period plan legs) 0 k k (let e : 0 + k ≡ k = omega arith in e)

pub there_all : (old new : Book) (legs : List LegView) → All (IsThere old) old.legs → new ≡ old → legs ≡ old.legs → All (IsThere new) legs
there_all old new legs all same found = rw (same, found) all
