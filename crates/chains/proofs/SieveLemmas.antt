-- What a sieve keeps of legs, part by part.
use Rattle.std.proofs.Common.{ℕ, suc, ◌≡◌, ◌<◌, ◌≤◌, Bool, true, false, cond, List, [], ◌∷◌, ◌++◌, drop, take, refl, sym, ap, ◌∙◌, subst, inl, inr, append_assoc, Option, Some, None, slice_get, ◌<ℤ◌}
use Rattle.std.specs.Prelude.{reverse, ◌&&◌}
use Rattle.std.specs.List.{filter, find}
use Rattle.std.specs.Option.{option_or}
use Rattle.std.proofs.lemmas.Bool.{and_parts}
use Rattle.std.proofs.lemmas.List.{append-nil, reverse-append}
use Rattle.std.proofs.lemmas.List.Folds.{find-append}
use Rattle.timebase.specs.Period.{PeriodView}
use Rattle.legs.specs.Boxes.{is_near}
use Rattle.legs.specs.Legs.{LegView, is_live}
use Rattle.legs.specs.Sieves.{IsSieved, LeavesOut, MayGo}
use Rattle.legs.specs.declared.sieve.Sieve.{Sieve}
use Rattle.legs.specs.declared.sieve.Sieve.TheVariants as sieve
use Rattle.chains.specs.Taking.{HasTaken, IsFirstLive, IsLastLive, IsTaken, PutsSome, is_wanted}
use Rattle.chains.specs.Links.{is_kept}
use Rattle.chains.proofs.KeepLemmas.{drop_at}
use Rattle.chains.proofs.LiveLemmas.{get_taken, kept_ends, kept_single, past_taken}
use Rattle.legs.proofs.SieveLaws.{leaves_none, sieved_same, sieved_self}

module _ (May : LegView → Type 0) where
  leaves_then : (a b x y : List LegView) → LeavesOut May a x → LeavesOut May b y → LeavesOut May (a ++ b) (x ++ y)
  leaves_then [] b x y h k = subst (λ l. LeavesOut May b (l ++ y)) (sym h) k
  leaves_then (leg ∷ a) b x y (inl h) k = inl (h.0 ++ y, ap (λ l. l ++ y) h.1, leaves_then a b h.0 y h.2 k)
  leaves_then (leg ∷ a) b x y (inr h) k = inr (h.0, leaves_then a b x y h.1 k)

-- all may go
all_out : (period : PeriodView) (legs : List LegView) → LeavesOut (MayGo sieve.Ends period) legs []
all_out period [] = refl
all_out period (leg ∷ legs) = inr (tt, all_out period legs)

-- a live leg that is not wanted may go
and_false : (a b : Bool) → a ≡ false → (a && b) ≡ false
and_false true b e = absurd cc
and_false false b e = refl

pub may_go : (s : Sieve) (period : PeriodView) (leg : LegView) → leg.t0 <ℤ leg.t1 → is_wanted s leg ≡ false → MayGo s period leg
may_go sieve.All period leg rises e = absurd cc
may_go sieve.Ends period leg rises e = tt
may_go (sieve.Near rect) period leg rises e = record { rises = rises; apart = and_false (is_near rect leg) _ e }

-- nothing is sieved of nothing
pub none_taken : (period : Option PeriodView) (s : Sieve) (legs old : List LegView) → legs ≡ [] → HasTaken period s legs old old
none_taken None s legs old e = ([], sym (append-nil old), sym e)
none_taken (Some period) s legs old e =
    ([], sym (append-nil old), sieved_same s period legs [] (sym e))

last_then : (p : LegView → Bool) (xs ys : List LegView) → find p (reverse (xs ++ ys)) ≡ option_or (find p (reverse ys)) (find p (reverse xs))
last_then p xs ys = ap (find p) (reverse-append xs ys) ∙ find-append p (reverse ys) (reverse xs)

-- of legs before others
sieved_then : (s : Sieve) (period : PeriodView) (a b x y : List LegView) → IsSieved s period a x → IsSieved s period b y → IsSieved s period (a ++ b) (x ++ y)
sieved_then s period a b x y h k = record {
  of = leaves_then (MayGo s period) a b x y h.of k.of;
  first =
      find-append (is_live period) x y ∙ ap (λ o. option_or o (find (is_live period) y)) h.first ∙ ap (λ o. option_or (find (is_live period) a) o) k.first
      ∙ sym (find-append (is_live period) a b);
  last =
      last_then (is_live period) x y ∙ ap (λ o. option_or o (find (is_live period) (reverse x))) k.last
      ∙ ap (λ o. option_or (find (is_live period) (reverse b)) o) h.last ∙ sym (last_then (is_live period) a b);
}

taken_then : (period : Option PeriodView) (s : Sieve) (a b x y : List LegView) → IsTaken period s a x → IsTaken period s b y → IsTaken period s (a ++ b) (x ++ y)
taken_then None s a b x y h k = ap (λ l. l ++ y) h ∙ ap (λ l. a ++ l) k
taken_then (Some period) s a b x y h k = sieved_then s period a b x y h k

-- more is taken, of legs before those of which was taken
pub then_taken : (period : Option PeriodView) (s : Sieve) (a b base old new : List LegView) → HasTaken period s b base old → HasTaken period s a old new
    → HasTaken period s (a ++ b) base new
then_taken period s a b base old new h k = (
  k.0 ++ h.0,
  k.1 ∙ ap (λ l. l ++ reverse k.0) h.1 ∙ append_assoc base (reverse h.0) (reverse k.0) ∙ ap (λ l. base ++ l) (sym (reverse-append k.0 h.0)),
  taken_then period s a b k.0 h.0 k.2 h.2,
)

-- the first and the last live leg, and what is between them
module _ (s : Sieve) (period : PeriodView) (legs : List LegView) where
  abbrev p : LegView → Bool
  p = is_live period

  first_of : (a : LegView) (xs : List LegView) → p a ≡ true → find p (a ∷ xs) ≡ Some a
  first_of a xs t = ap (λ v. cond v (Some a) (find p xs)) t

  last_of : (b : LegView) (xs : List LegView) → p b ≡ true → find p (reverse (xs ++ b ∷ [])) ≡ Some b
  last_of b xs t = ap (find p) (reverse-append xs (b ∷ [])) ∙ first_of b (reverse xs) t

  pub one_taken : (f l : ℕ) (old new : List LegView) → l ≤ f → (h : IsFirstLive period legs (Some f)) → (k : IsLastLive period legs (Some l)) → new ≡ old ++ k.0.leg ∷ []
      → HasTaken (Some period) s (filter (is_kept (Some period)) legs) old new
  one_taken f l old new less h k e =
      let only : filter p legs ≡ k.0.leg ∷ [] = kept_single p legs f l k.0.leg less k.0.is k.0.live h.1 k.1 in (
        k.0.leg ∷ [],
        e,
        subst (λ x. IsSieved s period x (k.0.leg ∷ [])) (sym only) (sieved_self s period (k.0.leg ∷ [])),
      )

  pub two_taken : (f l : ℕ) (old mid then_ new : List LegView) → f < l → (h : IsFirstLive period legs (Some f)) → (k : IsLastLive period legs (Some l))
      → mid ≡ old ++ k.0.leg ∷ [] → PutsSome s period (filter p (drop (suc f) (take l legs))) mid then_ → new ≡ then_ ++ h.0.leg ∷ []
      → HasTaken (Some period) s (filter (is_kept (Some period)) legs) old new
  two_taken f l old mid then_ new less h k e between n =
      let a = h.0.leg in
      let b = k.0.leg in
      let inner = filter p (drop (suc f) (take l legs)) in
      let all : filter p legs ≡ a ∷ (inner ++ b ∷ []) = kept_ends p legs f l a b less h.0.is k.0.is h.0.live k.0.live h.1 k.1 in
      let some = a ∷ (between.0 ++ b ∷ []) in
      let turned : reverse some ≡ (b ∷ []) ++ (reverse between.0 ++ a ∷ []) =
      reverse-append (a ∷ []) (between.0 ++ b ∷ []) ∙ ap (λ l. l ++ a ∷ []) (reverse-append between.0 (b ∷ [])) in (
        some,
        n ∙ ap (λ l. l ++ a ∷ []) (between.1 ∙ ap (λ l. l ++ reverse between.0) e ∙ append_assoc old (b ∷ []) (reverse between.0))
            ∙ append_assoc old (b ∷ reverse between.0) (a ∷ []) ∙ ap (λ l. old ++ l) (sym turned),
        subst (λ x. IsSieved s period x some) (sym all)
            (record {
              of = inl (between.0 ++ b ∷ [], refl, leaves_then (MayGo s period) inner (b ∷ []) between.0 (b ∷ []) between.2 (leaves_none (MayGo s period) (b ∷ [])));
              first = first_of a (between.0 ++ b ∷ []) h.0.live ∙ sym (first_of a (inner ++ b ∷ []) h.0.live);
              last = last_of b (a ∷ between.0) k.0.live ∙ sym (last_of b (a ∷ inner) k.0.live);
            }),
      )

-- nothing between them is put, where all may go
pub puts_none : (period : PeriodView) (legs old : List LegView) → PutsSome sieve.Ends period legs old old
puts_none period legs old = ([], sym (append-nil old), all_out period legs)

-- between the ends, one leg more
module _ (s : Sieve) (period : PeriodView) (legs : List LegView) (i l : ℕ) (leg : LegView) (base old : List LegView) where
  abbrev live : LegView → Bool
  live = is_live period

  abbrev from : ℕ → List LegView
  from k = filter live (drop k (take l legs))

  here : i < l → slice_get legs i ≡ Some leg → from i ≡ cond (live leg) (leg ∷ from (suc i)) (from (suc i))
  here less e = ap (filter live) (drop_at (take l legs) i leg (get_taken legs i l less ∙ e))

  pub puts_on : (new : List LegView) → i < l → slice_get legs i ≡ Some leg → (live leg && is_wanted s leg) ≡ true → new ≡ old ++ leg ∷ []
      → PutsSome s period (from (suc i)) base old → PutsSome s period (from i) base new
  puts_on new less e w n h =
      let all : from i ≡ leg ∷ from (suc i) = here less e ∙ ap (λ b. cond b (leg ∷ from (suc i)) (from (suc i))) (and_parts (live leg) (is_wanted s leg) w).0 in (
        leg ∷ h.0,
        n ∙ ap (λ x. x ++ leg ∷ []) h.1 ∙ append_assoc base (reverse h.0) (leg ∷ []) ∙ ap (λ x. base ++ x) (sym (reverse-append (leg ∷ []) h.0)),
        subst (λ x. LeavesOut (MayGo s period) x (leg ∷ h.0)) (sym all) (inl (h.0, refl, h.2)),
      )

  pub puts_by : leg.t0 <ℤ leg.t1 → i < l → slice_get legs i ≡ Some leg → (live leg && is_wanted s leg) ≡ false
      → PutsSome s period (from (suc i)) base old → PutsSome s period (from i) base old
  puts_by rises less e w h = (h.0, h.1, subst (λ x. LeavesOut (MayGo s period) x h.0) (sym (here less e)) (by (live leg) w))
    where
      by : (b : Bool) → (b && is_wanted s leg) ≡ false → LeavesOut (MayGo s period) (cond b (leg ∷ from (suc i)) (from (suc i))) h.0
      by true e = inr (may_go s period leg rises e, h.2)
      by false e = h.2

pub puts_first : (s : Sieve) (period : PeriodView) (legs base : List LegView) (l : ℕ) → PutsSome s period (filter (is_live period) (drop l (take l legs))) base base
puts_first s period legs base l =
    ([], sym (append-nil base), subst (λ x. LeavesOut (MayGo s period) (filter (is_live period) x) []) (sym (past_taken legs l)) refl)

-- without a period all is taken
all_kept : (legs : List LegView) → filter (is_kept None) legs ≡ legs
all_kept [] = refl
all_kept (leg ∷ legs) = ap (λ l. leg ∷ l) (all_kept legs)

pub whole_taken : (s : Sieve) (legs old new : List LegView) → new ≡ old ++ reverse legs → HasTaken None s (filter (is_kept None) legs) old new
whole_taken s legs old new e = (legs, e, sym (all_kept legs))
