-- Which legs of a store of version 1 are opened.
use Rattle.std.proofs.Common.{◌≡◌, ◌≢◌, ◌<◌, ◌≤◌, ◌+◌, ◌∙◌, ◌∷◌, ℕ, zero, suc, List, [], slice_get, Option, Some, None, true, false, cond, nat_eq, refl, sym, ap, subst, arith, ⊎_elim}
use Rattle.std.specs.Cmp.{nat_eq_equiv}
use Rattle.std.specs.Map.{lookup}
use Rattle.std.specs.Option.{IsSome}
use Rattle.std.proofs.lemmas.Bool.{cases_lt, eqb-true}
use Rattle.legs.specs.Boxes.{BoxView}
use Rattle.legs.specs.Index.{MayRefuseLeg}
use Rattle.legs.specs.Legs.{LegView}
use Rattle.pagecache.specs.declared.fault.CacheFault.TheVariants as cache
use Rattle.tbtree.specs.Turn.{IsPast, IsRising}
use Rattle.tbtree.specs.Descent.{legs_in}
use Rattle.tbtree.specs.Faults.{MayRefuseRead}
use Rattle.tbtree.specs.Nodes.{Pages}
use Rattle.tbtree.specs.declared.fault.TreeFault.{TreeFault}
use Rattle.tbtree.specs.declared.fault.TreeFault.TheVariants.{Cache as OfCache, Malformed, Spent}
use Rattle.boxsearch.specs.Answers.{of_tree}
use Rattle.version1.specs.OldLegs.{AreOpened, HaveEachOf, IsNumbered, IsOneOf, IsOpened, Opens}
use Rattle.treecheck.specs.declared.walking.Met.{Met}
use Rattle.version1.proofs.TakingLemmas.{numbered_at, length_numbered}
use Rattle.treecheck.proofs.SurveyLemmas.{get_at}
use Rattle.treecheck.proofs.WalkLemmas.{same_some}

-- what good pages allow of a search they allow of a leg
pub allowed_leg : (fault : TreeFault) → MayRefuseRead fault → MayRefuseLeg (of_tree fault)
allowed_leg (OfCache cache.NoPage) h = absurd h
allowed_leg (OfCache cache.Store) h = tt
allowed_leg (OfCache (cache.Damaged n)) h = absurd h
allowed_leg (OfCache cache.StoreFull) h = absurd h
allowed_leg (OfCache cache.Memory) h = tt
allowed_leg (Malformed n) h = absurd h
allowed_leg Spent h = absurd h

pub not_none : {X : Type 0} (o : Option X) → ((x : X) → o ≡ Some x → ⊥) → IsSome o → ⊥
not_none None h s = let no : false ≡ true = s in absurd (cc)
not_none (Some x) h s = h x refl

-- a leg is put to those that are opened
module _ (old new : List (ℕ × LegView)) (k : ℕ) (leg : LegView) (step : (q : ℕ) → lookup (nat_eq q) new ≡ cond (nat_eq k q) (Some leg) (lookup (nat_eq q) old)) where
  pub put_keeps : (o : ℕ) → IsOpened old o → IsOpened new o
  put_keeps o h = subst IsSome (sym (step o)) (elim (nat_eq k o) as (λ b. IsSome (cond b (Some leg) (lookup (nat_eq o) old))) [ true ↦ refl | false ↦ h ])

  pub put_is : IsOpened new k
  put_is = subst IsSome (sym (step k)) (subst (λ b. IsSome (cond b (Some leg) (lookup (nat_eq k) old))) (sym (nat_eq_equiv.refl k)) refl)

module _ {X : Type 0} (num : X → ℕ) where
  past_at : (a : ℕ) (xs : List X) (j : ℕ) (y : X) → IsPast num a xs → slice_get xs j ≡ Some y → a < num y
  past_at a [] j y p e = let none : None ≡ Some y = e in absurd (cc)
  past_at a (x ∷ xs) zero y p e = subst (λ z. a < num z) (same_some x y e) p.0
  past_at a (x ∷ xs) (suc j) y p e = past_at a xs j y p.1 e

  -- what stands later in a rising list has a higher number
  rising_apart : (xs : List X) (i j : ℕ) (x y : X) → IsRising num xs → slice_get xs i ≡ Some x → slice_get xs j ≡ Some y → i < j → num x < num y
  rising_apart [] i j x y r e g l = let none : None ≡ Some x = e in absurd (cc)
  rising_apart (z ∷ xs) i zero x y r e g l = absurd (omega (arith, l))
  rising_apart (z ∷ xs) zero (suc j) x y r e g l = subst (λ z. num z < num y) (same_some z x e) (past_at (num z) xs j y r.0 g)
  rising_apart (z ∷ xs) (suc i) (suc j) x y r e g l = rising_apart xs i j x y r.1 e g (omega (arith, l))

module _ (nodes : Pages LegView BoxView) (leaves : List Met) where
  pub opened_none : (opened : List (ℕ × LegView)) → AreOpened nodes leaves 0 0 0 opened
  opened_none opened = record { done = λ k m e l. absurd (omega (arith, l)); left = λ k m e l. omega arith }

  -- the leaf behind those that are opened, where there is one, does not begin with the next leg
  pub opened_on : (next n : ℕ) (opened : List (ℕ × LegView)) → IsRising (λ (m : Met). m.first) leaves → ((m : Met) → slice_get leaves next ≡ Some m → m.first ≢ n)
      → AreOpened nodes leaves next n n opened → AreOpened nodes leaves next n (n + 1) opened
  opened_on next n opened rises other h = record {
    done = h.done;
    left = λ k m e l.
        let low = h.left k m e l in
        ⊎_elim (λ (b : next < k). above k m e b)
        (λ (b : k ≤ next). let s : k ≡ next = omega (arith, b, l) in let u = other m (subst (λ k. slice_get leaves k ≡ Some m) s e) in apart m.first u low)
        (cases_lt next k);
  }
    where
      apart : (f : ℕ) → f ≢ n → n ≤ f → n + 1 ≤ f
      apart f u l = ⊎_elim (λ (b : n < f). omega (arith, b)) (λ (b : f ≤ n). absurd (u (omega (arith, b, l)))) (cases_lt n f)

      first_there : (xs : List Met) (i j : ℕ) (y : Met) → slice_get xs j ≡ Some y → i < j → (x : Met) × (slice_get xs i ≡ Some x)
      first_there [] i j y g l = let none : None ≡ Some y = g in absurd (cc)
      first_there (z ∷ xs) zero j y g l = (z, refl)
      first_there (z ∷ xs) (suc i) zero y g l = absurd (omega (arith, l))
      first_there (z ∷ xs) (suc i) (suc j) y g l = first_there xs i j y g (omega (arith, l))

      above : (k : ℕ) (m : Met) → slice_get leaves k ≡ Some m → next < k → n + 1 ≤ m.first
      above k m e b =
          let x = first_there leaves next k m e b in
          let low = h.left next x.0 x.1 (omega arith) in
          let up = rising_apart (λ (m : Met). m.first) leaves next k x.0 m rises x.1 e b in
          omega (arith, low, up)

  -- the leaf that begins with the next leg is opened
  pub opened_more : (next n : ℕ) (m : Met) (old new : List (ℕ × LegView)) → IsRising (λ (m : Met). m.first) leaves → slice_get leaves next ≡ Some m → m.first ≡ n
      → Opens (legs_in (nodes.at m.page)) old new → AreOpened nodes leaves next n n old → AreOpened nodes leaves (next + 1) n (n + 1) new
  opened_more next n m old new rises at first opens h = record {
    done = λ k x e l leg one low.
        ⊎_elim (λ (b : k < next). opens.kept leg.ordinal (h.done k x e b leg one low))
        (λ (b : next ≤ k).
        let s : k ≡ next = omega (arith, b, l) in
        let same : x ≡ m = same_some x m (sym e ∙ ap (slice_get leaves) s ∙ at) in
        opens.each leg (subst (λ (x : Met). IsOneOf (legs_in (nodes.at x.page)) leg) same one))
        (cases_lt k next);
    left = λ k x e l. (let up = rising_apart (λ (m : Met). m.first) leaves next k m x rises at e (omega (arith, l)) in omega (arith, up, first));
  }

  -- the next leg is taken out
  pub opened_taken : (next n : ℕ) (old new : List (ℕ × LegView)) → AreOpened nodes leaves next n (n + 1) old → ((q : ℕ) → lookup (nat_eq q) new ≡ cond (nat_eq n q) None (lookup (nat_eq q) old))
      → AreOpened nodes leaves next (n + 1) (n + 1) new
  opened_taken next n old new h step = record {
    done = λ k m e l leg one low. taken leg.ordinal low (h.done k m e l leg one (omega (arith, low)));
    left = h.left;
  }
    where
      taken : (o : ℕ) → n + 1 ≤ o → IsOpened old o → IsOpened new o
      taken o low there =
          subst IsSome (sym (step o))
          ((elim (nat_eq n o) as (λ b. nat_eq n o ≡ b → IsSome (cond b None (lookup (nat_eq o) old))) [
            | true ↦ λ t. absurd (let s : n ≡ o = eqb-true n o t in omega (arith, s, low))
            | false ↦ λ t. there
          ]) refl)

  -- where the leaves have each leg of the list, the next one is opened
  pub next_opened : (next n total : ℕ) (list : List LegView) (opened : List (ℕ × LegView)) → HaveEachOf nodes leaves list → IsNumbered total list → n < total → AreOpened nodes leaves next n (n + 1) opened → IsOpened opened n
  next_opened next n total list opened have numbered l h =
      let e = length_numbered total list numbered in
      let g = get_at list n (omega (arith, e, l)) in
      let o : g.0.ordinal ≡ n = numbered_at total list n g.0 numbered g.1 in
      let on = have.each g.0 (n, g.1) in
      ⊎_elim
      (λ (b : on.place < next). subst (IsOpened opened) o (h.done on.place on.met on.at b g.0 on.has (omega (arith, o))))
      (λ (b : next ≤ on.place). absurd (let far = h.left on.place on.met on.at b in let near = on.begun in omega (arith, far, near, o)))
      (cases_lt on.place next)
