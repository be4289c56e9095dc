-- A known leaf that a walk passes, or at which it ends.
use Rattle.std.proofs.Common.{ℕ, suc, ◌≡◌, ◌<◌, ◌≤ℤ◌, Bool, true, List, [], drop, length, refl, sym, ap, ◌∙◌, arith, subst, Option, Some, None, slice_get}
use Rattle.std.specs.Prelude.{if◌then◌else◌, IfSome}
use Rattle.std.specs.List.{filter}
use Rattle.timebase.specs.Period.{PeriodView}
use Rattle.legs.specs.Boxes.{BoxView}
use Rattle.legs.specs.Legs.{LegView}
use Rattle.legs.specs.declared.sieve.Sieve.{Sieve}
use Rattle.tbtree.specs.Nodes.{Pages, LeafView, ALeaf}
use Rattle.chains.specs.Links.{is_end, is_kept, link_back, spot_of, FitsLeaf, IsLinked}
use Rattle.chains.specs.Spans.{AreSpans, pass_at}
use Rattle.chains.specs.Taking.{Lesson, TakesLeaf, TakesPage}
use Rattle.chains.specs.declared.leaves.Link.{Link}
use Rattle.chains.specs.declared.spans.LeafSpan.{LeafSpan}
use Rattle.chains.specs.declared.spans.Passing.TheVariants.{Over, End}
use Rattle.chains.proofs.AgainLemmas.{there_at}
use Rattle.chains.proofs.KeepLemmas.{drop_at}
use Rattle.chains.proofs.SieveLemmas.{none_taken}
use Rattle.chains.proofs.SpanLemmas.{IsThere, ends_at, get_within, link_over_is, off_end, off_over, passes_over, there}

module _ (nodes : Pages LegView BoxView) (most legs first passed left : ℕ) (spans : List LeafSpan) (link : Link) (h : AreSpans nodes most legs first (drop passed spans) (suc left) link) (found : List LegView) (s : Sieve) where
  abbrev lesson : Lesson
  lesson = record { old = spans; new = spans; passed = passed }

  abbrev Taken : Option PeriodView → Option Link → Type 0
  Taken period back = TakesPage (nodes.at link.page) link (spot_of most legs first left) period s found found lesson back

  here : (span : LeafSpan) → slice_get spans passed ≡ Some span → IsThere nodes most legs first span (drop (suc passed) spans) (suc left) link
  here span e = there nodes most legs first span (drop (suc passed) spans) (suc left) link (subst (λ l. AreSpans nodes most legs first l (suc left) link) (drop_at spans passed span e) h)

  -- nothing is kept of it, and it is known
  taken : (period : Option PeriodView) (back : Option Link) (span : LeafSpan) (e : slice_get spans passed ≡ Some span) → filter (is_kept period) (here span e).leaf.legs ≡ []
      → back ≡ (if is_end period (here span e).leaf.legs then None else Some (link_back link.page (here span e).leaf)) → Taken period back
  taken period back span e none link_is =
      let t = here span e in
      let same : t.rest ≡ left = let m = t.more in omega (arith, m) in
      let long = get_within passed spans span e in
      record {
        leaf = t.leaf;
        above = t.linked.above;
        is = t.linked.is;
        takes = record {
          fits = subst (λ k. FitsLeaf t.leaf link (spot_of most legs first k)) same t.linked.fits;
          legs = none_taken period s (filter (is_kept period) t.leaf.legs) found none;
          link_is = link_is;
        };
        learns = record { same = λ _. refl; next = λ z. absurd (omega (arith, long, z)) };
      }

  -- a known leaf, and what is taken of it
  pub known_at : passed < length spans → (span : LeafSpan) × IsThere nodes most legs first span (drop (suc passed) spans) (suc left) link
  known_at inside = let t = there_at spans passed inside in (t.0, here t.0 t.1)

  pub steps_again : (period : Option PeriodView) (new : List LegView) (back : Option Link) (inside : passed < length spans) → TakesLeaf (known_at inside).1.leaf link (spot_of most legs first left) period s found new back
      → TakesPage (nodes.at link.page) link (spot_of most legs first left) period s found new lesson back
  steps_again period new back inside takes =
      let t = (known_at inside).1 in
      record {
        leaf = t.leaf;
        above = t.linked.above;
        is = t.linked.is;
        takes = takes;
        learns = record { same = λ _. refl; next = λ z. absurd (omega (arith, inside, z)) };
      }

  pub steps_end : (period : Option PeriodView) → End ≡ pass_at (slice_get spans passed) (slice_get spans (suc passed)) left period → Taken period None
  steps_end period a =
      let e = ends_at (slice_get spans passed) (slice_get spans (suc passed)) left period a in
      let t = here e.0 e.1 in
      let off = off_end e.2.at e.0 link.page t.leaf e.2.off t.is in
      taken period None e.0 e.1 (ap (λ p. filter (is_kept p) t.leaf.legs) e.2.is ∙ off.1)
      (ap (λ (b : Bool). if b then None else Some (link_back link.page t.leaf)) (sym (ap (λ p. is_end p t.leaf.legs) e.2.is ∙ off.0)))

  pub steps_over : (period : Option PeriodView) (back : Link) → IfSome period (λ p. p.start ≤ℤ p.end) → Over back ≡ pass_at (slice_get spans passed) (slice_get spans (suc passed)) left period → Taken period (Some back)
  steps_over period back order a =
      let e = passes_over (slice_get spans passed) (slice_get spans (suc passed)) left period back a in
      let t = here e.0 e.1 in
      let same : t.rest ≡ left = let m = t.more in omega (arith, m) in
      let ordered : e.2.at.start ≤ℤ e.2.at.end = subst (λ (p : Option PeriodView). IfSome p (λ p. p.start ≤ℤ p.end)) e.2.is order in
      let off = off_over e.2.at e.0 link.page t.leaf ordered e.2.off t.is in
      let back_is : back ≡ link_back link.page t.leaf = link_over_is nodes most legs first passed spans (suc left) left link back e.0 t e.2.link_is refl in
      taken period (Some back) e.0 e.1 (ap (λ p. filter (is_kept p) t.leaf.legs) e.2.is ∙ off.1)
      (ap Some back_is ∙ ap (λ (b : Bool). if b then None else Some (link_back link.page t.leaf)) (sym (ap (λ p. is_end p t.leaf.legs) e.2.is ∙ off.0)))
