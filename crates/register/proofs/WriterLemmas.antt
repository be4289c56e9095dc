-- The pages of a text, and what they hold after a step.
use Rattle.std.proofs.Common.{ℕ, suc, ◌≡◌, ◌≢◌, ◌+◌, ◌-◌, ◌*◌, ◌<◌, ◌≤◌, ◌^◌, ◌||◌, true, false, cond, nat_eq, refl, sym, ap, ◌∙◌, subst, arith, List, [], ◌∷◌, ◌++◌, length, take, drop, get_or, All, AllPairs, IsTrue, Option, Some, Result, Ok, Err, OnOk, OnErr, ⊎_elim, length-append, append_assoc}
use Rattle.std.specs.Int.{div_ceil}
use Rattle.std.specs.List.{AllByRecursion, IsDistinct, list_any}
use Rattle.std.proofs.lemmas.Map.Steps.{length-le_from_distinct_below}
use Rattle.std.proofs.lemmas.Bool.{cases_lt, false≢true}
use Rattle.std.proofs.lemmas.Bool.Decides.{eqb_tells}
use Rattle.std.proofs.lemmas.List.{append-nil, length-drop, length-take-le, take-append-drop, drop-drop, get_or_append_left, get_or_push, length_push}
use Rattle.std.proofs.lemmas.List.Elements.{All-nil, All-cons, All-head, All-tail, All-same, All-push, All-weaker}
use Rattle.indexmap.specs.IndexSet.{insert_key}
use Rattle.pages.specs.declared.payload.Kind.TheVariants.{Catalogue}
use Rattle.pages.specs.declared.payload.Payload.{Payload}
use Rattle.pagecache.specs.Cache.{Cache, payload_of}
use Rattle.tbtree.specs.Passes.{KeepsLength, Passes}
use Rattle.register.proofs.SpareLemmas.{is_page, no_page, fills_spares, spares_trans, stays_spares}
use Rattle.register.proofs.ChainLemmas.{pages_of, text_is_at, written_length}
use Rattle.register.specs.Chain.{most_used, part_payload, text_at}
use Rattle.register.specs.ChainWriter.{behind, Fills, Gives, IsNumber, IsPutBehind, OnlyAsks, AreWritten, HasText, Holds, HoldsText, IsOwn, WriterView}
use Rattle.register.specs.Saved.{SparesTree}

-- the first n bytes that were not written now are
pub record WritesParts (old : Cache) (v : WriterView) (n : ℕ) (new : Cache)
    (w : WriterView) : Type 0 where
  pub text : w.text ≡ v.text
  pub holds : (text : List ℕ) → Holds old v text → Holds new (behind n w) text
  pub passes : Passes old new
  pub length : KeepsLength old new
  pub tree : (text : List ℕ) → Holds old v text → SparesTree old new

-- a number that none of a list reaches is none of them
pub not_among : (page n : ℕ) (ks : List ℕ) → n ≤ page → All (λ p. p < n) ks → list_any (nat_eq page) ks ≡ false
not_among page n [] h all = refl
not_among page n (k ∷ ks) h all =
    let below : k < n = All-head (λ p. p < n) k ks all in
    ⊎_elim
    (λ t. absurd (omega (arith, t.1, below, h)))
    (λ t. ap (λ b. b || list_any (nat_eq page) ks) t.0 ∙ not_among page n ks h (All-tail (λ p. p < n) k ks all))
    (eqb_tells page k)

none_among : (page : ℕ) (ks : List ℕ) → list_any (nat_eq page) ks ≡ false → All (λ p. p ≢ page) ks
none_among page [] e = All-nil (λ p. p ≢ page)
none_among page (k ∷ ks) e =
    ⊎_elim
    (λ t. absurd (false≢true (sym e ∙ ap (λ b. b || list_any (nat_eq page) ks) t.0)))
    (λ t. All-cons (λ p. p ≢ page) k ks (λ z. t.1 (sym z)) (none_among page ks (ap (λ b. b || list_any (nat_eq page) ks) (sym t.0) ∙ e)))
    (eqb_tells page k)

-- a number that is none of a set is put behind the others
pub put_behind : (page : ℕ) (old ks new : List ℕ) → ks ≡ old → list_any (nat_eq page) ks ≡ false → new ≡ insert_key nat_eq ks page → IsPutBehind old page new
put_behind page old ks new same none e = subst (λ l. IsPutBehind l page new) same (record {
  keys = e ∙ ap (λ b. cond b ks (ks ++ page ∷ [])) none;
  apart = none_among page ks none;
})

-- one more that is none of those before
pairs_push : (xs : List ℕ) (y : ℕ) → AllPairs (λ a b. a ≢ b) xs → All (λ a. a ≢ y) xs → AllPairs (λ a b. a ≢ b) (xs ++ y ∷ [])
pairs_push xs y pairs all = λ i j d h l.
    let n = length_push xs y in
    ⊎_elim
    (λ lt. let here : i < length xs = omega (arith, h, lt) in subst (λ v. v ≢ get_or (xs ++ y ∷ []) j d) (sym (get_or_append_left xs (y ∷ []) d i here))
    (subst (λ v. get_or xs i d ≢ v) (sym (get_or_append_left xs (y ∷ []) d j lt)) (pairs i j d h lt)))
    (λ ge. let at : length xs ≡ j = omega (arith, l, n, ge) in let here : i < length xs = omega (arith, h, at) in
    subst (λ v. v ≢ get_or (xs ++ y ∷ []) j d) (sym (get_or_append_left xs (y ∷ []) d i here))
    (subst (λ v. get_or xs i d ≢ v) (sym (get_or_push xs y d j at)) (all i d here)))
    (cases_lt j (length xs))

-- the last page is written full, and another put behind it
written_more : (at new : ℕ → Option Payload) (l q : ℕ) (part pages written : List ℕ) → l ≡ get_or pages (length pages - 1) 0 → AllPairs (λ a b. a ≢ b) pages → AreWritten at pages written → length part ≡ 4040
    → new l ≡ Some (part_payload q part) → ((p : ℕ) (x : Payload) → p ≢ l → at p ≡ Some x → new p ≡ Some x) → AreWritten new (pages ++ q ∷ []) (written ++ part)
written_more at new l q part [] written e apart w len now same = absurd w
written_more at new l q part (p ∷ []) written e apart w len now same = (part, [], len, ap (λ l. l ++ part) w ∙ sym (append-nil part), ap new (sym e) ∙ now, refl)
written_more at new l q part (p ∷ p2 ∷ pages) written e apart w len now same =
    let n = length pages in
    let step : length (p ∷ p2 ∷ pages) - 1 ≡ suc (length (p2 ∷ pages) - 1) = omega arith in
    let last : l ≡ get_or (p2 ∷ pages) (length (p2 ∷ pages) - 1) 0 = e ∙ ap (λ k. get_or (p ∷ p2 ∷ pages) k 0) step in
    let tail : AllPairs (λ a b. a ≢ b) (p2 ∷ pages) = λ i j d h k. apart (suc i) (suc j) d (omega (arith, h)) (omega (arith, k)) in
    let ne : p ≢ l = λ z. apart 0 (suc (length (p2 ∷ pages) - 1)) 0 (omega arith) (omega arith) (z ∙ last) in
    (w.0, w.1 ++ part, w.2, ap (λ l. l ++ part) w.3 ∙ append_assoc w.0 w.1 part, same p (part_payload p2 w.0) ne w.4, written_more at new l q part (p2 ∷ pages) w.1 last tail w.5 len now same)

part_kind : (q : ℕ) (part : List ℕ) → (part_payload q part).kind ≡ Catalogue
unfolding part_payload
part_kind q part = refl

-- a page is taken, and the last one before it is written
module _ (a b d : Cache) (w : WriterView) (l page : ℕ) (part : List ℕ) (gives : Gives a page b) (passes : Passes a b) (at : l ≡ get_or w.pages (length w.pages - 1) 0) where
  fb : IsTrue a.store.is_faithful → IsTrue b.store.is_faithful
  fb f = passes.store.faithful ∙ f

  module _ (lends : Fills l (part_payload page part) b d) (f : IsTrue a.store.is_faithful) where
    now : payload_of d l ≡ Some (part_payload page part)
    now = lends.writes.payloads (fb f) l ∙ ap (λ v. cond v (Some (part_payload page part)) (payload_of b l)) (is_page l l refl)

    other : (p : ℕ) → p ≢ l → payload_of d p ≡ payload_of b p
    other p ne = lends.writes.payloads (fb f) p ∙ ap (λ v. cond v (Some (part_payload page part)) (payload_of b p)) (no_page l p (λ e. ne (sym e)))

    own_after : (p : ℕ) → IsOwn (payload_of b) p → IsOwn (payload_of d) p
    own_after p o = ⊎_elim
        (λ t. record { above = o.above; payload = part_payload page part; is = ap (payload_of d) (sym t.1) ∙ now; kind = part_kind page part })
        (λ t. record { above = o.above; payload = o.payload; is = other p (λ e. t.1 (sym e)) ∙ o.is; kind = o.kind })
        (eqb_tells l p)

    own_taken : (p : ℕ) → IsOwn (payload_of a) p → IsOwn (payload_of b) p
    own_taken p o = record { above = o.above; payload = o.payload; is = gives.stay f p o.payload o.is; kind = o.kind }

    pub step : (earlier : ℕ) (rest keys text : List ℕ) → (All (λ p. p < a.count) w.pages → IsPutBehind w.pages page keys) → w.text ≡ part ++ rest → length part ≡ 4040 → 0 < length rest
        → HoldsText (payload_of a) a.count w text → HoldsText (payload_of d) d.count (record { pages = keys; earlier = earlier; text = rest }) text
    step earlier rest keys text puts is len some h =
        let put = puts h.below in
        let count : b.count ≡ d.count = sym lends.writes.count in
        let more : a.count ≤ b.count = passes.count in
        record {
          written = h.written ++ part;
          all = h.all ∙ ap (λ t. h.written ++ t) is ∙ sym (append_assoc h.written part rest);
          left = λ _. some;
          parts = subst (λ ks. AreWritten (payload_of d) ks (h.written ++ part)) (sym put.keys)
              (written_more (payload_of a) (payload_of d) l page part w.pages h.written at h.apart h.parts len now (λ p x ne e. other p ne ∙ gives.stay f p x e));
          own = All-same (IsOwn (payload_of d)) keys (w.pages ++ page ∷ []) put.keys
              (All-push (IsOwn (payload_of d)) w.pages page (All-weaker (IsOwn (payload_of a)) (IsOwn (payload_of d)) (λ p o. own_after p (own_taken p o)) w.pages h.own) (own_after page (gives.own f)));
          below = All-same (λ p. p < d.count) keys (w.pages ++ page ∷ []) put.keys
              (All-push (λ p. p < d.count) w.pages page (All-weaker (λ p. p < a.count) (λ p. p < d.count) (λ p o. omega (arith, o, count, more)) w.pages h.below) (let g = gives.below in omega (arith, g, count)));
          apart = subst (λ ks. AllPairs (λ a b. a ≢ b) ks) (sym put.keys) (pairs_push w.pages page h.apart put.apart);
        }

  pub holds_step : (earlier : ℕ) (rest keys text : List ℕ) → Fills l (part_payload page part) b d → (All (λ p. p < a.count) w.pages → IsPutBehind w.pages page keys) → w.text ≡ part ++ rest → length part ≡ 4040 → 0 < length rest
      → Holds a w text → Holds d (record { pages = keys; earlier = earlier; text = rest }) text
  holds_step earlier rest keys text lends puts is len some h = λ fd.
      let f : IsTrue a.store.is_faithful = sym passes.store.faithful ∙ sym lends.writes.keeps.store.faithful ∙ fd in
      step lends f earlier rest keys text puts is len some (h f)

  pub tree_step : {T E : Type 0} (r : Result T E) (text : List ℕ) → 0 < length w.pages → SparesTree a b → OnOk r (Fills l (part_payload page part) b d) → OnErr r (OnlyAsks b d) → Holds a w text → SparesTree a d
  tree_step (Ok x) text some tree lends rests h = λ f.
      let o : IsOwn (payload_of a) l = subst (IsOwn (payload_of a)) (sym at) ((h f).own (length w.pages - 1) 0 (omega (arith, some))) in
      spares_trans a b d passes tree (fills_spares b d l page part o.payload o.kind (λ _. gives.stay f l o.payload o.is) lends) f
  tree_step (Err x) text some tree lends rests h = spares_trans a b d passes tree (stays_spares b d rests.stays)

-- some bytes, and what is behind them
pub cut : (n m : ℕ) (xs : List ℕ) → drop n xs ≡ take m (drop n xs) ++ drop (n + m) xs
cut n m xs = sym (take-append-drop m (drop n xs)) ∙ ap (λ l. take m (drop n xs) ++ l) (drop-drop m n xs)

-- the same, for the bytes of the text behind the first ones
module _ (a b d : Cache) (v : WriterView) (l page done k : ℕ) (ks items bytes : List ℕ) (gives : Gives a page b) (passes : Passes a b) (pages : ks ≡ v.pages) (from : items ≡ v.text) (lent : bytes ≡ items) (size : k ≡ 4040) (at : l ≡ get_or v.pages (length v.pages - 1) 0) where
  bytes_are : bytes ≡ v.text
  bytes_are = lent ∙ from

  part_is : take k (drop done bytes) ≡ take 4040 (drop done v.text)
  part_is = ap (λ n. take n (drop done bytes)) size ∙ ap (λ t. take 4040 (drop done t)) bytes_are

  pub part_holds : (earlier : ℕ) (keys text : List ℕ) → (All (λ p. p < a.count) ks → IsPutBehind ks page keys) → done + 4040 < length v.text → Fills l (part_payload page (take k (drop done bytes))) b d
      → Holds a (record v { text = drop done v.text }) text → Holds d (record { pages = keys; earlier = earlier; text = drop (done + 4040) items }) text
  part_holds earlier keys text puts more lends h =
      let part = take 4040 (drop done v.text) in
      let x = length-drop done v.text in
      let y = length-drop (done + 4040) v.text in
      let len : length part ≡ 4040 = length-take-le 4040 (drop done v.text) (omega (arith, x, more)) in
      subst (λ t. Holds d (record { pages = keys; earlier = earlier; text = drop (done + 4040) t }) text) (sym from)
      (holds_step a b d (record v { text = drop done v.text }) l page part gives passes at earlier (drop (done + 4040) v.text) keys text
      (subst (λ t. Fills l (part_payload page t) b d) part_is lends)
      (subst (λ ks. All (λ p. p < a.count) ks → IsPutBehind ks page keys) pages puts) (cut done 4040 v.text) len (omega (arith, y, more)) h)

  pub part_tree : {T E : Type 0} (r : Result T E) → 0 < length v.pages → SparesTree a b → OnOk r (Fills l (part_payload page (take k (drop done bytes))) b d) → OnErr r (OnlyAsks b d)
      → (text : List ℕ) → Holds a (record v { text = drop done v.text }) text → SparesTree a d
  part_tree r some tree lends rests text h = tree_step a b d (record v { text = drop done v.text }) l page (take k (drop done bytes)) gives passes at r text some tree lends rests h

among_below : (xs : List ℕ) (q n : ℕ) → All (λ p. p < n) xs → list_any (nat_eq q) xs ≡ true → q < n
among_below xs q n all e = ⊎_elim (λ lt. lt) (λ ge. absurd (false≢true (sym (not_among q n xs ge all) ∙ e))) (cases_lt q n)

-- there are no more pages than numbers
pub few_pages : (xs : List ℕ) → IsDistinct nat_eq xs → All IsNumber xs → length xs ≤ 2 ^ 32
few_pages xs apart all = length-le_from_distinct_below xs (2 ^ 32) apart (λ q e. among_below xs q (2 ^ 32) (All-weaker IsNumber (λ p. p < 2 ^ 32) (λ p o. o.small) xs all) e)

-- numbers below another with no two equal are no more than it
distinct : (xs : List ℕ) → AllPairs (λ a b. a ≢ b) xs → IsDistinct nat_eq xs
unfolding IsDistinct
distinct [] pairs = tt
distinct (x ∷ xs) pairs = (others xs (λ k d h. pairs 0 (suc k) d (omega arith) (omega (arith, h))), distinct xs (λ i j d h k. pairs (suc i) (suc j) d (omega (arith, h)) (omega (arith, k)))) where
  others : (ys : List ℕ) → All (λ y. x ≢ y) ys → AllByRecursion (λ y. nat_eq x y ≡ false) ys
  others [] all = tt
  others (y ∷ ys) all = (⊎_elim (λ t. absurd (All-head (λ y. x ≢ y) y ys all t.1)) (λ t. t.0) (eqb_tells x y), others ys (All-tail (λ y. x ≢ y) y ys all))

few_below : (xs : List ℕ) (n : ℕ) → AllPairs (λ a b. a ≢ b) xs → All (λ p. p < n) xs → length xs ≤ n
few_below xs n pairs all = length-le_from_distinct_below xs n (distinct xs pairs) (λ q e. among_below xs q n all e)

-- the last page has another payload
written_kept : (at new : ℕ → Option Payload) (l : ℕ) (pages written : List ℕ) → l ≡ get_or pages (length pages - 1) 0 → AllPairs (λ a b. a ≢ b) pages → AreWritten at pages written
    → ((p : ℕ) (x : Payload) → p ≢ l → at p ≡ Some x → new p ≡ Some x) → AreWritten new pages written
written_kept at new l [] written e apart w same = w
written_kept at new l (p ∷ []) written e apart w same = w
written_kept at new l (p ∷ p2 ∷ pages) written e apart w same =
    let step : length (p ∷ p2 ∷ pages) - 1 ≡ suc (length (p2 ∷ pages) - 1) = omega arith in
    let last : l ≡ get_or (p2 ∷ pages) (length (p2 ∷ pages) - 1) 0 = e ∙ ap (λ k. get_or (p ∷ p2 ∷ pages) k 0) step in
    let tail : AllPairs (λ a b. a ≢ b) (p2 ∷ pages) = λ i j d h k. apart (suc i) (suc j) d (omega (arith, h)) (omega (arith, k)) in
    let ne : p ≢ l = λ z. apart 0 (suc (length (p2 ∷ pages) - 1)) 0 (omega arith) (omega arith) (z ∙ last) in
    (w.0, w.1, w.2, w.3, same p (part_payload p2 w.0) ne w.4, written_kept at new l (p2 ∷ pages) w.1 last tail w.5 same)

-- page 0 has another payload
written_there : (at new : ℕ → Option Payload) (pages written : List ℕ) → ((p : ℕ) → 0 < p → new p ≡ at p) → All (λ p. 0 < p) pages → AreWritten at pages written → AreWritten new pages written
written_there at new [] written same above w = w
written_there at new (p ∷ []) written same above w = w
written_there at new (p ∷ p2 ∷ pages) written same above w =
    (w.0, w.1, w.2, w.3, same p (All-head (λ p. 0 < p) p (p2 ∷ pages) above) ∙ w.4, written_there at new (p2 ∷ pages) w.1 same (All-tail (λ p. 0 < p) p (p2 ∷ pages) above) w.5)

-- the last page is written, and no page comes after it
module _ (a d : Cache) (rest text : List ℕ) (l : ℕ) (short : length rest ≤ 4040) (lends : Fills l (part_payload 0 rest) a d) (f : IsTrue a.store.is_faithful) (some : 0 < length text) where
  closed_pages : (pages : List ℕ) (earlier len first : ℕ) → l ≡ get_or pages (length pages - 1) 0 → first ≡ get_or pages 0 0 → len ≡ 4040 * (length pages - 1) + length rest → All IsNumber pages
      → HoldsText (payload_of a) a.count (record { pages = pages; earlier = earlier; text = rest }) text → HasText d len first text × (div_ceil len most_used ≤ d.count)
  closed_pages [] earlier len first at from size numbers h = absurd h.parts
  closed_pages (p ∷ pages) earlier len first at from size numbers h =
      let other : (q : ℕ) (x : Payload) → q ≢ l → payload_of a q ≡ Some x → payload_of d q ≡ Some x =
      λ q x ne e. lends.writes.payloads f q ∙ ap (λ v. cond v (Some (part_payload 0 rest)) (payload_of a q)) (no_page l q (λ z. ne (sym z))) ∙ e in
      let parts : AreWritten (payload_of d) (p ∷ pages) h.written = written_kept (payload_of a) (payload_of d) l (p ∷ pages) h.written at h.apart h.parts other in
      let step : length (p ∷ pages) - 1 ≡ length pages = omega arith in
      let last : payload_of d (get_or (p ∷ pages) (length pages) 0) ≡ Some (part_payload 0 rest) =
      ap (payload_of d) (ap (λ k. get_or (p ∷ pages) k 0) (sym step) ∙ sym at)
      ∙ lends.writes.payloads f l ∙ ap (λ v. cond v (Some (part_payload 0 rest)) (payload_of a l)) (is_page l l refl) in
      let n : length text ≡ length h.written + length rest = ap length h.all ∙ length-append h.written rest in
      let k = written_length (payload_of a) p pages h.written h.parts in
      let left : 0 < length rest = ⊎_elim (λ lt. h.left lt) (λ ge. omega (arith, ge, n, some)) (cases_lt 0 (length h.written)) in
      let is_len : len ≡ length text = omega (arith, n, k, size, step) in
      let count = lends.writes.count in
      let size_is : len ≡ 4040 * length pages + length rest = omega (arith, size, step) in
      let pages_are : div_ceil len most_used ≡ suc (length pages) = ap (λ m. div_ceil m 4040) size_is ∙ pages_of (length pages) (length rest) left short in
      let few : length (p ∷ pages) ≤ a.count = few_below (p ∷ pages) a.count h.apart h.below in
      let all_above : All (λ p. 0 < p) (p ∷ pages) = All-weaker IsNumber (λ p. 0 < p) (λ p o. o.above) (p ∷ pages) numbers in (
        λ at others. ap (λ m. text_at at m first) is_len ∙ ap (λ m. text_at at (length text) m) from
            ∙ text_is_at at p pages h.written rest text h.all (written_there (payload_of d) at (p ∷ pages) h.written others all_above parts) (others _ (all_above (length pages) 0 (omega arith)) ∙ last) left short (All-weaker IsNumber (λ p. p < 2 ^ 32) (λ p o. o.small) pages (All-tail IsNumber p pages numbers)),
        subst (λ m. m ≤ d.count) (sym pages_are) (omega (arith, few, count)),
      )

  pub closed : (w : WriterView) (bytes : List ℕ) (len first : ℕ) → bytes ≡ w.text → rest ≡ bytes → l ≡ get_or w.pages (length w.pages - 1) 0 → first ≡ get_or w.pages 0 0 → len ≡ 4040 * (length w.pages - 1) + length w.text → All IsNumber w.pages
      → Holds a w text → HasText d len first text × (div_ceil len most_used ≤ d.count)
  closed w bytes len first e lent at from size numbers h =
      let same : w.text ≡ rest = sym e ∙ sym lent in
      closed_pages w.pages w.earlier len first at from (size ∙ ap (λ t. 4040 * (length w.pages - 1) + length t) same) numbers
      (subst (λ t. HoldsText (payload_of a) a.count (record { pages = w.pages; earlier = w.earlier; text = t }) text) same (h f))

-- so is a page that is the last one
pub last_tree : (a d : Cache) (w : WriterView) (l next : ℕ) (bytes : List ℕ) → l ≡ get_or w.pages (length w.pages - 1) 0 → 0 < length w.pages → Fills l (part_payload next bytes) a d → (text : List ℕ) → Holds a w text → SparesTree a d
last_tree a d w l next bytes at some lends text h = λ f.
    let o : IsOwn (payload_of a) l = subst (IsOwn (payload_of a)) (sym at) ((h f).own (length w.pages - 1) 0 (omega (arith, some))) in
    fills_spares a d l next bytes o.payload o.kind (λ _. o.is) lends f
