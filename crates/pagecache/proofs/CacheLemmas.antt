-- What each step of a cache keeps.
use Rattle.std.proofs.Common.{◌≡◌, ◌≢◌, ℕ, zero, suc, ◌+◌, ◌-◌, ◌<◌, ◌≤◌, Bool, true, false, cond, nat_eq, List, [], ◌∷◌, map, filter, get_or, length, take, drop, slice_get, Option, Some, None, IsSome, is_some, IsTrue, refl, sym, ap, ◌∙◌, subst, arith, ◌⊎◌, inl, inr, ⊎_elim, Result, Ok, Err, OnOk, IfErr}
use Rattle.std.proofs.lemmas.Bool.{eqb-true, eq-eqb, false≢true, cases_lt, cases_eq, ne_eqb}
use Rattle.std.specs.Option.{ok_or, option_or, option_map, option_and_then, unwrap_or}
use Rattle.std.specs.Map.{lookup, keys_of}
use Rattle.std.specs.List.{IsDistinct}
use Rattle.std.specs.Cmp.{nat_eq_equiv}
use Rattle.std.proofs.lemmas.Map.Entries.{lookup_from_place}
use Rattle.std.proofs.lemmas.Int.{clamps}
use Rattle.std.proofs.lemmas.List.{length-map, take_all}
use Rattle.pagecache.proofs.HeldLemmas.{at_same_key, lookup-take, dropped, first_entry}
use Rattle.std.specs.Box.{box_value}
use Rattle.pages.specs.Store.{Store, IsLawful, put_page, IsTorn, Faulted, MayUnsync, Unsyncs}
use Rattle.pages.specs.Store as store
use Rattle.pages.specs.Unsealed.{unsealed}
use Rattle.pagecache.proofs.PageLemmas.{same_rest, slice_get-put_page, slice_get-put_other, slice_get-take, slice_get-take_none}
use Rattle.pages.specs.declared.payload.Payload.{Payload}
use Rattle.pagecache.specs.Cache.{Cache, in_memory, pages_as_written, page_of, sealed_payload, stored_payload, payload_of, is_changed, IsSettled, IsWritten, IsNotAdded, IsRefused, IsStopped, KeepsPayloads, UnsyncsNone, WritesNone, Writes, Adds}
use Rattle.pagecache.proofs.CallerLemmas.{stays-trans, unsyncs-trans}
use Rattle.pagecache.proofs.UnsyncedLemmas.{unsyncs_none, unsyncs_torn, unsyncs_written}
use Rattle.pagecache.specs.Slots.{HasFailed, IsSound, HasRoom, IsWithin, OnLeaving, IsFirst, Steps, WritesBack, changed_numbers, seen_of}
use Rattle.pagecache.specs.declared.slots.Held.{Held}
use Rattle.pagecache.specs.declared.slots.Slots.{Slots}
use Rattle.pagecache.specs.declared.fault.CacheFault.{CacheFault}
use Rattle.pagecache.specs.declared.fault.CacheFault.TheVariants as fault

pub is_some_of : {X : Type 0} (o : Option X) (x : X) → o ≡ Some x → IsSome o
is_some_of o x e = rw e refl

pub none_if : {X : Type 0} (o : Option X) → is_some o ≡ false → o ≡ None
none_if None h = refl
none_if (Some x) h = absurd (false≢true (sym h))

-- what is seen of a page by what is in memory
pub payload_of-some : (c : Cache) (n : ℕ) (h : Held) → in_memory c n ≡ Some h → payload_of c n ≡ Some (box_value h.payload)
unfolding payload_of
payload_of-some c n h e = ap (λ (o : Option Held). option_or (option_map (λ h. (box_value h.payload)) o) (sealed_payload c n)) e

pub payload_of-none : (c : Cache) (n : ℕ) → in_memory c n ≡ None → payload_of c n ≡ sealed_payload c n
unfolding payload_of
payload_of-none c n e = ap (λ (o : Option Held). option_or (option_map (λ h. (box_value h.payload)) o) (sealed_payload c n)) e

pub is_changed-some : (c : Cache) (n : ℕ) (h : Held) → in_memory c n ≡ Some h → is_changed c n ≡ h.changed
unfolding is_changed
is_changed-some c n h e = ap (λ (o : Option Held). unwrap_or (option_map (λ h. h.changed) o) false) e

pub is_changed-none : (c : Cache) (n : ℕ) → in_memory c n ≡ None → is_changed c n ≡ false
unfolding is_changed
is_changed-none c n e = ap (λ (o : Option Held). unwrap_or (option_map (λ h. h.changed) o) false) e

-- two caches with the same in memory and as written at n
pub payload_of-same : (c d : Cache) (n : ℕ) → in_memory d n ≡ in_memory c n → sealed_payload d n ≡ sealed_payload c n → payload_of d n ≡ payload_of c n
unfolding payload_of
payload_of-same c d n e f = ap (λ (o : Option Held). option_or (option_map (λ h. (box_value h.payload)) o) (sealed_payload d n)) e ∙ ap (option_or (option_map (λ (h : Held). (box_value h.payload)) (in_memory c n))) f

pub is_changed-same : (c d : Cache) (n : ℕ) → in_memory d n ≡ in_memory c n → is_changed d n ≡ is_changed c n
unfolding is_changed
is_changed-same c d n e = ap (λ (o : Option Held). unwrap_or (option_map (λ h. h.changed) o) false) e

pub sealed_payload-same : (c d : Cache) (n : ℕ) → page_of d n ≡ page_of c n → sealed_payload d n ≡ sealed_payload c n
unfolding sealed_payload
sealed_payload-same c d n e = ap (option_and_then (unsealed n)) e

pub sealed_payload-at : (c : Cache) (n : ℕ) (page : List ℕ) (p : Payload) → page_of c n ≡ Some page → unsealed n page ≡ Some p → sealed_payload c n ≡ Some p
unfolding sealed_payload
sealed_payload-at c n page p e u = ap (option_and_then (unsealed n)) e ∙ u

-- a page that is not changed
settled_at : (c : Cache) (n : ℕ) (o : Option Held) → IsSound c → IsTrue c.store.is_faithful → in_memory c n ≡ o → is_changed c n ≡ false → payload_of c n ≡ sealed_payload c n
settled_at c n None s f e u = payload_of-none c n e
settled_at c n (Some h) s f e u = payload_of-some c n h e ∙ sym (s.clean f n h e (sym (is_changed-some c n h e) ∙ u))

pub settled : (c : Cache) → IsSound c → IsSettled c
settled c s f n u = settled_at c n (in_memory c n) s f refl u

-- the pages as written
pub page_of-below : (c : Cache) (n : ℕ) → n < c.count → page_of c n ≡ slice_get c.store.pages n
unfolding page_of pages_as_written
page_of-below c n h = slice_get-take c.count n c.store.pages h

page_of-above : (c : Cache) (n : ℕ) → c.count ≤ n → page_of c n ≡ None
unfolding page_of pages_as_written
page_of-above c n h = slice_get-take_none c.count n c.store.pages h

same_page : (c d : Cache) (n : ℕ) → d.count ≡ c.count → (n < c.count → slice_get d.store.pages n ≡ slice_get c.store.pages n) → page_of d n ≡ page_of c n
same_page c d n e same = elim (cases_lt n c.count) [
  | inl h ↦ page_of-below d n (omega (arith, e, h)) ∙ same h ∙ sym (page_of-below c n h)
  | inr h ↦ page_of-above d n (omega (arith, e, h)) ∙ sym (page_of-above c n h)
]

-- the pages from k on, where each is as it was
rest_same : (c d : Cache) (k : ℕ) → ((n : ℕ) → k ≤ n → page_of d n ≡ page_of c n) → drop k (pages_as_written d) ≡ drop k (pages_as_written c)
unfolding page_of
rest_same c d k f = same_rest k (pages_as_written c) (pages_as_written d) f

none_written : (c d : Cache) → (IsTrue c.store.is_faithful → (k : ℕ) → ((n : ℕ) → k ≤ n → is_changed c n ≡ false) → drop k (pages_as_written d) ≡ drop k (pages_as_written c)) → WritesNone c d
none_written c d h = record { clean = λ f u. h f 0 (λ n _. u n); from = h }

-- the same pages in memory, in another order, over a store that stays
pub reordered : (c d : Cache) → IsSound c → store.Stays c.store d.store → ((m : ℕ) → in_memory d m ≡ in_memory c m)
    → d.count ≡ c.count → d.capacity ≡ c.capacity → IsSound d × KeepsPayloads c d
reordered c d s t look count capacity =
    let faithful : IsTrue d.store.is_faithful → IsTrue c.store.is_faithful = λ f. sym t.keeps.faithful ∙ f in
    let pages : IsTrue c.store.is_faithful → (m : ℕ) → page_of d m ≡ page_of c m = λ f m. same_page c d m count (λ _. ap (λ xs. slice_get xs m) (t.pages f)) in
    let seals : IsTrue c.store.is_faithful → (m : ℕ) → sealed_payload d m ≡ sealed_payload c m = λ f m. sealed_payload-same c d m (pages f m) in
    let sound : IsSound d = record {
      within = omega (arith, s.within, t.count);
      below = λ m h. let b : m < c.count = s.below m (subst IsSome (look m) h) in omega (arith, b);
      clean = λ f m h e u. seals (faithful f) m ∙ s.clean (faithful f) m h (sym (look m) ∙ e) u;
    } in (
      sound,
      record {
        keeps = record { store = t.keeps; capacity = capacity; written = λ f m _ _. pages f m; settled = settled d sound };
        count = count;
        payloads = λ f m. payload_of-same c d m (look m) (seals f m);
        changed = λ m u. is_changed-same c d m (look m) ∙ u;
        unwritten = none_written c d (λ f k _. rest_same c d k (λ m _. pages f m));
      },
    )

pub reordered_step : (c d : Cache) → IsSound c → store.Stays c.store d.store → ((m : ℕ) → in_memory d m ≡ in_memory c m)
    → d.count ≡ c.count → d.capacity ≡ c.capacity → d.asked ≡ c.asked → Steps c d
reordered_step c d s t look count capacity asked = let r = reordered c d s t look count capacity in record { sound = r.0; stays = r.1; unsynced = unsyncs_none c d t.unsynced; asked = asked; length = t.count }

pub store_rests : (s : Store) → store.Stays s s
store_rests s = record { keeps = record { most = refl; faithful = refl; faults = omega arith; lost = λ l. l }; count = refl; pages = λ _. refl; unsynced = inl refl }

-- only the store has changed, and it stays
pub store_step : {S : Type 0} (seen : S → Store) (old new : Slots S) → IsSound (seen_of seen old) → new ≡ record old { store = new.store }
    → store.Stays (seen old.store) (seen new.store) → Steps (seen_of seen old) (seen_of seen new)
store_step seen old new s e t =
    reordered_step (seen_of seen old) (seen_of seen new) s t (λ m. ap (λ (x : Slots _). lookup (nat_eq m) x.held.entries) e) (ap (λ (x : Slots _). x.count) e) (ap (λ (x : Slots _). x.held.cap) e) (ap (λ (x : Slots _). x.asked) e)

-- nothing has happened
pub rests : (c : Cache) → IsSound c → Steps c c
rests c s = reordered_step c c s (store_rests c.store) (λ _. refl) refl refl refl

-- what is in memory after page n has got w
abbrev pub Sets : Cache → ℕ → Held → Cache → Type 0
Sets c n w d = (m : ℕ) → in_memory d m ≡ cond (nat_eq n m) (Some w) (in_memory c m)

pub set_here : (c d : Cache) (n : ℕ) (w : Held) → Sets c n w d → in_memory d n ≡ Some w
set_here c d n w look = look n ∙ ap (λ b. cond b (Some w) (in_memory c n)) (eq-eqb n n refl)

pub set_other : (c d : Cache) (n m : ℕ) (w : Held) → Sets c n w d → n ≢ m → in_memory d m ≡ in_memory c m
set_other c d n m w look ne = look m ∙ ap (λ b. cond b (Some w) (in_memory c m)) (ne_eqb n m ne)

-- a page that is not changed is another than one that is
apart_from : (c : Cache) (n m : ℕ) (h : Held) → in_memory c n ≡ Some h → h.changed ≡ true → is_changed c m ≡ false → n ≢ m
apart_from c n m h here marked u k = false≢true (sym u ∙ sym (ap (is_changed c) k) ∙ is_changed-some c n h here ∙ marked)

-- a page that is changed
changed_there : (c : Cache) (n : ℕ) (h : Held) → in_memory c n ≡ Some h → h.changed ≡ true → is_changed c n ≢ false
changed_there c n h here marked u = apart_from c n n h here marked u refl

-- a changed page has been written
pub written : (c d : Cache) (n : ℕ) (page : List ℕ) (h w : Held) → IsSound c → IsLawful c.store → in_memory c n ≡ Some h → h.changed ≡ true → (box_value w.payload) ≡ (box_value h.payload) → w.changed ≡ false
    → unsealed n page ≡ Some (box_value h.payload) → store.Writes n page c.store d.store → Unsyncs n c.store d.store → Sets c n w d
    → d.count ≡ c.count → d.capacity ≡ c.capacity → d.asked ≡ c.asked → Steps c d
written c d n page h w s l here marked payload unmarked reads t unsynced look count capacity asked =
    let below : n < c.count = s.below n (is_some_of _ _ here) in
    let faithful : IsTrue d.store.is_faithful → IsTrue c.store.is_faithful = λ f. sym t.keeps.faithful ∙ f in
    let fits : IsTrue c.store.is_faithful → n ≤ length c.store.pages = λ f. omega (arith, l.counted f, s.within, below) in
    let here_page : IsTrue c.store.is_faithful → page_of d n ≡ Some page = λ f.
    page_of-below d n (omega (arith, count, below)) ∙ ap (λ xs. slice_get xs n) (t.pages f) ∙ slice_get-put_page c.store.pages n page (fits f) in
    let here_seal : IsTrue c.store.is_faithful → sealed_payload d n ≡ Some (box_value h.payload) = λ f. sealed_payload-at d n page (box_value h.payload) (here_page f) reads in
    let other_page : IsTrue c.store.is_faithful → (m : ℕ) → n ≢ m → page_of d m ≡ page_of c m = λ f m ne. same_page c d m count (λ _.
    ap (λ xs. slice_get xs m) (t.pages f) ∙ slice_get-put_other c.store.pages n m page (fits f) ne) in
    let sound : IsSound d = record {
      within = omega (arith, s.within, count, t.count);
      below = λ m k. elim (cases_eq n m) [
        | inl e ↦ omega (arith, e, below, count)
        | inr ne ↦ let b : m < c.count = s.below m (subst IsSome (set_other c d n m w look ne) k) in omega (arith, b, count)
      ];
      clean = λ f m q e u. elim (cases_eq n m) [
        | inl k ↦ let q' : Some w ≡ Some q = sym (set_here c d n w look) ∙ ap (in_memory d) k ∙ e in
            let p : w ≡ q = cc in
            subst (λ i. sealed_payload d i ≡ Some (box_value q.payload)) k (here_seal (faithful f) ∙ ap Some (sym payload ∙ ap (λ (x : Held). (box_value x.payload)) p))
        | inr ne ↦ sealed_payload-same c d m (other_page (faithful f) m ne) ∙ s.clean (faithful f) m q (sym (set_other c d n m w look ne) ∙ e) u
      ];
    } in
    record {
      sound = sound;
      asked = asked;
      unsynced = unsyncs_written c d n (changed_there c n h here marked) unsynced;
      length = let k = t.count in omega (arith, clamps, k, s.within, below);
      stays = record {
        keeps = record {
          store = t.keeps;
          capacity = capacity;
          settled = settled d sound;
          written = λ f m _ u. other_page f m (apart_from c n m h here marked u);
        };
        count = count;
        payloads = λ f m. elim (cases_eq n m) [
          | inl k ↦ subst (λ i. payload_of d i ≡ payload_of c i) k (payload_of-some d n w (set_here c d n w look) ∙ ap Some payload ∙ sym (payload_of-some c n h here))
          | inr ne ↦ payload_of-same c d m (set_other c d n m w look ne) (sealed_payload-same c d m (other_page f m ne))
        ];
        changed = λ m u. elim (cases_eq n m) [
          | inl k ↦ subst (λ i. is_changed d i ≡ false) k (is_changed-some d n w (set_here c d n w look) ∙ unmarked)
          | inr ne ↦ is_changed-same c d m (set_other c d n m w look ne) ∙ u
        ];
        unwritten = none_written c d (λ f k u. rest_same c d k (λ m g. other_page f m (apart_from c n m h here marked (u m g))));
      };
    }

-- a page whose write has failed is still in memory, changed
pub torn : (c d : Cache) (n : ℕ) (h : Held) → IsSound c → IsLawful c.store → in_memory c n ≡ Some h → h.changed ≡ true
    → store.Tears n c.store d.store → MayUnsync n c.store d.store → ((m : ℕ) → in_memory d m ≡ in_memory c m)
    → d.count ≡ c.count → d.capacity ≡ c.capacity → d.asked ≡ c.asked → Steps c d
torn c d n h s l here marked t unsynced look count capacity asked =
    let below : n < c.count = s.below n (is_some_of _ _ here) in
    let faithful : IsTrue d.store.is_faithful → IsTrue c.store.is_faithful = λ f. sym t.keeps.faithful ∙ f in
    let fits : IsTrue c.store.is_faithful → n ≤ length c.store.pages = λ f. omega (arith, l.counted f, s.within, below) in
    let other_page : IsTrue c.store.is_faithful → (m : ℕ) → n ≢ m → page_of d m ≡ page_of c m = λ f m ne. same_page c d m count (λ _.
    ⊎_elim (λ e. ap (λ xs. slice_get xs m) e) (λ e. ap (λ xs. slice_get xs m) e.1 ∙ slice_get-put_other c.store.pages n m e.0 (fits f) ne) (t.pages f)) in
    let other : IsTrue c.store.is_faithful → (m : ℕ) → is_changed c m ≡ false → page_of d m ≡ page_of c m = λ f m u. other_page f m (apart_from c n m h here marked u) in
    let sound : IsSound d = record {
      within = omega (arith, s.within, count, t.count);
      below = λ m k. let b : m < c.count = s.below m (subst IsSome (look m) k) in omega (arith, b, count);
      clean = λ f m q e u. let e' = sym (look m) ∙ e in
          sealed_payload-same c d m (other (faithful f) m (is_changed-some c m q e' ∙ u)) ∙ s.clean (faithful f) m q e' u;
    } in
    record {
      sound = sound;
      asked = asked;
      unsynced = unsyncs_torn c d n (changed_there c n h here marked) unsynced;
      length = ⊎_elim (λ e. e) (λ e. let z : n ≡ c.store.count = e.0 in absurd (omega (arith, z, s.within, below))) t.count;
      stays = record {
        keeps = record { store = t.keeps; capacity = capacity; settled = settled d sound; written = λ f m _ u. other f m u };
        count = count;
        payloads = λ f m. elim (cases_eq n m) [
          | inl k ↦ subst (λ i. payload_of d i ≡ payload_of c i) k (payload_of-some d n h (look n ∙ here) ∙ sym (payload_of-some c n h here))
          | inr ne ↦ payload_of-same c d m (look m) (sealed_payload-same c d m (other_page f m ne))
        ];
        changed = λ m u. is_changed-same c d m (look m) ∙ u;
        unwritten = none_written c d (λ f k u. rest_same c d k (λ m g. other f m (u m g)));
      };
    }

-- page n is in memory as w, and any page that has left was not changed
pub record Takes (c : Cache) (n : ℕ) (w : Held) (d : Cache) : Type 0 where
  pub here : in_memory d n ≡ Some w
  pub others : (m : ℕ) → n ≢ m → (in_memory d m ≡ in_memory c m) ⊎ ((in_memory d m ≡ None) × (is_changed c m ≡ false))

-- a page has come in as it was written
pub fetched : (c d : Cache) (n : ℕ) (w : Held) → IsSound c → n < c.count → in_memory c n ≡ None → w.changed ≡ false
    → (IsTrue c.store.is_faithful → sealed_payload c n ≡ Some (box_value w.payload)) → store.Stays c.store d.store → Takes c n w d
    → d.count ≡ c.count → d.capacity ≡ c.capacity → d.asked ≡ c.asked → Steps c d
fetched c d n w s below absent unmarked at t look count capacity asked =
    let faithful : IsTrue d.store.is_faithful → IsTrue c.store.is_faithful = λ f. sym t.keeps.faithful ∙ f in
    let pages : IsTrue c.store.is_faithful → (m : ℕ) → page_of d m ≡ page_of c m = λ f m. same_page c d m count (λ _. ap (λ xs. slice_get xs m) (t.pages f)) in
    let seals : IsTrue c.store.is_faithful → (m : ℕ) → sealed_payload d m ≡ sealed_payload c m = λ f m. sealed_payload-same c d m (pages f m) in
    let sound : IsSound d = record {
      within = omega (arith, s.within, count, t.count);
      below = λ m k. elim (cases_eq n m) [
        | inl e ↦ omega (arith, e, below, count)
        | inr ne ↦ elim (look.others m ne) [
          | inl e ↦ let b : m < c.count = s.below m (subst IsSome e k) in omega (arith, b, count)
          | inr e ↦ absurd (false≢true (subst IsSome e.0 k))
        ]
      ];
      clean = λ f m q e u. elim (cases_eq n m) [
        | inl k ↦ let q' : Some w ≡ Some q = sym look.here ∙ ap (in_memory d) k ∙ e in
            let p : w ≡ q = cc in
            subst (λ i. sealed_payload d i ≡ Some (box_value q.payload)) k (seals (faithful f) n ∙ at (faithful f) ∙ ap (λ (x : Held). Some (box_value x.payload)) p)
        | inr ne ↦ elim (look.others m ne) [
          | inl e' ↦ seals (faithful f) m ∙ s.clean (faithful f) m q (sym e' ∙ e) u
          | inr e' ↦ let x : None ≡ Some q = sym e'.0 ∙ e in absurd (cc)
        ]
      ];
    } in
    record {
      sound = sound;
      asked = asked;
      unsynced = unsyncs_none c d t.unsynced;
      length = t.count;
      stays = record {
        keeps = record { store = t.keeps; capacity = capacity; written = λ f m _ _. pages f m; settled = settled d sound };
        count = count;
        payloads = λ f m. elim (cases_eq n m) [
          | inl k ↦ subst (λ i. payload_of d i ≡ payload_of c i) k (payload_of-some d n w look.here ∙ sym (payload_of-none c n absent ∙ at f))
          | inr ne ↦ elim (look.others m ne) [
            | inl e ↦ payload_of-same c d m e (seals f m)
            | inr e ↦ payload_of-none d m e.0 ∙ seals f m ∙ sym (settled c s f m e.1)
          ]
        ];
        changed = λ m u. elim (cases_eq n m) [
          | inl k ↦ subst (λ i. is_changed d i ≡ false) k (is_changed-some d n w look.here ∙ unmarked)
          | inr ne ↦ elim (look.others m ne) [
            | inl e ↦ is_changed-same c d m e ∙ u
            | inr e ↦ is_changed-none d m e.0
          ]
        ];
        unwritten = none_written c d (λ f k _. rest_same c d k (λ m _. pages f m));
      };
    }

-- page n has been lent, and its payload is w's
pub lent : (c d : Cache) (n : ℕ) (w : Held) → IsSound c → n < c.count → w.changed ≡ true → store.Stays c.store d.store → Sets c n w d
    → d.count ≡ c.count → d.capacity ≡ c.capacity → IsSound d × Writes n (box_value w.payload) c d
lent c d n w s below marked t look count capacity =
    let faithful : IsTrue d.store.is_faithful → IsTrue c.store.is_faithful = λ f. sym t.keeps.faithful ∙ f in
    let pages : IsTrue c.store.is_faithful → (m : ℕ) → page_of d m ≡ page_of c m = λ f m. same_page c d m count (λ _. ap (λ xs. slice_get xs m) (t.pages f)) in
    let seals : IsTrue c.store.is_faithful → (m : ℕ) → sealed_payload d m ≡ sealed_payload c m = λ f m. sealed_payload-same c d m (pages f m) in
    let sound : IsSound d = record {
      within = omega (arith, s.within, count, t.count);
      below = λ m k. elim (cases_eq n m) [
        | inl e ↦ omega (arith, e, below, count)
        | inr ne ↦ let b : m < c.count = s.below m (subst IsSome (set_other c d n m w look ne) k) in omega (arith, b, count)
      ];
      clean = λ f m q e u. elim (cases_eq n m) [
        | inl k ↦ let q' : Some w ≡ Some q = sym (set_here c d n w look) ∙ ap (in_memory d) k ∙ e in
            let p : w ≡ q = cc in
            absurd (false≢true (sym u ∙ sym (ap (λ (x : Held). x.changed) p) ∙ marked))
        | inr ne ↦ seals (faithful f) m ∙ s.clean (faithful f) m q (sym (set_other c d n m w look ne) ∙ e) u
      ];
    } in (
      sound,
      record {
        keeps = record { store = t.keeps; capacity = capacity; written = λ f m _ _. pages f m; settled = settled d sound };
        count = count;
        payloads = λ f m. elim (cases_eq n m) [
          | inl k ↦ subst (λ i. payload_of d i ≡ cond (nat_eq n i) (Some (box_value w.payload)) (payload_of c i)) k
              (payload_of-some d n w (set_here c d n w look) ∙ sym (ap (λ b. cond b (Some (box_value w.payload)) (payload_of c n)) (eq-eqb n n refl)))
          | inr ne ↦ payload_of-same c d m (set_other c d n m w look ne) (seals f m) ∙ sym (ap (λ b. cond b (Some (box_value w.payload)) (payload_of c m)) (ne_eqb n m ne))
        ];
        changed = λ m ne u. is_changed-same c d m (set_other c d n m w look ne) ∙ u;
        unwritten = none_written c d (λ f k _. rest_same c d k (λ m _. pages f m));
      },
    )

pub none_beyond : (c : Cache) (n : ℕ) (o : Option Held) → IsSound c → c.count ≤ n → in_memory c n ≡ o → in_memory c n ≡ None
none_beyond c n None s h e = e
none_beyond c n (Some q) s h e = let b : n < c.count = s.below n (is_some_of _ _ e) in absurd (omega arith)

-- past the last page there is no payload
pub payload_of-above : (c : Cache) (n : ℕ) → IsSound c → c.count ≤ n → payload_of c n ≡ None
unfolding sealed_payload
payload_of-above c n s h = payload_of-none c n (none_beyond c n (in_memory c n) s h refl) ∙ ap (option_and_then (unsealed n)) (page_of-above c n h)

-- a page has been added to the store
pub appended : (c d : Cache) (n : ℕ) (page : List ℕ) (p : Payload) → IsSound c → IsLawful c.store → n ≡ c.count → unsealed n page ≡ Some p → store.Writes n page c.store d.store → ((m : ℕ) → in_memory d m ≡ in_memory c m)
    → d.count ≡ c.count + 1 → d.capacity ≡ c.capacity → IsSound d × Adds p c d
appended c d n page p s l at reads t look count capacity =
    let faithful : IsTrue d.store.is_faithful → IsTrue c.store.is_faithful = λ f. sym t.keeps.faithful ∙ f in
    let fits : IsTrue c.store.is_faithful → n ≤ length c.store.pages = λ f. omega (arith, l.counted f, s.within) in
    let here_page : IsTrue c.store.is_faithful → page_of d n ≡ Some page = λ f.
    page_of-below d n (omega (arith, count, at)) ∙ ap (λ xs. slice_get xs n) (t.pages f) ∙ slice_get-put_page c.store.pages n page (fits f) in
    let other_page : IsTrue c.store.is_faithful → (m : ℕ) → n ≢ m → page_of d m ≡ page_of c m = λ f m ne. elim (cases_lt m c.count) [
      | inl h ↦ page_of-below d m (omega (arith, h, count)) ∙ ap (λ xs. slice_get xs m) (t.pages f) ∙ slice_get-put_other c.store.pages n m page (fits f) ne ∙ sym (page_of-below c m h)
      | inr h ↦ page_of-above d m (omega (arith, h, count, at, ne)) ∙ sym (page_of-above c m h)
    ] in
    let sound : IsSound d = record {
      within = omega (arith, s.within, count, t.count, at);
      below = λ m k. let b : m < c.count = s.below m (subst IsSome (look m) k) in omega (arith, b, count);
      clean = λ f m q e u. let e' = sym (look m) ∙ e in
          let b : m < c.count = s.below m (is_some_of _ _ e') in
          sealed_payload-same c d m (other_page (faithful f) m (λ k. let x : n ≡ m = k in absurd (omega (arith, x, b, at)))) ∙ s.clean (faithful f) m q e' u;
    } in
    let absent : in_memory c n ≡ None = none_beyond c n (in_memory c n) s (omega (arith, at)) refl in (
      sound,
      record {
        keeps = record {
          store = t.keeps;
          capacity = capacity;
          settled = settled d sound;
          written = λ f m b _. other_page f m (λ k. let x : n ≡ m = k in absurd (omega (arith, x, b, at)));
        };
        count = count;
        payloads = λ f m. subst (λ i. payload_of d m ≡ cond (nat_eq i m) (Some p) (payload_of c m)) at (elim (cases_eq n m) [
          | inl k ↦ subst (λ i. payload_of d i ≡ cond (nat_eq n i) (Some p) (payload_of c i)) k
              (payload_of-none d n (look n ∙ absent) ∙ sealed_payload-at d n page p (here_page f) reads ∙ sym (ap (λ b. cond b (Some p) (payload_of c n)) (eq-eqb n n refl)))
          | inr ne ↦ payload_of-same c d m (look m) (sealed_payload-same c d m (other_page f m ne)) ∙ sym (ap (λ b. cond b (Some p) (payload_of c m)) (ne_eqb n m ne))
        ]);
        changed = λ m ne u. is_changed-same c d m (look m) ∙ u;
      },
    )

-- a page could not be added
pub not_appended : (c d : Cache) (n : ℕ) → IsSound c → IsLawful c.store → n ≡ c.count → store.Tears n c.store d.store → ((m : ℕ) → in_memory d m ≡ in_memory c m)
    → d.count ≡ c.count → d.capacity ≡ c.capacity → IsSound d × KeepsPayloads c d
not_appended c d n s l at t look count capacity =
    let faithful : IsTrue d.store.is_faithful → IsTrue c.store.is_faithful = λ f. sym t.keeps.faithful ∙ f in
    let fits : IsTrue c.store.is_faithful → n ≤ length c.store.pages = λ f. omega (arith, l.counted f, s.within) in
    let pages : IsTrue c.store.is_faithful → (m : ℕ) → page_of d m ≡ page_of c m = λ f m. same_page c d m count (λ b.
    ⊎_elim (λ e. ap (λ xs. slice_get xs m) e) (λ e. ap (λ xs. slice_get xs m) e.1 ∙ slice_get-put_other c.store.pages n m e.0 (fits f) (λ k. let x : n ≡ m = k in absurd (omega (arith, x, b, at)))) (t.pages f)) in
    let seals : IsTrue c.store.is_faithful → (m : ℕ) → sealed_payload d m ≡ sealed_payload c m = λ f m. sealed_payload-same c d m (pages f m) in
    let sound : IsSound d = record {
      within = omega (arith, s.within, count, t.count);
      below = λ m h. let b : m < c.count = s.below m (subst IsSome (look m) h) in omega (arith, b, count);
      clean = λ f m h e u. seals (faithful f) m ∙ s.clean (faithful f) m h (sym (look m) ∙ e) u;
    } in (
      sound,
      record {
        keeps = record { store = t.keeps; capacity = capacity; written = λ f m _ _. pages f m; settled = settled d sound };
        count = count;
        payloads = λ f m. payload_of-same c d m (look m) (seals f m);
        changed = λ m u. is_changed-same c d m (look m) ∙ u;
        unwritten = none_written c d (λ f k _. rest_same c d k (λ m _. pages f m));
      },
    )

-- a page has come in behind the last one, changed; whatever bytes the store has of it
pub entered : (c d : Cache) (n : ℕ) (page : List ℕ) (w : Held) → IsSound c → IsLawful c.store → n ≡ c.count → w.changed ≡ true → store.Writes n page c.store d.store → Takes c n w d
    → d.count ≡ c.count + 1 → d.capacity ≡ c.capacity → IsSound d × Adds (box_value w.payload) c d
entered c d n page w s l at marked t look count capacity =
    let faithful : IsTrue d.store.is_faithful → IsTrue c.store.is_faithful = λ f. sym t.keeps.faithful ∙ f in
    let fits : IsTrue c.store.is_faithful → n ≤ length c.store.pages = λ f. omega (arith, l.counted f, s.within) in
    let other_page : IsTrue c.store.is_faithful → (m : ℕ) → n ≢ m → page_of d m ≡ page_of c m = λ f m ne. elim (cases_lt m c.count) [
      | inl h ↦ page_of-below d m (omega (arith, h, count)) ∙ ap (λ xs. slice_get xs m) (t.pages f) ∙ slice_get-put_other c.store.pages n m page (fits f) ne ∙ sym (page_of-below c m h)
      | inr h ↦ page_of-above d m (omega (arith, h, count, at, ne)) ∙ sym (page_of-above c m h)
    ] in
    let sound : IsSound d = record {
      within = omega (arith, s.within, count, t.count, at);
      below = λ m k. elim (cases_eq n m) [
        | inl e ↦ omega (arith, e, at, count)
        | inr ne ↦ elim (look.others m ne) [
          | inl e ↦ let b : m < c.count = s.below m (subst IsSome e k) in omega (arith, b, count)
          | inr e ↦ absurd (false≢true (subst IsSome e.0 k))
        ]
      ];
      clean = λ f m q e u. elim (cases_eq n m) [
        | inl k ↦ let q' : Some w ≡ Some q = sym look.here ∙ ap (in_memory d) k ∙ e in
            let p : w ≡ q = cc in
            absurd (false≢true (sym u ∙ sym (ap (λ (x : Held). x.changed) p) ∙ marked))
        | inr ne ↦ elim (look.others m ne) [
          | inl e' ↦ sealed_payload-same c d m (other_page (faithful f) m ne) ∙ s.clean (faithful f) m q (sym e' ∙ e) u
          | inr e' ↦ let x : None ≡ Some q = sym e'.0 ∙ e in absurd (cc)
        ]
      ];
    } in (
      sound,
      record {
        keeps = record {
          store = t.keeps;
          capacity = capacity;
          settled = settled d sound;
          written = λ f m b _. other_page f m (λ k. let x : n ≡ m = k in absurd (omega (arith, x, b, at)));
        };
        count = count;
        payloads = λ f m. subst (λ i. payload_of d m ≡ cond (nat_eq i m) (Some (box_value w.payload)) (payload_of c m)) at (elim (cases_eq n m) [
          | inl k ↦ subst (λ i. payload_of d i ≡ cond (nat_eq n i) (Some (box_value w.payload)) (payload_of c i)) k
              (payload_of-some d n w look.here ∙ sym (ap (λ b. cond b (Some (box_value w.payload)) (payload_of c n)) (eq-eqb n n refl)))
          | inr ne ↦ elim (look.others m ne) [
            | inl e ↦ payload_of-same c d m e (sealed_payload-same c d m (other_page f m ne))
            | inr e ↦ payload_of-none d m e.0 ∙ sealed_payload-same c d m (other_page f m ne) ∙ sym (settled c s f m e.1)
          ] ∙ sym (ap (λ b. cond b (Some (box_value w.payload)) (payload_of c m)) (ne_eqb n m ne))
        ]);
        changed = λ m ne u. elim (look.others m (λ k. ne (sym at ∙ k))) [
          | inl e ↦ is_changed-same c d m e ∙ u
          | inr e ↦ is_changed-none d m e.0
        ];
      },
    )

-- a page that was written may be told of as one that was torn
pub written_torn : (s t : Store) (n : ℕ) (page : List ℕ) → n ≤ s.count → store.Writes n page s t → store.Tears n s t
written_torn s t n page below w = record {
  keeps = w.keeps;
  count = elim (cases_lt n s.count) [
    | inl h ↦ inl (let c = w.count in omega (arith, clamps, c, h))
    | inr h ↦ inr ((let x : n ≡ s.count = omega (arith, h, below) in x), (let c = w.count in omega (arith, clamps, c, h, below)))
  ];
  pages = λ f. inr (page, w.pages f);
}

-- the page used longest ago, in a cache that is full
pub leaves_last : (c : Cache) (n : ℕ) (h : Held) → IsDistinct nat_eq (keys_of c.held) → IsWithin c → c.capacity ≤ length c.held
    → Some (n, h) ≡ slice_get c.held (length c.held - 1) → OnLeaving c (λ m. (m ≡ n) × (is_changed c m ≡ h.changed))
leaves_last c n h distinct w full at e k =
    let same : c.capacity - 1 ≡ length c.held - 1 = omega (arith, w.fits) in
    let f : Some e ≡ Some (n, h) = sym k ∙ ap (slice_get c.held) same ∙ sym at in
    let g : e ≡ (n, h) = cc in
    let m : e.0 ≡ n = ap (λ (x : ℕ × Held). x.0) g in
    (m, ap (is_changed c) m ∙ is_changed-some c n h (lookup_from_place nat_eq_equiv c.held (length c.held - 1) n h distinct (sym at)))

-- the page that would leave has been written
pub room_after : (c d : Cache) (n : ℕ) → IsWithin c → OnLeaving c (λ m. m ≡ n) → keys_of d.held ≡ keys_of c.held → d.capacity ≡ c.capacity → is_changed d n ≡ false → HasRoom d
room_after c d n w leaves keys capacity unmarked =
    let long : length d.held ≡ length c.held = sym (length-map d.held (λ e. e.0)) ∙ ap length keys ∙ length-map c.held (λ e. e.0) in
    record {
      within = record { some = omega (arith, w.some, capacity); fits = omega (arith, w.fits, long, capacity) };
      leaving = λ e h.
          let at = at_same_key (d.capacity - 1) c.held d.held e keys h in
          let same : slice_get c.held (c.capacity - 1) ≡ Some at.0 = ap (λ k. slice_get c.held (k - 1)) (sym capacity) ∙ at.1 in
          ap (is_changed d) (sym at.2 ∙ leaves at.0 same) ∙ unmarked;
    }

pub on_ok : {X E P Q : Type 0} (r : Result X E) → (P → Q) → OnOk r P → OnOk r Q
on_ok (Ok x) f h = f h
on_ok (Err e) f h = tt

pub steps-trans : (a b c : Cache) → Steps a b → Steps b c → Steps a c
steps-trans a b c t u = record {
  sound = u.sound;
  stays = stays-trans a b c t.stays u.stays;
  unsynced = unsyncs-trans a b c t.stays.changed t.unsynced u.unsynced;
  asked = u.asked ∙ t.asked;
  length = u.length ∙ t.length;
}

-- a page has come in first, and the last has left where the cache was full
gone : (c d : Cache) (m k : ℕ) (o p : Option Held) → HasRoom c → k ≡ c.capacity - 1 → in_memory d m ≡ lookup (nat_eq m) (take k c.held) → lookup (nat_eq m) (take k c.held) ≡ o → in_memory c m ≡ p
    → (in_memory d m ≡ in_memory c m) ⊎ ((in_memory d m ≡ None) × (is_changed c m ≡ false))
gone c d m k (Some q) p r z e f g = inl (e ∙ f ∙ sym (lookup-take k m c.held q f))
gone c d m k None None r z e f g = inl (e ∙ f ∙ sym g)
gone c d m k None (Some q) r z e f g =
    let fits : length c.held ≤ k + 1 = omega (arith, r.within.some, r.within.fits) in
    let at = dropped k m c.held q fits g f in
    inr (e ∙ f, ap (is_changed c) (sym at.2) ∙ r.leaving at.0 (ap (slice_get c.held) (sym z) ∙ at.1))

pub taken : (c d : Cache) (n : ℕ) (w : Held) → HasRoom c → d.held ≡ (n, w) ∷ take (c.capacity - 1) c.held → Takes c n w d
taken c d n w r e = record {
  here = ap (lookup (nat_eq n)) e ∙ ap (λ b. cond b (Some w) (lookup (nat_eq n) (take (c.capacity - 1) c.held))) (eq-eqb n n refl);
  others = λ m ne.
      let apart : nat_eq m n ≡ false = ne_eqb m n (λ k. ne (sym k)) in
      gone c d m (c.capacity - 1) _ _ r refl (ap (lookup (nat_eq m)) e ∙ ap (λ b. cond b (Some w) (lookup (nat_eq m) (take (c.capacity - 1) c.held))) apart) refl refl;
}

-- room does not depend on the store
pub still_room : (c d : Cache) → d.held ≡ c.held → d.capacity ≡ c.capacity → HasRoom c → HasRoom d
still_room c d e f r = record {
  within = record { some = omega (arith, r.within.some, f); fits = omega (arith, r.within.fits, f, ap length e) };
  leaving = λ x h. is_changed-same c d x.0 (ap (lookup (nat_eq x.0)) e) ∙ r.leaving x (ap (λ k. slice_get c.held (k - 1)) (sym f) ∙ ap (λ es. slice_get es (d.capacity - 1)) (sym e) ∙ h);
}

pub on_err : {X E : Type 0} {P Q : E → Type 0} (r : Result X E) → ((e : E) → P e → Q e) → IfErr r P → IfErr r Q
on_err (Ok x) f h = tt
on_err (Err e) f h = f e h

-- a page that has been read
pub sealed_read : (c : Cache) (n : ℕ) (page : List ℕ) → n < c.count → slice_get c.store.pages n ≡ Some page → sealed_payload c n ≡ unsealed n page
unfolding sealed_payload
sealed_read c n page h e = ap (option_and_then (unsealed n)) (page_of-below c n h ∙ e)

pub sealed_still : (c d : Cache) (n : ℕ) → store.Stays c.store d.store → d.count ≡ c.count → IsTrue d.store.is_faithful → sealed_payload d n ≡ sealed_payload c n
sealed_still c d n t count f = sealed_payload-same c d n (same_page c d n count (λ _. ap (λ xs. slice_get xs n) (t.pages (sym t.keeps.faithful ∙ f))))

pub payload_of-first : (c : Cache) (n : ℕ) (e : ℕ × Held) → IsFirst c n → Some e ≡ slice_get c.held 0 → payload_of c n ≡ Some (box_value e.1.payload)
payload_of-first c n e f at =
    let same : Some e ≡ Some (n, f.0) = at ∙ f.1 in
    let same_page : e ≡ (n, f.0) = cc in
    payload_of-some c n f.0 (first_entry n c.held f.0 f.1) ∙ ap (λ (x : ℕ × Held). Some (box_value x.1.payload)) (sym same_page)

-- one page more is asked for
pub asking_unsynced : (c : Cache) (k : ℕ) → UnsyncsNone c (record c { asked = k })
asking_unsynced c k = unsyncs_none c (record c { asked = k }) (inl refl)

pub asking : (c : Cache) (k : ℕ) → IsSound c → IsSound (record c { asked = k }) × KeepsPayloads c (record c { asked = k })
asking c k s = reordered c (record c { asked = k }) s (store_rests c.store) (λ _. refl) refl refl

-- a number is in a list
abbrev IsIn : List ℕ → ℕ → Type 0
IsIn ns n = (k : ℕ) × (k < length ns) × (get_or ns k 0 ≡ n)

in_tail : (m : ℕ) (ns : List ℕ) (n : ℕ) → IsIn ns n → IsIn (m ∷ ns) n
in_tail m ns n i = (suc i.0, omega (arith, i.1), i.2)

in_filtered : (b : Bool) (e : ℕ × Held) (es : List (ℕ × Held)) (n : ℕ) → IsIn (map (λ (e : ℕ × Held). e.0) es) n → IsIn (map (λ (e : ℕ × Held). e.0) (cond b (e ∷ es) es)) n
in_filtered true e es n i = in_tail e.0 (map (λ (e : ℕ × Held). e.0) es) n i
in_filtered false e es n i = i

-- a changed page is in the list of them
listed : (es : List (ℕ × Held)) (n : ℕ) (h : Held) → lookup (nat_eq n) es ≡ Some h → h.changed ≡ true → IsIn (changed_numbers es) n
listed [] n h e u = absurd (cc)
listed (f ∷ es) n h e u =
    (elim (nat_eq n f.0) as (λ y. nat_eq n f.0 ≡ y → cond y (Some f.1) (lookup (nat_eq n) es) ≡ Some h → IsIn (changed_numbers (f ∷ es)) n) [
      | true ↦ λ t g.
          let same : f.1 ≡ h = cc in
          let marked : f.1.changed ≡ true = ap (λ (x : Held). x.changed) same ∙ u in
          subst (λ b. IsIn (map (λ (e : ℕ × Held). e.0) (cond b (f ∷ filter (λ (e : ℕ × Held). e.1.changed) es) (filter (λ (e : ℕ × Held). e.1.changed) es))) n) (sym marked)
          (zero, omega arith, sym (eqb-true n f.0 t))
      | false ↦ λ t g. in_filtered f.1.changed f (filter (λ (e : ℕ × Held). e.1.changed) es) n (listed es n h g u)
    ]) refl e

unchanged_at : (a c : Cache) (n : ℕ) (ns : List ℕ) (o : Option Held) (b : Bool) → ns ≡ changed_numbers a.held → KeepsPayloads a c → ((k : ℕ) → k < length ns → is_changed c (get_or ns k 0) ≡ false)
    → in_memory a n ≡ o → is_changed a n ≡ b → is_changed c n ≡ false
unchanged_at a c n ns o false same t done e u = t.changed n u
unchanged_at a c n ns None true same t done e u = absurd (false≢true (sym (is_changed-none a n e) ∙ u))
unchanged_at a c n ns (Some h) true same t done e u =
    let i : IsIn ns n = subst (λ ms. IsIn ms n) (sym same) (listed a.held n h e (sym (is_changed-some a n h e) ∙ u)) in
    subst (λ m. is_changed c m ≡ false) i.2 (done i.0 i.1)

-- once all of the changed pages are written, none is changed
pub none_changed : (a c : Cache) (ns : List ℕ) → ns ≡ changed_numbers a.held → KeepsPayloads a c → ((k : ℕ) → k < length ns → is_changed c (get_or ns k 0) ≡ false) → (n : ℕ) → is_changed c n ≡ false
none_changed a c ns same t done n = unchanged_at a c n ns (in_memory a n) (is_changed a n) same t done refl refl

-- a page that was just added is not changed
pub added_seal : (a b : Cache) (n : ℕ) (p : Payload) → n ≡ a.count → Adds p a b → in_memory b n ≡ None → IsTrue b.store.is_faithful → sealed_payload b n ≡ Some p
added_seal a b n p at t absent f =
    sym (t.keeps.settled f n (is_changed-none b n absent)) ∙ t.payloads (sym t.keeps.store.faithful ∙ f) n ∙ ap (λ b. cond b (Some p) (payload_of a n)) (eq-eqb a.count n (sym at))

-- what `unseal` answered
pub answered-ok : {E : Type 0} (o : Option Payload) (p : Payload) (fault : E) → Ok p ≡ ok_or o fault → o ≡ Some p
answered-ok None p fault e = absurd (cc)
answered-ok (Some q) p fault e = let same : p ≡ q = cc in ap Some (sym same)

pub answered-err : {E : Type 0} (o : Option Payload) (other fault : E) → Err other ≡ ok_or o fault → o ≡ None
answered-err None other fault e = refl
answered-err (Some q) other fault e = absurd (cc)

-- where the cache counts all of the store's pages, a page as written is the store's
pub sealed_payload-stored : (c : Cache) (n : ℕ) → IsLawful c.store → IsTrue c.store.is_faithful → c.count ≡ c.store.count → sealed_payload c n ≡ stored_payload c.store n
unfolding sealed_payload page_of pages_as_written stored_payload
sealed_payload-stored c n l f e = ap (λ xs. option_and_then (unsealed n) (slice_get xs n)) (take_all c.count c.store.pages (omega (arith, l.counted f, e)))

-- a sound cache in which no page is changed
pub all_written : (c : Cache) → IsSound c → IsLawful c.store → ((n : ℕ) → is_changed c n ≡ false) → IsWritten c
all_written c s l u = record {
  clean = u;
  sealed = λ f n. settled c s f n (u n);
  stored = λ f e n. settled c s f n (u n) ∙ sealed_payload-stored c n l f e;
}

-- a cache with no page in memory
pub empty_written : (c : Cache) → IsLawful c.store → c.count ≡ c.store.count → ((n : ℕ) → in_memory c n ≡ None) → IsWritten c
empty_written c l e none =
    let sound : IsSound c = record {
      within = omega (arith, e);
      below = λ n h. absurd (false≢true (subst IsSome (none n) h));
      clean = λ f n h at u. let x : None ≡ Some h = sym (none n) ∙ at in absurd (cc);
    } in
    all_written c sound l (λ n. is_changed-none c n (none n))

-- the store has failed
pub failed_refused : (a b : Cache) (n : ℕ) (e : CacheFault) → HasFailed e a b → IsRefused n e a b
failed_refused a b n e r = subst (λ x. IsRefused n x a b) (sym r.0) r.1

pub failed_stopped : (a b : Cache) (e : CacheFault) → HasFailed e a b → IsStopped e a b
failed_stopped a b e r = subst (λ x. IsStopped x a b) (sym r.0) r.1

pub failed_not_added : (a b : Cache) (e : CacheFault) → HasFailed e a b → IsNotAdded e a b
failed_not_added a b e r = subst (λ x. IsNotAdded x a b) (sym r.0) r.1

-- so it has after a step before it
pub failed_after : (a b c : Cache) (e : CacheFault) → Steps a b → HasFailed e b c → HasFailed e a c
failed_after a b c e s r = (r.0, let f = r.1 in omega (arith, f, s.stays.keeps.store.faults))

-- what stops a page from coming in after a step keeps it from being added
pub stopped_not_added : (a b c : Cache) (e : CacheFault) → store.Keeps a.store b.store → IsStopped e b c → IsNotAdded e a c
stopped_not_added a b c fault.NoPage s r = absurd r
stopped_not_added a b c fault.Store s r = omega (arith, r, s.faults)
stopped_not_added a b c (fault.Damaged m) s r = absurd r
stopped_not_added a b c fault.StoreFull s r = absurd r
stopped_not_added a b c fault.Memory s r = tt

-- nothing was to be written
pub writes_none : (c : Cache) → IsSound c → WritesBack c c (Ok tt)
writes_none c s = record { steps = rests c s; keys = refl; cause = tt }

-- pages are written after a step that keeps those in memory
pub writes-trans : (a b c : Cache) (r : Result (Unit {0}) CacheFault) → Steps a b → keys_of b.held ≡ keys_of a.held → WritesBack b c r → WritesBack a c r
writes-trans a b c r s k w = record { steps = steps-trans a b c s w.steps; keys = w.keys ∙ k; cause = on_err r (λ e. failed_after a b c e s) w.cause }

-- there is no page at the count or above
pub payload_of-beyond : (c : Cache) (n : ℕ) → IsSound c → c.count ≤ n → payload_of c n ≡ None
unfolding sealed_payload
payload_of-beyond c n s h = payload_of-none c n (none_beyond c n (in_memory c n) s h refl) ∙ ap (option_and_then (unsealed n)) (page_of-above c n h)
