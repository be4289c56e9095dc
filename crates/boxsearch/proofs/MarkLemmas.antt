-- Page 0, marked.
use Rattle.std.proofs.Common.{ℕ, ◌≡◌, ◌<◌, ◌==◌, cond, sym, ap, refl, ◌∙◌, arith, subst, false, drop, IsTrue, Some, option_and_then}
use Rattle.std.proofs.lemmas.Bool.Decides.{nat_tests}
use Rattle.std.proofs.lemmas.Int.{clamps}
use Rattle.pages.specs.Unsealed.{unsealed}
use Rattle.pages.specs.declared.payload.Payload.{Payload}
use Rattle.pagecache.specs.Cache.{Cache, payload_of, sealed_payload, is_changed, IsClean, IsWritten, Lends, Rests, KeepsPayloads, SameLength, pages_as_written}
use Rattle.boxsearch.specs.Index.{IsMarked}
use Rattle.header.specs.Front.{front_bytes, marked, IsUnfinished}
use Rattle.boxsearch.specs.Marking.{Marks}
use Rattle.boxsearch.proofs.PlaceLemmas.{some_none, some_same}

marked_fields : (p : Payload) → drop 12 (marked p).bytes ≡ drop 12 p.bytes
unfolding front_bytes
marked_fields p = refl

pub rests_marks : (a b : Cache) → Rests a b → Marks a b
unfolding sealed_payload
rests_marks a b r = record {
  store = r.stays.keeps.store;
  capacity = r.stays.keeps.capacity;
  count = r.stays.count;
  length = r.length;
  asked = (let h = r.asks in omega (arith, clamps, h));
  rest = λ f n l. r.stays.payloads f n;
  held = λ f u e. u (sym (r.stays.payloads f 0) ∙ e);
  fields = λ f p at. (p, r.stays.payloads f 0 ∙ at, refl);
  stays = λ m. record {
    faithful = r.stays.keeps.store.faithful ∙ m.faithful;
    there = (let t = m.there in let c = r.stays.count in omega (arith, t, c));
    unchanged = r.stays.changed 0 m.unchanged;
    payload = m.payload;
    sealed = ap (option_and_then (unsealed 0)) (r.stays.keeps.written m.faithful 0 m.there m.unchanged) ∙ m.sealed;
    unfinished = m.unfinished;
  };
}

pub marks_trans : (a b c : Cache) → Marks a b → Marks b c → Marks a c
marks_trans a b c p q = record {
  store = record { most = q.store.most ∙ p.store.most; faithful = q.store.faithful ∙ p.store.faithful; faults = (let h = p.store.faults in let k = q.store.faults in omega (arith, h, k)); lost = λ l. q.store.lost (p.store.lost l) };
  capacity = q.capacity ∙ p.capacity;
  count = q.count ∙ p.count;
  length = q.length ∙ p.length;
  asked = (let h = p.asked in let k = q.asked in omega (arith, clamps, h, k));
  rest = λ f n l. q.rest (p.store.faithful ∙ f) n l ∙ p.rest f n l;
  held = λ f u. q.held (p.store.faithful ∙ f) (p.held f u);
  fields = λ f v at. let x = p.fields f v at in let y = q.fields (p.store.faithful ∙ f) x.0 x.1 in (y.0, y.1, y.2 ∙ x.2);
  stays = λ m. q.stays (p.stays m);
}

-- what page 0 has, where it is as written
pub as_written : (a b : Cache) → Rests a b → IsTrue a.store.is_faithful → is_changed a 0 ≡ false → payload_of a 0 ≡ sealed_payload b 0
as_written a b r f u = sym (r.stays.payloads f 0) ∙ r.stays.keeps.settled (r.stays.keeps.store.faithful ∙ f) 0 (r.stays.changed 0 u)

not_first : (n : ℕ) → 0 < n → (0 == n) ≡ false
not_first n h = grind (arith, nat_tests, h)

-- page 0 that is not marked, and is made so and written
module _ (a b c d : Cache) (p w : Payload) (r : Rests a b) (read : IsTrue a.store.is_faithful → payload_of a 0 ≡ Some p) (not_marked : IsUnfinished p → is_changed a 0 ≡ false → ⊥) (l : Lends 0 w b c) (s : KeepsPayloads c d) (len : SameLength c d) (asked : d.asked ≡ c.asked) where
  was_not : IsMarked a → ⊥
  unfolding sealed_payload
  was_not m =
      let same : Some p ≡ Some m.payload = sym (read m.faithful) ∙ as_written a b r m.faithful m.unchanged ∙ ap (option_and_then (unsealed 0)) (r.stays.keeps.written m.faithful 0 m.there m.unchanged) ∙ m.sealed in
      not_marked (subst (λ q. IsUnfinished q) (sym (some_same p m.payload same)) m.unfinished) m.unchanged

  fb : IsTrue a.store.is_faithful → IsTrue b.store.is_faithful
  fb f = r.stays.keeps.store.faithful ∙ f

  fc : IsTrue a.store.is_faithful → IsTrue c.store.is_faithful
  fc f = l.writes.keeps.store.faithful ∙ fb f

  rest : IsTrue a.store.is_faithful → (n : ℕ) → 0 < n → payload_of d n ≡ payload_of a n
  rest f n h = s.payloads (fc f) n ∙ l.writes.payloads (fb f) n ∙ ap (λ v. cond v (Some w) (payload_of b n)) (not_first n h) ∙ r.stays.payloads f n

  pub now : IsTrue a.store.is_faithful → payload_of d 0 ≡ Some w
  now f = s.payloads (fc f) 0 ∙ l.writes.payloads (fb f) 0

  pub flushed_marks : (v : Payload) → (IsTrue b.store.is_faithful → payload_of b 0 ≡ Some v) → w ≡ marked v → Marks a d
  flushed_marks v value made = record {
    store = record { most = s.keeps.store.most ∙ l.writes.keeps.store.most ∙ r.stays.keeps.store.most; faithful = s.keeps.store.faithful ∙ l.writes.keeps.store.faithful ∙ r.stays.keeps.store.faithful; faults = (let x = r.stays.keeps.store.faults in let y = l.writes.keeps.store.faults in let z = s.keeps.store.faults in omega (arith, x, y, z)); lost = λ h. s.keeps.store.lost (l.writes.keeps.store.lost (r.stays.keeps.store.lost h)) };
    capacity = s.keeps.capacity ∙ l.writes.keeps.capacity ∙ r.stays.keeps.capacity;
    count = s.count ∙ l.writes.count ∙ r.stays.count;
    length = len ∙ l.length ∙ r.length;
    asked = (let x = r.asks in let y = l.asks in omega (arith, clamps, x, y, asked));
    rest = rest;
    held = λ f u e. some_none w (sym (now f) ∙ e);
    fields = λ f q at. (w, now f, ap (λ x. drop 12 x.bytes) made ∙ marked_fields v ∙ ap (λ x. drop 12 x.bytes) (some_same v q (sym (value (fb f)) ∙ r.stays.payloads f 0 ∙ at)));
    stays = λ m. absurd (was_not m);
  }

  pub is_marked : IsTrue a.store.is_faithful → 0 < a.count → IsUnfinished w → IsWritten d → IsMarked d
  is_marked f h u written = record {
    faithful = s.keeps.store.faithful ∙ fc f;
    there = (let x = s.count in let y = l.writes.count in let z = r.stays.count in omega (arith, x, y, z, h));
    unchanged = written.clean 0;
    payload = w;
    sealed = sym (written.sealed (s.keeps.store.faithful ∙ fc f) 0) ∙ now f;
    unfinished = u;
  }

  pub others_written : IsTrue a.store.is_faithful → IsClean a → drop 1 (pages_as_written d) ≡ drop 1 (pages_as_written a)
  others_written f clean =
      s.unwritten.from (fc f) 1 (λ n h. l.writes.changed n (λ e. (let z : 0 ≡ n = e in omega (arith, z, h))) (r.stays.changed n (clean n)))
      ∙ ap (drop 1) (l.writes.unwritten.clean (fb f) (λ n. r.stays.changed n (clean n)) ∙ r.stays.unwritten.clean f clean)

-- page 0 that is marked, and written so
pub already_marked : (a b : Cache) (p : Payload) → Rests a b → (IsTrue a.store.is_faithful → payload_of a 0 ≡ Some p) → IsUnfinished p → IsTrue a.store.is_faithful → 0 < a.count → is_changed b 0 ≡ false → IsMarked b
already_marked a b p r read u f h same = record {
  faithful = r.stays.keeps.store.faithful ∙ f;
  there = (let c = r.stays.count in omega (arith, h, c));
  unchanged = same;
  payload = p;
  sealed = sym (r.stays.keeps.settled (r.stays.keeps.store.faithful ∙ f) 0 same) ∙ r.stays.payloads f 0 ∙ read f;
  unfinished = u;
}

-- and was
pub was_marked : (a b : Cache) (p : Payload) → Rests a b → (IsTrue a.store.is_faithful → payload_of a 0 ≡ Some p) → IsUnfinished p → IsTrue a.store.is_faithful → 0 < a.count → is_changed a 0 ≡ false → IsMarked a
unfolding sealed_payload
was_marked a b p r read u f h same = record {
  faithful = f;
  there = h;
  unchanged = same;
  payload = p;
  sealed = sym (ap (option_and_then (unsealed 0)) (r.stays.keeps.written f 0 h same)) ∙ sym (as_written a b r f same) ∙ read f;
  unfinished = u;
}
