-- How page 0 of a store begins: what is written is read.
use Rattle.std.proofs.Common.{ℕ, ◌≡◌, ◌+◌, ◌≤◌, ◌<◌, ◌^◌, ◌==◌, ◌&&◌, List, [], ◌++◌, take, drop, length, refl, sym, ap, ◌∙◌, arith, cond, Bool, true, IsTrue, ◌↔◌, Option, Some, None}
use Rattle.std.proofs.lemmas.Bool.Decides.{nat_tests}
use Rattle.std.proofs.lemmas.Int.{clamps}
use Rattle.std.proofs.lemmas.List.{append-nil, drop-take, length-take, take-take}
use Rattle.byteorder.specs.Endian.{big_bytes, big_number}
use Rattle.byteorder.specs.Numbers.{big_number-reads_back}
use Rattle.pages.specs.declared.payload.Kind.{Kind}
use Rattle.pages.specs.declared.payload.Kind.TheVariants.{Header, Leaf, Inner, Catalogue}
use Rattle.pages.specs.declared.payload.Payload.{Payload}
use Rattle.tbnode.specs.Parts.{number_at, part, put}
use Rattle.tbnode.proofs.PartLemmas.{number_at-put_before, number_at-put_same}
use Rattle.header.specs.Front.{finished, finished_front, front_bytes, front_of, is_header, letters, marked, unfinished_front, IsUnfinished}
use Rattle.header.specs.declared.fronts.Front.{Front}
use Rattle.header.proofs.FieldsLemmas.{joined, then_put}

-- the header that is made is one of a store that is not finished
pub marked_is : (p : Payload) → IsUnfinished (marked p)
unfolding front_bytes
marked_is p = record { kind = refl; front = refl }

-- and one that begins as such a header is one
pub begins_unfinished : (p q : Payload) → q.kind ≡ p.kind → take 12 q.bytes ≡ take 12 p.bytes → IsUnfinished p → IsUnfinished q
begins_unfinished p q kind front u = record { kind = kind ∙ u.kind; front = front ∙ u.front }

-- bytes that say a number
pub bytes_number : (place n : ℕ) (bytes : List ℕ) → n < 2 ^ 32 → big_bytes 4 n ≡ part place 4 bytes → n ≡ number_at 4 place bytes
unfolding number_at
bytes_number place n bytes small e =
    sym (big_number-reads_back 4 n [] (omega (arith, small))) ∙ ap (big_number 4) (append-nil (big_bytes 4 n) ∙ e)

-- a header with the letters
abbrev said : Kind → ℕ → ℕ → ℕ → Option Front
said kind l version state = cond (is_header kind && (l == big_number 4 letters)) (Some (record { version = version; state = state })) None

pub front_is : (p : Payload) (version state : ℕ) → p.kind ≡ Header → number_at 4 0 p.bytes ≡ big_number 4 letters → number_at 4 4 p.bytes ≡ version → number_at 4 8 p.bytes ≡ state → front_of p ≡ Some (record { version = version; state = state })
unfolding front_of
front_is p version state kind l v s = λ i. said (kind i) (l i) (v i) (s i)

module _ (bytes front : List ℕ) (e : take 12 bytes ≡ front) where
  front_part : (a n : ℕ) → a + n ≤ 12 → part a n bytes ≡ drop a (take (a + n) front)
  unfolding part
  front_part a n h = sym (drop-take a n bytes) ∙ ap (drop a) (sym (take-take (a + n) 12 bytes h) ∙ ap (take (a + n)) e)

  front_number : (a n : ℕ) → a + n ≤ 12 → number_at n a bytes ≡ big_number n (drop a (take (a + n) front))
  unfolding number_at
  front_number a n h = ap (big_number n) (front_part a n h)

  front_length : length front ≡ 12 → 12 ≤ length bytes
  front_length h = let l = length-take 12 bytes in let k = ap (λ (x : List ℕ). length x) e in omega (arith, clamps, l, k, h)

module _ (p : Payload) (u : IsUnfinished p) where
  is_letters : number_at 4 0 p.bytes ≡ big_number 4 letters
  unfolding front_bytes
  is_letters = front_number p.bytes (front_bytes unfinished_front) u.front 0 4 (omega arith)

  version : number_at 4 4 p.bytes ≡ 2
  unfolding front_bytes
  version = front_number p.bytes (front_bytes unfinished_front) u.front 4 4 (omega arith)

  state : number_at 4 8 p.bytes ≡ 0
  unfolding front_bytes
  state = front_number p.bytes (front_bytes unfinished_front) u.front 8 4 (omega arith)

  -- the header of a store that is not finished says so
  pub unfinished_says : front_of p ≡ Some unfinished_front
  unfinished_says = front_is p 2 0 u.kind is_letters version state

  room : 8 ≤ length p.bytes
  unfolding front_bytes
  room = let l = front_length p.bytes (front_bytes unfinished_front) u.front refl in omega (arith, l)

  before : (a : ℕ) → a + 4 ≤ 8 → number_at 4 a (finished p).bytes ≡ number_at 4 a p.bytes
  before a h = number_at-put_before 8 (big_bytes 4 1) p.bytes 4 a h room

  -- with the state 1 it is that of a finished store
  pub finished_says : front_of (finished p) ≡ Some finished_front
  finished_says =
      front_is (finished p) 2 1 u.kind (before 0 (omega arith) ∙ is_letters) (before 4 (omega arith) ∙ version)
      (number_at-put_same 4 8 1 p.bytes (omega arith) room)

-- the letters, the version and the state, written behind one another
pub front_put : (f : Front) (bytes a b c : List ℕ) → length bytes ≡ 4056 → length a ≡ 4056 → a ≡ put 0 letters bytes → b ≡ put 4 (big_bytes 4 f.version) a → c ≡ put 8 (big_bytes 4 f.state) b → c ≡ front_bytes f ++ drop 12 bytes
unfolding put front_bytes
front_put f bytes a b c n na e1 e2 e3 =
    let t2 = then_put 4 8 (big_bytes 4 f.version) (big_bytes 4 f.state) a b c refl (omega (arith, na)) e2 e3 in
    then_put 0 4 letters (big_bytes 4 f.version ++ big_bytes 4 f.state) bytes a c refl (omega (arith, n)) e1 t2

-- and read
pub front_read : (bytes : List ℕ) (l v s : ℕ) → l ≡ big_number 4 letters → big_bytes 4 l ≡ part 0 4 bytes → big_bytes 4 v ≡ part 4 4 bytes → big_bytes 4 s ≡ part 8 4 bytes → take 12 bytes ≡ front_bytes (record { version = v; state = s })
unfolding part front_bytes
front_read bytes l v s e is_letters is_version is_state =
    joined bytes 0 4 8 letters _ (sym is_letters ∙ ap (big_bytes 4) e) (joined bytes 4 4 4 _ _ (sym is_version) (sym is_state))

-- what says how it begins is a header
pub front_kind : (p : Payload) (f : Front) → front_of p ≡ Some f → p.kind ≡ Header
unfolding front_of
front_kind p f e = by_kind p.kind e where
  by_kind : (k : Kind) → said k (number_at 4 0 p.bytes) (number_at 4 4 p.bytes) (number_at 4 8 p.bytes) ≡ Some f → k ≡ Header
  by_kind Header is = refl
  by_kind Leaf is = absurd cc
  by_kind Inner is = absurd cc
  by_kind Catalogue is = absurd cc

some_same : {X : Type 0} {x y : X} → Some x ≡ Some y → x ≡ y
some_same e = (cc)

pub reads_unfinished : (p : Payload) (f : Front) (b : Bool) → Some f ≡ front_of p → take 12 p.bytes ≡ front_bytes f → b ≡ ((f.version == 2) && (f.state == 0)) → IsTrue b ↔ IsUnfinished p
reads_unfinished p f b is bytes same = (
  λ t.
      let e : ((f.version == 2) && (f.state == 0)) ≡ true = sym same ∙ t in
      let v : f.version ≡ 2 = grind (arith, nat_tests, e) in
      let s : f.state ≡ 0 = grind (arith, nat_tests, e) in
      record { kind = front_kind p f (sym is); front = bytes ∙ ap front_bytes (λ i. record { version = v i; state = s i }) },
  λ u. same ∙ ap (λ (g : Front). (g.version == 2) && (g.state == 0)) (some_same (is ∙ unfinished_says p u)),
)
