-- What page 0 of a store says behind its first 12 bytes, field by field.
use Rattle.std.proofs.Common.{ℕ, ◌≡◌, ◌+◌, ◌≤◌, List, [], ◌++◌, take, drop, length, refl, sym, ap, ◌∙◌, arith}
use Rattle.std.proofs.Math.Seq.{take-add, take-append_seam}
use Rattle.std.proofs.lemmas.Int.{clamps}
use Rattle.std.proofs.lemmas.List.{append_assoc, append_cancel_left, drop-drop, length-append, length-drop, length-take, length-take-le, take_at}
use Rattle.byteorder.specs.Endian.{big_bytes}
use Rattle.legs.specs.Costs.{ShapeView}
use Rattle.legs.specs.Limits.{LimitsView}
use Rattle.pages.specs.Zero.{zero_payload}
use Rattle.pages.specs.declared.payload.Kind.TheVariants.{Header}
use Rattle.pages.specs.declared.payload.Payload.{Payload}
use Rattle.tbnode.specs.Parts.{part, put}
use Rattle.tbnode.proofs.PartLemmas.{drop-put, length-big_bytes, part-put_after, part-put_same}
use Rattle.header.specs.Fields.{fields_bytes, header_bytes, header_payload, new_fields, HasFields, SaysLimits, SaysShape}
use Rattle.header.specs.Front.{front_bytes, marked, unfinished_front, with_state, IsUnfinished}
use Rattle.header.specs.declared.header_fields.Fields.{Fields}

-- two texts that are equal in front of something, where they are of one length
pub same_front : (a b s t : List ℕ) → length a ≡ length b → a ++ s ≡ b ++ t → (a ≡ b) × (s ≡ t)
same_front a b s t l e =
    let front : a ≡ b = sym (take-append_seam a s) ∙ ap (take (length a)) e ∙ ap (λ n. take n (b ++ t)) l ∙ take-append_seam b t in
    (front, append_cancel_left b s t (ap (λ a. a ++ s) (sym front) ∙ e))

-- what is written right behind something is written with it
module _ (p q : ℕ) (a b bytes : List ℕ) (next : q ≡ p + length a) (room : p ≤ length bytes) where
  front_put : take q (put p a bytes) ≡ take p bytes ++ a
  unfolding put
  front_put =
      ap (take q) (sym (append_assoc (take p bytes) a (drop (p + length a) bytes)))
      ∙ take_at (take p bytes ++ a) (drop (p + length a) bytes) q (length-append (take p bytes) a ∙ ap (λ n. n + length a) (length-take-le p bytes room) ∙ sym next)

  ends : q + length b ≡ p + length (a ++ b)
  ends = let both = length-append a b in omega (arith, both, next)

  behind_put : drop (q + length b) (put p a bytes) ≡ drop (p + length (a ++ b)) bytes
  behind_put = drop-put p a bytes (q + length b) (omega (arith, next)) room ∙ ap (λ n. drop n bytes) ends

  opened : (x : List ℕ) → take q x ≡ take p bytes ++ a → drop (q + length b) x ≡ drop (p + length (a ++ b)) bytes → put q b x ≡ put p (a ++ b) bytes
  unfolding put
  opened x e f =
      (λ i. e i ++ (b ++ f i))
      ∙ append_assoc (take p bytes) a (b ++ drop (p + length (a ++ b)) bytes)
      ∙ ap (λ l. take p bytes ++ l) (sym (append_assoc a b (drop (p + length (a ++ b)) bytes)))

  put_put : put q b (put p a bytes) ≡ put p (a ++ b) bytes
  put_put = opened (put p a bytes) front_put behind_put

pub then_put : (p q : ℕ) (a b x y z : List ℕ) → q ≡ p + length a → p ≤ length x → y ≡ put p a x → z ≡ put q b y → z ≡ put p (a ++ b) x
then_put p q a b x y z next room e f = f ∙ ap (put q b) e ∙ put_put p q a b x next room

-- ten numbers that are written behind one another
pub fields_put : (f : Fields) (bytes a b c d e g h k l m : List ℕ)
    → length bytes ≡ 4056 → length a ≡ 4056 → length b ≡ 4056 → length c ≡ 4056 → length d ≡ 4056
    → length e ≡ 4056 → length g ≡ 4056 → length h ≡ 4056 → length k ≡ 4056
    → a ≡ put 12 (big_bytes 2 f.shape.leaf) bytes → b ≡ put 14 (big_bytes 2 f.shape.inner) a → c ≡ put 16 (big_bytes 8 f.limits.legs) b → d ≡ put 24 (big_bytes 8 f.limits.features) c → e ≡ put 32 (big_bytes 4 f.root) d
    → g ≡ put 36 (big_bytes 4 f.levels) e → h ≡ put 40 (big_bytes 4 f.leaves) g → k ≡ put 44 (big_bytes 4 f.first) h → l ≡ put 48 (big_bytes 8 f.length) k → m ≡ put 56 (big_bytes 4 f.dimension) l
    → m ≡ put 12 (fields_bytes f) bytes
unfolding fields_bytes
fields_put f bytes a b c d e g h k l m nbytes na nb nc nd ne ng nh nk e1 e2 e3 e4 e5 e6 e7 e8 e9 e10 =
    let t9 = then_put 48 56 (big_bytes 8 f.length) (big_bytes 4 f.dimension) k l m refl (omega (arith, nk)) e9 e10 in
    let t8 = then_put 44 48 (big_bytes 4 f.first) _ h k m refl (omega (arith, nh)) e8 t9 in
    let t7 = then_put 40 44 (big_bytes 4 f.leaves) _ g h m refl (omega (arith, ng)) e7 t8 in
    let t6 = then_put 36 40 (big_bytes 4 f.levels) _ e g m refl (omega (arith, ne)) e6 t7 in
    let t5 = then_put 32 36 (big_bytes 4 f.root) _ d e m refl (omega (arith, nd)) e5 t6 in
    let t4 = then_put 24 32 (big_bytes 8 f.limits.features) _ c d m refl (omega (arith, nc)) e4 t5 in
    let t3 = then_put 16 24 (big_bytes 8 f.limits.legs) _ b c m refl (omega (arith, nb)) e3 t4 in
    let t2 = then_put 14 16 (big_bytes 2 f.shape.inner) _ a b m refl (omega (arith, na)) e2 t3 in
    then_put 12 14 (big_bytes 2 f.shape.leaf) _ bytes a m refl (omega (arith, nbytes)) e1 t2

pub take-put : (p : ℕ) (new bytes : List ℕ) → p ≤ length bytes → take p (put p new bytes) ≡ take p bytes
unfolding put
take-put p new bytes room = take_at (take p bytes) (new ++ drop (p + length new) bytes) p (length-take-le p bytes room)

module _ (bytes : List ℕ) where
  split_part : (p m n : ℕ) → part p (m + n) bytes ≡ part p m bytes ++ part (p + m) n bytes
  unfolding part
  split_part p m n = take-add m n (drop p bytes) ∙ ap (λ l. take m (drop p bytes) ++ take n l) (drop-drop m p bytes)

  length-part : (p m : ℕ) → p + m ≤ length bytes → length (part p m bytes) ≡ m
  unfolding part
  length-part p m h = length-take-le m (drop p bytes) (let l = length-drop p bytes in omega (arith, l))

  -- one part behind another
  pub joined : (p m n : ℕ) (a l : List ℕ) → part p m bytes ≡ a → part (p + m) n bytes ≡ l → part p (m + n) bytes ≡ a ++ l
  joined p m n a l e f = split_part p m n ∙ (λ i. e i ++ f i)

  pub cut : (p m n : ℕ) (a l : List ℕ) → p + m ≤ length bytes → length a ≡ m → part p (m + n) bytes ≡ a ++ l → (part p m bytes ≡ a) × (part (p + m) n bytes ≡ l)
  cut p m n a l h len e = same_front (part p m bytes) a (part (p + m) n bytes) l (length-part p m h ∙ sym len) (sym (split_part p m n) ∙ e)

pub fields_length : (f : Fields) → length (fields_bytes f) ≡ 48
unfolding fields_bytes
fields_length f = refl

module _ (payload : Payload) (f : Fields) where
  pub fields_are : SaysShape payload.bytes f.shape → SaysLimits payload.bytes f.limits
      → part 32 4 payload.bytes ≡ big_bytes 4 f.root → part 36 4 payload.bytes ≡ big_bytes 4 f.levels → part 40 4 payload.bytes ≡ big_bytes 4 f.leaves
      → part 44 4 payload.bytes ≡ big_bytes 4 f.first → part 48 8 payload.bytes ≡ big_bytes 8 f.length → part 56 4 payload.bytes ≡ big_bytes 4 f.dimension
      → HasFields payload f
  unfolding fields_bytes
  fields_are shape limits root levels leaves first len dimension =
      let j = joined payload.bytes in
      record {
        fields = j 12 2 46 _ _ shape.leaf (j 14 2 44 _ _ shape.inner (j 16 8 36 _ _ limits.legs (j 24 8 28 _ _ limits.features
            (j 32 4 24 _ _ root (j 36 4 20 _ _ levels (j 40 4 16 _ _ leaves (j 44 4 12 _ _ first (j 48 8 4 _ _ len dimension))))))));
      }

  module _ (whole : length payload.bytes ≡ 4056) (has : HasFields payload f) where
    pub says : SaysShape payload.bytes f.shape × SaysLimits payload.bytes f.limits
    unfolding fields_bytes
    says =
        let b = payload.bytes in
        let leaf = cut b 12 2 46 (big_bytes 2 f.shape.leaf) _ (omega (arith, whole)) refl has.fields in
        let inner = cut b 14 2 44 (big_bytes 2 f.shape.inner) _ (omega (arith, whole)) refl leaf.1 in
        let legs = cut b 16 8 36 (big_bytes 8 f.limits.legs) _ (omega (arith, whole)) refl inner.1 in
        let features = cut b 24 8 28 (big_bytes 8 f.limits.features) _ (omega (arith, whole)) refl legs.1 in
        (record { leaf = leaf.0; inner = inner.0 }, record { legs = legs.0; features = features.0 })

-- what is written is said
pub put_has : (payload : Payload) (f : Fields) (bytes : List ℕ) → length bytes ≡ 4056 → payload.bytes ≡ put 12 (fields_bytes f) bytes → HasFields payload f
put_has payload f bytes len e = record {
  fields = ap (part 12 48) e ∙ part-put_same 12 (fields_bytes f) bytes 48 (sym (fields_length f)) (omega (arith, len));
}

-- what stands behind them stays
pub rest_stays : (f : Fields) (bytes : List ℕ) → length bytes ≡ 4056 → drop 60 (put 12 (fields_bytes f) bytes) ≡ drop 60 bytes
rest_stays f bytes len = let n = fields_length f in drop-put 12 (fields_bytes f) bytes 60 (omega (arith, n)) (omega (arith, len))

-- the header of a new store, written
pub new_is : (shape : ShapeView) (limits : LimitsView) (zero set put_payload : Payload) (f : Fields) → zero ≡ zero_payload Header → set ≡ marked zero → f ≡ new_fields shape limits → put_payload ≡ record set { bytes = put 12 (fields_bytes f) set.bytes } → put_payload ≡ header_payload shape limits
unfolding header_payload header_bytes zero_payload put front_bytes fields_bytes
new_is shape limits zero set put_payload f is_zero is_set is_f is_put =
    is_put
    ∙ (λ i. record { kind = (is_set i).kind; bytes = put 12 (fields_bytes (is_f i)) (is_set i).bytes })
    ∙ (λ i. record { kind = Header; bytes = put 12 (fields_bytes (new_fields shape limits)) (front_bytes unfinished_front ++ drop 12 (is_zero i).bytes) })
    ∙ ap (λ (bytes : List ℕ). record { kind = Header; bytes = bytes }) (put_put 0 12 (front_bytes unfinished_front) (fields_bytes (new_fields shape limits)) (zero_payload Header).bytes refl (omega arith))

-- the first page that page 0 names is that of the fields that it says
room : (payload : Payload) (f : Fields) → HasFields payload f → 60 ≤ length payload.bytes
unfolding part
room payload f has =
    let l = length-take 48 (drop 12 payload.bytes) in
    let d = length-drop 12 payload.bytes in
    let k = ap (λ (x : List ℕ). length x) has.fields ∙ fields_length f in
    omega (arith, clamps, l, d, k)

-- another state leaves what stands behind it
pub stated_fields : (p : Payload) (state : ℕ) (f : Fields) → HasFields p f → HasFields (with_state state p) f
stated_fields p state f has =
    let long = room p f has in
    record {
      fields = part-put_after 8 (big_bytes 4 state) p.bytes 12 48 (let l = length-big_bytes 4 state in omega (arith, l)) (omega (arith, long)) ∙ has.fields;
    }

-- the header of a new store is one of a store that is not finished
pub new_unfinished : (shape : ShapeView) (limits : LimitsView) → IsUnfinished (header_payload shape limits)
unfolding header_payload header_bytes front_bytes
new_unfinished shape limits = record { kind = refl; front = refl }
