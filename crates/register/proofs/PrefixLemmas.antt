-- Texts of which none is the beginning of another: what stands behind them is told apart.
use Rattle.std.proofs.Common.{ℕ, suc, ◌≡◌, ◌<◌, ◌^◌, List, [], ◌∷◌, ◌++◌, length, refl, sym, ap, ◌∙◌, arith, subst, Some, None, All}
use Rattle.std.specs.Int.{w64, cast_signed, cast_unsigned}
use Rattle.std.specs.List.{flat_map}
use Rattle.std.proofs.lemmas.List.{append_assoc}
use Rattle.byteorder.specs.Endian.{big_bytes}
use Rattle.byteorder.specs.Numbers.{length-bytes_high_first}
use Rattle.mfcsv.specs.declared.Column.{Column}
use Rattle.tbnode.specs.Parts.{signed_bytes}
use Rattle.std.proofs.lemmas.Int.{to_z-of_z}
use Rattle.std.proofs.Math.Facts.{Fits-of_z}
use Rattle.register.specs.Text.{short_text, column_text, columns_text, contents_text, catalogue_text, feature_text, features_bytes, head_text, kept_text, lists_text, row_text, rows_text, space_text, AreContents, AreLists, AreCounted, IsColumn, IsFeature, IsHead, FitsKept, IsNumber, IsRow, IsShortText, IsSigned, IsSpace, IsWhole}
use Rattle.register.specs.declared.contents.Lists.{Lists}
use Rattle.register.specs.declared.contents.Space.{Space}
use Rattle.register.specs.declared.contents.CatalogueHead.{CatalogueHead}
use Rattle.register.specs.declared.contents.Feature.{Feature}
use Rattle.register.proofs.ValueLemmas.{big_same}
use Rattle.header.proofs.FieldsLemmas.{same_front}

abbrev pub IsFree : {V : Type 0} → (V → List ℕ) → (V → Type 0) → Type 0
IsFree {V = V} text ok = (a b : V) (s t : List ℕ) → ok a → ok b → text a ++ s ≡ text b ++ t → (a ≡ b) × (s ≡ t)

pub numbers_free : (n bits : ℕ) → 2 ^ bits ≡ 256 ^ n → IsFree (big_bytes n) (IsNumber bits)
numbers_free n bits e a b s t h k is = big_same n a b s t (subst (λ m. a < m) e h) (subst (λ m. b < m) e k) is

pub short_free : IsFree short_text IsShortText
short_free a b s t h k e =
    let e' = sym (append_assoc (big_bytes 8 (length a)) a s) ∙ e ∙ append_assoc (big_bytes 8 (length b)) b t in
    let lengths = big_same 8 (length a) (length b) (a ++ s) (b ++ t) h.short k.short e' in
    same_front a b s t lengths.0 lengths.1

module _ {A B V : Type 0} (first : A → List ℕ) (second : B → List ℕ) (is_first : A → Type 0) (is_second : B → Type 0)
    (free_first : IsFree first is_first) (free_second : IsFree second is_second) (left : V → A) (right : V → B) (both : (v w : V) → left v ≡ left w → right v ≡ right w → v ≡ w) where
  pub pair_free : IsFree (λ v. first (left v) ++ second (right v)) (λ v. is_first (left v) × is_second (right v))
  pair_free a b s t h k e =
      let e' = sym (append_assoc (first (left a)) (second (right a)) s) ∙ e ∙ append_assoc (first (left b)) (second (right b)) t in
      let x = free_first (left a) (left b) (second (right a) ++ s) (second (right b) ++ t) h.0 k.0 e' in
      let y = free_second (right a) (right b) s t h.1 k.1 x.1 in
      (both a b x.0 y.0, y.1)

pub column_free : IsFree column_text IsColumn
column_free a b s t h k e =
    pair_free short_text short_text IsShortText IsShortText short_free short_free (λ (c : Column). c.name) (λ (c : Column). c.kind)
    (λ v w p q i. record { name = p i; kind = q i }) a b s t (h.name, h.kind) (k.name, k.kind) e

module _ {V : Type 0} (ok : V → Type 0) where
  pub all_head : (x : V) (xs : List V) → All ok (x ∷ xs) → ok x
  all_head x xs h = h 0 x (omega arith)

  pub all_tail : (x : V) (xs : List V) → All ok (x ∷ xs) → All ok xs
  all_tail x xs h = λ k d l. h (suc k) d (omega (arith, l))

module _ {V : Type 0} (text : V → List ℕ) (ok : V → Type 0) (free : IsFree text ok) where
  -- the first items of a longer list are the same
  pub list_split : (xs ys : List V) (s t : List ℕ) → All ok xs → All ok ys → length xs < length ys → flat_map text xs ++ s ≡ flat_map text ys ++ t
      → (z : V) × (zs : List V) × ok z × (s ≡ text z ++ (flat_map text zs ++ t))
  list_split [] [] s t h k l e = absurd (omega (arith, l))
  list_split [] (y ∷ ys) s t h k l e = (y, ys, all_head ok y ys k, e ∙ append_assoc (text y) (flat_map text ys) t)
  list_split (x ∷ xs) [] s t h k l e = absurd (omega (arith, l))
  list_split (x ∷ xs) (y ∷ ys) s t h k l e =
      let e' = sym (append_assoc (text x) (flat_map text xs) s) ∙ e ∙ append_assoc (text y) (flat_map text ys) t in
      let both = free x y (flat_map text xs ++ s) (flat_map text ys ++ t) (all_head ok x xs h) (all_head ok y ys k) e' in
      list_split xs ys s t (all_tail ok x xs h) (all_tail ok y ys k) (omega (arith, l)) both.1

  pub list_free : (xs ys : List V) (s t : List ℕ) → All ok xs → All ok ys → length xs ≡ length ys → flat_map text xs ++ s ≡ flat_map text ys ++ t → (xs ≡ ys) × (s ≡ t)
  list_free [] [] s t h k l e = (refl, e)
  list_free [] (y ∷ ys) s t h k l e = absurd (omega (arith, l))
  list_free (x ∷ xs) [] s t h k l e = absurd (omega (arith, l))
  list_free (x ∷ xs) (y ∷ ys) s t h k l e =
      let e' = sym (append_assoc (text x) (flat_map text xs) s) ∙ e ∙ append_assoc (text y) (flat_map text ys) t in
      let both = free x y (flat_map text xs ++ s) (flat_map text ys ++ t) (all_head ok x xs h) (all_head ok y ys k) e' in
      let rest = list_free xs ys s t (all_tail ok x xs h) (all_tail ok y ys k) (omega (arith, l)) both.1 in
      ((λ i. both.0 i ∷ rest.0 i), rest.1)

pub signed_free : IsFree signed_bytes IsSigned
signed_free a b s t h k e =
    let x = same_front (signed_bytes a) (signed_bytes b) s t (length-bytes_high_first 8 (cast_unsigned w64 a) ∙ sym (length-bytes_high_first 8 (cast_unsigned w64 b))) e in
    let y = big_same 8 (cast_unsigned w64 a) (cast_unsigned w64 b) s t (omega (arith, Fits-of_z h)) (omega (arith, Fits-of_z k)) e in
    (sym (to_z-of_z w64 a h) ∙ ap (cast_signed w64) y.0 ∙ to_z-of_z w64 b k, x.1)

-- rows of so many values
pub row_free : (columns : ℕ) → IsFree row_text (IsRow columns)
row_free columns a b s t h k e = list_free short_text IsShortText short_free a b s t h.each k.each (h.many ∙ sym k.many) e

-- what is kept of a feature
kept_parts : (a b c d e : List ℕ) (s : List ℕ) → (a ++ (b ++ (c ++ (d ++ e)))) ++ s ≡ a ++ (b ++ (c ++ (d ++ (e ++ s))))
kept_parts a b c d e s =
    append_assoc a (b ++ (c ++ (d ++ e))) s
    ∙ ap (λ l. a ++ l) (append_assoc b (c ++ (d ++ e)) s)
    ∙ ap (λ l. a ++ (b ++ l)) (append_assoc c (d ++ e) s)
    ∙ ap (λ l. a ++ (b ++ (c ++ l))) (append_assoc d e s)

pub kept_free : IsFree kept_text FitsKept
unfolding kept_text
kept_free a b s t h k e =
    let e' = sym (kept_parts (signed_bytes a.end) (big_bytes 4 a.place.first) (big_bytes 4 a.place.last) (big_bytes 4 a.place.last_index) (big_bytes 8 a.place.legs) s) ∙ e
    ∙ kept_parts (signed_bytes b.end) (big_bytes 4 b.place.first) (big_bytes 4 b.place.last) (big_bytes 4 b.place.last_index) (big_bytes 8 b.place.legs) t in
    let v = signed_free a.end b.end _ _ h.end k.end e' in
    let w = numbers_free 4 32 refl a.place.first b.place.first _ _ h.place.first k.place.first v.1 in
    let x = numbers_free 4 32 refl a.place.last b.place.last _ _ h.place.last k.place.last w.1 in
    let y = numbers_free 4 32 refl a.place.last_index b.place.last_index _ _ h.place.last_index k.place.last_index x.1 in
    let z = numbers_free 8 64 refl a.place.legs b.place.legs s t h.place.legs k.place.legs y.1 in
    ((λ i. record { end = v.0 i; place = record { first = w.0 i; last = x.0 i; last_index = y.0 i; legs = z.0 i } }), z.1)

pub feature_free : IsFree feature_text IsFeature
feature_free a b s t h k e =
    pair_free short_text kept_text IsShortText FitsKept short_free kept_free (λ (f : Feature). f.name) (λ (f : Feature). f.kept)
    (λ v w p q i. record { name = p i; kept = q i }) a b s t (h.name, h.kept) (k.name, k.kept) e

-- lists behind their number
module _ {V : Type 0} (text : V → List ℕ) (ok : V → Type 0) (free : IsFree text ok) (n bits : ℕ) (fits : 2 ^ bits ≡ 256 ^ n) where
  pub counted_free : (xs ys : List V) (s t : List ℕ) → All ok xs → All ok ys → IsNumber bits (length xs) → IsNumber bits (length ys)
      → (big_bytes n (length xs) ++ flat_map text xs) ++ s ≡ (big_bytes n (length ys) ++ flat_map text ys) ++ t → (xs ≡ ys) × (s ≡ t)
  counted_free xs ys s t h k a b e =
      let e' = sym (append_assoc (big_bytes n (length xs)) (flat_map text xs) s) ∙ e ∙ append_assoc (big_bytes n (length ys)) (flat_map text ys) t in
      let x = numbers_free n bits fits (length xs) (length ys) (flat_map text xs ++ s) (flat_map text ys ++ t) a b e' in
      list_free text ok free xs ys s t h k x.0 x.1

pub columns_free : IsFree columns_text (AreCounted IsColumn 64)
columns_free a b s t h k e = counted_free column_text IsColumn column_free 8 64 refl a b s t h.each k.each h.few k.few e

pub features_free : IsFree features_bytes (AreCounted IsFeature 32)
features_free a b s t h k e = counted_free feature_text IsFeature feature_free 4 32 refl a b s t h.each k.each h.few k.few e

pub space_free : IsFree space_text IsSpace
space_free a b s t h k e =
    pair_free short_text columns_text IsShortText (AreCounted IsColumn 64) short_free columns_free (λ (v : Space). v.crs) (λ (v : Space). v.columns)
    (λ v w p q i. record { crs = p i; columns = q i }) a b s t (h.crs, h.columns) (k.crs, k.columns) e

pub head_free : IsFree head_text IsHead
head_free a b s t h k e =
    pair_free signed_bytes space_text IsSigned IsSpace signed_free space_free (λ (v : CatalogueHead). v.base) (λ (v : CatalogueHead). v.space)
    (λ v w p q i. record { base = p i; space = q i }) a b s t (h.base, h.space) (k.base, k.space) e

pub rows_free : (columns : ℕ) → IsFree rows_text (AreCounted (IsRow columns) 32)
rows_free columns a b s t h k e = counted_free row_text (IsRow columns) (row_free columns) 4 32 refl a b s t h.each k.each h.few k.few e

pub lists_free : (columns : ℕ) → IsFree lists_text (AreLists columns)
lists_free columns a b s t h k e =
    pair_free features_bytes rows_text (AreCounted IsFeature 32) (AreCounted (IsRow columns) 32) features_free (rows_free columns) (λ (v : Lists). v.features) (λ (v : Lists). v.rows)
    (λ v w p q i. record { features = p i; rows = q i }) a b s t (h.features, h.rows) (k.features, k.rows) e

pub contents_free : IsFree contents_text AreContents
contents_free a b s t h k e =
    let e' = sym (append_assoc (head_text a.head) (lists_text a.lists) s) ∙ e ∙ append_assoc (head_text b.head) (lists_text b.lists) t in
    let x = head_free a.head b.head (lists_text a.lists ++ s) (lists_text b.lists ++ t) h.head k.head e' in
    let y = lists_free (length a.head.space.columns) a.lists b.lists s t h.lists (subst (λ (v : CatalogueHead). AreLists (length v.space.columns) b.lists) (sym x.0) k.lists) x.1 in
    ((λ i. record { head = x.0 i; lists = y.0 i }), y.1)

pub whole_free : IsFree catalogue_text IsWhole
whole_free None None s t h k e = (refl, cc)
whole_free None (Some b) s t h k e = absurd cc
whole_free (Some a) None s t h k e = absurd cc
whole_free (Some a) (Some b) s t h k e =
    let tail : contents_text a ++ s ≡ contents_text b ++ t = cc in
    let x = contents_free a b s t h k tail in
    (ap Some x.0, x.1)
