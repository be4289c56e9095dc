-- Columns, features, rows and what is made of them: each is made of two, one behind the other.
use Rattle.std.proofs.Common.{ℕ, ◌≡◌, ◌≤◌, ◌-◌, ◌^◌, min, List, ◌++◌, length, refl, arith, subst, ℤ, Some}
use Rattle.std.specs.List.{flat_map}
use Rattle.byteorder.specs.Endian.{big_bytes}
use Rattle.tbnode.specs.Parts.{signed_bytes}
use Rattle.register.specs.Text.{short_text, column_text, columns_text, contents_text, feature_text, features_bytes, head_text, kept_text, lists_text, row_text, rows_text, space_text, leg_sum, AreMany, AreCounted, IsColumn, IsFeature, IsHead, FitsKept, IsNumber, IsRead, IsRow, IsShortText, IsSigned, IsSpace, AreLists, HasFewLegs}
use Rattle.register.specs.declared.contents.CatalogueHead.{CatalogueHead}
use Rattle.register.specs.declared.contents.Lists.{Lists}
use Rattle.register.proofs.PrefixLemmas.{numbers_free, short_free, signed_free, features_free, head_free}
use Rattle.register.proofs.SequenceLemmas.{IsPair}

-- a column: its name, and its type
abbrev pub column_pair : IsPair column_text IsColumn short_text IsShortText short_text (λ _. IsShortText)
column_pair = record { left = λ v. v.name; right = λ v. v.kind; free = short_free; parts = λ v k. (k.name, k.kind); whole = λ v. refl }

-- a feature: its name, and what is kept of it
abbrev pub feature_pair : IsPair feature_text IsFeature short_text IsShortText kept_text (λ _. FitsKept)
feature_pair = record { left = λ v. v.name; right = λ v. v.kept; free = short_free; parts = λ v k. (k.name, k.kept); whole = λ v. refl }

-- a coordinate reference system, and columns
abbrev pub space_pair : IsPair space_text IsSpace short_text IsShortText columns_text (λ _. AreCounted IsColumn 64)
space_pair = record { left = λ v. v.crs; right = λ v. v.columns; free = short_free; parts = λ v k. (k.crs, k.columns); whole = λ v. refl }

-- a base, and a space
abbrev pub head_pair : IsPair head_text IsHead signed_bytes IsSigned space_text (λ _. IsSpace)
head_pair = record { left = λ v. v.base; right = λ v. v.space; free = signed_free; parts = λ v k. (k.base, k.space); whole = λ v. refl }

-- a head of that base, whatever it is written as
pub head_made : (v : CatalogueHead) (base : ℤ) → base ≡ v.base → IsSigned base → IsSpace v.space → IsHead v × (base ≡ v.base)
head_made v base same h k = (record { base = subst IsSigned same h; space = k }, same)

-- rows that fit into the text, and are no more than that
abbrev pub AreFewRows : ℕ → ℕ → List (List (List ℕ)) → Type 0
AreFewRows columns most rows = AreCounted (IsRow columns) 32 rows × (length rows ≤ most)

-- features and rows that are read
abbrev pub AreRead : ℕ → ℕ → Lists → Type 0
AreRead columns most lists = AreLists columns lists × HasFewLegs most lists

-- features, and no more rows than they have legs
abbrev pub lists_pair : (columns most : ℕ) → IsPair lists_text (AreRead columns most) features_bytes (AreCounted IsFeature 32) rows_text (λ features. AreFewRows columns (min (leg_sum features) (2 ^ 64 - 1)))
lists_pair columns most = record {
  left = λ v. v.features;
  right = λ v. v.rows;
  free = features_free;
  parts = λ v k. (k.0.features, (k.0.rows, let few = k.1.rows in let n = k.0.rows.few in omega (arith, few, n)));
  whole = λ v. refl;
}

-- a head, and lists whose rows have a value for each of its columns
abbrev pub contents_pair : (most : ℕ) → IsPair contents_text (λ contents. IsRead most (Some contents)) head_text IsHead lists_text (λ head. AreRead (length head.space.columns) most)
contents_pair most = record {
  left = λ v. v.head;
  right = λ v. v.lists;
  free = head_free;
  parts = λ v k. (k.whole.head, (k.whole.lists, k.few));
  whole = λ v. refl;
}

-- a list behind its number
module _ {V : Type 0} (text : V → List ℕ) (ok : V → Type 0) (n bits : ℕ) (fits : 2 ^ bits ≡ 256 ^ n) where
  abbrev counted_pair : (are : List V → Type 0) → ((l : List V) → are l → AreCounted ok bits l) → IsPair (λ l. big_bytes n (length l) ++ flat_map text l) are (big_bytes n) (IsNumber bits) (λ l. flat_map text l) (AreMany ok)
  counted_pair are counted = record { left = λ l. length l; right = λ l. l; free = numbers_free n bits fits; parts = λ l k. ((counted l k).few, record { each = (counted l k).each; many = refl }); whole = λ l. refl }

-- columns behind their number
abbrev pub columns_pair : IsPair columns_text (AreCounted IsColumn 64) (big_bytes 8) (IsNumber 64) (λ l. flat_map column_text l) (AreMany IsColumn)
columns_pair = counted_pair column_text IsColumn 8 64 refl (AreCounted IsColumn 64) (λ l k. k)

-- features behind theirs
abbrev pub features_pair : IsPair features_bytes (AreCounted IsFeature 32) (big_bytes 4) (IsNumber 32) (λ l. flat_map feature_text l) (AreMany IsFeature)
features_pair = counted_pair feature_text IsFeature 4 32 refl (AreCounted IsFeature 32) (λ l k. k)

-- and so few rows behind theirs
abbrev pub rows_pair : (columns most : ℕ) → IsPair rows_text (AreFewRows columns most) (big_bytes 4) (IsNumber 32) (λ l. flat_map row_text l) (AreMany (IsRow columns))
rows_pair columns most = counted_pair row_text (IsRow columns) 4 32 refl (AreFewRows columns most) (λ l k. k.0)
