-- The text of a catalogue.
use Rattle.std.specs.Prelude.{ℕ, ◌≡◌, ◌^◌, ◌<◌, ◌≤◌, ◌++◌, ◌∷◌, [], ℤ, FitsSigned, List, length, sum_by, IsUtf8, All, Option, Some, None}
use Rattle.std.specs.Int.{w64}
use Rattle.std.specs.List.{flat_map}
use Rattle.byteorder.specs.Endian.{big_bytes}
use Rattle.mfcsv.specs.declared.Column.{Column}
use Rattle.tbnode.specs.Parts.{signed_bytes}
use Rattle.tbtree.specs.declared.tree.Place.{Place}
use Rattle.register.specs.declared.contents.Kept.{Kept}
use Rattle.register.specs.declared.contents.Feature.{Feature}
use Rattle.register.specs.declared.contents.Space.{Space}
use Rattle.register.specs.declared.contents.CatalogueHead.{CatalogueHead}
use Rattle.register.specs.declared.contents.Lists.{Lists}
use Rattle.register.specs.declared.contents.Contents.{Contents}

-- a short text: its length, and its bytes
abbrev pub short_text : List ℕ → List ℕ
short_text text = big_bytes 8 (length text) ++ text

-- an attribute column: its name, and its type
abbrev pub column_text : Column → List ℕ
column_text column = short_text column.name ++ short_text column.kind

-- columns behind their number
abbrev pub columns_text : List Column → List ℕ
columns_text columns = big_bytes 8 (length columns) ++ flat_map column_text columns

-- the CRS and the attribute columns of the first accepted file
abbrev pub space_text : Space → List ℕ
space_text space = short_text space.crs ++ columns_text space.columns

-- what is kept of a head: its base, its CRS and its columns
abbrev pub head_text : CatalogueHead → List ℕ
head_text head = signed_bytes head.base ++ space_text head.space

-- when a feature's last leg ends, and its place
unfoldable pub kept_text : Kept → List ℕ
kept_text kept =
    signed_bytes kept.end
    ++ (big_bytes 4 kept.place.first
    ++ (big_bytes 4 kept.place.last
    ++ (big_bytes 4 kept.place.last_index ++ big_bytes 8 kept.place.legs)))

-- a feature: its name, and what is kept of it
abbrev pub feature_text : Feature → List ℕ
feature_text feature = short_text feature.name ++ kept_text feature.kept

-- a row of attribute values
abbrev pub row_text : List (List ℕ) → List ℕ
row_text row = flat_map short_text row

-- the number of features, and each feature
abbrev pub features_bytes : List Feature → List ℕ
features_bytes features = big_bytes 4 (length features) ++ flat_map feature_text features

-- the number of rows, and each row
abbrev pub rows_text : List (List (List ℕ)) → List ℕ
rows_text rows = big_bytes 4 (length rows) ++ flat_map row_text rows

-- what a text says of a database into which a file was accepted
abbrev pub lists_text : Lists → List ℕ
lists_text lists = features_bytes lists.features ++ rows_text lists.rows

-- what is kept once a file was accepted: the head, the features and the rows
abbrev pub contents_text : Contents → List ℕ
contents_text contents = head_text contents.head ++ lists_text contents.lists

-- the first byte of the text: 1 where a file was accepted, else 0
abbrev pub flag_of : Option Contents → ℕ
flag_of None = 0
flag_of (Some contents) = 1

-- what stands behind the first byte of the text
abbrev pub body_text : Option Contents → List ℕ
body_text None = []
body_text (Some contents) = contents_text contents

-- the text of a catalogue
abbrev pub catalogue_text : Option Contents → List ℕ
catalogue_text contents = flag_of contents ∷ body_text contents

-- a number of so many bits
abbrev pub IsNumber : ℕ → ℕ → Type 0
IsNumber bits n = n < 2 ^ bits

-- a signed number of 64 bits
abbrev pub IsSigned : ℤ → Type 0
IsSigned z = FitsSigned w64 z

-- UTF-8 of fewer than 2^64 bytes
pub record IsShortText (text : List ℕ) : Type 0 where
  pub utf8 : IsUtf8 text
  pub short : length text < 2 ^ 64

-- a column whose name and type fit into the text
pub record IsColumn (column : Column) : Type 0 where
  pub name : IsShortText column.name
  pub kind : IsShortText column.kind

-- a place whose numbers fit into the text
pub record FitsPlace (place : Place) : Type 0 where
  pub first : IsNumber 32 place.first
  pub last : IsNumber 32 place.last
  pub last_index : IsNumber 32 place.last_index
  pub legs : IsNumber 64 place.legs

-- an end and a place that fit into the text
pub record FitsKept (kept : Kept) : Type 0 where
  pub end : IsSigned kept.end
  pub place : FitsPlace kept.place

-- a feature that fits into the text
pub record IsFeature (feature : Feature) : Type 0 where
  pub name : IsShortText feature.name
  pub kept : FitsKept feature.kept

-- so many values, each of which is such
pub record AreMany {V : Type 0} (ok : V → Type 0) (count : ℕ) (values : List V) : Type 0 where
  pub each : All ok values
  pub many : length values ≡ count

-- values of which each is such, and whose number fits into so many bits
pub record AreCounted {V : Type 0} (ok : V → Type 0) (bits : ℕ) (values : List V) : Type 0 where
  pub each : All ok values
  pub few : IsNumber bits (length values)

-- a row of so many values
abbrev pub IsRow : ℕ → List (List ℕ) → Type 0
IsRow columns = AreMany IsShortText columns

-- a CRS and columns that fit into the text
pub record IsSpace (space : Space) : Type 0 where
  pub crs : IsShortText space.crs
  pub columns : AreCounted IsColumn 64 space.columns

-- a head that fits into the text
pub record IsHead (head : CatalogueHead) : Type 0 where
  pub base : IsSigned head.base
  pub space : IsSpace head.space

-- features and rows that fit into the text
pub record AreLists (columns : ℕ) (lists : Lists) : Type 0 where
  pub features : AreCounted IsFeature 32 lists.features
  pub rows : AreCounted (IsRow columns) 32 lists.rows

-- contents that fit into the text, each row with a value for each column
pub record AreContents (contents : Contents) : Type 0 where
  pub head : IsHead contents.head
  pub lists : AreLists (length contents.head.space.columns) contents.lists

-- a text in which all fits; one without an accepted file has nothing to fit
abbrev pub IsWhole : Option Contents → Type 0
IsWhole None = Unit {0}
IsWhole (Some contents) = AreContents contents

-- how many legs features have
abbrev pub leg_sum : List Feature → ℕ
leg_sum features = sum_by (λ f. f.kept.place.legs) features

-- Helpers of private functions: what is read of a text.

-- no more legs than that, and no more rows than legs
pub record HasFewLegs (most : ℕ) (lists : Lists) : Type 0 where
  pub legs : leg_sum lists.features ≤ most
  pub rows : length lists.rows ≤ leg_sum lists.features

-- a whole text that is read
abbrev pub AreFew : ℕ → Option Contents → Type 0
AreFew most None = Unit {0}
AreFew most (Some contents) = HasFewLegs most contents.lists

-- a text that a reader accepts: all fits, and there are few enough legs and rows
pub record IsRead (most : ℕ) (contents : Option Contents) : Type 0 where
  pub whole : IsWhole contents
  pub few : AreFew most contents
