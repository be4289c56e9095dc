-- What the header of a store says behind its first 12 bytes.
use Rattle.std.specs.Prelude.{ℕ, ◌≡◌, ◌<◌, ◌^◌, ◌++◌, List, drop}
use Rattle.byteorder.specs.Endian.{big_bytes}
use Rattle.legs.specs.Costs.{ShapeView}
use Rattle.legs.specs.Limits.{LimitsView}
use Rattle.pages.specs.Zero.{zero_payload}
use Rattle.pages.specs.declared.payload.Kind.TheVariants.{Header}
use Rattle.pages.specs.declared.payload.Payload.{Payload}
use Rattle.tbnode.specs.Parts.{number_at, part}
use Rattle.header.specs.Front.{front_bytes, unfinished_front}
use Rattle.header.specs.declared.header_fields.Fields.{Fields}

-- the shape and the limits; the root of the tree, its levels and its leaves, four bytes each; the
-- first page of the catalogue, in four, and the length of its text, in eight; and the dimension
unfoldable pub fields_bytes : Fields → List ℕ
fields_bytes f =
    big_bytes 2 f.shape.leaf
    ++ (big_bytes 2 f.shape.inner
    ++ (big_bytes 8 f.limits.legs ++ (big_bytes 8 f.limits.features
    ++ (big_bytes 4 f.root ++ (big_bytes 4 f.levels ++ (big_bytes 4 f.leaves
    ++ (big_bytes 4 f.first ++ (big_bytes 8 f.length ++ big_bytes 4 f.dimension))))))))

-- the 48 bytes behind the first 12 say these
pub record HasFields (payload : Payload) (f : Fields) : Type 0 where
  pub fields : part 12 48 payload.bytes ≡ fields_bytes f

-- the numbers beside the shape and the limits fit their bytes
pub record FitsFields (f : Fields) : Type 0 where
  pub root : f.root < 2 ^ 32
  pub levels : f.levels < 2 ^ 32
  pub leaves : f.leaves < 2 ^ 32
  pub first : f.first < 2 ^ 32
  pub length : f.length < 2 ^ 64
  pub dimension : f.dimension < 2 ^ 32

-- the bytes of a payload say this shape
pub record SaysShape (bytes : List ℕ) (shape : ShapeView) : Type 0 where
  pub leaf : part 12 2 bytes ≡ big_bytes 2 shape.leaf
  pub inner : part 14 2 bytes ≡ big_bytes 2 shape.inner

-- and these limits
pub record SaysLimits (bytes : List ℕ) (limits : LimitsView) : Type 0 where
  pub legs : part 16 8 bytes ≡ big_bytes 8 limits.legs
  pub features : part 24 8 bytes ≡ big_bytes 8 limits.features

-- the page of the tree's root that a header names
abbrev pub root_of : Payload → ℕ
root_of payload = number_at 4 32 payload.bytes

-- the first page of the catalogue's text that a payload names
abbrev pub first_of : Payload → ℕ
first_of payload = number_at 4 44 payload.bytes

-- a new store says its shape and its limits, no tree and no catalogue, and dimension 2
abbrev pub new_fields : ShapeView → LimitsView → Fields
new_fields shape limits = record {
  shape = shape;
  limits = limits;
  root = 0;
  levels = 0;
  leaves = 0;
  first = 0;
  length = 0;
  dimension = 2;
}

-- its header: it is not finished, and says these
unfoldable pub header_bytes : ShapeView → LimitsView → List ℕ
header_bytes shape limits =
    front_bytes unfinished_front ++ fields_bytes (new_fields shape limits)

-- behind them page 0 is zero
unfoldable pub header_payload : ShapeView → LimitsView → Payload
header_payload shape limits =
    record {
      kind = Header;
      bytes = header_bytes shape limits ++ drop 60 (zero_payload Header).bytes;
    }
