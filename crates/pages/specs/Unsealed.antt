-- The payload of a page.
use Rattle.std.specs.Prelude.{ℕ, ◌-◌, length, ◌==◌, if◌then◌else◌, List, take, drop, slice_index, Option, Some, None}
use Rattle.std.specs.Option.{option_and_then}
use Rattle.std.specs.Str.{bytes_eq}
use Rattle.pages.specs.Sealed.{sealed}
use Rattle.pages.specs.declared.payload.Kind.{Kind}
use Rattle.pages.specs.declared.payload.Kind.TheVariants.{Header, Leaf, Inner, Catalogue}
use Rattle.pages.specs.declared.payload.Payload.{Payload}

-- the kind that a byte says
unfoldable pub kind_coded : ℕ → Option Kind
kind_coded code =
    if code == 1 then Some Header
    else (if code == 2 then Some Leaf
    else (if code == 3 then Some Inner
    else (if code == 4 then Some Catalogue else None)))

-- what stands between the first 8 bytes and the last 32
abbrev pub payload_at : List ℕ → Kind → Payload
payload_at page kind = record { kind = kind; bytes = drop 8 (take (length page - 32) page) }

-- the payload whose seal under n the page is; none where there is no such payload
unfoldable pub unsealed : ℕ → List ℕ → Option Payload
unsealed n page =
    option_and_then (λ kind. let p = payload_at page kind in
    if bytes_eq (sealed n p) page then Some p else None)
    (kind_coded (slice_index page 4))
