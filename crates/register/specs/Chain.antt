-- How the text of a catalogue lies in a chain of pages.
use Rattle.std.specs.Prelude.{ℕ, zero, suc, ◌+◌, ◌-◌, ◌==◌, nat_le, min, Bool, true, false, ◌&&◌, cond, if◌then◌else◌, List, [], ◌++◌, length, replicate, Option, Some, None, option_map, option_and_then}
use Rattle.std.specs.Int.{div_ceil}
use Rattle.byteorder.specs.Endian.{big_bytes}
use Rattle.pages.specs.declared.payload.Kind.{Kind}
use Rattle.pages.specs.declared.payload.Kind.TheVariants.{Header, Leaf, Inner, Catalogue}
use Rattle.pages.specs.declared.payload.Payload.{Payload}
use Rattle.tbnode.specs.Parts.{number_at, part}

-- how many bytes of the text a page has at most
abbrev pub most_used : ℕ
most_used = 4040

-- the payload of a page of the chain: the number of the page after it, 0 for none; how many bytes
-- of the text it has; ten zeros, those bytes, and zeros behind them
unfoldable pub part_payload : ℕ → List ℕ → Payload
part_payload next text = record {
  kind = Catalogue;
  bytes = (big_bytes 4 next ++ (big_bytes 2 (length text) ++ replicate 10 0))
      ++ (text ++ replicate (most_used - length text) 0);
}

-- whether a kind of payload is that of a catalogue's pages
abbrev pub is_catalogue : Kind → Bool
is_catalogue Header = false
is_catalogue Leaf = false
is_catalogue Inner = false
is_catalogue Catalogue = true

-- it has the form of a page of the chain with so many bytes of the text, for which there is room;
-- what stands behind them may be anything
unfoldable pub is_part : ℕ → Payload → Bool
is_part used payload =
    is_catalogue payload.kind && nat_le (16 + used) (length payload.bytes)
    && (number_at 2 4 payload.bytes == used)
    && ((number_at 2 6 payload.bytes == 0) && (number_at 8 8 payload.bytes == 0))

-- the page after it
unfoldable pub next_in : Payload → ℕ
next_in payload = number_at 4 0 payload.bytes

-- its bytes of the text
unfoldable pub text_in : ℕ → Payload → List ℕ
text_in used payload = part 16 used payload.bytes

-- the text of `left` bytes in so many pages from page p on; none where they hold no such text
abbrev pub chain_text : (ℕ → Option Payload) → ℕ → ℕ → ℕ → Option (List ℕ)
chain_text at zero left p = if p == 0 then Some [] else None
chain_text at (suc n) left p =
    option_and_then (λ payload. cond (is_part (min most_used left) payload)
    (option_map (λ t. text_in (min most_used left) payload ++ t)
    (chain_text at n (left - most_used) (next_in payload)))
    None) (at p)

-- the text of that length in the chain of pages from page p on, each of which but the last one is
-- full
unfoldable pub text_at : (ℕ → Option Payload) → ℕ → ℕ → Option (List ℕ)
text_at at length p = chain_text at (div_ceil length most_used) length p
