-- The bytes behind the described part stay as they are.
use Rattle.std.proofs.Common.{◌≡◌, ℕ, ◌+◌, ◌-◌, ◌*◌, ◌^◌, ◌<◌, ◌≤◌, List, Option, length, drop, sym, ap, ◌∙◌, arith, inr}
use Rattle.std.proofs.lemmas.List.{drop-drop}
use Rattle.byteorder.specs.Endian.{big_bytes}
use Rattle.legs.specs.Legs.{LegView}
use Rattle.legs.specs.Boxes.{BoxView}
use Rattle.pages.specs.declared.payload.Kind.TheVariants.{Leaf, Inner}
use Rattle.pages.specs.declared.payload.Payload.{Payload}
use Rattle.std.specs.Prelude.{option_map}
use Rattle.tbnode.specs.Nodes.{EntryView, Node, as_leaf, as_inner}
use Rattle.tbnode.specs.Layout.{leg_bytes, entry_bytes}
use Rattle.tbnode.specs.Parts.{put, number_at}
use Rattle.tbnode.specs.Form.{leaf_leg_count, entry_count, node_of, rest_by, slack_of}
use Rattle.tbnode.specs.Edits.{leaf_with_leg, inner_with_entry}
use Rattle.tbnode.specs.Steps.{LegReadsBack, EntryReadsBack, pushed}
use Rattle.tbnode.proofs.LeafLemmas.{IsTaken, leg_pushed}
use Rattle.tbnode.proofs.LeafLemmas as leaf
use Rattle.tbnode.proofs.InnerLemmas as inner
use Rattle.tbnode.proofs.InnerLemmas.{HasRoom, entry_pushed}
use Rattle.tbnode.proofs.PartLemmas.{drop-put, length-big_bytes}
use Rattle.tbnode.proofs.SlotLemmas.{count-pushed, length-slot, number-unset, head-slot}
use Rattle.tbnode.proofs.LegLemmas.{length-leg_bytes, length-entry_bytes}

-- a change of the head
head_rest : (bytes : List ℕ) (k p x a : ℕ) → p + k ≤ 16 → 16 ≤ a → 16 ≤ length bytes → drop a (put p (big_bytes k x) bytes) ≡ drop a bytes
head_rest bytes k p x a inside above room = drop-put p (big_bytes k x) bytes a (omega (arith, length-big_bytes k x)) (omega arith)

-- a change of slot n
slot_rest : (bytes : List ℕ) (m n : ℕ) (new : List ℕ) (a : ℕ) → length new ≡ m → 16 + m * n + m ≤ a → 16 + m * n + m ≤ length bytes → drop a (put (16 + m * n) new bytes) ≡ drop a bytes
slot_rest bytes m n new a size above room = drop-put (16 + m * n) new bytes a (omega (arith, size)) (omega arith)

-- a slot more
pushed_rest : (bytes : List ℕ) (m place : ℕ) (new : List ℕ) (a : ℕ) → length new ≡ m → place + 2 ≤ 16 → 16 + m * number_at 2 place bytes + m ≤ length bytes
    → 16 + m * number_at 2 place bytes + m ≤ a → drop a (pushed m place new bytes) ≡ drop a bytes
pushed_rest bytes m place new a size inside room above =
    let n = number_at 2 place bytes in
    head_rest (put (16 + m * n) new bytes) 2 place (n + 1) a inside (omega (arith, above)) (omega (arith, length-slot bytes m n new size room, room))
    ∙ slot_rest bytes m n new a size above room

pub leaf_rest : (p : Payload) → p.kind ≡ Leaf → slack_of p ≡ drop (16 + 80 * leaf_leg_count p.bytes) p.bytes
unfolding slack_of
leaf_rest p k = ap (λ j. rest_by j p.bytes) k

pub inner_rest : (p : Payload) → p.kind ≡ Inner → slack_of p ≡ drop (16 + 56 * entry_count p.bytes) p.bytes
unfolding slack_of
inner_rest p k = ap (λ j. rest_by j p.bytes) k

-- a page that counts n slots of m bytes, of bytes that end as others do
ends : (p : Payload) (m : ℕ) (count : List ℕ → ℕ) (xs bytes : List ℕ) (n : ℕ) → slack_of p ≡ drop (16 + m * count p.bytes) p.bytes → p.bytes ≡ xs → count xs ≡ n
    → drop (16 + m * n) xs ≡ drop (16 + m * n) bytes → slack_of p ≡ drop (16 + m * n) bytes
ends p m count xs bytes n rest e c same =
    let counted : count p.bytes ≡ n = ap count e ∙ c in
    rest ∙ ap (λ j. drop (16 + m * j) p.bytes) counted ∙ ap (drop (16 + m * n)) e ∙ same

drop_more : (a m b : ℕ) (xs : List ℕ) → a + m ≡ b → drop b xs ≡ drop m (drop a xs)
drop_more a m b xs s = ap (λ k. drop k xs) (sym s) ∙ sym (drop-drop m a xs)

-- a page with a slot more
pushed_ends : (p : Payload) (bytes : List ℕ) (m place : ℕ) (new : List ℕ) → let n = number_at 2 place bytes in
    slack_of p ≡ drop (16 + m * number_at 2 place p.bytes) p.bytes → p.bytes ≡ pushed m place new bytes → length new ≡ m → place + 2 ≤ 16 → 16 + m * n + m ≤ length bytes → n + 1 < 256 ^ 2
    → 16 + m * n + m ≡ 16 + m * (n + 1) → slack_of p ≡ drop m (drop (16 + m * n) bytes)
pushed_ends p bytes m place new rest e size inside room small next =
    let n = number_at 2 place bytes in
    ends p m (number_at 2 place) (pushed m place new bytes) bytes (n + 1) rest e
    (count-pushed bytes m place new size inside room small)
    (pushed_rest bytes m place new (16 + m * (n + 1)) size inside room (omega (arith, next)))
    ∙ drop_more (16 + m * n) m (16 + m * (n + 1)) bytes next

-- a leg more
pub leg_rest : (p : Payload) (bytes : List ℕ) (l : LegView) → p.kind ≡ Leaf → p.bytes ≡ pushed 80 12 (leg_bytes l) bytes → 4056 ≤ length bytes → leaf_leg_count bytes < 50
    → slack_of p ≡ drop 80 (drop (16 + 80 * leaf_leg_count bytes) bytes)
leg_rest p bytes l k e len small =
    pushed_ends p bytes 80 12 (leg_bytes l) (leaf_rest p k) e (length-leg_bytes l) (omega arith) (omega (arith, len, small)) (omega (arith, small)) (omega arith)

-- an entry more
pub entry_rest : (p : Payload) (bytes : List ℕ) (x : EntryView BoxView) → p.kind ≡ Inner → p.bytes ≡ pushed 56 2 (entry_bytes x) bytes → 4056 ≤ length bytes → entry_count bytes < 72
    → slack_of p ≡ drop 56 (drop (16 + 56 * entry_count bytes) bytes)
entry_rest p bytes x k e len small =
    pushed_ends p bytes 56 2 (entry_bytes x) (inner_rest p k) e (length-entry_bytes x) (omega arith) (omega (arith, len, small)) (omega (arith, small)) (omega arith)

-- another next leaf
pub next_rest : (p : Payload) (bytes : List ℕ) (next : ℕ) → p.kind ≡ Leaf → p.bytes ≡ put 8 (big_bytes 4 next) bytes → 16 ≤ length bytes
    → slack_of p ≡ drop (16 + 80 * leaf_leg_count bytes) bytes
next_rest p bytes next k e room =
    ends p 80 (number_at 2 12) (put 8 (big_bytes 4 next) bytes) bytes (leaf_leg_count bytes) (leaf_rest p k) e
    (number-unset bytes 4 8 next (omega arith) room 2 12 (inr (omega arith)))
    (head_rest bytes 4 8 next (16 + 80 * leaf_leg_count bytes) (omega arith) (omega arith) room)

-- an entry written over
pub wider_rest : (p : Payload) (bytes : List ℕ) (t : ℕ) (x : EntryView BoxView) → p.kind ≡ Inner → p.bytes ≡ put (16 + 56 * t) (entry_bytes x) bytes → 4056 ≤ length bytes
    → t < entry_count bytes → entry_count bytes ≤ 72 → slack_of p ≡ drop (16 + 56 * entry_count bytes) bytes
wider_rest p bytes t x k e len below most =
    let size = length-entry_bytes x in
    let room : 16 + 56 * t + 56 ≤ length bytes = omega (arith, len, below, most) in
    ends p 56 (number_at 2 2) (put (16 + 56 * t) (entry_bytes x) bytes) bytes (entry_count bytes) (inner_rest p k) e
    (head-slot bytes 56 t (entry_bytes x) size room 2 2 (omega arith))
    (slot_rest bytes 56 t (entry_bytes x) (16 + 56 * entry_count bytes) size (omega (arith, below)) room)

-- a payload that says a node, with m bytes fewer behind it
abbrev Edited : ℕ → Payload → Payload → Option (Node LegView BoxView) → Type 0
Edited m old new node = record { node : node_of new ≡ node; rest : slack_of new ≡ drop m (slack_of old) }

edited : (m : ℕ) (old new : Payload) {node : Option (Node LegView BoxView)} → node_of new ≡ node → slack_of new ≡ drop m (slack_of old) → Edited m old new node
edited m old new says rest = record { node = says; rest = rest }

-- a leaf that took a leg
pub leg_edited : (p : Payload) (l : LegView) (new : List ℕ) → IsTaken p l → new ≡ pushed 80 12 (leg_bytes l) p.bytes → 4056 ≤ length p.bytes → LegReadsBack l
    → Edited 80 p (record p { bytes = new }) (option_map (leaf_with_leg l) (as_leaf (node_of p)))
leg_edited p l new t e len back =
    edited 80 p (record p { bytes = new }) (leg_pushed p l new e len t.held back t.takes)
    (leg_rest (record p { bytes = new }) p.bytes l t.held.kind e len t.small ∙ ap (drop 80) (sym (leaf_rest p t.held.kind)))

-- an inner page that took an entry
pub entry_edited : (p : Payload) (x : EntryView BoxView) (new : List ℕ) → HasRoom p → new ≡ pushed 56 2 (entry_bytes x) p.bytes → 4056 ≤ length p.bytes → EntryReadsBack x
    → Edited 56 p (record p { bytes = new }) (option_map (inner_with_entry x) (as_inner (node_of p)))
entry_edited p x new t e len back =
    edited 56 p (record p { bytes = new }) (entry_pushed p x new e len t.held back t.room)
    (entry_rest (record p { bytes = new }) p.bytes x t.held.kind e len t.small ∙ ap (drop 56) (sym (inner_rest p t.held.kind)))
