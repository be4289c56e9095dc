use Rattle.std.proofs.Common.{◌≡◌, ap, ◌∙◌, List, ℕ, length, arith}
use Rattle.byteorder.specs.Endian.{big_bytes}
use Rattle.tbnode.specs.Parts.{put}
use Rattle.header.proofs.FieldsLemmas.{fields_put}
use Rattle.header.proofs.header_fields.put_bytes.Goals as goal

-- a number is written at its place
at : (p n x y : ℕ) (bytes new : List ℕ) → x ≡ y → new ≡ put p (big_bytes n x) bytes → new ≡ put p (big_bytes n y) bytes
at p n x y bytes new e is = is ∙ ap (λ k. put p (big_bytes n k) bytes) e

pub returns-clause-put : goal.returns-clause-put
returns-clause-put c =
    let f = c.args.fields.now in
    let n0 = c.requires in
    let n1 : length c.put_u16.new.bytes ≡ 4056 = omega arith in
    let n2 : length c.put_u16-2.new.bytes ≡ 4056 = omega arith in
    let n3 : length c.put_u64.new.bytes ≡ 4056 = omega arith in
    let n4 : length c.put_u64-2.new.bytes ≡ 4056 = omega arith in
    let n5 : length c.put_u32.new.bytes ≡ 4056 = omega arith in
    let n6 : length c.put_u32-2.new.bytes ≡ 4056 = omega arith in
    let n7 : length c.put_u32-3.new.bytes ≡ 4056 = omega arith in
    let n8 : length c.put_u32-4.new.bytes ≡ 4056 = omega arith in
    let leaf = at 12 2 c.leaf.result f.shape.leaf _ _ c.leaf.ensures.value c.put_u16.ensures in
    let inner = at 14 2 c.inner.result f.shape.inner _ _ c.inner.ensures.value c.put_u16-2.ensures in
    let legs = at 16 8 c.legs.result f.limits.legs _ _ c.legs.ensures.value c.put_u64.ensures in
    let features = at 24 8 c.from.result f.limits.features _ _ (c.from.ensures ∙ c.features.ensures.value) c.put_u64-2.ensures in
    fields_put f c.args.bytes.now _ _ _ _ _ _ _ _ _ _ n0 n1 n2 n3 n4 n5 n6 n7 n8 leaf inner legs features c.put_u32.ensures c.put_u32-2.ensures c.put_u32-3.ensures c.put_u32-4.ensures c.put_u64-3.ensures c.put_u32-5.ensures
