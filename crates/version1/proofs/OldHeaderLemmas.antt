-- What the header of a store of version 1 says behind its first 12 bytes.
use Rattle.std.proofs.Common.{ℕ, ◌≡◌, ◌++◌, [], List, length, refl, sym, ap, ◌∙◌, arith, subst, Option, Some}
use Rattle.byteorder.specs.Endian.{big_bytes}
use Rattle.pages.specs.declared.payload.Payload.{Payload}
use Rattle.tbnode.specs.Parts.{part}
use Rattle.header.specs.Fields.{SaysLimits, SaysShape}
use Rattle.version1.specs.OldStore.{as_written, old_fields_bytes, HasOldFields, SaysOldBody, SaysOldFields}
use Rattle.header.specs.declared.header_fields.Fields.{Fields}
use Rattle.version1.specs.declared.old_header.OldFields.{OldFields}
use Rattle.header.proofs.FieldsLemmas.{cut, joined}
use Rattle.register.proofs.PrefixLemmas.{numbers_free}

module _ (payload : Payload) (f : Fields) where
  pub old_fields_are : SaysShape payload.bytes f.shape → SaysLimits payload.bytes f.limits
      → part 32 4 payload.bytes ≡ big_bytes 4 f.root → part 36 4 payload.bytes ≡ big_bytes 4 f.levels → part 40 4 payload.bytes ≡ big_bytes 4 f.leaves
      → part 44 4 payload.bytes ≡ big_bytes 4 f.first → part 48 8 payload.bytes ≡ big_bytes 8 f.length
      → HasOldFields payload f
  unfolding old_fields_bytes
  old_fields_are shape limits root levels leaves first len =
      let j = joined payload.bytes in
      record {
        fields = j 12 2 42 _ _ shape.leaf (j 14 2 40 _ _ shape.inner (j 16 8 32 _ _ limits.legs (j 24 8 24 _ _ limits.features
            (j 32 4 20 _ _ root (j 36 4 16 _ _ levels (j 40 4 12 _ _ leaves (j 44 4 8 _ _ first len)))))));
      }

  module _ (whole : length payload.bytes ≡ 4056) (has : HasOldFields payload f) where
    pub old_says : SaysShape payload.bytes f.shape × SaysLimits payload.bytes f.limits
    unfolding old_fields_bytes
    old_says =
        let b = payload.bytes in
        let leaf = cut b 12 2 42 (big_bytes 2 f.shape.leaf) _ (omega (arith, whole)) refl has.fields in
        let inner = cut b 14 2 40 (big_bytes 2 f.shape.inner) _ (omega (arith, whole)) refl leaf.1 in
        let legs = cut b 16 8 32 (big_bytes 8 f.limits.legs) _ (omega (arith, whole)) refl inner.1 in
        let features = cut b 24 8 24 (big_bytes 8 f.limits.features) _ (omega (arith, whole)) refl legs.1 in
        (record { leaf = leaf.0; inner = inner.0 }, record { legs = legs.0; features = features.0 })

some_same : {X : Type 0} {x y : X} → Some x ≡ Some y → x ≡ y
some_same e = (cc)

old_parts : (f : Fields) (s : List ℕ) → old_fields_bytes f ++ s ≡ big_bytes 2 f.shape.leaf ++ (big_bytes 2 f.shape.inner ++ (big_bytes 8 f.limits.legs ++ (big_bytes 8 f.limits.features
    ++ (big_bytes 4 f.root ++ (big_bytes 4 f.levels ++ (big_bytes 4 f.leaves ++ (big_bytes 4 f.first ++ (big_bytes 8 f.length ++ s))))))))
unfolding old_fields_bytes
old_parts f s = refl

-- the bytes of fields of version 1 are told apart
module _ (payload : Payload) (a b : OldFields) (h : SaysOldBody payload a) (k : SaysOldBody payload b) where
  abbrev f : Fields
  f = as_written a

  abbrev g : Fields
  g = as_written b

  pub old_free : a ≡ b
  old_free =
      let e = sym (old_parts f []) ∙ ap (λ l. l ++ []) (sym h.has.fields ∙ k.has.fields) ∙ old_parts g [] in
      let leaf = numbers_free 2 16 refl f.shape.leaf g.shape.leaf _ _ (omega (arith, h.shape.most_leaf)) (omega (arith, k.shape.most_leaf)) e in
      let inner = numbers_free 2 16 refl f.shape.inner g.shape.inner _ _ (omega (arith, h.shape.most_inner)) (omega (arith, k.shape.most_inner)) leaf.1 in
      let legs = numbers_free 8 64 refl f.limits.legs g.limits.legs _ _ (omega (arith, h.limits.few_legs)) (omega (arith, k.limits.few_legs)) inner.1 in
      let features = numbers_free 8 64 refl f.limits.features g.limits.features _ _ (omega (arith, h.limits.few_features)) (omega (arith, k.limits.few_features)) legs.1 in
      let root = numbers_free 4 32 refl f.root g.root _ _ h.fits.root k.fits.root features.1 in
      let levels = numbers_free 4 32 refl f.levels g.levels _ _ h.fits.levels k.fits.levels root.1 in
      let leaves = numbers_free 4 32 refl f.leaves g.leaves _ _ h.fits.leaves k.fits.leaves levels.1 in
      let first = numbers_free 4 32 refl f.first g.first _ _ h.fits.first k.fits.first leaves.1 in
      let len = numbers_free 8 64 refl f.length g.length [] [] h.fits.length k.fits.length first.1 in
      let near : a.fields.shape.leaf ≡ b.fields.shape.leaf = (let x = leaf.0 in omega (arith, x, h.nearest, k.nearest)) in
      let dimension = h.dimension ∙ sym k.dimension in
      (λ i. record {
        leaf = leaf.0 i;
        fields = record {
          shape = record { leaf = near i; inner = inner.0 i };
          limits = record { legs = legs.0 i; features = features.0 i };
          root = root.0 i;
          levels = levels.0 i;
          leaves = leaves.0 i;
          first = first.0 i;
          length = len.0 i;
          dimension = dimension i;
        };
      })

-- one page 0 says one thing
pub old_fields_same : (count : ℕ) (first : Option Payload) (f g : OldFields) → SaysOldFields count first f → SaysOldFields count first g → f ≡ g
old_fields_same count first f g h k =
    let same : h.payload ≡ k.payload = some_same (sym h.is ∙ k.is) in
    old_free h.payload f g h.body (subst (λ p. SaysOldBody p g) (sym same) k.body)
