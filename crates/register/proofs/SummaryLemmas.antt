-- What stands before the rows of a text is what the whole text says there.
use Rattle.std.proofs.Common.{ℕ, ◌≡◌, ◌≢◌, ◌-◌, ◌<◌, ◌≤◌, ◌^◌, min, List, [], ◌∷◌, ◌++◌, drop, get_or, length, refl, sym, subst, ap, ◌∙◌, arith, Option, Some, None, option_map, Ok, Err}
use Rattle.std.proofs.lemmas.Int.{clamps}
use Rattle.std.proofs.lemmas.List.{append_assoc, length-map}
use Rattle.pages.specs.declared.payload.Payload.{Payload}
use Rattle.pagecache.specs.Cache.{Cache}
use Rattle.legs.specs.Tracks.{TracksView}
use Rattle.legs.specs.declared.head.BookHead.{BookHead}
use Rattle.tbtree.specs.declared.tree.Place.{Place}
use Rattle.tbtree.specs.declared.tree.TbTree.{TbTree}
use Rattle.header.specs.declared.header_fields.Fields.{Fields}
use Rattle.register.specs.Restoring.{IsOf, HoldsContents, IsRest, SaysFields, before_rows, before_text, IsBeforeRows, Summarizes}
use Rattle.register.specs.ChainReader.{ReaderView, rest_of, IsBroken, ReadsValue, Shows}
use Rattle.register.specs.Lasting.{IsKept}
use Rattle.register.specs.Saved.{dimensions_of, head_of, CatalogueView}
use Rattle.register.specs.Text.{body_text, catalogue_text, contents_text, features_bytes, flag_of, head_text, leg_sum, rows_text, AreCounted, IsFeature, IsHead, IsNumber, IsWhole}
use Rattle.register.specs.declared.contents.Contents.{Contents}
use Rattle.register.specs.declared.contents.Feature.{Feature}
use Rattle.register.specs.declared.fault.CatalogueFault.{CatalogueFault}
use Rattle.register.specs.declared.summary.BeforeRows.{BeforeRows}
use Rattle.register.specs.declared.summary.Summary.{Summary}
use Rattle.register.proofs.BuildLemmas.{of_contents}
use Rattle.register.proofs.PrefixLemmas.{features_free, head_free, pair_free, IsFree}
use Rattle.register.proofs.ReaderLemmas.{some_none, some_same, still_shows}
use Rattle.register.proofs.RestoreLemmas.{fields_kept, fields_same, kept_fields, kept_rest}
use Rattle.register.proofs.SameLemmas.{same_head}
use Rattle.register.proofs.SequenceLemmas.{IsPair}
use Rattle.register.proofs.WholeLemmas.{flag_fits}

-- pages of which page 0 says these fields have behind it what they keep
pub kept_behind : (at : ℕ → Option Payload) (count : ℕ) (fields : Fields) → SaysFields count (at 0) fields → (c : CatalogueView) (tree : TbTree) (places : List Place) → IsKept at count c tree places → IsRest at count fields c places
kept_behind at count fields says c tree places k =
    subst (λ f. IsRest at count f c places) (fields_same count (at 0) (fields_kept at count c tree places k) fields (kept_fields at count c tree places k) says) (kept_rest at count c tree places k)

-- a head, and features
abbrev pub before_pair : IsPair before_text IsBeforeRows head_text IsHead features_bytes (λ _. AreCounted IsFeature 32)
before_pair = record { left = λ v. v.head; right = λ v. v.features; free = head_free; parts = λ v k. (k.head, k.features); whole = λ v. refl }

before_free : IsFree before_text IsBeforeRows
before_free a b s t h k e =
    pair_free head_text features_bytes IsHead (AreCounted IsFeature 32) head_free features_free (λ (v : BeforeRows). v.head) (λ (v : BeforeRows). v.features)
    (λ v w p q i. record { head = p i; features = q i }) a b s t (h.head, h.features) (k.head, k.features) e

-- behind its first byte a whole text has its body
pub behind_flag : (n : ℕ) (old mid : Option (List ℕ)) (contents : Option Contents) → old ≡ option_map (λ t. (n ∷ []) ++ t) mid → old ≡ Some (catalogue_text contents) → (n ≡ flag_of contents) × (mid ≡ Some (body_text contents))
behind_flag n old None contents e is = absurd (some_none (catalogue_text contents) (sym is ∙ e))
behind_flag n old (Some s) contents e is =
    let same = some_same (n ∷ s) (catalogue_text contents) (sym e ∙ is) in
    (ap (λ l. get_or l 0 0) same, ap (λ l. Some (drop 1 l)) same)

-- behind what stands before the rows there are the rows
pub with_rows : (k : Contents) → contents_text k ≡ before_text (before_rows k) ++ rows_text k.lists.rows
with_rows k = sym (append_assoc (head_text k.head) (features_bytes k.lists.features) (rows_text k.lists.rows))

-- what fits into a whole text fits before its rows
pub fits_before : (k : Contents) → IsWhole (Some k) → IsBeforeRows (before_rows k)
fits_before k whole = record { head = whole.head; features = whole.lists.features }

-- what is read before the rows is that of the contents
pub before_same : (b : BeforeRows) (k : Contents) (mid new : Option (List ℕ)) → IsBeforeRows b → IsWhole (Some k) → mid ≡ option_map (λ t. before_text b ++ t) new → mid ≡ Some (contents_text k) → b ≡ before_rows k
before_same b k mid None h whole e is = absurd (some_none (contents_text k) (sym is ∙ e))
before_same b k mid (Some s) h whole e is =
    (before_free b (before_rows k) s (rows_text k.lists.rows) h (fits_before k whole) (some_same (before_text b ++ s) (contents_text k) (sym e ∙ is) ∙ with_rows k)).0

-- the first byte was read, and a whole text stands from it on
module _ {a b : Cache} {s t : ReaderView} {n : ℕ} (at : ℕ → Option Payload) (shows : Shows a at) (flag : ReadsValue a b s t (λ n. n ∷ []) (IsNumber 8) (Ok n)) where
  at_body : (contents : Option Contents) → rest_of at s ≡ Some (catalogue_text contents) → (n ≡ flag_of contents) × (rest_of at t ≡ Some (body_text contents))
  at_body contents is = behind_flag n (rest_of at s) (rest_of at t) contents (flag.taken at shows).1 is

  pub before_said : {d : Cache} {u : ReaderView} {before : BeforeRows} → n ≡ 1 → ReadsValue b d t u before_text IsBeforeRows (Ok before) → (contents : Option Contents) → IsWhole contents → rest_of at s ≡ Some (catalogue_text contents) → Some before ≡ option_map before_rows contents
  before_said one read None whole is = absurd (let f = (at_body None is).0 in omega (arith, one, f))
  before_said {u = u} {before = before} one read (Some k) whole is =
      let taken = read.taken at (still_shows flag.reads shows) in
      ap Some (before_same before k (rest_of at t) (rest_of at u) taken.0 whole taken.1 (at_body (Some k) is).1)

  pub no_before : {d : Cache} {u : ReaderView} {e : CatalogueFault} → n ≡ 1 → ReadsValue b d t u before_text IsBeforeRows (Err e) → IsBroken e → (contents : Option Contents) → IsWhole contents → rest_of at s ≡ Some (catalogue_text contents) → ⊥
  no_before one read broken None whole is = absurd (let f = (at_body None is).0 in omega (arith, one, f))
  no_before one read broken (Some k) whole is =
      read.lacks at (still_shows flag.reads shows) broken (before_rows k) (rows_text k.lists.rows) (fits_before k whole) ((at_body (Some k) is).1 ∙ ap Some (with_rows k))

-- where the first byte is not read, no whole text stands there
pub no_text : {a b : Cache} {s t : ReaderView} {e : CatalogueFault} (at : ℕ → Option Payload) → Shows a at → ReadsValue a b s t (λ n. n ∷ []) (IsNumber 8) (Err e) → IsBroken e → (contents : Option Contents) → rest_of at s ≢ Some (catalogue_text contents)
no_text at shows flag broken contents is = flag.lacks at shows broken (flag_of contents) (body_text contents) (flag_fits contents) is

-- a reader that begins has the whole text before it
pub begins : (at : ℕ → Option Payload) (count first length : ℕ) (contents : Option Contents) (reader : ReaderView) → reader ≡ record { next = first; left = length; bytes = [] } → HoldsContents at count first length contents → rest_of at reader ≡ Some (catalogue_text contents)
begins at count first length contents reader is holds = ap (rest_of at) is ∙ ap (option_map (λ t. [] ++ t)) holds.text

-- what is not something is nothing
pub none_is : {X : Type 0} (o : Option X) → ((x : X) → o ≡ Some x → ⊥) → None ≡ o
none_is None h = refl
none_is (Some x) h = absurd (h x refl)

module _ (count : ℕ) (fields : Fields) (c : CatalogueView) (places : List Place) where
  module _ (b : BeforeRows) where
    -- the features before the rows are those of the catalogue
    counts : (contents : Option Contents) → IsOf count fields contents c places → Some b ≡ option_map before_rows contents
        → (h : BookHead) × (c.head ≡ Some h) × (head_of h ≡ b.head) × (dimensions_of (Some h) ≡ fields.dimension) × (length c.tracks.names ≡ length b.features) × (c.tracks.legs ≡ leg_sum b.features)
    counts None of e = absurd (cc)
    counts (Some k) of e =
        let own = some_same b (before_rows k) e in
        let x = of_contents count fields k c places of in
        let fs : of.lawful.features ≡ b.features = ap (λ (k : Contents). k.lists.features) x.2 ∙ sym (ap (λ (b : BeforeRows). b.features) own) in
        let tracks = of.lawful.tracks_are in (
          x.0,
          x.1,
          ap (λ (k : Contents). k.head) x.2 ∙ sym (ap (λ (b : BeforeRows). b.head) own),
          ap dimensions_of (sym x.1) ∙ of.dimension,
          ap (λ (t : TracksView). length t.names) tracks ∙ length-map of.lawful.features (λ (f : Feature). f.name) ∙ ap length fs,
          ap (λ (t : TracksView). t.legs) tracks ∙ ap leg_sum fs,
        )

    module _ (contents : Option Contents) (of : IsOf count fields contents c places) (e : Some b ≡ option_map before_rows contents) where
      -- there are no more legs than the limit
      pub legs_few : leg_sum b.features ≤ fields.limits.legs
      legs_few = let legs = (counts contents of e).5 in let few = of.lawful.few_legs in let limits = ap (λ l. l.legs) of.limits in omega (arith, legs, few, limits)

      pub all_said : (s : Summary) (h : BookHead) → s.head ≡ Some h → head_of h ≡ b.head → dimensions_of (Some h) ≡ fields.dimension → s.limits ≡ fields.limits → s.features ≡ length b.features
          → s.legs ≡ min (leg_sum b.features) (2 ^ 64 - 1) → fields.limits.legs < 2 ^ 64 - 1 → Summarizes c s
      all_said s h head of_h dimension limits features legs most =
          let x = counts contents of e in
          let few = legs_few in
          let sum = x.5 in
          record {
            head = head ∙ ap Some (same_head h x.0 (of_h ∙ sym x.2) (dimension ∙ sym x.3)) ∙ sym x.1;
            limits = limits ∙ sym of.limits;
            features = features ∙ sym x.4;
            legs = omega (arith, clamps, legs, sum, few, most);
          }
