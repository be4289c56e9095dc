-- Pages keep one catalogue, one tree and one list of places.
use Rattle.std.proofs.Common.{ℕ, ◌≡◌, ◌≤◌, inl, inr, [], ◌∷◌, List, length, map, refl, sym, ap, ◌∙◌, arith, subst, Option, Some, None, option_map}
use Rattle.legs.specs.Tracks.{TracksView}
use Rattle.legs.specs.declared.head.BookHead.{BookHead}
use Rattle.mfcsv.specs.declared.Dimension.{Dimension}
use Rattle.mfcsv.specs.declared.Dimension.TheVariants.{Two, Three}
use Rattle.pages.specs.declared.payload.Payload.{Payload}
use Rattle.tbtree.specs.declared.tree.Place.{Place}
use Rattle.tbtree.specs.declared.tree.TbTree.{TbTree}
use Rattle.register.specs.Restoring.{number_of, tree_of, IsOf, IsRest}
use Rattle.register.specs.Lasting.{tracks_of, IsKept, IsLawfulCatalogue, IsSame}
use Rattle.register.specs.Saved.{dimensions_of, head_of, CatalogueView}
use Rattle.register.specs.Saving.{contents_of, features_of}
use Rattle.register.specs.declared.contents.Contents.{Contents}
use Rattle.header.specs.declared.header_fields.Fields.{Fields}
use Rattle.register.proofs.BuildLemmas.{none_some, of_contents, some_or_none}
use Rattle.register.proofs.RestoreLemmas.{contents_same, fields_kept, fields_same, kept_fields, kept_rest, kept_tree}

same_dimension : (a b : Dimension) → number_of a ≡ number_of b → a ≡ b
same_dimension Two Two e = refl
same_dimension Two Three e = absurd (omega (arith, e))
same_dimension Three Two e = absurd (omega (arith, e))
same_dimension Three Three e = refl

pub same_head : (a b : BookHead) → head_of a ≡ head_of b → dimensions_of (Some a) ≡ dimensions_of (Some b) → a ≡ b
same_head a b e d =
    let dimension = same_dimension a.dimension b.dimension d in
    (λ i. record { crs = (e i).space.crs; dimension = dimension i; base = (e i).base; columns = (e i).space.columns })

no_rows : (xs : List (List (List ℕ))) → length xs ≤ 0 → xs ≡ []
no_rows [] h = refl
no_rows (x ∷ xs) h = absurd (omega (arith, h))

pub no_head : (k : CatalogueView) (l : List Place) → contents_of k l ≡ None → k.head ≡ None
no_head k l e = elim (some_or_none k.head) [
  | inl none ↦ none
  | inr some ↦ absurd (none_some (sym (sym (ap (option_map (λ h. record { head = head_of h; lists = record { features = features_of k.tracks l; rows = k.rows } })) some.1) ∙ e)))
]

-- catalogues of one content
pub of_same : (count : ℕ) (fields : Fields) (contents : Option Contents) (c d : CatalogueView) (places others : List Place) → IsOf count fields contents c places → IsOf count fields contents d others → (c ≡ d) × (places ≡ others)
of_same count fields None c d places others p q =
    let hc : c.head ≡ None = no_head c places p.contents_are in
    let hd : d.head ≡ None = no_head d others q.contents_are in
    let fc = p.lawful.none hc in
    let fd = q.lawful.none hd in
    let rows : (k : CatalogueView) (l : List Place) (lawful : IsLawfulCatalogue count k l) → lawful.features ≡ [] → k.rows ≡ [] = λ k l lawful e.
    no_rows k.rows (let t = ap (λ (t : TracksView). t.legs) (lawful.tracks_are ∙ ap (λ fs. tracks_of fs (length k.rows)) e) in let few = lawful.few_rows in omega (arith, t, few)) in
    let rc = rows c places p.lawful fc in
    let rd = rows d others q.lawful fd in
    let tc = p.lawful.tracks_are ∙ (λ i. tracks_of (fc i) (length (rc i))) in
    let td = q.lawful.tracks_are ∙ (λ i. tracks_of (fd i) (length (rd i))) in
    let head = hc ∙ sym hd in
    let limits = p.limits ∙ sym q.limits in
    let tracks = tc ∙ sym td in
    let all = rc ∙ sym rd in (
      (λ i. record { head = head i; limits = limits i; tracks = tracks i; rows = all i }),
      p.lawful.places_are ∙ ap (map (λ f. f.kept.place)) (fc ∙ sym fd) ∙ sym q.lawful.places_are,
    )
of_same count fields (Some contents) c d places others p q =
    let x = of_contents count fields contents c places p in
    let y = of_contents count fields contents d others q in
    let both = x.2 ∙ sym y.2 in
    let features = ap (λ (k : Contents). k.lists.features) both in
    let rows = ap (λ (k : Contents). k.lists.rows) both in
    let same = same_head x.0 y.0 (ap (λ (k : Contents). k.head) both) (ap dimensions_of (sym x.1) ∙ p.dimension ∙ sym q.dimension ∙ ap dimensions_of y.1) in
    let head = x.1 ∙ ap Some same ∙ sym y.1 in
    let limits = p.limits ∙ sym q.limits in
    let tracks = p.lawful.tracks_are ∙ (λ i. tracks_of (features i) (length (rows i))) ∙ sym q.lawful.tracks_are in (
      (λ i. record { head = head i; limits = limits i; tracks = tracks i; rows = rows i }),
      p.lawful.places_are ∙ ap (map (λ f. f.kept.place)) features ∙ sym q.lawful.places_are,
    )

-- what pages keep is one
pub kept_same : (at : ℕ → Option Payload) (count : ℕ) (c d : CatalogueView) (tree other : TbTree) (places others : List Place) → IsKept at count c tree places → IsKept at count d other others → IsSame c d tree other places others
kept_same at count c d tree other places others h k =
    let f = fields_kept at count c tree places h in
    let g = fields_kept at count d other others k in
    let same : f ≡ g = fields_same count (at 0) f g (kept_fields at count c tree places h) (kept_fields at count d other others k) in
    let first = kept_rest at count c tree places h in
    let second = subst (λ (x : Fields). IsRest at count x d others) (sym same) (kept_rest at count d other others k) in
    let text = contents_same at count f.first f.length first.contents second.contents first.holds second.holds in
    let both = of_same count f first.contents c d places others first.of (subst (λ t. IsOf count f t d others) (sym text) second.of) in
    record {
      catalogue = both.0;
      tree_is = sym (kept_tree at count c tree places h) ∙ ap tree_of same ∙ kept_tree at count d other others k;
      places_are = both.1;
    }
