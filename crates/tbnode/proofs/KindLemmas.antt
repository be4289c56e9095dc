-- What a payload of one kind says, of leaves and of inner pages alike.
use Rattle.std.proofs.Common.{◌≡◌, ◌≢◌, ℕ, Bool, true, false, if◌then◌else◌, List, Option, Some, None, refl, sym, ap, ◌∙◌, inl, inr, ◌⊎◌, ⊎_elim}
use Rattle.std.specs.Option.{is_some}
use Rattle.std.specs.Prelude.{option_map}
use Rattle.std.proofs.lemmas.Bool.{false≢true}
use Rattle.legs.specs.Boxes.{BoxView}
use Rattle.legs.specs.Legs.{LegView}
use Rattle.pages.specs.declared.payload.Kind.{Kind}
use Rattle.pages.specs.declared.payload.Kind.TheVariants.{Header, Leaf, Inner, Catalogue}
use Rattle.pages.specs.declared.payload.Payload.{Payload}
use Rattle.tbnode.specs.Nodes.{LeafView, InnerView, Node, ALeaf, AnInner, as_leaf, as_inner}
use Rattle.tbnode.specs.Form.{leaf_from_bytes, is_leaf, inner_of, is_inner, node_by, node_of}

-- payloads of a kind say the node that is made of a view of their bytes, where these are of its form; no others are seen as such a view
pub record IsKind {V : Type 0} (kind : Kind) (form : List ℕ → Bool) (view : List ℕ → V) (make : V → Node LegView BoxView) (seen : Option (Node LegView BoxView) → Option V) : Type 0 where
  pub own : (bytes : List ℕ) → node_by kind bytes ≡ (if form bytes then Some (make (view bytes)) else None)
  pub made : (v : V) → seen (Some (make v)) ≡ Some v
  pub none : seen None ≡ None
  pub other : (k : Kind) (bytes : List ℕ) → (k ≡ kind) ⊎ (seen (node_by k bytes) ≡ None)

leaf_or : (k : Kind) (bytes : List ℕ) → (k ≡ Leaf) ⊎ (as_leaf (node_by k bytes) ≡ None)
leaf_or Header bytes = inr refl
leaf_or Leaf bytes = inl refl
leaf_or Inner bytes =
    let n : Node LegView BoxView = AnInner (inner_of bytes) in
    inr (elim (is_inner bytes) as (λ b. as_leaf (if b then Some n else None) ≡ None) [ true ↦ refl | false ↦ refl ])
leaf_or Catalogue bytes = inr refl

inner_or : (k : Kind) (bytes : List ℕ) → (k ≡ Inner) ⊎ (as_inner (node_by k bytes) ≡ None)
inner_or Header bytes = inr refl
inner_or Leaf bytes =
    let n : Node LegView BoxView = ALeaf (leaf_from_bytes bytes) in
    inr (elim (is_leaf bytes) as (λ b. as_inner (if b then Some n else None) ≡ None) [ true ↦ refl | false ↦ refl ])
inner_or Inner bytes = inl refl
inner_or Catalogue bytes = inr refl

pub a_leaf : IsKind Leaf (λ bytes. is_leaf bytes) (λ bytes. leaf_from_bytes bytes) (λ (v : LeafView LegView). ALeaf v) (λ o. as_leaf o)
a_leaf = record { own = λ _. refl; made = λ _. refl; none = refl; other = leaf_or }

pub an_inner : IsKind Inner (λ bytes. is_inner bytes) (λ bytes. inner_of bytes) (λ (v : InnerView BoxView). AnInner v) (λ o. as_inner o)
an_inner = record { own = λ _. refl; made = λ _. refl; none = refl; other = inner_or }

-- a payload of a kind, in its form
pub record Holds (of : Kind) (met : List ℕ → Bool) (p : Payload) : Type 0 where
  pub kind : p.kind ≡ of
  pub form : met p.bytes ≡ true

abbrev pub HoldsLeaf : Payload → Type 0
HoldsLeaf = Holds Leaf (λ bytes. is_leaf bytes)

abbrev pub HoldsInner : Payload → Type 0
HoldsInner = Holds Inner (λ bytes. is_inner bytes)

module _ {V : Type 0} {kind : Kind} {form : List ℕ → Bool} {view : List ℕ → V} {make : V → Node LegView BoxView} {seen : Option (Node LegView BoxView) → Option V} (is : IsKind kind form view make seen) where
  pub node_is : (p : Payload) → p.kind ≡ kind → form p.bytes ≡ true → node_of p ≡ Some (make (view p.bytes))
  unfolding node_of
  node_is p k e = ap (λ j. node_by j p.bytes) k ∙ is.own p.bytes ∙ ap (λ b. if b then Some (make (view p.bytes)) else None) e

  pub seen_some : (p : Payload) (v : V) → p.kind ≡ kind → form p.bytes ≡ true → v ≡ view p.bytes → Some v ≡ seen (node_of p)
  seen_some p v k e at = ap Some at ∙ sym (ap seen (node_is p k e) ∙ is.made (view p.bytes))

  pub seen_none : (p : Payload) → p.kind ≡ kind → form p.bytes ≡ false → None ≡ seen (node_of p)
  unfolding node_of
  seen_none p k e = sym (ap seen (ap (λ j. node_by j p.bytes) k ∙ is.own p.bytes ∙ ap (λ b. if b then Some (make (view p.bytes)) else None) e) ∙ is.none)

  pub seen_other : (p : Payload) → p.kind ≢ kind → None ≡ seen (node_of p)
  unfolding node_of
  seen_other p h = ⊎_elim (λ same. absurd (h same)) (λ none. sym none) (is.other p.kind p.bytes)

  -- what is seen in a payload is of the kind and in its form
  pub held : (p : Payload) → is_some (seen (node_of p)) ≡ true → Holds kind form p
  unfolding node_of
  held p h =
      let nothing : seen (node_of p) ≡ None → ⊥ = λ none. false≢true (sym (ap is_some none) ∙ h) in
      ⊎_elim
      (λ same. record { kind = same; form = elim (form p.bytes) as (λ b. form p.bytes ≡ b → b ≡ true) [ true ↦ λ _. refl | false ↦ λ e. absurd (nothing (sym (seen_none p same e))) ] refl })
      (λ none. absurd (nothing none))
      (is.other p.kind p.bytes)

  pub seen_is : (p : Payload) → Holds kind form p → seen (node_of p) ≡ Some (view p.bytes)
  seen_is p h = sym (seen_some p (view p.bytes) h.kind h.form refl)

  pub changed : (f : V → Node LegView BoxView) (p : Payload) (new : List ℕ) → Holds kind form p → form new ≡ true → make (view new) ≡ f (view p.bytes)
      → node_of (record p { bytes = new }) ≡ option_map f (seen (node_of p))
  changed f p new h now e = node_is (record p { bytes = new }) h.kind now ∙ ap Some e ∙ sym (ap (option_map f) (seen_is p h))
