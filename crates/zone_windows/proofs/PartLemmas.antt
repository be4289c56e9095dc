-- Parts of parts are parts of the zone.
use Rattle.std.proofs.Common.{◌≡◌, ◌∙◌, ◌++◌, List, [], ◌∷◌, pos, ◌≤ℤ◌, arith, subst, sym}
use Rattle.std.proofs.lemmas.Int.{ints}
use Rattle.std.proofs.lemmas.List.Elements.{All-push}
use Rattle.zones.specs.Places.{Corner, Point}
use Rattle.zones.proofs.Orders.{scale}
use Rattle.zone_windows.specs.Near.{AgreeIn, IsInWindow}
use Rattle.zone_windows.specs.Parts.{ArePartsOf, Holds, IsCutOf, IsPartOf, IsWithin}
use Rattle.zone_windows.specs.declared.near.Window.{Window}
use Rattle.zone_windows.specs.declared.part.Cut.{Cut}
use Rattle.zone_windows.specs.declared.part.Part.{Part}

in_both : (window other : Window) → Holds window other → (p : Point) → IsInWindow other p → IsInWindow window p
in_both window other h p i =
    let z = i.positive in
    let z0 : pos 0 ≤ℤ p.d = omega (arith, ints, z) in
    let l = scale window.left other.left p.d z0 h.left in
    let r = scale other.right window.right p.d z0 h.right in
    let b = scale window.low other.low p.d z0 h.low in
    let t = scale other.high window.high p.d z0 h.high in
    let il = i.from_left in
    let ir = i.to_right in
    let ib = i.from_low in
    let it = i.to_high in
    record {
      positive = z;
      from_left = omega (arith, ints, l, il);
      to_right = omega (arith, ints, r, ir);
      from_low = omega (arith, ints, b, ib);
      to_high = omega (arith, ints, t, it);
    }

-- what agrees in a window with what agrees with the zone in a wider one
pub through : (window other : Window) → Holds window other → (near rings whole : List (List Corner)) → AgreeIn other near rings → AgreeIn window rings whole → AgreeIn other near whole
through window other h near rings whole a b p i = a p i ∙ b p (in_both window other h p i)

-- the rings of a part agree with the zone in each window that the part's has
pub part_agrees : (whole : List (List Corner)) (part : Part) (window : Window) → IsPartOf whole part → Holds part.window window → AgreeIn window part.rings.items whole
part_agrees whole part window is h p i = is.agree p (in_both part.window window h p i)

pub within : (one other : Part) (window : Window) (near : List (List Corner)) → other.window ≡ window → other.rings.items ≡ near → Holds one.window window → AgreeIn window near one.rings.items → IsWithin one other
within one other window near e f h a =
    record {
      part = λ whole is.
          record {
            agree =
                subst (λ (w : Window). AgreeIn w other.rings.items whole) (sym e)
                (subst (λ (l : List (List Corner)). AgreeIn window l whole) (sym f) (through one.window window h near one.rings.items whole a is.agree));
          };
    }

pub whole_is : (rings near : List (List Corner)) (part : Part) (window : Window) → part.window ≡ window → part.rings.items ≡ near → AgreeIn window near rings → IsPartOf rings part
whole_is rings near part window e f a =
    record {
      agree = subst (λ (w : Window). AgreeIn w part.rings.items rings) (sym e) (subst (λ (l : List (List Corner)). AgreeIn window l rings) (sym f) a);
    }

-- a cut of one of the parts makes two parts more
pub cut_more : (whole : List (List Corner)) (parts : List Part) (part : Part) (cut : Cut) → ArePartsOf whole parts → IsPartOf whole part → IsCutOf part cut → ArePartsOf whole ((parts ++ cut.first ∷ []) ++ cut.second ∷ [])
cut_more whole parts part cut all is of =
    All-push (IsPartOf whole) (parts ++ cut.first ∷ []) cut.second (All-push (IsPartOf whole) parts cut.first all (of.first.part whole is)) (of.second.part whole is)
