use Rattle.std.proofs.Common.{ℕ, ◌≡◌, drop}
use Rattle.std.specs.Prelude.{fold}
use Rattle.std.specs.BTreeMap.{get}
use Rattle.std.specs.Ordering.{nat_cmp}
use Rattle.visiting.specs.Joining.{joined, joined_with}
use Rattle.visiting.specs.Places.{last_place}
use Rattle.visiting.proofs.joined.joined_of.Given as goal

-- the map has the places of the last ones, and all with the parts that are left are what is joined of all parts
abbrev pub invariant-loop-part : goal.invariant-loop-part
invariant-loop-part g l = record {
  places : (f : ℕ) → get nat_cmp l.last f ≡ last_place g.J.Joined.feature f l.all.items;
  value : fold (joined_with g.J.Joined.feature g.J.Joined.part_feature g.J.Joined.of g.J.Joined.goes_on g.J.Joined.with_part) l.all.items (drop l.part-index l.parts)
      ≡ joined g.J.Joined.feature g.J.Joined.part_feature g.J.Joined.of g.J.Joined.goes_on g.J.Joined.with_part l.parts;
}
