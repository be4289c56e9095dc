use Rattle.std.proofs.Common.{◌≡◌, ◌++◌, map, drop}
use Rattle.tbtree.specs.Turn.{last_leg, ComeInTurn}
use Rattle.treecheck.proofs.walking.take_legs.Given as goal

abbrev pub invariant-loop-i : goal.invariant-loop-i
invariant-loop-i g l = record {
  on : ComeInTurn l.feature l.rows l.last (drop l.i (g.L.AnyLeaf.says l.leaf).legs) → ComeInTurn l.feature l.rows l.initial.last (g.L.AnyLeaf.says l.leaf).legs;
  back : ComeInTurn l.feature l.rows l.initial.last (g.L.AnyLeaf.says l.leaf).legs → ComeInTurn l.feature l.rows l.last (drop l.i (g.L.AnyLeaf.says l.leaf).legs);
  last : last_leg l.last (drop l.i (g.L.AnyLeaf.says l.leaf).legs) ≡ last_leg l.initial.last (g.L.AnyLeaf.says l.leaf).legs;
  ordinals : l.ordinals.items ++ map (λ leg. leg.ordinal) (drop l.i (g.L.AnyLeaf.says l.leaf).legs) ≡ l.initial.ordinals.items ++ map (λ leg. leg.ordinal) (g.L.AnyLeaf.says l.leaf).legs;
}
