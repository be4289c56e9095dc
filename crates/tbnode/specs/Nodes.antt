-- What a page of a tree says.
pub use Rattle.legs.specs.Nodes.{
  LeafView,
  EntryView,
  InnerView,
  Node,
  ALeaf,
  AnInner,
  as_leaf,
  as_inner,
  with_leg,
  with_next,
  with_entry,
  widened,
  with_wider,
}
