use Rattle.std.proofs.Common.{◌∙◌, sym}
use Rattle.std.specs.Prelude.{bytes_eq}
use Rattle.std.specs.String.{string_bytes}
use Rattle.legs.proofs.NameLemmas.{position-map}
use Rattle.legs.proofs.names.Names.find.Goals as goal

pub returns-clause-value : goal.returns-clause-value
returns-clause-value c = rw (← c.self.view_is) (c.get_index_of.ensures.index ∙ sym (position-map (bytes_eq c.args.name.now) string_bytes c.self.inside.names.keys))
