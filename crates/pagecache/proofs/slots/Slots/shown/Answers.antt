use Rattle.std.proofs.Common.{ap, ◌∙◌}
use Rattle.std.specs.Box.{box_value}
use Rattle.std.specs.Option.{option_map, unwrap_or}
use Rattle.pagecache.specs.declared.slots.Held.{Held}
use Rattle.pagecache.proofs.slots.Slots.shown.Goals as goal

pub returns-in-Some : goal.returns-in-Some
returns-in-Some g c = c.deref.ensures ∙ ap (λ o. unwrap_or (option_map (λ (h : Held). box_value h.payload) o) c.args.other.now) c.in-Some.ensures

pub returns-in-None : goal.returns-in-None
returns-in-None g c = ap (λ o. unwrap_or (option_map (λ (h : Held). box_value h.payload) o) c.args.other.now) c.in-None.ensures
