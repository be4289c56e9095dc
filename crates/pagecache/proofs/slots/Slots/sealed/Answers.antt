use Rattle.std.proofs.Common.{◌≡◌, ap, ◌∙◌, subst, Some, IfSome}
use Rattle.std.specs.Box.{box_value}
use Rattle.std.specs.Option.{option_map}
use Rattle.pages.specs.Unsealed.{unsealed}
use Rattle.pagecache.specs.declared.slots.Held.{Held}
use Rattle.pagecache.proofs.slots.Slots.sealed.Goals as goal

pub returns-in-Some : goal.returns-in-Some
returns-in-Some g c =
    subst (λ o. IfSome (option_map (λ (h : Held). box_value h.payload) o) (λ p. unsealed c.args.number c.seal.result ≡ Some p)) c.in-Some.ensures
    (c.seal.ensures.reads_back ∙ ap Some c.deref.ensures)

pub returns-in-None : goal.returns-in-None
returns-in-None g c = subst (λ o. IfSome (option_map (λ (h : Held). box_value h.payload) o) (λ p. unsealed c.args.number c.blank.result ≡ Some p)) c.in-None.ensures tt
