use Rattle.register.specs.Saved.{CatalogueView}
use Rattle.register.specs.Saving.{HasFew}
use Rattle.register.proofs.SavingLemmas.{puts_fewer, puts_refused, puts_then, whole_contents, with_head}
use Rattle.register.proofs.saving.write_catalogue.Goals as goal

pub returns-in_ok-write_head-in-Some : goal.returns-in_ok-write_head-in-Some
returns-in_ok-write_head-in-Some g c =
    let inside = c.catalogue.inside in
    let view : CatalogueView = record { head = inside.head; limits = inside.limits; tracks = inside.tracks; rows = inside.rows } in
    let places = c.args.places.now in
    with_head {view = view} places c.catalogue.view_is c.in-Some.is
    (puts_then c.in_ok-write_head-in-Some.ensures (λ head lists. whole_contents view places c.in-Some.head c.in-Some.is head lists) _ (puts_fewer (λ (few : HasFew view). (few.features, few.rows)) c.write_lists.ensures))

pub returns-in_err-write_head-in-Some : goal.returns-in_err-write_head-in-Some
returns-in_err-write_head-in-Some g c = puts_refused (λ _. tt) c.from_residual.ensures.1 c.in_err-write_head-in-Some.ensures
