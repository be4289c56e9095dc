-- Helpers of private functions: what the inner cache ends as, once a page that it lent comes back.
use Rattle.std.specs.Prelude.{ℕ, Result, IsOk, IfErr}
use Rattle.std.specs.Borrow.{follows_so, name_if_ok, MutBor, Fml, RattleType}
use Rattle.pages.specs.declared.payload.Payload.{Payload}
use Rattle.pages.specs.contracts.payload.Payload as payload
use Rattle.pages.specs.declared.store.PageStore as store
use Rattle.pagecache.specs.Cache.{Lends, Rests, IsRefused}
use Rattle.pagecache.specs.Slots.{IsSound, seen_of}
use Rattle.pagecache.specs.declared.fault.CacheFault.{CacheFault}
use Rattle.pagecache.specs.declared.slots.Slots.{Slots}
use Rattle.pagecache.specs.contracts.slots.Slots.{the_row}

-- what the inner cache ends as: sound, and with the payload last written through the reference
abbrev pub LendsSlot : (S : RattleType) → store.Ghosts S.Denot → MutBor (Slots S.Denot) → ℕ
    → Result (MutBor Payload) CacheFault → Fml
LendsSlot S g c n r =
    let seen = seen_of g.seen in
    follows_so (the_row S) payload.the_row c.ghost_name (name_if_ok (λ x. x.ghost_name) r)
    (λ w new. IsSound (seen new) × (IsOk r → Lends n w (seen c.now) (seen new)))
    (λ new. IsSound (seen new)
    × IfErr r (λ e. Rests (seen c.now) (seen new) × IsRefused n e (seen c.now) (seen new)))
