-- What a cache ends as, once a page that it lent comes back.
use Rattle.std.specs.Prelude.{ℕ, Result, IfErr, ⊤}
use Rattle.std.specs.Borrow.{LendsSoOk, follows_so, MutBor, Bor, Fml, RattleType}
use mathlib.Core.Option.{none}
use Rattle.pages.specs.declared.payload.Payload.{Payload}
use Rattle.pages.specs.contracts.payload.Payload as payload
use Rattle.pages.specs.declared.store.PageStore as store
use Rattle.pagecache.specs.Cache.{Cache, Lends, Rests, IsRefused}
use Rattle.pagecache.specs.declared.fault.CacheFault.{CacheFault}
use Rattle.pagecache.specs.contracts.cache.PageCache.{the_row}

-- page n ends with the payload last written through r; a call that is refused changes none
abbrev pub LendsPage : (S : RattleType) → store.Ghosts S.Denot → MutBor Cache → ℕ
    → Result (MutBor Payload) CacheFault → Fml
LendsPage S g c n r =
    LendsSoOk (the_row S g) payload.the_row c r (λ new w. Lends n w c.now new)
    (λ new. IfErr r (λ e. Rests c.now new × IsRefused n e c.now new))

-- no page is changed
abbrev pub ShowsPage : (S : RattleType) → store.Ghosts S.Denot → MutBor Cache → ℕ
    → Result (Bor Payload) CacheFault → Fml
ShowsPage S g c n r =
    follows_so (the_row S g) (the_row S g) c.ghost_name none (λ _ _. ⊤)
    (λ new. Rests c.now new × IfErr r (λ e. IsRefused n e c.now new))
