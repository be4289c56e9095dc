-- What contracts see of an output, and what a call shows of it.
use Rattle.std.specs.Prelude.{ℕ, ◌≡◌, Bool, IsTrue, List, Option}
use Rattle.pages.specs.Store.{HasRisen}

-- the bytes that it took, where it tells them, how often it refused a call, and whether it was flushed since it was sent
-- bytes last
pub record OutputView : Type 0 where
  pub contents : Option (List ℕ)
  pub refusals : ℕ
  pub is_flushed : Bool

-- it refused a call
abbrev pub HasRefused : OutputView → OutputView → Type 0
HasRefused old new = HasRisen old.refusals new.refusals

-- it refused none, and was flushed since it was sent bytes last
pub record IsFlushed (old new : OutputView) : Type 0 where
  pub refuses_none : new.refusals ≡ old.refusals
  pub flushed : IsTrue new.is_flushed
