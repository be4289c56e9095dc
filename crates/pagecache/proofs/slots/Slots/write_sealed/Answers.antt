use Rattle.std.proofs.Common.{◌≡◌, rules, refl, sym, ◌∙◌, nat_eq, ap, subst, Some, IfSome}
use Rattle.std.specs.Box.{box_value}
use Rattle.std.specs.Option.{option_map}
use Rattle.pages.specs.Unsealed.{unsealed}
use Rattle.pagecache.specs.declared.slots.Held.{Held}
use Rattle.pagecache.proofs.MemoryLemmas.{memory_set}
use Rattle.std.proofs.lemmas.Map.{keys-set_value}
use Rattle.pagecache.proofs.CacheLemmas.{written, torn, writes_none, reordered_step, store_rests, is_some_of, is_changed-some, is_changed-none}
use Rattle.pagecache.proofs.HeldLemmas.{lookup-set, lookup-set_here, same_held}
use Rattle.pagecache.proofs.slots.Slots.write_sealed.Goals as goal

pub returns-in_err-write-in-Some-clause-writes : goal.returns-in_err-write-in-Some-clause-writes
returns-in_err-write-in-Some-clause-writes g c =
    let here = sym c.in-Some.ensures.value in
    record {
      steps = torn _ _ c.args.number c.in-Some.held.now c.requires.sound (g.met.S.PageStore.lawful c.args.self.now.store) here c.if-held.true
          c.in_err-write-in-Some.ensures.torn c.in_err-write-in-Some.ensures.torn_unsynced (λ m. same_held c.args.number m c.args.self.now.held.entries c.in-Some.held.now here) refl refl refl;
      keys = keys-set_value (nat_eq c.args.number) c.args.self.now.held.entries _;
      cause = search rules;
    }

pub returns-in-None-clause-writes : goal.returns-in-None-clause-writes
returns-in-None-clause-writes g c = writes_none _ c.requires.sound

pub returns-in-None-clause-written : goal.returns-in-None-clause-written
returns-in-None-clause-written g c = is_changed-none _ c.args.number (sym c.in-None.ensures.value)

pub returns-in_ok-write-in-Some-clause-writes : goal.returns-in_ok-write-in-Some-clause-writes
returns-in_ok-write-in-Some-clause-writes g c =
    let here = sym c.in-Some.ensures.value in
    record {
      steps = written _ _ c.args.number _ c.in-Some.held.now _ c.requires.sound (g.met.S.PageStore.lawful c.args.self.now.store) here c.if-held.true refl refl
          (subst (λ o. IfSome (option_map (λ (h : Held). box_value h.payload) o) (λ p. unsealed c.args.number c.args.page.now ≡ Some p)) here c.requires.seals) c.in_ok-write-in-Some.ensures.written c.in_ok-write-in-Some.ensures.unsynced
          (λ m. lookup-set c.args.number m c.args.self.now.held.entries _ (is_some_of _ _ here)) refl refl refl;
      keys = keys-set_value (nat_eq c.args.number) c.args.self.now.held.entries _;
      cause = tt;
    }

pub returns-in_ok-write-in-Some-clause-written : goal.returns-in_ok-write-in-Some-clause-written
returns-in_ok-write-in-Some-clause-written g c =
    is_changed-some _ c.args.number _ (lookup-set_here c.args.number c.args.self.now.held.entries _ (is_some_of _ _ (sym c.in-Some.ensures.value)))

pub returns-else-held-clause-writes : goal.returns-else-held-clause-writes
returns-else-held-clause-writes g c =
    record {
      steps = reordered_step _ _ c.requires.sound (store_rests (g.S.PageStore.seen c.args.self.now.store)) (λ m. same_held c.args.number m c.args.self.now.held.entries c.in-Some.held.now (sym c.in-Some.ensures.value)) refl refl refl;
      keys = keys-set_value (nat_eq c.args.number) c.args.self.now.held.entries _;
      cause = tt;
    }

pub returns-else-held-clause-written : goal.returns-else-held-clause-written
returns-else-held-clause-written g c =
    is_changed-some _ c.args.number c.in-Some.held.now (same_held c.args.number c.args.number c.args.self.now.held.entries c.in-Some.held.now (sym c.in-Some.ensures.value) ∙ sym c.in-Some.ensures.value) ∙ c.if-held.false

pub returns-in_err-write-in-Some-clause-memory : goal.returns-in_err-write-in-Some-clause-memory
returns-in_err-write-in-Some-clause-memory g c = λ m. ap (option_map (λ (h : Held). box_value h.payload)) (same_held c.args.number m c.args.self.now.held.entries c.in-Some.held.now (sym c.in-Some.ensures.value))

pub returns-in_ok-write-in-Some-clause-memory : goal.returns-in_ok-write-in-Some-clause-memory
returns-in_ok-write-in-Some-clause-memory g c =
    let here = sym c.in-Some.ensures.value in
    memory_set c.args.self.now.held.entries _ c.args.number c.in-Some.held.now _ here refl (λ m. lookup-set c.args.number m c.args.self.now.held.entries _ (is_some_of _ _ here))

pub returns-else-held-clause-memory : goal.returns-else-held-clause-memory
returns-else-held-clause-memory g c = λ m. ap (option_map (λ (h : Held). box_value h.payload)) (same_held c.args.number m c.args.self.now.held.entries c.in-Some.held.now (sym c.in-Some.ensures.value))
