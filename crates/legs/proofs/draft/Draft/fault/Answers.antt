use Rattle.std.proofs.Common.{ap, sym, ◌∙◌, ◌+◌, ◌-◌, ◌^◌, ℕ, min}
use Rattle.legs.specs.FirstFault.{first_code}
use Rattle.legs.proofs.DraftLemmas.{faults-first, faults-second, faults-third, faults-none, first_fault, second_fault, no_second_fault, third_fault, no_third_fault, legs_counted, names_counted, new_count-is}
use Rattle.legs.proofs.draft.Draft.fault.Goals as goal

pub returns-then-starts_before_end-clause-first : goal.returns-then-starts_before_end-clause-first
returns-then-starts_before_end-clause-first c = λ book draft latest.
    let limits = c.args.limits.now in
    let r = c.args.record.now in
    sym (ap first_code (faults-first limits book r (first_fault limits book r _ _ latest c.starts_before_end.ensures ∙ c.if-starts_before_end.true)).1)

pub returns-then-legs-clause-first : goal.returns-then-legs-clause-first
returns-then-legs-clause-first c = λ book draft latest.
    let limits = c.args.limits.now in
    let r = c.args.record.now in
    let one = first_fault limits book r _ _ latest c.starts_before_end.ensures ∙ c.if-starts_before_end.false in
    let all = legs_counted c.args.self.now book r _ draft (c.saturating_add-legs.ensures ∙ ap (λ (n : ℕ). min (c.args.self.now.legs + n) (2 ^ 64 - 1)) c.leg_count.ensures.count) in
    sym (ap first_code (faults-second limits book r one (second_fault limits book r _ all (rw (c.legs.ensures.value) at c.if-legs.true))).1)

pub returns-then-features-from-clause-first : goal.returns-then-features-from-clause-first
returns-then-features-from-clause-first c = λ book draft latest.
    let limits = c.args.limits.now in
    let r = c.args.record.now in
    let one = first_fault limits book r _ _ latest c.starts_before_end.ensures ∙ c.if-starts_before_end.false in
    let all = legs_counted c.args.self.now book r _ draft (c.saturating_add-legs.ensures ∙ ap (λ (n : ℕ). min (c.args.self.now.legs + n) (2 ^ 64 - 1)) c.leg_count.ensures.count) in
    let two = no_second_fault limits book r _ c.legs.ensures.limits all (rw (c.legs.ensures.value) at c.if-legs.false) in
    let new = new_count-is c.args.latest c.is_none.result c.from.result c.is_none.ensures c.from.ensures in
    let features = names_counted c.args.self.now book r c.args.latest _ draft latest (c.saturating_add-features.ensures ∙ ap (λ (n : ℕ). min (c.args.self.now.features + n) (2 ^ 64 - 1)) new) in
    sym (ap first_code (faults-third limits book r one two (third_fault limits book r _ features (rw (c.from-2.ensures, c.features.ensures.value) at c.if-features-from.true))).1)

pub returns-clause-first : goal.returns-clause-first
returns-clause-first c = λ book draft latest.
    let limits = c.args.limits.now in
    let r = c.args.record.now in
    let one = first_fault limits book r _ _ latest c.starts_before_end.ensures ∙ c.if-starts_before_end.false in
    let all = legs_counted c.args.self.now book r _ draft (c.saturating_add-legs.ensures ∙ ap (λ (n : ℕ). min (c.args.self.now.legs + n) (2 ^ 64 - 1)) c.leg_count.ensures.count) in
    let two = no_second_fault limits book r _ c.legs.ensures.limits all (rw (c.legs.ensures.value) at c.if-legs.false) in
    let new = new_count-is c.args.latest c.is_none.result c.from.result c.is_none.ensures c.from.ensures in
    let features = names_counted c.args.self.now book r c.args.latest _ draft latest (c.saturating_add-features.ensures ∙ ap (λ (n : ℕ). min (c.args.self.now.features + n) (2 ^ 64 - 1)) new) in
    let three = no_third_fault limits book r _ c.features.ensures.limits features (rw (c.from-2.ensures, c.features.ensures.value) at c.if-features-from.false) in
    sym (ap first_code (faults-none limits book r one two three))
