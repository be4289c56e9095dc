use Rattle.zone_windows.proofs.near.Window.holds.Goals as goal

pub returns-then-holds_across : goal.returns-then-holds_across
returns-then-holds_across c = λ h.
    let across = c.holds_across.ensures c.if-holds_across.true in
    let upright = c.holds_upright.ensures h in
    record { left = across.0; right = across.1; low = upright.0; high = upright.1 }
