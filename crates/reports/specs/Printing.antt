-- Why numbers are not printed.
use Rattle.trajdb.specs.declared.RunFault.{RunFault}
use Rattle.trajdb.specs.declared.RunFault.TheVariants.{Memory, Store, Damaged, StoreFull, Failed, Output}

-- why numbers, all of which can be printed where P holds, were not: memory ran out, or P does not hold, and it says `Failed`
abbrev pub IsPrintFault : Type 0 → RunFault → Type 0
IsPrintFault P Memory = Unit {0}
IsPrintFault P Store = ⊥
IsPrintFault P (Damaged page) = ⊥
IsPrintFault P StoreFull = ⊥
IsPrintFault P Failed = P → ⊥
IsPrintFault P Output = ⊥
