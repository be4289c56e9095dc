-- The faults of a run, and of a new database, and the codes of a file's refusal.
use Rattle.std.specs.Prelude.{ℕ, List, Result, Ok, Err}
use Rattle.mfcsv.specs.CodeText.{code_text}
use Rattle.legs.specs.CodeText.{join_code_text}
use Rattle.legs.specs.declared.index.IndexFault.{IndexFault}
use Rattle.legs.specs.declared.index.IndexFault.TheVariants as index
use Rattle.pagecache.specs.declared.fault.CacheFault.{CacheFault}
use Rattle.pagecache.specs.declared.fault.CacheFault.TheVariants as cache
use Rattle.register.specs.declared.fault.CatalogueFault.{CatalogueFault}
use Rattle.register.specs.declared.fault.CatalogueFault.TheVariants as catalogue
use Rattle.trajdb.specs.declared.FileCode.{FileCode}
use Rattle.trajdb.specs.declared.FileCode.TheVariants.{Text, Join}
use Rattle.trajdb.specs.declared.RunFault.{RunFault}
use Rattle.trajdb.specs.declared.RunFault.TheVariants.{Memory, Store, Damaged, StoreFull, Failed, Output}

-- what a fault of the index is to a run
abbrev pub run_fault_of : IndexFault → RunFault
run_fault_of index.Memory = Memory
run_fault_of index.Store = Store
run_fault_of (index.Damaged page) = Damaged page
run_fault_of index.StoreFull = StoreFull
run_fault_of index.Spent = Failed

-- a fault that is not the output's
abbrev pub IsNotOutput : RunFault → Type 0
IsNotOutput Output = ⊥
IsNotOutput _ = Unit {0}

-- what a fault of the cache is to a new database
abbrev pub open_fault_of : CacheFault → CatalogueFault
open_fault_of cache.NoPage = catalogue.Damaged 0
open_fault_of cache.Store = catalogue.Store
open_fault_of (cache.Damaged page) = catalogue.Damaged page
open_fault_of cache.StoreFull = catalogue.StoreFull
open_fault_of cache.Memory = catalogue.Memory

-- what a fault of the catalogue is to a database that is closed
abbrev pub closed_fault_of : CatalogueFault → RunFault
closed_fault_of catalogue.Memory = Memory
closed_fault_of catalogue.Store = Store
closed_fault_of catalogue.StoreFull = StoreFull
closed_fault_of (catalogue.Damaged page) = Damaged page
closed_fault_of _ = Damaged 0

-- what closing a database returns, by what closing its catalogue returned
abbrev pub closed_answer : Result (Unit {0}) CatalogueFault → Result (Unit {0}) RunFault
closed_answer (Ok x) = Ok x
closed_answer (Err fault) = Err (closed_fault_of fault)

-- the printed code of a file's refusal, for its text or for joining it
abbrev pub file_code : FileCode → List ℕ
file_code (Text code) = code_text code
file_code (Join code) = join_code_text code
