-- Helpers of private functions: a position on the way, coordinate by coordinate: what the private steps of reading say.
use Rattle.std.specs.Prelude.{Bool, true, false, ℤ, pos}
use Rattle.mfcsv.specs.declared.Dimension.{Dimension}
use Rattle.mfcsv.specs.declared.Dimension.TheVariants.{Two, Three}
use Rattle.mfcsv.specs.declared.data_record.Placed.{Placed}
use Rattle.mfcsv.specs.declared.data_record.Placed.TheVariants.{Part, Whole}
use Rattle.mfcsv.specs.declared.data_record.Waiting.{Waiting}
use Rattle.mfcsv.specs.declared.data_record.Waiting.TheVariants.{Nothing, X, XAndY}

-- what a coordinate makes of those before it
abbrev pub placed : Dimension → Waiting → ℤ → Placed
placed dimension Nothing c = Part (X c)
placed Two (X x) c = Whole (record { x = x; y = c; z = pos 0 })
placed Three (X x) c = Part (XAndY x c)
placed dimension (XAndY x y) c = Whole (record { x = x; y = y; z = c })

-- whether coordinates wait for others
abbrev pub waits : Waiting → Bool
waits Nothing = false
waits (X x) = true
waits (XAndY x y) = true
