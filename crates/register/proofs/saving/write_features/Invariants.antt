use Rattle.std.proofs.Common.{◌++◌, Ok, All, map}
use Rattle.std.specs.List.{flat_map, range_with_len}
use Rattle.byteorder.specs.Endian.{big_bytes}
use Rattle.register.specs.Saving.{feature_at, Puts}
use Rattle.register.specs.Text.{feature_text, IsFeature}
use Rattle.register.proofs.saving.write_features.Given as goal

-- the number, and the features so far
abbrev pub invariant-loop-feature : goal.invariant-loop-feature
invariant-loop-feature g l =
    let features = map (feature_at l.fn.tracks l.fn.places) (range_with_len 0 l.feature) in
    Puts (big_bytes 4 l.fn.count ++ flat_map feature_text features) (Unit {0}) (All IsFeature features) l.fn.cache l.cache l.fn.writer l.writer (Ok tt)
