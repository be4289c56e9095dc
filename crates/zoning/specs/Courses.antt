-- What the stays of a leg in a zone tell of its course.
use Rattle.std.specs.Prelude.{Bool, true, false, ◌&&◌, List, [], ◌∷◌}
use Rattle.visiting.specs.declared.ends.End.{End}
use Rattle.visiting.specs.declared.ends.End.TheVariants.{Leg, Period, Edge}
use Rattle.zoning.specs.declared.stay.Stay.{Stay}

-- whether an end is the leg's or the period's, and no edge of the zone
abbrev pub is_own : End → Bool
is_own Leg = true
is_own Period = true
is_own Edge = false

-- whether the stay begins at the leg's first moment in the period
abbrev pub holds_first : Stay → Bool
holds_first stay = is_own stay.enters_by

-- whether it ends at the last
abbrev pub holds_last : Stay → Bool
holds_last stay = is_own stay.leaves_by

-- whether it is all of the leg in the period
abbrev pub is_whole : Stay → Bool
is_whole stay = holds_first stay && holds_last stay

-- whether there is a stay
abbrev pub has_some : List Stay → Bool
has_some [] = false
has_some (stay ∷ stays) = true
