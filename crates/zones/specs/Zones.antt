-- What is in a zone: a list of rings, outer ones and holes alike.
use Rattle.std.specs.Prelude.{Bool, false, ◌||◌, List, [], ◌∷◌, ◌++◌}
use Rattle.zones.specs.Places.{Corner, Edge, Point}
use Rattle.zones.specs.Edges.{is_on_edge, is_crossed, either}

-- the edges from a corner to the first of others, and on from each of them to the next
abbrev pub edges_after : Corner → List Corner → List Edge
edges_after from [] = []
edges_after from (to ∷ rest) = record { from = from; to = to } ∷ edges_after to rest

-- the last of a corner and others
abbrev pub last_after : Corner → List Corner → Corner
last_after corner [] = corner
last_after corner (next ∷ rest) = last_after next rest

-- the edges of a ring: from its last corner to the first, and on to the last
abbrev pub edges : List Corner → List Edge
edges [] = []
edges (first ∷ rest) = edges_after (last_after first rest) (first ∷ rest)

-- the edges of all rings
abbrev pub zone_edges : List (List Corner) → List Edge
zone_edges [] = []
zone_edges (ring ∷ rings) = edges ring ++ zone_edges rings

-- the point is on some of the edges
abbrev pub is_on_some : List Edge → Point → Bool
is_on_some [] p = false
is_on_some (e ∷ es) p = is_on_edge e p || is_on_some es p

-- the ray from the point to greater x crosses an odd number of the edges
abbrev pub is_odd : List Edge → Point → Bool
is_odd [] p = false
is_odd (e ∷ es) p = either (is_crossed e p) (is_odd es p)

-- the point is in the zone: on an edge, or with an odd number of edges to its right
unfoldable pub in_zone : List (List Corner) → Point → Bool
in_zone rings p = is_on_some (zone_edges rings) p || is_odd (zone_edges rings) p
