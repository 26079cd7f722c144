-- Which relationships a walk goes along.
use Rattle.std.specs.Prelude.{ℕ, not, ◌==◌, ◌&&◌, ◌||◌, Bool, List, map}
use Rattle.std.specs.List.{filter, list_any}
use Rattle.sm_defs.specs.Relationship.{Relationship}
use Rattle.sm_defs.specs.World.{Up}
use Rattle.sm_defs.specs.Edges.{Edge, edge_of, is_edge, is_mirror_edge, leads}
use Rattle.oracle_world.specs.declared.values.PlainEdges.{PlainEdges}
use Rattle.oracle_world.specs.declared.values.PlainEdges.TheVariants.{All, AllBut, Mirrors}

-- the edges that a list of relationships has in the world
abbrev pub edges_among : PlainEdges → Up → List Relationship → List Edge
edges_among All w rs = map edge_of (filter (is_edge w) rs)
edges_among (AllBut number) w rs = map edge_of (filter (is_edge w) (filter (λ q. not (q.number == number.0)) rs))
edges_among Mirrors w rs = map edge_of (filter (is_mirror_edge w) rs)

-- the relationship is such an edge
abbrev pub is_walked : PlainEdges → Up → Relationship → Bool
is_walked All w r = is_edge w r
is_walked (AllBut number) w r = not (r.number == number.0) && is_edge w r
is_walked Mirrors w r = is_mirror_edge w r

-- an edge of these relationships begins a walk from u to v, of at most so many edges more
abbrev pub any_leads : PlainEdges → Up → ℕ → ℕ → ℕ → List Relationship → Bool
any_leads which w more u v rs = list_any (λ e. (e.from == u) && ((e.to == v) || leads (edges_among which w w.relations) more e.to v)) (edges_among which w rs)
