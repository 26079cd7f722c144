use Rattle.std.proofs.Common.{◌∷◌, ℕ, List, take}
use Rattle.sm_shape.specs.Marks.{IsTableOf}
use Rattle.sm_shape.proofs.marks.take_map.Given as goal

abbrev pub invariant-loop-place : goal.invariant-loop-place
invariant-loop-place l = (most : ℕ) (maps : List (List ℕ)) → IsTableOf most l.fn.table maps → IsTableOf most l.table (take l.place l.map ∷ maps)
