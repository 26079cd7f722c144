-- The lines of tables.
use Rattle.std.proofs.Common.{◌≡◌, ℕ, zero, suc, ◌≤◌, List, [], ◌∷◌, ◌++◌, map, length, drop, append_assoc, refl, sym, ap, ◌∙◌, Some, Result, Ok, Err, IfOk, Vec}
use Rattle.std.specs.Prelude.{slice_get}
use Rattle.std.proofs.lemmas.List.{append-nil}
use Rattle.std.proofs.Math.ListN.{drop_of_length-le}
use Rattle.std.specs.Global.{Global}
use Rattle.sm_base.specs.declared.faults.NoMemory.{NoMemory}
use Rattle.sm_base.specs.declared.numbers.VolNo.{VolNo}
use Rattle.sm_root.specs.declared.root.RootSnapshot.{RootSnapshot}
use Rattle.sm_defs.specs.Volume.{Snapshot}
use Rattle.sm_catroot.specs.declared.placed.Placed.{Placed}
use Rattle.sm_model.specs.declared.reply.Line.{Line}
use Rattle.sm_model.specs.Answers.{volno}
use Rattle.sm_model.specs.OfReport.{listed_line, volume_line, volume_lines}
use Rattle.sm_volume.specs.Seen.{kept_snapshot}
use Rattle.sm_node.specs.Seats.{Seated}
use Rattle.sm_node.specs.Nodes.{placed, all_placed}
use Rattle.sm_node.specs.Showing.{listed}

pub listed_kept : (number : VolNo) (ss : List Snapshot) → map (listed number) (map kept_snapshot ss) ≡ map (listed_line number) ss
listed_kept number [] = refl
listed_kept number (s ∷ ss) = ap (λ ls. listed_line number s ∷ ls) (listed_kept number ss)

-- what is left of the table begins with the line of the volume at the place
left_at : {D : Type 0} (n at : ℕ) (ps : List Placed) (seats : List (Seated D)) (p : Placed) (s : Seated D) → slice_get ps at ≡ Some p → slice_get seats at ≡ Some s
    → volume_lines n (all_placed (drop at ps) (drop at seats)) ≡ volume_line (volno n) (placed p s.volume) ∷ volume_lines (suc n) (all_placed (drop (suc at) ps) (drop (suc at) seats))
unfolding all_placed
left_at n at [] seats p s e f = absurd (cc)
left_at n zero (q ∷ ps) [] p s e f = absurd (cc)
left_at n (suc at) (q ∷ ps) [] p s e f = absurd (cc)
left_at n zero (q ∷ ps) (t ∷ seats) p s e f = let same_p : q ≡ p = cc in let same_s : t ≡ s = cc in rw (same_p, same_s) refl
left_at n (suc at) (q ∷ ps) (t ∷ seats) p s e f = left_at n at ps seats p s e f

-- one line more
pub table_more : {D : Type 0} (at next : ℕ) (ps : List Placed) (seats : List (Seated D)) (p : Placed) (s : Seated D) (before more all : List Line) → next ≡ suc at → slice_get ps at ≡ Some p → slice_get seats at ≡ Some s
    → before ++ volume_lines at (all_placed (drop at ps) (drop at seats)) ≡ all → more ≡ before ++ volume_line (volno at) (placed p s.volume) ∷ []
    → more ++ volume_lines next (all_placed (drop next ps) (drop next seats)) ≡ all
table_more at next ps seats p s before more all is e f so_far pushed =
    let rest = volume_lines (suc at) (all_placed (drop (suc at) ps) (drop (suc at) seats)) in
    ap (λ (n : ℕ). more ++ volume_lines n (all_placed (drop n ps) (drop n seats))) is
    ∙ ap (λ ls. ls ++ rest) pushed
    ∙ append_assoc before (volume_line (volno at) (placed p s.volume) ∷ []) rest
    ∙ ap (λ ls. before ++ ls) (sym (left_at at at ps seats p s e f))
    ∙ so_far

-- no line is left
pub table_ends : {D : Type 0} (at : ℕ) (ps : List Placed) (seats : List (Seated D)) (before all : List Line) → length ps ≤ at → before ++ volume_lines at (all_placed (drop at ps) (drop at seats)) ≡ all → before ≡ all
unfolding all_placed
table_ends at ps seats before all h e =
    let none : drop at ps ≡ [] = drop_of_length-le ps h in
    sym (append-nil before) ∙ ap (λ (qs : List Placed). before ++ volume_lines at (all_placed qs (drop at seats))) (sym none) ∙ e

pub ok_kept : (number : VolNo) (ss : List Snapshot) (rs : List RootSnapshot) (r : Result (Vec Line Global) NoMemory) → rs ≡ map kept_snapshot ss → IfOk r (λ lines. lines.items ≡ map (listed number) rs) → IfOk r (λ lines. lines.items ≡ map (listed_line number) ss)
ok_kept number ss rs (Ok lines) e h = h ∙ ap (map (listed number)) e ∙ listed_kept number ss
ok_kept number ss rs (Err f) e h = tt
