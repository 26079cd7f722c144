-- Tables and lines of the report that tell no digest, where blocks are read as zeros.
use Rattle.std.proofs.Common.{◌≡◌, ℕ, suc, if◌then◌else◌, List, [], ◌∷◌, length, map, None, Some, refl, ap, ◌∙◌}
use Rattle.std.proofs.lemmas.List.{length-map}
use mathlib.Core.List.{map-map}
use mathlib.Core.Path.{fun_ext}
use Rattle.sm_base.specs.declared.numbers.VolNo.{VolNo}
use Rattle.sm_base.specs.declared.numbers.RelNo.{RelNo}
use Rattle.sm_model.specs.declared.reply.Line.TheVariants as lines
use Rattle.sm_model.specs.declared.reply.Condition.{Condition}
use Rattle.sm_model.specs.declared.reply.Reply.TheVariants as replies
use Rattle.sm_defs.specs.Volume.{Volume}
use Rattle.sm_defs.specs.Relationship.{Relationship}
use Rattle.sm_defs.specs.Edges.{status}
use Rattle.sm_defs.specs.World.{Up, volume_at, policy_at}
use Rattle.sm_model.specs.Answers.{told, volno, relno}
use Rattle.sm_model.specs.OfReport.{head_line, volume_line, listed_line, condition, course, relation_line, volume_lines, show_volumes, show_snapshots, show_policies, show_relations, head, of_volume, numbered, of_relation}
use Rattle.sm_shape.specs.Blanked.{zeroed_snapshot, zeroed_volume, blanked}
use Rattle.laws_blank.specs.Blanking.{blanked_reached, blanked_answer}
use Rattle.laws_blank.proofs.Mapped.{on}
use Rattle.laws_blank.proofs.Results.{finds, ends}
use Rattle.laws_blank.proofs.Zeroed.{zeroed_used, at_blanked, state_blanked}
use Rattle.laws_blank.proofs.OfVolumes.{volume_named_blanked}

volume_line_zeroed : (number : VolNo) (v : Volume) → volume_line number (zeroed_volume v) ≡ volume_line number v
volume_line_zeroed number v = λ t. lines.Volume number v.path v.kind v.logical v.physical (zeroed_used v t) (length-map v.snapshots zeroed_snapshot t)

volume_lines_zeroed : (i : ℕ) (vs : List Volume) → volume_lines i (map zeroed_volume vs) ≡ volume_lines i vs
volume_lines_zeroed i [] = refl
volume_lines_zeroed i (v ∷ vs) = λ t. volume_line_zeroed (volno i) v t ∷ volume_lines_zeroed (suc i) vs t

pub show_volumes_blanked : (w : Up) → show_volumes (blanked w) ≡ blanked_answer (show_volumes w)
show_volumes_blanked w = ends (told (replies.Table (volume_lines 0 w.volumes))) _ w (blanked w) (ap (λ ls. told (replies.Table ls)) (volume_lines_zeroed 0 w.volumes)) refl

pub show_snapshots_blanked : (w : Up) (path : List ℕ) → show_snapshots (blanked w) path ≡ blanked_answer (show_snapshots w path)
show_snapshots_blanked w path =
    finds blanked_reached (on zeroed_volume) _ _ _ _ (volume_named_blanked w path) (λ v.
    ends (told (replies.Table (map (listed_line (volno v.at)) v.item.snapshots))) _ w (blanked w) (ap (λ ls. told (replies.Table ls)) (map-map (listed_line (volno v.at)) zeroed_snapshot v.item.snapshots)) refl)

pub show_policies_blanked : (w : Up) → show_policies (blanked w) ≡ blanked_answer (show_policies w)
show_policies_blanked w = refl

condition_blanked : (w : Up) (r : Relationship) → condition (blanked w) r ≡ condition w r
condition_blanked w r = ap (λ s. if r.destination_half then Some (let c : Condition = record { state = s; status = status r } in c) else None) (state_blanked w r.destination)

relation_line_blanked : (w : Up) (r : Relationship) → relation_line (blanked w) r ≡ relation_line w r
relation_line_blanked w r =
    λ t. lines.Relationship (relno r.number) (at_blanked w r.source t).path (at_blanked w r.destination t).path (policy_at w r.policy).name (condition_blanked w r t) r.base (course r.transfer)

pub show_relations_blanked : (w : Up) → show_relations (blanked w) ≡ blanked_answer (show_relations w)
show_relations_blanked w = ends (told (replies.Table (map (relation_line w) w.relations))) _ w (blanked w) (λ t. told (replies.Table (map (fun_ext (relation_line_blanked w) t) w.relations))) refl

pub head_blanked : (w : Up) → head (blanked w) ≡ blanked_answer (head w)
head_blanked w =
    ends (told (replies.Line (head_line w))) _ w (blanked w) (ap (λ n. told (replies.Line (lines.Head n (length w.relations) (length w.policies) w.clock))) (length-map w.volumes zeroed_volume)) refl

pub of_volume_blanked : (w : Up) (number : VolNo) → of_volume (blanked w) number ≡ blanked_answer (of_volume w number)
of_volume_blanked w number =
    ends (told (replies.Line (volume_line number (volume_at w number.0)))) _ w (blanked w)
    (ap (λ v. told (replies.Line (volume_line number v))) (at_blanked w number.0) ∙ ap (λ l. told (replies.Line l)) (volume_line_zeroed number (volume_at w number.0))) refl

pub of_relation_blanked : (w : Up) (number : RelNo) → of_relation (blanked w) number ≡ blanked_answer (of_relation w number)
of_relation_blanked w number =
    ends (told (replies.Line (relation_line w (numbered w number)))) _ w (blanked w) (ap (λ l. told (replies.Line l)) (relation_line_blanked w (numbered w number))) refl
