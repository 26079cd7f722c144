-- What the tables and the events of the report are answered. They leave the world.
use Rattle.std.specs.Prelude.{ℕ, suc, ◌==◌, List, [], ◌∷◌, map, length, slice_index_or, Option, Some, None, if◌then◌else◌}
use Rattle.sha2.specs.Sha256.{sha256}
use Rattle.sm_base.specs.declared.numbers.VolNo.{VolNo}
use Rattle.sm_base.specs.declared.numbers.RelNo.{RelNo}
use Rattle.sm_model.specs.declared.reply.Line.{Line}
use Rattle.sm_model.specs.declared.reply.Line.TheVariants as lines
use Rattle.sm_model.specs.declared.reply.Condition.{Condition}
use Rattle.sm_model.specs.declared.reply.Course.{Course}
use Rattle.sm_model.specs.declared.reply.Reply.TheVariants as replies
use Rattle.sm_defs.specs.Words.{Found, found}
use Rattle.sm_defs.specs.Image.{Image, image_bytes}
use Rattle.sm_defs.specs.Volume.{Volume, Snapshot, used}
use Rattle.sm_defs.specs.Relationship.{Policy, Relationship, Transfer}
use Rattle.sm_defs.specs.Edges.{mirror_state, status}
use Rattle.sm_defs.specs.World.{Up, volume_at, policy_at, relation_at}
use Rattle.sm_model.specs.Answers.{Answer, ◌>>=◌, ◌and◌, volume_named, volno, relno}

-- ---- lines

-- over all logical blocks in order, holes as zeros
abbrev pub digest : Image → List ℕ
digest image = sha256 (image_bytes image)

abbrev pub head_line : Up → Line
head_line w = lines.Head (length w.volumes) (length w.relations) (length w.policies) w.clock

abbrev pub volume_line : VolNo → Volume → Line
volume_line number v = lines.Volume number v.path v.kind v.logical v.physical (used v) (length v.snapshots)

abbrev pub active_line : VolNo → Volume → Line
active_line number v = lines.Active number (digest v.active)

abbrev pub snapshot_line : VolNo → Snapshot → Line
snapshot_line number s = lines.Snapshot number s.name s.ident s.label s.time s.maker (digest s.image)

abbrev pub listed_line : VolNo → Snapshot → Line
listed_line number s = lines.Listed number s.name s.ident s.label s.time s.maker

abbrev pub policy_line : Policy → Line
policy_line p = lines.Policy p.name p.kind p.rules

-- without a destination half there is none
abbrev pub condition : Up → Relationship → Option Condition
condition w r = if r.destination_half then Some (record { state = mirror_state (volume_at w r.destination); status = status r }) else None

abbrev pub course : Option Transfer → Option Course
course None = None
course (Some t) = Some (record { number = t.number; stopped = t.stopped })

abbrev pub relation_line : Up → Relationship → Line
relation_line w r = lines.Relationship (relno r.number) (volume_at w r.source).path (volume_at w r.destination).path (policy_at w r.policy).name
    (condition w r) r.base (course r.transfer)

-- ---- tables

-- the volumes from the i-th on
abbrev pub volume_lines : ℕ → List Volume → List Line
volume_lines i [] = []
volume_lines i (v ∷ vs) = volume_line (volno i) v ∷ volume_lines (suc i) vs

abbrev pub show_volumes : Up → Answer
show_volumes w = replies.Table (volume_lines 0 w.volumes) and w

abbrev pub show_snapshots : Up → List ℕ → Answer
show_snapshots w path = do
  v ← volume_named w path
  replies.Table (map (listed_line (volno v.at)) v.item.snapshots) and w

abbrev pub show_policies : Up → Answer
show_policies w = replies.Table (map policy_line w.policies) and w

abbrev pub show_relations : Up → Answer
show_relations w = replies.Table (map (relation_line w) w.relations) and w

-- ---- the report

-- what stands where no snapshot does
abbrev pub no_snapshot : Volume → Snapshot
no_snapshot v = record { ident = record { origin = 0; seq = 0 }; name = v.path; label = None; time = 0; maker = 0; image = v.active }

abbrev pub snapshot_at : Volume → ℕ → Snapshot
snapshot_at v k = slice_index_or v.snapshots k (no_snapshot v)

abbrev pub digest_line : VolNo → Volume → Option ℕ → Line
digest_line number v None = active_line number v
digest_line number v (Some k) = snapshot_line number (snapshot_at v k)

abbrev pub head : Up → Answer
head w = replies.Line (head_line w) and w

abbrev pub of_volume : Up → VolNo → Answer
of_volume w number = replies.Line (volume_line number (volume_at w number.0)) and w

abbrev pub of_image : Up → VolNo → Option ℕ → Answer
of_image w number place = replies.Line (digest_line number (volume_at w number.0) place) and w

-- the relationship of the number, where one stands
abbrev pub numbered : Up → RelNo → Relationship
numbered w number = found_or_none (found (λ r. r.number == number.0) w.relations)
  where
    found_or_none : Option (Found Relationship) → Relationship
    found_or_none None = relation_at w (length w.relations)
    found_or_none (Some f) = f.item

abbrev pub of_relation : Up → RelNo → Answer
of_relation w number = replies.Line (relation_line w (numbered w number)) and w
