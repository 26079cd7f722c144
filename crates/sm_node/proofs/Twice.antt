-- Which memory the reply of an event owns.
use Rattle.std.proofs.Common.{◌≡◌, ℕ, Bool, true, false, nat_lt, List, length, Option, Some, None, Ok, Err, Result, refl, sym, ap, subst}
use Rattle.std.specs.Prelude.{◌==◌, ◌||◌, slice_get}
use Rattle.std.specs.List.{list_any}
use Rattle.std.specs.Str.{bytes_eq}
use Rattle.sm_base.specs.declared.limits.TheConstants.{MOST_VOLUMES, MOST_SNAPSHOTS, LAST_NUMBER}
use Rattle.sm_base.specs.declared.numbers.DiskNo.{DiskNo}
use Rattle.sm_base.specs.declared.numbers.Kind.{Kind}
use Rattle.sm_base.specs.declared.refusal.What.TheVariants.{Volumes}
use Rattle.sm_base.specs.declared.refusal.Refusal.{Refusal}
use Rattle.sm_base.specs.declared.refusal.Refusal.TheVariants as refusals
use Rattle.sm_disk.specs.Disk.{DiskState}
use Rattle.sm_defs.specs.Words.{Found, found, last_that}
use Rattle.sm_defs.specs.Volume.{Volume, Snapshot, new_volume, length_needed}
use Rattle.sm_defs.specs.Relationship.{Relationship}
use Rattle.sm_defs.specs.Needed.{holder}
use Rattle.sm_defs.specs.Operations.{settled, is_read_only, is_past, is_used_up, has_name}
use Rattle.sm_defs.specs.World.{Up, with_volume}
use Rattle.sm_model.specs.declared.reply.Reply.{Reply}
use Rattle.sm_model.specs.declared.reply.Reply.TheVariants as replies
use Rattle.sm_model.specs.Answers.{Answer, and_then, refused_if, some_or, shows, volno, relno, ◌when◌, ◌>>=◌, ◌>>◌, ◌and◌}
use Rattle.sm_model.specs.OfPolicies as policies
use Rattle.sm_model.specs.OfVolumes as answers
use Rattle.sm_node.specs.declared.fault.NodeFault.{NodeFault}
use Rattle.sm_node.specs.declared.fault.NodeFault.TheVariants.{NoMemory as OutOfMemory}
use Rattle.sm_node.specs.Nodes.{Node}
use Rattle.sm_node.specs.Parts.{StandsUp}
use Rattle.sm_node.specs.ButBytes.{IsRepliedButBytes}
use Rattle.sm_node.specs.Acts.{Acts}
use Rattle.sm_node.specs.Served.{IsSpared, IsSparedOrBytes, first_of}
use Rattle.sm_node.proofs.Events.{none_starved}

-- ---- one step of an answer

told_is : (path name : Option (List ℕ)) (r reply : Reply) → IsSpared path name r → reply ≡ r → IsSpared path name reply
told_is path name r reply s e = subst (λ (x : Reply). IsSpared path name x) (sym e) s

unless : (path name : Option (List ℕ)) (b : Bool) (g : Refusal) (a : Answer) (reply : Reply) → IsSpared path name (replies.Refused g) → (IsRepliedButBytes a reply → IsSpared path name reply) → IsRepliedButBytes (and_then (refused_if b g) (λ _. a)) reply → IsSpared path name reply
unfolding and_then refused_if
unless path name true g a reply s rest h = told_is path name (replies.Refused g) reply s h
unless path name false g a reply s rest h = rest h

-- the volume of the path
on_volume : (path : List ℕ) (name : Option (List ℕ)) (o : Option (Found Volume)) (f : Found Volume → Answer) (reply : Reply) → ((v : Found Volume) → IsRepliedButBytes (f v) reply → IsSpared (Some path) name reply) → IsRepliedButBytes (and_then (some_or (refusals.NoVolume path) o) f) reply → IsSpared (Some path) name reply
unfolding and_then some_or
on_volume path name None f reply rest h = told_is (Some path) name (replies.Refused (refusals.NoVolume path)) reply refl h
on_volume path name (Some v) f reply rest h = rest v h

-- the snapshot of the name
on_snapshot : (path : Option (List ℕ)) (name : List ℕ) (o : Option Snapshot) (f : Snapshot → Answer) (reply : Reply) → ((s : Snapshot) → IsRepliedButBytes (f s) reply → IsSpared path (Some name) reply) → IsRepliedButBytes (and_then (some_or (refusals.NoSnapshot name) o) f) reply → IsSpared path (Some name) reply
unfolding and_then some_or
on_snapshot path name None f reply rest h = told_is path (Some name) (replies.Refused (refusals.NoSnapshot name)) reply refl h
on_snapshot path name (Some s) f reply rest h = rest s h

-- the length of a disk
on_disk : (disk : DiskNo) (o : Option ℕ) (f : ℕ → Answer) (reply : Reply) → ((len : ℕ) → IsRepliedButBytes (f len) reply → IsSpared None None reply) → IsRepliedButBytes (and_then (some_or (refusals.NoDisk disk) o) f) reply → IsSpared None None reply
unfolding and_then some_or
on_disk disk None f reply rest h = told_is None None (replies.Refused (refusals.NoDisk disk)) reply tt h
on_disk disk (Some len) f reply rest h = rest len h

unless_held : (path name : Option (List ℕ)) (o : Option Relationship) (a : Answer) (reply : Reply) → (IsRepliedButBytes a reply → IsSpared path name reply) → IsRepliedButBytes (and_then (answers.held o) (λ _. a)) reply → IsSpared path name reply
unfolding and_then answers.held
unless_held path name None a reply rest h = rest h
unless_held path name (Some r) a reply rest h = told_is path name (replies.Refused (refusals.Held (relno r.number))) reply tt h

-- ---- each event

pub clock_spared : (w : Up) (time : ℕ) (reply : Reply) → IsRepliedButBytes (policies.set_clock w time) reply → IsSpared None None reply
clock_spared w time reply h = unless None None (nat_lt time w.clock) (refusals.ClockBack w.clock) (replies.Done and policies.at_time w time) reply tt (told_is None None replies.Done reply tt) h

pub create_spared : (w : Up) (path : List ℕ) (disk : DiskNo) (kind : Kind) (logical physical : ℕ) (reply : Reply) → IsRepliedButBytes (answers.create_volume w path disk kind logical physical) reply → IsSpared None None reply
create_spared w path disk kind logical physical reply h =
    let need = length_needed physical in
    let done : Answer = replies.Created (volno (length w.volumes)) and answers.with_new_volume w (new_volume path disk.0 kind (length w.volumes) logical physical) in
    let long : ℕ → Answer = λ len. (refusals.DiskSmall need len when nat_lt len need) >> done in
    let few : ℕ → Answer = λ len. (refusals.Full Volumes when length w.volumes == MOST_VOLUMES) >> long len in
    let free : ℕ → Answer = λ len. (refusals.DiskTaken when list_any (λ (v : Volume). v.disk == disk.0) w.volumes) >> few len in
    let there : Answer = some_or (refusals.NoDisk disk) (slice_get w.disks disk.0) >>= free in
    unless None None (list_any (λ (v : Volume). bytes_eq v.path path) w.volumes) refusals.NameTaken ((refusals.NoDisk disk when disk.0 == 0) >> there) reply tt
    (unless None None (disk.0 == 0) (refusals.NoDisk disk) there reply tt
    (on_disk disk (slice_get w.disks disk.0) free reply
    (λ len. unless None None (list_any (λ (v : Volume). v.disk == disk.0) w.volumes) refusals.DiskTaken (few len) reply tt
    (unless None None (length w.volumes == MOST_VOLUMES) (refusals.Full Volumes) (long len) reply tt
    (unless None None (nat_lt len need) (refusals.DiskSmall need len) done reply tt
    (told_is None None (replies.Created (volno (length w.volumes))) reply tt)))))) h

pub cp_spared : (w : Up) (path : List ℕ) (reply : Reply) → IsRepliedButBytes (answers.cp w path) reply → IsSpared (Some path) None reply
cp_spared w path reply h =
    let done : Found Volume → Answer = λ v. replies.Done and with_volume w v.at (settled v.item) in
    on_volume path None (found (λ (v : Volume). bytes_eq v.path path) w.volumes)
    (λ v. (refusals.ReadOnly when is_read_only v.item) >> done v) reply
    (λ v. unless (Some path) None (is_read_only v.item) refusals.ReadOnly (done v) reply tt (told_is (Some path) None replies.Done reply tt)) h

pub write_spared : (w : Up) (path : List ℕ) (block fill : ℕ) (reply : Reply) → IsRepliedButBytes (answers.write w path block fill) reply → IsSpared (Some path) None reply
write_spared w path block fill reply h =
    let done : Found Volume → Answer = λ v. replies.Done and with_volume w v.at (answers.written v.item block fill) in
    let free : Found Volume → Answer = λ v. (refusals.NoSpace when is_used_up v.item) >> done v in
    let there : Found Volume → Answer = λ v. (refusals.BadBlock when is_past v.item block) >> free v in
    on_volume path None (found (λ (v : Volume). bytes_eq v.path path) w.volumes)
    (λ v. (refusals.ReadOnly when is_read_only v.item) >> there v) reply
    (λ v. unless (Some path) None (is_read_only v.item) refusals.ReadOnly (there v) reply tt
    (unless (Some path) None (is_past v.item block) refusals.BadBlock (free v) reply tt
    (unless (Some path) None (is_used_up v.item) refusals.NoSpace (done v) reply tt (told_is (Some path) None replies.Done reply tt)))) h

pub snap_spared : (w : Up) (path name : List ℕ) (label : Option (List ℕ)) (reply : Reply) → IsRepliedButBytes (answers.snap w path name label) reply → IsSpared (Some path) None reply
snap_spared w path name label reply h =
    let done : Found Volume → Answer = λ v. replies.Snapped (answers.client_ident v.at v.item) and with_volume w v.at (answers.snapped v.at w.clock v.item name label) in
    let full : Found Volume → Bool = λ v. (length v.item.snapshots == MOST_SNAPSHOTS) || (v.item.next == LAST_NUMBER) in
    let room : Found Volume → Answer = λ v. (refusals.SnapFull when full v) >> done v in
    let free : Found Volume → Answer = λ v. (refusals.NameTaken when has_name v.item.snapshots name) >> room v in
    on_volume path None (found (λ (v : Volume). bytes_eq v.path path) w.volumes)
    (λ v. (refusals.ReadOnly when is_read_only v.item) >> free v) reply
    (λ v. unless (Some path) None (is_read_only v.item) refusals.ReadOnly (free v) reply tt
    (unless (Some path) None (has_name v.item.snapshots name) refusals.NameTaken (room v) reply tt
    (unless (Some path) None (full v) refusals.SnapFull (done v) reply tt (told_is (Some path) None (replies.Snapped (answers.client_ident v.at v.item)) reply tt)))) h

pub unsnap_spared : (w : Up) (path name : List ℕ) (reply : Reply) → IsRepliedButBytes (answers.unsnap w path name) reply → IsSpared (Some path) (Some name) reply
unsnap_spared w path name reply h =
    let done : Found Volume → Snapshot → Answer = λ v s. replies.Done and with_volume w v.at (answers.without_snapshot v.item s.ident) in
    let free : Found Volume → Snapshot → Answer = λ v s. answers.held (holder w v.at s.ident) >> done v s in
    let writable : Found Volume → Snapshot → Answer = λ v s. (refusals.ReadOnly when is_read_only v.item) >> free v s in
    let newest : Found Volume → Option Snapshot = λ v. last_that (λ (s : Snapshot). bytes_eq s.name name) v.item.snapshots in
    on_volume path (Some name) (found (λ (v : Volume). bytes_eq v.path path) w.volumes)
    (λ v. and_then (some_or (refusals.NoSnapshot name) (newest v)) (writable v)) reply
    (λ v. on_snapshot (Some path) name (newest v) (writable v) reply
    (λ s. unless (Some path) (Some name) (is_read_only v.item) refusals.ReadOnly (free v s) reply tt
    (unless_held (Some path) (Some name) (holder w v.at s.ident) (done v s) reply (told_is (Some path) (Some name) replies.Done reply tt)))) h

-- ---- a read

replied_is : (path name : Option (List ℕ)) (r reply : Reply) → IsSparedOrBytes path name r → reply ≡ r → IsSparedOrBytes path name reply
replied_is path name r reply s e = subst (λ (x : Reply). IsSparedOrBytes path name x) (sym e) s

-- the block, unless it lies past the volume
read_block : (path name : Option (List ℕ)) (past : Bool) (bs : List ℕ) (w : Up) (reply : Reply) → IsRepliedButBytes (and_then (refused_if past refusals.BadBlock) (λ _. shows bs w)) reply → IsSparedOrBytes path name reply
unfolding and_then refused_if
read_block path name true bs w reply h = replied_is path name (replies.Refused refusals.BadBlock) reply tt h
read_block path name false bs w reply h = replied_is path name (replies.Bytes h.0) reply tt h.1

read_image : (path : Option (List ℕ)) (name : List ℕ) (o : Option Snapshot) (past : Bool) (place : ℕ) (w : Up) (reply : Reply)
    → IsRepliedButBytes (and_then (and_then (some_or (refusals.NoSnapshot name) o) (λ s. Ok s.image)) (λ image. and_then (refused_if past refusals.BadBlock) (λ _. shows (answers.block_at image place).bytes w))) reply → IsSparedOrBytes path (Some name) reply
unfolding and_then some_or
read_image path name None past place w reply h = replied_is path (Some name) (replies.Refused (refusals.NoSnapshot name)) reply refl h
read_image path name (Some s) past place w reply h = read_block path (Some name) past (answers.block_at s.image place).bytes w reply h

read_volume : (path : Option (List ℕ)) (name : Option (List ℕ)) (v : Volume) (place : ℕ) (w : Up) (reply : Reply)
    → IsRepliedButBytes (and_then (answers.image_named v name) (λ image. and_then (refused_if (is_past v place) refusals.BadBlock) (λ _. shows (answers.block_at image place).bytes w))) reply → IsSparedOrBytes path name reply
unfolding and_then answers.image_named
read_volume path None v place w reply h = read_block path None (is_past v place) (answers.block_at v.active place).bytes w reply h
read_volume path (Some name) v place w reply h = read_image path name (last_that (λ (s : Snapshot). bytes_eq s.name name) v.snapshots) (is_past v place) place w reply h

read_found : (path : List ℕ) (name : Option (List ℕ)) (o : Option (Found Volume)) (place : ℕ) (w : Up) (reply : Reply)
    → IsRepliedButBytes (and_then (some_or (refusals.NoVolume path) o) (λ v. and_then (answers.image_named v.item name) (λ image. and_then (refused_if (is_past v.item place) refusals.BadBlock) (λ _. shows (answers.block_at image place).bytes w)))) reply → IsSparedOrBytes (Some path) name reply
unfolding and_then some_or
read_found path name None place w reply h = replied_is (Some path) name (replies.Refused (refusals.NoVolume path)) reply refl h
read_found path name (Some v) place w reply h = read_volume (Some path) name v.item place w reply h

pub read_spared : (w : Up) (path : List ℕ) (name : Option (List ℕ)) (place : ℕ) (reply : Reply) → IsRepliedButBytes (answers.read w path name place) reply → IsSparedOrBytes (Some path) name reply
read_spared w path name place reply h = read_found path name (found (λ (v : Volume). bytes_eq v.path path) w.volumes) place w reply h

-- ---- no memory for the spare path or name

pub spare_starved : {D : Type 0} (state : D → DiskState) (n : Node D) → StandsUp state n → (a : Answer) (r : Result (Reply × Reply) NodeFault) (e : NodeFault) → r ≡ Err e → e ≡ OutOfMemory → Acts state a n (first_of r) n
spare_starved state n h a r e is_err is_memory = none_starved state n h a (first_of r) e (ap first_of is_err) is_memory
