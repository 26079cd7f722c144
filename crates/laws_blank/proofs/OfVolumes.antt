-- Events on volumes and snapshots, where blocks are read as zeros.
use Rattle.std.proofs.Common.{◌≡◌, ℕ, zero, suc, ◌==◌, ◌||◌, not, Bool, List, [], ◌∷◌, length, map, replicate, slice_set, Option, Ok, refl, sym, ap, ◌∙◌}
use Rattle.std.specs.Str.{bytes_eq}
use Rattle.std.proofs.lemmas.List.{map-set, length-map, map-append}
use Rattle.sm_base.specs.declared.numbers.DiskNo.{DiskNo}
use Rattle.sm_base.specs.declared.numbers.Kind.{Kind}
use Rattle.sm_base.specs.declared.refusal.Refusal.TheVariants as refusals
use Rattle.sm_base.specs.declared.refusal.What.TheVariants.{Volumes}
use Rattle.sm_base.specs.declared.limits.TheConstants.{MOST_VOLUMES, MOST_SNAPSHOTS, LAST_NUMBER}
use Rattle.sm_model.specs.declared.reply.Reply.TheVariants as replies
use Rattle.sm_defs.specs.Words.{found, same_ident, last_that}
use Rattle.sm_defs.specs.Image.{Block, Image, hole, full_block}
use Rattle.sm_defs.specs.Volume.{Volume, Snapshot, new_volume, length_needed, free_tags, without}
use Rattle.sm_defs.specs.Operations.{settled}
use Rattle.sm_defs.specs.Missing.{first_number}
use Rattle.sm_defs.specs.World.{Up, with_volume}
use Rattle.sm_model.specs.Answers.{Answer, Told, told, some_or, volume_named, volno}
use Rattle.sm_model.specs.OfVolumes.{with_new_volume, create_volume, written, write, client_ident, client_snapshot, snapped, snap, snapshot_named, held, without_snapshot, unsnap, cp}
use Rattle.sm_shape.specs.Blank.{zeros, blank_block}
use Rattle.sm_shape.specs.Blanked.{zeroed, zeroed_snapshot, zeroed_volume, blanked}
use Rattle.laws_blank.specs.Blanking.{blanked_reached, blanked_answer}
use Rattle.laws_blank.proofs.Mapped.{on, found_mapped, last_mapped, any_mapped, filter_mapped}
use Rattle.laws_blank.proofs.Results.{changed, some_changed, finds, passes, tested, ends}
use Rattle.sm_shape.proofs.Blanking.{with_blanked}
use Rattle.laws_blank.proofs.Zeroed.{hole_zeroed, zeroed_used, zeroed_free_tags, holder_blanked}

pub volume_named_blanked : (w : Up) (path : List ℕ) → volume_named (blanked w) path ≡ changed (on zeroed_volume) (volume_named w path)
volume_named_blanked w path =
    ap (some_or (refusals.NoVolume path)) (found_mapped zeroed_volume (λ v. bytes_eq v.path path) w.volumes)
    ∙ some_changed (on zeroed_volume) (refusals.NoVolume path) (found (λ v. bytes_eq v.path path) w.volumes)

-- the changed volume stands in the world
pub done_with : (w : Up) (i : ℕ) (v u : Volume) (t : Told) → u ≡ zeroed_volume v → let a : Answer = Ok (record { reply = t; world = with_volume (blanked w) i u }) in a ≡ blanked_answer (Ok (record { reply = t; world = with_volume w i v }))
done_with w i v u t e = ends t t (with_volume w i v) (with_volume (blanked w) i u) refl (ap (with_volume (blanked w) i) e ∙ with_blanked w i v)

-- ---- creation

holes_zeroed : (n : ℕ) → zeroed (replicate n hole) ≡ replicate n hole
holes_zeroed zero = refl
holes_zeroed (suc n) = λ i. hole_zeroed i ∷ holes_zeroed n i

new_zeroed : (path : List ℕ) (disk : ℕ) (kind : Kind) (number logical physical : ℕ) → zeroed_volume (new_volume path disk kind number logical physical) ≡ new_volume path disk kind number logical physical
new_zeroed path disk kind number logical physical = ap (λ (image : Image). record (new_volume path disk kind number logical physical) { active = image; stable = image }) (holes_zeroed logical)

with_new_blanked : (w : Up) (v u : Volume) → u ≡ zeroed_volume v → with_new_volume (blanked w) u ≡ blanked (with_new_volume w v)
with_new_blanked w v u e =
    ap (with_new_volume (blanked w)) e
    ∙ ap (λ (vs : List Volume). let x : Up = record w { volumes = vs } in x) (sym (map-append zeroed_volume w.volumes (v ∷ [])))

pub create_volume_blanked : (w : Up) (path : List ℕ) (disk : DiskNo) (kind : Kind) (logical physical : ℕ) → create_volume (blanked w) path disk kind logical physical ≡ blanked_answer (create_volume w path disk kind logical physical)
create_volume_blanked w path disk kind logical physical =
    let long : length (map zeroed_volume w.volumes) ≡ length w.volumes = length-map w.volumes zeroed_volume in
    let new : ℕ → Volume = λ n. new_volume path disk.0 kind n logical physical in
    tested refusals.NameTaken _ _ _ _ (any_mapped zeroed_volume (λ v. bytes_eq v.path path) w.volumes)
    (tested (refusals.NoDisk disk) _ _ _ _ refl
    (passes blanked_reached _ _ _ _ refl (λ len.
    tested refusals.DiskTaken _ _ _ _ (any_mapped zeroed_volume (λ v. v.disk == disk.0) w.volumes)
    (tested (refusals.Full Volumes) _ _ _ _ (ap (λ n. n == MOST_VOLUMES) long)
    (tested (refusals.DiskSmall (length_needed physical) len) _ _ _ _ refl
    (ends (told (replies.Created (volno (length w.volumes)))) (told (replies.Created (volno (length (map zeroed_volume w.volumes))))) (with_new_volume w (new (length w.volumes))) (with_new_volume (blanked w) (new (length (map zeroed_volume w.volumes))))
    (ap (λ n. told (replies.Created (volno n))) long)
    (with_new_blanked w (new (length w.volumes)) (new (length (map zeroed_volume w.volumes))) (ap new long ∙ sym (new_zeroed path disk.0 kind (length w.volumes) logical physical)))))))))

-- ---- writing

block_zeroed : (number fill : ℕ) → full_block number 0 ≡ blank_block (full_block number fill).tag
unfolding full_block zeros
block_zeroed number fill = refl

written_zeroed : (v : Volume) (place fill : ℕ) → written (zeroed_volume v) place 0 ≡ zeroed_volume (written v place fill)
written_zeroed v place fill =
    ap (λ (ts : List ℕ). record (zeroed_volume v) { active = slice_set (zeroed v.active) place (full_block (first_number ts) 0) }) (zeroed_free_tags v)
    ∙ ap (λ (b : Block). record (zeroed_volume v) { active = slice_set (zeroed v.active) place b }) (block_zeroed (first_number (free_tags v)) fill)
    ∙ ap (λ (image : Image). record (zeroed_volume v) { active = image }) (sym (map-set (λ (b : Block). blank_block b.tag) v.active place (full_block (first_number (free_tags v)) fill)))

pub write_blanked : (w : Up) (path : List ℕ) (place fill : ℕ) → write (blanked w) path place 0 ≡ blanked_answer (write w path place fill)
write_blanked w path place fill =
    finds blanked_reached (on zeroed_volume) _ _ _ _ (volume_named_blanked w path) (λ v.
    tested refusals.ReadOnly _ _ _ _ refl
    (tested refusals.BadBlock _ _ _ _ refl
    (tested refusals.NoSpace _ _ _ _ (ap (λ n. n == v.item.physical) (zeroed_used v.item))
    (done_with w v.at (written v.item place fill) _ (told replies.Done) (written_zeroed v.item place fill)))))

pub cp_blanked : (w : Up) (path : List ℕ) → cp (blanked w) path ≡ blanked_answer (cp w path)
cp_blanked w path =
    finds blanked_reached (on zeroed_volume) _ _ _ _ (volume_named_blanked w path) (λ v.
    tested refusals.ReadOnly _ _ _ _ refl
    (done_with w v.at (settled v.item) _ (told replies.Done) refl))

-- ---- snapshots

snapped_zeroed : (number time : ℕ) (v : Volume) (name : List ℕ) (label : Option (List ℕ)) → snapped number time (zeroed_volume v) name label ≡ zeroed_volume (snapped number time v name label)
snapped_zeroed number time v name label =
    ap (λ (ss : List Snapshot). record (zeroed_volume v) { next = suc v.next; stable = zeroed v.active; snapshots = ss })
    (sym (map-append zeroed_snapshot v.snapshots (client_snapshot number time v name label ∷ [])))

pub snap_blanked : (w : Up) (path name : List ℕ) (label : Option (List ℕ)) → snap (blanked w) path name label ≡ blanked_answer (snap w path name label)
snap_blanked w path name label =
    finds blanked_reached (on zeroed_volume) _ _ _ _ (volume_named_blanked w path) (λ v.
    tested refusals.ReadOnly _ _ _ _ refl
    (tested refusals.NameTaken _ _ _ _ (any_mapped zeroed_snapshot (λ s. bytes_eq s.name name) v.item.snapshots)
    (tested refusals.SnapFull _ _ _ _ (ap (λ n. (n == MOST_SNAPSHOTS) || (v.item.next == LAST_NUMBER)) (length-map v.item.snapshots zeroed_snapshot))
    (done_with w v.at (snapped v.at w.clock v.item name label) _ (told (replies.Snapped (client_ident v.at v.item))) (snapped_zeroed v.at w.clock v.item name label)))))

named_zeroed : (v : Volume) (name : List ℕ) → snapshot_named (zeroed_volume v) name ≡ changed zeroed_snapshot (snapshot_named v name)
named_zeroed v name =
    ap (some_or (refusals.NoSnapshot name)) (last_mapped zeroed_snapshot (λ s. bytes_eq s.name name) v.snapshots)
    ∙ some_changed zeroed_snapshot (refusals.NoSnapshot name) (last_that (λ s. bytes_eq s.name name) v.snapshots)

pub without_zeroed : (goes : Snapshot → Bool) (v : Volume) → without goes (zeroed_volume v) ≡ zeroed_volume (without (λ s. goes (zeroed_snapshot s)) v)
without_zeroed goes v = ap (λ (ss : List Snapshot). record (zeroed_volume v) { snapshots = ss }) (filter_mapped zeroed_snapshot (λ s. not (goes s)) v.snapshots)

pub unsnap_blanked : (w : Up) (path name : List ℕ) → unsnap (blanked w) path name ≡ blanked_answer (unsnap w path name)
unsnap_blanked w path name =
    finds blanked_reached (on zeroed_volume) _ _ _ _ (volume_named_blanked w path) (λ v.
    finds blanked_reached zeroed_snapshot _ _ _ _ (named_zeroed v.item name) (λ s.
    tested refusals.ReadOnly _ _ _ _ refl
    (passes blanked_reached _ _ _ _ (λ i. held (holder_blanked w i v.at s.ident)) (λ _.
    done_with w v.at (without_snapshot v.item s.ident) _ (told replies.Done) (without_zeroed (λ x. same_ident x.ident s.ident) v.item)))))
