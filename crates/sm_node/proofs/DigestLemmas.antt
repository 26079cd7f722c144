-- The blocks of an image, hashed in turn.
use Rattle.std.proofs.Common.{◌≡◌, ℕ, zero, suc, ◌<◌, ◌≤◌, List, [], ◌∷◌, ◌++◌, map, length, take, append_assoc, refl, sym, ap, ◌∙◌, subst, Option, Some, None, Result, Ok, Err, inl, inr, arith}
use Rattle.std.specs.Prelude.{slice_index_or, option_map}
use Rattle.std.specs.List.{find}
use Rattle.std.proofs.lemmas.List.{length-map}
use Rattle.std.proofs.lemmas.List.{append-nil}
use Rattle.sha2.specs.Hashers.{Holds256}
use Rattle.sha2.specs.declared.Sha256.{Sha256}
use Rattle.sm_disk.specs.Disk.{DiskState, GoesOn, IsQuiet, IsCounted}
use Rattle.sm_disk.proofs.Calls.{quiet_joined}
use Rattle.sm_disk.proofs.Moments.{begun, joined, weaker}
use Rattle.sm_defs.specs.Image.{Image, hole, image_bytes, tag_of, tags}
use Rattle.sm_defs.specs.Words.{Among, same_ident}
use Rattle.sm_defs.specs.Volume.{Volume, Snapshot, image_of, images_of}
use Rattle.sm_defs.proofs.Members.{among_map}
use Rattle.sm_defs.proofs.Searches.{find_is}
use Rattle.volume_store.specs.declared.io.View.{View}
use Rattle.volume_store.specs.declared.io.View.TheVariants.{Active, Of}
use Rattle.sm_volume.specs.Kept.{IsKept}
use Rattle.volume_store.specs.declared.faults.VolumeFault.{VolumeFault}
use Rattle.volume_store.specs.declared.faults.VolumeFault.TheVariants.{DiskFault}
use Rattle.sm_volume.specs.Mounted.{Mounted, on_disk, fallen}
use Rattle.sm_volume.specs.Refusals.{image_seen}
use Rattle.sm_node.specs.Reading.{Reads}

-- one block more
pub bytes_more : (image : Image) (at : ℕ) → at < length image → image_bytes (take (suc at) image) ≡ image_bytes (take at image) ++ (slice_index_or image at hole).bytes
bytes_more [] at h = absurd (omega arith)
bytes_more (b ∷ bs) zero h = append-nil b.bytes
bytes_more (b ∷ bs) (suc at) h = ap (λ (xs : List ℕ). b.bytes ++ xs) (bytes_more bs at (omega arith)) ∙ sym (append_assoc b.bytes (image_bytes (take at bs)) (slice_index_or bs at hole).bytes)

-- the disk alone was called, and quietly
pub record Looked {D : Type 0} (state : D → DiskState) (old new : Mounted D) : Type 0 where
  pub same : new ≡ on_disk old new.disk
  pub quiet : IsQuiet (state old.disk) (state new.disk)
  pub goes : GoesOn (state old.disk) (state new.disk) (state old.disk).may_leave

pub unlooked : {D : Type 0} (state : D → DiskState) (m : Mounted D) → Looked state m m
unlooked state m = record {
  same = refl;
  quiet = record { seen = refl; no_more = λ c may. may; no_less = λ c may. may };
  goes = begun (state m.disk) (state m.disk).may_leave;
}

goes_then : (a b c : DiskState) → GoesOn a b a.may_leave → IsQuiet a b → GoesOn b c c.may_leave → IsQuiet b c → GoesOn a c a.may_leave
goes_then a b c p q r s = joined a b c a.may_leave p (weaker b c c.may_leave a.may_leave r (λ x may. q.no_more x (s.no_more x may)))

pub looked_more : {D : Type 0} (state : D → DiskState) (a b c : Mounted D) → Looked state a b → c ≡ on_disk b c.disk → IsQuiet (state b.disk) (state c.disk) → GoesOn (state b.disk) (state c.disk) (state c.disk).may_leave → Looked state a c
looked_more state a b c p same quiet goes = record {
  same = same ∙ ap (λ (x : Mounted _). on_disk x c.disk) p.same;
  quiet = quiet_joined (state a.disk) (state b.disk) (state c.disk) p.quiet quiet;
  goes = goes_then (state a.disk) (state b.disk) (state c.disk) p.goes p.quiet goes quiet;
}

pub all_read : {D A : Type 0} (state : D → DiskState) (a b : Mounted D) (x : A) → Looked state a b → Reads state (Ok x) a b
all_read state a b x p = record {
  ok = p.same;
  fault = λ e. absurd (cc);
  counted = λ e. absurd (cc);
  unchanged = λ f e. absurd (cc);
  quiet = p.quiet;
  any_moment = p.goes;
}

counted_later : (a b c : DiskState) → a.faults ≤ b.faults → IsCounted b c → IsCounted a c
counted_later a b c less counted = omega (arith, less, counted)

pub read_failed : {D A : Type 0} (state : D → DiskState) (a b c : Mounted D) (f : VolumeFault) (r : Result A VolumeFault) → Looked state a b → r ≡ Err f → f ≡ DiskFault → c ≡ fallen b c.disk → IsCounted (state b.disk) (state c.disk)
    → IsQuiet (state b.disk) (state c.disk) → GoesOn (state b.disk) (state c.disk) (state c.disk).may_leave → Reads state r a c
read_failed state a b c f r p is_err is_fault fell counted quiet goes =
    let less = p.goes.faults in
    subst (λ (q : Result _ VolumeFault). Reads state q a c) (sym is_err) (record {
      ok = tt;
      fault = λ e. fell ∙ ap (λ (x : Mounted _). fallen x c.disk) p.same;
      counted = λ e. counted_later (state a.disk) (state b.disk) (state c.disk) less counted;
      unchanged = λ g e other. absurd (other ((let same : f ≡ g = cc in sym same) ∙ is_fault));
      quiet = quiet_joined (state a.disk) (state b.disk) (state c.disk) p.quiet quiet;
      any_moment = goes_then (state a.disk) (state b.disk) (state c.disk) p.goes p.quiet goes quiet;
    })

-- an image of a volume is as long as the volume
long_by : {D : Type 0} (state : D → DiskState) (m : Mounted D) → IsKept state m → (image : Image) → Among (images_of m.volume) image → length image ≡ m.volume.logical
long_by state m kept image a = sym (length-map image tag_of) ∙ kept.images.long (tags image) (among_map tags (images_of m.volume) image a)

snapshot_seen : (v : Volume) (image : Image) (o : Option Snapshot) → ((s : Snapshot) → o ≡ Some s → Among v.snapshots s) → option_map image_of o ≡ Some image → Among (map image_of v.snapshots) image
snapshot_seen v image None a e = absurd (cc)
snapshot_seen v image (Some s) a e =
    let same : image_of s ≡ image = cc in
    subst (λ (x : Image). Among (map image_of v.snapshots) x) same (among_map image_of v.snapshots s (a s refl))

seen_among : (v : Volume) (view : View) (image : Image) → image_seen v view ≡ Some image → Among (images_of v) image
seen_among v Active image e = inl (let same : v.active ≡ image = cc in sym same)
seen_among v (Of i) image e = inr (inr (snapshot_seen v image (find (λ s. same_ident s.ident i) v.snapshots) (λ s f. (find_is (λ s. same_ident s.ident i) v.snapshots s f).0) e))

pub image_long : {D : Type 0} (state : D → DiskState) (m : Mounted D) (view : View) (image : Image) → IsKept state m → image_seen m.volume view ≡ Some image → length image ≡ m.volume.logical
image_long state m view image kept e = long_by state m kept image (seen_among m.volume view image e)

-- the hasher took one block more
pub hashed_more : (image other : Image) (o : Option Image) (at next : ℕ) (h : Sha256) (read : List ℕ) → next ≡ suc at → at < length image → o ≡ Some image → o ≡ Some other → read ≡ (slice_index_or other at hole).bytes
    → Holds256 h (image_bytes (take at image) ++ read) → Holds256 h (image_bytes (take next image))
hashed_more image other o at next h read after within is seen bytes holds =
    let same : other ≡ image = cc in
    let block = bytes ∙ ap (λ (x : Image). (slice_index_or x at hole).bytes) same in
    subst (Holds256 h) (ap (λ (b : List ℕ). image_bytes (take at image) ++ b) block ∙ sym (bytes_more image at within) ∙ ap (λ (n : ℕ). image_bytes (take n image)) (sym after)) holds
