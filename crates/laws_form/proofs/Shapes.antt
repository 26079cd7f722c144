-- Changed volumes are formed.
use Rattle.std.proofs.Common.{◌≡◌, ◌≢◌, ◌⊎◌, ◌<◌, ◌≤◌, ℕ, List, [], ◌∷◌, length, refl, sym, ap, subst, ◌∙◌, inl, inr, arith}
use Rattle.std.proofs.lemmas.List.{length-set, length-append, length-replicate}
use Rattle.sm_base.specs.Name.{is_path}
use Rattle.sm_base.specs.declared.numbers.Kind.{Kind}
use Rattle.sm_base.specs.declared.limits.TheConstants.{MOST_SNAPSHOTS, LAST_NUMBER}
use Rattle.sm_defs.specs.Words.{Among}
use Rattle.sm_defs.specs.Thinned.{Thinned}
use Rattle.sm_defs.specs.Image.{Block, Image, hole, full_block}
use Rattle.sm_defs.specs.Volume.{Volume, Snapshot, images_of, free_tags, new_volume}
use Rattle.sm_model.specs.InRange.{IsCreation}
use Rattle.sm_model.specs.Standing.{Stored}
use Rattle.sm_model.specs.Formed.{FormedSnapshot, FormedVolume}
use Rattle.sm_defs.specs.Operations.{with_snapshot, counted, writable}
use Rattle.sm_defs.specs.Missing.{first_number}
use Rattle.sm_model.specs.OfVolumes.{written}
use Rattle.laws_cases.proofs.Steps.Costs.{among_same}
use Rattle.laws_copies.proofs.Tags.{ImagesFrom, stored_from, pointed_from, reopened_from, thinned_from, snapped_from, written_stored, tag_of_full}
use Rattle.laws_copies.proofs.TagsStay.{new_stored}
use Rattle.sm_defs.specs.Operations as operations
use Rattle.sm_defs.proofs.Thinned.{thinned_among, thinned_shorter}
use Rattle.sm_defs.proofs.Members.{each_push}

-- ---- images of a volume that was formed

pub formed_fewer : (v u : Volume) → ImagesFrom v u → u.path ≡ v.path → u.disk ≡ v.disk → u.logical ≡ v.logical → u.physical ≡ v.physical → u.next ≡ v.next → length u.snapshots ≤ MOST_SNAPSHOTS →
    ((s : Snapshot) → Among u.snapshots s → FormedSnapshot s) → FormedVolume v → FormedVolume u
formed_fewer v u h path disk logical physical next few each f = record {
  path = ap is_path path ∙ f.path;
  disk = rw disk f.disk;
  long = λ image m. f.long image (h image m) ∙ sym logical;
  whole = λ p b s. f.whole p b (stored_from v u h p b s);
  bytes = λ p b s. f.bytes p b (stored_from v u h p b s);
  holes = λ p b s. f.holes p b (stored_from v u h p b s);
  some_blocks = rw logical f.some_blocks;
  few_blocks = rw logical f.few_blocks;
  room = rw (logical, physical) f.room;
  few_places = rw physical f.few_places;
  few = few;
  counted = (rw next f.counted.0, rw next f.counted.1);
  snapshots = each;
}

pub formed_pointed : (v : Volume) → FormedVolume v → FormedVolume (operations.settled v)
formed_pointed v f = formed_fewer v (operations.settled v) (pointed_from v) refl refl refl refl refl f.few f.snapshots f

pub formed_reopened : (v : Volume) → FormedVolume v → FormedVolume (operations.opened v)
formed_reopened v f = formed_fewer v (operations.opened v) (reopened_from v) refl refl refl refl refl f.few f.snapshots f

pub formed_writable : (v : Volume) → FormedVolume v → FormedVolume (writable v)
formed_writable v f = formed_fewer v (writable v) (λ image m. m) refl refl refl refl refl f.few f.snapshots f

pub formed_thinned : (v : Volume) (ss : List Snapshot) → Thinned ss v.snapshots → FormedVolume v → FormedVolume (record v { snapshots = ss })
formed_thinned v ss t f = formed_fewer v (record v { snapshots = ss }) (thinned_from v ss t) refl refl refl refl refl
    (let h = thinned_shorter t in let k = f.few in omega arith) (λ s m. f.snapshots s (thinned_among t s m)) f

-- ---- a block was written

full_long : (t fill : ℕ) → length (full_block t fill).bytes ≡ 4096
unfolding full_block
full_long t fill = length-replicate 4096 fill

full_byte : (t fill y : ℕ) → Among (full_block t fill).bytes y → y ≡ fill
unfolding full_block
full_byte t fill y m = among_same 4096 fill y m

pub formed_written : (v : Volume) (block fill : ℕ) → first_number (free_tags v) ≢ 0 → fill ≤ 255 → FormedVolume v → FormedVolume (written v block fill)
formed_written v block fill n small f = record {
  path = f.path;
  disk = f.disk;
  long = long;
  whole = λ p b s. whole p b (written_stored v block fill p b s);
  bytes = λ p b s. bytes p b (written_stored v block fill p b s);
  holes = λ p b s. holes p b (written_stored v block fill p b s);
  some_blocks = f.some_blocks;
  few_blocks = f.few_blocks;
  room = f.room;
  few_places = f.few_places;
  few = f.few;
  counted = f.counted;
  snapshots = f.snapshots;
}
  where
    long : (image : Image) → Among (images_of (written v block fill)) image → length image ≡ v.logical
    long image (inl e) = rw (e, length-set v.active block (full_block (first_number (free_tags v)) fill)) (f.long v.active (inl refl))
    long image (inr m) = f.long image (inr m)

    whole : (p : ℕ) (b : Block) → ((p ≡ block) × (b ≡ full_block (first_number (free_tags v)) fill)) ⊎ Stored v p b → length b.bytes ≡ 4096
    whole p b (inl (i, e)) = rw e (full_long (first_number (free_tags v)) fill)
    whole p b (inr s) = f.whole p b s

    bytes : (p : ℕ) (b : Block) → ((p ≡ block) × (b ≡ full_block (first_number (free_tags v)) fill)) ⊎ Stored v p b → (y : ℕ) → Among b.bytes y → y ≤ 255
    bytes p b (inl (i, e)) y m = rw (full_byte (first_number (free_tags v)) fill y (subst (λ c. Among c.bytes y) e m)) small
    bytes p b (inr s) y m = f.bytes p b s y m

    holes : (p : ℕ) (b : Block) → ((p ≡ block) × (b ≡ full_block (first_number (free_tags v)) fill)) ⊎ Stored v p b → b.tag ≡ 0 → b ≡ hole
    holes p b (inl (i, e)) z = absurd (n (sym (tag_of_full (first_number (free_tags v)) fill) ∙ (sym (ap (λ c. c.tag) e) ∙ z)))
    holes p b (inr s) z = f.holes p b s z

-- ---- a snapshot was taken

pub formed_taken : (v : Volume) (s : Snapshot) → s.image ≡ v.active → FormedSnapshot s → length v.snapshots < MOST_SNAPSHOTS → FormedVolume v → FormedVolume (with_snapshot v s)
formed_taken v s e k l f = formed_fewer v (with_snapshot v s) (snapped_from v s e) refl refl refl refl refl (rw (length-append v.snapshots (s ∷ [])) (omega (arith, l)))
    (each_push FormedSnapshot v.snapshots s f.snapshots k) f

pub formed_counted : (v : Volume) → v.next < LAST_NUMBER → FormedVolume v → FormedVolume (counted v)
formed_counted v n f = record {
  path = f.path;
  disk = f.disk;
  long = f.long;
  whole = f.whole;
  bytes = f.bytes;
  holes = f.holes;
  some_blocks = f.some_blocks;
  few_blocks = f.few_blocks;
  room = f.room;
  few_places = f.few_places;
  few = f.few;
  counted = (omega arith, omega (arith, n));
  snapshots = f.snapshots;
}

-- ---- a new volume

pub hole_whole : length hole.bytes ≡ 4096
unfolding hole
hole_whole = length-replicate {A = ℕ} 4096 0

pub hole_byte : (y : ℕ) → Among hole.bytes y → y ≤ 255
unfolding hole
hole_byte y m = rw (among_same 4096 0 y m) (omega arith)

pub formed_new : (path : List ℕ) (disk : ℕ) (kind : Kind) (number logical physical : ℕ) → IsCreation path disk logical physical → FormedVolume (new_volume path disk kind number logical physical)
formed_new path disk kind number logical physical h = record {
  path = h.path_given;
  disk = let k : disk ≤ 4294967295 = h.disk_given in omega arith;
  long = long;
  whole = λ p b s. ap (λ c. length c.bytes) (new_stored path disk kind number logical physical p b s) ∙ hole_whole;
  bytes = λ p b s y m. hole_byte y (subst (λ c. Among c.bytes y) (new_stored path disk kind number logical physical p b s) m);
  holes = λ p b s z. new_stored path disk kind number logical physical p b s;
  some_blocks = h.some_blocks;
  few_blocks = h.few_blocks;
  room = h.room;
  few_places = h.few_places;
  few = omega arith;
  counted = (omega arith, omega arith);
  snapshots = λ s m. absurd m;
}
  where
    long : (image : Image) → Among (images_of (new_volume path disk kind number logical physical)) image → length image ≡ logical
    long image (inl e) = rw e (length-replicate logical hole)
    long image (inr (inl e)) = rw e (length-replicate logical hole)
    long image (inr (inr m)) = absurd m
