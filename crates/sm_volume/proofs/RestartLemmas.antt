-- What a restart leaves of the volume that is seen.
use Rattle.std.proofs.Common.{◌≡◌, inl, inr, ℕ, ◌-◌, true, List, [], ◌∷◌, map, refl, sym, ap, ◌∙◌, subst, Option, Some, None, option_map, Result, Ok, Err, IfOk, OnErr, IsTrue}
use Rattle.sm_base.specs.declared.numbers.Side.{Side}
use Rattle.sm_base.specs.declared.numbers.Side.TheVariants.{Before, After}
use Rattle.sm_base.specs.declared.numbers.VolNo.{VolNo}
use Rattle.sm_defs.specs.Image.{Block, Image}
use Rattle.sm_defs.specs.Volume.{Snapshot, Volume}
use Rattle.sm_disk.specs.Image as disk
use Rattle.sm_disk.specs.Disk.{DiskState}
use Rattle.sm_root.specs.declared.root.RootSnapshot.{RootSnapshot}
use Rattle.volume_store.specs.declared.faults.VolumeFault.{VolumeFault}
use Rattle.volume_store.specs.Held.{Held, IsHeld, IsAsLarge, restarted, taken_side}
use Rattle.volume_store.specs.Held as store_held
use Rattle.volume_store.specs.Maps.{Maps}
use Rattle.sm_volume.specs.Seen.{block_of, image_of, seen_snapshot, volume_of}
use Rattle.sm_volume.specs.Mounted.{Mounted, mounted, of_side, bare, bare_block, bare_image, bare_snapshot}
use Rattle.sm_volume.specs.Shown.{Selects, SelectsAfter, SelectsSide}
use Rattle.sm_volume.specs.Restarted.{IsRestarted, IsStillDown}
use Rattle.sm_volume.proofs.MountedLemmas.{shows_seen, seen_again}

-- without bytes it does not matter on which image a volume is seen
bare_image_seen : (c d : disk.Image) (ms : List ℕ) → bare_image (image_of c ms) ≡ bare_image (image_of d ms)
bare_image_seen c d [] = refl
bare_image_seen c d (m ∷ ms) = ap (λ (bs : List Block). bare_block (block_of c m) ∷ bs) (bare_image_seen c d ms)

bare_snapshots_seen : (c d : disk.Image) (ss : List RootSnapshot) → map bare_snapshot (map (seen_snapshot c) ss) ≡ map bare_snapshot (map (seen_snapshot d) ss)
bare_snapshots_seen c d [] = refl
bare_snapshots_seen c d (s ∷ ss) =
    let here : bare_snapshot (seen_snapshot c s) ≡ bare_snapshot (seen_snapshot d s) = ap (λ (image : Image). let t : Snapshot = record (seen_snapshot c s) { image = image } in t) (bare_image_seen c d s.map) in
    let rest = bare_snapshots_seen c d ss in
    cc

pub bare_seen : (c d : disk.Image) (m : Maps) → bare (volume_of [] 0 c m) ≡ bare (volume_of [] 0 d m)
bare_seen c d m =
    let build : Image → Image → List Snapshot → Volume = λ active stable snapshots. record (volume_of [] 0 c m) { active = active; stable = stable; snapshots = snapshots } in
    ap (λ (i : Image). build i (bare_image (image_of c m.root.stable)) (map bare_snapshot (map (seen_snapshot c) m.root.snapshots))) (bare_image_seen c d m.active)
    ∙ ap (λ (i : Image). build (bare_image (image_of d m.active)) i (map bare_snapshot (map (seen_snapshot c) m.root.snapshots))) (bare_image_seen c d m.root.stable)
    ∙ ap (build (bare_image (image_of d m.active)) (bare_image (image_of d m.root.stable))) (bare_snapshots_seen c d m.root.snapshots)

-- the maps of a side have the volume's number
number_of : (side : Side) (maps : Maps) (after : Option Maps) (m : Maps) → IsAsLarge after maps.root → taken_side side maps after ≡ Some m → m.root.number ≡ maps.root.number
number_of Before maps after m same is = let e : maps ≡ m = cc in ap (λ (x : Maps). x.root.number) (sym e)
number_of After maps (Some n) m same is = let e : n ≡ m = cc in ap (λ (x : Maps). x.root.number) (sym e) ∙ same.2
number_of After maps None m same is = absurd (cc)

side_seen : {D : Type 0} (state : D → DiskState) (h : Held D) (side : Side) (m : Maps) → taken_side side h.maps h.after ≡ Some m → of_side side (mounted state h).volume (mounted state h).after ≡ Some (volume_of [] 0 (state h.disk).seen m)
side_seen state h Before m is = let e : h.maps ≡ m = cc in ap (λ (x : Maps). Some (volume_of [] 0 (state h.disk).seen x)) e
side_seen state h After m is = ap (option_map (volume_of [] 0 (state h.disk).seen)) is

-- the image shows the maps of its side
side_shown : (side : Side) (number : ℕ) (maps : Maps) (after : Option Maps) (m : Maps) (d c : disk.Image) → taken_side side maps after ≡ Some m → store_held.ShowsSide side number maps after d c → (selected : ℕ) × store_held.Shows selected m.root d c
side_shown Before number maps after m d c is shown = let e : maps ≡ m = cc in (number, subst (λ (x : Maps). store_held.Shows number x.root d c) e shown)
side_shown After number maps (Some n) m d c is shown = let e : n ≡ m = cc in (1 - number, subst (λ (x : Maps). store_held.Shows (1 - number) x.root d c) e shown)
side_shown After number maps None m d c is shown = absurd shown

pub selects_side : {D : Type 0} (state : D → DiskState) (h : Held D) (side : Side) (c : disk.Image) → IsAsLarge h.after h.maps.root → store_held.ShowsSide side h.number h.maps h.after (state h.disk).seen c → SelectsSide side (mounted state h) c
selects_side state h Before c same shown = shows_seen [] 0 h.number h.maps (state h.disk).seen c shown
selects_side state h After c same shown = by h.after same shown
  where
    by : (o : Option Maps) → IsAsLarge o h.maps.root → store_held.ShowsAfter h.number o (state h.disk).seen c → SelectsAfter h.number h.maps.root.number (option_map (volume_of [] 0 (state h.disk).seen) o) c
    by None same shown = shown
    by (Some n) same shown = subst (λ (k : VolNo). Selects (1 - h.number) k (volume_of [] 0 (state h.disk).seen n) c) same.2 (shows_seen [] 0 (1 - h.number) n (state h.disk).seen c shown)

-- the clauses of a restart
abbrev pub HasRestarted : {D : Type 0} → Held D → Side → Held D → Type 0
HasRestarted old side new = (maps : Maps) × (taken_side side old.maps old.after ≡ Some maps) × (new ≡ record { disk = new.disk; number = new.number; maps = restarted maps; after = None; up = true })

pub restarted_seen : {D : Type 0} (state : D → DiskState) (old new : Held D) (side : Side) → IsAsLarge old.after old.maps.root → HasRestarted old side new
    → (IsTrue (state old.disk).told → store_held.ShowsSide side old.number old.maps old.after (state old.disk).seen (state new.disk).seen)
    → (IsTrue (state old.disk).told → new.number ≡ store_held.number_of side old.number) → IsRestarted state (mounted state old) side (mounted state new)
restarted_seen state old new side same h shown selects =
    let c = (state old.disk).seen in
    let d = (state new.disk).seen in
    let m = h.0 in
    let maps : new.maps ≡ restarted m = ap (λ v. v.maps) h.2 in
    let number : new.maps.root.number ≡ old.maps.root.number = ap (λ (x : Maps). x.root.number) maps ∙ number_of side old.maps old.after m same h.1 in
    let after : new.after ≡ None = ap (λ v. v.after) h.2 in
    let up : new.up ≡ true = ap (λ v. v.up) h.2 in
    let build : VolNo → Option Volume → _ → Mounted _ = λ n a u. record { disk = new.disk; number = n; selected = new.number; volume = volume_of [] 0 d new.maps; after = a; up = u } in (
      volume_of [] 0 c m,
      side_seen state old side m h.1,
      ap (λ (n : VolNo). build n (option_map (volume_of [] 0 d) new.after) new.up) number ∙ ap (λ (o : Option Maps). build old.maps.root.number (option_map (volume_of [] 0 d) o) new.up) after
          ∙ ap (build old.maps.root.number None) up,
      ap (λ (x : Maps). bare (volume_of [] 0 d x)) maps ∙ bare_seen d c (restarted m),
      λ told. let selected = side_shown side old.number old.maps old.after m c d h.1 (shown told) in
          ap (volume_of [] 0 d) maps ∙ seen_again [] 0 selected.0 m c d selected.1,
      selects,
    )

bare_after : (c d : disk.Image) (o : Option Maps) → option_map bare (option_map (volume_of [] 0 c) o) ≡ option_map bare (option_map (volume_of [] 0 d) o)
bare_after c d None = refl
bare_after c d (Some m) = ap Some (bare_seen c d m)

-- which of the two an image shows
either_side : {D : Type 0} (h : Held D) (d c : disk.Image) → store_held.ShowsEither h.number h.maps h.after d c → (side : Side) × (m : Maps) × (taken_side side h.maps h.after ≡ Some m) × store_held.ShowsSide side h.number h.maps h.after d c
either_side h d c (inl shown) = (Before, h.maps, refl, shown)
either_side h d c (inr shown) = by h.after refl
  where
    by : (o : Option Maps) → h.after ≡ o → (side : Side) × (m : Maps) × (taken_side side h.maps h.after ≡ Some m) × store_held.ShowsSide side h.number h.maps h.after d c
    by None e = absurd (subst (λ (x : Option Maps). store_held.ShowsAfter h.number x d c) e shown)
    by (Some m) e = (After, m, e, shown)

pub still_down : {D : Type 0} (state : D → DiskState) (old new : Held D) → IsHeld state old → new ≡ store_held.fallen old new.disk → (IsTrue (state old.disk).told → (state old.disk).may_leave (state new.disk).seen) → IsStillDown state (mounted state old) (mounted state new)
still_down state old new held is image =
    let c = (state old.disk).seen in
    let d = (state new.disk).seen in
    let maps : new.maps ≡ old.maps = ap (λ v. v.maps) is in
    let after : new.after ≡ old.after = ap (λ v. v.after) is in record {
      number = ap (λ (x : Maps). x.root.number) maps;
      selected = ap (λ v. v.number) is;
      down = ap (λ v. v.up) is;
      volume = ap (λ (x : Maps). bare (volume_of [] 0 d x)) maps ∙ bare_seen d c old.maps;
      after = ap (λ (o : Option Maps). option_map bare (option_map (volume_of [] 0 d) o)) after ∙ bare_after d c old.after;
      side = λ told.
          let found = either_side old c d (held.images d (image told)) in
          let selected = side_shown found.0 old.number old.maps old.after found.1 c d found.2 found.3 in (
            found.0,
            volume_of [] 0 c found.1,
            volume_of [] 0 d found.1,
            side_seen state old found.0 found.1 found.2,
            side_seen state new found.0 found.1 (ap (λ (x : Maps). taken_side found.0 x new.after) maps ∙ ap (taken_side found.0 old.maps) after ∙ found.2),
            seen_again [] 0 selected.0 found.1 c d selected.1,
            selects_side state old found.0 d held.as_large found.3,
          );
    }

pub restart_ok : {D : Type 0} (state : D → DiskState) (old new : Held D) → IsHeld state old → (r : Result Side VolumeFault) → IfOk r (λ side. HasRestarted old side new)
    → IfOk r (λ side. IsTrue (state old.disk).told → store_held.ShowsSide side old.number old.maps old.after (state old.disk).seen (state new.disk).seen)
    → IfOk r (λ side. IsTrue (state old.disk).told → new.number ≡ store_held.number_of side old.number) → IfOk r (λ side. IsRestarted state (mounted state old) side (mounted state new))
restart_ok state old new held (Ok side) h shown selects = restarted_seen state old new side held.as_large h shown selects
restart_ok state old new held (Err x) h shown selects = tt

pub restart_side : {D : Type 0} (state : D → DiskState) (old new : Held D) → IsHeld state old → (r : Result Side VolumeFault)
    → IfOk r (λ side. IsTrue (state old.disk).told → store_held.ShowsSide side old.number old.maps old.after (state old.disk).seen (state new.disk).seen)
    → IfOk r (λ side. IsTrue (state old.disk).told → SelectsSide side (mounted state old) (state new.disk).seen)
restart_side state old new held (Ok side) shown = λ told. selects_side state old side (state new.disk).seen held.as_large (shown told)
restart_side state old new held (Err x) shown = tt

pub restart_fault : {D : Type 0} (state : D → DiskState) (old new : Held D) → IsHeld state old → (r : Result Side VolumeFault) → OnErr r (new ≡ store_held.fallen old new.disk)
    → (IsTrue (state old.disk).told → (state old.disk).may_leave (state new.disk).seen) → OnErr r (IsStillDown state (mounted state old) (mounted state new))
restart_fault state old new held (Err x) is image = still_down state old new held is image
restart_fault state old new held (Ok side) is image = tt
