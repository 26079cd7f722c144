-- The disks that spell a sound world.
use Rattle.std.proofs.Common.{◌≡◌, ◌≢◌, ◌⊎◌, ℕ, suc, ◌+◌, ◌<◌, ◌≤◌, ◌==◌, Bool, true, false, List, [], ◌∷◌, ◌++◌, length, map, refl, sym, ap, subst, ◌∙◌, inl, inr, arith, length-append}
use Rattle.std.specs.Prelude.{Option, Some, None, if◌then◌else◌}
use Rattle.std.specs.Option.{option_map}
use Rattle.std.proofs.lemmas.Bool.{eq-eqb, ne_eqb}
use Rattle.sm_defs.specs.Words.{Among, KeysDiffer}
use Rattle.sm_defs.specs.Volume.{Volume}
use Rattle.sm_defs.specs.Operations as operations
use Rattle.sm_defs.specs.Relationship.{Relationship, Transfer}
use Rattle.sm_defs.specs.World.{Up}
use Rattle.sm_defs.proofs.Members.{among_each, among_push}
use Rattle.sm_disk.specs.Image.{Image}
use Rattle.sm_fields.specs.Format.{bits32}
use Rattle.sm_fields.specs.Grammar.{digits}
use Rattle.sm_slots.specs.Stored.{Record, stored, IsFramed}
use Rattle.sm_slots.proofs.Framed.{framed_record}
use Rattle.sm_root.specs.declared.root.Root.{Root}
use Rattle.sm_root.specs.Condition.{IsRoot}
use Rattle.sm_root.specs.Spelling as roots
use Rattle.volume_store.specs.Opened.{IsRootOn}
use Rattle.volume_store.proofs.Framed.{framed_root}
use Rattle.sm_volume.specs.Seen.{root_of}
use Rattle.sm_relation.specs.Shown.{transfer_of}
use Rattle.sm_catroot.specs.declared.placed.Placed.{Placed}
use Rattle.sm_catroot.specs.declared.TheConstants.{MAGIC}
use Rattle.sm_catroot.specs.Catalog.{Catalog}
use Rattle.sm_catroot.specs.Condition.{IsCatalog}
use Rattle.sm_catroot.specs.Kept.{ShowsCatalog}
use Rattle.sm_catroot.specs.Spelling.{body_bytes, spelling}
use Rattle.sm_model.specs.Formed.{FormedVolume, disk_of}
use Rattle.sm_model.specs.TagsFit.{TagsFitIn}
use Rattle.sm_model.specs.Opened.{restarted, rejoined, opened}
use Rattle.sm_model.specs.Sound.{SoundUp}
use Rattle.sm_shape.specs.Interim.{IsInterim}
use Rattle.sm_opening.specs.OnDisk.{Disks, AreBytes, read_relation, read_volume, read_volumes, world_of, IsCatalogOn, IsVolumeOn, AreVolumesOn}
use Rattle.laws_disks.specs.Room.{HasRoom, IsSpelled}
use Rattle.laws_disks.proofs.Pieces.{Brief}
use Rattle.laws_disks.proofs.CatalogBrief as catalogs
use Rattle.laws_disks.proofs.RootBrief as root_brief
use Rattle.laws_disks.proofs.Imaged.{imaged, stores, block_there, are_bytes}
use Rattle.laws_disks.proofs.Blocks.{block_bytes, bytes_long, bytes_small, volume_seen}
use Rattle.laws_disks.proofs.Identities.{identity_fits, maker_fits, family_fits}
use Rattle.laws_disks.proofs.RootFits.{root_fits}
use Rattle.laws_disks.proofs.CatalogFits.{placed_of, standing_of, relation_of, catalog_of, read_again, policy_fits, catalog_fits}
use Rattle.laws_disks.proofs.Shaped.{crossed_blanked, shaped_blanked}

-- ---- a volume's disk

abbrev pub root_at : ℕ → Volume → Root
root_at i v = root_of (record { 0 = i }) v

unfoldable pub volume_image : ℕ → Volume → Image
volume_image i v = imaged (roots.spelling (root_at i v)) (block_bytes v)

-- what its disk asks of the volume of a number
pub record IsReady (i : ℕ) (v : Volume) : Type 0 where
  pub formed : FormedVolume v
  pub fits : TagsFitIn v
  pub root : IsRoot (root_at i v)

module _ (i : ℕ) (v : Volume) (ready : IsReady i v) where
  pub root_there : IsRootOn (volume_image i v) (root_at i v)
  unfolding volume_image
  root_there =
      let brief = root_brief.spelling_brief (root_at i v) ready.root in
      let short = brief.short in record {
        good = ready.root;
        spelled = stores (roots.spelling (root_at i v)) (block_bytes v) (framed_root (root_at i v) (roots.spelling (root_at i v)) refl short) (omega (arith, short));
      }

  pub volume_bytes : (place : ℕ) → volume_image i v place < 256
  unfolding volume_image
  volume_bytes = are_bytes (roots.spelling (root_at i v)) (block_bytes v) (root_brief.spelling_brief (root_at i v) ready.root).bytes (bytes_small v ready.formed ready.fits)

  pub volume_there : (d : Disks) → d.images v.disk ≡ volume_image i v → read_volume d (placed_of v) (root_at i v) ≡ operations.opened v
  unfolding volume_image
  volume_there d is =
      subst (λ (c : Image). read_volume (record { sizes = d.sizes; images = λ n. c }) (placed_of v) (root_at i v) ≡ operations.opened v) (sym is)
      (volume_seen v ready.formed ready.fits (volume_image i v)
      (λ n one. block_there (roots.spelling (root_at i v)) (block_bytes v) n one (bytes_long v ready.formed ready.fits n)) (record { 0 = i }))

-- ---- the images of the volumes' disks

abbrev pub AreImages : (ℕ → Image) → ℕ → List Volume → Type 0
AreImages images i [] = Unit {0}
AreImages images i (v ∷ vs) = (images v.disk ≡ volume_image i v) × AreImages images (suc i) vs

abbrev pub images_from : ℕ → List Volume → ℕ → Image
images_from i [] n = λ place. 0
images_from i (v ∷ vs) n = if v.disk == n then volume_image i v else images_from (suc i) vs n

same_images : (f g : ℕ → Image) (i : ℕ) (vs : List Volume) → ((u : Volume) → Among vs u → g u.disk ≡ f u.disk) → AreImages f i vs → AreImages g i vs
same_images f g i [] same are = tt
same_images f g i (v ∷ vs) same are = (same v (inl refl) ∙ are.0, same_images f g (suc i) vs (λ u among. same u (inr among)) are.1)

images_found : (i : ℕ) (vs : List Volume) → KeysDiffer disk_of vs → AreImages (images_from i vs) i vs
images_found i [] apart = tt
images_found i (v ∷ vs) apart = (here, same_images (images_from (suc i) vs) (images_from i (v ∷ vs)) (suc i) vs past (images_found (suc i) vs apart.1))
  where
    here : images_from i (v ∷ vs) v.disk ≡ volume_image i v
    here = rw (eq-eqb v.disk v.disk refl) refl

    past : (u : Volume) → Among vs u → images_from i (v ∷ vs) u.disk ≡ images_from (suc i) vs u.disk
    past u among = rw (ne_eqb v.disk u.disk (λ same. among_each (λ (y : Volume). ¬ (disk_of y ≡ disk_of v)) vs u apart.0 among (sym same))) refl

abbrev pub roots_from : ℕ → List Volume → List Root
roots_from i [] = []
roots_from i (v ∷ vs) = root_at i v ∷ roots_from (suc i) vs

-- the volumes from a number on are ready
abbrev pub AreReady : ℕ → List Volume → Type 0
AreReady i [] = Unit {0}
AreReady i (v ∷ vs) = IsReady i v × AreReady (suc i) vs

images_small : (i : ℕ) (vs : List Volume) → AreReady i vs → (n place : ℕ) → images_from i vs n place < 256
images_small i [] ready n place = omega arith
images_small i (v ∷ vs) ready n place = go (v.disk == n) (images_small (suc i) vs ready.1 n place)
  where
    go : (b : Bool) → images_from (suc i) vs n place < 256 → (if b then volume_image i v else images_from (suc i) vs n) place < 256
    go true rest = volume_bytes i v ready.0 place
    go false rest = rest

volumes_read : (d : Disks) (i : ℕ) (vs : List Volume) → AreReady i vs → AreImages d.images i vs → read_volumes d (map placed_of vs) (roots_from i vs) ≡ map operations.opened vs
volumes_read d i [] ready are = refl
volumes_read d i (v ∷ vs) ready are =
    let here = volume_there i v ready.0 d are.0 in
    let rest = volumes_read d (suc i) vs ready.1 are.1 in
    cc

-- ---- relationships

transfer_read : (o : Option Transfer) → restarted (option_map (transfer_of [] false) (option_map standing_of o)) ≡ restarted o
transfer_read None = refl
transfer_read (Some t) = refl

relation_read : (r : Relationship) → read_relation (relation_of r) ≡ rejoined r
relation_read r = ap (λ (o : Option Transfer). let x : Relationship = record r { transfer = o } in x) (transfer_read r.transfer)

relations_read : (rs : List Relationship) → map read_relation (map relation_of rs) ≡ map rejoined rs
relations_read [] = refl
relations_read (r ∷ rs) =
    let here = relation_read r in
    let rest = relations_read rs in
    cc

-- ---- the whole

framed_catalog : (k : Catalog) → length (spelling k) ≤ 218220 → IsFramed (spelling k)
unfolding digits
framed_catalog k short =
    let body = body_bytes k in
    framed_record MAGIC body refl refl (omega (arith, short, length-append MAGIC (digits bits32 (length body) ++ body), length-append (digits bits32 (length body)) body))

module _ (w : Up) (sound : SoundUp w) (room : HasRoom w) where
  the_catalog : IsCatalog (catalog_of w)
  the_catalog = catalog_fits w sound.formed sound.numbers_stand sound.crossed

  catalog_brief : Brief (spelling (catalog_of w)) 218220
  catalog_brief = catalogs.spelling_brief (catalog_of w) the_catalog (λ p among. policy_fits p (sound.formed.policies p among))

  catalog_image : Image
  catalog_image = imaged (spelling (catalog_of w)) (λ n. [])

  images : ℕ → Image
  images n = if n == 0 then catalog_image else images_from 0 w.volumes n

  disks : Disks
  disks = record { sizes = w.disks; images = images }

  ready_from : (i : ℕ) (vs : List Volume) → i + length vs ≤ 32 → ((v : Volume) → Among vs v → Among w.volumes v) → AreReady i vs
  ready_from i [] few there = tt
  ready_from i (v ∷ vs) few there = (
    record {
      formed = formed;
      fits = fits;
      root = root_fits i v formed fits (record {
        number = omega (arith, few);
        family = family_fits w sound.formed sound.numbers_stand v.family (sound.families_stand.given v is);
        idents = λ s among. identity_fits w sound.formed sound.numbers_stand v s (is, among);
        makers = λ s among. maker_fits w sound.formed sound.numbers_stand v s (is, among);
      });
    },
    ready_from (suc i) vs (omega (arith, few)) (λ u among. there u (inr among)),
  )
    where
      is : Among w.volumes v
      is = there v (inl refl)

      formed : FormedVolume v
      formed = sound.formed.volumes v is

      fits : TagsFitIn v
      fits = sound.tags_fit v is

  all_ready : AreReady 0 w.volumes
  all_ready = ready_from 0 w.volumes (let few = sound.formed.few in omega (arith, few)) (λ v among. among)

  are_images : AreImages images 0 w.volumes
  unfolding images
  are_images = same_images (images_from 0 w.volumes) images 0 w.volumes (λ u among. rw (ne_eqb u.disk 0 (room.volumes u among).behind) refl) (images_found 0 w.volumes sound.formed.disks_differ)

  -- ---- the records

  catalog_there : stored (images 0) ≡ Record (spelling (catalog_of w))
  unfolding images catalog_image
  catalog_there =
      let short = catalog_brief.short in
      stores (spelling (catalog_of w)) (λ n. []) (framed_catalog (catalog_of w) short) (omega (arith, short))

  catalog_on : IsCatalogOn disks (catalog_of w)
  unfolding disks
  catalog_on = record {
    size = room.catalog.size;
    is_disk = room.catalog.is_disk;
    room = room.catalog.room;
    shown = subst (ShowsCatalog (catalog_of w)) (sym catalog_there) (the_catalog, refl);
    read = read_again w;
  }

  volume_on : (before : List Placed) (i : ℕ) (v : Volume) → Among w.volumes v → IsReady i v → images v.disk ≡ volume_image i v → ((q : Placed) → Among before q → q.disk.0 ≢ v.disk) → IsVolumeOn disks before i (placed_of v) (root_at i v)
  unfolding disks
  volume_on before i v there ready is alone =
      let has = room.volumes v there in
      let long = has.disk.room in
      let some = ready.formed.some_blocks in
      let logical = ready.formed.room in record {
        size = has.disk.size;
        lies = record { behind = has.behind; is_disk = has.disk.is_disk; alone = alone };
        long = omega (arith, long, some, logical);
        root = subst (λ (c : Image). IsRootOn c (root_at i v)) (sym is) (root_there i v ready);
        room = long;
        numbered = refl;
      }

  volumes_on : (before : List Placed) (i : ℕ) (vs : List Volume) → ((v : Volume) → Among vs v → Among w.volumes v) → KeysDiffer disk_of vs → AreReady i vs → AreImages images i vs
      → ((q : Placed) (v : Volume) → Among before q → Among vs v → q.disk.0 ≢ v.disk) → AreVolumesOn disks before i (map placed_of vs) (roots_from i vs)
  volumes_on before i [] there apart ready are alone = tt
  volumes_on before i (v ∷ vs) there apart ready are alone = (
    volume_on before i v (there v (inl refl)) ready.0 are.0 (λ q among. alone q v among (inl refl)),
    volumes_on (before ++ placed_of v ∷ []) (suc i) vs (λ u among. there u (inr among)) apart.1 ready.1 are.1 (λ q u behind among. later q u among (among_push before (placed_of v) q behind)),
  )
    where
      later : (q : Placed) (u : Volume) → Among vs u → Among before q ⊎ (q ≡ placed_of v) → q.disk.0 ≢ u.disk
      later q u among (inl earlier) = alone q u earlier (inr among)
      later q u among (inr same) = λ e. among_each (λ (y : Volume). ¬ (disk_of y ≡ disk_of v)) vs u apart.0 among (sym e ∙ ap (λ (p : Placed). p.disk.0) same)

  -- ---- what they spell

  world_read : world_of disks (catalog_of w) (roots_from 0 w.volumes) ≡ opened w
  unfolding disks
  world_read =
      ap (λ (vs : List Volume). let x : Up = record (world_of disks (catalog_of w) (roots_from 0 w.volumes)) { volumes = vs } in x) (volumes_read disks 0 w.volumes all_ready are_images)
      ∙ ap (λ (rs : List Relationship). let x : Up = record w { volumes = map operations.opened w.volumes; relations = rs } in x) (relations_read w.relations)

  all_bytes : AreBytes disks
  unfolding disks images catalog_image
  all_bytes n place = go (n == 0)
    where
      go : (b : Bool) → (if b then catalog_image else images_from 0 w.volumes n) place < 256
      go true = are_bytes (spelling (catalog_of w)) (λ k. []) catalog_brief.bytes (λ k i. omega arith) place
      go false = images_small 0 w.volumes all_ready n place

  pub spelled : opened w ≡ w → IsInterim w → IsSpelled w
  unfolding disks
  spelled still interim = record {
    on = disks;
    sizes = refl;
    are_bytes = all_bytes;
    spells = record {
      catalog = catalog_of w;
      roots = roots_from 0 w.volumes;
      read = record {
        catalog = catalog_on;
        volumes = volumes_on [] 0 w.volumes (λ v among. among) sound.formed.disks_differ all_ready are_images (λ q v none among. absurd none);
      };
      is = sym (world_read ∙ still);
      crossed = crossed_blanked w sound;
      shaped = shaped_blanked w sound interim;
    };
  }
