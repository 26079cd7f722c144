-- A volume beside its disk before and after a call.
use Rattle.std.proofs.Common.{◌≡◌, inl, inr, ⊎_elim, ℕ, ◌-◌, ◌||◌, Bool, true, false, List, [], map, refl, sym, ap, ◌∙◌, subst, Option, Some, None, option_map, Result, Ok, Err, OnOk}
use Rattle.sm_base.specs.declared.numbers.VolNo.{VolNo}
use Rattle.sm_defs.specs.Image.{stands}
use Rattle.sm_defs.specs.Volume.{Volume}
use Rattle.sm_disk.specs.Image as disk
use Rattle.sm_disk.specs.Disk.{DiskState}
use Rattle.sm_disk.proofs.Moments.{weaker}
use Rattle.sm_root.specs.declared.root.Root.{Root}
use Rattle.sm_root.specs.Condition.{map_of, maps_of}
use Rattle.volume_store.specs.declared.faults.VolumeFault.{VolumeFault}
use Rattle.volume_store.specs.Held.{Held}
use Rattle.volume_store.specs.Held as store
use Rattle.volume_store.specs.Commits as store_commits
use Rattle.volume_store.specs.Maps.{Maps, uses}
use Rattle.sm_volume.specs.Seen.{volume_of}
use Rattle.sm_volume.specs.Mounted.{Mounted, mounted, opened}
use Rattle.sm_volume.specs.Shown.{Selects, SameBlocks, KeepsBlocks, NoBlock}
use Rattle.sm_volume.specs.Commits.{Commits, BeforeOrAfter}
use Rattle.sm_volume.proofs.BlockLemmas.{bytes_same, volume_used, volume_kept, keeps_all}

-- stable maps alone use what the root uses
of_root : (root : Root) (k : ℕ) (b : Bool) → (stands k root.stable || b) ≡ true → b ≡ uses (maps_of root) k → uses (maps_of root) k ≡ true
of_root root k b h e = by (stands k root.stable) (uses (map map_of root.snapshots) k) b h e
  where
    by : (a r b : Bool) → (a || b) ≡ true → b ≡ (a || r) → (a || r) ≡ true
    by true r b h e = refl
    by false r b h e = sym e ∙ h

pub seen_again : (path : List ℕ) (number selected : ℕ) (m : Maps) (d c : disk.Image) → store.Shows selected m.root d c → volume_of path number c (store.restarted m) ≡ opened (volume_of path number d m)
seen_again path number selected m d c shown = volume_used path number d c (store.restarted m) (λ k h. bytes_same d c k (λ from. shown.blocks k from (of_root m.root k (uses (maps_of m.root) k) h refl)))

-- an image that shows the root shows the volume
pub shows_seen : (path : List ℕ) (number selected : ℕ) (m : Maps) (d c : disk.Image) → store.Shows selected m.root d c → Selects selected m.root.number (volume_of path number d m) c
shows_seen path number selected m d c shown = record {
  state = shown.selects.slot;
  shows = record {
    root = m.root;
    is_root = record { good = shown.good; spelled = shown.selects.stored };
    numbered = refl;
    same = seen_again path number selected m d c shown;
  };
}

-- the disk went on, and no block changed
pub moved : {D : Type 0} (state : D → DiskState) (h : Held D) (later : D) → SameBlocks NoBlock (state h.disk).seen (state later).seen → mounted state (record h { disk = later }) ≡ record (mounted state h) { disk = later }
moved state h later same =
    let build : Volume → Option Volume → Mounted _ = λ v after. record { disk = later; number = h.maps.root.number; selected = h.number; volume = v; after = after; up = h.up } in
    let v = volume_kept [] 0 (state h.disk).seen (state later).seen h.maps same in
    ap (λ (x : Volume). build x (option_map (volume_of [] 0 (state later).seen) h.after)) v ∙ ap (build (volume_of [] 0 (state h.disk).seen h.maps)) (after_kept h.after)
  where
    after_kept : (o : Option Maps) → option_map (volume_of [] 0 (state later).seen) o ≡ option_map (volume_of [] 0 (state h.disk).seen) o
    after_kept None = refl
    after_kept (Some m) = ap Some (volume_kept [] 0 (state h.disk).seen (state later).seen m same)

-- the clauses of a commit, of the volume that is seen
module _ {D : Type 0} (state : D → DiskState) (old new : Held D) (next : Maps) (v : Volume) (result : Result (Unit {0}) VolumeFault)
    (number : next.root.number ≡ old.maps.root.number) (is : volume_of [] 0 (state old.disk).seen next ≡ v) (h : store_commits.Commits state old next result new) where
  kept : KeepsBlocks NoBlock (state old.disk) (state new.disk)
  kept = keeps_all (state old.disk) (state new.disk) h.spared

  done : new ≡ record old { disk = new.disk; maps = next; number = 1 - old.number } → mounted state new ≡ record (mounted state old) { disk = new.disk; volume = v; selected = 1 - old.number }
  done e =
      let build : VolNo → Volume → Mounted D = λ n x. record { disk = new.disk; number = n; selected = 1 - old.number; volume = x; after = option_map (volume_of [] 0 (state old.disk).seen) old.after; up = old.up } in
      ap (mounted state) e ∙ moved state (record old { maps = next; number = 1 - old.number }) new.disk kept.seen
      ∙ ap (λ (n : VolNo). build n (volume_of [] 0 (state old.disk).seen next)) number ∙ ap (build old.maps.root.number) is

  failed : new ≡ record old { disk = new.disk; after = Some next; up = false } → mounted state new ≡ record (mounted state old) { disk = new.disk; after = Some v; up = false }
  failed e =
      let build : Volume → Mounted D = λ x. record { disk = new.disk; number = old.maps.root.number; selected = old.number; volume = volume_of [] 0 (state old.disk).seen old.maps; after = Some x; up = false } in
      ap (mounted state) e ∙ moved state (record old { after = Some next; up = false }) new.disk kept.seen ∙ ap build is

  either : (c : disk.Image) → store_commits.BeforeOrAfter state old next c → BeforeOrAfter (mounted state old) v c
  either c shown = ⊎_elim
      (λ before. inl (shows_seen [] 0 old.number old.maps (state old.disk).seen c before))
      (λ after. inr (subst (λ (x : Volume). Selects (1 - old.number) old.maps.root.number x c) is
      (subst (λ (n : VolNo). Selects (1 - old.number) n (volume_of [] 0 (state old.disk).seen next) c) number (shows_seen [] 0 (1 - old.number) next (state old.disk).seen c after))))
      shown

  on_ok : (r : Result (Unit {0}) VolumeFault) → OnOk r (new ≡ record old { disk = new.disk; maps = next; number = 1 - old.number })
      → OnOk r (mounted state new ≡ record (mounted state old) { disk = new.disk; volume = v; selected = 1 - old.number })
  on_ok (Ok u) e = done e
  on_ok (Err x) e = tt

  pub commits_seen : Commits state (mounted state old) v result (mounted state new)
  commits_seen = record {
    ok = on_ok result h.ok;
    fault = λ e. failed (h.fault e);
    counted = h.counted;
    refused = λ f e other. ap (mounted state) (h.refused f e other);
    any_moment = weaker (state old.disk) (state new.disk) (store_commits.BeforeOrAfter state old next) (BeforeOrAfter (mounted state old) v) h.any_moment either;
    blocks = kept;
  }
