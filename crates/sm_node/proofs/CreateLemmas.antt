-- A node with one more volume, on a disk that was at hand.
use Rattle.std.proofs.Common.{◌≡◌, ◌≢◌, ◌⊎◌, inl, inr, ⊎_elim, ℕ, zero, suc, ◌+◌, ◌<◌, ◌≤◌, true, List, [], ◌∷◌, ◌++◌, length, map, refl, sym, ◌∙◌, ap, subst, Option, Some, None, Result, Ok, Err, length-append, arith}
use Rattle.std.specs.Prelude.{slice_get, slice_set}
use Rattle.std.proofs.lemmas.List.{length-map, length-set, map_push}
use Rattle.std.proofs.lemmas.Option.{same_Some, slice_get_within}
use Rattle.sm_base.specs.declared.faults.Failed.{Failed}
use Rattle.sm_base.specs.declared.limits.TheConstants.{MOST_VOLUMES}
use Rattle.sm_base.specs.declared.numbers.DiskNo.{DiskNo}
use Rattle.sm_base.specs.declared.numbers.Kind.{Kind}
use Rattle.sm_disk.specs.Image.{Image}
use Rattle.sm_disk.specs.Disk.{DiskState, GoesOn}
use Rattle.sm_disk.proofs.Moments.{weaker}
use Rattle.sm_seats.specs.Seats.{GoesWhole}
use Rattle.sm_defs.specs.Volume.{Volume, new_volume}
use Rattle.sm_defs.specs.Words.{Among, KeysDiffer}
use Rattle.sm_defs.specs.World.{Up}
use Rattle.sm_defs.proofs.Keys.{differ_push}
use Rattle.sm_defs.proofs.Members.{get_set, among_push, among_left, among_last}
use Rattle.sm_model.specs.Answers.{volno}
use Rattle.sm_model.specs.OfVolumes.{with_new_volume}
use Rattle.sm_register.specs.Registered.{Registered}
use Rattle.sm_register.specs.Commits as commits
use Rattle.sm_catroot.specs.declared.placed.Placed.{Placed}
use Rattle.sm_catroot.specs.Catalog.{Catalog}
use Rattle.sm_catroot.specs.Kept.{ShowsCatalog}
use Rattle.sm_volume.specs.Mounted.{Mounted}
use Rattle.sm_volume.specs.Shown.{Shows}
use Rattle.sm_node.specs.Seats.{Seated, disk_number, device, IsAtSeat}
use Rattle.sm_node.specs.Nodes.{Node, placed, all_placed, world_with, world_of, numbers, LieOn, IsLaidOut, IsNode}
use Rattle.sm_node.specs.Parts.{place_of, devices, part, StandsUp}
use Rattle.sm_node.specs.Creating.{with_place, IsMade}
use Rattle.sm_seats.proofs.Lists.{one_value, last_or}
use Rattle.sm_node.proofs.Lists.{get_set_other, get_set_same}
use Rattle.sm_node.proofs.Worlds.{catalog_kept, shows_placed}
use Rattle.sm_node.proofs.SeatLemmas.{shown_up, parts_now}
use Rattle.sm_node.proofs.Fallen.{root_none}

-- the world with one more volume
placed_more : {D : Type 0} (ps : List Placed) (ss : List (Seated D)) (p : Placed) (s : Seated D) → length ps ≡ length ss → all_placed (ps ++ p ∷ []) (ss ++ s ∷ []) ≡ all_placed ps ss ++ placed p s.volume ∷ []
unfolding all_placed
placed_more [] [] p s e = refl
placed_more [] (t ∷ ss) p s e = absurd (omega (arith, e))
placed_more (q ∷ ps) [] p s e = absurd (omega (arith, e))
placed_more (q ∷ ps) (t ∷ ss) p s e = ap (λ (vs : List Volume). placed q t.volume ∷ vs) (placed_more ps ss p s (omega (arith, e)))

-- one more place and one more disk
lie_more : (ps : List Placed) (ds : List ℕ) (p : Placed) (d : ℕ) → length ps ≡ length ds → p.disk.0 ≡ d → LieOn ps ds → LieOn (ps ++ p ∷ []) (ds ++ d ∷ [])
lie_more ps ds p d long here lie = λ i q k e f. ⊎_elim
    (λ old. ⊎_elim
    (λ also. lie i q k old.1 also.1)
    (λ last. absurd (let l = old.0 in let j = last.0 in omega (arith, l, j, long)))
    (last_or ds d i k f))
    (λ new. ⊎_elim
    (λ also. absurd (let l = also.0 in let j = new.0 in omega (arith, l, j, long)))
    (λ last. ap (λ (x : Placed). x.disk.0) (sym new.1) ∙ here ∙ last.1)
    (last_or ds d i k f))
    (last_or ps p i q e)

-- one more disk, behind those of the places
lie_behind : (ps : List Placed) (ds : List ℕ) (d : ℕ) → length ps ≤ length ds → LieOn ps ds → LieOn ps (ds ++ d ∷ [])
lie_behind ps ds d long lie = λ i q k e f. ⊎_elim
    (λ old. lie i q k e old.1)
    (λ last. absurd (let l = slice_get_within ps i q e in let j = last.0 in omega (arith, l, j, long)))
    (last_or ds d i k f)

module _ {D : Type 0} (state : D → DiskState) (n : Node D) (h : StandsUp state n) (few : length n.seats < MOST_VOLUMES) (disk : DiskNo) (blank : D) (there : slice_get n.spares disk.0 ≡ Some (Some blank))
    (path : List ℕ) (kind : Kind) (logical physical : ℕ) (m : Mounted D) (made : IsMade state blank (length n.seats) kind logical physical m)
    (root : Registered D Catalog) (next : Catalog) (next_is : next ≡ with_place n.root.held path disk) (r : Result (Unit {0}) Failed) (c : commits.Commits state ShowsCatalog n.root next r root) where
  abbrev p : Placed
  p = record { path = path; disk = disk }

  abbrev seat : Seated D
  seat = record { disk = disk.0; volume = m }

  pub m_up : m.up ≡ true
  m_up = ap (λ (y : Mounted D). y.up) made.is

  pub places : next.volumes ≡ n.root.held.volumes ++ record { path = path; disk = disk } ∷ []
  places = ap (λ (k : Catalog). k.volumes) next_is

  more : length (n.seats ++ seat ∷ []) ≡ length n.seats + 1
  more = length-append n.seats (seat ∷ [])

  pub as_many : length next.volumes ≡ length (n.seats ++ (record { disk = disk.0; volume = m }) ∷ [])
  as_many = let one = ap length places ∙ length-append n.root.held.volumes (p ∷ []) in let all = h.up.as_many in let two = more in omega (arith, one, all, two)

  pub count : length (world_of n).volumes ≡ length n.seats
  count = sym (length-map (world_of n).volumes place_of) ∙ sym (ap length (catalog_kept n.root.held n.seats n.lengths h.node.as_many).volumes) ∙ h.up.as_many

  seat_count : length (map device n.seats) ≡ length n.seats
  seat_count = length-map n.seats device

  volumes_more : (world_with next (n.seats ++ seat ∷ []) n.lengths).volumes ≡ (world_of n).volumes ++ placed p m ∷ []
  volumes_more = ap (λ (ps : List Placed). all_placed ps (n.seats ++ seat ∷ [])) places ∙ placed_more n.root.held.volumes n.seats p seat h.up.as_many

  pub world_is : world_with next (n.seats ++ (record { disk = disk.0; volume = m }) ∷ []) n.lengths ≡ with_new_volume (world_of n) (new_volume path disk.0 kind (length (world_of n).volumes) logical physical)
  world_is =
      let volume_is : placed p m ≡ new_volume path disk.0 kind (length (world_of n).volumes) logical physical =
      ap (λ (y : Mounted D). placed p y) made.is ∙ ap (λ (k : ℕ). new_volume path disk.0 kind k logical physical) (sym count) in
      ap (λ (k : Catalog). let w : Up = record (world_with k (n.seats ++ seat ∷ []) n.lengths) { volumes = (world_with next (n.seats ++ seat ∷ []) n.lengths).volumes } in w) next_is
      ∙ ap (λ (vs : List Volume). let w : Up = record (world_of n) { volumes = vs } in w) (volumes_more ∙ ap (λ (v : Volume). (world_of n).volumes ++ v ∷ []) volume_is)

  -- ---- the crash clause

  -- no volume of the world before lies on the new seat
  nobody : (c : Image) → part (world_of n) (suc (length (map device n.seats))) c
  unfolding part
  nobody c = λ v f. absurd (let l = slice_get_within (world_of n).volumes (length (map device n.seats)) v f in let k = count in let j = seat_count in omega (arith, l, k, j))

  rest : (d : ℕ) → d ≢ 0 → d < suc (length (map device n.seats)) → (c : Image) → part (world_of n) d c → part (world_with next (n.seats ++ seat ∷ []) n.lengths) d c
  unfolding part
  rest zero ne lt c shown = absurd (ne refl)
  rest (suc i) ne lt c shown = λ v f. ⊎_elim
      (λ old. shown v old.1)
      (λ last. absurd (let e = last.0 in let k = count in let j = seat_count in omega (arith, e, k, j, lt)))
      (last_or (world_of n).volumes (placed p m) i v (ap (λ (vs : List Volume). slice_get vs i) (sym volumes_more) ∙ f))

  new_shows : (c : Image) → (state m.disk).may_leave c → part (world_with next (n.seats ++ seat ∷ []) n.lengths) (suc (length (map device n.seats))) c
  unfolding part
  new_shows c may = λ v f.
      let i = length (map device n.seats) in
      let one = shown_up state m made.kept m_up c may in
      let numbered : m.number ≡ volno i = ap (λ (y : Mounted D). y.number) made.is ∙ ap volno (sym seat_count) in
      let shown : Shows (volno i) (placed p m) c = shows_placed (volno i) p m.volume c (subst (λ k. Shows k m.volume c) numbered one.shows) in
      ⊎_elim
      (λ old. absurd (let l = old.0 in let k = count in let j = seat_count in omega (arith, l, k, j)))
      (λ last. subst (λ (u : Volume). Shows (volno i) u c) last.1 shown)
      (last_or (world_of n).volumes (placed p m) i v (ap (λ (vs : List Volume). slice_get vs i) (sym volumes_more) ∙ f))

  root_goes : GoesOn (state n.root.disk) (state root.disk) (λ x. part (world_of n) 0 x ⊎ part (world_with next (n.seats ++ seat ∷ []) n.lengths) 0 x)
  unfolding part
  root_goes = weaker (state n.root.disk) (state root.disk) _ _ c.any_moment (λ x either. ⊎_elim
      (λ old. inl (record { catalog = n.root.held; shown = old.shown; is = catalog_kept n.root.held n.seats n.lengths h.node.as_many }))
      (λ new. inr (record { catalog = next; shown = new.shown; is = catalog_kept next (n.seats ++ seat ∷ []) n.lengths (let e = as_many in omega (arith, e)) }))
      either)

  goes_whole : GoesWhole state 0 (part (world_of n)) (part (world_with next (n.seats ++ seat ∷ []) n.lengths)) (devices n ++ blank ∷ []) (root.disk ∷ map device (n.seats ++ seat ∷ []))
  goes_whole =
      subst (λ (ds : List D). GoesWhole state 0 (part (world_of n)) (part (world_with next (n.seats ++ seat ∷ []) n.lengths)) (devices n ++ blank ∷ []) (root.disk ∷ ds)) (sym (map_push device n.seats seat))
      (h.one_is_added (world_of n) (world_with next (n.seats ++ seat ∷ []) n.lengths) n.root.disk root.disk (map device n.seats) blank m.disk (record {
        start = parts_now state n h;
        nobody = nobody;
        formats = weaker (state blank) (state m.disk) _ (part (world_of n) (suc (length (map device n.seats)))) made.formatted.any_moment (λ image like. nobody image);
        commits = root_goes;
        rest = rest;
        made = new_shows;
      }))

  pub create_whole : GoesWhole state 0 (part (world_of n)) (part (with_new_volume (world_of n) (new_volume path disk.0 kind (length (world_of n).volumes) logical physical))) (devices n ++ blank ∷ []) (root.disk ∷ map device (n.seats ++ (record { disk = disk.0; volume = m }) ∷ []))
  create_whole = subst (λ (w : Up). GoesWhole state 0 (part (world_of n)) (part w) (devices n ++ blank ∷ []) (root.disk ∷ map device (n.seats ++ seat ∷ []))) world_is goes_whole

  -- ---- the node

  all_numbers : numbers (n.seats ++ seat ∷ []) ≡ numbers n.seats ++ disk.0 ∷ []
  all_numbers = ap (λ (ns : List ℕ). 0 ∷ ns) (map_push disk_number n.seats seat)

  -- its number is that of no disk in use
  is_new : (k : ℕ) → Among (numbers n.seats) k → k ≢ disk.0
  is_new k a e = let taken = h.node.laid_out.taken k a in let bad : Some None ≡ Some (Some blank) = sym taken ∙ ap (λ (j : ℕ). slice_get n.spares j) e ∙ there in absurd (cc)

  laid_out : IsLaidOut (n.seats ++ seat ∷ []) (slice_set n.spares disk.0 None) n.lengths
  laid_out =
      let is = h.node.laid_out in
      let long = length-set n.spares disk.0 None in
      let at = slice_get_within n.spares disk.0 (Some blank) there in
      record {
        as_many = long ∙ is.as_many;
        apart = subst (λ (ns : List ℕ). KeysDiffer (λ (k : ℕ). k) ns) (sym all_numbers) (differ_push (λ (k : ℕ). k) (numbers n.seats) disk.0 is.apart is_new);
        within = λ k a. ⊎_elim
            (λ old. let lt = is.within k old in omega (arith, lt, long))
            (λ new. omega (arith, at, new, long))
            (among_push (numbers n.seats) disk.0 k (subst (λ (ns : List ℕ). Among ns k) all_numbers a));
        taken = λ k a. ⊎_elim
            (λ old. get_set_other n.spares disk.0 k None (is_new k old) ∙ is.taken k old)
            (λ new. subst (λ (j : ℕ). slice_get (slice_set n.spares disk.0 None) j ≡ Some None) (sym new) (get_set_same n.spares disk.0 None at))
            (among_push (numbers n.seats) disk.0 k (subst (λ (ns : List ℕ). Among ns k) all_numbers a));
        left = λ k e. subst (λ (ns : List ℕ). Among ns k) (sym all_numbers) (⊎_elim
            (λ here. subst (λ (j : ℕ). Among (numbers n.seats ++ disk.0 ∷ []) j) (sym here.0) (among_last (numbers n.seats) disk.0))
            (λ old. among_left (numbers n.seats) (disk.0 ∷ []) k (is.left k old))
            (get_set n.spares disk.0 None k None e));
      }

  number_count : length (map disk_number n.seats) ≡ length n.seats
  number_count = length-map n.seats disk_number

  next_placed : LieOn next.volumes (map disk_number (n.seats ++ seat ∷ []))
  next_placed =
      subst (λ (ps : List Placed). LieOn ps (map disk_number (n.seats ++ seat ∷ []))) (sym places)
      (subst (λ (ks : List ℕ). LieOn (n.root.held.volumes ++ p ∷ []) ks) (sym (map_push disk_number n.seats seat))
      (lie_more n.root.held.volumes (map disk_number n.seats) p disk.0 (h.up.as_many ∙ sym number_count) refl h.node.placed))

  old_placed : LieOn n.root.held.volumes (map disk_number (n.seats ++ seat ∷ []))
  old_placed =
      subst (λ (ks : List ℕ). LieOn n.root.held.volumes ks) (sym (map_push disk_number n.seats seat))
      (lie_behind n.root.held.volumes (map disk_number n.seats) disk.0 (let all = h.up.as_many in let k = number_count in omega (arith, all, k)) h.node.placed)

  seated : (i : ℕ) (s : Seated D) → slice_get (n.seats ++ seat ∷ []) i ≡ Some s → IsAtSeat state i s
  seated i s e = ⊎_elim
      (λ old. h.node.seated i s old.1)
      (λ new. subst (λ (t : Seated D). IsAtSeat state i t) new.1 (record { kept = made.kept; numbered = ap (λ (y : Mounted D). y.number) made.is ∙ ap volno (sym new.0) }))
      (last_or n.seats seat i s e)

  seats_long : (i : ℕ) (s : Seated D) → slice_get (n.seats ++ seat ∷ []) i ≡ Some s → slice_get n.lengths s.disk ≡ Some (state (device s)).size
  seats_long i s e = ⊎_elim
      (λ old. h.node.long.seats i s old.1)
      (λ new. subst (λ (t : Seated D). slice_get n.lengths t.disk ≡ Some (state (device t)).size) new.1 (h.node.long.spares disk.0 blank there ∙ ap Some (sym made.formatted.any_moment.size)))
      (last_or n.seats seat i s e)

  spares_long : (k : ℕ) (x : D) → slice_get (slice_set n.spares disk.0 None) k ≡ Some (Some x) → slice_get n.lengths k ≡ Some (state x).size
  spares_long k x e = ⊎_elim
      (λ here. absurd (let bad : Some x ≡ None = here.1 in cc))
      (λ old. h.node.long.spares k x old)
      (get_set n.spares disk.0 None k (Some x) e)

  held_by : (q : Result (Unit {0}) Failed) → commits.Commits state ShowsCatalog n.root next q root → (length root.held.volumes ≤ length (n.seats ++ seat ∷ [])) × LieOn root.held.volumes (map disk_number (n.seats ++ seat ∷ [])) × ((k : Catalog) → root.after ≡ Some k → LieOn k.volumes (map disk_number (n.seats ++ seat ∷ [])))
  held_by (Ok done) d =
      let held = ap (λ (x : Registered D Catalog). x.held) d.ok in (
        let e = ap (λ (k : Catalog). length k.volumes) held in let all = as_many in omega (arith, e, all),
        subst (λ (k : Catalog). LieOn k.volumes (map disk_number (n.seats ++ seat ∷ []))) (sym held) next_placed,
        λ k e. absurd (let bad : None ≡ Some k = sym (root_none state n h) ∙ sym (ap (λ (x : Registered D Catalog). x.after) d.ok) ∙ e in cc),
      )
  held_by (Err failed) d =
      let held = ap (λ (x : Registered D Catalog). x.held) d.fault in (
        let e = ap (λ (k : Catalog). length k.volumes) held in let all = h.up.as_many in let two = more in omega (arith, e, all, two),
        subst (λ (k : Catalog). LieOn k.volumes (map disk_number (n.seats ++ seat ∷ []))) (sym held) old_placed,
        λ k e. subst (λ (j : Catalog). LieOn j.volumes (map disk_number (n.seats ++ seat ∷ []))) (same_Some next k (sym (ap (λ (x : Registered D Catalog). x.after) d.fault) ∙ e)) next_placed,
      )

  pub create_node : IsNode state (record n { root = root; seats = n.seats ++ (record { disk = disk.0; volume = m }) ∷ []; spares = slice_set n.spares disk.0 None })
  create_node = record {
    as_many = (held_by r c).0;
    few = let two = more in omega (arith, two, few);
    seated = seated;
    laid_out = laid_out;
    placed = (held_by r c).1;
    placed_after = (held_by r c).2;
    long = record {
      root = h.node.long.root ∙ ap Some (sym c.any_moment.size);
      seats = seats_long;
      spares = spares_long;
    };
  }
