-- The creation of a volume as an event, by what its calls answered.
use Rattle.std.proofs.Common.{◌≡◌, ◌≢◌, ◌⊎◌, inl, inr, ⊎_elim, ℕ, zero, suc, ◌+◌, ◌<◌, ◌≤◌, true, List, [], ◌∷◌, ◌++◌, length, map, refl, sym, ◌∙◌, ap, subst, Option, Some, None, Result, Ok, Err, length-append, arith}
use Rattle.std.specs.Prelude.{slice_get, slice_set}
use Rattle.std.proofs.lemmas.List.{length-set, map_push}
use Rattle.std.proofs.lemmas.Option.{same_Some, slice_get_within}
use Rattle.sm_base.specs.declared.faults.Failed.{Failed}
use Rattle.sm_base.specs.declared.limits.TheConstants.{MOST_VOLUMES}
use Rattle.sm_base.specs.declared.numbers.DiskNo.{DiskNo}
use Rattle.sm_base.specs.declared.numbers.Kind.{Kind}
use Rattle.sm_disk.specs.Disk.{DiskState, IsCounted}
use Rattle.sm_defs.specs.Volume.{Volume, new_volume}
use Rattle.sm_defs.specs.Words.{Among}
use Rattle.sm_defs.specs.World.{Up}
use Rattle.sm_defs.proofs.Members.{get_set}
use Rattle.sm_model.specs.declared.reply.Reply.{Reply}
use Rattle.sm_model.specs.declared.reply.Reply.TheVariants as replies
use Rattle.sm_model.specs.Answers.{Answer, volno}
use Rattle.sm_model.specs.OfVolumes.{with_new_volume}
use Rattle.sm_register.specs.Registered.{Registered}
use Rattle.sm_register.specs.Commits as commits
use Rattle.sm_catroot.specs.declared.placed.Placed.{Placed}
use Rattle.sm_catroot.specs.Catalog.{Catalog}
use Rattle.sm_catroot.specs.Kept.{ShowsCatalog}
use Rattle.sm_volume.specs.Mounted.{Mounted}
use Rattle.sm_shape.specs.Blanked.{blanked}
use Rattle.sm_node.specs.declared.fault.NodeFault.{NodeFault}
use Rattle.sm_node.specs.declared.fault.NodeFault.TheVariants.{Down, NoMemory as OutOfMemory}
use Rattle.sm_node.specs.Seats.{Seated, disk_number, AllUp}
use Rattle.sm_node.specs.Nodes.{Node, numbers, world_with, world_of, IsNode}
use Rattle.sm_node.specs.Parts.{devices, StandsUp}
use Rattle.sm_node.specs.Pending.{later, ahead, NonePending, IsLeftOpen}
use Rattle.sm_node.specs.Moves.{commit_answer}
use Rattle.sm_node.specs.Blocks.{ChangesNewBlocks}
use Rattle.sm_node.specs.Acts.{IsFallen, GoesThrough, reached_of, Acts}
use Rattle.sm_node.specs.Creating.{created, with_place, Takes, IsMade, IsUnmade}
use Rattle.sm_seats.proofs.Lists.{last_or}
use Rattle.sm_node.proofs.ButBytesLemmas.{reply_itself}
use Rattle.sm_node.proofs.Lists.{get_set_other, get_set_same, set_again}
use Rattle.sm_node.proofs.BlockLemmas.{none_changed, one_joined}
use Rattle.sm_node.proofs.SeatLemmas.{parts_now}
use Rattle.sm_node.proofs.Fallen.{ahead_same, none_pending, root_none, no_after}
use Rattle.sm_node.proofs.Returned.{placed_front}
use Rattle.sm_node.proofs.CatalogCalls.{starved}
use Rattle.sm_node.proofs.CreateLemmas.{as_many, count, world_is, create_whole, create_node}

module _ {D : Type 0} (state : D → DiskState) (n : Node D) (h : StandsUp state n) (few : length n.seats < MOST_VOLUMES) (disk : DiskNo) (blank : D) (there : slice_get n.spares disk.0 ≡ Some (Some blank))
    (path : List ℕ) (kind : Kind) (logical physical : ℕ) where
  -- ---- the volume was made

  module _ (m : Mounted D) (made : IsMade state blank (length n.seats) kind logical physical m) (root : Registered D Catalog) (next : Catalog) (next_is : next ≡ with_place n.root.held path disk) where
    abbrev seat : Seated D
    seat = record { disk = disk.0; volume = m }

    more : length (n.seats ++ seat ∷ []) ≡ length n.seats + 1
    more = length-append n.seats (seat ∷ [])

    all_up : m.up ≡ true → AllUp (n.seats ++ seat ∷ [])
    all_up up = λ i s e. ⊎_elim (λ old. h.up.volumes i s old.1) (λ last. subst (λ (t : Seated D). t.volume.up ≡ true) last.1 up) (last_or n.seats seat i s e)

    none : NonePending (n.seats ++ seat ∷ [])
    none = λ i s e. ⊎_elim (λ old. none_pending state n h i s old.1) (λ last. subst (λ (t : Seated D). t.volume.after ≡ None) last.1 (ap (λ (y : Mounted D). y.after) made.is)) (last_or n.seats seat i s e)

    blocks : ChangesNewBlocks state (world_of n) (reached_of (world_of n) (created (world_of n) path disk kind logical physical)) n (record n { root = root; seats = n.seats ++ (record { disk = disk.0; volume = m }) ∷ []; spares = slice_set n.spares disk.0 None })
    blocks = one_joined state (world_of n) (reached_of (world_of n) (created (world_of n) path disk kind logical physical)) n seat blank there made.formatted (record n { root = root; seats = n.seats ++ (record { disk = disk.0; volume = m }) ∷ []; spares = slice_set n.spares disk.0 None }) refl

    module _ (r : Result (Unit {0}) Failed) (c : commits.Commits state ShowsCatalog n.root next r root) where
      whole : GoesThrough state (world_of n) (reached_of (world_of n) (created (world_of n) path disk kind logical physical)) n (record n { root = root; seats = n.seats ++ (record { disk = disk.0; volume = m }) ∷ []; spares = slice_set n.spares disk.0 None })
      whole = GoesThrough.joins disk.0 blank there (map_push disk_number n.seats seat) (create_whole state n h few disk blank there path kind logical physical m made root next next_is r c)

      world : world_with next (n.seats ++ seat ∷ []) n.lengths ≡ with_new_volume (world_of n) (new_volume path disk.0 kind (length (world_of n).volumes) logical physical)
      world = world_is state n h few disk blank there path kind logical physical m made root next next_is r c

      long : length next.volumes ≡ length (n.seats ++ seat ∷ [])
      long = as_many state n h few disk blank there path kind logical physical m made root next next_is r c

    done : (u : Unit {0}) → commits.Commits state ShowsCatalog n.root next (Ok u) root → Acts state (created (world_of n) path disk kind logical physical) n (Ok (replies.Created (volno (length (world_of n).volumes))))
        (record n { root = root; seats = n.seats ++ (record { disk = disk.0; volume = m }) ∷ []; spares = slice_set n.spares disk.0 None })
    done u c =
        let now = ap (λ (x : Registered D Catalog). world_with x.held (n.seats ++ seat ∷ []) n.lengths) c.ok ∙ world (Ok u) c in
        record {
          up = record {
            root = ap (λ (x : Registered D Catalog). x.up) c.ok ∙ h.up.root;
            as_many = ap (λ (x : Registered D Catalog). length x.held.volumes) c.ok ∙ long (Ok u) c;
            volumes = all_up (ap (λ (y : Mounted D). y.up) made.is);
          };
          answered = λ told. (refl, now);
          without_bytes = (reply_itself (replies.Created (volno (length (world_of n).volumes))), ap blanked now);
          failed = λ other count e. absurd (cc);
          unchanged = λ e. absurd (cc);
          blocks = blocks;
          whole = whole (Ok u) c;
        }

    fallen : (f : Failed) → commits.Commits state ShowsCatalog n.root next (Err f) root → IsFallen (created (world_of n) path disk kind logical physical) n
        (record n { root = root; seats = n.seats ++ (record { disk = disk.0; volume = m }) ∷ []; spares = slice_set n.spares disk.0 None })
    fallen f c = record {
      before = ap (λ (x : Registered D Catalog). world_with x.held (n.seats ++ seat ∷ []) n.lengths) c.fault
          ∙ ap (λ (vs : List Volume). let w : Up = record (world_of n) { volumes = vs } in w) (placed_front n.root.held.volumes n.seats seat h.node.as_many);
      after = inl (
          ap (λ (ss : List (Seated D)). world_with (later root.after root.held) ss n.lengths) (ahead_same (n.seats ++ seat ∷ []) none)
          ∙ ap (λ (x : Registered D Catalog). world_with (later x.after x.held) (n.seats ++ seat ∷ []) n.lengths) c.fault
          ∙ world (Err f) c
          );
    }

    left_open : (f : Failed) → commits.Commits state ShowsCatalog n.root next (Err f) root → IsLeftOpen 0 (record n { root = root; seats = n.seats ++ (record { disk = disk.0; volume = m }) ∷ []; spares = slice_set n.spares disk.0 None })
    left_open f c = record {
      decided = record {
        root = λ ne. absurd (ne refl);
        volumes = λ i s e ne. none i s e;
      };
      long = record {
        held = let all = ap (λ (x : Registered D Catalog). length x.held.volumes) c.fault ∙ h.up.as_many in let one = more in omega (arith, all, one);
        after = λ k e. ap (λ (j : Catalog). length j.volumes) (sym (same_Some next k (sym (ap (λ (x : Registered D Catalog). x.after) c.fault) ∙ e))) ∙ long (Err f) c;
      };
    }

    not_done : (f : Failed) → commits.Commits state ShowsCatalog n.root next (Err f) root → Acts state (created (world_of n) path disk kind logical physical) n (Err (Down (record { 0 = 0 }) (state root.disk).faults))
        (record n { root = root; seats = n.seats ++ (record { disk = disk.0; volume = m }) ∷ []; spares = slice_set n.spares disk.0 None })
    not_done f c = record {
      up = tt;
      answered = tt;
      without_bytes = tt;
      failed = λ other k e. record {
        allowed = tt;
        failed = inl (record {
          seat = 0;
          named = let zero_disk : DiskNo = record { 0 = 0 } in let same : zero_disk ≡ other = cc in ap (λ (x : DiskNo). x.0) (sym same);
          old = n.root.disk;
          new = root.disk;
          was = refl;
          is = refl;
          counted = c.counted;
          counts = let same : (state root.disk).faults ≡ k = cc in sym same;
        });
        fallen = fallen f c;
        left_open = left_open f c;
      };
      unchanged = λ e. absurd (cc);
      blocks = blocks;
      whole = whole (Err f) c;
    }

    by_result : (r : Result (Unit {0}) Failed) → commits.Commits state ShowsCatalog n.root next r root → Acts state (created (world_of n) path disk kind logical physical) n (commit_answer (replies.Created (volno (length (world_of n).volumes))) (state root.disk).faults r)
        (record n { root = root; seats = n.seats ++ (record { disk = disk.0; volume = m }) ∷ []; spares = slice_set n.spares disk.0 None })
    by_result (Ok u) c = done u c
    by_result (Err f) c = not_done f c

    pub made_acts : length (world_of n).volumes ≡ length n.seats → (R : Result Reply NodeFault)
        → (r : Result (Unit {0}) Failed) × (R ≡ commit_answer (replies.Created (volno (length n.seats))) (state root.disk).faults r) × commits.Commits state ShowsCatalog n.root next r root
        → Acts state (created (world_of n) path disk kind logical physical) n R (record n { root = root; seats = n.seats ++ (record { disk = disk.0; volume = m }) ∷ []; spares = slice_set n.spares disk.0 None })
    made_acts many R did =
        subst (λ (x : Result Reply NodeFault). Acts state (created (world_of n) path disk kind logical physical) n x (record n { root = root; seats = n.seats ++ (record { disk = disk.0; volume = m }) ∷ []; spares = slice_set n.spares disk.0 None }))
        (sym (did.1 ∙ ap (λ (k : ℕ). commit_answer (replies.Created (volno k)) (state root.disk).faults did.0) (sym many))) (by_result did.0 did.2)

    pub made_node : (r : Result (Unit {0}) Failed) → commits.Commits state ShowsCatalog n.root next r root → IsNode state (record n { root = root; seats = n.seats ++ (record { disk = disk.0; volume = m }) ∷ []; spares = slice_set n.spares disk.0 None })
    made_node r c = create_node state n h few disk blank there path kind logical physical m made root next next_is r c

  -- ---- it was not made: the disk is put back

  module _ (back : D) where
    pub set_back : slice_set (slice_set n.spares disk.0 None) disk.0 (Some back) ≡ slice_set n.spares disk.0 (Some back)
    set_back = go n.spares disk.0
      where
        go : (xs : List (Option D)) (i : ℕ) → slice_set (slice_set xs i None) i (Some back) ≡ slice_set xs i (Some back)
        go [] i = refl
        go (x ∷ xs) zero = refl
        go (x ∷ xs) (suc i) = ap (λ (ys : List (Option D)). x ∷ ys) (go xs i)

    pub back_node : (state back).size ≡ (state blank).size → IsNode state (record n { spares = slice_set n.spares disk.0 (Some back) })
    back_node size = record {
      as_many = h.node.as_many;
      few = h.node.few;
      seated = h.node.seated;
      laid_out = record {
        as_many = length-set n.spares disk.0 (Some back) ∙ h.node.laid_out.as_many;
        apart = h.node.laid_out.apart;
        within = λ k a. let lt = h.node.laid_out.within k a in let long = length-set n.spares disk.0 (Some back) in omega (arith, lt, long);
        taken = λ k a. taken k a;
        left = λ k e. ⊎_elim
            (λ here. absurd (let bad : None ≡ Some back = here.1 in cc))
            (λ old. h.node.laid_out.left k old)
            (get_set n.spares disk.0 (Some back) k None e);
      };
      placed = h.node.placed;
      placed_after = h.node.placed_after;
      long = record {
        root = h.node.long.root;
        seats = h.node.long.seats;
        spares = λ k x e. ⊎_elim
            (λ here. ap (λ (j : ℕ). slice_get n.lengths j) here.0 ∙ h.node.long.spares disk.0 blank there ∙ ap Some (sym size) ∙ ap (λ (d : D). Some (state d).size) (sym (same_Some x back here.1)))
            (λ old. h.node.long.spares k x old)
            (get_set n.spares disk.0 (Some back) k (Some x) e);
      };
    }
      where
        other : (k : ℕ) → slice_get n.spares k ≡ Some None → k ≢ disk.0
        other k none e = let bad : Some None ≡ Some (Some blank) = sym none ∙ ap (λ (j : ℕ). slice_get n.spares j) e ∙ there in absurd (cc)

        taken : (k : ℕ) → Among (numbers n.seats) k → slice_get (slice_set n.spares disk.0 (Some back)) k ≡ Some None
        taken k a = let none = h.node.laid_out.taken k a in get_set_other n.spares disk.0 k (Some back) (other k none) ∙ none

    failed_acts : (fault : NodeFault) → fault ≡ Down disk (state back).faults → IsCounted (state blank) (state back)
        → Acts state (created (world_of n) path disk kind logical physical) n (Err fault) (record n { spares = slice_set n.spares disk.0 (Some back) })
    failed_acts fault is counted = subst (λ (x : NodeFault). Acts state (created (world_of n) path disk kind logical physical) n (Err x) (record n { spares = slice_set n.spares disk.0 (Some back) })) (sym is) (record {
      up = tt;
      answered = tt;
      without_bytes = tt;
      failed = λ other k e. record {
        allowed = tt;
        failed = inr (record {
          old = blank;
          new = back;
          was = let same : disk ≡ other = cc in subst (λ (d : DiskNo). slice_get n.spares d.0 ≡ Some (Some blank)) same there;
          is = let same : disk ≡ other = cc in subst (λ (d : DiskNo). slice_get (slice_set n.spares disk.0 (Some back)) d.0 ≡ Some (Some back)) same (get_set_same n.spares disk.0 (Some back) (slice_get_within n.spares disk.0 (Some blank) there));
          counted = counted;
          counts = let same : (state back).faults ≡ k = cc in sym same;
        });
        fallen = record { before = refl; after = inr (root_none state n h, none_pending state n h) };
        left_open = (
          (root_none state n h, none_pending state n h),
          record { held = let all = h.up.as_many in omega (arith, all); after = λ j f. absurd (no_after state n h j f) },
        );
      };
      unchanged = λ e. absurd (cc);
      blocks = none_changed state (world_of n) (reached_of (world_of n) (created (world_of n) path disk kind logical physical)) n (record n { spares = slice_set n.spares disk.0 (Some back) }) refl;
      whole = GoesThrough.stays 0 (h.nothing_changes 0 (world_of n) (reached_of (world_of n) (created (world_of n) path disk kind logical physical)) (devices n) (parts_now state n h));
    })

    pub unmade_acts : (fault : NodeFault) → IsUnmade state blank disk back fault → Acts state (created (world_of n) path disk kind logical physical) n (Err fault) (record n { spares = slice_set (slice_set n.spares disk.0 None) disk.0 (Some back) })
    unmade_acts fault e = subst (λ (xs : List (Option D)). Acts state (created (world_of n) path disk kind logical physical) n (Err fault) (record n { spares = xs })) (sym set_back) (⊎_elim
        (λ down. failed_acts fault down (e.counted down))
        (λ starve.
        let same : slice_set n.spares disk.0 (Some back) ≡ n.spares = ap (λ (d : D). slice_set n.spares disk.0 (Some d)) starve.1 ∙ set_again n.spares disk.0 (Some blank) there in
        subst (λ (xs : List (Option D)). Acts state (created (world_of n) path disk kind logical physical) n (Err fault) (record n { spares = xs })) (sym same)
        (subst (λ (x : NodeFault). Acts state (created (world_of n) path disk kind logical physical) n (Err x) n) (sym starve.0) (starved state n h (created (world_of n) path disk kind logical physical))))
        e.why)

    pub unmade_node : (fault : NodeFault) → IsUnmade state blank disk back fault → IsNode state (record n { spares = slice_set (slice_set n.spares disk.0 None) disk.0 (Some back) })
    unmade_node fault e = subst (λ (xs : List (Option D)). IsNode state (record n { spares = xs })) (sym set_back) (back_node e.size)

-- ---- from the parts of the node

module _ {D : Type 0} (state : D → DiskState) (n now : Node D) (view : n ≡ now) (h : StandsUp state now) (few : length now.seats < MOST_VOLUMES) (disk : DiskNo) (blank : D)
    (lent left items : List (Option D)) (lent_is : lent ≡ n.spares) (takes : Takes lent disk.0 blank left) (items_is : items ≡ left) (path : List ℕ) (kind : Kind) (logical physical : ℕ) where
  lent_now : lent ≡ now.spares
  lent_now = lent_is ∙ ap (λ (x : Node D). x.spares) view

  there_now : slice_get now.spares disk.0 ≡ Some (Some blank)
  there_now = subst (λ (xs : List (Option D)). slice_get xs disk.0 ≡ Some (Some blank)) lent_now takes.was

  taken_now : items ≡ slice_set now.spares disk.0 None
  taken_now = items_is ∙ takes.is ∙ ap (λ (xs : List (Option D)). slice_set xs disk.0 None) lent_now

  pub within_lent : disk.0 < length lent
  within_lent = slice_get_within lent disk.0 (Some blank) takes.was

  module _ (number : ℕ) (number_is : number ≡ length n.seats) (m : Mounted D) (made : IsMade state blank number kind logical physical m) (root : Registered D Catalog) (next : Catalog) (next_is : next ≡ with_place now.root.held path disk)
      (olds seats : List (Seated D)) (olds_is : olds ≡ n.seats) (seats_is : seats ≡ olds ++ (record { disk = disk.0; volume = m }) ∷ []) (R : Result Reply NodeFault)
      (did : (r : Result (Unit {0}) Failed) × (R ≡ commit_answer (replies.Created (volno number)) (state root.disk).faults r) × commits.Commits state ShowsCatalog n.root next r root) where
    number_now : number ≡ length now.seats
    number_now = number_is ∙ ap (λ (x : Node D). length x.seats) view

    made_now : IsMade state blank (length now.seats) kind logical physical m
    made_now = subst (λ (k : ℕ). IsMade state blank k kind logical physical m) number_now made

    seats_now : seats ≡ now.seats ++ (record { disk = disk.0; volume = m }) ∷ []
    seats_now = seats_is ∙ ap (λ (ss : List (Seated D)). ss ++ (record { disk = disk.0; volume = m }) ∷ []) (olds_is ∙ ap (λ (x : Node D). x.seats) view)

    did_now : (r : Result (Unit {0}) Failed) × (R ≡ commit_answer (replies.Created (volno (length now.seats))) (state root.disk).faults r) × commits.Commits state ShowsCatalog now.root next r root
    did_now = (did.0, did.1 ∙ ap (λ (k : ℕ). commit_answer (replies.Created (volno k)) (state root.disk).faults did.0) number_now, subst (λ (x : Node D). commits.Commits state ShowsCatalog x.root next did.0 root) view did.2)

    as_now : (P : Node D → Type 0) → P (record now { root = root; seats = now.seats ++ (record { disk = disk.0; volume = m }) ∷ []; spares = slice_set now.spares disk.0 None }) → P (record n { root = root; seats = seats; spares = items })
    as_now P it =
        subst (λ (x : Node D). P (record x { root = root; seats = seats; spares = items })) (sym view)
        (subst (λ (xs : List (Option D)). P (record now { root = root; seats = seats; spares = xs })) (sym taken_now)
        (subst (λ (ss : List (Seated D)). P (record now { root = root; seats = ss; spares = slice_set now.spares disk.0 None })) (sym seats_now) it))

    pub made_here : IsNode state (record n { root = root; seats = seats; spares = items })
    made_here = as_now (λ (x : Node D). IsNode state x) (made_node state now h few disk blank there_now path kind logical physical m made_now root next next_is did_now.0 did_now.2)

    pub acts_here : Acts state (created (world_of now) path disk kind logical physical) now R (record n { root = root; seats = seats; spares = items })
    acts_here = as_now (λ (x : Node D). Acts state (created (world_of now) path disk kind logical physical) now R x)
        (made_acts state now h few disk blank there_now path kind logical physical m made_now root next next_is
        (count state now h few disk blank there_now path kind logical physical m made_now root next next_is did_now.0 did_now.2) R did_now)

  module _ (back : D) (fault : NodeFault) (unmade : IsUnmade state blank disk back fault) (olds : List (Seated D)) (olds_is : olds ≡ n.seats) (lent_again left_again items_again : List (Option D))
      (lent_again_is : lent_again ≡ items) (put : left_again ≡ slice_set lent_again disk.0 (Some back)) (items_again_is : items_again ≡ left_again) where
    put_now : items_again ≡ slice_set (slice_set now.spares disk.0 None) disk.0 (Some back)
    put_now = items_again_is ∙ put ∙ ap (λ (xs : List (Option D)). slice_set xs disk.0 (Some back)) (lent_again_is ∙ taken_now)

    back_now : (P : Node D → Type 0) → P (record now { spares = slice_set (slice_set now.spares disk.0 None) disk.0 (Some back) }) → P (record n { seats = olds; spares = items_again })
    back_now P it =
        subst (λ (ss : List (Seated D)). P (record n { seats = ss; spares = items_again })) (sym olds_is)
        (subst (λ (x : Node D). P (record x { spares = items_again })) (sym view)
        (subst (λ (xs : List (Option D)). P (record now { spares = xs })) (sym put_now) it))

    pub back_here : IsNode state (record n { seats = olds; spares = items_again })
    back_here = back_now (λ (x : Node D). IsNode state x) (unmade_node state now h few disk blank there_now path kind logical physical back fault unmade)

    pub back_acts_here : Acts state (created (world_of now) path disk kind logical physical) now (Err fault) (record n { seats = olds; spares = items_again })
    back_acts_here = back_now (λ (x : Node D). Acts state (created (world_of now) path disk kind logical physical) now (Err fault) x) (unmade_acts state now h few disk blank there_now path kind logical physical back fault unmade)
