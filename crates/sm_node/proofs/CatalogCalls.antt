-- An event that does nothing, or commits the catalogue alone.
use Rattle.std.proofs.Common.{◌≡◌, ◌≢◌, ◌⊎◌, inl, inr, ⊎_elim, ℕ, zero, suc, List, map, length, refl, sym, ◌∙◌, ap, subst, ◌≤◌}
use Rattle.std.specs.Prelude.{slice_get, Option, Some, Result, Ok, Err}
use Rattle.sm_base.specs.declared.faults.Failed.{Failed}
use Rattle.sm_base.specs.declared.numbers.DiskNo.{DiskNo}
use Rattle.sm_base.specs.declared.refusal.Refusal.{Refusal}
use Rattle.sm_disk.specs.Image.{Image}
use Rattle.sm_disk.specs.Disk.{DiskState, GoesOn}
use Rattle.sm_disk.proofs.Moments.{weaker}
use Rattle.sm_seats.specs.Seats.{GoesWhole}
use Rattle.sm_defs.specs.World.{Up}
use Rattle.sm_model.specs.declared.reply.Reply.{Reply}
use Rattle.sm_model.specs.declared.reply.Reply.TheVariants as replies
use Rattle.sm_model.specs.Answers.{Answer, told}
use Rattle.sm_register.specs.Registered.{Registered}
use Rattle.sm_register.specs.Commits as commits
use Rattle.sm_catroot.specs.Catalog.{Catalog}
use Rattle.sm_catroot.specs.Kept.{ShowsCatalog}
use Rattle.sm_shape.specs.Blanked.{blanked}
use Rattle.sm_node.specs.declared.fault.NodeFault.{NodeFault}
use Rattle.sm_node.specs.declared.fault.NodeFault.TheVariants.{NoMemory as OutOfMemory}
use Rattle.sm_node.specs.Nodes.{Node, world_with, world_of, all_placed, LieOn, IsNode}
use Rattle.sm_node.specs.Seats.{disk_number}
use Rattle.sm_catroot.specs.declared.placed.Placed.{Placed}
use Rattle.std.proofs.lemmas.Option.{same_Some}
use Rattle.sm_node.specs.Parts.{devices, part, StandsUp}
use Rattle.sm_node.specs.Moves.{commit_answer}
use Rattle.sm_node.specs.Acts.{reached_of, GoesThrough, Acts}
use Rattle.sm_node.proofs.ButBytesLemmas.{reply_itself}
use Rattle.sm_node.proofs.BlockLemmas.{none_changed}
use Rattle.sm_node.proofs.Worlds.{catalog_kept}
use Rattle.sm_node.proofs.SeatLemmas.{parts_now, root_goes_whole}
use Rattle.sm_node.proofs.Fallen.{fallen_catalog, left_open_root}

module _ {D : Type 0} (state : D → DiskState) (n : Node D) (h : StandsUp state n) where
  nothing_done : (after : Up) → GoesWhole state 0 (part (world_of n)) (part after) (devices n) (devices n)
  nothing_done after = h.nothing_changes 0 (world_of n) after (devices n) (parts_now state n h)

  pub refused : (g : Refusal) → Acts state (Err g) n (Ok (replies.Refused g)) n
  refused g = record {
    up = h.up;
    answered = λ told. (refl, refl);
    without_bytes = (refl, refl);
    failed = λ disk count e. absurd (cc);
    unchanged = λ e. absurd (cc);
    blocks = none_changed state (world_of n) (world_of n) n n refl;
    whole = GoesThrough.stays 0 (nothing_done (world_of n));
  }

  pub starved : (a : Answer) → Acts state a n (Err OutOfMemory) n
  starved a = record {
    up = tt;
    answered = tt;
    without_bytes = tt;
    failed = λ disk count e. absurd (cc);
    unchanged = λ e. refl;
    blocks = none_changed state (world_of n) (reached_of (world_of n) a) n n refl;
    whole = GoesThrough.stays 0 (nothing_done (reached_of (world_of n) a));
  }

  -- the catalogue is committed, with the same volumes
  module _ (root : Registered D Catalog) (next : Catalog) (places : next.volumes ≡ n.root.held.volumes) (reply : Reply) where
    as_many : length next.volumes ≤ length n.seats
    as_many = subst (λ (l : ℕ). l ≤ length n.seats) (sym (ap length places)) h.node.as_many

    same_volumes : (world_with next n.seats n.lengths).volumes ≡ (world_of n).volumes
    same_volumes = ap (λ ps. all_placed ps n.seats) places

    others_stay : (seat : ℕ) → seat ≢ 0 → (c : Image) → part (world_of n) seat c → part (world_with next n.seats n.lengths) seat c
    unfolding part
    others_stay zero ne c shown = absurd (ne refl)
    others_stay (suc i) ne c shown = λ v e. shown v (ap (λ vs. slice_get vs i) (sym same_volumes) ∙ e)

    module _ (r : Result (Unit {0}) Failed) (c : commits.Commits state ShowsCatalog n.root next r root) where
      goes : GoesOn (state n.root.disk) (state root.disk) (λ x. part (world_of n) 0 x ⊎ part (world_with next n.seats n.lengths) 0 x)
      unfolding part
      goes = weaker (state n.root.disk) (state root.disk) _ _ c.any_moment (λ x either. ⊎_elim
          (λ old. inl (record { catalog = n.root.held; shown = old.shown; is = catalog_kept n.root.held n.seats n.lengths h.node.as_many }))
          (λ new. inr (record { catalog = next; shown = new.shown; is = catalog_kept next n.seats n.lengths as_many }))
          either)

      whole : GoesWhole state 0 (part (world_of n)) (part (world_with next n.seats n.lengths)) (devices n) (devices (record n { root = root }))
      whole = root_goes_whole state n h root (world_with next n.seats n.lengths) goes others_stay

    abbrev reached : Answer
    reached = Ok (record { reply = told reply; world = world_with next n.seats n.lengths })

    by_result : (r : Result (Unit {0}) Failed) → commits.Commits state ShowsCatalog n.root next r root
        → Acts state (Ok (record { reply = told reply; world = world_with next n.seats n.lengths })) n (commit_answer reply (state root.disk).faults r) (record n { root = root })
    by_result (Ok done) c = record {
      up = record {
        root = ap (λ (x : Registered D Catalog). x.up) c.ok ∙ h.up.root;
        as_many = ap (λ (x : Registered D Catalog). length x.held.volumes) c.ok ∙ ap length places ∙ h.up.as_many;
        volumes = h.up.volumes;
      };
      answered = λ told. (refl, ap (λ (x : Registered D Catalog). world_with x.held n.seats n.lengths) c.ok);
      without_bytes = (reply_itself reply, ap (λ (x : Registered D Catalog). blanked (world_with x.held n.seats n.lengths)) c.ok);
      failed = λ disk count f. absurd (cc);
      unchanged = λ f. absurd (cc);
      blocks = none_changed state (world_of n) (world_with next n.seats n.lengths) n (record n { root = root }) refl;
      whole = GoesThrough.stays 0 (whole (Ok done) c);
    }
    by_result (Err fault) c = record {
      up = tt;
      answered = tt;
      without_bytes = tt;
      failed = λ disk count f. record {
        allowed = tt;
        failed = inl (record {
          seat = 0;
          named = let zero_disk : DiskNo = record { 0 = 0 } in let same : zero_disk ≡ disk = cc in ap (λ (x : DiskNo). x.0) (sym same);
          old = n.root.disk;
          new = root.disk;
          was = refl;
          is = refl;
          counted = c.counted;
          counts = let same : (state root.disk).faults ≡ count = cc in sym same;
        });
        fallen = fallen_catalog state n h root next (ap (λ (x : Registered D Catalog). x.held) c.fault) (ap (λ (x : Registered D Catalog). x.after) c.fault) reply;
        left_open = left_open_root state n h root next (ap (λ (x : Registered D Catalog). x.held) c.fault) (ap (λ (x : Registered D Catalog). x.after) c.fault) places;
      };
      unchanged = λ f. absurd (cc);
      blocks = none_changed state (world_of n) (world_with next n.seats n.lengths) n (record n { root = root }) refl;
      whole = GoesThrough.stays 0 (whole (Err fault) c);
    }

    -- what it is answered, where that is the definitions' answer
    pub catalog_acts : (a : Answer) → a ≡ Ok (record { reply = told reply; world = world_with next n.seats n.lengths }) → (R : Result Reply NodeFault)
        → (r : Result (Unit {0}) Failed) × (R ≡ commit_answer reply (state root.disk).faults r) × commits.Commits state ShowsCatalog n.root next r root
        → Acts state a n R (record n { root = root })
    catalog_acts a is R did =
        subst (λ (b : Answer). Acts state b n R (record n { root = root })) (sym is)
        (subst (λ (x : Result Reply NodeFault). Acts state (Ok (record { reply = told reply; world = world_with next n.seats n.lengths })) n x (record n { root = root })) (sym did.1)
        (by_result did.0 did.2))

  held_places : (root : Registered D Catalog) (next : Catalog) → next.volumes ≡ n.root.held.volumes → (r : Result (Unit {0}) Failed) → commits.Commits state ShowsCatalog n.root next r root → root.held.volumes ≡ n.root.held.volumes
  held_places root next places (Ok done) c = ap (λ (x : Registered D Catalog). x.held.volumes) c.ok ∙ places
  held_places root next places (Err fault) c = ap (λ (x : Registered D Catalog). x.held.volumes) c.fault

  -- the places of a commit whose outcome is not known are the same
  after_placed : (root : Registered D Catalog) (next : Catalog) → next.volumes ≡ n.root.held.volumes → (r : Result (Unit {0}) Failed) → commits.Commits state ShowsCatalog n.root next r root
      → (k : Catalog) → root.after ≡ Some k → LieOn k.volumes (map disk_number n.seats)
  after_placed root next places (Ok done) c k e = h.node.placed_after k (sym (ap (λ (x : Registered D Catalog). x.after) c.ok) ∙ e)
  after_placed root next places (Err fault) c k e =
      let same : next ≡ k = same_Some next k (sym (ap (λ (x : Registered D Catalog). x.after) c.fault) ∙ e) in
      subst (λ (ps : List Placed). LieOn ps (map disk_number n.seats)) (sym places ∙ ap (λ (j : Catalog). j.volumes) same) h.node.placed

  -- and the node is one still
  pub catalog_keeps : (root : Registered D Catalog) (next : Catalog) → next.volumes ≡ n.root.held.volumes → (reply : Reply) (R : Result Reply NodeFault)
      → (r : Result (Unit {0}) Failed) × (R ≡ commit_answer reply (state root.disk).faults r) × commits.Commits state ShowsCatalog n.root next r root
      → IsNode state (record n { root = root })
  catalog_keeps root next places reply R did = record {
    as_many = subst (λ (l : ℕ). l ≤ length n.seats) (sym (ap length (held_places root next places did.0 did.2))) h.node.as_many;
    few = h.node.few;
    seated = h.node.seated;
    laid_out = h.node.laid_out;
    placed = subst (λ (ps : List Placed). LieOn ps (map disk_number n.seats)) (sym (held_places root next places did.0 did.2)) h.node.placed;
    placed_after = after_placed root next places did.0 did.2;
    long = record {
      root = h.node.long.root ∙ ap Some (sym did.2.any_moment.size);
      seats = h.node.long.seats;
      spares = h.node.long.spares;
    };
  }
