-- Events, each from the calls that it makes.
use Rattle.std.proofs.Common.{◌≡◌, ℕ, ◌<◌, ◌≤◌, List, length, refl, sym, ap, ◌∙◌, subst, Option, Some, Ok, Err, Result, arith}
use Rattle.std.specs.Prelude.{slice_get, slice_set, replicate, min, IfOk}
use Rattle.std.proofs.lemmas.Option.{slice_get_within}
use Rattle.sm_defs.specs.Words.{Found}
use Rattle.sm_defs.specs.Volume.{Volume}
use Rattle.sm_defs.specs.Operations.{settled}
use Rattle.sm_model.specs.Answers.{volume_named}
use Rattle.sm_model.specs.OfVolumes as answers
use Rattle.volume_store.specs.declared.faults.VolumeFault.{VolumeFault}
use Rattle.sm_volume.specs.Mounted.{Mounted}
use Rattle.sm_volume.specs.Refusals.{cp_refusal}
use Rattle.sm_catroot.specs.declared.placed.Placed.{Placed}
use Rattle.sm_node.specs.declared.named.Named.{Named}
use Rattle.sm_node.specs.Seats.{Seated, moved, AllUp}
use Rattle.sm_node.specs.Naming.{IsNamedAt}
use Rattle.sm_base.specs.declared.faults.Failed.{Failed}
use Rattle.sm_base.specs.declared.refusal.Refusal.{Refusal}
use Rattle.sm_defs.specs.World.{Up}
use Rattle.sm_disk.specs.Disk.{DiskState}
use Rattle.sm_model.specs.declared.reply.Reply.{Reply}
use Rattle.sm_model.specs.declared.reply.Reply.TheVariants as replies
use Rattle.sm_model.specs.Answers.{Answer, told}
use Rattle.sm_model.specs.OfPolicies as policies
use Rattle.sm_register.specs.Registered.{Registered}
use Rattle.sm_register.specs.Commits.{Commits}
use Rattle.sm_catroot.specs.Catalog.{Catalog}
use Rattle.sm_catroot.specs.Kept.{ShowsCatalog}
use Rattle.sm_node.specs.declared.fault.NodeFault.{NodeFault}
use Rattle.sm_node.specs.declared.fault.NodeFault.TheVariants.{NoMemory as OutOfMemory}
use Rattle.sm_node.specs.Nodes.{Node, placed, world_with, world_of, IsNode}
use Rattle.sm_node.specs.Parts.{StandsUp}
use Rattle.sm_node.specs.Moves.{MovesOne, IsCommitCall, IsWriteCall, Matches, event_answer, commit_answer}
use Rattle.sm_node.specs.Acts.{Acts}
use Rattle.sm_node.proofs.CatalogCalls.{refused, starved, catalog_acts, catalog_keeps}
use Rattle.sm_seats.proofs.Lists.{one_value}
use Rattle.sm_node.proofs.Clocks.{clock_goes}
use Rattle.sm_node.proofs.Matching.{cp_matches, write_matches, write_saturated}
use Rattle.sm_node.proofs.VolumeCalls.{commit_acts, write_acts, commits_number, writes_number}
use Rattle.sm_node.proofs.KeptLemmas.{node_set}

-- nothing is done
module _ {D : Type 0} (state : D → DiskState) (n : Node D) (h : StandsUp state n) where
  pub none_starved : (a : Answer) (R : Result Reply NodeFault) (e : NodeFault) → R ≡ Err e → e ≡ OutOfMemory → Acts state a n R n
  none_starved a R e is_err is_memory = subst (λ (r : Result Reply NodeFault). Acts state a n r n) (sym (is_err ∙ ap Err is_memory)) (starved state n h a)

  pub none_acts : (a : Answer) (g : Refusal) (reply : Reply) → reply ≡ replies.Refused g → a ≡ Err g → Acts state a n (Ok reply) n
  none_acts a g reply is_reply refuses =
      subst (λ (b : Answer). Acts state b n (Ok reply) n) (sym refuses)
      (subst (λ (r : Reply). Acts state (Err g) n (Ok r) n) (sym is_reply) (refused state n h g))

-- a commit is answered so, or not at all
pub replied_by : (reply : Reply) (count : ℕ) (r : Result (Unit {0}) Failed) (R : Result Reply NodeFault) → R ≡ commit_answer reply count r → IfOk R (λ x. x ≡ reply)
replied_by reply count (Ok done) R is = subst (λ (o : Result Reply NodeFault). IfOk o (λ x. x ≡ reply)) (sym is) refl
replied_by reply count (Err fault) R is = subst (λ (o : Result Reply NodeFault). IfOk o (λ x. x ≡ reply)) (sym is) tt

-- the clock is set by a commit
pub clock_acts : {D : Type 0} (state : D → DiskState) (now new : Node D) (next : Catalog) (time : ℕ) → now.root.held.clock ≤ time → next ≡ record now.root.held { clock = time } → (R : Result Reply NodeFault)
    → Acts state (Ok (record { reply = told replies.Done; world = world_with next now.seats now.lengths })) now R new → Acts state (policies.set_clock (world_of now) time) now R new
clock_acts state now new next time on is R did = subst (λ (a : Answer). Acts state a now R new) (sym reached) did
  where
    reached : policies.set_clock (world_of now) time ≡ Ok (record { reply = told replies.Done; world = world_with next now.seats now.lengths })
    reached = clock_goes (world_of now) time on ∙ sym (ap (λ (k : Catalog). let a : Answer = Ok (record { reply = told replies.Done; world = world_with k now.seats now.lengths }) in a) is)

-- the node's parts have moved
module _ {D : Type 0} (state : D → DiskState) (n now : Node D) (view : n ≡ now) (h : StandsUp state now) where
  pub here : StandsUp state n
  here = subst (λ (x : Node D). StandsUp state x) (sym view) h

  pub moved_acts : (a : Up → Answer) (R : Result Reply NodeFault) (new : Node D) → Acts state (a (world_of n)) n R new → Acts state (a (world_of now)) now R new
  moved_acts a R new did = subst (λ (x : Node D). Acts state (a (world_of x)) x R new) view did

  seats_here : now.seats ≡ n.seats
  seats_here = sym (ap (λ (x : Node D). x.seats) view)

  -- the catalogue is committed
  module _ (root : Registered D Catalog) (next : Catalog) (places : next.volumes ≡ now.root.held.volumes) (reply : Reply)
      (R : Result Reply NodeFault) (did : (r : Result (Unit {0}) Failed) × (R ≡ commit_answer reply (state root.disk).faults r) × Commits state ShowsCatalog n.root next r root) where
    places_here : next.volumes ≡ n.root.held.volumes
    places_here = subst (λ (x : Node D). next.volumes ≡ x.root.held.volumes) (sym view) places

    pub committed_acts : Acts state (Ok (record { reply = told reply; world = world_with next now.seats now.lengths })) now R (record n { root = root })
    committed_acts = subst (λ (x : Node D). Acts state (Ok (record { reply = told reply; world = world_with next x.seats x.lengths })) x R (record n { root = root })) view
        (catalog_acts state n here root next places_here reply _ refl R did)

    pub committed_keeps : IsNode state (record n { root = root })
    committed_keeps = catalog_keeps state n here root next places_here reply R did

  -- ---- the volume of a path is called

  pub up_there : (seats : List (Seated D)) → seats ≡ n.seats → AllUp seats
  up_there seats is = subst (λ (ss : List (Seated D)). AllUp ss) (sym (is ∙ sym seats_here)) h.up.volumes

  module _ (path : List ℕ) (f : Named) (found : IsNamedAt now path f) where
    pub place_there : (seats : List (Seated D)) → seats ≡ n.seats → f.at < length seats
    place_there seats is = subst (λ (ss : List (Seated D)). f.at < length ss) (sym (is ∙ sym seats_here)) (slice_get_within now.seats f.at found.seat found.is_seat)

    found_here : IsNamedAt n path f
    found_here = subst (λ (x : Node D). IsNamedAt x path f) (sym view) found

    -- the seat that is called is the one that was named
    named_here : (s : Seated D) → slice_get n.seats f.at ≡ Some s → volume_named (world_of n) path ≡ Ok (record { at = f.at; item = placed found_here.place s.volume })
    named_here s was =
        found_here.names ∙ ap (λ (x : Seated D). let o : Found Volume = record { at = f.at; item = placed found_here.place x.volume } in Ok o) (one_value (slice_get n.seats f.at) found_here.seat s found_here.is_seat was)

    module _ (R : Result Reply NodeFault) (seats news : List (Seated D)) (is_seats : seats ≡ n.seats) where
      -- by a call that commits
      module _ (reply : Reply) (refusal : Volume → Option VolumeFault) (next : Volume → Volume) (did : MovesOne state f.at (IsCommitCall state reply f.disk refusal next R) seats news) where
        did_here : MovesOne state f.at (IsCommitCall state reply f.disk refusal next R) n.seats news
        did_here = subst (λ (ss : List (Seated D)). MovesOne state f.at (IsCommitCall state reply f.disk refusal next R) ss news) is_seats did

        pub call_acts : (a : Up → Answer)
            → ((p : Placed) (m : Mounted D) → volume_named (world_of n) path ≡ Ok (record { at = f.at; item = placed p m }) → Matches (world_of n) f.at p (a (world_of n)) (refusal m.volume) reply (next m.volume))
            → Acts state (a (world_of now)) now R (record n { seats = news })
        call_acts a matches =
            let c = did_here.did in
            let m = did_here.old.volume in
            let p = found_here.place in
            moved_acts a R (record n { seats = news })
            (subst (λ (ss : List (Seated D)). Acts state (a (world_of n)) n R (record n { seats = ss })) (sym did_here.is)
            (subst (λ (x : Result Reply NodeFault). Acts state (a (world_of n)) n x (record n { seats = slice_set n.seats f.at (moved did_here.old did_here.new) })) (sym c.1)
            (commit_acts state n here f.at p did_here.old did_here.new did_here.was found_here.is_place (next m.volume) (refusal m.volume) reply f.disk (a (world_of n)) found_here.lies
            (matches p m (named_here did_here.old did_here.was)) c.0 c.2 c.3)))

        pub call_keeps : IsNode state (record n { seats = news })
        call_keeps =
            subst (λ (ss : List (Seated D)). IsNode state (record n { seats = ss })) (sym did_here.is)
            (node_set state n here.node f.at did_here.old did_here.new did_here.was did_here.kept (commits_number state did_here.old.volume did_here.new (next did_here.old.volume.volume) did_here.did.0 did_here.did.3) did_here.did.3.any_moment.size)

      pub cp_acts : MovesOne state f.at (IsCommitCall state replies.Done f.disk cp_refusal settled R) seats news → Acts state (answers.cp (world_of now) path) now R (record n { seats = news })
      cp_acts did = call_acts replies.Done cp_refusal settled did (λ w. answers.cp w path) (λ p m named. cp_matches (world_of n) path f.at p m named)

      -- by a client's write
      module _ (block at fill : ℕ) (is_least : at ≡ min block 4294967295) (did : MovesOne state f.at (IsWriteCall state f.disk at (replicate 4096 fill) R) seats news) where
        wrote_here : MovesOne state f.at (IsWriteCall state f.disk at (replicate 4096 fill) R) n.seats news
        wrote_here = subst (λ (ss : List (Seated D)). MovesOne state f.at (IsWriteCall state f.disk at (replicate 4096 fill) R) ss news) is_seats did

        few : wrote_here.old.volume.volume.logical ≤ 4294967295
        few = let most = (here.node.seated f.at wrote_here.old wrote_here.was).kept.good.few_blocks in omega arith

        saturated : answers.write (world_of n) path at fill ≡ answers.write (world_of n) path block fill
        saturated =
            ap (λ (k : ℕ). answers.write (world_of n) path k fill) is_least
            ∙ write_saturated (world_of n) path block 4294967295 fill f.at found_here.place wrote_here.old.volume (named_here wrote_here.old wrote_here.was) few

        pub write_event : Acts state (answers.write (world_of now) path block fill) now R (record n { seats = news })
        write_event =
            let c = wrote_here.did in
            let m = wrote_here.old.volume in
            let p = found_here.place in
            moved_acts (λ w. answers.write w path block fill) R (record n { seats = news })
            (subst (λ (ss : List (Seated D)). Acts state (answers.write (world_of n) path block fill) n R (record n { seats = ss })) (sym wrote_here.is)
            (subst (λ (x : Result Reply NodeFault). Acts state (answers.write (world_of n) path block fill) n x (record n { seats = slice_set n.seats f.at (moved wrote_here.old wrote_here.new) })) (sym c.1)
            (subst (λ (a : Answer). Acts state a n (event_answer replies.Done f.disk (state wrote_here.new.disk).faults c.0) (record n { seats = slice_set n.seats f.at (moved wrote_here.old wrote_here.new) })) saturated
            (write_acts state n here f.at p wrote_here.old wrote_here.new wrote_here.was found_here.is_place at fill f.disk found_here.lies (answers.write (world_of n) path at fill)
            (write_matches (world_of n) path at fill f.at p m (named_here wrote_here.old wrote_here.was)) c.0 c.2 c.3))))

        pub write_keeps : IsNode state (record n { seats = news })
        write_keeps =
            subst (λ (ss : List (Seated D)). IsNode state (record n { seats = ss })) (sym wrote_here.is)
            (node_set state n here.node f.at wrote_here.old wrote_here.new wrote_here.was wrote_here.kept (writes_number state at (replicate 4096 fill) wrote_here.old.volume wrote_here.new wrote_here.did.0 wrote_here.did.3) wrote_here.did.3.any_moment.size)
