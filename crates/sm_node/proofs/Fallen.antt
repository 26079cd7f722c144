-- What a failed event leaves of the world, and beside it.
use Rattle.std.proofs.Common.{◌≡◌, inl, inr, ℕ, zero, suc, List, [], ◌∷◌, length, map, refl, sym, ◌∙◌, ap, subst, arith}
use Rattle.std.specs.Prelude.{slice_get, slice_set, Option, Some, None, Ok}
use Rattle.std.proofs.lemmas.Bool.{cases_eq}
use Rattle.std.proofs.lemmas.List.{length-set, map-set}
use Rattle.std.proofs.lemmas.Option.{slice_get_within}
use Rattle.sm_disk.specs.Disk.{DiskState}
use Rattle.sm_defs.specs.Volume.{Volume}
use Rattle.sm_defs.specs.World.{Up, with_volume}
use Rattle.sm_model.specs.declared.reply.Reply.{Reply}
use Rattle.sm_model.specs.Answers.{Answer, told}
use Rattle.sm_register.specs.Registered.{Registered}
use Rattle.sm_catroot.specs.declared.placed.Placed.{Placed}
use Rattle.sm_catroot.specs.Catalog.{Catalog}
use Rattle.sm_volume.specs.Mounted.{Mounted}
use Rattle.sm_node.specs.Seats.{Seated, moved}
use Rattle.sm_node.specs.Nodes.{Node, placed, world_with, world_of}
use Rattle.sm_node.specs.Pending.{later, ahead, volume_ahead, NonePending, IsLeftOpen}
use Rattle.sm_node.specs.Parts.{StandsUp}
use Rattle.sm_node.specs.Moves.{at_place}
use Rattle.sm_node.specs.Acts.{IsFallen}
use Rattle.sm_seats.proofs.Lists.{one_value}
use Rattle.sm_node.proofs.Lists.{get_set_other, get_set_same, set_again}
use Rattle.sm_node.proofs.Worlds.{placed_there, world_set}

pub ahead_same : {D : Type 0} (seats : List (Seated D)) → NonePending seats → map ahead seats ≡ seats
ahead_same [] none = refl
ahead_same (s ∷ seats) none =
    let here : ahead s ≡ s = ap (λ (o : Option Volume). let m = s.volume in let x : Seated _ = moved s (record m { volume = later o m.volume }) in x) (none zero s refl) in
    ap (λ (x : Seated _). x ∷ map ahead seats) here ∙ ap (λ (xs : List (Seated _)). s ∷ xs) (ahead_same seats (λ i x e. none (suc i) x e))

module _ {D : Type 0} (state : D → DiskState) (n : Node D) (h : StandsUp state n) where
  pub none_pending : NonePending n.seats
  none_pending = λ i s e. (h.node.seated i s e).kept.decided (h.up.volumes i s e)

  pub root_none : n.root.after ≡ None
  root_none = h.root.decided h.up.root

  pub no_after : (k : Catalog) → n.root.after ≡ Some k → ⊥
  no_after k e = let g = sym root_none ∙ e in cc

  -- ---- the disk of a volume failed

  module _ (at : ℕ) (p : Placed) (s : Seated D) (m : Mounted D) (was : slice_get n.seats at ≡ Some s) (place : slice_get n.root.held.volumes at ≡ Some p) where
    pub left_open_volume : IsLeftOpen (suc at) (record n { seats = slice_set n.seats at (moved s m) })
    left_open_volume = record {
      decided = record {
        root = λ ne. root_none;
        volumes = λ i x e ne. none_pending i x (sym (get_set_other n.seats at i (moved s m) (λ (f : i ≡ at). ne (ap suc (sym f)))) ∙ e);
      };
      long = record {
        held = let all = h.up.as_many in let same = length-set n.seats at (moved s m) in omega (arith, all, same);
        after = λ k e. absurd (no_after k e);
      };
    }

    world_stays : m.volume ≡ s.volume.volume → world_of (record n { seats = slice_set n.seats at (moved s m) }) ≡ world_of n
    world_stays same =
        world_set n.root.held n.seats n.lengths at p s m place
        ∙ ap (λ (v : Volume). with_volume (world_of n) at (at_place p v)) same
        ∙ ap (λ (vs : List Volume). let x : Up = record (world_of n) { volumes = vs } in x) (set_again (world_of n).volumes at (placed p s.volume) (placed_there n.root.held.volumes n.seats at p s place was))

    -- in a commit
    pub fallen_commit : (next : Volume) (reply : Reply) → m.volume ≡ s.volume.volume → m.after ≡ Some next →
        IsFallen (Ok (record { reply = told reply; world = with_volume (world_of n) at (at_place p next) })) n (record n { seats = slice_set n.seats at (moved s m) })
    fallen_commit next reply same after = record {
      before = world_stays same;
      after = inl (
          ap (λ (seats : List (Seated D)). world_with (later n.root.after n.root.held) seats n.lengths) (map-set ahead n.seats at (moved s m) ∙ ap (λ (seats : List (Seated D)). slice_set seats at (ahead (moved s m))) (ahead_same n.seats none_pending))
          ∙ ap (λ (o : Option Catalog). world_with (later o n.root.held) (slice_set n.seats at (ahead (moved s m))) n.lengths) root_none
          ∙ world_set n.root.held n.seats n.lengths at p s (volume_ahead m) place
          ∙ ap (λ (o : Option Volume). with_volume (world_of n) at (at_place p (later o m.volume))) after
          );
    }

    -- in a call that commits nothing
    pub fallen_call : (a : Answer) → m.volume ≡ s.volume.volume → m.after ≡ s.volume.after → IsFallen a n (record n { seats = slice_set n.seats at (moved s m) })
    fallen_call a same after = record {
      before = world_stays same;
      after = inr (
        root_none,
        λ i x e. elim (cases_eq i at) [
          | inl here ↦
              let e' : slice_get (slice_set n.seats at (moved s m)) at ≡ Some x = subst (λ (j : ℕ). slice_get (slice_set n.seats at (moved s m)) j ≡ Some x) here e in
              subst (λ (y : Seated D). y.volume.after ≡ None) (one_value (slice_get (slice_set n.seats at (moved s m)) at) (moved s m) x (get_set_same n.seats at (moved s m) (slice_get_within n.seats at s was)) e') (after ∙ none_pending at s was)
          | inr ne ↦ none_pending i x (sym (get_set_other n.seats at i (moved s m) ne) ∙ e)
        ],
      );
    }

  -- ---- the disk of the catalogue failed in a commit

  module _ (root : Registered D Catalog) (next : Catalog) (held : root.held ≡ n.root.held) (after : root.after ≡ Some next) where
    pub fallen_catalog : (reply : Reply) → IsFallen (Ok (record { reply = told reply; world = world_with next n.seats n.lengths })) n (record n { root = root })
    fallen_catalog reply = record {
      before = ap (λ (k : Catalog). world_with k n.seats n.lengths) held;
      after = inl (
          ap (λ (seats : List (Seated D)). world_with (later root.after root.held) seats n.lengths) (ahead_same n.seats none_pending)
          ∙ ap (λ (o : Option Catalog). world_with (later o root.held) n.seats n.lengths) after
          );
    }

    pub left_open_root : next.volumes ≡ n.root.held.volumes → IsLeftOpen 0 (record n { root = root })
    left_open_root places = record {
      decided = record {
        root = λ ne. absurd (ne refl);
        volumes = λ i s e ne. none_pending i s e;
      };
      long = record {
        held = let all = ap (λ (k : Catalog). length k.volumes) held ∙ h.up.as_many in omega (arith, all);
        after = λ k e. let same : next ≡ k = let g = sym after ∙ e in cc in ap (λ (j : Catalog). length j.volumes) (sym same) ∙ ap length places ∙ h.up.as_many;
      };
    }
