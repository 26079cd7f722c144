-- The first of some snapshots that somebody needs.
use Rattle.std.proofs.Common.{◌≡◌, ◌<◌, true, false, List, [], ◌∷◌, length, get_or, Option, Some, None, Ok, Err, refl, sym, subst, arith}
use Rattle.std.specs.List.{find}
use Rattle.std.specs.Option.{option_map}
use Rattle.sm_base.specs.declared.numbers.Ident.{Ident}
use Rattle.sm_base.specs.declared.numbers.RelNo.{RelNo}
use Rattle.sm_base.specs.declared.refusal.Refusal.TheVariants as refusals
use Rattle.sm_defs.specs.Volume.{Snapshot}
use Rattle.sm_defs.specs.Relationship.{Relationship, is_mirror}
use Rattle.sm_defs.specs.World.{Up, policy_at}
use Rattle.sm_model.specs.OfTransfers as model
use Rattle.oracle_world.specs.Finding.{number_of}
use Rattle.sm_defs.specs.Volume as lists

pub none_held : (who : Ident → Option Relationship) (ss : List Snapshot) → length ss < 1 → Ok tt ≡ model.held_downstream (model.first_held who ss)
unfolding model.held_downstream
none_held who [] l = refl
none_held who (s ∷ ss) l = absurd (omega arith)

held_by : (who : Ident → Option Relationship) (s : Snapshot) (ss : List Snapshot) (n : RelNo) (o : Option Relationship) → who s.ident ≡ o → Some n ≡ option_map number_of o →
    Err (refusals.HeldDownstream s.ident n) ≡ model.held_downstream (model.first_held who (s ∷ ss))
unfolding model.held_downstream
held_by who s ss n None k q = absurd (cc)
held_by who s ss n (Some r) k q = let m : n ≡ number_of r = cc in rw (k, m) refl

pub held_first : (who : Ident → Option Relationship) (ss : List Snapshot) (s : Snapshot) (n : RelNo) → 0 < length ss → s ≡ get_or ss 0 s → Some n ≡ option_map number_of (who s.ident) →
    Err (refusals.HeldDownstream s.ident n) ≡ model.held_downstream (model.first_held who ss)
held_first who [] s n l e h = absurd (omega arith)
held_first who (t ∷ ts) s n l e h =
    subst (λ (x : Snapshot). Err (refusals.HeldDownstream x.ident n) ≡ model.held_downstream (model.first_held who (t ∷ ts))) (sym e)
    (held_by who t ts n (who t.ident) refl (subst (λ (x : Snapshot). Some n ≡ option_map number_of (who x.ident)) e h))

pub spared : (w : Up) (r : Relationship) (i : Ident) (there : List Snapshot) → is_mirror (policy_at w r.policy).kind ≡ false → Ok tt ≡ model.held_downstream (model.held_after w r i there)
unfolding model.held_downstream
spared w r i there e = rw e refl

pub tested : (w : Up) (r : Relationship) (i : Ident) (there ps : List Snapshot) → is_mirror (policy_at w r.policy).kind ≡ true → ps ≡ lists.past i there →
    model.held_downstream (model.first_held (λ j. find (model.needed_otherwise w r.destination j r) w.relations) ps) ≡ model.held_downstream (model.held_after w r i there)
tested w r i there ps e f = rw (e, f) refl
