-- What answers to events on volumes, policies and the clock change.
use Rattle.std.proofs.Common.{◌≡◌, ℕ, List, Bool, Option, Some, None, Ok, refl, subst}
use Rattle.std.specs.Str.{bytes_eq}
use Rattle.std.proofs.Common.{Result}
use Rattle.sm_base.specs.declared.numbers.DiskNo.{DiskNo}
use Rattle.sm_base.specs.declared.numbers.Kind.{Kind}
use Rattle.sm_base.specs.declared.refusal.Refusal.{Refusal}
use Rattle.sm_base.specs.declared.refusal.Refusal.TheVariants as refusals
use Rattle.sm_base.specs.declared.numbers.PolicyKind.{PolicyKind}
use Rattle.sm_model.specs.declared.event.Event.{Event}
use Rattle.sm_model.specs.declared.event.Event.TheVariants as events
use Rattle.sm_defs.specs.Words.{Found, found}
use Rattle.sm_defs.specs.Volume.{Volume}
use Rattle.sm_defs.specs.Relationship.{Relationship}
use Rattle.sm_defs.specs.World.{Up}
use Rattle.sm_model.specs.Answers.{some_or, volume_named}
use Rattle.sm_model.specs.Origin.{made_by}
use Rattle.sm_model.specs.OfVolumes as volumes
use Rattle.sm_model.specs.OfPolicies as policies
use Rattle.laws_cases.proofs.Answers.Walk.{OfOk, past, with_found, with_ok, with_held, now}
use Rattle.laws_cases.proofs.Answers.Changes.{VolumeAt, Is, elsewhere, creates, writes, drops, points, plain, snaps}
use Rattle.laws_cases.proofs.Answers.Plainly.{volume_at_place, writable_if, writable_at_place, bytes_told, by_told, by_done, same}

-- ---- volumes

pub create_volume : (w : Up) (ev : Event) (path : List ℕ) (disk : DiskNo) (kind : Kind) (l p : ℕ) → OfOk (Is w ev) (volumes.create_volume w path disk kind l p)
unfolding made_by
create_volume w ev path disk kind l p = past _ _ _ _ (λ _. past _ _ _ _ (λ _. with_found _ _ _ _ (λ len _. past _ _ _ _ (λ _. past _ _ _ _ (λ _. past _ _ _ _ (λ _.
    by_told w _ ev _ (record { makes_none = refl; accepted = λ r e. cc }) (creates path disk.0 kind l p)))))))

pub write : (w : Up) (ev : Event) (path : List ℕ) (block fill : ℕ) → OfOk (Is w ev) (volumes.write w path block fill)
write w ev path block fill = with_found _ _ _ _ (λ v is. past _ _ _ _ (λ rw_is. past _ _ _ _ (λ _. past _ _ _ _ (λ _. by_done w _ ev (writes v (writable_at_place w _ v is rw_is) block fill)))))

pub snap : (w : Up) (ev : Event) (path name : List ℕ) (label : Option (List ℕ)) → ev ≡ events.Snap path name label → OfOk (Is w ev) (volumes.snap w path name label)
snap w ev path name label so = with_found _ _ _ _ (λ v is. past _ _ _ _ (λ rw_is. past _ _ _ _ (λ _. past _ _ _ _ (λ _. now (Is w ev) _ (snaps v (writable_at_place w _ v is rw_is) _ is path name label so)))))

pub held_none : (o : Option Relationship) → volumes.held o ≡ Ok tt → o ≡ None
unfolding volumes.held
held_none None e = refl
held_none (Some r) e = absurd (cc)

pub named_go : (w : Up) (path : List ℕ) (v : Found Volume) (o : Option (Found Volume)) → found (λ v. bytes_eq v.path path) w.volumes ≡ o → some_or (refusals.NoVolume path) o ≡ Ok v → VolumeAt w v
unfolding some_or
named_go w path v None f e = absurd (cc)
named_go w path v (Some x) f e = subst (VolumeAt w) (same_ok x v e) (volume_at_place w _ x f)
  where
    same_ok : (y x : Found Volume) → ◌≡◌ {A = Result (Found Volume) Refusal} (Ok y) (Ok x) → y ≡ x
    same_ok y x e = cc

pub named_at_place : (w : Up) (path : List ℕ) (v : Found Volume) → volume_named w path ≡ Ok v → VolumeAt w v
named_at_place w path v e = named_go w path v _ refl e

pub unsnap : (w : Up) (ev : Event) (path name : List ℕ) → ev ≡ events.Unsnap path name → OfOk (Is w ev) (volumes.unsnap w path name)
unsnap w ev path name so = with_ok _ _ _ (λ v is. with_ok _ _ _ (λ s named. past _ _ _ _ (λ rw_is. with_held _ _ _ (λ free.
    by_done w _ ev (drops path name so v is (writable_if w v (named_at_place w path v is) rw_is) s named (held_none _ free))))))

pub cp : (w : Up) (ev : Event) (path : List ℕ) → OfOk (Is w ev) (volumes.cp w path)
cp w ev path = with_found _ _ _ _ (λ v is. past _ _ _ _ (λ rw_is. by_done w _ ev (points v (writable_at_place w _ v is rw_is))))

pub read : (w : Up) (ev : Event) (path : List ℕ) (name : Option (List ℕ)) (block : ℕ) → OfOk (Is w ev) (volumes.read w path name block)
read w ev path name block = with_found _ _ _ _ (λ v _. with_ok _ _ _ (λ i _. past _ _ _ _ (λ _. now (Is w ev) _ (plain (bytes_told _) (same w ev)))))

-- ---- policies and the clock

pub create_policy : (w : Up) (ev : Event) (name : List ℕ) (kind : PolicyKind) → OfOk (Is w ev) (policies.create_policy w name kind)
create_policy w ev name kind = past _ _ _ _ (λ _. past _ _ _ _ (λ _. by_done w _ ev (elsewhere _ refl refl refl refl)))

pub add_rule : (w : Up) (ev : Event) (name label : List ℕ) (keep : ℕ) (preserve : Bool) → OfOk (Is w ev) (policies.add_rule w name label keep preserve)
add_rule w ev name label keep preserve = with_found _ _ _ _ (λ p _. past _ _ _ _ (λ _. past _ _ _ _ (λ _. past _ _ _ _ (λ _. past _ _ _ _ (λ _. by_done w _ ev (elsewhere _ refl refl refl refl))))))

pub set_clock : (w : Up) (ev : Event) (time : ℕ) → OfOk (Is w ev) (policies.set_clock w time)
set_clock w ev time = past _ _ _ _ (λ _. by_done w _ ev (elsewhere _ refl refl refl refl))
