-- The identity that a client's snapshot gets stands nowhere; nor does a reserved leg that its source lacks.
use Rattle.std.proofs.Common.{◌≡◌, ◌*◌, Some, ◌∙◌, ap, arith, Bool, ◌⊎◌, ◌+◌, true, sym, inl, inr}
use Rattle.sm_base.specs.declared.numbers.Ident.{Ident}
use Rattle.sm_defs.specs.Words.{Found, found, Among}
use Rattle.sm_defs.specs.Volume.{Volume, Snapshot, no_volume, has}
use Rattle.sm_defs.specs.World.{Up, volume_at}
use Rattle.sm_defs.specs.Relationship.{Relationship, Transfer}
use Rattle.sm_defs.proofs.Searches.{found_at}
use Rattle.sm_defs.proofs.Members.{among_get_or}
use Rattle.sm_model.specs.Standing.{Stands}
use Rattle.sm_model.specs.NumbersStand.{NumbersStand, IsNumbered, clients, transfers}
use Rattle.sm_model.specs.OfVolumes as volumes
use Rattle.sm_model.specs.Crossed.{IsReservedLeg}
use Rattle.sm_model.specs.Sound.{SoundUp}
use Rattle.laws_transfer.proofs.Lists.{copy_from_has}

pub client_fresh : (w : Up) (p : Volume → Bool) (f : Found Volume) → NumbersStand w → found p w.volumes ≡ Some f →
    (u : Volume) (s : Snapshot) → Stands w u s → ¬ (s.ident ≡ record { origin = f.at; seq = 2 * f.item.next })
client_fresh w p f n is u s h e = go (n.snapshots u s h).seq
  where
    seq : s.ident.seq ≡ 2 * f.item.next
    seq = ap (λ i. i.seq) e

    next : (volume_at w s.ident.origin).next ≡ f.item.next
    next = ap (λ i. (volume_at w i.origin).next) e ∙ ap (λ v. v.next) (found_at p w.volumes f no_volume is)

    go : IsNumbered w s → ⊥
    go (clients c k) = let a = k.seq in let b = k.given in omega (arith, seq, next, a, b)
    go (transfers t k) = let a = k.seq in omega (arith, seq, a)

-- no leg is the next snapshot of a client
pub leg_not_clients : (w : Up) (p : Volume → Bool) (v : Found Volume) → SoundUp w → found p w.volumes ≡ Some v → (r : Relationship) (t : Transfer) → Among w.relations r → r.transfer ≡ Some t → (i : Ident) → Among t.legs i → ¬ (i ≡ volumes.client_ident v.at v.item)
leg_not_clients w p v s is r t m e i n f = go ((s.crossed.transfers r t m e).legs_at_source i n)
  where
    go : (has (volume_at w r.source).snapshots i ≡ true) ⊎ IsReservedLeg r t i → ⊥
    go (inl h) = let (u, k, q) = copy_from_has (volume_at w r.source).snapshots i h in
        client_fresh w p v s.numbers_stand is (volume_at w r.source) u (among_get_or w.volumes r.source no_volume (s.crossed.relations r m).source, k) (q ∙ f)
    go (inr (z, g)) = let h : 2 * t.number + 1 ≡ 2 * v.item.next = ap (λ j. j.seq) (sym g ∙ f) in omega (arith, h)
