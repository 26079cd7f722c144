-- The identity of a client's next snapshot is on no snapshot, where identities are of numbers that were given.
use Rattle.std.proofs.Common.{◌≡◌, ℕ, ◌*◌, ◌<◌, false, sym, ◌∙◌, ap, subst, Some, option_map, arith}
use Rattle.std.specs.Prelude.{slice_get}
use Rattle.std.proofs.lemmas.Bool.{false_from_ne_true}
use Rattle.std.proofs.lemmas.Option.{get_or_from_slice_get, slice_get-map}
use Rattle.sm_base.specs.declared.numbers.Ident.{Ident}
use Rattle.sm_defs.specs.Words.{Among, same_ident}
use Rattle.sm_defs.specs.Volume.{Volume, Snapshot, has, no_volume}
use Rattle.sm_defs.specs.World.{Up, volume_at}
use Rattle.sm_defs.proofs.Members.{get_among, among_any}
use Rattle.sm_defs.proofs.Idents.{same_is}
use Rattle.sm_model.specs.OfVolumes.{client_ident}
use Rattle.sm_model.specs.NumbersStand.{NumbersStand, IsNumbered, clients, transfers}
use Rattle.sm_model.specs.Sound.{SoundUp}
use Rattle.sm_shape.specs.Blanked.{zeroed_volume, blanked}
use Rattle.laws_blank.proofs.Zeroed.{zeroed_has}

module _ (w : Up) (at : ℕ) (v : Volume) (is : slice_get w.volumes at ≡ Some v) where
  there : volume_at w at ≡ v
  there = get_or_from_slice_get w.volumes at v no_volume is

  -- no number that was given is as high
  not_given : (s : Snapshot) → IsNumbered w s → s.ident ≡ client_ident at v → ⊥
  not_given s (clients c k) e =
      let seq : s.ident.seq ≡ 2 * v.next = ap (λ (i : Ident). i.seq) e in
      let origin : s.ident.origin ≡ at = ap (λ (i : Ident). i.origin) e in
      let given : c < v.next = subst (λ (u : Volume). c < u.next) (ap (volume_at w) origin ∙ there) k.given in
      let own = k.seq in
      omega (arith, seq, own, given)
  not_given s (transfers t k) e =
      let seq : s.ident.seq ≡ 2 * v.next = ap (λ (i : Ident). i.seq) e in
      let own = k.seq in
      omega (arith, seq, own)

  pub is_new : NumbersStand w → (u : Volume) → Among w.volumes u → has u.snapshots (client_ident at v) ≡ false
  is_new n u a = false_from_ne_true (has u.snapshots (client_ident at v)) (λ h.
      let s = among_any (λ s. same_ident s.ident (client_ident at v)) u.snapshots h in
      not_given s.0 (n.snapshots u s.0 (a, s.1)).seq (same_is s.0.ident (client_ident at v) s.2))

pub idents_are_new : (w : Up) (at : ℕ) (v : Volume) → SoundUp (blanked w) → slice_get w.volumes at ≡ Some v → has v.snapshots (client_ident at v) ≡ false
idents_are_new w at v sound is =
    let there : slice_get (blanked w).volumes at ≡ Some (zeroed_volume v) = slice_get-map zeroed_volume w.volumes at ∙ ap (option_map zeroed_volume) is in
    sym (zeroed_has v.snapshots (client_ident at v))
    ∙ is_new (blanked w) at (zeroed_volume v) there sound.numbers_stand (zeroed_volume v) (get_among (blanked w).volumes at (zeroed_volume v) there)
