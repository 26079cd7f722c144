-- Identities, makers and families of a sound world are below the limits of their fields.
use Rattle.std.proofs.Common.{◌≡◌, ℕ, ◌^◌, ◌<◌, ◌≤◌, true, length, subst, inl, inr, arith}
use Rattle.sm_base.specs.declared.numbers.Ident.{Ident}
use Rattle.sm_defs.specs.Words.{Among, same_ident}
use Rattle.sm_defs.specs.Volume.{Volume, Snapshot, has, no_volume}
use Rattle.sm_defs.specs.World.{Up, volume_at}
use Rattle.sm_defs.proofs.Members.{among_get_or, among_any}
use Rattle.sm_defs.proofs.Idents.{same_is}
use Rattle.sm_fields.specs.Grammar.{IsIdentity}
use Rattle.sm_model.specs.Standing.{Stands}
use Rattle.sm_model.specs.Formed.{Formed}
use Rattle.sm_model.specs.NumbersStand.{NumbersStand, IsNumbered, clients, transfers}
use Rattle.sm_model.specs.FamiliesStand.{IsFamily}

module _ (w : Up) (formed : Formed w) (numbers : NumbersStand w) where
  few_volumes : length w.volumes ≤ 32
  few_volumes = formed.few

  pub volume_there : (i : ℕ) → i < length w.volumes → Among w.volumes (volume_at w i)
  volume_there i lt = among_get_or w.volumes i no_volume lt

  numbered : (s : Snapshot) → s.ident.origin < length w.volumes → IsNumbered w s → (s.ident.seq < 2 ^ 64) × (s.maker < 2 ^ 32)
  numbered s origin (clients c is) =
      let next = (formed.volumes (volume_at w s.ident.origin) (volume_there s.ident.origin origin)).counted.1 in
      let seq = is.seq in
      let given = is.given in
      let maker = is.maker in
      (omega (arith, next, seq, given), omega (arith, maker))
  numbered s origin (transfers transfer is) =
      let next = formed.transfers_counted.1 in
      let seq = is.seq in
      let given = is.given in
      let maker = is.maker_given in
      let last = formed.relations_counted.1 in
      (omega (arith, next, seq, given), omega (arith, maker, last))

  pub identity_fits : (v : Volume) (s : Snapshot) → Stands w v s → IsIdentity s.ident
  identity_fits v s stands =
      let is = numbers.snapshots v s stands in
      let few = few_volumes in
      (let origin = is.origin in omega (arith, origin, few), (numbered s is.origin is.seq).0)

  pub maker_fits : (v : Volume) (s : Snapshot) → Stands w v s → s.maker < 2 ^ 32
  maker_fits v s stands = let is = numbers.snapshots v s stands in (numbered s is.origin is.seq).1

  -- what a volume has
  pub identity_there : (v : Volume) (i : Ident) → Among w.volumes v → has v.snapshots i ≡ true → IsIdentity i
  identity_there v i is there =
      let s = among_any (λ (x : Snapshot). same_ident x.ident i) v.snapshots there in
      subst IsIdentity (same_is s.0.ident i s.2) (identity_fits v s.0 (is, s.1))

  pub family_fits : (f : ℕ) → IsFamily w f → f < 2 ^ 64
  family_fits f (inl volume) = (let few = few_volumes in omega (arith, volume, few))
  family_fits f (inr (t, is, given)) = (let next = formed.transfers_counted.1 in omega (arith, is, given, next))
