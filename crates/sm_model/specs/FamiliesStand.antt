-- Families are of numbers that were given, and a resynced vault's is its own.
use Rattle.std.specs.Prelude.{◌≡◌, ◌≢◌, ℕ, ◌<◌, ◌⊎◌, true, false, List, [], ◌∷◌, length, Some, None}
use Rattle.sm_base.specs.declared.numbers.Ident.{Ident}
use Rattle.sm_base.specs.declared.numbers.Kind.TheVariants.{Dp}
use Rattle.sm_defs.specs.Words.{Among}
use Rattle.sm_defs.specs.Volume.{Volume, has}
use Rattle.sm_defs.specs.Made.{family_of_transfer}
use Rattle.sm_defs.specs.Relationship.{Relationship, Transfer, is_mirror}
use Rattle.sm_defs.specs.World.{Up, volume_at, policy_at}
use Rattle.sm_model.specs.Standing.{EachVolume, EachTransfer}

-- a volume's or a transfer's
abbrev pub IsFamily : Up → ℕ → Type 0
IsFamily w f = (f < length w.volumes) ⊎ ((T : ℕ) × (f ≡ family_of_transfer T) × (T < w.next_transfer))

abbrev pub IsBaseOrFirst : Relationship → List Ident → Ident → Type 0
IsBaseOrFirst r [] i = r.base ≡ Some i
IsBaseOrFirst r (j ∷ js) i = (r.base ≡ Some i) ⊎ (i ≡ j)

abbrev pub IsVaultTo : Up → ℕ → Relationship → Type 0
IsVaultTo w d q = (q.destination_half ≡ true) × (q.destination ≡ d) × (is_mirror (policy_at w q.policy).kind ≡ false)

-- the destination has the family of the transfer
pub record InOwnFamily (w : Up) (r : Relationship) (t : Transfer) : Type 0 where
  pub source_elsewhere : (volume_at w r.source).family ≢ family_of_transfer t.number
  pub source_has : (i : Ident) × IsBaseOrFirst r t.legs i × (has (volume_at w r.source).snapshots i ≡ true)
  pub legs_alone : (i : Ident) (n : ℕ) → Among t.legs i → has (volume_at w r.destination).snapshots i ≡ false →
      n < length w.volumes → n ≢ r.destination → (volume_at w n).family ≡ family_of_transfer t.number → has (volume_at w n).snapshots i ≡ false
  pub others : (n : ℕ) → n < length w.volumes → n ≢ r.destination → (volume_at w n).family ≡ family_of_transfer t.number → (volume_at w n).kind ≡ Dp →
      ((volume_at w n).snapshots ≢ []) × ((q : Relationship) → Among w.relations q → IsVaultTo w n q → (q.base ≡ None) × (q.transfer ≡ None))

-- of a vault: before its own family is given nobody has it, and afterwards it stands apart
abbrev pub FamilyStands : Up → Relationship → Transfer → Type 0
FamilyStands w r t = is_mirror (policy_at w r.policy).kind ≡ false →
    ((volume_at w r.destination).family ≢ family_of_transfer t.number → (v : Volume) → Among w.volumes v → v.family ≢ family_of_transfer t.number)
    × ((volume_at w r.destination).family ≡ family_of_transfer t.number → InOwnFamily w r t)

pub record FamiliesStand (w : Up) : Type 0 where
  pub given : EachVolume (λ v. IsFamily w v.family) w
  pub transfers : EachTransfer (FamilyStands w) w
