-- The number of a snapshot, by the record that has it.
use Rattle.std.specs.Prelude.{◌≡◌, ℕ, ◌<◌, ◌≤◌, ◌/◌, ◌%◌, false, List, Some, None}
use Rattle.std.specs.List.{All}
use Rattle.sm_defs.specs.Words.{Among}
use Rattle.sm_defs.specs.Relationship.{Relationship, Transfer}
use Rattle.sm_model.specs.NumbersStand.{NumberStands}
use Rattle.sm_shape.specs.Blank.{blank, blank_snapshot}
use Rattle.sm_model.specs.InRange.{is_made_name}
use Rattle.sm_defs.specs.Made.{made_name}
use Rattle.sm_model.specs.declared.world.World.{World}
use Rattle.sm_model.specs.declared.world.WorldVolume.{WorldVolume}
use Rattle.sm_model.specs.declared.world.WorldSnapshot.{WorldSnapshot}

-- a client took it on a volume whose next number is this
pub record FromClient (s : WorldSnapshot) (next : ℕ) : Type 0 where
  pub even : s.ident.seq % 2 ≡ 0
  pub counts : 1 ≤ s.ident.seq / 2
  pub given : s.ident.seq / 2 < next
  pub maker : s.made ≡ 0
  pub name : is_made_name s.name ≡ false

-- the relationship's transfer, if it made the snapshot, has its source and its number
abbrev pub MadeBy : WorldSnapshot → Relationship → Type 0
MadeBy s r = (t : Transfer) → r.transfer ≡ Some t → t.number ≡ s.ident.seq / 2 → (s.ident.origin ≡ r.source) × (s.made ≡ r.number)

pub record FromTransfer (s : WorldSnapshot) (next_transfer next_relation : ℕ) (relations : List Relationship) : Type 0 where
  pub odd : s.ident.seq % 2 ≡ 1
  pub given : s.ident.seq / 2 < next_transfer
  pub maker_counts : 1 ≤ s.made
  pub maker_given : s.made < next_relation
  pub label : s.label ≡ None
  pub name : s.name ≡ made_name s.made (s.ident.seq / 2)
  pub while_standing : All (MadeBy s) relations

-- in the world of maps
pub record StandsNumbered (w : World) (s : WorldSnapshot) (origin : WorldVolume) : Type 0 where
  pub even : s.ident.seq % 2 ≡ 0 → FromClient s origin.next
  pub odd : s.ident.seq % 2 ≡ 1 → FromTransfer s w.next_transfer w.next_relation w.relations.items

abbrev pub AreNumbered : World → List WorldSnapshot → Type 0
AreNumbered w ss = (s : WorldSnapshot) → Among ss s → NumberStands (blank w) (blank_snapshot s)
