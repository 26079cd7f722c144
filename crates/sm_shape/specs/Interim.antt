-- What opening takes for now: mirrors that are related, and nothing that was transferred.
use Rattle.std.specs.Prelude.{◌≡◌, true, false, None}
use Rattle.sm_defs.specs.Words.{Among}
use Rattle.sm_defs.specs.Relationship.{Relationship, Policy, is_mirror}
use Rattle.sm_defs.specs.World.{Up}

-- without a base and a transfer, and not quiesced
pub record IsPlain (r : Relationship) : Type 0 where
  pub base : r.base ≡ None
  pub transfer : r.transfer ≡ None
  pub active : r.quiesced ≡ false

abbrev pub IsMirrors : Policy → Type 0
IsMirrors p = is_mirror p.kind ≡ true

pub record IsInterim (w : Up) : Type 0 where
  pub relations : (r : Relationship) → Among w.relations r → IsPlain r
  pub policies : (p : Policy) → Among w.policies p → IsMirrors p
