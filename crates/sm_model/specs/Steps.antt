-- What a step of a running transfer looks at, and what it makes.
use Rattle.std.specs.Prelude.{ℕ, suc, ◌+◌, ◌==◌, ◌&&◌, ◌||◌, not, nat_lt, Bool, false, List, [], ◌∷◌, ◌++◌, Option, Some, None, if◌then◌else◌}
use Rattle.std.specs.List.{list_all, find}
use Rattle.sm_base.specs.declared.numbers.Ident.{Ident}
use Rattle.sm_base.specs.declared.numbers.RelNo.{RelNo}
use Rattle.sm_base.specs.declared.refusal.Reason.{Reason}
use Rattle.sm_model.specs.declared.reply.Reply.{Reply}
use Rattle.sm_model.specs.declared.reply.Reply.TheVariants as replies
use Rattle.sm_base.specs.declared.limits.TheConstants.{WINDOW}
use Rattle.sm_defs.specs.Words.{same_ident}
use Rattle.sm_defs.specs.Image.{Image, stands}
use Rattle.sm_defs.specs.Volume.{Volume, Snapshot, has, numbers, free_tags}
use Rattle.sm_defs.specs.Operations.{taken_over}
use Rattle.sm_defs.specs.Operations as operations
use Rattle.sm_defs.specs.Relationship.{Transfer, is_mirror}
use Rattle.sm_defs.specs.Made.{made_name, family_of_transfer}
use Rattle.sm_defs.specs.Progress.{landed_prefix}
use Rattle.sm_defs.specs.Missing.{Bases, mirror_cost, vault_cost, vault_landing}
use Rattle.sm_defs.specs.Classes.{class_of}
use Rattle.sm_defs.specs.Retention.{retained}
use Rattle.sm_defs.specs.World.{Up, with_volume, with_relation}
use Rattle.sm_defs.specs.Needed.{needed}
use Rattle.sm_model.specs.Answers.{relno}
use Rattle.sm_model.specs.OfTransfers.{with_transfer, as_reverted}
use Rattle.sm_model.specs.Running.{Running}

-- what a step is told, and the world after it
pub record Effect : Type 0 where
  pub reply : Reply
  pub world : Up

abbrev pub number_of : Running → RelNo
number_of x = relno x.relation.number

abbrev pub with_destination : Up → Running → Volume → Up
with_destination w x v = with_volume w x.relation.destination v

-- the k-th relationship is x's, with its transfer changed
abbrev pub with_progress : Up → ℕ → Running → Transfer → Up
with_progress w k x t = with_relation w k (with_transfer x.relation t)

-- what landed past the checkpoint is forgotten
abbrev pub interrupted : Reason → Transfer → Transfer
interrupted reason t = record t { stopped = Some reason; landed = numbers 0 t.checkpoint; pruned = false }

-- the transfer stops for the reason, and all else stays
abbrev pub interrupts : Up → ℕ → Running → Reason → Effect
interrupts w k x reason = record { reply = replies.Interrupted (number_of x) reason; world = with_progress w k x (interrupted reason x.transfer) }

-- the destination is read-only again, as it was at the base
abbrev pub reverted : Running → Snapshot → Volume
reverted x base = operations.reverted x.destination base.image
    (if is_mirror x.policy.kind then x.destination.family else family_of_transfer x.transfer.number)
    (as_reverted x.policy base.ident x.destination.snapshots)

-- the snapshot that a transfer makes
abbrev pub prepared_snapshot : Up → Running → Ident → Snapshot
prepared_snapshot w x i = record {
  ident = i;
  name = made_name x.relation.number x.transfer.number;
  label = None;
  time = w.clock;
  maker = x.relation.number;
  image = x.source.active;
}

-- the volume's snapshot of the identity
abbrev pub snapshot_of : List Snapshot → Option Ident → Option Snapshot
snapshot_of ss None = None
snapshot_of ss (Some i) = find (λ s. same_ident s.ident i) ss

-- without one, an image without a block
abbrev pub image_or_none : Option Snapshot → Image
image_or_none None = []
image_or_none (Some s) = s.image

-- the base as both sides have it
abbrev pub bases : Running → Bases
bases x = record {
  at_source = image_or_none (snapshot_of x.source.snapshots x.relation.base);
  at_destination = image_or_none (snapshot_of x.destination.snapshots x.relation.base);
}

-- how many blocks of the leg are to be shipped
abbrev pub cost : Running → Snapshot → ℕ
cost x leg = if is_mirror x.policy.kind then mirror_cost leg.image x.destination.snapshots else vault_cost leg.image (bases x)

-- what the leg becomes at the destination
abbrev pub landing : Running → Snapshot → Image
landing x leg = if is_mirror x.policy.kind then leg.image else vault_landing leg.image (bases x) (free_tags x.destination)

-- from the place on, a volume but the own one has the family and the identity
abbrev pub is_elsewhere : List Volume → ℕ → ℕ → ℕ → Ident → Bool
is_elsewhere [] place own family i = false
is_elsewhere (v ∷ vs) place own family i = (not (place == own) && (v.family == family) && has v.snapshots i) || is_elsewhere vs (suc place) own family i

-- a mirror has the source's numbers; a vault keeps its own family, unless the leg has other numbers there
abbrev pub family_published : Up → Running → Ident → ℕ
family_published w x i = if is_mirror x.policy.kind then x.source.family
    else (if is_elsewhere w.volumes 0 x.relation.destination x.destination.family i then family_of_transfer x.transfer.number else x.destination.family)

-- the leg as the destination has it
abbrev pub arrived : Running → Snapshot → Snapshot
arrived x leg = record leg { image = landing x leg }

-- the destination's list with the leg last, and what a vault keeps of it
abbrev pub list_published : Up → Running → Snapshot → List Snapshot
list_published w x s = if is_mirror x.policy.kind then x.destination.snapshots ++ s ∷ []
    else retained x.policy.rules (class_of x.policy) (needed w x.relation.destination) (x.destination.snapshots ++ s ∷ [])

abbrev pub published : Up → Running → Snapshot → Volume
published w x leg = taken_over x.destination (landing x leg) (family_published w x leg.ident) (list_published w x (arrived x leg))

-- it is one of the leg's blocks, has not landed, and is not too far past the checkpoint
abbrev pub may_ship : Running → ℕ → ℕ → Bool
may_ship x cost k = not (stands k x.transfer.landed) && nat_lt k cost && nat_lt k (x.transfer.checkpoint + WINDOW)

abbrev pub all_landed : Running → ℕ → Bool
all_landed x cost = list_all (λ k. stands k x.transfer.landed) (numbers 0 cost)

-- all that may be shipped has landed, and there is more
abbrev pub at_checkpoint : Running → ℕ → Bool
at_checkpoint x cost = (landed_prefix x.transfer.landed == x.transfer.checkpoint + WINDOW) && nat_lt (landed_prefix x.transfer.landed) cost
