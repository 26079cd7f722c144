-- What events on relationships are answered, but for those that start or stop a transfer.
use Rattle.std.specs.Prelude.{ℕ, suc, ◌==◌, ◌&&◌, ◌||◌, not, Bool, true, false, List, [], ◌∷◌, ◌++◌, length, slice_set, Option, Some, None, Result, Ok, Err}
use Rattle.std.specs.List.{filter}
use Rattle.sm_base.specs.declared.refusal.What.TheVariants.{Relations}
use Rattle.sm_base.specs.declared.refusal.Refusal.{Refusal}
use Rattle.sm_base.specs.declared.refusal.Refusal.TheVariants as refusals
use Rattle.sm_model.specs.declared.reply.Reply.TheVariants as replies
use Rattle.sm_base.specs.declared.limits.TheConstants.{MOST_RELATIONS, LAST_RELATION}
use Rattle.sm_defs.specs.Words.{Found, found, or_else}
use Rattle.sm_defs.specs.Volume.{Volume}
use Rattle.sm_defs.specs.Operations.{writable}
use Rattle.sm_defs.specs.May.{may_break, may_delete, may_release}
use Rattle.sm_defs.specs.Relationship.{Policy, Relationship, is_mirror}
use Rattle.sm_defs.specs.World.{Up, with_volume, with_relation}
use Rattle.sm_defs.specs.Edges.{edges, upstream, Edge}
use Rattle.sm_model.specs.Answers.{Answer, ◌>>=◌, ◌>>◌, ◌when◌, ◌and◌, allowed, some_or, volume_named, policy_named, target_named, goes_to, relno}

-- the volume is a destination already
unfoldable pub already : Option (Found Relationship) → Result (Unit {0}) Refusal
already None = Ok tt
already (Some r) = Err (refusals.AlreadyDestination (relno r.item.number))

-- with both halves and no base
abbrev pub new_relation : ℕ → ℕ → ℕ → ℕ → Relationship
new_relation number source destination policy = record {
  number = number;
  source = source;
  destination = destination;
  policy = policy;
  source_half = true;
  destination_half = true;
  quiesced = false;
  base = None;
  transfer = None;
}

-- its number is never given again
abbrev pub with_new_relation : Up → ℕ → ℕ → ℕ → Up
with_new_relation w source destination policy = record w {
  next_relation = suc w.next_relation;
  relations = w.relations ++ new_relation w.next_relation source destination policy ∷ [];
}

-- an edge from source to destination would close a walk
abbrev pub closes : List Edge → ℕ → ℕ → Bool
closes es source destination = (source == destination) || upstream es destination source

abbrev pub sizes_differ : Policy → Volume → Volume → Bool
sizes_differ p source destination = not (source.logical == destination.logical) || (is_mirror p.kind && not (source.physical == destination.physical))

abbrev pub relate : Up → List ℕ → List ℕ → List ℕ → Answer
relate w source destination policy = do
  s ← volume_named w source
  d ← volume_named w destination
  p ← policy_named w policy
  already (found (goes_to d.at) w.relations)
  refusals.SizeMismatch when sizes_differ p.item s.item d.item
  refusals.Cycle when closes (edges w) s.at d.at
  refusals.Full Relations when (length w.relations == MOST_RELATIONS) || (w.next_relation == LAST_RELATION)
  replies.Related (relno w.next_relation) and with_new_relation w s.at d.at p.at

abbrev pub quiesced_as : Bool → Relationship → Relationship
quiesced_as flag r = record r { quiesced = flag }

abbrev pub set_quiesced : Up → List ℕ → Bool → Answer
set_quiesced w destination flag = do
  t ← target_named w destination
  replies.Done and with_relation w t.relation.at (quiesced_as flag t.relation.item)

abbrev pub break_off : Up → List ℕ → Answer
break_off w destination = do
  t ← target_named w destination
  allowed (may_break refusals.Writable refusals.Uninitialized refusals.Transferring t.destination.item t.relation.item)
  replies.Done and with_volume w t.destination.at (writable t.destination.item)

abbrev pub has_a_half : Relationship → Bool
has_a_half r = r.source_half || r.destination_half

-- the relationship at a place is changed; with neither half it is gone
abbrev pub with_halves : Up → ℕ → Relationship → Up
with_halves w k r = record w { relations = filter has_a_half (slice_set w.relations k r) }

abbrev pub without_destination : Relationship → Relationship
without_destination r = record r { destination_half = false }

abbrev pub without_source : Relationship → Relationship
without_source r = record r { source_half = false }

abbrev pub delete : Up → List ℕ → Answer
delete w destination = do
  t ← target_named w destination
  allowed (may_delete refusals.Transferring t.relation.item)
  replies.Done and with_halves w t.relation.at (without_destination t.relation.item)

-- of these two volumes, with its source half
abbrev pub is_between : ℕ → ℕ → Relationship → Bool
is_between s d r = r.source_half && (r.source == s) && (r.destination == d)

-- one without a destination half, or else one with it
abbrev pub released : List Relationship → ℕ → ℕ → Option (Found Relationship)
released rs s d = or_else (found (λ r. is_between s d r && not r.destination_half) rs) (found (is_between s d) rs)

abbrev pub release : Up → List ℕ → List ℕ → Answer
release w source destination = do
  s ← volume_named w source
  d ← volume_named w destination
  r ← some_or (refusals.NoRelation destination) (released w.relations s.at d.at)
  allowed (may_release refusals.Active refusals.Transferring d.item r.item)
  replies.Done and with_halves w r.at (without_source r.item)
