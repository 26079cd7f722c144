-- What the relating of two volumes makes of a catalogue.
use Rattle.std.specs.Prelude.{ℕ, suc, ◌==◌, ◌&&◌, ◌||◌, Bool, true, false, List, [], ◌∷◌, ◌++◌, length, Option, Some, None, Result, Ok, Err}
use Rattle.sm_base.specs.declared.limits.TheConstants.{MOST_RELATIONS, LAST_RELATION}
use Rattle.sm_base.specs.declared.numbers.RelNo.{RelNo}
use Rattle.sm_base.specs.declared.refusal.What.TheVariants.{Relations}
use Rattle.sm_base.specs.declared.refusal.Refusal.{Refusal}
use Rattle.sm_base.specs.declared.refusal.Refusal.TheVariants as refusals
use Rattle.sm_defs.specs.Edges as edges
use Rattle.sm_defs.specs.World.{Up, volume_at, policy_at}
use Rattle.sm_defs.specs.Words.{found}
use Rattle.sm_relation.specs.declared.relation.Relation.{Relation}
use Rattle.sm_model.specs.Answers.{◌>>=◌, ◌>>◌, ◌when◌, volume_named, policy_named, goes_to, relno, volno}
use Rattle.sm_model.specs.OfRelations.{already, sizes_differ, closes}
use Rattle.sm_catroot.specs.Catalog.{Catalog}

-- between volumes and by a policy of these numbers: with both halves and no base
abbrev pub new_relation : ℕ → ℕ → ℕ → ℕ → Relation
new_relation number source destination policy = record {
  number = relno number;
  source = volno source;
  destination = volno destination;
  policy = policy;
  source_half = true;
  destination_half = true;
  quiesced = false;
  base = None;
  transfer = None;
}

-- with a further relationship, whose number is never given again
abbrev pub with_new_relation : Catalog → ℕ → ℕ → ℕ → Catalog
with_new_relation k source destination policy = record k {
  next_relation = suc k.next_relation;
  relations = k.relations ++ new_relation k.next_relation source destination policy ∷ [];
}

-- with its destination half at the volume
abbrev pub goes_there : ℕ → Relation → Bool
goes_there number r = r.destination_half && (r.destination.0 == number)

-- the destination of no relationship, or of this one already
unfoldable pub already_by : Option RelNo → Result (Unit {0}) Refusal
already_by None = Ok tt
already_by (Some number) = Err (refusals.AlreadyDestination number)

-- no number is left, or no place
abbrev pub are_full : Catalog → Bool
are_full k = (length k.relations == MOST_RELATIONS) || (k.next_relation == LAST_RELATION)

-- whether a volume may follow another by a policy, of these numbers in a world with the record
abbrev pub relation_test : Catalog → Up → ℕ → ℕ → ℕ → Result (Unit {0}) Refusal
relation_test k w source destination policy = do
  already (found (goes_to destination) w.relations)
  refusals.SizeMismatch when sizes_differ (policy_at w policy) (volume_at w source) (volume_at w destination)
  refusals.Cycle when closes (edges.edges w) source destination
  refusals.Full Relations when are_full k

abbrev pub related_at : Catalog → Up → ℕ → ℕ → ℕ → Result Catalog Refusal
related_at k w source destination policy = do
  relation_test k w source destination policy
  Ok (with_new_relation k source destination policy)

abbrev pub related : Catalog → Up → List ℕ → List ℕ → List ℕ → Result Catalog Refusal
related k w source destination policy = do
  s ← volume_named w source
  d ← volume_named w destination
  p ← policy_named w policy
  related_at k w s.at d.at p.at
