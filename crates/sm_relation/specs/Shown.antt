-- What a relationship and a root say of the world's relationships and volumes.
use Rattle.std.specs.Prelude.{◌≡◌, ℕ, Bool, List, map, Option, Some, None}
use Rattle.std.specs.Option.{option_map}
use Rattle.sm_defs.specs.Volume.{Volume, idents}
use Rattle.sm_defs.specs.Relationship as defs
use Rattle.sm_defs.specs.May.{may_abort}
use Rattle.sm_root.specs.declared.root.Root.{Root}
use Rattle.sm_root.specs.Condition.{ident_of}
use Rattle.sm_relation.specs.declared.relation.Relation.{Relation}
use Rattle.sm_relation.specs.declared.relation.Standing.{Standing}

-- the root is of the volume, as far as states are told by it
pub record IsRootOf (root : Root) (v : Volume) : Type 0 where
  pub kind : root.kind ≡ v.kind
  pub family : root.family ≡ v.family
  pub snapshots : map ident_of root.snapshots ≡ idents v.snapshots

-- what has landed, and whether the destination was pruned, stands elsewhere while it runs
abbrev pub transfer_of : List ℕ → Bool → Standing → defs.Transfer
transfer_of landed pruned t = record {
  number = t.number;
  kind = t.kind;
  reserved = t.reserved;
  checkpoint = t.checkpoint;
  legs = t.legs;
  stopped = t.stopped;
  landed = landed;
  pruned = pruned;
}

abbrev pub relationship_of : List ℕ → Bool → Relation → defs.Relationship
relationship_of landed pruned r = record {
  number = r.number.0;
  source = r.source.0;
  destination = r.destination.0;
  policy = r.policy;
  source_half = r.source_half;
  destination_half = r.destination_half;
  quiesced = r.quiesced;
  base = r.base;
  transfer = option_map (transfer_of landed pruned) r.transfer;
}

-- nothing is aborted where no transfer stands
abbrev pub abort_refusal : {R : Type 0} → R → Bool → Option defs.Transfer → Option R
abort_refusal no_transfer hard None = Some no_transfer
abort_refusal no_transfer hard (Some t) = may_abort no_transfer hard t
