-- What a command asks of the state that it finds: its first refusal, if it has one, in this order. What a refusal
-- is differs from layer to layer.
use Rattle.std.specs.Prelude.{◌==◌, ◌&&◌, ◌||◌, not, Bool, true, false, Option, Some, None, is_some, is_none}
use Rattle.sm_defs.specs.Volume.{Volume, is_rw}
use Rattle.sm_defs.specs.Relationship.{Policy, Relationship, Transfer, is_mirror}
use Rattle.sm_defs.specs.Edges.{is_empty, runs}

-- refused so where the test holds, else as the later tests say
unfoldable pub refused : {R : Type 0} → R → Bool → Option R → Option R
refused r true later = Some r
refused r false later = later

-- a mirror whose volumes have numbers of different families
abbrev pub layouts_differ : Policy → Volume → Volume → Bool
layouts_differ p source destination = is_mirror p.kind && not (source.family == destination.family)

-- there is nothing to go on from
abbrev pub is_uninitialized : Volume → Relationship → Bool
is_uninitialized v r = is_empty v.snapshots || (is_none r.base && is_none r.transfer)

-- v is the destination of r, here and below
abbrev pub may_initialize : {R : Type 0} → R → R → R → R → Volume → Relationship → Option R
may_initialize writable initialized quiesced transferring v r =
    refused writable (is_rw v.kind) (
    refused initialized (not (is_empty v.snapshots)) (
    refused quiesced r.quiesced (
    refused transferring (runs r) None)))

-- whether the layouts differ is asked last
abbrev pub may_update : {R : Type 0} → R → R → R → R → R → Bool → Volume → Relationship → Option R
may_update writable uninitialized quiesced transferring other_layout differ v r =
    refused writable (is_rw v.kind) (
    refused uninitialized (is_uninitialized v r) (
    refused quiesced r.quiesced (
    refused transferring (runs r) (
    refused other_layout differ None))))

-- a transfer that stands is stopped where it runs, and discarded at any time
abbrev pub may_abort : {R : Type 0} → R → Bool → Transfer → Option R
may_abort no_transfer hard t = refused no_transfer (not hard && is_some t.stopped) None

-- whether the layouts differ and whether a walk would come back are asked last
abbrev pub may_resync : {R : Type 0} → R → R → R → R → Bool → Bool → Volume → Relationship → Option R
may_resync not_broken transferring other_layout cycle differ closes v r =
    refused not_broken (not (is_rw v.kind)) (
    refused transferring (runs r) (
    refused other_layout differ (
    refused cycle closes None)))

abbrev pub may_break : {R : Type 0} → R → R → R → Volume → Relationship → Option R
may_break writable uninitialized transferring v r =
    refused writable (is_rw v.kind) (
    refused uninitialized (is_empty v.snapshots) (
    refused transferring (is_some r.transfer) None))

abbrev pub may_delete : {R : Type 0} → R → Relationship → Option R
may_delete transferring r = refused transferring (is_some r.transfer) None

-- a destination that is still one keeps its source
abbrev pub may_release : {R : Type 0} → R → R → Volume → Relationship → Option R
may_release active transferring v r =
    refused active (r.destination_half && not (is_rw v.kind)) (
    refused transferring (is_some r.transfer) None)
