-- The volumes of a running transfer stand in the world.
use Rattle.std.proofs.Common.{◌≡◌, ℕ, Bool, true, false, cond, ◌||◌, List, [], ◌∷◌, Option, Some, refl, sym, ap, subst, true≢false, ◌∙◌, None}
use Rattle.sm_base.specs.declared.numbers.Ident.{Ident}
use Rattle.sm_defs.specs.Words.{Among, same_ident}
use Rattle.sm_defs.specs.Volume.{Snapshot, no_volume, has}
use Rattle.sm_defs.specs.World.{Up, no_relation, volume_at}
use Rattle.sm_defs.proofs.Idents.{same_is}
use Rattle.sm_defs.proofs.Members.{among_get_or}
use Rattle.sm_defs.proofs.Searches.{find_is}
use Rattle.sm_model.specs.Crossed.{Crossed}
use Rattle.sm_model.specs.Running.{Running, IsRunning}
use Rattle.sm_model.specs.Steps.{snapshot_of}
use Rattle.laws_transfer.proofs.Lists.{has_from_copy}

pub relation_stands : (w : Up) (k : ℕ) (x : Running) → IsRunning w k x → Among w.relations x.relation
relation_stands w k x r = subst (Among w.relations) r.stands (among_get_or w.relations k no_relation r.place)

pub source_stands : (w : Up) (k : ℕ) (x : Running) → IsRunning w k x → Crossed w → Among w.volumes x.source
source_stands w k x r c = subst (Among w.volumes) (sym (ap (λ y. y.source) r.is)) (among_get_or w.volumes x.relation.source no_volume (c.relations x.relation (relation_stands w k x r)).source)

pub destination_stands : (w : Up) (k : ℕ) (x : Running) → IsRunning w k x → Crossed w → Among w.volumes x.destination
destination_stands w k x r c = subst (Among w.volumes) (sym (ap (λ y. y.destination) r.is)) (among_get_or w.volumes x.relation.destination no_volume (c.relations x.relation (relation_stands w k x r)).destination)

pub snapshot_is : (ss : List Snapshot) (i : Ident) (s : Snapshot) → snapshot_of ss (Some i) ≡ Some s → Among ss s × (s.ident ≡ i)
snapshot_is ss i s e = let q = find_is (λ t. same_ident t.ident i) ss s e in (q.0, same_is s.ident i q.1)

pub lacked : (ss : List Snapshot) (i : Ident) (s : Snapshot) → has ss i ≡ false → Among ss s → ¬ (s.ident ≡ i)
lacked ss i s h m e = true≢false (sym (has_from_copy ss i (s, m, e)) ∙ h)

pub base_is : (o : Option Ident) (ss : List Snapshot) (base : Snapshot) → snapshot_of ss o ≡ Some base → o ≡ Some base.ident
base_is None ss base e = absurd (cc)
base_is (Some i) ss base e = ap Some (sym (snapshot_is ss i base e).1)

pub at_x : (w : Up) (k : ℕ) (x : Running) → IsRunning w k x → volume_at w x.relation.destination ≡ x.destination
at_x w k x r = sym (ap (λ y. y.destination) r.is)
