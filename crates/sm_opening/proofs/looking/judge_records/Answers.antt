use Rattle.std.proofs.Common.{◌≡◌, List, map, IfErr, subst}
use Rattle.sm_catroot.specs.Catalog.{Catalog}
use Rattle.volume_store.specs.Opened.{FoundMaps}
use Rattle.sm_opening.specs.Looked.{IsDamageOf, AnswersDamage}
use Rattle.sm_opening.specs.Finding.{root_of}
use Rattle.sm_opening.specs.OnDisk.{Disks, Damage, world_of, IsWholeDamage}
use Rattle.sm_opening.proofs.looking.judge_records.Goals as goal

pub returns-clause-faults : goal.returns-clause-faults
returns-clause-faults c =
    subst (λ (k : Catalog). IfErr c.judge.result (λ e. (d : Disks) → d.sizes ≡ c.args.lengths.now → IsDamageOf (IsWholeDamage d k (world_of d k (map root_of c.args.records.now.founds))) e)) c.catalog.ensures
    (subst (λ (fs : List FoundMaps). IfErr c.judge.result (λ e. (d : Disks) → d.sizes ≡ c.args.lengths.now → IsDamageOf (IsWholeDamage d c.catalog.result.now (world_of d c.catalog.result.now (map root_of fs))) e)) c.founds.ensures c.judge.ensures.faults)

pub returns-clause-exact : goal.returns-clause-exact
returns-clause-exact c =
    subst (λ (k : Catalog). (d : Disks) → d.sizes ≡ c.args.lengths.now → (f : Damage) → IsWholeDamage d k (world_of d k (map root_of c.args.records.now.founds)) f → AnswersDamage f c.judge.result) c.catalog.ensures
    (subst (λ (fs : List FoundMaps). (d : Disks) → d.sizes ≡ c.args.lengths.now → (f : Damage) → IsWholeDamage d c.catalog.result.now (world_of d c.catalog.result.now (map root_of fs)) f → AnswersDamage f c.judge.result) c.founds.ensures c.judge.ensures.exact)
