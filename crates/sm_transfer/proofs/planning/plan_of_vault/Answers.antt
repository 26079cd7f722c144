use Rattle.std.proofs.Common.{◌≡◌, List, ℕ, Err, length, ap₂, ◌∙◌, ap, sym, subst, arith}
use Rattle.sm_bits.specs.Places.{size}
use Rattle.sm_defs.specs.Volume.{free_tags}
use Rattle.sm_select.proofs.MemberLemmas.{as_many_members}
use Rattle.sm_root.specs.declared.root.Root.{Root}
use Rattle.sm_select.specs.PlanLaws.{HasTags}
use Rattle.sm_volume.specs.Seen.{root_of}
use Rattle.sm_transfer.specs.Beginning.{base_numbers, bases_of, room_reason}
use Rattle.sm_transfer.proofs.PlanningLemmas.{base_tags, base_long, free_members, free_size, room_enough, room_lacking}
use Rattle.sm_transfer.proofs.planning.plan_of_vault.Goals as goal

pub plan_vault-requires-clause-source : goal.plan_vault-requires-clause-source
plan_vault-requires-clause-source g c =
    let s = c.args.source.now in
    let from : c.as_slice.result.now ≡ base_numbers (root_of s.number s.volume) c.args.base = c.as_slice.ensures ∙ c.in_ok-at_source.ensures ∙ ap (λ (r : Root). base_numbers r c.args.base) c.root.ensures in
    ap length from ∙ base_long (root_of s.number s.volume) c.args.base c.told.ensures.good ∙ sym c.requires.source

pub plan_vault-requires-clause-destination : goal.plan_vault-requires-clause-destination
plan_vault-requires-clause-destination g c =
    let d = c.args.destination.now in
    let to : c.as_slice-2.result.now ≡ base_numbers (root_of d.number d.volume) c.args.base = c.as_slice-2.ensures ∙ c.in_ok-at_destination.ensures ∙ ap (λ (r : Root). base_numbers r c.args.base) c.root-2.ensures in
    ap length to ∙ base_long (root_of d.number d.volume) c.args.base c.told-2.ensures.good ∙ sym c.requires.destination

pub returns-in-Ok : goal.returns-in-Ok
returns-in-Ok g c = λ image same.
    let s = c.args.source.now in
    let d = c.args.destination.now in
    let both = bases_of c.args.base s.volume d.volume in
    let from : c.as_slice.result.now ≡ base_numbers (root_of s.number s.volume) c.args.base = c.as_slice.ensures ∙ c.in_ok-at_source.ensures ∙ ap (λ (r : Root). base_numbers r c.args.base) c.root.ensures in
    let to : c.as_slice-2.result.now ≡ base_numbers (root_of d.number d.volume) c.args.base = c.as_slice-2.ensures ∙ c.in_ok-at_destination.ensures ∙ ap (λ (r : Root). base_numbers r c.args.base) c.root-2.ensures in
    let at_source : HasTags c.as_slice.result.now both.at_source = subst (λ (ns : List ℕ). HasTags ns both.at_source) (sym from) (base_tags s.number s.volume c.args.base) in
    let at_destination : HasTags c.as_slice-2.result.now both.at_destination = subst (λ (ns : List ℕ). HasTags ns both.at_destination) (sym to) (base_tags d.number d.volume c.args.base) in
    let left = free_size c.space.result.now d.volume c.told-2.ensures.images c.space.ensures in
    let room = c.in-Ok.ensures.room image both same at_source in
    let members = free_members c.space.result.now d.volume c.space.ensures in
    let many : length (free_tags d.volume) ≡ size c.space.result.now = ap length (sym members) ∙ as_many_members c.space.result.now in (
      room_enough _ _ (omega (arith, left, room)),
      record {
        vault = c.in-Ok.ensures.missing image both d.volume same at_source at_destination members;
        enough = omega (arith, many, room);
      },
    )

pub returns-in-Err-NoSpace : goal.returns-in-Err-NoSpace
returns-in-Err-NoSpace g c = λ image same.
    let s = c.args.source.now in
    let d = c.args.destination.now in
    let both = bases_of c.args.base s.volume d.volume in
    let from : c.as_slice.result.now ≡ base_numbers (root_of s.number s.volume) c.args.base = c.as_slice.ensures ∙ c.in_ok-at_source.ensures ∙ ap (λ (r : Root). base_numbers r c.args.base) c.root.ensures in
    let at_source : HasTags c.as_slice.result.now both.at_source = subst (λ (ns : List ℕ). HasTags ns both.at_source) (sym from) (base_tags s.number s.volume c.args.base) in
    let left = free_size c.space.result.now d.volume c.told-2.ensures.images c.space.ensures in
    let told = c.plan_vault.ensures.fault image both c.in-Err-NoSpace.need c.in-Err-NoSpace.free same at_source (c.in-Err-NoSpace.is ∙ ap Err c.in-Err-NoSpace.field-0-is) in
    ap₂ (λ (n m : ℕ). room_reason n m) (sym told.0) (sym left ∙ sym told.1) ∙ room_lacking _ _ told.2
