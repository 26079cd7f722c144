-- What a destination shows, as the definitions speak of it.
use Rattle.std.proofs.Common.{◌≡◌, ◌↔◌, ◌<◌, ◌≤◌, List, length, get_or, map, sym, ap, subst, ◌∙◌, arith}
use Rattle.std.specs.Prelude.{true, Some}
use Rattle.std.proofs.lemmas.List.{get_or_past, length-map}
use Rattle.sm_base.specs.declared.numbers.Ident.{Ident}
use Rattle.sm_base.specs.declared.numbers.Kind.TheVariants.{Dp}
use Rattle.sm_defs.specs.Words.{Among}
use Rattle.sm_defs.specs.Volume.{Volume, Snapshot, no_volume}
use Rattle.sm_defs.specs.Relationship.{Relationship, legs_of}
use Rattle.sm_defs.specs.World.{volume_at}
use Rattle.sm_model.specs.DestinationsStand.{newest_published, StandsAtBase}
use Rattle.sm_model.specs.declared.world.WorldVolume.{WorldVolume}
use Rattle.sm_shape.specs.Blank.{blank_snapshot, blank_volume, blank_image, having}
use Rattle.sm_shape.specs.Bases.{ShowsOne, newest_of, ShowsBase}
use Rattle.sm_shape.proofs.ListWords.{all_among, among_all}
use Rattle.sm_defs.proofs.Members.{among_map, from_map}
use Rattle.sm_shape.proofs.PlacesLemmas.{same_maps}
use Rattle.sm_shape.proofs.RulesLemmas.{at_image}

-- of any volume
abbrev Body : Relationship → Volume → Type 0
Body r v = (base : Ident) (s : Snapshot) → r.destination_half ≡ true → v.kind ≡ Dp → r.base ≡ Some base →
    Among v.snapshots s → s.ident ≡ newest_published v.snapshots base (legs_of r.transfer) → v.active ≡ s.image

shown : (r : Relationship) (v : WorldVolume) → ShowsBase r v → Body r (blank_volume v)
shown r v f base s half dp is among same =
    let t = from_map blank_snapshot v.snapshots.items s among in
    let ident : t.0.ident ≡ newest_of r v base = ap (λ (x : Snapshot). x.ident) (sym t.2) ∙ same in
    ap blank_image (all_among (ShowsOne (newest_of r v base) v.active.items) v.snapshots.items (f base half dp is) t.0 t.1 ident) ∙ ap (λ (x : Snapshot). x.image) (sym t.2)

shows : (r : Relationship) (v : WorldVolume) → Body r (blank_volume v) → ShowsBase r v
shows r v f base half dp is = among_all (ShowsOne (newest_of r v base) v.active.items) v.snapshots.items
    (λ s a same. same_maps v.active.items s.map.items (f base (blank_snapshot s) half dp is (among_map blank_snapshot v.snapshots.items s a) same))

pub base_shown : (vs : List WorldVolume) (r : Relationship) (v : WorldVolume) → r.destination < length vs → v ≡ get_or vs r.destination v → ShowsBase r v ↔ StandsAtBase (having vs) r
base_shown vs r v lt is =
    let e : volume_at (having vs) r.destination ≡ blank_volume v = at_image blank_volume vs r.destination v no_volume lt is in
    (λ f. subst (Body r) (sym e) (shown r v f), λ b. shows r v (subst (Body r) e b))

-- where there is no volume nothing is asked
pub nothing_shown : (vs : List WorldVolume) (r : Relationship) → length vs ≤ r.destination → StandsAtBase (having vs) r
nothing_shown vs r past =
    let e : volume_at (having vs) r.destination ≡ no_volume = get_or_past (map blank_volume vs) r.destination no_volume (omega (arith, past, length-map vs blank_volume)) in
    subst (Body r) (sym e) (λ base s half dp is among same. absurd among)
