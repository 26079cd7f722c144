-- What soundness says of relationships and of the numbers that were given, where blocks are read as zeros.
use Rattle.std.proofs.Common.{◌≡◌, ◌⊎◌, ℕ, ◌<◌, Bool, true, if◌then◌else◌, List, [], ◌∷◌, length, refl, sym, ap, subst, ◌∙◌, inl, inr}
use Rattle.std.proofs.lemmas.List.{length-map}
use Rattle.sm_base.specs.declared.numbers.Ident.{Ident}
use Rattle.sm_defs.specs.Words.{Among}
use Rattle.sm_defs.specs.Volume.{Volume, Snapshot, has}
use Rattle.sm_defs.specs.Relationship.{Relationship, Transfer, legs_of}
use Rattle.sm_defs.specs.Classes.{has_class}
use Rattle.sm_defs.specs.World.{Up, volume_at, policy_at}
use Rattle.sm_defs.proofs.Members.{among_map}
use Rattle.sm_model.specs.Crossed.{IsReservedLeg, CrossedRelation, Crossed}
use Rattle.sm_model.specs.DestinationsStand.{StandsAtSnapshot, newest_published, StandsAtBase, DestinationsStand}
use Rattle.sm_model.specs.NumbersStand.{IsNumbered, clients, transfers, NumberStands, NumbersStand}
use Rattle.sm_model.specs.FamiliesStand.{IsFamily, InOwnFamily, FamilyStands, FamiliesStand}
use Rattle.sm_model.specs.LegsKept.{LegsHaveClasses, LegsKept}
use Rattle.sm_model.specs.TransfersStand.{IsFirst, TransferStands, TransfersStand}
use Rattle.sm_shape.specs.Blanked.{zeroed, zeroed_snapshot, zeroed_volume, blanked}
use Rattle.laws_blank.proofs.Zeroed.{hole_zeroed, zeroed_list, zeroed_has, at_blanked, has_blanked}
use Rattle.laws_blank.proofs.Origins.{For, zeroed_block, nothing_mapped, stored_for, volume_for, snapshot_for, stands_for}

module _ (w : Up) where
  as_many : length (blanked w).volumes ≡ length w.volumes
  as_many = length-map w.volumes zeroed_volume

  within : (i : ℕ) → i < length w.volumes → i < length (blanked w).volumes
  within i h = subst (λ (n : ℕ). i < n) (sym as_many) h

  in_world : (i : ℕ) → i < length (blanked w).volumes → i < length w.volumes
  in_world i h = subst (λ (n : ℕ). i < n) as_many h

  kind_of : (i : ℕ) → (volume_at (blanked w) i).kind ≡ (volume_at w i).kind
  kind_of i = ap (λ (v : Volume). v.kind) (at_blanked w i)

  family_of : (i : ℕ) → (volume_at (blanked w) i).family ≡ (volume_at w i).family
  family_of i = ap (λ (v : Volume). v.family) (at_blanked w i)

  snapshot_at_for : (i : ℕ) (s : Snapshot) → Among (volume_at (blanked w) i).snapshots s → For zeroed_snapshot (Among (volume_at w i).snapshots) s
  snapshot_at_for i s a = snapshot_for (volume_at w i).snapshots s (subst (λ (v : Volume). Among v.snapshots s) (at_blanked w i) a)

  -- ---- relationships fit their volumes

  relation_crossed : (r : Relationship) → CrossedRelation w r → CrossedRelation (blanked w) r
  relation_crossed r c = record {
    source = within r.source c.source;
    destination = within r.destination c.destination;
    policy = c.policy;
    apart = c.apart;
    counts = c.counts;
    given = c.given;
    halves = λ half kind. c.halves half (sym (kind_of r.destination) ∙ kind);
    base_at_source = λ i base half. has_blanked w r.source i ∙ c.base_at_source i base half;
    base_at_destination = λ i base half. has_blanked w r.destination i ∙ c.base_at_destination i base half;
    logical = ap (λ (v : Volume). v.logical) (at_blanked w r.source) ∙ (c.logical ∙ sym (ap (λ (v : Volume). v.logical) (at_blanked w r.destination)));
    physical = λ mirror. ap (λ (v : Volume). v.physical) (at_blanked w r.source) ∙ (c.physical mirror ∙ sym (ap (λ (v : Volume). v.physical) (at_blanked w r.destination)));
  }

  leg_at_source : (r : Relationship) (t : Transfer) (i : Ident) → (has (volume_at w r.source).snapshots i ≡ true) ⊎ IsReservedLeg r t i → (has (volume_at (blanked w) r.source).snapshots i ≡ true) ⊎ IsReservedLeg r t i
  leg_at_source r t i (inl h) = inl (has_blanked w r.source i ∙ h)
  leg_at_source r t i (inr reserved) = inr reserved

  pub crossed_blanked : Crossed w → Crossed (blanked w)
  crossed_blanked c = record {
    relations = λ r a. relation_crossed r (c.relations r a);
    transfers = λ r t a is. let x = c.transfers r t a is in record {
      at_source = x.at_source;
      at_destination = x.at_destination;
      counts = x.counts;
      given = x.given;
      legs_differ = x.legs_differ;
      legs_at_source = λ i leg. leg_at_source r t i (x.legs_at_source i leg);
    };
    destinations_differ = c.destinations_differ;
    transfers_differ = c.transfers_differ;
  }

  -- ---- destinations stand at a snapshot

  stands_at_zeroed : (v : Volume) → StandsAtSnapshot v → StandsAtSnapshot (zeroed_volume v)
  stands_at_zeroed v f = record {
    blank = λ none p b st.
        let x = stored_for v p b st in
        x.is ∙ (ap zeroed_block (f.blank (nothing_mapped zeroed_snapshot v.snapshots none) p x.origin x.there) ∙ hole_zeroed);
    still = λ some. ap zeroed (f.still (λ e. some (ap zeroed_list e)));
    at = λ some.
        let x = f.at (λ e. some (ap zeroed_list e)) in
        (zeroed_snapshot x.0, among_map zeroed_snapshot v.snapshots x.0 x.1, ap zeroed x.2);
  }

  newest_blanked : (i : ℕ) (base : Ident) (is : List Ident) → newest_published (volume_at (blanked w) i).snapshots base is ≡ newest_published (volume_at w i).snapshots base is
  newest_blanked i base [] = refl
  newest_blanked i base (j ∷ js) = ap (λ (b : Bool). if b then j else base) (has_blanked w i j)

  stands_at_base : (r : Relationship) → StandsAtBase w r → StandsAtBase (blanked w) r
  stands_at_base r f = λ base s half kind is_base a ident.
      let x = snapshot_at_for r.destination s a in
      let newest : x.origin.ident ≡ newest_published (volume_at w r.destination).snapshots base (legs_of r.transfer) =
      sym (ap (λ (z : Snapshot). z.ident) x.is) ∙ (ident ∙ newest_blanked r.destination base (legs_of r.transfer)) in
      ap (λ (v : Volume). v.active) (at_blanked w r.destination)
      ∙ (ap zeroed (f base x.origin half (sym (kind_of r.destination) ∙ kind) is_base x.there newest)
      ∙ sym (ap (λ (z : Snapshot). z.image) x.is))

  pub destinations_blanked : DestinationsStand w → DestinationsStand (blanked w)
  destinations_blanked d = record {
    volumes = λ v a kind.
        let u = volume_for w v a in
        subst StandsAtSnapshot (sym u.is) (stands_at_zeroed u.origin (d.volumes u.origin u.there (sym (ap (λ (z : Volume). z.kind) u.is) ∙ kind)));
    bases = λ r a. stands_at_base r (d.bases r a);
  }

  -- ---- identities are of numbers that were given

  numbered : (s : Snapshot) → IsNumbered w s → IsNumbered (blanked w) (zeroed_snapshot s)
  numbered s (clients c k) = clients c (record {
    seq = k.seq;
    counts = k.counts;
    given = subst (λ (v : Volume). c < v.next) (sym (at_blanked w s.ident.origin)) k.given;
    maker = k.maker;
    name = k.name;
  })
  numbered s (transfers t k) = transfers t (record {
    seq = k.seq;
    given = k.given;
    maker_counts = k.maker_counts;
    maker_given = k.maker_given;
    name = k.name;
    label = k.label;
    while_standing = k.while_standing;
  })

  number_stands : (s : Snapshot) → NumberStands w s → NumberStands (blanked w) (zeroed_snapshot s)
  number_stands s n = record { origin = within s.ident.origin n.origin; seq = numbered s n.seq }

  has_for : (v u : Volume) (i : Ident) → v ≡ zeroed_volume u → has v.snapshots i ≡ has u.snapshots i
  has_for v u i e = ap (λ (x : Volume). has x.snapshots i) e ∙ zeroed_has u.snapshots i

  pub numbers_blanked : NumbersStand w → NumbersStand (blanked w)
  numbers_blanked n = record {
    snapshots = λ v s st. let x = stands_for w v s st in subst (NumberStands (blanked w)) (sym x.is_snapshot) (number_stands x.snapshot (n.snapshots x.volume x.snapshot x.stands));
    unmade = λ r t a is reserved lacks v b.
        let u = volume_for w v b in
        has_for v u.origin _ u.is ∙ n.unmade r t a is reserved (sym (has_blanked w r.source _) ∙ lacks) u.origin u.there;
  }

  -- ---- families are of numbers that were given

  family_given : (f : ℕ) → IsFamily w f → IsFamily (blanked w) f
  family_given f (inl h) = inl (within f h)
  family_given f (inr t) = inr t

  own_family : (r : Relationship) (t : Transfer) → InOwnFamily w r t → InOwnFamily (blanked w) r t
  own_family r t f = record {
    source_elsewhere = λ e. f.source_elsewhere (sym (family_of r.source) ∙ e);
    source_has = (f.source_has.0, f.source_has.1, has_blanked w r.source f.source_has.0 ∙ f.source_has.2);
    legs_alone = λ i n leg lacks less other family.
        has_blanked w n i ∙ f.legs_alone i n leg (sym (has_blanked w r.destination i) ∙ lacks) (in_world n less) other (sym (family_of n) ∙ family);
    others = λ n less other family kind.
        let x = f.others n (in_world n less) other (sym (family_of n) ∙ family) (sym (kind_of n) ∙ kind) in
        (λ e. x.0 (nothing_mapped zeroed_snapshot (volume_at w n).snapshots (sym (ap (λ (v : Volume). v.snapshots) (at_blanked w n)) ∙ e)), x.1);
  }

  family_stands : (r : Relationship) (t : Transfer) → FamilyStands w r t → FamilyStands (blanked w) r t
  family_stands r t f = λ vault.
      let x = f vault in (
        λ other v a e.
            let u = volume_for w v a in
            x.0 (λ own. other (family_of r.destination ∙ own)) u.origin u.there (sym (ap (λ (z : Volume). z.family) u.is) ∙ e),
        λ own. own_family r t (x.1 (sym (family_of r.destination) ∙ own)),
      )

  pub families_stand_blanked : FamiliesStand w → FamiliesStand (blanked w)
  families_stand_blanked f = record {
    given = λ v a.
        let u = volume_for w v a in
        family_given v.family (subst (λ (x : Volume). IsFamily w x.family) (sym u.is) (f.given u.origin u.there));
    transfers = λ r t a is. family_stands r t (f.transfers r t a is);
  }

  -- ---- transfers

  legs_have_classes : (r : Relationship) (t : Transfer) → LegsHaveClasses w r t → LegsHaveClasses (blanked w) r t
  legs_have_classes r t f = record {
    unreserved = f.unreserved;
    classes = λ s leg a.
        let x = snapshot_at_for r.source s a in
        ap (has_class (policy_at w r.policy)) x.is
        ∙ f.classes x.origin (subst (λ (z : Snapshot). Among t.legs z.ident) x.is leg) x.there;
  }

  pub legs_kept_blanked : LegsKept w → LegsKept (blanked w)
  legs_kept_blanked f = λ r t a is vault. legs_have_classes r t (f r t a is vault)

  transfer_stands : (v : Volume) (r : Relationship) (t : Transfer) → TransferStands v r t → TransferStands (zeroed_volume v) r t
  transfer_stands v r t f = record {
    writable = λ kind. let x = f.writable kind in (x.0, x.1, x.2, λ i leg. zeroed_has v.snapshots i ∙ x.3 i leg);
    unpruned = f.unpruned;
    resync = f.resync;
    ahead = λ i leg. zeroed_has v.snapshots i ∙ f.ahead i leg;
    ends = f.ends;
    first_time = λ none s a.
        let x = snapshot_for v.snapshots s a in
        subst (λ (z : Snapshot). IsFirst t.legs z.ident) (sym x.is) (f.first_time none x.origin x.there);
  }

  pub transfers_stand_blanked : TransfersStand w → TransfersStand (blanked w)
  transfers_stand_blanked f = λ r t a is.
      subst (λ (v : Volume). TransferStands v r t) (sym (at_blanked w r.destination)) (transfer_stands (volume_at w r.destination) r t (f r t a is))
