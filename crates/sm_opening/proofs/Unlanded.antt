-- What opening tests of a world comes out the same where nothing of a transfer has landed.
use Rattle.std.proofs.Common.{◌≡◌, ◌≢◌, ℕ, ◌<◌, List, [], ◌∷◌, length, take, map, Option, Some, None, refl, sym, ap, subst, ◌∙◌, inl, inr}
use Rattle.std.specs.List.{All}
use Rattle.std.specs.Option.{option_map}
use Rattle.std.proofs.Math.ListN.{get_or-map}
use Rattle.std.proofs.lemmas.List.{take-map, length-map}
use Rattle.std.proofs.lemmas.Option.{same_Some, none-some}
use Rattle.sm_defs.specs.Words.{Among}
use Rattle.sm_defs.specs.Relationship.{Relationship, Transfer}
use Rattle.sm_defs.specs.World.{Up, relation_at, no_relation}
use Rattle.sm_defs.proofs.Members.{among_map}
use Rattle.sm_model.specs.Crossed.{Crossed, CrossedRelation, CrossedTransfer}
use Rattle.sm_shape.specs.Crossing.{FitsBehind, FitsAt, IsFirstMisfit, IsFirstCrossing, HasOtherDestination, HasOtherTransfer, HasNewTransfer}
use Rattle.sm_shape.specs.Interim.{IsPlain, IsInterim}
use Rattle.sm_shape.proofs.CrossedLaw.{crossed_of, fits_of}
use Rattle.sm_shape.proofs.ListWords.{all_among, among_all, each_image, image_each}
use Rattle.sm_opening.specs.Unlanded.{unlanded_transfer, unlanded_relation, unlanded}

-- ---- a transfer

landed_before : (o : Option Transfer) (t : Transfer) → option_map unlanded_transfer o ≡ Some t → (u : Transfer) × (o ≡ Some u) × (t ≡ unlanded_transfer u)
landed_before None t e = absurd (none-some t e)
landed_before (Some u) t e = (u, refl, sym (same_Some (unlanded_transfer u) t e))

none_before : (o : Option Transfer) → option_map unlanded_transfer o ≡ None → o ≡ None
none_before None e = refl
none_before (Some u) e = absurd (none-some (unlanded_transfer u) (sym e))

transfer_there : (w : Up) (r : Relationship) (t : Transfer) → CrossedTransfer w r t → CrossedTransfer (unlanded w) (unlanded_relation r) (unlanded_transfer t)
transfer_there w r t c = record {
  at_source = c.at_source;
  at_destination = c.at_destination;
  counts = c.counts;
  given = c.given;
  legs_differ = c.legs_differ;
  legs_at_source = c.legs_at_source;
}

transfer_back : (w : Up) (r : Relationship) (t : Transfer) → CrossedTransfer (unlanded w) (unlanded_relation r) (unlanded_transfer t) → CrossedTransfer w r t
transfer_back w r t c = record {
  at_source = c.at_source;
  at_destination = c.at_destination;
  counts = c.counts;
  given = c.given;
  legs_differ = c.legs_differ;
  legs_at_source = c.legs_at_source;
}

other_there : (n : ℕ) (q : Relationship) → HasOtherTransfer n q → HasOtherTransfer n (unlanded_relation q)
other_there n q all t e = let u = landed_before q.transfer t e in subst (λ (x : Transfer). x.number ≢ n) (sym u.2) (all u.0 u.1)

other_back : (n : ℕ) (q : Relationship) → HasOtherTransfer n (unlanded_relation q) → HasOtherTransfer n q
other_back n q all t e = all (unlanded_transfer t) (ap (option_map unlanded_transfer) e)

-- ---- a relationship

relation_there : (w : Up) (r : Relationship) → CrossedRelation w r → CrossedRelation (unlanded w) (unlanded_relation r)
relation_there w r c = record {
  source = c.source;
  destination = c.destination;
  policy = c.policy;
  apart = c.apart;
  counts = c.counts;
  given = c.given;
  halves = c.halves;
  base_at_source = c.base_at_source;
  base_at_destination = c.base_at_destination;
  logical = c.logical;
  physical = c.physical;
}

relation_back : (w : Up) (r : Relationship) → CrossedRelation (unlanded w) (unlanded_relation r) → CrossedRelation w r
relation_back w r c = record {
  source = c.source;
  destination = c.destination;
  policy = c.policy;
  apart = c.apart;
  counts = c.counts;
  given = c.given;
  halves = c.halves;
  base_at_source = c.base_at_source;
  base_at_destination = c.base_at_destination;
  logical = c.logical;
  physical = c.physical;
}

each_there : (P Q : Relationship → Type 0) (qs : List Relationship) → ((q : Relationship) → P q → Q (unlanded_relation q)) → All P qs → All Q (map unlanded_relation qs)
each_there P Q qs step all = among_all Q (map unlanded_relation qs) (each_image unlanded_relation Q qs (λ q a. step q (all_among P qs all q a)))

each_back : (P Q : Relationship → Type 0) (qs : List Relationship) → ((q : Relationship) → Q (unlanded_relation q) → P q) → All Q (map unlanded_relation qs) → All P qs
each_back P Q qs step all = among_all P qs (λ q a. step q (image_each unlanded_relation Q qs (all_among Q (map unlanded_relation qs) all) q a))

new_there : (before : List Relationship) (r : Relationship) → HasNewTransfer before r → HasNewTransfer (map unlanded_relation before) (unlanded_relation r)
new_there before r new t e =
    let u = landed_before r.transfer t e in
    subst (λ (x : Transfer). All (HasOtherTransfer x.number) (map unlanded_relation before)) (sym u.2)
    (each_there (HasOtherTransfer u.0.number) (HasOtherTransfer u.0.number) before (other_there u.0.number) (new u.0 u.1))

new_back : (before : List Relationship) (r : Relationship) → HasNewTransfer (map unlanded_relation before) (unlanded_relation r) → HasNewTransfer before r
new_back before r new t e =
    each_back (HasOtherTransfer t.number) (HasOtherTransfer t.number) before (other_back t.number) (new (unlanded_transfer t) (ap (option_map unlanded_transfer) e))

behind_there : (w : Up) (before : List Relationship) (r : Relationship) → FitsBehind w before r → FitsBehind (unlanded w) (map unlanded_relation before) (unlanded_relation r)
behind_there w before r fits = record {
  relation = relation_there w r fits.relation;
  transfer = λ t e. let u = landed_before r.transfer t e in subst (CrossedTransfer (unlanded w) (unlanded_relation r)) (sym u.2) (transfer_there w r u.0 (fits.transfer u.0 u.1));
  destination_new = λ half. each_there (HasOtherDestination r) (HasOtherDestination (unlanded_relation r)) before (λ q other. other) (fits.destination_new half);
  transfer_new = new_there before r fits.transfer_new;
}

behind_back : (w : Up) (before : List Relationship) (r : Relationship) → FitsBehind (unlanded w) (map unlanded_relation before) (unlanded_relation r) → FitsBehind w before r
behind_back w before r fits = record {
  relation = relation_back w r fits.relation;
  transfer = λ t e. transfer_back w r t (fits.transfer (unlanded_transfer t) (ap (option_map unlanded_transfer) e));
  destination_new = λ half. each_back (HasOtherDestination r) (HasOtherDestination (unlanded_relation r)) before (λ q other. other) (fits.destination_new half);
  transfer_new = new_back before r fits.transfer_new;
}

-- ---- at a place

place_same : (w : Up) (k : ℕ) → relation_at (unlanded w) k ≡ unlanded_relation (relation_at w k)
place_same w k = get_or-map unlanded_relation w.relations k no_relation

front_same : (w : Up) (k : ℕ) → take k (unlanded w).relations ≡ map unlanded_relation (take k w.relations)
front_same w k = take-map unlanded_relation k w.relations

fits_there : (w : Up) (k : ℕ) → FitsAt w k → FitsAt (unlanded w) k
fits_there w k fits =
    subst (λ (qs : List Relationship). FitsBehind (unlanded w) qs (relation_at (unlanded w) k)) (sym (front_same w k))
    (subst (FitsBehind (unlanded w) (map unlanded_relation (take k w.relations))) (sym (place_same w k)) (behind_there w (take k w.relations) (relation_at w k) fits))

fits_back : (w : Up) (k : ℕ) → FitsAt (unlanded w) k → FitsAt w k
fits_back w k fits =
    behind_back w (take k w.relations) (relation_at w k)
    (subst (FitsBehind (unlanded w) (map unlanded_relation (take k w.relations))) (place_same w k)
    (subst (λ (qs : List Relationship). FitsBehind (unlanded w) qs (relation_at (unlanded w) k)) (front_same w k) fits))

many_same : (w : Up) → length (unlanded w).relations ≡ length w.relations
many_same w = length-map w.relations unlanded_relation

place_there : (w : Up) (k : ℕ) → k < length w.relations → k < length (unlanded w).relations
place_there w k lt = subst (λ n. k < n) (sym (many_same w)) lt

place_back : (w : Up) (k : ℕ) → k < length (unlanded w).relations → k < length w.relations
place_back w k lt = subst (λ n. k < n) (many_same w) lt

-- ---- the world

pub crossed_there : (w : Up) → Crossed w → Crossed (unlanded w)
crossed_there w crossed = crossed_of (unlanded w) (λ k lt. fits_there w k (fits_of w crossed k (place_back w k lt)))

pub crossed_back : (w : Up) → Crossed (unlanded w) → Crossed w
crossed_back w crossed = crossed_of w (λ k lt. fits_back w k (fits_of (unlanded w) crossed k (place_there w k lt)))

misfit_there : (w : Up) (k : ℕ) → IsFirstMisfit w k → IsFirstMisfit (unlanded w) k
misfit_there w k first = record {
  place = place_there w k first.place;
  before = λ j lt. fits_there w j (first.before j lt);
  breaks = λ fits. first.breaks (fits_back w k fits);
}

misfit_back : (w : Up) (k : ℕ) → IsFirstMisfit (unlanded w) k → IsFirstMisfit w k
misfit_back w k first = record {
  place = place_back w k first.place;
  before = λ j lt. fits_back w j (first.before j lt);
  breaks = λ fits. first.breaks (fits_there w k fits);
}

pub first_there : (w : Up) (k : ℕ) → IsFirstCrossing w k → IsFirstCrossing (unlanded w) k
first_there w k first = record { misfit = misfit_there w k first.misfit; not_crossed = λ crossed. first.not_crossed (crossed_back w crossed) }

pub first_back : (w : Up) (k : ℕ) → IsFirstCrossing (unlanded w) k → IsFirstCrossing w k
first_back w k first = record { misfit = misfit_back w k first.misfit; not_crossed = λ crossed. first.not_crossed (crossed_there w crossed) }

-- ---- without transfers

transfer_same : (o : Option Transfer) → o ≡ None → option_map unlanded_transfer o ≡ o
transfer_same o none = ap (option_map unlanded_transfer) none ∙ sym none

relation_same : (r : Relationship) → r.transfer ≡ None → unlanded_relation r ≡ r
relation_same r none = ap (λ (o : Option Transfer). record r { transfer = o }) (transfer_same r.transfer none)

relations_same : (rs : List Relationship) → ((r : Relationship) → Among rs r → r.transfer ≡ None) → map unlanded_relation rs ≡ rs
relations_same [] none = refl
relations_same (r ∷ rs) none =
    ap (λ (q : Relationship). q ∷ map unlanded_relation rs) (relation_same r (none r (inl refl))) ∙ ap (λ (qs : List Relationship). r ∷ qs) (relations_same rs (λ q a. none q (inr a)))

pub interim_same : (w : Up) → IsInterim w → unlanded w ≡ w
interim_same w plain = ap (λ (rs : List Relationship). record w { relations = rs }) (relations_same w.relations (λ r a. (plain.relations r a).transfer))

pub interim_there : (w : Up) → IsInterim w → IsInterim (unlanded w)
interim_there w plain = subst IsInterim (sym (interim_same w plain)) plain

plain_back : (r : Relationship) → IsPlain (unlanded_relation r) → IsPlain r
plain_back r plain = record { base = plain.base; transfer = none_before r.transfer plain.transfer; active = plain.active }

pub interim_back : (w : Up) → IsInterim (unlanded w) → IsInterim w
interim_back w plain = record {
  relations = λ r a. plain_back r (plain.relations (unlanded_relation r) (among_map unlanded_relation w.relations r a));
  policies = plain.policies;
}
