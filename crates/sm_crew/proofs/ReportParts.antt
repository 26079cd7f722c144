-- The parts of a report, in a world that stays but for the bytes of blocks.
use Rattle.std.proofs.Common.{◌≡◌, inl, inr, ℕ, zero, suc, ◌+◌, ◌-◌, ◌<◌, ◌≤◌, List, [], ◌∷◌, ◌++◌, map, length, drop, Option, Some, None, Ok, Err, refl, sym, ap, subst, ◌∙◌, append_assoc, arith, add-one}
use Rattle.std.specs.Prelude.{slice_index_or}
use Rattle.std.specs.List.{AllByRecursion}
use Rattle.std.proofs.Math.ListN.{drop_of_length-le}
use Rattle.std.proofs.lemmas.List.{length-map, length-append, drop_more}
use Rattle.sm_base.specs.declared.limits.TheConstants.{MOST_ENTRIES}
use Rattle.sm_base.specs.declared.numbers.DiskNo.{DiskNo}
use Rattle.sm_base.specs.declared.numbers.RelNo.{RelNo}
use Rattle.sm_disk.specs.Disk.{DiskState}
use Rattle.sm_defs.specs.Words.{Among, Ascends}
use Rattle.sm_defs.specs.Volume.{Volume, numbers, no_volume}
use Rattle.sm_defs.specs.Relationship.{Relationship}
use Rattle.sm_defs.specs.World.{Up, volume_at}
use Rattle.sm_defs.proofs.Members.{among_each, among_map, from_map, among_right, among_append, each_pushed}
use Rattle.sm_model.specs.declared.event.Event as the_event
use Rattle.sm_model.specs.declared.event.Event.TheVariants as events
use Rattle.sm_model.specs.declared.reply.Entry.{Entry}
use Rattle.sm_model.specs.Answers.{volno, relno}
use Rattle.sm_model.specs.Asked.{asked_of, asking, digest_events, events_of_volume, events_of_volumes, event_of_relation, report_events}
use Rattle.sm_model.specs.InRange.{IsGiven, IsThere}
use Rattle.sm_model.specs.LegalRun.{IsAsked}
use Rattle.sm_model.specs.World.{World, up, down}
use Rattle.sm_shape.specs.Blanked.{blanked, zeroed_volume, zeroed_snapshot}
use Rattle.sm_history.specs.Acts.{entry}
use Rattle.sm_history.specs.declared.fault.ActFault.{ActFault}
use Rattle.sm_core.specs.Kept.{Kept}
use Rattle.sm_core.specs.Next.{IsNext, IsNextIn, AreNumbered, relation_number}
use Rattle.sm_crew.specs.Coming.{Comes}
use Rattle.sm_crew.specs.Reporting.{report_of, StaysUp, Reports, Stops, RunsReport}
use Rattle.sm_crew.specs.declared.stop.Stop.{Stop}
use Rattle.sm_crew.specs.declared.stop.Stop.TheVariants.{Down, Fault}
use Rattle.sm_crew.proofs.Coming.{grown, same_sides, runs_on}
use Rattle.sm_crew.proofs.Reports.{same_up, goes_on, stops_later, stops_sooner, IsOnTheWay, sets_out, goes_by, arrives, stops_by}
use Rattle.sm_crew.proofs.Looks.{digest_asked}

-- ---- the same but for bytes

snapshot_count : (vs : List Volume) (i : ℕ) (d : Volume) → length (slice_index_or (map zeroed_volume vs) i d).snapshots ≡ length (slice_index_or vs i d).snapshots
snapshot_count [] i d = refl
snapshot_count (v ∷ vs) zero d = length-map v.snapshots zeroed_snapshot
snapshot_count (v ∷ vs) (suc i) d = snapshot_count vs i d

pub same_volumes : (a b : Up) → blanked b ≡ blanked a → length b.volumes ≡ length a.volumes
same_volumes a b same = sym (length-map b.volumes zeroed_volume) ∙ (ap (λ (w : Up). length w.volumes) same ∙ length-map a.volumes zeroed_volume)

pub same_snapshots : (a b : Up) (i : ℕ) → blanked b ≡ blanked a → length (volume_at b i).snapshots ≡ length (volume_at a i).snapshots
same_snapshots a b i same =
    sym (snapshot_count b.volumes i no_volume) ∙ (ap (λ (w : Up). length (volume_at w i).snapshots) same ∙ snapshot_count a.volumes i no_volume)

pub same_relations : (a b : Up) → blanked b ≡ blanked a → b.relations ≡ a.relations
same_relations a b same = ap (λ (w : Up). w.relations) same

-- ---- the world behind some events

-- it is one that has as many volumes, each with as many snapshots, and the same relationships
pub record IsLike (w : Up) (now : World) : Type 0 where
  pub world : Up
  pub is : now ≡ up world
  pub same : blanked world ≡ blanked w
  pub volumes : length world.volumes ≡ length w.volumes
  pub snapshots : (i : ℕ) → length (volume_at world i).snapshots ≡ length (volume_at w i).snapshots
  pub relations : world.relations ≡ w.relations

pub is_like : (w : Up) (old now : World) → old ≡ up w → StaysUp old now → IsLike w now
is_like w old now was stays =
    let first : stays.first ≡ w = same_up stays.first w (sym stays.was ∙ was) in
    let same : blanked stays.last ≡ blanked w = stays.without_bytes ∙ ap blanked first in
    record {
      world = stays.last;
      is = stays.is;
      same = same;
      volumes = same_volumes w stays.last same;
      snapshots = λ i. same_snapshots w stays.last i same;
      relations = same_relations w stays.last same;
    }

-- ---- volumes

abbrev pub snapshot_events : ℕ → ℕ → ℕ → List the_event.Event
snapshot_events v k n = map (λ j. events.Digest (volno v) (Some j)) (numbers k n)

pub next_snapshot : (v k count : ℕ) → k < count → snapshot_events v k (count - k) ≡ (events.Digest (volno v) (Some k) ∷ []) ++ snapshot_events v (k + 1) (count - (k + 1))
next_snapshot v k count below =
    let split : count - k ≡ suc (count - (k + 1)) = omega arith in
    rw (split, add-one) refl

pub no_snapshot_left : (v k count : ℕ) → count ≤ k → snapshot_events v k (count - k) ≡ []
no_snapshot_left v k count end = let none : count - k ≡ 0 = omega arith in rw none refl

abbrev pub volumes_from : Up → ℕ → List the_event.Event
volumes_from w i = events_of_volumes i (drop i w.volumes)

pub next_volume : (w : Up) (i : ℕ) → i < length w.volumes → volumes_from w i ≡ events_of_volume i (volume_at w i) ++ volumes_from w (i + 1)
next_volume w i below = rw (drop_more w.volumes i no_volume below, add-one) refl

pub no_volume_left : (w : Up) (i : ℕ) → length w.volumes ≤ i → volumes_from w i ≡ []
no_volume_left w i end = rw (drop_of_length-le w.volumes end) refl

-- the events of volumes are the same where these differ in bytes alone
zeroed_events : (vs : List Volume) (i : ℕ) → events_of_volumes i (map zeroed_volume vs) ≡ events_of_volumes i vs
zeroed_events [] i = refl
zeroed_events (v ∷ vs) i =
    ap (λ (n : ℕ). (events.VolumeLine (volno i) ∷ digest_events i n) ++ events_of_volumes (suc i) (map zeroed_volume vs)) (length-map v.snapshots zeroed_snapshot)
    ∙ ap (λ (es : List the_event.Event). events_of_volume i v ++ es) (zeroed_events vs (suc i))

pub same_volume_events : (a b : Up) → blanked b ≡ blanked a → events_of_volumes 0 b.volumes ≡ events_of_volumes 0 a.volumes
same_volume_events a b same = sym (zeroed_events b.volumes 0) ∙ (ap (λ (w : Up). events_of_volumes 0 w.volumes) same ∙ zeroed_events a.volumes 0)

pub same_volume : (i : ℕ) (v u : Volume) → length v.snapshots ≡ length u.snapshots → events_of_volume i v ≡ events_of_volume i u
same_volume i v u same = ap (λ (n : ℕ). events.VolumeLine (volno i) ∷ digest_events i n) same

pub first_image : (v count : ℕ) → digest_events v count ≡ (events.Digest (volno v) None ∷ []) ++ snapshot_events v 0 (count - 0)
first_image v count = let whole : count - 0 ≡ count = omega arith in rw whole refl

-- a number below the count of a world's volumes
pub number_below : (count : ℕ) (now : World) → ((x : Up) × (now ≡ up x) × (count ≡ length x.volumes)) → (w : Up) → now ≡ up w → (i : ℕ) → i < count → i < length w.volumes
number_below count now r w is i below =
    let same : r.0 ≡ w = same_up r.0 w (sym r.1 ∙ is) in
    subst (λ (x : Up). i < length x.volumes) same (subst (λ (n : ℕ). i < n) r.2 below)

-- ---- relationships

-- these are left: behind the number stand none but them
pub record AreLeft (w : Up) (after : ℕ) (rest : List Relationship) : Type 0 where
  pub before : List Relationship
  pub all_are : w.relations ≡ before ++ rest
  pub low : AllByRecursion (λ r. r.number ≤ after) before
  pub high : Ascends (after ∷ map relation_number rest)

pub all_left : (w : Up) → AreNumbered (up w) → AreLeft w 0 w.relations
all_left w order = record { before = []; all_are = refl; low = tt; high = order }

-- one that stands
stands_left : (w : Up) (after : ℕ) (rest : List Relationship) (l : AreLeft w after rest) (r : Relationship) → Among rest r → Among (map relation_number w.relations) r.number
stands_left w after rest l r m = among_map relation_number w.relations r (subst (λ (rs : List Relationship). Among rs r) (sym l.all_are) (among_right l.before rest r m))

-- a number above is that of one that is left
left_above : (w : Up) (after : ℕ) (rest : List Relationship) → AreLeft w after rest → (n : ℕ) → Among (map relation_number w.relations) n → after < n → (r : Relationship) × Among rest r × (n ≡ r.number)
left_above w after rest l n m above =
    let found = from_map relation_number w.relations n m in
    let there = subst (λ (rs : List Relationship). Among rs found.0) l.all_are found.1 in
    elim (among_append l.before rest found.0 there) [
      | inl old ↦ absurd (let low = among_each (λ (r : Relationship). r.number ≤ after) l.before found.0 l.low old in let is = found.2 in omega (arith, above, low, is))
      | inr new ↦ (found.0, new, found.2)
    ]

-- the next number is that of the first that is left
pub record IsNextLeft (w : Up) (n : RelNo) (rest : List Relationship) : Type 0 where
  pub relation : Relationship
  pub more : List Relationship
  pub rest_are : rest ≡ relation ∷ more
  pub number : n ≡ relno relation.number
  pub stands : Among w.relations relation
  pub left : AreLeft w n.0 more

first_number : (w : Up) (after n : ℕ) (r : Relationship) (more : List Relationship) (l : AreLeft w after (r ∷ more)) → IsNext (map relation_number w.relations) after (Some (record { 0 = n })) → n ≡ r.number
first_number w after n r more l next =
    let least = next.least r.number (stands_left w after (r ∷ more) l r (inl refl)) l.high.0.0 in
    let one = left_above w after (r ∷ more) l n next.one next.above in
    elim one.1 [
      | inl same ↦ one.2 ∙ ap relation_number same
      | inr later ↦
          let lt = among_each (λ (m : ℕ). r.number < m) (map relation_number more) one.0.number l.high.1.0 (among_map relation_number more one.0 later) in
          let is = one.2 in
          absurd (omega (arith, least, lt, is))
    ]

pub next_left : (w : Up) (after : ℕ) (rest : List Relationship) → AreLeft w after rest → (n : RelNo) → IsNext (map relation_number w.relations) after (Some n) → IsNextLeft w n rest
next_left w after [] l n next = absurd (left_above w after [] l n.0 next.one next.above).1
next_left w after (r ∷ more) l n next =
    let same : n.0 ≡ r.number = first_number w after n.0 r more l next in
    let above : after < r.number = l.high.0.0 in
    record {
      relation = r;
      more = more;
      rest_are = refl;
      number = ap relno same;
      stands = subst (λ (rs : List Relationship). Among rs r) (sym l.all_are) (among_right l.before (r ∷ more) r (inl refl));
      left = subst (λ (k : ℕ). AreLeft w k more) (sym same) (record {
        before = l.before ++ r ∷ [];
        all_are = l.all_are ∙ sym (append_assoc l.before (r ∷ []) more);
        low = each_pushed (λ (x : Relationship). x.number ≤ r.number) l.before r (lower l.before above l.low) (omega arith);
        high = l.high.1;
      });
    }
  where
    lower : (rs : List Relationship) → after < r.number → AllByRecursion (λ x. x.number ≤ after) rs → AllByRecursion (λ x. x.number ≤ r.number) rs
    lower [] above h = tt
    lower (x ∷ rs) above h = (let low = h.0 in omega (arith, low, above), lower rs above h.1)

pub none_left : (w : Up) (after : ℕ) (rest : List Relationship) → AreLeft w after rest → IsNext (map relation_number w.relations) after None → rest ≡ []
none_left w after [] l next = refl
none_left w after (r ∷ more) l next =
    let low = next r.number (stands_left w after (r ∷ more) l r (inl refl)) in
    let above : after < r.number = l.high.0.0 in
    absurd (omega (arith, low, above))

pub relation_asked : (w : Up) (r : Relationship) → Among w.relations r → IsAsked (up w) (events.RelationLine (relno r.number))
unfolding IsGiven IsThere
relation_asked w r m = (tt, (r, m, refl))

-- ---- on the way

module _ {D : Type 0} (state : D → DiskState) where
  module _ (w : Up) (old mid : Kept D) (was : old.world ≡ up w) (rest all : List the_event.Event) (way : IsOnTheWay state old rest all mid) where
    pub like_here : IsLike w mid.world
    like_here = is_like w old.world mid.world was way.reports.stays

    pub image_there : (v count place : ℕ) → v < length w.volumes → count ≡ length (volume_at w v).snapshots → place < count → IsAsked mid.world (events.Digest (volno v) (Some place))
    image_there v count place there many below =
        let like = like_here in
        let volumes = like.volumes in
        let snapshots = like.snapshots v in
        subst (λ (x : World). IsAsked x (events.Digest (volno v) (Some place))) (sym like.is)
        (digest_asked like.world v (Some place) (omega (arith, there, volumes)) (omega (arith, many, below, snapshots)))

    pub volume_there : (i : ℕ) → i < length w.volumes → (x : Up) × (mid.world ≡ up x) × (i < length x.volumes)
    volume_there i there = let like = like_here in let volumes = like.volumes in (like.world, like.is, omega (arith, there, volumes))

    -- what is said of a volume in the world that is met
    pub volume_here : (i : ℕ) → events_of_volume i (volume_at like_here.world i) ≡ events_of_volume i (volume_at w i)
    volume_here i = let like = like_here in same_volume i (volume_at like.world i) (volume_at w i) (like.snapshots i)

    -- the volume is reported, or the report stops there
    pub volume_reports : (new : Kept D) (i : ℕ) → ((x : Up) → mid.world ≡ up x → Reports state mid (events_of_volume i (volume_at x i)) new) → Reports state mid (events_of_volume i (volume_at w i)) new
    volume_reports new i r = subst (λ (es : List the_event.Event). Reports state mid es new) (volume_here i) (r like_here.world like_here.is)

    pub volume_stops : (new : Kept D) (i : ℕ) (stop : Stop) → ((x : Up) → mid.world ≡ up x → Stops state mid (events_of_volume i (volume_at x i)) stop new) → Stops state mid (events_of_volume i (volume_at w i)) stop new
    volume_stops new i stop s = subst (λ (es : List the_event.Event). Stops state mid es stop new) (volume_here i) (s like_here.world like_here.is)

  -- ---- one volume: its line tells how many snapshots it has

  module _ (w : Up) (old mid : Kept D) (i n : ℕ) (was : old.world ≡ up w) (line : Reports state old (events.VolumeLine (volno i) ∷ []) mid) (many : n ≡ length (volume_at w i).snapshots) where
    pub images_there : i < length w.volumes → (x : Up) × (mid.world ≡ up x) × (i < length x.volumes) × (n ≡ length (volume_at x i).snapshots)
    images_there there =
        let like = is_like w old.world mid.world was line.stays in
        let volumes = like.volumes in
        (like.world, like.is, omega (arith, there, volumes), many ∙ sym (like.snapshots i))

    pub images_done : (new : Kept D) → Reports state mid (digest_events i n) new → Reports state old (events_of_volume i (volume_at w i)) new
    images_done new r =
        subst (λ (k : ℕ). Reports state old (events.VolumeLine (volno i) ∷ digest_events i k) new) many (goes_on state old mid new (events.VolumeLine (volno i) ∷ []) (digest_events i n) line r)

    pub images_stop : (new : Kept D) (stop : Stop) → Stops state mid (digest_events i n) stop new → Stops state old (events_of_volume i (volume_at w i)) stop new
    images_stop new stop s =
        subst (λ (k : ℕ). Stops state old (events.VolumeLine (volno i) ∷ digest_events i k) stop new) many
        (stops_later state old mid new (events.VolumeLine (volno i) ∷ []) (digest_events i n) stop line s)

  -- a relationship is next, and those behind it are left
  pub record IsAtRelation (w : Up) (old now : Kept D) (next : Option RelNo) : Type 0 where
    pub after : ℕ
    pub rest : List Relationship
    pub left : AreLeft w after rest
    pub least : IsNext (map relation_number w.relations) after next
    pub way : IsOnTheWay state old (map event_of_relation rest) (map event_of_relation w.relations) now

  pub at_first : (w : Up) (old : Kept D) (next : Option RelNo) → old.world ≡ up w → AreNumbered old.world → IsNextIn old.world 0 next → IsAtRelation w old old next
  at_first w old next was order least = record {
    after = 0;
    rest = w.relations;
    left = all_left w (subst AreNumbered was order);
    least = subst (λ (x : World). IsNextIn x 0 next) was least;
    way = sets_out state old w (map event_of_relation w.relations) was;
  }

  pub relation_there : (w : Up) (old mid : Kept D) (n : RelNo) → old.world ≡ up w → IsAtRelation w old mid (Some n) → IsAsked mid.world (events.RelationLine n)
  relation_there w old mid n was at =
      let next = next_left w at.after at.rest at.left n at.least in
      let like = is_like w old.world mid.world was at.way.reports.stays in
      let stands = subst (λ (rs : List Relationship). Among rs next.relation) (sym like.relations) next.stands in
      subst (λ (x : World). IsAsked x (events.RelationLine n)) (sym like.is)
      (subst (λ (m : RelNo). IsAsked (up like.world) (events.RelationLine m)) (sym next.number) (relation_asked like.world next.relation stands))

  -- the events that are left, the next first
  rest_split : (w : Up) (n : RelNo) (rest : List Relationship) (next : IsNextLeft w n rest) → map event_of_relation rest ≡ (events.RelationLine n ∷ []) ++ map event_of_relation next.more
  rest_split w n rest next =
      ap (λ (rs : List Relationship). map event_of_relation rs) next.rest_are ∙ ap (λ (m : RelNo). events.RelationLine m ∷ map event_of_relation next.more) (sym next.number)

  pub at_next : (w : Up) (old mid new : Kept D) (n : RelNo) (following : Option RelNo) → old.world ≡ up w → IsAtRelation w old mid (Some n) → Reports state mid (events.RelationLine n ∷ []) new
      → IsNextIn new.world n.0 following → IsAtRelation w old new following
  at_next w old mid new n following was at r least =
      let next = next_left w at.after at.rest at.left n at.least in
      let way = goes_by state old mid new (events.RelationLine n ∷ []) (map event_of_relation next.more) (map event_of_relation at.rest) (map event_of_relation w.relations) at.way
      (rest_split w n at.rest next) r in
      let like = is_like w old.world new.world was way.reports.stays in
      record {
        after = n.0;
        rest = next.more;
        left = next.left;
        least = subst (λ (rs : List Relationship). IsNext (map relation_number rs) n.0 following) like.relations (subst (λ (x : World). IsNextIn x n.0 following) like.is least);
        way = way;
      }

  pub relation_stops : (w : Up) (old mid new : Kept D) (n : RelNo) (stop : Stop) → IsAtRelation w old mid (Some n) → Stops state mid (events.RelationLine n ∷ []) stop new
      → Stops state old (map event_of_relation w.relations) stop new
  relation_stops w old mid new n stop at s =
      let next = next_left w at.after at.rest at.left n at.least in
      stops_by state old mid new (events.RelationLine n ∷ []) (map event_of_relation next.more) (map event_of_relation at.rest) (map event_of_relation w.relations) stop at.way
      (rest_split w n at.rest next) s

  pub at_end : (w : Up) (old now : Kept D) → IsAtRelation w old now None → Reports state old (map event_of_relation w.relations) now
  at_end w old now at =
      arrives state old now (map event_of_relation at.rest) (map event_of_relation w.relations) at.way (ap (λ (rs : List Relationship). map event_of_relation rs) (none_left w at.after at.rest at.left at.least))

  -- ---- the whole

  -- each event leaves less room
  pub less_left : (old new : Kept D) (e : the_event.Event) → Reports state old (e ∷ []) new → MOST_ENTRIES - length new.history < MOST_ENTRIES - length old.history
  less_left old new e r = go r.own r.comes r.whole.asked
    where
      go : (es : List Entry) → Comes state old es new → map asked_of es ≡ map (asking 0) (e ∷ []) → MOST_ENTRIES - length new.history < MOST_ENTRIES - length old.history
      go [] same asked = absurd (cc)
      go (x ∷ []) (mid, made, same) asked =
          let room = made.acts.room in
          let grows = ap length made.acts.grown in
          let longer = length-append old.history (entry x.actor x.line x.event made.acts.kept ∷ []) in
          let here = ap (λ (k : Kept D). length k.history) same in
          omega (arith, room, grows, longer, here)
      go (x ∷ y ∷ es) comes asked = absurd (cc)

  -- its parts, each in the world that the one before leaves
  behind_head : (w x y : Up) → blanked x ≡ blanked w → blanked y ≡ blanked w
      → (events.Head ∷ events_of_volumes 0 x.volumes) ++ map event_of_relation y.relations ≡ report_events w
  behind_head w x y first second =
      ap (λ (es : List the_event.Event). events.Head ∷ (es ++ map event_of_relation y.relations)) (same_volume_events w x first)
      ∙ ap (λ (rs : List Relationship). events.Head ∷ (events_of_volumes 0 w.volumes ++ map event_of_relation rs)) (same_relations w y second)

  pub parts_done : (old a b new : Kept D) → Reports state old (events.Head ∷ []) a → ((x : Up) → a.world ≡ up x → Reports state a (events_of_volumes 0 x.volumes) b)
      → ((y : Up) → b.world ≡ up y → Reports state b (map event_of_relation y.relations) new) → Reports state old (report_of old.world) new
  parts_done old a b new head volumes relations =
      let w = head.stays.first in
      let x = head.stays.last in
      let one = volumes x head.stays.is in
      let both = goes_on state old a b (events.Head ∷ []) (events_of_volumes 0 x.volumes) head one in
      let like = is_like w old.world b.world head.stays.was both.stays in
      let whole = goes_on state old b new (events.Head ∷ events_of_volumes 0 x.volumes) (map event_of_relation like.world.relations) both (relations like.world like.is) in
      let all = behind_head w x like.world head.stays.without_bytes like.same ∙ ap report_of (sym head.stays.was) in
      subst (λ (es : List the_event.Event). Reports state old es new) all whole

  pub relations_stop : (old a b new : Kept D) (stop : Stop) → Reports state old (events.Head ∷ []) a → ((x : Up) → a.world ≡ up x → Reports state a (events_of_volumes 0 x.volumes) b)
      → ((y : Up) → b.world ≡ up y → Stops state b (map event_of_relation y.relations) stop new) → Stops state old (report_of old.world) stop new
  relations_stop old a b new stop head volumes relations =
      let w = head.stays.first in
      let x = head.stays.last in
      let one = volumes x head.stays.is in
      let both = goes_on state old a b (events.Head ∷ []) (events_of_volumes 0 x.volumes) head one in
      let like = is_like w old.world b.world head.stays.was both.stays in
      let whole = stops_later state old b new (events.Head ∷ events_of_volumes 0 x.volumes) (map event_of_relation like.world.relations) stop both (relations like.world like.is) in
      let all = behind_head w x like.world head.stays.without_bytes like.same ∙ ap report_of (sym head.stays.was) in
      subst (λ (es : List the_event.Event). Stops state old es stop new) all whole

  pub volumes_stop : (old a new : Kept D) (stop : Stop) → Reports state old (events.Head ∷ []) a → ((x : Up) → a.world ≡ up x → Stops state a (events_of_volumes 0 x.volumes) stop new)
      → Stops state old (report_of old.world) stop new
  volumes_stop old a new stop head volumes =
      let w = head.stays.first in
      let x = head.stays.last in
      let one = stops_later state old a new (events.Head ∷ []) (events_of_volumes 0 x.volumes) stop head (volumes x head.stays.is) in
      let whole = stops_sooner state old new (events.Head ∷ events_of_volumes 0 x.volumes) (map event_of_relation x.relations) stop one in
      let all = behind_head w x x head.stays.without_bytes head.stays.without_bytes ∙ ap report_of (sym head.stays.was) in
      subst (λ (es : List the_event.Event). Stops state old es stop new) all whole

  pub head_stops : (old new : Kept D) (stop : Stop) → Stops state old (events.Head ∷ []) stop new → Stops state old (report_of old.world) stop new
  head_stops old new stop s = go old.world
    where
      go : (w : World) → Stops state old (report_of w) stop new
      go (up w) = stops_sooner state old new (events.Head ∷ []) (events_of_volumes 0 w.volumes ++ map event_of_relation w.relations) stop s
      go (down disk d) = s

  pub whole_report : (old new : Kept D) → Reports state old (report_of old.world) new → RunsReport state old (Ok None) new
  whole_report old new r = record {
    entries = r.own;
    comes = r.comes;
    grown = grown state r.own old new r.comes;
    sides = same_sides state r.own old new r.comes;
    runs = runs_on state r.own old new r.comes;
    reported = r.whole;
    leaves = r.stays;
  }

  pub ended_report : (old new : Kept D) (disk : DiskNo) → Stops state old (report_of old.world) (Down disk) new → RunsReport state old (Ok (Some disk)) new
  ended_report old new disk s = record {
    entries = s.own;
    comes = s.comes;
    grown = grown state s.own old new s.comes;
    sides = same_sides state s.own old new s.comes;
    runs = runs_on state s.own old new s.comes;
    reported = s.stopped.0;
    leaves = s.stopped.1;
  }

  pub cut_report : (old new : Kept D) (fault : ActFault) → Stops state old (report_of old.world) (Fault fault) new → RunsReport state old (Err fault) new
  cut_report old new fault s = record {
    entries = s.own;
    comes = s.comes;
    grown = grown state s.own old new s.comes;
    sides = same_sides state s.own old new s.comes;
    runs = runs_on state s.own old new s.comes;
    reported = s.stopped;
    leaves = tt;
  }
