-- A read of a block, and the digest of an image, as events of a node.
use Rattle.std.proofs.Common.{◌≡◌, ℕ, Bool, true, false, if◌then◌else◌, ◌<◌, List, [], ◌∷◌, map, length, get_or, rules, arith, IsSome, refl, sym, ap, ◌∙◌, subst, Option, Some, None, Ok, Err, Result, IfOk, Box}
use Rattle.std.specs.Prelude.{slice_get, slice_set, slice_index_or, option_map}
use Rattle.std.specs.Global.{Global}
use Rattle.std.specs.List.{AllByRecursion}
use Rattle.std.specs.Str.{bytes_eq}
use Rattle.sm_base.specs.declared.numbers.Block.{Block as StoredBlock}
use Rattle.sm_base.specs.declared.numbers.DiskNo.{DiskNo}
use Rattle.sm_base.specs.declared.numbers.Ident.{Ident}
use Rattle.sm_base.specs.declared.refusal.Refusal.{Refusal}
use Rattle.sm_base.specs.declared.refusal.Refusal.TheVariants as refusals
use Rattle.sm_defs.specs.Image.{Image, hole}
use Rattle.sm_defs.specs.Volume.{Volume, Snapshot, ident_of, image_of}
use Rattle.sm_defs.specs.World.{Up, volume_at}
use Rattle.sm_defs.specs.Words.{KeysDiffer, last_that}
use Rattle.sm_defs.specs.Operations.{is_past}
use Rattle.sm_disk.specs.Disk.{DiskState}
use Rattle.sm_root.specs.Condition as roots
use Rattle.sm_root.specs.declared.root.RootSnapshot.{RootSnapshot}
use Rattle.sm_model.specs.declared.reply.Reply.{Reply}
use Rattle.sm_model.specs.declared.reply.Reply.TheVariants as replies
use Rattle.sm_model.specs.Answers.{Answer, and_then, refused_if, some_or, volume_named, shows, told}
use Rattle.sm_model.specs.OfVolumes as answers
use Rattle.volume_store.specs.declared.faults.VolumeFault.{VolumeFault}
use Rattle.volume_store.specs.declared.faults.VolumeFault.TheVariants as faults
use Rattle.volume_store.specs.declared.io.View.{View}
use Rattle.volume_store.specs.declared.io.View.TheVariants.{Active, Of}
use Rattle.sm_volume.specs.Seen.{kept_snapshot}
use Rattle.sm_volume.specs.Refusals.{image_seen, unless_seen, read_refusal}
use Rattle.sm_node.specs.declared.fault.NodeFault.{NodeFault}
use Rattle.sm_node.specs.declared.named.Named.{Named}
use Rattle.sm_node.specs.Seats.{Seated, moved}
use Rattle.sm_node.specs.Nodes.{Node, placed, world_of, IsNode}
use Rattle.sm_node.specs.Parts.{AllTold, StandsUp}
use Rattle.sm_node.specs.Moves.{MovesOne, refusal_of}
use Rattle.sm_node.specs.ButBytes.{LineButDigest, IsRepliedButBytes}
use Rattle.sm_node.specs.Acts.{IsReplied}
use Rattle.sm_node.specs.Naming.{IsNamedAt}
use Rattle.sm_base.specs.declared.numbers.VolNo.{VolNo}
use Rattle.std.proofs.lemmas.Option.{get_or_from_slice_get, slice_get_read}
use Rattle.std.proofs.lemmas.List.{length-map}
use Rattle.sm_model.specs.InRange.{IsPlace}
use Rattle.sm_defs.proofs.Members.{get_among}
use Rattle.sm_catroot.specs.declared.placed.Placed.{Placed}
use Rattle.sm_model.specs.declared.reply.Line.{Line}
use Rattle.sm_model.specs.declared.reply.Line.TheVariants as lines
use Rattle.sm_model.specs.OfReport.{of_image, digest_line, snapshot_line, snapshot_at, no_snapshot}
use Rattle.sm_node.proofs.PlacedLemmas.{volume_is, all_long}
use Rattle.sm_node.proofs.HoldingLemmas.{ok_so}
use Rattle.sm_node.specs.Looking.{Looks, LooksAs, IsReadCall, IsDigestCall, IsImageLine, view_at_place, with_digest}
use Rattle.sm_node.specs.Viewing.{view_of_ident, view_named}
use Rattle.sm_seats.proofs.Lists.{some_at, one_value}
use Rattle.sm_node.proofs.Lists.{mapped_at}
use Rattle.sm_node.proofs.NewestLemmas.{last_among, found_again}
use Rattle.sm_node.proofs.LookLemmas.{look_acts}
use Rattle.sm_node.proofs.KeptLemmas.{reads_number, moved_keeps}

-- ---- which image

each_kept : (i : Ident) (ss : List Snapshot) → AllByRecursion (λ (r : RootSnapshot). ¬ (roots.ident_of r ≡ i)) (map kept_snapshot ss) → AllByRecursion (λ (s : Snapshot). ¬ (ident_of s ≡ i)) ss
each_kept i [] h = tt
each_kept i (s ∷ ss) h = (h.0, each_kept i ss h.1)

pub idents_differ : (ss : List Snapshot) → KeysDiffer roots.ident_of (map kept_snapshot ss) → KeysDiffer ident_of ss
idents_differ [] h = tt
idents_differ (s ∷ ss) h = (each_kept s.ident ss h.0, idents_differ ss h.1)

-- the image that a name means, and that its view sees
pub record Viewed (v : Volume) (name : Option (List ℕ)) (view : View) : Type 0 where
  pub image : Image
  pub named : answers.image_named v name ≡ Ok image
  pub seen : image_seen v view ≡ Some image

newest_viewed : (v : Volume) (name : List ℕ) (view : View) (o : Option Snapshot) → last_that (λ (s : Snapshot). bytes_eq s.name name) v.snapshots ≡ o → KeysDiffer ident_of v.snapshots → view_of_ident name (option_map ident_of o) ≡ Ok view → Viewed v (Some name) view
unfolding answers.image_named and_then some_or
newest_viewed v name view None l d e = absurd (cc)
newest_viewed v name view (Some s) l d e =
    let same : Of s.ident ≡ view = cc in
    let found = found_again v.snapshots s d (last_among (λ (t : Snapshot). bytes_eq t.name name) v.snapshots s l) in
    record {
      image = s.image;
      named = ap (λ (o : Option Snapshot). and_then (some_or (refusals.NoSnapshot name) o) (λ t. Ok t.image)) l;
      seen = ap (image_seen v) (sym same) ∙ ap (option_map image_of) found;
    }

pub viewed : (v : Volume) (name : Option (List ℕ)) (view : View) → KeysDiffer ident_of v.snapshots → view_named v name ≡ Ok view → Viewed v name view
unfolding answers.image_named
viewed v None view d e = record { image = v.active; named = refl; seen = ap (image_seen v) (let same : Active ≡ view = cc in sym same) }
viewed v (Some name) view d e = newest_viewed v name view (last_that (λ (s : Snapshot). bytes_eq s.name name) v.snapshots) refl d e

newest_refused : (v : Volume) (name : List ℕ) (g : Refusal) (o : Option Snapshot) → last_that (λ (s : Snapshot). bytes_eq s.name name) v.snapshots ≡ o → view_of_ident name (option_map ident_of o) ≡ Err g → answers.image_named v (Some name) ≡ Err g
unfolding answers.image_named and_then some_or
newest_refused v name g None l e = ap (λ (o : Option Snapshot). and_then (some_or (refusals.NoSnapshot name) o) (λ t. Ok t.image)) l ∙ ap Err (let same : refusals.NoSnapshot name ≡ g = cc in same)
newest_refused v name g (Some s) l e = absurd (cc)

view_refused : (v : Volume) (name : Option (List ℕ)) (g : Refusal) → view_named v name ≡ Err g → answers.image_named v name ≡ Err g
view_refused v None g e = absurd (cc)
view_refused v (Some name) g e = newest_refused v name g (last_that (λ (s : Snapshot). bytes_eq s.name name) v.snapshots) refl e

-- ---- what the definitions answer

pub read_none : (w : Up) (path : List ℕ) (name : Option (List ℕ)) (place : ℕ) (g : Refusal) → volume_named w path ≡ Err g → answers.read w path name place ≡ Err g
unfolding and_then
read_none w path name place g e = rw e refl

pub read_unseen : {D : Type 0} (n : Node D) (path : List ℕ) (f : Named) (is : IsNamedAt n path f) (name : Option (List ℕ)) (place : ℕ) (g : Refusal) → view_named (placed is.place is.seat.volume) name ≡ Err g → answers.read (world_of n) path name place ≡ Err g
unfolding and_then
read_unseen n path f is name place g e = rw (is.names, view_refused (placed is.place is.seat.volume) name g e) refl

read_by : (past : Bool) (w : Up) (image : Image) (place : ℕ) → Answer
read_by past w image place = and_then (refused_if past refusals.BadBlock) (λ _. shows (answers.block_at image place).bytes w)

read_is : {D : Type 0} (n : Node D) (path : List ℕ) (f : Named) (is : IsNamedAt n path f) (name : Option (List ℕ)) (place : ℕ) (image : Image) → answers.image_named (placed is.place is.seat.volume) name ≡ Ok image
    → answers.read (world_of n) path name place ≡ read_by (is_past is.seat.volume.volume place) (world_of n) image place
unfolding and_then read_by
read_is n path f is name place image e = rw (is.names, e) refl

looks_by : (past : Bool) (w : Up) (image : Image) (place : ℕ) → LooksAs w (read_by past w image place) (if past then Some faults.BadBlock else None)
unfolding and_then read_by refused_if
looks_by true w image place = record {
  refuses = λ f e. (refusals.BadBlock, refl, ap refusal_of (let same : f ≡ faults.BadBlock = cc in same));
  does = λ e. absurd (cc);
}
looks_by false w image place = record { refuses = λ f e. absurd (cc); does = λ e. (tt, refl) }

tells_by : (past : Bool) (w : Up) (image : Image) (place : ℕ) (known : Type 0) (block : Box StoredBlock Global) → (if past then Some faults.BadBlock else None) ≡ None → (known → block.value.0 ≡ (slice_index_or image place hole).bytes)
    → (known → IsReplied (read_by past w image place) (replies.Bytes block)) × IsRepliedButBytes (read_by past w image place) (replies.Bytes block)
unfolding and_then read_by refused_if
tells_by true w image place known block e read = absurd (cc)
tells_by false w image place known block e read = (λ t. (block, refl, read t), (block, refl))

each_ok : (r : Result (Unit {0}) VolumeFault) (P Q : Type 0) → IfOk r (λ _. P) → (P → Q) → IfOk r (λ _. Q)
each_ok (Ok u) P Q h so = so h
each_ok (Err f) P Q h so = tt

module _ {D : Type 0} (state : D → DiskState) (n : Node D) (h : StandsUp state n) (path : List ℕ) (f : Named) (is : IsNamedAt n path f) (R : Result Reply NodeFault) (news : List (Seated D)) (name : Option (List ℕ)) (place : ℕ) (view : View) where
  here : view_named (placed is.place is.seat.volume) name ≡ Ok view → Viewed (placed is.place is.seat.volume) name view
  here e = viewed (placed is.place is.seat.volume) name view (idents_differ is.seat.volume.volume.snapshots (h.node.seated f.at is.seat is.is_seat).kept.good.idents_differ) e

  pub read_looks : view_named (placed is.place is.seat.volume) name ≡ Ok view → MovesOne state f.at (IsReadCall state f.disk view place R) n.seats news → Looks state (answers.read (world_of n) path name place) n R (record n { seats = news })
  read_looks e moves =
      let w = world_of n in
      let s = moves.old in
      let same : is.seat ≡ s = one_value (slice_get n.seats f.at) is.seat s is.is_seat moves.was in
      let image = (here e).image in
      let past = is_past is.seat.volume.volume place in
      let call = subst (λ (x : Seated D). IsReadCall state f.disk view place R x.volume moves.new) (sym same) moves.did in
      let seen : image_seen is.seat.volume.volume view ≡ Some image = (here e).seen in
      let refusal : read_refusal is.seat.volume.volume view place ≡ (if past then Some faults.BadBlock else None) = ap (λ (o : Option Image). unless_seen o (if past then Some faults.BadBlock else None)) seen in
      let a = read_by past w image place in
      let news_is : news ≡ slice_set n.seats f.at (moved is.seat moves.new) = moves.is ∙ ap (λ (x : Seated D). slice_set n.seats f.at (moved x moves.new)) (sym same) in
      subst (λ (b : Answer). Looks state b n R (record n { seats = news })) (sym (read_is n path f is name place image (here e).named))
      (subst (λ (seats : List (Seated D)). Looks state a n R (record n { seats = seats })) (sym news_is)
      (subst (λ (x : Result Reply NodeFault). Looks state a n x (record n { seats = slice_set n.seats f.at (moved is.seat moves.new) })) (sym call.is)
      (look_acts state n h f.at is.place is.seat moves.new is.is_seat is.is_place a f.disk is.lies (λ _. replies.Bytes call.block)
      (read_refusal is.seat.volume.volume view place) (subst (LooksAs w a) (sym refusal) (looks_by past w image place)) call.done call.refused call.reads
      (λ none. each_ok call.done _ _ call.read (λ read. tells_by past w image place (AllTold state n.seats) call.block (sym refusal ∙ none) (λ told. read (told f.at is.seat is.is_seat) image seen))))))

  pub read_keeps : MovesOne state f.at (IsReadCall state f.disk view place R) n.seats news → IsNode state (record n { seats = news })
  read_keeps moves = moved_keeps state n h.node f.at (IsReadCall state f.disk view place R) news (λ m k d. (reads_number state m k d.done d.reads, d.reads.any_moment.size)) moves

-- the node's parts are the node
pub read_moved : {D : Type 0} (state : D → DiskState) (now : Node D) (n : Node D) → now ≡ n → StandsUp state now → (path : List ℕ) (f : Named) (is : IsNamedAt now path f) (name : Option (List ℕ)) (place : ℕ) (view : View) → view_named (placed is.place is.seat.volume) name ≡ Ok view
    → (R : Result Reply NodeFault) (news items : List (Seated D)) → MovesOne state f.at (IsReadCall state f.disk view place R) n.seats news → items ≡ news → Looks state (answers.read (world_of now) path name place) now R (record n { seats = items })
read_moved {D} state now n view_is h path f is name place view e R news items moves same =
    let P : Node D → Type 0 = λ x. MovesOne state f.at (IsReadCall state f.disk view place R) x.seats news → Looks state (answers.read (world_of now) path name place) now R (record x { seats = items }) in
    subst P view_is (λ did. subst (λ (seats : List (Seated D)). Looks state (answers.read (world_of now) path name place) now R (record now { seats = seats })) (sym same) (read_looks state now h path f is R news name place view e did)) moves

-- ---- the digest of an image

module _ {D : Type 0} (state : D → DiskState) (n : Node D) (h : StandsUp state n) (number : VolNo) (place : Option ℕ) (p : Placed) (s : Seated D) (was : slice_get n.seats number.0 ≡ Some s) (is_place : slice_get n.root.held.volumes number.0 ≡ Some p)
    (disk : DiskNo) (named : disk.0 ≡ p.disk.0) (view : View) (line : Line) (il : IsImageLine number (placed p s.volume) place view line) (R : Result Reply NodeFault) (news : List (Seated D)) where
  digest_is : of_image (world_of n) number place ≡ Ok (record { reply = told (replies.Line (digest_line number (placed p s.volume) place)); world = world_of n })
  digest_is = ap (λ (v : Volume). let a : Answer = Ok (record { reply = told (replies.Line (digest_line number v place)); world = world_of n }) in a) (volume_is n.root.held.volumes n.seats number.0 p s is_place was)

  pub digest_looks : MovesOne state number.0 (IsDigestCall state disk view line R) n.seats news → Looks state (of_image (world_of n) number place) n R (record n { seats = news })
  digest_looks moves =
      let same : s ≡ moves.old = one_value (slice_get n.seats number.0) s moves.old was moves.was in
      let call = subst (λ (x : Seated D). IsDigestCall state disk view line R x.volume moves.new) (sym same) moves.did in
      let seen : image_seen s.volume.volume view ≡ Some il.image = il.seen in
      let a : Answer = Ok (record { reply = told (replies.Line (digest_line number (placed p s.volume) place)); world = world_of n }) in
      let news_is : news ≡ slice_set n.seats number.0 (moved s moves.new) = moves.is ∙ ap (λ (x : Seated D). slice_set n.seats number.0 (moved x moves.new)) (sym same) in
      subst (λ (b : Answer). Looks state b n R (record n { seats = news })) (sym digest_is)
      (subst (λ (seats : List (Seated D)). Looks state a n R (record n { seats = seats })) (sym news_is)
      (subst (λ (x : Result Reply NodeFault). Looks state a n x (record n { seats = slice_set n.seats number.0 (moved s moves.new) })) (sym call.is)
      (look_acts state n h number.0 p s moves.new was is_place a disk named (λ d. replies.Line (with_digest line d)) None
      (record { refuses = λ f e. absurd (cc); does = λ e. (tt, refl) }) call.done call.refused call.reads
      (λ none. ok_so call.done _ _ call.digested (λ d read. (
        (λ told. ap (λ (x : List ℕ). replies.Line (with_digest line x)) (read (told number.0 s was) il.image seen) ∙ ap replies.Line (sym il.told)),
        il.but d,
      ))))))

  pub digest_keeps : MovesOne state number.0 (IsDigestCall state disk view line R) n.seats news → IsNode state (record n { seats = news })
  digest_keeps moves = moved_keeps state n h.node number.0 (IsDigestCall state disk view line R) news (λ m k d. (reads_number state m k d.done d.reads, d.reads.any_moment.size)) moves

-- the line on a snapshot
pub snapshot_line_is : (number : VolNo) (v : Volume) (k : ℕ) (r : RootSnapshot) (name : List ℕ) (label : Option (List ℕ)) (d : List ℕ) → KeysDiffer ident_of v.snapshots → slice_get (map kept_snapshot v.snapshots) k ≡ Some r → name ≡ r.name → label ≡ r.label
    → IsImageLine number v (Some k) (Of r.ident) (lines.Snapshot number name r.ident label r.time r.made d)
snapshot_line_is number v k r name label d differ there e f =
    let s = mapped_at kept_snapshot v.snapshots k r there in
    let at : snapshot_at v k ≡ s.0 = get_or_from_slice_get v.snapshots k s.0 (no_snapshot v) s.1 in
    let P : RootSnapshot → Type 0 = λ x. IsImageLine number v (Some k) (Of x.ident) (lines.Snapshot number x.name x.ident x.label x.time x.made d) in
    let here : P (kept_snapshot s.0) = record {
      image = s.0.image;
      seen = ap (option_map image_of) (found_again v.snapshots s.0 differ (get_among v.snapshots k s.0 s.1));
      told = ap (snapshot_line number) at;
      but = λ x. subst (λ (t : Snapshot). LineButDigest (snapshot_line number t) (replies.Line (lines.Snapshot number s.0.name s.0.ident s.0.label s.0.time s.0.maker x))) (sym at) (x, refl);
    } in
    subst (λ (m : List ℕ). IsImageLine number v (Some k) (Of r.ident) (lines.Snapshot number m r.ident label r.time r.made d)) (sym e)
    (subst (λ (m : Option (List ℕ)). IsImageLine number v (Some k) (Of r.ident) (lines.Snapshot number r.name r.ident m r.time r.made d)) (sym f) (subst P s.2 here))

pub active_line_is : (number : VolNo) (v : Volume) (d : List ℕ) → IsImageLine number v None Active (lines.Active number d)
active_line_is number v d = record { image = v.active; seen = refl; told = refl; but = λ x. (x, refl) }

pub snapshot_line_at : (number : VolNo) (v : Volume) (k : ℕ) (rs : List RootSnapshot) (r : RootSnapshot) (name : List ℕ) (label : Option (List ℕ)) (d : List ℕ) → KeysDiffer ident_of v.snapshots → rs ≡ map kept_snapshot v.snapshots → r ≡ get_or rs k r → k < length rs → name ≡ r.name → label ≡ r.label
    → IsImageLine number v (Some k) (view_at_place v (Some k)) (lines.Snapshot number name r.ident label r.time r.made d)
snapshot_line_at number v k rs r name label d differ kept is within e f =
    let there = subst (λ (xs : List RootSnapshot). slice_get xs k ≡ Some r) kept (slice_get_read rs _ k r refl within is) in
    let s = mapped_at kept_snapshot v.snapshots k r there in
    let at : snapshot_at v k ≡ s.0 = get_or_from_slice_get v.snapshots k s.0 (no_snapshot v) s.1 in
    let ident : r.ident ≡ (snapshot_at v k).ident = ap (λ (x : RootSnapshot). x.ident) (sym s.2) ∙ ap ident_of (sym at) in
    subst (λ (i : Ident). IsImageLine number v (Some k) (Of i) (lines.Snapshot number name r.ident label r.time r.made d)) ident (snapshot_line_is number v k r name label d differ there e f)

-- ---- the volume of a number

pub record SeatedAt {D : Type 0} (n : Node D) (at : ℕ) : Type 0 where
  pub place : Placed
  pub seat : Seated D
  pub is_place : slice_get n.root.held.volumes at ≡ Some place
  pub is_seat : slice_get n.seats at ≡ Some seat
  pub volume : volume_at (world_of n) at ≡ placed place seat.volume

pub seated_at : {D : Type 0} (n : Node D) (at : ℕ) → length n.root.held.volumes ≡ length n.seats → at < length (world_of n).volumes → SeatedAt n at
seated_at n at many within =
    let long = all_long n.root.held.volumes n.seats many in
    let p = some_at n.root.held.volumes at (omega (arith, within, long)) in
    let s = some_at n.seats at (omega (arith, within, long, many)) in
    record { place = p.0; seat = s.0; is_place = p.1; is_seat = s.1; volume = volume_is n.root.held.volumes n.seats at p.0 s.0 p.1 s.1 }

pub place_within : (v w : Volume) (r : List RootSnapshot) (place : Option ℕ) → v ≡ w → r ≡ map kept_snapshot w.snapshots → IsPlace (length v.snapshots) place → IsPlace (length r) place
place_within v w r place e f = subst (λ (k : ℕ). IsPlace k place) (ap (λ (x : Volume). length x.snapshots) e ∙ sym (length-map w.snapshots kept_snapshot) ∙ sym (ap length f))

pub stands_so : (o : Option Image) (image : Image) → o ≡ Some image → IsSome o
stands_so None image e = absurd (cc)
stands_so (Some x) image e = search rules

pub digest_moved : {D : Type 0} (state : D → DiskState) (now : Node D) (n : Node D) → now ≡ n → StandsUp state now → (number : VolNo) (place : Option ℕ) (t : SeatedAt now number.0) (disk : DiskNo) → disk.0 ≡ t.place.disk.0 → (view : View) (line : Line) → IsImageLine number (placed t.place t.seat.volume) place view line
    → (R : Result Reply NodeFault) (news items : List (Seated D)) → MovesOne state number.0 (IsDigestCall state disk view line R) n.seats news → items ≡ news → Looks state (of_image (world_of now) number place) now R (record n { seats = items })
digest_moved {D} state now n same_node h number place t disk named view line il R news items moves same =
    let P : Node D → Type 0 = λ x. MovesOne state number.0 (IsDigestCall state disk view line R) x.seats news → Looks state (of_image (world_of now) number place) now R (record x { seats = items }) in
    subst P same_node (λ did. subst (λ (seats : List (Seated D)). Looks state (of_image (world_of now) number place) now R (record now { seats = seats })) (sym same)
    (digest_looks state now h number place t.place t.seat t.is_seat t.is_place disk named view line il R news did)) moves

pub digest_moved_keeps : {D : Type 0} (state : D → DiskState) (now : Node D) (n : Node D) → now ≡ n → StandsUp state now → (number : VolNo) (disk : DiskNo) (view : View) (line : Line) (R : Result Reply NodeFault) (news : List (Seated D)) → MovesOne state number.0 (IsDigestCall state disk view line R) n.seats news → IsNode state (record n { seats = news })
digest_moved_keeps {D} state now n same_node h number disk view line R news moves =
    moved_keeps state n (subst (IsNode state) same_node h.node) number.0 (IsDigestCall state disk view line R) news (λ m k d. (reads_number state m k d.done d.reads, d.reads.any_moment.size)) moves

-- ---- by the place that the code matches on

pub active_line_at : (number : VolNo) (v : Volume) (place : Option ℕ) (d : List ℕ) → place ≡ None → IsImageLine number v place (view_at_place v place) (lines.Active number d)
active_line_at number v place d e = subst (λ (p : Option ℕ). IsImageLine number v p (view_at_place v p) (lines.Active number d)) (sym e) (active_line_is number v d)

pub snapshot_line_for : (number : VolNo) (v : Volume) (place : Option ℕ) (k : ℕ) (snapshots rs : List RootSnapshot) (r : RootSnapshot) (name : List ℕ) (label : Option (List ℕ)) (d : List ℕ) → place ≡ Some k → KeysDiffer ident_of v.snapshots → rs ≡ snapshots → snapshots ≡ map kept_snapshot v.snapshots
    → r ≡ get_or rs k r → IsPlace (length snapshots) place → name ≡ r.name → label ≡ r.label → IsImageLine number v place (view_at_place v place) (lines.Snapshot number name r.ident label r.time r.made d)
snapshot_line_for number v place k snapshots rs r name label d at differ same kept is stands e f =
    let within : k < length snapshots = subst (IsPlace (length snapshots)) at stands in
    let inside : k < length rs = subst (λ (xs : List RootSnapshot). k < length xs) (sym same) within in
    subst (λ (p : Option ℕ). IsImageLine number v p (view_at_place v p) (lines.Snapshot number name r.ident label r.time r.made d)) (sym at)
    (snapshot_line_at number v k rs r name label d differ (same ∙ kept) is inside e f)
