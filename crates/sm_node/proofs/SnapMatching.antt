-- What the definitions answer to a client's snapshot, and to its deletion, is what the volume's call answers.
use Rattle.std.proofs.Common.{◌≡◌, ℕ, Bool, true, false, not, if◌then◌else◌, List, [], ◌∷◌, length, refl, sym, ap, ◌∙◌, subst}
use Rattle.std.specs.Prelude.{option_map, Option, Some, None, Result, Ok, Err, ◌==◌, ◌||◌, ◌&&◌}
use Rattle.std.specs.Str.{bytes_eq}
use Rattle.sm_base.specs.declared.numbers.Ident.{Ident}
use Rattle.sm_base.specs.declared.refusal.Refusal.{Refusal}
use Rattle.sm_base.specs.declared.refusal.Refusal.TheVariants as refusals
use Rattle.sm_base.specs.declared.limits.TheConstants.{MOST_SNAPSHOTS, LAST_NUMBER}
use Rattle.sm_base.specs.declared.numbers.RelNo.{RelNo}
use Rattle.sm_defs.specs.Volume.{Volume, Snapshot, is_rw, has, ident_of}
use Rattle.sm_defs.specs.Relationship.{Relationship}
use Rattle.sm_defs.specs.World.{Up, with_volume}
use Rattle.sm_defs.specs.Words.{Found, last_that}
use Rattle.sm_defs.specs.Operations.{is_read_only, has_name, removed}
use Rattle.sm_defs.specs.Needed.{holder}
use Rattle.sm_defs.proofs.Bridges.{snapped_client, full_client, removed_one}
use Rattle.sm_model.specs.declared.reply.Reply.{Reply}
use Rattle.sm_model.specs.declared.reply.Reply.TheVariants as replies
use Rattle.sm_model.specs.Answers.{Answer, and_then, refused_if, some_or, volume_named, told}
use Rattle.sm_model.specs.OfVolumes as answers
use Rattle.sm_catroot.specs.declared.placed.Placed.{Placed}
use Rattle.volume_store.specs.declared.faults.VolumeFault.TheVariants as faults
use Rattle.sm_volume.specs.Mounted.{Mounted}
use Rattle.sm_volume.specs.Assigned.{snapped}
use Rattle.sm_volume.specs.Refusals.{snapshot_refusal, remove_refusal}
use Rattle.sm_node.specs.Nodes.{placed}
use Rattle.sm_node.specs.Moves.{refusal_of, at_place, Matches}
use Rattle.sm_node.specs.Holding.{holder_number}
use Rattle.sm_node.specs.Removing.{removal}
use Rattle.sm_node.proofs.NewestLemmas.{newest_stands}

-- ---- a client's snapshot

snap_by : (a b c : Bool) (w : Up) (at : ℕ) (p : Placed) (reply : Reply) (next : Volume) →
    Matches w at p (and_then (refused_if (not a) refusals.ReadOnly) (λ _. and_then (refused_if b refusals.NameTaken) (λ _. and_then (refused_if c refusals.SnapFull) (λ _. Ok (record { reply = told reply; world = with_volume w at (at_place p next) })))))
    (if a then (if b then Some faults.NameTaken else if c then Some faults.SnapFull else None) else Some faults.ReadOnly) reply next
unfolding and_then refused_if
snap_by false b c w at p reply next = record {
  refuses = λ f e. (refusals.ReadOnly, refl, ap refusal_of (let same : f ≡ faults.ReadOnly = cc in same));
  does = λ e. absurd (cc);
}
snap_by true true c w at p reply next = record {
  refuses = λ f e. (refusals.NameTaken, refl, ap refusal_of (let same : f ≡ faults.NameTaken = cc in same));
  does = λ e. absurd (cc);
}
snap_by true false true w at p reply next = record {
  refuses = λ f e. (refusals.SnapFull, refl, ap refusal_of (let same : f ≡ faults.SnapFull = cc in same));
  does = λ e. absurd (cc);
}
snap_by true false false w at p reply next = record { refuses = λ f e. absurd (cc); does = λ e. refl }

pub snap_matches : {D : Type 0} (w : Up) (path name : List ℕ) (label : Option (List ℕ)) (at : ℕ) (p : Placed) (m : Mounted D) → volume_named w path ≡ Ok (record { at = at; item = placed p m }) →
    Matches w at p (answers.snap w path name label) (snapshot_refusal m.volume (answers.client_ident at m.volume) name) (replies.Snapped (answers.client_ident at m.volume))
    (snapped m.volume (record { ident = answers.client_ident at m.volume; name = name; label = label; time = w.clock; made = 0 }))
unfolding and_then
snap_matches w path name label at p m named =
    let v = m.volume in
    let i = answers.client_ident at v in
    let next : Volume = snapped v (record { ident = i; name = name; label = label; time = w.clock; made = 0 }) in
    let full = (length v.snapshots == MOST_SNAPSHOTS) || (v.next == LAST_NUMBER) in
    let taken = has_name v.snapshots name in
    let by = snap_by (is_rw v.kind) taken full w at p (replies.Snapped i) next in
    let made : at_place p next ≡ answers.snapped at w.clock (at_place p v) name label = snapped_client (at_place p v) (answers.client_snapshot at w.clock (at_place p v) name label) refl in
    let reached = subst (λ (u : Volume). Matches w at p (and_then (refused_if (not (is_rw v.kind)) refusals.ReadOnly) (λ _. and_then (refused_if taken refusals.NameTaken) (λ _. and_then (refused_if full refusals.SnapFull) (λ _. Ok (record { reply = told (replies.Snapped i); world = with_volume w at u })))))
    (if is_rw v.kind then (if taken then Some faults.NameTaken else if full then Some faults.SnapFull else None) else Some faults.ReadOnly) (replies.Snapped i) next) made by in
    let refuses = subst (λ (b : Bool). Matches w at p (and_then (refused_if (not (is_rw v.kind)) refusals.ReadOnly) (λ _. and_then (refused_if taken refusals.NameTaken) (λ _. and_then (refused_if full refusals.SnapFull) (λ _. Ok (record { reply = told (replies.Snapped i); world = with_volume w at (answers.snapped at w.clock (at_place p v) name label) })))))
    (if is_rw v.kind then (if taken then Some faults.NameTaken else if b then Some faults.SnapFull else None) else Some faults.ReadOnly) (replies.Snapped i) next) (sym (full_client v i refl)) reached in
    rw named refuses

pub snap_none : (w : Up) (path name : List ℕ) (label : Option (List ℕ)) (g : Refusal) → volume_named w path ≡ Err g → answers.snap w path name label ≡ Err g
unfolding and_then
snap_none w path name label g e = rw e refl

-- ---- its deletion

removed_as : Up → Found Volume → Ident → Answer
removed_as w f i = Ok (record { reply = told replies.Done; world = with_volume w f.at (answers.without_snapshot f.item i) })

-- first which snapshot it is, then without it
in_turn : (w : Up) (f : Found Volume) (o : Result Snapshot Refusal) (b : Bool) (h : Snapshot → Result (Unit {0}) Refusal) →
    and_then o (λ s. and_then (refused_if b refusals.ReadOnly) (λ _. and_then (h s) (λ _. Ok (record { reply = told replies.Done; world = with_volume w f.at (answers.without_snapshot f.item s.ident) }))))
    ≡ and_then (and_then o (λ s. and_then (refused_if b refusals.ReadOnly) (λ _. and_then (h s) (λ _. Ok s.ident)))) (removed_as w f)
unfolding and_then refused_if removed_as
in_turn w f (Err g) b h = refl
in_turn w f (Ok s) true h = refl
in_turn w f (Ok s) false h = elim (h s) as (λ (r : Result (Unit {0}) Refusal). and_then r (λ _. Ok (record { reply = told replies.Done; world = with_volume w f.at (answers.without_snapshot f.item s.ident) })) ≡ and_then (and_then r (λ _. Ok s.ident)) (removed_as w f)) [
  | Ok u ↦ refl
  | Err g ↦ refl
]

unsnap_is : (w : Up) (path name : List ℕ) (f : Found Volume) → volume_named w path ≡ Ok f → answers.unsnap w path name ≡ and_then (removal w f.at f.item name) (removed_as w f)
unfolding and_then
unsnap_is w path name f named = rw named (in_turn w f (answers.snapshot_named f.item name) (is_read_only f.item) (λ s. answers.held (holder w f.at s.ident)))

pub unsnap_refused : (w : Up) (path name : List ℕ) (f : Found Volume) (g : Refusal) → volume_named w path ≡ Ok f → removal w f.at f.item name ≡ Err g → answers.unsnap w path name ≡ Err g
unfolding and_then
unsnap_refused w path name f g named e = unsnap_is w path name f named ∙ ap (λ (r : Result Ident Refusal). and_then r (removed_as w f)) e

pub unsnap_none : (w : Up) (path name : List ℕ) (g : Refusal) → volume_named w path ≡ Err g → answers.unsnap w path name ≡ Err g
unfolding and_then
unsnap_none w path name g e = rw e refl

-- a snapshot that may go stands on the volume
stands_by : (w : Up) (at : ℕ) (v : Volume) (name : List ℕ) (i : Ident) (o : Option Snapshot) → last_that (λ (s : Snapshot). bytes_eq s.name name) v.snapshots ≡ o → (b : Bool) (h : Snapshot → Result (Unit {0}) Refusal) →
    and_then (some_or (refusals.NoSnapshot name) o) (λ s. and_then (refused_if b refusals.ReadOnly) (λ _. and_then (h s) (λ _. Ok s.ident))) ≡ Ok i → has v.snapshots i ≡ true
unfolding and_then refused_if some_or
stands_by w at v name i None l b h e = absurd (cc)
stands_by w at v name i (Some s) l true h e = absurd (cc)
stands_by w at v name i (Some s) l false h e =
    let stands = newest_stands (λ (t : Snapshot). bytes_eq t.name name) v.snapshots s l in
    let P : Result (Unit {0}) Refusal → Type 0 = λ r. and_then r (λ _. Ok s.ident) ≡ Ok i → has v.snapshots i ≡ true in
    (elim (h s) as P [
      | Ok u ↦ λ f. subst (λ (j : Ident). has v.snapshots j ≡ true) (let same : s.ident ≡ i = cc in same) stands
      | Err g ↦ λ f. absurd (cc)
    ]) e

pub removal_stands : (w : Up) (at : ℕ) (v : Volume) (name : List ℕ) (i : Ident) → removal w at v name ≡ Ok i → has v.snapshots i ≡ true
removal_stands w at v name i e = stands_by w at v name i (last_that (λ (s : Snapshot). bytes_eq s.name name) v.snapshots) refl (is_read_only v) (λ s. answers.held (holder w at s.ident)) e

not_refused : (v : Volume) (i : Ident) → has v.snapshots i ≡ true → remove_refusal v (i ∷ []) ≡ None
not_refused v i e = ap (λ (b : Bool). if b && true then None else Some faults.NoSnapshot) e

pub unsnap_matches : {D : Type 0} (w : Up) (path name : List ℕ) (at : ℕ) (p : Placed) (m : Mounted D) (i : Ident) → volume_named w path ≡ Ok (record { at = at; item = placed p m }) → removal w at (placed p m) name ≡ Ok i →
    Matches w at p (answers.unsnap w path name) (remove_refusal m.volume (i ∷ [])) replies.Done (removed m.volume (i ∷ []))
unfolding and_then removed_as
unsnap_matches w path name at p m i named e =
    let v = placed p m in
    let f : Found Volume = record { at = at; item = v } in
    let none = not_refused m.volume i (removal_stands w at v name i e) in
    record {
      refuses = λ fault g. absurd (let both : None ≡ Some fault = sym none ∙ g in cc);
      does = λ _. unsnap_is w path name f named ∙ ap (λ (r : Result Ident Refusal). and_then r (removed_as w f)) e
          ∙ ap (λ (u : Volume). let a : Answer = Ok (record { reply = told replies.Done; world = with_volume w at u }) in a) (sym (removed_one v i));
    }

-- ---- by what the code finds

steps : List ℕ → Option Snapshot → Bool → (Ident → Option Relationship) → Result Ident Refusal
steps name o b h = and_then (some_or (refusals.NoSnapshot name) o) (λ s. and_then (refused_if b refusals.ReadOnly) (λ _. and_then (answers.held (h s.ident)) (λ _. Ok s.ident)))

none_by : (name : List ℕ) (o : Option Snapshot) (b : Bool) (h : Ident → Option Relationship) → option_map ident_of o ≡ None → Err (refusals.NoSnapshot name) ≡ steps name o b h
unfolding steps and_then some_or
none_by name None b h e = refl
none_by name (Some s) b h e = absurd (cc)

read_only_by : (name : List ℕ) (o : Option Snapshot) (i : Ident) (b : Bool) (h : Ident → Option Relationship) → option_map ident_of o ≡ Some i → b ≡ false → Err refusals.ReadOnly ≡ steps name o (not b) h
unfolding steps and_then some_or refused_if
read_only_by name None i b h e f = absurd (cc)
read_only_by name (Some s) i true h e f = absurd (cc)
read_only_by name (Some s) i false h e f = refl

free_by : (name : List ℕ) (o : Option Snapshot) (i : Ident) (b : Bool) (h : Ident → Option Relationship) → option_map ident_of o ≡ Some i → b ≡ true → option_map holder_number (h i) ≡ None → Ok i ≡ steps name o (not b) h
unfolding steps and_then some_or refused_if answers.held
free_by name None i b h e f n = absurd (cc)
free_by name (Some s) i false h e f n = absurd (cc)
free_by name (Some s) i true h e f n =
    let same : s.ident ≡ i = cc in
    let P : Ident → Type 0 = λ j. option_map holder_number (h j) ≡ None → Ok j ≡ and_then (answers.held (h j)) (λ _. Ok j) in
    let at_s : P s.ident = elim (h s.ident) as (λ (x : Option Relationship). option_map holder_number x ≡ None → Ok s.ident ≡ and_then (answers.held x) (λ _. Ok s.ident)) [
      | None ↦ λ k. refl
      | Some r ↦ λ k. absurd (cc)
    ] in
    ap Ok (sym same) ∙ at_s (ap (λ j. option_map holder_number (h j)) same ∙ n)

held_by : (name : List ℕ) (o : Option Snapshot) (i : Ident) (b : Bool) (h : Ident → Option Relationship) (number : RelNo) → option_map ident_of o ≡ Some i → b ≡ true → option_map holder_number (h i) ≡ Some number → Err (refusals.Held number) ≡ steps name o (not b) h
unfolding steps and_then some_or refused_if answers.held
held_by name None i b h number e f n = absurd (cc)
held_by name (Some s) i false h number e f n = absurd (cc)
held_by name (Some s) i true h number e f n =
    let same : s.ident ≡ i = cc in
    let at_s : (x : Option Relationship) → option_map holder_number x ≡ Some number → Err (refusals.Held number) ≡ and_then (answers.held x) (λ _. Ok s.ident) = λ x. elim x as (λ (x : Option Relationship). option_map holder_number x ≡ Some number → Err (refusals.Held number) ≡ and_then (answers.held x) (λ _. Ok s.ident)) [
      | None ↦ λ k. absurd (cc)
      | Some r ↦ λ k. ap (λ (m : RelNo). Err (refusals.Held m)) (let found : number ≡ holder_number r = cc in found)
    ] in
    at_s (h s.ident) (ap (λ j. option_map holder_number (h j)) same ∙ n)

module _ (w : Up) (number : ℕ) (v : Volume) (name : List ℕ) where
  pub removal_none : option_map ident_of (last_that (λ (s : Snapshot). bytes_eq s.name name) v.snapshots) ≡ None → Err (refusals.NoSnapshot name) ≡ removal w number v name
  unfolding steps
  removal_none e = none_by name (last_that (λ (s : Snapshot). bytes_eq s.name name) v.snapshots) (is_read_only v) (holder w number) e

  module _ (i : Ident) (is : option_map ident_of (last_that (λ (s : Snapshot). bytes_eq s.name name) v.snapshots) ≡ Some i) where
    pub removal_read_only : is_rw v.kind ≡ false → Err refusals.ReadOnly ≡ removal w number v name
    unfolding steps
    removal_read_only e = read_only_by name (last_that (λ (s : Snapshot). bytes_eq s.name name) v.snapshots) i (is_rw v.kind) (holder w number) is e

    pub removal_free : is_rw v.kind ≡ true → option_map holder_number (holder w number i) ≡ None → Ok i ≡ removal w number v name
    unfolding steps
    removal_free e n = free_by name (last_that (λ (s : Snapshot). bytes_eq s.name name) v.snapshots) i (is_rw v.kind) (holder w number) is e n

    pub removal_held : (r : RelNo) → is_rw v.kind ≡ true → option_map holder_number (holder w number i) ≡ Some r → Err (refusals.Held r) ≡ removal w number v name
    unfolding steps
    removal_held r e n = held_by name (last_that (λ (s : Snapshot). bytes_eq s.name name) v.snapshots) i (is_rw v.kind) (holder w number) r is e n
