-- How far the volumes were looked at, and what one more of them adds.
use Rattle.std.proofs.Common.{◌≡◌, ℕ, zero, suc, ◌+◌, ◌<◌, ◌≤◌, List, [], ◌∷◌, ◌++◌, length, get_or, take, drop, map, true, Some, Ok, Err, slice_get, refl, sym, ap, subst, ◌∙◌, inl, inr, ◌⊎◌, arith, IsTrue, length-append}
use Rattle.std.proofs.lemmas.List.{map_push, take_more, drop_more, take_all, take-append-drop, length-take, length-drop, nil_from_length}
use Rattle.std.proofs.lemmas.Bool.{cases_order}
use Rattle.std.proofs.lemmas.Option.{same_Some, slice_get_within, slice_get-get_or, get_or_from_slice_get}
use Rattle.sm_base.specs.declared.numbers.VolNo.{VolNo}
use Rattle.sm_disk.specs.Image.{Image}
use Rattle.sm_disk.specs.Disk.{DiskState}
use Rattle.sm_disk.proofs.Calls.{counted_within}
use Rattle.sm_slots.specs.Stored.{slot_of}
use Rattle.sm_root.specs.declared.root.Root.{Root}
use Rattle.sm_catroot.specs.declared.placed.Placed.{Placed}
use Rattle.volume_store.specs.Held.{need}
use Rattle.volume_store.specs.Opened.{FoundMaps, IsRootOn}
use Rattle.sm_model.specs.Answers.{volno}
use Rattle.sm_opening.specs.declared.fault.OpenFault.{OpenFault}
use Rattle.sm_opening.specs.declared.fault.OpenFault.TheVariants.{Unopened, NoMemory as OutOfMemory}
use Rattle.sm_opening.specs.Looked.{disks_of, AllTold, EachMoves, IsLookedAt, Looks, IsDamageOf, IsFaultCounted, Fails}
use Rattle.sm_opening.specs.Finding.{IsVolumeIn, IsVolumeFound, AreVolumesFound, LieApart, lies_apart, root_of}
use Rattle.sm_opening.specs.OnDisk.{Disks, Damage, IsVolumeOn, IsVolumeDamage, AreVolumesOn, IsFirstDamage}
use Rattle.sm_opening.proofs.LookLemmas.{unmoved, looked_then, stays_at, told_then}
use Rattle.sm_opening.proofs.NoFault.{volume_apart}
use Rattle.sm_opening.proofs.VolumesWalk.{more_volumes, then_fault, volumes_apart}
use Rattle.sm_opening.proofs.DisksSame.{disks_same}

pub get_push : {X : Type 0} (xs : List X) (y : X) (j : ℕ) (z : X) → slice_get (xs ++ y ∷ []) j ≡ Some z → (slice_get xs j ≡ Some z) ⊎ ((j ≡ length xs) × (y ≡ z))
get_push [] y zero z e = inr (refl, same_Some y z e)
get_push [] y (suc j) z e = absurd (cc)
get_push (x ∷ xs) y zero z e = inl e
get_push (x ∷ xs) y (suc j) z e = elim (get_push xs y j z e) [ inl a ↦ inl a | inr b ↦ inr (ap suc b.0, b.1) ]

found_stays : (number : VolNo) (f : FoundMaps) (s e : DiskState) → IsLookedAt s e → IsVolumeIn s number f → IsVolumeIn e number f
found_stays number f s e look h = (
  record {
    settled = h.0.settled;
    one_of_two = h.0.one_of_two;
    room = subst (λ (n : ℕ). need f.maps.root.physical ≤ n) (sym look.goes.size) h.0.room;
    root = λ told. subst (λ (c : Image). IsRootOn c f.maps.root) (sym look.quiet.seen) (h.0.root (subst IsTrue look.goes.told told));
    slot = λ told. subst (λ (c : Image). f.number ≡ slot_of c) (sym look.quiet.seen) (h.0.slot (subst IsTrue look.goes.told told));
  },
  h.1,
)

module _ {D : Type 0} (state : D → DiskState) where
  -- a failure that was counted since a later moment was counted since an earlier one
  pub counted_since : (olds mids news : List D) (e : OpenFault) → EachMoves state IsLookedAt olds mids → IsFaultCounted state mids news e → IsFaultCounted state olds news e
  counted_since olds mids news (Unopened disk kind) m h = λ is.
      let (x, y, was, now, counted) = h is in
      let o : D = get_or olds disk.0 x in
      let there : slice_get olds disk.0 ≡ Some o = slice_get-get_or olds disk.0 x (let lt = slice_get_within mids disk.0 x was in let long = m.as_long in omega (arith, lt, long)) in
      (o, y, there, now, counted_within (state o) (state x) (state y) (state y) (m.each disk.0 o x there was).goes.faults counted (omega arith))
  counted_since olds mids news OutOfMemory m h = tt

  pub same_disks : (olds mids : List D) → EachMoves state IsLookedAt olds mids → disks_of state mids ≡ disks_of state olds
  same_disks = disks_same state IsLookedAt (λ s e look. look.goes.size) (λ s e look. look.quiet.seen)

  pub still_told : (olds mids : List D) → EachMoves state IsLookedAt olds mids → AllTold state olds → AllTold state mids
  still_told olds mids m = told_then state IsLookedAt (λ s e look. look.goes.told) olds mids m

  pub record Progress (olds : List D) (ps : List Placed) (k : ℕ) (news : List D) (fs : List FoundMaps) : Type 0 where
    pub moves : EachMoves state IsLookedAt olds news
    pub as_many : length fs ≡ k
    pub apart : (j : ℕ) (p : Placed) → j < k → slice_get ps j ≡ Some p → lies_apart (length olds) (take j ps) p ≡ true
    pub found : (j : ℕ) (p : Placed) (f : FoundMaps) → slice_get ps j ≡ Some p → slice_get fs j ≡ Some f → IsVolumeFound state (volno j) p news f
    pub volumes : AllTold state olds → AreVolumesOn (disks_of state olds) [] 0 (take k ps) (map root_of fs)
    pub left : AllTold state olds → (f : Damage) → IsFirstDamage (disks_of state olds) [] 0 ps f → IsFirstDamage (disks_of state olds) (take k ps) k (drop k ps) f

  pub begins : (olds : List D) (ps : List Placed) → Progress olds ps 0 olds []
  begins olds ps = record {
    moves = unmoved state olds;
    as_many = refl;
    apart = λ j p lt is. absurd (omega (arith, lt));
    found = λ j p f is none. absurd (cc);
    volumes = λ told. tt;
    left = λ told f first. first;
  }

  module _ (olds : List D) (ps : List Placed) (k : ℕ) (mids : List D) (fs : List FoundMaps) (before : Progress olds ps k mids fs) (p : Placed) (here : slice_get ps k ≡ Some p) (news : List D) where
    abbrev d : Disks
    d = disks_of state olds

    within : k < length ps
    within = slice_get_within ps k p here

    is_p : get_or ps k p ≡ p
    is_p = get_or_from_slice_get ps k p p here

    front : take (k + 1) ps ≡ take k ps ++ p ∷ []
    front = take_more ps k p within ∙ ap (λ (x : Placed). take k ps ++ x ∷ []) is_p

    back : drop k ps ≡ p ∷ drop (k + 1) ps
    back = drop_more ps k p within ∙ ap (λ (x : Placed). x ∷ drop (k + 1) ps) is_p

    long_front : length (take k ps) ≡ k
    long_front = (let lt = within in omega (arith, lt, length-take k ps))

    whole : ps ≡ take k ps ++ p ∷ drop (k + 1) ps
    whole = sym (take-append-drop k ps) ∙ ap (λ (l : List Placed). take k ps ++ l) back

    now_left : AllTold state olds → (f : Damage) → IsFirstDamage d [] 0 ps f → IsVolumeDamage d (take k ps) k p f ⊎ ((r : Root) × IsVolumeOn d (take k ps) k p r × IsFirstDamage d (take (k + 1) ps) (k + 1) (drop (k + 1) ps) f)
    now_left told f first = elim (subst (λ (l : List Placed). IsFirstDamage d (take k ps) k l f) back (before.left told f first)) [
      | inl fault ↦ inl fault
      | inr (r, on, later) ↦ inr (r, on, subst (λ (l : List Placed). IsFirstDamage d l (k + 1) (drop (k + 1) ps) f) (sym front) (subst (λ (n : ℕ). IsFirstDamage d (take k ps ++ p ∷ []) n (drop (k + 1) ps) f) (omega arith) later))
    ]

    -- one more is found
    module _ (f : FoundMaps) (looks : Looks {A = FoundMaps} state (IsVolumeDamage (disks_of state mids) (take k ps) k p) mids news (Ok f))
        (apart : lies_apart (length mids) (take k ps) p ≡ true) (found : IsVolumeFound state (volno k) p news f)
        (volume : AllTold state mids → IsVolumeOn (disks_of state mids) (take k ps) k p f.maps.root) where
      read : AllTold state olds → IsVolumeOn d (take k ps) k p f.maps.root
      read told = subst (λ (x : Disks). IsVolumeOn x (take k ps) k p f.maps.root) (same_disks olds mids before.moves) (volume (still_told olds mids before.moves told))

      pub one_more : Progress olds ps (k + 1) news (fs ++ f ∷ [])
      one_more = record {
        moves = looked_then state olds mids news before.moves looks.moves;
        as_many = length-append fs (f ∷ []) ∙ ap (λ n. n + 1) before.as_many;
        apart = λ j q lt is. elim (cases_order j k) [
          | inl same ↦
              let e : p ≡ q = same_Some p q (sym here ∙ (ap (λ n. slice_get ps n) (sym same) ∙ is)) in
              subst (λ (x : Placed). lies_apart (length olds) (take j ps) x ≡ true) e (subst (λ (n : ℕ). lies_apart (length olds) (take n ps) p ≡ true) (sym same) (subst (λ (n : ℕ). lies_apart n (take k ps) p ≡ true) before.moves.as_long apart))
          | inr (inl less) ↦ before.apart j q less is
          | inr (inr past) ↦ absurd (omega (arith, past, lt))
        ];
        found = λ j q g is at. elim (get_push fs f j g at) [
          | inl old ↦ stays_at state IsLookedAt (λ s. IsVolumeIn s (volno j) g) (found_stays (volno j) g) q.disk.0 mids news looks.moves (before.found j q g is old)
          | inr (last, same) ↦
              let at_k : j ≡ k = last ∙ before.as_many in
              let e : p ≡ q = same_Some p q (sym here ∙ (ap (λ n. slice_get ps n) (sym at_k) ∙ is)) in
              subst (λ (n : ℕ). IsVolumeFound state (volno n) q news g) (sym at_k) (subst (λ (x : Placed). IsVolumeFound state (volno k) x news g) e (subst (λ (x : FoundMaps). IsVolumeFound state (volno k) p news x) same found))
        ];
        volumes = λ told.
            subst (λ (l : List Root). AreVolumesOn d [] 0 (take (k + 1) ps) l) (sym (map_push root_of fs f))
            (subst (λ (l : List Placed). AreVolumesOn d [] 0 l (map root_of fs ++ f.maps.root ∷ [])) (sym front)
            (more_volumes d [] 0 (take k ps) (map root_of fs) p f.maps.root (before.volumes told) (subst (λ (n : ℕ). IsVolumeOn d (take k ps) n p f.maps.root) (let e = long_front in omega (arith, e)) (read told))));
        left = λ told x first. elim (now_left told x first) [
          | inl fault ↦ absurd (volume_apart d (take k ps) k p f.maps.root (read told) x fault)
          | inr (r, on, later) ↦ later
        ];
      }

    -- or its disk has a fault
    module _ (e : OpenFault) (looks : Looks {A = FoundMaps} state (IsVolumeDamage (disks_of state mids) (take k ps) k p) mids news (Err e)) where
      of_volume : AllTold state olds → IsDamageOf (IsVolumeDamage d (take k ps) k p) e
      of_volume told = subst (λ (x : Disks). IsDamageOf (IsVolumeDamage x (take k ps) k p) e) (same_disks olds mids before.moves) (looks.faults (still_told olds mids before.moves told))

      pub stops_whole : AllTold state olds → (rs : List Root) → AreVolumesOn d [] 0 ps rs → Fails e
      stops_whole told rs are = elim (of_volume told) [
        | inl (f, fault, is) ↦
            absurd (volumes_apart d [] 0 ps rs f are (subst (λ (l : List Placed). IsFirstDamage d [] 0 l f) (sym whole) (then_fault d [] 0 (take k ps) (drop (k + 1) ps) (map root_of fs) p f (before.volumes told) (subst (λ (n : ℕ). IsVolumeDamage d (take k ps) n p f) (let e = long_front in omega (arith, e)) fault))))
        | inr fails ↦ fails
      ]

      pub stops : {A : Type 0} → Looks {A = A} state (IsFirstDamage d [] 0 ps) olds news (Err e)
      stops = record {
        moves = looked_then state olds mids news before.moves looks.moves;
        counted = counted_since olds mids news e before.moves looks.counted;
        faults = λ told. elim (of_volume told) [
          | inl (f, fault, is) ↦
              inl (f, subst (λ (l : List Placed). IsFirstDamage d [] 0 l f) (sym whole) (then_fault d [] 0 (take k ps) (drop (k + 1) ps) (map root_of fs) p f (before.volumes told) (subst (λ (n : ℕ). IsVolumeDamage d (take k ps) n p f) (let e = long_front in omega (arith, e)) fault)), is)
          | inr fails ↦ inr fails
        ];
        exact = λ told f first. elim (now_left told f first) [
          | inl fault ↦ looks.exact (still_told olds mids before.moves told) f (subst (λ (x : Disks). IsVolumeDamage x (take k ps) k p f) (sym (same_disks olds mids before.moves)) fault)
          | inr (r, on, later) ↦ elim (of_volume told) [
            | inl (g, other, is) ↦ absurd (volume_apart d (take k ps) k p r on g other)
            | inr fails ↦ inr fails
          ]
        ];
      }

  -- there is no memory for one more
  pub no_room : {A : Type 0} (olds : List D) (P : Damage → Type 0) (news : List D) → EachMoves state IsLookedAt olds news → Looks {A = A} state P olds news (Err OutOfMemory)
  no_room olds P news moves = record { moves = moves; counted = tt; faults = λ told. inr tt; exact = λ told f first. inr tt }

  -- all were found
  module _ (olds : List D) (ps : List Placed) (k : ℕ) (news : List D) (fs : List FoundMaps) (after : Progress olds ps k news fs) (all : length ps ≤ k) (some : k ≤ length ps) where
    is_all : take k ps ≡ ps
    is_all = take_all k ps all

    pub all_looked : {A : Type 0} (x : A) → Looks {A = A} state (IsFirstDamage (disks_of state olds) [] 0 ps) olds news (Ok x)
    all_looked x = record {
      moves = after.moves;
      counted = tt;
      faults = λ told. tt;
      exact = λ told f first. subst (λ (l : List Placed). IsFirstDamage (disks_of state olds) (take k ps) k l f) (nil_from_length (drop k ps) (omega (arith, length-drop k ps, all))) (after.left told f first);
    }

    pub all_apart : LieApart (length olds) ps
    all_apart j p is = after.apart j p (let lt = slice_get_within ps j p is in omega (arith, lt, all)) is

    pub all_found : AreVolumesFound state ps news fs
    all_found = record { as_many = after.as_many ∙ omega (arith, all, some); each = after.found }

    pub all_read : AllTold state olds → AreVolumesOn (disks_of state olds) [] 0 ps (map root_of fs)
    all_read told = subst (λ (l : List Placed). AreVolumesOn (disks_of state olds) [] 0 l (map root_of fs)) is_all (after.volumes told)
