-- A root has one spelling, and what the layout spells is exactly the roots.
use Rattle.std.proofs.Common.{◌≡◌, ℕ, zero, suc, ◌-◌, ◌^◌, ◌<◌, ◌≤◌, true, List, [], ◌∷◌, ◌++◌, length, map, get_or, refl, sym, ap, subst, ◌∙◌, inl, inr, arith, length-append, append_assoc, lit<}
use Rattle.std.specs.Prelude.{not}
use Rattle.std.specs.List.{flat_map}
use Rattle.std.proofs.lemmas.List.{append-nil, map_push}
use Rattle.sm_base.specs.declared.numbers.Ident.{Ident}
use Rattle.sm_defs.specs.Words.{Among}
use Rattle.sm_fields.specs.Format.{number, such_that, bits32, in_turn}
use Rattle.sm_fields.specs.Grammar.{digits, limit, identity_digits, IsIdentity, Spells, IsSpelledBy, AllInTurn}
use Rattle.sm_fields.proofs.Sizes.{length-digits}
use Rattle.sm_fields.proofs.Spelled.{number_spelled, such_that_spelled, identity_spelled, count_spelled, in_turn_only, in_turn_again, head_only, head_again, behind_head}
use Rattle.sm_root.specs.declared.root.Root.{Root}
use Rattle.sm_root.specs.declared.root.RootSnapshot.{RootSnapshot}
use Rattle.sm_root.specs.declared.TheConstants.{MAGIC, RECORD_SNAPSHOTS}
use Rattle.sm_root.specs.Condition.{map_of, maps_of, IsSnapshot, IsRoot}
use Rattle.sm_root.specs.Spots.{Spot, with_map, with_maps, may_stand}
use Rattle.sm_root.specs.Spelling.{map_bytes, words_digits, head_of, snapshot_bytes, sizes_digits, sizes_of, body_bytes, spelling}
use Rattle.sm_root.specs.Layout.{block_map, fresh, snapshot, body, root_record}
use Rattle.sm_root.proofs.PartsSpelled.{FitsWords, words_only, words_again, FitsSizes, sizes_spelled}
use Rattle.sm_root.proofs.Places.{FitAll, EntryFits, one_place_of, at_most_of, maps_fit, fit_from, fit_to}
use Rattle.sm_root.proofs.Apart.{known, NewInTurn, differ_of, new_of}

-- ---- maps

abbrev MapFits : ℕ → ℕ → List Spot → List ℕ → Type 0
MapFits logical most seen m = (length m ≡ logical) × AllInTurn (EntryFits most seen) [] m

entry_spelled : (most : ℕ) (seen : List Spot) (before : List ℕ) → IsSpelledBy (such_that (number bits32) (λ n. may_stand most (with_map seen 0 before) (length before) n)) (EntryFits most seen before) (digits bits32)
entry_spelled most seen before = such_that_spelled (number bits32) (λ n. n < limit bits32) (digits bits32) (λ n. may_stand most (with_map seen 0 before) (length before) n) (number_spelled bits32)

map_only : (logical most : ℕ) (seen : List Spot) (m bytes : List ℕ) → Spells (block_map logical most seen) m bytes → MapFits logical most seen m × (bytes ≡ map_bytes m)
unfolding block_map map_bytes
map_only logical most seen m bytes s =
    let t = in_turn_only (λ before. such_that (number bits32) (λ n. may_stand most (with_map seen 0 before) (length before) n)) (EntryFits most seen) (digits bits32) (entry_spelled most seen) [] logical m bytes s in
    ((t.0, t.1), t.2)

map_again : (logical most : ℕ) (seen : List Spot) (m : List ℕ) → MapFits logical most seen m → Spells (block_map logical most seen) m (map_bytes m)
unfolding block_map map_bytes
map_again logical most seen m fits =
    let t = in_turn_again (λ before. such_that (number bits32) (λ n. may_stand most (with_map seen 0 before) (length before) n)) (EntryFits most seen) (digits bits32) (entry_spelled most seen) [] m fits.1 in
    subst (λ (k : ℕ). Spells (in_turn (λ before. such_that (number bits32) (λ n. may_stand most (with_map seen 0 before) (length before) n)) [] k) m (flat_map (digits bits32) m)) fits.0 t

-- ---- snapshots

pub record FitsSnapshot (logical most : ℕ) (stable : List ℕ) (before : List RootSnapshot) (s : RootSnapshot) : Type 0 where
  pub ident : IsIdentity s.ident
  pub new : not (known before s.ident) ≡ true
  pub words : FitsWords (head_of s)
  pub map : MapFits logical most (with_maps [] (stable ∷ map map_of before)) s.map

snapshot_only : (logical most : ℕ) (stable : List ℕ) (before : List RootSnapshot) (s : RootSnapshot) (bytes : List ℕ) → Spells (snapshot logical most stable before) s bytes → FitsSnapshot logical most stable before s × (bytes ≡ snapshot_bytes s)
unfolding snapshot snapshot_bytes fresh
snapshot_only logical most stable before v bytes s =
    let a = s.4 in
    let b = a.4 in
    let i = identity_spelled.only s.0 s.1 s.3.0 in
    let w = words_only s.0 a.0 a.1 a.3 in
    let m = map_only logical most (with_maps [] (stable ∷ map map_of before)) b.0 b.1 b.3 in
    let tail : a.2 ≡ map_bytes b.0 = b.5 ∙ rw (m.1, b.4.1) (append-nil (map_bytes b.0)) in
    let whole : bytes ≡ identity_digits s.0 ++ (words_digits a.0 ++ map_bytes b.0) = s.5 ∙ rw (i.1, a.5, w.1, tail) refl in
    rw b.4.0 (
      record { ident = subst IsIdentity (sym w.2) i.0; new = subst (λ (j : Ident). not (known before j) ≡ true) (sym w.2) s.3.1; words = w.0; map = m.0 },
      whole ∙ ap (λ (j : Ident). identity_digits j ++ (words_digits a.0 ++ map_bytes b.0)) (sym w.2),
    )

snapshot_again : (logical most : ℕ) (stable : List ℕ) (before : List RootSnapshot) (s : RootSnapshot) → FitsSnapshot logical most stable before s → Spells (snapshot logical most stable before) s (snapshot_bytes s)
unfolding snapshot snapshot_bytes fresh
snapshot_again logical most stable before v fits = (
  v.ident,
  identity_digits v.ident,
  words_digits (head_of v) ++ map_bytes v.map,
  (identity_spelled.spelled v.ident fits.ident, fits.new),
  (
    head_of v,
    words_digits (head_of v),
    map_bytes v.map,
    words_again (head_of v) fits.words,
    (v.map, map_bytes v.map, [], map_again logical most (with_maps [] (stable ∷ map map_of before)) v.map fits.map, (refl, refl), sym (append-nil (map_bytes v.map))),
    refl,
  ),
  refl,
)

snapshot_spelled : (logical most : ℕ) (stable : List ℕ) (before : List RootSnapshot) → IsSpelledBy (snapshot logical most stable before) (FitsSnapshot logical most stable before) snapshot_bytes
snapshot_spelled logical most stable before = record { only = snapshot_only logical most stable before; spelled = snapshot_again logical most stable before }

-- ---- the body

pub record FitsBody (r : Root) : Type 0 where
  pub sizes : FitsSizes (sizes_of r)
  pub stable : MapFits r.logical r.physical [] r.stable
  pub few : length r.snapshots ≤ RECORD_SNAPSHOTS
  pub snapshots : AllInTurn (FitsSnapshot r.logical r.physical r.stable) [] r.snapshots

body_only : (r : Root) (bytes : List ℕ) → Spells body r bytes → FitsBody r × (bytes ≡ body_bytes r)
unfolding body body_bytes
body_only r bytes s =
    let a = s.4 in
    let b = a.4 in
    let c = b.4 in
    let v = sizes_spelled.only s.0 s.1 s.3 in
    let m = map_only s.0.logical s.0.physical [] a.0 a.1 a.3 in
    let n = (count_spelled RECORD_SNAPSHOTS (lit< tt)).only b.0 b.1 b.3 in
    let t = in_turn_only (snapshot s.0.logical s.0.physical a.0) (FitsSnapshot s.0.logical s.0.physical a.0) snapshot_bytes (snapshot_spelled s.0.logical s.0.physical a.0) [] b.0 c.0 c.1 c.3 in
    let tail : b.2 ≡ flat_map snapshot_bytes c.0 = c.5 ∙ rw (t.2, c.4.1) (append-nil (flat_map snapshot_bytes c.0)) in
    let whole : bytes ≡ sizes_digits s.0 ++ (map_bytes a.0 ++ (digits bits32 (length c.0) ++ flat_map snapshot_bytes c.0)) = s.5 ∙ rw (v.1, a.5, m.1, b.5, n.1, tail, t.0) refl in
    rw c.4.0 (record { sizes = v.0; stable = m.0; few = omega (arith, t.0, n.0); snapshots = t.1 }, whole)

body_again : (r : Root) → FitsBody r → Spells body r (body_bytes r)
unfolding body body_bytes
body_again r fits =
    let list = in_turn_again (snapshot r.logical r.physical r.stable) (FitsSnapshot r.logical r.physical r.stable) snapshot_bytes (snapshot_spelled r.logical r.physical r.stable) [] r.snapshots fits.snapshots in (
      sizes_of r,
      sizes_digits (sizes_of r),
      map_bytes r.stable ++ (digits bits32 (length r.snapshots) ++ flat_map snapshot_bytes r.snapshots),
      sizes_spelled.spelled (sizes_of r) fits.sizes,
      (
        r.stable,
        map_bytes r.stable,
        digits bits32 (length r.snapshots) ++ flat_map snapshot_bytes r.snapshots,
        map_again r.logical r.physical [] r.stable fits.stable,
        (
          length r.snapshots,
          digits bits32 (length r.snapshots),
          flat_map snapshot_bytes r.snapshots,
          (count_spelled RECORD_SNAPSHOTS (lit< tt)).spelled (length r.snapshots) fits.few,
          (r.snapshots, flat_map snapshot_bytes r.snapshots, [], list, (refl, refl), sym (append-nil (flat_map snapshot_bytes r.snapshots))),
          refl,
        ),
        refl,
      ),
      refl,
    )

-- ---- what fits is a root

with_maps-push : (seen : List Spot) (ms : List (List ℕ)) (m : List ℕ) → with_maps seen (ms ++ m ∷ []) ≡ with_map (with_maps seen ms) 0 m
with_maps-push seen [] m = refl
with_maps-push seen (x ∷ ms) m = with_maps-push (with_map seen 0 x) ms m

spots_after : (stable : List ℕ) (before : List RootSnapshot) (s : RootSnapshot) → with_maps [] (stable ∷ map map_of (before ++ s ∷ [])) ≡ with_map (with_maps [] (stable ∷ map map_of before)) 0 s.map
spots_after stable before s = ap (with_maps (with_map [] 0 stable)) (map_push map_of before s) ∙ with_maps-push (with_map [] 0 stable) (map map_of before) s.map

maps_fit_of : (logical most : ℕ) (stable : List ℕ) (before ss : List RootSnapshot) → AllInTurn (FitsSnapshot logical most stable) before ss → FitAll most (with_maps [] (stable ∷ map map_of before)) (map map_of ss)
maps_fit_of logical most stable before [] all = tt
maps_fit_of logical most stable before (s ∷ ss) all = (
  fit_from most (with_maps [] (stable ∷ map map_of before)) [] s.map all.0.map.1,
  subst (λ x. FitAll most x (map map_of ss)) (spots_after stable before s) (maps_fit_of logical most stable (before ++ s ∷ []) ss all.1),
)

new_in_turn : (logical most : ℕ) (stable : List ℕ) (before ss : List RootSnapshot) → AllInTurn (FitsSnapshot logical most stable) before ss → NewInTurn before ss
new_in_turn logical most stable before [] all = tt
new_in_turn logical most stable before (s ∷ ss) all = (all.0.new, new_in_turn logical most stable (before ++ s ∷ []) ss all.1)

each_fits : (logical most : ℕ) (stable : List ℕ) (before ss : List RootSnapshot) → AllInTurn (FitsSnapshot logical most stable) before ss → (s : RootSnapshot) → Among ss s → IsSnapshot logical s
each_fits logical most stable before [] all s among = absurd among
each_fits logical most stable before (x ∷ ss) all s (inl same) =
    let f = all.0 in
    rw same (record { ident = f.ident; name = f.words.name; label = f.words.label; time = f.words.time; made = f.words.made; long = f.map.0 })
each_fits logical most stable before (x ∷ ss) all s (inr later) = each_fits logical most stable (before ++ x ∷ []) ss all.1 s later

pub root_of : (r : Root) → FitsBody r → IsRoot r
root_of r fits =
    let maps : FitAll r.physical [] (maps_of r) = (fit_from r.physical [] [] r.stable fits.stable.1, maps_fit_of r.logical r.physical r.stable [] r.snapshots fits.snapshots) in
    record {
      number = fits.sizes.number;
      family = fits.sizes.family;
      some_blocks = fits.sizes.some_blocks;
      few_blocks = fits.sizes.few_blocks;
      room = fits.sizes.room;
      few_places = fits.sizes.few_places;
      counted = fits.sizes.counted;
      long = fits.stable.0;
      few = fits.few;
      snapshots = each_fits r.logical r.physical r.stable [] r.snapshots fits.snapshots;
      at_most = at_most_of r.physical (maps_of r) maps;
      one_place = one_place_of r.physical (maps_of r) maps;
      idents_differ = differ_of [] r.snapshots (new_in_turn r.logical r.physical r.stable [] r.snapshots fits.snapshots);
    }

all_fit : (logical most : ℕ) (stable : List ℕ) (before ss : List RootSnapshot) → most < 2 ^ 32 → FitAll most (with_maps [] (stable ∷ map map_of before)) (map map_of ss) → NewInTurn before ss
    → ((s : RootSnapshot) → Among ss s → IsSnapshot logical s) → AllInTurn (FitsSnapshot logical most stable) before ss
all_fit logical most stable before [] lt maps new each = tt
all_fit logical most stable before (s ∷ ss) lt maps new each =
    let is = each s (inl refl) in (
      record {
        ident = is.ident;
        new = new.0;
        words = record { name = is.name; label = is.label; time = is.time; made = is.made };
        map = (is.long, fit_to most (with_maps [] (stable ∷ map map_of before)) [] s.map lt maps.0);
      },
      all_fit logical most stable (before ++ s ∷ []) ss lt (subst (λ x. FitAll most x (map map_of ss)) (sym (spots_after stable before s)) maps.1) new.1 (λ x among. each x (inr among)),
    )

pub fits_of_root : (r : Root) → IsRoot r → FitsBody r
fits_of_root r is =
    let small : r.physical < 2 ^ 32 = omega (arith, is.few_places) in
    let maps : FitAll r.physical [] (maps_of r) = maps_fit r.physical [] (maps_of r) is.at_most is.one_place (λ n p q nz a e. absurd cc) in
    record {
      sizes = record { number = is.number; family = is.family; some_blocks = is.some_blocks; few_blocks = is.few_blocks; room = is.room; few_places = is.few_places; counted = is.counted };
      stable = (is.long, fit_to r.physical [] [] r.stable small maps.0);
      few = is.few;
      snapshots = all_fit r.logical r.physical r.stable [] r.snapshots small maps.1 (new_of [] r.snapshots (λ x among. absurd among) is.idents_differ) is.snapshots;
    }

-- ---- the record

magic_bytes : (i : ℕ) → get_or MAGIC i 0 < 256
magic_bytes zero = lit< tt
magic_bytes (suc zero) = lit< tt
magic_bytes (suc (suc zero)) = lit< tt
magic_bytes (suc (suc (suc zero))) = lit< tt
magic_bytes (suc (suc (suc (suc zero)))) = lit< tt
magic_bytes (suc (suc (suc (suc (suc zero))))) = lit< tt
magic_bytes (suc (suc (suc (suc (suc (suc zero)))))) = lit< tt
magic_bytes (suc (suc (suc (suc (suc (suc (suc zero))))))) = lit< tt
magic_bytes (suc (suc (suc (suc (suc (suc (suc (suc i)))))))) = lit< tt

pub record_only : (r : Root) (bytes : List ℕ) → Spells (root_record (length bytes)) r bytes → IsRoot r × (bytes ≡ spelling r)
unfolding root_record
record_only r bytes s =
    let h = head_only MAGIC (length bytes - 12) s.0 s.1 s.3 in
    let b = body_only r s.2 s.4 in
    let behind : length bytes - 12 ≡ length (body_bytes r) = behind_head MAGIC bytes s.1 s.2 (body_bytes r) (length bytes - 12) refl s.5 h.2 b.1 in
    let whole : bytes ≡ (MAGIC ++ digits bits32 (length (body_bytes r))) ++ body_bytes r =
    s.5 ∙ ap (λ (x : List ℕ). x ++ s.2) h.2 ∙ ap (λ (x : List ℕ). (MAGIC ++ digits bits32 (length bytes - 12)) ++ x) b.1 ∙ ap (λ (n : ℕ). (MAGIC ++ digits bits32 n) ++ body_bytes r) behind in
    (root_of r b.0, whole ∙ append_assoc MAGIC (digits bits32 (length (body_bytes r))) (body_bytes r))

pub record_again : (r : Root) (bytes : List ℕ) → IsRoot r → length bytes < 2 ^ 32 → bytes ≡ spelling r → Spells (root_record (length bytes)) r bytes
unfolding root_record
record_again r bytes is small e =
    let n = length (body_bytes r) in
    let parts : bytes ≡ (MAGIC ++ digits bits32 n) ++ body_bytes r = e ∙ sym (append_assoc MAGIC (digits bits32 n) (body_bytes r)) in
    let behind : length bytes - 12 ≡ n = behind_head MAGIC bytes (MAGIC ++ digits bits32 n) (body_bytes r) (body_bytes r) n refl parts refl refl in (
      true,
      MAGIC ++ digits bits32 (length bytes - 12),
      body_bytes r,
      head_again MAGIC (length bytes - 12) magic_bytes (omega arith),
      body_again r (fits_of_root r is),
      parts ∙ ap (λ (k : ℕ). (MAGIC ++ digits bits32 k) ++ body_bytes r) (sym behind),
    )
