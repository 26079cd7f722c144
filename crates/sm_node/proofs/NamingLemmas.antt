-- Which volume of the world a path names.
use Rattle.std.proofs.Common.{◌≡◌, ℕ, suc, ◌+◌, ◌<◌, ◌≤◌, Bool, true, false, not, cond, nat_lt, List, [], ◌∷◌, length, get_or, position, refl, ap, ◌∙◌, arith, Some, None, Ok, Err}
use Rattle.std.specs.Prelude.{slice_get}
use Rattle.std.proofs.lemmas.Option.{get_or_from_slice_get}
use Rattle.std.specs.List.{prefix_len}
use Rattle.std.specs.Str.{bytes_eq}
use Rattle.sm_base.specs.declared.numbers.DiskNo.{DiskNo}
use Rattle.sm_base.specs.declared.refusal.Refusal.TheVariants as refusals
use Rattle.sm_defs.specs.Volume.{Volume, no_volume}
use Rattle.sm_model.specs.Answers.{some_or, volume_named}
use Rattle.sm_catroot.specs.declared.placed.Placed.{Placed}
use Rattle.sm_catroot.specs.Catalog.{Catalog}
use Rattle.sm_node.specs.Seats.{Seated}
use Rattle.sm_node.specs.Nodes.{Node, placed, all_placed, world_with}
use Rattle.sm_node.specs.Naming.{IsNamedAt}
use Rattle.sm_defs.proofs.Searches.{found_first, none_found, no_place, a_place}
use Rattle.sm_seats.proofs.Lists.{some_at}
use Rattle.sm_node.proofs.Worlds.{placed_there}

-- ---- the world's volumes stand where their places do

as_long : {D : Type 0} (ps : List Placed) (seats : List (Seated D)) → length ps ≤ length seats → length (all_placed ps seats) ≡ length ps
unfolding all_placed
as_long [] seats e = refl
as_long (p ∷ ps) [] e = absurd (omega arith)
as_long (p ∷ ps) (s ∷ seats) e = ap suc (as_long ps seats (omega arith))

as_far : {D : Type 0} (path : List ℕ) (ps : List Placed) (seats : List (Seated D)) → length ps ≤ length seats → prefix_len (λ (v : Volume). not (bytes_eq v.path path)) (all_placed ps seats) ≡ prefix_len (λ (p : Placed). not (bytes_eq p.path path)) ps
unfolding all_placed
as_far path [] seats e = refl
as_far path (p ∷ ps) [] e = absurd (omega arith)
as_far path (p ∷ ps) (s ∷ seats) e = ap (λ n. cond (not (bytes_eq p.path path)) (1 + n) 0) (as_far path ps seats (omega arith))

pub named_none : {D : Type 0} (k : Catalog) (seats : List (Seated D)) (lengths path : List ℕ) → length k.volumes ≤ length seats → position (λ (p : Placed). bytes_eq p.path path) k.volumes ≡ None →
    volume_named (world_with k seats lengths) path ≡ Err (refusals.NoVolume path)
unfolding some_or
named_none k seats lengths path e none =
    let b = prefix_len (λ (p : Placed). not (bytes_eq p.path path)) k.volumes in
    let far = no_place b (length k.volumes) (nat_lt b (length k.volumes)) refl none in
    rw (none_found (λ (v : Volume). bytes_eq v.path path) (all_placed k.volumes seats) (omega (arith, far, as_long k.volumes seats e, as_far path k.volumes seats e))) refl

pub place_within : (ps : List Placed) (path : List ℕ) (at : ℕ) → position (λ (p : Placed). bytes_eq p.path path) ps ≡ Some at → at < length ps
place_within ps path at e =
    let b = prefix_len (λ (p : Placed). not (bytes_eq p.path path)) ps in
    (a_place b (length ps) at (nat_lt b (length ps)) refl e).1

named_some : {D : Type 0} (k : Catalog) (seats : List (Seated D)) (lengths path : List ℕ) (at : ℕ) (p : Placed) (s : Seated D) → length k.volumes ≤ length seats → position (λ (p : Placed). bytes_eq p.path path) k.volumes ≡ Some at →
    slice_get k.volumes at ≡ Some p → slice_get seats at ≡ Some s → volume_named (world_with k seats lengths) path ≡ Ok (record { at = at; item = placed p s.volume })
unfolding some_or
named_some k seats lengths path at p s e found_at is_p is_s =
    let b = prefix_len (λ (p : Placed). not (bytes_eq p.path path)) k.volumes in
    let there = a_place b (length k.volumes) at (nat_lt b (length k.volumes)) refl found_at in
    let item : get_or (all_placed k.volumes seats) at no_volume ≡ placed p s.volume = get_or_from_slice_get (all_placed k.volumes seats) at (placed p s.volume) no_volume (placed_there k.volumes seats at p s is_p is_s) in
    rw (found_first (λ (v : Volume). bytes_eq v.path path) (all_placed k.volumes seats) at no_volume (as_far path k.volumes seats e ∙ there.0) (omega (arith, there.1, as_long k.volumes seats e)), item) refl

-- the volume that a path names, where it is found in the catalogue
pub named_at : {D : Type 0} (n : Node D) (path : List ℕ) (at : ℕ) (disk : DiskNo) → length n.root.held.volumes ≤ length n.seats → position (λ (p : Placed). bytes_eq p.path path) n.root.held.volumes ≡ Some at →
    (p : Placed) × (slice_get n.root.held.volumes at ≡ Some p) × (disk ≡ p.disk) → IsNamedAt n path (record { at = at; disk = disk })
named_at n path at disk few found_at p =
    let s = some_at n.seats at (let within = place_within n.root.held.volumes path at found_at in omega (arith, within, few)) in
    record {
      place = p.0;
      seat = s.0;
      is_place = p.1;
      is_seat = s.1;
      names = named_some n.root.held n.seats n.lengths path at p.0 s.0 few found_at p.1 s.1;
      lies = ap (λ (d : DiskNo). d.0) p.2;
    }
