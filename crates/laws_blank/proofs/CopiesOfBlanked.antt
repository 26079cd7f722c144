-- Copies of an identity, where blocks are read as zeros.
use Rattle.std.proofs.Common.{◌≡◌, ℕ, List, map, sym, ap, subst₂, ◌∙◌}
use mathlib.Core.List.{map-map}
use Rattle.sm_defs.specs.Image.{Image, tags, bytes_of, SameContents}
use Rattle.sm_defs.specs.Volume.{Volume, Snapshot}
use Rattle.sm_defs.specs.World.{Up}
use Rattle.sm_model.specs.CopiesAgree.{IsCopy, CopiesAgree}
use Rattle.sm_model.specs.FamiliesAgree.{FamiliesAgree}
use Rattle.sm_shape.specs.Blank.{zeros}
use Rattle.sm_shape.specs.Blanked.{zeroed, zeroed_snapshot, blanked}
use Rattle.laws_blank.proofs.Zeroed.{zeroed_tags}
use Rattle.laws_blank.proofs.Origins.{zeroed_block, stands_for}

-- zeros for each block's bytes
zero_bytes : (x : Image) → map bytes_of (zeroed x) ≡ map (λ (bs : List ℕ). zeros) (map bytes_of x)
zero_bytes x = map-map bytes_of zeroed_block x ∙ sym (map-map (λ (bs : List ℕ). zeros) bytes_of x)

same_zeroed : (x y : Image) → SameContents x y → SameContents (zeroed x) (zeroed y)
same_zeroed x y e = zero_bytes x ∙ (ap (map (λ (bs : List ℕ). zeros)) e ∙ sym (zero_bytes y))

copy_zeroed : (s t : Snapshot) → IsCopy s t → IsCopy (zeroed_snapshot s) (zeroed_snapshot t)
copy_zeroed s t c = record { ident = c.ident; name = c.name; label = c.label; time = c.time; maker = c.maker; contents = same_zeroed s.image t.image c.contents }

module _ (w : Up) where
  pub copies_blanked : CopiesAgree w → CopiesAgree (blanked w)
  copies_blanked agree = λ v u s t sv su same.
      let x = stands_for w v s sv in
      let y = stands_for w u t su in
      let ident : x.snapshot.ident ≡ y.snapshot.ident = sym (ap (λ (z : Snapshot). z.ident) x.is_snapshot) ∙ (same ∙ ap (λ (z : Snapshot). z.ident) y.is_snapshot) in
      subst₂ IsCopy (sym x.is_snapshot) (sym y.is_snapshot) (copy_zeroed x.snapshot y.snapshot (agree x.volume y.volume x.snapshot y.snapshot x.stands y.stands ident))

  pub families_blanked : FamiliesAgree w → FamiliesAgree (blanked w)
  families_blanked agree = λ v u s t sv su family same.
      let x = stands_for w v s sv in
      let y = stands_for w u t su in
      let ident : x.snapshot.ident ≡ y.snapshot.ident = sym (ap (λ (z : Snapshot). z.ident) x.is_snapshot) ∙ (same ∙ ap (λ (z : Snapshot). z.ident) y.is_snapshot) in
      let families : x.volume.family ≡ y.volume.family = sym (ap (λ (z : Volume). z.family) x.is_volume) ∙ (family ∙ ap (λ (z : Volume). z.family) y.is_volume) in
      let tags_x : tags s.image ≡ tags x.snapshot.image = ap (λ (z : Snapshot). tags z.image) x.is_snapshot ∙ zeroed_tags x.snapshot.image in
      let tags_y : tags t.image ≡ tags y.snapshot.image = ap (λ (z : Snapshot). tags z.image) y.is_snapshot ∙ zeroed_tags y.snapshot.image in
      tags_x ∙ (agree x.volume y.volume x.snapshot y.snapshot x.stands y.stands families ident ∙ sym tags_y)
