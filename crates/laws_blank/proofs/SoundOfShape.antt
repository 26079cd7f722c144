-- A world of zeros that has the shape of one that is read, and whose relationships fit, is sound.
use Rattle.std.proofs.Common.{◌≡◌, ℕ, List, [], ◌∷◌, length, refl, sym, ap, subst₂, arith}
use Rattle.sm_defs.specs.Image.{Image, bytes_of, SameContents}
use Rattle.sm_defs.specs.Volume.{Snapshot}
use Rattle.sm_defs.specs.World.{Up}
use Rattle.sm_model.specs.CopiesAgree.{CopiesAgree}
use Rattle.sm_model.specs.Crossed.{Crossed}
use Rattle.sm_model.specs.Sound.{SoundUp}
use Rattle.sm_shape.specs.Blank.{zeros}
use Rattle.sm_shape.specs.Blanked.{zeroed, blanked}
use Rattle.sm_shape.specs.Shape.{CopiesNamed, ShapeUp}
use Rattle.laws_blank.proofs.Origins.{stands_for}

-- as many blocks of zeros have the same contents
as_long : (x y : Image) → length (zeroed x) ≡ length (zeroed y) → SameContents (zeroed x) (zeroed y)
as_long [] [] e = refl
as_long [] (b ∷ y) e = absurd (cc)
as_long (a ∷ x) [] e = absurd (cc)
as_long (a ∷ x) (b ∷ y) e = ap (λ (bss : List (List ℕ)). zeros ∷ bss) (as_long x y (omega (arith, e)))

copies_agree : (w : Up) → CopiesNamed (blanked w) → CopiesAgree (blanked w)
copies_agree w named = λ v u s t sv su same.
    let x = stands_for w v s sv in
    let y = stands_for w u t su in
    let copy = named v u s t sv su same in
    record {
      ident = same;
      name = copy.name;
      label = copy.label;
      time = copy.time;
      maker = copy.maker;
      contents = subst₂ (λ (a b : Snapshot). length a.image ≡ length b.image → SameContents a.image b.image) (sym x.is_snapshot) (sym y.is_snapshot)
          (as_long x.snapshot.image y.snapshot.image) copy.long;
    }

pub sound_of_shape : (w : Up) → ShapeUp (blanked w) → Crossed (blanked w) → SoundUp (blanked w)
sound_of_shape w shape crossed =
    let state = shape.but_legs.state in
    let relations = shape.but_legs.relations in
    record {
      formed = state.formed;
      tags_fit = state.tags_fit;
      copies_agree = copies_agree w state.copies_named;
      families_agree = state.families_agree;
      crossed = crossed;
      destinations_stand = relations.destinations_stand;
      legs_fit = shape.legs_fit;
      numbers_stand = state.numbers_stand;
      families_stand = relations.families_stand;
      legs_kept = relations.legs_kept;
      transfers_stand = relations.transfers_stand;
    }
