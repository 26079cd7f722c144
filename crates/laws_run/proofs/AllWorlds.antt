-- Each world of a run from a sound start.
use Rattle.std.proofs.Common.{◌≡◌, ◌⊎◌, Bool, true, false, List, [], ◌∷◌, ◌++◌, refl, inl, inr}
use Rattle.sm_base.specs.declared.numbers.Ident.{Ident}
use Rattle.sm_base.specs.declared.numbers.Side.{Side}
use Rattle.sm_defs.specs.Volume.{has}
use Rattle.sm_defs.specs.Relationship.{Relationship, Transfer}
use Rattle.sm_defs.specs.World.{Up, volume_at}
use Rattle.sm_model.specs.declared.reply.Entry.{Entry}
use Rattle.sm_model.specs.World.{World, up, down, Deed}
use Rattle.sm_model.specs.Crossed.{IsReservedLeg}
use Rattle.sm_model.specs.LegalRun.{Run}
use Rattle.sm_model.specs.Sound.{SoundUp, Sound}
use Rattle.laws_sound.proofs.Soundly.{entries_keep_sound}
use Rattle.laws_run.specs.Worlds.{AllWorlds, OfBoth, LegStands, BasesAndLegsStand}

pub worlds_are_sound : (before : List Deed) (old new : World) (es : List Entry) (sides : List Side) (deeds : List Deed) (r : Run old es sides deeds new) → Sound old →
    AllWorlds (λ before w. Sound w) before old es sides deeds new r
worlds_are_sound before old new [] sides deeds r s = s
worlds_are_sound before old new (e ∷ es) sides deeds (first, later, left, mid, asked, f, r, q) s =
    (s, worlds_are_sound (before ++ first) mid new es left later r (entries_keep_sound old mid e sides left first s asked f))

-- what follows of each world
pub worlds_so : {P Q : List Deed → World → Type 0} → ((before : List Deed) (w : World) → P before w → Q before w) →
    (before : List Deed) (old new : World) (es : List Entry) (sides : List Side) (deeds : List Deed) (r : Run old es sides deeds new) →
    AllWorlds P before old es sides deeds new r → AllWorlds Q before old es sides deeds new r
worlds_so h before old new [] sides deeds r a = h before old a
worlds_so h before old new (e ∷ es) sides deeds (first, later, left, mid, asked, f, r, q) (a, b) = (h before old a, worlds_so h (before ++ first) mid new es left later r b)

-- ---- bases and legs

leg_stands : (w : Up) (r : Relationship) (t : Transfer) (i : Ident) (b : Bool) → has (volume_at w r.source).snapshots i ≡ b → (has (volume_at w r.source).snapshots i ≡ true) ⊎ IsReservedLeg r t i → LegStands w r t i
leg_stands w r t i true e h = inl e
leg_stands w r t i false e (inl h) = inl h
leg_stands w r t i false e (inr h) = inr (h, e)

pub bases_stand : (w : Up) → SoundUp w → BasesAndLegsStand w
bases_stand w s = record {
  bases = λ r m. let c = s.crossed.relations r m in record { at_source = c.base_at_source; at_destination = c.base_at_destination };
  legs = λ r t m e i n. leg_stands w r t i (has (volume_at w r.source).snapshots i) refl ((s.crossed.transfers r t m e).legs_at_source i n);
}

of_both : {P : Up → Type 0} → ((w : Up) → SoundUp w → P w) → (w : World) → Sound w → OfBoth P w
of_both h (up w) s = h w s
of_both h (down disk d) s = (h d.old s.0, h d.new s.1)

pub worlds_have_bases : (old new : World) (es : List Entry) (sides : List Side) (deeds : List Deed) (r : Run old es sides deeds new) → Sound old →
    AllWorlds (λ before w. OfBoth BasesAndLegsStand w) [] old es sides deeds new r
worlds_have_bases old new es sides deeds r s =
    worlds_so {P = λ before w. Sound w} {Q = λ before w. OfBoth BasesAndLegsStand w} (λ before w. of_both {P = BasesAndLegsStand} bases_stand w) [] old new es sides deeds r (worlds_are_sound [] old new es sides deeds r s)
