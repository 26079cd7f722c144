-- An event that reads and leaves the world is an event that acts.
use Rattle.std.proofs.Common.{◌≡◌, ℕ, Bool, true, false, List, refl, sym, ap, ◌∙◌, subst, Option, Some, None, Ok, Err, Result, arith}
use Rattle.std.specs.Str.{bytes_eq}
use Rattle.std.proofs.lemmas.List.{length-map}
use Rattle.sm_base.specs.declared.refusal.Refusal.{Refusal}
use Rattle.sm_base.specs.declared.refusal.Refusal.TheVariants as refusals
use Rattle.sm_defs.specs.Image.{Image}
use Rattle.sm_defs.specs.Operations.{is_past}
use Rattle.sm_defs.specs.Volume.{Volume, Snapshot}
use Rattle.sm_defs.specs.Words.{Found, found, last_that}
use Rattle.sm_defs.specs.World.{Up}
use Rattle.sm_disk.specs.Disk.{DiskState}
use Rattle.sm_model.specs.declared.reply.Reply.{Reply}
use Rattle.sm_model.specs.Answers.{Answer, and_then, refused_if, some_or, shows, ◌>>◌, ◌when◌}
use Rattle.sm_model.specs.OfVolumes as answers
use Rattle.sm_model.specs.Sound.{SoundUp}
use Rattle.sm_shape.specs.Blanked.{blanked, zeroed_volume}
use Rattle.sm_node.specs.declared.fault.NodeFault.{NodeFault}
use Rattle.sm_node.specs.Nodes.{Node, world_of}
use Rattle.sm_node.specs.Parts.{StandsUp}
use Rattle.sm_node.specs.Acts.{Acts, reached_of, GoesThrough}
use Rattle.sm_node.specs.Served.{IsCopied, first_of}
use Rattle.sm_node.specs.Looking.{Looks}
use Rattle.sm_node.specs.Reporting.{LiesWithin, RelationsLieWithin}
use Rattle.sm_node.proofs.CatalogCalls.{starved}

pub looks_acts : {D : Type 0} (state : D → DiskState) (a : Answer) (old new : Node D) (R : Result Reply NodeFault) → reached_of (world_of old) a ≡ world_of old → Looks state a old R new → Acts state a old R new
looks_acts state a old new (Ok reply) stays looks = record {
  up = looks.up;
  answered = λ told. (looks.answered told, looks.same ∙ sym stays);
  without_bytes = (looks.but_bytes, ap blanked (looks.same ∙ sym stays));
  failed = looks.failed;
  unchanged = looks.unchanged;
  blocks = looks.blocks;
  whole = GoesThrough.stays looks.whole.0 looks.whole.1;
}
looks_acts state a old new (Err fault) stays looks = record {
  up = tt;
  answered = tt;
  without_bytes = tt;
  failed = looks.failed;
  unchanged = looks.unchanged;
  blocks = looks.blocks;
  whole = GoesThrough.stays looks.whole.0 looks.whole.1;
}

-- no device was called, and the reply was copied
pub copied_acts : {D : Type 0} (state : D → DiskState) (n : Node D) → StandsUp state n → (a : Answer) (made : Result Reply NodeFault) (both : Result (Reply × Reply) NodeFault)
    → IsCopied made both → Acts state a n made n → Acts state a n (first_of both) n
copied_acts state n h a (Ok reply) (Ok pair) same acts = subst (λ (r : Reply). Acts state a n (Ok r) n) (sym same) acts
copied_acts state n h a (Ok reply) (Err fault) starves acts = subst (λ (f : NodeFault). Acts state a n (Err f) n) (sym starves) (starved state n h a)
copied_acts state n h a (Err fault) both same acts = subst (λ (r : Result (Reply × Reply) NodeFault). Acts state a n (first_of r) n) (sym same) acts

-- ---- a read

unless_past : (w : Up) (b : Bool) (g : Refusal) (a : Answer) → reached_of w a ≡ w → reached_of w (and_then (refused_if b g) (λ _. a)) ≡ w
unfolding and_then refused_if
unless_past w true g a stays = refl
unless_past w false g a stays = stays

at_image : (w : Up) (r : Result Image Refusal) (f : Image → Answer) → ((image : Image) → reached_of w (f image) ≡ w) → reached_of w (and_then r f) ≡ w
unfolding and_then
at_image w (Ok image) f stays = stays image
at_image w (Err g) f stays = refl

at_volume : (w : Up) (r : Result (Found Volume) Refusal) (f : Found Volume → Answer) → ((v : Found Volume) → reached_of w (f v) ≡ w) → reached_of w (and_then r f) ≡ w
unfolding and_then
at_volume w (Ok v) f stays = stays v
at_volume w (Err g) f stays = refl

pub read_stays : (w : Up) (path : List ℕ) (name : Option (List ℕ)) (place : ℕ) → reached_of w (answers.read w path name place) ≡ w
read_stays w path name place =
    at_volume w (some_or (refusals.NoVolume path) (found (λ (v : Volume). bytes_eq v.path path) w.volumes)) _
    (λ v. at_image w (answers.image_named v.item name) _
    (λ image. unless_past w (is_past v.item place) refusals.BadBlock (shows (answers.block_at image place).bytes w) refl))

-- ---- what a sound world has

pub lies_within : (w : Up) → SoundUp (blanked w) → RelationsLieWithin w
lies_within w sound = λ r a.
    let crossed = sound.crossed.relations r a in
    let long = length-map w.volumes zeroed_volume in
    record {
      source = omega (arith, crossed.source, long);
      destination = omega (arith, crossed.destination, long);
      policy = crossed.policy;
    }
