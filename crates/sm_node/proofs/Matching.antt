-- What the definitions answer is what the volume's call answers.
use Rattle.std.proofs.Common.{◌≡◌, ℕ, ◌≤◌, Bool, true, false, not, if◌then◌else◌, List, refl, ap, ◌∙◌, arith}
use Rattle.std.specs.Prelude.{Some, None, Ok, Err, nat_le, min, ◌==◌}
use Rattle.std.proofs.lemmas.Bool.Decides.{nat_tests}
use Rattle.sm_base.specs.declared.refusal.Refusal.{Refusal}
use Rattle.sm_base.specs.declared.refusal.Refusal.TheVariants as refusals
use Rattle.sm_model.specs.declared.reply.Reply.TheVariants as replies
use Rattle.sm_defs.specs.Operations.{settled}
use Rattle.sm_defs.specs.Volume.{Volume, is_rw, used}
use Rattle.sm_defs.specs.World.{Up, with_volume}
use Rattle.sm_model.specs.Answers.{Answer, and_then, refused_if, volume_named, told}
use Rattle.sm_model.specs.OfVolumes as answers
use Rattle.volume_store.specs.declared.faults.VolumeFault.TheVariants as faults
use Rattle.sm_volume.specs.Mounted.{Mounted}
use Rattle.sm_volume.specs.Refusals.{cp_refusal, write_refusal}
use Rattle.sm_catroot.specs.declared.placed.Placed.{Placed}
use Rattle.sm_node.specs.Nodes.{placed}
use Rattle.sm_node.specs.Moves.{refusal_of, at_place, Matches}

cp_by : (b : Bool) (w : Up) (at : ℕ) (p : Placed) (next : Volume) →
    Matches w at p (and_then (refused_if (not b) refusals.ReadOnly) (λ _. Ok (record { reply = told replies.Done; world = with_volume w at (at_place p next) }))) (if b then None else Some faults.ReadOnly) replies.Done next
unfolding and_then refused_if
cp_by true w at p next = record { refuses = λ f e. absurd (cc); does = λ e. refl }
cp_by false w at p next = record {
  refuses = λ f e. (refusals.ReadOnly, refl, ap refusal_of (let same : f ≡ faults.ReadOnly = cc in same));
  does = λ e. absurd (cc);
}

pub cp_matches : {D : Type 0} (w : Up) (path : List ℕ) (at : ℕ) (p : Placed) (m : Mounted D) → volume_named w path ≡ Ok (record { at = at; item = placed p m }) →
    Matches w at p (answers.cp w path) (cp_refusal m.volume) replies.Done (settled m.volume)
unfolding and_then
cp_matches w path at p m named = rw named (cp_by (is_rw m.volume.kind) w at p (settled m.volume))

pub cp_none : (w : Up) (path : List ℕ) (g : Refusal) → volume_named w path ≡ Err g → answers.cp w path ≡ Err g
unfolding and_then
cp_none w path g e = rw e refl

write_by : (a b c : Bool) (w : Up) (at : ℕ) (p : Placed) (next : Volume) →
    Matches w at p (and_then (refused_if (not a) refusals.ReadOnly) (λ _. and_then (refused_if b refusals.BadBlock) (λ _. and_then (refused_if c refusals.NoSpace) (λ _. Ok (record { reply = told replies.Done; world = with_volume w at (at_place p next) })))))
    (if a then (if b then Some faults.BadBlock else if c then Some faults.NoSpace else None) else Some faults.ReadOnly) replies.Done next
unfolding and_then refused_if
write_by false b c w at p next = record {
  refuses = λ f e. (refusals.ReadOnly, refl, ap refusal_of (let same : f ≡ faults.ReadOnly = cc in same));
  does = λ e. absurd (cc);
}
write_by true true c w at p next = record {
  refuses = λ f e. (refusals.BadBlock, refl, ap refusal_of (let same : f ≡ faults.BadBlock = cc in same));
  does = λ e. absurd (cc);
}
write_by true false true w at p next = record {
  refuses = λ f e. (refusals.NoSpace, refl, ap refusal_of (let same : f ≡ faults.NoSpace = cc in same));
  does = λ e. absurd (cc);
}
write_by true false false w at p next = record { refuses = λ f e. absurd (cc); does = λ e. refl }

pub write_matches : {D : Type 0} (w : Up) (path : List ℕ) (block fill at : ℕ) (p : Placed) (m : Mounted D) → volume_named w path ≡ Ok (record { at = at; item = placed p m }) →
    Matches w at p (answers.write w path block fill) (write_refusal m.volume block) replies.Done (answers.written m.volume block fill)
unfolding and_then
write_matches w path block fill at p m named =
    rw named (write_by (is_rw m.volume.kind) (nat_le m.volume.logical block) (used m.volume == m.volume.physical) w at p (answers.written m.volume block fill))

pub write_none : (w : Up) (path : List ℕ) (block fill : ℕ) (g : Refusal) → volume_named w path ≡ Err g → answers.write w path block fill ≡ Err g
unfolding and_then
write_none w path block fill g e = rw e refl

-- ---- a block that passes the greatest number of one

past_by : (a b c : Bool) (x y : Answer) → b ≡ true → c ≡ true → and_then (refused_if a refusals.ReadOnly) (λ _. and_then (refused_if b refusals.BadBlock) (λ _. x)) ≡ and_then (refused_if a refusals.ReadOnly) (λ _. and_then (refused_if c refusals.BadBlock) (λ _. y))
unfolding and_then refused_if
past_by true b c x y e f = refl
past_by false true true x y e f = refl
past_by false false c x y e f = absurd (cc)
past_by false true false x y e f = absurd (cc)

write_past : {D : Type 0} (w : Up) (path : List ℕ) (block most fill at : ℕ) (p : Placed) (m : Mounted D) → volume_named w path ≡ Ok (record { at = at; item = placed p m }) → m.volume.logical ≤ most → most ≤ block →
    answers.write w path most fill ≡ answers.write w path block fill
unfolding and_then
write_past w path block most fill at p m named few past =
    rw named (past_by (not (is_rw m.volume.kind)) (nat_le m.volume.logical most) (nat_le m.volume.logical block) _ _ (grind (arith, nat_tests)) (let less : m.volume.logical ≤ block = omega (arith, few, past) in grind (arith, nat_tests)))

least_by : (b : Bool) (block most : ℕ) (a : ℕ → Answer) → nat_le block most ≡ b → (most ≤ block → a most ≡ a block) → a (min block most) ≡ a block
least_by true block most a e past = ap a (let le : block ≤ most = grind (arith, nat_tests) in let is : min block most ≡ block = omega arith in is)
least_by false block most a e past = let le : most ≤ block = grind (arith, nat_tests) in ap a (let is : min block most ≡ most = omega arith in is) ∙ past le

-- a volume has no such block, and whether clients may write it is asked first
pub write_saturated : {D : Type 0} (w : Up) (path : List ℕ) (block most fill at : ℕ) (p : Placed) (m : Mounted D) → volume_named w path ≡ Ok (record { at = at; item = placed p m }) → m.volume.logical ≤ most →
    answers.write w path (min block most) fill ≡ answers.write w path block fill
write_saturated w path block most fill at p m named few =
    least_by (nat_le block most) block most (λ k. answers.write w path k fill) refl (λ past. write_past w path block most fill at p m named few past)
