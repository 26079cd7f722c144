-- What was tested of the bare world is so of the world on each image of the disks.
use Rattle.std.proofs.Common.{◌≡◌, ℕ, ◌+◌, List, Result, Ok, Err, refl, sym, ap, subst, ◌∙◌, inl, inr}
use Rattle.std.specs.Prelude.{IfErr, OnOk}
use Rattle.sm_defs.specs.World.{Up}
use Rattle.sm_root.specs.declared.root.Root.{Root}
use Rattle.sm_catroot.specs.Catalog.{Catalog}
use Rattle.sm_model.specs.Crossed.{Crossed}
use Rattle.sm_model.specs.declared.world.OpenKind.TheVariants.{Cross, Shape}
use Rattle.sm_shape.specs.Blanked.{blanked}
use Rattle.sm_opening.specs.declared.fault.OpenFault.{OpenFault}
use Rattle.sm_opening.specs.Looked.{AnswersDamage, IsDamageOf, Fails, unopened}
use Rattle.sm_opening.specs.OnDisk.{Disks, Damage, damage, record_start, relation_start, IsShaped, IsWholeDamage, world_of}
use Rattle.sm_opening.specs.Unlanded.{unlanded}
use Rattle.sm_opening.specs.Judged.{IsWrong}
use Rattle.sm_opening.proofs.Unlanded.{crossed_back, first_back, interim_same, interim_back}

shaped_there : (w : Up) → IsShaped w → IsShaped (unlanded w)
shaped_there w s = subst IsShaped (sym (interim_same w s.interim)) s

shaped_back : (w : Up) → IsShaped (unlanded w) → IsShaped w
shaped_back w s = subst IsShaped (interim_same w (interim_back w s.interim)) s

-- ---- of one world

right_back : (w : Up) → Crossed (unlanded w) × IsShaped (unlanded w) → Crossed w × IsShaped w
right_back w right = (crossed_back w right.0, shaped_back w right.1)

wrong_back : (w : Up) (e : OpenFault) → IsWrong (unlanded w) e → IsWrong w e
wrong_back w e (inl (place, first, is)) = inl (place, first_back w place first, is)
wrong_back w e (inr (inl (crossed, misshapen, is))) = inr (inl (crossed_back w crossed, (λ s. misshapen (shaped_there w s)), is))
wrong_back w e (inr (inr is)) = inr (inr is)

module _ (d : Disks) (k : Catalog) (w : Up) where
  damage_of : (e : OpenFault) → IsWrong (blanked w) e → IsDamageOf (IsWholeDamage d k w) e
  damage_of e (inl (place, first, is)) = inl (damage 0 (record_start (d.images 0) + relation_start k place) Cross, inl (place, first, refl), is)
  damage_of e (inr (inl (crossed, misshapen, is))) = inl (damage 0 0 Shape, inr (crossed, misshapen, refl), is)
  damage_of e (inr (inr is)) = inr (subst Fails (sym is) tt)

  not_right : (f : Damage) → IsWholeDamage d k w f → Crossed (blanked w) × IsShaped (blanked w) → ⊥
  not_right f (inl (place, first, is)) right = first.not_crossed right.0
  not_right f (inr (crossed, misshapen, is)) right = misshapen right.1

  answers : (f : Damage) (e : OpenFault) → IsWholeDamage d k w f → IsWrong (blanked w) e → AnswersDamage {A = Unit {0}} f (Err e)
  answers f e damaged (inr (inr is)) = inr (subst Fails (sym is) tt)
  answers f e (inl (place, first, named)) (inl (other, again, is)) = inl (is ∙ ap unopened (sym named))
  answers f e (inl (place, first, named)) (inr (inl (crossed, misshapen, is))) = absurd (first.not_crossed crossed)
  answers f e (inr (crossed, misshapen, named)) (inl (other, again, is)) = absurd (again.not_crossed crossed)
  answers f e (inr (crossed, misshapen, named)) (inr (inl (also, too, is))) = inl (is ∙ ap unopened (sym named))

-- ---- of the worlds on each image

module _ (sizes : List ℕ) (k : Catalog) (roots : List Root) (bare : Up) (same : (d : Disks) → d.sizes ≡ sizes → bare ≡ unlanded (blanked (world_of d k roots))) where
  abbrev seen : Disks → Up
  seen d = blanked (world_of d k roots)

  right_seen : (d : Disks) → d.sizes ≡ sizes → Crossed bare × IsShaped bare → Crossed (seen d) × IsShaped (seen d)
  right_seen d e right = right_back (seen d) (subst (λ (w : Up). Crossed w × IsShaped w) (same d e) right)

  wrong_seen : (d : Disks) → d.sizes ≡ sizes → (fault : OpenFault) → IsWrong bare fault → IsWrong (seen d) fault
  wrong_seen d e fault wrong = wrong_back (seen d) fault (subst (λ (w : Up). IsWrong w fault) (same d e) wrong)

  pub all_right : (result : Result (Unit {0}) OpenFault) → OnOk result (Crossed bare × IsShaped bare) → OnOk result ((d : Disks) → d.sizes ≡ sizes → Crossed (seen d) × IsShaped (seen d))
  all_right (Ok x) right = λ d e. right_seen d e right
  all_right (Err fault) right = tt

  pub all_wrong : (result : Result (Unit {0}) OpenFault) → IfErr result (IsWrong bare)
      → IfErr result (λ fault. (d : Disks) → d.sizes ≡ sizes → IsDamageOf (IsWholeDamage d k (world_of d k roots)) fault)
  all_wrong (Ok x) wrong = tt
  all_wrong (Err fault) wrong = λ d e. damage_of d k (world_of d k roots) fault (wrong_seen d e fault wrong)

  pub all_exact : (result : Result (Unit {0}) OpenFault) → OnOk result (Crossed bare × IsShaped bare) → IfErr result (IsWrong bare)
      → (d : Disks) → d.sizes ≡ sizes → (f : Damage) → IsWholeDamage d k (world_of d k roots) f → AnswersDamage f result
  all_exact (Ok x) right wrong d e f damaged = not_right d k (world_of d k roots) f damaged (right_seen d e right)
  all_exact (Err fault) right wrong d e f damaged = answers d k (world_of d k roots) f fault damaged (wrong_seen d e fault wrong)
