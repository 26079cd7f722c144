-- One step of an answer after another, where what a step finds was changed.
use Rattle.std.proofs.Common.{◌≡◌, Bool, true, false, Option, Some, None, option_map, Result, Ok, Err, refl, ap, ap₂, ◌∙◌}
use Rattle.std.specs.Result.{result_map_both}
use Rattle.sm_base.specs.declared.refusal.Refusal.{Refusal}
use Rattle.sm_defs.specs.World.{Up}
use Rattle.sm_model.specs.Answers.{Answer, Told, and_then, refused_if, some_or, whether◌then◌otherwise◌}
use Rattle.sm_shape.specs.Blanked.{blanked}
use Rattle.laws_blank.specs.Blanking.{blanked_reached, blanked_answer}

-- what was found is changed, a refusal is not
abbrev pub changed : {A B : Type 0} → (A → B) → Result A Refusal → Result B Refusal
changed h a = result_map_both h (λ (refusal : Refusal). refusal) a

pub some_changed : {A B : Type 0} (h : A → B) (r : Refusal) (o : Option A) → some_or r (option_map h o) ≡ changed h (some_or r o)
unfolding some_or
some_changed h r None = refl
some_changed h r (Some x) = refl

module _ {B C : Type 0} (k : B → C) where
  -- a step finds what is changed
  pub finds : {A D : Type 0} (h : A → D) (a : Result A Refusal) (b : Result D Refusal) (f : A → Result B Refusal) (g : D → Result C Refusal) → b ≡ changed h a → ((x : A) → g (h x) ≡ changed k (f x)) → and_then b g ≡ changed k (and_then a f)
  unfolding and_then
  finds h (Ok x) b f g e s = ap (λ c. and_then c g) e ∙ s x
  finds h (Err r) b f g e s = ap (λ c. and_then c g) e

  -- a step finds the same
  pub passes : {A : Type 0} (a b : Result A Refusal) (f : A → Result B Refusal) (g : A → Result C Refusal) → b ≡ a → ((x : A) → g x ≡ changed k (f x)) → and_then b g ≡ changed k (and_then a f)
  unfolding and_then
  passes (Ok x) b f g e s = ap (λ c. and_then c g) e ∙ s x
  passes (Err r) b f g e s = ap (λ c. and_then c g) e

-- a test holds of the same
pub tested : (r : Refusal) (b c : Bool) (x y : Answer) → c ≡ b → y ≡ blanked_answer x → and_then (refused_if c r) (λ _. y) ≡ blanked_answer (and_then (refused_if b r) (λ _. x))
tested r b c x y e s = passes blanked_reached (refused_if b r) (refused_if c r) (λ _. x) (λ _. y) (ap (λ d. refused_if d r) e) (λ _. s)

pub either : (b : Bool) (x y u v : Answer) → u ≡ blanked_answer x → v ≡ blanked_answer y → (whether b then u otherwise v) ≡ blanked_answer (whether b then x otherwise y)
unfolding whether◌then◌otherwise◌
either true x y u v e f = e
either false x y u v e f = f

abbrev pub reaches : Told → Up → Answer
reaches t w = Ok (record { reply = t; world = w })

pub ends : (t s : Told) (w v : Up) → s ≡ t → v ≡ blanked w → reaches s v ≡ blanked_answer (reaches t w)
ends t s w v e f = ap₂ reaches e f
