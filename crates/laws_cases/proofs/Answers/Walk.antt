-- How to go through an answer, refusal by refusal.
use Rattle.std.proofs.Common.{◌≡◌, ℕ, List, Bool, true, false, Option, Some, None, Result, Ok, Err, refl, subst}
use Rattle.sm_defs.specs.May.{refused}
use Rattle.sm_base.specs.declared.refusal.Refusal.{Refusal}
use Rattle.sm_model.specs.Answers.{Answer, Reached, Target, target_named, goes_to, and_then, refused_if, allowed, ◌>>=◌, ◌>>◌, ◌when◌, whether◌then◌otherwise◌, some_or}
use Rattle.sm_base.specs.declared.refusal.Refusal.TheVariants as refusals
use Rattle.std.specs.Str.{bytes_eq}
use Rattle.sm_base.specs.declared.refusal.Reason.{Reason}
use Rattle.sm_defs.specs.Words.{Found, found}
use Rattle.sm_defs.specs.Volume.{Volume}
use Rattle.sm_defs.specs.Relationship.{Relationship}
use Rattle.sm_defs.specs.World.{Up}
use Rattle.sm_model.specs.Running.{Running}
use Rattle.sm_model.specs.Steps.{Effect, interrupts}
use Rattle.sm_model.specs.Due.{unless}

-- P of what is answered where nothing is refused
unfoldable pub OfOk : {A : Type 0} → (A → Type 0) → Result A Refusal → Type 0
OfOk P (Ok x) = P x
OfOk P (Err r) = Unit {0}

-- past a test
pub past : {A : Type 0} (P : A → Type 0) (r : Refusal) (b : Bool) (m : Result A Refusal) → (b ≡ false → OfOk P m) → OfOk P ((r when b) >> m)
unfolding OfOk and_then refused_if
past P r true m h = tt
past P r false m h = h refl

-- past a test of a command, with others behind it
pub passing : {A : Type 0} (P : A → Type 0) (r : Refusal) (b : Bool) (o : Option Refusal) (m : Result A Refusal) → (b ≡ false → OfOk P (allowed o >> m)) → OfOk P (allowed (refused r b o) >> m)
unfolding OfOk and_then allowed refused
passing P r true o m h = tt
passing P r false o m h = h refl

-- past the last test of a command
pub passed : {A : Type 0} (P : A → Type 0) (r : Refusal) (b : Bool) (m : Result A Refusal) → (b ≡ false → OfOk P m) → OfOk P (allowed (refused r b None) >> m)
unfolding OfOk and_then allowed refused
passed P r true m h = tt
passed P r false m h = h refl

-- with what was found
pub with_found : {A B : Type 0} (P : B → Type 0) (r : Refusal) (o : Option A) (f : A → Result B Refusal) → ((x : A) → o ≡ Some x → OfOk P (f x)) → OfOk P (some_or r o >>= f)
unfolding OfOk and_then some_or
with_found P r None f h = tt
with_found P r (Some x) f h = h x refl

-- with what an earlier part gives
pub with_ok : {A B : Type 0} (P : B → Type 0) (m : Result A Refusal) (f : A → Result B Refusal) → ((x : A) → m ≡ Ok x → OfOk P (f x)) → OfOk P (m >>= f)
unfolding OfOk and_then
with_ok P (Err r) f h = tt
with_ok P (Ok x) f h = h x refl

pub with_held : {A : Type 0} (P : A → Type 0) (m : Result (Unit {0}) Refusal) (n : Result A Refusal) → (m ≡ Ok tt → OfOk P n) → OfOk P (m >> n)
unfolding OfOk and_then
with_held P (Err r) n h = tt
with_held P (Ok tt) n h = h refl

-- no more refusals
pub now : {A : Type 0} (P : A → Type 0) (x : A) → P x → OfOk P (Ok x)
unfolding OfOk
now P x h = h

same_ok : {A : Type 0} (y x : A) → ◌≡◌ {A = Result A Refusal} (Ok y) (Ok x) → y ≡ x
same_ok y x e = cc

pub from_ok : {A : Type 0} (P : A → Type 0) (m : Result A Refusal) (x : A) → OfOk P m → m ≡ Ok x → P x
unfolding OfOk
from_ok P (Ok y) x h e = subst P (same_ok y x e) h
from_ok P (Err r) x h e = absurd (cc)

pub whether_so : (P : Reached → Type 0) (b : Bool) (m n : Answer) → (b ≡ true → OfOk P m) → (b ≡ false → OfOk P n) → OfOk P (whether b then m otherwise n)
unfolding OfOk whether◌then◌otherwise◌
whether_so P true m n h k = h refl
whether_so P false m n h k = k refl

pub not_done : {A : Type 0} (P : A → Type 0) (r : Refusal) → OfOk P (Err r)
unfolding OfOk
not_done P r = tt

-- with a volume and the relationship to it
target_go : (P : Reached → Type 0) (w : Up) (path : List ℕ) (f : Target → Answer) (q : Found Volume) (o : Option (Found Relationship)) → found (λ v. bytes_eq v.path path) w.volumes ≡ Some q → found (goes_to q.at) w.relations ≡ o →
    ((t : Target) → found (λ v. bytes_eq v.path path) w.volumes ≡ Some t.destination → found (goes_to t.destination.at) w.relations ≡ Some t.relation → OfOk P (f t)) →
    OfOk P ((some_or (refusals.NoRelation path) o >>= (λ r. Ok (record { destination = q; relation = r }))) >>= f)
unfolding OfOk and_then some_or
target_go P w path f q None d e h = tt
target_go P w path f q (Some r) d e h = h (record { destination = q; relation = r }) d e

target_from : (P : Reached → Type 0) (w : Up) (path : List ℕ) (f : Target → Answer) (o : Option (Found Volume)) → found (λ v. bytes_eq v.path path) w.volumes ≡ o →
    ((t : Target) → found (λ v. bytes_eq v.path path) w.volumes ≡ Some t.destination → found (goes_to t.destination.at) w.relations ≡ Some t.relation → OfOk P (f t)) →
    OfOk P ((some_or (refusals.NoVolume path) o >>= (λ q. some_or (refusals.NoRelation path) (found (goes_to q.at) w.relations) >>= (λ r. Ok (record { destination = q; relation = r })))) >>= f)
unfolding OfOk and_then some_or
target_from P w path f None d h = tt
target_from P w path f (Some q) d h = target_go P w path f q (found (goes_to q.at) w.relations) d refl h

pub with_target : (P : Reached → Type 0) (w : Up) (path : List ℕ) (f : Target → Answer) →
    ((t : Target) → found (λ v. bytes_eq v.path path) w.volumes ≡ Some t.destination → found (goes_to t.destination.at) w.relations ≡ Some t.relation → OfOk P (f t)) → OfOk P (target_named w path >>= f)
unfolding target_named
with_target P w path f h = target_from P w path f (found (λ v. bytes_eq v.path path) w.volumes) refl h

-- a step that goes on, or is interrupted
pub going : (P : Effect → Type 0) (w : Up) (k : ℕ) (x : Running) (o : Option Reason) (e : Effect) → ((reason : Reason) → P (interrupts w k x reason)) → (o ≡ None → P e) → P (unless w k x o e)
unfolding unless
going P w k x None e h g = g refl
going P w k x (Some reason) e h g = h reason
