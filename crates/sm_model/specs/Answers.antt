-- What an answer is: a reply with the next world, or a refusal.
use Rattle.std.specs.Prelude.{◌≡◌, ℕ, ◌==◌, ◌&&◌, Bool, true, false, List, Option, Some, None, Result, Ok, Err, Box}
use Rattle.std.specs.Global.{Global}
use Rattle.std.specs.Str.{bytes_eq}
use Rattle.sm_base.specs.declared.numbers.Block.{Block as StoredBlock}
use Rattle.sm_base.specs.declared.numbers.VolNo.{VolNo}
use Rattle.sm_base.specs.declared.numbers.RelNo.{RelNo}
use Rattle.sm_base.specs.declared.refusal.Refusal.{Refusal}
use Rattle.sm_base.specs.declared.refusal.Refusal.TheVariants as refusals
use Rattle.sm_model.specs.declared.reply.Reply.{Reply}
use Rattle.sm_model.specs.declared.reply.Reply.TheVariants as replies
use Rattle.sm_defs.specs.Words.{Found, found}
use Rattle.sm_defs.specs.Volume.{Volume}
use Rattle.sm_defs.specs.Relationship.{Relationship, Policy}
use Rattle.sm_defs.specs.World.{Up}

-- what a reply tells: itself, or the bytes of a block in some box
pub data Told : Type 0 where
  told : Reply → Told
  bytes : List ℕ → Told

abbrev pub Tells : Told → Reply → Type 0
Tells (told r) reply = reply ≡ r
Tells (bytes bs) reply = (block : Box StoredBlock Global) × (reply ≡ replies.Bytes block) × (block.value.0 ≡ bs)

pub record Reached : Type 0 where
  pub reply : Told
  pub world : Up

-- A refusal has no world: it changes nothing.
abbrev pub Answer : Type 0
Answer = Result Reached Refusal

-- one after another, up to the first refusal
unfoldable pub and_then : {A B : Type 0} → Result A Refusal → (A → Result B Refusal) → Result B Refusal
and_then (Ok x) f = f x
and_then (Err r) f = Err r

unfoldable pub refused_if : Bool → Refusal → Result (Unit {0}) Refusal
refused_if true r = Err r
refused_if false r = Ok tt

infixl 2 ◌>>=◌
abbrev pub ◌>>=◌ : {A B : Type 0} → Result A Refusal → (A → Result B Refusal) → Result B Refusal
a >>= f = and_then a f

infixl 2 ◌>>◌
abbrev pub ◌>>◌ : {A B : Type 0} → Result A Refusal → Result B Refusal → Result B Refusal
a >> b = and_then a (λ _. b)

infix 3 ◌when◌
abbrev pub ◌when◌ : Refusal → Bool → Result (Unit {0}) Refusal
r when b = refused_if b r

-- the first refusal of a command's tests, if there is one
unfoldable pub allowed : Option Refusal → Result (Unit {0}) Refusal
allowed None = Ok tt
allowed (Some r) = Err r

unfoldable pub some_or : {A : Type 0} → Refusal → Option A → Result A Refusal
some_or r None = Err r
some_or r (Some x) = Ok x

-- one answer or the other
infix 2 whether◌then◌otherwise◌
unfoldable pub whether◌then◌otherwise◌ : Bool → Answer → Answer → Answer
whether true then a otherwise b = a
whether false then a otherwise b = b

-- the reply, with this world
infix 3 ◌and◌
abbrev pub ◌and◌ : Reply → Up → Answer
r and w = Ok (record { reply = told r; world = w })

-- a block of these bytes, with this world
abbrev pub shows : List ℕ → Up → Answer
shows bs w = Ok (record { reply = bytes bs; world = w })

abbrev pub volno : ℕ → VolNo
volno n = record { 0 = n }

abbrev pub relno : ℕ → RelNo
relno n = record { 0 = n }

abbrev pub volume_named : Up → List ℕ → Result (Found Volume) Refusal
volume_named w path = some_or (refusals.NoVolume path) (found (λ v. bytes_eq v.path path) w.volumes)

abbrev pub policy_named : Up → List ℕ → Result (Found Policy) Refusal
policy_named w name = some_or (refusals.NoPolicy name) (found (λ p. bytes_eq p.name name) w.policies)

-- with its destination half at the volume
abbrev pub goes_to : ℕ → Relationship → Bool
goes_to i r = r.destination_half && (r.destination == i)

-- a destination with its relationship
pub record Target : Type 0 where
  pub destination : Found Volume
  pub relation : Found Relationship

unfoldable pub target_named : Up → List ℕ → Result Target Refusal
target_named w path = do
  q ← volume_named w path
  r ← some_or (refusals.NoRelation path) (found (goes_to q.at) w.relations)
  Ok (record { destination = q; relation = r })
