-- Which entries follow each other.
use Rattle.std.specs.Prelude.{◌≡◌, ℕ, ◌-◌, ◌^◌, ◌<◌, ◌≤◌, ◌⊎◌, List, [], ◌∷◌, ◌++◌, Option, Some, None, Ok, Err}
use Rattle.std.specs.List.{AllByRecursion}
use Rattle.sm_base.specs.declared.numbers.DiskNo.{DiskNo}
use Rattle.sm_base.specs.declared.numbers.Side.{Side}
use Rattle.sm_base.specs.declared.numbers.Side.TheVariants.{Before, After}
use Rattle.sm_base.specs.declared.refusal.Refusal.TheVariants as refusals
use Rattle.sm_model.specs.declared.event.Event.{Event}
use Rattle.sm_model.specs.declared.event.Event.TheVariants as events
use Rattle.sm_model.specs.declared.reply.Entry.{Entry}
use Rattle.sm_model.specs.declared.reply.Reply.{Reply}
use Rattle.sm_model.specs.declared.reply.Reply.TheVariants as replies
use Rattle.sm_defs.specs.World.{Up}
use Rattle.sm_model.specs.Answers.{Answer, Tells}
use Rattle.sm_model.specs.Answer.{answer}
use Rattle.sm_model.specs.Due.{IsStep, IsIdle}
use Rattle.sm_model.specs.Choice.{chosen}
use Rattle.sm_model.specs.InRange.{IsGiven, IsThere}
use Rattle.sm_model.specs.Opened.{opened}
use Rattle.sm_model.specs.World.{World, up, down, Deed}

-- ---- one event in an up world

-- the deed is what the answer says; no refusal
abbrev pub IsDone : Option Answer → Deed → Type 0
IsDone None d = ⊥
IsDone (Some (Ok reached)) d = Tells reached.reply d.reply × (d.new ≡ reached.world)
IsDone (Some (Err refusal)) d = ⊥

abbrev pub IsRefused : Option Answer → Reply → Type 0
IsRefused None reply = ⊥
IsRefused (Some (Ok reached)) reply = ⊥
IsRefused (Some (Err refusal)) reply = reply ≡ replies.Refused refusal

-- the deed is some due step
abbrev pub IsStepDeed : Deed → Type 0
IsStepDeed d = IsStep d.old (record { reply = d.reply; world = d.new })

-- the deed is one that its event may do
unfoldable pub IsDeed : Event → Deed → Type 0
IsDeed (events.Work shown) d = IsStepDeed d
IsDeed e d = IsDone (answer d.old e) d

-- of a worker's step: it is the one that this program chooses for the actor
unfoldable pub IsChosen : Event → Deed → Type 0
IsChosen (events.Work shown) d = chosen d.old d.actor ≡ Some (record { reply = d.reply; world = d.new })
IsChosen e d = Unit {0}

-- nothing is done: there is nothing to do, or the event is refused
unfoldable pub IsQuiet : Up → Event → Reply → Type 0
IsQuiet w (events.Work shown) reply = IsIdle w × (reply ≡ replies.Idle)
IsQuiet w e reply = IsRefused (answer w e) reply

unfoldable pub IsRestart : Event → Type 0
IsRestart events.Restart = Unit {0}
IsRestart e = ⊥

abbrev pub fault : DiskNo → ℕ → Reply
fault disk count = replies.Refused (refusals.DiskFault disk count)

abbrev pub is_down : ℕ → Reply
is_down disk = replies.Refused (refusals.Down (record { 0 = disk }))

-- a restart of an up world that fails leaves this pair: the world itself, twice
abbrev pub restart_deed : Up → Deed
restart_deed w = record { actor = 0; event = events.Restart; old = w; reply = replies.Done; new = w }

-- ---- one entry

-- The entry leads from a world to a world, takes sides of restarts from the front, and adds these deeds.
pub data Fits : World → Entry → List Side → List Deed → World → List Side → Type 0 where
  -- an event is answered, or a worker's step is done
  done : {w : Up} {e : Entry} {sides : List Side} → (d : Deed) → d.old ≡ w → d.actor ≡ e.actor → d.event ≡ e.event → d.reply ≡ e.reply →
      IsDeed e.event d → Fits (up w) e sides (d ∷ []) (up d.new) sides
  -- an event is refused, or no step is due
  quiet : {w : Up} {e : Entry} {sides : List Side} → IsQuiet w e.event e.reply → Fits (up w) e sides [] (up w) sides
  -- a disk failed in what would have been this deed
  failed : {w : Up} {e : Entry} {sides : List Side} → (d : Deed) (disk : DiskNo) (count : ℕ) → d.old ≡ w → d.actor ≡ e.actor → d.event ≡ e.event →
      IsDeed e.event d → IsChosen e.event d → e.reply ≡ fault disk count → Fits (up w) e sides [] (down disk.0 d) sides
  -- the node is down
  down_still : {disk : ℕ} {d : Deed} {e : Entry} {sides : List Side} → ¬ IsRestart e.event → e.reply ≡ is_down disk → Fits (down disk d) e sides [] (down disk d) sides
  -- a restart finds the world, or one of the pair
  restart_up : {w : Up} {e : Entry} {sides : List Side} → (side : Side) → IsRestart e.event → e.reply ≡ replies.Done → Fits (up w) e (side ∷ sides) [] (up (opened w)) sides
  restart_before : {disk : ℕ} {d : Deed} {e : Entry} {sides : List Side} → IsRestart e.event → e.reply ≡ replies.Done → Fits (down disk d) e (Before ∷ sides) [] (up (opened d.old)) sides
  restart_after : {disk : ℕ} {d : Deed} {e : Entry} {sides : List Side} → IsRestart e.event → e.reply ≡ replies.Done → Fits (down disk d) e (After ∷ sides) (d ∷ []) (up (opened d.new)) sides
  -- a disk failed in a restart
  restart_failed_up : {w : Up} {e : Entry} {sides : List Side} → (disk : DiskNo) (count : ℕ) → IsRestart e.event → e.reply ≡ fault disk count →
      Fits (up w) e sides [] (down disk.0 (restart_deed w)) sides
  restart_failed : {old : ℕ} {d : Deed} {e : Entry} {sides : List Side} → (disk : DiskNo) (count : ℕ) → IsRestart e.event → e.reply ≡ fault disk count →
      Fits (down old d) e sides [] (down disk.0 d) sides

-- ---- a run

-- the event can be asked for in this world; of a world that is down the report asks nothing that has to stand
abbrev pub IsAsked : World → Event → Type 0
IsAsked (up w) e = IsGiven e × IsThere w e
IsAsked (down disk d) e = IsGiven e

-- These entries lead from a world to a world, with these deeds in order.
abbrev pub Run : World → List Entry → List Side → List Deed → World → Type 0
Run old [] sides deeds new = (sides ≡ []) × (deeds ≡ []) × (new ≡ old)
Run old (e ∷ es) sides deeds new =
    (first later : List Deed) × (left : List Side) × (mid : World) × IsAsked old e.event × Fits old e sides first mid left × Run mid es left later new ×
    (deeds ≡ first ++ later)

-- the later count of one disk is greater, or the greatest that there is
unfoldable pub Rises : Reply → Reply → Type 0
Rises (replies.Refused (refusals.DiskFault d f)) (replies.Refused (refusals.DiskFault e g)) = d ≡ e → (f < g) ⊎ (g ≡ 2 ^ 64 - 1)
Rises earlier later = Unit {0}

unfoldable pub Counts : Reply → Type 0
Counts (replies.Refused (refusals.DiskFault d f)) = 1 ≤ f
Counts reply = Unit {0}

-- counts of faults are at least 1 and rise
abbrev pub FaultsRise : List Entry → Type 0
FaultsRise [] = Unit {0}
FaultsRise (e ∷ es) = Counts e.reply × AllByRecursion (λ l. Rises e.reply l.reply) es × FaultsRise es

-- from a start world, these entries with these sides of restarts are legal, do these deeds, and end in this world
pub record IsLegal (start : Up) (entries : List Entry) (sides : List Side) (deeds : List Deed) (last : World) : Type 0 where
  pub runs : Run (up start) entries sides deeds last
  pub faults_rise : FaultsRise entries
