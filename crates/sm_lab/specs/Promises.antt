-- What a legal run promises, from whatever sound world it begins.
use Rattle.std.specs.Prelude.{List, []}
use Rattle.sm_base.specs.declared.numbers.Side.{Side}
use Rattle.sm_defs.specs.World.{Up}
use Rattle.sm_model.specs.declared.reply.Entry.{Entry}
use Rattle.sm_model.specs.LegalRun.{Run, IsLegal}
use Rattle.sm_model.specs.Sound.{SoundUp, Sound}
use Rattle.sm_model.specs.World.{World, up, Deed}
use Rattle.laws_cases.specs.Needs.{KeepsNeeded}
use Rattle.laws_drops.specs.Runs.{known_world}
use Rattle.laws_run.specs.Worlds.{AllWorlds, AllEntries, OfBoth, OriginsStand, DropsByRule, BasesAndLegsStand}

pub record Promises (start : Up) (history : List Entry) (sides : List Side) (deeds : List Deed) (last : World) (run : Run (up start) history sides deeds last) : Type 0 where
  -- every world is sound
  pub sound : AllWorlds (λ before w. Sound w) [] (up start) history sides deeds last run
  -- each snapshot that is shown has the contents that its origin held
  pub contents : AllWorlds (OriginsStand start) [] (up start) history sides deeds last run
  -- the snapshots that the rules name are dropped, and no others
  pub drops : AllEntries DropsByRule (up start) history sides deeds last run
  -- none of them is needed
  pub needed : AllEntries (λ old e done new. KeepsNeeded (known_world old) (known_world new)) (up start) history sides deeds last run
  -- each base is on each side that has its half
  pub bases : AllWorlds (λ before w. OfBoth BasesAndLegsStand w) [] (up start) history sides deeds last run

-- From this world the entries, with these sides of restarts, are a legal run; and so it promises, where the world is sound.
pub record IsLegalFrom (start : Up) (history : List Entry) (sides : List Side) (last : World) : Type 0 where
  pub deeds : List Deed
  pub legal : IsLegal start history sides deeds last
  pub promises : SoundUp start → Promises start history sides deeds last legal.runs
