-- What commands that run alone make of a catalogue.
use Rattle.std.specs.Prelude.{◌≡◌, List, ◌++◌, Result}
use Rattle.sm_disk.specs.Disk.{DiskState}
use Rattle.sm_model.specs.declared.reply.Entry.{Entry}
use Rattle.sm_grammar.specs.declared.command.Command.{Command}
use Rattle.sm_grammar.specs.Follows.{FollowsSoFar}
use Rattle.sm_history.specs.declared.fault.ActFault.{ActFault}
use Rattle.sm_core.specs.Kept.{Kept}
use Rattle.sm_crew.specs.Coming.{Comes, RunsOn}
use Rattle.sm_crew.specs.Ended.{EndsSo, HaveRun}

module _ {D : Type 0} (state : D → DiskState) where
  -- one command
  pub record RunsOne (old : Kept D) (c : Command) (result : Result (Unit {0}) ActFault) (new : Kept D) : Type 0 where
    pub own : List Entry
    pub comes : Comes state old own new
    pub ends : EndsSo c own new.history result

  -- All of them: behind the old history stand the entries of these commands, in order, and no others. Each is one step of
  -- the catalogue, which nothing else has changed.
  pub record RunsAlone (old : Kept D) (commands : List Command) (result : Result (Unit {0}) ActFault) (new : Kept D) : Type 0 where
    pub entries : List Entry
    pub comes : Comes state old entries new
    pub grown : new.history ≡ old.history ++ entries
    pub sides : new.sides ≡ old.sides
    pub runs : RunsOn state old entries new
    pub follow : HaveRun commands entries new.history result
    pub so_far : FollowsSoFar commands entries
