-- What is decided from what the catalogue keeps, before anything is done.
use Rattle.std.specs.Prelude.{◌≡◌, Result, Ok, Err}
use Rattle.sm_base.specs.declared.refusal.Refusal.{Refusal}
use Rattle.sm_model.specs.declared.reply.Reply.{Reply}
use Rattle.sm_model.specs.declared.reply.Reply.TheVariants as replies
use Rattle.sm_model.specs.Answers.{Answer, ◌and◌}
use Rattle.sm_catroot.specs.Catalog.{Catalog}
use Rattle.sm_catroot.specs.Condition.{IsCatalog}
use Rattle.sm_node.specs.Nodes.{Node, world_with}

-- the answer by what is decided: the reply with the world of the next catalogue, or the refusal
abbrev pub answer_by : {D : Type 0} → Node D → Reply → Result Catalog Refusal → Answer
answer_by n reply (Ok next) = reply and world_with next n.seats n.lengths
answer_by n reply (Err refusal) = Err refusal

-- the next catalogue has the same volumes, and has a spelling
abbrev pub IsNext : Catalog → Result Catalog Refusal → Type 0
IsNext k (Ok next) = (next.volumes ≡ k.volumes) × IsCatalog next
IsNext k (Err refusal) = Unit {0}

-- a reply that owns no memory
abbrev pub IsBare : Reply → Type 0
IsBare replies.Done = Unit {0}
IsBare (replies.Related relation) = Unit {0}
IsBare _ = ⊥
