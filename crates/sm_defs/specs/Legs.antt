-- Which snapshots a new transfer sends.
use Rattle.std.specs.Prelude.{ℕ, ◌+◌, ◌*◌, ◌++◌, cond, not, Bool, true, false, List, [], ◌∷◌, Option, Some, None}
use Rattle.std.specs.List.{filter}
use Rattle.sm_base.specs.declared.numbers.Ident.{Ident}
use Rattle.sm_base.specs.declared.numbers.Kind.{Kind}
use Rattle.sm_base.specs.declared.numbers.Kind.TheVariants.{Rw, Dp}
use Rattle.sm_defs.specs.Volume.{Snapshot, idents, has, past}
use Rattle.sm_defs.specs.Relationship.{Policy, is_mirror, sends_all}
use Rattle.sm_defs.specs.Classes.{has_class}

-- oldest first; where reserved, the last is still to be made
pub record Legs : Type 0 where
  pub idents : List Ident
  pub reserved : Bool

-- what a volume shows to a transfer from it
pub record Source : Type 0 where
  pub number : ℕ
  pub kind : Kind
  pub snapshots : List Snapshot

-- nothing stands after a base that the list lacks
abbrev pub after_base : Option Ident → List Snapshot → List Snapshot
after_base None ss = ss
after_base (Some base) ss = past base ss

-- the source's snapshots after the base that the destination does not have
abbrev pub candidates : Option Ident → List Snapshot → List Snapshot → List Snapshot
candidates base source destination = filter (λ s. not (has destination s.ident)) (after_base base source)

-- the newest alone, if there is one
abbrev pub only_newest : List Snapshot → List Snapshot
only_newest [] = []
only_newest (s ∷ []) = s ∷ []
only_newest (s ∷ newer ∷ others) = only_newest (newer ∷ others)

-- the identity that a transfer makes on the volume of the number
abbrev pub made_ident : ℕ → ℕ → Ident
made_ident volume transfer = record { origin = volume; seq = 2 * transfer + 1 }

-- behind the made snapshot nothing is sent; a read-only source cannot make one
abbrev pub mirror_legs : Bool → Kind → Ident → List Snapshot → Legs
mirror_legs true Rw made sent = record { idents = idents sent ++ made ∷ []; reserved = true }
mirror_legs false Rw made sent = record { idents = made ∷ []; reserved = true }
mirror_legs true Dp made sent = record { idents = idents sent; reserved = false }
mirror_legs false Dp made sent = record { idents = idents (only_newest sent); reserved = false }

-- what has a class
abbrev pub vault_legs : Policy → List Snapshot → Legs
vault_legs policy sent = record { idents = idents (filter (has_class policy) sent); reserved = false }

-- what the transfer of the number sends
abbrev pub legs : ℕ → Policy → Option Ident → Source → List Snapshot → Legs
legs transfer policy base source destination =
    cond (is_mirror policy.kind) (mirror_legs (sends_all policy) source.kind (made_ident source.number transfer) (candidates base source.snapshots destination))
    (vault_legs policy (candidates base source.snapshots destination))
