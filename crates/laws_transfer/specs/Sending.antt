-- The laws of what a transfer sends.
use Rattle.std.specs.Prelude.{◌≡◌, ◌↔◌, ◌++◌, ℕ, true, false, List, [], ◌∷◌, Some, Option}
use Rattle.sm_base.specs.declared.numbers.Ident.{Ident}
use Rattle.sm_base.specs.declared.numbers.Kind.TheVariants.{Rw}
use Rattle.sm_defs.specs.Words.{Among}
use Rattle.sm_defs.specs.Volume.{Snapshot}
use Rattle.sm_defs.specs.Relationship.{Policy, Rule, is_mirror, sends_all, rule_for}
use Rattle.sm_defs.specs.Legs.{Source, legs, after_base, made_ident}
use Rattle.laws_transfer.specs.Dropping.{HasCopy}

-- a snapshot of the source behind the base, which the destination does not have
abbrev pub IsNew : Option Ident → Source → List Snapshot → Snapshot → Type 0
IsNew base source destination s = Among (after_base base source.snapshots) s × ¬ (HasCopy destination s.ident)

abbrev pub IsNewIdent : Option Ident → Source → List Snapshot → Ident → Type 0
IsNewIdent base source destination i = (s : Snapshot) × IsNew base source destination s × (s.ident ≡ i)

-- of the legs each is a new snapshot, but for a reserved one, which is the last
abbrev pub LegsAreNew : Type 0
LegsAreNew =
    (transfer : ℕ) (policy : Policy) (base : Option Ident) (source : Source) (destination : List Snapshot) →
    ((legs transfer policy base source destination).reserved ≡ false → (i : Ident) → Among (legs transfer policy base source destination).idents i → IsNewIdent base source destination i) ×
    ((legs transfer policy base source destination).reserved ≡ true →
    (sent : List Ident) × ((legs transfer policy base source destination).idents ≡ sent ++ made_ident source.number transfer ∷ []) ×
    ((i : Ident) → Among sent i → IsNewIdent base source destination i))

-- a leg is reserved exactly for a mirror of a writable source
abbrev pub ReservedForWritableSources : Type 0
ReservedForWritableSources =
    (transfer : ℕ) (policy : Policy) (base : Option Ident) (source : Source) (destination : List Snapshot) →
    ((legs transfer policy base source destination).reserved ≡ true) ↔ ((is_mirror policy.kind ≡ true) × (source.kind ≡ Rw))

abbrev pub HasRule : List Rule → Snapshot → Type 0
HasRule rules s = (rule : Rule) × (rule_for rules s.label ≡ Some rule)

-- a vault sends the new snapshots whose label has a rule, and no others
abbrev pub VaultsSendByRule : Type 0
VaultsSendByRule =
    (transfer : ℕ) (policy : Policy) (base : Option Ident) (source : Source) (destination : List Snapshot) → is_mirror policy.kind ≡ false →
    (i : Ident) → Among (legs transfer policy base source destination).idents i ↔ ((s : Snapshot) × IsNew base source destination s × HasRule policy.rules s × (s.ident ≡ i))

-- a mirror of all snapshots sends each new one
abbrev pub MirrorsOfAllSendAll : Type 0
MirrorsOfAllSendAll =
    (transfer : ℕ) (policy : Policy) (base : Option Ident) (source : Source) (destination : List Snapshot) → is_mirror policy.kind ≡ true → sends_all policy ≡ true →
    (s : Snapshot) → IsNew base source destination s → Among (legs transfer policy base source destination).idents s.ident
