-- The layout of a catalogue: its fields one behind the other, and what each must meet.
use Rattle.std.specs.Prelude.{ℕ, zero, suc, ◌+◌, ◌*◌, ◌-◌, ◌==◌, ◌&&◌, ◌||◌, Bool, true, false, nat_le, nat_lt, not, List, [], ◌∷◌, ◌++◌, length, Option, Some}
use Rattle.std.specs.List.{list_any}
use Rattle.std.specs.Str.{bytes_eq}
use Rattle.sm_base.specs.Name.{is_part, is_label}
use Rattle.sm_base.specs.declared.numbers.Ident.{Ident}
use Rattle.sm_base.specs.declared.numbers.PolicyKind.{PolicyKind}
use Rattle.sm_base.specs.declared.numbers.PolicyKind.TheVariants.{AsyncMirror, Vault}
use Rattle.sm_base.specs.declared.numbers.TransferKind.{TransferKind}
use Rattle.sm_base.specs.declared.numbers.TransferKind.TheVariants.{Initialize, Update, Resync}
use Rattle.sm_base.specs.declared.refusal.Reason.TheVariants.{Restart}
use Rattle.sm_base.specs.declared.limits.TheConstants.{LAST_SECOND, LAST_NUMBER, MOST_VOLUMES, MOST_POLICIES, MOST_RULES, MOST_RELATIONS}
use Rattle.sm_defs.specs.Relationship.{Policy, Rule, is_mirror}
use Rattle.sm_defs.specs.Rules.{new_policy, is_wrong_rule, is_bad_keep, is_ruled}
use Rattle.sm_defs.specs.Words.{same_ident}
use Rattle.sm_fields.specs.Format.{Format, ◌>>=◌, empty, number, text, such_that, bits8, bits32, bits64, count, truth, identity, option, in_turn, head}
use Rattle.sm_relation.specs.declared.relation.Relation.{Relation}
use Rattle.sm_relation.specs.declared.relation.Standing.{Standing}
use Rattle.sm_catroot.specs.declared.placed.Placed.{Placed}
use Rattle.sm_catroot.specs.declared.parts.Numbers.{Numbers}
use Rattle.sm_catroot.specs.declared.parts.Halves.{Halves}
use Rattle.sm_catroot.specs.declared.parts.RelationHead.{RelationHead}
use Rattle.sm_catroot.specs.declared.parts.TransferHead.{TransferHead}
use Rattle.sm_catroot.specs.declared.TheConstants.{MAGIC, MOST_LEGS}
use Rattle.sm_catroot.specs.Catalog.{Catalog}

-- the clock and the next numbers
unfoldable pub numbers : Format Numbers
numbers = do
  clock ← such_that (number bits64) (λ n. nat_le n LAST_SECOND)
  relation ← such_that (number bits32) (λ n. nat_le 1 n)
  transfer ← such_that (number bits64) (λ n. nat_le 1 n && nat_le n LAST_NUMBER)
  empty (record { clock = clock; next_relation = relation; next_transfer = transfer })

-- ---- volumes

abbrev pub joined : List ℕ → List ℕ → List ℕ
joined first second = first ++ 58 ∷ second

-- the two parts of a path, which has a colon between them
unfoldable pub path : Format (List ℕ)
path = do
  first ← such_that (text 64) is_part
  second ← such_that (text 64) is_part
  empty (joined first second)

abbrev pub is_free_path : List Placed → List ℕ → Bool
is_free_path before p = not (list_any (λ v. bytes_eq v.path p) before)

-- a path that no volume before has, and a disk
unfoldable pub placed : List Placed → Format Placed
placed before = do
  p ← such_that path (is_free_path before)
  disk ← number bits32
  empty (record { path = p; disk = record { 0 = disk } })

unfoldable pub volumes : ℕ → Format (List Placed)
volumes n = in_turn placed [] n

-- ---- policies

abbrev pub policy_kind_of : ℕ → PolicyKind
policy_kind_of zero = AsyncMirror
policy_kind_of (suc n) = Vault

-- 0 for a mirror, 1 for a vault
unfoldable pub policy_kind : Format PolicyKind
policy_kind = do
  n ← such_that (number bits8) (λ n. nat_le n 1)
  empty (policy_kind_of n)

-- a label that the policy may have, and has not yet
abbrev pub is_free_label : Policy → List ℕ → Bool
is_free_label p t = not (is_wrong_rule p.kind t false) && not (is_ruled p t)

-- no mirror keeps for good
abbrev pub may_preserve : PolicyKind → Bool → Bool
may_preserve kind preserve = not (is_mirror kind && preserve)

unfoldable pub rule : Policy → Format Rule
rule p = do
  label ← such_that (such_that (text 31) is_label) (is_free_label p)
  keep ← such_that (number bits32) (λ n. not (is_bad_keep p.kind n))
  preserve ← such_that truth (may_preserve p.kind)
  empty (record { label = label; keep = keep; preserve = preserve })

-- this rule
unfoldable pub this_rule : Rule → Format Bool
this_rule r = do
  label ← such_that (text 31) (λ t. bytes_eq t r.label)
  keep ← such_that (number bits32) (λ n. n == r.keep)
  preserve ← such_that truth (λ b. not b)
  empty true

-- the rules that a new policy has
unfoldable pub these_rules : List Rule → Format Bool
these_rules [] = empty true
these_rules (r ∷ rs) = do
  first ← this_rule r
  these_rules rs

abbrev pub with_rules : Policy → List Rule → Policy
with_rules p rules = record p { rules = p.rules ++ rules }

abbrev pub is_free_name : List Policy → List ℕ → Bool
is_free_name before name = not (list_any (λ p. bytes_eq p.name name) before)

abbrev pub next_rule : Policy → List Rule → Format Rule
next_rule p before = rule (with_rules p before)

-- so many rules that a policy was given behind those that it had
unfoldable pub added : Policy → ℕ → Format Policy
added p n = do
  rules ← in_turn (next_rule p) [] n
  empty (with_rules p rules)

-- a new policy has some rules from the start
abbrev pub is_rule_count : ℕ → ℕ → Bool
is_rule_count least n = nat_le least n && nat_le n MOST_RULES

unfoldable pub ruled : Policy → Format Policy
ruled p = do
  n ← such_that (number bits32) (is_rule_count (length p.rules))
  first ← these_rules p.rules
  added p (n - length p.rules)

unfoldable pub policy : List Policy → Format Policy
policy before = do
  name ← such_that (such_that (text 64) is_part) (is_free_name before)
  kind ← policy_kind
  ruled (new_policy name kind)

unfoldable pub policies : ℕ → Format (List Policy)
policies n = in_turn policy [] n

-- ---- relationships

abbrev pub transfer_kind_of : ℕ → TransferKind
transfer_kind_of zero = Initialize
transfer_kind_of (suc zero) = Update
transfer_kind_of (suc (suc n)) = Resync

-- 0 for an initialize, 1 for an update, 2 for a resync
unfoldable pub transfer_kind : Format TransferKind
transfer_kind = do
  n ← such_that (number bits8) (λ n. nat_le n 2)
  empty (transfer_kind_of n)

-- 1 for the source's half, 2 for the destination's, 3 for both
unfoldable pub halves : Format Halves
halves = do
  n ← such_that (number bits8) (λ n. nat_le 1 n && nat_le n 3)
  empty (record { source = not (n == 2); destination = not (n == 1) })

unfoldable pub transfer_head : Format TransferHead
transfer_head = do
  n ← number bits64
  kind ← transfer_kind
  reserved ← truth
  checkpoint ← number bits32
  empty (record { number = n; kind = kind; reserved = reserved; checkpoint = checkpoint })

-- the snapshot that the transfer makes
abbrev pub reserved_leg : ℕ → ℕ → Ident
reserved_leg source transfer = record { origin = source; seq = 2 * transfer + 1 }

-- the last of the legs of a transfer that reserves one is that one
abbrev pub may_be_leg : ℕ → TransferHead → ℕ → ℕ → Ident → Bool
may_be_leg source h n place i = not (h.reserved && (place + 1 == n)) || same_ident i (reserved_leg source h.number)

abbrev pub leg : ℕ → TransferHead → ℕ → List Ident → Format Ident
leg source h n before = such_that identity (may_be_leg source h n (length before))

unfoldable pub legs : ℕ → TransferHead → ℕ → Format (List Ident)
legs source h n = in_turn (leg source h n) [] n

-- a transfer that reserves a leg has one
unfoldable pub leg_count : Bool → Format ℕ
leg_count reserved = such_that (number bits32) (λ n. nat_le n MOST_LEGS && (not reserved || nat_le 1 n))

-- no transfer runs after it was read
abbrev pub standing : TransferHead → List Ident → Standing
standing h ls = record { number = h.number; kind = h.kind; reserved = h.reserved; checkpoint = h.checkpoint; legs = ls; stopped = Some Restart }

unfoldable pub transfer : ℕ → Format Standing
transfer source = do
  h ← transfer_head
  n ← leg_count h.reserved
  ls ← legs source h n
  empty (standing h ls)

abbrev pub last_number : List Relation → ℕ
last_number [] = 0
last_number (r ∷ []) = r.number.0
last_number (r ∷ s ∷ rs) = last_number (s ∷ rs)

-- numbers ascend, from 1
unfoldable pub relation_head : ℕ → Format RelationHead
relation_head last = do
  n ← such_that (number bits32) (nat_lt last)
  source ← number bits32
  destination ← number bits32
  policy ← number bits32
  h ← halves
  quiesced ← truth
  empty (record { number = record { 0 = n }; source = record { 0 = source }; destination = record { 0 = destination }; policy = policy; halves = h; quiesced = quiesced })

abbrev pub related : RelationHead → Option Ident → Option Standing → Relation
related h base t = record { number = h.number; source = h.source; destination = h.destination; policy = h.policy; source_half = h.halves.source; destination_half = h.halves.destination; quiesced = h.quiesced; base = base; transfer = t }

unfoldable pub relation : ℕ → Format Relation
relation last = do
  h ← relation_head last
  base ← option identity
  t ← option (transfer h.source.0)
  empty (related h base t)

abbrev pub next_relation : List Relation → Format Relation
next_relation before = relation (last_number before)

unfoldable pub relations : ℕ → Format (List Relation)
relations n = in_turn next_relation [] n

-- ---- the whole

abbrev pub catalog_made : Numbers → List Placed → List Policy → List Relation → Catalog
catalog_made n volumes policies relations = record { clock = n.clock; next_relation = n.next_relation; next_transfer = n.next_transfer; volumes = volumes; policies = policies; relations = relations }

-- how many, and these
unfoldable pub volume_list : Format (List Placed)
volume_list = do
  n ← count MOST_VOLUMES
  volumes n

unfoldable pub policy_list : Format (List Policy)
policy_list = do
  n ← count MOST_POLICIES
  policies n

unfoldable pub relation_list : Format (List Relation)
relation_list = do
  n ← count MOST_RELATIONS
  relations n

unfoldable pub body : Format Catalog
body = do
  n ← numbers
  vs ← volume_list
  ps ← policy_list
  rs ← relation_list
  empty (catalog_made n vs ps rs)

-- a record of so many bytes in all: the magic word, the number of bytes behind, and the catalogue
unfoldable pub catalog_record : ℕ → Format Catalog
catalog_record total = do
  front ← head MAGIC (total - 12)
  body
