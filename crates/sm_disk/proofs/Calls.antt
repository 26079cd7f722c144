-- What single calls add to a run of them.
use Rattle.std.proofs.Common.{ℕ, ◌≤◌, IsTrue, refl, sym, ◌∙◌, subst, arith}
use Rattle.sm_disk.specs.Image.{Image}
use Rattle.sm_disk.specs.Disk.{DiskState, GoesOn, Steps, IsQuiet, IsSynced, IsCounted}
use Rattle.sm_disk.proofs.Moments.{joined, within_start}

-- a call after which a restart may leave nothing new adds nothing
pub adds_nothing : (a b : DiskState) (P : Image → Type 0) → Steps a b → ((c : Image) → b.may_leave c → a.may_leave c) → GoesOn a b P
adds_nothing a b P step no_more = within_start a b b.may_leave P step no_more

-- a read, or a sync that failed
pub quiet_adds_nothing : (a b : DiskState) (P : Image → Type 0) → Steps a b → IsQuiet a b → GoesOn a b P
quiet_adds_nothing a b P step quiet = adds_nothing a b P step quiet.no_more

-- a restart
pub restart_adds_nothing : (a b : DiskState) (P : Image → Type 0) → Steps a b → (IsTrue a.told → a.may_leave b.seen) → IsSynced b → GoesOn a b P
restart_adds_nothing a b P step image synced =
    adds_nothing a b P step
    (λ c may.
    let told : IsTrue a.told = subst IsTrue step.told (b.only_told b.moment c (b.counts_now b.moment c (omega arith) may)) in
    subst a.may_leave (sym (synced c may)) (image told))

pub quiet_begun : (s : DiskState) → IsQuiet s s
quiet_begun s = record { seen = refl; no_more = λ c may. may; no_less = λ c may. may }

pub quiet_joined : (a b c : DiskState) → IsQuiet a b → IsQuiet b c → IsQuiet a c
quiet_joined a b c p q = record {
  seen = q.seen ∙ p.seen;
  no_more = λ x may. p.no_more x (q.no_more x may);
  no_less = λ x may. q.no_less x (p.no_less x may);
}

-- two reads are as one
pub quiet_steps : (a b c : DiskState) → Steps a b → IsQuiet a b → Steps b c → IsQuiet b c → Steps a c
quiet_steps a b c p quiet_p q quiet_q = joined a b c c.may_leave (quiet_adds_nothing a b c.may_leave p quiet_p) (quiet_adds_nothing b c c.may_leave q quiet_q)

-- a failure stays counted, whatever comes before and after it
pub counted_within : (a b c d : DiskState) → a.faults ≤ b.faults → IsCounted b c → c.faults ≤ d.faults → IsCounted a d
counted_within a b c d before counted after = omega arith

-- what each image shows, a read shows
pub seen_shows : (s : DiskState) (P : Image → Type 0) → ((c : Image) → s.may_leave c → P c) → IsTrue s.told → P s.seen
seen_shows s P each told = each s.seen (s.seen_may_stay told)

-- an image is known only where the content is told
pub image_told : (s : DiskState) (c : Image) → s.may_leave c → IsTrue s.told
image_told s c may = s.only_told s.moment c (s.counts_now s.moment c (omega arith) may)

pub since_told : (s : DiskState) (t : ℕ) (c : Image) → s.left_since t c → IsTrue s.told
since_told s t c left = s.only_told t c left
