-- One call after another.
use Rattle.std.proofs.Common.{◌⊎◌, inl, inr, ⊎_elim, IsTrue, refl, ◌∙◌, subst, arith}
use Rattle.sm_disk.specs.Image.{Image}
use Rattle.sm_disk.specs.Disk.{DiskState, GoesOn, Steps}

pub begun : (s : DiskState) (P : Image → Type 0) → GoesOn s s P
begun s P = record {
  size = refl;
  told = refl;
  faults = omega arith;
  later = omega arith;
  keeps = λ t c le left. left;
  nothing_else = λ t c le left. inl left;
}

pub joined : (a b c : DiskState) (P : Image → Type 0) → GoesOn a b P → GoesOn b c P → GoesOn a c P
joined a b c P p q = record {
  size = q.size ∙ p.size;
  told = q.told ∙ p.told;
  faults = let x = p.faults in let y = q.faults in omega arith;
  later = let x = p.later in let y = q.later in omega arith;
  keeps = λ t x le left. q.keeps t x (let l = p.later in omega arith) (p.keeps t x le left);
  nothing_else = λ t x le left. ⊎_elim (λ earlier. p.nothing_else t x le earlier) (λ has. inr has) (q.nothing_else t x (let l = p.later in omega arith) left);
}

pub weaker : (a b : DiskState) (P Q : Image → Type 0) → GoesOn a b P → ((x : Image) → P x → Q x) → GoesOn a b Q
weaker a b P Q p leads = record {
  size = p.size;
  told = p.told;
  faults = p.faults;
  later = p.later;
  keeps = p.keeps;
  nothing_else = λ t x le left. ⊎_elim (λ earlier. inl earlier) (λ has. inr (leads x has)) (p.nothing_else t x le left);
}

-- one more call of the device
pub then_step : (a b c : DiskState) (P : Image → Type 0) → GoesOn a b P → Steps b c → ((x : Image) → c.may_leave x → P x) → GoesOn a c P
then_step a b c P p s now = joined a b c P p (weaker b c c.may_leave P s now)

-- the images since the start
pub each : (a b : DiskState) (P : Image → Type 0) → GoesOn a b P → ((x : Image) → a.may_leave x → P x) → (x : Image) → b.left_since a.moment x → P x
each a b P p at_start x left = ⊎_elim (λ earlier. at_start x (a.only_now x earlier)) (λ has. has) (p.nothing_else a.moment x (omega arith) left)

-- an image is known only where the content is told
pub told_at : (a b : DiskState) (P : Image → Type 0) → GoesOn a b P → (x : Image) → b.may_leave x → IsTrue a.told
told_at a b P p x may = subst IsTrue p.told (b.only_told b.moment x (b.counts_now b.moment x (omega arith) may))

-- what a restart at the end may leave
pub at_end : (a b : DiskState) (P : Image → Type 0) → GoesOn a b P → ((x : Image) → a.may_leave x → P x) → (x : Image) → b.may_leave x → P x
at_end a b P p at_start x may = each a b P p at_start x (b.counts_now a.moment x p.later may)

-- a run where either holds of what a restart meanwhile left
pub joined_either : (a b c : DiskState) (P Q : Image → Type 0) → GoesOn a b P → GoesOn b c Q → GoesOn a c (λ x. P x ⊎ Q x)
joined_either a b c P Q p q = joined a b c (λ x. P x ⊎ Q x) (weaker a b P (λ x. P x ⊎ Q x) p (λ x has. inl has)) (weaker b c Q (λ x. P x ⊎ Q x) q (λ x has. inr has))

-- what a restart might have left at the start is nothing new
pub within_start : (a b : DiskState) (P Q : Image → Type 0) → GoesOn a b P → ((x : Image) → P x → a.may_leave x) → GoesOn a b Q
within_start a b P Q p within = record {
  size = p.size;
  told = p.told;
  faults = p.faults;
  later = p.later;
  keeps = p.keeps;
  nothing_else = λ t x le left. ⊎_elim (λ earlier. inl earlier) (λ has. inl (a.counts_now t x le (within x has))) (p.nothing_else t x le left);
}
