-- Runs of calls that leave some places alone.
use Rattle.std.proofs.Common.{IsTrue, ◌≡◌, ℕ, refl, sym, ◌∙◌, ap}
use Rattle.sm_disk.specs.Image.{Image, IsOutside, SameAt}
use Rattle.sm_disk.specs.Disk.{DiskState, GoesOn, Steps, IsQuiet, IsSynced, Wrote}
use Rattle.sm_disk.specs.Spared.{IsLike, Spares, StandsAt}
use Rattle.sm_disk.proofs.Moments.{begun, joined, weaker}
use Rattle.sm_disk.proofs.Calls.{adds_nothing}

pub like_itself : (places : ℕ → Type 0) (s : DiskState) (c : Image) → s.may_leave c → IsLike places s c
like_itself places s c may = (c, may, λ place is. refl)

pub like_then : (places : ℕ → Type 0) (a b : DiskState) (c : Image) → ((d : Image) → b.may_leave d → IsLike places a d) → IsLike places b c → IsLike places a c
like_then places a b c each from = let first = each from.0 from.1 in (first.0, first.1, λ place is. from.2 place is ∙ first.2 place is)

pub like_fewer : (places fewer : ℕ → Type 0) → ((place : ℕ) → fewer place → places place) → (s : DiskState) (c : Image) → IsLike places s c → IsLike fewer s c
like_fewer places fewer sub s c from = (from.0, from.1, λ place is. from.2 place (sub place is))

pub spares_begun : (places : ℕ → Type 0) (s : DiskState) → Spares places s s
spares_begun places s = record {
  seen = λ place is. refl;
  images = like_itself places s;
  any_moment = begun s (IsLike places s);
}

pub spares_joined : (places : ℕ → Type 0) (a b c : DiskState) → Spares places a b → Spares places b c → Spares places a c
spares_joined places a b c p q = record {
  seen = λ place is. q.seen place is ∙ p.seen place is;
  images = λ x may. like_then places a b x p.images (q.images x may);
  any_moment = joined a b c (IsLike places a) p.any_moment (weaker b c (IsLike places b) (IsLike places a) q.any_moment (λ x like. like_then places a b x p.images like));
}

-- a run that spares some places spares fewer
pub spares_fewer : (places fewer : ℕ → Type 0) → ((place : ℕ) → fewer place → places place) → (a b : DiskState) → Spares places a b → Spares fewer a b
spares_fewer places fewer sub a b p = record {
  seen = λ place is. p.seen place (sub place is);
  images = λ x may. like_fewer places fewer sub a x (p.images x may);
  any_moment = weaker a b (IsLike places a) (IsLike fewer a) p.any_moment (λ x like. like_fewer places fewer sub a x like);
}

-- a write spares the places outside of its range
pub spares_write : (places : ℕ → Type 0) (a b : DiskState) (at n : ℕ) → ((place : ℕ) → places place → IsOutside at n place) → Steps a b → Wrote a at n b → Spares places a b
spares_write places a b at n apart step wrote =
    let like : (x : Image) → b.may_leave x → IsLike places a x = λ x may. let from = wrote.images x may in (from.0, from.1, λ place is. from.2 place (apart place is)) in record {
      seen = λ place is. wrote.seen place (apart place is);
      images = like;
      any_moment = weaker a b b.may_leave (IsLike places a) step like;
    }

-- a sync spares every place, whatever it answers
pub spares_sync : (places : ℕ → Type 0) (a b : DiskState) → Steps a b → b.seen ≡ a.seen → ((c : Image) → b.may_leave c → a.may_leave c) → Spares places a b
spares_sync places a b step seen images = record {
  seen = λ place is. ap (λ (c : Image). c place) seen;
  images = λ x may. like_itself places a x (images x may);
  any_moment = adds_nothing a b (IsLike places a) step images;
}

-- a read spares every place
pub spares_quiet : (places : ℕ → Type 0) (a b : DiskState) → Steps a b → IsQuiet a b → Spares places a b
spares_quiet places a b step quiet = spares_sync places a b step quiet.seen quiet.no_more

-- what holds of each image that is like one of the start holds at any moment of the run
pub spares_goes : (places : ℕ → Type 0) (a b : DiskState) (P : Image → Type 0) → Spares places a b → ((c d : Image) → a.may_leave d → SameAt places d c → P c) → GoesOn a b P
spares_goes places a b P p leads = weaker a b (IsLike places a) P p.any_moment (λ x like. leads x like.0 like.1 like.2)

-- after a sync what a read gives stands everywhere
pub stands_synced : (places : ℕ → Type 0) (s : DiskState) → IsSynced s → StandsAt places s
stands_synced places s synced c may place is = ap (λ (d : Image). d place) (synced c may)

pub stands_fewer : (places fewer : ℕ → Type 0) → ((place : ℕ) → fewer place → places place) → (s : DiskState) → StandsAt places s → StandsAt fewer s
stands_fewer places fewer sub s stands c may place is = stands c may place (sub place is)

-- what stands goes on standing where it is spared
pub stands_spared : (places : ℕ → Type 0) (a b : DiskState) → StandsAt places a → Spares places a b → StandsAt places b
stands_spared places a b stands p c may place is =
    let from = p.images c may in
    from.2 place is ∙ stands from.0 from.1 place is ∙ sym (p.seen place is)

-- and it stands at any moment of the run
pub stands_goes : (places : ℕ → Type 0) (a b : DiskState) → StandsAt places a → Spares places a b → GoesOn a b (SameAt places a.seen)
stands_goes places a b stands p = spares_goes places a b (SameAt places a.seen) p (λ c d may same place is. same place is ∙ stands d may place is)

-- a restart leaves what stands as it read before
pub stands_restart : (places : ℕ → Type 0) (a b : DiskState) → StandsAt places a → (IsTrue a.told → a.may_leave b.seen) → IsTrue a.told → SameAt places a.seen b.seen
stands_restart places a b stands image told = stands b.seen (image told)
