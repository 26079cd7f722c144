-- Disks that each keep their part of the world, and one that commits.
use Rattle.std.proofs.Common.{◌≡◌, ◌≢◌, ◌⊎◌, inl, inr, ⊎_elim, ℕ, ◌<◌, ◌≤◌, List, length, Some, refl, sym, subst, arith}
use Rattle.std.specs.Prelude.{slice_get}
use Rattle.std.proofs.lemmas.Bool.{cases_eq}
use Rattle.sm_disk.specs.Image.{Image}
use Rattle.sm_disk.specs.Disk.{DiskState}
use Rattle.sm_disk.proofs.Moments.{each}
use Rattle.sm_seats.specs.Seats.{World, AtSeats, Shown, SinceStart, AtEndBut, GoesWhole, OneCommits, DisksGoTogether, EndsInOne}
use Rattle.sm_seats.proofs.Lists.{some_at}

module _ {D : Type 0} (state : D → DiskState) (commits : ℕ) (before after : World) (olds news : List D) (h : OneCommits state commits before after olds news) where
  -- the disk of a seat, before and after
  both : (seat : ℕ) → seat < length olds → (x : D) × (y : D) × (slice_get olds seat ≡ Some x) × (slice_get news seat ≡ Some y)
  both seat lt = let x = some_at olds seat lt in let y = some_at news seat (let same = h.as_long in omega (arith, same)) in (x.0, y.0, x.1, y.1)

  others_before : (images : ℕ → Image) → SinceStart state olds news images → (seat : ℕ) → seat < length olds → seat ≢ commits → before seat (images seat)
  others_before images left seat lt ne =
      let p = both seat lt in
      each (state p.0) (state p.1) (before seat) (h.others seat p.0 p.1 p.2 p.3 ne) (h.start seat p.0 p.1 p.2 p.3) (images seat) (left seat p.0 p.1 p.2 p.3)

  whole : (images : ℕ → Image) → SinceStart state olds news images
      → Shown (length olds) before images ⊎ (after commits (images commits) × (AtEndBut state commits olds news images → Shown (length olds) after images))
  whole = λ images left.
      let k = both commits h.is_seat in
      let chosen = each (state k.0) (state k.1) (λ c. before commits c ⊎ after commits c) (h.one commits k.0 k.1 k.2 k.3 refl)
      (λ c may. inl (h.start commits k.0 k.1 k.2 k.3 c may)) (images commits) (left commits k.0 k.1 k.2 k.3) in
      elim chosen [
        | inl old ↦ inl (λ seat lt. elim (cases_eq seat commits) [
          | inl same ↦ subst (λ (j : ℕ). before j (images j)) (sym same) old
          | inr ne ↦ others_before images left seat lt ne
        ])
        | inr new ↦ inr (
          new,
          λ at_the_end seat lt. elim (cases_eq seat commits) [
            | inl same ↦ subst (λ (j : ℕ). after j (images j)) (sym same) new
            | inr ne ↦ let p = both seat lt in h.ends seat p.0 p.1 p.2 p.3 ne (images seat) (at_the_end seat p.0 p.1 p.2 p.3 ne)
          ],
        )
      ]

  goes_later : AtSeats state olds news (λ seat s e. s.moment ≤ e.moment)
  goes_later = λ seat x y e f. elim (cases_eq seat commits) [
    | inl same ↦ (h.one seat x y e f same).later
    | inr ne ↦ (h.others seat x y e f ne).later
  ]

  stays_told : AtSeats state olds news (λ seat s e. e.told ≡ s.told)
  stays_told = λ seat x y e f. elim (cases_eq seat commits) [
    | inl same ↦ (h.one seat x y e f same).told
    | inr ne ↦ (h.others seat x y e f ne).told
  ]

  stay_counted : AtSeats state olds news (λ seat s e. s.faults ≤ e.faults)
  stay_counted = λ seat x y e f. elim (cases_eq seat commits) [
    | inl same ↦ (h.one seat x y e f same).faults
    | inr ne ↦ (h.others seat x y e f ne).faults
  ]

  pub together : GoesWhole state commits before after olds news
  together = record { images = whole; as_long = h.as_long; later = goes_later; told = stays_told; counted = stay_counted }

module _ {D W : Type 0} (state : D → DiskState) (shows : W → World) where
  pub all_together : DisksGoTogether state shows
  all_together = λ commits before after olds news h. together state commits (shows before) (shows after) olds news h

  pub ends_in_one : EndsInOne state shows
  ends_in_one = λ commits before after olds news whole images left. ⊎_elim
      (λ old. inl (subst (λ (k : ℕ). Shown k (shows before) images) (sym whole.as_long) old))
      (λ new. inr (subst (λ (k : ℕ). Shown k (shows after) images) (sym whole.as_long) (new.1 (λ seat x y e f ne. left seat y f))))
      (whole.images images (λ seat x y e f. (state y).counts_now (state x).moment (images seat) (whole.later seat x y e f) (left seat y f)))
