-- A disk's part of the world through a call.
use Rattle.std.proofs.Common.{◌≡◌, ◌⊎◌, inl, inr, ⊎_elim, ℕ, ◌-◌, List, ◌∙◌}
use Rattle.sm_defs.specs.Image.{Block}
use Rattle.sm_defs.specs.Words.{Among}
use Rattle.sm_disk.specs.Image.{Image}
use Rattle.sm_disk.specs.Disk.{DiskState, GoesOn}
use Rattle.sm_disk.proofs.Moments.{weaker}
use Rattle.sm_volume.specs.Shown.{Shows, Selects, HoldsAll, KeepsBlocks, NoBlock, IsLikeIn}
use Rattle.sm_volume.specs.Worlds.{AreApart, HaveLanded, PartGoesOn, PartStaysSelected, PartIsCommitted, PartIsSelected}

-- what holds of each image of two runs holds of both together
goes_with : (a b : DiskState) (P Q : Image → Type 0) → GoesOn a b P → GoesOn a b Q → GoesOn a b (λ x. P x × Q x)
goes_with a b P Q p q = record {
  size = p.size;
  told = p.told;
  faults = p.faults;
  later = p.later;
  keeps = p.keeps;
  nothing_else = λ t x le left. ⊎_elim (λ earlier. inl earlier) (λ has. ⊎_elim (λ earlier. inl earlier) (λ also. inr (has, also)) (q.nothing_else t x le left)) (p.nothing_else t x le left);
}

-- blocks that a run leaves alone stay on every image
landed_stay : (landed : List Block) (changes : ℕ → Type 0) (a b : DiskState) → AreApart landed changes → KeepsBlocks changes a b → HaveLanded landed a → GoesOn a b (HoldsAll landed)
landed_stay landed changes a b apart kept start = weaker a b (IsLikeIn changes a) (HoldsAll landed) kept.any_moment (λ x from block among.
    let far = apart block among in from.2 block.tag far.0 far.1 ∙ start from.0 from.1 block among)

-- what a run shows besides, before or after
with_landed : (P Q : Image → Type 0) (landed later : List Block) (a b : DiskState) → AreApart landed NoBlock → ((k : Block) → Among later k → Among landed k) → KeepsBlocks NoBlock a b → HaveLanded landed a
    → GoesOn a b (λ c. P c ⊎ Q c) → GoesOn a b (λ c. (P c × HoldsAll landed c) ⊎ (Q c × HoldsAll later c))
with_landed P Q landed later a b apart fewer kept start shown =
    weaker a b (λ c. (P c ⊎ Q c) × HoldsAll landed c) (λ c. (P c × HoldsAll landed c) ⊎ (Q c × HoldsAll later c))
    (goes_with a b (λ c. P c ⊎ Q c) (HoldsAll landed) shown (landed_stay landed NoBlock a b apart kept start))
    (λ c both. ⊎_elim (λ old. inl (old, both.1)) (λ new. inr (new, λ k among. both.1 k (fewer k among))) both.0)

module _ {D : Type 0} (state : D → DiskState) where
  pub part_goes_on : PartGoesOn state
  part_goes_on = λ p n x y apart kept start shown.
      goes_with (state x) (state y) (Shows p.number p.volume) (HoldsAll p.landed) shown (landed_stay p.landed (λ k. k ≡ n) (state x) (state y) apart kept start)

  pub part_stays_selected : PartStaysSelected state
  part_stays_selected = λ selected p n x y apart kept start shown.
      goes_with (state x) (state y) (Selects selected p.number p.volume) (HoldsAll p.landed) shown (landed_stay p.landed (λ k. k ≡ n) (state x) (state y) apart kept start)

  pub part_is_committed : PartIsCommitted state
  part_is_committed = λ p q x y apart fewer kept start shown.
      with_landed (Shows p.number p.volume) (Shows q.number q.volume) p.landed q.landed (state x) (state y) apart fewer kept start shown

  pub part_is_selected : PartIsSelected state
  part_is_selected = λ selected p q x y apart fewer kept start shown.
      with_landed (Selects selected p.number p.volume) (Selects (1 - selected) q.number q.volume) p.landed q.landed (state x) (state y) apart fewer kept start shown
