-- Copies still agree where each snapshot is a copy of one that stood.
use Rattle.std.proofs.Common.{◌≡◌, ◌⊎◌, refl, sym, ◌∙◌, subst, inl, inr, ap}
use Rattle.sm_defs.specs.Volume.{Volume, Snapshot}
use Rattle.sm_defs.specs.World.{Up}
use Rattle.sm_model.specs.Standing.{Stands}
use Rattle.sm_model.specs.CopiesAgree.{IsCopy, CopiesAgree}

pub copy_refl : (s : Snapshot) → IsCopy s s
copy_refl s = record { ident = refl; name = refl; label = refl; time = refl; maker = refl; contents = refl }

pub copy_sym : {s t : Snapshot} → IsCopy s t → IsCopy t s
copy_sym c = record { ident = sym c.ident; name = sym c.name; label = sym c.label; time = sym c.time; maker = sym c.maker; contents = sym c.contents }

pub copy_trans : {s t u : Snapshot} → IsCopy s t → IsCopy t u → IsCopy s u
copy_trans c d = record { ident = c.ident ∙ d.ident; name = c.name ∙ d.name; label = c.label ∙ d.label; time = c.time ∙ d.time; maker = c.maker ∙ d.maker; contents = c.contents ∙ d.contents }

-- s is a copy of one that stands
pub record ComesFrom (w : Up) (s : Snapshot) : Type 0 where
  pub volume : Volume
  pub snapshot : Snapshot
  pub stands : Stands w volume snapshot
  pub copy : IsCopy s snapshot

abbrev pub AllCome : Up → Up → Type 0
AllCome old new = (u : Volume) (s : Snapshot) → Stands new u s → ComesFrom old s

pub stays : (w : Up) (v : Volume) (s : Snapshot) → Stands w v s → ComesFrom w s
stays w v s h = record { volume = v; snapshot = s; stands = h; copy = copy_refl s }

pub copies_come : (old new : Up) → AllCome old new → CopiesAgree old → CopiesAgree new
copies_come old new h k v u s t a b e =
    let x = h v s a in let y = h u t b in
    copy_trans x.copy (copy_trans (k x.volume y.volume x.snapshot y.snapshot x.stands y.stands (sym x.copy.ident ∙ (e ∙ y.copy.ident))) (copy_sym y.copy))

-- one snapshot is new, and no other has its identity
pub copies_fresh : (old new : Up) (f : Snapshot) → ((u : Volume) (s : Snapshot) → Stands new u s → ComesFrom old s ⊎ (s ≡ f)) →
    ((v : Volume) (s : Snapshot) → Stands old v s → ¬ (s.ident ≡ f.ident)) → CopiesAgree old → CopiesAgree new
copies_fresh old new f h fresh k v u s t a b e = go (h v s a) (h u t b)
  where
    go : ComesFrom old s ⊎ (s ≡ f) → ComesFrom old t ⊎ (t ≡ f) → IsCopy s t
    go (inl x) (inl y) = copy_trans x.copy (copy_trans (k x.volume y.volume x.snapshot y.snapshot x.stands y.stands (sym x.copy.ident ∙ (e ∙ y.copy.ident))) (copy_sym y.copy))
    go (inl x) (inr y) = absurd (fresh x.volume x.snapshot x.stands (sym x.copy.ident ∙ (e ∙ ap (λ z. z.ident) y)))
    go (inr x) (inl y) = absurd (fresh y.volume y.snapshot y.stands (sym y.copy.ident ∙ (sym e ∙ ap (λ z. z.ident) x)))
    go (inr x) (inr y) = subst (λ z. IsCopy s z) (x ∙ sym y) (copy_refl s)
