-- Each deed is traced.
use Rattle.std.proofs.Common.{◌≡◌, ◌⊎◌, false, Some, None, refl, sym, ap, subst, ◌∙◌, inl, inr}
use Rattle.std.proofs.lemmas.Bool.{false_from_ne_true}
use Rattle.sm_base.specs.declared.numbers.Ident.{Ident}
use Rattle.sm_model.specs.declared.event.Event.{Event}
use Rattle.sm_defs.specs.Words.{is_ident, same_ident}
use Rattle.sm_defs.specs.Image.{bytes_of}
use Rattle.std.proofs.Common.{map}
use Rattle.sm_defs.specs.Volume.{Snapshot}
use Rattle.sm_defs.specs.World.{Up}
use Rattle.sm_defs.proofs.Idents.{is_same, same_is}
use Rattle.sm_model.specs.World.{Deed}
use Rattle.sm_model.specs.Origin.{made_by, makes}
use Rattle.sm_model.specs.LegalRun.{IsDeed}
use Rattle.sm_model.specs.Sound.{SoundUp}
use Rattle.laws_contents.specs.Contents.{WasThere, WasTaken, IsTraced}
use Rattle.laws_copies.proofs.Copies.{ComesFrom}
use Rattle.laws_copies.proofs.Brings.{Brings, copies, one_new, deed_brings}

pub makes_none : (d : Deed) (i : Ident) → made_by d.reply ≡ None → makes i d ≡ false
makes_none d i e = subst (λ o. is_ident o i ≡ false) (sym e) refl

pub makes_one : (d : Deed) (i j : Ident) → made_by d.reply ≡ Some j → makes i d ≡ same_ident j i
makes_one d i j e = ap (λ o. is_ident o i) e

was_there : (w : Up) (s : Snapshot) → ComesFrom w s → WasThere w s
was_there w s c = (c.volume, c.snapshot, c.stands, c.copy)

pub brought_traced : {Given : Type 0} (d : Deed) → Brings d.old Given d.reply d.new → IsTraced d
brought_traced d (copies h e) v s m = inl (was_there d.old s (h v s m), makes_none d s.ident e)
brought_traced d (one_new f n h e z b) v s m = go (h v s m)
  where
    go : ComesFrom d.old s ⊎ (s ≡ f) → (WasThere d.old s × (makes s.ident d ≡ false)) ⊎ WasTaken d s
    go (inl c) = inl (was_there d.old s c, makes_one d s.ident f.ident e ∙ false_from_ne_true (same_ident f.ident s.ident) (λ k. n.fresh c.volume c.snapshot c.stands (sym c.copy.ident ∙ sym (same_is f.ident s.ident k))))
    go (inr k) = inr (subst (WasTaken d) (sym k) (record {
      made = makes_one d f.ident f.ident e ∙ is_same f.ident f.ident refl;
      contents = ap (λ y. map bytes_of y) n.image;
      fresh = n.fresh;
    }))

pub deeds_traced : (e : Event) (d : Deed) → SoundUp d.old → IsDeed e d → IsTraced d
deeds_traced e d s i = brought_traced d (deed_brings e d s i)
