-- An identity that was given is never made again.
use Rattle.std.proofs.Common.{◌≡◌, ◌<◌, ◌+◌, ◌*◌, ℕ, Bool, true, false, [], ◌∷◌, length, Some, refl, sym, ap, ap₂, subst, ◌∙◌, inl, arith}
use Rattle.sm_base.specs.declared.numbers.Ident.{Ident}
use Rattle.sm_defs.specs.Words.{Among}
use Rattle.sm_defs.specs.Volume.{Volume, Snapshot, has}
use Rattle.sm_defs.specs.Relationship.{Relationship, Transfer}
use Rattle.sm_defs.specs.Legs.{made_ident}
use Rattle.sm_defs.specs.World.{Up, volume_at}
use Rattle.sm_defs.proofs.Members.{among_right}
use Rattle.sm_model.specs.Standing.{Stands}
use Rattle.sm_model.specs.NumbersStand.{IsNumbered, clients, transfers}
use Rattle.sm_model.specs.Opened.{opened}
use Rattle.sm_model.specs.Sound.{SoundUp}
use Rattle.laws_cases.specs.Needs.{KeepsNeeded}
use Rattle.laws_cases.proofs.Steps.Parties.{lacked}
use Rattle.laws_cases.proofs.Needed.NeededHere.{leg_at_source}
use Rattle.laws_copies.proofs.Growing.{FromOld, new_one, old_one, Grown, of_opened}
use Rattle.laws_cases.proofs.Needed.NeedsStay.{restarts_keep}

-- A client's number below the next one; or a transfer's, which the source of the transfer has where it stands.
pub data Spent (w : Up) (i : Ident) : Type 0 where
  by_client : (c : ℕ) → i.seq ≡ 2 * c → i.origin < length w.volumes → c < (volume_at w i.origin).next → Spent w i
  by_transfer : (number : ℕ) → i.seq ≡ 2 * number + 1 → number < w.next_transfer →
      ((r : Relationship) (t : Transfer) → Among w.relations r → r.transfer ≡ Some t → t.reserved ≡ true → i ≡ made_ident r.source t.number → has (volume_at w r.source).snapshots i ≡ true) → Spent w i

-- a reserved leg that its source has is there still
abbrev pub KeepsReserved : Up → Up → Type 0
KeepsReserved old new = (r : Relationship) (t : Transfer) → Among old.relations r → r.transfer ≡ Some t → t.reserved ≡ true →
    has (volume_at old r.source).snapshots (made_ident r.source t.number) ≡ true → has (volume_at new r.source).snapshots (made_ident r.source t.number) ≡ true

seq_of_made : (i : Ident) (v n : ℕ) → i ≡ made_ident v n → i.seq ≡ 2 * n + 1
seq_of_made i v n e = ap (λ j. j.seq) e

pub spent_stays : (old new : Up) (i : Ident) → Grown old new → KeepsReserved old new → Spent old i → Spent new i
spent_stays old new i g k (by_client c e l n) = by_client c e (let h = g.count in omega arith) (let h = g.next i.origin l in omega arith)
spent_stays old new i g k (by_transfer number e l h) = by_transfer number e (let n = g.next_transfer in omega arith) (λ r t m f z s. go r t z s (g.transfers r t m f))
  where
    go : (r : Relationship) (t : Transfer) → t.reserved ≡ true → i ≡ made_ident r.source t.number → FromOld old r t → has (volume_at new r.source).snapshots i ≡ true
    go r t z s (new_one n) = absurd (let q : i.seq ≡ 2 * t.number + 1 = seq_of_made i r.source t.number s in omega arith)
    go r t z s (old_one q u m f a b c j) =
        let y : i ≡ made_ident q.source u.number = s ∙ ap₂ made_ident c a in
        let d = h q u m f (sym b ∙ z) y in
        let there : has (volume_at new q.source).snapshots i ≡ true = subst (λ j. has (volume_at new q.source).snapshots j ≡ true) (sym y) (k q u m f (sym b ∙ z) (subst (λ j. has (volume_at old q.source).snapshots j ≡ true) y d)) in
        subst (λ v. has (volume_at new v).snapshots i ≡ true) (sym c) there

-- a reserved leg is needed
pub reserved_stays : (old new : Up) → SoundUp old → KeepsNeeded old new → KeepsReserved old new
reserved_stays old new s k r t m e z h =
    let (earlier, f) = ((s.formed.relations r m).transfer t e).reserved z in
    k r.source (made_ident r.source t.number) h
    (leg_at_source old r t (made_ident r.source t.number) m (s.crossed.transfers r t m e).at_source e
    (subst (λ is. Among is (made_ident r.source t.number)) (sym f) (among_right earlier (made_ident r.source t.number ∷ []) (made_ident r.source t.number) (inl refl))))

pub spent_opened : (w : Up) (i : Ident) → Spent w i → Spent (opened w) i
spent_opened w i h = spent_stays w (opened w) i (of_opened w) (λ r t m e z k. restarts_keep w r.source (made_ident r.source t.number) k) h

-- what stands in a sound world was given
pub standing_spent : (w : Up) (v : Volume) (s : Snapshot) → SoundUp w → Stands w v s → Spent w s.ident
standing_spent w v s k h = go (n.seq)
  where
    n : Rattle.sm_model.specs.NumbersStand.NumberStands w s
    n = k.numbers_stand.snapshots v s h

    there : (r : Relationship) (t : Transfer) → Among w.relations r → r.transfer ≡ Some t → t.reserved ≡ true → s.ident ≡ made_ident r.source t.number → (b : Bool) → has (volume_at w r.source).snapshots (made_ident r.source t.number) ≡ b → b ≡ true
    there r t m e z f true g = refl
    there r t m e z f false g = absurd (lacked v.snapshots (made_ident r.source t.number) s (k.numbers_stand.unmade r t m e z g v h.0) h.1 f)

    go : IsNumbered w s → Spent w s.ident
    go (clients c x) = by_client c x.seq n.origin x.given
    go (transfers number x) = by_transfer number x.seq x.given (λ r t m e z f. subst (λ j. has (volume_at w r.source).snapshots j ≡ true) (sym f)
        (there r t m e z f (has (volume_at w r.source).snapshots (made_ident r.source t.number)) refl))
