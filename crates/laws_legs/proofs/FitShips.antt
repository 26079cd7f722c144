-- What was shipped fits where one more block landed, and where a checkpoint was reached.
use Rattle.std.proofs.Common.{◌≡◌, ◌⊎◌, ◌≤◌, ◌<◌, ◌+◌, nat_lt, ℕ, Bool, true, false, cond, List, [], ◌∷◌, length, Some, refl, sym, ◌∙◌, ap, subst, inl, inr, arith}
use Rattle.std.specs.List.{AllByRecursion}
use Rattle.std.proofs.lemmas.Bool.{ltb-true, ltb-false, both_ways, cases_order}
use Rattle.std.proofs.lemmas.Option.{same_Some}
use Rattle.sm_base.specs.declared.limits.TheConstants.{WINDOW}
use Rattle.sm_defs.specs.Words.{Among, Ascends}
use Rattle.sm_defs.specs.Image.{stands}
use Rattle.sm_defs.specs.Volume.{Snapshot, has, free}
use Rattle.sm_defs.specs.Relationship.{Transfer, is_mirror}
use Rattle.sm_model.specs.LegsFit.{IsChecked, FirstFits, InWindow, LegsFitFor}
use Rattle.sm_model.specs.Running.{Running}
use Rattle.sm_model.specs.Steps.{snapshot_of, cost}
use Rattle.sm_model.specs.Due.{insert_landed}
use Rattle.laws_transfer.proofs.Lists.{has_from_copy}
use Rattle.laws_cases.proofs.Steps.DueCases.{Ahead}
use Rattle.laws_cases.proofs.Steps.Parties.{snapshot_is}
use Rattle.laws_cases.proofs.Steps.Shipping.{prefix_is}
use Rattle.laws_legs.proofs.FitParts.{Alike, source_alike, reads_same}
use Rattle.sm_defs.specs.Progress.{landed_prefix}
use Rattle.sm_defs.proofs.Members.{among_each, among_stands, stands_among}

-- the transfer goes on with the same legs, of which the first is ahead
pub fits_going : (x y : Running) (leg : Snapshot) → Alike x y → Ahead x leg → y.transfer.legs ≡ x.transfer.legs → (is_mirror x.policy.kind ≡ true → IsChecked y.transfer → IsChecked x.transfer) →
    (is_mirror x.policy.kind ≡ true → y.transfer.pruned ≡ false → y.transfer.checkpoint ≡ 0 → y.transfer.landed ≡ []) → y.transfer.checkpoint ≤ cost x leg → ((k : ℕ) → Among y.transfer.landed k → k < cost x leg) →
    (is_mirror x.policy.kind ≡ false → cost x leg ≤ free x.destination) → InWindow y.transfer → LegsFitFor x → LegsFitFor y
fits_going x y leg a h l checked fresh near landed room inside f = record {
  mirror = λ m c. source_alike x y a (λ i n. subst (λ is. Among is i) l n) (f.mirror (same m) (checked (same m) c));
  fresh = λ m. fresh (same m);
  first = subst (FirstFits y) (sym (l ∙ h.legs)) (λ _ _. record {
    there = a.stay h.i here there;
    checkpoint = λ q e. rw (reads_same x y a q, sym (one q e)) near;
    landed = λ q k e m. rw (reads_same x y a q, sym (one q e)) (landed k m);
    room = λ q e v. subst (λ n. n ≤ free y.destination) (sym (reads_same x y a q)) (subst (λ v. cost x q ≤ free v) (sym a.destination) (rw (sym (one q e)) (room (ap is_mirror (sym a.kind) ∙ v))));
  });
  window = λ _. inside;
}
  where
    same : is_mirror y.policy.kind ≡ true → is_mirror x.policy.kind ≡ true
    same m = ap is_mirror (sym a.kind) ∙ m

    here : Among x.transfer.legs h.i
    here = subst (λ ks. Among ks h.i) (sym h.legs) (inl refl)

    found : (ss : List Snapshot) (s : Snapshot) → snapshot_of ss (Some h.i) ≡ Some s → has ss h.i ≡ true
    found ss s e = let (m, i) = snapshot_is ss h.i s e in has_from_copy ss h.i (s, m, i)

    there : has x.source.snapshots h.i ≡ true
    there = found x.source.snapshots leg h.source

    one : (q : Snapshot) → snapshot_of y.source.snapshots (Some h.i) ≡ Some q → leg ≡ q
    one q e = same_Some leg q (sym h.source ∙ (sym (a.legs h.i here there) ∙ e))

-- ---- one more block landed

pub among_insert : (k : ℕ) (ls : List ℕ) (j : ℕ) → Among (insert_landed k ls) j → (j ≡ k) ⊎ Among ls j
among_insert k [] j = λ m. m
among_insert k (l ∷ ls) j = go (nat_lt k l) (among_insert k ls j)
  where
    go : (b : Bool) → (Among (insert_landed k ls) j → (j ≡ k) ⊎ Among ls j) → Among (cond b (k ∷ l ∷ ls) (l ∷ insert_landed k ls)) j → (j ≡ k) ⊎ Among (l ∷ ls) j
    go true ih m = m
    go false ih (inl e) = inr (inl e)
    go false ih (inr m) = by (ih m)
      where
        by : (j ≡ k) ⊎ Among ls j → (j ≡ k) ⊎ Among (l ∷ ls) j
        by (inl e) = inl e
        by (inr n) = inr (inr n)

pub insert_among : (k : ℕ) (ls : List ℕ) (j : ℕ) → Among ls j → Among (insert_landed k ls) j
insert_among k [] j = λ m. absurd m
insert_among k (l ∷ ls) j = go (nat_lt k l) (insert_among k ls j)
  where
    go : (b : Bool) → (Among ls j → Among (insert_landed k ls) j) → Among (l ∷ ls) j → Among (cond b (k ∷ l ∷ ls) (l ∷ insert_landed k ls)) j
    go true ih m = inr m
    go false ih (inl e) = inl e
    go false ih (inr m) = inr (ih m)

below_all : (l : ℕ) (ls : List ℕ) → ((j : ℕ) → Among ls j → l < j) → AllByRecursion (λ j. l < j) ls
below_all l [] h = tt
below_all l (m ∷ ms) h = (h m (inl refl), below_all l ms (λ j n. h j (inr n)))

each_below : (l : ℕ) (ls : List ℕ) → AllByRecursion (λ j. l < j) ls → (j : ℕ) → Among ls j → l < j
each_below l ls h j m = among_each (λ j. l < j) ls j h m

pub ascends_insert : (k : ℕ) (ls : List ℕ) → Ascends ls → ¬ (Among ls k) → Ascends (insert_landed k ls)
ascends_insert k [] a n = (tt, tt)
ascends_insert k (l ∷ ls) a n = go (nat_lt k l) refl (ascends_insert k ls a.1 (λ m. n (inr m)))
  where
    above : (j : ℕ) → k < l → Among (l ∷ ls) j → k < j
    above j b (inl e) = omega (arith, b, e)
    above j b (inr m) = let c = each_below l ls a.0 j m in omega (arith, b, c)

    later : nat_lt k l ≡ false → (j : ℕ) → (j ≡ k) ⊎ Among ls j → l < j
    later b j (inr m) = each_below l ls a.0 j m
    later b j (inl e) = by (cases_order k l)
      where
        by : (k ≡ l) ⊎ ((k < l) ⊎ (l < k)) → l < j
        by (inl f) = absurd (n (inl f))
        by (inr (inl f)) = absurd (let c = ltb-false k l b in omega (arith, c, f))
        by (inr (inr f)) = omega (arith, e, f)

    go : (b : Bool) → nat_lt k l ≡ b → Ascends (insert_landed k ls) → Ascends (cond b (k ∷ l ∷ ls) (l ∷ insert_landed k ls))
    go true b ih = (below_all k (l ∷ ls) (λ j m. above j (ltb-true k l b) m), a)
    go false b ih = (below_all l (insert_landed k ls) (λ j m. later b j (among_insert k ls j m)), ih)

pub window_ships : (t : Transfer) (k : ℕ) → InWindow t → stands k t.landed ≡ false → k < t.checkpoint + WINDOW → InWindow (record t { landed = insert_landed k t.landed })
window_ships t k w n l = record {
  ascends = ascends_insert k t.landed w.ascends (λ m. both_ways (stands k t.landed) n (among_stands k t.landed m));
  below = λ j b. insert_among k t.landed j (w.below j b);
  near = λ j m. go j (among_insert k t.landed j m);
}
  where
    go : (j : ℕ) → (j ≡ k) ⊎ Among t.landed j → j < t.checkpoint + WINDOW
    go j (inl e) = omega (arith, e, l)
    go j (inr m) = w.near j m

-- ---- a checkpoint

pub window_checks : (t : Transfer) → InWindow t → landed_prefix t.landed ≡ t.checkpoint + WINDOW → InWindow (record t { checkpoint = landed_prefix t.landed })
window_checks t w e = record {
  ascends = w.ascends;
  below = λ j b. stands_among j t.landed ((prefix_is (length t.landed) 0 t.landed).all j (omega arith) b);
  near = λ j m. let b = w.near j m in omega (arith, b, e);
}
