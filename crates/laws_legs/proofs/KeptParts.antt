-- Legs of a vault still have classes where its transfer, its source or its policy changed.
use Rattle.std.proofs.Common.{◌≡◌, ◌⊎◌, ℕ, Bool, true, false, cond, List, Option, is_some, refl, sym, ap, subst, ◌∙◌, inl, inr, true≢false}
use Rattle.sm_base.specs.declared.numbers.Ident.{Ident}
use Rattle.sm_base.specs.declared.numbers.TransferKind.{TransferKind}
use Rattle.sm_defs.proofs.Classes.{vault_has_class}
use Rattle.sm_defs.specs.Classes.{has_class}
use Rattle.sm_defs.specs.Words.{Among}
use Rattle.sm_defs.specs.Volume.{Snapshot, ident_of, has, no_volume}
use Rattle.sm_defs.specs.Relationship.{Relationship, Transfer, is_mirror, sends_all}
use Rattle.sm_defs.specs.Legs.{made_ident, mirror_legs, vault_legs, candidates}
use Rattle.sm_defs.specs.World.{Up, volume_at, policy_at}
use Rattle.sm_defs.proofs.Members.{among_get_or}
use Rattle.sm_model.specs.OfTransfers.{next_legs, new_transfer, source_of}
use Rattle.sm_model.specs.Crossed.{IsReservedLeg, CrossedRelation}
use Rattle.sm_model.specs.LegsKept.{LegsHaveClasses, LegsKept}
use Rattle.sm_model.specs.Sound.{SoundUp}
use Rattle.laws_transfer.proofs.Sent.{vault_sends}
use Rattle.laws_cases.proofs.Needed.Leaving.{same_member, from_base}
use Rattle.laws_cases.proofs.Lists.MoveFrames.{OfEach}
use Rattle.laws_copies.proofs.Arriving.{IsOldOrNew, Arrives}
use Rattle.laws_cases.proofs.Moves.PoliciesStay.{PoliciesStay}

-- what is asked of a vault's transfer
abbrev pub VaultKeeps : Up → Relationship → Transfer → Type 0
VaultKeeps w r t = is_mirror (policy_at w r.policy).kind ≡ false → LegsHaveClasses w r t

-- ---- policies

-- ---- what comes to a source is no leg of a vault, since all its legs are there

pub kept_aside : (w u : Up) → SoundUp w → u.relations ≡ w.relations → PoliciesStay w u → Arrives w u → LegsKept u
kept_aside w u s e p a r t m f mirror = record { unreserved = old.unreserved; classes = λ x n k. go x n (a r.source c.source x k) }
  where
    here : Among w.relations r
    here = subst (λ rs. Among rs r) e m

    c : CrossedRelation w r
    c = s.crossed.relations r here

    old : LegsHaveClasses w r t
    old = s.legs_kept r t here f (sym (ap is_mirror (p.kinds r.policy c.policy)) ∙ mirror)

    on_source : (i : Ident) → (has (volume_at w r.source).snapshots i ≡ true) ⊎ IsReservedLeg r t i → has (volume_at w r.source).snapshots i ≡ true
    on_source i (inl h) = h
    on_source i (inr (z, h)) = absurd (true≢false (sym z ∙ old.unreserved))

    go : (x : Snapshot) → Among t.legs x.ident → IsOldOrNew (volume_at w r.source).snapshots x → has_class (policy_at u r.policy) x ≡ true
    go x n (inl k) = p.classes r.policy c.policy x (old.classes x n k)
    go x n (inr l) = absurd (true≢false (sym (on_source x.ident ((s.crossed.transfers r t here f).legs_at_source x.ident n)) ∙ l))

-- ---- the transfer goes on

-- with some of its legs
pub kept_on : (w : Up) (r q : Relationship) (t u : Transfer) → q.policy ≡ r.policy → q.source ≡ r.source → u.reserved ≡ t.reserved → ((i : Ident) → Among u.legs i → Among t.legs i) → VaultKeeps w r t → VaultKeeps w q u
kept_on w r q t u p f z h k mirror = let old = k (ap (λ i. is_mirror (policy_at w i).kind) (sym p) ∙ mirror) in record {
  unreserved = z ∙ old.unreserved;
  classes = λ x n m. subst (λ i. has_class (policy_at w i) x ≡ true) (sym p) (old.classes x (h x.ident n) (subst (λ i. Among (volume_at w i).snapshots x) f m));
}

-- ---- a vault's new legs have classes

new_unreserved : (w : Up) (r : Relationship) (base : Option Ident) (there : List Snapshot) → is_mirror (policy_at w r.policy).kind ≡ false → (next_legs w r base there).reserved ≡ false
new_unreserved w r base there e = go (is_mirror (policy_at w r.policy).kind) e
  where
    go : (m : Bool) → m ≡ false → (cond m (mirror_legs (sends_all (policy_at w r.policy)) (volume_at w r.source).kind (made_ident r.source w.next_transfer) (candidates base (volume_at w r.source).snapshots there))
        (vault_legs (policy_at w r.policy) (candidates base (volume_at w r.source).snapshots there))).reserved ≡ false
    go true e = absurd (cc)
    go false e = refl

pub kept_new : (w : Up) (r q : Relationship) (kind : TransferKind) (base : Option Ident) (there : List Snapshot) → SoundUp w → Among w.relations r → q.policy ≡ r.policy → q.source ≡ r.source →
    VaultKeeps w q (new_transfer w.next_transfer kind (next_legs w r base there))
kept_new w r q kind base there s here p f mirror = record {
  unreserved = new_unreserved w r base there vault;
  classes = λ x n m. subst (λ i. has_class (policy_at w i) x ≡ true) (sym p) (each x n (subst (λ i. Among (volume_at w i).snapshots x) f m));
}
  where
    vault : is_mirror (policy_at w r.policy).kind ≡ false
    vault = ap (λ i. is_mirror (policy_at w i).kind) (sym p) ∙ mirror

    each : (x : Snapshot) → Among (next_legs w r base there).idents x.ident → Among (volume_at w r.source).snapshots x → has_class (policy_at w r.policy) x ≡ true
    each x n m =
        let (y, new, (found, e), i) = (vault_sends w.next_transfer (policy_at w r.policy) base (source_of w r) there vault x.ident).0 n in
        let differ = (s.tags_fit (volume_at w r.source) (among_get_or w.volumes r.source no_volume (s.crossed.relations r here).source)).idents_differ in
        let same : y ≡ x = same_member ident_of (volume_at w r.source).snapshots y x differ (from_base base (volume_at w r.source).snapshots y new.0) m i in
        subst (λ z. has_class (policy_at w r.policy) z ≡ true) same (vault_has_class (policy_at w r.policy) y vault ∙ ap is_some e)

-- ---- a list of relationships

pub kept_list : (w : Up) (relations transfers : ℕ) (rs : List Relationship) → OfEach (VaultKeeps w) rs → LegsKept (record w { next_relation = relations; next_transfer = transfers; relations = rs })
kept_list w relations transfers rs h r t m e mirror = let k = h r t m e mirror in record { unreserved = k.unreserved; classes = k.classes }
