-- Numbers still stand where each snapshot is a copy of one that stood, or is new with a number of its own.
use Rattle.std.proofs.Common.{◌≡◌, ◌⊎◌, ◌<◌, ◌≤◌, ◌+◌, ◌*◌, ℕ, Bool, true, false, length, Some, refl, sym, ap, ap₂, subst, ◌∙◌, inl, inr, arith, true≢false}
use Rattle.std.proofs.lemmas.Bool.{false_from_ne_true}
use Rattle.sm_defs.specs.Words.{Among}
use Rattle.sm_defs.specs.Volume.{Volume, Snapshot, has}
use Rattle.sm_defs.specs.Relationship.{Relationship, Transfer}
use Rattle.sm_defs.specs.Legs.{made_ident}
use Rattle.sm_defs.specs.World.{Up, volume_at}
use Rattle.sm_model.specs.Standing.{Stands}
use Rattle.sm_model.specs.CopiesAgree.{IsCopy}
use Rattle.sm_model.specs.InRange.{is_made_name}
use Rattle.sm_model.specs.NumbersStand.{NumbersStand, NumberStands, IsNumbered, IsClients, IsTransfers, clients, transfers}
use Rattle.sm_model.specs.Sound.{SoundUp}
use Rattle.laws_transfer.proofs.Lists.{copy_from_has, has_from_copy}
use Rattle.laws_copies.proofs.Growing.{FromOld, new_one, old_one, Grown}
use Rattle.laws_copies.proofs.Spent.{KeepsReserved}
use Rattle.laws_copies.proofs.Copies.{ComesFrom, AllCome}
use Rattle.sm_defs.specs.Made.{made_name}

-- ---- a copy of a snapshot that stood

clients_stay : (old new : Up) (s t : Snapshot) (c : ℕ) → IsCopy s t → t.ident.origin < length old.volumes → Grown old new → IsClients old t c → IsClients new s c
clients_stay old new s t c i l g k = record {
  seq = ap (λ j. j.seq) i.ident ∙ k.seq;
  counts = k.counts;
  given = rw i.ident (let a = k.given in let b = g.next t.ident.origin l in omega arith);
  maker = i.maker ∙ k.maker;
  name = ap is_made_name i.name ∙ k.name;
}

transfers_stay : (old new : Up) (s t : Snapshot) (number : ℕ) → IsCopy s t → Grown old new → IsTransfers old t number → IsTransfers new s number
transfers_stay old new s t number i g k = record {
  seq = ap (λ j. j.seq) i.ident ∙ k.seq;
  given = let a = k.given in let b = g.next_transfer in omega arith;
  maker_counts = rw i.maker k.maker_counts;
  maker_given = rw i.maker (let a = k.maker_given in let b = g.next_relation in omega arith);
  name = i.name ∙ (k.name ∙ ap (λ m. made_name m number) (sym i.maker));
  label = i.label ∙ k.label;
  while_standing = λ r u m e n. go r u n (g.transfers r u m e);
}
  where
    go : (r : Relationship) (u : Transfer) → u.number ≡ number → FromOld old r u → (s.ident.origin ≡ r.source) × (s.maker ≡ r.number)
    go r u n (new_one h) = absurd (let a = k.given in omega arith)
    go r u n (old_one q v m e a b c d) = let z = k.while_standing q v m e (sym a ∙ n) in (ap (λ j. j.origin) i.ident ∙ (z.0 ∙ sym c), i.maker ∙ (z.1 ∙ sym d))

number_stays : (old new : Up) (s t : Snapshot) → IsCopy s t → Grown old new → NumberStands old t → NumberStands new s
number_stays old new s t i g k = record { origin = rw i.ident (let a = k.origin in let b = g.count in omega arith); seq = go k.seq }
  where
    go : IsNumbered old t → IsNumbered new s
    go (clients c h) = clients c (clients_stay old new s t c i k.origin g h)
    go (transfers number h) = transfers number (transfers_stay old new s t number i g h)

-- ---- a reserved leg that is not on its source

-- the new snapshot is no reserved leg that its source lacks
abbrev pub Apart : Up → Snapshot → Type 0
Apart new f = (r : Relationship) (t : Transfer) → Among new.relations r → r.transfer ≡ Some t → t.reserved ≡ true →
    has (volume_at new r.source).snapshots (made_ident r.source t.number) ≡ false → ¬ (f.ident ≡ made_ident r.source t.number)

pub too_new : (old : Up) (s : Snapshot) (v number : ℕ) → NumberStands old s → old.next_transfer ≤ number → ¬ (s.ident ≡ made_ident v number)
too_new old s v number k h e = go k.seq
  where
    seq : s.ident.seq ≡ 2 * number + 1
    seq = ap (λ j. j.seq) e

    go : IsNumbered old s → ⊥
    go (clients c x) = let a = x.seq in omega (arith, seq, a)
    go (transfers n x) = let a = x.seq in let b = x.given in omega (arith, seq, a, b)

-- where an old snapshot would have the identity, the source would have it still
copied_apart : (old new : Up) → NumbersStand old → Grown old new → KeepsReserved old new → (v : Volume) (s : Snapshot) → Stands old v s → Apart new s
copied_apart old new k g keeps v s m r t n e z lacks same = go (g.transfers r t n e)
  where
    go : FromOld old r t → ⊥
    go (new_one h) = too_new old s r.source t.number (k.snapshots v s m) h same
    go (old_one q u l f a b c d) =
        let ident : made_ident r.source t.number ≡ made_ident q.source u.number = ap₂ made_ident c a in
        by q u l f (sym b ∙ z) (same ∙ ident) (subst (λ i. has (volume_at new r.source).snapshots i ≡ false) ident lacks) c (has (volume_at old q.source).snapshots (made_ident q.source u.number)) refl
      where
        by : (q : Relationship) (u : Transfer) → Among old.relations q → q.transfer ≡ Some u → u.reserved ≡ true → s.ident ≡ made_ident q.source u.number →
            has (volume_at new r.source).snapshots (made_ident q.source u.number) ≡ false → r.source ≡ q.source → (x : Bool) → has (volume_at old q.source).snapshots (made_ident q.source u.number) ≡ x → ⊥
        by q u l f y i lost c true h = true≢false (sym (keeps q u l f y h) ∙ subst (λ j. has (volume_at new j).snapshots (made_ident q.source u.number) ≡ false) c lost)
        by q u l f y i lost c false h = true≢false (sym (has_from_copy v.snapshots (made_ident q.source u.number) (s, m.1, i)) ∙ k.unmade q u l f y h v m.0)

apart_copied : (new : Up) (s t : Snapshot) → s.ident ≡ t.ident → Apart new t → Apart new s
apart_copied new s t e a r u m f z lacks i = a r u m f z lacks (sym e ∙ i)

unmade_stays : (new : Up) → ((v : Volume) (s : Snapshot) → Stands new v s → Apart new s) → (r : Relationship) (t : Transfer) → Among new.relations r → r.transfer ≡ Some t → t.reserved ≡ true →
    has (volume_at new r.source).snapshots (made_ident r.source t.number) ≡ false → (v : Volume) → Among new.volumes v → has v.snapshots (made_ident r.source t.number) ≡ false
unmade_stays new h r t m e z lacks v n = false_from_ne_true (has v.snapshots (made_ident r.source t.number)) (λ y.
    let (s, k, i) = copy_from_has v.snapshots (made_ident r.source t.number) y in h v s (n, k) r t m e z lacks i)

-- ---- both

abbrev OfNew : Up → Snapshot → Type 0
OfNew new s = NumberStands new s × Apart new s

copied : (old new : Up) → NumbersStand old → Grown old new → KeepsReserved old new → (s : Snapshot) → ComesFrom old s → OfNew new s
copied old new k g keeps s c = (
  number_stays old new s c.snapshot c.copy g (k.snapshots c.volume c.snapshot c.stands),
  apart_copied new s c.snapshot c.copy.ident (copied_apart old new k g keeps c.volume c.snapshot c.stands),
)

numbers_from : (new : Up) → ((v : Volume) (s : Snapshot) → Stands new v s → OfNew new s) → NumbersStand new
numbers_from new h = record { snapshots = λ v s m. (h v s m).0; unmade = unmade_stays new (λ v s m. (h v s m).1) }

pub numbers_come : (old new : Up) → NumbersStand old → Grown old new → KeepsReserved old new → AllCome old new → NumbersStand new
numbers_come old new k g keeps h = numbers_from new (λ v s m. copied old new k g keeps s (h v s m))

pub numbers_new : (old new : Up) (f : Snapshot) → NumbersStand old → Grown old new → KeepsReserved old new → ((v : Volume) (s : Snapshot) → Stands new v s → ComesFrom old s ⊎ (s ≡ f)) →
    NumberStands new f → Apart new f → NumbersStand new
numbers_new old new f k g keeps h n a = numbers_from new (λ v s m. go s (h v s m))
  where
    go : (s : Snapshot) → ComesFrom old s ⊎ (s ≡ f) → OfNew new s
    go s (inl c) = copied old new k g keeps s c
    go s (inr e) = subst (OfNew new) (sym e) (n, a)

-- what is to be made is nowhere
pub made_lacked : (w : Up) (v : Volume) (source : ℕ) → SoundUp w → Among w.volumes v → has v.snapshots (made_ident source w.next_transfer) ≡ false
made_lacked w v source s m = false_from_ne_true (has v.snapshots (made_ident source w.next_transfer)) (λ h. let (t, k, q) = copy_from_has v.snapshots (made_ident source w.next_transfer) h in
    too_new w t source w.next_transfer (s.numbers_stand.snapshots v t (m, k)) (omega arith) q)
