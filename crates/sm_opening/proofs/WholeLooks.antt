-- The records of all disks, and what they say together.
use Rattle.std.proofs.Common.{◌≡◌, ℕ, List, map, Ok, Err, refl, sym, ap, subst, ◌∙◌, inl, inr}
use Rattle.sm_disk.specs.Disk.{DiskState}
use Rattle.sm_root.specs.declared.root.Root.{Root}
use Rattle.sm_catroot.specs.Catalog.{Catalog}
use Rattle.sm_opening.specs.declared.fault.OpenFault.{OpenFault}
use Rattle.sm_opening.specs.Looked.{disks_of, size_of, AllTold, Looks, IsDamageOf, AnswersDamage, IsFaultCounted, Fails}
use Rattle.sm_opening.specs.Finding.{ReadRecords, root_of}
use Rattle.sm_opening.specs.OnDisk.{Disks, Damage, world_of, IsReadWorld, IsReadingDamage, IsWholeDamage, IsDamage, Spells}
use Rattle.sm_opening.specs.declared.fault.OpenFault.TheVariants.{Unopened, NoMemory as OutOfMemory}
use Rattle.sm_opening.specs.Judged.{IsNoDiskFault}
use Rattle.sm_opening.specs.Whole.{world_on, IsSoundOn}
use Rattle.sm_opening.proofs.Once.{the_parts}
use Rattle.sm_opening.proofs.Progress.{same_disks}

module _ {D : Type 0} (state : D → DiskState) (olds news : List D) where
  abbrev d : Disks
  d = disks_of state olds

  -- what no disk failed in counts nothing
  pub not_counted : (e : OpenFault) → IsNoDiskFault e → IsFaultCounted state olds news e
  not_counted (Unopened disk kind) free = λ is. absurd (free is)
  not_counted OutOfMemory free = tt

  -- the records are not read
  module _ {B : Type 0} (e : OpenFault) (looks : Looks {A = B} state (IsReadingDamage d) olds news (Err e)) (whole : AllTold state olds → (k : Catalog) (rs : List Root) → IsReadWorld d k rs → Fails e) where
    pub unread : {A : Type 0} → Looks {A = A} state (IsDamage d) olds news (Err e)
    unread = record {
      moves = looks.moves;
      counted = looks.counted;
      faults = λ told. elim (looks.faults told) [
        | inl (f, inl p, is) ↦ inl (f, inl p, is)
        | inl (f, inr p, is) ↦ inl (f, inr (inl p), is)
        | inr fails ↦ inr fails
      ];
      exact = λ told f p. elim p [
        | inl first ↦ looks.exact told f (inl first)
        | inr (inl volumes) ↦ looks.exact told f (inr volumes)
        | inr (inr (k, rs, read, more)) ↦ inr (whole told k rs read)
      ];
    }

  module _ {B : Type 0} (b : B) (r : ReadRecords) (looks : Looks {A = B} state (IsReadingDamage d) olds news (Ok b)) (read : AllTold state olds → IsReadWorld d r.catalog.value (map root_of r.founds)) where
    -- what is said of the whole is said of these records
    of_these : AllTold state olds → (f : Damage) (k : Catalog) (rs : List Root) → IsReadWorld d k rs → IsWholeDamage d k (world_of d k rs) f → IsWholeDamage d r.catalog.value (world_on d r) f
    of_these told f k rs other whole =
        let same = the_parts d k r.catalog.value rs (map root_of r.founds) other (read told) in
        subst (λ (l : List Root). IsWholeDamage d r.catalog.value (world_of d r.catalog.value l) f) same.1 (subst (λ (j : Catalog). IsWholeDamage d j (world_of d j rs) f) same.0 whole)

    sizes : (lengths : List ℕ) → lengths ≡ map (size_of state) news → d.sizes ≡ lengths
    sizes lengths is = sym (is ∙ ap (λ (x : Disks). x.sizes) (same_disks state olds news looks.moves))

    -- together they are wrong
    module _ {A : Type 0} (e : OpenFault) (lengths : List ℕ) (is : lengths ≡ map (size_of state) news)
        (faults : (x : Disks) → x.sizes ≡ lengths → IsDamageOf (IsWholeDamage x r.catalog.value (world_on x r)) e)
        (exact : (x : Disks) → x.sizes ≡ lengths → (f : Damage) → IsWholeDamage x r.catalog.value (world_on x r) f → AnswersDamage {A = A} f (Err e))
        (counted : IsFaultCounted state olds news e) where
      pub wrong : Looks {A = A} state (IsDamage d) olds news (Err e)
      wrong = record {
        moves = looks.moves;
        counted = counted;
        faults = λ told. elim (faults d (sizes lengths is)) [
          | inl (f, p, eq) ↦ inl (f, inr (inr (r.catalog.value, map root_of r.founds, read told, p)), eq)
          | inr fails ↦ inr fails
        ];
        exact = λ told f p. elim p [
          | inl first ↦ absurd (looks.exact told f (inl first))
          | inr (inl volumes) ↦ absurd (looks.exact told f (inr volumes))
          | inr (inr (k, rs, other, more)) ↦ exact d (sizes lengths is) f (of_these told f k rs other more)
        ];
      }

    -- together they are right
    module _ (lengths : List ℕ) (is : lengths ≡ map (size_of state) news) (sound : IsSoundOn lengths r) where
      pub right : {A : Type 0} (x : A) → ((y : Disks) → y.sizes ≡ lengths → (f : Damage) → IsWholeDamage y r.catalog.value (world_on y r) f → AnswersDamage f (Ok x)) → Looks {A = A} state (IsDamage d) olds news (Ok x)
      right x exact = record {
        moves = looks.moves;
        counted = tt;
        faults = λ told. tt;
        exact = λ told f p. elim p [
          | inl first ↦ absurd (looks.exact told f (inl first))
          | inr (inl volumes) ↦ absurd (looks.exact told f (inr volumes))
          | inr (inr (k, rs, other, more)) ↦ exact d (sizes lengths is) f (of_these told f k rs other more)
        ];
      }

      pub spelled : AllTold state olds → Spells d (world_on d r)
      spelled told = let s = sound d (sizes lengths is) in record { catalog = r.catalog.value; roots = map root_of r.founds; read = read told; is = refl; crossed = s.0; shaped = s.1 }
