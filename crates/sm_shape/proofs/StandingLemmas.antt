-- How a transfer begins, as the definitions speak of it.
use Rattle.std.proofs.Common.{◌≡◌, ◌↔◌, ◌-◌, false, List, [], ◌∷◌, length, take, drop, map, refl, sym, ap, subst, ◌∙◌, arith}
use Rattle.std.proofs.lemmas.List.{take_all}
use Rattle.sm_base.specs.declared.numbers.Kind.{Kind}
use Rattle.sm_base.specs.declared.numbers.Ident.{Ident}
use Rattle.sm_defs.specs.Words.{Among}
use Rattle.sm_defs.specs.Volume.{Volume, Snapshot, has}
use Rattle.sm_defs.specs.Relationship.{Relationship, Transfer}
use Rattle.sm_defs.proofs.Members.{among_map, from_map}
use Rattle.sm_model.specs.TransfersStand.{later, IsFirst, TransferStands}
use Rattle.sm_model.specs.declared.world.WorldSnapshot.{WorldSnapshot}
use Rattle.sm_shape.specs.Blank.{blank_snapshot}
use Rattle.sm_shape.specs.Standing.{Lacks, IsFirstOf, StandsWith}
use Rattle.sm_shape.proofs.ListWords.{all_among, among_all}

pub rest_later : (is : List Ident) → take (length is - 1) (drop 1 is) ≡ later is
rest_later [] = refl
rest_later (i ∷ is) = take_all (length (i ∷ is) - 1) is (omega arith)

module _ (v : Volume) (ss : List WorldSnapshot) (are : map blank_snapshot ss ≡ v.snapshots) where
  lacks_there : (i : Ident) → Lacks ss i → has v.snapshots i ≡ false
  lacks_there i e = ap (λ l. has l i) (sym are) ∙ e

  there_lacks : (i : Ident) → has v.snapshots i ≡ false → Lacks ss i
  there_lacks i e = ap (λ l. has l i) are ∙ e

  pub stands_with : (kind : Kind) → kind ≡ v.kind → (r : Relationship) (t : Transfer) → StandsWith kind ss r t ↔ TransferStands v r t
  stands_with kind same r t = (
    λ f. record {
      writable = λ rw. let b = f.writable (same ∙ rw) in (b.kind, b.checkpoint, b.landed, λ i a. lacks_there i (all_among (Lacks ss) t.legs b.legs i a));
      unpruned = λ rw. (f.writable (same ∙ rw)).unpruned;
      resync = f.resync;
      ahead = λ i a. lacks_there i (all_among (Lacks ss) (later t.legs) f.ahead i a);
      ends = λ none. (f.first_time none).0;
      first_time = λ none s a.
          let x = from_map blank_snapshot ss s (subst (λ l. Among l s) (sym are) a) in
          subst (λ (z : Snapshot). IsFirst t.legs z.ident) (sym x.2) (all_among (IsFirstOf t.legs) ss (f.first_time none).1 x.0 x.1);
    },
    λ f. record {
      writable = λ rw.
          let b = f.writable (sym same ∙ rw) in
          record { kind = b.0; checkpoint = b.1; landed = b.2; unpruned = f.unpruned (sym same ∙ rw); legs = among_all (Lacks ss) t.legs (λ i a. there_lacks i (b.3 i a)) };
      resync = f.resync;
      ahead = among_all (Lacks ss) (later t.legs) (λ i a. there_lacks i (f.ahead i a));
      first_time = λ none. (f.ends none, among_all (IsFirstOf t.legs) ss (λ s a. f.first_time none (blank_snapshot s) (subst (λ l. Among l (blank_snapshot s)) are (among_map blank_snapshot ss s a))));
    },
  )
