-- Transfers and relationships have one spelling each.
use Rattle.std.proofs.Common.{◌≡◌, ℕ, ◌<◌, Bool, true, List, [], ◌++◌, length, refl, sym, ap, subst, ◌∙◌}
use Rattle.std.specs.Prelude.{◌&&◌, ◌||◌, not, nat_le, Option, Some, IfSome}
use Rattle.std.specs.List.{flat_map}
use Rattle.std.proofs.lemmas.List.{append-nil}
use Rattle.sm_base.specs.declared.numbers.Ident.{Ident}
use Rattle.sm_base.specs.declared.refusal.Reason.TheVariants.{Restart}
use Rattle.sm_fields.specs.Format.{bits32, identity}
use Rattle.sm_fields.specs.Grammar.{digits, limit, identity_digits, option_digits, IsIdentity, Spells, IsSpelledBy, AllInTurn}
use Rattle.sm_fields.proofs.Spelled.{such_that_spelled, identity_spelled, option_spelled, in_turn_only, in_turn_again}
use Rattle.sm_relation.specs.declared.relation.Relation.{Relation}
use Rattle.sm_relation.specs.declared.relation.Standing.{Standing}
use Rattle.sm_catroot.specs.declared.parts.TransferHead.{TransferHead}
use Rattle.sm_catroot.specs.declared.TheConstants.{MOST_LEGS}
use Rattle.sm_catroot.specs.Layout.{may_be_leg, leg, legs, leg_count, standing, transfer, relation}
use Rattle.sm_catroot.specs.Spelling.{transfer_head_digits, transfer_head_of, transfer_digits, relation_head_digits, relation_head_of, relation_digits}
use Rattle.sm_catroot.proofs.PartsSpelled.{FitsTransferHead, transfer_head_spelled, FitsRelationHead, relation_head_spelled}

abbrev pub FitsLeg : ℕ → TransferHead → ℕ → List Ident → Ident → Type 0
FitsLeg source h n before i = IsIdentity i × (may_be_leg source h n (length before) i ≡ true)

leg_spelled : (source : ℕ) (h : TransferHead) (n : ℕ) (before : List Ident) → IsSpelledBy (leg source h n before) (FitsLeg source h n before) identity_digits
leg_spelled source h n before = such_that_spelled identity IsIdentity identity_digits (may_be_leg source h n (length before)) identity_spelled

abbrev pub FitsCount : Bool → ℕ → Type 0
FitsCount reserved n = (n < limit bits32) × ((nat_le n MOST_LEGS && (not reserved || nat_le 1 n)) ≡ true)

pub record FitsTransfer (source : ℕ) (t : Standing) : Type 0 where
  pub head : FitsTransferHead (transfer_head_of t)
  pub count : FitsCount t.reserved (length t.legs)
  pub legs : AllInTurn (FitsLeg source (transfer_head_of t) (length t.legs)) [] t.legs
  pub stopped : t.stopped ≡ Some Restart

transfer_only : (source : ℕ) (v : Standing) (bytes : List ℕ) → Spells (transfer source) v bytes → FitsTransfer source v × (bytes ≡ transfer_digits v)
unfolding transfer transfer_digits legs leg_count
transfer_only source v bytes s =
    let a = s.4 in
    let b = a.4 in
    let h = transfer_head_spelled.only s.0 s.1 s.3 in
    let l = in_turn_only (leg source s.0 a.0) (FitsLeg source s.0 a.0) identity_digits (leg_spelled source s.0 a.0) [] a.0 b.0 b.1 b.3 in
    let tail : a.2 ≡ flat_map identity_digits b.0 = b.5 ∙ rw (l.2, b.4.1) (append-nil (flat_map identity_digits b.0)) in
    let whole : bytes ≡ transfer_head_digits s.0 ++ (digits bits32 (length b.0) ++ flat_map identity_digits b.0) = s.5 ∙ rw (h.1, a.5, a.3.0.1, tail, l.0) refl in
    rw b.4.0 (
      record {
        head = h.0;
        count = subst (FitsCount s.0.reserved) (sym l.0) (a.3.0.0, a.3.1);
        legs = subst (λ (n : ℕ). AllInTurn (FitsLeg source s.0 n) [] b.0) (sym l.0) l.1;
        stopped = refl;
      },
      whole,
    )

transfer_again : (source : ℕ) (v : Standing) → FitsTransfer source v → Spells (transfer source) v (transfer_digits v)
unfolding transfer transfer_digits legs leg_count
transfer_again source v fits =
    let h = transfer_head_of v in
    let n = length v.legs in
    let list = in_turn_again (leg source h n) (FitsLeg source h n) identity_digits (leg_spelled source h n) [] v.legs fits.legs in
    let is : v ≡ standing h v.legs = ap (λ (o : Option _). record v { stopped = o }) fits.stopped in (
      h,
      transfer_head_digits h,
      digits bits32 n ++ flat_map identity_digits v.legs,
      transfer_head_spelled.spelled h fits.head,
      (
        n,
        digits bits32 n,
        flat_map identity_digits v.legs,
        ((fits.count.0, refl), fits.count.1),
        (v.legs, flat_map identity_digits v.legs, [], list, (is, refl), sym (append-nil (flat_map identity_digits v.legs))),
        refl,
      ),
      refl,
    )

pub transfer_spelled : (source : ℕ) → IsSpelledBy (transfer source) (FitsTransfer source) transfer_digits
transfer_spelled source = record { only = transfer_only source; spelled = transfer_again source }

pub record FitsRelation (last : ℕ) (r : Relation) : Type 0 where
  pub head : FitsRelationHead last (relation_head_of r)
  pub base : IfSome r.base IsIdentity
  pub transfer : IfSome r.transfer (FitsTransfer r.source.0)

relation_only : (last : ℕ) (v : Relation) (bytes : List ℕ) → Spells (relation last) v bytes → FitsRelation last v × (bytes ≡ relation_digits v)
unfolding relation relation_digits
relation_only last v bytes s =
    let a = s.4 in
    let b = a.4 in
    let h = (relation_head_spelled last).only s.0 s.1 s.3 in
    let i = (option_spelled identity IsIdentity identity_digits identity_spelled).only a.0 a.1 a.3 in
    let t = (option_spelled (transfer s.0.source.0) (FitsTransfer s.0.source.0) transfer_digits (transfer_spelled s.0.source.0)).only b.0 b.1 b.3 in
    let tail : a.2 ≡ option_digits transfer_digits b.0 = b.5 ∙ rw (t.1, b.4.1) (append-nil (option_digits transfer_digits b.0)) in
    let whole : bytes ≡ relation_head_digits s.0 ++ (option_digits identity_digits a.0 ++ option_digits transfer_digits b.0) = s.5 ∙ rw (h.1, a.5, i.1, tail) refl in
    rw b.4.0 (record { head = h.0; base = i.0; transfer = t.0 }, whole)

relation_again : (last : ℕ) (v : Relation) → FitsRelation last v → Spells (relation last) v (relation_digits v)
unfolding relation relation_digits
relation_again last v fits =
    let h = relation_head_of v in (
      h,
      relation_head_digits h,
      option_digits identity_digits v.base ++ option_digits transfer_digits v.transfer,
      (relation_head_spelled last).spelled h fits.head,
      (
        v.base,
        option_digits identity_digits v.base,
        option_digits transfer_digits v.transfer,
        (option_spelled identity IsIdentity identity_digits identity_spelled).spelled v.base fits.base,
        (
          v.transfer,
          option_digits transfer_digits v.transfer,
          [],
          (option_spelled (transfer v.source.0) (FitsTransfer v.source.0) transfer_digits (transfer_spelled v.source.0)).spelled v.transfer fits.transfer,
          (refl, refl),
          sym (append-nil (option_digits transfer_digits v.transfer)),
        ),
        refl,
      ),
      refl,
    )

pub relation_spelled : (last : ℕ) → IsSpelledBy (relation last) (FitsRelation last) relation_digits
relation_spelled last = record { only = relation_only last; spelled = relation_again last }
