-- What a relationship needs at its own two volumes.
use Rattle.std.proofs.Common.{◌≡◌, true, Option, Some, refl, sym, subst, eq-eqb}
use Rattle.std.proofs.lemmas.Bool.{and_from, or_left, or_right}
use Rattle.sm_base.specs.declared.numbers.Ident.{Ident}
use Rattle.sm_defs.specs.Words.{Among, is_ident, has_ident, same_ident}
use Rattle.sm_defs.specs.Relationship.{Relationship, Transfer, legs_of}
use Rattle.sm_defs.specs.Needed.{needed, needed_for}
use Rattle.sm_defs.specs.World.{Up}
use Rattle.sm_defs.proofs.Members.{any_among}
use Rattle.sm_defs.proofs.Idents.{is_same}

is_base : (o : Option Ident) (i : Ident) → o ≡ Some i → is_ident o i ≡ true
is_base o i e = subst (λ y. is_ident y i ≡ true) (sym e) (is_same i i refl)

pub base_at_source : (w : Up) (r : Relationship) (i : Ident) → Among w.relations r → r.source_half ≡ true → r.base ≡ Some i → needed w r.source i ≡ true
base_at_source w r i m h e = any_among (needed_for w r.source i) w.relations r m
    (or_left _ _ (and_from _ _ (and_from _ _ h (or_left _ _ (is_base r.base i e))) (or_left _ _ (eq-eqb r.source r.source refl))))

pub base_at_destination : (w : Up) (r : Relationship) (i : Ident) → Among w.relations r → r.destination_half ≡ true → r.base ≡ Some i → needed w r.destination i ≡ true
base_at_destination w r i m h e = any_among (needed_for w r.destination i) w.relations r m
    (or_right _ _ (and_from _ _ (and_from _ _ h (eq-eqb r.destination r.destination refl)) (is_base r.base i e)))

legs_have : (o : Option Transfer) (t : Transfer) (i : Ident) → o ≡ Some t → Among t.legs i → has_ident (legs_of o) i ≡ true
legs_have o t i e m = subst (λ y. has_ident (legs_of y) i ≡ true) (sym e) (any_among (λ j. same_ident j i) t.legs i m (is_same i i refl))

pub leg_at_source : (w : Up) (r : Relationship) (t : Transfer) (i : Ident) → Among w.relations r → r.source_half ≡ true → r.transfer ≡ Some t → Among t.legs i → needed w r.source i ≡ true
leg_at_source w r t i m h e n = any_among (needed_for w r.source i) w.relations r m
    (or_left _ _ (and_from _ _ (and_from _ _ h (or_right (is_ident r.base i) _ (legs_have r.transfer t i e n))) (or_left _ _ (eq-eqb r.source r.source refl))))
