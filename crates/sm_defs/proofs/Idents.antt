-- Two identities are one where their numbers are.
use Rattle.std.proofs.Common.{◌≡◌, ◌==◌, true, refl, ap, ap₂, eqb-true, eq-eqb}
use Rattle.std.proofs.lemmas.Bool.{and_parts, and_from}
use Rattle.sm_base.specs.declared.numbers.Ident.{Ident}
use Rattle.sm_defs.specs.Words.{same_ident}

pub same_is : (i j : Ident) → same_ident i j ≡ true → i ≡ j
same_is i j e = let p = and_parts (i.origin == j.origin) (i.seq == j.seq) e in
    ap₂ (λ a b. record { origin = a; seq = b }) (eqb-true i.origin j.origin p.0) (eqb-true i.seq j.seq p.1)

pub is_same : (i j : Ident) → i ≡ j → same_ident i j ≡ true
is_same i j e = and_from (i.origin == j.origin) (i.seq == j.seq) (eq-eqb _ _ (ap (λ k. k.origin) e)) (eq-eqb _ _ (ap (λ k. k.seq) e))

pub same_self : (i : Ident) → same_ident i i ≡ true
same_self i = is_same i i refl
