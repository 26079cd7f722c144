-- How copies are compared.
use Rattle.std.proofs.Common.{◌≡◌, ℕ, ◌==◌, true, List, refl, sym, ap, ◌∙◌, arith}
use Rattle.std.proofs.lemmas.Bool.{eqb-true, and_parts}
use Rattle.sm_defs.specs.Words.{same_ident}
use Rattle.sm_defs.proofs.Idents.{same_is, same_self}
use Rattle.sm_model.specs.declared.world.WorldSnapshot.{WorldSnapshot}
use Rattle.sm_shape.specs.declared.families.CopyKey.{CopyKey}
use Rattle.sm_shape.specs.Copies.{same_key, Equal, Alike}

pub same_key_is : (x y : CopyKey) → same_key x y ≡ true → x ≡ y
same_key_is x y e =
    let both = and_parts (x.family == y.family) (same_ident x.ident y.ident) e in
    let family : x.family ≡ y.family = eqb-true _ _ both.0 in
    let ident = same_is x.ident y.ident both.1 in
    let first : x ≡ record x { family = y.family } = ap (λ (f : ℕ). record x { family = f }) family in
    first ∙ ap (λ i. record y { ident = i }) ident

pub same_key_self : (x : CopyKey) → same_key x x ≡ true
same_key_self x =
    let a : (x.family == x.family) ≡ true = grind arith in
    rw a (same_self x.ident)

pub equal_self : (x : List ℕ) → Equal x x
equal_self x = refl

pub equal_both : (f x y : List ℕ) → Equal f x → Equal f y → Equal x y
equal_both f x y a b = sym a ∙ b

pub alike_self : (s : WorldSnapshot) → Alike s s
alike_self s = record { name = refl; label = refl; time = refl; maker = refl; long = refl }

pub alike_both : (f s t : WorldSnapshot) → Alike f s → Alike f t → Alike s t
alike_both f s t a b = record { name = sym a.name ∙ b.name; label = sym a.label ∙ b.label; time = sym a.time ∙ b.time; maker = sym a.maker ∙ b.maker; long = sym a.long ∙ b.long }
