-- A list has a copy of an identity.
use Rattle.std.proofs.Common.{◌≡◌, true, List}
use Rattle.sm_base.specs.declared.numbers.Ident.{Ident}
use Rattle.sm_defs.specs.Words.{same_ident}
use Rattle.sm_defs.specs.Volume.{Snapshot, has}
use Rattle.sm_defs.proofs.Members.{among_any, any_among}
use Rattle.sm_defs.proofs.Idents.{is_same, same_is}
use Rattle.laws_transfer.specs.Dropping.{HasCopy}

pub copy_from_has : (ss : List Snapshot) (i : Ident) → has ss i ≡ true → HasCopy ss i
copy_from_has ss i e = let (s, m, q) = among_any (λ s. same_ident s.ident i) ss e in (s, m, same_is s.ident i q)

pub has_from_copy : (ss : List Snapshot) (i : Ident) → HasCopy ss i → has ss i ≡ true
has_from_copy ss i (s, m, e) = any_among (λ s. same_ident s.ident i) ss s m (is_same s.ident i e)
