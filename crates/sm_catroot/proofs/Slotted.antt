-- The spelling of a catalogue is a record of a slot.
use Rattle.std.proofs.Common.{◌≡◌, List, ℕ, refl, subst, sym, arith}
use Rattle.sm_fields.specs.Grammar.{digits}
use Rattle.sm_slots.specs.Stored.{IsFramed}
use Rattle.sm_slots.proofs.Framed.{framed_record}
use Rattle.sm_catroot.specs.declared.TheConstants.{MAGIC}
use Rattle.sm_catroot.specs.Catalog.{Catalog}
use Rattle.sm_catroot.specs.Condition.{IsCatalog}
use Rattle.sm_catroot.specs.Spelling.{body_bytes, spelling}
use Rattle.sm_catroot.proofs.Lengths.{body_short}

framed_spelling : (k : Catalog) → IsCatalog k → IsFramed (spelling k)
unfolding digits
framed_spelling k is = framed_record MAGIC (body_bytes k) refl refl (let s = body_short k is in omega (arith, s))

pub is_framed : (k : Catalog) (bytes : List ℕ) → IsCatalog k → bytes ≡ spelling k → IsFramed bytes
is_framed k bytes is same = subst IsFramed (sym same) (framed_spelling k is)
