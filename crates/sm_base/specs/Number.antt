-- How numbers and kinds are printed.
use Rattle.std.specs.Prelude.{ℕ, List, ◌++◌, codes, decimal}
use Rattle.sm_base.specs.declared.numbers.Ident.{Ident}
use Rattle.sm_base.specs.declared.numbers.Kind.{Kind}
use Rattle.sm_base.specs.declared.numbers.Kind.TheVariants.{Rw, Dp}

-- the origin, a dot and the number
abbrev pub ident_text : Ident → List ℕ
ident_text i = decimal i.origin ++ (codes "." ++ decimal i.seq)

abbrev pub kind_text : Kind → List ℕ
kind_text Rw = codes "rw"
kind_text Dp = codes "dp"
