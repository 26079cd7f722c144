-- The lines of tables and of the report, as what a disk keeps has them.
use Rattle.sm_base.specs.declared.numbers.VolNo.{VolNo}
use Rattle.sm_root.specs.declared.root.RootSnapshot.{RootSnapshot}
use Rattle.sm_model.specs.declared.reply.Line.{Line}
use Rattle.sm_model.specs.declared.reply.Line.TheVariants as lines

abbrev pub listed : VolNo → RootSnapshot → Line
listed number s = lines.Listed number s.name s.ident s.label s.time s.made
