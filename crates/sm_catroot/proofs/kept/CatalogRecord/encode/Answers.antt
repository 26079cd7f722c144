use Rattle.std.proofs.lemmas.Result.{IfOk-weaker}
use Rattle.sm_catroot.proofs.Slotted.{is_framed}
use Rattle.sm_catroot.proofs.kept.CatalogRecord.encode.Goals as goal

pub returns-clause-framed : goal.returns-clause-framed
returns-clause-framed c = IfOk-weaker c.encode.result _ _ (λ bytes is. is_framed c.args.self.now bytes.items c.requires.fits is) c.encode.ensures.spelled
