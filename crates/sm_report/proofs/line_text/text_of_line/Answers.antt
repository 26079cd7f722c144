use Rattle.std.proofs.Common.{append_assoc, refl}
use Rattle.sm_report.proofs.line_text.text_of_line.Goals as goal

pub returns-in_ok-format-in-Head : goal.returns-in_ok-format-in-Head
returns-in_ok-format-in-Head c = simp (c.in-Head.is, c.in_ok-format-in-Head.ensures.ok, append_assoc) refl

pub returns-in_ok-format-in-Volume : goal.returns-in_ok-format-in-Volume
returns-in_ok-format-in-Volume c = simp (c.in-Volume.is, c.in_ok-format-in-Volume.ensures.ok, append_assoc) refl

pub returns-in_ok-format-in-Snapshot : goal.returns-in_ok-format-in-Snapshot
returns-in_ok-format-in-Snapshot c = simp (c.in-Snapshot.is, c.in_ok-format-in-Snapshot.ensures.ok, c.in_ok-words-in-Snapshot.ensures, c.in_ok-maker-in-Snapshot.ensures, c.in_ok-digits-in-Snapshot.ensures, append_assoc) refl
