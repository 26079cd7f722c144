-- The line of each entry of a history.
use Rattle.std.specs.Prelude.{ℕ, ◌==◌, List, [], ◌∷◌, take, position, codes, decimal, flat_map, Option, Some, None}
use Rattle.sm_model.specs.declared.reply.Entry.{Entry}
use Rattle.sm_report.specs.Texts.{◌then◌}
use Rattle.sm_report.specs.Text.{reply_text}
use Rattle.sm_output.specs.Words.{event_words}

abbrev pub up_to : Option ℕ → List ℕ → List ℕ
up_to (Some at) text = take at text
up_to None text = text

-- what stands before the first line end
abbrev pub first_line : List ℕ → List ℕ
first_line text = up_to (position (λ b. b == 10) text) text

-- actor, line, event, and the first line of the reply's text
abbrev pub listed_text : Entry → List ℕ
listed_text e =
    codes "entry " then decimal e.actor then codes " " then decimal e.line then codes " " then event_words e.event then codes " " then first_line (reply_text e.reply)
    then (10 ∷ [])

abbrev pub listing : List Entry → List ℕ
listing entries = flat_map listed_text entries
