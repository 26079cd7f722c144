-- Which command a line begins with.
use Rattle.std.specs.Prelude.{ℕ, if◌then◌else◌, List, [], ◌∷◌, Option, Some, None, bytes_eq}
use Rattle.std.specs.Option.{option_map, option_or}
use Rattle.sm_grammar.specs.declared.table.Form.{Form}
use Rattle.sm_grammar.specs.Table.{all_forms, form_text}
use Rattle.sm_grammar.specs.Words.{words_of}

-- the words behind these, where they stand at the front
abbrev pub behind : List (List ℕ) → List (List ℕ) → Option (List (List ℕ))
behind [] words = Some words
behind (w ∷ ws) [] = None
behind (w ∷ ws) (v ∷ vs) = if bytes_eq v w then behind ws vs else None

-- the first of these commands whose words stand at the front, and the words behind
abbrev pub form_among : List Form → List (List ℕ) → Option (Form × List (List ℕ))
form_among [] words = None
form_among (form ∷ forms) words =
    option_or (option_map (λ rest. (form, rest)) (behind (words_of (form_text form)) words)) (form_among forms words)

unfoldable pub form_of : List (List ℕ) → Option (Form × List (List ℕ))
form_of words = form_among all_forms words
