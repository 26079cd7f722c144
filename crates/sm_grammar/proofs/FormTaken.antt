-- The words of the command that was found stand in front.
use Rattle.std.proofs.Common.{◌≡◌, ℕ, Bool, true, false, cond, List, [], ◌∷◌, ◌++◌, Option, Some, None, ◌⊎◌, inl, inr, refl, ap, ◌∙◌}
use Rattle.std.specs.Option.{option_map, option_or}
use Rattle.std.specs.Str.{bytes_eq}
use Rattle.std.proofs.lemmas.Slice.Eq.{bytes_eq-Decides}
use Rattle.sm_grammar.specs.declared.table.Form.{Form}
use Rattle.sm_grammar.specs.Table.{all_forms, form_text}
use Rattle.sm_grammar.specs.Words.{words_of}
use Rattle.sm_grammar.specs.Forms.{behind, form_among, form_of}

if_some : (t : Bool) (o : Option (List (List ℕ))) (rest : List (List ℕ)) → cond t o None ≡ Some rest → (t ≡ true) × (o ≡ Some rest)
if_some true o rest e = (refl, e)
if_some false o rest e = absurd (cc)

behind_taken : (first words rest : List (List ℕ)) → behind first words ≡ Some rest → words ≡ first ++ rest
behind_taken [] words rest e = let same : Some words ≡ Some rest = e in cc
behind_taken (w ∷ ws) [] rest e = absurd (cc)
behind_taken (w ∷ ws) (v ∷ vs) rest e =
    let c = if_some (bytes_eq v w) (behind ws vs) rest e in
    let head = (bytes_eq-Decides v w).0 c.0 in
    rw (head, behind_taken ws vs rest c.1) refl

-- one of two was given
abbrev pick : (Form × List (List ℕ)) → Option (Form × List (List ℕ)) → (Form × List (List ℕ))
pick other None = other
pick other (Some p) = p

either_taken : (form other : Form) (o : Option (List (List ℕ))) (more : Option (Form × List (List ℕ))) (rest : List (List ℕ)) → option_or (option_map (λ r. (form, r)) o) more ≡ Some (other, rest) →
    ((o ≡ Some rest) × (form ≡ other)) ⊎ (more ≡ Some (other, rest))
either_taken form other None more rest e = inr e
either_taken form other (Some r) more rest e = let P : Option (Form × List (List ℕ)) → Form × List (List ℕ) = λ p. pick (form, r) p in let both = ap P e in inl (ap Some (ap (λ (p : Form × List (List ℕ)). p.1) both), ap (λ (p : Form × List (List ℕ)). p.0) both)

form_taken_among : (forms : List Form) (form : Form) (words rest : List (List ℕ)) → form_among forms words ≡ Some (form, rest) → words ≡ words_of (form_text form) ++ rest
form_taken_among [] form words rest e = absurd (cc)
form_taken_among (f ∷ forms) form words rest e =
    elim (either_taken f form (behind (words_of (form_text f)) words) (form_among forms words) rest e) [
      | inl here ↦ behind_taken (words_of (form_text f)) words rest here.0 ∙ ap (λ g. words_of (form_text g) ++ rest) here.1
      | inr later ↦ form_taken_among forms form words rest later
    ]

pub form_taken : (form : Form) (words rest : List (List ℕ)) → form_of words ≡ Some (form, rest) → words ≡ words_of (form_text form) ++ rest
unfolding form_of
form_taken form words rest e = form_taken_among all_forms form words rest e
