-- No two relationships have transfers of one number.
use Rattle.std.proofs.Common.{◌≡◌, ◌⊎◌, ℕ, List, [], ◌∷◌, Option, Some, None, sym, ap, ◌∙◌, inl, inr}
use Rattle.std.specs.List.{filter_map}
use Rattle.std.specs.Option.{option_map}
use Rattle.sm_defs.specs.Words.{Among, KeysDiffer}
use Rattle.sm_defs.specs.Relationship.{Relationship, Transfer}
use Rattle.sm_defs.proofs.Members.{among_each}
use Rattle.sm_model.specs.Crossed.{transfer_number}

number_is : (r : Relationship) (t : Transfer) → r.transfer ≡ Some t → transfer_number r ≡ Some t.number
number_is r t e = ap (option_map (λ (u : Transfer). u.number)) e

head_differs : (o : Option ℕ) (rs : List Relationship) (n m : ℕ) → KeysDiffer (λ (k : ℕ). k) (Rattle.std.specs.List.cons_option o (filter_map transfer_number rs)) → o ≡ Some n → Among (filter_map transfer_number rs) m → m ≡ n → ⊥
head_differs None rs n m d e k f = absurd (cc)
head_differs (Some x) rs n m d e k f = among_each (λ y. ¬ (y ≡ x)) (filter_map transfer_number rs) m d.0 k (f ∙ sym (Rattle.std.proofs.lemmas.Option.same_Some x n e))

pub tail_differ : (o : Option ℕ) (ns : List ℕ) → KeysDiffer (λ (k : ℕ). k) (Rattle.std.specs.List.cons_option o ns) → KeysDiffer (λ (k : ℕ). k) ns
tail_differ None ns d = d
tail_differ (Some x) ns d = d.1

pub cons_among : (o : Option ℕ) (ns : List ℕ) (n : ℕ) → (o ≡ Some n) ⊎ Among ns n → Among (Rattle.std.specs.List.cons_option o ns) n
cons_among None ns n (inl e) = absurd (cc)
cons_among None ns n (inr m) = m
cons_among (Some x) ns n (inl e) = inl (sym (Rattle.std.proofs.lemmas.Option.same_Some x n e))
cons_among (Some x) ns n (inr m) = inr m

numbers_among : (rs : List Relationship) (r : Relationship) (t : Transfer) → Among rs r → r.transfer ≡ Some t → Among (filter_map transfer_number rs) t.number
numbers_among [] r t m e = absurd m
numbers_among (p ∷ rs) r t (inl i) e = cons_among (transfer_number p) (filter_map transfer_number rs) t.number (inl (ap transfer_number (sym i) ∙ number_is r t e))
numbers_among (p ∷ rs) r t (inr m) e = cons_among (transfer_number p) (filter_map transfer_number rs) t.number (inr (numbers_among rs r t m e))

pub same_relation : (rs : List Relationship) (r q : Relationship) (t u : Transfer) → KeysDiffer (λ (n : ℕ). n) (filter_map transfer_number rs) → Among rs r → Among rs q → r.transfer ≡ Some t → q.transfer ≡ Some u → t.number ≡ u.number → r ≡ q
same_relation [] r q t u d m n e f g = absurd m
same_relation (p ∷ rs) r q t u d (inl i) (inl j) e f g = i ∙ sym j
same_relation (p ∷ rs) r q t u d (inl i) (inr n) e f g = absurd (head_differs (transfer_number p) rs t.number u.number d (ap transfer_number (sym i) ∙ number_is r t e) (numbers_among rs q u n f) (sym g))
same_relation (p ∷ rs) r q t u d (inr m) (inl j) e f g = absurd (head_differs (transfer_number p) rs u.number t.number d (ap transfer_number (sym j) ∙ number_is q u f) (numbers_among rs r t m e) g)
same_relation (p ∷ rs) r q t u d (inr m) (inr n) e f g = same_relation rs r q t u (tail_differ (transfer_number p) (filter_map transfer_number rs) d) m n e f g
