-- The lowest relationship whose edge ends at a volume, among one link more.
use Rattle.std.proofs.Common.{◌≡◌, ◌≤◌, ◌⊎◌, ℕ, List, [], ◌∷◌, ◌++◌, Option, None, Some, refl, sym, ap, ◌∙◌, inl, inr, arith}
use Rattle.sm_base.specs.declared.numbers.RelNo.{RelNo}
use Rattle.sm_defs.specs.Words.{Among}
use Rattle.sm_defs.proofs.Members.{among_left, among_last, among_push}
use Rattle.sm_graph.specs.Links.{Link, IsIncoming, IsLower}

other_ends : (l : Link) (v : ℕ) → ¬ (l.to ≡ v) → (m : Link) → m ≡ l → ¬ (m.to ≡ v)
other_ends l v h m same e = h (ap (λ (x : Link). x.to) (sym same) ∙ e)

-- it ends elsewhere
pub incoming-passed : (ls : List Link) (l : Link) (v : ℕ) (r : Option RelNo) → ¬ (l.to ≡ v) → IsIncoming ls v r → IsIncoming (ls ++ l ∷ []) v r
incoming-passed ls l v None h none = λ m a. go m (among_push ls l m a)
  where
    go : (m : Link) → Among ls m ⊎ (m ≡ l) → ¬ (m.to ≡ v)
    go m (inl a) = none m a
    go m (inr same) = other_ends l v h m same
incoming-passed ls l v (Some r) h low =
    let (m, a, ends, is) = low.stands in record { stands = (m, among_left ls (l ∷ []) m a, ends, is); lowest = λ k b e. go k (among_push ls l k b) e }
  where
    go : (k : Link) → Among ls k ⊎ (k ≡ l) → k.to ≡ v → r.0 ≤ k.number
    go k (inl b) e = low.lowest k b e
    go k (inr same) e = absurd (other_ends l v h k same e)

-- it ends there
pub incoming-lower : (ls : List Link) (l : Link) (v : ℕ) (r : Option RelNo) (number result : RelNo) → l.to ≡ v → l.number ≡ number.0 → IsIncoming ls v r → IsLower r number result → IsIncoming (ls ++ l ∷ []) v (Some result)
incoming-lower ls l v None number result e n none low = record { stands = (l, among_last ls l, e, n ∙ ap (λ (x : RelNo). x.0) (sym is)); lowest = λ k b f. go k (among_push ls l k b) f }
  where
    is : result ≡ number
    is = low.alone refl

    go : (k : Link) → Among ls k ⊎ (k ≡ l) → k.to ≡ v → result.0 ≤ k.number
    go k (inl b) f = absurd (none k b f)
    go k (inr same) f =
        let there : k.number ≡ result.0 = ap (λ (x : Link). x.number) same ∙ (n ∙ ap (λ (x : RelNo). x.0) (sym is)) in
        omega arith
incoming-lower ls l v (Some r) number result e n low both = record { stands = found (both.both r refl).2; lowest = λ k b f. go k (among_push ls l k b) f }
  where
    found : (result ≡ r) ⊎ (result ≡ number) → (m : Link) × Among (ls ++ l ∷ []) m × (m.to ≡ v) × (m.number ≡ result.0)
    found (inl is) = let (m, a, ends, k) = low.stands in (m, among_left ls (l ∷ []) m a, ends, k ∙ ap (λ (x : RelNo). x.0) (sym is))
    found (inr is) = (l, among_last ls l, e, n ∙ ap (λ (x : RelNo). x.0) (sym is))

    go : (k : Link) → Among ls k ⊎ (k ≡ l) → k.to ≡ v → result.0 ≤ k.number
    go k (inl b) f = let p = (both.both r refl).0 in let q = low.lowest k b f in omega (arith, p, q)
    go k (inr same) f = let p = (both.both r refl).1 in let there : k.number ≡ number.0 = ap (λ (x : Link). x.number) same ∙ n in omega (arith, p)
