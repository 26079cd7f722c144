-- Walks along the first of some relationships.
use Rattle.std.proofs.Common.{◌≡◌, ℕ, suc, ◌<◌, ◌-◌, ◌==◌, ◌&&◌, ◌||◌, Bool, true, false, not, List, [], ◌∷◌, length, take, drop, get_or, refl, sym, ap, subst, ◌∙◌, arith, eq-eqb}
use Rattle.std.proofs.lemmas.Bool.{and_parts, ne_eqb}
use Rattle.std.specs.List.{list_any}
use Rattle.sm_defs.specs.Relationship.{Relationship}
use Rattle.sm_defs.specs.World.{Up}
use Rattle.sm_defs.specs.Edges.{Edge, edge_of, leads, is_edge}
use Rattle.oracle_lists.proofs.FirstOf.{others_are}
use Rattle.oracle_world.specs.declared.values.PlainEdges.{PlainEdges}
use Rattle.oracle_world.specs.declared.values.PlainEdges.TheVariants.{All, AllBut, Mirrors}
use Rattle.oracle_world.specs.Walks.{edges_among, is_walked, any_leads}

walked_first : (which : PlainEdges) (w : Up) (q : Relationship) (qs : List Relationship) → is_walked which w q ≡ true → edges_among which w (q ∷ qs) ≡ edge_of q ∷ edges_among which w qs
walked_first All w q qs h = rw h refl
walked_first (AllBut number) w q qs h = let p = and_parts (not (q.number == number.0)) (is_edge w q) h in rw (p.0, p.1) refl
walked_first Mirrors w q qs h = rw h refl

or_false : (b : Bool) → (b || false) ≡ b
or_false true = refl
or_false false = refl

goes_on : (a b x y : Bool) → a ≡ true → b ≡ false → y ≡ false → ((a && (b || x)) || y) ≡ x
goes_on a b x y d e f = rw (d, e, f) (or_false x)

-- where only the first of them may begin the walk, and it goes on
pub last_leads : (which : PlainEdges) (w : Up) (more n u v : ℕ) (rs : List Relationship) (r : Relationship) → more ≡ suc n → 0 < length rs → r ≡ get_or rs 0 r →
    any_leads which w more u v (take (length rs - 1) (drop 1 rs)) ≡ false → is_walked which w r ≡ true → r.source ≡ u → ¬ (r.destination ≡ v) →
    any_leads which w n r.destination v w.relations ≡ any_leads which w more u v rs
last_leads which w more n u v [] r m l e h k s d = absurd (omega arith)
last_leads which w more n u v (q ∷ qs) r m l e h k s d =
    let k' : is_walked which w q ≡ true = subst (λ (x : Relationship). is_walked which w x ≡ true) e k in
    let h' : any_leads which w (suc n) u v qs ≡ false = subst (λ (i : ℕ). any_leads which w i u v qs ≡ false) m (subst (λ (xs : List Relationship). any_leads which w more u v xs ≡ false) (others_are qs) h) in
    let a : (q.source == u) ≡ true = eq-eqb q.source u (subst (λ (x : Relationship). x.source ≡ u) e s) in
    let b : (q.destination == v) ≡ false = ne_eqb q.destination v (subst (λ (x : Relationship). ¬ (x.destination ≡ v)) e d) in
    let F : Edge → Bool = λ x. (x.from == u) && ((x.to == v) || leads (edges_among which w w.relations) (suc n) x.to v) in
    let one : any_leads which w (suc n) u v (q ∷ qs) ≡ any_leads which w n q.destination v w.relations =
    ap (list_any F) (walked_first which w q qs k') ∙ goes_on (q.source == u) (q.destination == v) (leads (edges_among which w w.relations) (suc n) q.destination v) (list_any F (edges_among which w qs)) a b h' in
    ap (λ (x : Relationship). any_leads which w n x.destination v w.relations) e ∙ sym (ap (λ (i : ℕ). any_leads which w i u v (q ∷ qs)) m ∙ one)
