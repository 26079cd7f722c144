-- What is found breadth first is what lies upstream.
use Rattle.std.proofs.Common.{◌≡◌, ◌≤◌, ◌<◌, ◌⊎◌, ℕ, zero, suc, true, List, [], ◌∷◌, map, length, Option, None, Some, nat_eq, refl, sym, ap, subst, ◌∙◌, inl, inr, arith}
use Rattle.std.proofs.lemmas.Bool.{cases_lt, eq-eqb}
use Rattle.std.proofs.lemmas.Option.{slice_get_within, same_Some}
use Rattle.std.proofs.lemmas.Map.Made.{length-le_from_is_member}
use Rattle.std.proofs.Math.ListN.{length-map}
use Rattle.std.specs.List.{list_any, IsDistinct}
use Rattle.std.specs.Prelude.{slice_get}
use Rattle.std.specs.Cmp.{both_ways, nat_eq_equiv}
use Rattle.indexmap.specs.IndexSet.{insert_all}
use Rattle.sm_defs.specs.Words.{Among}
use Rattle.sm_defs.specs.Edges.{Edge, leads, upstream}
use Rattle.sm_defs.proofs.Members.{any_among, among_map, among_left}
use Rattle.sm_graph.specs.Walks.{sources_of, with_sources, found_after}
use Rattle.sm_graph.proofs.Growing.{Grows, among_here, grows_all, get_grown, place_among}
use Rattle.sm_graph.proofs.Leading.{joins_source, source_joins, starts_walk, walk_starts, leads_within}

-- from the volume at a place a walk of no more edges than its place leads to v; the sources of v are found, and those
-- of each volume that was visited
record Searched (es : List Edge) (v n : ℕ) (ks : List ℕ) : Type 0 where
  pub sound : (i x : ℕ) → slice_get ks i ≡ Some x → leads es (suc i) x v ≡ true
  pub direct : (y : ℕ) → Among (sources_of es v) y → Among ks y
  pub visited : (j x y : ℕ) → j < n → slice_get ks j ≡ Some x → Among (sources_of es x) y → Among ks y

sound_grown : (es : List Edge) (v n : ℕ) (ks xs new : List ℕ) → Grows ks xs new → ((i x : ℕ) → slice_get ks i ≡ Some x → leads es (suc i) x v ≡ true) →
    ((y : ℕ) → Among xs y → leads es n y v ≡ true) → n ≤ suc (length ks) → (i x : ℕ) → slice_get new i ≡ Some x → leads es (suc i) x v ≡ true
sound_grown es v n ks xs new g sound each l i x e = go (get_grown ks g.more i x (subst (λ l. slice_get l i ≡ Some x) g.is e))
  where
    go : (slice_get ks i ≡ Some x) ⊎ ((length ks ≤ i) × Among g.more x) → leads es (suc i) x v ≡ true
    go (inl s) = sound i x s
    go (inr (far, m)) = leads_within es n (suc i) x v (omega arith) (each x (g.each x m))

leads_direct : (es : List Edge) (v y : ℕ) → Among (sources_of es v) y → leads es 1 y v ≡ true
leads_direct es v y m = walk_starts es 0 y v (record { next = v; joins = joins_source es y v m; onward = inl refl })

leads_first : (es : List Edge) (v n x y : ℕ) → leads es n x v ≡ true → Among (sources_of es x) y → leads es (suc n) y v ≡ true
leads_first es v n x y h m = walk_starts es n y v (record { next = x; joins = joins_source es y x m; onward = inr h })

visited_grown : (es : List Edge) (n x : ℕ) (ks new : List ℕ) → Grows ks (sources_of es x) new → slice_get ks n ≡ Some x →
    ((j z y : ℕ) → j < n → slice_get ks j ≡ Some z → Among (sources_of es z) y → Among ks y) → (j z y : ℕ) → j < suc n → slice_get new j ≡ Some z → Among (sources_of es z) y → Among new y
visited_grown es n x ks new g at before j z y l e m = go (cases_lt j n) (get_grown ks g.more j z (subst (λ l. slice_get l j ≡ Some z) g.is e))
  where
    within : n < length ks
    within = slice_get_within ks n x at

    go : (j < n) ⊎ (n ≤ j) → (slice_get ks j ≡ Some z) ⊎ ((length ks ≤ j) × Among g.more z) → Among new y
    go p (inr (far, k)) = absurd (omega (arith, within))
    go (inl less) (inl s) = subst (λ l. Among l y) (sym g.is) (among_left ks g.more y (before j z y less s m))
    go (inr more) (inl s) =
        let here : j ≡ n = omega arith in
        let same : z ≡ x = same_Some z x (sym s ∙ (ap (slice_get ks) here ∙ at)) in
        g.all y (subst (λ w. Among (sources_of es w) y) same m)

searched_next : (es : List Edge) (v n : ℕ) (ks : List ℕ) → Searched es v n ks → (o : Option ℕ) → slice_get ks n ≡ o → Searched es v (suc n) (with_sources es ks o)
searched_next es v n ks s None e = record { sound = s.sound; direct = s.direct; visited = visited_too }
  where
    visited_too : (j x y : ℕ) → j < suc n → slice_get ks j ≡ Some x → Among (sources_of es x) y → Among ks y
    visited_too j x y l at m = go (cases_lt j n)
      where
        go : (j < n) ⊎ (n ≤ j) → Among ks y
        go (inl less) = s.visited j x y less at m
        go (inr more) = let here : j ≡ n = omega arith in let none : Some x ≡ None = sym at ∙ (ap (slice_get ks) here ∙ e) in absurd (cc)
searched_next es v n ks s (Some x) e =
    let g = grows_all ks (sources_of es x) in
    let within : n < length ks = slice_get_within ks n x e in
    let few : suc (suc n) ≤ suc (length ks) = omega (arith, within) in
    record {
      sound = sound_grown es v (suc (suc n)) ks (sources_of es x) (insert_all nat_eq ks (sources_of es x)) g s.sound (λ y m. leads_first es v (suc n) x y (s.sound n x e) m) few;
      direct = λ y m. subst (λ l. Among l y) (sym g.is) (among_left ks g.more y (s.direct y m));
      visited = visited_grown es n x ks (insert_all nat_eq ks (sources_of es x)) g e s.visited;
    }

searched : (es : List Edge) (v n : ℕ) → Searched es v n (found_after es v n)
searched es v zero =
    let g = grows_all [] (sources_of es v) in
    let few : 1 ≤ suc 0 = omega arith in
    record {
      sound = sound_grown es v 1 [] (sources_of es v) (insert_all nat_eq [] (sources_of es v)) g (λ i x e. absurd (cc)) (leads_direct es v) few;
      direct = g.all;
      visited = λ j x y l e m. absurd (omega arith);
    }
searched es v (suc n) = searched_next es v n (found_after es v n) (searched es v n) (slice_get (found_after es v n) n) refl

-- each walk begins at one of them
complete : (es : List Edge) (v : ℕ) (ks : List ℕ) → ((y : ℕ) → Among (sources_of es v) y → Among ks y) → ((x y : ℕ) → Among ks x → Among (sources_of es x) y → Among ks y) →
    (n u : ℕ) → leads es n u v ≡ true → Among ks u
complete es v ks direct closed zero u h = absurd (cc)
complete es v ks direct closed (suc n) u h = let s = starts_walk es n u v h in go s.next (source_joins es u s.next s.joins) s.onward (complete es v ks direct closed n s.next)
  where
    go : (x : ℕ) → Among (sources_of es x) u → (x ≡ v) ⊎ (leads es n x v ≡ true) → (leads es n x v ≡ true → Among ks x) → Among ks u
    go x m (inl e) onward = direct u (subst (λ w. Among (sources_of es w) u) e m)
    go x m (inr k) onward = closed x u (onward k) m

-- there are no more of them than edges: an edge begins at each
few_found : (es : List Edge) (v n : ℕ) (ks : List ℕ) → Searched es v n ks → IsDistinct nat_eq ks → length ks ≤ length es
few_found es v n ks s d =
    let most = length-le_from_is_member nat_eq_equiv ks (map (λ (e : Edge). e.from) es) d begins in
    subst (λ l. length ks ≤ l) (length-map es (λ (e : Edge). e.from)) most
  where
    begins : (q : ℕ) → list_any (nat_eq q) ks ≡ true → list_any (nat_eq q) (map (λ (e : Edge). e.from) es) ≡ true
    begins q h =
        let (i, at) = place_among ks q (among_here ks q h) in
        let w = starts_walk es i q v (s.sound i q at) in
        any_among (nat_eq q) (map (λ (e : Edge). e.from) es) w.joins.edge.from (among_map (λ (e : Edge). e.from) es w.joins.edge w.joins.stands) (eq-eqb q w.joins.edge.from (sym w.joins.from))

none_left : (ks : List ℕ) (n : ℕ) → slice_get ks n ≡ None → length ks ≤ n
none_left [] n e = omega arith
none_left (k ∷ ks) zero e = absurd (cc)
none_left (k ∷ ks) (suc n) e = let l = none_left ks n e in omega (arith, l)

-- once no further one is left to visit, or as many were visited as there are edges
pub upstream-found : (es : List Edge) (v n u : ℕ) (ks : List ℕ) → ks ≡ found_after es v n → IsDistinct nat_eq ks → (slice_get ks n ≡ None) ⊎ (length es ≤ n) → list_any (nat_eq u) ks ≡ upstream es u v
upstream-found es v n u ks is d ends = both_ways (list_any (nat_eq u) ks) (upstream es u v) onward back
  where
    s : Searched es v n ks
    s = subst (Searched es v n) (sym is) (searched es v n)

    few : length ks ≤ length es
    few = few_found es v n ks s d

    done_by : (slice_get ks n ≡ None) ⊎ (length es ≤ n) → length ks ≤ n
    done_by (inl e) = none_left ks n e
    done_by (inr l) = omega (arith, few)

    closed : (x y : ℕ) → Among ks x → Among (sources_of es x) y → Among ks y
    closed x y m k =
        let (j, at) = place_among ks x m in
        let within : j < length ks = slice_get_within ks j x at in
        let done = done_by ends in
        s.visited j x y (omega (arith, within, done)) at k

    onward : list_any (nat_eq u) ks ≡ true → upstream es u v ≡ true
    onward h =
        let (i, at) = place_among ks u (among_here ks u h) in
        let within : i < length ks = slice_get_within ks i u at in
        leads_within es (suc i) (length es) u v (omega (arith, within, few)) (s.sound i u at)

    back : upstream es u v ≡ true → list_any (nat_eq u) ks ≡ true
    back h = any_among (nat_eq u) ks u (complete es v ks s.direct closed (length es) u h) (eq-eqb u u refl)
