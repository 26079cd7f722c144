-- Walks of one edge more.
use Rattle.std.proofs.Common.{◌≡◌, ◌≤◌, ◌<◌, ◌⊎◌, ◌==◌, ◌&&◌, ◌||◌, ℕ, zero, suc, true, List, filter, refl, sym, ap, subst, ◌∙◌, inl, inr, arith}
use Rattle.std.proofs.lemmas.Bool.{cases_lt, and_parts, and_from, or_cases, or_left, or_right, eqb-true, eq-eqb}
use Rattle.sm_defs.specs.Words.{Among}
use Rattle.sm_defs.specs.Edges.{Edge, leads}
use Rattle.sm_defs.proofs.Members.{any_among, among_any, among_map, from_map, filter_among, among_filter}
use Rattle.sm_graph.specs.Walks.{sources_of}

-- an edge of a list from u to v
pub record Joins (es : List Edge) (u v : ℕ) : Type 0 where
  pub edge : Edge
  pub stands : Among es edge
  pub from : edge.from ≡ u
  pub to : edge.to ≡ v

pub joins_source : (es : List Edge) (u v : ℕ) → Among (sources_of es v) u → Joins es u v
joins_source es u v m =
    let (e, n, same) = from_map (λ (e : Edge). e.from) (filter (λ e. e.to == v) es) u m in
    let (k, ends) = among_filter (λ (e : Edge). e.to == v) es e n in
    record { edge = e; stands = k; from = sym same; to = eqb-true e.to v ends }

pub source_joins : (es : List Edge) (u v : ℕ) → Joins es u v → Among (sources_of es v) u
source_joins es u v j =
    let there = filter_among (λ (e : Edge). e.to == v) es j.edge j.stands (eq-eqb j.edge.to v j.to) in
    subst (Among (sources_of es v)) j.from (among_map (λ (e : Edge). e.from) (filter (λ e. e.to == v) es) j.edge there)

-- the first edge of a walk, and what is left of it
pub record Starts (es : List Edge) (n u v : ℕ) : Type 0 where
  pub next : ℕ
  pub joins : Joins es u next
  pub onward : (next ≡ v) ⊎ (leads es n next v ≡ true)

pub starts_walk : (es : List Edge) (n u v : ℕ) → leads es (suc n) u v ≡ true → Starts es n u v
starts_walk es n u v h =
    let (e, m, q) = among_any (λ (e : Edge). (e.from == u) && ((e.to == v) || leads es n e.to v)) es h in
    let (here, on) = and_parts (e.from == u) ((e.to == v) || leads es n e.to v) q in
    record { next = e.to; joins = record { edge = e; stands = m; from = eqb-true e.from u here; to = refl }; onward = go e.to (or_cases (e.to == v) (leads es n e.to v) on) }
  where
    go : (x : ℕ) → ((x == v) ≡ true) ⊎ (leads es n x v ≡ true) → (x ≡ v) ⊎ (leads es n x v ≡ true)
    go x (inl k) = inl (eqb-true x v k)
    go x (inr k) = inr k

pub walk_starts : (es : List Edge) (n u v : ℕ) → Starts es n u v → leads es (suc n) u v ≡ true
walk_starts es n u v s =
    let e = s.joins.edge in
    any_among (λ (e : Edge). (e.from == u) && ((e.to == v) || leads es n e.to v)) es e s.joins.stands
    (and_from (e.from == u) ((e.to == v) || leads es n e.to v) (eq-eqb e.from u s.joins.from) (go e.to s.joins.to s.onward))
  where
    go : (x : ℕ) → x ≡ s.next → (s.next ≡ v) ⊎ (leads es n s.next v ≡ true) → ((x == v) || leads es n x v) ≡ true
    go x same (inl k) = or_left (x == v) (leads es n x v) (eq-eqb x v (same ∙ k))
    go x same (inr k) = or_right (x == v) (leads es n x v) (ap (λ y. leads es n y v) same ∙ k)

-- a shorter walk is one of those that may be longer
leads_more : (es : List Edge) (n u v : ℕ) → leads es n u v ≡ true → leads es (suc n) u v ≡ true
leads_more es zero u v h = absurd (cc)
leads_more es (suc n) u v h = go (λ x. leads_more es n x v) (starts_walk es n u v h)
  where
    further : ((x : ℕ) → leads es n x v ≡ true → leads es (suc n) x v ≡ true) → (x : ℕ) → (x ≡ v) ⊎ (leads es n x v ≡ true) → (x ≡ v) ⊎ (leads es (suc n) x v ≡ true)
    further longer x (inl k) = inl k
    further longer x (inr k) = inr (longer x k)

    go : ((x : ℕ) → leads es n x v ≡ true → leads es (suc n) x v ≡ true) → Starts es n u v → leads es (suc (suc n)) u v ≡ true
    go longer s = walk_starts es (suc n) u v (record { next = s.next; joins = s.joins; onward = further longer s.next s.onward })

pub leads_within : (es : List Edge) (n m u v : ℕ) → n ≤ m → leads es n u v ≡ true → leads es m u v ≡ true
leads_within es n zero u v l h = let same : n ≡ 0 = omega arith in subst (λ k. leads es k u v ≡ true) same h
leads_within es n (suc m) u v l h = go (cases_lt m n) (λ f. leads_within es n m u v f h)
  where
    go : (m < n) ⊎ (n ≤ m) → (n ≤ m → leads es m u v ≡ true) → leads es (suc m) u v ≡ true
    go (inl far) shorter = let same : n ≡ suc m = omega arith in subst (λ k. leads es k u v ≡ true) same h
    go (inr near) shorter = leads_more es m u v (shorter near)
