-- The edges of the mirrors, and the first relationship that needs a snapshot.
use Rattle.std.proofs.Common.{◌≡◌, ℕ, zero, suc, ◌<◌, ◌==◌, ◌||◌, ◌&&◌, Bool, true, false, cond, List, [], ◌∷◌, ◌++◌, map, take, drop, refl, sym, ap, ◌∙◌, subst, Some, Result, Ok, Err, IfOk, arith}
use Rattle.std.specs.Prelude.{slice_get}
use Rattle.std.specs.List.{list_any, find, filter}
use Rattle.std.proofs.lemmas.Bool.Decides.{nat_tests}
use Rattle.std.proofs.lemmas.Bool.{ne_eqb}
use Rattle.sm_defs.specs.Words.{Ascends}
use Rattle.sm_defs.specs.Relationship.{Relationship}
use Rattle.sm_defs.specs.Edges.{edge_of}
use Rattle.sm_defs.proofs.Members.{get_among, among_map, among_each}
use Rattle.sm_relation.specs.declared.relation.Relation.{Relation}
use Rattle.sm_catroot.specs.Condition.{number_of}
use Rattle.sm_graph.specs.Links.{Link, is_walked, edges_of}
use Rattle.sm_graph.specs.Links as links
use Rattle.sm_node.specs.Nodes.{stopped_relation}
use Rattle.sm_node.specs.Holding.{link_of, with_link}

abbrev pub links_of : (Relation → Bool) → List Relation → List Link
links_of p rs = map link_of (filter p rs)

-- ---- no two relationships have one number

skips : (b : Bool) (p : Link → Bool) (r : Relation) (rs : List Relation) → p (link_of r) ≡ false → list_any p (map link_of rs) ≡ false → list_any p (map link_of (cond b (r ∷ rs) rs)) ≡ false
skips true p r rs e h = ap (λ x. x || list_any p (map link_of rs)) e ∙ h
skips false p r rs e h = h

pub number_is_new : (p : Relation → Bool) (rs : List Relation) (i : ℕ) (r : Relation) → Ascends (map number_of rs) → slice_get rs i ≡ Some r → list_any (λ (l : Link). l.number == r.number.0) (links_of p (take i rs)) ≡ false
number_is_new p [] i r a e = absurd (cc)
number_is_new p (q ∷ rs) zero r a e = refl
number_is_new p (q ∷ rs) (suc i) r a e =
    let less : q.number.0 < r.number.0 = among_each (λ (m : ℕ). q.number.0 < m) (map number_of rs) r.number.0 a.0 (among_map number_of rs r (get_among rs i r e)) in
    skips (p q) (λ (l : Link). l.number == r.number.0) q (filter p (take i rs)) (ne_eqb q.number.0 r.number.0 (λ same. omega arith)) (number_is_new p rs i r a.1 e)

-- ---- one relationship more

with_by : (b : Bool) (r : Relation) (ls : List Link) → with_link b r ls ≡ ls ++ map link_of (cond b (r ∷ []) [])
with_by true r ls = refl
with_by false r [] = refl
with_by false r (l ∷ ls) = ap (λ xs. l ∷ xs) (with_by false r ls)

cons_links : (b : Bool) (q : Relation) (rs : List Relation) (ls : List Link) → map link_of (cond b (q ∷ rs) rs) ++ ls ≡ cond b (link_of q ∷ (map link_of rs ++ ls)) (map link_of rs ++ ls)
cons_links true q rs ls = refl
cons_links false q rs ls = refl

links_cons : (b : Bool) (q : Relation) (rs : List Relation) → map link_of (cond b (q ∷ rs) rs) ≡ cond b (link_of q ∷ map link_of rs) (map link_of rs)
links_cons true q rs = refl
links_cons false q rs = refl

pub links_more : (p : Relation → Bool) (rs : List Relation) (i : ℕ) (r : Relation) → slice_get rs i ≡ Some r → links_of p (take (suc i) rs) ≡ links_of p (take i rs) ++ map link_of (cond (p r) (r ∷ []) [])
links_more p [] i r e = absurd (cc)
links_more p (q ∷ rs) zero r e =
    let same : q ≡ r = cc in
    ap (λ (x : Relation). map link_of (cond (p x) (x ∷ []) [])) same
links_more p (q ∷ rs) (suc i) r e =
    links_cons (p q) q (filter p (take (suc i) rs))
    ∙ ap (λ ls. cond (p q) (link_of q ∷ ls) ls) (links_more p rs i r e)
    ∙ sym (cons_links (p q) q (filter p (take i rs)) (map link_of (cond (p r) (r ∷ []) [])))

pub links_on : (p : Relation → Bool) (rs : List Relation) (i j : ℕ) (r : Relation) (ls more : List Link) → j ≡ suc i → slice_get rs i ≡ Some r → ls ≡ links_of p (take i rs) → more ≡ with_link (p r) r ls → more ≡ links_of p (take j rs)
links_on p rs i j r ls more after is so_far next =
    next ∙ with_by (p r) r ls ∙ ap (λ (xs : List Link). xs ++ map link_of (cond (p r) (r ∷ []) [])) so_far ∙ sym (links_more p rs i r is)
    ∙ ap (λ (n : ℕ). links_of p (take n rs)) (sym after)

-- ---- as edges

edge_by : (b : Bool) (r : Relation) (rs : List Relation) (es : List Relationship) → map links.edge_of (filter (is_walked false) (map link_of rs)) ≡ map edge_of es
    → map links.edge_of (filter (is_walked false) (map link_of (cond b (r ∷ rs) rs))) ≡ map edge_of (cond b (stopped_relation r ∷ es) es)
edge_by true r rs es e = ap (λ xs. links.edge_of (link_of r) ∷ xs) e
edge_by false r rs es e = e

pub edges_are : (p : Relationship → Bool) (rs : List Relation) → edges_of false (links_of (λ r. p (stopped_relation r)) rs) ≡ map edge_of (filter p (map stopped_relation rs))
edges_are p [] = refl
edges_are p (r ∷ rs) = edge_by (p (stopped_relation r)) r (filter (λ r. p (stopped_relation r)) rs) (filter p (map stopped_relation rs)) (edges_are p rs)

-- ---- the first that needs a snapshot

pub find_on : (p : Relationship → Bool) (rs : List Relation) (i : ℕ) (r : Relation) → slice_get rs i ≡ Some r → p (stopped_relation r) ≡ false → find p (map stopped_relation (drop i rs)) ≡ find p (map stopped_relation (drop (suc i) rs))
find_on p [] i r e h = absurd (cc)
find_on p (q ∷ rs) zero r e h = let same : q ≡ r = cc in ap (λ (b : Bool). cond b (Some (stopped_relation q)) (find p (map stopped_relation rs))) (subst (λ (x : Relation). p (stopped_relation x) ≡ false) (sym same) h)
find_on p (q ∷ rs) (suc i) r e h = find_on p rs i r e h

pub find_here : (p : Relationship → Bool) (rs : List Relation) (i : ℕ) (r : Relation) → slice_get rs i ≡ Some r → p (stopped_relation r) ≡ true → find p (map stopped_relation (drop i rs)) ≡ Some (stopped_relation r)
find_here p [] i r e h = absurd (cc)
find_here p (q ∷ rs) zero r e h = let same : q ≡ r = cc in subst (λ (x : Relation). cond (p (stopped_relation x)) (Some (stopped_relation x)) (find p (map stopped_relation rs)) ≡ Some (stopped_relation r)) (sym same) (ap (λ (b : Bool). cond b (Some (stopped_relation r)) (find p (map stopped_relation rs))) h)
find_here p (q ∷ rs) (suc i) r e h = find_here p rs i r e h

-- ---- one relationship's need, in the order in which the code asks

pub by_base : (a b : Bool) → b ≡ true → true ≡ (a || b)
by_base true b e = refl
by_base false b e = sym e

pub by_none : (a b d : Bool) → a ≡ false → d ≡ false → false ≡ ((a && b) || d)
by_none true b d e f = absurd (cc)
by_none false b d e f = sym f

equal_either_way : (m n : ℕ) → (m == n) ≡ (n == m)
equal_either_way m n = grind (arith, nat_tests)

or_none : (b d : Bool) → d ≡ false → b ≡ (b || d)
or_none true d e = refl
or_none false d e = sym e

pub by_edges : (s : Bool) (v source : ℕ) (up d closes : Bool) → s ≡ true → d ≡ false → closes ≡ ((v == source) || up) → closes ≡ ((s && ((source == v) || up)) || d)
by_edges false v source up d closes e f h = absurd (cc)
by_edges true v source up d closes e f h = h ∙ ap (λ (b : Bool). b || up) (equal_either_way v source) ∙ or_none ((source == v) || up) d f

pub ok_so : {A E : Type 0} (r : Result A E) (P Q : A → Type 0) → IfOk r P → ((x : A) → P x → Q x) → IfOk r Q
ok_so (Ok x) P Q h so = so x h
ok_so (Err e) P Q h so = tt
