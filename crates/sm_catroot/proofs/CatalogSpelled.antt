-- A catalogue has one spelling, and what the layout spells is exactly the catalogues whose transfers do not run.
use Rattle.std.proofs.Common.{◌≡◌, ℕ, zero, suc, ◌-◌, ◌^◌, ◌<◌, ◌≤◌, true, List, [], ◌++◌, length, get_or, refl, sym, ap, ◌∙◌, arith, length-append, append_assoc, lit<}
use Rattle.std.specs.List.{flat_map}
use Rattle.std.proofs.lemmas.List.{append-nil}
use Rattle.sm_base.specs.declared.limits.TheConstants.{MOST_VOLUMES, MOST_POLICIES, MOST_RELATIONS}
use Rattle.sm_defs.specs.Relationship.{Policy}
use Rattle.sm_fields.specs.Format.{Format, ◌>>=◌, bits32, count, in_turn}
use Rattle.sm_fields.specs.Grammar.{digits, Spells, IsSpelledBy, AllInTurn}
use Rattle.sm_fields.proofs.Sizes.{length-digits}
use Rattle.sm_fields.proofs.Spelled.{count_spelled, in_turn_only, in_turn_again, head_only, head_again, behind_head}
use Rattle.sm_relation.specs.declared.relation.Relation.{Relation}
use Rattle.sm_catroot.specs.declared.placed.Placed.{Placed}
use Rattle.sm_catroot.specs.declared.TheConstants.{MAGIC}
use Rattle.sm_catroot.specs.Catalog.{Catalog}
use Rattle.sm_catroot.specs.Layout.{placed, volumes, volume_list, policy, policies, policy_list, last_number, next_relation, relations, relation_list, body, catalog_record}
use Rattle.sm_catroot.specs.Spelling.{placed_digits, policy_digits, relation_digits, numbers_digits, numbers_of, volumes_bytes, policies_bytes, relations_bytes, body_bytes, spelling}
use Rattle.sm_catroot.proofs.PartsSpelled.{FitsNumbers, numbers_spelled}
use Rattle.sm_catroot.proofs.PathSpelled.{FitsPlaced, placed_spelled}
use Rattle.sm_catroot.proofs.PolicySpelled.{FitsPolicy, policy_spelled}
use Rattle.sm_catroot.proofs.TransferSpelled.{FitsRelation, relation_spelled}

-- ---- lists with their counts

counted : {A : Type 0} (most : ℕ) → most < 2 ^ 32 → (next : List A → Format A) (Fits : List A → A → Type 0) (one : A → List ℕ) → ((before : List A) → IsSpelledBy (next before) (Fits before) one)
    → IsSpelledBy (count most >>= λ n. in_turn next [] n) (λ xs. (length xs ≤ most) × AllInTurn Fits [] xs) (λ xs. digits bits32 (length xs) ++ flat_map one xs)
counted most lt next Fits one by = record {
  only = λ xs bytes s.
      let c = (count_spelled most lt).only s.0 s.1 s.3 in
      let l = in_turn_only next Fits one by [] s.0 xs s.2 s.4 in
      (((let few = c.0 in let long = l.0 in omega (arith, few, long)), l.1), s.5 ∙ rw (c.1, l.2, l.0) refl);
  spelled = λ xs fits. (length xs, digits bits32 (length xs), flat_map one xs, (count_spelled most lt).spelled (length xs) fits.0, in_turn_again next Fits one by [] xs fits.1, refl);
}

abbrev pub FitVolumes : List Placed → Type 0
FitVolumes vs = (length vs ≤ MOST_VOLUMES) × AllInTurn FitsPlaced [] vs

volumes_spelled : IsSpelledBy volume_list FitVolumes volumes_bytes
unfolding volume_list volumes volumes_bytes
volumes_spelled = counted MOST_VOLUMES (lit< tt) placed FitsPlaced placed_digits placed_spelled

abbrev pub FitPolicies : List Policy → Type 0
FitPolicies ps = (length ps ≤ MOST_POLICIES) × AllInTurn FitsPolicy [] ps

policies_spelled : IsSpelledBy policy_list FitPolicies policies_bytes
unfolding policy_list policies policies_bytes
policies_spelled = counted MOST_POLICIES (lit< tt) policy FitsPolicy policy_digits policy_spelled

abbrev pub FitsNext : List Relation → Relation → Type 0
FitsNext before r = FitsRelation (last_number before) r

abbrev pub FitRelations : List Relation → Type 0
FitRelations rs = (length rs ≤ MOST_RELATIONS) × AllInTurn FitsNext [] rs

relations_spelled : IsSpelledBy relation_list FitRelations relations_bytes
unfolding relation_list relations relations_bytes
relations_spelled = counted MOST_RELATIONS (lit< tt) next_relation FitsNext relation_digits (λ before. relation_spelled (last_number before))

-- ---- the body

pub record FitsBody (v : Catalog) : Type 0 where
  pub numbers : FitsNumbers ((numbers_of v))
  pub volumes : FitVolumes v.volumes
  pub policies : FitPolicies v.policies
  pub relations : FitRelations v.relations

body_only : (v : Catalog) (bytes : List ℕ) → Spells (body) v bytes → FitsBody v × (bytes ≡ body_bytes v)
unfolding body body_bytes
body_only v bytes s =
    let t1 = s.4 in
    let t2 = t1.4 in
    let t3 = t2.4 in
    let a0 = (numbers_spelled).only s.0 s.1 s.3 in
    let a1 = (volumes_spelled).only t1.0 t1.1 t1.3 in
    let a2 = (policies_spelled).only t2.0 t2.1 t2.3 in
    let a3 = (relations_spelled).only t3.0 t3.1 t3.3 in
    let tail : t2.2 ≡ relations_bytes t3.0 = t3.5 ∙ rw (a3.1, t3.4.1) (append-nil (relations_bytes t3.0)) in
    let whole : bytes ≡ numbers_digits s.0 ++ (volumes_bytes t1.0 ++ (policies_bytes t2.0 ++ (relations_bytes t3.0))) = s.5 ∙ rw (a0.1, t1.5, a1.1, t2.5, a2.1, tail) refl in
    rw t3.4.0 (record { numbers = a0.0; volumes = a1.0; policies = a2.0; relations = a3.0 }, whole)

body_again : (v : Catalog) → FitsBody v → Spells (body) v (body_bytes v)
unfolding body body_bytes
body_again v fits = ((numbers_of v), numbers_digits ((numbers_of v)), volumes_bytes v.volumes ++ (policies_bytes v.policies ++ (relations_bytes v.relations)), (numbers_spelled).spelled ((numbers_of v)) fits.numbers, (v.volumes, volumes_bytes v.volumes, policies_bytes v.policies ++ (relations_bytes v.relations), (volumes_spelled).spelled (v.volumes) fits.volumes, (v.policies, policies_bytes v.policies, relations_bytes v.relations, (policies_spelled).spelled (v.policies) fits.policies, (v.relations, relations_bytes v.relations, [], (relations_spelled).spelled (v.relations) fits.relations, (refl, refl), sym (append-nil (relations_bytes v.relations))), refl), refl), refl)

pub body_spelled : IsSpelledBy (body) (FitsBody) body_bytes
body_spelled = record { only = body_only; spelled = body_again }

-- ---- the record

magic_bytes : (i : ℕ) → get_or MAGIC i 0 < 256
magic_bytes zero = lit< tt
magic_bytes (suc zero) = lit< tt
magic_bytes (suc (suc zero)) = lit< tt
magic_bytes (suc (suc (suc zero))) = lit< tt
magic_bytes (suc (suc (suc (suc zero)))) = lit< tt
magic_bytes (suc (suc (suc (suc (suc zero))))) = lit< tt
magic_bytes (suc (suc (suc (suc (suc (suc zero)))))) = lit< tt
magic_bytes (suc (suc (suc (suc (suc (suc (suc zero))))))) = lit< tt
magic_bytes (suc (suc (suc (suc (suc (suc (suc (suc i)))))))) = lit< tt

pub record_only : (k : Catalog) (bytes : List ℕ) → Spells (catalog_record (length bytes)) k bytes → FitsBody k × (bytes ≡ spelling k)
unfolding catalog_record
record_only k bytes s =
    let h = head_only MAGIC (length bytes - 12) s.0 s.1 s.3 in
    let b = body_only k s.2 s.4 in
    let behind : length bytes - 12 ≡ length (body_bytes k) = behind_head MAGIC bytes s.1 s.2 (body_bytes k) (length bytes - 12) refl s.5 h.2 b.1 in
    let whole : bytes ≡ (MAGIC ++ digits bits32 (length (body_bytes k))) ++ body_bytes k =
    s.5 ∙ ap (λ (x : List ℕ). x ++ s.2) h.2 ∙ ap (λ (x : List ℕ). (MAGIC ++ digits bits32 (length bytes - 12)) ++ x) b.1 ∙ ap (λ (n : ℕ). (MAGIC ++ digits bits32 n) ++ body_bytes k) behind in
    (b.0, whole ∙ append_assoc MAGIC (digits bits32 (length (body_bytes k))) (body_bytes k))

pub record_again : (k : Catalog) (bytes : List ℕ) → FitsBody k → length bytes < 2 ^ 32 → bytes ≡ spelling k → Spells (catalog_record (length bytes)) k bytes
unfolding catalog_record
record_again k bytes fits small e =
    let n = length (body_bytes k) in
    let parts : bytes ≡ (MAGIC ++ digits bits32 n) ++ body_bytes k = e ∙ sym (append_assoc MAGIC (digits bits32 n) (body_bytes k)) in
    let behind : length bytes - 12 ≡ n = behind_head MAGIC bytes (MAGIC ++ digits bits32 n) (body_bytes k) (body_bytes k) n refl parts refl refl in (
      true,
      MAGIC ++ digits bits32 (length bytes - 12),
      body_bytes k,
      head_again MAGIC (length bytes - 12) magic_bytes (omega arith),
      body_again k fits,
      parts ∙ ap (λ (m : ℕ). (MAGIC ++ digits bits32 m) ++ body_bytes k) (sym behind),
    )
