-- A table of first items, with one item more.
use Rattle.std.proofs.Common.{◌≡◌, ◌↔◌, Bool, true, false, cond, List, [], ◌∷◌, refl, sym, ap, subst, ◌∙◌, inl, inr}
use Rattle.std.specs.Prelude.{Some, None, IsTrue}
use Rattle.std.specs.Borrow.{Bor}
use Rattle.std.specs.HashMap.{get, IsEmpty}
use Rattle.std.proofs.lemmas.Bool.{both_ways, cases_Bool}
use Rattle.std.proofs.lemmas.Option.{same_Some}
use Rattle.sm_shape.specs.Firsts.{Item, Table, HasItem, IsFirstsOf, Agree, TakesItems}
use Rattle.sm_shape.proofs.TakesSteps.{Within}

module _ (K V : Type 0) (same : K → K → Bool) (Near : V → V → Type 0)
    (key_is : (x y : K) → same x y ≡ true → x ≡ y) (key_self : (x : K) → same x x ≡ true)
    (near_self : (x : V) → Near x x) (near_both : (f x y : V) → Near f x → Near f y → Near x y) where
  has_within : (xs ys : List (Item K V)) (key : K) (value : V) → Within xs ys → HasItem K V xs key value → HasItem K V ys key value
  has_within xs ys key value to h = record { item = h.item; among = to h.item h.among; has_key = h.has_key; has_value = h.has_value }

  pub firsts_same : (m : Table K V) (xs ys : List (Item K V)) → Within xs ys → Within ys xs → IsFirstsOf K V same Near m xs → IsFirstsOf K V same Near m ys
  firsts_same m xs ys to from is = record {
    kept = λ x a. is.kept x (from x a);
    came = λ key first e. has_within xs ys key first.now to (is.came key first e);
  }

  pub agree_fewer : (xs ys : List (Item K V)) → Within xs ys → Agree K V Near ys → Agree K V Near xs
  agree_fewer xs ys to all x y a b = all x y (to x a) (to y b)

  -- a table of first items has one for each key
  pub agree_of_firsts : (m : Table K V) (seen : List (Item K V)) → IsFirstsOf K V same Near m seen → Agree K V Near seen
  agree_of_firsts m seen is x y a b keys =
      let p = is.kept x a in
      let q = is.kept y b in
      let at : get same m x.key ≡ Some q.0 = subst (λ k. get same m k ≡ Some q.0) (sym keys) q.1 in
      let one : q.0 ≡ p.0 = same_Some q.0 p.0 (sym at ∙ p.1) in
      near_both p.0.now x.value y.value p.2 (subst (λ (f : Bor V). Near f.now y.value) one q.2)

  pub no_firsts : (m : Table K V) → IsEmpty m → IsFirstsOf K V same Near m []
  no_firsts m empty = record {
    kept = λ x a. absurd a;
    came = λ key first e. absurd (nothing key first e);
  }
    where
      nothing : (key : K) (first : Bor V) → get same m key ≡ Some first → ⊥
      nothing key first e = let none = rw empty at e in absurd cc

  -- the first item of the key is there
  pub compared : (m : Table K V) (key : K) (value : V) (first : Bor V) (g : Bool) → get same m key ≡ Some first → (IsTrue g ↔ Near first.now value)
      → TakesItems K V same Near m m (record { key = key; value = value } ∷ []) g
  compared m key value first g there test = record {
    joins = λ good seen is. record {
      kept = λ x a. elim a [
        | inl e ↦ (first, ap (λ (c : Item K V). get same m c.key) e ∙ there, subst (λ (c : Item K V). Near first.now c.value) (sym e) (test.0 good))
        | inr later ↦ is.kept x later
      ];
      came = λ k f e. has_within seen (record { key = key; value = value } ∷ seen) k f.now (λ x a. inr a) (is.came k f e);
    };
    differs = λ bad seen is all.
        let h = is.came key first there in
        let near = all h.item (record { key = key; value = value }) (inr h.among) (inl refl) h.has_key in
        both_ways g bad (test.1 (subst (λ v. Near v value) h.has_value near));
  }

  -- it is the first
  pub joined : (old new : Table K V) (key : K) (b : Bor V) → get same old key ≡ None
      → ((q : K) → get same new q ≡ cond (same key q) (Some b) (get same old q)) → TakesItems K V same Near old new (record { key = key; value = b.now } ∷ []) true
  joined old new key b none now = record {
    joins = λ _ seen is. record {
      kept = λ x a. elim a [
        | inl e ↦ (b, ap (λ (c : Item K V). get same new c.key) e ∙ now key ∙ here, subst (λ (c : Item K V). Near b.now c.value) (sym e) (near_self b.now))
        | inr later ↦
            let old_one = is.kept x later in
            (old_one.0, now x.key ∙ ap (λ t. cond t (Some b) (get same old x.key)) (other x.key old_one.0 old_one.1) ∙ old_one.1, old_one.2)
      ];
      came = λ k f e. elim (cases_Bool (same key k)) [
        | inl s ↦
            let is_b : b ≡ f = same_Some b f (sym (now k ∙ ap (λ t. cond t (Some b) (get same old k)) s) ∙ e) in
            record { item = record { key = key; value = b.now }; among = inl refl; has_key = key_is key k s; has_value = ap (λ (x : Bor V). x.now) is_b }
        | inr apart ↦
            let before : get same old k ≡ Some f = sym (now k ∙ ap (λ t. cond t (Some b) (get same old k)) apart) ∙ e in
            has_within seen (record { key = key; value = b.now } ∷ seen) k f.now (λ x a. inr a) (is.came k f before)
      ];
    };
    differs = λ e. absurd cc;
  }
    where
      here : cond (same key key) (Some b) (get same old key) ≡ Some b
      here = ap (λ t. cond t (Some b) (get same old key)) (key_self key)

      other : (k : K) (f : Bor V) → get same old k ≡ Some f → same key k ≡ false
      other k f there = elim (cases_Bool (same key k)) [
        | inr apart ↦ apart
        | inl s ↦
            let at : get same old key ≡ Some f = subst (λ q. get same old q ≡ Some f) (sym (key_is key k s)) there in
            absurd (none_some (sym none ∙ at))
      ]
        where
          none_some : None ≡ Some f → ⊥
          none_some e = absurd cc
