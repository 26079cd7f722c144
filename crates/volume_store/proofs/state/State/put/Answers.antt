use Rattle.std.proofs.Common.{◌≡◌, ◌≢◌, [], ◌∷◌, ◌⊎◌, inl, inr, ℕ, ◌<◌, ◌≤◌, List, length, get_or, set, Bool, true, false, not, Option, Some, MatchOption, refl, sym, ◌∙◌, ap, subst, arith}
use Rattle.std.proofs.lemmas.Bool.{cases_eq}
use Rattle.std.proofs.lemmas.List.{get_or_read, get_or-set_same, get_or-set_other}
use Rattle.sm_bits.specs.Places.{has, IsNextFrom}
use Rattle.volume_store.specs.Maps.{Maps, uses, kept_maps, AreFree, AreMapsOf, AreUsed, AreKept, IsLeastFree}
use Rattle.volume_store.proofs.PutLemmas.{stands_at, uses_one, put_maps, free_still, free_given, taken_least}
use Rattle.volume_store.proofs.MarkLemmas.{live_put}
use Rattle.volume_store.proofs.state.State.put.Goals as goal

-- what is known of the fields
module _ (v : Maps) (held settled live kept space : List Bool) (are : AreKept v.root v.active held settled live kept space) (at n : ℕ) (inside : at < length v.active) (least : IsLeastFree v n)
    (lives : List Bool) (marks : AreUsed lives v.root.physical (set v.active at n ∷ [])) where
  pub the_maps : AreMapsOf v.root.logical v.root.physical (set v.active at n ∷ kept_maps v.root)
  the_maps = put_maps v.root.logical v.root.physical (kept_maps v.root) v.active are.maps at n inside least.from_one least.within least.unused

  pub stays : (after : List Bool) → after ≡ set space n false → (get_or v.active at 0 ≡ 0) ⊎ (uses (kept_maps v.root) (get_or v.active at 0) ≡ true) → AreKept v.root (set v.active at n) held settled lives kept after
  stays after is used = record {
    maps = the_maps;
    good = are.good;
    marks = record { of_snapshots = are.marks.of_snapshots; of_stable = are.marks.of_stable; of_active = marks };
    used = are.used;
    free = subst (λ s. AreFree s v.root.physical (set v.active at n ∷ kept_maps v.root)) (sym is)
        (free_still v.root.logical v.root.physical (kept_maps v.root) v.active are.maps at n inside least.from_one least.within least.unused space are.free used);
  }

  pub goes : (after : List Bool) → after ≡ set (set space n false) (get_or v.active at 0) true → 0 < get_or v.active at 0 → uses (kept_maps v.root) (get_or v.active at 0) ≡ false → AreKept v.root (set v.active at n) held settled lives kept after
  goes after is full gone = record {
    maps = the_maps;
    good = are.good;
    marks = record { of_snapshots = are.marks.of_snapshots; of_stable = are.marks.of_stable; of_active = marks };
    used = are.used;
    free = subst (λ s. AreFree s v.root.physical (set v.active at n ∷ kept_maps v.root)) (sym is)
        (free_given v.root.logical v.root.physical (kept_maps v.root) v.active are.maps at n inside least.from_one least.within least.unused space are.free full gone);
  }

-- the marks of the active map
module _ (v : Maps) (held settled live kept space : List Bool) (are : AreKept v.root v.active held settled live kept space) (at n : ℕ) (inside : at < length v.active) (least : IsLeastFree v n) where
  pub lives_are : (before : ℕ) → before ≡ get_or v.active at 0 → (lives : List Bool) → length lives ≡ length live → has lives 0 ≡ has live 0 → has lives n ≡ true
      → (1 ≤ before → before ≢ n → has lives before ≡ false) → ((m : ℕ) → m ≢ before → m ≢ n → has lives m ≡ has live m) → AreUsed lives v.root.physical (set v.active at n ∷ [])
  lives_are before is lives long hole comes goes others =
      live_put v.root.logical v.root.physical (kept_maps v.root) v.active are.maps at n inside least.from_one least.within least.unused live lives are.marks.of_active long hole comes
      (subst (λ (b : ℕ). 1 ≤ b → b ≢ n → has lives b ≡ false) is goes) (subst (λ (b : ℕ). (m : ℕ) → m ≢ b → m ≢ n → has lives m ≡ has live m) is others)

-- the least one is taken
module _ (v : Maps) (held settled live kept space : List Bool) (are : AreKept v.root v.active held settled live kept space) (n : ℕ) (least : IsLeastFree v n) where
  pub taken : (result : Option ℕ) (after : List Bool) → MatchOption result (after ≡ space) (λ number. after ≡ set space number false) → IsNextFrom space 0 result → after ≡ set space n false
  taken result after is next =
      let some : result ≡ Some n = taken_least v space after n result are.free least next in
      subst (λ r. MatchOption r (after ≡ space) (λ number. after ≡ set space number false)) some is

  pub kept_is : (at before : ℕ) → 0 < get_or v.active at 0 → before ≡ get_or v.active at 0 → has kept before ≡ uses (kept_maps v.root) (get_or v.active at 0)
  kept_is at before full is = ap (has kept) is ∙ are.used.each (get_or v.active at 0) full (are.maps.within v.active (inl refl) at)

-- the number before is used until then
module _ (v : Maps) (held settled live kept space : List Bool) (are : AreKept v.root v.active held settled live kept space) (at n : ℕ) (inside : at < length v.active) (least : IsLeastFree v n) where
  pub was_used : (before : ℕ) → before ≡ get_or v.active at 0 → 1 ≤ before → (after : List Bool) → after ≡ set space n false → has after before ≡ false
  was_used before is some after taken_is =
      let within : before ≤ v.root.physical = (let w = are.maps.within v.active (inl refl) at in omega (arith, w, is)) in
      ap (λ (l : List Bool). has l before) taken_is ∙ elim (cases_eq before n) [
        | inl here ↦ ap (has (set space n false)) here ∙ get_or-set_same space n false false (let l = are.free.long in let w = least.within in omega (arith, l, w))
        | inr other ↦
            get_or-set_other space n before false false other ∙ are.free.each before some within
            ∙ ap not (uses_one (v.active ∷ kept_maps v.root) v.active before (inl refl) (stands_at v.active at before inside (sym is)))
      ]

pub give-requires-clause-used : goal.give-requires-clause-used
give-requires-clause-used c =
    let v : Maps = record { root = c.self.inside.root; active = c.self.inside.active.items } in
    let at = c.args.at in
    let n = c.args.number in
    let inside : at < length v.active = subst (λ (m : Maps). at < length m.active) (sym c.self.view_is) c.requires.place in
    let least : IsLeastFree v n = subst (λ (m : Maps). IsLeastFree m n) (sym c.self.view_is) c.requires.least in
    let before : c.index-before.result.now ≡ get_or v.active at 0 = get_or_read v.active at c.index-before.result.now inside c.index-before.ensures 0 in
    was_used v c.self.inside.marks.held c.self.inside.marks.settled c.self.inside.marks.live c.self.inside.kept c.self.inside.space c.self.invariant at n inside least c.index-before.result.now before
    (let h = c.if-before-ne0.true in omega (arith, h)) c.take.new.self
    (taken v c.self.inside.marks.held c.self.inside.marks.settled c.self.inside.marks.live c.self.inside.kept c.self.inside.space c.self.invariant n least c.take.result c.take.new.self c.take.ensures.taken c.take.ensures.least)

pub invariant_of-self : goal.invariant_of-self
invariant_of-self c =
    let v : Maps = record { root = c.self.inside.root; active = c.self.inside.active.items } in
    let at = c.args.at in
    let n = c.args.number in
    let inside : at < length v.active = subst (λ (m : Maps). at < length m.active) (sym c.self.view_is) c.requires.place in
    let least : IsLeastFree v n = subst (λ (m : Maps). IsLeastFree m n) (sym c.self.view_is) c.requires.least in
    let before : c.index-before.result.now ≡ get_or v.active at 0 = get_or_read v.active at c.index-before.result.now inside c.index-before.ensures 0 in
    let marks : AreUsed c.exchange.new.set v.root.physical (set v.active at n ∷ []) =
    lives_are v c.self.inside.marks.held c.self.inside.marks.settled c.self.inside.marks.live c.self.inside.kept c.self.inside.space c.self.invariant at n inside least c.index-before.result.now before c.exchange.new.set c.exchange.ensures.long c.exchange.ensures.hole c.exchange.ensures.comes c.exchange.ensures.goes c.exchange.ensures.others in
    let full : 0 < get_or v.active at 0 = (let h = c.if-before-ne0.true in omega (arith, before, h)) in
    let gone : uses (kept_maps v.root) (get_or v.active at 0) ≡ false = sym (kept_is v c.self.inside.marks.held c.self.inside.marks.settled c.self.inside.marks.live c.self.inside.kept c.self.inside.space c.self.invariant n least at c.index-before.result.now full before) ∙ sym c.test.ensures ∙ c.if-not-test.true in
    goes v c.self.inside.marks.held c.self.inside.marks.settled c.self.inside.marks.live c.self.inside.kept c.self.inside.space c.self.invariant at n inside least c.exchange.new.set marks c.give.new.self
    (c.give.ensures ∙ ap (λ s. set s c.index-before.result.now true) (taken v c.self.inside.marks.held c.self.inside.marks.settled c.self.inside.marks.live c.self.inside.kept c.self.inside.space c.self.invariant n least c.take.result c.take.new.self c.take.ensures.taken c.take.ensures.least)
    ∙ ap (λ b. set (set c.self.inside.space n false) b true) before)
    full gone

pub invariant_of-self-else-not-test : goal.invariant_of-self-else-not-test
invariant_of-self-else-not-test c =
    let v : Maps = record { root = c.self.inside.root; active = c.self.inside.active.items } in
    let at = c.args.at in
    let n = c.args.number in
    let inside : at < length v.active = subst (λ (m : Maps). at < length m.active) (sym c.self.view_is) c.requires.place in
    let least : IsLeastFree v n = subst (λ (m : Maps). IsLeastFree m n) (sym c.self.view_is) c.requires.least in
    let before : c.index-before.result.now ≡ get_or v.active at 0 = get_or_read v.active at c.index-before.result.now inside c.index-before.ensures 0 in
    let marks : AreUsed c.exchange.new.set v.root.physical (set v.active at n ∷ []) =
    lives_are v c.self.inside.marks.held c.self.inside.marks.settled c.self.inside.marks.live c.self.inside.kept c.self.inside.space c.self.invariant at n inside least c.index-before.result.now before c.exchange.new.set c.exchange.ensures.long c.exchange.ensures.hole c.exchange.ensures.comes c.exchange.ensures.goes c.exchange.ensures.others in
    let full : 0 < get_or v.active at 0 = (let h = c.if-before-ne0.true in omega (arith, before, h)) in
    let used : uses (kept_maps v.root) (get_or v.active at 0) ≡ true = sym (kept_is v c.self.inside.marks.held c.self.inside.marks.settled c.self.inside.marks.live c.self.inside.kept c.self.inside.space c.self.invariant n least at c.index-before.result.now full before) ∙ sym c.test.ensures ∙ c.if-not-test.false in
    stays v c.self.inside.marks.held c.self.inside.marks.settled c.self.inside.marks.live c.self.inside.kept c.self.inside.space c.self.invariant at n inside least c.exchange.new.set marks c.take.new.self
    (taken v c.self.inside.marks.held c.self.inside.marks.settled c.self.inside.marks.live c.self.inside.kept c.self.inside.space c.self.invariant n least c.take.result c.take.new.self c.take.ensures.taken c.take.ensures.least) (inr used)

pub invariant_of-self-else-before-ne0 : goal.invariant_of-self-else-before-ne0
invariant_of-self-else-before-ne0 c =
    let v : Maps = record { root = c.self.inside.root; active = c.self.inside.active.items } in
    let at = c.args.at in
    let n = c.args.number in
    let inside : at < length v.active = subst (λ (m : Maps). at < length m.active) (sym c.self.view_is) c.requires.place in
    let least : IsLeastFree v n = subst (λ (m : Maps). IsLeastFree m n) (sym c.self.view_is) c.requires.least in
    let before : c.index-before.result.now ≡ get_or v.active at 0 = get_or_read v.active at c.index-before.result.now inside c.index-before.ensures 0 in
    let marks : AreUsed c.exchange.new.set v.root.physical (set v.active at n ∷ []) =
    lives_are v c.self.inside.marks.held c.self.inside.marks.settled c.self.inside.marks.live c.self.inside.kept c.self.inside.space c.self.invariant at n inside least c.index-before.result.now before c.exchange.new.set c.exchange.ensures.long c.exchange.ensures.hole c.exchange.ensures.comes c.exchange.ensures.goes c.exchange.ensures.others in
    stays v c.self.inside.marks.held c.self.inside.marks.settled c.self.inside.marks.live c.self.inside.kept c.self.inside.space c.self.invariant at n inside least c.exchange.new.set marks c.take.new.self
    (taken v c.self.inside.marks.held c.self.inside.marks.settled c.self.inside.marks.live c.self.inside.kept c.self.inside.space c.self.invariant n least c.take.result c.take.new.self c.take.ensures.taken c.take.ensures.least) (inl (sym before ∙ c.if-before-ne0.false))
