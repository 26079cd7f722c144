-- What this program chooses is due.
use Rattle.std.proofs.Common.{◌≡◌, ◌<◌, ◌+◌, ℕ, suc, Bool, true, false, cond, List, [], ◌∷◌, length, Option, Some, None, refl, sym, ap, subst, inl, inr, arith}
use Rattle.std.specs.Prelude.{slice_index_or, ◌%◌}
use Rattle.std.specs.List.{find}
use Rattle.std.proofs.lemmas.Option.{same_Some}
use Rattle.sm_base.specs.declared.refusal.Reason.{Reason}
use Rattle.sm_base.specs.declared.limits.TheConstants.{WINDOW}
use Rattle.sm_defs.specs.Words.{Among, Found}
use Rattle.sm_defs.specs.Volume.{Snapshot, numbers}
use Rattle.sm_defs.specs.Relationship.{Relationship, Transfer}
use Rattle.sm_defs.specs.Edges.{runs, is_running}
use Rattle.sm_defs.specs.World.{Up, no_relation}
use Rattle.sm_defs.proofs.Members.{among_filter, get_among}
use Rattle.sm_defs.proofs.Searches.{find_is}
use Rattle.sm_model.specs.Running.{Running, running_in, IsRunning}
use Rattle.sm_model.specs.Steps.{Effect, cost, may_ship}
use Rattle.sm_model.specs.Due.{StepKind, revert, finish, settle, prepare, prune, publish, checkpoint, ship, kind_due, IsEffect, IsStep, by_transfer, by_tidy, tidy_due}
use Rattle.sm_model.specs.Choice.{running_from, running, taken, shippable, effect_for, chosen_for, chosen_of, tidied, chosen}

-- the relationship stands at its place, counted from k on, and its transfer runs
pub record IsIn (k : ℕ) (rs : List Relationship) (f : Found Relationship) : Type 0 where
  pub by : ℕ
  pub at : f.at ≡ k + by
  pub place : by < length rs
  pub is : slice_index_or rs by no_relation ≡ f.item
  pub runs : runs f.item ≡ true

next_in : (k : ℕ) (r : Relationship) (rs : List Relationship) (f : Found Relationship) → IsIn (suc k) rs f → IsIn k (r ∷ rs) f
next_in k r rs f h = record { by = suc h.by; at = let e = h.at in omega arith; place = let p = h.place in omega arith; is = h.is; runs = h.runs }

pub running_is : (k : ℕ) (rs : List Relationship) (f : Found Relationship) → Among (running_from k rs) f → IsIn k rs f
running_is k [] f m = absurd m
running_is k (r ∷ rs) f m = go (runs r) refl m (running_is (suc k) rs f)
  where
    go : (b : Bool) → runs r ≡ b → Among (cond b (record { at = k; item = r } ∷ running_from (suc k) rs) (running_from (suc k) rs)) f → (Among (running_from (suc k) rs) f → IsIn (suc k) rs f) → IsIn k (r ∷ rs) f
    go true e (inl i) ih = subst (IsIn k (r ∷ rs)) (sym i) (record { by = 0; at = omega arith; place = omega arith; is = refl; runs = e })
    go true e (inr n) ih = next_in k r rs f (ih n)
    go false e n ih = next_in k r rs f (ih n)

pub taken_among : {X : Type 0} (a : ℕ) (xs : List X) (x : X) → taken a xs ≡ Some x → Among xs x
taken_among a [] x e = absurd (cc)
taken_among a (y ∷ ys) x e = get_among (y ∷ ys) (a % length (y ∷ ys)) x e

by_shipping : (w : Up) (a k : ℕ) (x : Running) (leg : Snapshot) (e : Effect) (o : Option ℕ) → taken a (shippable x (cost x leg)) ≡ o → Rattle.sm_model.specs.Choice.shipped w k x leg o ≡ Some e → IsEffect w k x (ship leg) e
by_shipping w a k x leg e None t i = absurd (cc)
by_shipping w a k x leg e (Some index) t i =
    (index, (among_filter (may_ship x (cost x leg)) (numbers 0 (x.transfer.checkpoint + WINDOW)) index (taken_among a (shippable x (cost x leg)) index t)).1, sym (same_Some _ e i))

pub by_kind : (w : Up) (a k : ℕ) (x : Running) (e : Effect) (o : Option StepKind) → effect_for w a k x o ≡ Some e → (kind : StepKind) × (o ≡ Some kind) × IsEffect w k x kind e
by_kind w a k x e None i = absurd (cc)
by_kind w a k x e (Some (revert base)) i = (revert base, refl, sym (same_Some _ e i))
by_kind w a k x e (Some (finish base)) i = (finish base, refl, sym (same_Some _ e i))
by_kind w a k x e (Some (settle j later)) i = (settle j later, refl, sym (same_Some _ e i))
by_kind w a k x e (Some (prepare j)) i = (prepare j, refl, sym (same_Some _ e i))
by_kind w a k x e (Some prune) i = (prune, refl, sym (same_Some _ e i))
by_kind w a k x e (Some (publish leg)) i = (publish leg, refl, sym (same_Some _ e i))
by_kind w a k x e (Some checkpoint) i = (checkpoint, refl, sym (same_Some _ e i))
by_kind w a k x e (Some (ship leg)) i = (ship leg, refl, by_shipping w a k x leg e _ refl i)

stopped_none : (o : Option Transfer) (t : Transfer) → o ≡ Some t → is_running o ≡ true → t.stopped ≡ None
stopped_none None t e h = absurd (cc)
stopped_none (Some u) t e h = subst (λ y. y.stopped ≡ None) (same_Some u t e) (go u.stopped h)
  where
    go : (o : Option Reason) → Rattle.std.specs.Prelude.is_none o ≡ true → o ≡ None
    go None h = refl
    go (Some r) h = absurd (cc)

pub is_running_there : (w : Up) (f : Found Relationship) (t : Transfer) → IsIn 0 w.relations f → f.item.transfer ≡ Some t → IsRunning w f.at (running_in w f.item t)
is_running_there w f t h e =
    let s : f.at ≡ h.by = (let q = h.at in omega arith) in record {
      place = rw s h.place;
      stands = rw s h.is;
      transfer = e;
      runs = stopped_none f.item.transfer t e h.runs;
      is = refl;
    }

by_transfer_of : (w : Up) (a : ℕ) (f : Found Relationship) (e : Effect) → IsIn 0 w.relations f → (o : Option Transfer) → f.item.transfer ≡ o → chosen_for w a (record f.item { transfer = o }) f.at ≡ Some e → IsStep w e
by_transfer_of w a f e h None i c = absurd (cc)
by_transfer_of w a f e h (Some t) i c =
    let r : Relationship = record f.item { transfer = Some t } in
    let g : Found Relationship = record { at = f.at; item = r } in
    let there : IsIn 0 w.relations g = subst (λ q. IsIn 0 w.relations (record { at = f.at; item = q })) (ap (λ o. record f.item { transfer = o }) i) h in
    let (kind, d, effect) = by_kind w a f.at (running_in w r t) e (kind_due (running_in w r t)) c in
    by_transfer f.at (running_in w r t) kind (is_running_there w g t there refl) d effect

of_choice : (w : Up) (a : ℕ) (o : Option (Found Relationship)) (e : Effect) → taken a (running w) ≡ o → chosen_of w a o ≡ Some e → IsStep w e
of_choice w a None e t c = go (find (tidy_due w) (numbers 0 (length w.volumes))) refl c
  where
    go : (o : Option ℕ) → find (tidy_due w) (numbers 0 (length w.volumes)) ≡ o → tidied w o ≡ Some e → IsStep w e
    go None f c = absurd (cc)
    go (Some i) f c = by_tidy i (find_is (tidy_due w) (numbers 0 (length w.volumes)) i f).1 (sym (same_Some _ e c))
of_choice w a (Some f) e t c = by_transfer_of w a f e (running_is 0 w.relations f (taken_among a (running w) f t)) f.item.transfer refl c

pub chosen_is_due : (w : Up) (a : ℕ) (e : Effect) → chosen w a ≡ Some e → IsStep w e
chosen_is_due w a e c = of_choice w a (taken a (running w)) e refl c
