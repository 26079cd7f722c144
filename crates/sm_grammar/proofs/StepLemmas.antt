-- The same of the steps of a worker, which end with the first reply that ends them.
use Rattle.std.proofs.Common.{◌≡◌, ◌↔◌, ℕ, zero, suc, ◌+◌, ◌<◌, ◌≤◌, ◌&&◌, Bool, true, false, not, nat_lt, cond, List, [], ◌∷◌, Option, Some, None, MatchBool, refl, sym, ap, ◌∙◌, arith}
use borrow.Author.Tests.{lt-ltb, le-ltb}
use Rattle.sm_model.specs.declared.event.Event as the_event
use Rattle.sm_model.specs.declared.event.Event.TheVariants as events
use Rattle.sm_model.specs.declared.reply.Reply.{Reply}
use Rattle.sm_grammar.specs.declared.command.Task.{Task}
use Rattle.sm_grammar.specs.declared.command.Task.TheVariants.{Once, Writes, Steps, Settle}
use Rattle.sm_grammar.specs.Events.{Done, is_last, ended, next_of, AreSteps, AreAllSteps, ArePerformed, AreNext}
use Rattle.sm_grammar.proofs.EventLemmas.{once_performed, once_next, writes_performed, writes_next}

stops : (t u : Bool) → u ≡ true → (t && not u) ≡ false
stops true u e = ap not e
stops false u e = refl

over : (t u : Bool) → t ≡ false → (t && not u) ≡ false
over t u e = ap (λ v. v && not u) e

goes : (t u : Bool) → t ≡ true → u ≡ false → (t && not u) ≡ true
goes t u e f = rw (e, f) refl

-- no step behind the count, or behind a reply that ends the steps
no_step : (count j : ℕ) (last : Option Reply) → (nat_lt j count && not (ended last)) ≡ false → next_of (Steps count) j last ≡ None
unfolding next_of
no_step count j last e = ap (λ t. cond t (Some (events.Work true)) None) e

one_step : (count j : ℕ) (last : Option Reply) → (nat_lt j count && not (ended last)) ≡ true → next_of (Steps count) j last ≡ Some (events.Work true)
unfolding next_of
one_step count j last e = ap (λ t. cond t (Some (events.Work true)) None) e

is_step : (event : the_event.Event) (shown : Bool) (next : Option the_event.Event) → next ≡ Some (events.Work shown) → next ≡ Some event → event ≡ events.Work shown
is_step event shown next e f = let both : Some (events.Work shown) ≡ Some event = sym e ∙ f in cc

steps_stop : (count j : ℕ) (last : Option Reply) (all : List Done) → ended last ≡ true → AreNext (Steps count) j last all → all ≡ []
steps_stop count j last [] end next = refl
steps_stop count j last (d ∷ more) end next = absurd (let none = sym (no_step count j last (stops (nat_lt j count) (ended last) end)) ∙ next.0 in cc)

split : (t : Bool) (P Q : Type 0) → (t ≡ true → P) → (t ≡ false → Q) → MatchBool t P Q
split true P Q p q = p refl
split false P Q p q = q refl

joined : (t : Bool) (P Q R : Type 0) → MatchBool t P Q → (t ≡ true → P → R) → (t ≡ false → Q → R) → R
joined true P Q R m p q = p refl m
joined false P Q R m p q = q refl m

steps_performed : (count j n : ℕ) (last : Option Reply) (all : List Done) → ended last ≡ false → count ≡ j + n → AreNext (Steps count) j last all → AreSteps n all
steps_performed count j zero last [] on sum next = refl
steps_performed count j (suc n) last [] on sum next =
    let less : j < count = omega arith in absurd (let some = sym (one_step count j last (goes (nat_lt j count) (ended last) (lt-ltb j count less) on)) ∙ next in cc)
steps_performed count j zero last (d ∷ more) on sum next =
    let end : count ≤ j = omega arith in absurd (let none = sym (no_step count j last (over (nat_lt j count) (ended last) (le-ltb j count end))) ∙ next.0 in cc)
steps_performed count j (suc n) last (d ∷ more) on sum next =
    let less : j < count = omega arith in (
      is_step d.event true (next_of (Steps count) j last) (one_step count j last (goes (nat_lt j count) (ended last) (lt-ltb j count less) on)) next.0,
      split (is_last d.reply) (more ≡ []) (AreSteps n more) (λ end. steps_stop count (j + 1) (Some d.reply) more end next.1) (λ e. steps_performed count (j + 1) n (Some d.reply) more e (omega arith) next.1),
    )

steps_stopped : (count j : ℕ) (last : Option Reply) (all : List Done) → ended last ≡ true → all ≡ [] → AreNext (Steps count) j last all
steps_stopped count j last all end none = rw none (no_step count j last (stops (nat_lt j count) (ended last) end))

steps_next : (count j n : ℕ) (last : Option Reply) (all : List Done) → ended last ≡ false → count ≡ j + n → AreSteps n all → AreNext (Steps count) j last all
steps_next count j zero last [] on sum done = let end : count ≤ j = omega arith in no_step count j last (over (nat_lt j count) (ended last) (le-ltb j count end))
steps_next count j zero last (d ∷ more) on sum done = absurd (cc)
steps_next count j (suc n) last [] on sum done = absurd done
steps_next count j (suc n) last (d ∷ more) on sum done =
    let less : j < count = omega arith in (
      one_step count j last (goes (nat_lt j count) (ended last) (lt-ltb j count less) on) ∙ ap Some (sym done.0),
      joined (is_last d.reply) (more ≡ []) (AreSteps n more) (AreNext (Steps count) (j + 1) (Some d.reply) more) done.1
          (λ end none. steps_stopped count (j + 1) (Some d.reply) more end none) (λ e rest. steps_next count (j + 1) n (Some d.reply) more e (omega arith) rest),
    )

settled : (j : ℕ) (last : Option Reply) (t : Bool) → ended last ≡ t → next_of Settle j last ≡ cond t None (Some (events.Work false))
unfolding next_of
settled j last t e = ap (λ u. cond u None (Some (events.Work false))) e

settle_stop : (j : ℕ) (last : Option Reply) (all : List Done) → ended last ≡ true → AreNext Settle j last all → all ≡ []
settle_stop j last [] end next = refl
settle_stop j last (d ∷ more) end next = absurd (let none = sym (settled j last true end) ∙ next.0 in cc)

settle_performed : (j : ℕ) (last : Option Reply) (all : List Done) → ended last ≡ false → AreNext Settle j last all → AreAllSteps all
settle_performed j last [] on next = absurd (let some = sym (settled j last false on) ∙ next in cc)
settle_performed j last (d ∷ more) on next = (
  is_step d.event false (next_of Settle j last) (settled j last false on) next.0,
  split (is_last d.reply) (more ≡ []) (AreAllSteps more) (λ end. settle_stop (j + 1) (Some d.reply) more end next.1) (λ e. settle_performed (j + 1) (Some d.reply) more e next.1),
)

settle_stopped : (j : ℕ) (last : Option Reply) (all : List Done) → ended last ≡ true → all ≡ [] → AreNext Settle j last all
settle_stopped j last all end none = rw none (settled j last true end)

settle_next : (j : ℕ) (last : Option Reply) (all : List Done) → ended last ≡ false → AreAllSteps all → AreNext Settle j last all
settle_next j last [] on done = absurd done
settle_next j last (d ∷ more) on done = (
  settled j last false on ∙ ap Some (sym done.0),
  joined (is_last d.reply) (more ≡ []) (AreAllSteps more) (AreNext Settle (j + 1) (Some d.reply) more) done.1
      (λ end none. settle_stopped (j + 1) (Some d.reply) more end none) (λ e rest. settle_next (j + 1) (Some d.reply) more e rest),
)

-- events that come next, one by one, are those of the command, and the other way round
pub next_performed : (task : Task) (all : List Done) → AreNext task 0 None all ↔ ArePerformed task all
next_performed (Once event) all = (once_performed event all, once_next event all)
next_performed (Writes path block count fill) all = (writes_performed path block fill count 0 count None all (omega arith), writes_next path block fill count 0 count None all (omega arith))
next_performed (Steps count) all = (steps_performed count 0 count None all refl (omega arith), steps_next count 0 count None all refl (omega arith))
next_performed Settle all = (settle_performed 0 None all refl, settle_next 0 None all refl)
