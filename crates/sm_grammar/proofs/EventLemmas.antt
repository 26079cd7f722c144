-- The events that come next, one by one, are the events of the command.
use Rattle.std.proofs.Common.{◌≡◌, ℕ, zero, suc, ◌+◌, ◌<◌, ◌≤◌, List, [], ◌∷◌, map, Option, Some, None, refl, ap, arith}
use borrow.Author.Tests.{lt-ltb, le-ltb}
use Rattle.sm_model.specs.declared.event.Event as the_event
use Rattle.sm_model.specs.declared.reply.Reply.{Reply}
use Rattle.sm_grammar.specs.declared.command.Task.TheVariants.{Once, Writes}
use Rattle.sm_grammar.specs.Events.{Done, write_at, next_of, writes, AreNext}

pub once_performed : (event : the_event.Event) (all : List Done) → AreNext (Once event) 0 None all → map (λ d. d.event) all ≡ event ∷ []
unfolding next_of
once_performed event [] next = absurd (let none = next in cc)
once_performed event (d ∷ []) next = let some = next.0 in cc
once_performed event (d ∷ e ∷ more) next = absurd (let none = next.1.0 in cc)

pub once_next : (event : the_event.Event) (all : List Done) → map (λ d. d.event) all ≡ event ∷ [] → AreNext (Once event) 0 None all
unfolding next_of
once_next event [] done = absurd (cc)
once_next event (d ∷ []) done = (cc, refl)
once_next event (d ∷ e ∷ more) done = absurd (cc)

pub writes_performed : (path : List ℕ) (block fill count j n : ℕ) (last : Option Reply) (all : List Done) → count ≡ j + n → AreNext (Writes path block count fill) j last all → map (λ d. d.event) all ≡ writes path block fill j n
unfolding next_of
writes_performed path block fill count j zero last [] sum next = refl
writes_performed path block fill count j (suc n) last [] sum next =
    let less : j < count = omega arith in absurd (let none = rw (lt-ltb j count less) at next in cc)
writes_performed path block fill count j zero last (d ∷ more) sum next =
    let end : count ≤ j = omega arith in absurd (let none = rw (le-ltb j count end) at next.0 in cc)
writes_performed path block fill count j (suc n) last (d ∷ more) sum next =
    let less : j < count = omega arith in
    let some = rw (lt-ltb j count less) at next.0 in
    let rest = writes_performed path block fill count (j + 1) n (Some d.reply) more (omega arith) next.1 in cc

pub writes_next : (path : List ℕ) (block fill count j n : ℕ) (last : Option Reply) (all : List Done) → count ≡ j + n → map (λ d. d.event) all ≡ writes path block fill j n → AreNext (Writes path block count fill) j last all
unfolding next_of
writes_next path block fill count j zero last [] sum done = let end : count ≤ j = omega arith in rw (le-ltb j count end) refl
writes_next path block fill count j (suc n) last [] sum done = absurd (cc)
writes_next path block fill count j zero last (d ∷ more) sum done = absurd (cc)
writes_next path block fill count j (suc n) last (d ∷ more) sum done =
    let less : j < count = omega arith in
    let is : write_at path block fill j ≡ d.event = cc in
    let rest : map (λ e. e.event) more ≡ writes path block fill (j + 1) n = cc in
    (rw (lt-ltb j count less) (ap Some is), writes_next path block fill count (j + 1) n (Some d.reply) more (omega arith) rest)
