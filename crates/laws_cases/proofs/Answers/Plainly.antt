-- What was found stands at its place, and plain replies.
use Rattle.std.proofs.Common.{◌≡◌, ℕ, List, Bool, true, false, not, Some, Ok, refl, sym, subst}
use Rattle.std.proofs.lemmas.Bool.{not-false}
use Rattle.sm_base.specs.declared.numbers.Kind.{Kind}
use Rattle.sm_base.specs.declared.numbers.Kind.TheVariants.{Rw, Dp}
use Rattle.sm_model.specs.declared.event.Event.{Event}
use Rattle.sm_model.specs.declared.reply.Reply.{Reply}
use Rattle.sm_model.specs.declared.reply.Reply.TheVariants as replies
use Rattle.sm_defs.specs.Words.{Found, found}
use Rattle.sm_defs.specs.Volume.{Volume, no_volume, is_rw}
use Rattle.sm_defs.specs.Relationship.{Relationship}
use Rattle.sm_defs.specs.World.{Up, no_relation}
use Rattle.sm_defs.proofs.Searches.{found_among, found_at}
use Rattle.sm_model.specs.Answers.{bytes, told}
use Rattle.sm_model.specs.Origin.{made_by}
use Rattle.laws_cases.proofs.Answers.Walk.{OfOk, now}
use Rattle.laws_cases.proofs.Answers.Changes.{VolumeAt, WritableAt, RelationAt, IsPlain, PlainTold, IsChange, Is, elsewhere, plain}

pub volume_at_place : (w : Up) (p : Volume → Bool) (v : Found Volume) → found p w.volumes ≡ Some v → VolumeAt w v
volume_at_place w p v e = record { among = found_among p w.volumes v e; at = found_at p w.volumes v no_volume e }

pub rw_from : (k : Kind) → is_rw k ≡ true → k ≡ Rw
rw_from Rw e = refl
rw_from Dp e = absurd (cc)

pub writable_if : (w : Up) (v : Found Volume) → VolumeAt w v → not (is_rw v.item.kind) ≡ false → WritableAt w v
writable_if w v a e = record { among = a.among; at = a.at; is_rw = rw_from v.item.kind (not-false (is_rw v.item.kind) e) }

pub writable_at_place : (w : Up) (p : Volume → Bool) (v : Found Volume) → found p w.volumes ≡ Some v → not (is_rw v.item.kind) ≡ false → WritableAt w v
writable_at_place w p v e = writable_if w v (volume_at_place w p v e)

pub relation_at_place : (w : Up) (p : Relationship → Bool) (r : Found Relationship) → found p w.relations ≡ Some r → RelationAt w r
relation_at_place w p r e = record { among = found_among p w.relations r e; at = found_at p w.relations r no_relation e }

pub done_is_plain : IsPlain replies.Done
unfolding made_by
done_is_plain = record { makes_none = refl; accepted = λ r e. cc }

pub plain_told : (reply : Reply) → IsPlain reply → PlainTold (told reply)
plain_told reply p other e = subst IsPlain (sym e) p

pub bytes_told : (bs : List ℕ) → PlainTold (bytes bs)
unfolding made_by
bytes_told bs reply (b, e, f) = subst IsPlain (sym e) (record { makes_none = refl; accepted = λ r g. cc })

pub by_told : (w u : Up) (ev : Event) (reply : Reply) → IsPlain reply → IsChange w ev u → OfOk (Is w ev) (Ok (record { reply = told reply; world = u }))
by_told w u ev reply p c = now (Is w ev) _ (plain (plain_told reply p) c)

pub by_done : (w u : Up) (ev : Event) → IsChange w ev u → OfOk (Is w ev) (Ok (record { reply = told replies.Done; world = u }))
by_done w u ev c = by_told w u ev replies.Done done_is_plain c

pub same : (w : Up) (ev : Event) → IsChange w ev w
same w ev = elsewhere w refl refl refl refl

pub not_both : (k : Kind) → k ≡ Rw → k ≡ Dp → ⊥
not_both k a b = cc

pub dp_from : (k : Kind) → is_rw k ≡ false → k ≡ Dp
dp_from Rw e = absurd (cc)
dp_from Dp e = refl

pub rw_if : (k : Kind) → not (is_rw k) ≡ false → k ≡ Rw
rw_if k e = rw_from k (not-false (is_rw k) e)
