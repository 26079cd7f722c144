-- The number of a snapshot, as the definitions speak of it.
use Rattle.std.proofs.Common.{◌≡◌, ◌⊎◌, ◌↔◌, ℕ, ◌/◌, ◌%◌, ◌<◌, length, get_or, sym, ap, ◌∙◌, inl, inr, arith}
use Rattle.std.proofs.lemmas.List.{length-map}
use Rattle.sm_defs.specs.Volume.{Volume, no_volume}
use Rattle.sm_defs.specs.World.{volume_at}
use Rattle.sm_defs.specs.Made.{made_name}
use Rattle.sm_model.specs.NumbersStand.{IsClients, IsTransfers, IsNumbered, NumberStands}
use Rattle.sm_model.specs.NumbersStand.IsNumbered.{clients, transfers}
use Rattle.sm_model.specs.declared.world.World.{World}
use Rattle.sm_model.specs.declared.world.WorldVolume.{WorldVolume}
use Rattle.sm_model.specs.declared.world.WorldSnapshot.{WorldSnapshot}
use Rattle.sm_shape.specs.Blank.{blank, blank_volume, blank_snapshot}
use Rattle.sm_shape.specs.Numbers.{MadeBy, StandsNumbered}
use Rattle.sm_shape.proofs.ListWords.{all_among, among_all}
use Rattle.sm_shape.proofs.RulesLemmas.{at_image}

halves : (n : ℕ) → (n % 2 ≡ 0) ⊎ (n % 2 ≡ 1)
halves n = grind arith

module _ (w : World) (s : WorldSnapshot) (o : WorldVolume) (lt : s.ident.origin < length w.volumes.items) (is : o ≡ get_or w.volumes.items s.ident.origin o) where
  origin_is : volume_at (blank w) s.ident.origin ≡ blank_volume o
  origin_is = at_image blank_volume w.volumes.items s.ident.origin o no_volume lt is

  next_is : (volume_at (blank w) s.ident.origin).next ≡ o.next
  next_is = ap (λ (v : Volume). v.next) origin_is

  of_clients : (c : ℕ) → IsClients (blank w) (blank_snapshot s) c → StandsNumbered w s o
  of_clients c f =
      let half : s.ident.seq / 2 ≡ c = omega (arith, f.seq) in
      record {
        even = λ e. record { even = e; counts = omega (arith, half, f.counts); given = omega (arith, half, f.given, next_is); maker = f.maker; name = f.name };
        odd = λ e. absurd (omega (arith, f.seq, e));
      }

  of_transfers : (t : ℕ) → IsTransfers (blank w) (blank_snapshot s) t → StandsNumbered w s o
  of_transfers t f =
      let half : s.ident.seq / 2 ≡ t = omega (arith, f.seq) in
      record {
        even = λ e. absurd (omega (arith, f.seq, e));
        odd = λ e. record {
          odd = e;
          given = omega (arith, half, f.given);
          maker_counts = f.maker_counts;
          maker_given = f.maker_given;
          label = f.label;
          name = f.name ∙ ap (made_name s.made) (sym half);
          while_standing = among_all (MadeBy s) w.relations.items (λ r a u is_u same. f.while_standing r u a is_u (same ∙ half));
        };
      }

  of_numbered : IsNumbered (blank w) (blank_snapshot s) → StandsNumbered w s o
  of_numbered (clients c f) = of_clients c f
  of_numbered (transfers t f) = of_transfers t f

  numbered : StandsNumbered w s o → IsNumbered (blank w) (blank_snapshot s)
  numbered n = elim (halves s.ident.seq) [
    | inl e ↦
        let f = n.even e in
        clients (s.ident.seq / 2) (record { seq = omega (arith, e); counts = f.counts; given = omega (arith, f.given, next_is); maker = f.maker; name = f.name })
    | inr e ↦
        let f = n.odd e in
        transfers (s.ident.seq / 2) (record {
          seq = omega (arith, e);
          given = f.given;
          maker_counts = f.maker_counts;
          maker_given = f.maker_given;
          name = f.name;
          label = f.label;
          while_standing = λ r u a is_u same. all_among (MadeBy s) w.relations.items f.while_standing r a u is_u same;
        })
  ]

  pub number_is : StandsNumbered w s o ↔ NumberStands (blank w) (blank_snapshot s)
  number_is = (
    λ n. record { origin = omega (arith, lt, length-map w.volumes.items blank_volume); seq = numbered n },
    λ n. of_numbered n.seq,
  )
