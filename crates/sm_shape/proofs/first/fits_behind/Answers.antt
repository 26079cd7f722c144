use Rattle.std.proofs.Common.{◌≡◌, ◌↔◌, List, length, map, refl, sym, ap, arith}
use Rattle.std.specs.Prelude.{IsTrue}
use Rattle.std.proofs.lemmas.List.{length-map}
use Rattle.sm_model.specs.Crossed.{CrossedRelation}
use Rattle.sm_model.specs.declared.world.WorldVolume.{WorldVolume}
use Rattle.sm_shape.specs.Blank.{blank, blank_volume}
use Rattle.sm_shape.specs.Rules.{HasCrossedTransfer}
use Rattle.sm_shape.proofs.Tests.{first_fails}
use Rattle.sm_shape.proofs.first.fits_behind.Goals as goal

pub returns-then-not-own : goal.returns-then-not-own
returns-then-not-own c =
    let test : IsTrue c.relation_fits-own.result ↔ CrossedRelation (blank c.args.world.now) c.args.relation.now =
    c.relation_fits-own.ensures (blank c.args.world.now) (record { volumes_are = ap (map blank_volume) (sym c.deref.ensures.value); policies_are = sym c.deref-2.ensures.value; next_is = refl }) in
    first_fails c.relation_fits-own.result c.if-not-own.true test (λ f. f.relation)

pub transfer_rules-requires : goal.transfer_rules-requires
transfer_rules-requires c =
    let test : IsTrue c.relation_fits-own.result ↔ CrossedRelation (blank c.args.world.now) c.args.relation.now =
    c.relation_fits-own.ensures (blank c.args.world.now) (record { volumes_are = ap (map blank_volume) (sym c.deref.ensures.value); policies_are = sym c.deref-2.ensures.value; next_is = refl }) in
    let crossed = test.0 c.if-not-own.false in
    let long : length c.deref-3.result.now ≡ length c.args.world.now.volumes.items = ap (λ (l : List WorldVolume). length l) c.deref-3.ensures.value in
    omega (arith, crossed.source, long, length-map c.args.world.now.volumes.items blank_volume)

pub returns : goal.returns
returns c =
    let w = blank c.args.world.now in
    let own : IsTrue c.relation_fits-own.result ↔ CrossedRelation w c.args.relation.now =
    c.relation_fits-own.ensures w (record { volumes_are = ap (map blank_volume) (sym c.deref.ensures.value); policies_are = sym c.deref-2.ensures.value; next_is = refl }) in
    let test : IsTrue c.in_ok-fits.fits ↔ HasCrossedTransfer w c.args.relation.now = c.in_ok-fits.ensures w (ap (map blank_volume) (sym c.deref-3.ensures.value)) refl in (
      λ e. record {
        relation = own.0 c.if-not-own.false;
        transfer = test.0 e;
        destination_new = c.destination_is_new-apart.ensures.0 c.if-not-apart.false;
        transfer_new = c.transfer_is_new-fresh.ensures.0 c.if-not-fresh.false;
      },
      λ f. test.1 f.transfer,
    )
