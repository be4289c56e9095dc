use Rattle.std.proofs.Common.{refl, arith}
use Rattle.register.proofs.BuildLemmas.{empty_is}
use Rattle.register.proofs.building.empty_catalogue.Goals as goal

pub returns : goal.returns
returns c = record {
  is = empty_is c.args.count c.args.fields.now _ _ refl refl (omega (arith, c.if-fields-ne2.false)) c.in_ok-new.ensures.none c.new-2.ensures c.new-3.ensures.items;
  broken = tt;
  fault = tt;
}
