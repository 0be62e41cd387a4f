use Rattle.std.proofs.Common.{◌++◌, flat_map}
use Rattle.std.proofs.lemmas.Result.{on_ok_weaker}
use Rattle.zone_writer.specs.Fragment.{quoted, strings_of}
use Rattle.zone_writer.proofs.Strings.{lacks_all, lacks_less, lacks_none}
use Rattle.zone_writer.proofs.record.push_strings.Goals as goal

pub loop-rest-init : goal.loop-rest-init
loop-rest-init c = lacks_all c.args.zone.now c.args.text.now

pub loop-rest-preserved : goal.loop-rest-preserved
loop-rest-preserved c =
    lacks_less c.loop-rest.zone (c.args.zone.now ++ flat_map quoted (strings_of c.args.text.now)) c.loop-rest.rest.now
    c.split_at.result.0.now c.split_at.result.1.now c.push_string.new.zone c.loop-rest-test.true c.split_at.ensures.front c.split_at.ensures.back
    c.split_at.ensures.back_len c.in_ok-push_string.ensures c.loop-rest.invariant

pub returns : goal.returns
returns c =
    on_ok_weaker c.push_string-2.result
    (λ w. lacks_none c.loop-rest.zone (c.args.zone.now ++ flat_map quoted (strings_of c.args.text.now)) c.loop-rest.rest.now c.push_string-2.new.zone c.loop-rest-test.false w c.loop-rest.invariant)
    c.push_string-2.ensures
