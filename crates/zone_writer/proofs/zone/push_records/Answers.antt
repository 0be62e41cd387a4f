use Rattle.zone_writer.proofs.Records.{lacks_less}
use Rattle.zone_writer.proofs.zone.push_records.Goals as goal

pub loop-index-preserved : goal.loop-index-preserved
loop-index-preserved c = lacks_less _ _ _ _ _ _ _ _ _ c.loop-index-test.true c.in_ok-push_record.ensures c.loop-index.invariant
