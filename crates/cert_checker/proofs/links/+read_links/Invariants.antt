use Rattle.std.proofs.Common.{length}
use Rattle.cert_checker.proofs.links.+read_links.Given as goal

abbrev pub decreases-read_links : goal.decreases-read_links
decreases-read_links l = length l.records.now
