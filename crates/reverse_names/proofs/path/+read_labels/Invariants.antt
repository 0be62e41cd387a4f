use Rattle.std.proofs.Common.{length}
use Rattle.reverse_names.proofs.path.+read_labels.Given as goal

abbrev pub decreases-read_labels : goal.decreases-read_labels
decreases-read_labels l = length l.labels.now
