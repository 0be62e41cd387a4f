use Rattle.loading.proofs.OneLoading.{one_loading}
use Rattle.loading.proofs.laws.one_loading.Goals as goal

pub returns : goal.returns
returns c = one_loading
