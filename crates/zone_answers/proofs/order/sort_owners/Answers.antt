use Rattle.std.proofs.Common.{sym, ◌∙◌}
use Rattle.std.proofs.lemmas.List.Sorted.{list_any-IsPermutation}
use Rattle.zone_answers.specs.declared.order.Entry.{Entry}
use Rattle.zone_answers.proofs.order.sort_owners.Goals as goal

pub returns-clause-placed : goal.returns-clause-placed
returns-clause-placed c = λ test. sym (list_any-IsPermutation (λ (e : Entry). test e.key.items e.place) c.in_ok-entries.entries.items c.sort.new.self.items c.in_ok-sort.ensures.permutation) ∙ c.in_ok-entries.ensures test
