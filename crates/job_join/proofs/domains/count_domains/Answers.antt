use Rattle.std.proofs.Common.{◌∙◌, sym, String, string_bytes}
use Rattle.std.specs.declared.alloc.Global.{Global}
use Rattle.job_join.specs.Words.{is_other}
use Rattle.job_join.proofs.Fronts.{counted_none}
use Rattle.job_join.proofs.domains.count_domains.Goals as goal

pub returns-in-None-clause-value : goal.returns-in-None-clause-value
returns-in-None-clause-value c = counted_none (λ (word : String Global). is_other (string_bytes word)) c.args.words.now (sym c.place_of_other.ensures.value ∙ c.in-None.is)
