use Rattle.std.proofs.Common.{string_bytes}
use Rattle.job_join.specs.Words.{is_other}
use Rattle.job_join.proofs.Fronts.{front_of, rest_of}
use Rattle.job_join.proofs.domains.split_domains.Goals as goal

pub returns-clause-front : goal.returns-clause-front
returns-clause-front c = front_of string_bytes is_other c.args.words.now c.count_domains-count.result c.count_domains-count.ensures.value

pub returns-clause-behind : goal.returns-clause-behind
returns-clause-behind c = rest_of string_bytes is_other c.args.words.now c.count_domains-count.result c.count_domains-count.ensures.value
