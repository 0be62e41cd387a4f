use Rattle.std.proofs.Common.{suc, Option, sym, ◌∙◌, subst, arith}
use Rattle.std.specs.Prelude.{IsSome}
use Rattle.dns_name.specs.Name.{name_of_text}
use Rattle.spf_model.specs.Judging.{Labels, name_of}
use Rattle.spf_model.specs.Check.{check_host}
use Rattle.spf_model.proofs.Parts.{legal_some}
use Rattle.spf_model.proofs.check.check_one.Goals as goal

pub unwrap-name-requires : goal.unwrap-name-requires
unfolding name_of
unwrap-name-requires c = subst (λ (found : Option Labels). IsSome found) (sym c.name_of.ensures) (legal_some (name_of_text c.args.domain.now) c.requires.named)

pub returns-in-Ok : goal.returns-in-Ok
unfolding check_host
returns-in-Ok c =
    (c.unwrap-name.result, c.judge_record.new.counts, sym c.name_of.ensures ∙ c.unwrap-name.ensures, c.in-Ok.ensures.judged (suc c.args.limits.lookups) (omega arith))

pub returns-in-Err-Ended : goal.returns-in-Err-Ended
unfolding check_host
returns-in-Err-Ended c =
    let halts = rw c.in-Err-Ended.field-0-is at c.in-Err-Ended.ensures.judged (suc c.args.limits.lookups) (omega arith) in
    (c.unwrap-name.result, (halts.1 tt).0, sym c.name_of.ensures ∙ c.unwrap-name.ensures, (halts.1 tt).1)
