use Rattle.std.proofs.Common.{rules, subst}
use Rattle.spfc_words.specs.Subjects.{IsSubject, SpellsSubject}
use Rattle.spfc_words.specs.Words.{texts}
use Rattle.spfc_words.proofs.subject.Subject.read.Goals as goal

pub returns-in_default-read_limits : goal.returns-in_default-read_limits
returns-in_default-read_limits c any spelled =
    let is : IsSubject c.in-Some.domain.now (texts c.in-Some.rest.now) any = subst (λ words. SpellsSubject words any) c.in-Some.ensures spelled in
    c.in_default-read_limits.ensures any.limits is.reading

pub returns-then-not-branch : goal.returns-then-not-branch
returns-then-not-branch c any spelled =
    let is : IsSubject c.in-Some.domain.now (texts c.in-Some.rest.now) any = subst (λ words. SpellsSubject words any) c.in-Some.ensures spelled in
    let none = rw c.behind_options-behind.ensures at c.in_ok-push_zone_words.ensures.none in
    none (search rules) any.inputs is.zones
