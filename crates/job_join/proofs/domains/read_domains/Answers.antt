use Rattle.std.proofs.Common.{◌≡◌, ◌+◌, [], ◌∷◌, ◌++◌, take, subst, sym, rules}
use Rattle.std.specs.List.{AllZip}
use Rattle.spfc_words.specs.Domains.{IsDomain}
use Rattle.spfc_words.specs.Words.{texts}
use Rattle.job_join.specs.Words.{HaveOwnTexts}
use Rattle.job_join.proofs.Fronts.{refused_at, taken_at, one_more, own_push}
use Rattle.job_join.proofs.domains.read_domains.Goals as goal

pub returns-in_default : goal.returns-in_default
returns-in_default c any are =
    refused_at c.args.words.now c.loop-word.word-index c.word-item.result c.as_bytes.result.now any (search rules) (search rules) (search rules)
    (rw c.in_default.is at c.in_ok-domain.ensures) are.each

pub returns-then-has_text : goal.returns-then-has_text
returns-then-has_text c any are =
    taken_at c.args.words.now c.loop-word.word-index c.word-item.result c.as_bytes.result.now c.loop-word.domains any c.in-Some.domain (search rules) (search rules) (search rules) c.loop-word.invariant.each
    (rw c.in-Some.is at c.in_ok-domain.ensures) (sym (rw (c.as_slice.ensures, c.as_slice-in-loop-word.ensures) at c.if-has_text.ensures)) are.each are.own

pub loop-word-preserved : goal.loop-word-preserved
loop-word-preserved c =
    let pushed : c.push.new.self ≡ c.loop-word.domains ++ c.in-Some.domain ∷ [] = c.in_ok-push.ensures.ok in
    record {
      each = subst (λ ds. AllZip IsDomain (texts (take (c.loop-word.word-index + 1) c.args.words.now)) ds) (sym pushed)
          (one_more c.args.words.now c.loop-word.word-index c.word-item.result c.as_bytes.result.now c.loop-word.domains c.in-Some.domain (search rules) (search rules) (search rules) c.loop-word.invariant.each
          (rw c.in-Some.is at c.in_ok-domain.ensures));
      own = subst (λ ds. HaveOwnTexts ds) (sym pushed)
          (own_push c.loop-word.domains c.in-Some.domain c.loop-word.invariant.own (sym (rw (c.as_slice.ensures, c.as_slice-in-loop-word.ensures) at c.if-has_text.ensures)));
    }
