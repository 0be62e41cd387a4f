use Rattle.std.specs.Prelude.{codes}
use Rattle.std.proofs.Common.{◌≡◌, ℕ, ◌-◌, List, get_or, ap, ◌∙◌}
use Rattle.zone_answers.specs.Questions.{question_text}
use Rattle.kept_lists.specs.declared.kept.KeptLine.{KeptLine}
use Rattle.deps_watch.specs.Freshness.{IsFirstStale}
use Rattle.deps_watch.proofs.Agreeing.{if_ok}
use Rattle.loading.specs.Lines.{line_of}
use Rattle.job_stale.specs.Meaning.{stale}
use Rattle.job_stale.proofs.Naming.{named}
use Rattle.job_stale.proofs.stale.watch_line.Goals as goal

pub returns-in-Stale : goal.returns-in-Stale
returns-in-Stale c =
    let first : IsFirstStale c.args.zones.now c.args.kept.now.lines c.in-Stale.place = rw c.in-Stale.is at c.in_ok-stale.ensures in
    let here : c.index-as_slice-place.result ≡ first.line =
    c.index-as_slice-place.is ∙ (ap (λ (ls : List KeptLine). get_or ls (c.in-Stale.place - 2) c.index-as_slice-place.result) c.as_slice.ensures
    ∙ named c.args.zones.now c.args.kept.now.lines c.in-Stale.place c.index-as_slice-place.result first) in
    if_ok c.line-in-Stale.result
    (λ bytes e. stale c.in-Stale.place first
    (e ∙ ap (λ (t : List ℕ). line_of (codes "stale ") t) (c.deref.ensures.0 ∙ (c.text.ensures ∙ ap (λ (l : KeptLine). question_text l.question) here)))) c.line-in-Stale.ensures
