use Rattle.std.proofs.Common.{◌+◌, ◌-◌, ◌*◌, ◌≤◌, drop}
use Rattle.spf_model.specs.Run.{says}
use Rattle.spf_model.specs.Leads.{site_of, TermsFit}
use Rattle.spf_model.proofs.Terms.{TriedSoFar}
use Rattle.spf_model.proofs.frame.Frame.+check_host.Given as goal

abbrev pub decreases-judge_record : goal.decreases-judge_record
decreases-judge_record l = 6 * (l.self.now.context.limits.lookups - l.counts.now.lookups) + 5

abbrev pub decreases-judge_target : goal.decreases-judge_target
decreases-judge_target l = 6 * (l.self.now.context.limits.lookups - l.counts.now.lookups) + 1

abbrev pub decreases-matches : goal.decreases-matches
decreases-matches l = 6 * (l.self.now.context.limits.lookups - l.counts.now.lookups) + 2

abbrev pub decreases-try_term : goal.decreases-try_term
decreases-try_term l = 6 * (l.self.now.context.limits.lookups - l.counts.now.lookups) + 3

abbrev pub decreases-try_terms : goal.decreases-try_terms
decreases-try_terms l = 6 * (l.self.now.context.limits.lookups - l.counts.now.lookups) + 4

abbrev pub invariant-try_terms-loop-term : goal.invariant-try_terms-loop-term
invariant-try_terms-loop-term l = record {
  fit : TermsFit (drop l.term-index l.terms);
  grown : l.initial.counts.lookups ≤ l.counts.lookups;
  leads : TriedSoFar (says l.self.context.zones.now l.self.address) (site_of l.self.context) l.self.address l.terms l.initial.counts l.number (drop l.term-index l.terms) l.counts;
}
