-- The stretches of a record, by the number of the address (the project's own form of RFC 7208, section 4.6).
use Rattle.std.specs.Prelude.{ℕ, zero, suc, List, Option}
use Rattle.addr_bits.specs.declared.address.Address.{Address}
use Rattle.spf_macros.specs.declared.piece.Piece.{Piece}
use Rattle.spf_grammar.specs.declared.verdict.Verdict.{Verdict}
use Rattle.spf_grammar.specs.declared.policy.Mechanism.{Mechanism}
use Rattle.spf_grammar.specs.declared.policy.Term.{Term}
use Rattle.spf_model.specs.declared.outcome.Counts.{Counts}
use Rattle.spf_model.specs.declared.outcome.Outcome.TheVariants.{Is}
use Rattle.spf_model.specs.declared.context.RecordContext.{RecordContext}
use Rattle.spf_model.specs.declared.gathered.Hosts.{Hosts}
use Rattle.spf_model.specs.Run.{Run, Ends}
use Rattle.spf_model.specs.Judging.{Judge, gather_own, judge, judge_gathered, judge_hosts, naming_target, is_pass}
use Rattle.spf_model.specs.Judging.{with_verdict}
use Rattle.spf_model.specs.Leads.{site_of}
use Rattle.spf_model.specs.Check.{check, trying, tried, term_after, default, unless_matched}
use Rattle.symbolic_check.specs.declared.state.Purpose.{Purpose}
use Rattle.symbolic_check.specs.declared.state.Purpose.TheVariants.{Include, Redirect}
use Rattle.symbolic_check.specs.Walk.{Stretch}

-- what the mechanisms of a record come to at an address, where records are nested so deep below it
abbrev pub judges : RecordContext → ℕ → Address → Judge
judges context depth a = judge (site_of context) a (check context.limits a depth)

-- a term
abbrev pub term_stretch : (ℕ → Address) → RecordContext → ℕ → ℕ → Term → ℕ → Stretch
term_stretch address context depth t term a counts go = trying (judges context depth (address a)) t term counts go

-- RFC 7208, sections 4.6.4, 5.3, 5.4 and 5.7: a directive whose mechanism asks for hosts
abbrev pub hosts_stretch : (ℕ → Address) → RecordContext → ℕ → Verdict → Mechanism → ℕ → Stretch
hosts_stretch address context t verdict mechanism a counts go =
    judge_hosts (site_of context) (address a) t mechanism counts (unless_matched verdict go)

-- RFC 7208, sections 4.6.4 and 5.7: what the hosts of a mechanism come to at an address, once they are found
abbrev pub own_stretch : (ℕ → Address) → RecordContext → ℕ → Verdict → Mechanism → Hosts → ℕ → Stretch
own_stretch address context t verdict mechanism hosts a counts go =
    gather_own (site_of context) t hosts counts (λ gathered.
    judge_gathered (site_of context) (address a) t mechanism gathered counts (unless_matched verdict go))

-- terms, numbered from t
abbrev pub terms_stretch : (ℕ → Address) → RecordContext → ℕ → ℕ → List Term → ℕ → Stretch
terms_stretch address context depth t terms a counts go = tried (judges context depth (address a)) t terms counts go

-- what comes where no directive matches, which goes on nowhere
abbrev pub default_stretch : (ℕ → Address) → RecordContext → ℕ → Option (ℕ × List Piece) → ℕ → Stretch
default_stretch address context depth redirect a counts go =
    default (site_of context) (check context.limits (address a) depth) counts redirect

-- the number of the term so far behind this one
abbrev pub number_after : ℕ → ℕ → ℕ
number_after t zero = t
number_after t (suc n) = number_after (term_after t) n

-- the record of the context's domain, which goes on nowhere
abbrev pub record_stretch : (ℕ → Address) → RecordContext → ℕ → ℕ → Stretch
record_stretch address context depth a counts go =
    check context.limits (address a) depth context.domain.now context.name.now counts

-- RFC 7208, sections 5.2 and 6.1: what a term makes of the verdict of the record that it asks for
abbrev pub goes_on : Purpose → (Counts → Run) → Verdict → Counts → Run
goes_on (Include verdict) go found counts = unless_matched verdict go (is_pass found) counts
goes_on Redirect go found counts = Ends (Is found) counts

-- RFC 7208, sections 5.2 and 6.1: the record that a term asks for, once its lookup is counted, which goes on nowhere
abbrev pub reached_stretch : (ℕ → Address) → RecordContext → ℕ → ℕ → List Piece → ℕ → Stretch
reached_stretch address context depth t spec a counts go =
    naming_target (site_of context) t spec counts
    (λ found. check context.limits (address a) depth found.0 found.1 counts)

-- the record that a term asks for, and what the term makes of its verdict
abbrev pub target_stretch : (ℕ → Address) → RecordContext → ℕ → ℕ → List Piece → Purpose → ℕ → Stretch
target_stretch address context depth t spec purpose a counts go =
    with_verdict (site_of context) (check context.limits (address a) depth) t spec counts (goes_on purpose go)
