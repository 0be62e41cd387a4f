-- check_host of RFC 7208, for one address.
use Rattle.std.specs.Prelude.{ℕ, zero, suc, ◌+◌, min, List, [], ◌∷◌, filter_map}
use Rattle.std.specs.Prelude.{Option, Some, None, Bool, true, false, if◌then◌else◌}
use Rattle.std.specs.List.{concat}
use Rattle.addr_bits.specs.Address.{family_of}
use Rattle.addr_bits.specs.declared.address.Address.{Address}
use Rattle.master_reader.specs.declared.record.Body.{Body}
use Rattle.master_reader.specs.declared.record.Body.TheVariants as body
use Rattle.zone_answers.specs.declared.ask_kind.AskKind.TheVariants as kind
use Rattle.zone_answers.specs.declared.answer.Answer.{Answer}
use Rattle.zone_answers.specs.declared.answer.Answer.TheVariants as answer
use Rattle.spf_macros.specs.declared.piece.Piece.{Piece}
use Rattle.spf_text.specs.Version.{is_spf_text}
use Rattle.spf_grammar.specs.declared.verdict.Verdict.{Verdict}
use Rattle.spf_grammar.specs.declared.verdict.Verdict.TheVariants.{Neutral}
use Rattle.spf_grammar.specs.declared.policy.Term.{Term}
use Rattle.spf_grammar.specs.declared.policy.Term.TheVariants.{Directive, Redirect, Exp, Unknown}
use Rattle.spf_grammar.specs.declared.policy.Policy.{Policy}
use Rattle.spf_model.specs.declared.outcome.Limits.{Limits}
use Rattle.spf_model.specs.declared.outcome.Counts.{Counts}
use Rattle.spf_model.specs.declared.outcome.Cause.TheVariants as cause
use Rattle.spf_model.specs.declared.outcome.Outcome.TheVariants.{Nothing, Is, Perm, Temp, Unsettled}
use Rattle.spf_model.specs.Run.{Run, Ends, Asks, Reads}
use Rattle.spf_model.specs.Judging.{Labels, Site, Sub, Judge, with_verdict, judge}

-- RFC 7208, section 4.6.4: the limits of a mail receiver
abbrev pub receiver_limits : Limits
receiver_limits = record { lookups = 10; voids = 2; exchanges = 10 }

-- ---- a record

-- RFC 7208, section 4.6.2: the verdict of a directive that matches, and else what comes after it
abbrev pub unless_matched : Verdict → (Counts → Run) → Bool → Counts → Run
unless_matched verdict next true counts = Ends (Is verdict) counts
unless_matched verdict next false counts = next counts

-- the number of the term after this one. A number is held at the last one of 32 bits, which no term of a record of
-- 65,535 octets has
abbrev pub term_after : ℕ → ℕ
term_after t = min (t + 1) 4294967295

-- RFC 7208, section 4.6.2: a directive, and what comes after it; a modifier is passed over
abbrev pub trying : Judge → ℕ → Term → Counts → (Counts → Run) → Run
trying judges t (Directive verdict mechanism) counts next = judges t mechanism counts (unless_matched verdict next)
trying judges t (Redirect spec) counts next = next counts
trying judges t (Exp spec) counts next = next counts
trying judges t (Unknown name value) counts next = next counts

-- RFC 7208, sections 4.6.2 and 4.7: the directives in order, where terms are numbered from t; then what comes where
-- none matches
abbrev pub tried : Judge → ℕ → List Term → Counts → (Counts → Run) → Run
tried judges t [] counts last = last counts
tried judges t (term ∷ terms) counts last =
    trying judges t term counts (λ counts. tried judges (term_after t) terms counts last)

-- RFC 7208, section 6.1: the redirect of a record, with the number of its term
abbrev pub redirect_from : ℕ → List Term → Option (ℕ × List Piece)
redirect_from t [] = None
redirect_from t (Redirect spec ∷ terms) = Some (t, spec)
redirect_from t (Directive verdict mechanism ∷ terms) = redirect_from (term_after t) terms
redirect_from t (Exp spec ∷ terms) = redirect_from (term_after t) terms
redirect_from t (Unknown name value ∷ terms) = redirect_from (term_after t) terms

-- RFC 7208, sections 4.7 and 6.1: neutral where no directive matches, and the target's verdict where there is a
-- redirect
abbrev pub default : Site → Sub → Counts → Option (ℕ × List Piece) → Run
default site sub counts None = Ends (Is Neutral) counts
default site sub counts (Some redirect) =
    with_verdict site sub redirect.0 redirect.1 counts (λ verdict counts. Ends (Is verdict) counts)

-- a record's outcome: its directives, and then its default
abbrev pub evaluated : Site → Address → Sub → List Term → Counts → Run
evaluated site a sub terms counts =
    tried (judge site a sub) 1 terms counts (λ counts. default site sub counts (redirect_from 1 terms))

-- ---- the record of a name

-- RFC 7208, section 3.3: the text of a TXT record, its strings with nothing between
abbrev pub text_of : Body → Option (List ℕ)
text_of (body.Txt strings) = Some (concat strings)
text_of (body.A n) = None
text_of (body.Aaaa n) = None
text_of (body.Mx preference name) = None
text_of (body.Cname name) = None
text_of (body.Ns name) = None
text_of body.Other = None

-- a text that passes the test
abbrev pub only_if : (List ℕ → Bool) → Option (List ℕ) → Option (List ℕ)
only_if test None = None
only_if test (Some text) = if test text then Some text else None

-- RFC 7208, section 4.5: the text of a TXT record that is an SPF text
abbrev pub spf_text_of : Body → Option (List ℕ)
spf_text_of body = only_if is_spf_text (text_of body)

-- RFC 7208, section 4.6: a policy, or the error of a record that the grammar doesn't read
abbrev pub with_policy : Labels → Counts → Option Policy → (List Term → Run) → Run
with_policy name counts None go = Ends (Perm cause.Syntax (record { name = name; term = 0 })) counts
with_policy name counts (Some policy) go = go policy.terms

-- RFC 7208, section 4.5: the one SPF text
abbrev pub with_texts : Labels → Counts → List (List ℕ) → (List Term → Run) → Run
with_texts name counts [] go = Ends (Nothing (record { name = name; term = 0 })) counts
with_texts name counts (text ∷ []) go = Reads text (λ policy. with_policy name counts policy go)
with_texts name counts (text ∷ next ∷ texts) go = Ends (Perm cause.Records (record { name = name; term = 0 })) counts

-- RFC 7208, sections 4.4 and 4.5: the SPF texts of an answer; what leads out of the zones or round is the project's own
-- choice
abbrev pub with_answer : Labels → Counts → Answer → (List Term → Run) → Run
with_answer name counts answer.Outside go = Ends (Unsettled cause.Outside (record { name = name; term = 0 })) counts
with_answer name counts answer.Loop go = Ends (Temp cause.Alias (record { name = name; term = 0 })) counts
with_answer name counts answer.NoName go = Ends (Nothing (record { name = name; term = 0 })) counts
with_answer name counts answer.NoData go = Ends (Nothing (record { name = name; term = 0 })) counts
with_answer name counts (answer.Found bodies) go = with_texts name counts (filter_map spf_text_of bodies) go

-- RFC 7208, sections 4.3 to 4.6: the record of a name of two or more labels
abbrev pub with_record : Labels → Counts → (List Term → Run) → Run
with_record [] counts go = Ends (Nothing (record { name = []; term = 0 })) counts
with_record (label ∷ []) counts go = Ends (Nothing (record { name = label ∷ []; term = 0 })) counts
with_record (label ∷ next ∷ labels) counts go =
    Asks (record { name = label ∷ next ∷ labels; kind = kind.Txt })
    (λ found. with_answer (label ∷ next ∷ labels) counts found go)

-- ---- the recursion

-- RFC 7208, section 4: check_host at a domain, with counts, where records are nested at most so deep. A lookup is
-- counted at each step down, so a depth of one more than the limit on lookups is never used up
abbrev pub check : Limits → Address → ℕ → Sub
check limits a zero domain name counts = Ends (Perm cause.Lookups (record { name = name; term = 0 })) counts
check limits a (suc depth) domain name counts =
    with_record name counts (λ terms.
    evaluated (record { limits = limits; family = family_of a; domain = domain; name = name }) a
    (check limits a depth) terms counts)

-- RFC 7208, section 4: check_host for one address, where both counts begin at 0
unfoldable pub check_host : Limits → Address → List ℕ → Labels → Run
check_host limits a domain name = check limits a (suc limits.lookups) domain name (record { lookups = 0; voids = 0 })
