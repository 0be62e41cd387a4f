-- What a term of a record comes to.
use Rattle.std.specs.Prelude.{ℕ, ◌+◌, Bool, true, false, nat_le, List, [], ◌∷◌, ◌||◌, length, map, filter_map}
use Rattle.std.specs.Prelude.{Option, Some, None, Result, Ok, Err}
use Rattle.std.specs.List.{list_any}
use Rattle.addr_bits.specs.Prefix.{cidr_of}
use Rattle.addr_bits.specs.declared.address.Address.{Address}
use Rattle.addr_bits.specs.declared.address.Address.TheVariants as address
use Rattle.addr_bits.specs.declared.address.Family.{Family}
use Rattle.addr_bits.specs.declared.address.Family.TheVariants as family
use Rattle.dns_name.specs.declared.fault.NameFault.{NameFault}
use Rattle.dns_name.specs.Name.{name_of_text}
use Rattle.master_reader.specs.declared.record.Body.{Body}
use Rattle.master_reader.specs.declared.record.Body.TheVariants as body
use Rattle.zone_answers.specs.declared.answer.QKind.{QKind}
use Rattle.zone_answers.specs.declared.answer.QKind.TheVariants as kind
use Rattle.zone_answers.specs.declared.answer.Question.{Question}
use Rattle.zone_answers.specs.declared.answer.Answer.{Answer}
use Rattle.zone_answers.specs.declared.answer.Answer.TheVariants as answer
use Rattle.zone_answers.specs.Answers.{kind_in}
use Rattle.zone_answers.specs.Questions.{ask_kind_of, reversed_kind}
pub use Rattle.zone_answers.specs.Answers.{answer_bodies}
use Rattle.spf_macros.specs.declared.piece.Piece.{Piece}
use Rattle.spf_macros.specs.declared.expansion.Need.{Need}
use Rattle.spf_macros.specs.declared.expansion.Need.TheVariants as need
use Rattle.spf_macros.specs.declared.expansion.Expanded.{Expanded}
use Rattle.spf_macros.specs.declared.expansion.Expanded.TheVariants.{Out, Needs}
use Rattle.spf_macros.specs.Expansion.{target}
use Rattle.spf_macros.specs.Reversed.{reverse_suffix}
use Rattle.spf_grammar.specs.Flat.{agrees, covers}
use Rattle.spf_grammar.specs.declared.flat.Net.TheVariants as net
use Rattle.spf_grammar.specs.declared.verdict.Verdict.{Verdict}
use Rattle.spf_grammar.specs.declared.verdict.Verdict.TheVariants.{Pass, Fail, SoftFail, Neutral}
use Rattle.spf_grammar.specs.declared.policy.Mechanism.{Mechanism}
use Rattle.spf_grammar.specs.declared.policy.Mechanism.TheVariants.{All, Include, A, Mx, Ptr, Ip4, Ip6, Exists}
use Rattle.spf_model.specs.declared.outcome.Limits.{Limits}
use Rattle.spf_model.specs.declared.outcome.Counts.{Counts}
use Rattle.spf_model.specs.declared.outcome.Cause.{Cause}
use Rattle.spf_model.specs.declared.outcome.Cause.TheVariants as cause
use Rattle.spf_model.specs.declared.outcome.Place.{Place}
use Rattle.spf_model.specs.declared.outcome.Outcome.{Outcome}
use Rattle.spf_model.specs.declared.outcome.Outcome.TheVariants.{Nothing, Is, Perm, Temp, Unsettled}
use Rattle.spf_model.specs.declared.gathered.Gathered.{Gathered}
use Rattle.spf_model.specs.declared.gathered.Hosts.{Hosts}
use Rattle.spf_model.specs.declared.gathered.Hosts.TheVariants.{Common, Reversed}
use Rattle.spf_model.specs.Run.{Run, Ends, Asks, then_do}

-- the labels of a name
abbrev pub Labels : Type 0
Labels = List (List ℕ)

-- what a term of a record is judged by, for every address of a family: the limits, the family, and the domain's text
-- and name
pub record Site : Type 0 where
  pub limits : Limits
  pub family : Family
  pub domain : List ℕ
  pub name : Labels

-- a term of the record
abbrev pub at : Site → ℕ → Place
at site term = record { name = site.name; term = term }

-- check_host at a domain's text and name, with the counts so far
abbrev pub Sub : Type 0
Sub = List ℕ → Labels → Counts → Run

-- what a mechanism comes to at a term: it goes on with whether it matches and with the counts after it, or ends
abbrev pub Judge : Type 0
Judge = ℕ → Mechanism → Counts → (Bool → Counts → Run) → Run

-- goes on where the test holds, and else ends
abbrev pub go_if : Bool → Outcome → Counts → (Counts → Run) → Run
go_if true outcome counts go = go counts
go_if false outcome counts go = Ends outcome counts

-- RFC 7208, section 4.6.4: a term that asks the DNS counts one lookup, which must be within the limit
abbrev pub counted : Site → ℕ → Counts → (Counts → Run) → Run
counted site t counts go = let more = record counts { lookups = counts.lookups + 1 } in
    go_if (nat_le more.lookups site.limits.lookups) (Perm cause.Lookups (at site t)) more go

-- RFC 7208, section 4.6.4: a term of which some answer was void counts one void lookup, which must be within the limit;
-- that it counts one at most, and before its match is judged, is the project's own choice
abbrev pub void_counted : Site → ℕ → Bool → Counts → (Counts → Run) → Run
void_counted site t false counts go = go counts
void_counted site t true counts go = let more = record counts { voids = counts.voids + 1 } in
    go_if (nat_le more.voids site.limits.voids) (Perm cause.Voids (at site t)) more go

-- project's own choice: what an expansion needs is left open
abbrev pub cause_of : Need → Cause
cause_of need.Sender = cause.Sender
cause_of need.Helo = cause.Helo
cause_of need.Reverse = cause.Reverse
cause_of need.Address = cause.Address

-- RFC 7208, sections 4.8 and 7.3: the target text of a term, the expansion of its domain-spec
abbrev pub with_text : Site → ℕ → Counts → Expanded → (List ℕ → Run) → Run
with_text site t counts (Out text) go = go text
with_text site t counts (Needs n) go = Ends (Unsettled (cause_of n) (at site t)) counts

-- RFC 7208, section 4.8: the same where a term may have no domain-spec, and its target is the domain
abbrev pub with_target : Site → ℕ → Counts → Option (List Piece) → (List ℕ → Run) → Run
with_target site t counts None go = go site.domain
with_target site t counts (Some spec) go = with_text site t counts (target site.family site.domain spec) go

-- a legal name, or none
abbrev pub legal : Result Labels NameFault → Option Labels
legal (Ok name) = Some name
legal (Err fault) = None

-- RFC 1034, section 3.1: the name that a text writes, if it writes one
unfoldable pub name_of : List ℕ → Option Labels
name_of text = legal (name_of_text text)

-- goes on with a name, and ends where the text is none
abbrev pub with_name : Outcome → Counts → Option Labels → (Labels → Run) → Run
with_name outcome counts None go = Ends outcome counts
with_name outcome counts (Some name) go = go name

-- RFC 7208, section 4.8: the name of hosts that a term asks for, its target. That one which is no name is left open is
-- the project's own choice
abbrev pub naming : Site → ℕ → Option (List Piece) → Counts → (Labels → Run) → Run
naming site t spec counts go =
    with_target site t counts spec (λ text. with_name (Unsettled cause.Target (at site t)) counts (name_of text) go)

-- RFC 7208, sections 5.2 and 6.1: the domain whose record a term asks for, its target as a text and as a name; one
-- which is no name is an error
abbrev pub naming_target : Site → ℕ → List Piece → Counts → (List ℕ × Labels → Run) → Run
naming_target site t spec counts go =
    with_target site t counts (Some spec) (λ text.
    with_name (Perm cause.Missing (at site t)) counts (name_of text) (λ name. go (text, name)))

-- RFC 7208, sections 5.2 and 6.1: a term that asks for a record counts a lookup, and goes on with its domain
abbrev pub with_domain : Site → ℕ → List Piece → Counts → (List ℕ → Labels → Counts → Run) → Run
with_domain site t spec counts go =
    counted site t counts (λ counts. naming_target site t spec counts (λ found. go found.0 found.1 counts))

-- project's own choice: an answer to a term's question that leads out of the zones leaves the run open, and one that
-- goes round is an error (after RFC 7208, sections 2.6.6 and 5)
abbrev pub answered : Site → ℕ → Counts → (Answer → Run) → Answer → Run
answered site t counts go answer.Outside = Ends (Unsettled cause.Outside (at site t)) counts
answered site t counts go answer.Loop = Ends (Temp cause.Alias (at site t)) counts
answered site t counts go answer.NoName = go answer.NoName
answered site t counts go answer.NoData = go answer.NoData
answered site t counts go (answer.Found bodies) = go (answer.Found bodies)

-- asks a question for a term
abbrev pub ask : Site → ℕ → Counts → Question → (Answer → Run) → Run
ask site t counts question go = Asks question (answered site t counts go)

-- asks in order, and goes on with all answers
abbrev pub ask_all : Site → ℕ → Counts → List Question → (List Answer → Run) → Run
ask_all site t counts [] go = go []
ask_all site t counts (question ∷ questions) go =
    ask site t counts question (λ found. ask_all site t counts questions (λ rest. go (found ∷ rest)))

-- RFC 7208, section 4.6.4: a void answer, no such name or no such record
abbrev pub is_void : Answer → Bool
is_void answer.Outside = false
is_void answer.NoName = true
is_void answer.NoData = true
is_void answer.Loop = false
is_void (answer.Found bodies) = false

-- RFC 7208, section 5.7: an answer that has records
abbrev pub is_found : Answer → Bool
is_found answer.Outside = false
is_found answer.NoName = false
is_found answer.NoData = false
is_found answer.Loop = false
is_found (answer.Found bodies) = true

-- RFC 7208, section 5.6: of two lengths, the one for the addresses of a family
abbrev pub len_in : Family → (len4 len6 : ℕ) → ℕ
len_in family.V4 len4 len6 = len4
len_in family.V6 len4 len6 = len6

-- RFC 7208, sections 5.3 and 5.6: the address agrees with the record's in the first bits
abbrev pub body_agrees : ℕ → ℕ → Address → Body → Bool
body_agrees len4 len6 (address.V4 a) (body.A n) = agrees 32 (cidr_of 32 len4 n) a
body_agrees len4 len6 (address.V6 a) (body.Aaaa n) = agrees 128 (cidr_of 128 len6 n) a
body_agrees len4 len6 (address.V4 a) (body.Aaaa n) = false
body_agrees len4 len6 (address.V6 a) (body.A n) = false
body_agrees len4 len6 a (body.Mx preference name) = false
body_agrees len4 len6 a (body.Txt strings) = false
body_agrees len4 len6 a (body.Cname name) = false
body_agrees len4 len6 a (body.Ns name) = false
body_agrees len4 len6 a body.Other = false

-- RFC 7208, sections 5.3 and 5.4: one of the addresses that were found agrees
abbrev pub some_agrees : ℕ → ℕ → Address → List Answer → Bool
some_agrees len4 len6 a answers = list_any (λ found. list_any (body_agrees len4 len6 a) (answer_bodies found)) answers

-- RFC 7505, section 3: the exchange of an MX record that is not the root; that the root is skipped is the project's own
-- choice
abbrev pub exchange_of : Body → Option Labels
exchange_of (body.Mx preference []) = None
exchange_of (body.Mx preference (label ∷ labels)) = Some (label ∷ labels)
exchange_of (body.A n) = None
exchange_of (body.Aaaa n) = None
exchange_of (body.Txt strings) = None
exchange_of (body.Cname name) = None
exchange_of (body.Ns name) = None
exchange_of body.Other = None

-- ---- what a term gathers, and then judges

-- the question for records of a kind at a name
abbrev pub question_of : QKind → Labels → Question
question_of kind name = record { name = name; kind = ask_kind_of kind }

-- RFC 7208, sections 5.7 and 7.2: the question at the reversed names below this one, for the addresses of a family
abbrev pub reversed_question : Family → Labels → Question
reversed_question family name = record { name = name; kind = reversed_kind family }

-- RFC 7208, sections 5.3, 5.4 and 5.7: gathers the answers of these hosts. That the answer which named them was void
-- counts for the term's void
abbrev pub gather_hosts : Site → ℕ → QKind → Bool → List Labels → Counts → (Gathered → Run) → Run
gather_hosts site t kind void hosts counts go =
    ask_all site t counts (map (question_of kind) hosts) (λ answers. go (record { void = void; answers = answers }))

-- RFC 7208, sections 5.3 and 5.7: the answer of the one host that a term asks for
abbrev pub gather_target : Site → ℕ → QKind → Option (List Piece) → Counts → (Gathered → Run) → Run
gather_target site t kind spec counts go =
    naming site t spec counts (λ name. gather_hosts site t kind false (name ∷ []) counts go)

-- RFC 7208, sections 4.6.4 and 5.4: the answers of the exchanges that were found, of which there may not be more than
-- the limit
abbrev pub gather_exchanges : Site → ℕ → Answer → Counts → (Gathered → Run) → Run
gather_exchanges site t found counts go =
    let exchanges = filter_map exchange_of (answer_bodies found) in
    go_if (nat_le (length exchanges) site.limits.exchanges) (Perm cause.Exchanges (at site t)) counts
    (λ counts. gather_hosts site t (kind_in site.family) (is_void found) exchanges counts go)

-- RFC 7208, section 5.4: asks for the exchanges of a name, and then for their addresses
abbrev pub gather_mx : Site → ℕ → Option (List Piece) → Counts → (Gathered → Run) → Run
gather_mx site t spec counts go =
    naming site t spec counts (λ name.
    ask site t counts (question_of kind.Mx name) (λ found. gather_exchanges site t found counts go))

-- RFC 7208, sections 5.7 and 7.3: the name below which an `exists` asks whose text begins with the reversed address and
-- a dot. What the rest needs is left open, and so is, by the project's own choice, one of more than 189 characters,
-- which behind the 63 of a reversed IPv6 address and a dot would have more than 253, and one that is no name
abbrev pub naming_suffix : Site → ℕ → Expanded → Counts → (Labels → Run) → Run
naming_suffix site t suffix counts go =
    with_text site t counts suffix (λ text.
    go_if (nat_le (length text) 189) (Unsettled cause.Address (at site t)) counts (λ counts.
    with_name (Unsettled cause.Target (at site t)) counts (name_of text) go))

-- RFC 7208, section 5.7: an `exists` asks at its target, or else each address at its reversed name
abbrev pub gather_exists : Site → ℕ → List Piece → Option Expanded → Counts → (Hosts → Run) → Run
gather_exists site t spec None counts go =
    gather_target site t kind.A (Some spec) counts (λ gathered. go (Common gathered))
gather_exists site t spec (Some suffix) counts go = naming_suffix site t suffix counts (λ name. go (Reversed name))

-- RFC 7208, section 5: what a mechanism gathers for every address of the family alike. `a` and `mx` ask for addresses
-- of the family (sections 5.3 and 5.4), and `exists` for those of IPv4 (section 5.7); no other mechanism asks for hosts
abbrev pub gather_common : Site → ℕ → Mechanism → Counts → (Hosts → Run) → Run
gather_common site t (A spec len4 len6) counts go =
    gather_target site t (kind_in site.family) spec counts (λ gathered. go (Common gathered))
gather_common site t (Mx spec len4 len6) counts go = gather_mx site t spec counts (λ gathered. go (Common gathered))
gather_common site t (Exists spec) counts go =
    gather_exists site t spec (reverse_suffix site.family site.domain spec) counts go
gather_common site t All counts go = go (Common (record { void = false; answers = [] }))
gather_common site t (Include spec) counts go = go (Common (record { void = false; answers = [] }))
gather_common site t (Ptr spec) counts go = go (Common (record { void = false; answers = [] }))
gather_common site t (Ip4 p) counts go = go (Common (record { void = false; answers = [] }))
gather_common site t (Ip6 p) counts go = go (Common (record { void = false; answers = [] }))

-- RFC 7208, section 5.7: what is gathered for an address: what all have in common, or the answer at its reversed name
abbrev pub gather_own : Site → ℕ → Hosts → Counts → (Gathered → Run) → Run
gather_own site t (Common gathered) counts go = go gathered
gather_own site t (Reversed name) counts go =
    ask site t counts (reversed_question site.family name) (λ found.
    go (record { void = false; answers = found ∷ [] }))

-- RFC 7208, section 5: what a mechanism gathers for an address
abbrev pub gather : Site → ℕ → Mechanism → Counts → (Gathered → Run) → Run
gather site t mechanism counts go =
    gather_common site t mechanism counts (λ hosts. gather_own site t hosts counts go)

-- RFC 7208, section 4.6.4: whether some answer of a term was void
abbrev pub some_void : Gathered → Bool
some_void gathered = gathered.void || list_any is_void gathered.answers

-- RFC 7208, section 5: whether a mechanism matches an address by the answers of its hosts: `a` and `mx` where one of
-- the addresses agrees (sections 5.3 and 5.4), and `exists` where something was found (section 5.7)
abbrev pub is_met : Mechanism → Address → List Answer → Bool
is_met (A spec len4 len6) a answers = some_agrees len4 len6 a answers
is_met (Mx spec len4 len6) a answers = some_agrees len4 len6 a answers
is_met (Exists spec) a answers = list_any is_found answers
is_met All a answers = false
is_met (Include spec) a answers = false
is_met (Ptr spec) a answers = false
is_met (Ip4 p) a answers = false
is_met (Ip6 p) a answers = false

-- RFC 7208, sections 4.6.4 and 5: counts a void of what was gathered, and goes on with whether the mechanism matches
abbrev pub judge_gathered : Site → Address → ℕ → Mechanism → Gathered → Counts → (Bool → Counts → Run) → Run
judge_gathered site a t mechanism gathered counts go =
    void_counted site t (some_void gathered) counts (λ counted. go (is_met mechanism a gathered.answers) counted)

-- RFC 7208, sections 4.6.4 and 5: a mechanism that asks for hosts counts a lookup, gathers their answers, and judges
-- them
abbrev pub judge_hosts : Site → Address → ℕ → Mechanism → Counts → (Bool → Counts → Run) → Run
judge_hosts site a t mechanism counts go = counted site t counts (λ counts.
    gather site t mechanism counts (λ gathered. judge_gathered site a t mechanism gathered counts go))

-- ---- the mechanisms

-- RFC 7208, sections 5.2 and 6.1: what a term makes of the outcome of the record that it asks for. It goes on with a
-- verdict; that there is no record is an error; everything else ends it
abbrev pub judged_by : Site → ℕ → (Verdict → Counts → Run) → Outcome → Counts → Run
judged_by site t go (Is verdict) counts = go verdict counts
judged_by site t go (Nothing place) counts = Ends (Perm cause.Missing (at site t)) counts
judged_by site t go (Perm cause place) counts = Ends (Perm cause place) counts
judged_by site t go (Temp cause place) counts = Ends (Temp cause place) counts
judged_by site t go (Unsettled cause place) counts = Ends (Unsettled cause place) counts

-- RFC 7208, sections 5.2 and 6.1: the verdict of the record that a term asks for; the counts go on
abbrev pub with_verdict : Site → Sub → ℕ → List Piece → Counts → (Verdict → Counts → Run) → Run
with_verdict site sub t spec counts go =
    with_domain site t spec counts (λ text name counts. then_do (sub text name counts) (judged_by site t go))

-- RFC 7208, section 5.2: an include matches where its record passes the address
abbrev pub is_pass : Verdict → Bool
is_pass Pass = true
is_pass Fail = false
is_pass SoftFail = false
is_pass Neutral = false

-- RFC 7208, section 5: whether a mechanism matches an address, and the counts after it
abbrev pub judge : Site → Address → Sub → Judge
judge site a sub t All counts go = go true counts
judge site a sub t (Ip4 p) counts go = go (covers (net.V4 p) a) counts
judge site a sub t (Ip6 p) counts go = go (covers (net.V6 p) a) counts
judge site a sub t (Ptr spec) counts go =
    counted site t counts (λ counts. Ends (Unsettled cause.Reverse (at site t)) counts)
judge site a sub t (Include spec) counts go =
    with_verdict site sub t spec counts (λ verdict. go (is_pass verdict))
judge site a sub t (A spec len4 len6) counts go = judge_hosts site a t (A spec len4 len6) counts go
judge site a sub t (Mx spec len4 len6) counts go = judge_hosts site a t (Mx spec len4 len6) counts go
judge site a sub t (Exists spec) counts go = judge_hosts site a t (Exists spec) counts go
