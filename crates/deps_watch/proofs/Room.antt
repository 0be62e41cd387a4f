-- Each question of check_host that is asked at reversed names has room for the labels of an address.
use Rattle.std.specs.Prelude.{length}
use Rattle.std.proofs.Common.{◌≡◌, ℕ, zero, suc, ◌≤◌, inl, inr, Bool, true, false, List, [], ◌∷◌, map, filter_map, Option, None, Some, sym, subst, nat_le}
use Rattle.std.specs.List.{AllByRecursion}
use Rattle.std.proofs.lemmas.Bool.{leb-true}
use Rattle.addr_bits.specs.Address.{family_of}
use Rattle.addr_bits.specs.declared.address.Address.{Address}
use Rattle.addr_bits.specs.declared.address.Family.{Family}
use Rattle.addr_bits.specs.declared.address.Family.TheVariants as family
use Rattle.zone_answers.specs.Questions.{ask_kind_of, reversed_kind}
use Rattle.zone_answers.specs.Answers.{kind_in}
use Rattle.zone_answers.specs.declared.answer.QKind.{QKind}
use Rattle.zone_answers.specs.declared.answer.QKind.TheVariants as kinds
use Rattle.zone_answers.specs.declared.answer.Question.{Question}
use Rattle.zone_answers.specs.declared.answer.Answer.{Answer}
use Rattle.zone_answers.specs.declared.answer.Answer.TheVariants as answer
use Rattle.spf_macros.specs.declared.piece.Piece.{Piece}
use Rattle.spf_macros.specs.declared.expansion.Expanded.{Expanded}
use Rattle.spf_macros.specs.declared.expansion.Expanded.TheVariants.{Out, Needs}
use Rattle.spf_macros.specs.Reversed.{reverse_suffix}
use Rattle.spf_grammar.specs.Flat.{covers}
use Rattle.spf_grammar.specs.declared.flat.Net.TheVariants as net
use Rattle.spf_grammar.specs.declared.verdict.Verdict.{Verdict}
use Rattle.spf_grammar.specs.declared.policy.Mechanism.{Mechanism}
use Rattle.spf_grammar.specs.declared.policy.Mechanism.TheVariants.{All, Include, A, Mx, Ptr, Ip4, Ip6, Exists}
use Rattle.spf_grammar.specs.declared.policy.Policy.{Policy}
use Rattle.spf_grammar.specs.declared.policy.Term.{Term}
use Rattle.spf_grammar.specs.declared.policy.Term.TheVariants.{Directive, Redirect, Exp, Unknown}
use Rattle.spf_model.specs.declared.gathered.Gathered.{Gathered}
use Rattle.spf_model.specs.declared.gathered.Hosts.{Hosts}
use Rattle.spf_model.specs.declared.gathered.Hosts.TheVariants.{Common, Reversed}
use Rattle.spf_model.specs.declared.outcome.Cause.TheVariants as cause
use Rattle.spf_model.specs.declared.outcome.Counts.{Counts}
use Rattle.spf_model.specs.declared.outcome.Limits.{Limits}
use Rattle.spf_model.specs.declared.outcome.Outcome.{Outcome}
use Rattle.spf_model.specs.declared.outcome.Outcome.TheVariants.{Nothing, Is, Perm, Temp, Unsettled}
use Rattle.spf_model.specs.Run.{Run, Ends, Asks, Reads, Answering, AnsweringEach, AsksFor, then_do}
use Rattle.spf_model.specs.Leads.{IsShort}
use Rattle.spf_model.specs.Judging as judging
use Rattle.spf_model.specs.Judging.{Labels, Site, Sub, Judge, name_of, question_of, reversed_question}
use Rattle.spf_model.specs.Check as checking
use Rattle.spf_model.specs.Check.{check, check_host}
use Rattle.spf_model.specs.Result.{IsAsked}
use Rattle.spf_model.proofs.Suffixes.{short_name}
use Rattle.deps_watch.specs.Lists.{HasRoom}

-- each question that the run may ask has room
abbrev pub IsRoomy : Run → Type 0
IsRoomy (Ends outcome counts) = Unit {0}
IsRoomy (Asks question next) = HasRoom question.kind question.name × ((found : Answer) → IsRoomy (next found))
IsRoomy (Reads text next) = (policy : Option Policy) → IsRoomy (next policy)

pub asked_room : (zones : Answering) (run : Run) (question : Question) → IsRoomy run → AsksFor zones run question → HasRoom question.kind question.name
asked_room zones (Ends outcome counts) question h asks = absurd asks
asked_room zones (Asks q next) question h (inl e) = subst (λ (x : Question). HasRoom x.kind x.name) (sym e) h.0
asked_room zones (Asks q next) question h (inr asks) = asked_room zones (next (zones q)) question (h.1 (zones q)) asks
asked_room zones (Reads text next) question h (policy, read, asks) = asked_room zones (next policy) question (h policy) asks

room_then : (run : Run) (go : Outcome → Counts → Run) → IsRoomy run → ((outcome : Outcome) (counts : Counts) → IsRoomy (go outcome counts)) → IsRoomy (then_do run go)
room_then (Ends outcome counts) go h k = k outcome counts
room_then (Asks question next) go h k = (h.0, λ found. room_then (next found) go (h.1 found) k)
room_then (Reads text next) go h k = λ policy. room_then (next policy) go (h policy) k

-- ---- the parts of a term

room_if : (test : Bool) (outcome : Outcome) (counts : Counts) (go : Counts → Run) → (test ≡ true → (c : Counts) → IsRoomy (go c)) → IsRoomy (judging.go_if test outcome counts go)
room_if true outcome counts go h = h (λ i. true) counts
room_if false outcome counts go h = tt

room_counted : (site : Site) (t : ℕ) (counts : Counts) (go : Counts → Run) → ((c : Counts) → IsRoomy (go c)) → IsRoomy (judging.counted site t counts go)
room_counted site t counts go h = room_if _ _ _ go (λ e. h)

room_void : (site : Site) (t : ℕ) (void : Bool) (counts : Counts) (go : Counts → Run) → ((c : Counts) → IsRoomy (go c)) → IsRoomy (judging.void_counted site t void counts go)
room_void site t false counts go h = h counts
room_void site t true counts go h = room_if _ _ _ go (λ e. h)

room_text : (site : Site) (t : ℕ) (counts : Counts) (found : Expanded) (go : List ℕ → Run) → ((text : List ℕ) → IsRoomy (go text)) → IsRoomy (judging.with_text site t counts found go)
room_text site t counts (Out text) go h = h text
room_text site t counts (Needs n) go h = tt

room_target : (site : Site) (t : ℕ) (counts : Counts) (spec : Option (List Piece)) (go : List ℕ → Run) → ((text : List ℕ) → IsRoomy (go text)) → IsRoomy (judging.with_target site t counts spec go)
room_target site t counts None go h = h site.domain
room_target site t counts (Some spec) go h = room_text site t counts _ go h

room_name : (outcome : Outcome) (counts : Counts) (found : Option Labels) (go : Labels → Run) → ((name : Labels) → Some name ≡ found → IsRoomy (go name)) → IsRoomy (judging.with_name outcome counts found go)
room_name outcome counts None go h = tt
room_name outcome counts (Some name) go h = h name (λ i. Some name)

room_naming : (site : Site) (t : ℕ) (spec : Option (List Piece)) (counts : Counts) (go : Labels → Run) → ((name : Labels) → IsRoomy (go name)) → IsRoomy (judging.naming site t spec counts go)
room_naming site t spec counts go h = room_target site t counts spec _ (λ text. room_name _ counts (name_of text) go (λ name e. h name))

room_domain : (site : Site) (t : ℕ) (spec : List Piece) (counts : Counts) (go : List ℕ → Labels → Counts → Run) → ((text : List ℕ) (name : Labels) (c : Counts) → IsRoomy (go text name c)) → IsRoomy (judging.with_domain site t spec counts go)
room_domain site t spec counts go h = room_counted site t counts _ (λ c. room_target site t c (Some spec) _ (λ text. room_name _ c (name_of text) _ (λ name e. h text name c)))

room_answered : (site : Site) (t : ℕ) (counts : Counts) (go : Answer → Run) (found : Answer) → ((found : Answer) → IsRoomy (go found)) → IsRoomy (judging.answered site t counts go found)
room_answered site t counts go answer.Outside h = tt
room_answered site t counts go answer.Loop h = tt
room_answered site t counts go answer.NoName h = h answer.NoName
room_answered site t counts go answer.NoData h = h answer.NoData
room_answered site t counts go (answer.Found bodies) h = h (answer.Found bodies)

room_ask : (site : Site) (t : ℕ) (counts : Counts) (question : Question) (go : Answer → Run) → HasRoom question.kind question.name → ((found : Answer) → IsRoomy (go found)) → IsRoomy (judging.ask site t counts question go)
room_ask site t counts question go room h = (room, λ found. room_answered site t counts go found h)

plain_room : (kind : QKind) (name : Labels) → HasRoom (ask_kind_of kind) name
plain_room kinds.A name = tt
plain_room kinds.Aaaa name = tt
plain_room kinds.Mx name = tt
plain_room kinds.Txt name = tt

room_hosts : (site : Site) (t : ℕ) (kind : QKind) (hosts : List Labels) (counts : Counts) (go : List Answer → Run) → ((answers : List Answer) → IsRoomy (go answers)) → IsRoomy (judging.ask_all site t counts (map (question_of kind) hosts) go)
room_hosts site t kind [] counts go h = h []
room_hosts site t kind (host ∷ hosts) counts go h =
    room_ask site t counts (question_of kind host) _ (plain_room kind host) (λ found. room_hosts site t kind hosts counts (λ rest. go (found ∷ rest)) (λ rest. h (found ∷ rest)))

room_gather_target : (site : Site) (t : ℕ) (kind : QKind) (spec : Option (List Piece)) (counts : Counts) (go : Gathered → Run) → ((gathered : Gathered) → IsRoomy (go gathered)) → IsRoomy (judging.gather_target site t kind spec counts go)
room_gather_target site t kind spec counts go h = room_naming site t spec counts _ (λ name. room_hosts site t kind (name ∷ []) counts _ (λ answers. h (record { void = false; answers = answers })))

room_exchanges : (site : Site) (t : ℕ) (found : Answer) (counts : Counts) (go : Gathered → Run) → ((gathered : Gathered) → IsRoomy (go gathered)) → IsRoomy (judging.gather_exchanges site t found counts go)
room_exchanges site t found counts go h =
    let exchanges : List Labels = filter_map judging.exchange_of (judging.answer_bodies found) in
    room_if (nat_le (length exchanges) site.limits.exchanges) (Perm cause.Exchanges (judging.at site t)) counts (λ c. judging.gather_hosts site t (kind_in site.family) (judging.is_void found) exchanges c go)
    (λ e c. room_hosts site t (kind_in site.family) exchanges c (λ answers. go (record { void = judging.is_void found; answers = answers })) (λ answers. h (record { void = judging.is_void found; answers = answers })))

room_mx : (site : Site) (t : ℕ) (spec : Option (List Piece)) (counts : Counts) (go : Gathered → Run) → ((gathered : Gathered) → IsRoomy (go gathered)) → IsRoomy (judging.gather_mx site t spec counts go)
room_mx site t spec counts go h =
    room_naming site t spec counts (λ name. judging.ask site t counts (question_of kinds.Mx name) (λ found. judging.gather_exchanges site t found counts go))
    (λ name. room_ask site t counts (question_of kinds.Mx name) (λ found. judging.gather_exchanges site t found counts go) tt (λ found. room_exchanges site t found counts go h))

room_suffix : (site : Site) (t : ℕ) (suffix : Expanded) (counts : Counts) (go : Labels → Run) → ((name : Labels) → IsShort (Reversed name) → IsRoomy (go name)) → IsRoomy (judging.naming_suffix site t suffix counts go)
room_suffix site t suffix counts go h =
    room_text site t counts suffix _ (λ text.
    room_if (nat_le (length text) 189) _ counts _ (λ few c. room_name _ c (name_of text) go (λ name e. h name (short_name text name e (leb-true (length text) 189 few)))))

room_exists : (site : Site) (t : ℕ) (spec : List Piece) (suffix : Option Expanded) (counts : Counts) (go : Hosts → Run) → ((hosts : Hosts) → IsShort hosts → IsRoomy (go hosts)) → IsRoomy (judging.gather_exists site t spec suffix counts go)
room_exists site t spec None counts go h = room_gather_target site t kinds.A (Some spec) counts _ (λ gathered. h (Common gathered) tt)
room_exists site t spec (Some suffix) counts go h = room_suffix site t suffix counts _ (λ name short. h (Reversed name) short)

room_common : (site : Site) (t : ℕ) (mechanism : Mechanism) (counts : Counts) (go : Hosts → Run) → ((hosts : Hosts) → IsShort hosts → IsRoomy (go hosts)) → IsRoomy (judging.gather_common site t mechanism counts go)
room_common site t (A spec len4 len6) counts go h = room_gather_target site t (kind_in site.family) spec counts _ (λ gathered. h (Common gathered) tt)
room_common site t (Mx spec len4 len6) counts go h = room_mx site t spec counts _ (λ gathered. h (Common gathered) tt)
room_common site t (Exists spec) counts go h = room_exists site t spec (reverse_suffix site.family site.domain spec) counts go h
room_common site t All counts go h = h (Common (record { void = false; answers = [] })) tt
room_common site t (Include spec) counts go h = h (Common (record { void = false; answers = [] })) tt
room_common site t (Ptr spec) counts go h = h (Common (record { void = false; answers = [] })) tt
room_common site t (Ip4 p) counts go h = h (Common (record { void = false; answers = [] })) tt
room_common site t (Ip6 p) counts go h = h (Common (record { void = false; answers = [] })) tt

reversed_room : (f : Family) (name : Labels) → IsShort (Reversed name) → HasRoom (reversed_kind f) name
reversed_room family.V4 name short = short
reversed_room family.V6 name short = short

room_own : (site : Site) (t : ℕ) (hosts : Hosts) (counts : Counts) (go : Gathered → Run) → IsShort hosts → ((gathered : Gathered) → IsRoomy (go gathered)) → IsRoomy (judging.gather_own site t hosts counts go)
room_own site t (Common gathered) counts go short h = h gathered
room_own site t (Reversed name) counts go short h = room_ask site t counts (reversed_question site.family name) _ (reversed_room site.family name short) (λ found. h (record { void = false; answers = found ∷ [] }))

room_gathered : (site : Site) (a : Address) (t : ℕ) (mechanism : Mechanism) (gathered : Gathered) (counts : Counts) (go : Bool → Counts → Run) → ((met : Bool) (c : Counts) → IsRoomy (go met c)) → IsRoomy (judging.judge_gathered site a t mechanism gathered counts go)
room_gathered site a t mechanism gathered counts go h =
    room_void site t (judging.some_void gathered) counts (λ c. go (judging.is_met mechanism a gathered.answers) c) (λ c. h (judging.is_met mechanism a gathered.answers) c)

room_gather : (site : Site) (t : ℕ) (mechanism : Mechanism) (counts : Counts) (go : Gathered → Run) → ((gathered : Gathered) → IsRoomy (go gathered)) → IsRoomy (judging.gather site t mechanism counts go)
room_gather site t mechanism counts go h =
    room_common site t mechanism counts (λ hosts. judging.gather_own site t hosts counts go) (λ hosts short. room_own site t hosts counts go short h)

room_judge_hosts : (site : Site) (a : Address) (t : ℕ) (mechanism : Mechanism) (counts : Counts) (go : Bool → Counts → Run) → ((met : Bool) (c : Counts) → IsRoomy (go met c)) → IsRoomy (judging.judge_hosts site a t mechanism counts go)
room_judge_hosts site a t mechanism counts go h =
    room_counted site t counts (λ c. judging.gather site t mechanism c (λ gathered. judging.judge_gathered site a t mechanism gathered c go))
    (λ c. room_gather site t mechanism c (λ gathered. judging.judge_gathered site a t mechanism gathered c go) (λ gathered. room_gathered site a t mechanism gathered c go h))

-- ---- the mechanisms

-- each evaluation of a record that is asked for
abbrev AreRoomy : Sub → Type 0
AreRoomy sub = (text : List ℕ) (name : Labels) (c : Counts) → IsRoomy (sub text name c)

room_judged : (site : Site) (t : ℕ) (go : Verdict → Counts → Run) → ((verdict : Verdict) (c : Counts) → IsRoomy (go verdict c)) → (outcome : Outcome) (counts : Counts) → IsRoomy (judging.judged_by site t go outcome counts)
room_judged site t go h (Is verdict) counts = h verdict counts
room_judged site t go h (Nothing place) counts = tt
room_judged site t go h (Perm why place) counts = tt
room_judged site t go h (Temp why place) counts = tt
room_judged site t go h (Unsettled why place) counts = tt

room_verdict : (site : Site) (sub : Sub) (t : ℕ) (spec : List Piece) (counts : Counts) (go : Verdict → Counts → Run) → AreRoomy sub → ((verdict : Verdict) (c : Counts) → IsRoomy (go verdict c)) → IsRoomy (judging.with_verdict site sub t spec counts go)
room_verdict site sub t spec counts go below h = room_domain site t spec counts _ (λ text name c. room_then (sub text name c) _ (below text name c) (room_judged site t go h))

room_judge : (site : Site) (a : Address) (sub : Sub) (t : ℕ) (mechanism : Mechanism) (counts : Counts) (go : Bool → Counts → Run) → AreRoomy sub → ((met : Bool) (c : Counts) → IsRoomy (go met c)) → IsRoomy (judging.judge site a sub t mechanism counts go)
room_judge site a sub t All counts go below h = h true counts
room_judge site a sub t (Ip4 p) counts go below h = h (covers (net.V4 p) a) counts
room_judge site a sub t (Ip6 p) counts go below h = h (covers (net.V6 p) a) counts
room_judge site a sub t (Ptr spec) counts go below h = room_counted site t counts _ (λ c. tt)
room_judge site a sub t (Include spec) counts go below h = room_verdict site sub t spec counts (λ verdict. go (judging.is_pass verdict)) below (λ verdict c. h (judging.is_pass verdict) c)
room_judge site a sub t (A spec len4 len6) counts go below h = room_judge_hosts site a t (A spec len4 len6) counts go h
room_judge site a sub t (Mx spec len4 len6) counts go below h = room_judge_hosts site a t (Mx spec len4 len6) counts go h
room_judge site a sub t (Exists spec) counts go below h = room_judge_hosts site a t (Exists spec) counts go h

-- ---- the record

room_unless : (verdict : Verdict) (next : Counts → Run) → ((c : Counts) → IsRoomy (next c)) → (met : Bool) (c : Counts) → IsRoomy (checking.unless_matched verdict next met c)
room_unless verdict next h true c = tt
room_unless verdict next h false c = h c

room_trying : (site : Site) (a : Address) (sub : Sub) (t : ℕ) (term : Term) (counts : Counts) (next : Counts → Run) → AreRoomy sub → ((c : Counts) → IsRoomy (next c)) → IsRoomy (checking.trying (judging.judge site a sub) t term counts next)
room_trying site a sub t (Directive verdict mechanism) counts next below h = room_judge site a sub t mechanism counts _ below (room_unless verdict next h)
room_trying site a sub t (Redirect spec) counts next below h = h counts
room_trying site a sub t (Exp spec) counts next below h = h counts
room_trying site a sub t (Unknown name value) counts next below h = h counts

room_tried : (site : Site) (a : Address) (sub : Sub) (t : ℕ) (terms : List Term) (counts : Counts) (last : Counts → Run) → AreRoomy sub → ((c : Counts) → IsRoomy (last c)) → IsRoomy (checking.tried (judging.judge site a sub) t terms counts last)
room_tried site a sub t [] counts last below h = h counts
room_tried site a sub t (term ∷ terms) counts last below h = room_trying site a sub t term counts _ below (λ c. room_tried site a sub (checking.term_after t) terms c last below h)

room_default : (site : Site) (sub : Sub) (counts : Counts) (redirect : Option (ℕ × List Piece)) → AreRoomy sub → IsRoomy (checking.default site sub counts redirect)
room_default site sub counts None below = tt
room_default site sub counts (Some redirect) below = room_verdict site sub redirect.0 redirect.1 counts (λ verdict c. Ends (Is verdict) c) below (λ verdict c. tt)

room_policy : (name : Labels) (counts : Counts) (policy : Option Policy) (go : List Term → Run) → ((terms : List Term) → IsRoomy (go terms)) → IsRoomy (checking.with_policy name counts policy go)
room_policy name counts None go h = tt
room_policy name counts (Some policy) go h = h policy.terms

room_texts : (name : Labels) (counts : Counts) (texts : List (List ℕ)) (go : List Term → Run) → ((terms : List Term) → IsRoomy (go terms)) → IsRoomy (checking.with_texts name counts texts go)
room_texts name counts [] go h = tt
room_texts name counts (text ∷ []) go h = λ policy. room_policy name counts policy go h
room_texts name counts (text ∷ next ∷ texts) go h = tt

room_answer : (name : Labels) (counts : Counts) (found : Answer) (go : List Term → Run) → ((terms : List Term) → IsRoomy (go terms)) → IsRoomy (checking.with_answer name counts found go)
room_answer name counts answer.Outside go h = tt
room_answer name counts answer.Loop go h = tt
room_answer name counts answer.NoName go h = tt
room_answer name counts answer.NoData go h = tt
room_answer name counts (answer.Found bodies) go h = room_texts name counts (filter_map checking.spf_text_of bodies) go h

room_record : (name : Labels) (counts : Counts) (go : List Term → Run) → ((terms : List Term) → IsRoomy (go terms)) → IsRoomy (checking.with_record name counts go)
room_record [] counts go h = tt
room_record (label ∷ []) counts go h = tt
room_record (label ∷ next ∷ labels) counts go h = (tt, λ found. room_answer (label ∷ next ∷ labels) counts found go h)

room_check : (limits : Limits) (a : Address) (depth : ℕ) → AreRoomy (check limits a depth)
room_check limits a zero domain name counts = tt
room_check limits a (suc depth) domain name counts =
    let site : Site = record { limits = limits; family = family_of a; domain = domain; name = name } in
    let sub : Sub = check limits a depth in
    room_record name counts (λ terms. checking.evaluated site a sub terms counts)
    (λ terms.
    room_tried site a sub 1 terms counts (λ c. checking.default site sub c (checking.redirect_from 1 terms)) (room_check limits a depth)
    (λ c. room_default site sub c (checking.redirect_from 1 terms) (room_check limits a depth)))

room_host : (limits : Limits) (a : Address) (domain : List ℕ) (name : Labels) → IsRoomy (check_host limits a domain name)
unfolding check_host
room_host limits a domain name = room_check limits a (suc limits.lookups) domain name (record { lookups = 0; voids = 0 })

-- what check_host asks has room
pub is_asked_room : (zones : AnsweringEach) (limits : Limits) (domain : List ℕ) (question : Question) → IsAsked zones limits domain question → HasRoom question.kind question.name
is_asked_room zones limits domain question (a, is, (name, named, asks)) = asked_room (zones a) (check_host limits a domain name) question (room_host limits a domain name) asks
