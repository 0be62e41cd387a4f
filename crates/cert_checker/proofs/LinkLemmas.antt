-- The texts of records that lead from one to the next.
use Rattle.std.proofs.Common.{◌≡◌, ℕ, ◌++◌, Bool, true, false, not, ◌&&◌, ◌||◌, List, [], ◌∷◌, refl, sym, ap, ap₂, ◌∙◌, subst, Option, Some, None, MatchOption, true≢false, append_assoc, append-nil, cond, IsTrue, drop, length, ◌↔◌, IfOk, Result}
use Rattle.std.specs.Prelude.{filter_map, slice_get}
use Rattle.std.specs.List.{list_all, cons_option}
use Rattle.std.proofs.Math.Seq.{drop-append_seam}
use Rattle.std.proofs.lemmas.Bool.{and_parts}
use Rattle.std.proofs.lemmas.Result.{IfOk-weaker}
use Rattle.std.specs.declared.alloc.AllocError.{AllocError}
use Rattle.addr_bits.proofs.Texts.{one_address}
use Rattle.addr_bits.specs.declared.address.Family.{Family}
use Rattle.addr_bits.specs.declared.address.Family.TheVariants as family
use Rattle.master_reader.specs.declared.record.Body.{Body}
use Rattle.master_reader.specs.declared.record.Record.{Record}
use Rattle.spf_text.specs.Version.{is_spf_text}
use Rattle.spf_macros.specs.Expansion.{expansion, expanded_piece, fitted, followed_by, target}
use Rattle.spf_macros.specs.Grammar.{is_expand, is_for_all}
use Rattle.spf_macros.specs.declared.expansion.Expanded.{Expanded}
use Rattle.spf_macros.specs.declared.expansion.Expanded.TheVariants.{Out}
use Rattle.spf_macros.specs.declared.piece.Piece.{Piece}
use Rattle.spf_macros.specs.declared.piece.Piece.TheVariants.{Literal, Percent, Space, Percent20, Expand}
use Rattle.spf_grammar.specs.Families.{network_of}
use Rattle.spf_grammar.specs.Grammar.{ReadAs, SpellsPolicy}
use Rattle.spf_grammar.specs.declared.flat.FlatTerm.{FlatTerm}
use Rattle.spf_grammar.specs.declared.flat.Net.{Net}
use Rattle.spf_grammar.specs.declared.flat.Net.TheVariants as net
use Rattle.spf_grammar.specs.declared.policy.Mechanism.{Mechanism}
use Rattle.spf_grammar.specs.declared.policy.Mechanism.TheVariants.{All, Include, A, Mx, Ptr, Ip4, Ip6, Exists}
use Rattle.spf_grammar.specs.declared.policy.Policy.{Policy}
use Rattle.spf_grammar.specs.declared.policy.Term.{Term}
use Rattle.spf_grammar.specs.declared.policy.Term.TheVariants.{Directive, Redirect, Exp, Unknown}
use Rattle.spf_grammar.specs.declared.verdict.Verdict.{Verdict}
use Rattle.spf_grammar.proofs.OnePolicy.{one_policy}
use Rattle.spf_grammar.proofs.Words.{version_told}
use Rattle.spf_model.specs.Chains.{all_terms, directives_of, mechanism_of, redirect_terms}
use Rattle.spf_model.specs.Check.{only_if, spf_text_of, text_of}
use Rattle.spf_model.specs.Judging.{Labels, name_of}
use Rattle.spf_model.proofs.OneOutcome.{some_once}
use Rattle.cert_checker.specs.Forms.{AreLinked, HasPolicy, IsFlat, LeadsTo, has_all, has_all_last, is_all}
use Rattle.cert_checker.specs.Reading.{AreTaken, BeginOtherwise, GoesOn, IsLinkedAnswer, IsOneAnswer, IsOneOf, flat_of, flat_with, owner_of}

-- ---- `all`

neither : (a b : Bool) → (not a && not b) ≡ not (a || b)
neither true b = refl
neither false b = refl

nor_false : (a : Bool) → (not a && true) ≡ not (a || false)
nor_false true = refl
nor_false false = refl

pub all_before : (front : List FlatTerm) (last : FlatTerm) → has_all_last (front ++ last ∷ []) ≡ not (has_all front)
all_before [] last = refl
all_before (term ∷ []) last = nor_false (is_all term.net)
all_before (term ∷ next ∷ front) last =
    ap (λ b. not (is_all term.net) && b) (all_before (next ∷ front) last) ∙ neither (is_all term.net) (has_all (next ∷ front))

-- ---- domain-specs of literals

abbrev pub Literals : List Piece → Type 0
Literals pieces = list_all (λ piece. not (is_expand piece)) pieces ≡ true

one_for_all : (piece : Piece) → not (is_expand piece) ≡ true → is_for_all piece ≡ true
one_for_all (Literal b) h = refl
one_for_all Percent h = refl
one_for_all Space h = refl
one_for_all Percent20 h = refl
one_for_all (Expand m) h = absurd (true≢false (sym h))

pub literals_for_all : (pieces : List Piece) → Literals pieces → list_all is_for_all pieces ≡ true
literals_for_all [] h = refl
literals_for_all (piece ∷ pieces) h =
    let parts = and_parts (not (is_expand piece)) (list_all (λ piece. not (is_expand piece)) pieces) h in
    ap₂ (λ (a b : Bool). a && b) (one_for_all piece parts.0) (literals_for_all pieces parts.1)

one_same : (f g : Family) (domain other : List ℕ) (piece : Piece) → not (is_expand piece) ≡ true → expanded_piece f domain piece ≡ expanded_piece g other piece
one_same f g domain other (Literal b) h = refl
one_same f g domain other Percent h = refl
one_same f g domain other Space h = refl
one_same f g domain other Percent20 h = refl
one_same f g domain other (Expand m) h = absurd (true≢false (sym h))

-- what literals expand to does not depend on the family and the domain
literals_same : (f g : Family) (domain other : List ℕ) (pieces : List Piece) → Literals pieces → expansion f domain pieces ≡ expansion g other pieces
literals_same f g domain other [] h = refl
literals_same f g domain other (piece ∷ pieces) h =
    let parts = and_parts (not (is_expand piece)) (list_all (λ piece. not (is_expand piece)) pieces) h in
    ap₂ (λ (a b : Expanded). followed_by a b) (one_same f g domain other piece parts.0) (literals_same f g domain other pieces parts.1)

out_once : (a b : List ℕ) → Out a ≡ Out b → a ≡ b
out_once a b e = cc

pub leads_so : (spec : List Piece) (name : Labels) (text : List ℕ) → Literals spec → target family.V4 [] spec ≡ Out text → name_of text ≡ Some name → LeadsTo spec name
leads_so spec name text literal asks named = record {
  literal = literal;
  text = text;
  asks = λ f domain. ap fitted (literals_same f family.V4 domain [] spec literal) ∙ asks;
  named = named;
}

pub leads_named : (spec : List Piece) (name : Labels) (text : List ℕ) → target family.V4 [] spec ≡ Out text → LeadsTo spec name → name_of text ≡ Some name
leads_named spec name text asks leads = ap name_of (out_once text leads.text (sym asks ∙ leads.asks family.V4 [])) ∙ leads.named

-- ---- policies

first_of_none : (o : Option (List ℕ)) (text : List ℕ) → slice_get (cons_option o []) 0 ≡ Some text → o ≡ Some text
first_of_none None text e = absurd (none_some e)
  where
    none_some : None ≡ Some text → ⊥
    none_some e = cc
first_of_none (Some t) text e = e

kept_text : (o : Option (List ℕ)) (text : List ℕ) → only_if is_spf_text o ≡ Some text → o ≡ Some text
kept_text None text e = e
kept_text (Some t) text e = by (is_spf_text t) e
  where
    none_some : None ≡ Some text → ⊥
    none_some e = cc

    by : (b : Bool) → (cond b (Some t) None) ≡ Some text → Some t ≡ Some text
    by true e = e
    by false e = absurd (none_some e)

-- the text of a body that is an SPF text
spf_text_is : (body : Body) (text : List ℕ) → slice_get (filter_map spf_text_of (body ∷ [])) 0 ≡ Some text → text_of body ≡ Some text
spf_text_is body text e = kept_text (text_of body) text (first_of_none (spf_text_of body) text e)

read_so : (body : Body) (text : List ℕ) (policy : Option Policy) → text_of body ≡ Some text → ReadAs text policy
    → MatchOption policy ((any : Policy) → ¬ HasPolicy body any) (HasPolicy body)
read_so body text None is none = λ any has. none any (subst (λ t. SpellsPolicy t any) (some_once has.is_text is) has.spells)
read_so body text (Some policy) is spells = record { text = text; is_text = is; spells = spells }

pub policy_read : (body : Body) (text : List ℕ) (policy : Option Policy) → slice_get (filter_map spf_text_of (body ∷ [])) 0 ≡ Some text → ReadAs text policy
    → MatchOption policy ((any : Policy) → ¬ HasPolicy body any) (HasPolicy body)
policy_read body text policy first reads = read_so body text policy (spf_text_is body text first) reads

pub no_policy : (body : Body) (any : Policy) → slice_get (filter_map spf_text_of (body ∷ [])) 0 ≡ None → HasPolicy body any → ⊥
no_policy body any first has = some_none (sym told ∙ first)
  where
    some_none : Some has.text ≡ None → ⊥
    some_none e = cc

    spf : spf_text_of body ≡ Some has.text
    spf = ap (only_if is_spf_text) has.is_text ∙ ap (λ b. cond b (Some has.text) None) (version_told has.text any has.spells)

    told : slice_get (filter_map spf_text_of (body ∷ [])) 0 ≡ Some has.text
    told = ap (λ o. slice_get (cons_option o []) 0) spf

-- ---- flat terms in front of others

pub directives_more : (flat : List FlatTerm) (term : FlatTerm) (rest : List Term)
    → directives_of (flat ++ term ∷ []) rest ≡ directives_of flat (Directive term.verdict (mechanism_of term.net) ∷ rest)
directives_more [] term rest = refl
directives_more (first ∷ flat) term rest = ap (λ ts. Directive first.verdict (mechanism_of first.net) ∷ ts) (directives_more flat term rest)

net_once : (n m : Net) → Some n ≡ Some m → n ≡ m
net_once n m e = cc

none_net : (n : Net) → None ≡ Some n → ⊥
none_net n e = cc

pub mechanism_is : (mechanism : Mechanism) (n : Net) → network_of mechanism ≡ Some n → mechanism ≡ mechanism_of n
mechanism_is All n e = ap mechanism_of (net_once net.All n e)
mechanism_is (Ip4 p) n e = ap mechanism_of (net_once (net.V4 p) n e)
mechanism_is (Ip6 p) n e = ap mechanism_of (net_once (net.V6 p) n e)
mechanism_is (Include spec) n e = absurd (none_net n e)
mechanism_is (A spec len4 len6) n e = absurd (none_net n e)
mechanism_is (Mx spec len4 len6) n e = absurd (none_net n e)
mechanism_is (Ptr spec) n e = absurd (none_net n e)
mechanism_is (Exists spec) n e = absurd (none_net n e)

none_flat : (flat : FlatTerm) → None ≡ Some flat → ⊥
none_flat flat e = cc

flat_once : (s t : FlatTerm) → Some s ≡ Some t → s ≡ t
flat_once s t e = cc

network_is : (n : Net) → network_of (mechanism_of n) ≡ Some n
network_is (net.V4 p) = refl
network_is (net.V6 p) = refl
network_is net.All = refl

begins_so : (term : FlatTerm) (rest : List Term) → BeginOtherwise (Directive term.verdict (mechanism_of term.net) ∷ rest) → ⊥
begins_so term rest h = none_flat term (sym h ∙ ap (flat_with term.verdict) (network_is term.net))

first_same : (v w : Verdict) (m n : Mechanism) (xs ys : List Term) → Directive v m ∷ xs ≡ Directive w n ∷ ys → (v ≡ w) × (m ≡ n) × (xs ≡ ys)
first_same v w m n xs ys e = (cc, cc, cc)

term_same : (s t : FlatTerm) → s.verdict ≡ t.verdict → mechanism_of s.net ≡ mechanism_of t.net → s ≡ t
term_same s t v m = ap₂ (λ (a : Verdict) (n : Net). record { verdict = a; net = n }) v (net_once s.net t.net (sym (network_is s.net) ∙ ap network_of m ∙ network_is t.net))

-- a term that is flat
pub term_is : (term : Term) (flat : FlatTerm) → flat_of term ≡ Some flat → term ≡ Directive flat.verdict (mechanism_of flat.net)
term_is (Directive verdict mechanism) flat e = by (network_of mechanism) refl e
  where
    by : (n : Option Net) → network_of mechanism ≡ n → flat_with verdict n ≡ Some flat → Directive verdict mechanism ≡ Directive flat.verdict (mechanism_of flat.net)
    by None is e = absurd (none_flat flat e)
    by (Some n) is e =
        let same : record { verdict = verdict; net = n } ≡ flat = flat_once (record { verdict = verdict; net = n }) flat e in
        ap (Directive verdict) (mechanism_is mechanism n is) ∙ ap (λ (t : FlatTerm). Directive t.verdict (mechanism_of t.net)) same
term_is (Redirect spec) flat e = absurd (none_flat flat e)
term_is (Exp spec) flat e = absurd (none_flat flat e)
term_is (Unknown name value) flat e = absurd (none_flat flat e)

-- terms are cut in one way into flat ones and others
taken_once : (a b : List FlatTerm) (x y : List Term) → BeginOtherwise x → BeginOtherwise y → directives_of a x ≡ directives_of b y → (a ≡ b) × (x ≡ y)
taken_once [] [] x y hx hy e = (refl, e)
taken_once [] (t ∷ b) x y hx hy e = absurd (begins_so t (directives_of b y) (subst BeginOtherwise e hx))
taken_once (s ∷ a) [] x y hx hy e = absurd (begins_so s (directives_of a x) (subst BeginOtherwise (sym e) hy))
taken_once (s ∷ a) (t ∷ b) x y hx hy e =
    let same = first_same s.verdict t.verdict (mechanism_of s.net) (mechanism_of t.net) (directives_of a x) (directives_of b y) e in
    let rest = taken_once a b x y hx hy same.2 in
    (ap₂ (λ (u : FlatTerm) (us : List FlatTerm). u ∷ us) (term_same s t same.0 same.1) rest.0, rest.1)

pub redirect_otherwise : (redirect : Option (List Piece)) → BeginOtherwise (redirect_terms redirect)
redirect_otherwise None = tt
redirect_otherwise (Some spec) = refl

-- what a record's policy tells of its flat form
pub flat_told : (body : Body) (policy : Policy) (flat : List FlatTerm) (rest : List Term) (terms : List FlatTerm) (redirect : Option (List Piece))
    → HasPolicy body policy → policy.terms ≡ directives_of flat rest → BeginOtherwise rest → IsFlat body terms redirect → (flat ≡ terms) × (rest ≡ redirect_terms redirect)
flat_told body policy flat rest terms redirect has whole most is =
    let same : policy ≡ record { terms = directives_of terms (redirect_terms redirect) } =
    one_policy one_address has.text policy _ has.spells (subst (λ t. SpellsPolicy t (record { terms = directives_of terms (redirect_terms redirect) })) (some_once is.is_text has.is_text) is.spells) in
    taken_once flat terms rest (redirect_terms redirect) most (redirect_otherwise redirect) (sym whole ∙ ap (λ (p : Policy). p.terms) same)

pub flat_so : (body : Body) (policy : Policy) (flat : List FlatTerm) (rest : List Term) (redirect : Option (List Piece))
    → HasPolicy body policy → policy.terms ≡ directives_of flat rest → rest ≡ redirect_terms redirect → IsFlat body flat redirect
flat_so body policy flat rest redirect has whole is =
    subst (λ (ts : List Term). HasPolicy body (record { terms = ts })) (whole ∙ ap (directives_of flat) is) has

-- one flat term more was taken up, or what is left begins with none
pub taken_more : (terms behind rest : List Term) (term : Term) (flat : FlatTerm) (old list new : List FlatTerm) → (taken : List FlatTerm) × (terms ≡ directives_of taken rest) × (list ≡ old ++ taken)
    → rest ≡ term ∷ behind → flat_of term ≡ Some flat → new ≡ list ++ flat ∷ [] → (taken : List FlatTerm) × (terms ≡ directives_of taken behind) × (new ≡ old ++ taken)
taken_more terms behind rest term flat old list new (taken, whole, appended) first is pushed = (
  taken ++ flat ∷ [],
  whole ∙ ap (directives_of taken) (first ∙ ap (λ t. t ∷ behind) (term_is term flat is)) ∙ sym (directives_more taken flat behind),
  pushed ∙ ap (λ l. l ++ flat ∷ []) appended ∙ append_assoc old taken (flat ∷ []),
)

-- ---- one record

one_goes : (body : Body) (policy : Policy) (flat : List FlatTerm) (rest : List Term) (next : Option Labels) → HasPolicy body policy → policy.terms ≡ directives_of flat rest → GoesOn flat rest next
    → IsOneOf body next flat
one_goes body policy flat rest None has whole goes = (flat_so body policy flat rest None has whole goes.0, goes.1)
one_goes body policy flat rest (Some next) has whole goes = (goes.0, flat_so body policy flat rest (Some goes.0) has whole goes.1, goes.2, goes.3)

goes_back : (body : Body) (policy : Policy) (flat : List FlatTerm) (rest : List Term) (next : Option Labels) (terms : List FlatTerm) → HasPolicy body policy → policy.terms ≡ directives_of flat rest
    → BeginOtherwise rest → IsOneOf body next terms → GoesOn flat rest next
goes_back body policy flat rest None terms has whole most one =
    let told = flat_told body policy flat rest terms None has whole most one.0 in
    (told.1, ap has_all_last told.0 ∙ one.1)
goes_back body policy flat rest (Some next) terms has whole most one =
    let told = flat_told body policy flat rest terms (Some one.0) has whole most one.1 in
    (one.0, told.1, ap has_all told.0 ∙ one.2, one.3)

one_by : (body : Body) (policy : Policy) (rest : List Term) (next : Option Labels) (old new : List FlatTerm) (b : Bool) → HasPolicy body policy → (taken : AreTaken policy.terms rest old new)
    → IsTrue b ↔ GoesOn taken.flat rest next → IsOneAnswer body next old new b
one_by body policy rest next old new true has taken h = (taken.flat, one_goes body policy taken.flat rest next has taken.whole (h.0 refl), taken.appended)
one_by body policy rest next old new false has taken h =
    λ terms one. true≢false (sym (h.1 (goes_back body policy taken.flat rest next terms has taken.whole taken.most one)))

-- what is judged of the terms behind the old ones is the answer
pub one_answer : (body : Body) (policy : Policy) (rest : List Term) (next : Option Labels) (old new : List FlatTerm) (from : ℕ) (result : Result Bool AllocError) → HasPolicy body policy
    → from ≡ length old → AreTaken policy.terms rest old new → IfOk result (λ b. IsTrue b ↔ GoesOn (drop from new) rest next) → IfOk result (IsOneAnswer body next old new)
one_answer body policy rest next old new from result has is taken h =
    let same : drop from new ≡ taken.flat = ap (λ n. drop n new) is ∙ ap (drop (length old)) taken.appended ∙ drop-append_seam old taken.flat in
    IfOk-weaker result (λ b. IsTrue b ↔ GoesOn (drop from new) rest next) (IsOneAnswer body next old new)
    (λ b goes. one_by body policy rest next old new b has taken (subst (λ flat. IsTrue b ↔ GoesOn flat rest next) same goes)) h

pub none_one : (body : Body) (next : Option Labels) → ((any : Policy) → ¬ HasPolicy body any) → (terms : List FlatTerm) → IsOneOf body next terms → ⊥
none_one body None none terms one = none _ one.0
none_one body (Some next) none terms one = none _ one.1

-- ---- records, one before the next

first_linked : (r : Record) (behind : List Record) (lists : List (List FlatTerm)) → AreLinked (r ∷ behind) lists → (terms : List FlatTerm) × IsOneOf r.body (owner_of behind) terms
first_linked r [] [] h = absurd h
first_linked r [] (terms ∷ []) h = (terms, (h.flat, h.ends))
first_linked r [] (terms ∷ more ∷ lists) h = absurd h
first_linked r (next ∷ behind) [] h = absurd h
first_linked r (next ∷ behind) (terms ∷ lists) h = (terms, (h.0.spec, h.0.flat, h.0.goes_on, h.0.leads))

pub not_linked : (records behind : List Record) (r : Record) (old new : List FlatTerm) → records ≡ r ∷ behind → IsOneAnswer r.body (owner_of behind) old new false
    → (lists : List (List FlatTerm)) → AreLinked records lists → ⊥
not_linked records behind r old new is none lists linked =
    let one = first_linked r behind lists (subst (λ rs. AreLinked rs lists) is linked) in
    none one.0 one.1

pub last_linked : (records behind : List Record) (r : Record) (old new : List FlatTerm) → records ≡ r ∷ behind → behind ≡ [] → IsOneAnswer r.body (owner_of behind) old new true
    → IsLinkedAnswer records old new true
last_linked records behind r old new is none (terms, one, appended) =
    let last = subst (λ next. IsOneOf r.body next terms) (ap owner_of none) one in (
      terms ∷ [],
      subst (λ rs. AreLinked rs (terms ∷ [])) (sym (is ∙ ap (λ rs. r ∷ rs) none)) (record { flat = last.0; ends = last.1 }),
      appended ∙ ap (λ ts. old ++ ts) (sym (append-nil terms)),
    )

tail_linked : (r next : Record) (behind : List Record) (lists : List (List FlatTerm)) → AreLinked (r ∷ next ∷ behind) lists
    → (rest : List (List FlatTerm)) × AreLinked (next ∷ behind) rest
tail_linked r next behind [] h = absurd h
tail_linked r next behind (terms ∷ lists) h = (lists, h.1)

linked_on : (r next : Record) (behind : List Record) (old mid new : List FlatTerm) (b : Bool) → IsOneAnswer r.body (Some next.owner) old mid true
    → IsLinkedAnswer (next ∷ behind) mid new b → IsLinkedAnswer (r ∷ next ∷ behind) old new b
linked_on r next behind old mid new true (terms, one, appended) (lists, linked, more) = (
  terms ∷ lists,
  (record { spec = one.0; flat = one.1; goes_on = one.2; leads = one.3 }, linked),
  more ∙ ap (λ l. l ++ all_terms lists) appended ∙ append_assoc old terms (all_terms lists),
)
linked_on r next behind old mid new false one none = λ lists linked. let tail = tail_linked r next behind lists linked in none tail.0 tail.1

pub more_linked : (records behind : List Record) (r : Record) (old mid new : List FlatTerm) (result : Result Bool AllocError) → records ≡ r ∷ behind → (behind ≡ [] → ⊥)
    → IsOneAnswer r.body (owner_of behind) old mid true → IfOk result (IsLinkedAnswer behind mid new) → IfOk result (IsLinkedAnswer records old new)
more_linked records [] r old mid new result is some one h = absurd (some refl)
more_linked records (next ∷ behind) r old mid new result is some one h =
    IfOk-weaker result (IsLinkedAnswer (next ∷ behind) mid new) (IsLinkedAnswer records old new)
    (λ b linked. subst (λ rs. IsLinkedAnswer rs old new b) (sym is) (linked_on r next behind old mid new b one linked)) h

pub goes_with : (flat : List FlatTerm) (rest : List Term) (spec : List Piece) (next : Labels) (result : Result Bool AllocError) → rest ≡ Redirect spec ∷ [] → has_all flat ≡ false
    → IfOk result (λ b. IsTrue b ↔ LeadsTo spec next) → IfOk result (λ b. IsTrue b ↔ GoesOn flat rest (Some next))
goes_with flat rest spec next result is none h =
    IfOk-weaker result (λ b. IsTrue b ↔ LeadsTo spec next) (λ b. IsTrue b ↔ GoesOn flat rest (Some next))
    (λ b both. (λ t. (spec, is, none, both.0 t), λ goes. both.1 (subst (λ s. LeadsTo s next) (spec_once goes.0 spec (sym goes.1 ∙ is)) goes.3))) h
  where
    spec_once : (a b : List Piece) → Redirect a ∷ [] ≡ Redirect b ∷ [] → a ≡ b
    spec_once a b e = cc
