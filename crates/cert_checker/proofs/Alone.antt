-- The records of a chain, whoever wrote them, lent alone.
use Rattle.std.proofs.Common.{◌≡◌, ℕ, suc, ◌+◌, ◌≤◌, Bool, true, false, cond, IsTrue, List, [], ◌∷◌, ◌++◌, length, filter, refl, sym, ap, ap₂, subst, ◌∙◌, arith, append_assoc, Option, Some, None}
use Rattle.std.specs.List.{AllByRecursion, concat}
use Rattle.std.proofs.lemmas.List.Elements.{filter-append}
use Rattle.addr_bits.specs.declared.address.Address.{Address}
use Rattle.dns_name.proofs.Octets.{all_append}
use Rattle.master_reader.specs.declared.record.Body.{Body}
use Rattle.master_reader.specs.declared.record.Body.TheVariants.{A, Aaaa, Mx, Txt, Cname, Ns, Other}
use Rattle.master_reader.specs.declared.record.Record.{Record}
use Rattle.zone_answers.specs.Answers.{zone_of}
use Rattle.zone_answers.specs.Zone.{Zone}
use Rattle.zone_answers.specs.Lend.{IsLent, with_zone}
use Rattle.zone_answers.specs.Same.{same_name, distinct_records}
use Rattle.zone_answers.proofs.Distinct.{all_distinct}
use Rattle.zone_answers.proofs.Lending.{count_with}
use Rattle.zone_answers.proofs.Nodes.{same_self}
use Rattle.spf_macros.specs.Words.{is_domain}
use Rattle.spf_macros.specs.declared.piece.Piece.{Piece}
use Rattle.spf_text.specs.Version.{is_spf_text}
use Rattle.spf_grammar.specs.Flat.{first}
use Rattle.spf_grammar.specs.declared.flat.FlatTerm.{FlatTerm}
use Rattle.spf_grammar.proofs.Words.{version_told}
use Rattle.spf_model.specs.Chains.{IsChain, StandsAt, all_terms}
use Rattle.spf_model.specs.Check.{text_of}
use Rattle.spf_model.specs.Judging.{Labels}
use Rattle.spf_model.specs.Run.{Answering, says}
use Rattle.zone_writer.specs.Written.{record_owner}
use Rattle.published_records.specs.Chain.{Holds}
use Rattle.published_records.specs.Published.{AllHaveWithin}
use Rattle.published_records.proofs.Publishing.{chain_gives}
use Rattle.published_records.proofs.RecordChains.{HasTwoLabels, owner_has_two, stands, unfolded}
use Rattle.published_records.proofs.StandingAlone.{ClashesNever, length_distinct, lone_owner, no_clash, txt_clash}
use Rattle.published_records.proofs.StandingFound.{cuts, holds_strings, strings_record}
use Rattle.published_records.proofs.StandingLists.{all_weaker}
use Rattle.published_records.proofs.StandingRecords.{IsBetween, none_between}
use Rattle.cert_checker.specs.Forms.{AreLinked, HasChainForm, HaveOwners, IsFlat, name_at}
use Rattle.cert_checker.proofs.Domains.{has_two, named_at}

-- ---- one record at each name

owners_between : (name : Labels) (label : List ℕ) (k high : ℕ) (records : List Record) → k + length records ≤ high → HaveOwners name label k records
    → AllByRecursion (IsBetween name label k high) records
owners_between name label k high [] h own = tt
owners_between name label k high (r ∷ records) h own = (
  (k, omega arith, omega (arith, h), own.0),
  all_weaker (IsBetween name label (k + 1) high) (IsBetween name label k high) records (λ x b. (b.0, omega (arith, b.1), b.2, b.3))
      (owners_between name label (k + 1) high records (omega (arith, h)) own.1),
)

-- of records before it, itself and those behind it, it alone stands at its name
only_one : (name : Labels) (label : List ℕ) (k : ℕ) (front : List Record) (r : Record) (behind : List Record) → k + length (r ∷ behind) ≤ 11
    → AllByRecursion (IsBetween name label 0 k) front → HaveOwners name label k (r ∷ behind)
    → filter (λ x. same_name x.owner r.owner) (front ++ r ∷ behind) ≡ r ∷ []
only_one name label k front r behind few before own =
    subst (λ owner. filter (λ x. same_name x.owner owner) (front ++ r ∷ behind) ≡ r ∷ []) (sym own.0)
    (filter-append here front (r ∷ behind)
    ∙ ap₂ (λ (xs : List Record) (b : Bool). xs ++ cond b (r ∷ filter here behind) (filter here behind))
    (none_between name label 0 k k front (omega (arith, few)) (omega (arith, few)) (λ low high. absurd (omega arith)) before)
    (same_self r.owner (record_owner name label k) own.0)
    ∙ ap (λ xs. r ∷ xs)
    (none_between name label (k + 1) 11 k behind (omega arith) (omega (arith, few)) (λ low high. absurd (omega arith)) (owners_between name label (k + 1) 11 behind (omega (arith, few)) own.1)))
  where
    here : Record → Bool
    here x = same_name x.owner (record_owner name label k)

-- ---- what a body with a text is

record Strings (body : Body) (text : List ℕ) : Type 0 where
  strings : List (List ℕ)
  is_txt : body ≡ Txt strings
  joined : concat strings ≡ text

strings_of_text : (body : Body) (text : List ℕ) → text_of body ≡ Some text → Strings body text
strings_of_text (Txt strings) text e = record { strings = strings; is_txt = refl; joined = once e }
  where
    once : Some (concat strings) ≡ Some text → concat strings ≡ text
    once e = cc
strings_of_text (A n) text e = absurd (never e)
  where
    never : None ≡ Some text → ⊥
    never e = cc
strings_of_text (Aaaa n) text e = absurd (never e)
  where
    never : None ≡ Some text → ⊥
    never e = cc
strings_of_text (Mx p x) text e = absurd (never e)
  where
    never : None ≡ Some text → ⊥
    never e = cc
strings_of_text (Cname x) text e = absurd (never e)
  where
    never : None ≡ Some text → ⊥
    never e = cc
strings_of_text (Ns x) text e = absurd (never e)
  where
    never : None ≡ Some text → ⊥
    never e = cc
strings_of_text Other text e = absurd (never e)
  where
    never : None ≡ Some text → ⊥
    never e = cc

-- a record with a text
abbrev HasText : Record → Type 0
HasText r = (text : List ℕ) × (text_of r.body ≡ Some text)

linked_texts : (records : List Record) (lists : List (List FlatTerm)) → AreLinked records lists → AllByRecursion HasText records
linked_texts [] lists h = absurd h
linked_texts (r ∷ records) [] h = absurd (elim_none records h)
  where
    elim_none : (rs : List Record) → AreLinked (r ∷ rs) [] → ⊥
    elim_none [] h = h
    elim_none (x ∷ rs) h = h
linked_texts (r ∷ []) (terms ∷ []) h = ((h.flat.text, h.flat.is_text), tt)
linked_texts (r ∷ []) (terms ∷ more ∷ lists) h = absurd h
linked_texts (r ∷ next ∷ records) (terms ∷ lists) h = ((h.0.flat.text, h.0.flat.is_text), linked_texts (next ∷ records) lists h.1)

text_uncut : (origin below : Labels) (r : Record) → HasText r → cuts origin below r ≡ false
text_uncut origin below r h =
    let s : Strings r.body h.0 = strings_of_text r.body h.0 h.1 in
    subst (λ b. cuts origin below (record { owner = r.owner; body = b }) ≡ false) (sym s.is_txt) refl

text_clash : (r : Record) → HasText r → ClashesNever r.body
text_clash r h = let s : Strings r.body h.0 = strings_of_text r.body h.0 h.1 in subst ClashesNever (sym s.is_txt) (txt_clash s.strings)

-- ---- where they stand

module _ (a : Address) (name : Labels) (label : List ℕ) (all : List Record) where
  zones : Answering
  zones = says (with_zone [] name all) a

  zone : Zone
  zone = record { origin = name; records = distinct_records all }

  -- a record is found at its name
  stands_at : (k : ℕ) (front : List Record) (r : Record) (behind : List Record) (text : List ℕ) → all ≡ front ++ r ∷ behind → k + length (r ∷ behind) ≤ 11
      → AllByRecursion (IsBetween name label 0 k) front → HaveOwners name label k (r ∷ behind) → AllByRecursion HasText all
      → text_of r.body ≡ Some text → is_spf_text text ≡ true → Holds (says (with_zone [] name all) a) r.owner text
  stands_at k front r behind text whole few before own texts is spf =
      let s : Strings r.body text = strings_of_text r.body text is in
      let same : r ≡ strings_record r.owner s.strings = ap (λ b. record { owner = r.owner; body = b }) s.is_txt in
      subst (Holds (says (with_zone [] name all) a) r.owner) s.joined
      (holds_strings (with_zone [] name all) (record { origin = name; records = distinct_records all }) r.owner s.strings [] all
      (ap (zone_of (with_zone [] name all)) own.0 ∙ lone_owner name label k all)
      (record {
        records = refl;
        at_name = ap (filter (λ x. same_name x.owner r.owner)) whole ∙ only_one name label k front r behind few before own ∙ ap (λ x. x ∷ []) same;
        old_uncut = tt;
        new_uncut = all_weaker HasText (λ x. cuts name r.owner x ≡ false) all (λ x h. text_uncut name r.owner x h) texts;
        plain = tt;
        spf = ap is_spf_text s.joined ∙ spf;
      }) a)

  -- its terms and its redirect stand there
  flat_at : (k : ℕ) (front : List Record) (r : Record) (behind : List Record) (terms : List FlatTerm) (redirect : Option (List Piece)) → HasTwoLabels name → all ≡ front ++ r ∷ behind
      → k + length (r ∷ behind) ≤ 11 → AllByRecursion (IsBetween name label 0 k) front → HaveOwners name label k (r ∷ behind) → AllByRecursion HasText all
      → IsFlat r.body terms redirect → StandsAt (says (with_zone [] name all) a) r.owner terms redirect
  flat_at k front r behind terms redirect two whole few before own texts flat =
      stands (says (with_zone [] name all) a) r.owner flat.text terms redirect (subst HasTwoLabels (sym own.0) (owner_has_two name label k two))
      (stands_at k front r behind flat.text whole few before own texts flat.is_text (version_told flat.text _ flat.spells)) flat.spells

  -- the records from record k on are a chain, at whatever domain its text is
  chain_from : (domain : List ℕ) (k : ℕ) (front : List Record) (r : Record) (behind : List Record) (lists : List (List FlatTerm)) → HasTwoLabels name → all ≡ front ++ r ∷ behind
      → k + length (r ∷ behind) ≤ 11 → AllByRecursion (IsBetween name label 0 k) front → HaveOwners name label k (r ∷ behind) → AllByRecursion HasText all
      → AreLinked (r ∷ behind) lists → IsChain (says (with_zone [] name all) a) domain r.owner lists
  chain_from domain k front r [] [] two whole few before own texts linked = absurd linked
  chain_from domain k front r [] (terms ∷ []) two whole few before own texts linked = flat_at k front r [] terms None two whole few before own texts linked.flat
  chain_from domain k front r [] (terms ∷ more ∷ lists) two whole few before own texts linked = absurd linked
  chain_from domain k front r (next ∷ behind) [] two whole few before own texts linked = absurd linked
  chain_from domain k front r (next ∷ []) (terms ∷ []) two whole few before own texts linked = absurd linked.1
  chain_from domain k front r (next ∷ x ∷ behind) (terms ∷ []) two whole few before own texts linked = absurd linked.1
  chain_from domain k front r (next ∷ behind) (terms ∷ more ∷ lists) two whole few before own texts linked = (
    linked.0.spec,
    linked.0.leads.text,
    next.owner,
    flat_at k front r (next ∷ behind) terms (Some linked.0.spec) two whole few before own texts linked.0.flat,
    record { reached = λ family. linked.0.leads.asks family domain; named = linked.0.leads.named },
    chain_from linked.0.leads.text (k + 1) (front ++ r ∷ []) next behind (more ∷ lists) two (whole ∙ sym (append_assoc front (r ∷ []) (next ∷ behind))) (omega (arith, few))
        (all_append (IsBetween name label 0 (k + 1)) front (r ∷ [])
        (all_weaker (IsBetween name label 0 k) (IsBetween name label 0 (k + 1)) front (λ x b. (b.0, b.1, omega (arith, b.2), b.3)) before)
        ((k, omega arith, omega arith, own.0), tt)) own.1 texts linked.1,
  )

lists_many : (records : List Record) (lists : List (List FlatTerm)) → AreLinked records lists → length lists ≡ length records
lists_many [] lists h = absurd h
lists_many (r ∷ []) [] h = absurd h
lists_many (r ∷ next ∷ records) [] h = absurd h
lists_many (r ∷ []) (terms ∷ []) h = refl
lists_many (r ∷ []) (terms ∷ more ∷ lists) h = absurd h
lists_many (r ∷ next ∷ records) (terms ∷ lists) h = ap suc (lists_many (next ∷ records) lists h.1)

-- ---- what they give

pub gives_alone : (domain label : List ℕ) (records : List Record) (lists : List (List FlatTerm)) → IsTrue (is_domain domain) → HasChainForm (name_at domain) records label lists
    → AllHaveWithin (says (with_zone [] (name_at domain) records)) domain (length records) (first (all_terms lists))
gives_alone domain label [] lists is form = absurd form.linked
gives_alone domain label (r ∷ records) lists is form =
    chain_gives (says (with_zone [] (name_at domain) (r ∷ records))) domain (name_at domain) (all_terms lists) lists (length (r ∷ records))
    (unfolded domain (name_at domain) (named_at domain is))
    (λ a. subst (λ n. IsChain (says (with_zone [] (name_at domain) (r ∷ records)) a) domain n lists) form.owners.0
    (chain_from a (name_at domain) label (r ∷ records) domain 0 [] r records lists (has_two domain is) refl (omega (arith, form.few)) tt form.owners
    (linked_texts (r ∷ records) lists form.linked) form.linked))
    (lists_many (r ∷ records) lists form.linked) form.few refl

pub lent_alone : (domain label : List ℕ) (records : List Record) (lists : List (List FlatTerm)) → HasChainForm (name_at domain) records label lists
    → IsLent [] (name_at domain) records
lent_alone domain label records lists form = record {
  new_origin = refl;
  room = omega (arith, count_with [] (name_at domain) records, length_distinct records, form.few);
  no_clash = λ owner. no_clash (record { origin = name_at domain; records = distinct_records records }) owner
      (all_distinct (λ r. ClashesNever r.body) records (all_weaker HasText (λ r. ClashesNever r.body) records (λ r h. text_clash r h) (linked_texts records lists form.linked)));
}
