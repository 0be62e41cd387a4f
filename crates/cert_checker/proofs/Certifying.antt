-- From what the steps of verifying answer to what is promised.
use Rattle.std.proofs.Common.{◌≡◌, ℕ, inl, inr, IsTrue, List, length, refl, sym, ap, ◌∙◌, subst, Err}
use Rattle.addr_bits.specs.declared.address.Family.TheVariants as family
use Rattle.addr_bits.specs.Prefix.{Cidr}
use Rattle.master_reader.specs.Reading.{Faults, Reads}
use Rattle.master_reader.specs.Readers.{FaultIs}
use Rattle.master_reader.specs.declared.fault.ZoneFault.{ZoneFault}
use Rattle.master_reader.specs.declared.fault.ZoneFault.TheVariants as zone
use Rattle.master_reader.specs.declared.record.Record.{Record}
use Rattle.zone_answers.specs.Zone.{Zone}
use Rattle.zone_answers.proofs.Reading.{read_lendable}
use Rattle.spf_macros.specs.Words.{is_domain}
use Rattle.spf_grammar.specs.declared.flat.FlatTerm.{FlatTerm}
use Rattle.spf_grammar.specs.declared.verdict.Verdict.{Verdict as AnyVerdict}
use Rattle.spf_model.specs.Chains.{all_terms}
use Rattle.spf_model.specs.declared.outcome.Limits.{Limits}
use Rattle.verdict_map.specs.declared.fault.VerdictFault.{VerdictFault}
use Rattle.verdict_map.specs.declared.fault.VerdictFault.TheVariants as verdict
use Rattle.verdict_map.specs.declared.tries.VerdictTries.{VerdictTries}
use Rattle.fewest_terms.specs.Leaves.{verdict_at as trie_verdict}
use Rattle.policy_verdicts.specs.Policy.{IsPolicyFault, KeepVerdicts, verdict_at}
use Rattle.bound_table.specs.Answers.{IsCheckAnswer, IsTableAnswer}
use Rattle.bound_table.specs.Reading.{AreTable, lines_of}
use Rattle.bound_table.specs.Rounds.{IsGoodAsPlaced, IsNamed}
use Rattle.bound_table.specs.declared.table.Table.{Table as AnyTable}
use Rattle.bound_table.specs.declared.table.TableFault.{TableFault}
use Rattle.bound_table.specs.declared.table.TableFault.TheVariants as table
use Rattle.cert_checker.specs.Certified.{IsCertified}
use Rattle.cert_checker.specs.Forms.{HasChainForm, ReadChain, name_at, terms_of}
use Rattle.cert_checker.specs.Judging.{AreFewest, IsListNo, IsRecordsNo}
use Rattle.cert_checker.specs.Likeness.{AllAlike}
use Rattle.cert_checker.specs.Reasons.{AllDecided, HasTable, IsReason, IsSameList, SameChain, others_at, verdicts_in}
use Rattle.cert_checker.specs.Steps.{IsTableNo, no_of_table, no_of_verdicts, no_of_zone}
use Rattle.cert_checker.specs.declared.answer.No.{No}
use Rattle.cert_checker.specs.declared.answer.No.TheVariants.{Refused, NotZone, NotChain, Verdict, Table, Terms, Records, Memory}
use Rattle.cert_checker.specs.declared.answer.Yes.{Yes}
use Rattle.cert_checker.proofs.Alone.{gives_alone, lent_alone}
use Rattle.cert_checker.proofs.ListVerdicts.{least_other, no_shorter, same_list, trie_is}
use Rattle.cert_checker.proofs.Prefixes.{chain_valid}

-- ---- the table

four_is : (due : VerdictTries) (list : List FlatTerm) → AllAlike due list → trie_verdict 32 due.v4 ≡ verdicts_in family.V4 list
four_is due list alike = trie_is family.V4 due.v4 list alike.whole4 alike.four

six_is : (due : VerdictTries) (list : List FlatTerm) → AllAlike due list → trie_verdict 128 due.v6 ≡ verdicts_in family.V6 list
six_is due list alike = trie_is family.V6 due.v6 list alike.whole6 alike.six

pub has_table : (bytes : List ℕ) (due : VerdictTries) (list : List FlatTerm) (t : AnyTable) → AllAlike due list → AreTable (lines_of bytes) t.rows4 t.rows6 t.total t.last
    → IsGoodAsPlaced (trie_verdict 32 due.v4) (trie_verdict 128 due.v6) t.rows4 t.rows6 t.total → HasTable bytes list t.total
has_table bytes due list t alike spelled good = record {
  rows4 = t.rows4;
  rows6 = t.rows6;
  last = t.last;
  spelled = spelled;
  good = subst (λ v. IsGoodAsPlaced v (verdicts_in family.V6 list) t.rows4 t.rows6 t.total) (four_is due list alike)
      (subst (λ v. IsGoodAsPlaced (trie_verdict 32 due.v4) v t.rows4 t.rows6 t.total) (six_is due list alike) good);
}

pub spelled_fault : (bytes : List ℕ) (list : List FlatTerm) (fault : TableFault) → IsTableAnswer (lines_of bytes) (Err fault) → IsTableNo bytes list (no_of_table fault)
spelled_fault bytes list (table.NotTable line) h = inl h
spelled_fault bytes list table.Memory h = tt

pub checked_fault : (bytes : List ℕ) (due : VerdictTries) (list : List FlatTerm) (t : AnyTable) (fault : TableFault) → AllAlike due list → AreTable (lines_of bytes) t.rows4 t.rows6 t.total t.last
    → IsCheckAnswer (trie_verdict 32 due.v4) (trie_verdict 128 due.v6) t (Err fault) → IsTableNo bytes list (no_of_table fault)
checked_fault bytes due list t (table.NotTable line) alike spelled named = inr (record {
  rows4 = t.rows4;
  rows6 = t.rows6;
  total = t.total;
  last = t.last;
  spelled = spelled;
  named = subst (λ v. IsNamed v (verdicts_in family.V6 list) t.rows4 t.rows6 t.total t.last line) (four_is due list alike)
      (subst (λ v. IsNamed (trie_verdict 32 due.v4) v t.rows4 t.rows6 t.total t.last line) (six_is due list alike) named);
})
checked_fault bytes due list t table.Memory alike spelled named = tt

-- ---- the chain that was read

pub record Found (domain bytes : List ℕ) (records : List Record) (label : List ℕ) (list : List FlatTerm) : Type 0 where
  pub chain : ReadChain domain bytes
  pub same_records : chain.records ≡ records
  pub same_label : chain.label ≡ label
  pub same_list : terms_of chain ≡ list

pub found_chain : (domain bytes : List ℕ) (name : List (List ℕ)) (records : List Record) (label : List ℕ) (list : List FlatTerm) → name ≡ name_at domain → Reads name bytes records
    → (lists : List (List FlatTerm)) × HasChainForm name records label lists × (list ≡ all_terms lists) → Found domain bytes records label list
found_chain domain bytes name records label list same reads (lists, form, is) = record {
  chain = record {
    records = records;
    label = label;
    lists = lists;
    reads = subst (λ n. Reads n bytes records) same reads;
    form = subst (λ n. HasChainForm n records label lists) same form;
  };
  same_records = refl;
  same_label = refl;
  same_list = sym is;
}

-- ---- the reasons

module _ (zones : List Zone) (limits : Limits) (domain : List ℕ) (size : ℕ) (bytes : List ℕ) where
  decided : (v4 v6 : List (Cidr × AnyVerdict)) → KeepVerdicts limits zones domain v4 v6 → AllDecided zones limits domain
  decided v4 v6 keep = (verdict_at (trie_verdict 32 v4) (trie_verdict 128 v6), keep)

  pub reason_verdicts : (fault : VerdictFault) → IsPolicyFault limits zones domain fault → IsReason zones limits domain size bytes (no_of_verdicts fault)
  reason_verdicts (verdict.Refused address outcome) h = h
  reason_verdicts verdict.Memory h = tt

  pub reason_zone : (v4 v6 : List (Cidr × AnyVerdict)) (fault : ZoneFault) → KeepVerdicts limits zones domain v4 v6 → FaultIs (Faults (name_at domain) bytes) fault
      → IsReason zones limits domain size bytes (no_of_zone fault)
  reason_zone v4 v6 (zone.Bad line kind) keep h = (decided v4 v6 keep, h)
  reason_zone v4 v6 zone.Memory keep h = tt

  pub reason_chain : (v4 v6 : List (Cidr × AnyVerdict)) (records : List Record) → KeepVerdicts limits zones domain v4 v6 → Reads (name_at domain) bytes records
      → ((label : List ℕ) (lists : List (List FlatTerm)) → ¬ HasChainForm (name_at domain) records label lists) → IsReason zones limits domain size bytes NotChain
  reason_chain v4 v6 records keep reads none = (decided v4 v6 keep, (records, reads, none))

  pub reason_list : (due : VerdictTries) (chain : ReadChain domain bytes) (no : No) → KeepVerdicts limits zones domain due.v4 due.v6 → IsListNo due (terms_of chain) no
      → IsReason zones limits domain size bytes no
  reason_list due chain (Verdict address) keep h = (decided due.v4 due.v6 keep, (chain, least_other limits zones domain due (terms_of chain) address keep h))
  reason_list due chain Memory keep h = tt
  reason_list due chain (Refused address outcome) keep h = absurd h
  reason_list due chain (NotZone line kind) keep h = absurd h
  reason_list due chain NotChain keep h = absurd h
  reason_list due chain (Table line) keep h = absurd h
  reason_list due chain Terms keep h = absurd h
  reason_list due chain Records keep h = absurd h

  abbrev same_chain : (due : VerdictTries) (chain : ReadChain domain bytes) → KeepVerdicts limits zones domain due.v4 due.v6 → AllAlike due (terms_of chain) → SameChain zones limits domain bytes
  same_chain due chain keep alike = record { chain = chain; same = same_list limits zones domain due (terms_of chain) keep alike }

  pub reason_table : (due : VerdictTries) (chain : ReadChain domain bytes) (no : No) → KeepVerdicts limits zones domain due.v4 due.v6 → AllAlike due (terms_of chain)
      → IsTableNo bytes (terms_of chain) no → IsReason zones limits domain size bytes no
  reason_table due chain (Table line) keep alike h = (same_chain due chain keep alike, h)
  reason_table due chain Terms keep alike h = (same_chain due chain keep alike, h.0, h.1, h.2)
  reason_table due chain Memory keep alike h = tt
  reason_table due chain (Refused address outcome) keep alike h = absurd h
  reason_table due chain (NotZone line kind) keep alike h = absurd h
  reason_table due chain NotChain keep alike h = absurd h
  reason_table due chain (Verdict address) keep alike h = absurd h
  reason_table due chain Records keep alike h = absurd h

  pub reason_records : (due : VerdictTries) (chain : ReadChain domain bytes) (no : No) → KeepVerdicts limits zones domain due.v4 due.v6 → AllAlike due (terms_of chain)
      → HasTable bytes (terms_of chain) (length (terms_of chain)) → IsRecordsNo domain chain.label size (others_at zones domain) chain.records (terms_of chain) no
      → IsReason zones limits domain size bytes no
  reason_records due chain Records keep alike table h = (same_chain due chain keep alike, table, h)
  reason_records due chain Memory keep alike table h = tt
  reason_records due chain (Refused address outcome) keep alike table h = absurd h
  reason_records due chain (NotZone line kind) keep alike table h = absurd h
  reason_records due chain NotChain keep alike table h = absurd h
  reason_records due chain (Verdict address) keep alike table h = absurd h
  reason_records due chain (Table line) keep alike table h = absurd h
  reason_records due chain Terms keep alike table h = absurd h

  -- ---- what is accepted

  pub certified : (due : VerdictTries) (chain : ReadChain domain bytes) (answer : Yes) → IsTrue (is_domain domain) → KeepVerdicts limits zones domain due.v4 due.v6 → AllAlike due (terms_of chain)
      → HasTable bytes (terms_of chain) (length (terms_of chain)) → AreFewest domain chain.label size (others_at zones domain) chain.records (terms_of chain)
      → answer.terms ≡ length (terms_of chain) → answer.records ≡ length chain.records → IsCertified zones limits domain size bytes answer
  certified due chain answer is keep alike table fewest terms records =
      let same : IsSameList zones limits domain (terms_of chain) = same_list limits zones domain due (terms_of chain) keep alike in
      record {
        chain = chain;
        terms = terms;
        records = records;
        prefixes = chain_valid chain.records chain.lists chain.form.linked;
        lendable = read_lendable (name_at domain) bytes chain.records chain.reads;
        lent = lent_alone domain chain.label chain.records chain.lists chain.form;
        same = same;
        alone = gives_alone domain chain.label chain.records chain.lists is chain.form;
        table = table;
        shortest = λ other has given. no_shorter zones limits domain bytes (terms_of chain) other (length (terms_of chain)) table same has given;
        fit = fewest.fit;
        fewest = fewest.fewest;
      }

  -- ---- the same for what was read

  pub list_so : (due : VerdictTries) (records : List Record) (label : List ℕ) (list : List FlatTerm) (why : No) → Found domain bytes records label list
      → KeepVerdicts limits zones domain due.v4 due.v6 → IsListNo due list why → IsReason zones limits domain size bytes why
  list_so due records label list why f keep h = reason_list due f.chain why keep (subst (λ l. IsListNo due l why) (sym f.same_list) h)

  pub table_so : (due : VerdictTries) (records : List Record) (label : List ℕ) (list : List FlatTerm) (why : No) → Found domain bytes records label list
      → KeepVerdicts limits zones domain due.v4 due.v6 → AllAlike due list → IsTableNo bytes list why → IsReason zones limits domain size bytes why
  table_so due records label list why f keep alike h =
      reason_table due f.chain why keep (subst (AllAlike due) (sym f.same_list) alike) (subst (λ l. IsTableNo bytes l why) (sym f.same_list) h)

  pub records_so : (due : VerdictTries) (records : List Record) (label : List ℕ) (list : List FlatTerm) (others : ℕ) (why : No) → Found domain bytes records label list
      → KeepVerdicts limits zones domain due.v4 due.v6 → AllAlike due list → HasTable bytes list (length list) → others ≡ others_at zones domain
      → IsRecordsNo domain label size others records list why → IsReason zones limits domain size bytes why
  records_so due records label list others why f keep alike table same h =
      reason_records due f.chain why keep (subst (AllAlike due) (sym f.same_list) alike) (subst (λ l. HasTable bytes l (length l)) (sym f.same_list) table)
      (subst (λ l. IsRecordsNo domain f.chain.label size (others_at zones domain) f.chain.records l why) (sym f.same_list)
      (subst (λ rs. IsRecordsNo domain f.chain.label size (others_at zones domain) rs list why) (sym f.same_records)
      (subst (λ l. IsRecordsNo domain l size (others_at zones domain) records list why) (sym f.same_label)
      (subst (λ o. IsRecordsNo domain label size o records list why) same h))))

  pub certified_so : (due : VerdictTries) (records : List Record) (label : List ℕ) (list : List FlatTerm) (others : ℕ) (answer : Yes) → Found domain bytes records label list → IsTrue (is_domain domain)
      → KeepVerdicts limits zones domain due.v4 due.v6 → AllAlike due list → HasTable bytes list (length list) → others ≡ others_at zones domain
      → AreFewest domain label size others records list → answer.terms ≡ length list → answer.records ≡ length records → IsCertified zones limits domain size bytes answer
  certified_so due records label list others answer f is keep alike table same fewest terms counted =
      certified due f.chain answer is keep (subst (AllAlike due) (sym f.same_list) alike) (subst (λ l. HasTable bytes l (length l)) (sym f.same_list) table)
      (subst (λ l. AreFewest domain f.chain.label size (others_at zones domain) f.chain.records l) (sym f.same_list)
      (subst (λ rs. AreFewest domain f.chain.label size (others_at zones domain) rs list) (sym f.same_records)
      (subst (λ l. AreFewest domain l size (others_at zones domain) records list) (sym f.same_label)
      (subst (λ o. AreFewest domain label size o records list) same fewest))))
      (terms ∙ ap length (sym f.same_list)) (counted ∙ ap length (sym f.same_records))
