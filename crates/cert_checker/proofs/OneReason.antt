-- One reason at most is the first that holds, and none beside a yes.
use Rattle.std.proofs.Common.{◌≡◌, ◌≢◌, ℕ, ◌≤◌, inl, inr, List, [], ◌∷◌, length, refl, sym, ap, ap₂, ◌∙◌, subst, arith}
use Rattle.addr_bits.specs.declared.address.Address.{Address}
use Rattle.addr_bits.specs.declared.address.Family.TheVariants as family
use Rattle.master_reader.specs.Reading.{Faults}
use Rattle.master_reader.specs.declared.fault.Kind.{Kind}
use Rattle.master_reader.specs.declared.record.Record.{Record}
use Rattle.master_reader.proofs.Once.{faults_once, reads_not_faults, reads_once}
use Rattle.zone_answers.specs.Zone.{Zone}
use Rattle.spf_grammar.specs.Flat.{first}
use Rattle.spf_grammar.specs.declared.flat.FlatTerm.{FlatTerm}
use Rattle.spf_model.specs.Chains.{all_terms}
use Rattle.spf_model.specs.Run.{AnsweringEach, says}
use Rattle.spf_model.specs.Result.{Gives}
use Rattle.spf_model.specs.declared.outcome.Limits.{Limits}
use Rattle.spf_model.specs.declared.outcome.Outcome.{Outcome}
use Rattle.spf_model.specs.declared.outcome.Outcome.TheVariants.{Is}
use Rattle.spf_model.proofs.OneOutcome.{one_verdict}
use Rattle.policy_verdicts.specs.Policy.{IsLeastRefused, StandsBefore}
use Rattle.policy_verdicts.proofs.OneAnswer.{never_both, one_place, one_refused}
use Rattle.bound_table.specs.Reading.{lines_of}
use Rattle.bound_table.specs.Rounds.{IsNamed}
use Rattle.bound_table.proofs.LaterRounds.{one_later_round}
use Rattle.bound_table.proofs.OneRound.{one_first_round}
use Rattle.bound_table.proofs.OneTable.{one_table}
use Rattle.bound_table.proofs.Rising.{table_rises}
use Rattle.record_pack.specs.Records.{IsFittingCut}
use Rattle.cert_checker.specs.Certified.{IsCertified}
use Rattle.cert_checker.specs.Forms.{AreLinked, HasChainForm, HasShorterCut, HaveOwners, IsRecordsFault, ReadChain, TextsFit, name_at, terms_of}
use Rattle.cert_checker.specs.Laws.{NoReasonBesideYes, OneReason, OneYes}
use Rattle.cert_checker.specs.Reasons.{AllDecided, HasOtherRecords, HasOtherTotal, HasTable, IsBadTable, IsFaultyTable, IsLeastOther, IsNoChain, IsOtherChain, IsReason, IsTableFault, SameChain, others_at, verdicts_in}
use Rattle.cert_checker.specs.declared.answer.No.{No}
use Rattle.cert_checker.specs.declared.answer.No.TheVariants.{Refused, NotZone, NotChain, Verdict, Table, Terms, Records, Memory}
use Rattle.cert_checker.specs.declared.answer.Yes.{Yes}
use Rattle.cert_checker.proofs.OneChain.{one_label, one_lists}

-- ---- the table

one_total : (bytes : List ℕ) (list : List FlatTerm) (t u : ℕ) → HasTable bytes list t → HasTable bytes list u → t ≡ u
one_total bytes list t u x y = (one_table (lines_of bytes) x.rows4 x.rows6 y.rows4 y.rows6 t u x.last y.last x.spelled y.spelled).2

one_bad : (bytes : List ℕ) (list : List FlatTerm) (a b : ℕ) → IsBadTable bytes list a → IsBadTable bytes list b → a ≡ b
one_bad bytes list a b x y =
    let same = one_table (lines_of bytes) x.rows4 x.rows6 y.rows4 y.rows6 x.total y.total x.last y.last x.spelled y.spelled in
    let v4 = verdicts_in family.V4 list in
    let v6 = verdicts_in family.V6 list in
    one_later_round.one_fault v4 v6 x.rows4 x.rows6 x.total x.last a b x.named
    (subst (λ r4. IsNamed v4 v6 r4 x.rows6 x.total x.last b) (sym same.0)
    (subst (λ r6. IsNamed v4 v6 y.rows4 r6 x.total x.last b) (sym same.1)
    (subst (λ t. IsNamed v4 v6 y.rows4 y.rows6 t x.last b) (sym same.2)
    (subst (λ l. IsNamed v4 v6 y.rows4 y.rows6 y.total l b) (sym same.3) y.named))))

one_line : (bytes : List ℕ) (list : List FlatTerm) (a b : ℕ) → IsTableFault bytes list a → IsTableFault bytes list b → a ≡ b
one_line bytes list a b (inl x) (inl y) = one_first_round.one_fault (lines_of bytes) a b x y
one_line bytes list a b (inl x) (inr y) = absurd (one_first_round.never_both (lines_of bytes) y.rows4 y.rows6 y.total y.last a y.spelled x)
one_line bytes list a b (inr x) (inl y) = absurd (one_first_round.never_both (lines_of bytes) x.rows4 x.rows6 x.total x.last b x.spelled y)
one_line bytes list a b (inr x) (inr y) = one_bad bytes list a b x y

good_or_not : (bytes : List ℕ) (list : List FlatTerm) (total line : ℕ) → HasTable bytes list total → IsTableFault bytes list line → ⊥
good_or_not bytes list total line x (inl y) = one_first_round.never_both (lines_of bytes) x.rows4 x.rows6 total x.last line x.spelled y
good_or_not bytes list total line x (inr y) =
    let same = one_table (lines_of bytes) x.rows4 x.rows6 y.rows4 y.rows6 total y.total x.last y.last x.spelled y.spelled in
    let v4 = verdicts_in family.V4 list in
    let v6 = verdicts_in family.V6 list in
    one_later_round.never_both v4 v6 x.rows4 x.rows6 total x.last line (table_rises (lines_of bytes) x.rows4 x.rows6 total x.last x.spelled) x.good
    (subst (λ r4. IsNamed v4 v6 r4 x.rows6 total x.last line) (sym same.0)
    (subst (λ r6. IsNamed v4 v6 y.rows4 r6 total x.last line) (sym same.1)
    (subst (λ t. IsNamed v4 v6 y.rows4 y.rows6 t x.last line) (sym same.2)
    (subst (λ l. IsNamed v4 v6 y.rows4 y.rows6 y.total l line) (sym same.3) y.named))))

-- ---- one chain

one_records : (domain bytes : List ℕ) (c d : ReadChain domain bytes) → c.records ≡ d.records
one_records domain bytes c d = reads_once (name_at domain) bytes c.records d.records c.reads d.reads

one_terms : (domain bytes : List ℕ) (c d : ReadChain domain bytes) → terms_of c ≡ terms_of d
one_terms domain bytes c d =
    ap all_terms (one_lists d.records c.lists d.lists (subst (λ rs. AreLinked rs c.lists) (one_records domain bytes c d) c.form.linked) d.form.linked)

-- ---- one address

other_before : (zones : AnsweringEach) (limits : Limits) (domain : List ℕ) (list : List FlatTerm) (a b : Address) → IsLeastOther zones limits domain list a → IsLeastOther zones limits domain list b
    → StandsBefore a b → ⊥
other_before zones limits domain list a b x y before = x.other (one_verdict zones limits domain a (first list a) x.verdict (y.least a x.one before) x.given)

one_other : (zones : AnsweringEach) (limits : Limits) (domain : List ℕ) (list : List FlatTerm) (a b : Address) → IsLeastOther zones limits domain list a → IsLeastOther zones limits domain list b → a ≡ b
one_other zones limits domain list a b x y = one_place a b (other_before zones limits domain list a b x y) (other_before zones limits domain list b a y x)

module _ (zones : List Zone) (limits : Limits) (domain : List ℕ) (size : ℕ) (bytes : List ℕ) where
  abbrev Reason : No → Type 0
  Reason why = IsReason zones limits domain size bytes why

  -- ---- what the later reasons leave of the earlier ones

  refused_not : (address : Address) (outcome : Outcome) → IsLeastRefused (says zones) limits domain address outcome → AllDecided zones limits domain → ⊥
  refused_not address outcome x (verdict_of, all) = never_both (says zones) limits domain address outcome verdict_of x all

  same_decided : SameChain zones limits domain bytes → AllDecided zones limits domain
  same_decided found = (first (terms_of found.chain), found.same)

  other_not : (address : Address) (chain : ReadChain domain bytes) → IsLeastOther (says zones) limits domain (terms_of chain) address → SameChain zones limits domain bytes → ⊥
  other_not address chain x found =
      x.other (one_verdict (says zones) limits domain address (first (terms_of chain) address) x.verdict
      (subst (λ list. Gives (says zones) limits domain address (Is (first list address))) (one_terms domain bytes found.chain chain) (found.same address x.one)) x.given)

  chain_not : IsNoChain domain bytes → ReadChain domain bytes → ⊥
  chain_not (records, reads, none) chain =
      none chain.label chain.lists (subst (λ rs. HasChainForm (name_at domain) rs chain.label chain.lists) (reads_once (name_at domain) bytes chain.records records chain.reads reads) chain.form)

  table_not : (line total : ℕ) (x y : SameChain zones limits domain bytes) → IsTableFault bytes (terms_of x.chain) line → HasTable bytes (terms_of y.chain) total → ⊥
  table_not line total x y fault table =
      good_or_not bytes (terms_of y.chain) total line table (subst (λ list. IsTableFault bytes list line) (one_terms domain bytes x.chain y.chain) fault)

  total_not : (total : ℕ) (x y : SameChain zones limits domain bytes) → HasTable bytes (terms_of x.chain) total → length (terms_of x.chain) ≢ total
      → HasTable bytes (terms_of y.chain) (length (terms_of y.chain)) → ⊥
  total_not total x y table other good =
      let same = one_terms domain bytes y.chain x.chain in
      other (one_total bytes (terms_of x.chain) (length (terms_of x.chain)) total (subst (λ list. HasTable bytes list (length list)) same good) table)

  -- ---- an earlier reason and a later one

  refused_first : (address : Address) (outcome : Outcome) (b : No) → IsLeastRefused (says zones) limits domain address outcome → Reason b → b ≢ Memory → Refused address outcome ≡ b
  refused_first address outcome (Refused other theirs) x y m =
      let same = one_refused (says zones) limits domain address other outcome theirs x y in ap₂ (λ (a : Address) (o : Outcome). Refused a o) same.0 same.1
  refused_first address outcome (NotZone line kind) x y m = absurd (refused_not address outcome x y.0)
  refused_first address outcome NotChain x y m = absurd (refused_not address outcome x y.0)
  refused_first address outcome (Verdict other) x y m = absurd (refused_not address outcome x y.0)
  refused_first address outcome (Table line) x y m = absurd (refused_not address outcome x (same_decided y.0))
  refused_first address outcome Terms x y m = absurd (refused_not address outcome x (same_decided y.0))
  refused_first address outcome Records x y m = absurd (refused_not address outcome x (same_decided y.0))
  refused_first address outcome Memory x y m = absurd (m refl)

  zone_first : (line : ℕ) (kind : Kind) (b : No) → AllDecided zones limits domain × Faults (name_at domain) bytes line kind → Reason b → b ≢ Memory → NotZone line kind ≡ b
  zone_first line kind (Refused address outcome) x y m = sym (refused_first address outcome (NotZone line kind) y x (λ (e : NotZone line kind ≡ Memory). cc))
  zone_first line kind (NotZone other theirs) x y m =
      let same = faults_once (name_at domain) bytes line other kind theirs x.1 y.1 in ap₂ (λ (l : ℕ) (k : Kind). NotZone l k) same.0 same.1
  zone_first line kind NotChain x y m = absurd (reads_not_faults (name_at domain) bytes y.1.0 line kind y.1.1 x.1)
  zone_first line kind (Verdict address) x y m = absurd (reads_not_faults (name_at domain) bytes y.1.0.records line kind y.1.0.reads x.1)
  zone_first line kind (Table other) x y m = absurd (reads_not_faults (name_at domain) bytes y.0.chain.records line kind y.0.chain.reads x.1)
  zone_first line kind Terms x y m = absurd (reads_not_faults (name_at domain) bytes y.0.chain.records line kind y.0.chain.reads x.1)
  zone_first line kind Records x y m = absurd (reads_not_faults (name_at domain) bytes y.0.chain.records line kind y.0.chain.reads x.1)
  zone_first line kind Memory x y m = absurd (m refl)

  chain_first : (b : No) → AllDecided zones limits domain × IsNoChain domain bytes → Reason b → b ≢ Memory → NotChain ≡ b
  chain_first (Refused address outcome) x y m = sym (refused_first address outcome NotChain y x (λ (e : NotChain ≡ Memory). cc))
  chain_first (NotZone line kind) x y m = sym (zone_first line kind NotChain y x (λ (e : NotChain ≡ Memory). cc))
  chain_first NotChain x y m = refl
  chain_first (Verdict address) x y m = absurd (chain_not x.1 y.1.0)
  chain_first (Table line) x y m = absurd (chain_not x.1 y.0.chain)
  chain_first Terms x y m = absurd (chain_not x.1 y.0.chain)
  chain_first Records x y m = absurd (chain_not x.1 y.0.chain)
  chain_first Memory x y m = absurd (m refl)

  verdict_first : (address : Address) (b : No) → AllDecided zones limits domain × IsOtherChain zones limits domain bytes address → Reason b → b ≢ Memory → Verdict address ≡ b
  verdict_first address (Refused other outcome) x y m = sym (refused_first other outcome (Verdict address) y x (λ (e : Verdict address ≡ Memory). cc))
  verdict_first address (NotZone line kind) x y m = sym (zone_first line kind (Verdict address) y x (λ (e : Verdict address ≡ Memory). cc))
  verdict_first address NotChain x y m = absurd (chain_not y.1 x.1.0)
  verdict_first address (Verdict other) x y m =
      ap (λ (a : Address). Verdict a)
      (one_other (says zones) limits domain (terms_of y.1.0) address other
      (subst (λ list. IsLeastOther (says zones) limits domain list address) (one_terms domain bytes x.1.0 y.1.0) x.1.1) y.1.1)
  verdict_first address (Table line) x y m = absurd (other_not address x.1.0 x.1.1 y.0)
  verdict_first address Terms x y m = absurd (other_not address x.1.0 x.1.1 y.0)
  verdict_first address Records x y m = absurd (other_not address x.1.0 x.1.1 y.0)
  verdict_first address Memory x y m = absurd (m refl)

  table_first : (line : ℕ) (b : No) → IsFaultyTable zones limits domain bytes line → Reason b → b ≢ Memory → Table line ≡ b
  table_first line (Refused other outcome) x y m = sym (refused_first other outcome (Table line) y x (λ (e : Table line ≡ Memory). cc))
  table_first line (NotZone place kind) x y m = sym (zone_first place kind (Table line) y x (λ (e : Table line ≡ Memory). cc))
  table_first line NotChain x y m = absurd (chain_not y.1 x.0.chain)
  table_first line (Verdict address) x y m = absurd (other_not address y.1.0 y.1.1 x.0)
  table_first line (Table other) x y m =
      ap (λ (l : ℕ). Table l)
      (one_line bytes (terms_of y.0.chain) line other (subst (λ list. IsTableFault bytes list line) (one_terms domain bytes x.0.chain y.0.chain) x.1) y.1)
  table_first line Terms x y m = absurd (table_not line y.1 x.0 y.0 x.1 y.2)
  table_first line Records x y m = absurd (table_not line (length (terms_of y.0.chain)) x.0 y.0 x.1 y.1)
  table_first line Memory x y m = absurd (m refl)

  terms_first : (b : No) → HasOtherTotal zones limits domain bytes → Reason b → b ≢ Memory → Terms ≡ b
  terms_first (Refused other outcome) x y m = sym (refused_first other outcome Terms y x (λ (e : Terms ≡ Memory). cc))
  terms_first (NotZone place kind) x y m = sym (zone_first place kind Terms y x (λ (e : Terms ≡ Memory). cc))
  terms_first NotChain x y m = absurd (chain_not y.1 x.0.chain)
  terms_first (Verdict address) x y m = absurd (other_not address y.1.0 y.1.1 x.0)
  terms_first (Table line) x y m = sym (table_first line Terms y x (λ (e : Terms ≡ Memory). cc))
  terms_first Terms x y m = refl
  terms_first Records x y m = absurd (total_not x.1 x.0 y.0 x.2 x.3 y.1)
  terms_first Memory x y m = absurd (m refl)

  records_first : (b : No) → HasOtherRecords zones limits domain size bytes → Reason b → b ≢ Memory → Records ≡ b
  records_first (Refused other outcome) x y m = sym (refused_first other outcome Records y x (λ (e : Records ≡ Memory). cc))
  records_first (NotZone place kind) x y m = sym (zone_first place kind Records y x (λ (e : Records ≡ Memory). cc))
  records_first NotChain x y m = absurd (chain_not y.1 x.0.chain)
  records_first (Verdict address) x y m = absurd (other_not address y.1.0 y.1.1 x.0)
  records_first (Table line) x y m = sym (table_first line Records y x (λ (e : Records ≡ Memory). cc))
  records_first Terms x y m = sym (terms_first Records y x (λ (e : Records ≡ Memory). cc))
  records_first Records x y m = refl
  records_first Memory x y m = absurd (m refl)

  either : (a b : No) → a ≢ Memory → b ≢ Memory → Reason a → Reason b → a ≡ b
  either (Refused address outcome) b ma mb x y = refused_first address outcome b x y mb
  either (NotZone line kind) b ma mb x y = zone_first line kind b x y mb
  either NotChain b ma mb x y = chain_first b x y mb
  either (Verdict address) b ma mb x y = verdict_first address b x y mb
  either (Table line) b ma mb x y = table_first line b x y mb
  either Terms b ma mb x y = terms_first b x y mb
  either Records b ma mb x y = records_first b x y mb
  either Memory b ma mb x y = absurd (ma refl)

  -- ---- beside a yes

  fits_told : (label label' : List ℕ) (records : List Record) → HaveOwners (name_at domain) label 0 records → HaveOwners (name_at domain) label' 0 records
      → TextsFit domain label size (others_at zones domain) 0 records → TextsFit domain label' size (others_at zones domain) 0 records
  fits_told label label' [] x y fit = tt
  fits_told label label' (r ∷ []) x y fit = fit
  fits_told label label' (r ∷ next ∷ records) x y fit =
      subst (λ l. TextsFit domain l size (others_at zones domain) 0 (r ∷ next ∷ records)) (one_label (name_at domain) r next records label label' x y) fit

  cut_told : (label label' : List ℕ) (records : List Record) (list : List FlatTerm) → HaveOwners (name_at domain) label 0 records → HaveOwners (name_at domain) label' 0 records
      → ((ends : List ℕ) → IsFittingCut domain label size (others_at zones domain) list ends → length records ≤ length ends)
      → HasShorterCut domain label' size (others_at zones domain) list (length records) → ⊥
  cut_told label label' [] list x y fewest (ends, cut, fewer) = omega (arith, fewer)
  cut_told label label' (r ∷ []) list x y fewest (ends, cut, fewer) = omega (arith, fewer, cut.cut.some)
  cut_told label label' (r ∷ next ∷ records) list x y fewest (ends, cut, fewer) =
      omega (arith, fewer, fewest ends (subst (λ l. IsFittingCut domain l size (others_at zones domain) list ends) (one_label (name_at domain) r next records label' label y x) cut))

  records_told : (answer : Yes) (c : IsCertified zones limits domain size bytes answer) (found : SameChain zones limits domain bytes)
      → IsRecordsFault domain found.chain.label size (others_at zones domain) found.chain.records (terms_of found.chain) → ⊥
  records_told answer c found fault =
      by (subst (λ list. IsRecordsFault domain found.chain.label size (others_at zones domain) c.chain.records list) (one_terms domain bytes found.chain c.chain)
      (subst (λ rs. IsRecordsFault domain found.chain.label size (others_at zones domain) rs (terms_of found.chain)) (one_records domain bytes found.chain c.chain) fault))
    where
      theirs : HaveOwners (name_at domain) found.chain.label 0 c.chain.records
      theirs = subst (HaveOwners (name_at domain) found.chain.label 0) (one_records domain bytes found.chain c.chain) found.chain.form.owners

      by : IsRecordsFault domain found.chain.label size (others_at zones domain) c.chain.records (terms_of c.chain) → ⊥
      by (inl none) = none (fits_told c.chain.label found.chain.label c.chain.records c.chain.form.owners theirs c.fit)
      by (inr cut) = cut_told c.chain.label found.chain.label c.chain.records (terms_of c.chain) c.chain.form.owners theirs c.fewest cut

  beside : (answer : Yes) (why : No) → IsCertified zones limits domain size bytes answer → Reason why → why ≡ Memory
  beside answer (Refused address outcome) c x = absurd (refused_not address outcome x (same_decided (record { chain = c.chain; same = c.same })))
  beside answer (NotZone line kind) c x = absurd (reads_not_faults (name_at domain) bytes c.chain.records line kind c.chain.reads x.1)
  beside answer NotChain c x = absurd (chain_not x.1 c.chain)
  beside answer (Verdict address) c x = absurd (other_not address x.1.0 x.1.1 (record { chain = c.chain; same = c.same }))
  beside answer (Table line) c x = absurd (table_not line (length (terms_of c.chain)) x.0 (record { chain = c.chain; same = c.same }) x.1 c.table)
  beside answer Terms c x = absurd (total_not x.1 x.0 (record { chain = c.chain; same = c.same }) x.2 x.3 c.table)
  beside answer Records c x = absurd (records_told answer c x.0 x.2)
  beside answer Memory c x = refl

pub one_reason : OneReason
one_reason zones limits domain size bytes a b ma mb x y = either zones limits domain size bytes a b ma mb x y

pub no_reason_beside_yes : NoReasonBesideYes
no_reason_beside_yes zones limits domain size bytes answer why c x = beside zones limits domain size bytes answer why c x

pub one_yes : OneYes
one_yes zones limits domain size bytes a b x y =
    let terms : a.terms ≡ b.terms = x.terms ∙ ap length (one_terms domain bytes x.chain y.chain) ∙ sym y.terms in
    let records : a.records ≡ b.records = x.records ∙ ap length (one_records domain bytes x.chain y.chain) ∙ sym y.records in
    λ i. record { terms = terms i; records = records i }
