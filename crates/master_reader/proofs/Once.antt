-- A file has one reading, or one first fault, and not both.
use Rattle.std.proofs.Common.{◌≡◌, ℕ, ◌⊎◌, Bool, true, false, cond, List, [], ◌∷◌, ◌++◌, filter, Result, Ok, Err, refl, sym, ap, ap₂, subst, ◌∙◌, append_assoc, append-nil, inl, inr}
use Rattle.std.specs.Prelude.{MatchBool, MatchResult, IsTrue}
use Rattle.std.proofs.lemmas.List.Elements.{filter-append}
use Rattle.std.proofs.lemmas.List.{append_cancel_right}
use Rattle.addr_bits.specs.declared.address.Family.{Family}
use Rattle.addr_bits.specs.declared.address.Family.TheVariants.{V4, V6}
use Rattle.addr_bits.specs.Address.{address_of, SpellsIn}
use Rattle.addr_bits.proofs.Texts.{one_address}
use Rattle.master_lex.specs.declared.entry.Token.{Token}
use Rattle.master_lex.specs.declared.entry.Entry.{Entry}
use Rattle.master_lex.specs.declared.fault.LexKind.{LexKind}
use Rattle.master_lex.specs.Entries.{AreEntries, Spells, has_token, starts_blank}
use Rattle.master_lex.specs.Broken.{IsBroken}
use Rattle.master_lex.proofs.Order.{compared, spelled_some}
use Rattle.master_lex.proofs.Machine.{closed, broken}
use Rattle.master_lex.proofs.Readings.{one_reading, not_both, one_fault, broken_run}
use Rattle.master_reader.specs.declared.fault.Kind.{Kind}
use Rattle.master_reader.specs.declared.fault.Kind.TheVariants as kinds
use Rattle.master_reader.specs.declared.record.Body.{Body}
use Rattle.master_reader.specs.declared.record.Record.{Record}
use Rattle.master_reader.specs.Tokens.{bytes_of, is_bare, is_word}
use Rattle.master_reader.specs.Entry.{Context, Ask, a_record, an_origin, no_record, ask_of, context_behind}
use Rattle.master_reader.specs.Data.{address_body, IsAddressBody, IsBody, other_body}
use Rattle.master_reader.specs.Reading.{Adds, Mean, IsFaulty, records_kept, first_context, StartsBroken, StartsFaulty, Reads, Faults, kind_of}
use Rattle.std.specs.Prelude.{codes}

-- ---- one body

address_once : (f : Family) (content : List Token) (r s : Result Body Kind) → IsAddressBody f content r → IsAddressBody f content s → r ≡ s
address_once f [] r s h k = h ∙ sym k
address_once f (token ∷ other ∷ more) r s h k = h ∙ sym k
address_once f (token ∷ []) r s h k = by (is_bare token) r s h k
  where
    spelled : (r s : Result Body Kind) → MatchResult r (λ is. (n : ℕ) × SpellsIn f (bytes_of token) n × (is ≡ address_body (address_of f n))) (λ kind. (kind ≡ kinds.BadData) × ((n : ℕ) → ¬ SpellsIn f (bytes_of token) n))
        → MatchResult s (λ is. (n : ℕ) × SpellsIn f (bytes_of token) n × (is ≡ address_body (address_of f n))) (λ kind. (kind ≡ kinds.BadData) × ((n : ℕ) → ¬ SpellsIn f (bytes_of token) n)) → r ≡ s
    spelled (Ok x) (Ok y) h k = ap Ok (h.2 ∙ ap (λ n. address_body (address_of f n)) (one_address.one f (bytes_of token) h.0 k.0 h.1 k.1) ∙ sym k.2)
    spelled (Ok x) (Err g) h k = absurd (k.1 h.0 h.1)
    spelled (Err f) (Ok y) h k = absurd (h.1 k.0 k.1)
    spelled (Err f) (Err g) h k = ap Err (h.0 ∙ sym k.0)

    by : (b : Bool) (r s : Result Body Kind) → MatchBool b (MatchResult r (λ is. (n : ℕ) × SpellsIn f (bytes_of token) n × (is ≡ address_body (address_of f n))) (λ kind. (kind ≡ kinds.BadData) × ((n : ℕ) → ¬ SpellsIn f (bytes_of token) n))) (r ≡ Err kinds.BadData)
        → MatchBool b (MatchResult s (λ is. (n : ℕ) × SpellsIn f (bytes_of token) n × (is ≡ address_body (address_of f n))) (λ kind. (kind ≡ kinds.BadData) × ((n : ℕ) → ¬ SpellsIn f (bytes_of token) n))) (s ≡ Err kinds.BadData) → r ≡ s
    by true r s h k = spelled r s h k
    by false r s h k = h ∙ sym k

pub body_once : (origin : List (List ℕ)) (type : Token) (content : List Token) (r s : Result Body Kind) → IsBody origin type content r → IsBody origin type content s → r ≡ s
body_once origin type content r s h k = by (is_word type (codes "a")) (is_word type (codes "aaaa")) h k
  where
    by : (a b : Bool) → MatchBool a (IsAddressBody V4 content r) (MatchBool b (IsAddressBody V6 content r) (r ≡ other_body origin type content))
        → MatchBool a (IsAddressBody V4 content s) (MatchBool b (IsAddressBody V6 content s) (s ≡ other_body origin type content)) → r ≡ s
    by true b h k = address_once V4 content r s h k
    by false true h k = address_once V6 content r s h k
    by false false h k = h ∙ sym k

-- ---- one meaning

pub adds_once : (zone origin : List (List ℕ)) (ask : Ask) (r s : List Record) → Adds zone origin ask r → Adds zone origin ask s → r ≡ s
adds_once zone origin (a_record owner type content) r s h k =
    let same : h.0 ≡ k.0 = inside (body_once origin type content (Ok h.0) (Ok k.0) h.1 k.1) in
    h.2 ∙ ap (λ (b : Body). records_kept zone (record { owner = owner; body = b })) same ∙ sym k.2
  where
    inside : {x y : Body} → ◌≡◌ {A = Result Body Kind} (Ok x) (Ok y) → x ≡ y
    inside e = cc
adds_once zone origin (an_origin name) r s h k = h ∙ sym k
adds_once zone origin no_record r s h k = h ∙ sym k

ask_once : (context : Context) (entry : Entry) (a b : Ask) → ask_of context entry ≡ Ok a → ask_of context entry ≡ Ok b → a ≡ b
ask_once context entry a b h k = let e : ◌≡◌ {A = Result Ask Kind} (Ok a) (Ok b) = sym h ∙ k in cc

-- entries that have a meaning, and more behind them
pub record MeanMore (zone : List (List ℕ)) (context : Context) (front more : List Entry) (behind : Context) (records : List Record) : Type 0 where
  pub mid : Context
  pub first : List Record
  pub others : List Record
  pub front_mean : Mean zone context front mid first
  pub more_mean : Mean zone mid more behind others
  pub all : records ≡ first ++ others

pub mean_split : (zone : List (List ℕ)) (context : Context) (front more : List Entry) (behind : Context) (records : List Record) → Mean zone context (front ++ more) behind records → MeanMore zone context front more behind records
mean_split zone context [] more behind records m = record { mid = context; first = []; others = records; front_mean = (refl, refl); more_mean = m; all = refl }
mean_split zone context (entry ∷ front) more behind records m =
    let rest = mean_split zone (context_behind context m.0) front more behind m.2.1 m.2.4 in
    record {
      mid = rest.mid;
      first = m.2.0 ++ rest.first;
      others = rest.others;
      front_mean = (m.0, m.1, (m.2.0, rest.first, refl, m.2.3, rest.front_mean));
      more_mean = rest.more_mean;
      all = m.2.2 ∙ ap (λ (l : List Record). m.2.0 ++ l) rest.all ∙ sym (append_assoc m.2.0 rest.first rest.others);
    }

pub mean_append : (zone : List (List ℕ)) (context : Context) (front : List Entry) (mid : Context) (first : List Record) (more : List Entry) (behind : Context) (others : List Record) → Mean zone context front mid first → Mean zone mid more behind others → Mean zone context (front ++ more) behind (first ++ others)
mean_append zone context [] mid first more behind others m n = subst (λ (c : Context). Mean zone c more behind (first ++ others)) (sym m.0) (subst (λ (l : List Record). Mean zone mid more behind (l ++ others)) (sym m.1) n)
mean_append zone context (entry ∷ front) mid first more behind others m n =
    (m.0, m.1, (m.2.0, m.2.1 ++ others, ap (λ (l : List Record). l ++ others) m.2.2 ∙ append_assoc m.2.0 m.2.1 others, m.2.3, mean_append zone (context_behind context m.0) front mid m.2.1 more behind others m.2.4 n))

pub mean_once : (zone : List (List ℕ)) (context : Context) (entries : List Entry) (b c : Context) (r s : List Record) → Mean zone context entries b r → Mean zone context entries c s → (b ≡ c) × (r ≡ s)
mean_once zone context [] b c r s m n = (sym m.0 ∙ n.0, m.1 ∙ sym n.1)
mean_once zone context (entry ∷ entries) b c r s m n =
    let same : m.0 ≡ n.0 = ask_once context entry m.0 n.0 m.1 n.1 in
    let mine : m.2.0 ≡ n.2.0 = adds_once zone context.origin n.0 m.2.0 n.2.0 (subst (λ (a : Ask). Adds zone context.origin a m.2.0) same m.2.3) n.2.3 in
    let rest = mean_once zone (context_behind context n.0) entries b c m.2.1 n.2.1 (subst (λ (a : Ask). Mean zone (context_behind context a) entries b m.2.1) same m.2.4) n.2.4 in
    (rest.0, m.2.2 ∙ ap₂ (λ (x y : List Record). x ++ y) mine rest.1 ∙ sym n.2.2)

-- ---- one fault

-- what an entry asks for goes by its first byte and its tokens
pub same_ask : (context : Context) (entry other : Entry) → entry.blank ≡ other.blank → entry.tokens ≡ other.tokens → ask_of context entry ≡ ask_of context other
same_ask context entry other blank tokens = ap₂ (λ (b : Bool) (l : List Token). ask_of context (record { line = 0; blank = b; tokens = l })) blank tokens

pub faulty_not_mean : (zone : List (List ℕ)) (context : Context) (entry other : Entry) (more : List Entry) (behind : Context) (records : List Record) (kind : Kind) → entry.blank ≡ other.blank → entry.tokens ≡ other.tokens → IsFaulty context entry kind
    → Mean zone context (other ∷ more) behind records → ⊥
faulty_not_mean zone context entry other more behind records kind blank tokens (inl e) m =
    let both : ◌≡◌ {A = Result Ask Kind} (Err kind) (Ok m.0) = sym e ∙ same_ask context entry other blank tokens ∙ m.1 in absurd cc
faulty_not_mean zone context entry other more behind records kind blank tokens (inr f) m =
    let both : ◌≡◌ {A = Result Ask Kind} (Ok (a_record f.0 f.1 f.2)) (Ok m.0) = sym f.3 ∙ same_ask context entry other blank tokens ∙ m.1 in
    let ask : a_record f.0 f.1 f.2 ≡ m.0 = cc in
    let adds : Adds zone context.origin (a_record f.0 f.1 f.2) m.2.0 = subst (λ (a : Ask). Adds zone context.origin a m.2.0) (sym ask) m.2.3 in
    let body : ◌≡◌ {A = Result Body Kind} (Ok adds.0) (Err kind) = body_once context.origin f.1 f.2 (Ok adds.0) (Err kind) adds.1 f.4 in
    absurd cc

pub faulty_once : (context : Context) (entry other : Entry) (kind kind' : Kind) → entry.blank ≡ other.blank → entry.tokens ≡ other.tokens → IsFaulty context entry kind → IsFaulty context other kind' → kind ≡ kind'
faulty_once context entry other kind kind' blank tokens (inl e) (inl f) =
    let both : ◌≡◌ {A = Result Ask Kind} (Err kind) (Err kind') = sym e ∙ same_ask context entry other blank tokens ∙ f in cc
faulty_once context entry other kind kind' blank tokens (inl e) (inr f) =
    let both : ◌≡◌ {A = Result Ask Kind} (Err kind) (Ok (a_record f.0 f.1 f.2)) = sym e ∙ same_ask context entry other blank tokens ∙ f.3 in absurd cc
faulty_once context entry other kind kind' blank tokens (inr f) (inl e) =
    let both : ◌≡◌ {A = Result Ask Kind} (Ok (a_record f.0 f.1 f.2)) (Err kind') = sym f.3 ∙ same_ask context entry other blank tokens ∙ e in absurd cc
faulty_once context entry other kind kind' blank tokens (inr f) (inr g) =
    let both : ◌≡◌ {A = Result Ask Kind} (Ok (a_record f.0 f.1 f.2)) (Ok (a_record g.0 g.1 g.2)) = sym f.3 ∙ same_ask context entry other blank tokens ∙ g.3 in
    let type : f.1 ≡ g.1 = cc in
    let content : f.2 ≡ g.2 = cc in
    let mine : IsBody context.origin g.1 g.2 (Err kind) = subst (λ (t : Token). IsBody context.origin t g.2 (Err kind)) type (subst (λ (l : List Token). IsBody context.origin f.1 l (Err kind)) content f.4) in
    let body : ◌≡◌ {A = Result Body Kind} (Err kind) (Err kind') = body_once context.origin g.1 g.2 (Err kind) (Err kind') mine g.4 in
    cc

-- ---- files

pub nil_front : (a b : List ℕ) → a ++ b ≡ [] → a ≡ []
nil_front [] b e = refl
nil_front (x ∷ a) b e = absurd cc

-- nothing is left of the bytes, so nothing stands in them
pub nothing_more : (line : ℕ) (more : List Entry) (last : ℕ) (rest : List ℕ) → AreEntries line [] more last rest → (more ≡ []) × (rest ≡ [])
nothing_more line [] last rest h = (refl, sym h.1)
nothing_more line (entry ∷ more) last rest h = absurd (spelled_some h.0 h.1 entry h.3 (nil_front h.0 h.1 (sym h.2)))

nothing_broken : (kind : LexKind) (place : ℕ) → IsBroken [] kind place → ⊥
nothing_broken kind place h = let e : closed [] [] ≡ broken kind = broken_run [] kind place h in absurd cc

-- an entry with a token is among those with a token
pub with_token : (front : List Entry) (entry : Entry) (more : List Entry) → IsTrue (has_token entry) → filter has_token (front ++ entry ∷ more) ≡ filter has_token front ++ entry ∷ filter has_token more
with_token front entry more h = filter-append has_token front (entry ∷ more) ∙ ap (λ t. filter has_token front ++ cond t (entry ∷ filter has_token more) (filter has_token more)) h

-- two entries that bytes begin with are the same but for their lines
pub record SameEntry (text after text' : List ℕ) (entry other : Entry) (after' : List ℕ) : Type 0 where
  pub blank : entry.blank ≡ other.blank
  pub tokens : entry.tokens ≡ other.tokens
  pub text_same : text ≡ text'
  pub after_same : after ≡ after'

pub same_entry : (text after text' after' : List ℕ) (entry other : Entry) → Spells text after entry → Spells text' after' other → text ++ after ≡ text' ++ after' → SameEntry text after text' entry other after'
same_entry text after text' after' entry other s t e =
    let one = one_reading text after text' after' entry other s t e in
    let text_same : text ≡ text' = append_cancel_right text text' after (e ∙ ap (λ (a : List ℕ). text' ++ a) (sym one.1)) in
    record { blank = s.led ∙ ap starts_blank text_same ∙ sym t.led; tokens = one.0; text_same = text_same; after_same = one.1 }

-- the bytes begin with a broken entry or one without a meaning
abbrev pub Starts : Context → List ℕ → Kind → Type 0
Starts context bytes kind = StartsBroken bytes kind ⊎ StartsFaulty context bytes kind

pub starts_some : (context : Context) (kind : Kind) → Starts context [] kind → ⊥
starts_some context kind (inl b) = nothing_broken b.0 b.1 b.2
starts_some context kind (inr f) = spelled_some f.0 f.1 f.3.0 f.3.1 (nil_front f.0 f.1 (sym f.2))

-- no entries that have a meaning begin there
pub not_passed : (zone : List (List ℕ)) (context : Context) (rest : List ℕ) (kind : Kind) (line : ℕ) (more : List Entry) (last : ℕ) (end : List ℕ) (behind : Context) (records : List Record) → Starts context rest kind → AreEntries line rest more last end
    → Mean zone context (filter has_token more) behind records → more ≡ []
not_passed zone context rest kind line [] last end behind records f a m = refl
not_passed zone context rest kind line (entry ∷ more) last end behind records (inl b) a m = absurd (not_both a.0 a.1 rest entry b.0 b.1 a.3 a.2 b.2)
not_passed zone context rest kind line (entry ∷ more) last end behind records (inr f) a m =
    let same = same_entry f.0 f.1 a.0 a.1 f.3.0 entry f.3.1 a.3 (sym f.2 ∙ a.2) in
    let token : IsTrue (has_token entry) = ap (λ (l : List Token). has_token (record { line = 0; blank = false; tokens = l })) (sym same.tokens) ∙ f.3.2 in
    let meant = subst (λ (l : List Entry). Mean zone context l behind records) (with_token [] entry more token) m in
    absurd (faulty_not_mean zone context f.3.0 entry (filter has_token more) behind records kind same.blank same.tokens f.3.3 meant)

pub starts_once : (context : Context) (rest : List ℕ) (kind kind' : Kind) → Starts context rest kind → Starts context rest kind' → kind ≡ kind'
starts_once context rest kind kind' (inl b) (inl c) = b.3 ∙ ap kind_of (one_fault rest b.0 c.0 b.1 c.1 b.2 c.2) ∙ sym c.3
starts_once context rest kind kind' (inl b) (inr g) = absurd (not_both g.0 g.1 rest g.3.0 b.0 b.1 g.3.1 g.2 b.2)
starts_once context rest kind kind' (inr f) (inl c) = absurd (not_both f.0 f.1 rest f.3.0 c.0 c.1 f.3.1 f.2 c.2)
starts_once context rest kind kind' (inr f) (inr g) =
    let same = same_entry f.0 f.1 g.0 g.1 f.3.0 g.3.0 f.3.1 g.3.1 (sym f.2 ∙ g.2) in
    faulty_once context f.3.0 g.3.0 kind kind' same.blank same.tokens f.3.3 g.3.3

-- entries behind others, with the context that they have
pub record Behind (zone : List (List ℕ)) (front more : List Entry) (mid behind : Context) : Type 0 where
  pub others : List Record
  pub mean : Mean zone mid (filter has_token more) behind others

pub behind_from : (zone : List (List ℕ)) (context : Context) (front more all : List Entry) (mid behind : Context) (first records : List Record) → Mean zone context (filter has_token front) mid first → Mean zone context (filter has_token all) behind records → all ≡ front ++ more
    → Behind zone front more mid behind
behind_from zone context front more all mid behind first records m n e =
    let cut = mean_split zone context (filter has_token front) (filter has_token more) behind records (subst (λ (l : List Entry). Mean zone context l behind records) (ap (filter has_token) e ∙ filter-append has_token front more) n) in
    let same = mean_once zone context (filter has_token front) cut.mid mid cut.first first cut.front_mean m in
    record { others = cut.others; mean = subst (λ (c : Context). Mean zone c (filter has_token more) behind cut.others) same.0 cut.more_mean }

pub reads_once : (zone : List (List ℕ)) (bytes : List ℕ) (records others : List Record) → Reads zone bytes records → Reads zone bytes others → records ≡ others
reads_once zone bytes records others r s = by (compared 1 bytes r.entries r.last [] s.entries s.last [] r.in_order s.in_order)
  where
    same : r.entries ≡ s.entries → records ≡ others
    same e = (mean_once zone (first_context zone) (filter has_token s.entries) r.context s.context records others (subst (λ (l : List Entry). Mean zone (first_context zone) (filter has_token l) r.context records) e r.meaning) s.meaning).1

    by : (((more : List Entry) × (s.entries ≡ r.entries ++ more) × AreEntries r.last [] more s.last []) ⊎ ((more : List Entry) × (r.entries ≡ s.entries ++ more) × AreEntries s.last [] more r.last [])) → records ≡ others
    by (inl m) = same (sym (m.1 ∙ ap (λ (l : List Entry). r.entries ++ l) (nothing_more r.last m.0 s.last [] m.2).0 ∙ append-nil r.entries))
    by (inr m) = same (m.1 ∙ ap (λ (l : List Entry). s.entries ++ l) (nothing_more s.last m.0 r.last [] m.2).0 ∙ append-nil s.entries)

pub reads_not_faults : (zone : List (List ℕ)) (bytes : List ℕ) (records : List Record) (line : ℕ) (kind : Kind) → Reads zone bytes records → Faults zone bytes line kind → ⊥
reads_not_faults zone bytes records line kind r f = by (compared 1 bytes r.entries r.last [] f.before line f.rest r.in_order f.in_order)
  where
    none : f.rest ≡ [] → ⊥
    none e = starts_some f.context kind (subst (λ (l : List ℕ). Starts f.context l kind) e f.fault)

    passed : (more : List Entry) → more ≡ [] → AreEntries line f.rest more r.last [] → ⊥
    passed more e a = let at : AreEntries line f.rest [] r.last [] = subst (λ (l : List Entry). AreEntries line f.rest l r.last []) e a in none at.1

    by : (((more : List Entry) × (f.before ≡ r.entries ++ more) × AreEntries r.last [] more line f.rest) ⊎ ((more : List Entry) × (r.entries ≡ f.before ++ more) × AreEntries line f.rest more r.last [])) → ⊥
    by (inl m) = none (nothing_more r.last m.0 line f.rest m.2).1
    by (inr m) =
        let b = behind_from zone (first_context zone) f.before m.0 r.entries f.context r.context f.records records f.meaning r.meaning m.1 in
        passed m.0 (not_passed zone f.context f.rest kind line m.0 r.last [] r.context b.others f.fault m.2 b.mean) m.2

-- the first fault, where another is not before it
fault_first : (zone : List (List ℕ)) (bytes : List ℕ) (line other : ℕ) (kind kind' : Kind) (f : Faults zone bytes line kind) (g : Faults zone bytes other kind') (more : List Entry) → g.before ≡ f.before ++ more → AreEntries line f.rest more other g.rest → (line ≡ other) × (kind ≡ kind')
fault_first zone bytes line other kind kind' f g more e a =
    let b = behind_from zone (first_context zone) f.before more g.before f.context g.context f.records g.records f.meaning g.meaning e in
    let none = not_passed zone f.context f.rest kind line more other g.rest g.context b.others f.fault a b.mean in
    let at : AreEntries line f.rest [] other g.rest = subst (λ (l : List Entry). AreEntries line f.rest l other g.rest) none a in
    let mean : Mean zone f.context [] g.context b.others = subst (λ (l : List Entry). Mean zone f.context (filter has_token l) g.context b.others) none b.mean in
    (at.0, starts_once g.context g.rest kind kind' (subst (λ (c : Context). Starts c g.rest kind) mean.0 (subst (λ (l : List ℕ). Starts f.context l kind) at.1 f.fault)) g.fault)

pub faults_once : (zone : List (List ℕ)) (bytes : List ℕ) (line other : ℕ) (kind kind' : Kind) → Faults zone bytes line kind → Faults zone bytes other kind' → (line ≡ other) × (kind ≡ kind')
faults_once zone bytes line other kind kind' f g = by (compared 1 bytes f.before line f.rest g.before other g.rest f.in_order g.in_order)
  where
    by : (((more : List Entry) × (g.before ≡ f.before ++ more) × AreEntries line f.rest more other g.rest) ⊎ ((more : List Entry) × (f.before ≡ g.before ++ more) × AreEntries other g.rest more line f.rest)) → (line ≡ other) × (kind ≡ kind')
    by (inl m) = fault_first zone bytes line other kind kind' f g m.0 m.1 m.2
    by (inr m) = let same = fault_first zone bytes other line kind' kind g f m.0 m.1 m.2 in (sym same.0, sym same.1)
