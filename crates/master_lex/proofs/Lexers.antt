-- The next entry of whole bytes, from what a cutter answers.
use Rattle.std.proofs.Common.{◌≡◌, ℕ, ◌+◌, ◌-◌, ◌^◌, ◌<◌, ◌≤◌, List, [], ◌∷◌, ◌++◌, length, take, drop, get_or, suc, take-append-drop, Option, Some, None, sym, ap, subst, ◌∙◌, append_assoc, arith, length-append, refl, filter, ap₂, append-nil, cond, inl, inr, ◌⊎◌}
use Rattle.std.specs.Prelude.{option_to_list, MatchOption, IfSome, IsTrue}
use Rattle.master_lex.specs.declared.entry.Entry.{Entry}
use Rattle.master_lex.specs.declared.fault.LexKind.{LexKind}
use Rattle.master_lex.specs.declared.fault.LexFault.{LexFault}
use Rattle.master_lex.specs.declared.fault.LexFault.TheVariants.{Bad, Memory}
use Rattle.master_lex.specs.Items.{is_feed}
use Rattle.master_lex.specs.Entries.{AreEntries, lines_in, has_token}
use Rattle.master_lex.specs.File.{IsNext, IsNoneLeft, IsNextBroken}
use Rattle.master_lex.specs.Pieces.{Kept, StandsFor, IsBrokenAt, IsDecidedAt, Closes, EndsWith, AreAll, FaultIs}
use Rattle.std.proofs.Math.Seq.{drop-cons, drop-length}
use Rattle.std.proofs.lemmas.List.Sums.{count_by-le-length}
use Rattle.master_lex.proofs.Order.{entries_left, entries_rise, entries_more, spelled_some, compared}
use Rattle.master_lex.proofs.Reach.{broken_more}
use Rattle.master_lex.proofs.Pieces.{decided_some, none_broken}
use Rattle.master_lex.specs.Broken.{IsBroken}
use Rattle.master_lex.proofs.Readings.{not_both, one_fault}
use Rattle.std.proofs.lemmas.List.{take_rest}
use Rattle.std.proofs.lemmas.List.Elements.{filter-append}

-- an entry that a byte closes is the next one
pub record Follows (line : ℕ) (bytes : List ℕ) (entry : Entry) (number : ℕ) (behind : List ℕ) : Type 0 where
  pub next : IsNext line bytes entry number behind
  pub counted : 0 < number
  pub few : number + length behind ≤ 2 ^ 63

pub next_from_closes : (line : ℕ) (bytes taken behind : List ℕ) (b : ℕ) (entry : Entry) (number : ℕ) → Closes line taken [] b entry number → bytes ≡ taken ++ b ∷ behind → 0 < line → line + length bytes ≤ 2 ^ 63
    → Follows line bytes entry number behind
next_from_closes line bytes taken behind b entry number c is counted few = record {
  next = record { passed = c.before; no_tokens = sym c.with_tokens; token = c.token; in_order = subst (λ (n : ℕ). AreEntries line bytes (c.before ++ entry ∷ []) n behind) (sym exact) in_order };
  counted = omega (arith, exact, rise);
  few = omega (arith, exact, left);
}
  where
    in_order : AreEntries line bytes (c.before ++ entry ∷ []) c.last behind
    in_order = subst (λ (l : List ℕ). AreEntries line l (c.before ++ entry ∷ []) c.last behind) (sym is) (c.in_order behind)

    left : c.last + length behind ≤ line + length bytes
    left = (entries_left line bytes (c.before ++ entry ∷ []) c.last behind in_order).1

    rise : line ≤ c.last
    rise = entries_rise line bytes (c.before ++ entry ∷ []) c.last behind in_order

    exact : number ≡ c.last
    exact = omega (arith, c.number, left, few)

-- an entry that the end closes is the next one
pub next_from_end : (line : ℕ) (bytes : List ℕ) (entry : Entry) (number : ℕ) → EndsWith line bytes [] entry number → line + length bytes ≤ 2 ^ 63 → IsNext line bytes entry number []
next_from_end line bytes entry number c few =
    record { passed = c.before; no_tokens = sym c.with_tokens; token = c.token; in_order = subst (λ (n : ℕ). AreEntries line bytes (c.before ++ entry ∷ []) n []) (sym exact) c.in_order }
  where
    exact : number ≡ c.last
    exact = omega (arith, c.number, (entries_left line bytes (c.before ++ entry ∷ []) c.last [] c.in_order).1, few)

pub none_from_all : (line : ℕ) (bytes : List ℕ) → AreAll line bytes [] → IsNoneLeft line bytes
none_from_all line bytes a = record { passed = a.entries; no_tokens = sym a.with_tokens; last = a.last; in_order = a.in_order }

-- what the end answers
pub end_answers : (line : ℕ) (bytes : List ℕ) (here : ℕ) (answer : Option Entry) → AreAll line bytes ([] ++ option_to_list answer) → IfSome answer (λ entry. EndsWith line bytes [] entry here) → line + length bytes ≤ 2 ^ 63
    → MatchOption answer (IsNoneLeft line bytes) (λ entry. IsNext line bytes entry here [])
end_answers line bytes here None a e few = none_from_all line bytes a
end_answers line bytes here (Some entry) a e few = next_from_end line bytes entry here e few

pub here_counted : (line : ℕ) (bytes : List ℕ) (kept : Kept) (given : List Entry) → StandsFor line kept bytes given → line + length bytes ≤ 2 ^ 63 → (0 < kept.here) × (kept.here ≤ 2 ^ 63)
here_counted line bytes kept given h few =
    let left = (entries_left line (bytes ++ []) h.entries h.last (h.rest ++ []) (h.closed [])).1 in
    let rise = entries_rise line (bytes ++ []) h.entries h.last (h.rest ++ []) (h.closed []) in
    let lines : lines_in h.rest ≤ length h.rest = count_by-le-length is_feed h.rest in
    (omega (arith, h.here, h.counted, rise), omega (arith, h.here, left, lines, few, length-append bytes [], length-append h.rest []))

-- ---- faults

-- a fault that is decided stays, however the bytes go on
pub decided_more : (first : ℕ) (bytes more : List ℕ) (given : List Entry) (line : ℕ) (kind : LexKind) → IsDecidedAt first bytes given line kind → IsDecidedAt first (bytes ++ more) given line kind
decided_more first bytes more given line kind x =
    let b = broken_more x.rest kind x.place more x.fault x.decided in
    record { entries = x.entries; rest = x.rest ++ more; place = x.place; in_order = entries_more first bytes x.entries line x.rest more x.in_order (decided_some x.rest kind x.place x.fault x.decided); with_tokens = x.with_tokens; fault = b.0; decided = b.1 }

next_broken : (line : ℕ) (bytes : List ℕ) (broken : ℕ) (kind : LexKind) → IsBrokenAt line bytes [] broken kind → IsNextBroken line bytes broken kind
next_broken line bytes broken kind x = record { passed = x.entries; no_tokens = sym x.with_tokens; rest = x.rest; place = x.place; in_order = x.in_order; fault = x.fault }

pub fault_at_end : (line : ℕ) (bytes : List ℕ) (fault : LexFault) → FaultIs (IsBrokenAt line bytes []) fault → FaultIs (IsNextBroken line bytes) fault
fault_at_end line bytes (Bad broken kind) h = next_broken line bytes broken kind h
fault_at_end line bytes Memory h = tt

pub fault_inside : (line : ℕ) (bytes taken behind : List ℕ) (b : ℕ) (fault : LexFault) → bytes ≡ taken ++ b ∷ behind → FaultIs (IsDecidedAt line (taken ++ b ∷ []) []) fault → FaultIs (IsNextBroken line bytes) fault
fault_inside line bytes taken behind b (Bad broken kind) is h =
    let x = decided_more line (taken ++ b ∷ []) behind [] broken kind h in
    subst (λ (l : List ℕ). IsNextBroken line l broken kind) (append_assoc taken (b ∷ []) behind ∙ sym is)
    (record { passed = x.entries; no_tokens = sym x.with_tokens; rest = x.rest; place = x.place; in_order = x.in_order; fault = x.fault })
fault_inside line bytes taken behind b Memory is h = tt

-- ---- where the bytes are cut

pub cut_at : (bytes : List ℕ) (k : ℕ) → k < length bytes → bytes ≡ take k bytes ++ get_or bytes k 0 ∷ drop (k + 1) bytes
cut_at bytes k h = sym (take-append-drop k bytes) ∙ ap (λ (b : List ℕ). take k bytes ++ b) (drop-cons bytes k 0 h ∙ ap (λ (n : ℕ). get_or bytes k 0 ∷ drop n bytes) next)
  where
    next : suc k ≡ k + 1
    next = omega arith

pub slice_none : (bytes : List ℕ) → take (length bytes - length bytes) (drop (length bytes) bytes) ≡ []
slice_none bytes = take_rest bytes (length bytes) ∙ drop-length bytes

-- ---- one answer

filter_front : (front more : List Entry) → filter has_token (front ++ more) ≡ [] → (filter has_token front ≡ []) × (filter has_token more ≡ [])
filter_front front more h = by (filter has_token front) (filter has_token more) (sym (filter-append has_token front more) ∙ h)
  where
    by : (a b : List Entry) → a ++ b ≡ [] → (a ≡ []) × (b ≡ [])
    by [] b e = (refl, e)
    by (x ∷ a) b e = absurd cc

-- an entry with a token is not passed over
passed_not : (passed : List Entry) (entry : Entry) (more : List Entry) → IsTrue (has_token entry) → filter has_token ((passed ++ entry ∷ []) ++ more) ≡ [] → ⊥
passed_not passed entry more token h =
    let last = (filter_front passed (entry ∷ []) (filter_front (passed ++ entry ∷ []) more h).0).1 in
    let none : entry ∷ [] ≡ [] = sym (ap (λ t. cond t (entry ∷ []) []) token) ∙ last in
    absurd cc

front_none : (a b : List ℕ) → a ++ b ≡ [] → a ≡ []
front_none [] b e = refl
front_none (x ∷ a) b e = absurd cc

-- no entry is next where one is broken
pub next_not_broken : (line : ℕ) (bytes : List ℕ) (entry : Entry) (number : ℕ) (behind : List ℕ) (broken : ℕ) (kind : LexKind) → IsNext line bytes entry number behind → ¬ IsNextBroken line bytes broken kind
next_not_broken line bytes entry number behind broken kind n x = by (compared line bytes (n.passed ++ entry ∷ []) number behind x.passed broken x.rest n.in_order x.in_order)
  where
    after : (more : List Entry) → n.passed ++ entry ∷ [] ≡ x.passed ++ more → AreEntries broken x.rest more number behind → ⊥
    after [] e m = passed_not n.passed entry [] n.token (ap (filter has_token) (append-nil (n.passed ++ entry ∷ []) ∙ e ∙ append-nil x.passed) ∙ x.no_tokens)
    after (next ∷ more) e m = not_both m.0 m.1 x.rest next kind x.place m.3 m.2 x.fault

    by : (((more : List Entry) × (x.passed ≡ (n.passed ++ entry ∷ []) ++ more) × AreEntries number behind more broken x.rest) ⊎ ((more : List Entry) × (n.passed ++ entry ∷ [] ≡ x.passed ++ more) × AreEntries broken x.rest more number behind)) → ⊥
    by (inl m) = passed_not n.passed entry m.0 n.token (ap (filter has_token) (sym m.1) ∙ x.no_tokens)
    by (inr m) = after m.0 m.1 m.2

-- one is left where one is next
pub next_not_none : (line : ℕ) (bytes : List ℕ) (entry : Entry) (number : ℕ) (behind : List ℕ) → IsNext line bytes entry number behind → ¬ IsNoneLeft line bytes
next_not_none line bytes entry number behind n x = by (compared line bytes (n.passed ++ entry ∷ []) number behind x.passed x.last [] n.in_order x.in_order)
  where
    after : (more : List Entry) → n.passed ++ entry ∷ [] ≡ x.passed ++ more → AreEntries x.last [] more number behind → ⊥
    after [] e m = passed_not n.passed entry [] n.token (ap (filter has_token) (append-nil (n.passed ++ entry ∷ []) ∙ e ∙ append-nil x.passed) ∙ x.no_tokens)
    after (next ∷ more) e m = spelled_some m.0 m.1 next m.3 (front_none m.0 m.1 (sym m.2))

    by : (((more : List Entry) × (x.passed ≡ (n.passed ++ entry ∷ []) ++ more) × AreEntries number behind more x.last []) ⊎ ((more : List Entry) × (n.passed ++ entry ∷ [] ≡ x.passed ++ more) × AreEntries x.last [] more number behind)) → ⊥
    by (inl m) = passed_not n.passed entry m.0 n.token (ap (filter has_token) (sym m.1) ∙ x.no_tokens)
    by (inr m) = after m.0 m.1 m.2

-- none is left where one is broken
pub none_not_broken : (line : ℕ) (bytes : List ℕ) (broken : ℕ) (kind : LexKind) → IsNoneLeft line bytes → ¬ IsNextBroken line bytes broken kind
none_not_broken line bytes broken kind a x =
    none_broken line bytes [] (record { entries = a.passed; last = a.last; in_order = a.in_order; with_tokens = sym a.no_tokens }) [] broken kind
    (record { entries = x.passed; rest = x.rest; place = x.place; in_order = x.in_order; with_tokens = sym x.no_tokens; fault = x.fault })

some_end : (a : List Entry) (x : Entry) (more : List Entry) → [] ≡ a ++ x ∷ more → ⊥
some_end [] x more e = cc
some_end (y ∷ a) x more e = cc

last_is : (a b : List Entry) (x y : Entry) → a ++ x ∷ [] ≡ b ++ y ∷ [] → x ≡ y
last_is [] [] x y e = cc
last_is [] (z ∷ b) x y e = let rest : [] ≡ b ++ y ∷ [] = cc in absurd (some_end b y [] rest)
last_is (z ∷ a) [] x y e = let rest : [] ≡ a ++ x ∷ [] = cc in absurd (some_end a x [] rest)
last_is (z ∷ a) (w ∷ b) x y e = let rest : a ++ x ∷ [] ≡ b ++ y ∷ [] = cc in last_is a b x y rest

within : (a b : List Entry) (y z : Entry) (more : List Entry) → a ++ y ∷ [] ≡ b ++ z ∷ more → (c : List Entry) × (a ≡ b ++ c)
within a [] y z more e = (a, refl)
within [] (w ∷ b) y z more e = let rest : [] ≡ b ++ z ∷ more = cc in absurd (some_end b z more rest)
within (v ∷ a) (w ∷ b) y z more e =
    let first : v ≡ w = cc in
    let rest : a ++ y ∷ [] ≡ b ++ z ∷ more = cc in
    let m = within a b y z more rest in (m.0, ap₂ (λ (x : Entry) (l : List Entry). x ∷ l) first m.1)

-- one entry is next
pub one_next : (line : ℕ) (bytes : List ℕ) (entry other : Entry) (number number' : ℕ) (behind behind' : List ℕ) → IsNext line bytes entry number behind → IsNext line bytes other number' behind' → (entry ≡ other) × (number ≡ number') × (behind ≡ behind')
one_next line bytes entry other number number' behind behind' n x = by (compared line bytes (n.passed ++ entry ∷ []) number behind (x.passed ++ other ∷ []) number' behind' n.in_order x.in_order)
  where
    later : (more : List Entry) → x.passed ++ other ∷ [] ≡ (n.passed ++ entry ∷ []) ++ more → AreEntries number behind more number' behind' → (entry ≡ other) × (number ≡ number') × (behind ≡ behind')
    later [] e m = (last_is n.passed x.passed entry other (sym (e ∙ append-nil (n.passed ++ entry ∷ []))), m.0, m.1)
    later (next ∷ more) e m = let w = within x.passed (n.passed ++ entry ∷ []) other next more e in absurd (passed_not n.passed entry w.0 n.token (ap (filter has_token) (sym w.1) ∙ x.no_tokens))

    earlier : (more : List Entry) → n.passed ++ entry ∷ [] ≡ (x.passed ++ other ∷ []) ++ more → AreEntries number' behind' more number behind → (entry ≡ other) × (number ≡ number') × (behind ≡ behind')
    earlier [] e m = (sym (last_is x.passed n.passed other entry (sym (e ∙ append-nil (x.passed ++ other ∷ [])))), sym m.0, sym m.1)
    earlier (next ∷ more) e m = let w = within n.passed (x.passed ++ other ∷ []) entry next more e in absurd (passed_not x.passed other w.0 x.token (ap (filter has_token) (sym w.1) ∙ n.no_tokens))

    by : (((more : List Entry) × (x.passed ++ other ∷ [] ≡ (n.passed ++ entry ∷ []) ++ more) × AreEntries number behind more number' behind') ⊎ ((more : List Entry) × (n.passed ++ entry ∷ [] ≡ (x.passed ++ other ∷ []) ++ more) × AreEntries number' behind' more number behind)) → (entry ≡ other) × (number ≡ number') × (behind ≡ behind')
    by (inl m) = later m.0 m.1 m.2
    by (inr m) = earlier m.0 m.1 m.2

-- one entry is the next broken one
pub one_broken : (line : ℕ) (bytes : List ℕ) (broken other : ℕ) (kind kind' : LexKind) → IsNextBroken line bytes broken kind → IsNextBroken line bytes other kind' → (broken ≡ other) × (kind ≡ kind')
one_broken line bytes broken other kind kind' x y = by (compared line bytes x.passed broken x.rest y.passed other y.rest x.in_order y.in_order)
  where
    -- nothing that is spelled stands behind a broken entry
    here : (number last : ℕ) (rest end : List ℕ) (fault : LexKind) (place : ℕ) → IsBroken rest fault place → (more : List Entry) → AreEntries number rest more last end → (number ≡ last) × (rest ≡ end)
    here number last rest end fault place f [] m = m
    here number last rest end fault place f (next ∷ more) m = absurd (not_both m.0 m.1 rest next fault place m.3 m.2 f)

    same : (rest end : List ℕ) → IsBroken rest kind x.place → IsBroken end kind' y.place → rest ≡ end → kind ≡ kind'
    same rest end f g e = one_fault end kind kind' x.place y.place (subst (λ (l : List ℕ). IsBroken l kind x.place) e f) g

    by : (((more : List Entry) × (y.passed ≡ x.passed ++ more) × AreEntries broken x.rest more other y.rest) ⊎ ((more : List Entry) × (x.passed ≡ y.passed ++ more) × AreEntries other y.rest more broken x.rest)) → (broken ≡ other) × (kind ≡ kind')
    by (inl m) = let at = here broken other x.rest y.rest kind x.place x.fault m.0 m.2 in (at.0, same x.rest y.rest x.fault y.fault at.1)
    by (inr m) = let at = here other broken y.rest x.rest kind' y.place y.fault m.0 m.2 in (sym at.0, same x.rest y.rest x.fault y.fault (sym at.1))
