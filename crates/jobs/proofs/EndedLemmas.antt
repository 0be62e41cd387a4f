-- What follows from how a run ended.
use Rattle.std.proofs.Common.{◌≡◌, ◌<◌, ◌≤◌, ◌⊎◌, ℕ, List, true, false, IsTrue, length, Ok, Err, Result}
use Rattle.std.proofs.Common.{refl, sym, ◌∙◌, arith, ap, subst, inl, inr}
use Rattle.std.proofs.lemmas.Bool.{false≢true}
use Rattle.spfc_outer.specs.Seen.{FilesSeen}
use Rattle.loading.specs.declared.loaded.Loaded.{Loaded}
use Rattle.loading.specs.declared.refusal.Refusal.{Refusal}
use Rattle.loading.specs.declared.refusal.Refusal.TheVariants.{NoFile, LongFile, BadZone, TooManyRecords, AliasAndOther}
use Rattle.loading.specs.declared.refusal.Refusal.TheVariants.{NoVerdict, Alias, Taken, TooBig, BadList, Denied}
use Rattle.loading.specs.Refusals.{refusal_status}
use Rattle.loading.proofs.OneLoading.{one_loading}
use Rattle.jobs.specs.Meaning.{Due, Refuses, Gives, Meaning, Program, AreLawful, IsLawful}
use Rattle.jobs.specs.Given.{Given, IsGiven, JobDue, Behind, IsReadFault, tells, LineDue, finding, usage, fault}
use Rattle.jobs.specs.Given.{Writes, Says, spoken, WordsDue, no_job, job, OneIsDue}
use Rattle.jobs.specs.Turn.{Turn, given_of, Gains, Ended, done, told, unwritten, untold, no_memory, unheard}
use Rattle.jobs.specs.Turn.{HasDone, HasBest, HasFound, HasUsage, HasReadFault, HasWriteFault, HasNone, IsFindingStatus}
use Rattle.jobs.specs.Turn.{IsComplete, IsAssured}

-- ---- statuses
pub finding_status : (why : Refusal) → IsFindingStatus (refusal_status why)
finding_status (NoFile file) = inr (inr (inl refl))
finding_status (LongFile file) = inr (inr (inl refl))
finding_status (BadZone file line kind) = inr (inr (inl refl))
finding_status (TooManyRecords origin) = inr (inr (inl refl))
finding_status (AliasAndOther origin name) = inr (inr (inl refl))
finding_status (NoVerdict address outcome) = inl refl
finding_status (Alias domain) = inl refl
finding_status (Taken number name) = inl refl
finding_status TooBig = inr (inl refl)
finding_status (BadList file line) = inr (inr (inl refl))
finding_status (Denied why) = inr (inr (inr refl))

-- the status is none of 0, 4, 5, 6 and 7, and at most 8
record IsApart (n : ℕ) : Type 0 where
  some : 0 < n
  most : n ≤ 8
  apart : n ≤ 3 ⊎ (n ≡ 8)

finding_apart : {n : ℕ} → IsFindingStatus n → IsApart n
finding_apart (inl a) = record { some = omega arith; most = omega arith; apart = inl (omega arith) }
finding_apart (inr (inl a)) = record { some = omega arith; most = omega arith; apart = inl (omega arith) }
finding_apart (inr (inr (inl a))) = record { some = omega arith; most = omega arith; apart = inl (omega arith) }
finding_apart (inr (inr (inr a))) = record { some = omega arith; most = omega arith; apart = inr a }

-- a status from 4 to 7 is that of no refusal
not_found : {n : ℕ} (m : ℕ) → IsFindingStatus n → n ≡ m → 3 < m → m < 8 → ⊥
not_found {n = n} m found is more less = at (finding_apart found).apart
  where
    at : (n ≤ 3) ⊎ (n ≡ 8) → ⊥
    at (inl small) = omega arith
    at (inr eight) = omega arith

why_status : {n : ℕ} (why : Refusal) → n ≡ refusal_status why → IsFindingStatus n
why_status why is = subst (λ (n : ℕ). IsFindingStatus n) (sym is) (finding_status why)

-- the status of a line is 1 to 8, but neither 6 nor 7
record IsLineStatus (n : ℕ) : Type 0 where
  some : 0 < n
  most : n ≤ 8
  no_six : n ≡ 6 → ⊥
  no_seven : n ≡ 7 → ⊥

line_status : {p : Program} {g : Given} {after : FilesSeen} {status : ℕ} {line : List ℕ}
    → LineDue p g after status line → IsLineStatus status
line_status (finding why is a b) =
    let found = why_status why a in
    record {
      some = (finding_apart found).some;
      most = (finding_apart found).most;
      no_six = λ six. not_found 6 found six (omega arith) (omega arith);
      no_seven = λ seven. not_found 7 found seven (omega arith) (omega arith);
    }
line_status (usage is a b) =
    record { some = omega arith; most = omega arith; no_six = λ six. omega arith; no_seven = λ seven. omega arith }
line_status (fault file is a b) =
    record { some = omega arith; most = omega arith; no_six = λ six. omega arith; no_seven = λ seven. omega arith }

-- ---- each clause
pub range_of : {p : Program} {t : Turn} {status : ℕ} → Ended p t status → status ≤ 8
range_of (done output is a b c d told_of) = omega arith
range_of (told line is a b same) = (line_status is).most
range_of (unwritten output is a b c told_of) = omega arith
range_of (untold due line is a b c same) = omega arith
range_of (no_memory is a b same) = omega arith
range_of (unheard output is is_given a b c) = omega arith

pub done_of : {p : Program} {t : Turn} {status : ℕ} → Ended p t status → status ≡ 0 → HasDone p t
done_of (done output is a b c d told_of) zero_is = (output, a, c, d, told_of)
done_of (told line is a b same) zero_is = let s = (line_status is).some in absurd (omega (arith, s))
done_of (unwritten output is a b c told_of) zero_is = absurd (omega arith)
done_of (untold due line is a b c same) zero_is = absurd (omega arith)
done_of (no_memory is a b same) zero_is = absurd (omega arith)
done_of (unheard output is is_given a b c) zero_is = absurd (omega arith)

pub best_of : {p : Program} {t : Turn} {status : ℕ} → Ended p t status → status ≡ 0 → HasBest p t
best_of (done output is a b c d told_of) zero_is = (output, a, b, c)
best_of (told line is a b same) zero_is = let s = (line_status is).some in absurd (omega (arith, s))
best_of (unwritten output is a b c told_of) zero_is = absurd (omega arith)
best_of (untold due line is a b c same) zero_is = absurd (omega arith)
best_of (no_memory is a b same) zero_is = absurd (omega arith)
best_of (unheard output is is_given a b c) zero_is = absurd (omega arith)

pub finding_of : {p : Program} {t : Turn} {status : ℕ} → Ended p t status → IsFindingStatus status
    → HasFound p t status
finding_of (done output is a b c d told_of) found = let s = (finding_apart found).some in absurd (omega (arith, s))
finding_of {t = t} (told line (finding why is a b) c d same) found = (why, is, a, subst (λ l. Gains t.err l) b c, d, same)
finding_of (told line (usage is a b) c d same) found = absurd (not_found 4 found a (omega arith) (omega arith))
finding_of (told line (fault file is a b) c d same) found = absurd (not_found 5 found a (omega arith) (omega arith))
finding_of (unwritten output is a b c told_of) found = absurd (not_found 6 found is (omega arith) (omega arith))
finding_of (untold due line is a b c same) found = absurd (not_found 6 found is (omega arith) (omega arith))
finding_of (no_memory is a b same) found = absurd (not_found 7 found is (omega arith) (omega arith))
finding_of (unheard output is is_given a b c) found = absurd (not_found 7 found is (omega arith) (omega arith))

pub usage_of : {p : Program} {t : Turn} {status : ℕ} → Ended p t status → status ≡ 4 → HasUsage p t
usage_of (done output is a b c d told_of) four = absurd (omega arith)
usage_of (told line (finding why is a b) c d same) four =
    absurd (not_found 4 (why_status why a) four (omega arith) (omega arith))
usage_of {t = t} (told line (usage is a b) c d same) four = (is, subst (λ l. Gains t.err l) b c, d, same)
usage_of (told line (fault file is a b) c d same) four = absurd (omega arith)
usage_of (unwritten output is a b c told_of) four = absurd (omega arith)
usage_of (untold due line is a b c same) four = absurd (omega arith)
usage_of (no_memory is a b same) four = absurd (omega arith)
usage_of (unheard output is is_given a b c) four = absurd (omega arith)

pub read_fault_of : {p : Program} {t : Turn} {status : ℕ} → Ended p t status → status ≡ 5 → HasReadFault p t
read_fault_of (done output is a b c d told_of) five = absurd (omega arith)
read_fault_of (told line (finding why is a b) c d same) five =
    absurd (not_found 5 (why_status why a) five (omega arith) (omega arith))
read_fault_of (told line (usage is a b) c d same) five = absurd (omega arith)
read_fault_of {t = t} (told line (fault file is a b) c d same) five = (file, is, subst (λ l. Gains t.err l) b c, d, same)
read_fault_of (unwritten output is a b c told_of) five = absurd (omega arith)
read_fault_of (untold due line is a b c same) five = absurd (omega arith)
read_fault_of (no_memory is a b same) five = absurd (omega arith)
read_fault_of (unheard output is is_given a b c) five = absurd (omega arith)

pub write_fault_of : {p : Program} {t : Turn} {status : ℕ} → Ended p t status → status ≡ 6 → HasWriteFault p t
write_fault_of (done output is a b c d told_of) six = absurd (omega arith)
write_fault_of (told line is a b same) six = absurd ((line_status is).no_six six)
write_fault_of (unwritten output is a b c told_of) six = inl (output, a, b, c, told_of)
write_fault_of (untold due line is a b c same) six = inr (due, line, a, b, c, same)
write_fault_of (no_memory is a b same) six = absurd (omega arith)
write_fault_of (unheard output is is_given a b c) six = absurd (omega arith)

pub memory_of : {p : Program} {t : Turn} {status : ℕ} → Ended p t status → status ≡ 7 → HasNone p t
memory_of (done output is a b c d told_of) seven = absurd (omega arith)
memory_of (told line is a b same) seven = absurd ((line_status is).no_seven seven)
memory_of (unwritten output is a b c told_of) seven = absurd (omega arith)
memory_of (untold due line is a b c same) seven = absurd (omega arith)
memory_of (no_memory is a b same) seven = (a, b, inl same)
memory_of (unheard output is is_given a b c) seven = (b, c, inr (output, is_given, a))

-- ---- what is due, where the files tell
told_tells : (files : FilesSeen) (m : Meaning) → IsTrue files.told → IsTrue (tells files m)
told_tells files m tell = grind (arith, tell)

given_due : (p : Program) (g : Given) (due : Due) → IsTrue g.files.told → IsGiven p g due → WordsDue p g (spoken due)
given_due p g due tell is =
    let owed : JobDue (p.meaning is.job) g.files.held due =
    record { found = is.found; loads = is.loads (told_tells g.files (p.meaning is.job) tell); behind = is.behind } in
    job is.job due is.is_job owed refl

-- a line that is due, but for that of a read fault
line_due : (p : Program) (g : Given) (after : FilesSeen) (status : ℕ) (line : List ℕ) → IsTrue g.files.told
    → LineDue p g after status line → WordsDue p g (Says status line) ⊎ ((file : List ℕ) × IsReadFault p g after file)
line_due p g after status line tell (finding why is a b) = inl (rw (a, b) (given_due p g (Refuses why) tell is))
line_due p g after status line tell (usage is a b) = inl (rw (a, b) (no_job is refl))
line_due p g after status line tell (fault file is a b) = inr (file, is)

pub complete_of : {p : Program} {t : Turn} {status : ℕ} → Ended p t status → IsComplete p t status
complete_of {p = p} {t = t} (done output is a b c d told_of) tell calm =
    inl (Writes output, given_due p (given_of t) (Gives output) tell a, is)
complete_of {p = p} {t = t} {status = status} (told line is a b same) tell calm =
    elim (line_due p (given_of t) t.files.after status line tell is) [
      | inl due ↦ inl (Says status line, due, refl)
      | inr bad ↦ absurd (calm.files (bad.1.fault).fails.rose)
    ]
complete_of (unwritten output is a b c told_of) tell calm = absurd (calm.out b.rose)
complete_of (untold due line is a b c same) tell calm = absurd (calm.err b.rose)
complete_of (no_memory is a b same) tell calm = inr is
complete_of (unheard output is is_given a b c) tell calm = inr is

pub assured_of : {p : Program} {t : Turn} {status : ℕ} → Ended p t status → IsAssured p t status
assured_of {p = p} {t = t} (done output is a b c d told_of) tell sure =
    inl (Writes output, given_due p (given_of t) (Gives output) tell a, is)
assured_of {p = p} {t = t} {status = status} (told line is a b same) tell sure =
    elim (line_due p (given_of t) t.files.after status line tell is) [
      | inl due ↦ inl (Says status line, due, refl)
      | inr bad ↦ absurd ((bad.1.fault).fails.unsure sure.files)
    ]
assured_of {p = p} {t = t} (unwritten output is a b c told_of) tell sure =
    absurd (omega (arith, sure.room (Writes output) (given_due p (given_of t) (Gives output) tell a), b.short))
assured_of {p = p} {t = t} (untold due line is a b c same) tell sure =
    elim (line_due p (given_of t) t.files.after due line tell a) [
      | inl owed ↦ absurd (omega (arith, sure.room (Says due line) owed, b.short))
      | inr bad ↦ absurd ((bad.1.fault).fails.unsure sure.files)
    ]
assured_of (no_memory is a b same) tell sure = inr is
assured_of (unheard output is is_given a b c) tell sure = inr is

-- ---- one thing is due
one_behind : (m : Meaning) → IsLawful m → (x y : Result Loaded Refusal) (a b : Due) → x ≡ y → Behind x m.IsDue a
    → Behind y m.IsDue b → a ≡ b
one_behind m laws x y a b same p q = one_at x a b p (subst (λ z. Behind z m.IsDue b) (sym same) q)
  where
    one_at : (x : Result Loaded Refusal) (a b : Due) → Behind x m.IsDue a → Behind x m.IsDue b → a ≡ b
    one_at (Ok loaded) a b p q = laws.one loaded a b p q
    one_at (Err why) a b p q = p ∙ sym q

pub one_due : (p : Program) → AreLawful p → OneIsDue p
one_due p laws g x y (no_job none e) (no_job none' f) = e ∙ sym f
one_due p laws g x y (no_job none e) (job j d is due f) = absurd (none j is)
one_due p laws g x y (job j d is due e) (no_job none f) = absurd (none j is)
one_due p laws g x y (job j d is due e) (job k c is' due' f) =
    let same : k ≡ j = laws.one_spelled g.words k j is' is in
    let owed : JobDue (p.meaning j) g.files.held c = subst (λ j. JobDue (p.meaning j) g.files.held c) same due' in
    let one : d ≡ c = one_behind (p.meaning j) (laws.lawful j) due.found owed.found d c
    (one_loading g.files.held (p.meaning j).inputs due.found owed.found due.loads owed.loads) due.behind owed.behind in
    e ∙ (ap spoken one ∙ sym f)

-- a write that failed had more to write than was sure to be taken
pub room_short : (sure : ℕ) (bytes list : List ℕ) → list ≡ bytes → (length list ≤ sure → false ≡ true)
    → sure < length bytes
room_short sure bytes list is fails =
    let impossible : length bytes ≤ sure → ⊥ = λ le. false≢true (fails (rw is le)) in
    omega arith
