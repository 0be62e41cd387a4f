-- Files in order: the file at a place, and what the files before it came to.
use Rattle.std.proofs.Common.{◌≡◌, ◌<◌, ◌≤◌, ◌+◌, ◌++◌, ℕ, zero, suc, Bool, true, false, not, List, [], ◌∷◌, IsTrue}
use Rattle.std.proofs.Common.{map, take, drop, length, get_or, Contains, Some, None, Ok, Err, Result, bytes_eq}
use Rattle.std.proofs.Common.{refl, ap, sym, ◌∙◌, arith, subst}
use Rattle.std.specs.declared.option.Option.{Option}
use Rattle.std.proofs.Math.Seq.{take-suc}
use Rattle.std.proofs.lemmas.List.{take_all, length-take}
use Rattle.std.proofs.lemmas.Slice.Eq.{bytes_eq-Decides}
use Rattle.std.specs.List.{prefix_len}
use Rattle.spfc_outer.specs.Moved.{IsLoaded}
use Rattle.spfc_outer.specs.Seen.{Contents, FilesSeen, Keeps}
use Rattle.spfc_words.specs.declared.input.Input.{Input}
use Rattle.loading.specs.declared.loaded.Loaded.{Loaded}
use Rattle.loading.specs.declared.refusal.Refusal.{Refusal}
use Rattle.loading.specs.declared.refusal.Refusal.TheVariants.{LongFile}
use Rattle.loading.specs.declared.stop.Stop.{Stop}
use Rattle.loading.specs.declared.stop.Stop.TheVariants.{Refused, ReadFault}
use Rattle.loading.specs.Loading.{FileDue, long_file, whole, most_bytes, nothing, Then, InputDue, InputsDue, Loads}
use Rattle.loading.specs.Loading.{inputs_before, FaultAmong, StopsAt, StopsAmong}
use Rattle.loading.proofs.StopLemmas.{fails_later}

-- ---- one file
pub short_file : (most : ℕ) (held : Option (List ℕ)) (file bytes : List ℕ) → most_bytes < most
    → IsLoaded held most (Some bytes) → length bytes ≤ most_bytes → FileDue held file (Ok bytes)
short_file most None file bytes above is few = absurd is
short_file most (Some contents) file bytes above is few =
    let count = length-take most contents in
    let size : length bytes ≡ length (take most contents) = ap (λ (l : List ℕ). length l) is in
    let small : length contents ≤ most_bytes = omega (arith, count, size, few, above) in
    let all : take most contents ≡ contents = take_all most contents (omega (arith, small, above)) in
    whole contents refl small (ap Ok (is ∙ all))

pub large_file : (most : ℕ) (held : Option (List ℕ)) (file bytes : List ℕ) → IsLoaded held most (Some bytes)
    → most_bytes < length bytes → FileDue held file (Err (LongFile file))
large_file most None file bytes is many = absurd is
large_file most (Some contents) file bytes is many =
    let count = length-take most contents in
    let size : length bytes ≡ length (take most contents) = ap (λ (l : List ℕ). length l) is in
    long_file contents refl (omega (arith, count, size, many)) refl

-- ---- files in order
due_next : (held : Contents) (start middle : Loaded) (first : List Input) (input : Input) (rest : List Input)
    (next found : Result Loaded Refusal) → InputsDue held start first (Ok middle) → InputDue held middle input next
    → Then next (λ more due. InputsDue held more rest due) found → InputsDue held start (first ++ input ∷ rest) found
due_next held start middle [] input rest next found a b c =
    let same : middle ≡ start = cc in
    (next, subst (λ (l : Loaded). InputDue held l input next) same b, c)
due_next held start middle (x ∷ first) input rest next found (Ok one, a, b) c d =
    (Ok one, a, due_next held one middle first input rest next found b c d)
due_next held start middle (x ∷ first) input rest next found (Err why, a, b) c d = absurd cc

due_front : (held : Contents) (start : Loaded) (first behind : List Input) (all : Loaded)
    → InputsDue held start (first ++ behind) (Ok all) → (loaded : Loaded) × InputsDue held start first (Ok loaded)
due_front held start [] behind all is = (start, refl)
due_front held start (x ∷ first) behind all (Ok one, a, b) =
    let front = due_front held one first behind all b in (front.0, (Ok one, a, front.1))
due_front held start (x ∷ first) behind all (Err why, a, b) = absurd cc

cut_at : {A : Type 0} (xs : List A) (i : ℕ) (d : A) → i < length xs → xs ≡ take i xs ++ get_or xs i d ∷ drop (suc i) xs
cut_at [] i d lt = absurd (omega arith)
cut_at (x ∷ xs) zero d lt = refl
cut_at {A = A} (x ∷ xs) (suc i) d lt = ap (λ (l : List A). x ∷ l) (cut_at xs i d (omega (arith, lt)))

file_at : (inputs : List Input) (i : ℕ) (d : Input) (x : List ℕ) → i < length inputs
    → get_or (map (λ (input : Input). input.file) inputs) i x ≡ (get_or inputs i d).file
file_at [] i d x lt = absurd (omega arith)
file_at (w ∷ ws) zero d x lt = refl
file_at (w ∷ ws) (suc i) d x lt = file_at ws i d x (omega (arith, lt))

as_many : (inputs : List Input) → length (map (λ (input : Input). input.file) inputs) ≡ length inputs
as_many [] = refl
as_many (w ∷ ws) = ap suc (as_many ws)

contains_at : (inputs : List Input) (i : ℕ) (d : Input) → i < length inputs
    → Contains (map (λ input. input.file) inputs) (get_or inputs i d).file
contains_at inputs i d lt =
    (i, omega (arith, lt, as_many inputs), file_at inputs i d (get_or inputs i d).file lt)

front_step : {A : Type 0} (p : A → Bool) (x : A) (xs : List A) (i : ℕ) (b : Bool) → p x ≡ b
    → (behind : List A) × (take i xs ≡ take (prefix_len p xs) xs ++ behind)
    → (behind : List A) × (take (suc i) (x ∷ xs) ≡ take (prefix_len p (x ∷ xs)) (x ∷ xs) ++ behind)
front_step {A = A} p x xs i true passes r =
    let more : 1 + prefix_len p xs ≡ suc (prefix_len p xs) = omega arith in
    (r.0, rw (passes, more) (ap (λ (l : List A). x ∷ l) r.1))
front_step p x xs i false stops r = (take (suc i) (x ∷ xs), rw stops refl)

-- what stands before the first element that fails the test stands before each one that does
front_at : {A : Type 0} (p : A → Bool) (xs : List A) (i : ℕ) (d : A) → i < length xs → p (get_or xs i d) ≡ false
    → (behind : List A) × (take i xs ≡ take (prefix_len p xs) xs ++ behind)
front_at p [] i d lt fails = absurd (omega arith)
front_at p (x ∷ xs) zero d lt fails = ([], rw fails refl)
front_at p (x ∷ xs) (suc i) d lt fails = front_step p x xs i (p x) refl (front_at p xs i d (omega (arith, lt)) fails)

-- the files before the first one of a name stand before each one of it
before_at : (inputs : List Input) (i : ℕ) (d : Input) → i < length inputs
    → (behind : List Input) × (take i inputs ≡ inputs_before (get_or inputs i d).file inputs ++ behind)
before_at inputs i d lt =
    let file : List ℕ = (get_or inputs i d).file in
    let same : bytes_eq file file ≡ true = (bytes_eq-Decides file file).1 refl in
    front_at (λ input. not (bytes_eq input.file file)) inputs i d lt (ap not same)

-- ---- what the files before a place and the file there come to
pub loaded_at : (held : Contents) (inputs : List Input) (i : ℕ) (d : Input) (loaded more : Loaded) → i < length inputs
    → Loads held (take i inputs) (Ok loaded) → InputDue held loaded (get_or inputs i d) (Ok more)
    → Loads held (take (i + 1) inputs) (Ok more)
loaded_at held inputs i d loaded more lt first next =
    let one : i + 1 ≡ suc i = omega arith in
    rw (one, take-suc inputs i d lt)
    (due_next held nothing loaded (take i inputs) (get_or inputs i d) [] (Ok more) (Ok more) first next refl)

pub stops_at : (start before after : FilesSeen) (inputs : List Input) (i : ℕ) (d : Input) (loaded : Loaded) (s : Stop)
    → i < length inputs → Keeps start before → (IsTrue start.told → Loads start.held (take i inputs) (Ok loaded))
    → StopsAt before after (get_or inputs i d).file (λ why. InputDue before.held loaded (get_or inputs i d) (Err why)) s
    → StopsAmong start after inputs s
stops_at start before after inputs i d loaded (Refused why) lt keeps first is = λ told.
    let due : InputDue start.held loaded (get_or inputs i d) (Err why) =
    subst (λ h. InputDue h loaded (get_or inputs i d) (Err why)) keeps.held
    (is (subst (λ u. IsTrue u) (sym keeps.told) told)) in
    subst (λ all. Loads start.held all (Err why)) (sym (cut_at inputs i d lt))
    (due_next start.held nothing loaded (take i inputs) (get_or inputs i d) (drop (suc i) inputs) (Err why) (Err why)
    (first told) due refl)
stops_at start before after inputs i d loaded (ReadFault file) lt keeps first is =
    subst (λ name. FaultAmong start after inputs name) (sym is.0) (record {
      taken_up = contains_at inputs i d lt;
      fails = fails_later start before after (get_or inputs i d).file keeps is.1;
      none_before = λ told. due_front start.held nothing (inputs_before (get_or inputs i d).file inputs)
          (before_at inputs i d lt).0 loaded
          (subst (λ front. Loads start.held front (Ok loaded)) (before_at inputs i d lt).1 (first told));
    })
