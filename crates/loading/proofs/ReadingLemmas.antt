-- What was read of the file of a zone.
use Rattle.std.proofs.Common.{◌≡◌, ◌<◌, ◌≤◌, ◌+◌, ◌^◌, ◌++◌, ℕ, List, length, take, Some, None, Ok, Err, Option, Result}
use Rattle.std.proofs.Common.{Bool, IfErr, IsTrue, refl, sym, ◌∙◌, ap, arith, inl, inr, length-append}
use Rattle.std.proofs.lemmas.List.{append-nil, append_assoc, take-append-le}
use Rattle.master_reader.specs.Reading.{Reads, Faults}
use Rattle.master_reader.specs.declared.fault.Kind.{Kind}
use Rattle.master_reader.specs.declared.record.Record.{Record}
use Rattle.spfc_outer.specs.Seen.{FilesSeen}
use Rattle.loading.specs.Loading.{no_file, long_file, whole, bad_zone, read, most_bytes, RecordsDue, IsRefusal, StopsAt}
use Rattle.loading.specs.Memory.{ErrorIs}
use Rattle.loading.specs.Reading.{ComesTo, HasTaken, EndsTaken, HasRead}
use Rattle.loading.specs.declared.memory.OrMemory.{OrMemory}
use Rattle.loading.specs.declared.reading.Taken.{Taken}
use Rattle.loading.specs.declared.refusal.Refusal.TheVariants.{NoFile, LongFile, BadZone}
use Rattle.loading.specs.declared.stop.Stop.{Stop}
use Rattle.loading.proofs.StopLemmas.{result_also, refusal_stops}

pub bound : (bytes piece : List ℕ) (count : ℕ) → count ≡ length bytes → count + length piece ≤ most_bytes + 1
    → length (bytes ++ piece) < 2 ^ 64
bound bytes piece count is le = omega (arith, is, le, length-append bytes piece)

pub counted : (bytes piece : List ℕ) (count : ℕ) → count ≡ length bytes → count + length piece ≡ length (bytes ++ piece)
counted bytes piece count is = omega (arith, is, length-append bytes piece)

-- ---- the whole file
pub long_contents : (origin : List (List ℕ)) (contents : List ℕ) (t : Taken) → EndsTaken origin contents t
    → most_bytes < t.count → most_bytes < length contents
long_contents origin contents t (bytes, behind, is, has, end) long =
    omega (arith, ap length is, length-append bytes behind, has.0, long)

pub short_contents : (origin : List (List ℕ)) (contents : List ℕ) (t : Taken) → EndsTaken origin contents t
    → t.count ≤ most_bytes → length contents ≤ most_bytes
short_contents origin contents t (bytes, behind, is, has, inl end) short =
    omega (arith, ap length is, length-append bytes behind, ap length end, has.0, short)
short_contents origin contents t (bytes, behind, is, has, inr long) short = absurd (omega (arith, has.0, short, long))

pub whole_contents : (origin : List (List ℕ)) (contents : List ℕ) (t : Taken) → EndsTaken origin contents t
    → t.count ≤ most_bytes → ComesTo origin contents t.progress
whole_contents origin contents t (bytes, behind, is, has, inl end) short =
    let same : contents ≡ bytes = is ∙ (ap (λ b. bytes ++ b) end ∙ append-nil bytes) in
    rw same has.1
whole_contents origin contents t (bytes, behind, is, has, inr long) short = absurd (omega (arith, has.0, short, long))

-- ---- what it comes to
pub none_due : (held : Option (List ℕ)) (origin : List (List ℕ)) (file : List ℕ) → held ≡ None
    → RecordsDue held origin file (Err (NoFile file))
none_due held origin file none = (Err (NoFile file), no_file none refl, refl)

pub long_due : (origin : List (List ℕ)) (file contents : List ℕ) → most_bytes < length contents
    → RecordsDue (Some contents) origin file (Err (LongFile file))
long_due origin file contents long = (Err (LongFile file), long_file contents refl long refl, refl)

pub bad_due : (origin : List (List ℕ)) (file contents : List ℕ) (line : ℕ) (kind : Kind) → length contents ≤ most_bytes
    → Faults origin contents line kind → RecordsDue (Some contents) origin file (Err (BadZone file line kind))
bad_due origin file contents line kind short bad =
    (Ok contents, whole contents refl short refl, bad_zone line kind bad refl)

pub read_due : (origin : List (List ℕ)) (file contents : List ℕ) (records : List Record) → length contents ≤ most_bytes
    → Reads origin contents records → RecordsDue (Some contents) origin file (Ok records)
read_due origin file contents records short reads =
    (Ok contents, whole contents refl short refl, read records reads refl)

-- a refusal of the contents is one of the file that holds them
pub judged_stops : (before after : FilesSeen) (origin : List (List ℕ)) (file : List ℕ) (held : Option (List ℕ))
    (contents : List ℕ) (r : Result (List Record) (OrMemory Stop)) → (IsTrue before.told → held ≡ Some contents)
    → IfErr r (ErrorIs (IsRefusal (λ why. RecordsDue (Some contents) origin file (Err why))))
    → IfErr r (ErrorIs (StopsAt before after file (λ why. RecordsDue held origin file (Err why))))
judged_stops before after origin file held contents r is stops =
    result_also _ _ (refusal_stops before after file _ _ (λ why told due. rw (is told) due)) r stops

-- ---- one piece more
pub moved : (bytes buf behind old new all : List ℕ) (n : ℕ) → n ≤ length buf → bytes ++ old ≡ all
    → old ≡ take n buf ++ new → (bytes ++ take n (buf ++ behind)) ++ new ≡ all
moved bytes buf behind old new all n le from is =
    let piece : (bytes ++ take n (buf ++ behind)) ++ new ≡ (bytes ++ take n buf) ++ new =
    ap (λ (l : List ℕ). (bytes ++ l) ++ new) (take-append-le n buf behind le) in
    piece ∙ (append_assoc bytes (take n buf) new ∙ (ap (λ (l : List ℕ). bytes ++ l) (sym is) ∙ from))

pub told_before : {a b : Bool} → a ≡ b → IsTrue b → IsTrue a
told_before is t = rw is t

pub ends_long : (told : Bool) (origin : List (List ℕ)) (t : Taken) (rest contents : List ℕ)
    → (bytes : List ℕ) × HasTaken origin bytes t × (IsTrue told → bytes ++ rest ≡ contents) → most_bytes < t.count
    → HasRead told origin contents t
ends_long told origin t rest contents (bytes, has, is) long =
    (bytes ++ rest, (bytes, rest, refl, has, inr (omega (arith, has.0, long))), is)
