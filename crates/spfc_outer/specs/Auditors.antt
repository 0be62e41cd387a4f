-- What is seen of listeners from outside, and how questions change it: the project's own form.
use Rattle.std.specs.Prelude.{ℕ, ◌+◌, ◌-◌, ◌^◌, ◌<◌, ◌≤◌, ◌≡◌, ◌⊎◌, List, [], ◌∷◌, ◌++◌, length, min, Some, None, ⊤}
use Rattle.std.specs.Prelude.{codes}
use Rattle.std.specs.declared.option.Option.{Option}
use Rattle.zone_answers.specs.Questions.{question_text}
use Rattle.zone_answers.specs.declared.answer.Question.{Question}
use Rattle.spfc_outer.specs.Calls.{one_more}
use Rattle.spfc_outer.specs.declared.auditor.Keep.{Keep}
use Rattle.spfc_outer.specs.declared.auditor.Keep.TheVariants.{Go, Done}

-- when a listener says that it is done: as its count comes to a number, never, or it does not tell
pub data Stop : Type 0 where
  At : (count : ℕ) → Stop
  Never : Stop
  Untold : Stop

-- A listener: when it says that it is done, how many questions it took, and those that it heard, where it tells them.
pub record AuditorSeen : Type 0 where
  pub stop : Stop
  pub count : ℕ
  pub heard : Option (List Question)

-- a count as it is read: it stops at the last value of its counter
abbrev pub capped : ℕ → ℕ
capped n = min n (2 ^ 64 - 1)

-- a number is one of the n counts that come behind this one
pub record IsAhead (stop count n : ℕ) : Type 0 where
  pub above : capped count < capped stop
  pub within : capped stop ≤ capped count + n

-- n questions may bring a listener to say that it is done
abbrev pub MayLeave : (stop : Stop) → (count n : ℕ) → Type 0
MayLeave (At stop) count n = IsAhead stop count n
MayLeave Never count n = ⊥
MayLeave Untold count n = 0 < n

-- and may not
abbrev pub MayStay : (stop : Stop) → (count n : ℕ) → Type 0
MayStay (At stop) count n = ¬ IsAhead stop count n
MayStay Never count n = ⊤
MayStay Untold count n = ⊤

-- what was heard, where it is told, and then these questions
abbrev pub heard_then : Option (List Question) → List Question → Option (List Question)
heard_then None asked = None
heard_then (Some heard) asked = Some (heard ++ asked)

-- what a listener says to one more question
abbrev pub Says : AuditorSeen → Keep → Type 0
Says before Done = MayLeave before.stop before.count 1
Says before Go = MayStay before.stop before.count 1

-- a listener took one more question, and says whether it goes on
pub record HasHeard (before : AuditorSeen) (question : Question) (after : AuditorSeen) (keep : Keep) : Type 0 where
  pub stop : after.stop ≡ before.stop
  pub count : after.count ≡ one_more before.count
  pub heard : after.heard ≡ heard_then before.heard (question ∷ [])
  pub says : Says before keep

-- a listener that was told these questions stayed
pub record HasStayed (asked : List Question) (before after : AuditorSeen) : Type 0 where
  pub may : MayStay before.stop before.count (length asked)
  pub stop : after.stop ≡ before.stop
  pub count : capped after.count ≡ capped (before.count + length asked)
  pub heard : after.heard ≡ heard_then before.heard asked

-- A list of listeners, before and after it was told these questions: each left or stayed, and those that stayed keep
-- their order.
abbrev pub After : List Question → (before after : List AuditorSeen) → Type 0
After asked [] [] = ⊤
After asked [] (more ∷ after) = ⊥
After asked (one ∷ before) [] = MayLeave one.stop one.count (length asked) × After asked before []
After asked (one ∷ before) (more ∷ after) =
    (MayLeave one.stop one.count (length asked) × After asked before (more ∷ after))
    ⊎ (HasStayed asked one more × After asked before after)

-- A question was told to the listeners in front of some place alone.
pub record IsCut (question : Question) (before after : List AuditorSeen) : Type 0 where
  pub front : List AuditorSeen
  pub behind : List AuditorSeen
  pub first : List AuditorSeen
  pub before_is : before ≡ front ++ behind
  pub after_is : after ≡ first ++ behind
  pub heard : After (question ∷ []) front first

-- The telling broke off at a question: the listeners in front of some place were told it, and those from there on were
-- told the questions before it.
pub record BrokeOff (asked : List Question) (before after : List AuditorSeen) : Type 0 where
  pub told : List Question
  pub question : Question
  pub rest : List Question
  pub asked_is : asked ≡ told ++ question ∷ rest
  pub front : List AuditorSeen
  pub behind : List AuditorSeen
  pub before_is : before ≡ front ++ behind
  pub first : List AuditorSeen
  pub last : List AuditorSeen
  pub after_is : after ≡ first ++ last
  pub told_too : After (told ++ question ∷ []) front first
  pub untold : After told behind last

-- the line of a question
abbrev pub asked_line : Question → List ℕ
asked_line question = codes "asked " ++ question_text question ++ 10 ∷ []
