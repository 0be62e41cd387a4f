-- What a walk over a record says of one address (the project's own form; the record is RFC 7208's, section 4.6).
use Rattle.std.specs.Prelude.{◌≡◌, false, ℕ, ◌^◌, ◌<◌, ◌⊎◌, List, Contains, IsSomeAnd, Some}
use Rattle.addr_bits.specs.Prefix.{Cidr}
use Rattle.addr_bits.specs.declared.address.Address.{Address}
use Rattle.zone_answers.specs.Zone.{Zone}
use Rattle.zone_answers.specs.declared.answer.Question.{Question}
use Rattle.prefix_trie.specs.Leaves.{value_at}
use Rattle.spf_model.specs.declared.outcome.Counts.{Counts}
use Rattle.spf_model.specs.declared.outcome.Outcome.TheVariants.{Is}
use Rattle.spf_model.specs.Run.{Run, Ends, Answering, AsksFor, says}
use Rattle.spf_model.specs.Leads.{NoVerdict}
use Rattle.spf_model.specs.Settling.{Follows}
use Rattle.symbolic_check.specs.declared.state.State.{State}
use Rattle.symbolic_check.specs.Steps.{is_live}
use Rattle.symbolic_check.specs.declared.state.State.TheVariants.{Live, Decided, Failed}

-- what the lent zones say to each question for the address with this number
abbrev pub says_at : (ℕ → Address) → List Zone → ℕ → Answering
says_at address zones a = says zones (address a)

-- a part of an evaluation, which is what comes after it led to a run
abbrev pub Part : Type 0
Part = (Counts → Run) → Run

-- what a part of an evaluation leaves, with the counts at its begin: it goes on with the counts, or has come to a
-- verdict, or has failed, whatever comes after it
abbrev pub Leaves : Answering → List Question → Part → State → Type 0
Leaves zones asked part (Live counts) = (go : Counts → Run) → Follows zones asked (part go) (go counts)
Leaves zones asked part (Decided verdict counts) = (go : Counts → Run)
    → Follows zones asked (part go) (Ends (Is verdict) counts)
Leaves zones asked part (Failed outcome) = NoVerdict outcome
    × ((go : Counts → Run) → (counts : Counts) × Follows zones asked (part go) (Ends outcome counts))

-- a part of an evaluation, by the counts at its begin
abbrev pub Stretch : Type 0
Stretch = Counts → Part

-- what stands at an address before a stretch and after it: where the evaluation is over, the same
abbrev pub Moves : Answering → List Question → Stretch → State → State → Type 0
Moves zones asked stretch (Live counts) new = Leaves zones asked (stretch counts) new
Moves zones asked stretch (Decided verdict counts) new = new ≡ Decided verdict counts
Moves zones asked stretch (Failed outcome) new = new ≡ Failed outcome

-- the question is asked in the stretch by an address that is live at its begin
pub record AskedBy (bits : ℕ) (zones : ℕ → Answering) (stretch : ℕ → Stretch) (old : List (Cidr × State))
    (question : Question) : Type 0 where
  pub address : ℕ
  pub counts : Counts
  pub within : address < 2 ^ bits
  pub live : value_at bits old address ≡ Some (Live counts)
  pub asks : (go : Counts → Run) → AsksFor (zones address) (stretch address counts go) question

-- a walk over a stretch for every address of a family: what stands at each address after it, and the questions that it
-- adds
pub record Walks (bits : ℕ) (zones : ℕ → Answering) (stretch : ℕ → Stretch) (old new : List (Cidr × State))
    (asked more : List Question) : Type 0 where
  pub each : (a : ℕ) → a < 2 ^ bits → IsSomeAnd (value_at bits old a)
      (λ state. IsSomeAnd (value_at bits new a) (Moves (zones a) more (stretch a) state))
  pub kept : (question : Question) → Contains asked question → Contains more question
  pub only : (question : Question) → Contains more question → Contains asked question
      ⊎ AskedBy bits zones stretch old question

-- some address is live
abbrev pub SomeLive : (bits : ℕ) → List (Cidr × State) → Type 0
SomeLive bits states = (a : ℕ) × (counts : Counts) × (a < 2 ^ bits) × (value_at bits states a ≡ Some (Live counts))

-- no address is live
abbrev pub NoneLive : (bits : ℕ) → List (Cidr × State) → Type 0
NoneLive bits states = (a : ℕ) → a < 2 ^ bits → IsSomeAnd (value_at bits states a) (λ state. is_live state ≡ false)

-- a stretch, and then another
abbrev pub then_stretch : Stretch → Stretch → Stretch
then_stretch first next counts go = first counts (λ between. next between go)

-- a step that makes something of what stands at each address
abbrev pub StepsAt : (bits : ℕ) → (ℕ → State → State) → List (Cidr × State) → List (Cidr × State) → Type 0
StepsAt bits step old new = (a : ℕ) → a < 2 ^ bits
    → IsSomeAnd (value_at bits old a) (λ state. value_at bits new a ≡ Some (step a state))

-- a step that also takes what another trie has at each address
abbrev pub StepsWith : {U : Type 0} → (bits : ℕ) → (U → State → State) → List (Cidr × U) → List (Cidr × State)
    → List (Cidr × State) → Type 0
StepsWith bits step with old new =
    (a : ℕ) → a < 2 ^ bits → IsSomeAnd (value_at bits old a)
    (λ state. IsSomeAnd (value_at bits with a) (λ u. value_at bits new a ≡ Some (step u state)))
