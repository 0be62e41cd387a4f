-- Why a step stops, and calls of the files in a row.
use Rattle.std.proofs.Common.{◌≤◌, ℕ, List, Err, Ok, Result, IfErr, OnOk, IsTrue, sym, ◌∙◌, arith, subst}
use Rattle.spfc_outer.specs.Causes.{Rose}
use Rattle.spfc_outer.specs.Seen.{FilesSeen, Keeps, FailsAt}
use Rattle.loading.specs.Loading.{IsRefusal, StopsAt}
use Rattle.loading.specs.Memory.{ErrorIs}
use Rattle.loading.specs.declared.memory.OrMemory.{OrMemory}
use Rattle.loading.specs.declared.memory.OrMemory.TheVariants.{Error, Memory}
use Rattle.loading.specs.declared.refusal.Refusal.{Refusal}
use Rattle.loading.specs.declared.stop.Stop.{Stop}
use Rattle.loading.specs.declared.stop.Stop.TheVariants.{Refused, ReadFault}

-- ---- errors
pub error_also : {E : Type 0} (P Q : E → Type 0) → ((e : E) → P e → Q e) → (x : OrMemory E) → ErrorIs P x → ErrorIs Q x
error_also P Q more (Error e) is = more e is
error_also P Q more Memory is = tt

pub result_also : {A E : Type 0} (P Q : E → Type 0) → ((e : E) → P e → Q e) → (r : Result A (OrMemory E))
    → IfErr r (ErrorIs P) → IfErr r (ErrorIs Q)
result_also P Q more (Ok a) is = tt
result_also P Q more (Err x) is = error_also P Q more x is

pub done_also : {A E P Q : Type 0} → (r : Result A E) → (P → Q) → OnOk r P → OnOk r Q
done_also (Ok a) more is = more is
done_also (Err e) more is = tt

-- ---- a step with one file
pub stops_also : (before after : FilesSeen) (file : List ℕ) (P Q : Refusal → Type 0)
    → ((why : Refusal) → IsTrue before.told → P why → Q why) → (s : Stop)
    → StopsAt before after file P s → StopsAt before after file Q s
stops_also before after file P Q more (Refused why) is = λ told. more why told (is told)
stops_also before after file P Q more (ReadFault name) is = is

pub refusal_stops : (before after : FilesSeen) (file : List ℕ) (P Q : Refusal → Type 0)
    → ((why : Refusal) → IsTrue before.told → P why → Q why) → (s : Stop)
    → IsRefusal P s → StopsAt before after file Q s
refusal_stops before after file P Q more (Refused why) is = λ told. more why told is
refusal_stops before after file P Q more (ReadFault name) is = absurd is

-- ---- calls in a row
pub keeps_both : (a b c : FilesSeen) → Keeps a b → Keeps b c → Keeps a c
keeps_both a b c x y = record {
  told = y.told ∙ x.told;
  held = y.held ∙ x.held;
  later = omega (arith, x.later, y.later);
  assured = λ sure. y.assured (x.assured sure);
}

pub fails_later : (a b c : FilesSeen) (name : List ℕ) → Keeps a b → FailsAt b c name → FailsAt a c name
fails_later a b c name x y = record {
  rose = sooner a.faults b.faults c.faults x.later y.rose;
  named = λ t. y.named (subst (λ u. IsTrue u) (sym x.told) t);
  unsure = λ sure. y.unsure (x.assured sure);
}
  where
    sooner : (x y z : ℕ) → x ≤ y → Rose y z → Rose x z
    sooner x y z le rose = omega (arith, le, rose)
