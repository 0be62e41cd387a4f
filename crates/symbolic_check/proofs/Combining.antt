-- What a function makes of what stands at each address, by the contracts of `combine` and `map` alone.
use Rattle.std.proofs.Common.{◌≡◌, ℕ, ◌<◌, ◌^◌, Bool, true, List, sym, ◌∙◌, ap, Option, Some, None, Result, IfOk, IsSomeAnd}
use Rattle.std.proofs.lemmas.Result.{IfOk-weaker}
use Rattle.std.specs.Prelude.{option_map}
use Rattle.addr_bits.specs.Prefix.{Cidr}
use Rattle.prefix_trie.specs.Leaves.{value_at}
use Rattle.symbolic_check.specs.declared.state.State.{State}
use Rattle.symbolic_check.specs.Walk.{StepsAt, StepsWith}

-- the test of a type says whether values are equal
abbrev pub Tells : {V : Type 0} → (V → V → Bool) → Type 0
Tells {V} eq = (x y : V) → eq x y ≡ true → x ≡ y

-- what is given on two values is what the function makes of them
abbrev pub GivesBy : {V U X : Type 0} → (V → U → X → Type 0) → (U → V → X) → Type 0
GivesBy {V} {U} {X} gives f = (x : V) (u : U) (w : X) → gives x u w → w ≡ f u x

-- at this address stands a value that is given on the values of two tries, by the test of equality
abbrev pub GivenAt : {V U X : Type 0} → (bits : ℕ) → (X → X → Bool) → (V → U → X → Type 0) → List (Cidr × V) → List (Cidr × U) → List (Cidr × X) → ℕ → Type 0
GivenAt {V} {U} {X} bits eq gives left right both a =
    IsSomeAnd (value_at bits left a) (λ x. IsSomeAnd (value_at bits right a) (λ y. IsSomeAnd (value_at bits both a) (λ z. (w : X) × gives x y w × (eq w z ≡ true))))

stands_with : {V U X : Type 0} (eq : X → X → Bool) (gives : V → U → X → Type 0) (f : U → V → X)
    → Tells eq → GivesBy gives f → (old : Option V) (with : Option U) (new : Option X)
    → IsSomeAnd old (λ x. IsSomeAnd with (λ y. IsSomeAnd new (λ z. (w : X) × gives x y w × (eq w z ≡ true))))
    → IsSomeAnd old (λ x. IsSomeAnd with (λ y. new ≡ Some (f y x)))
stands_with eq gives f tells by None with new h = h
stands_with eq gives f tells by (Some x) None new h = h
stands_with eq gives f tells by (Some x) (Some y) None h = absurd h
stands_with eq gives f tells by (Some x) (Some y) (Some z) h = ap Some (sym (tells h.0 z h.2) ∙ by x y h.0 h.1)

pub combined_with : {U : Type 0} (bits : ℕ) {eq : State → State → Bool} {gives : State → U → State → Type 0}
    (old : List (Cidr × State)) (with : List (Cidr × U)) (new : List (Cidr × State))
    → ((a : ℕ) → a < 2 ^ bits → GivenAt bits eq gives old with new a) → (step : U → State → State) → Tells eq → GivesBy gives step
    → StepsWith bits step with old new
combined_with bits {eq} {gives} old with new h step tells by =
    λ a below. stands_with eq gives step tells by (value_at bits old a) (value_at bits with a) (value_at bits new a) (h a below)

-- what is given on a value is what the function makes of it
abbrev pub MakesBy : {V X : Type 0} → (V → X → Type 0) → (V → X) → Type 0
MakesBy {V} {X} gives f = (x : V) (w : X) → gives x w → w ≡ f x

-- at this address stands a value that is given on that of another trie, by the test of equality
abbrev pub MadeAt : {V X : Type 0} → (bits : ℕ) → (X → X → Bool) → (V → X → Type 0) → List (Cidr × V) → List (Cidr × X) → ℕ → Type 0
MadeAt {V} {X} bits eq gives old new a = IsSomeAnd (value_at bits old a) (λ x. IsSomeAnd (value_at bits new a) (λ z. (w : X) × gives x w × (eq w z ≡ true)))

stands_made : {V X : Type 0} (eq : X → X → Bool) (gives : V → X → Type 0) (f : V → X) → Tells eq → MakesBy gives f → (old : Option V) (new : Option X)
    → IsSomeAnd old (λ x. IsSomeAnd new (λ z. (w : X) × gives x w × (eq w z ≡ true))) → IsSomeAnd old (λ x. new ≡ Some (f x))
stands_made eq gives f tells by None new h = h
stands_made eq gives f tells by (Some x) None h = absurd h
stands_made eq gives f tells by (Some x) (Some z) h = ap Some (sym (tells h.0 z h.2) ∙ by x h.0 h.1)

pub mapped_alone : (bits : ℕ) {eq : State → State → Bool} {gives : State → State → Type 0} (old new : List (Cidr × State))
    → ((a : ℕ) → a < 2 ^ bits → MadeAt bits eq gives old new a) → (step : State → State) → Tells eq → MakesBy gives step
    → StepsAt bits (λ a. step) old new
mapped_alone bits {eq} {gives} old new h step tells by = λ a below. stands_made eq gives step tells by (value_at bits old a) (value_at bits new a) (h a below)

-- the same where the values that are made are of another type
mapped : {V X : Type 0} (old : Option V) (new : Option X) (f : V → X) → IsSomeAnd old (λ x. new ≡ Some (f x)) → new ≡ option_map f old
mapped None new f h = absurd h
mapped (Some x) new f h = h

pub mapped_to : {V X : Type 0} (bits : ℕ) {eq : X → X → Bool} {gives : V → X → Type 0} (old : List (Cidr × V)) (new : List (Cidr × X))
    → ((a : ℕ) → a < 2 ^ bits → MadeAt bits eq gives old new a) → (f : V → X) → Tells eq → MakesBy gives f
    → (a : ℕ) → a < 2 ^ bits → value_at bits new a ≡ option_map f (value_at bits old a)
mapped_to bits {eq} {gives} old new h f tells by =
    λ a below. mapped (value_at bits old a) (value_at bits new a) f (stands_made eq gives f tells by (value_at bits old a) (value_at bits new a) (h a below))

-- what holds of each value in an Ok, from a fact that comes first
pub if_ok_by : {A X : Type 0} {P : A → Type 0} (Q : A → Type 0) (result : Result A X) → IfOk result P → ((a : A) → P a → Q a) → IfOk result Q
if_ok_by {A} {X} {P} Q result h weaker = IfOk-weaker result P Q weaker h
