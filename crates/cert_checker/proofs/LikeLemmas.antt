-- Where the verdicts of two tries differ.
use Rattle.std.proofs.Common.{◌≡◌, ◌≢◌, ℕ, ◌<◌, ◌^◌, Bool, true, false, List, sym, ap, subst, arith, Option, Some, None, IfSome, IfNone, IsSomeAnd}
use Rattle.addr_bits.specs.Address.{address_of}
use Rattle.addr_bits.specs.Prefix.{Cidr}
use Rattle.addr_bits.specs.declared.address.Family.{Family}
use Rattle.prefix_trie.specs.Leaves.{value_at}
use Rattle.spf_grammar.specs.Flat.{first}
use Rattle.spf_grammar.specs.declared.flat.FlatTerm.{FlatTerm}
use Rattle.spf_grammar.specs.declared.verdict.Verdict.{Verdict}
use Rattle.cert_checker.specs.Likeness.{AreAlike, Differs, IsLeastTrue, IsLeastUnlike}

pub if_some_by : {A : Type 0} {P : A → Type 0} (Q : A → Type 0) (o : Option A) → IfSome o P → ((a : A) → P a → Q a) → IfSome o Q
if_some_by Q None h weaker = tt
if_some_by Q (Some a) h weaker = weaker a h

pub if_none_by : {A : Type 0} {P : Type 0} (Q : Type 0) (o : Option A) → IfNone o P → (P → Q) → IfNone o Q
if_none_by Q None h weaker = weaker h
if_none_by Q (Some a) h weaker = tt

-- what stands at an address of three tries
abbrev pub Told : Option Verdict → Option Verdict → Option Bool → Type 0
Told due given found = IsSomeAnd due (λ v. IsSomeAnd given (λ w. IsSomeAnd found (Differs v w)))

same_there : (due given : Option Verdict) (found : Option Bool) (w : Verdict) → Told due given found → given ≡ Some w → found ≡ Some false → due ≡ Some w
same_there None given found w told is f = absurd told
same_there (Some v) given found w told is f =
    ap Some (subst (λ o. IsSomeAnd o (Differs v w)) f (subst (λ o. IsSomeAnd o (λ x. IsSomeAnd found (Differs v x))) is told))

other_there : (due given : Option Verdict) (found : Option Bool) (w : Verdict) → Told due given found → given ≡ Some w → found ≡ Some true → (v : Verdict) × (due ≡ Some v) × (v ≢ w)
other_there None given found w told is f = absurd told
other_there (Some v) given found w told is f =
    (v, (λ i. Some v), subst (λ o. IsSomeAnd o (Differs v w)) f (subst (λ o. IsSomeAnd o (λ x. IsSomeAnd found (Differs v x))) is told))

module _ (f : Family) (bits : ℕ) (due given : List (Cidr × Verdict)) (found : List (Cidr × Bool)) (list : List FlatTerm) where
  abbrev pub AllTold : Type 0
  AllTold = (a : ℕ) → a < 2 ^ bits → Told (value_at bits due a) (value_at bits given a) (value_at bits found a)

  abbrev pub AllGiven : Type 0
  AllGiven = (a : ℕ) → a < 2 ^ bits → value_at bits given a ≡ Some (first list (address_of f a))

  pub least_so : AllTold → AllGiven → (a : ℕ) → IsLeastTrue bits found a → IsLeastUnlike f bits due list a
  least_so told is a h =
      let there = other_there (value_at bits due a) (value_at bits given a) (value_at bits found a) (first list (address_of f a)) (told a h.within) (is a h.within) h.here in
      record {
        verdict = there.0;
        within = h.within;
        here = there.1;
        other = λ e. there.2 (sym e);
        least = λ b lt. same_there (value_at bits due b) (value_at bits given b) (value_at bits found b) (first list (address_of f b)) (told b (omega (arith, lt, h.within)))
            (is b (omega (arith, lt, h.within))) (h.least b lt);
      }

  pub alike_so : AllTold → AllGiven → ((a : ℕ) → a < 2 ^ bits → value_at bits found a ≡ Some false) → AreAlike f bits due list
  alike_so told is none a lt = same_there (value_at bits due a) (value_at bits given a) (value_at bits found a) (first list (address_of f a)) (told a lt) (is a lt) (none a lt)
