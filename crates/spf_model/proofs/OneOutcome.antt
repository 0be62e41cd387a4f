-- check_host gives an address one outcome at most.
use Rattle.std.proofs.Common.{◌≡◌, List, ℕ, Some, Option}
use Rattle.addr_bits.specs.declared.address.Address.{Address}
use Rattle.addr_bits.proofs.Texts.{one_address}
use Rattle.spf_grammar.specs.declared.verdict.Verdict.{Verdict}
use Rattle.spf_grammar.proofs.OnePolicy.{one_policy}
use Rattle.spf_model.specs.declared.outcome.Limits.{Limits}
use Rattle.spf_model.specs.declared.outcome.Outcome.{Outcome}
use Rattle.spf_model.specs.declared.outcome.Outcome.TheVariants.{Is}
use Rattle.spf_model.specs.Run.{AnsweringEach}
use Rattle.spf_model.specs.Result.{Gives}
use Rattle.spf_model.specs.Check.{check_host}
use Rattle.spf_model.proofs.RunLaws.{one_end}

-- what is found is one thing
pub some_once : {A : Type 0} {found : Option A} {a b : A} → found ≡ Some a → found ≡ Some b → a ≡ b
some_once p q = cc

pub one_outcome : (zones : AnsweringEach) (limits : Limits) (domain : List ℕ) (a : Address) (o p : Outcome) → Gives zones limits domain a o → Gives zones limits domain a p → o ≡ p
one_outcome zones limits domain a o p (name, counts, named, ends) (name', counts', named', ends') =
    (one_end (one_policy one_address) (zones a) (check_host limits a domain name) o p counts counts' ends (rw (some_once named' named) at ends')).0

is_twice : (v w : Verdict) → Is v ≡ Is w → v ≡ w
is_twice v w e = cc

pub one_verdict : (zones : AnsweringEach) (limits : Limits) (domain : List ℕ) (a : Address) (v w : Verdict) → Gives zones limits domain a (Is v) → Gives zones limits domain a (Is w) → v ≡ w
one_verdict zones limits domain a v w x y = is_twice v w (one_outcome zones limits domain a (Is v) (Is w) x y)
