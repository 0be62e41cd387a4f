-- What a family sees of a list decides for its addresses.
use Rattle.std.proofs.Common.{ℕ, ◌≡◌, ◌-◌, ◌*◌, ◌/◌, ◌^◌, ◌==◌, cond, [], ◌∷◌, inl, inr, refl, sym, ◌∙◌, ap, ap₂, pow_pos, mul-div_cancel}
use Rattle.std.proofs.lemmas.Bool.Decides.{eqb_tells}
use Rattle.addr_bits.specs.Address.{address_of}
use Rattle.addr_bits.specs.Width.{cut_of}
use Rattle.addr_bits.specs.Prefix.{Cidr, IsCidr}
use Rattle.addr_bits.specs.declared.address.Family.{Family}
use Rattle.addr_bits.specs.declared.address.Family.TheVariants.{V4, V6}
use Rattle.spf_grammar.specs.declared.flat.Net.{Net}
use Rattle.spf_grammar.specs.declared.flat.Net.TheVariants.{V4 as Net4, V6 as Net6, All}
use Rattle.spf_grammar.specs.Flat.{agrees, covers}
use Rattle.spf_grammar.specs.FirstMatch.{reaches}
use Rattle.spf_grammar.specs.Lists.{reach}
use Rattle.spf_grammar.specs.Families.{HasPrefix, FirstIsSeen}

-- two tests that are true together
same_test : (m n p q : ℕ) → (m ≡ n → p ≡ q) → (p ≡ q → m ≡ n) → (m == n) ≡ (p == q)
same_test m n p q f g = elim (eqb_tells m n) [
  | inl h ↦ elim (eqb_tells p q) [
    | inl k ↦ h.0 ∙ sym k.0
    | inr k ↦ absurd (k.1 (f h.1))
  ]
  | inr h ↦ elim (eqb_tells p q) [
    | inl k ↦ absurd (h.1 (g k.1))
    | inr k ↦ h.0 ∙ sym k.0
  ]
]

-- the first bits agree exactly where those past the open ones do
agrees-bits : (bits : ℕ) (p : Cidr) (a : ℕ) → IsCidr bits p → agrees bits p a ≡ (a / 2 ^ (bits - p.len) == p.start / 2 ^ (bits - p.len))
agrees-bits bits p a c =
    let j : ℕ = bits - p.len in
    same_test (cut_of bits a p.len) p.start (a / 2 ^ j) (p.start / 2 ^ j)
    (λ e. sym (mul-div_cancel (a / 2 ^ j) (pow_pos j)) ∙ ap (λ x. x / 2 ^ j) e)
    (λ e. ap (λ x. x * 2 ^ j) e ∙ c.cut)

covers-reach : (f : Family) (net : Net) (a : ℕ) → HasPrefix net → covers net (address_of f a) ≡ reaches (reach f net) a
covers-reach V4 (Net4 p) a h = agrees-bits 32 p a h
covers-reach V4 (Net6 p) a h = refl
covers-reach V4 All a h = refl
covers-reach V6 (Net4 p) a h = refl
covers-reach V6 (Net6 p) a h = agrees-bits 128 p a h
covers-reach V6 All a h = refl

pub first-seen : FirstIsSeen
first-seen f [] a h = refl
first-seen f (t ∷ ts) a h = ap₂ (λ b v. cond b t.verdict v) (covers-reach f t.net a h.0) (first-seen f ts a h.1)
