-- The addresses that agree with a record of an answer.
use Rattle.std.specs.Prelude.{ℕ, ◌==◌, Bool, false, Option, Some, None}
use Rattle.std.specs.List.{list_any}
use Rattle.addr_bits.specs.Address.{bits_of}
use Rattle.addr_bits.specs.declared.address.Family.{Family}
use Rattle.addr_bits.specs.declared.address.Family.TheVariants.{V4, V6}
use Rattle.addr_bits.specs.Width.{cut_of}
use Rattle.master_reader.specs.declared.record.Body.{Body}
use Rattle.master_reader.specs.declared.record.Body.TheVariants.{A, Aaaa}
use Rattle.zone_answers.specs.declared.answer.Answer.{Answer}
use Rattle.zone_answers.specs.Answers.{answer_bodies}

-- RFC 7208, sections 5.3 and 5.6: two addresses agree in the first len bits
abbrev pub agrees : (bits len host a : ℕ) → Bool
agrees bits len host a = cut_of bits a len == cut_of bits host len

-- RFC 1035, section 3.4.1, and RFC 3596, section 2.2: the number of the address that a record has, if it is of the
-- family
abbrev pub host_in : Family → Body → Option ℕ
host_in V4 (A host) = Some host
host_in V6 (Aaaa host) = Some host
host_in f _ = None

-- the host agrees, if there is one
abbrev pub host_agrees : (bits len : ℕ) → Option ℕ → (a : ℕ) → Bool
host_agrees bits len None a = false
host_agrees bits len (Some host) a = agrees bits len host a

-- RFC 7208, section 5.3: a record that has an address of the family, which agrees
abbrev pub matches : Family → (len a : ℕ) → Body → Bool
matches f len a body = host_agrees (bits_of f) len (host_in f body) a

-- RFC 7208, section 5.3: some record of the answer matches
abbrev pub is_matched : (Body → Bool) → Answer → Bool
is_matched matches answer = list_any matches (answer_bodies answer)
