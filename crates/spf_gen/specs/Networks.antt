-- The networks of a generated zone: the project's own choice.
use Rattle.std.specs.Prelude.{ℕ, ◌+◌, ◌*◌, ◌/◌, ◌%◌, ◌^◌, ◌==◌, List, [], ◌∷◌, ◌++◌, map, if◌then◌else◌}
use Rattle.std.specs.List.{filter, range_with_len}
use Rattle.addr_bits.specs.Prefix.{cidr_of}
use Rattle.spf_grammar.specs.declared.flat.FlatTerm.{FlatTerm}
use Rattle.spf_grammar.specs.declared.flat.Net.{Net}
use Rattle.spf_grammar.specs.declared.flat.Net.TheVariants.{V4, V6, All}
use Rattle.spf_grammar.specs.declared.verdict.Verdict.{Verdict}
use Rattle.spf_grammar.specs.declared.verdict.Verdict.TheVariants.{Fail, Pass, Neutral}
use Rattle.spf_gen.specs.Draws.{draw}

-- network i, of this draw: every fourth is an IPv6 prefix below 2001:db8::/32 (536939960 is its first half), all others
-- are IPv4 prefixes
unfoldable pub network : (drawn i : ℕ) → Net
network drawn i = if i % 4 == 3
    then V6 (cidr_of 128 (36 + 4 * (drawn / 2 ^ 16 % 8)) (536939960 * 2 ^ 96 + drawn / 2 ^ 32 * 2 ^ 64))
    else V4 (cidr_of 32 (20 + drawn / 2 ^ 16 % 8) (drawn / 2 ^ 32))

-- the qualifier of network i: the last eight of each 32 fail
abbrev pub verdict : (i : ℕ) → Verdict
verdict i = if i / 8 % 4 == 3 then Fail else Pass

-- the term of network i, which the draw after i + 1 steps makes
abbrev pub term : (start i : ℕ) → FlatTerm
term start i = record { verdict = verdict i; net = network (draw start (i + 1)) i }

-- the terms of record k, of n networks: network i stands in record i mod 8, in order
abbrev pub networks_in : (start n k : ℕ) → List FlatTerm
networks_in start n k = map (term start) (filter (λ i. i % 8 == k) (range_with_len 0 n))

-- behind its networks a record is neutral
abbrev pub terms_in : (start n k : ℕ) → List FlatTerm
terms_in start n k = networks_in start n k ++ record { verdict = Neutral; net = All } ∷ []
