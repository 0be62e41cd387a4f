use Rattle.std.proofs.Common.{◌≡◌, ◌≤◌, ◌+◌, false, length, take, map, nat_lt}
use Rattle.std.specs.Prelude.{sum_by}
use Rattle.std.specs.List.{list_any}
use Rattle.master_reader.specs.Tokens.{bytes_of}
use Rattle.master_reader.proofs.data.is_long_text.Given as goal

abbrev pub invariant-loop-token : goal.invariant-loop-token
invariant-loop-token l = record {
  sum : l.octets ≡ sum_by (λ s. length s + 1) (map bytes_of (take l.token-index l.content));
  few : l.octets ≤ 65535;
  short : list_any (λ s. nat_lt 255 (length s)) (map bytes_of (take l.token-index l.content)) ≡ false;
}
