use Rattle.std.proofs.Common.{◌≡◌, ℕ, List, [], ◌++◌, flat_map, ap, subst, ◌∙◌, arith}
use Rattle.std.specs.Prelude.{OnOk}
use Rattle.spf_macros.specs.Expansion.{escaped_byte}
use Rattle.spf_macros.proofs.Escapes.{same_escapes}
use Rattle.spf_macros.proofs.expansion.append_escaped.Goals as goal

behind_nothing : (text before shown escaped : List ℕ) → text ≡ before ++ shown → before ≡ [] → shown ≡ escaped → text ≡ escaped
behind_nothing text before shown escaped e none same = e ∙ ap (λ (t : List ℕ). t ++ shown) none ∙ same

pub returns : goal.returns
returns c =
    let escaped = behind_nothing _ _ _ _ c.in_ok-append_to.ensures.ok c.new-escaped.ensures.bytes (c.percent_encode.ensures.text ∙ same_escapes c.args.text.now (λ k. omega (arith, c.type_inv.text k))) in
    let text : c.as_bytes.result.now ≡ flat_map escaped_byte c.args.text.now = c.as_bytes.ensures.value ∙ c.as_str.ensures.value ∙ escaped in
    subst (λ (t : List ℕ). OnOk c.extend_from_slice.result (c.extend_from_slice.new.self ≡ c.args.out.now ++ t)) text c.extend_from_slice.ensures.ok
