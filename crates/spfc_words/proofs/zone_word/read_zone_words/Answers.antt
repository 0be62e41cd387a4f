use Rattle.std.proofs.Common.{◌≡◌, ◌+◌, [], ◌∷◌, ◌++◌, take, subst, string_bytes, bytes_eq, sym, ap, ◌∙◌, rules}
use Rattle.std.specs.List.{AllZip, list_any}
use Rattle.std.specs.Cmp.Lexicographic.{pointwise}
use Rattle.spfc_words.specs.Words.{texts}
use Rattle.spfc_words.specs.ZoneWords.{IsZoneWord, HaveOwnOrigins}
use Rattle.spfc_words.proofs.ZoneWords.{refused_at, taken_at, one_more, own_push, none_found, zone_found}
use Rattle.spfc_words.proofs.zone_word.read_zone_words.Goals as goal

pub returns-in_default : goal.returns-in_default
returns-in_default c any zones =
    refused_at c.args.words.now c.loop-word.word-index c.word-item.result any (search rules) (search rules)
    (none_found (string_bytes c.word-item.result) c.as_str.result.now c.in_ok-zone.field-0 (search rules) c.in_default.is c.in_ok-zone.ensures) zones.each

pub returns-then-has_origin : goal.returns-then-has_origin
returns-then-has_origin c any zones =
    taken_at c.args.words.now c.loop-word.word-index c.word-item.result c.loop-word.zones any c.in-Some.zone (search rules) (search rules) c.loop-word.invariant.each
    (zone_found (string_bytes c.word-item.result) c.as_str.result.now c.in_ok-zone.field-0 c.in-Some.zone (search rules) c.in-Some.is c.in_ok-zone.ensures)
    (ap (λ zs. list_any (λ z. pointwise bytes_eq z.origin c.in-Some.zone.origin) zs) (sym c.as_slice.ensures) ∙ sym c.if-has_origin.ensures) zones.each zones.own

pub loop-word-preserved : goal.loop-word-preserved
loop-word-preserved c =
    let pushed : c.push.new.self ≡ c.loop-word.zones ++ c.in-Some.zone ∷ [] = c.in_ok-push.ensures.ok in
    record {
      each = subst (λ zs. AllZip IsZoneWord (texts (take (c.loop-word.word-index + 1) c.args.words.now)) zs) (sym pushed)
          (one_more c.args.words.now c.loop-word.word-index c.word-item.result c.loop-word.zones c.in-Some.zone (search rules) (search rules) c.loop-word.invariant.each
          (zone_found (string_bytes c.word-item.result) c.as_str.result.now c.in_ok-zone.field-0 c.in-Some.zone (search rules) c.in-Some.is c.in_ok-zone.ensures));
      own = subst (λ zs. HaveOwnOrigins zs) (sym pushed) (own_push c.loop-word.zones c.in-Some.zone c.loop-word.invariant.own (ap (λ zs. list_any (λ z. pointwise bytes_eq z.origin c.in-Some.zone.origin) zs) (sym c.as_slice.ensures) ∙ sym c.if-has_origin.ensures));
    }
