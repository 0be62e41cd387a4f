use Rattle.std.proofs.Common.{Err, sym}
use Rattle.fewest_terms.specs.Leaves.{verdict_at as trie_verdict}
use Rattle.loading.proofs.StopLemmas.{result_also}
use Rattle.publishing.proofs.PublicationLemmas.{list_due, list_written}
use Rattle.publishing.proofs.publication.publish.Goals as goal

pub returns-clause-written : goal.returns-clause-written
returns-clause-written c =
    let e = c.in_ok-found.ensures in
    list_written c.args.settings.now c.args.zones.now (trie_verdict 32 c.args.tries.now.v4) (trie_verdict 128 c.args.tries.now.v6) _ _ _ _ c.write_shortest.result
    (sym c.if-own_alias.ensures) (record { list_is = e.list; rows4_are = e.rows4; rows6_are = e.rows6; sum_is = e.total }) c.write_shortest.ensures.written

pub returns-clause-refused : goal.returns-clause-refused
returns-clause-refused c =
    let e = c.in_ok-found.ensures in
    result_also _ _
    (λ why. list_due c.args.settings.now c.args.zones.now (trie_verdict 32 c.args.tries.now.v4) (trie_verdict 128 c.args.tries.now.v6) _ _ _ _ (Err why)
    (sym c.if-own_alias.ensures) (record { list_is = e.list; rows4_are = e.rows4; rows6_are = e.rows6; sum_is = e.total }))
    c.write_shortest.result c.write_shortest.ensures.refused
