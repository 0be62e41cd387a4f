use Rattle.std.proofs.Common.{◌≡◌, ℕ, ◌+◌, ◌<◌, Bool, true, false, ◌||◌, List, length, take, get_or, refl, sym, ap, ◌∙◌, Option, Some}
use Rattle.std.specs.Prelude.{if◌then◌else◌}
use Rattle.std.specs.List.{list_any}
use Rattle.std.proofs.lemmas.List.Folds.{list_any_more}
use Rattle.addr_bits.specs.Address.{bits_of}
use Rattle.addr_bits.specs.declared.address.Family.{Family}
use Rattle.match_sets.specs.Matched.{host_in, host_agrees, matches}
use Rattle.master_reader.specs.declared.record.Body.{Body}
use Rattle.prefix_trie.specs.Leaves.{value_at}
use Rattle.match_sets.proofs.sets.match_family.Goals as goal
use Rattle.match_sets.proofs.sets.match_family.Goals.{in-Some+in_ok-add_network, in_default}

-- one more body is looked at
one_more : (f : Family) (bits len a : ℕ) (bodies : List Body) (i : ℕ) (body : Body) (host : Option ℕ) (old new : Option Bool) → bits ≡ bits_of f → i < length bodies → body ≡ get_or bodies i body
    → host ≡ host_in f body → old ≡ Some (list_any (matches f len a) (take i bodies)) → new ≡ (if host_agrees bits len host a then Some true else old)
    → new ≡ Some (list_any (matches f len a) (take (i + 1) bodies))
one_more f bits len a bodies i body host old new width within is same so_far put =
    put ∙ ap (λ (o : Option Bool). if host_agrees bits len host a then Some true else o) so_far ∙ either (list_any (matches f len a) (take i bodies)) (host_agrees bits len host a)
    ∙ ap Some (ap (λ (b : Bool). list_any (matches f len a) (take i bodies) || b) (rw (width, same) refl ∙ ap (matches f len a) is) ∙ sym (list_any_more (matches f len a) bodies i body within))
  where
    either : (b c : Bool) → (if c then Some true else Some b) ≡ Some (b || c)
    either true true = refl
    either true false = refl
    either false true = refl
    either false false = refl

pub loop-body-preserved : goal.loop-body-preserved
loop-body-preserved g c = λ a below.
    let more = one_more g.W.AddressFamily.family g.W.Width.BITS c.args.len a c.bodies-bodies.result.now c.loop-body.body-index c.body-item.result in
    let so_far = c.loop-body.invariant a below in
    elim c.match-host_of.branch [
      | in-Some+in_ok-add_network w ↦ rw w.set-is
          (more _ (value_at g.W.Width.BITS c.loop-body.set a) _ g.met.W.AddressFamily.bits c.loop-body-test.true c.body-item.is w.in-Some.ensures so_far (w.in_ok-add_network.ensures a below))
      | in_default w ↦ rw w.set-is
          (more _ (value_at g.W.Width.BITS c.loop-body.set a) _ g.met.W.AddressFamily.bits c.loop-body-test.true c.body-item.is w.in_default.ensures so_far refl)
    ]
