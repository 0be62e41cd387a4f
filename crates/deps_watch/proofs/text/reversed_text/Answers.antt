use Rattle.std.proofs.Common.{rules, ℕ, refl, ap, ◌∙◌}
use denote.Enum.Bare.{same_true}
use Rattle.addr_bits.specs.Address.{address_of, bits_of}
use Rattle.zone_answers.specs.Reversed.{reversed_class}
use Rattle.zone_answers.specs.contracts.class.Class.{the_type}
use Rattle.zone_answers.specs.declared.class.Class.TheVariants.{Hit, Void, Beyond, Round}
use Rattle.deps_watch.specs.Texts.{reversed_text}
use Rattle.deps_watch.proofs.OneTrie.{least_of_trie}
use Rattle.deps_watch.proofs.Agreeing.{if_ok}
use Rattle.deps_watch.proofs.text.reversed_text.Goals as goal

pub returns : goal.returns
returns g c =
    if_ok c.write_classes.result (λ text e. record {
      leaves = c.in_ok-leaves.leaves;
      least = least_of_trie g.W.Width.BITS (bits_of g.W.AddressFamily.family) (λ (a : ℕ). reversed_class c.args.zones.now c.args.name.now (address_of g.W.AddressFamily.family a)) g.met.W.AddressFamily.bits (same_true the_type (search rules))
          (elim [ Hit ↦ refl | Void ↦ refl | Beyond ↦ refl | Round ↦ refl ]) c.in_ok-leaves.leaves c.in_ok-classes.classes c.in_ok-leaves.ensures.same c.in_ok-leaves.ensures.listed c.in_ok-classes.ensures;
      written = e ∙ ap (reversed_text g.W.AddressFamily.family) c.as_slice.ensures;
    }) c.write_classes.ensures
