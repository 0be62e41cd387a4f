use Rattle.std.proofs.Common.{◌≡◌, List, ℕ, refl, sym, subst}
use Rattle.addr_bits.specs.declared.address.Family.{Family}
use Rattle.dns_name.specs.Name.{IsUnder}
use Rattle.dns_name.proofs.Names.{under_decides}
use Rattle.reverse_names.specs.declared.path.Reading.{Reading}
use Rattle.reverse_names.specs.Tree.{IsRead}
use Rattle.reverse_names.proofs.Nodes.{aligned, none_aligned, path_read}
use Rattle.reverse_names.proofs.path.path_of.Goals as goal

pub read_labels-read-requires : goal.read_labels-read-requires
read_labels-read-requires c =
    subst (λ (n : List (List ℕ)). IsUnder n c.args.suffix.now) (sym c.labels.ensures.labels) c.requires

of_name : (f : Family) (suffix labels name : List (List ℕ)) (read : Reading) → labels ≡ name
    → IsRead f suffix labels read → IsRead f suffix name read
of_name f suffix labels name read same r = subst (λ (n : List (List ℕ)). IsRead f suffix n read) same r

pub returns-then-read-eq0 : goal.returns-then-read-eq0
returns-then-read-eq0 c =
    let read = c.read_labels-read.result in
    let is = of_name c.args.family c.args.suffix.now c.labels.result c.args.name.now read c.labels.ensures.labels
    c.read_labels-read.ensures in
    path_read c.args.family c.args.suffix.now c.args.name.now read _ (under_decides c.args.name.now) is refl
    (none_aligned c.args.family read.digits read.depth c.if-read-eq0.true is.digits)

pub returns-else-read-eq0 : goal.returns-else-read-eq0
returns-else-read-eq0 c =
    let read = c.read_labels-read.result in
    let is = of_name c.args.family c.args.suffix.now c.labels.result c.args.name.now read c.labels.ensures.labels
    c.read_labels-read.ensures in
    path_read c.args.family c.args.suffix.now c.args.name.now read _ (under_decides c.args.name.now) is refl
    (aligned c.args.family read.digits read.depth c.bits_behind.result is.depth is.digits c.bits_behind.ensures)
