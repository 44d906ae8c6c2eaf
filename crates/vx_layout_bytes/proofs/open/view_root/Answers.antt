use Rattle.std.proofs.Common.{List, ℕ, Result, subst}
use Rattle.vx_layout_bytes.specs.Node.{Node}
use Rattle.vx_layout_bytes.specs.Reading.{Fault}
use Rattle.vx_layout_bytes.specs.Values.{AreBytes}
use Rattle.vx_layout_bytes.specs.Views.{Gives, seen_node}
use Rattle.vx_layout_bytes.proofs.NodeLaws.{is_found, root_again}
use Rattle.vx_layout_bytes.proofs.open.view_root.Goals as goal

pub returns-clause-found : goal.returns-clause-found
returns-clause-found c =
    let octets : AreBytes c.args.bytes = subst (λ (bs : List ℕ). AreBytes bs) c.as_slice.ensures c.end_of-stop.ensures.octets in
    is_found seen_node c.args.limits.depth c.args.limits.nodes c.args.bytes c.root_within.result octets c.root_within.ensures

pub returns-clause-only : goal.returns-clause-only
returns-clause-only c = λ n within e. subst (λ (r : Result Node Fault). Gives seen_node c.root_within.result r) (root_again c.args.limits.depth c.args.limits.nodes c.args.bytes n within e) c.root_within.ensures
