use Rattle.std.proofs.Common.{◌≡◌, ◌<◌, ◌^◌, map, length, arith, rules}
use Rattle.std.proofs.lemmas.List.{length-map}
use Rattle.vx_layout_bytes.specs.declared.node.RawNode.{roll-RawNode}
use Rattle.vx_layout_bytes.specs.declared.node.RawNode as rn
use Rattle.vx_layout_bytes.specs.Node.{node, nodes_of, number_of}
use Rattle.vx_layout_bytes.specs.Views.{raw}
use Rattle.vx_layout_bytes.proofs.Nodes.{number_is}
use Rattle.vx_layout_codec.proofs.spell.own_node.Goals as goal

pub returns-clause-fits : goal.returns-clause-fits
returns-clause-fits c = λ all.
    let is : raw (roll-RawNode (record { index = c.unwrap_or-index.result; rows = c.row_count.result; metadata = c.in_ok-metadata-2.metadata; segments = c.in_ok-segments.segments; children = c.args.children }))
    ≡ node (record { index = c.unwrap_or-index.result; rows = c.row_count.result; metadata = c.in_ok-metadata-2.metadata; segments = c.in_ok-segments.segments.items }) (nodes_of (map raw c.args.children.items)) = search (rules, rn.the_lemmas) in
    rw is (
      record {
        index = omega (arith, c.unwrap_or-index.type_inv);
        rows = omega (arith, c.row_count.type_inv);
        metadata = rw c.in_ok-metadata-2.ensures.ok (omega (arith, c.in_ok-metadata.field-0.small));
        count = omega (arith, c.in_ok-segments.segments.small);
        segments = c.in_ok-segments.ensures.fits;
        children = rw (number_is, length-map) (omega (arith, c.args.children.small));
      },
      all,
    )
