use Rattle.std.proofs.Common.{◌≡◌, List, ℕ, length, map, ap, subst, ◌∙◌, arith}
use Rattle.vx_layout_bytes.specs.Node.{nodes_of}
use Rattle.vx_layout_bytes.specs.There.{node_there}
use Rattle.vx_layout_bytes.specs.Values.{AreBytes}
use Rattle.vx_layout_bytes.specs.Views.{own}
use Rattle.vx_layout_bytes.proofs.There.{some_bytes, own_end, opened_is}
use Rattle.vx_layout_bytes.proofs.open.open_at.Goals as goal

pub places_of-requires-clause-some : goal.places_of-requires-clause-some
places_of-requires-clause-some c =
    let whole : c.end_of-stop.result ≡ length c.args.bytes = c.end_of-stop.ensures.place ∙ ap length c.as_slice.ensures in
    omega (arith, whole, some_bytes c.args.bytes c.args.place c.requires)

pub places_of-requires-clause-rest : goal.places_of-requires-clause-rest
places_of-requires-clause-rest c =
    let octets : AreBytes c.args.bytes = subst (λ (bs : List ℕ). AreBytes bs) c.as_slice.ensures c.end_of-stop.ensures.octets in
    own_end c.args.bytes c.in_ok-rest.rest c.args.place c.end_of-stop.result (own c.in_ok-own.own) c.in_ok-own.count c.own_at.new.bytes octets c.requires c.in_ok-rest.ensures c.in_ok-own.ensures

pub returns : goal.returns
returns c =
    let whole : c.end_of-stop.result ≡ length c.args.bytes = c.end_of-stop.ensures.place ∙ ap length c.as_slice.ensures in
    opened_is c.args.bytes c.in_ok-rest.rest c.args.place c.end_of-stop.result (own c.in_ok-own.own) c.in_ok-own.count c.own_at.new.bytes (nodes_of (map (node_there c.args.bytes) c.in_ok-places.places.items)) c.requires whole c.in_ok-rest.ensures c.in_ok-own.ensures c.in_ok-places.ensures.nodes
