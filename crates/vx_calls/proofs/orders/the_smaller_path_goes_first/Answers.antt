use Rattle.std.proofs.Common.{◌≡◌, ◌∙◌, ap, sym, get_or, [], ◌∷◌, arith}
use Rattle.vx_path.specs.Path.{Eof, eof_path, next, inside}
use Rattle.vx_sequence.specs.Universe.{Active, IsActive, root, split_from}
use Rattle.vx_sequence.proofs.Uses.{only_open, split_first, split_second, released_active, open_active}
use Rattle.vx_calls.proofs.orders.the_smaller_path_goes_first.Goals as goal

-- both pointers' paths are active after a split
first_active : (u : Active) (e : Eof) → IsActive (split_from u e) (eof_path (inside e))
first_active u e = open_active (split_from u e) (eof_path (inside e)) (split_first u e)

second_active : (u : Active) (e : Eof) → IsActive (split_from u e) (eof_path (next e))
second_active u e = open_active (split_from u e) (eof_path (next e)) (split_second u e)

pub split-requires : goal.split-requires
split-requires g c = let made = rw c.expect-universe.ensures at c.root.ensures.root in rw (made.0, made.1) (only_open root)

pub is_least-requires : goal.is_least-requires
is_least-requires g c =
    let parts = rw c.expect-off.ensures at c.split.ensures.parts in
    let universe = rw c.expect-off.ensures at c.split.ensures.universe in
    rw (c.new-order.ensures.universe, universe, c.downgrade-first.ensures, parts.0) (first_active c.expect-universe.result.0 c.expect-universe.result.1)

pub waits-second-requires-clause-active : goal.waits-second-requires-clause-active
waits-second-requires-clause-active g c =
    let parts = rw c.expect-off.ensures at c.split.ensures.parts in
    let universe = rw c.expect-off.ensures at c.split.ensures.universe in
    rw (c.new-order.ensures.universe, universe, c.downgrade-second.ensures, parts.1) (second_active c.expect-universe.result.0 c.expect-universe.result.1)

pub written-requires-clause-active : goal.written-requires-clause-active
written-requires-clause-active g c =
    let parts = rw c.expect-off.ensures at c.split.ensures.parts in
    let universe = rw c.expect-off.ensures at c.split.ensures.universe in
    rw (c.waits-second.ensures.active, c.new-order.ensures.universe, universe, c.downgrade-first.ensures, parts.0)
    (first_active c.expect-universe.result.0 c.expect-universe.result.1)

pub written-requires-2-clause-active : goal.written-requires-2-clause-active
written-requires-2-clause-active g c =
    let made = rw c.expect-universe.ensures at c.root.ensures.root in
    let parts = rw c.expect-off.ensures at c.split.ensures.parts in
    let universe = rw c.expect-off.ensures at c.split.ensures.universe in
    let first : c.downgrade-first.result ≡ 0 ∷ 0 ∷ [] = c.downgrade-first.ensures ∙ ap eof_path (parts.0 ∙ ap inside made.1) in
    let second : c.downgrade-second.result ≡ 1 ∷ [] = c.downgrade-second.ensures ∙ ap eof_path (parts.1 ∙ ap next made.1) in
    rw (c.written.ensures, c.waits-second.ensures.active, c.waits-second.ensures.id)
    (released_active c.new-order.result.universe c.downgrade-first.result c.downgrade-second.result
    (λ e. absurd (omega (arith, ap (λ r. get_or r 0 9) (sym second ∙ e ∙ first))))
    (rw (c.new-order.ensures.universe, universe, c.downgrade-second.ensures, parts.1)
    (second_active c.expect-universe.result.0 c.expect-universe.result.1)))
