use Rattle.std.proofs.Common.{◌≡◌, ◌∙◌, ap, sym, get_or, ℕ, List, [], ◌∷◌, arith}
use Rattle.vx_path.specs.Path.{Eof, eof_path, next, under}
use Rattle.vx_sequence.specs.Universe.{Active, IsActive, root, advanced, descended}
use Rattle.vx_sequence.proofs.Uses.{only_open, advanced_id, advanced_next, descended_child, released_active, open_active}
use Rattle.vx_calls.proofs.orders.refusals_hand_the_id_back.Goals as goal

next_active : (u : Active) (e : Eof) → IsActive (advanced u e) (eof_path (next e))
next_active u e = open_active (advanced u e) (eof_path (next e)) (advanced_next u e)

child_active : (u : Active) (p : List ℕ) → IsActive (descended u p) (under p 0)
child_active u p = open_active (descended u p) (under p 0) (descended_child u p)

pub advance-requires : goal.advance-requires
advance-requires g c =
    let made = rw c.expect-universe.ensures at c.root.ensures.root in rw (c.new-order.ensures.universe, made.0, made.1) (only_open root)

pub refused-id-requires-clause-active : goal.refused-id-requires-clause-active
refused-id-requires-clause-active g c =
    let id = rw c.expect-id.ensures at c.advance.ensures.id in
    let active = rw c.expect-id.ensures at c.advance.ensures.active in
    rw (active, id) (advanced_id c.new-order.result.universe c.expect-universe.result.1)

pub written-requires-clause-active : goal.written-requires-clause-active
written-requires-clause-active g c =
    let id = rw c.expect-id.ensures at c.advance.ensures.id in
    let active = rw c.expect-id.ensures at c.advance.ensures.active in
    rw (c.refused-id.ensures.active, c.refused-id.ensures.id, active, id) (advanced_id c.new-order.result.universe c.expect-universe.result.1)

pub descend-requires : goal.descend-requires
descend-requires g c =
    let made = rw c.expect-universe.ensures at c.root.ensures.root in
    let id = rw c.expect-id.ensures at c.advance.ensures.id in
    let pointer = rw c.expect-id.ensures at c.advance.ensures.pointer in
    let active = rw c.expect-id.ensures at c.advance.ensures.active in
    let first : c.refused-id.result.0 ≡ 0 ∷ [] = c.refused-id.ensures.id ∙ id ∙ ap eof_path made.1 in
    let second : c.downgrade.result ≡ 1 ∷ [] = c.downgrade.ensures ∙ ap eof_path (pointer ∙ ap next made.1) in
    rw (c.written.ensures, c.refused-id.ensures.active)
    (released_active c.advance.new.self.universe c.refused-id.result.0 c.downgrade.result
    (λ e. absurd (omega (arith, ap (λ r. get_or r 0 9) (sym second ∙ e ∙ first))))
    (rw (active, c.downgrade.ensures, pointer) (next_active c.new-order.result.universe c.expect-universe.result.1)))

pub refused-id-requires-2-clause-active : goal.refused-id-requires-2-clause-active
refused-id-requires-2-clause-active g c =
    let pointer = rw c.expect-below.ensures at c.descend.ensures.pointer in
    let active = rw c.expect-below.ensures at c.descend.ensures.active in
    rw (active, c.downgrade-2.ensures, pointer.0, pointer.1) (child_active c.written.new.order.universe c.downgrade.result)

pub release-requires : goal.release-requires
release-requires g c =
    let pointer = rw c.expect-below.ensures at c.descend.ensures.pointer in
    let active = rw c.expect-below.ensures at c.descend.ensures.active in
    rw (c.refused-id-2.ensures.active, c.refused-id-2.ensures.id, active, c.downgrade-2.ensures, pointer.0, pointer.1)
    (child_active c.written.new.order.universe c.downgrade.result)
