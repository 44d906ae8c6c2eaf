use Rattle.std.proofs.Common.{◌≡◌, ◌∙◌, ap, sym, get_or, [], ◌∷◌, arith}
use Rattle.vx_path.specs.Path.{Eof, eof_path, next, inside}
use Rattle.vx_sequence.specs.Universe.{Active, IsActive, root, split_from}
use Rattle.vx_sequence.proofs.Uses.{only_open, split_first, split_second, released_active, open_active}
use Rattle.vx_calls.proofs.ids.a_pointer_splits_off.Goals as goal

first_active : (u : Active) (e : Eof) → IsActive (split_from u e) (eof_path (inside e))
first_active u e = open_active (split_from u e) (eof_path (inside e)) (split_first u e)

second_active : (u : Active) (e : Eof) → IsActive (split_from u e) (eof_path (next e))
second_active u e = open_active (split_from u e) (eof_path (next e)) (split_second u e)

pub split_off-requires : goal.split_off-requires
split_off-requires g c =
    let made = rw c.expect-universe.ensures at c.root.ensures.root in rw (c.new-order.ensures.universe, made.0, made.1) (only_open root)

pub release-requires : goal.release-requires
release-requires g c =
    let off = rw c.expect-off.ensures at c.split_off.ensures.off in
    let active = rw c.expect-off.ensures at c.split_off.ensures.active in
    rw (active, c.downgrade.ensures, off) (first_active c.new-order.result.universe c.expect-universe.result.1)

pub release-requires-2 : goal.release-requires-2
release-requires-2 g c =
    let made = rw c.expect-universe.ensures at c.root.ensures.root in
    let off = rw c.expect-off.ensures at c.split_off.ensures.off in
    let pointer = rw c.expect-off.ensures at c.split_off.ensures.pointer in
    let active = rw c.expect-off.ensures at c.split_off.ensures.active in
    let first : c.downgrade.result ≡ 0 ∷ 0 ∷ [] = c.downgrade.ensures ∙ ap eof_path (off ∙ ap inside made.1) in
    let second : c.downgrade-2.result ≡ 1 ∷ [] = c.downgrade-2.ensures ∙ ap eof_path (pointer ∙ ap next made.1) in
    rw c.release.ensures.active
    (released_active c.split_off.new.order.universe c.downgrade.result c.downgrade-2.result
    (λ e. absurd (omega (arith, ap (λ r. get_or r 0 9) (sym second ∙ e ∙ first))))
    (rw (active, c.downgrade-2.ensures, pointer) (second_active c.new-order.result.universe c.expect-universe.result.1)))
