use Rattle.std.proofs.Common.{◌≡◌, ◌∙◌, ap, sym, get_or, [], ◌∷◌, arith}
use Rattle.vx_path.specs.Path.{Eof, eof_path, next, inside}
use Rattle.vx_sequence.specs.Universe.{Active, IsActive, root, advanced, split_from}
use Rattle.vx_sequence.proofs.Uses.{only_open, advanced_id, advanced_next, advanced_active, split_first, split_second, released_active, open_active}
use Rattle.vx_calls.proofs.finds.paths_are_found.Goals as goal

middle_active : (u : Active) (e : Eof) → IsActive (advanced u e) (eof_path (next e))
middle_active u e = open_active (advanced u e) (eof_path (next e)) (advanced_next u e)

last_active : (u : Active) (e : Eof) → IsActive (split_from u e) (eof_path (next e))
last_active u e = open_active (split_from u e) (eof_path (next e)) (split_second u e)

pub split_off-requires : goal.split_off-requires
split_off-requires g c =
    let made = rw c.expect-universe.ensures at c.root.ensures.root in rw (made.0, made.1) (only_open root)

pub advance-requires : goal.advance-requires
advance-requires g c =
    let off = rw c.expect-first.ensures at c.split_off.ensures.off in
    let split = rw c.expect-first.ensures at c.split_off.ensures.universe in
    rw (split, off) (split_first c.expect-universe.result.0 c.expect-universe.result.1)

pub release-requires : goal.release-requires
release-requires g c =
    let id = rw c.expect-id.ensures at c.advance.ensures.id in
    let more = rw c.expect-id.ensures at c.advance.ensures.universe in
    rw (more, id) (advanced_id c.split_off.new.universe c.expect-first.result)

pub release-requires-2 : goal.release-requires-2
release-requires-2 g c =
    let made = rw c.expect-universe.ensures at c.root.ensures.root in
    let off = rw c.expect-first.ensures at c.split_off.ensures.off in
    let id = rw c.expect-id.ensures at c.advance.ensures.id in
    let pointer = rw c.expect-id.ensures at c.advance.ensures.pointer in
    let more = rw c.expect-id.ensures at c.advance.ensures.universe in
    let first : c.expect-id.result ≡ 0 ∷ 0 ∷ [] = id ∙ ap eof_path (off ∙ ap inside made.1) in
    let middle : c.downgrade.result ≡ 0 ∷ 1 ∷ [] = c.downgrade.ensures ∙ ap eof_path (pointer ∙ ap next (off ∙ ap inside made.1)) in
    rw c.release.ensures.universe
    (released_active c.advance.new.universe c.expect-id.result c.downgrade.result
    (λ e. absurd (omega (arith, ap (λ r. get_or r 1 9) (sym middle ∙ e ∙ first))))
    (rw (more, c.downgrade.ensures, pointer) (middle_active c.split_off.new.universe c.expect-first.result)))

pub release-requires-3 : goal.release-requires-3
release-requires-3 g c =
    let made = rw c.expect-universe.ensures at c.root.ensures.root in
    let off = rw c.expect-first.ensures at c.split_off.ensures.off in
    let rest = rw c.expect-first.ensures at c.split_off.ensures.pointer in
    let split = rw c.expect-first.ensures at c.split_off.ensures.universe in
    let id = rw c.expect-id.ensures at c.advance.ensures.id in
    let pointer = rw c.expect-id.ensures at c.advance.ensures.pointer in
    let more = rw c.expect-id.ensures at c.advance.ensures.universe in
    let first : c.expect-id.result ≡ 0 ∷ 0 ∷ [] = id ∙ ap eof_path (off ∙ ap inside made.1) in
    let middle : c.downgrade.result ≡ 0 ∷ 1 ∷ [] = c.downgrade.ensures ∙ ap eof_path (pointer ∙ ap next (off ∙ ap inside made.1)) in
    let last : c.downgrade-2.result ≡ 1 ∷ [] = c.downgrade-2.ensures ∙ ap eof_path (rest ∙ ap next made.1) in
    let there : IsActive c.split_off.new.universe c.downgrade-2.result
    = rw (split, c.downgrade-2.ensures, rest) (last_active c.expect-universe.result.0 c.expect-universe.result.1) in
    let before : IsActive c.advance.new.universe c.downgrade-2.result
    = rw more (advanced_active c.split_off.new.universe c.expect-first.result c.downgrade-2.result there) in
    let between : IsActive c.release.new.universe c.downgrade-2.result
    = rw c.release.ensures.universe (released_active c.advance.new.universe c.expect-id.result c.downgrade-2.result
    (λ e. absurd (omega (arith, ap (λ r. get_or r 0 9) (sym last ∙ e ∙ first)))) before) in
    rw c.release-2.ensures.universe (released_active c.release.new.universe c.downgrade.result c.downgrade-2.result
    (λ e. absurd (omega (arith, ap (λ r. get_or r 0 9) (sym last ∙ e ∙ middle)))) between)
