use Rattle.std.proofs.Common.{◌≡◌, ap, ◌∙◌, length, get_or, arith, []}
use Rattle.std.proofs.Math.Seq.{get_or-append_seam}
use Rattle.vx_sequence.proofs.Places.{last_is}
use Rattle.vx_sequence.proofs.siblings.sibling.Goals as goal

-- the last index fits 64 bits, and the next number doesn't
pub returns-in_default-checked_add-clause-full : goal.returns-in_default-checked_add-clause-full
returns-in_default-checked_add-clause-full c _ =
    let stem = c.in-Some.stem.now in
    let last = c.in-Some.field-0-0.now in
    let here : get_or c.args.path.now (length stem) 0 ≡ last =
    ap (λ p. get_or p (length stem) 0) c.in-Some.ensures.cases.0 ∙ get_or-append_seam stem last [] 0 in
    last_is c.args.path.now stem last c.in-Some.ensures.cases.0
    ∙ omega (arith, c.type_inv.path (length stem), here, c.in_default-checked_add.ensures)
