use Rattle.std.proofs.Common.{◌≡◌, Err, ap, sym, ◌∙◌, arith}
use Rattle.vx_path.specs.Path.{Eof, eof_path, next, inside, under}
use Rattle.vx_sequence.specs.Universe.{place_of, split_from}
use Rattle.vx_sequence.specs.declared.errors.SequenceError.TheVariants.{IndexFull}
use Rattle.vx_sequence.proofs.Refusals.{handed_on}
use Rattle.vx_sequence.proofs.Places.{place_is}
use Rattle.vx_sequence.proofs.pointers.SequencePointer.split_off.Goals as goal

pub returns-in_err-child-clause-full : goal.returns-in_err-child-clause-full
returns-in_err-child-clause-full c h =
    ap (λ (e : Eof). e.last) (sym (place_is c.path.result.now c.args.self.now c.path.ensures.path))
    ∙ c.in_err-child.ensures.full (ap Err (handed_on c.from_residual.result IndexFull c.in_err-child.field-0.0 h c.from_residual.ensures.1))

pub returns-clause-off : goal.returns-clause-off
returns-clause-off c = c.new.ensures
    ∙ place_is c.in_ok-child.child (inside c.args.self.now) (c.in_ok-child.ensures.parts.0 ∙ ap (λ p. under p 0) c.path.ensures.path)

pub returns-clause-pointer : goal.returns-clause-pointer
returns-clause-pointer c =
    let here : place_of c.path.result.now ≡ c.args.self.now = place_is c.path.result.now c.args.self.now c.path.ensures.path in
    place_is c.in_ok-child.next (next c.args.self.now) (c.in_ok-child.ensures.parts.1 ∙ ap (λ (e : Eof). eof_path (next e)) here)

pub returns-clause-universe : goal.returns-clause-universe
returns-clause-universe c =
    c.in_ok-child.ensures.ok ∙ ap (λ e. split_from c.args.universe.now e) (place_is c.path.result.now c.args.self.now c.path.ensures.path)

pub returns-clause-room : goal.returns-clause-room
returns-clause-room c =
    omega (arith, c.in_ok-child.ensures.room, ap (λ (e : Eof). e.last) (place_is c.path.result.now c.args.self.now c.path.ensures.path))
