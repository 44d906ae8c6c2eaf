use Rattle.std.proofs.Common.{◌≡◌, Err, ap, sym, ◌∙◌, arith}
use Rattle.vx_path.specs.Path.{Eof, eof_path, next}
use Rattle.vx_sequence.specs.Universe.{place_of, advanced}
use Rattle.vx_sequence.specs.declared.errors.SequenceError.TheVariants.{IndexFull}
use Rattle.vx_sequence.proofs.Refusals.{handed_on}
use Rattle.vx_sequence.proofs.Places.{place_is, path_is}
use Rattle.vx_sequence.proofs.pointers.SequencePointer.advance.Goals as goal

pub returns-in_err-next-clause-full : goal.returns-in_err-next-clause-full
returns-in_err-next-clause-full c h =
    ap (λ (e : Eof). e.last) (sym (place_is c.path.result.now c.args.self.now c.path.ensures.path))
    ∙ c.in_err-next.ensures.full (ap Err (handed_on c.from_residual.result IndexFull c.in_err-next.field-0.0 h c.from_residual.ensures.1))

pub returns-clause-id : goal.returns-clause-id
returns-clause-id c = c.new.ensures ∙ c.replace.ensures.value ∙ path_is c.self.inside.path c.args.self.now c.self.view_is c.self.invariant

pub returns-clause-pointer : goal.returns-clause-pointer
returns-clause-pointer c =
    let here : place_of c.path.result.now ≡ c.args.self.now = place_is c.path.result.now c.args.self.now c.path.ensures.path in
    place_is c.replace.new.dest (next c.args.self.now)
    (c.replace.ensures.after ∙ c.in_ok-next.ensures.next ∙ ap (λ (e : Eof). eof_path (next e)) here)

pub returns-clause-universe : goal.returns-clause-universe
returns-clause-universe c =
    c.in_ok-next.ensures.ok ∙ ap (λ e. advanced c.args.universe.now e) (place_is c.path.result.now c.args.self.now c.path.ensures.path)

pub returns-clause-room : goal.returns-clause-room
returns-clause-room c =
    omega (arith, c.in_ok-next.ensures.room, ap (λ (e : Eof). e.last) (place_is c.path.result.now c.args.self.now c.path.ensures.path))
