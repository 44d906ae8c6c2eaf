use Rattle.std.proofs.Common.{◌≡◌, ap, ◌∙◌}
use Rattle.vx_path.specs.Path.{Eof, under}
use Rattle.vx_sequence.proofs.Places.{place_is}
use Rattle.vx_sequence.proofs.ids.SequenceId.descend.Goals as goal

pub returns-in-Ok-clause-pointer : goal.returns-in-Ok-clause-pointer
returns-in-Ok-clause-pointer c =
    let there : Eof = record { stem = c.args.self; last = 0 } in
    let is : c.new.result ≡ there =
    c.new.ensures ∙ place_is c.in-Ok.child there (c.in-Ok.ensures.child ∙ ap (λ p. under p 0) c.path.ensures) in
    (ap (λ (e : Eof). e.stem) is, ap (λ (e : Eof). e.last) is)
