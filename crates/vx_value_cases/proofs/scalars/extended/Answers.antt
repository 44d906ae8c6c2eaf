use Rattle.std.proofs.Common.{refl}
use Rattle.vx_model.proofs.Views.{ty_extension}
use Rattle.vx_value_cases.proofs.scalars.extended.Goals as goal

pub returns : goal.returns
returns c = λ v. rw ty_extension (rw c.in_ok-storage.ensures.ok refl)
