use Rattle.std.proofs.Common.{arith}
use Rattle.std.proofs.lemmas.Grind.{common_steps}
use Rattle.vx_model.proofs.Views.{ty_extension}
use Rattle.vx_model.proofs.dtype.DType.+as_nullable.Goals as goal

pub returns-in_ok-storage-in-Extension-2 : goal.returns-in_ok-storage-in-Extension-2
returns-in_ok-storage-in-Extension-2 t c = rw (c.in-Extension.is, ty_extension, ty_extension) (grind (arith, common_steps))
