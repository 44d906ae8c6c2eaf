use Rattle.std.proofs.Common.{arith}
use Rattle.std.proofs.lemmas.Grind.{common_steps}
use Rattle.vx_model.proofs.Views.{ty_extension}
use Rattle.vx_model.proofs.dtype.+copy.Goals as goal

pub copy-returns-in_ok-storage-in-Extension : goal.copy-returns-in_ok-storage-in-Extension
copy-returns-in_ok-storage-in-Extension t c = rw (c.in-Extension.is, ty_extension, ty_extension) (grind (arith, common_steps))
