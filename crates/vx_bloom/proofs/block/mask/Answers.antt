use Rattle.std.proofs.Common.{◌%◌, ◌^◌}
use Rattle.vx_bloom.proofs.Lanes.{bits_fit, mask_of}
use Rattle.vx_bloom.proofs.block.mask.Goals as goal

pub overflow_shl-result : goal.overflow_shl-result
overflow_shl-result c = bits_fit (c.args.hash % 2 ^ 32)

pub returns : goal.returns
returns c = mask_of c.args.hash
