-- What the setting of writes keeps.
use Rattle.std.proofs.Common.{◌∙◌}
use Rattle.vx_zone_spec.proofs.HashLaws.{hash_is_small}
use Rattle.vx_segment_spec.proofs.SegmentLaws.{is_lawful}
use Rattle.vx_setting.specs.Setting.{RealKeeps, RealHashIsSmall}

pub real_keeps : RealKeeps
real_keeps ids allowed image distinct same = record {
  codec = is_lawful ids distinct;
  image_of = λ which t p of. record { typed = (same which p of.whole).type ∙ of.typed; whole = (same which p of.whole).whole };
  image_rows = λ which t p of. (same which p of.whole).values;
}

pub real_hash_is_small : RealHashIsSmall
real_hash_is_small ids allowed image = hash_is_small
