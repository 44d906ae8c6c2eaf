use Rattle.vx_setting.proofs.RealLaws.{real_keeps, real_hash_is_small}
use Rattle.vx_setting.proofs.real_settings_keep.Goals as goal

pub returns-clause-keeps : goal.returns-clause-keeps
returns-clause-keeps c = real_keeps

pub returns-clause-hash : goal.returns-clause-hash
returns-clause-hash c = real_hash_is_small
