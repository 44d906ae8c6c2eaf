use Rattle.std.proofs.Common.{◌≡◌, map, sym, ap, ◌∙◌}
use Rattle.vx_model.specs.Ty.{Ty, ty_eq}
use Rattle.vx_model.specs.TyLaws.{ty_eq_decides}
use Rattle.vx_model.specs.TyView.{ty}
use Rattle.vx_file_stats.specs.FileStats.{column_pieces}
use Rattle.vx_file_stats.specs.Gathered.{asked_of, limit_of, type_of}
use Rattle.vx_file_stats.specs.Gathering.{column_data, with_pieces}
use Rattle.vx_file_stats.proofs.GatheredSteps.{differs, agrees, other_gathered, lost_gathered, one_gathered}
use Rattle.vx_file_stats.proofs.accumulator.FileStatsAccumulator.add.Goals as goal

pub returns-then-ne-clause-gathered : goal.returns-then-ne-clause-gathered
returns-then-ne-clause-gathered c = λ ps g.
    let t = type_of c.args.self.now in
    other_gathered c.args.self.now c.args.batch.now ps
    (ap (λ (u : Ty). ty_eq u t) (sym c.dtype.ensures) ∙ differs (ty_eq (ty c.dtype.result.now) t) c.ne.result c.ne.ensures c.if-ne.true) g

pub returns-in_default-clause-gathered : goal.returns-in_default-clause-gathered
returns-in_default-clause-gathered c = λ ps g.
    let t = type_of c.args.self.now in
    let same = sym c.dtype.ensures ∙ (ty_eq_decides (ty c.dtype.result.now) t).0 (agrees (ty_eq (ty c.dtype.result.now) t) c.ne.result c.ne.ensures c.if-ne.false) in
    lost_gathered c.args.self.now c.args.batch.now ps same c.sound.ensures g c.take.new.self c.take.ensures.after

pub returns-in-Ok-clause-gathered : goal.returns-in-Ok-clause-gathered
returns-in-Ok-clause-gathered c = λ ps g.
    let a = c.args.self.now in
    let t = type_of a in
    let same = sym c.dtype.ensures ∙ (ty_eq_decides (ty c.dtype.result.now) t).0 (agrees (ty_eq (ty c.dtype.result.now) t) c.ne.result c.ne.ensures c.if-ne.false) in
    let next : map column_data c.in-Ok.columns.items ≡ with_pieces (asked_of a) (limit_of a) (map column_data c.in-Some.before.items) (column_pieces c.args.batch.now) =
    c.in-Ok.ensures ∙ ap (λ xs. with_pieces xs (limit_of a) (map column_data c.in-Some.before.items) (column_pieces c.args.batch.now)) c.deref.ensures.value
    in
    one_gathered a c.args.batch.now ps same c.sound.ensures g c.in-Some.before c.in-Ok.columns (sym c.take.ensures.value ∙ c.in-Some.is) next

pub returns-in_default-with_batch-clause-gathered : goal.returns-in_default-with_batch-clause-gathered
returns-in_default-with_batch-clause-gathered c = λ ps g.
    let t = type_of c.args.self.now in
    let same = sym c.dtype.ensures ∙ (ty_eq_decides (ty c.dtype.result.now) t).0 (agrees (ty_eq (ty c.dtype.result.now) t) c.ne.result c.ne.ensures c.if-ne.false) in
    lost_gathered c.args.self.now c.args.batch.now ps same c.sound.ensures g c.take.new.self c.take.ensures.after
