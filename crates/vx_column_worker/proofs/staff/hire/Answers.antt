use Rattle.std.proofs.Common.{◌≡◌, ◌∙◌, ◌+◌, List, Some, None, map, length, vec_len, refl, ap, arith}
use Rattle.std.proofs.lemmas.List.{map_push}
use Rattle.std.proofs.lemmas.List.Elements.{All-push}
use Rattle.vx_column_ids.specs.declared.part.ColumnPart.{ColumnPart}
use Rattle.vx_column_inputs.specs.declared.inputs.Input.{Input}
use Rattle.vx_column_worker.specs.Staffed.{jobs_from}
use Rattle.vx_column_worker.proofs.Staffing.{all_reverse, moved_one, jobs_push, ap_three}
use Rattle.vx_column_worker.proofs.staff.hire.Goals as goal

pub hired-preserved : goal.hired-preserved
hired-preserved g c =
    let n = c.hired.invariant in
    let one : vec_len c.pop.new.self + 1 ≡ vec_len c.hired.inputs = c.in-Some.ensures.cases in
    let is : List Input = c.pop.new.self.items in
    let ps : List ColumnPart = c.last_of-part.new.list.items in
    let cs = c.last_of-compressor.new.list.items in
    let parts : length is ≡ length ps = omega (arith, one, c.pop.new.self.ok.0, c.last_of-part.new.list.ok.0, c.last_of-part.ensures.len, n.parts) in
    let same : length is ≡ length cs = omega (arith, one, c.pop.new.self.ok.0, c.last_of-compressor.new.list.ok.0, c.last_of-compressor.ensures.len, n.staffed.2) in
    let number : c.len-column.result ≡ 0 + length is = omega (arith, c.len-column.ensures, c.pop.new.self.ok.0) in
    let jobs = ap_three (λ a b d. map Some (jobs_from 0 a b d)) c.in-Some.ensures.items c.last_of-part.ensures.items c.last_of-compressor.ensures.items
    ∙ ap (map Some) (jobs_push 0 is ps cs c.in-Some.input c.last_of-part.result c.last_of-compressor.result c.len-column.result parts same number)
    ∙ map_push Some (jobs_from 0 is ps cs) (record { column = c.len-column.result; input = c.in-Some.input; part = c.last_of-part.result; compressor = c.last_of-compressor.result }) in
    record {
      count = omega (arith, one, c.push_reserved.ensures.len, n.count);
      room = omega (arith, c.push_reserved.ensures.capacity, n.room);
      staffed = (omega (arith, one, c.last_of-seat.ensures.len, n.staffed.0), omega (arith, one, c.last_of-bytes.ensures.len, n.staffed.1), omega (arith, one, c.last_of-compressor.ensures.len, n.staffed.2));
      parts = omega (arith, one, c.last_of-part.ensures.len, n.parts);
      capacity = (c.last_of-seat.ensures.capacity ∙ n.capacity.0, c.last_of-bytes.ensures.capacity ∙ n.capacity.1, c.last_of-compressor.ensures.capacity ∙ n.capacity.2);
      seats = rw c.push_reserved.ensures.items
          (moved_one (λ w. w.seat) c.hired.staff.seats.items c.last_of-seat.new.list.items c.last_of-seat.result _ c.hired.workers.items c.args.staff.now.seats.items c.last_of-seat.ensures.items refl n.seats);
      bytes = rw c.push_reserved.ensures.items
          (moved_one (λ w. w.bytes) c.hired.staff.bytes.items c.last_of-bytes.new.list.items c.last_of-bytes.result _ c.hired.workers.items c.args.staff.now.bytes.items c.last_of-bytes.ensures.items refl n.bytes);
      jobs = rw c.push_reserved.ensures.items
          (moved_one (λ w. w.job) _ _ _ _ c.hired.workers.items (map Some (jobs_from 0 c.args.inputs.items c.args.parts.items c.args.staff.now.compressors.items)) jobs refl n.jobs);
      free = rw c.push_reserved.ensures.items (All-push (λ w. w.done ≡ None) c.hired.workers.items _ n.free refl);
      outcomes = n.outcomes;
    }

pub returns-clause-free : goal.returns-clause-free
returns-clause-free g c = rw c.reverse.ensures.items (all_reverse (λ w. w.done ≡ None) c.hired.workers.items c.hired.invariant.free)
