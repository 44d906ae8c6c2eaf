use Rattle.std.specs.Prelude.{◌≡◌, ◌+◌, ◌≤◌, ◌++◌, None, Some, All, map, reverse, vec_len}
use Rattle.std.specs.Vec.{vec_capacity}
use Rattle.vx_column_worker.specs.Staffed.{IsStaffed, jobs_from}
use Rattle.vx_column_worker.proofs.staff.hire.Given as goal

abbrev pub invariant-hired : goal.invariant-hired
invariant-hired g l = record {
  count : vec_len l.workers + vec_len l.inputs ≡ vec_len l.fn.inputs;
  room : vec_len l.fn.inputs ≤ vec_capacity l.workers;
  staffed : IsStaffed (vec_len l.inputs) l.staff.seats l.staff.bytes l.staff.compressors;
  parts : vec_len l.parts ≡ vec_len l.inputs;
  capacity : (vec_capacity l.staff.seats ≡ vec_capacity l.fn.staff.seats) × (vec_capacity l.staff.bytes ≡ vec_capacity l.fn.staff.bytes) × (vec_capacity l.staff.compressors ≡ vec_capacity l.fn.staff.compressors);
  seats : l.staff.seats.items ++ map (λ w. w.seat) (reverse l.workers.items) ≡ l.fn.staff.seats.items;
  bytes : l.staff.bytes.items ++ map (λ w. w.bytes) (reverse l.workers.items) ≡ l.fn.staff.bytes.items;
  jobs : map Some (jobs_from 0 l.inputs.items l.parts.items l.staff.compressors.items) ++ map (λ w. w.job) (reverse l.workers.items) ≡ map Some (jobs_from 0 l.fn.inputs.items l.fn.parts.items l.fn.staff.compressors.items);
  free : All (λ w. w.done ≡ None) l.workers.items;
  outcomes : l.staff.outcomes ≡ l.fn.staff.outcomes;
}

abbrev pub decreases-hired : goal.decreases-hired
decreases-hired g l = vec_len l.inputs
