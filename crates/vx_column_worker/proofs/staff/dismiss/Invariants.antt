use Rattle.std.specs.Prelude.{◌≡◌, ◌+◌, ◌≤◌, ◌++◌, None, Some, IsSome, All, map, reverse, option_map, vec_len}
use Rattle.std.specs.Vec.{vec_capacity}
use Rattle.vx_column_worker.specs.Staffed.{HasRoom}
use Rattle.vx_column_worker.proofs.staff.dismiss.Given as goal

abbrev pub invariant-dismissed : goal.invariant-dismissed
invariant-dismissed g l = record {
  ended : All (λ w. (w.job ≡ None) × IsSome w.done) l.workers.items;
  staffed : (vec_len l.staff.seats + vec_len l.workers ≡ vec_len l.fn.workers) × (vec_len l.staff.bytes + vec_len l.workers ≡ vec_len l.fn.workers)
      × (vec_len l.staff.compressors + vec_len l.workers ≡ vec_len l.fn.workers) × (vec_len l.staff.outcomes + vec_len l.workers ≡ vec_len l.fn.workers);
  room : HasRoom (vec_len l.fn.workers) l.staff.seats l.staff.bytes l.staff.compressors × (vec_len l.fn.workers ≤ vec_capacity l.staff.outcomes);
  seats : l.staff.seats.items ++ map (λ w. w.seat) (reverse l.workers.items) ≡ map (λ w. w.seat) l.fn.workers.items;
  bytes : l.staff.bytes.items ++ map (λ w. w.bytes) (reverse l.workers.items) ≡ map (λ w. w.bytes) l.fn.workers.items;
  compressors : map Some l.staff.compressors.items ++ map (λ w. option_map (λ d. d.compressor) w.done) (reverse l.workers.items) ≡ map (λ w. option_map (λ d. d.compressor) w.done) l.fn.workers.items;
  outcomes : map Some l.staff.outcomes.items ++ map (λ w. option_map (λ d. d.outcome) w.done) (reverse l.workers.items) ≡ map (λ w. option_map (λ d. d.outcome) w.done) l.fn.workers.items;
}

abbrev pub decreases-dismissed : goal.decreases-dismissed
decreases-dismissed g l = vec_len l.workers
