use Rattle.std.proofs.Common.{◌≡◌, ◌++◌, ◌∷◌, [], ℕ, List, Bor, length, get_or, map, refl}
use Rattle.std.proofs.lemmas.Result.{err_from_is_err_and}
use Rattle.std.proofs.lemmas.List.{map_push}
use Rattle.vx_segment_spec.specs.Segment.{buffers_at}
use Rattle.vx_segment_reader.proofs.BufferSteps.{place_of_rest, buffers_go_on, buffers_end, buffers_done, buffers_left, is_some, is_none}
use Rattle.vx_segment_reader.proofs.buffers.read_buffers.Goals as goal

abbrev seen : Bor (List ℕ) → List ℕ
seen b = b.now

pub returns-in_err-buffer : goal.returns-in_err-buffer
returns-in_err-buffer c =
    let p = err_from_is_err_and c.from_residual-in_err-buffer.result c.from_residual-in_err-buffer.ensures.1 in
    rw (p.1, p.2) (buffers_end c.in_err-buffer.field-0.0 c.args.padded (map seen c.loop-length.buffers.items) c.args.lengths.now c.loop-length.length-index (get_or c.args.lengths.now c.loop-length.length-index 0) (place_of_rest c.args.bytes.now c.loop-length.rest.now) c.loop-length.rest.now (buffers_at c.args.padded 0 c.args.lengths.now c.args.bytes.now) c.loop-length-test.true refl (rw (← c.padding_length.ensures) c.in_err-buffer.ensures) c.loop-length.invariant.read)

pub loop-length-preserved : goal.loop-length-preserved
loop-length-preserved c =
    let e : map seen c.push.new.self.items ≡ map seen c.loop-length.buffers.items ++ c.in_ok-buffer.buffer.now ∷ [] = rw c.in_ok-push.ensures.items (map_push seen c.loop-length.buffers.items c.in_ok-buffer.buffer) in
    let p = buffers_go_on c.args.padded (map seen c.loop-length.buffers.items) c.args.lengths.now c.loop-length.length-index (get_or c.args.lengths.now c.loop-length.length-index 0) c.args.bytes.now c.loop-length.rest.now c.in_ok-buffer.buffer.now c.in_ok-buffer.after.now (buffers_at c.args.padded 0 c.args.lengths.now c.args.bytes.now) c.loop-length-test.true refl c.loop-length.invariant.within (rw (← c.padding_length.ensures) c.in_ok-buffer.ensures) c.loop-length.invariant.read in
    record { read = rw e p.0; within = p.1 }

pub returns-then-not-is_empty : goal.returns-then-not-is_empty
returns-then-not-is_empty c =
    buffers_left c.args.padded (map seen c.loop-length.buffers.items) c.args.lengths.now c.loop-length.length-index (place_of_rest c.args.bytes.now c.loop-length.rest.now) c.loop-length.rest.now (buffers_at c.args.padded 0 c.args.lengths.now c.args.bytes.now) c.loop-length-test.false (is_some c.is_empty.result (length c.loop-length.rest.now) c.is_empty.ensures c.if-not-is_empty.true) c.loop-length.invariant.read

pub returns : goal.returns
returns c =
    buffers_done c.args.padded (map seen c.loop-length.buffers.items) c.args.lengths.now c.loop-length.length-index (place_of_rest c.args.bytes.now c.loop-length.rest.now) c.loop-length.rest.now (buffers_at c.args.padded 0 c.args.lengths.now c.args.bytes.now) c.loop-length-test.false (is_none c.is_empty.result (length c.loop-length.rest.now) c.is_empty.ensures c.if-not-is_empty.false) c.loop-length.invariant.read
