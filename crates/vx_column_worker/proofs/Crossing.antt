-- A worker goes to another thread, and the sink and the tracker are shared by threads. Each type is shown from what it holds, since a search stops at tuples.
use mathlib.Core.List.{[], ◌∷◌}
use denote.RattleType.{RattleType}
use denote.Builtin.{u64}
use denote.Param.Send.{IsSend, IsSync, struct_send, struct_sync, enum_send, recorded_send, recorded_sync, sendable}
use denote.Hole.{as_row}
use denote.Struct.Struct.{Struct}
use denote.Struct.Declared as S
use denote.Struct.Tuple.{Tuple, tuple_type}
use denote.Enum.Declared as E
use Rattle.std.proofs.Crossing as values
use Rattle.std.proofs.sync.ledger.Share.TheSendSync as share
use Rattle.std.proofs.sync.ledger.Book.TheSendSync as book
use Rattle.std.specs.contracts.alloc.Global as Global
use Rattle.std.specs.contracts.impls.GlobalAllocator.TheImpl as heap
use Rattle.std.specs.contracts.marker.PhantomData as Phantom
use Rattle.std.specs.contracts.option.Option as Option
use Rattle.std.specs.contracts.result.Result as Result
use Rattle.std.specs.contracts.sync.Condvar as Condvar
use Rattle.std.specs.contracts.sync.Mutex as Mutex
use Rattle.std.specs.contracts.vec.Vec as Vec
use Rattle.std.specs.declared.sync.ledger.Ledger.{Ghosts}
use Rattle.vx_path.specs.contracts.owned.Path as Path
use Rattle.vx_sequence.specs.contracts.active.Universe as Universe
use Rattle.vx_sequence.specs.contracts.ids.SequenceId as SequenceId
use Rattle.vx_sequence.specs.contracts.pointers.SequencePointer as SequencePointer
use Rattle.vx_fault.specs.declared.fallible.Fallible as Fallible
use Rattle.vx_fault.specs.contracts.fails.Fails as Fails
use Rattle.vx_model.proofs.dtype.DType.TheLaws.TheKnot as types
use Rattle.vx_model.proofs.cell.Cell.TheLaws.TheKnot as cells
use Rattle.vx_model.specs.contracts.dtype.DType as DType
use Rattle.vx_model.specs.contracts.cell.Cell as Cell
use Rattle.vx_chunk.proofs.node.Chunk.TheLaws.TheKnot as chunks
use Rattle.vx_chunk.specs.contracts.node.Chunk as Chunk
use Rattle.vx_strategy.proofs.child.ChildStrategy.TheLaws.TheKnot as strategies
use Rattle.vx_strategy.specs.contracts.child.ChildStrategy as ChildStrategy
use Rattle.vx_sink.specs.contracts.context.LayoutWriterContext as LayoutWriterContext
use Rattle.vx_sink.specs.contracts.list_source.ListSource as ListSource
use Rattle.vx_sink.specs.declared.sink.SegmentSink as Sinks
use Rattle.vx_order_answer.specs.contracts.errors.WriteErrorName as WriteErrorName
use Rattle.vx_order_answer.specs.contracts.receipt.Receipt as Receipt
use Rattle.vx_seats.specs.declared.pairs.Pairs as Pairs
use Rattle.vx_seats.specs.contracts.seat.Seat as Seat
use Rattle.vx_seats.specs.contracts.state.SinkState as State
use Rattle.vx_shared.specs.contracts.bytes.SharedBytesTracker as Tracker
use Rattle.vx_shared.specs.contracts.ordered.OrderedSink as OrderedSink
use Rattle.vx_shared.specs.contracts.total.BytesSeat as BytesSeat
use Rattle.vx_layout_sent.proofs.Crosses.{layout_sends}
use Rattle.vx_write_answer.specs.contracts.error.WriteError as WriteError
use Rattle.vx_column_ids.specs.contracts.part.ColumnPart as ColumnPart
use Rattle.vx_column_inputs.specs.contracts.inputs.Input as Input
use Rattle.vx_column_worker.specs.contracts.worker.Job as Job
use Rattle.vx_column_worker.specs.contracts.worker.Done as Done
use Rattle.vx_column_worker.specs.contracts.worker.Worker as Worker

-- ---- options, results, pairs
option_sends : (A : RattleType) → IsSend A → IsSend (Option.the_field A).row
option_sends A a = enum_send (E.shape (Option.the_type A)) (tt, ((a, tt), tt))

result_sends : (A B : RattleType) → IsSend A → IsSend B → IsSend (Result.the_field A B).row
result_sends A B a b = enum_send (E.shape (Result.the_type A B)) ((a, tt), ((b, tt), tt))

pair_sends : (A B : RattleType) → IsSend A → IsSend B → IsSend (Tuple (A ∷ B ∷ []))
pair_sends A B a b = let T = tuple_type (A ∷ B ∷ []) in recorded_send (Struct (S.shape T)) T.D T.to T.to_one (struct_send (S.shape T) (a, (b, tt)))

-- ---- what a worker holds
type_sends : IsSend (as_row DType.the_field)
type_sends = search (values.crosses, types.crosses, sendable) depth 60 fits 20000

cell_sends : IsSend (as_row Cell.the_field)
cell_sends = search (values.crosses, cells.crosses, sendable) depth 60 fits 20000

chunk_sends : IsSend Chunk.the_row
chunk_sends = search (type_sends, cell_sends, values.crosses, chunks.crosses, sendable) depth 60 fits 20000

fails_sends : IsSend Fails.the_row
fails_sends = search (values.crosses, sendable) depth 60 fits 20000

field_sends : IsSend (DType.the_field).row
field_sends = search (values.crosses, types.crosses, sendable) depth 60 fits 20000

source_sends : IsSend (ListSource.the_field).row
source_sends = search (field_sends, fails_sends, chunk_sends, values.crosses, sendable) depth 60 fits 20000

context_sends : IsSend (LayoutWriterContext.the_field).row
context_sends = search (values.crosses, sendable) depth 60 fits 20000

child_sends : IsSend (ChildStrategy.the_field).row
child_sends = search (values.crosses, strategies.crosses, sendable) depth 60 fits 20000

input_sends : IsSend (Input.the_field).row
input_sends = search (child_sends, field_sends, source_sends, context_sends, sendable) depth 60 fits 20000

universe_sends : IsSend (Universe.the_field).row
universe_sends = search (values.crosses, sendable) depth 60 fits 20000

id_sends : IsSend SequenceId.the_row
id_sends = search (values.crosses, sendable) depth 60 fits 20000

pointer_sends : IsSend (SequencePointer.the_field).row
pointer_sends = search (values.crosses, sendable) depth 60 fits 20000

part_sends : IsSend (ColumnPart.the_field).row
part_sends = search (universe_sends, id_sends, pointer_sends, values.crosses, sendable) depth 60 fits 20000

error_sends : IsSend WriteError.the_row
error_sends = search (chunk_sends, values.crosses, sendable) depth 60 fits 20000

path_sends : IsSend Path.the_row
path_sends = search (values.crosses, sendable) depth 60 fits 20000

job_sends : (C : RattleType) → IsSend C → IsSend (Job.the_row C)
job_sends C c = let T = Job.the_type C in
    recorded_send (Struct (S.shape T)) T.D T.to T.to_one (search (input_sends, part_sends, c, values.crosses, sendable) depth 60 fits 20000)

paths_send : IsSend (Vec.the_row Path.the_row Global.the_row heap.ghosts)
paths_send = values.Vec-send Path.the_row path_sends

done_sends : (C : RattleType) → IsSend C → IsSend (Done.the_row C)
done_sends C c = let T = Done.the_type C in recorded_send (Struct (S.shape T)) T.D T.to T.to_one
    (struct_send (S.shape T) (c, (result_sends _ WriteError.the_row (pair_sends _ _ layout_sends paths_send) error_sends, tt)))

module _ (C W F M N L P : RattleType) (p : Pairs.Ghosts P.Denot) (w : Ghosts W.Denot) (f : Ghosts F.Denot) (m : Ghosts M.Denot) (n : Ghosts N.Denot) (l : Ghosts L.Denot) (c : IsSend C) where
  seat_sends : IsSend (Seat.the_field W F M N P p w f m n).row
  seat_sends = search (share.the_send, values.crosses, sendable) depth 60 fits 20000

  bytes_sends : IsSend (BytesSeat.the_field L l).row
  bytes_sends = search (share.the_send, values.crosses, sendable) depth 60 fits 20000

  pub worker_sends : IsSend (Worker.the_row C W F M N L P p w f m n l)
  worker_sends = let T = Worker.the_type C W F M N L P p w f m n l in recorded_send (Struct (S.shape T)) T.D T.to T.to_one
      (struct_send (S.shape T) (seat_sends, (bytes_sends, (option_sends _ (job_sends C c), (option_sends _ (done_sends C c), tt)))))

-- ---- what workers share
condvar_syncs : IsSync (Condvar.the_field).row
condvar_syncs = search (values.crosses, sendable) depth 60 fits 20000

mutex_syncs : (R : RattleType) → IsSend R → IsSync (Mutex.the_field R).row
mutex_syncs R s = search (s, values.crosses, sendable) depth 60 fits 20000

pub tracker_syncs : (W : RattleType) (w : Ghosts W.Denot) → IsSync (Tracker.the_row W w)
tracker_syncs W w = let T = Tracker.the_type W w in recorded_sync (Struct (S.shape T)) T.D T.to T.to_one (struct_sync (S.shape T)
    (search (mutex_syncs, book.the_send, values.crosses, sendable) depth 60 fits 20000, (condvar_syncs, tt)))

number_sends : IsSend u64
number_sends = search (sendable) depth 60 fits 20000

name_sends : IsSend WriteErrorName.the_row
name_sends = search (values.crosses, sendable) depth 60 fits 20000

receipts_send : IsSend (Vec.the_field Receipt.the_row Global.the_row heap.ghosts).row
receipts_send = search (values.crosses, sendable) depth 60 fits 20000

fronts_send : IsSend (Vec.the_field (Option.the_row Path.the_row) Global.the_row heap.ghosts).row
fronts_send = search (path_sends, values.crosses, sendable) depth 60 fits 20000

phantom_sends : (P : RattleType) → IsSend (Phantom.the_field P).row
phantom_sends P = search (sendable) depth 60 fits 20000

module _ (K W F M N P : RattleType) (s : Sinks.Ghosts K.Denot) (a : Fallible.Ghosts K.Denot) (p : Pairs.Ghosts P.Denot) (w : Ghosts W.Denot) (f : Ghosts F.Denot) (m : Ghosts M.Denot) (n : Ghosts N.Denot)
    (x : IsSend K) where
  state_sends : IsSend (State.the_row K W F M N P s a p w f m n)
  state_sends = let T = State.the_type K W F M N P s a p w f m n in recorded_send (Struct (S.shape T)) T.D T.to T.to_one (struct_send (S.shape T) (
    x,
    (
      receipts_send,
      (
        option_sends _ (pair_sends _ _ number_sends name_sends),
        (
          fronts_send,
          (book.the_send W w, (book.the_send F f, (book.the_send M m, (book.the_send N n, (phantom_sends P, tt))))),
        ),
      ),
    ),
  ))

  pub sink_syncs : IsSync (OrderedSink.the_row K W F M N P s a p w f m n)
  sink_syncs = let T = OrderedSink.the_type K W F M N P s a p w f m n in
      recorded_sync (Struct (S.shape T)) T.D T.to T.to_one (struct_sync (S.shape T) (mutex_syncs _ state_sends, (condvar_syncs, tt)))
