-- A run of one batch into chunked flat, computed step by step, the first ready task each time. The codec here spells a chunk by its count of rows.
use Rattle.std.proofs.Common.{◌≡◌, ◌∷◌, ◌++◌, true, false, length, refl, Option, Some, None, []}
use Rattle.std.specs.Prelude.{pos}
use Rattle.vx_model.specs.declared.ptype.PType.TheVariants.{I64}
use Rattle.vx_model.specs.declared.encoding.EncodingId.TheVariants.{Plain}
use Rattle.vx_model.specs.Ty.{primitive}
use Rattle.vx_model.specs.CellData.{int_cell}
use Rattle.vx_model.specs.ChunkData.{ChunkData, plain_piece, cells}
use Rattle.vx_tasks.specs.Run.{Note, nth}
use Rattle.vx_tasks.specs.Runs.{noted}
use Rattle.vx_strategy_spec.specs.StrategyData.{flat, chunked}
use Rattle.vx_machine_promises.specs.Write.{Write, Answer, unasked, came, over, taken_by, heard_by}
use Rattle.vx_machine_view.specs.Machine.{finished, WholeStep, source_step, is_finished}
use Rattle.vx_machine_state.specs.State.{no_tasks}
use Rattle.vx_machine_view.specs.Underway.{ready_steps}
use Rattle.vx_machine_runs.specs.Runs.{Stand, outset, Asking, TypedAnswer, BeforeEnd, Done, Led}

abbrev write : Write
write = record {
  setting = record {
    codec = record {
      encode = λ es padding p. Some (length (cells p) ∷ []);
      tree_part = λ es padding p. [];
      refused = λ es p. None;
      decode = λ es t b. None;
    };
    encodings = Plain ∷ [];
    allowed = None;
    image = λ which p. p;
    hash = λ b. 0;
  };
  way = chunked (flat (record { padding = true; inline = false }));
  type = primitive I64 false;
  mark = false;
  tracker = 0;
  schedule = [];
}

abbrev one_two : ChunkData
one_two = plain_piece (primitive I64 false) (int_cell (pos 1) ∷ int_cell (pos 2) ∷ [])

abbrev or_nothing : Option WholeStep → WholeStep
or_nothing (Some w) = w
or_nothing None = source_step unasked finished no_tasks

-- the first ready step, its note, and where it leads

abbrev next : Stand → Answer → WholeStep
next x told = or_nothing (nth (ready_steps write 0 x.history told x.machine) 0)

abbrev note_of : Stand → Answer → Note
note_of x told = noted (length (ready_steps write 0 x.history told x.machine)) 0 (next x told).name (next x told).kind

abbrev on : Stand → Answer → Stand
on x told = record { machine = (next x told).after; taken = taken_by x.taken told; heard = heard_by x.heard told; history = x.history ++ (next x told).wrote }

done : (x : Stand) (told : Answer) → nth (ready_steps write 0 x.history told x.machine) 0 ≡ Some (next x told) → Asking x.machine.phase 0 told → TypedAnswer write.type told → BeforeEnd x.heard told
    → (next x told).misfit ≡ false → (next x told).refusal ≡ None → Done write 0 x (on x told) (note_of x told)
done x told place asks typed once fits unrefused =
    record { told = told; step = next x told; chosen = record { place = place; asks = asks; typed = typed; once = once; fits = fits }; unrefused = unrefused; note = refl; left = refl }

-- batch, put, end, close; take, end; take, end, append; join

abbrev x0 : Stand
x0 = outset write

abbrev x1 : Stand
x1 = on x0 (came one_two)

abbrev x2 : Stand
x2 = on x1 unasked

abbrev x3 : Stand
x3 = on x2 over

abbrev x4 : Stand
x4 = on x3 unasked

abbrev x5 : Stand
x5 = on x4 unasked

abbrev x6 : Stand
x6 = on x5 unasked

abbrev x7 : Stand
x7 = on x6 unasked

abbrev x8 : Stand
x8 = on x7 unasked

abbrev x9 : Stand
x9 = on x8 unasked

abbrev x10 : Stand
x10 = on x9 unasked

runs_to_the_end : Led write 0 x0 (note_of x0 (came one_two) ∷ note_of x1 unasked ∷ note_of x2 over ∷ note_of x3 unasked ∷ note_of x4 unasked ∷ note_of x5 unasked ∷ note_of x6 unasked ∷ note_of x7 unasked ∷ note_of x8 unasked ∷ note_of x9 unasked ∷ []) x10
runs_to_the_end =
    (x1, done x0 (came one_two) refl tt refl refl refl refl, (x2, done x1 unasked refl refl tt tt refl refl, (x3, done x2 over refl tt tt refl refl refl, (x4, done x3 unasked refl refl tt tt refl refl, (x5, done x4 unasked refl refl tt tt refl refl, (x6, done x5 unasked refl refl tt tt refl refl, (x7, done x6 unasked refl refl tt tt refl refl, (x8, done x7 unasked refl refl tt tt refl refl, (x9, done x8 unasked refl refl tt tt refl refl, (x10, done x9 unasked refl refl tt tt refl refl, refl))))))))))

and_has_finished : is_finished x10.machine ≡ true
and_has_finished = refl

one_segment : x10.history ≡ (0 ∷ 0 ∷ [], 2 ∷ []) ∷ []
one_segment = refl
