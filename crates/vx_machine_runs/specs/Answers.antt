-- What the source told in a run.
use Rattle.std.specs.Prelude.{◌≡◌, ℕ, List, [], ◌∷◌, ◌++◌, length, if◌then◌else◌}
use Rattle.vx_model.specs.Words.{total_by}
use Rattle.vx_model.specs.Ty.{Ty}
use Rattle.vx_model.specs.ChunkData.{ChunkData, piece_type}
use Rattle.vx_layout_spec.specs.Real.{Of}
use Rattle.vx_tasks.specs.Task.{Kind, Free, Take, TakeEnd, Put, Append, Join, Batch, End, Call, Close}
use Rattle.vx_tasks.specs.Run.{Note}
use Rattle.vx_plan.specs.SourcePlan.{of_schema}
use Rattle.vx_plan.specs.Valid.{OfSchema, AllOf}
use Rattle.vx_machine_promises.specs.Write.{Write, Answer, unasked, came, over}
use Rattle.vx_machine_runs.specs.Runs.{Stand, outset, Asking, BeforeEnd, Led}

-- where the source tells something, its end isn't told
abbrev pub AskedBeforeEnd : Type 0
AskedBeforeEnd = (g : Write) (first : ℕ) (ns : List Note) (x : Stand) (told : Answer) (k : ℕ) → Led g first (outset g) ns x → Asking x.machine.phase k told → BeforeEnd x.heard told

-- 1 where a batch is read, and where the end is
abbrev pub batch_read : Kind → ℕ
batch_read (Free Batch) = 1
batch_read (Free End) = 0
batch_read (Free Call) = 0
batch_read (Free Close) = 0
batch_read Take = 0
batch_read TakeEnd = 0
batch_read (Put c) = 0
batch_read (Append p) = 0
batch_read Join = 0

abbrev pub end_read : Kind → ℕ
end_read (Free Batch) = 0
end_read (Free End) = 1
end_read (Free Call) = 0
end_read (Free Close) = 0
end_read Take = 0
end_read TakeEnd = 0
end_read (Put c) = 0
end_read (Append p) = 0
end_read Join = 0

-- as many batches were taken as the notes tell, and the end is told where they tell it
abbrev pub AnswersAreNoted : Type 0
AnswersAreNoted = (g : Write) (first : ℕ) (ns : List Note) (x : Stand) → Led g first (outset g) ns x
    → (total_by (λ n. batch_read n.kind) ns ≡ length x.taken) × (total_by (λ n. end_read n.kind) ns ≡ (if x.heard then 1 else 0))

-- The batches that were taken are of the type, all of them; also where one of another type comes behind.
pub record TakenAlone (t : Ty) (taken : List ChunkData) : Type 0 where
  pub typed : OfSchema t taken
  pub all : of_schema t taken ≡ taken
  pub without : (b : ChunkData) → (piece_type b ≡ t → ⊥) → of_schema t (taken ++ (b ∷ [])) ≡ taken

abbrev pub TakenAreTyped : Type 0
TakenAreTyped = (g : Write) (first : ℕ) (ns : List Note) (x : Stand) → Led g first (outset g) ns x → TakenAlone g.type x.taken

-- each batch that the source told in a run is a whole chunk of the type

abbrev pub WholeAnswer : Ty → Answer → Type 0
WholeAnswer t unasked = Unit {0}
WholeAnswer t (came b) = Of t b
WholeAnswer t over = Unit {0}

abbrev pub ToldWhole : (g : Write) (first : ℕ) (x : Stand) (ns : List Note) (y : Stand) → Led g first x ns y → Type 0
ToldWhole g first x [] y l = Unit {0}
ToldWhole g first x (n ∷ ns) y l = WholeAnswer g.type l.1.told × ToldWhole g first l.0 ns y l.2

-- so are the batches that were taken
abbrev pub TakenAreWhole : Type 0
TakenAreWhole = (g : Write) (first : ℕ) (ns : List Note) (x : Stand) (l : Led g first (outset g) ns x) → ToldWhole g first (outset g) ns x l → AllOf g.type x.taken
