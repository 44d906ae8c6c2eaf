-- What a start makes, and why it is refused.
use Rattle.std.specs.Prelude.{◌≡◌, ℕ, ◌+◌, ◌^◌, ◌<◌, ◌≤◌, Bool, true, false, List, [], ◌∷◌, length, Option, Some, None}
use Rattle.vx_model.specs.Ty.{Ty, Named, boolean, nullable}
use Rattle.vx_path.specs.Lists.{In}
use Rattle.vx_path.specs.Path.{Eof, under, inside}
use Rattle.vx_rules.specs.Columns.{offset_type}
use Rattle.vx_chunk_cells.specs.Parts.{element_type, struct_fields}
use Rattle.vx_layout_shape.specs.Shape.{fields_of}
use Rattle.vx_strategy_spec.specs.StrategyData.{StrategyData}
use Rattle.vx_strategy_spec.specs.Dispatch.{override, given_or}
use Rattle.vx_strategy.specs.FieldWays.{field_ways}
use Rattle.vx_strategy.specs.declared.list.ListLayoutStrategy.{ListLayoutStrategy}
use Rattle.vx_strategy.specs.declared.structs.StructStrategy.{StructStrategy}
use Rattle.vx_plan.specs.PlanData.{Setting, Item, What, not_struct, duplicate_field, forbidden_aggregate}
use Rattle.vx_machine_turns.specs.Forms.{Form, Forms, struct_form, list_form, no_forms, form_then}
use Rattle.vx_machine_turns.specs.Starts.{start_fault, start_faults}
use Rattle.vx_machine_state.specs.State.{Tasks, no_tasks, task_then}
use Rattle.vx_machine_state.specs.Start.{waiting, roomy, first_mind, first_kids, field_tasks, form_count, first_indices, field_indices, outlet_desk, started_task}
use Rattle.vx_machine_state.specs.Acts.{add}
use Rattle.vx_write_answer.specs.declared.error.WriteError.{WriteError}
use Rattle.vx_write_answer.specs.declared.error.WriteError.TheVariants.{SourceFault, SinkFault, CompressFault, BatchType, NotStruct, DuplicateField, ManyChunks, EmptyList, ZoneCut, ForbiddenAggregate, ForbiddenEncoding, TooLarge, OutOfMemory, Stopped}
use Rattle.vx_machine_task.specs.declared.task.Task.{Task}
use Rattle.vx_machine_node.specs.declared.kinds.ChunkedNode.{ChunkedNode}
use Rattle.vx_machine_node.specs.Context.{Allowed}
use Rattle.vx_machine_node.specs.Outcome.{AllFit}
use Rattle.vx_machine_node.specs.View.{form_at, child_form}
use Rattle.vx_machine_task.specs.View.{task_row, row}

-- ---- the forms of a struct's columns

-- the strategy of the fields of this name
abbrev pub writer_of : StructStrategy → List ℕ → StrategyData
writer_of s name = given_or (override name (field_ways s.writers.items)) s.default.item

abbrev pub field_form : StructStrategy → Named → Form
field_form s f = form_at (writer_of s f.0) f.1

abbrev pub field_forms : StructStrategy → List Named → Forms
field_forms s [] = no_forms
field_forms s (f ∷ fs) = form_then (field_form s f) (field_forms s fs)

abbrev pub validity_form : StructStrategy → Form
validity_form s = form_at s.validity.item (boolean false)

-- validity, where the type is nullable
abbrev pub validity_forms : StrategyData → Bool → Forms
validity_forms w true = form_then (form_at w (boolean false)) no_forms
validity_forms w false = no_forms

-- the form of a struct where no name is repeated
abbrev pub columns_form : StructStrategy → Ty → Form
columns_form s t = struct_form (struct_fields t) (nullable t) None (validity_form s) (field_forms s (fields_of t))

-- the columns of a list: elements, offsets, and validity where the type is nullable
abbrev pub list_forms : ListLayoutStrategy → Ty → Forms
list_forms s t = form_then (form_at s.elements.item (element_type t)) (form_then (form_at s.offsets.item offset_type) (validity_forms s.validity.item (nullable t)))

abbrev pub lists_form : ListLayoutStrategy → Ty → Form
lists_form s t = list_form (element_type t) (nullable t) (form_at s.elements.item (element_type t)) (form_at s.offsets.item offset_type) (form_at s.validity.item (boolean false))

-- ---- what is started

-- the plan refuses nothing of a form before a chunk comes, where these may be recorded, whatever else the write is given
abbrev pub IsAllowed : Allowed → Form → Bool → Type 0
IsAllowed a f m = (s : Setting) → s.allowed ≡ a → start_fault s f m ≡ None

-- these fit 64 bits, where the pointer's last index does
abbrev pub Counted : Eof → List ℕ → Type 0
Counted e ns = e.last < 2 ^ 64 → AllFit ns

-- how far pointers come behind the last of these columns, and below each
abbrev pub many_indices : Forms → Bool → Eof → List ℕ
many_indices fs m e = (e.last + form_count fs) ∷ field_indices fs m e

-- the task is what the form starts, before whatever stands behind it
pub record Started (a : Allowed) (f : Form) (m : Bool) (name : List ℕ) (e : Eof) (t : Task) : Type 0 where
  pub allowed : IsAllowed a f m
  pub counted : Counted e (first_indices f m e)
  pub tasks : (r : Tasks) → task_row t r ≡ task_then (waiting name (first_mind f m e) [] false) (first_kids f m name e) r

-- the children are those that were there and then these columns', each under the next name; the pointer went on by as many
pub record ManyStarted (a : Allowed) (fs : Forms) (m : Bool) (at : List ℕ) (e : Eof) (ks : List Task) (d : Eof) (more : List Task) : Type 0 where
  pub allowed : (s : Setting) → s.allowed ≡ a → start_faults s fs m ≡ None
  pub counted : Counted e (many_indices fs m e)
  pub tasks : row more ≡ add (row ks) (field_tasks fs m at (length ks) e)
  pub count : length more ≡ length ks + form_count fs
  pub stem : d.stem ≡ e.stem
  pub last : d.last ≡ e.last + form_count fs

-- one more child
abbrev pub OneStarted : Allowed → Form → Bool → List ℕ → Eof → List Task → Eof → List Task → Type 0
OneStarted a f m at e ks d more = ManyStarted a (form_then f no_forms) m at e ks d more

-- the children are those that a struct's form starts
pub record AllStarted (a : Allowed) (f : Form) (m : Bool) (at : List ℕ) (e : Eof) (ks : List Task) : Type 0 where
  pub allowed : IsAllowed a f m
  pub counted : Counted e (first_indices f m e)
  pub tasks : row ks ≡ first_kids f m at e

-- ---- refusals

-- one of these indices doesn't fit 64 bits
abbrev pub TooFar : List ℕ → Type 0
TooFar indices = (k : ℕ) × In k indices × (2 ^ 64 ≤ k)

-- The error is the plan's fault by name, or a pointer would have come past 64 bits; or there was no memory.
abbrev pub StartRefused : Allowed → (Setting → Option What) → List ℕ → WriteError → Type 0
StartRefused a fault indices NotStruct = (s : Setting) → s.allowed ≡ a → fault s ≡ Some not_struct
StartRefused a fault indices (DuplicateField name) = (s : Setting) → s.allowed ≡ a → fault s ≡ Some (duplicate_field name)
StartRefused a fault indices (TooLarge n) = (n ≡ 2 ^ 64) × TooFar indices
StartRefused a fault indices OutOfMemory = Unit {0}
StartRefused a fault indices SourceFault = ⊥
StartRefused a fault indices SinkFault = ⊥
StartRefused a fault indices CompressFault = ⊥
StartRefused a fault indices (BatchType c) = ⊥
StartRefused a fault indices ManyChunks = ⊥
StartRefused a fault indices EmptyList = ⊥
StartRefused a fault indices (ZoneCut n) = ⊥
StartRefused a fault indices (ForbiddenAggregate id) = (s : Setting) → s.allowed ≡ a → fault s ≡ Some (forbidden_aggregate id)
StartRefused a fault indices (ForbiddenEncoding id) = ⊥
StartRefused a fault indices (Stopped by name) = ⊥

-- a form's start is refused
abbrev pub FormRefused : Allowed → Form → Bool → Eof → WriteError → Type 0
FormRefused a f m e x = StartRefused a (λ s. start_fault s f m) (first_indices f m e) x

-- one of these columns is refused
abbrev pub ManyRefused : Allowed → Forms → Bool → Eof → WriteError → Type 0
ManyRefused a fs m e x = StartRefused a (λ s. start_faults s fs m) (many_indices fs m e) x

-- one more child is refused
abbrev pub OneRefused : Allowed → Form → Bool → Eof → WriteError → Type 0
OneRefused a f m e x = ManyRefused a (form_then f no_forms) m e x

-- a pointer with this last index can't go on
abbrev pub PointerRefused : ℕ → WriteError → Type 0
PointerRefused last x = StartRefused None (λ s. None) ((last + 1) ∷ []) x

-- ---- of a chunked node

-- the next child of a chunked node, whose pointer is this one, isn't started
abbrev pub ChildRefused : Allowed → ChunkedNode → Eof → WriteError → Type 0
ChildRefused allowed n eof e = StartRefused allowed (λ s. start_fault s (child_form n) n.marked) ((eof.last + 1) ∷ first_indices (child_form n) n.marked (inside eof)) e

-- ---- of a node that regroups

-- the only child is what the form starts, with this pointer
pub record OnlyStarted (a : Allowed) (f : Form) (m : Bool) (at : List ℕ) (e : Eof) (ks : List Task) : Type 0 where
  pub allowed : IsAllowed a f m
  pub counted : Counted e (first_indices f m e)
  pub tasks : row ks ≡ task_then (waiting (under at 0) (first_mind f m e) [] false) (first_kids f m (under at 0) e) no_tasks

-- ---- of a run

-- one more child behind those that are there, with this queue
pub record KidStarted (a : Allowed) (f : Form) (m : Bool) (name : List ℕ) (e : Eof) (inbox : List Item) (ks more : List Task) : Type 0 where
  pub allowed : IsAllowed a f m
  pub counted : AllFit (first_indices f m e)
  pub tasks : row more ≡ add (row ks) (started_task f m name e inbox false)

-- ---- of a zoned node

-- the data child is what its form starts, with a pointer inside this one, and with so many places
pub record DataStarted (a : Allowed) (room : ℕ) (f : Form) (at : List ℕ) (e : Eof) (ks : List Task) : Type 0 where
  pub allowed : IsAllowed a f false
  pub counted : Counted e ((e.last + 1) ∷ first_indices f false (inside e))
  pub tasks : row ks ≡ task_then (roomy room (under at 0) (first_mind f false (inside e))) (first_kids f false (under at 0) (inside e)) no_tasks

-- the outlet of so many places, with what the form starts below it
pub record OutletStarted (a : Allowed) (room : ℕ) (f : Form) (m : Bool) (at : List ℕ) (e : Eof) (ks : List Task) : Type 0 where
  pub allowed : IsAllowed a f m
  pub counted : Counted e (first_indices f m e)
  pub tasks : row ks ≡ task_then (outlet_desk room (under at 0)) (task_then (waiting (under at 1) (first_mind f m e) [] false) (first_kids f m (under at 1) e) no_tasks) no_tasks
