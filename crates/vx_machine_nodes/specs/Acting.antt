-- Acts of a task against those in plain data, part by part.
use Rattle.std.specs.Prelude.{◌≡◌, ℕ, ◌+◌, if◌then◌else◌, Bool, true, false, List, [], ◌∷◌, ◌++◌, length, Option, Some, None, Ok}
use Rattle.std.specs.Arc.{arc_value}
use Rattle.vx_model.specs.declared.encoding.EncodingId.{EncodingId}
use Rattle.vx_model.specs.ChunkData.{ChunkData, cells}
use Rattle.vx_model.specs.TyView.{ty}
use Rattle.vx_segment_writer.specs.Segment.{encode, tree_bytes}
use Rattle.vx_order_answer.specs.declared.receipt.Receipt.{Receipt}
use Rattle.vx_order.specs.Outlet.{Outlet}
use Rattle.vx_order.specs.Answers.{IsNumber, IsPast, IsShared, After}
use Rattle.vx_order.specs.declared.attempt.Attempt.TheVariants.{Written}
use Rattle.vx_plan.specs.PlanData.{Setting, Pair, What, many_chunks, Item as Piece}
use Rattle.vx_machine_turns.specs.Flat.{forbidden}
use Rattle.vx_machine_state.specs.State.{Next, hand_on, Mind, ending, Desk, Tasks}
use Rattle.vx_machine_state.specs.Images.{images_of}
use Rattle.vx_machine_state.specs.Start.{waiting}
use Rattle.vx_sink.specs.declared.context.LayoutWriterContext.{LayoutWriterContext}
use Rattle.vx_sink.specs.ContextView.{counted as bytes_counted}
use Rattle.vx_machine_state.specs.Acts.{count, Did, do_next, take_chunk, take_end}
use Rattle.vx_write_answer.specs.declared.step.ActionKind.{ActionKind}
use Rattle.vx_write_answer.specs.declared.error.WriteError.{WriteError}
use Rattle.vx_machine_node.specs.declared.item.Item.{Item}
use Rattle.vx_machine_node.specs.declared.item.Segment.{Segment}
use Rattle.vx_machine_node.specs.declared.kinds.FlatNode.{FlatNode}
use Rattle.vx_machine_node.specs.declared.node.Local.{Local}
use Rattle.vx_machine_node.specs.declared.node.Local.TheVariants.{Empty, Full, Chunked, Columns, Lists, Grouped, Over, Passing, Made, Zoned, Pressing, AsIs, Probe, Asking, Runs}
use Rattle.vx_machine_node.specs.Context.{setting_of}
use Rattle.vx_machine_node.specs.Outcome.{action_of, AllFit, Refused, none_past}
use Rattle.vx_machine_node.specs.View.{item_of, mind_of}

-- ---- what a sink is told

-- the pair was appended under this number
pub record IsAppended (before : Outlet) (number : ℕ) (x : Pair) (after : Outlet) : Type 0 where
  pub receipt : Receipt
  pub path_is : receipt.path ≡ x.0
  pub number_is : receipt.number ≡ number
  pub told : IsNumber before number
  pub written : After before x.1 (Ok (Written receipt)) after

-- of at most one pair
abbrev pub Behind : Outlet → ℕ → List Pair → Outlet → Type 0
Behind o n [] u = u ≡ o
Behind o n (x ∷ xs) u = IsAppended o n x u

-- why an act is refused that may append
abbrev pub ActRefused : Did → Outlet → WriteError → Type 0
ActRefused w o e = Refused w.refusal w.misfit w.numbers w.indices w.wrote (IsPast o) (IsShared o) w.joined e

-- The same where the tracker counts so much: what is added may be too much for it.
abbrev pub ActStopped : ℕ → Did → Outlet → WriteError → Type 0
ActStopped counts w o e = Refused w.refusal w.misfit ((counts + w.raises) ∷ w.numbers) w.indices w.wrote (IsPast o) (IsShared o) w.joined e

-- why an append is
abbrev pub AppendRefused : Outlet → Pair → WriteError → Type 0
AppendRefused o x e = Refused None false [] [] (x ∷ []) (IsPast o) (IsShared o) [] e

-- ---- acts of a block

-- Of a task of which only this is told: its name, and what it has in mind.
abbrev pub bare : List ℕ → Mind → Desk
bare name mind = waiting name mind [] false

abbrev pub acted : Setting → List ℕ → ℕ → Mind → Tasks → Next → Did
acted s name number mind ks x = do_next s number (bare name mind) ks x []

-- an act was done, with this in mind then, this left to do before what was, and these children
pub record ActDone (w : Did) (before : Outlet) (number : ℕ) (after : Outlet) (mind : Mind) (todo left : List Next) (kids : Tasks) (a : ActionKind) : Type 0 where
  pub unrefused : w.refusal ≡ None
  pub fits : w.misfit ≡ false
  pub counted : AllFit (w.numbers ++ w.indices)
  pub todo_is : todo ≡ w.desk.todo ++ left
  pub mind_is : mind ≡ w.desk.mind
  pub kids_are : kids ≡ w.kids
  pub kind : a ≡ action_of w.kind
  pub outlet : Behind before number w.wrote after

-- The compressor was called under this number, and the image is to be handed on before what was. A compressor's images are known of
-- chunks that can be in memory.
abbrev pub Pressed : (ℕ → ChunkData → ChunkData) → ℕ → Piece → List Next → List Next → Type 0
Pressed image which i todo before = todo ≡ hand_on 0 (i.0, images_of image which i.1) ∷ before

-- layouts of so many rows aren't joined
abbrev pub JoinRefused : List ℕ → WriteError → Type 0
JoinRefused ns e = Refused None false [] [] [] none_past ⊥ ns e

-- ---- takes of chunks

-- a task of this name
abbrev pub named : List ℕ → Desk
named name = waiting name ending [] false

abbrev pub taken : Setting → List ℕ → Tasks → Piece → Mind → Did
taken s name ks i mind = take_chunk s (named name) ks i [] mind

-- a chunk was taken, with this in mind then, this left to do before what was, and these children
pub record Took (w : Did) (mind : Mind) (todo before : List Next) (kids : Tasks) : Type 0 where
  pub unrefused : w.refusal ≡ None
  pub fits : w.misfit ≡ false
  pub counted : AllFit (w.numbers ++ w.indices)
  pub mind_is : mind ≡ w.desk.mind
  pub todo_is : todo ≡ w.desk.todo ++ before
  pub kids_are : kids ≡ w.kids

abbrev pub TakeRefused : Did → WriteError → Type 0
TakeRefused w e = Refused w.refusal w.misfit w.numbers w.indices w.wrote none_past ⊥ w.joined e

-- the same where the tracker counts so much
abbrev pub TakeStopped : ℕ → Did → WriteError → Type 0
TakeStopped counts w e = Refused w.refusal w.misfit ((counts + w.raises) ∷ w.numbers) w.indices w.wrote none_past ⊥ w.joined e

abbrev pub ChunkTaken : LayoutWriterContext → List ℕ → Tasks → Item → Local → Local → List Next → List Next → Tasks → Type 0
ChunkTaken ctx name ks i l m todo before kids = (image : ℕ → ChunkData → ChunkData) → Took (taken (setting_of ctx image) name ks (item_of i) (mind_of l)) (mind_of m) todo before kids

abbrev pub ChunkRefused : LayoutWriterContext → List ℕ → Tasks → Item → Local → WriteError → Type 0
ChunkRefused ctx name ks i l e = (image : ℕ → ChunkData → ChunkData) → TakeRefused (taken (setting_of ctx image) name ks (item_of i) (mind_of l)) e

-- where the tracker counts what the context tells
abbrev pub ChunkStopped : LayoutWriterContext → List ℕ → Tasks → Item → Local → WriteError → Type 0
ChunkStopped ctx name ks i l e = (image : ℕ → ChunkData → ChunkData) → TakeStopped (bytes_counted ctx) (taken (setting_of ctx image) name ks (item_of i) (mind_of l)) e

-- what a flat node's layout keeps of a chunk's segment: its tree, where the node inlines
abbrev pub tree_kept : List EncodingId → FlatNode → ChunkData → Option (List ℕ)
tree_kept ids n p = if n.options.inline_array_node then Some (tree_bytes ids n.options.include_padding p) else None

-- the segment of a chunk, at a flat node
pub record IsStored (ids : List EncodingId) (n : FlatNode) (p : ChunkData) (x : Segment) : Type 0 where
  pub bytes : encode ids n.options.include_padding p ≡ Some x.bytes.items
  pub tree : x.tree ≡ tree_kept ids n p
  pub rows : x.rows ≡ length (cells p)
  pub type : ty (arc_value x.dtype) ≡ ty (arc_value n.dtype)
  pub counted : AllFit (length (cells p) ∷ length x.bytes.items ∷ [])

-- it is refused by this word of the plan alone
abbrev pub WordRefused : Option What → WriteError → Type 0
WordRefused word e = Refused word false [] [] [] none_past ⊥ [] e

-- the word for a chunk whose first encoding that isn't listed is this one: a further chunk is refused in any case
abbrev pub first_word : Option EncodingId → Local → Option What
first_word first (Empty n) = forbidden first
first_word first (Full x) = Some many_chunks
first_word first (Chunked n eof rows) = Some many_chunks
first_word first (Columns n rows) = Some many_chunks
first_word first (Lists n rows) = Some many_chunks
first_word first (Grouped n) = Some many_chunks
first_word first (Zoned n) = Some many_chunks
first_word first (Pressing which) = Some many_chunks
first_word first AsIs = Some many_chunks
first_word first (Probe n eof) = Some many_chunks
first_word first Asking = Some many_chunks
first_word first (Runs r) = Some many_chunks
first_word first Over = Some many_chunks
first_word first Passing = Some many_chunks
first_word first (Made l) = Some many_chunks

-- whether it is a flat node's
abbrev pub is_flat : Local → Bool
is_flat (Empty n) = true
is_flat (Full x) = true
is_flat (Chunked n eof rows) = false
is_flat (Columns n rows) = false
is_flat (Lists n rows) = false
is_flat (Grouped n) = false
is_flat (Zoned n) = false
is_flat (Pressing which) = false
is_flat AsIs = false
is_flat (Probe n eof) = false
is_flat Asking = false
is_flat (Runs r) = false
is_flat Over = false
is_flat Passing = false
is_flat (Made l) = false

-- whether its node regroups
abbrev pub is_grouped : Local → Bool
is_grouped (Grouped n) = true
is_grouped (Empty n) = false
is_grouped (Full x) = false
is_grouped (Chunked n eof rows) = false
is_grouped (Columns n rows) = false
is_grouped (Lists n rows) = false
is_grouped (Zoned n) = false
is_grouped (Pressing which) = false
is_grouped AsIs = false
is_grouped (Probe n eof) = false
is_grouped Asking = false
is_grouped (Runs r) = false
is_grouped Over = false
is_grouped Passing = false
is_grouped (Made l) = false

-- whether no chunk came of a dictionary node
abbrev pub is_probe : Local → Bool
is_probe (Probe n eof) = true
is_probe (Empty n) = false
is_probe (Full x) = false
is_probe (Chunked n eof rows) = false
is_probe (Columns n rows) = false
is_probe (Lists n rows) = false
is_probe (Grouped n) = false
is_probe (Zoned n) = false
is_probe (Pressing which) = false
is_probe AsIs = false
is_probe Asking = false
is_probe (Runs r) = false
is_probe Over = false
is_probe Passing = false
is_probe (Made l) = false

-- whether its node cuts runs
abbrev pub is_cutting : Local → Bool
is_cutting (Runs r) = true
is_cutting (Empty n) = false
is_cutting (Full x) = false
is_cutting (Chunked n eof rows) = false
is_cutting (Columns n rows) = false
is_cutting (Lists n rows) = false
is_cutting (Grouped n) = false
is_cutting (Zoned n) = false
is_cutting (Pressing which) = false
is_cutting AsIs = false
is_cutting (Probe n eof) = false
is_cutting Asking = false
is_cutting Over = false
is_cutting Passing = false
is_cutting (Made l) = false

-- why a chunk isn't split: it is of another type, or the rows with it are too many
abbrev pub SplitRefused : Bool → ℕ → WriteError → Type 0
SplitRefused misfit rows e = Refused None misfit (rows ∷ []) [] [] none_past ⊥ [] e

-- why a zoned node doesn't record a chunk: it makes no zone, it is of another type, or the rows with it are too many
abbrev pub ZoneRefused : Option What → Bool → ℕ → WriteError → Type 0
ZoneRefused word misfit rows e = Refused word misfit (rows ∷ []) [] [] none_past ⊥ [] e

-- why a chunk of lists isn't split: it is of another type, or one of these is too many
abbrev pub ListRefused : Bool → List ℕ → WriteError → Type 0
ListRefused misfit ns e = Refused None misfit ns [] [] none_past ⊥ [] e

-- ---- the end of a stream

-- it was taken, with this in mind then, and this left to do behind what was
pub record Ended (w : Did) (mind : Mind) (todo before : List Next) : Type 0 where
  pub unrefused : w.refusal ≡ None
  pub fits : w.misfit ≡ false
  pub counted : AllFit (w.numbers ++ w.indices)
  pub mind_is : mind ≡ w.desk.mind
  pub todo_is : todo ≡ before ++ w.desk.todo

-- by a task with so many children, of which only this is told: what it had in mind
abbrev pub EndTaken : Local → ℕ → Local → List Next → List Next → Type 0
EndTaken l n m todo before = (s : Setting) (ks : Tasks) → count ks ≡ n → Ended (take_end s (bare [] (mind_of l)) ks (mind_of l)) (mind_of m) todo before

-- or it is refused
abbrev pub EndRefused : Local → ℕ → WriteError → Type 0
EndRefused l n e = (s : Setting) (ks : Tasks) → count ks ≡ n → TakeRefused (take_end s (bare [] (mind_of l)) ks (mind_of l)) e
