-- Tasks' actions with their data, and what is read off a list of them.
use Rattle.std.specs.Prelude.{ℕ, ◌+◌, Bool, false, cond, nat_eq, ◌||◌, List, [], ◌∷◌, ◌++◌, length, Option, Some, None, is_some}
use Rattle.vx_model.specs.Ty.{Ty}
use Rattle.vx_layout_spec.specs.LayoutTree.{LayoutData, Spec}
use Rattle.vx_tasks.specs.Task.{Kind, has, takes_of}
use Rattle.vx_tasks.specs.Task.Kind.{Free, Take, TakeEnd, Put, Append, Join}
use Rattle.vx_tasks.specs.Task.Prompt.{Close}
use Rattle.vx_plan.specs.PlanData.{Item, Pair, What}
use Rattle.vx_machine_turns.specs.Locals.{Local}

-- what a task begins with
pub record Seed : Type 0 where
  -- of its stream
  pub type : Ty
  pub name : List ℕ
  -- by child, the places of its queue beyond one
  pub spare : List ℕ
  -- the eof path that it was given
  pub eof : List ℕ
  pub local : Local

-- how a node's layout is made of its children's
pub data Shape : Type 0 where
  alone : LayoutData (List ℕ) → Shape
  -- type and rows
  gathers : Ty → ℕ → Shape
  struct_of : Ty → ℕ → Shape
  list_of : Ty → ℕ → Shape
  -- also the rows of each run
  runs_of : Ty → ℕ → List ℕ → Shape
  -- also the zone length and the table's columns
  zones_of : Ty → ℕ → ℕ → List Spec → Shape
  -- its only child's
  passes : Shape

pub record Act : Type 0 where
  pub kind : Kind
  -- The children that it starts. A task's children are numbered in the order in which they are started.
  pub starts : List Seed
  -- the items that it puts on the queues of children, by number
  pub gives : List (ℕ × Item)
  -- the children whose queues it closes
  pub shuts : List ℕ
  -- the paths that are held for it until it is done
  pub uses : List (List ℕ)
  -- the paths that the task holds after it
  pub holds : List (List ℕ)
  pub refusal : Option What
  -- of a Batch: it reads a batch of another type, and so refuses
  pub misfit : Bool
  -- what an Append writes
  pub bytes : List ℕ
  pub shape : Option Shape
  -- what is added to the tracker, and taken from it
  pub raises : ℕ
  pub lowers : ℕ
  -- rows, elements, sizes and lengths that it counts, which must fit 64 bits
  pub numbers : List ℕ
  -- how far the pointers come that it moves, index by index
  pub indices : List ℕ

-- what a task does at an item: the first action takes it
pub record Turn : Type 0 where
  pub first : Act
  pub more : List Act
  pub after : Local

-- ---- actions

-- nothing but its kind
abbrev pub does : Kind → Act
does k = record {
  kind = k;
  starts = [];
  gives = [];
  shuts = [];
  uses = [];
  holds = [];
  refusal = None;
  misfit = false;
  bytes = [];
  shape = None;
  raises = 0;
  lowers = 0;
  numbers = [];
  indices = [];
}

abbrev pub put_item : ℕ → Item → Act
put_item j i = record (does (Put j)) { gives = (j, i) ∷ []; uses = i.0 ∷ [] }

-- each to the only child
abbrev pub put_all : List Item → List Act
put_all [] = []
put_all (i ∷ is) = put_item 0 i ∷ put_all is

abbrev pub close_queues : List ℕ → Act
close_queues js = record (does (Free Close)) { shuts = js }

abbrev pub ends_as : Shape → Act
ends_as h = record (does TakeEnd) { shape = Some h }

-- ---- what is read off a list of actions

abbrev pub for_child : ℕ → List (ℕ × Item) → List Item
for_child j [] = []
for_child j (g ∷ gs) = cond (nat_eq g.0 j) (g.1 ∷ for_child j gs) (for_child j gs)

-- the items that they give to child j
abbrev pub gifts : ℕ → List Act → List Item
gifts j [] = []
gifts j (a ∷ acts) = for_child j a.gives ++ gifts j acts

-- whether one of them closes child j's queue
abbrev pub shut : ℕ → List Act → Bool
shut j [] = false
shut j (a ∷ acts) = has j a.shuts || shut j acts

-- the children that they start, and how many
abbrev pub births : List Act → List Seed
births [] = []
births (a ∷ acts) = a.starts ++ births acts

abbrev pub born : List Act → ℕ
born [] = 0
born (a ∷ acts) = length a.starts + born acts

-- how many items they take
abbrev pub takes : List Act → ℕ
takes [] = 0
takes (a ∷ acts) = takes_of a.kind + takes acts

abbrev pub refuses : Act → Bool
refuses a = a.misfit || is_some a.refusal

abbrev pub any_refuses : List Act → Bool
any_refuses [] = false
any_refuses (a ∷ acts) = refuses a || any_refuses acts

abbrev pub told : Option What → List What → List What
told (Some w) later = w ∷ []
told None later = later

-- what the first that refuses does refuse
abbrev pub first_refusal : List Act → List What
first_refusal [] = []
first_refusal (a ∷ acts) = told a.refusal (first_refusal acts)

abbrev pub written_by : Kind → List ℕ → List Pair
written_by (Append path) bytes = (path, bytes) ∷ []
written_by (Free w) bytes = []
written_by Take bytes = []
written_by TakeEnd bytes = []
written_by (Put c) bytes = []
written_by Join bytes = []

-- what they append
abbrev pub wrote : List Act → List Pair
wrote [] = []
wrote (a ∷ acts) = written_by a.kind a.bytes ++ wrote acts

abbrev pub or_else : {A : Type 0} → Option A → Option A → Option A
or_else (Some x) y = Some x
or_else None y = y

abbrev pub shape_in : List Act → Option Shape
shape_in [] = None
shape_in (a ∷ acts) = or_else a.shape (shape_in acts)

abbrev pub numbers_in : List Act → List ℕ
numbers_in [] = []
numbers_in (a ∷ acts) = a.numbers ++ numbers_in acts

abbrev pub indices_in : List Act → List ℕ
indices_in [] = []
indices_in (a ∷ acts) = a.indices ++ indices_in acts

abbrev pub raised_in : List Act → ℕ
raised_in [] = 0
raised_in (a ∷ acts) = a.raises + raised_in acts

abbrev pub lowered_in : List Act → ℕ
lowered_in [] = 0
lowered_in (a ∷ acts) = a.lowers + lowered_in acts
