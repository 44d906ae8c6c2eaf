-- Nodes that regroup: a chunk is acted on when the next one comes, or the end.
use Rattle.std.specs.Prelude.{ℕ, ◌+◌, List, [], ◌∷◌, ◌++◌, Option, Some, None}
use Rattle.vx_model.specs.Ty.{Ty}
use Rattle.vx_model.specs.Words.{total_by}
use Rattle.vx_model.specs.CellData.{CellData}
use Rattle.vx_model.specs.ChunkData.{ChunkData, held}
use Rattle.vx_path.specs.Path.{under}
use Rattle.vx_rules.specs.Regroup.{Rule, ranked}
use Rattle.vx_rules.specs.Blocks.{BlockOptions, blocks}
use Rattle.vx_rules.specs.Flushes.{flushes}
use Rattle.vx_tasks.specs.Task.Kind.{Take}
use Rattle.vx_plan.specs.PlanData.{Item, rows_in}
use Rattle.vx_plan.specs.GroupNode.{left_count, rest_count, tested_at}
use Rattle.vx_machine_turns.specs.Locals.{Local, GroupedNode}
use Rattle.vx_machine_turns.specs.Acts.{Seed, Act, Turn, does, put_item, close_queues, ends_as, passes}
use Rattle.vx_machine_turns.specs.Starts.{seed_of}

-- a rule, what is counted of a chunk that is taken and of one that is acted on, and what a chunk counts in the tracker
pub record Grouper (S : Type 0) : Type 0 where
  pub rule : Rule S
  pub taken : S → ChunkData → List ℕ
  pub acted : S → ChunkData → List ℕ
  pub weight : ChunkData → ℕ

abbrev pub block_grouper : BlockOptions → Ty → Grouper (List CellData)
block_grouper o t = record { rule = blocks o t; taken = λ rows c. []; acted = λ rows c. tested_at o t rows c; weight = λ c. 0 }

-- also the held size of the buffer with the chunk
abbrev pub byte_grouper : ℕ → Grouper (List ChunkData)
byte_grouper size = record { rule = flushes size; taken = λ ps c. held c ∷ total_by held (ps ++ (c ∷ [])) ∷ []; acted = λ ps c. []; weight = held }

-- what leaves is taken from the tracker
abbrev pub weighed_puts : (ChunkData → ℕ) → List Item → List Act
weighed_puts weight [] = []
weighed_puts weight (i ∷ is) = record (put_item 0 i) { lowers = weight i.1 } ∷ weighed_puts weight is

-- x is held besides the newest chunk; `after` makes a local of what is held, the newest chunk and the rows so far
abbrev pub group_turn : {S : Type 0} → Grouper S → (S → Option Item → ℕ → Local) → S → Option Item → ℕ → Item → Turn
group_turn g after x None rows i = record {
  first = record (does Take) { raises = g.weight i.1; numbers = (rows + rows_in i.1) ∷ g.taken x i.1 };
  more = [];
  after = after x (Some i) (rows + rows_in i.1);
}
group_turn g after x (Some j) rows i = record {
  first = record (does Take) {
    raises = g.weight i.1;
    numbers = (rows + rows_in i.1) ∷ (g.taken (g.rule.holds x j.1) i.1 ++ g.acted x j.1);
    indices = left_count g.rule x j.1;
  };
  more = weighed_puts g.weight (ranked j.0 0 (g.rule.leaves x j.1));
  after = after (g.rule.holds x j.1) (Some i) (rows + rows_in i.1);
}

abbrev pub group_end : {S : Type 0} → Grouper S → S → Option Item → Act
group_end g x None = ends_as passes
group_end g x (Some j) = record (ends_as passes) { numbers = g.acted x j.1; indices = rest_count g.rule x j.1 }

abbrev pub group_rest : {S : Type 0} → Grouper S → S → Option Item → List Item
group_rest g x None = []
group_rest g x (Some j) = ranked j.0 0 (g.rule.rest x j.1)

abbrev pub group_ends : {S : Type 0} → Grouper S → S → Option Item → List Act
group_ends g x j = weighed_puts g.weight (group_rest g x j) ++ (close_queues (0 ∷ []) ∷ [])

-- the newest chunk's path
abbrev pub group_kept : Option Item → List (List ℕ)
group_kept None = []
group_kept (Some j) = j.0 ∷ []

abbrev pub grouped_firsts : GroupedNode → List Seed
grouped_firsts n = seed_of n.child n.mark (under n.name 0) n.eof ∷ []
