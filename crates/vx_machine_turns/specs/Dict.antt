-- A dictionary node looks at its first chunk's image. Is that a dictionary, it cuts its stream into runs, each with two
-- children, codes and values; else, and where no chunk comes, it hands its stream to the fallback.
use Rattle.std.specs.Prelude.{ℕ, suc, ◌+◌, ◌*◌, Bool, true, false, if◌then◌else◌, List, [], ◌∷◌, ◌++◌, length, None}
use Rattle.vx_model.specs.CellData.{CellData}
use Rattle.vx_model.specs.ChunkData.{plain_piece}
use Rattle.vx_path.specs.Path.{under, Eof, eof_path, inside, next}
use Rattle.vx_rules.specs.Runs.{Cut, codes_piece, cut_at}
use Rattle.vx_tasks.specs.Task.Prompt.{Call}
use Rattle.vx_tasks.specs.Task.Kind.{Free, Take, Join}
use Rattle.vx_plan.specs.PlanData.{Setting, Item, rows_in}
use Rattle.vx_plan.specs.DictNode.{is_dictionary}
use Rattle.vx_machine_turns.specs.Locals.{DictNode, RunsSoFar, fallback_local, runs_local}
use Rattle.vx_machine_turns.specs.Acts.{Seed, Act, Turn, does, put_item, ends_as, passes, runs_of, or_else}
use Rattle.vx_machine_turns.specs.Starts.{start_fault, seed_of}

-- a run that has ended: its codes in this chunk, and its distinct cells
abbrev pub Stretch : Type 0
Stretch = List ℕ × List CellData

-- ---- the fallback

abbrev pub fallback_seed : DictNode → Seed
fallback_seed n = seed_of n.fallback n.mark (under n.name 0) n.eof

-- an action that starts the fallback
abbrev pub starts_fallback : Setting → DictNode → Act → Act
starts_fallback s n a = record a { starts = fallback_seed n ∷ []; uses = eof_path n.eof ∷ []; refusal = start_fault s n.fallback n.mark }

abbrev pub fallback_first : Setting → DictNode → Item → Turn
fallback_first s n i = record { first = does Take; more = starts_fallback s n (does (Free Call)) ∷ put_item 0 i ∷ []; after = fallback_local }

abbrev pub fallback_turn : Item → Turn
fallback_turn i = record { first = does Take; more = put_item 0 i ∷ []; after = fallback_local }

abbrev pub dict_empty_end : Setting → DictNode → Act
dict_empty_end s n = starts_fallback s n (ends_as passes)

-- ---- runs

abbrev pub run_seeds : DictNode → ℕ → Eof → List Seed
run_seeds n base e = seed_of n.codes n.mark (under n.name base) (inside e) ∷ seed_of n.values n.mark (under n.name (suc base)) (inside (next e)) ∷ []

-- the codes of the chunk at p, at this rank; the first of a run start its children
abbrev pub codes_put : Setting → DictNode → List ℕ → ℕ → ℕ → Eof → Bool → List ℕ → Act
codes_put s n p rank base e begun codes = record (put_item base (under p rank, codes_piece n.options codes)) {
  starts = if begun then [] else run_seeds n base e;
  uses = under p rank ∷ (if begun then [] else eof_path e ∷ eof_path (next e) ∷ []);
  refusal = if begun then None else or_else (start_fault s n.codes n.mark) (start_fault s n.values n.mark);
}

abbrev pub values_put : DictNode → List ℕ → ℕ → ℕ → List CellData → Act
values_put n p rank base distinct = record (put_item (suc base) (under p rank, plain_piece n.type distinct)) { shuts = base ∷ suc base ∷ [] }

-- of the runs that end at the chunk
abbrev pub ended_puts : Setting → DictNode → List ℕ → ℕ → ℕ → Eof → Bool → List Stretch → List Act
ended_puts s n p rank base e begun [] = []
ended_puts s n p rank base e begun (x ∷ xs) =
    codes_put s n p rank base e begun x.0 ∷ values_put n p (suc rank) base x.1 ∷ ended_puts s n p (rank + 2) (suc (suc base)) (next (next e)) false xs

-- and of the run that goes on
abbrev pub cut_puts : Setting → DictNode → List ℕ → ℕ → ℕ → Eof → Bool → List Stretch → List ℕ → List Act
cut_puts s n p rank base e begun [] codes = codes_put s n p rank base e begun codes ∷ []
cut_puts s n p rank base e begun (x ∷ xs) codes =
    codes_put s n p rank base e begun x.0 ∷ values_put n p (suc rank) base x.1 ∷ cut_puts s n p (rank + 2) (suc (suc base)) (next (next e)) false xs codes

-- ---- behind the runs that have ended: the next one's first child and eof path

abbrev pub base_after : ℕ → List Stretch → ℕ
base_after base [] = base
base_after base (x ∷ xs) = base_after (suc (suc base)) xs

abbrev pub eof_after : Eof → List Stretch → Eof
eof_after e [] = e
eof_after e (x ∷ xs) = eof_after (next (next e)) xs

-- the rows of the runs that have ended, the first of which has some already, and of the one that goes on
abbrev pub ended_rows : ℕ → List Stretch → List ℕ
ended_rows rows [] = []
ended_rows rows (x ∷ xs) = (rows + length x.0) ∷ ended_rows 0 xs

abbrev pub open_rows : ℕ → List Stretch → List ℕ → ℕ
open_rows rows [] codes = rows + length codes
open_rows rows (x ∷ xs) codes = open_rows 0 xs codes

-- the pointer behind the runs that have begun
abbrev pub rest_eof : RunsSoFar → Eof
rest_eof r = if r.begun then next (next r.eof) else r.eof

abbrev pub next_cut : DictNode → RunsSoFar → Item → Cut
next_cut n r j = cut_at n.options n.type r.distinct j

abbrev pub after_cut : DictNode → RunsSoFar → Item → RunsSoFar
after_cut n r j = record {
  base = base_after r.base (next_cut n r j).closed;
  eof = eof_after r.eof (next_cut n r j).closed;
  begun = true;
  distinct = (next_cut n r j).distinct;
  rows = open_rows r.rows (next_cut n r j).closed (next_cut n r j).codes;
  ended = r.ended ++ ended_rows r.rows (next_cut n r j).closed;
}

-- all stretches of the last chunk end
abbrev pub last_stretches : DictNode → RunsSoFar → Item → List Stretch
last_stretches n r j = (next_cut n r j).closed ++ (((next_cut n r j).codes, (next_cut n r j).distinct) ∷ [])

-- the newest chunk j is cut when i comes
abbrev pub runs_turn : Setting → DictNode → RunsSoFar → Item → ℕ → Item → Turn
runs_turn s n r j rows i = record {
  first = record (does Take) { numbers = (rows + rows_in i.1) ∷ []; indices = (rest_eof (after_cut n r j)).last ∷ (2 * length (next_cut n r j).closed + 1) ∷ [] };
  more = cut_puts s n j.0 0 r.base r.eof r.begun (next_cut n r j).closed (next_cut n r j).codes;
  after = runs_local n (after_cut n r j) i (rows + rows_in i.1);
}

abbrev pub runs_first : DictNode → Item → Turn
runs_first n i = record {
  first = record (does Take) { numbers = (0 + rows_in i.1) ∷ [] };
  more = does (Free Call) ∷ [];
  after = runs_local n (record { base = 0; eof = n.eof; begun = false; distinct = []; rows = 0; ended = [] }) i (0 + rows_in i.1);
}

abbrev pub runs_end : DictNode → RunsSoFar → Item → ℕ → Act
runs_end n r j rows = record (ends_as (runs_of n.type rows (r.ended ++ ended_rows r.rows (last_stretches n r j)))) {
  indices = (rest_eof (after_cut n r j)).last ∷ (2 * suc (length (next_cut n r j).closed)) ∷ [];
}

abbrev pub runs_ends : Setting → DictNode → RunsSoFar → Item → List Act
runs_ends s n r j = ended_puts s n j.0 0 r.base r.eof r.begun (last_stretches n r j) ++ (does Join ∷ [])

-- the newest chunk's path, and the pointer behind the runs that have begun
abbrev pub runs_kept : RunsSoFar → Item → List (List ℕ)
runs_kept r j = j.0 ∷ eof_path (rest_eof r) ∷ []

-- ---- the first chunk

abbrev pub dict_turn : Setting → DictNode → Item → Turn
dict_turn s n i = if is_dictionary (s.image n.options.probe i.1) then runs_first n i else fallback_first s n i

abbrev pub dict_kept : DictNode → List (List ℕ)
dict_kept n = eof_path n.eof ∷ []
