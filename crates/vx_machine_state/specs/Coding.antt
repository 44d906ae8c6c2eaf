-- What a dictionary node does with its runs.
use Rattle.std.specs.Prelude.{ℕ, suc, ◌+◌, ◌*◌, Bool, true, false, List, [], ◌∷◌, ◌++◌, map, length}
use Rattle.vx_model.specs.Ty.{Ty}
use Rattle.vx_model.specs.ChunkData.{plain_piece}
use Rattle.vx_path.specs.Path.{Eof, under, next}
use Rattle.vx_layout_spec.specs.LayoutTree.{LayoutData, dict_layout}
use Rattle.vx_rules.specs.Runs.{Cut, codes_piece}
use Rattle.vx_plan.specs.PlanData.{Item}
use Rattle.vx_machine_turns.specs.Locals.{RunsSoFar}
use Rattle.vx_machine_turns.specs.Dict.{Stretch, ended_rows, rest_eof, next_cut, after_cut, last_stretches}
use Rattle.vx_machine_state.specs.Coder.{Coder, node_of}
use Rattle.vx_machine_state.specs.State.{Next, put, open_run, end_run}

-- before the first run
abbrev pub no_runs : Eof → RunsSoFar
no_runs e = record { base = 0; eof = e; begun = false; distinct = []; rows = 0; ended = [] }

-- how the newest chunk is cut, and how far it comes then
abbrev pub cut_of : Coder → RunsSoFar → Item → Cut
cut_of n r j = next_cut (node_of n) r j

abbrev pub runs_after : Coder → RunsSoFar → Item → RunsSoFar
runs_after n r j = after_cut (node_of n) r j

abbrev pub all_stretches : Coder → RunsSoFar → Item → List Stretch
all_stretches n r j = last_stretches (node_of n) r j

-- the rows of each run, once all stretches of the newest chunk end
abbrev pub run_rows : Coder → RunsSoFar → Item → List ℕ
run_rows n r j = r.ended ++ ended_rows r.rows (all_stretches n r j)

-- how far pointers come where a chunk is cut: the one behind the runs' eof paths, and the one below the chunk's path
abbrev pub cut_indices : Coder → RunsSoFar → Item → List ℕ
cut_indices n r j = (rest_eof (runs_after n r j)).last ∷ (2 * length (cut_of n r j).closed + 1) ∷ []

abbrev pub last_indices : Coder → RunsSoFar → Item → List ℕ
last_indices n r j = (rest_eof (runs_after n r j)).last ∷ (2 * suc (length (cut_of n r j).closed)) ∷ []

-- ---- what is to be done

pub data Deed : Type 0 where
  -- codes for child j; they are the first of their run, which then starts at the pointer, or they aren't
  puts_codes : ℕ → Eof → Bool → Item → Deed
  -- values for child j + 1; then the run has ended
  puts_values : ℕ → Item → Deed

-- of the runs that end at the chunk at p, the first of which may have begun; from this rank on
abbrev pub ended_deeds : Coder → List ℕ → ℕ → ℕ → Eof → Bool → List Stretch → List Deed
ended_deeds n p rank j e begun [] = []
ended_deeds n p rank j e begun (x ∷ xs) =
    puts_codes j e begun (under p rank, codes_piece n.options x.0) ∷ puts_values j (under p (suc rank), plain_piece n.type x.1) ∷ ended_deeds n p (rank + 2) (suc (suc j)) (next (next e)) false xs

-- and of the run that goes on
abbrev pub cut_deeds : Coder → List ℕ → ℕ → ℕ → Eof → Bool → List Stretch → List ℕ → List Deed
cut_deeds n p rank j e begun [] codes = puts_codes j e begun (under p rank, codes_piece n.options codes) ∷ []
cut_deeds n p rank j e begun (x ∷ xs) codes =
    puts_codes j e begun (under p rank, codes_piece n.options x.0) ∷ puts_values j (under p (suc rank), plain_piece n.type x.1) ∷ cut_deeds n p (rank + 2) (suc (suc j)) (next (next e)) false xs codes

-- at the newest chunk, where another one comes, and at the end
abbrev pub deeds_at : Coder → RunsSoFar → Item → List Deed
deeds_at n r j = cut_deeds n j.0 0 r.base r.eof r.begun (cut_of n r j).closed (cut_of n r j).codes

abbrev pub last_deeds : Coder → RunsSoFar → Item → List Deed
last_deeds n r j = ended_deeds n j.0 0 r.base r.eof r.begun (all_stretches n r j)

abbrev pub deed_next : Coder → Deed → Next
deed_next n (puts_codes j e true i) = put j i
deed_next n (puts_codes j e false i) = open_run n j e i
deed_next n (puts_values j i) = end_run j i

abbrev pub deed_nexts : Coder → List Deed → List Next
deed_nexts n ds = map (deed_next n) ds

-- ---- layouts

-- each run's rows, with its codes' layout and its values'
abbrev pub runs_laid : {A : Type 0} → Ty → List ℕ → List (LayoutData A) → List (LayoutData A)
runs_laid t (n ∷ ns) (codes ∷ values ∷ ls) = dict_layout t n values codes ∷ runs_laid t ns ls
runs_laid t (n ∷ ns) (codes ∷ []) = []
runs_laid t (n ∷ ns) [] = []
runs_laid t [] ls = []
