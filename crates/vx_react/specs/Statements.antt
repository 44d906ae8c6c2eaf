-- What goes to each place is the stream that the definitions over whole streams tell.
use Rattle.std.specs.Prelude.{◌≡◌, ℕ, zero, suc, ◌+◌, ◌*◌, ◌<◌, nat_lt, Bool, true, false, not, List, [], ◌∷◌, ◌++◌, length, get_or}
use Rattle.vx_model.specs.Ty.{Ty, Tys, struct}
use Rattle.vx_model.specs.ChunkData.{piece_type, is_sound}
use Rattle.vx_layout_spec.specs.Parts.{all_elements}
use Rattle.vx_rules.specs.Stream.{Chunk, chunk_paths, stream_cells}
use Rattle.vx_rules.specs.Regroup.{regrouped}
use Rattle.vx_rules.specs.Blocks.{BlockOptions, blocks}
use Rattle.vx_rules.specs.Flushes.{flushes, chunk_pieces, collected}
use Rattle.vx_rules.specs.Columns.{Split, struct_splits, list_splits, column, other_columns}
use Rattle.vx_rules.specs.Runs.{DictOptions, Cut, runs}
use Rattle.vx_react.specs.declared.place.Place.{Place}
use Rattle.vx_react.specs.declared.place.Place.TheVariants.{Column, Codes, Values}
use Rattle.vx_react.specs.Reactor.{Reactor, Sent, sends, state_after, reactions, sent_to, child_outputs, child_sends, reacting, collector}
use Rattle.vx_react.specs.Cutter.{next_number, cut_outputs, cutter, no_run}
use Rattle.vx_react.specs.Splitter.{split_sends, struct_splitter, struct_width, list_splitter, list_width}

-- Of two lists joined each place has its parts joined.
abbrev pub SentAppends : Type 0
SentAppends = (p : Place) (xs ys : List Sent) → sent_to p (xs ++ ys) ≡ sent_to p xs ++ sent_to p ys

-- What is sent is the regrouped stream, to the child.
pub record GivesRegrouped (items : List Chunk) (ended : Bool) : Type 0 where
  pub by_blocks : (o : BlockOptions) (t : Ty) → reactions (reacting (blocks o t)) [] items ended ≡ child_sends (regrouped (blocks o t) [] items ended)
  pub by_bytes : (size : ℕ) → reactions (reacting (flushes size)) [] items ended ≡ child_sends (regrouped (flushes size) [] items ended)

abbrev pub RegroupingReacts : Type 0
RegroupingReacts = (items : List Chunk) (ended : Bool) → GivesRegrouped items ended

-- Before the last chunk collecting sends nothing. What it gives there is the collected stream, which has that chunk's path.
pub record GivesCollected (t : Ty) (items : List Chunk) (c : Chunk) : Type 0 where
  pub before : sends (collector t) [] items ≡ []
  pub last : (collector t).gives (state_after (collector t) [] items) c.1 true ≡ child_outputs (chunk_pieces (collected t (items ++ (c ∷ [])) true))
  pub path : chunk_paths (collected t (items ++ (c ∷ [])) true) ≡ c.0 ∷ []

abbrev pub CollectingReacts : Type 0
CollectingReacts = (t : Ty) (items : List Chunk) (c : Chunk) → GivesCollected t items c

-- ---- runs

abbrev pub has_chunk : List Chunk → Bool
has_chunk [] = false
has_chunk (c ∷ cs) = true

-- What goes to the places of run j are the codes and the values of run j; there are none past the last run. So a run is there
-- where codes are sent for it, and has ended where values are.
pub record GivesRun (o : DictOptions) (t : Ty) (items : List Chunk) (ended : Bool) (j : ℕ) : Type 0 where
  pub codes : sent_to (Codes j) (reactions (cutter o t) (cutter o t).start items ended) ≡ (get_or (runs o t items ended) j no_run).codes
  pub values : sent_to (Values j) (reactions (cutter o t) (cutter o t).start items ended) ≡ (get_or (runs o t items ended) j no_run).values
  pub begun : nat_lt j (length (runs o t items ended)) ≡ has_chunk (sent_to (Codes j) (reactions (cutter o t) (cutter o t).start items ended))
  pub closed : (get_or (runs o t items ended) j no_run).closed ≡ has_chunk (sent_to (Values j) (reactions (cutter o t) (cutter o t).start items ended))

abbrev pub is_run_place : Place → Bool
is_run_place (Codes j) = true
is_run_place (Values j) = true
is_run_place p = false

-- each run's codes and values, and nothing to other places
pub record GivesRuns (o : DictOptions) (t : Ty) (items : List Chunk) (ended : Bool) : Type 0 where
  pub each : (j : ℕ) → GivesRun o t items ended j
  pub elsewhere : (p : Place) → is_run_place p ≡ false → sent_to p (reactions (cutter o t) (cutter o t).start items ended) ≡ []

abbrev pub RunsReact : Type 0
RunsReact = (o : DictOptions) (t : Ty) (items : List Chunk) (ended : Bool) → GivesRuns o t items ended

-- At a chunk two outputs are given for each run that ends in it, and one for the run that goes on, two if it ends with the
-- stream. Runs are numbered in order.
pub record CutCounts (o : DictOptions) (t : Ty) (n : ℕ) (cut : Cut) : Type 0 where
  pub going_on : length (cut_outputs o t n cut false) ≡ 2 * length cut.closed + 1
  pub at_end : length (cut_outputs o t n cut true) ≡ 2 * suc (length cut.closed)
  pub number : next_number n cut.closed ≡ n + length cut.closed

abbrev pub CutsAreCounted : Type 0
CutsAreCounted = (o : DictOptions) (t : Ty) (n : ℕ) (cut : Cut) → CutCounts o t n cut

-- The number that the cutter keeps behind a stream's chunks tells how many runs have ended. One more has begun.
abbrev pub RunsAreNumbered : Type 0
RunsAreNumbered = (o : DictOptions) (t : Ty) (c : Chunk) (cs : List Chunk) (newest : Chunk)
    → length (runs o t (c ∷ cs ++ (newest ∷ [])) false) ≡ suc (state_after (cutter o t) (cutter o t).start (c ∷ cs)).number

-- ---- columns

-- the columns behind the first k
abbrev pub columns_after : ℕ → List Split → List Split
columns_after zero xs = xs
columns_after (suc k) xs = columns_after k (other_columns xs)

-- the stream of column k
abbrev pub column_at : ℕ → List Split → List Chunk
column_at k xs = column k (columns_after k xs)

-- A splitter doesn't wait: at each chunk it sends the chunk's columns, at the last one as at others. What goes to each place
-- is the column of its number; `width` tells how many there are.
pub record GivesColumns {S : Type 0} (r : Reactor S) (items : List Chunk) (xs : List Split) (width : ℕ) : Type 0 where
  pub each : sends r r.start items ≡ split_sends xs
  pub ended : reactions r r.start items true ≡ split_sends xs
  pub columns : (k : ℕ) → k < width → sent_to (Column k) (sends r r.start items) ≡ column_at k xs

-- each chunk is one of the type, and meets the conditions of its encodings
abbrev pub SoundChunks : Ty → List Chunk → Type 0
SoundChunks t [] = Unit {0}
SoundChunks t (c ∷ cs) = (piece_type c.1 ≡ t) × (is_sound c.1 ≡ true) × SoundChunks t cs

abbrev pub StructsReact : Type 0
StructsReact = (fs : Tys) (n : Bool) (items : List Chunk) → SoundChunks (struct fs n) items
    → GivesColumns (struct_splitter fs n) items (struct_splits fs n items) (struct_width fs n)

abbrev pub ListsReact : Type 0
ListsReact = (t : Ty) (n : Bool) (items : List Chunk) → GivesColumns (list_splitter t n) items (list_splits t n true 0 items) (list_width n)

-- The splitter of lists keeps of a stream's chunks whether there were none, and how many elements they have.
pub record ListsCount (t : Ty) (n : Bool) (items : List Chunk) : Type 0 where
  pub first : (state_after (list_splitter t n) (list_splitter t n).start items).first ≡ not (has_chunk items)
  pub base : (state_after (list_splitter t n) (list_splitter t n).start items).base ≡ length (all_elements (stream_cells items))

abbrev pub ListsAreCounted : Type 0
ListsAreCounted = (t : Ty) (n : Bool) (items : List Chunk) → ListsCount t n items
