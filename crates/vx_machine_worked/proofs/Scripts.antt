-- Scripts of small writes, by kind: what is held at the start, and each action with what is held after it and the children
-- that it starts; and the eof paths of all tasks.
use Rattle.std.proofs.Common.{◌≡◌, true, false, [], ◌∷◌, None, Some, refl}
use Rattle.std.specs.Prelude.{codes}
use Rattle.vx_model.specs.Ty.{list, struct, field, no_fields}
use Rattle.vx_tasks.specs.Task.{Forest}
use Rattle.vx_strategy_spec.specs.StrategyData.{grouped, compressed, structured, listed, no_ways, way_at, by_bytes, into_one}
use Rattle.vx_machine_worked.proofs.Words.{free, tasks, open_tasks, dictionaries, zones, blocks, batch, end, call, close, take, put, append, join, script_at, eofs, told, deed, starter, flats, chunks, i64, u8, text, i64s, u8s, texts, records, lists}

-- ---- flat

flat_none : script_at (1 ∷ []) (tasks free flats i64 []) ≡ told [] (deed take [] ∷ [])
flat_none = refl

flat_one : script_at (1 ∷ []) (tasks free flats i64 (i64s (1 ∷ []) ∷ [])) ≡ told [] (
    deed take ((0 ∷ 0 ∷ []) ∷ []) ∷ deed take ((0 ∷ 0 ∷ []) ∷ []) ∷ deed append [] ∷ [])
flat_one = refl

flat_open : script_at (1 ∷ []) (open_tasks free flats i64 (i64s (1 ∷ []) ∷ [])) ≡ told [] (deed take ((0 ∷ 0 ∷ []) ∷ []) ∷ [])
flat_open = refl

flat_two : script_at (1 ∷ []) (tasks free flats i64 (i64s (1 ∷ []) ∷ i64s (2 ∷ 3 ∷ []) ∷ [])) ≡ told [] (
    deed take ((0 ∷ 0 ∷ []) ∷ []) ∷ deed take [] ∷ deed take [] ∷ [])
flat_two = refl

-- ---- chunked

chunked_none : script_at (1 ∷ []) (tasks free chunks i64 []) ≡ told ((1 ∷ []) ∷ []) (deed take [] ∷ deed join [] ∷ [])
chunked_none = refl

chunked_two : script_at (1 ∷ []) (tasks free chunks i64 (i64s (1 ∷ []) ∷ i64s [] ∷ [])) ≡ told ((1 ∷ []) ∷ []) (
    starter take (0 ∷ []) ((2 ∷ []) ∷ []) ∷ starter take (1 ∷ []) ((3 ∷ []) ∷ []) ∷ deed take [] ∷ deed join [] ∷ [])
chunked_two = refl

chunked_open : script_at (1 ∷ []) (open_tasks free chunks i64 (i64s (1 ∷ []) ∷ i64s [] ∷ [])) ≡ told ((1 ∷ []) ∷ []) (starter take (0 ∷ []) ((2 ∷ []) ∷ []) ∷ starter take (1 ∷ []) ((3 ∷ []) ∷ []) ∷ [])
chunked_open = refl

chunked_eofs : eofs (tasks free chunks i64 (i64s (1 ∷ []) ∷ i64s [] ∷ [])) ≡
    (0 ∷ [], []) ∷ (1 ∷ [], 1 ∷ []) ∷ (1 ∷ 0 ∷ [], 1 ∷ 0 ∷ []) ∷ (1 ∷ 1 ∷ [], 2 ∷ 0 ∷ []) ∷ []
chunked_eofs = refl

-- ---- structs and lists

abbrev struct_none_tree : Forest
struct_none_tree = tasks free (structured flats chunks no_ways) (struct (field (codes "a") i64 (field (codes "b") u8 no_fields)) false) []

struct_none : script_at (1 ∷ []) struct_none_tree ≡ told [] (
    deed take [] ∷ deed close [] ∷ deed join [] ∷ [])
struct_none = refl

abbrev struct_one_tree : Forest
struct_one_tree = tasks free (structured flats chunks no_ways) (struct (field (codes "a") i64 (field (codes "b") u8 no_fields)) false) (records (struct (field (codes "a") i64 (field (codes "b") u8 no_fields)) false) ((1 ∷ 2 ∷ []) ∷ []) ∷ [])

struct_one : script_at (1 ∷ []) struct_one_tree ≡ told [] (
    deed take ((0 ∷ 0 ∷ 0 ∷ []) ∷ (0 ∷ 0 ∷ 1 ∷ []) ∷ []) ∷ deed put ((0 ∷ 0 ∷ 1 ∷ []) ∷ []) ∷ deed put [] ∷ deed take [] ∷ deed close [] ∷ deed join []
    ∷ [])
struct_one = refl

abbrev struct_open_tree : Forest
struct_open_tree = open_tasks free (structured flats chunks no_ways) (struct (field (codes "a") i64 (field (codes "b") u8 no_fields)) false) (records (struct (field (codes "a") i64 (field (codes "b") u8 no_fields)) false) ((1 ∷ 2 ∷ []) ∷ []) ∷ [])

struct_open : script_at (1 ∷ []) struct_open_tree ≡ told [] (
    deed take ((0 ∷ 0 ∷ 0 ∷ []) ∷ (0 ∷ 0 ∷ 1 ∷ []) ∷ []) ∷ deed put ((0 ∷ 0 ∷ 1 ∷ []) ∷ []) ∷ deed put [] ∷ [])
struct_open = refl

struct_eofs : eofs struct_none_tree ≡
    (0 ∷ [], []) ∷ (1 ∷ [], 1 ∷ []) ∷ (1 ∷ 0 ∷ [], 1 ∷ 0 ∷ []) ∷ (1 ∷ 1 ∷ [], 2 ∷ 0 ∷ []) ∷ []
struct_eofs = refl

abbrev nullable_eofs_tree : Forest
nullable_eofs_tree = tasks free (structured chunks chunks (way_at (codes "b" ∷ []) flats no_ways)) (struct (field (codes "a") i64 (field (codes "b") u8 no_fields)) true) []

nullable_eofs : eofs nullable_eofs_tree ≡
    (0 ∷ [], []) ∷ (1 ∷ [], 1 ∷ []) ∷ (1 ∷ 0 ∷ [], 1 ∷ 0 ∷ []) ∷ (1 ∷ 1 ∷ [], 2 ∷ 0 ∷ []) ∷ (1 ∷ 2 ∷ [], 3 ∷ 0 ∷ []) ∷ []
nullable_eofs = refl

abbrev no_columns_tree : Forest
no_columns_tree = tasks free (structured flats chunks no_ways) (struct no_fields false) (records (struct no_fields false) ([] ∷ []) ∷ records (struct no_fields false) ([] ∷ [] ∷ []) ∷ [])

no_columns : script_at (1 ∷ []) no_columns_tree ≡ told [] (
    deed take [] ∷ deed take [] ∷ deed take [] ∷ [])
no_columns = refl

list_none : script_at (1 ∷ []) (tasks free (listed chunks chunks chunks flats) (list i64 false) []) ≡ told [] (deed take [] ∷ [])
list_none = refl

abbrev list_one_tree : Forest
list_one_tree = tasks free (listed chunks chunks chunks flats) (list i64 true) (lists (list i64 true) ((1 ∷ 2 ∷ []) ∷ []) ∷ [])

list_one : script_at (1 ∷ []) list_one_tree ≡ told [] (
    deed take ((0 ∷ 0 ∷ 0 ∷ []) ∷ (0 ∷ 0 ∷ 1 ∷ []) ∷ (0 ∷ 0 ∷ 2 ∷ []) ∷ []) ∷ deed put ((0 ∷ 0 ∷ 1 ∷ []) ∷ (0 ∷ 0 ∷ 2 ∷ []) ∷ [])
    ∷ deed put ((0 ∷ 0 ∷ 2 ∷ []) ∷ []) ∷ deed put [] ∷ deed take [] ∷ deed close [] ∷ deed join [] ∷ [])
list_one = refl

-- ---- regrouped

blocks_none : script_at (1 ∷ []) (tasks free (blocks 0 2 chunks) u8 []) ≡ told [] (deed take [] ∷ deed close [] ∷ [])
blocks_none = refl

blocks_two : script_at (1 ∷ []) (tasks free (blocks 0 2 chunks) u8 (u8s (1 ∷ 2 ∷ 3 ∷ []) ∷ u8s (4 ∷ 5 ∷ []) ∷ [])) ≡ told [] (
    deed take ((0 ∷ 0 ∷ []) ∷ []) ∷ deed take ((0 ∷ 0 ∷ 0 ∷ []) ∷ (0 ∷ 1 ∷ []) ∷ []) ∷ deed put ((0 ∷ 1 ∷ []) ∷ [])
    ∷ deed take ((0 ∷ 1 ∷ 0 ∷ []) ∷ (0 ∷ 1 ∷ 1 ∷ []) ∷ []) ∷ deed put ((0 ∷ 1 ∷ 1 ∷ []) ∷ []) ∷ deed put [] ∷ deed close [] ∷ [])
blocks_two = refl

blocks_open : script_at (1 ∷ []) (open_tasks free (blocks 0 2 chunks) u8 (u8s (1 ∷ 2 ∷ 3 ∷ []) ∷ u8s (4 ∷ 5 ∷ []) ∷ [])) ≡ told [] (
    deed take ((0 ∷ 0 ∷ []) ∷ []) ∷ deed take ((0 ∷ 0 ∷ 0 ∷ []) ∷ (0 ∷ 1 ∷ []) ∷ []) ∷ deed put ((0 ∷ 1 ∷ []) ∷ []) ∷ [])
blocks_open = refl

blocks_without_output : script_at (1 ∷ []) (tasks free (blocks 9 2 chunks) u8 (u8s (1 ∷ 2 ∷ 3 ∷ []) ∷ u8s (4 ∷ 5 ∷ []) ∷ [])) ≡ told [] (
    deed take ((0 ∷ 0 ∷ []) ∷ []) ∷ deed take ((0 ∷ 1 ∷ []) ∷ []) ∷ deed take ((0 ∷ 1 ∷ 0 ∷ []) ∷ []) ∷ deed put [] ∷ deed close [] ∷ [])
blocks_without_output = refl

buffered_two : script_at (1 ∷ []) (tasks free (grouped (by_bytes 2) chunks) u8 (u8s (1 ∷ 2 ∷ []) ∷ u8s (3 ∷ 4 ∷ []) ∷ [])) ≡ told [] (
    deed take ((0 ∷ 0 ∷ []) ∷ []) ∷ deed take ((0 ∷ 1 ∷ []) ∷ []) ∷ deed take ((0 ∷ 1 ∷ 0 ∷ []) ∷ (0 ∷ 1 ∷ 1 ∷ []) ∷ []) ∷ deed put ((0 ∷ 1 ∷ 1 ∷ []) ∷ [])
    ∷ deed put [] ∷ deed close [] ∷ [])
buffered_two = refl

collect_none : script_at (1 ∷ []) (tasks free (grouped into_one chunks) i64 []) ≡ told [] (deed take [] ∷ deed close [] ∷ [])
collect_none = refl

collect_two : script_at (1 ∷ []) (tasks free (grouped into_one chunks) i64 (i64s (1 ∷ []) ∷ i64s (2 ∷ []) ∷ [])) ≡ told [] (
    deed take ((0 ∷ 0 ∷ []) ∷ []) ∷ deed take ((0 ∷ 1 ∷ []) ∷ []) ∷ deed take ((0 ∷ 1 ∷ []) ∷ []) ∷ deed put [] ∷ deed close [] ∷ [])
collect_two = refl

grouped_eofs : eofs (tasks free (grouped into_one flats) i64 []) ≡
    (0 ∷ [], []) ∷ (1 ∷ [], 1 ∷ []) ∷ (1 ∷ 0 ∷ [], 1 ∷ []) ∷ []
grouped_eofs = refl

-- ---- compressed

compressed_two : script_at (1 ∷ []) (tasks free (compressed 0 1 chunks) i64 (i64s (1 ∷ []) ∷ i64s (2 ∷ []) ∷ [])) ≡ told [] (
    deed take ((0 ∷ 0 ∷ []) ∷ []) ∷ deed call ((0 ∷ 0 ∷ []) ∷ []) ∷ deed put [] ∷ deed take ((0 ∷ 1 ∷ []) ∷ []) ∷ deed call ((0 ∷ 1 ∷ []) ∷ [])
    ∷ deed put [] ∷ deed take [] ∷ deed close [] ∷ [])
compressed_two = refl

outlet_two : script_at (1 ∷ 0 ∷ []) (tasks free (compressed 0 1 chunks) i64 (i64s (1 ∷ []) ∷ i64s (2 ∷ []) ∷ [])) ≡ told [] (
    deed take ((0 ∷ 0 ∷ []) ∷ []) ∷ deed put [] ∷ deed take ((0 ∷ 1 ∷ []) ∷ []) ∷ deed put [] ∷ deed take [] ∷ deed close [] ∷ [])
outlet_two = refl

compressed_none : script_at (1 ∷ []) (tasks free (compressed 0 1 chunks) i64 []) ≡ told [] (deed take [] ∷ deed close [] ∷ [])
compressed_none = refl

compressed_eofs : eofs (tasks free (compressed 0 1 chunks) i64 (i64s (1 ∷ []) ∷ [])) ≡
    (0 ∷ [], []) ∷ (1 ∷ [], 1 ∷ []) ∷ (1 ∷ 0 ∷ [], 1 ∷ []) ∷ (1 ∷ 1 ∷ [], 1 ∷ []) ∷ (1 ∷ 1 ∷ 0 ∷ [], 1 ∷ 0 ∷ []) ∷ []
compressed_eofs = refl

-- ---- dictionaries

dictionary_none : script_at (1 ∷ []) (tasks free (dictionaries 1000 2 2 chunks flats chunks) text []) ≡ told ((1 ∷ []) ∷ []) (starter take (0 ∷ []) [] ∷ deed close [] ∷ [])
dictionary_none = refl

dictionary_not_yet : script_at (1 ∷ []) (open_tasks free (dictionaries 1000 2 2 chunks flats chunks) text []) ≡ told ((1 ∷ []) ∷ []) ([])
dictionary_not_yet = refl

no_dictionary_eofs : eofs (tasks free (dictionaries 1000 2 2 chunks flats chunks) text []) ≡
    (0 ∷ [], []) ∷ (1 ∷ [], 1 ∷ []) ∷ (1 ∷ 0 ∷ [], 1 ∷ []) ∷ []
no_dictionary_eofs = refl

abbrev fallback_two_tree : Forest
fallback_two_tree = tasks free (dictionaries 1000 2 1 chunks flats chunks) text (texts (codes "a" ∷ []) ∷ texts (codes "b" ∷ []) ∷ [])

fallback_two : script_at (1 ∷ []) fallback_two_tree ≡ told ((1 ∷ []) ∷ []) (
    deed take ((0 ∷ 0 ∷ []) ∷ (1 ∷ []) ∷ []) ∷ starter call (0 ∷ []) ((0 ∷ 0 ∷ []) ∷ []) ∷ deed put [] ∷ deed take ((0 ∷ 1 ∷ []) ∷ []) ∷ deed put []
    ∷ deed take [] ∷ deed close [] ∷ [])
fallback_two = refl

runs_one : script_at (1 ∷ []) (tasks free (dictionaries 1000 2 2 chunks flats chunks) text (texts (codes "a" ∷ codes "b" ∷ []) ∷ [])) ≡ told ((1 ∷ []) ∷ []) (
    deed take ((0 ∷ 0 ∷ []) ∷ (1 ∷ []) ∷ []) ∷ deed call ((0 ∷ 0 ∷ []) ∷ (1 ∷ []) ∷ [])
    ∷ deed take ((0 ∷ 0 ∷ 0 ∷ []) ∷ (0 ∷ 0 ∷ 1 ∷ []) ∷ (1 ∷ []) ∷ (2 ∷ []) ∷ []) ∷ starter put (0 ∷ 1 ∷ []) ((0 ∷ 0 ∷ 1 ∷ []) ∷ []) ∷ deed put []
    ∷ deed join [] ∷ [])
runs_one = refl

abbrev runs_two_tree : Forest
runs_two_tree = tasks free (dictionaries 1000 2 2 chunks flats chunks) text (texts (codes "a" ∷ codes "b" ∷ codes "c" ∷ []) ∷ texts (codes "d" ∷ []) ∷ [])

runs_two : script_at (1 ∷ []) runs_two_tree ≡ told ((1 ∷ []) ∷ []) (
    deed take ((0 ∷ 0 ∷ []) ∷ (1 ∷ []) ∷ []) ∷ deed call ((0 ∷ 0 ∷ []) ∷ (1 ∷ []) ∷ [])
    ∷ deed take ((0 ∷ 0 ∷ 0 ∷ []) ∷ (0 ∷ 0 ∷ 1 ∷ []) ∷ (0 ∷ 0 ∷ 2 ∷ []) ∷ (0 ∷ 1 ∷ []) ∷ (1 ∷ []) ∷ (2 ∷ []) ∷ (3 ∷ []) ∷ (4 ∷ []) ∷ (5 ∷ []) ∷ [])
    ∷ starter put (0 ∷ 1 ∷ []) ((0 ∷ 0 ∷ 1 ∷ []) ∷ (0 ∷ 0 ∷ 2 ∷ []) ∷ (0 ∷ 1 ∷ []) ∷ (3 ∷ []) ∷ (4 ∷ []) ∷ (5 ∷ []) ∷ [])
    ∷ deed put ((0 ∷ 0 ∷ 2 ∷ []) ∷ (0 ∷ 1 ∷ []) ∷ (3 ∷ []) ∷ (4 ∷ []) ∷ (5 ∷ []) ∷ []) ∷ starter put (2 ∷ 3 ∷ []) ((0 ∷ 1 ∷ []) ∷ (5 ∷ []) ∷ [])
    ∷ deed take ((0 ∷ 1 ∷ 0 ∷ []) ∷ (0 ∷ 1 ∷ 1 ∷ []) ∷ []) ∷ deed put ((0 ∷ 1 ∷ 1 ∷ []) ∷ []) ∷ deed put [] ∷ deed join [] ∷ [])
runs_two = refl

abbrev runs_open_tree : Forest
runs_open_tree = open_tasks free (dictionaries 1000 2 2 chunks flats chunks) text (texts (codes "a" ∷ codes "b" ∷ codes "c" ∷ []) ∷ texts (codes "d" ∷ []) ∷ [])

runs_open : script_at (1 ∷ []) runs_open_tree ≡ told ((1 ∷ []) ∷ []) (
    deed take ((0 ∷ 0 ∷ []) ∷ (1 ∷ []) ∷ []) ∷ deed call ((0 ∷ 0 ∷ []) ∷ (1 ∷ []) ∷ [])
    ∷ deed take ((0 ∷ 0 ∷ 0 ∷ []) ∷ (0 ∷ 0 ∷ 1 ∷ []) ∷ (0 ∷ 0 ∷ 2 ∷ []) ∷ (0 ∷ 1 ∷ []) ∷ (1 ∷ []) ∷ (2 ∷ []) ∷ (3 ∷ []) ∷ (4 ∷ []) ∷ (5 ∷ []) ∷ [])
    ∷ starter put (0 ∷ 1 ∷ []) ((0 ∷ 0 ∷ 1 ∷ []) ∷ (0 ∷ 0 ∷ 2 ∷ []) ∷ (0 ∷ 1 ∷ []) ∷ (3 ∷ []) ∷ (4 ∷ []) ∷ (5 ∷ []) ∷ [])
    ∷ deed put ((0 ∷ 0 ∷ 2 ∷ []) ∷ (0 ∷ 1 ∷ []) ∷ (3 ∷ []) ∷ (4 ∷ []) ∷ (5 ∷ []) ∷ []) ∷ starter put (2 ∷ 3 ∷ []) ((0 ∷ 1 ∷ []) ∷ (5 ∷ []) ∷ []) ∷ [])
runs_open = refl

abbrev runs_eofs_tree : Forest
runs_eofs_tree = tasks free (dictionaries 1000 2 2 (grouped into_one flats) flats chunks) text (texts (codes "a" ∷ codes "b" ∷ codes "c" ∷ []) ∷ texts (codes "d" ∷ []) ∷ [])

runs_eofs : eofs runs_eofs_tree ≡
    (0 ∷ [], []) ∷ (1 ∷ [], 1 ∷ []) ∷ (1 ∷ 0 ∷ [], 1 ∷ 0 ∷ []) ∷ (1 ∷ 0 ∷ 0 ∷ [], 1 ∷ 0 ∷ []) ∷ (1 ∷ 1 ∷ [], 2 ∷ 0 ∷ []) ∷ (1 ∷ 2 ∷ [], 3 ∷ 0 ∷ [])
    ∷ (1 ∷ 2 ∷ 0 ∷ [], 3 ∷ 0 ∷ []) ∷ (1 ∷ 3 ∷ [], 4 ∷ 0 ∷ []) ∷ []
runs_eofs = refl

-- ---- zones

zones_none : script_at (1 ∷ []) (tasks free (zones 2 None 1 chunks flats) i64 []) ≡ told ((2 ∷ []) ∷ []) (
    deed take ((2 ∷ []) ∷ []) ∷ deed close ((2 ∷ []) ∷ []) ∷ deed join [] ∷ [])
zones_none = refl

zones_one : script_at (1 ∷ []) (tasks free (zones 2 None 1 chunks flats) i64 (i64s (1 ∷ 2 ∷ []) ∷ [])) ≡ told ((2 ∷ []) ∷ []) (
    deed take ((0 ∷ 0 ∷ []) ∷ (2 ∷ []) ∷ []) ∷ deed put ((2 ∷ []) ∷ []) ∷ deed take ((2 ∷ []) ∷ []) ∷ deed close ((2 ∷ []) ∷ []) ∷ starter join (1 ∷ []) []
    ∷ deed join [] ∷ [])
zones_one = refl

zones_open : script_at (1 ∷ []) (open_tasks free (zones 2 None 1 chunks flats) i64 (i64s (1 ∷ 2 ∷ []) ∷ [])) ≡ told ((2 ∷ []) ∷ []) (deed take ((0 ∷ 0 ∷ []) ∷ (2 ∷ []) ∷ []) ∷ deed put ((2 ∷ []) ∷ []) ∷ [])
zones_open = refl

zones_unrecorded : script_at (1 ∷ []) (tasks free (zones 2 (Some []) 1 chunks flats) i64 (i64s (1 ∷ []) ∷ [])) ≡ told ((2 ∷ []) ∷ []) (
    deed take ((0 ∷ 0 ∷ []) ∷ (2 ∷ []) ∷ []) ∷ deed put ((2 ∷ []) ∷ []) ∷ deed take ((2 ∷ []) ∷ []) ∷ deed close ((2 ∷ []) ∷ []) ∷ deed join [] ∷ [])
zones_unrecorded = refl

zones_eofs : eofs (tasks free (zones 2 None 2 chunks chunks) i64 (i64s (1 ∷ 2 ∷ []) ∷ [])) ≡
    (0 ∷ [], []) ∷ (1 ∷ [], 1 ∷ []) ∷ (1 ∷ 0 ∷ [], 1 ∷ 0 ∷ []) ∷ (1 ∷ 0 ∷ 0 ∷ [], 1 ∷ 0 ∷ 0 ∷ []) ∷ (1 ∷ 1 ∷ [], 3 ∷ []) ∷ (1 ∷ 1 ∷ 0 ∷ [], 3 ∷ 0 ∷ [])
    ∷ []
zones_eofs = refl

table_chunk : script_at (1 ∷ 1 ∷ []) (tasks free (zones 2 None 1 chunks flats) i64 (i64s (1 ∷ 2 ∷ []) ∷ [])) ≡ told [] (
    deed take ((2 ∷ 0 ∷ []) ∷ []) ∷ deed take ((2 ∷ 0 ∷ []) ∷ []) ∷ deed append [] ∷ [])
table_chunk = refl

-- ---- the source

source_two : script_at (0 ∷ []) (tasks free chunks i64 (i64s (1 ∷ []) ∷ i64s [] ∷ [])) ≡ told ((0 ∷ 0 ∷ []) ∷ []) (
    deed batch ((0 ∷ 0 ∷ []) ∷ (0 ∷ 1 ∷ []) ∷ []) ∷ deed put ((0 ∷ 1 ∷ []) ∷ []) ∷ deed batch ((0 ∷ 1 ∷ []) ∷ (0 ∷ 2 ∷ []) ∷ [])
    ∷ deed put ((0 ∷ 2 ∷ []) ∷ []) ∷ deed end [] ∷ deed close [] ∷ [])
source_two = refl

source_open : script_at (0 ∷ []) (open_tasks free chunks i64 (i64s (1 ∷ []) ∷ [])) ≡ told ((0 ∷ 0 ∷ []) ∷ []) (
    deed batch ((0 ∷ 0 ∷ []) ∷ (0 ∷ 1 ∷ []) ∷ []) ∷ deed put ((0 ∷ 1 ∷ []) ∷ []) ∷ deed batch [] ∷ [])
source_open = refl
