-- A column in blocks of a zone's rows, each of them recorded: nothing is refused, and the rows and their sizes bound what is written.
use Rattle.std.proofs.Common.{◌≡◌, ℕ, ◌+◌, ◌-◌, ◌*◌, ◌<◌, ◌≤◌, Bool, true, false, List, [], ◌∷◌, ◌++◌, length, take, drop, ap, ◌∙◌, arith, length-append}
use Rattle.std.specs.Prelude.{if◌then◌else◌}
use Rattle.vx_model.specs.Words.{total_by, all_by}
use Rattle.vx_model.specs.Ty.{Ty}
use Rattle.vx_model.specs.CellData.{CellData, cell_size}
use Rattle.vx_model.specs.ChunkData.{cells, is_dict_type}
use Rattle.vx_path.specs.Path.{Eof, inside}
use Rattle.vx_rules.specs.Stream.{stream_cells}
use Rattle.vx_rules.specs.Regroup.{regrouped}
use Rattle.vx_rules.specs.Flushes.{chunk_pieces}
use Rattle.vx_rules.specs.Blocks.{is_cut, cut_rows, tested_sizes, cut_off, left_over, last_block, sizes_at, check_points, blocks}
use Rattle.vx_rules.specs.Runs.{DictOptions}
use Rattle.vx_rules.proofs.RuleLaws.{regrouping_keeps_rows}
use Rattle.vx_strategy_spec.specs.StrategyData.{FlatOptions, ZonedOptions, by_blocks}
use Rattle.vx_plan.specs.PlanData.{Setting, Item, Plan, Node, row_totals}
use Rattle.vx_plan.specs.FlatNode.{flat_node}
use Rattle.vx_plan.specs.GroupNode.{grouped_node, counted_at, block_count, block_rest}
use Rattle.vx_plan.specs.ZonedNode.{recorded, zoned_node}
use Rattle.vx_generator_laws.proofs.Sums.{total-append, total-take, total-drop}
use Rattle.vx_generator_laws.proofs.RunSums.{in_all}
use Rattle.vx_generator_laws.proofs.BlockStreams.{Zones, Short, AllPlain, whole_blocks, Left, at_chunk, blocks_are_zones, blocks_plain, zones_few, rows_total}
use Rattle.vx_generator_laws.proofs.Tame.{AtMost, most_append, most_up, Tame, tame_up, most_totals}
use Rattle.vx_generator_laws.proofs.DictPlans.{Ample, mass, slots, blocks_node, coded_tame}
use Rattle.vx_generator_laws.proofs.ZonePlans.{AllBounded, SmallTables, zoned_tame}

-- a cell and its size
abbrev pub weight : Ty → CellData → ℕ
weight t c = 1 + cell_size t c

rows_weight : (t : Ty) (cs : List CellData) → length cs + total_by (cell_size t) cs ≡ total_by (weight t) cs
rows_weight t [] = omega arith
rows_weight t (c ∷ cs) = let r : length cs + total_by (cell_size t) cs ≡ total_by (weight t) cs = rows_weight t cs in omega arith

slots_total : (items : List Item) → in_all slots items ≡ 2 * length items + 2 * length (stream_cells items)
slots_total [] = omega arith
slots_total (c ∷ cs) =
    let r : in_all slots cs ≡ 2 * length cs + 2 * length (stream_cells cs) = slots_total cs in
    let e : length (cells c.1 ++ stream_cells cs) ≡ length (cells c.1) + length (stream_cells cs) = length-append (cells c.1) (stream_cells cs) in omega arith

mass_total : (t : Ty) (items : List Item) → in_all (mass t) items ≡ length items + total_by (weight t) (stream_cells items)
mass_total t [] = omega arith
mass_total t (c ∷ cs) =
    let r : in_all (mass t) cs ≡ length cs + total_by (weight t) (stream_cells cs) = mass_total t cs in
    let e : total_by (weight t) (cells c.1 ++ stream_cells cs) ≡ total_by (weight t) (cells c.1) + total_by (weight t) (stream_cells cs) = total-append (weight t) (cells c.1) (stream_cells cs) in omega arith

module _ (len : ℕ) (positive : 0 < len) (t : Ty) where
  -- ---- what is counted

  tested_most : (n c : ℕ) (rows : List CellData) (ps : List ℕ) → total_by (cell_size t) rows ≤ n → AtMost n (tested_sizes len 0 t c rows ps)
  tested_most n c rows [] h = tt
  tested_most n c rows (p ∷ ps) h =
      let a : total_by (cell_size t) (take (p - c) rows) ≤ total_by (cell_size t) rows = total-take (cell_size t) (p - c) rows in
      let b : total_by (cell_size t) (drop (cut_rows len (p - c)) rows) ≤ total_by (cell_size t) rows = total-drop (cell_size t) (cut_rows len (p - c)) rows in
      (omega arith, go (is_cut len 0 t rows (p - c)) (tested_most n (c + cut_rows len (p - c)) (drop (cut_rows len (p - c)) rows) ps (omega arith)) (tested_most n c rows ps h))
    where
      go : (b : Bool) → AtMost n (tested_sizes len 0 t (c + cut_rows len (p - c)) (drop (cut_rows len (p - c)) rows) ps) → AtMost n (tested_sizes len 0 t c rows ps)
          → AtMost n (if b then tested_sizes len 0 t (c + cut_rows len (p - c)) (drop (cut_rows len (p - c)) rows) ps else tested_sizes len 0 t c rows ps)
      go true x y = x
      go false x y = y

  left_size : (rows : List CellData) (ks : List ℕ) → total_by (cell_size t) (left_over rows ks) ≤ total_by (cell_size t) rows
  left_size rows [] = omega arith
  left_size rows (k ∷ ks) =
      let a : total_by (cell_size t) (left_over (drop k rows) ks) ≤ total_by (cell_size t) (drop k rows) = left_size (drop k rows) ks in
      let b : total_by (cell_size t) (drop k rows) ≤ total_by (cell_size t) rows = total-drop (cell_size t) k rows in omega arith

  last_few : (rows : List CellData) → length (last_block t rows) ≤ 1
  last_few [] = omega arith
  last_few (c ∷ cs) = omega arith

  counts_most : (n : ℕ) (rows : List CellData) (items : List Item) → 2 ≤ n → length rows < len → Short len items → total_by (cell_size t) rows + total_by (cell_size t) (stream_cells items) ≤ n
      → AtMost n (counted_at (block_count (whole_blocks len) t) (block_rest (whole_blocks len) t) (blocks (whole_blocks len) t) rows items true)
  counts_most n rows [] two l s h = tt
  counts_most n rows (c ∷ []) two l s h =
      let ks : List ℕ = sizes_at (whole_blocks len) t rows c.1 in
      let left : Left len t positive (rows ++ cells c.1) ks = at_chunk len t positive rows c.1 l s.0 in
      let a : length (cut_off t (rows ++ cells c.1) ks) ≤ 1 = left.few in
      let b : length (last_block t (left_over (rows ++ cells c.1) ks)) ≤ 1 = last_few (left_over (rows ++ cells c.1) ks) in
      let d : length (cut_off t (rows ++ cells c.1) ks ++ last_block t (left_over (rows ++ cells c.1) ks)) ≡ length (cut_off t (rows ++ cells c.1) ks) + length (last_block t (left_over (rows ++ cells c.1) ks)) =
      length-append (cut_off t (rows ++ cells c.1) ks) (last_block t (left_over (rows ++ cells c.1) ks)) in
      let e : total_by (cell_size t) (rows ++ cells c.1) ≡ total_by (cell_size t) rows + total_by (cell_size t) (cells c.1) = total-append (cell_size t) rows (cells c.1) in
      let f : total_by (cell_size t) (cells c.1 ++ []) ≡ total_by (cell_size t) (cells c.1) + 0 = total-append (cell_size t) (cells c.1) [] in
      (omega arith, tested_most n 0 (rows ++ cells c.1) (check_points len (length rows) (length (cells c.1))) (omega arith))
  counts_most n rows (c ∷ d ∷ cs) two l s h =
      let ks : List ℕ = sizes_at (whole_blocks len) t rows c.1 in
      let left : Left len t positive (rows ++ cells c.1) ks = at_chunk len t positive rows c.1 l s.0 in
      let a : length (cut_off t (rows ++ cells c.1) ks) ≤ 1 = left.few in
      let e : total_by (cell_size t) (rows ++ cells c.1) ≡ total_by (cell_size t) rows + total_by (cell_size t) (cells c.1) = total-append (cell_size t) rows (cells c.1) in
      let f : total_by (cell_size t) (cells c.1 ++ stream_cells (d ∷ cs)) ≡ total_by (cell_size t) (cells c.1) + total_by (cell_size t) (stream_cells (d ∷ cs)) =
      total-append (cell_size t) (cells c.1) (stream_cells (d ∷ cs)) in
      let g : total_by (cell_size t) (left_over (rows ++ cells c.1) ks) ≤ total_by (cell_size t) (rows ++ cells c.1) = left_size (rows ++ cells c.1) ks in
      let tested : List ℕ = tested_sizes len 0 t 0 (rows ++ cells c.1) (check_points len (length rows) (length (cells c.1))) in
      most_append n (length (cut_off t (rows ++ cells c.1) ks) ∷ tested)
      (counted_at (block_count (whole_blocks len) t) (block_rest (whole_blocks len) t) (blocks (whole_blocks len) t) (left_over (rows ++ cells c.1) ks) (d ∷ cs) true)
      (omega arith, tested_most n 0 (rows ++ cells c.1) (check_points len (length rows) (length (cells c.1))) (omega arith))
      (counts_most n (left_over (rows ++ cells c.1) ks) (d ∷ cs) two left.rest s.1 (omega arith))

  blocks_tame : (k : Node) (items : List Item) (e : Eof) (q n : ℕ) → Tame e.last q n (k false (regrouped (blocks (whole_blocks len) t) [] items true) true e) → Short len items
      → Tame e.last q (n + total_by (weight t) (stream_cells items) + 2) (grouped_node (by_blocks (whole_blocks len)) t k false items true e)
  blocks_tame k items e q n h s =
      let p : Plan = k false (regrouped (blocks (whole_blocks len) t) [] items true) true e in
      let last : ℕ = e.last + (n + total_by (weight t) (stream_cells items) + 2) in
      let counts : List ℕ = counted_at (block_count (whole_blocks len) t) (block_rest (whole_blocks len) t) (blocks (whole_blocks len) t) [] items true in
      let w : length (stream_cells items) + total_by (cell_size t) (stream_cells items) ≡ total_by (weight t) (stream_cells items) = rows_weight t (stream_cells items) in
      let r : in_all (λ c. length (cells c)) items ≡ length (stream_cells items) = rows_total items in
      let a : p.reserved ≤ n = h.reserved in
      record {
        faultless = h.faultless;
        pairs = h.pairs;
        numbers = most_append last (row_totals items ++ counts) p.numbers
            (most_append last (row_totals items) counts (most_totals (λ c. length (cells c)) 0 last items (omega arith)) (counts_most last [] items (omega arith) positive s (omega arith)))
            (most_up (e.last + n) last p.numbers (omega arith) h.numbers);
        reserved = omega arith;
      }

-- ---- a column

module _ (s : Setting) (o : FlatOptions) (ample : Ample s o) (small : SmallTables s o) (opts : DictOptions) (size : ℕ) (zo : ZonedOptions) (positive : 0 < zo.zone_len) (t : Ty) (held_type : is_dict_type t ≡ true)
    (texts : CellData → Bool) (few : length (recorded zo t) ≤ 3) (bounded : (items : List Item) → all_by texts (stream_cells items) ≡ true → AllBounded s t items (recorded zo t)) where
  abbrev pub column_node : Node
  column_node = grouped_node (by_blocks (whole_blocks zo.zone_len)) t (zoned_node s zo t (blocks_node s o ample opts size t held_type 1 1) (flat_node s o))

  pub column_tame : (items : List Item) (e : Eof) → Short zo.zone_len items → all_by texts (stream_cells items) ≡ true
      → Tame e.last (4 * length (stream_cells items) + 1) (1000 * total_by (weight t) (stream_cells items) + 302) (column_node false items true e)
  column_tame items e short fine =
      let xs : List Item = regrouped (blocks (whole_blocks zo.zone_len) t) [] items true in
      let same : stream_cells xs ≡ stream_cells items = (regrouping_keeps_rows t items).by_blocks (whole_blocks zo.zone_len) in
      let zones : Zones zo.zone_len xs = blocks_are_zones zo.zone_len t positive items short in
      let plain : AllPlain t (chunk_pieces xs) = blocks_plain zo.zone_len t positive items in
      let rows : ℕ = length (stream_cells items) in
      let sizes : ℕ = total_by (weight t) (stream_cells items) in
      let a : length (stream_cells xs) ≡ rows = ap length same in
      let b : total_by (weight t) (stream_cells xs) ≡ sizes = ap (total_by (weight t)) same in
      let c : length xs ≤ length (stream_cells xs) = zones_few zo.zone_len t positive xs zones in
      let d : in_all slots xs ≡ 2 * length xs + 2 * length (stream_cells xs) = slots_total xs in
      let f : in_all (mass t) xs ≡ length xs + total_by (weight t) (stream_cells xs) = mass_total t xs in
      let g : length (stream_cells items) + total_by (cell_size t) (stream_cells items) ≡ sizes = rows_weight t (stream_cells items) in
      let r : in_all (λ p. length (cells p)) xs ≡ length (stream_cells xs) = rows_total xs in
      let coded : Tame 0 (in_all slots xs) (200 * in_all (mass t) xs) (blocks_node s o ample opts size t held_type 1 1 false xs true (inside e)) =
      coded_tame s o ample opts size t held_type 1 1 false xs (inside e) plain in
      let zoned : Tame e.last (in_all slots xs + 1) (200 * in_all (mass t) xs + (500 * length xs + 300)) (zoned_node s zo t (blocks_node s o ample opts size t held_type 1 1) (flat_node s o) false xs true e) =
      zoned_tame s o ample small zo positive t (blocks_node s o ample opts size t held_type 1 1) xs e (in_all slots xs) (200 * in_all (mass t) xs) coded (omega arith) zones
      (bounded xs (ap (all_by texts) same ∙ fine)) few in
      tame_up e.last _ _ _ _ _ (omega arith) (omega arith)
      (blocks_tame zo.zone_len positive t (zoned_node s zo t (blocks_node s o ample opts size t held_type 1 1) (flat_node s o)) items e (in_all slots xs + 1) (200 * in_all (mass t) xs + (500 * length xs + 300)) zoned short)
