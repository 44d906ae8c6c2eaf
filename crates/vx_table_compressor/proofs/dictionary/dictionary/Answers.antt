use Rattle.std.proofs.Common.{rules, ◌≡◌, ℕ, ◌≤◌, false, List, length, map, ap, ap₂, ◌∙◌, arith}
use Rattle.vx_model.specs.Words.{all_by}
use Rattle.vx_model.specs.Ty.{Ty, primitive}
use Rattle.vx_model.specs.TyView.{ty}
use Rattle.vx_model.specs.TreeView.{tree}
use Rattle.vx_model.specs.CellData.{CellData, fits}
use Rattle.vx_model.specs.ChunkData.{plain_piece}
use Rattle.vx_column.specs.ColumnView.{column_cells}
use Rattle.vx_chunk.specs.Conditions.{makes_dict}
use Rattle.vx_rules.specs.Columns.{offset_cell}
use Rattle.vx_compressor_spec.specs.TableImage.{distinct, codes_of, code_ptype}
use Rattle.vx_table_compressor.proofs.CodeSteps.{Makes, makes}
use Rattle.vx_table_compressor.proofs.dictionary.dictionary.Goals as goal

pub typed-requires : goal.typed-requires
typed-requires c =
    let v : c.in-Some.coded.values ≡ distinct (column_cells c.args.column.now) = search rules in
    let k : map tree c.in-Some.coded.codes.items ≡ map offset_cell (codes_of (distinct (column_cells c.args.column.now)) (column_cells c.args.column.now)) = search rules in
    let few : length c.in-Some.coded.values ≤ c.args.most = search rules in
    let n : length c.in-Some.coded.values ≡ length (distinct (column_cells c.args.column.now)) = ap length v in
    let m : Makes (ty c.args.dtype.now) (column_cells c.args.column.now) = makes (ty c.args.dtype.now) (column_cells c.args.column.now) c.requires.dict c.requires.fit (omega arith) in
    ap₂ (λ (t : Ty) (cs : List CellData). all_by (fits t) cs) (c.code_dtype.ensures ∙ ap (λ (j : ℕ). primitive (code_ptype j) false) (c.len.ensures ∙ n)) k ∙ m.codes

pub typed-requires-2 : goal.typed-requires-2
typed-requires-2 c =
    let v : c.in-Some.coded.values ≡ distinct (column_cells c.args.column.now) = search rules in
    let few : length c.in-Some.coded.values ≤ c.args.most = search rules in
    let n : length c.in-Some.coded.values ≡ length (distinct (column_cells c.args.column.now)) = ap length v in
    let m : Makes (ty c.args.dtype.now) (column_cells c.args.column.now) = makes (ty c.args.dtype.now) (column_cells c.args.column.now) c.requires.dict c.requires.fit (omega arith) in
    ap₂ (λ (t : Ty) (cs : List CellData). all_by (fits t) cs) c.in_ok-clone.ensures.cases (c.into_cells.ensures ∙ v) ∙ m.values

pub dict-requires : goal.dict-requires
dict-requires c =
    let v : c.in-Some.coded.values ≡ distinct (column_cells c.args.column.now) = search rules in
    let k : map tree c.in-Some.coded.codes.items ≡ map offset_cell (codes_of (distinct (column_cells c.args.column.now)) (column_cells c.args.column.now)) = search rules in
    let few : length c.in-Some.coded.values ≤ c.args.most = search rules in
    let n : length c.in-Some.coded.values ≡ length (distinct (column_cells c.args.column.now)) = ap length v in
    let m : Makes (ty c.args.dtype.now) (column_cells c.args.column.now) = makes (ty c.args.dtype.now) (column_cells c.args.column.now) c.requires.dict c.requires.fit (omega arith) in
    ap₂ makes_dict
    (c.in_ok-codes.ensures ∙ ap₂ plain_piece (c.code_dtype.ensures ∙ ap (λ (j : ℕ). primitive (code_ptype j) false) (c.len.ensures ∙ n)) k)
    (c.in_ok-values.ensures ∙ ap₂ plain_piece c.in_ok-clone.ensures.cases (c.into_cells.ensures ∙ v))
    ∙ m.dict
