-- A struct's plan is that of its columns.
use Rattle.std.proofs.Common.{◌≡◌, ℕ, suc, ◌+◌, ◌||◌, Bool, true, false, List, [], ◌∷◌, ◌++◌, length, sum_by, Option, Some, None, refl, sym, ap, ap₂, ◌∙◌, subst, length-append}
use Rattle.std.proofs.lemmas.List.Sums.{sum_by-cons}
use Rattle.vx_model.specs.Ty.{Ty, Tys, boolean, struct, no_fields, field}
use Rattle.vx_model.specs.ChunkData.{ChunkData}
use Rattle.vx_path.specs.Path.{Eof, inside, next, root_eof}
use Rattle.vx_layout_spec.specs.LayoutTree.{struct_layout}
use Rattle.vx_rules.specs.Columns.{Split, struct_splits, column, other_columns}
use Rattle.vx_strategy_spec.specs.StrategyData.{StrategyData, StrategyList}
use Rattle.vx_strategy_spec.specs.Walk.{find, chosen, field_nodes, walk_named}
use Rattle.vx_strategy_spec.specs.Dispatch.{override, given_or}
use Rattle.vx_strategy_spec.proofs.Lookups.{made, find_own}
use Rattle.vx_plan.specs.PlanData.{Setting, Item, Plan, Node, row_total, row_totals}
use Rattle.vx_plan.specs.ChunkedNode.{all_pairs, all_faults, all_layouts, all_numbers, all_reserved}
use Rattle.vx_plan.specs.ColumnNodes.{marked, column_plans, struct_writers, struct_node}
use Rattle.vx_plan.specs.ColumnNodes as nodes
use Rattle.vx_plan.specs.SourcePlan.{plan_nodes, plan, batch_items, with_root}
use Rattle.vx_column_plan.specs.Columns.{Column, field_columns, columns_by, plans_of, IsBeside, StructIsColumns}

-- the columns' nodes, their marks given
abbrev nodes_of : Setting → List Column → List nodes.Column
nodes_of s [] = []
nodes_of s (k ∷ ks) = plan s k.way k.type k.mark ∷ nodes_of s ks

length_nodes : (s : Setting) (ks : List Column) → length (nodes_of s ks) ≡ length ks
length_nodes s [] = refl
length_nodes s (k ∷ ks) = ap suc (length_nodes s ks)

plans_are : (s : Setting) (ks : List Column) (c : ℕ) (xs : List Split) (ended : Bool) (e : Eof) → column_plans (nodes_of s ks) c xs ended e ≡ plans_of s ks c xs ended e
plans_are s [] c xs ended e = refl
plans_are s (k ∷ ks) c xs ended e = ap (λ z. plan s k.way k.type k.mark (column c xs) ended (inside e) ∷ z) (plans_are s ks (suc c) (other_columns xs) ended (next e))

length_plans : (s : Setting) (ks : List Column) (c : ℕ) (xs : List Split) (ended : Bool) (e : Eof) → length ks ≡ length (plans_of s ks c xs ended e)
length_plans s [] c xs ended e = refl
length_plans s (k ∷ ks) c xs ended e = ap suc (length_plans s ks (suc c) (other_columns xs) ended (next e))

pub length_pairs : (ps : List Plan) → length (all_pairs ps) ≡ sum_by (λ q. length q.pairs) ps
length_pairs [] = refl
length_pairs (p ∷ ps) = length-append p.pairs (all_pairs ps) ∙ ap (λ z. length p.pairs + z) (length_pairs ps) ∙ sym (sum_by-cons (λ (q : Plan). length q.pairs) p ps)

module _ (s : Setting) (v d : StrategyData) (ws : StrategyList) where
  one_field : (name : List ℕ) (t : Ty) → chosen (find (name ∷ []) (walk_named (plan_nodes s) ws)) t (plan s d t) ≡ plan s (given_or (override name ws) d) t
  one_field name t = ap (λ z. chosen z t (plan s d t)) (find_own (plan_nodes s) name ws) ∙ go (override name ws)
    where
      go : (o : Option StrategyData) → chosen (made (plan_nodes s) o) t (plan s d t) ≡ plan s (given_or o d) t
      go None = refl
      go (Some w) = refl

  fields_are : (m : Bool) (fs : Tys) → marked m (field_nodes (plan s d) (walk_named (plan_nodes s) ws) fs) ≡ nodes_of s (field_columns d ws m fs)
  fields_are m no_fields = refl
  fields_are m (field name t fs) = ap₂ (λ (x : Node) (y : List nodes.Column). x m ∷ y) (one_field name t) (fields_are m fs)

  writers_are : (m : Bool) (fs : Tys) (n : Bool) → struct_writers n m (plan s v (boolean false)) (field_nodes (plan s d) (walk_named (plan_nodes s) ws) fs) ≡ nodes_of s (columns_by v d ws m fs n)
  writers_are m fs true = ap (λ z. plan s v (boolean false) m ∷ z) (fields_are (m || true) fs)
  writers_are m fs false = fields_are (m || false) fs

  beside_is : (m : Bool) (fs : Tys) (n : Bool) (bs : List ChunkData) (ended : Bool)
      → IsBeside (with_root bs (struct_node fs n None (plan s v (boolean false)) (field_nodes (plan s d) (walk_named (plan_nodes s) ws) fs) m (batch_items 0 bs) ended root_eof))
      (struct fs n) bs (length (columns_by v d ws m fs n)) (plans_of s (columns_by v d ws m fs n) 0 (struct_splits fs n (batch_items 0 bs)) ended root_eof)
  beside_is m fs n bs ended =
      let items : List Item = batch_items 0 bs in
      let xs : List Split = struct_splits fs n items in
      let ks : List Column = columns_by v d ws m fs n in
      let w : List nodes.Column = struct_writers n m (plan s v (boolean false)) (field_nodes (plan s d) (walk_named (plan_nodes s) ws) fs) in
      let e : w ≡ nodes_of s ks = writers_are m fs n in
      let ps : column_plans w 0 xs ended root_eof ≡ plans_of s ks 0 xs ended root_eof
      = ap (λ z. column_plans z 0 xs ended root_eof) e ∙ plans_are s ks 0 xs ended root_eof in
      let count : length w ≡ length ks = ap length e ∙ length_nodes s ks in
      record {
        pairs = ap all_pairs ps;
        faults = ap all_faults ps;
        layout = ap (λ z. struct_layout (struct fs n) (row_total items) (all_layouts z)) ps;
        numbers = ap₂ (λ (y : ℕ) (z : List Plan). length bs ∷ ((row_totals items ++ (y ∷ (1 + y) ∷ [])) ++ all_numbers z)) count ps;
        reserved = ap all_reserved ps;
        count_is = length_plans s ks 0 xs ended root_eof;
        sum = ap (λ z. length (all_pairs z)) ps ∙ length_pairs (plans_of s ks 0 xs ended root_eof);
      }

pub struct_is_columns : StructIsColumns
struct_is_columns s v d ws m fs n bs ended h =
    subst (λ (o : Option (List ℕ)). IsBeside (with_root bs (struct_node fs n o (plan s v (boolean false)) (field_nodes (plan s d) (walk_named (plan_nodes s) ws) fs) m (batch_items 0 bs) ended root_eof))
    (struct fs n) bs (length (columns_by v d ws m fs n)) (plans_of s (columns_by v d ws m fs n) 0 (struct_splits fs n (batch_items 0 bs)) ended root_eof))
    (sym h) (beside_is s v d ws m fs n bs ended)
