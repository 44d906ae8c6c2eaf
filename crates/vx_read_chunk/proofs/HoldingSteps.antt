-- The rows of a layout, from those of its children.
use Rattle.std.proofs.Common.{◌≡◌, ℕ, zero, suc, ◌+◌, ◌<◌, Bool, true, false, List, [], ◌∷◌, ◌++◌, length, take, map, Option, Some, None, Result, Ok, Err, refl, sym, ap, ◌∙◌, arith, append_assoc}
use Rattle.std.proofs.lemmas.List.{append-nil, take_all}
use Rattle.std.specs.Prelude.{IfOk, IfSome}
use Rattle.vx_model.specs.Words.{all_by}
use Rattle.vx_model.specs.Ty.{nullable}
use Rattle.vx_model.specs.ValueData.{ValueData}
use Rattle.vx_layout_spec.specs.LayoutTree.{flat_kind, chunked_kind, struct_kind, list_kind, dict_kind, zoned_kind, unread_zoned_kind, stats_kind, foreign_kind, refused_kind, LayoutData, LayoutList, layout, no_layouts, child, lays_in, children_of, layout_kind, layout_type, row_count}
use Rattle.vx_layout_spec.specs.Rows.{and_then, all_there, counted, joined, chunked_rows, zipped, has_count, fields_rows, data_rows, rows, each_rows}
use Rattle.vx_layout_tree.specs.Children.{kind_name, child_in, rows_at}
use Rattle.vx_layout_tree.specs.declared.kind.LayoutKind.TheVariants as kinds
use Rattle.vx_layout_tree.proofs.Answered.{made_is}
use Rattle.vx_segment_reader.specs.Codec.{segment_codec}
use Rattle.vx_read.specs.Reading.{first_fault}
use Rattle.vx_read.specs.Agreement.{is_there, RowsWithoutFault}
use Rattle.vx_read.proofs.FaultLaws.{counted_whole, zipped_length, faultless}
use Rattle.vx_row_count.specs.Counting.{rows_of_child}
use Rattle.vx_row_count.proofs.CountSteps.{counts}
use Rattle.vx_read_chunk.specs.Held.{IsZoned}

then_some : {A B : Type 0} (f : A → Option B) (o : Option A) (y : B) → and_then f o ≡ Some y → (x : A) × (o ≡ Some x) × (f x ≡ Some y)
then_some f None y e = absurd (let g : None ≡ Some y = e in cc)
then_some f (Some x) y e = (x, refl, e)

pub told_weaker : {A E : Type 0} (P Q : A → Type 0) (r : Result (Option A) E) → ((x : A) → P x → Q x) → IfOk r (λ o. IfSome o P) → IfOk r (λ o. IfSome o Q)
told_weaker P Q (Ok None) f h = tt
told_weaker P Q (Ok (Some x)) f h = f x h
told_weaker P Q (Err e) f h = tt

module _ (look : ℕ → Option (List ℕ)) where
  -- ---- a child

  pub rows_of_built : (ls : List (LayoutData ℕ)) (i : ℕ) (x : LayoutData ℕ) (vs : List ValueData) → child_in ls i ≡ Ok x → rows segment_codec look x ≡ Some vs → rows_of_child look ls i ≡ Some vs
  rows_of_built [] i x vs is e = absurd (let f : Err _ ≡ Ok x = is in cc)
  rows_of_built (l ∷ ls) zero x vs is e = let same : l ≡ x = (made_is l x is).0 in rw same e
  rows_of_built (l ∷ ls) (suc i) x vs is e = rows_of_built ls i x vs is e

  pub child_counts : (ls : List (LayoutData ℕ)) (i : ℕ) (vs : List ValueData) → rows_of_child look ls i ≡ Some vs → length vs ≡ rows_at ls i
  child_counts [] i vs e = absurd (let f : None ≡ Some vs = e in cc)
  child_counts (l ∷ ls) zero vs e = counts look l vs e
  child_counts (l ∷ ls) (suc i) vs e = child_counts ls i vs e

  -- ---- the rows of layouts, one behind the other

  abbrev pub rows_behind : List (LayoutData ℕ) → Option (List ValueData)
  rows_behind [] = Some []
  rows_behind (l ∷ ls) = and_then (λ vs. and_then (λ ws. Some (vs ++ ws)) (rows_behind ls)) (rows segment_codec look l)

  pub behind_more : (ls : List (LayoutData ℕ)) (i : ℕ) (vs ws : List ValueData) → rows_of_child look ls i ≡ Some ws → rows_behind (take i ls) ≡ Some vs → rows_behind (take (i + 1) ls) ≡ Some (vs ++ ws)
  behind_more [] i vs ws e so_far = absurd (let f : None ≡ Some ws = e in cc)
  behind_more (l ∷ ls) zero vs ws e so_far =
      let none : vs ≡ [] = (let f : Some [] ≡ Some vs = so_far in cc) in
      rw (none, e) (ap Some (append-nil ws))
  behind_more (l ∷ ls) (suc i) vs ws e so_far =
      let p = then_some (λ us. and_then (λ ts. Some (us ++ ts)) (rows_behind (take i ls))) (rows segment_codec look l) vs so_far in
      let q = then_some (λ ts. Some (p.0 ++ ts)) (rows_behind (take i ls)) vs p.2 in
      let both : p.0 ++ q.0 ≡ vs = (let f : Some (p.0 ++ q.0) ≡ Some vs = q.2 in cc) in
      let next : suc i + 1 ≡ suc (i + 1) = omega arith in
      rw (next, p.1, behind_more ls i q.0 ws e q.1) (ap Some (sym (append_assoc p.0 q.0 ws) ∙ ap (λ r. r ++ ws) both))

  behind_all : (ls : LayoutList ℕ) (vs : List ValueData) → rows_behind (lays_in ls) ≡ Some vs → and_then chunked_rows (all_there (each_rows segment_codec look ls)) ≡ Some vs
  behind_all no_layouts vs e = e
  behind_all (child l ls) vs e =
      let p = then_some (λ us. and_then (λ ts. Some (us ++ ts)) (rows_behind (lays_in ls))) (rows segment_codec look l) vs e in
      let q = then_some (λ ts. Some (p.0 ++ ts)) (rows_behind (lays_in ls)) vs p.2 in
      let r = then_some chunked_rows (all_there (each_rows segment_codec look ls)) q.0 (behind_all ls q.0 q.1) in
      let same : joined r.0 ≡ q.0 = (let f : Some (joined r.0) ≡ Some q.0 = r.2 in cc) in
      rw (p.1, r.1) (rw same q.2)

  pub chunked_whole : (l : LayoutData ℕ) (vs : List ValueData) → kind_name (layout_kind l) ≡ kinds.Chunked → rows_behind (children_of l) ≡ Some vs → length vs ≡ row_count l → rows segment_codec look l ≡ Some vs
  chunked_whole (layout chunked_kind t n names ls) vs is e count = rw (behind_all ls vs e) (counted_whole n vs count)
  chunked_whole (layout (flat_kind encodings tree) t n names ls) vs is e count = cc
  chunked_whole (layout struct_kind t n names ls) vs is e count = cc
  chunked_whole (layout list_kind t n names ls) vs is e count = cc
  chunked_whole (layout (dict_kind all) t n names ls) vs is e count = cc
  chunked_whole (layout (zoned_kind m specs) t n names ls) vs is e count = cc
  chunked_whole (layout (unread_zoned_kind metadata) t n names ls) vs is e count = cc
  chunked_whole (layout (stats_kind m stats) t n names ls) vs is e count = cc
  chunked_whole (layout (foreign_kind id metadata) t n names ls) vs is e count = cc
  chunked_whole (layout (refused_kind is_flat refusal) t n names ls) vs is e count = cc

  -- ---- structs

  pub beside_more : (ls : List (LayoutData ℕ)) (i : ℕ) (vss : List (List ValueData)) (ws : List ValueData) → rows_of_child look ls i ≡ Some ws → all_there (map (rows segment_codec look) (take i ls)) ≡ Some vss
      → all_there (map (rows segment_codec look) (take (i + 1) ls)) ≡ Some (vss ++ ws ∷ [])
  beside_more [] i vss ws e so_far = absurd (let f : None ≡ Some ws = e in cc)
  beside_more (l ∷ ls) zero vss ws e so_far =
      let none : vss ≡ [] = (let f : Some [] ≡ Some vss = so_far in cc) in
      rw (none, e) refl
  beside_more (l ∷ ls) (suc i) vss ws e so_far = next_there (rows segment_codec look l) (λ us. beside_more ls i us ws e) refl so_far
    where
      next_there : (o : Option (List ValueData)) → ((us : List (List ValueData)) → all_there (map (rows segment_codec look) (take i ls)) ≡ Some us → all_there (map (rows segment_codec look) (take (i + 1) ls)) ≡ Some (us ++ ws ∷ [])) → rows segment_codec look l ≡ o → all_there (o ∷ map (rows segment_codec look) (take i ls)) ≡ Some vss → all_there (map (rows segment_codec look) (take (suc i + 1) (l ∷ ls))) ≡ Some (vss ++ ws ∷ [])
      next_there None more own h = absurd (let f : None ≡ Some vss = h in cc)
      next_there (Some us) more own h =
          let q = then_some (λ xs. Some (us ∷ xs)) (all_there (map (rows segment_codec look) (take i ls))) vss h in
          let both : us ∷ q.0 ≡ vss = (let f : Some (us ∷ q.0) ≡ Some vss = q.2 in cc) in
          let next : suc i + 1 ≡ suc (i + 1) = omega arith in
          rw (next, own, more q.0 q.1) (ap (λ r. Some (r ++ ws ∷ [])) both)

  rows_are : (ls : LayoutList ℕ) → each_rows segment_codec look ls ≡ map (rows segment_codec look) (lays_in ls)
  rows_are no_layouts = refl
  rows_are (child l ls) = ap (λ r. rows segment_codec look l ∷ r) (rows_are ls)

  fields_many : (n : ℕ) (vss : List (List ValueData)) (vs : List ValueData) → fields_rows n vss ≡ Some vs → length vs ≡ n
  fields_many n vss vs e = by_counts (all_by (has_count n) vss) refl
    where
      by_counts : (b : Bool) → all_by (has_count n) vss ≡ b → length vs ≡ n
      by_counts true t = let f : Some (zipped n vss) ≡ Some vs = rw t at e in let same : zipped n vss ≡ vs = cc f in rw (← same) (zipped_length n vss)
      by_counts false t = absurd (let f : None ≡ Some vs = rw t at e in cc)

  pub struct_whole : (l : LayoutData ℕ) (vss : List (List ValueData)) (vs : List ValueData) → kind_name (layout_kind l) ≡ kinds.Struct → nullable (layout_type l) ≡ false → all_there (map (rows segment_codec look) (children_of l)) ≡ Some vss
      → fields_rows (row_count l) vss ≡ Some vs → rows segment_codec look l ≡ Some vs
  struct_whole (layout struct_kind t n names ls) vss vs is plain e fields = rw (rows_are ls, e, plain, fields) (counted_whole n vs (fields_many n vss vs fields))
  struct_whole (layout (flat_kind encodings tree) t n names ls) vss vs is plain e fields = cc
  struct_whole (layout chunked_kind t n names ls) vss vs is plain e fields = cc
  struct_whole (layout list_kind t n names ls) vss vs is plain e fields = cc
  struct_whole (layout (dict_kind all) t n names ls) vss vs is plain e fields = cc
  struct_whole (layout (zoned_kind m specs) t n names ls) vss vs is plain e fields = cc
  struct_whole (layout (unread_zoned_kind metadata) t n names ls) vss vs is plain e fields = cc
  struct_whole (layout (stats_kind m stats) t n names ls) vss vs is plain e fields = cc
  struct_whole (layout (foreign_kind id metadata) t n names ls) vss vs is plain e fields = cc
  struct_whole (layout (refused_kind is_flat refusal) t n names ls) vss vs is plain e fields = cc

  -- ---- a column and its zones, of which the column is read

  first_of_two : (n : ℕ) (ls : LayoutList ℕ) (vs : List ValueData) → length (lays_in ls) ≡ 2 → rows_at (lays_in ls) 0 ≡ n → rows_of_child look (lays_in ls) 0 ≡ Some vs → and_then (counted n) (data_rows (each_rows segment_codec look ls)) ≡ Some vs
  first_of_two n no_layouts vs two count e = absurd (omega (arith, two))
  first_of_two n (child a no_layouts) vs two count e = absurd (omega (arith, two))
  first_of_two n (child a (child z no_layouts)) vs two count e = rw e (counted_whole n vs (child_counts (a ∷ z ∷ []) 0 vs e ∙ count))
  first_of_two n (child a (child z (child d ls))) vs two count e = absurd (omega (arith, two))

  pub data_whole : (l : LayoutData ℕ) (vs : List ValueData) → IsZoned (kind_name (layout_kind l)) → length (children_of l) ≡ 2 → rows_at (children_of l) 0 ≡ row_count l → rows_of_child look (children_of l) 0 ≡ Some vs → rows segment_codec look l ≡ Some vs
  data_whole (layout (zoned_kind m specs) t n names ls) vs is two count e = first_of_two n ls vs two count e
  data_whole (layout (unread_zoned_kind metadata) t n names ls) vs is two count e = first_of_two n ls vs two count e
  data_whole (layout (stats_kind m stats) t n names ls) vs is two count e = first_of_two n ls vs two count e
  data_whole (layout (flat_kind encodings tree) t n names ls) vs is two count e = absurd is
  data_whole (layout chunked_kind t n names ls) vs is two count e = absurd is
  data_whole (layout struct_kind t n names ls) vs is two count e = absurd is
  data_whole (layout list_kind t n names ls) vs is two count e = absurd is
  data_whole (layout (dict_kind all) t n names ls) vs is two count e = absurd is
  data_whole (layout (foreign_kind id metadata) t n names ls) vs is two count e = absurd is
  data_whole (layout (refused_kind is_flat refusal) t n names ls) vs is two count e = absurd is

  -- ---- nothing is at fault where there are rows

  pub no_fault : (l : LayoutData ℕ) (vs : List ValueData) → RowsWithoutFault → rows segment_codec look l ≡ Some vs → first_fault segment_codec look l ≡ None
  no_fault l vs law e = faultless (first_fault segment_codec look l) (sym (law segment_codec look l) ∙ ap is_there e)

pub ruleset holding_rules = (append-nil)

pub ruleset read_rules = (append-nil, no_fault)
