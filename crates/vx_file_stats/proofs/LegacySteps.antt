-- Statistics of the old form, one at a time.
use Rattle.std.proofs.Common.{◌≡◌, ℕ, ◌+◌, ◌<◌, ◌&&◌, Bool, true, false, List, [], ◌∷◌, ◌++◌, length, get_or, drop, take, map, refl, sym, ap, ◌∙◌, subst, append_assoc, append-nil, Option, Some, None}
use Rattle.std.specs.Prelude.{◌==◌, is_some, option_to_list}
use Rattle.std.proofs.lemmas.Bool.{and_parts, and_from, true≢false}
use Rattle.std.proofs.lemmas.List.{drop_more, drop_all, map_push, map-append}
use Rattle.vx_model.specs.Words.{joined_by}
use Rattle.vx_model.specs.Ty.{Ty, Named, boolean, is_struct, tys_of, ty_eq}
use Rattle.vx_model.specs.ChunkData.{ChunkData, struct_piece, pieces_of, piece_type, cells, is_sound, match_fields}
use Rattle.vx_layout_spec.specs.Parts.{field_pieces}
use Rattle.vx_chunk_cells.specs.Parts.{struct_fields}
use Rattle.vx_chunk.specs.Conditions.{makes_struct}
use Rattle.vx_aggregate_spec.specs.Aggregate.{Aggregate, maximum, minimum, null_count, sum, Column, with_state, state_type, held_aggregates}
use Rattle.vx_aggregate_spec.specs.Tables.{column_field, stats_table}
use Rattle.vx_aggregate.specs.declared.stat.Stat.{Stat}
use Rattle.vx_aggregate.specs.declared.stat.Stat.TheVariants as stats
use Rattle.vx_aggregate.specs.Stats.{stat_state}
use Rattle.vx_aggregate.specs.Tables.{stat_fields, named_state, legacy_table}
use Rattle.vx_file_stats.specs.Legacy.{held_by, held_stat, taken, legacy_aggregates, legacy_columns, legacy_piece}
use Rattle.vx_file_stats.proofs.PieceTypes.{fields_match}

-- ---- loops

pub drop_held_stats : (t : Ty) (xs : List Stat) (i : ℕ) (s : Stat) → i < length xs → s ≡ get_or xs i s → legacy_aggregates t (drop i xs) ≡ held_stat t s ++ legacy_aggregates t (drop (i + 1) xs)
drop_held_stats t xs i s lt is = rw (drop_more xs i s lt, ← is) refl

pub drop_columns : (t : Ty) (xs : List Stat) (i : ℕ) (s : Stat) (ps : List ChunkData) → i < length xs → s ≡ get_or xs i s
    → legacy_columns t (drop i xs) ps ≡ taken (held_stat t s) ps ++ legacy_columns t (drop (i + 1) xs) (drop (length (stat_fields t s)) ps)
drop_columns t xs i s ps lt is = rw (drop_more xs i s lt, ← is) refl

pub ruleset aggregate_rules = (drop_held_stats, drop_all, map_push, append_assoc, append-nil)

pub ruleset column_rules = (drop_columns, drop_all, append_assoc, append-nil)

-- ---- one statistic

pub held_without : (a : Option Aggregate) (o : Option Ty) → is_some o ≡ false → held_by a o ≡ []
held_without None None h = refl
held_without (Some a) None h = refl
held_without a (Some t) h = cc

pub held_with : (a : Option Aggregate) (o : Option Ty) → is_some o ≡ true → held_by a o ≡ option_to_list a
held_with a None h = cc
held_with None (Some t) h = refl
held_with (Some a) (Some t) h = refl

pub ruleset held_rules = (held_without, held_with)

pub fields_without : (t : Ty) (s : Stat) → is_some (stat_state s t) ≡ false → stat_fields t s ≡ []
fields_without t s h = go (stat_state s t) h
  where
    go : (o : Option Ty) → is_some o ≡ false → named_state s o ≡ []
    go None h = refl
    go (Some u) h = cc

-- a bound has a flag behind it
pub max_fields : (t : Ty) → is_some (stat_state stats.Max t) ≡ true → length (stat_fields t stats.Max) ≡ 2
max_fields t h = go (stat_state stats.Max t) h
  where
    go : (o : Option Ty) → is_some o ≡ true → length (named_state stats.Max o) ≡ 2
    go None h = cc
    go (Some u) h = refl

pub min_fields : (t : Ty) → is_some (stat_state stats.Min t) ≡ true → length (stat_fields t stats.Min) ≡ 2
min_fields t h = go (stat_state stats.Min t) h
  where
    go : (o : Option Ty) → is_some o ≡ true → length (named_state stats.Min o) ≡ 2
    go None h = cc
    go (Some u) h = refl

pub one_dropped : (p : ChunkData) (ps : List ChunkData) → drop 2 (p ∷ ps) ≡ drop 1 ps
one_dropped p ps = refl

pub ruleset push_rules = (held_without, fields_without, max_fields, min_fields, one_dropped, append-nil)

-- ---- the columns that are left match the aggregates' fields

held_more : (t : Ty) (gs bs : List Aggregate) → held_aggregates (gs ++ bs) t ≡ held_aggregates gs t ++ held_aggregates bs t
held_more t [] bs = refl
held_more t (a ∷ gs) bs = ap (λ (cs : List Column). with_state a (state_type a t) ++ cs) (held_more t gs bs) ∙ sym (append_assoc (with_state a (state_type a t)) (held_aggregates gs t) (held_aggregates bs t))

held_one : (t : Ty) (a : Aggregate) → held_aggregates (held_by (Some a) (state_type a t)) t ≡ with_state a (state_type a t)
held_one t a = go (state_type a t) refl
  where
    go : (o : Option Ty) → state_type a t ≡ o → held_aggregates (held_by (Some a) o) t ≡ with_state a o
    go None e = refl
    go (Some u) e = append-nil (with_state a (state_type a t)) ∙ ap (with_state a) e

abbrev Match : ℕ → List Named → List ChunkData → Type 0
Match n fs ps = match_fields (tys_of fs) ps n ≡ true

module _ (n : ℕ) (fs : List Named) (hs : List Column) (k : List ChunkData → List ChunkData) (ih : (qs : List ChunkData) → Match n fs qs → Match n (map column_field hs) (k qs)) where
  -- a column and its flag: the column is left
  two : (name flag : List ℕ) (u b : Ty) (other : List ℕ) (p q : ChunkData) (ps : List ChunkData) → Match n ((name, u) ∷ (flag, b) ∷ fs) (p ∷ q ∷ ps) → Match n ((other, u) ∷ map column_field hs) (p ∷ k ps)
  two name flag u b other p q ps h =
      let one = and_parts (ty_eq (piece_type p) u) _ h in
      let rest = and_parts (length (cells p) == n) _ one.1 in
      let next = and_parts (ty_eq (piece_type q) b) _ rest.1 in
      let last = and_parts (length (cells q) == n) (match_fields (tys_of fs) ps n) next.1 in
      and_from (ty_eq (piece_type p) u) _ one.0 (and_from (length (cells p) == n) _ rest.0 (ih ps last.1))

  alone : (name : List ℕ) (u : Ty) (other : List ℕ) (p : ChunkData) (ps : List ChunkData) → Match n ((name, u) ∷ fs) (p ∷ ps) → Match n ((other, u) ∷ map column_field hs) (p ∷ k ps)
  alone name u other p ps h =
      let one = and_parts (ty_eq (piece_type p) u) _ h in
      let rest = and_parts (length (cells p) == n) (match_fields (tys_of fs) ps n) one.1 in
      and_from (ty_eq (piece_type p) u) _ one.0 (and_from (length (cells p) == n) _ rest.0 (ih ps rest.1))

  no_flag : (name flag : List ℕ) (u b : Ty) (p : ChunkData) → Match n ((name, u) ∷ (flag, b) ∷ fs) (p ∷ []) → ⊥
  no_flag name flag u b p h =
      let one = and_parts (ty_eq (piece_type p) u) ((length (cells p) == n) && false) h in
      let rest = and_parts (length (cells p) == n) false one.1 in
      true≢false (sym rest.1)

  max_step : (o : Option Ty) (ps : List ChunkData) → Match n (named_state stats.Max o ++ fs) ps
      → Match n (map column_field (with_state maximum o ++ hs)) (taken (held_by (Some maximum) o) ps ++ k (drop (length (named_state stats.Max o)) ps))
  max_step None ps h = ih ps h
  max_step (Some u) [] h = cc
  max_step (Some u) (p ∷ []) h = absurd (no_flag [] [] u (boolean false) p h)
  max_step (Some u) (p ∷ q ∷ ps) h = two [] [] u (boolean false) [] p q ps h

  min_step : (o : Option Ty) (ps : List ChunkData) → Match n (named_state stats.Min o ++ fs) ps
      → Match n (map column_field (with_state minimum o ++ hs)) (taken (held_by (Some minimum) o) ps ++ k (drop (length (named_state stats.Min o)) ps))
  min_step None ps h = ih ps h
  min_step (Some u) [] h = cc
  min_step (Some u) (p ∷ []) h = absurd (no_flag [] [] u (boolean false) p h)
  min_step (Some u) (p ∷ q ∷ ps) h = two [] [] u (boolean false) [] p q ps h

  sum_step : (o : Option Ty) (ps : List ChunkData) → Match n (named_state stats.Sum o ++ fs) ps
      → Match n (map column_field (with_state sum o ++ hs)) (taken (held_by (Some sum) o) ps ++ k (drop (length (named_state stats.Sum o)) ps))
  sum_step None ps h = ih ps h
  sum_step (Some u) [] h = cc
  sum_step (Some u) (p ∷ ps) h = alone [] u [] p ps h

  null_step : (o : Option Ty) (ps : List ChunkData) → Match n (named_state stats.NullCount o ++ fs) ps
      → Match n (map column_field (with_state null_count o ++ hs)) (taken (held_by (Some null_count) o) ps ++ k (drop (length (named_state stats.NullCount o)) ps))
  null_step None ps h = ih ps h
  null_step (Some u) [] h = cc
  null_step (Some u) (p ∷ ps) h = alone [] u [] p ps h

  size_step : (o : Option Ty) (ps : List ChunkData) → Match n (named_state stats.UncompressedSizeInBytes o ++ fs) ps
      → Match n (map column_field hs) (k (drop (length (named_state stats.UncompressedSizeInBytes o)) ps))
  size_step None ps h = ih ps h
  size_step (Some u) [] h = cc
  size_step (Some u) (p ∷ ps) h =
      ih ps (and_parts (length (cells p) == n) (match_fields (tys_of fs) ps n) (and_parts (ty_eq (piece_type p) u) _ h).1).1

-- the columns of one aggregate before the others
held_first : (t : Ty) (a : Aggregate) (ss : List Stat) → held_aggregates (held_by (Some a) (state_type a t) ++ legacy_aggregates t ss) t ≡ with_state a (state_type a t) ++ held_aggregates (legacy_aggregates t ss) t
held_first t a ss = held_more t (held_by (Some a) (state_type a t)) (legacy_aggregates t ss) ∙ ap (λ (cs : List Column). cs ++ held_aggregates (legacy_aggregates t ss) t) (held_one t a)

no_size : (o : Option Ty) → held_by None o ≡ []
no_size None = refl
no_size (Some u) = refl

kept_match : (t : Ty) (ss : List Stat) (n : ℕ) (ps : List ChunkData) → Match n (joined_by (stat_fields t) ss) ps → Match n (map column_field (held_aggregates (legacy_aggregates t ss) t)) (legacy_columns t ss ps)
kept_match t [] n [] h = refl
kept_match t [] n (p ∷ ps) h = cc
kept_match t (stats.Max ∷ ss) n ps h =
    subst (λ (cs : List Column). Match n (map column_field cs) (legacy_columns t (stats.Max ∷ ss) ps)) (sym (held_first t maximum ss))
    (max_step n (joined_by (stat_fields t) ss) (held_aggregates (legacy_aggregates t ss) t) (legacy_columns t ss) (kept_match t ss n) (state_type maximum t) ps h)
kept_match t (stats.Min ∷ ss) n ps h =
    subst (λ (cs : List Column). Match n (map column_field cs) (legacy_columns t (stats.Min ∷ ss) ps)) (sym (held_first t minimum ss))
    (min_step n (joined_by (stat_fields t) ss) (held_aggregates (legacy_aggregates t ss) t) (legacy_columns t ss) (kept_match t ss n) (state_type minimum t) ps h)
kept_match t (stats.Sum ∷ ss) n ps h =
    subst (λ (cs : List Column). Match n (map column_field cs) (legacy_columns t (stats.Sum ∷ ss) ps)) (sym (held_first t sum ss))
    (sum_step n (joined_by (stat_fields t) ss) (held_aggregates (legacy_aggregates t ss) t) (legacy_columns t ss) (kept_match t ss n) (state_type sum t) ps h)
kept_match t (stats.NullCount ∷ ss) n ps h =
    subst (λ (cs : List Column). Match n (map column_field cs) (legacy_columns t (stats.NullCount ∷ ss) ps)) (sym (held_first t null_count ss))
    (null_step n (joined_by (stat_fields t) ss) (held_aggregates (legacy_aggregates t ss) t) (legacy_columns t ss) (kept_match t ss n) (state_type null_count t) ps h)
kept_match t (stats.UncompressedSizeInBytes ∷ ss) n ps h =
    size_step n (joined_by (stat_fields t) ss) (held_aggregates (legacy_aggregates t ss) t) (legacy_columns t ss) (kept_match t ss n) (stat_state stats.UncompressedSizeInBytes t) ps h

-- ---- they make the table

pub is_table : (t : Ty) (ss : List Stat) (p : ChunkData) → piece_type p ≡ legacy_table t ss → is_struct (piece_type p) ≡ true
is_table t ss p e = ap is_struct e

pub makes_table : (t : Ty) (ss : List Stat) (p : ChunkData) (fields columns : List ChunkData) (gs : List Aggregate) (n : ℕ) → piece_type p ≡ legacy_table t ss → is_sound p ≡ true
    → fields ≡ field_pieces (struct_fields (piece_type p)) p → columns ≡ legacy_columns t ss fields → gs ≡ legacy_aggregates t ss → n ≡ length (cells p) → makes_struct (stats_table t gs) columns [] n ≡ true
makes_table t ss p fields columns gs n e sound f g h k =
    let matched : Match (length (cells p)) (joined_by (stat_fields t) ss) (field_pieces (struct_fields (piece_type p)) p) =
    subst (λ (u : Ty). match_fields (struct_fields u) (field_pieces (struct_fields (piece_type p)) p) (length (cells p)) ≡ true) e (fields_match p (is_table t ss p e) sound)
    in
    ap (λ (m : ℕ). makes_struct (stats_table t gs) columns [] m) k ∙ ap (λ (bs : List Aggregate). makes_struct (stats_table t bs) columns [] (length (cells p))) h
    ∙ ap (λ (qs : List ChunkData). makes_struct (stats_table t (legacy_aggregates t ss)) qs [] (length (cells p))) (g ∙ ap (legacy_columns t ss) f)
    ∙ and_from _ true (kept_match t ss (length (cells p)) (field_pieces (struct_fields (piece_type p)) p) matched) refl

pub table_is : (t : Ty) (ss : List Stat) (p : ChunkData) (fields columns : List ChunkData) (gs : List Aggregate) (n : ℕ) → fields ≡ field_pieces (struct_fields (piece_type p)) p → columns ≡ legacy_columns t ss fields → gs ≡ legacy_aggregates t ss → n ≡ length (cells p)
    → struct_piece (stats_table t gs) (pieces_of columns) [] n ≡ legacy_piece t ss p
table_is t ss p fields columns gs n f g h k =
    ap (λ (bs : List Aggregate). struct_piece (stats_table t bs) (pieces_of columns) [] n) h
    ∙ ap (λ (qs : List ChunkData). struct_piece (stats_table t (legacy_aggregates t ss)) (pieces_of qs) [] n) (g ∙ ap (legacy_columns t ss) f)
    ∙ ap (λ (m : ℕ). struct_piece (stats_table t (legacy_aggregates t ss)) (pieces_of (legacy_columns t ss (field_pieces (struct_fields (piece_type p)) p))) [] m) k
