-- What an accumulator has gathered, one batch more.
use Rattle.std.proofs.Common.{◌≡◌, ℕ, Bool, true, false, List, ◌∷◌, map, refl, sym, ap, ◌∙◌, subst, Option, Some, None}
use Rattle.std.specs.Prelude.{if◌then◌else◌, not, Result, IfOk, IfSome}
use Rattle.std.specs.Global.{Vec}
use Rattle.vx_model.specs.Ty.{Ty, ty_eq}
use Rattle.vx_model.specs.TyLaws.{ty_eq_decides}
use Rattle.vx_model.specs.ChunkData.{ChunkData, piece_type, is_sound}
use Rattle.vx_aggregate.specs.declared.stat.Stat.{Stat}
use Rattle.vx_file_stats.specs.Precisions.{SetData, set_data}
use Rattle.vx_file_stats.specs.FileStats.{column_types, column_pieces, of_type, file_stats}
use Rattle.vx_file_stats.specs.Gathering.{ColumnData, column_data, with_pieces, columns_gathered, set_told}
use Rattle.vx_file_stats.specs.Gathered.{asked_of, limit_of, type_of, AllTyped, Gathered}
use Rattle.vx_file_stats.specs.declared.accumulator.FileStatsAccumulator.{FileStatsAccumulator}
use Rattle.vx_file_stats.specs.declared.column.ColumnStats.{ColumnStats}
use Rattle.vx_file_stats.specs.declared.stats_set.StatsSet.{StatsSet}
use Rattle.vx_file_stats.proofs.PieceTypes.{pieces_typed}
use Rattle.vx_file_stats.proofs.FoldLaws.{none_gathered, pieces_gathered, sets_are}

pub ruleset start_rules = (none_gathered)

-- ---- a batch of another type, and one of the type

pub other_left : (t : Ty) (p : ChunkData) (ps : List ChunkData) → ty_eq (piece_type p) t ≡ false → of_type t (p ∷ ps) ≡ of_type t ps
other_left t p ps h = ap (λ (b : Bool). if b then p ∷ of_type t ps else of_type t ps) h

same_kept : (t : Ty) (p : ChunkData) (ps : List ChunkData) → piece_type p ≡ t → of_type t (p ∷ ps) ≡ p ∷ of_type t ps
same_kept t p ps e = ap (λ (b : Bool). if b then p ∷ of_type t ps else of_type t ps) ((ty_eq_decides (piece_type p) t).1 e)

module _ (t : Ty) (p : ChunkData) (ps : List ChunkData) (e : piece_type p ≡ t) (sound : is_sound p ≡ true) where
  typed_here : map piece_type (column_pieces p) ≡ column_types t
  typed_here = pieces_typed p sound ∙ ap column_types e

  pub typed_then : AllTyped (column_types t) (map column_pieces (of_type t ps)) → AllTyped (column_types t) (map column_pieces (of_type t (p ∷ ps)))
  typed_then all = subst (λ (qs : List ChunkData). AllTyped (column_types t) (map column_pieces qs)) (sym (same_kept t p ps e)) (typed_here, all)

  pub columns_then : (asked : List Stat) (limit : ℕ) (before : List ColumnData) → before ≡ columns_gathered asked limit (column_types t) (map column_pieces (of_type t ps))
      → with_pieces asked limit before (column_pieces p) ≡ columns_gathered asked limit (column_types t) (map column_pieces (of_type t (p ∷ ps)))
  columns_then asked limit before h =
      ap (λ (cs : List ColumnData). with_pieces asked limit cs (column_pieces p)) h
      ∙ pieces_gathered asked limit (column_types t) (column_pieces p) (map column_pieces (of_type t ps)) typed_here
      ∙ ap (λ (qs : List ChunkData). columns_gathered asked limit (column_types t) (map column_pieces qs)) (sym (same_kept t p ps e))

-- ---- at the end

pub sets_told : (asked : List Stat) (limit : ℕ) (t : Ty) (ps : List ChunkData) (cs : List ColumnData) → AllTyped (column_types t) (map column_pieces (of_type t ps))
    → cs ≡ columns_gathered asked limit (column_types t) (map column_pieces (of_type t ps)) → map (set_told asked) cs ≡ file_stats asked limit t ps
sets_told asked limit t ps cs all e = ap (map (set_told asked)) e ∙ sets_are asked limit (column_types t) (map column_pieces (of_type t ps)) all

-- ---- the accumulator

pub differs : (b r : Bool) → r ≡ not b → r ≡ true → b ≡ false
differs true r e h = sym h ∙ e
differs false r e h = refl

pub agrees : (b r : Bool) → r ≡ not b → r ≡ false → b ≡ true
agrees true r e h = refl
agrees false r e h = sym h ∙ e

pub other_gathered : (a : FileStatsAccumulator) (p : ChunkData) (ps : List ChunkData) → ty_eq (piece_type p) (type_of a) ≡ false → Gathered a ps → Gathered a (p ∷ ps)
other_gathered a p ps h g =
    let e = sym (other_left (type_of a) p ps h) in
    record {
      typed = subst (λ (qs : List ChunkData). AllTyped (column_types (type_of a)) (map column_pieces qs)) e g.typed;
      columns = subst (λ (qs : List ChunkData). IfSome a.columns (λ cs. map column_data cs.items ≡ columns_gathered (asked_of a) (limit_of a) (column_types (type_of a)) (map column_pieces qs))) e g.columns;
    }

module _ (a : FileStatsAccumulator) (p : ChunkData) (ps : List ChunkData) (e : piece_type p ≡ type_of a) (sound : is_sound p ≡ true) (g : Gathered a ps) where
  pub lost_gathered : (o : Option (Vec ColumnStats)) → o ≡ None → Gathered (record { dtype = a.dtype; stats = a.stats; limit = a.limit; columns = o }) (p ∷ ps)
  lost_gathered o none = record {
    typed = typed_then (type_of a) p ps e sound g.typed;
    columns = subst (λ (z : Option (Vec ColumnStats)). IfSome z (λ cs. map column_data cs.items ≡ columns_gathered (asked_of a) (limit_of a) (column_types (type_of a)) (map column_pieces (of_type (type_of a) (p ∷ ps))))) (sym none) tt;
  }

  pub one_gathered : (before after : Vec ColumnStats) → a.columns ≡ Some before → map column_data after.items ≡ with_pieces (asked_of a) (limit_of a) (map column_data before.items) (column_pieces p)
      → Gathered (record { dtype = a.dtype; stats = a.stats; limit = a.limit; columns = Some after }) (p ∷ ps)
  one_gathered before after is h =
      let old : map column_data before.items ≡ columns_gathered (asked_of a) (limit_of a) (column_types (type_of a)) (map column_pieces (of_type (type_of a) ps)) =
      subst (λ (z : Option (Vec ColumnStats)). IfSome z (λ cs. map column_data cs.items ≡ columns_gathered (asked_of a) (limit_of a) (column_types (type_of a)) (map column_pieces (of_type (type_of a) ps)))) is g.columns
      in
      record {
        typed = typed_then (type_of a) p ps e sound g.typed;
        columns = h ∙ columns_then (type_of a) p ps e sound (asked_of a) (limit_of a) (map column_data before.items) old;
      }

pub sets_given : {E : Type 0} (a : FileStatsAccumulator) (columns : Vec ColumnStats) (ps : List ChunkData) (asked : List Stat) (r : Result (Vec StatsSet) E) → a.columns ≡ Some columns → asked ≡ asked_of a
    → IfOk r (λ v. map set_data v.items ≡ map (set_told asked) (map column_data columns.items)) → Gathered a ps → IfOk r (λ v. map set_data v.items ≡ file_stats (asked_of a) (limit_of a) (type_of a) ps)
sets_given a columns ps asked r is same h g =
    let cs : map column_data columns.items ≡ columns_gathered (asked_of a) (limit_of a) (column_types (type_of a)) (map column_pieces (of_type (type_of a) ps)) =
    subst (λ (z : Option (Vec ColumnStats)). IfSome z (λ cs. map column_data cs.items ≡ columns_gathered (asked_of a) (limit_of a) (column_types (type_of a)) (map column_pieces (of_type (type_of a) ps)))) is g.columns
    in
    subst (λ (z : List SetData). IfOk r (λ v. map set_data v.items ≡ z))
    (ap (λ (xs : List Stat). map (set_told xs) (map column_data columns.items)) same ∙ sets_told (asked_of a) (limit_of a) (type_of a) ps (map column_data columns.items) g.typed cs) h
