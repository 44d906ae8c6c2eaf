-- What a zoned node records, and its table, against the same in plain data.
use Rattle.std.proofs.Common.{◌≡◌, ◌+◌, ◌<◌, ◌^◌, not, ℕ, true, List, [], ◌∷◌, ◌++◌, length, map, Option, Some, None, refl, sym, ap, subst, ◌∙◌, arith, append_assoc}
use Rattle.std.proofs.lemmas.List.{map_push}
use Rattle.std.specs.Option.{option_map}
use Rattle.std.specs.Arc.{arc_value}
use Rattle.std.specs.Int.NonZero.{non_zero_u32_get}
use Rattle.vx_model.specs.Ty.{ty_eq}
use Rattle.vx_model.specs.TyView.{ty}
use Rattle.vx_model.specs.ValueData.{ValueData}
use Rattle.vx_model.specs.ChunkData.{ChunkData, piece_type, cells}
use Rattle.vx_aggregate_spec.specs.Aggregate.{Aggregate, Column, spec}
use Rattle.vx_aggregate.specs.declared.aggregate.AggregateFn.{AggregateFn}
use Rattle.vx_aggregate.specs.AggregateView.{aggregate}
use Rattle.vx_zone_spec.specs.ZoneTable.{Filled, kept_columns, table_specs, table_piece}
use Rattle.vx_sequence.specs.Universe.{Active}
use Rattle.vx_machine_ids.specs.Stock.{Stock, none, both}
use Rattle.vx_machine_ids.specs.Balance.{Owned, Moved}
use Rattle.vx_machine_ids.proofs.Stocks.{stock_is}
use Rattle.vx_machine_ids.proofs.MoveLaws.{moved_none}
use Rattle.vx_plan.specs.PlanData.{Setting}
use Rattle.vx_machine_turns.specs.Zoned.{zone_fault}
use Rattle.vx_turn_laws.specs.Guard.{Guard, where_some, refused_at}
use Rattle.vx_zone_table.specs.Gathered.{Gathered, aggregates_in, finished}
use Rattle.vx_zone_table.specs.BuilderView.{gathered}
use Rattle.vx_machine_state.specs.State.{Next, shut_kids, start_table, join_kids, fold_zones, by_zone, Tasks}
use Rattle.vx_machine_state.specs.Acts.{Did, end_zones}
use Rattle.vx_machine_state.specs.Zoned.{Zones, one_zone}
use Rattle.vx_machine_node.specs.declared.item.Due.{Due}
use Rattle.vx_machine_node.specs.declared.item.Due.TheVariants.{Put}
use Rattle.vx_machine_node.specs.declared.item.Item.{Item}
use Rattle.vx_machine_node.specs.declared.node.Local.TheVariants.{Zoned, Over}
use Rattle.vx_machine_node.specs.declared.zoned_node.ZonedNode.{ZonedNode}
use Rattle.vx_machine_nodes.specs.Acting.{bare, taken, Took, Ended, EndTaken}
use Rattle.vx_machine_node.specs.View.{form_at, item_of, next_of, todo_of, zoner_in, zones_in, mind_of}
use Rattle.vx_machine_node.proofs.Fitting.{one_fits}
use Rattle.vx_machine_nodes.proofs.TakeShows.{two_more}

-- ---- a record

-- of a chunk where something is recorded, or nothing is
pub told_is : (columns : List Column) (r v : List ValueData) → Some v ≡ where_some columns r → v ≡ r
told_is [] r v h = cc
told_is (a ∷ columns) r v h = cc

-- what is gathered, and the rows of the last chunk and of all
abbrev zones_of : Gathered → Guard → ℕ → Zones
zones_of b g rows = record { records = b.records; last = g.last; zones = length b.records; rows = rows }

-- the take of a chunk
pub zone_took : (s : Setting) (name : List ℕ) (ks : Tasks) (n m : ZonedNode) (i : Item) (more before : List Due) → zoner_in m ≡ zoner_in n → m.eof ≡ n.eof
    → zones_in m ≡ one_zone s (zoner_in n) (zones_in n) i.chunk → refused_at n.guard i.chunk ≡ None → n.rows + length (cells i.chunk) < 2 ^ 64 → ty_eq (piece_type i.chunk) (ty (arc_value n.dtype)) ≡ true
    → more ≡ Put 0 i ∷ before → Took (taken s name ks (item_of i) (mind_of (Zoned n))) (mind_of (Zoned m)) (todo_of more) (todo_of before) ks
zone_took s name ks n m i more before zoner eof zones makes few typed e = record {
  unrefused = ap (λ k. zone_fault k n.guard.columns n.guard.last (length (cells i.chunk))) (sym n.same) ∙ makes;
  fits = ap not typed;
  counted = one_fits (n.rows + length (cells i.chunk)) few;
  mind_is = λ j. by_zone (zoner j) (eof j) (zones j);
  todo_is = ap todo_of e;
  kids_are = refl;
}

-- ---- the table

kept_none : {A B : Type 0} (f : A → B) (o : Option A) → None ≡ option_map f o → o ≡ None
kept_none f None h = refl
kept_none f (Some x) h = cc

kept_some : {A B : Type 0} (f : A → B) (o : Option A) (y : B) → Some y ≡ option_map f o → (x : A) × (o ≡ Some x) × (y ≡ f x)
kept_some f None y h = cc
kept_some f (Some x) y h = (x, refl, cc)

specs_in : (cs : List Filled) → map spec (aggregates_in cs) ≡ table_specs cs
specs_in [] = refl
specs_in (c ∷ cs) = ap (λ z. spec c.aggregate ∷ z) (specs_in cs)

specs_of : (xs : List AggregateFn) → map (λ a. spec (aggregate a)) xs ≡ map spec (map aggregate xs)
specs_of [] = refl
specs_of (x ∷ xs) = ap (λ z. spec (aggregate x) ∷ z) (specs_of xs)

pub three_more : (xs ys zs ws : List Due) (d e f : Due) → ys ≡ xs ++ (d ∷ []) → zs ≡ ys ++ (e ∷ []) → ws ≡ zs ++ (f ∷ []) → todo_of ws ≡ todo_of xs ++ (next_of d ∷ next_of e ∷ next_of f ∷ [])
three_more xs ys zs ws d e f a b c =
    ap todo_of c ∙ map_push next_of zs f ∙ ap (λ vs. vs ++ (next_of f ∷ [])) (two_more xs ys zs d e a b)
    ∙ append_assoc (todo_of xs) (next_of d ∷ next_of e ∷ []) (next_of f ∷ [])

module _ (n : ZonedNode) (kids : ℕ) where
  abbrev columns_kept : Option (List Filled)
  columns_kept = kept_columns n.guard.columns (gathered n.records).records

  abbrev ends_by : Option (List Filled) → Tasks → Did
  ends_by o ks = end_zones o (zoner_in n) n.eof (zones_in n) (bare [] (mind_of (Zoned n))) ks

  -- what the builder gives of these
  abbrev shown : List Filled → ChunkData × List Aggregate
  shown cs = (table_piece cs (length (gathered n.records).records), aggregates_in cs)

  kept_as : finished (gathered n.records) ≡ option_map shown columns_kept
  kept_as = ap (λ columns. option_map shown (kept_columns columns (gathered n.records).records)) n.columns

  pub zones_end_some : (todo before : List Next) (chunk : ChunkData) (aggregates : List AggregateFn) → Some (chunk, map aggregate aggregates) ≡ finished (gathered n.records) → length (gathered n.records).records < 2 ^ 64
      → todo ≡ before ++ (shut_kids ∷ start_table (form_at n.stats.item (piece_type chunk)) n.eof chunk
      ∷ join_kids (fold_zones (ty (arc_value n.dtype)) n.rows (non_zero_u32_get n.zone_len) (map (λ a. spec (aggregate a)) aggregates)) ∷ []) → EndTaken (Zoned n) kids Over todo before
  zones_end_some todo before chunk aggregates h few e = λ s ks same.
      let k = kept_some shown columns_kept (chunk, map aggregate aggregates) (h ∙ kept_as) in
      let piece : chunk ≡ table_piece k.0 (length (gathered n.records).records) = ap (λ x. x.0) k.2 in
      let specs : map (λ a. spec (aggregate a)) aggregates ≡ table_specs k.0 = specs_of aggregates ∙ ap (map spec) (ap (λ x. x.1) k.2) ∙ specs_in k.0 in
      subst (λ o. Ended (ends_by o ks) (mind_of Over) todo before) (sym k.1) (record {
        unrefused = refl;
        fits = refl;
        counted = one_fits (length (gathered n.records).records) few;
        mind_is = refl;
        todo_is = e ∙ (λ j. before ++ (shut_kids ∷ start_table (form_at n.stats.item (piece_type (piece j))) n.eof (piece j)
            ∷ join_kids (fold_zones (ty (arc_value n.dtype)) n.rows (non_zero_u32_get n.zone_len) (specs j)) ∷ []));
      })

-- what was in mind is what is left to do
pub kept_behind : (u : Active) (l d e : Stock) → e ≡ both d l → Owned u (both l d) → Moved u u (both l d) (both none e)
kept_behind u l d e is o =
    subst (λ s. Moved u u (both l d) s) (stock_is (both l d) (both none (both d l)) (λ p. omega arith) (λ p. omega arith) ∙ ap (both none) (sym is)) (moved_none u (both l d) o)
