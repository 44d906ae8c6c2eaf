-- Each number of a zoned node's plan is at most one that its tasks count.
use Rattle.std.proofs.Common.{◌≡◌, ◌+◌, ◌∷◌, ◌++◌, ◌∙◌, ℕ, suc, inl, inr, ⊎_elim, Bool, true, false, List, length, refl, sym, ap, subst, arith, append_assoc, append-nil, Option, Some, None, []}
use Rattle.vx_model.specs.Ty.{Ty}
use Rattle.vx_model.specs.ValueData.{ValueData}
use Rattle.vx_model.specs.ChunkData.{row_values}
use Rattle.vx_path.specs.Lists.{In}
use Rattle.vx_path.specs.Path.{Eof, under, inside, next}
use Rattle.vx_path.proofs.Lists.{in_left, in_right, in_cases}
use Rattle.vx_zone_spec.specs.Record.{zone_record}
use Rattle.vx_zone_spec.specs.ZoneTable.{Filled, kept_columns, table_type}
use Rattle.vx_strategy_spec.specs.StrategyData.{ZonedOptions}
use Rattle.vx_tasks.specs.Task.Kind.{TakeEnd}
use Rattle.vx_plan.specs.PlanData.{Setting, Item, Node, Plan, rows_in, totals, row_totals}
use Rattle.vx_plan.specs.ZonedNode.{zone_records, table_items, data_numbers, table_of, with_table, zoned_node}
use Rattle.vx_machine_turns.specs.Forms.{Form, zoned_form, form_type}
use Rattle.vx_machine_turns.specs.Locals.{ZonedNode, zoned_local}
use Rattle.vx_machine_turns.specs.Acts.{Act, numbers_in, indices_in}
use Rattle.vx_machine_turns.specs.Zoned.{zone_columns, zoned_end, zoned_ends}
use Rattle.vx_machine_turns.specs.Scripts.{as_kind, filled, script}
use Rattle.vx_machine_turns.specs.Fuels.{Fuel, spent, fuel, Enough}
use Rattle.vx_machine_turns.specs.Duties.{Duty, duty_of, duty_script, below, grown}
use Rattle.vx_machine_turns.specs.Planned.{AtMost}
use Rattle.vx_machine_turns.proofs.DutyLaws.{below_is}
use Rattle.vx_machine_turns.proofs.ZonedLaws.{table_duties, zoned_duties, zoned_streams}
use Rattle.vx_machine_runs.proofs.Covers.{counted_by, count_reading, all_counted, Covers, most_over, most_in}

module _ (s : Setting) (n : ZonedNode) where
  abbrev acts : List (List ValueData) → ℕ → ℕ → ℕ → List Item → Bool → List Act
  acts records last zones rows items ended = script s (zoned_local n records last zones rows) items ended

  abbrev recorded_of : Item → List ValueData
  recorded_of i = zone_record s.hash n.type (row_values i.1) (zone_columns n)

  rows_told : (k : ℕ) (items : List Item) (records : List (List ValueData)) (last zones rows : ℕ) (ended : Bool) → In k (totals rows_in rows items) → In k (numbers_in (acts records last zones rows items ended))
  rows_told k [] records last zones rows ended h = absurd h
  rows_told k (i ∷ is) records last zones rows ended (inl e) = inl e
  rows_told k (i ∷ is) records last zones rows ended (inr h) = inr (rows_told k is (records ++ (recorded_of i ∷ [])) (rows_in i.1) (suc zones) (rows + rows_in i.1) ended h)

  -- where there is a table it counts the zones, and its pointer comes behind the table's path
  table_told : (cs : List Filled) (items : List Item) (records : List (List ValueData)) (last zones rows : ℕ) → kept_columns (zone_columns n) (records ++ zone_records s n.type (zone_columns n) items) ≡ Some cs
      → In (zones + length items) (numbers_in (acts records last zones rows items true)) × In (n.eof.last + 2) (indices_in (acts records last zones rows items true))
  table_told cs [] records last zones rows h = at_end (kept_columns (zone_columns n) records) (ap (λ y. kept_columns (zone_columns n) y) (sym (append-nil records)) ∙ h)
    where
      at_end : (table : Option (List Filled)) → table ≡ Some cs
          → In (zones + 0) (numbers_in (filled [] (as_kind TakeEnd (zoned_end n zones rows table) ∷ zoned_ends s n zones table))) × In (n.eof.last + 2) (indices_in (filled [] (as_kind TakeEnd (zoned_end n zones rows table) ∷ zoned_ends s n zones table)))
      at_end None e = cc
      at_end (Some ds) e = (inl (omega arith), inl refl)
  table_told cs (i ∷ is) records last zones rows h =
      let r = table_told cs is (records ++ (recorded_of i ∷ [])) (rows_in i.1) (suc zones) (rows + rows_in i.1)
      (ap (λ y. kept_columns (zone_columns n) y) (append_assoc records (recorded_of i ∷ []) (zone_records s n.type (zone_columns n) is)) ∙ h) in
      let e : suc zones + length is ≡ zones + suc (length is) = omega arith in
      (inr (subst (λ z. In z (numbers_in (acts (records ++ (recorded_of i ∷ [])) (rows_in i.1) (suc zones) (rows + rows_in i.1) is true))) e r.0), r.1)

-- the first child's count, and the others'

first_kid : (s : Setting) (g : Ty → Fuel) (c : Duty) (cs : List Duty) (k : ℕ) → In k (all_counted s (g c.seed.type) c) → In k (grown s count_reading g (c ∷ cs))
first_kid s g c cs k i =
    subst (λ z. In k z) (append_assoc (counted_by c.seed (duty_script s c)) (below s count_reading (g c.seed.type) c) (grown s count_reading g cs)) (in_left k (all_counted s (g c.seed.type) c) (grown s count_reading g cs) i)

other_kid : (s : Setting) (g : Ty → Fuel) (c : Duty) (cs : List Duty) (k : ℕ) → In k (grown s count_reading g cs) → In k (grown s count_reading g (c ∷ cs))
other_kid s g c cs k i = in_right k (counted_by c.seed (duty_script s c)) (below s count_reading (g c.seed.type) c ++ grown s count_reading g cs) (in_right k (below s count_reading (g c.seed.type) c) (grown s count_reading g cs) i)

pub zoned_covers : (s : Setting) (o : ZonedOptions) (t : Ty) (k : Node) (f : Form) (stats : Ty → Node) (forms : Ty → Form) → Covers s k f → ((u : Ty) → Covers s (stats u) (forms u))
    → Covers s (zoned_node s o t k stats) (zoned_form o t f forms)
zoned_covers s o t k f stats forms h hs = record { covers = go }
  where
    -- of one that isn't marked, by its table's columns
    by_table : (name : List ℕ) (items : List Item) (ended : Bool) (e : Eof) (g : Ty → Fuel) → Enough (fuel g) (zoned_form o t f forms) → (table : Option (List Filled)) → table_of s o t items ended ≡ table
        → (x : ℕ) → In x (with_table s o t stats false items e (k false items ended (inside e)) table).numbers → AtMost x (e.last ∷ all_counted s (fuel g) (duty_of s (zoned_form o t f forms) false name items ended e))
    by_table name items ended e g enough table q x i = at table q i
      where
        n : ZonedNode
        n = record { name = name; options = o; type = t; child = f; table = forms; eof = e }

        c : Duty
        c = duty_of s (zoned_form o t f forms) false name items ended e

        inner : Duty
        inner = duty_of s f false (under name 0) items ended (inside e)

        told : List ℕ
        told = numbers_in (duty_script s c)

        moves : List ℕ
        moves = indices_in (duty_script s c)

        mine : List ℕ
        mine = counted_by c.seed (duty_script s c)

        kids : List ℕ
        kids = below s count_reading (fuel g) c

        kids_are : kids ≡ grown s count_reading g (zoned_duties s n items ended (table_of s o t items ended))
        kids_are = below_is s count_reading g c (zoned_duties s n items ended (table_of s o t items ended)) (zoned_streams s n items ended).0 (zoned_streams s n items ended).1

        at_told : (y : ℕ) → In y told → AtMost y (e.last ∷ (mine ++ kids))
        at_told y j = most_in y e.last (mine ++ kids) (in_left y mine kids (in_left y (told ++ moves) ((e.last + 1) ∷ []) (in_left y told moves j)))

        at_moves : (y : ℕ) → In y moves → AtMost y (e.last ∷ (mine ++ kids))
        at_moves y j = most_in y e.last (mine ++ kids) (in_left y mine kids (in_left y (told ++ moves) ((e.last + 1) ∷ []) (in_right y told moves j)))

        at_start : (y : ℕ) → y ≡ e.last + 1 → AtMost y (e.last ∷ (mine ++ kids))
        at_start y j = most_in y e.last (mine ++ kids) (in_left y mine kids (in_right y (told ++ moves) ((e.last + 1) ∷ []) (inl j)))

        at_rows : (y : ℕ) → In y (row_totals items) → AtMost y (e.last ∷ (mine ++ kids))
        at_rows y j = at_told y (rows_told s n y items [] o.zone_len 0 0 ended j)

        at_data : (y : ℕ) → In y (k false items ended (inside e)).numbers → AtMost y (e.last ∷ (mine ++ kids))
        at_data y j = most_over y 0 e.last (all_counted s (g (form_type f)) inner) (mine ++ kids) (omega arith)
            (λ v z. in_right v mine kids (subst (λ w. In v w) (sym kids_are) (first_kid s g inner (table_duties s n (length items) (table_of s o t items ended)) v z)))
            (h.covers false (under name 0) items ended (inside e) (g (form_type f)) enough.1 y j)

        at : (table : Option (List Filled)) → table_of s o t items ended ≡ table → In x (with_table s o t stats false items e (k false items ended (inside e)) table).numbers → AtMost x (e.last ∷ (mine ++ kids))
        at None q i = ⊎_elim own (at_data x) (in_cases x (data_numbers items e) (k false items ended (inside e)).numbers i)
          where
            own : In x (data_numbers items e) → AtMost x (e.last ∷ (mine ++ kids))
            own j = ⊎_elim (at_rows x) last (in_cases x (row_totals items) ((e.last + 1) ∷ []) j)
              where
                last : In x ((e.last + 1) ∷ []) → AtMost x (e.last ∷ (mine ++ kids))
                last (inl a) = at_start x a
                last (inr a) = absurd a
        at (Some cs) q i = ended_at ended refl
          where
            table_duty : Duty
            table_duty = duty_of s (forms (table_type cs)) false (under name 1) (table_items cs (length items) e) true (next (next e))

            plan_of_table : Plan
            plan_of_table = stats (table_type cs) false (table_items cs (length items) e) true (next (next e))

            ended_at : (b : Bool) → ended ≡ b → AtMost x (e.last ∷ (mine ++ kids))
            ended_at false b = absurd (no_table (sym (ap (λ z. table_of s o t items z) b) ∙ q))
              where
                no_table : None ≡ Some cs → ⊥
                no_table w = cc
            ended_at true b = ⊎_elim own (λ j. ⊎_elim (at_data x) at_table (in_cases x (k false items ended (inside e)).numbers plan_of_table.numbers j))
                (in_cases x (row_totals items ++ (length items ∷ (e.last + 2) ∷ [])) ((k false items ended (inside e)).numbers ++ plan_of_table.numbers) i)
              where
                counted : In (0 + length items) told × In (e.last + 2) moves
                counted = subst (λ z. In (0 + length items) (numbers_in (script s (zoned_local n [] o.zone_len 0 0) items z)) × In (e.last + 2) (indices_in (script s (zoned_local n [] o.zone_len 0 0) items z))) (sym b)
                    (table_told s n cs items [] o.zone_len 0 0 (sym (ap (λ z. table_of s o t items z) b) ∙ q))

                last : In x (length items ∷ (e.last + 2) ∷ []) → AtMost x (e.last ∷ (mine ++ kids))
                last (inl a) = at_told x (subst (λ z. In z told) (let v : 0 + length items ≡ x = omega (arith, a) in v) counted.0)
                last (inr (inl a)) = at_moves x (subst (λ z. In z moves) (sym a) counted.1)
                last (inr (inr a)) = absurd a

                own : In x (row_totals items ++ (length items ∷ (e.last + 2) ∷ [])) → AtMost x (e.last ∷ (mine ++ kids))
                own j = ⊎_elim (at_rows x) last (in_cases x (row_totals items) (length items ∷ (e.last + 2) ∷ []) j)

                -- the last index of the eof path that the table gets is counted here
                at_table : In x plan_of_table.numbers → AtMost x (e.last ∷ (mine ++ kids))
                at_table j = by ((hs (table_type cs)).covers false (under name 1) (table_items cs (length items) e) true (next (next e)) (g (form_type (forms (table_type cs)))) (enough.2 (table_type cs)) x j)
                  where
                    two : (e.last + 1) + 1 ≡ e.last + 2
                    two = omega arith

                    by : AtMost x ((next (next e)).last ∷ all_counted s (g (form_type (forms (table_type cs)))) table_duty) → AtMost x (e.last ∷ (mine ++ kids))
                    by (m, inl a, l) = let w = at_moves (e.last + 2) counted.1 in (w.0, w.1, omega (arith, l, a, two, w.2))
                    by (m, inr a, l) = (
                      m,
                      inr (in_right m mine kids (subst (λ w. In m w) (sym (kids_are ∙ ap (λ z. grown s count_reading g (zoned_duties s n items ended z)) q))
                          (other_kid s g inner (table_duty ∷ []) m (first_kid s g table_duty [] m a)))),
                      l,
                    )

    go : (m : Bool) (name : List ℕ) (items : List Item) (ended : Bool) (e : Eof) (d : Fuel) → Enough d (zoned_form o t f forms) → (x : ℕ) → In x (zoned_node s o t k stats m items ended e).numbers
        → AtMost x (e.last ∷ all_counted s d (duty_of s (zoned_form o t f forms) m name items ended e))
    go m name items ended e spent enough x i = absurd enough
    go true name items ended e (fuel g) enough x i = h.covers true name items ended e (fuel g) enough.0 x i
    go false name items ended e (fuel g) enough x i = by_table name items ended e g enough (table_of s o t items ended) refl x i
