-- What layouts of one kind tell.
use Rattle.std.proofs.Common.{◌≡◌, ℕ, zero, suc, ◌+◌, ◌<◌, ◌≤◌, ◌++◌, ◌==◌, Bool, true, false, Ok, Err, List, [], ◌∷◌, length, get_or, take, map, Option, Some, None, refl, sym, ◌∙◌, ap, arith}
use Rattle.std.specs.Prelude.{slice_get, option_map, if◌then◌else◌}
use Rattle.std.proofs.lemmas.Bool.{eqb-true}
use Rattle.std.proofs.lemmas.List.{length-map, map_push, append-nil, take_all, append_assoc}
use Rattle.vx_metadata.specs.Kept.{second_type}
use Rattle.vx_aggregate_spec.specs.Aggregate.{Aggregate}
use Rattle.vx_model.specs.Words.{total_by}
use Rattle.vx_layout_spec.specs.Refusal.{other_rows}
use Rattle.vx_layout_spec.specs.LayoutTree.{LayoutData, layout, lays_of, row_count, layout_type}
use Rattle.vx_layout_spec.proofs.LayoutLaws.{lays_in-lays_of}
use Rattle.vx_aggregate.specs.declared.stat.Stat.{Stat}
use Rattle.vx_aggregate.specs.declared.stat.Stat.TheVariants as stats
use Rattle.vx_aggregate.specs.declared.aggregate.AggregateFn.{AggregateFn}
use Rattle.vx_aggregate.specs.AggregateView.{aggregate}
use Rattle.vx_aggregate.specs.Stats.{stat_number, stat_aggregate}
use Rattle.vx_layout_tree.specs.declared.layout.Layout.{Layout}
use Rattle.vx_layout_tree.specs.LayoutView.{layout_data}
use Rattle.vx_layout_tree.specs.Children.{rows_at}
use Rattle.vx_layout_tree.specs.Copies.{with_chunks}
use Rattle.vx_layout_tree.specs.Own.{numbered, all_numbered}

-- ---- a list's children

pub nth : (ls : List Layout) (i : ℕ) (l : Layout) → i < length ls → l ≡ get_or ls i l → slice_get (map layout_data ls) i ≡ Some (layout_data l)
nth [] i l lt is = absurd (omega (arith, lt))
nth (x ∷ ls) zero l lt is = rw (← is) refl
nth (x ∷ ls) (suc i) l lt is = nth ls i l (omega (arith, lt)) is

pub past_last : (ls : List Layout) (i : ℕ) → length ls ≤ i → slice_get (map layout_data ls) i ≡ None
past_last [] i le = refl
past_last (x ∷ ls) zero le = absurd (omega (arith, le))
past_last (x ∷ ls) (suc i) le = past_last ls i (omega (arith, le))

pub second_is : (ls : List (LayoutData ℕ)) (l : LayoutData ℕ) → slice_get ls 1 ≡ Some l → second_type ls ≡ layout_type l
second_is [] l is = cc is
second_is (x ∷ []) l is = cc is
second_is (x ∷ y ∷ ls) l is = let h : y ≡ l = cc is in rw h refl

pub ruleset list_rules = (lays_in-lays_of, nth, past_last, second_is, length-map)

-- ---- a table's rows

pub second_rows : (ls : List Layout) (l : Layout) → 1 < length ls → l ≡ get_or ls 1 l → row_count (layout_data l) ≡ rows_at (map layout_data ls) 1
second_rows [] l lt is = absurd (omega (arith, lt))
second_rows (x ∷ []) l lt is = absurd (omega (arith, lt))
second_rows (x ∷ y ∷ ls) l lt is = rw is refl

pub no_rows : (ls : List Layout) → length ls ≤ 1 → rows_at (map layout_data ls) 1 ≡ 0
no_rows [] le = refl
no_rows (x ∷ []) le = refl
no_rows (x ∷ y ∷ ls) le = absurd (omega (arith, le))

pub few_rows : (ls : List (LayoutData ℕ)) → length ls ≤ 1 → rows_at ls 1 ≡ 0
few_rows [] le = refl
few_rows (x ∷ []) le = refl
few_rows (x ∷ y ∷ ls) le = absurd (omega (arith, le))

pub ruleset zone_rules = (lays_in-lays_of, second_rows, no_rows, few_rows)

-- ---- other chunks

others_by : (b : Bool) (has n : ℕ) (made : LayoutData ℕ) → (has == n) ≡ b → (has ≡ n → ⊥) → (if b then Ok made else Err (other_rows has n)) ≡ Err (other_rows has n)
others_by true has n made test ne = absurd (ne (eqb-true has n test))
others_by false has n made test ne = refl

pub other_chunks : (l : LayoutData ℕ) (cs : List (LayoutData ℕ)) (has n : ℕ) → row_count l ≡ n → has ≡ total_by row_count cs → (has ≡ n → ⊥) → with_chunks l cs ≡ Err (other_rows has n)
other_chunks (layout k t m names ls) cs has n is sum ne =
    rw (← is, sum) (others_by (total_by row_count cs == m) (total_by row_count cs) m (layout k t m names (lays_of cs)) refl (λ e. ne (sum ∙ e ∙ is)))

-- ---- statistics

pub one_some : (s : Stat) (a : AggregateFn) (o : Option AggregateFn) (xs ys : List AggregateFn) → option_map aggregate o ≡ stat_aggregate s → o ≡ Some a → ys ≡ xs ++ a ∷ []
    → map aggregate ys ≡ map aggregate xs ++ numbered (stat_number s)
one_some s a o xs ys known is more = rw (more, map_push aggregate xs a, one s (aggregate a) (sym known ∙ rw is refl)) refl
  where
    one : (s : Stat) (a : Aggregate) → stat_aggregate s ≡ Some a → numbered (stat_number s) ≡ a ∷ []
    one stats.Max a is = cc is
    one stats.Min a is = cc is
    one stats.Sum a is = cc is
    one stats.NullCount a is = cc is
    one stats.UncompressedSizeInBytes a is = cc is

pub one_none : (s : Stat) (o : Option AggregateFn) (xs : List AggregateFn) → option_map aggregate o ≡ stat_aggregate s → o ≡ None → map aggregate xs ≡ map aggregate xs ++ numbered (stat_number s)
one_none s o xs known is = rw (none s (sym known ∙ rw is refl)) (sym (append-nil (map aggregate xs)))
  where
    none : (s : Stat) → stat_aggregate s ≡ None → numbered (stat_number s) ≡ []
    none stats.Max is = cc is
    none stats.Min is = cc is
    none stats.Sum is = cc is
    none stats.NullCount is = cc is
    none stats.UncompressedSizeInBytes is = refl

pub ruleset one_rules = (one_some, one_none)

take_one : (ss : List Stat) (i : ℕ) (d : Stat) → i < length ss → all_numbered (map stat_number (take (i + 1) ss)) ≡ all_numbered (map stat_number (take i ss)) ++ numbered (stat_number (get_or ss i d))
take_one [] i d lt = absurd (omega (arith, lt))
take_one (x ∷ ss) zero d lt = append-nil (numbered (stat_number x))
take_one (x ∷ ss) (suc i) d lt =
    let e : suc i + 1 ≡ suc (i + 1) = omega arith in
    rw e (ap (λ r. numbered (stat_number x) ++ r) (take_one ss i d (omega (arith, lt))) ∙ sym (append_assoc (numbered (stat_number x)) (all_numbered (map stat_number (take i ss))) (numbered (stat_number (get_or ss i d)))))

pub next_stat : (ss : List Stat) (i : ℕ) (d : Stat) (before after : List Aggregate) → i < length ss → after ≡ before ++ numbered (stat_number (get_or ss i d))
    → before ≡ all_numbered (map stat_number (take i ss)) → after ≡ all_numbered (map stat_number (take (i + 1) ss))
next_stat ss i d before after lt more so_far = rw (more, so_far) (sym (take_one ss i d lt))

pub ruleset stat_rules = (take_all)
