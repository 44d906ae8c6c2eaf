-- Where a column's own machine begins.
use Rattle.std.proofs.Common.{◌≡◌, ◌≤◌, ◌^◌, ℕ, Bool, false, List, length, refl, sym, ap, subst, arith, Option, Some, []}
use Rattle.std.proofs.lemmas.Bool.{true≢false}
use Rattle.vx_model.specs.Ty.{Ty}
use Rattle.vx_model.specs.ChunkData.{ChunkData}
use Rattle.vx_path.specs.Path.{Eof}
use Rattle.vx_named_tasks.specs.Names.{handed, Outset}
use Rattle.vx_sequence.specs.Universe.{Active}
use Rattle.vx_order.specs.Outlet.{Outlet, own, shared}
use Rattle.vx_strategy_spec.specs.StrategyData.{StrategyData}
use Rattle.vx_plan.specs.Statements.{StartFaultStands}
use Rattle.vx_write_answer.specs.declared.error.WriteError.{WriteError}
use Rattle.vx_write_answer.specs.declared.error.WriteError.TheVariants.{CompressFault}
use Rattle.vx_write_answer.specs.Causes.{is_compress_fault}
use Rattle.vx_machine_ids.specs.Stock.{both, end_stock, ids_stock}
use Rattle.vx_machine_ids.specs.Balance.{Owned, Exact}
use Rattle.vx_machine_turns.specs.Forms.{Form}
use Rattle.vx_machine_turns.specs.Planned.{StartFaultsAgree}
use Rattle.vx_machine_state.specs.Start.{first_indices}
use Rattle.vx_machine_view.specs.Machine.{Machine}
use Rattle.vx_machine_runs.specs.Numbers.{AllBelow}
use Rattle.vx_machine_runs.specs.Courses.{start_point, CourseStartHasCause}
use Rattle.vx_machine_node.specs.Context.{Allowed}
use Rattle.vx_machine_node.specs.View.{form_at}
use Rattle.vx_machine.specs.TaskStarting.{FormRefused, Counted}
use Rattle.vx_machine.specs.Names.{HasNames}
use Rattle.vx_machine.specs.Progress.{HasCome, Begins}
use Rattle.vx_machine.specs.Starting.{machine_at}
use Rattle.vx_column_machine.specs.Course.{Course, write_of, outset_of, start_of, StandsAt}
use Rattle.vx_column_machine.specs.Underway.{IsGiven}
use Rattle.vx_column_machine.specs.Causes.{HasCause}
use Rattle.vx_column_machine.proofs.Refusing.{start_cause}

-- ---- what the desk keeps

abbrev next_in : Outlet → ℕ
next_in (own s) = s.next
next_in (shared s) = 0

abbrev kept_in : Outlet → Option (List (List ℕ))
kept_in (own s) = s.segments
kept_in (shared s) = Some []

pub still_kept : (n m : ℕ) (kept now : List (List ℕ)) → own (record { next = m; segments = Some now; borrow = 0 }) ≡ own (record { next = n; segments = Some kept; borrow = 0 }) → now ≡ kept
still_kept n m kept now e = same (ap kept_in e)
  where
    same : Some now ≡ Some kept → now ≡ kept
    same f = cc

pub still_next : (n m : ℕ) (kept now : List (List ℕ)) → own (record { next = m; segments = Some now; borrow = 0 }) ≡ own (record { next = n; segments = Some kept; borrow = 0 }) → m ≡ n
still_next n m kept now e = ap next_in e

-- ---- the course

module _ (x : Course) (allowed : Allowed) (way : StrategyData) (t : Ty) (mark : Bool) (number : ℕ) (part : Outset) (to_come : Option (List ChunkData)) (g : IsGiven allowed way t mark number part to_come x) where
  pub stands : (m : Machine) (written : ℕ) → written ≡ 0 → Begins allowed way t mark part.names part.eof m → Counted part.eof (first_indices (form_at way t) mark part.eof) → StandsAt x m to_come written []
  stands m written none begins counted = record {
    notes = [];
    point = start_of x;
    comes = refl;
    picked = tt;
    counts = tt;
    careful = g.careful;
    starts = come.come.starts;
    first = subst (λ (z : Outset). AllBelow (2 ^ 64) (first_indices (form_at x.column.way x.column.type) x.column.mark z.eof)) g.part_is
        (subst (λ z. AllBelow (2 ^ 64) (first_indices (form_at x.column.way x.column.type) z part.eof)) (sym g.mark_is)
        (subst (λ z. AllBelow (2 ^ 64) (first_indices (form_at x.column.way z) mark part.eof)) (sym g.type_is)
        (subst (λ z. AllBelow (2 ^ 64) (first_indices (form_at z t) mark part.eof)) (sym g.way_is) (counted (let e : part.eof.last ≡ 0 = ap (λ (z : Outset). z.eof.last) g.part_is in omega (arith, e))))));
    machine_is = come.machine_is;
    later = x.chunks;
    told = g.told;
    taken = refl;
    ended = λ i. absurd (true≢false (sym i));
    typed = g.typed;
    written_is = none;
    numbers = refl;
    paths_are = refl;
  }
    where
      come : HasCome (write_of x) (outset_of x).names (outset_of x).eof [] (start_of x) m
      come = subst (λ (z : Outset). HasCome (write_of x) z.names z.eof [] (start_point (write_of x) z.names z.eof) m) g.part_is (begins (write_of x) g.careful g.allowed_is g.way_is g.type_is g.mark_is)

  -- why it wasn't begun
  pub begin_cause : StartFaultStands → StartFaultsAgree → CourseStartHasCause → (e : WriteError) → FormRefused allowed (form_at way t) mark part.eof e → HasCause x e
  begin_cause faults agree counts e refused = start_cause faults agree counts x allowed g.allowed_is e
      (subst (λ (z : Outset). FormRefused allowed (form_at x.column.way x.column.type) x.column.mark z.eof e) g.part_is
      (subst (λ z. FormRefused allowed (form_at x.column.way x.column.type) z part.eof e) (sym g.mark_is)
      (subst (λ z. FormRefused allowed (form_at x.column.way z) mark part.eof e) (sym g.type_is)
      (subst (λ z. FormRefused allowed (form_at z t) mark part.eof e) (sym g.way_is) refused))))

-- its compressor isn't asked
pub none_pressed : (allowed : Allowed) (way : StrategyData) (t : Ty) (mark : Bool) (eof : Eof) (e : WriteError) → FormRefused allowed (form_at way t) mark eof e → is_compress_fault e ≡ false
none_pressed allowed way t mark eof CompressFault h = absurd h
none_pressed allowed way t mark eof e h = refl

-- ---- its ids

-- they are the part's, also where the desk has its universe
pub ids_owned : (u v : Active) (ids : List (List ℕ)) (e : Eof) → v ≡ u → Owned u (both (ids_stock ids) (end_stock e)) → Owned v (both (ids_stock ids) (end_stock e))
ids_owned u v ids e same o = subst (λ z. Owned z (both (ids_stock ids) (end_stock e))) (sym same) o

pub ids_held : (u v : Active) (ids : List (List ℕ)) (e : Eof) → v ≡ u → Exact u (both (ids_stock ids) (end_stock e)) → Exact v (both (ids_stock ids) (end_stock e))
ids_held u v ids e same h = subst (λ z. Exact z (both (ids_stock ids) (end_stock e))) (sym same) h

-- there are enough of them
pub begun_handed : (m : Machine) (ids : List (List ℕ)) (f : Form) (mark : Bool) (eof : Eof) (n : ℕ) → m ≡ machine_at (handed ids) f mark eof → n ≤ length ids → HasNames m.phase n
begun_handed m ids f mark eof n is enough = subst (λ (z : Machine). HasNames z.phase n) (sym is) enough
