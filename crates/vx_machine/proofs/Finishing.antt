-- A machine that has finished holds nothing, and has reserved nothing.
use Rattle.std.proofs.Common.{◌≡◌, true, refl, sym}
use Rattle.std.proofs.lemmas.Bool.{and_parts, true≢false}
use Rattle.vx_machine_ids.specs.Stock.{none, both}
use Rattle.vx_machine.specs.Source.{phase_stock}
use Rattle.vx_machine_task.specs.Ready.{is_done}
use Rattle.vx_machine.specs.Whole.{machine_stock, machine_reserved, has_closed, is_finished}
use Rattle.vx_machine.specs.declared.source.Phase.{Phase}
use Rattle.vx_machine.specs.declared.source.Phase.TheVariants.{Reading, Giving, Closing, Finished}
use Rattle.vx_machine.specs.declared.machine.Machine.{Machine}
use Rattle.vx_machine_task.proofs.Finishing.{done_none, done_unreserved}

closed_none : (p : Phase) → has_closed p ≡ true → phase_stock p ≡ none
closed_none Finished h = refl
closed_none (Reading ns) h = absurd (true≢false (sym h))
closed_none (Giving ns i) h = absurd (true≢false (sym h))
closed_none Closing h = refl

pub closed_is : (p : Phase) → has_closed p ≡ true → p ≡ Finished
closed_is Finished h = refl
closed_is (Reading ns) h = absurd (true≢false (sym h))
closed_is (Giving ns i) h = absurd (true≢false (sym h))
closed_is Closing h = absurd (true≢false (sym h))

pub finished_parts : (m : Machine) → is_finished m ≡ true → (has_closed m.phase ≡ true) × (is_done m.root ≡ true)
finished_parts m h = and_parts (has_closed m.phase) (is_done m.root) h

pub finished_none : (m : Machine) → is_finished m ≡ true → machine_stock m ≡ none
finished_none m h =
    let a = and_parts (has_closed m.phase) (is_done m.root) h in
    λ i. both (closed_none m.phase a.0 i) (done_none m.root a.1 i)

pub finished_unreserved : (m : Machine) → is_finished m ≡ true → machine_reserved m ≡ 0
finished_unreserved m h = done_unreserved m.root (finished_parts m h).1
