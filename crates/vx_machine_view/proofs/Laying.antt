-- Each task that has done all has one layout.
use Rattle.std.proofs.Common.{◌≡◌, ◌+◌, ◌⊎◌, ◌++◌, ◌∙◌, ℕ, suc, true, List, length, length-append, refl, ap, inl, inr, arith}
use Rattle.vx_plan.specs.PlanData.{Setting}
use Rattle.vx_machine_turns.specs.Acts.{Seed}
use Rattle.vx_machine_turns.specs.Fuels.{Fuel, less}
use Rattle.vx_machine_steps.specs.Tree.{Tree, Leaf, Work}
use Rattle.vx_machine_state.specs.State.{Tasks, no_tasks, task_then}
use Rattle.vx_machine_state.specs.Acts.{count, layout_in, layouts_in}
use Rattle.vx_machine_state.specs.Moves.{is_made, all_made}
use Rattle.vx_machine_view.specs.Shows.{Stage, Done, Shows}
use Rattle.vx_machine_view.proofs.Words.{and_left, and_right}
use Rattle.vx_machine_view.proofs.Feeding.{count_types}
use Rattle.vx_machine_view.proofs.Joining.{Passed, stage_made}

pub made_each : (s : Setting) (number : List ℕ → ℕ) (d : Fuel) (q : Seed) (j : ℕ) (cs : Tasks) (t : Tree) → Shows s number d q j cs t → all_made cs ≡ true → length (layouts_in cs) ≡ count cs
made_each s number d q j no_tasks t w m = refl
made_each s number d q j (task_then c ks more) Leaf w m = absurd w
made_each s number d q j (task_then c ks more) (Work h hs r) w m =
    by w.1 (λ k b. made_each s number (less d h.seed.type) h.seed 0 ks hs k b) (made_each s number d q (suc j) more r w.2 (and_right (is_made c.mind c.todo (all_made ks)) (all_made more) m))
  where
    by : (Stage s (less d h.seed.type) c.mind c.todo ks h.seed h.past h.todo h.local h.over hs × Shows s number (less d h.seed.type) h.seed 0 ks hs)
        ⊎ Done number c.mind c.todo ks h.past h.todo h.over hs → (Shows s number (less d h.seed.type) h.seed 0 ks hs → all_made ks ≡ true → length (layouts_in ks) ≡ count ks)
        → length (layouts_in more) ≡ count more → length (layout_in c.mind (layouts_in ks) ++ layouts_in more) ≡ suc (count more)
    by (inl (st, k)) deeper others =
        let x : (all_made ks ≡ true) × Passed c.mind c.todo h.past h.todo h.over hs =
        stage_made s (less d h.seed.type) c.mind c.todo ks h.seed h.past h.todo h.local h.over hs (all_made ks) st (and_left (is_made c.mind c.todo (all_made ks)) (all_made more) m) in
        let a : length (layouts_in ks) ≡ 1 = deeper k x.0 ∙ count_types s number (less d h.seed.type) h.seed 0 ks hs k ∙ ap length x.1.one in
        let b : length (layouts_in ks ++ layouts_in more) ≡ length (layouts_in ks) + length (layouts_in more) = length-append (layouts_in ks) (layouts_in more) in
        let c : length (layouts_in more) ≡ count more = others in
        let e : length (layouts_in ks ++ layouts_in more) ≡ suc (count more) = omega (arith, a, b, c) in
        ap (λ z. length (layout_in z (layouts_in ks) ++ layouts_in more)) x.1.ends.mind_is ∙ e
    by (inr e) deeper others = ap (λ z. length (layout_in z (layouts_in ks) ++ layouts_in more)) e.mind_is ∙ ap suc others
