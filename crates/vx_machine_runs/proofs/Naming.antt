-- Each batch takes one of the paths that a run has for them.
use Rattle.std.proofs.Common.{◌≡◌, ◌+◌, ◌∷◌, ◌++◌, ◌∙◌, ℕ, zero, suc, true, List, map, length, length-append, refl, sym, ap, subst, inl, inr, ◌⊎◌, arith, cond, Some, []}
use Rattle.vx_model.specs.ChunkData.{ChunkData}
use Rattle.vx_path.specs.Lists.{In}
use Rattle.vx_path.proofs.Lists.{from_map}
use Rattle.vx_named_tasks.specs.Names.{Names, later_names}
use Rattle.vx_tasks.specs.Run.{Note, nth}
use Rattle.vx_machine_promises.specs.Write.{Write, Answer, unasked, came, over, taken_by}
use Rattle.vx_machine_state.specs.State.{Tasks}
use Rattle.vx_machine_state.specs.Moves.{Step, steps, has_room}
use Rattle.vx_machine_view.specs.Machine.{Phase, reading, giving, closing, finished, may_source, WholeStep, source_step, in_root, machine_ids}
use Rattle.vx_machine_runs.specs.Runs.{Asking}
use Rattle.vx_machine_runs.specs.Courses.{Point, start_point, Goes, GoesBy, names_after, NamesLeft, CourseHasNames}
use Rattle.vx_machine_runs.proofs.Counting.{nth_in}
use Rattle.vx_machine_runs.proofs.Misfits.{at_place}
use Rattle.vx_machine_runs.proofs.Stepping.{some_same}

names_more : (ns : Names) (k : ℕ) → later_names (names_after ns k) ≡ names_after ns (suc k)
names_more ns zero = refl
names_more ns (suc k) = names_more (later_names ns) k

module _ (names : Names) (taken : List ChunkData) where
  abbrev Left : Answer → Phase → Type 0
  Left told p = NamesLeft (names_after names (length (taken_by taken told))) p

  one_more : (b : ChunkData) (ns : Names) → ns ≡ names_after names (length taken) → later_names ns ≡ names_after names (length (taken ++ (b ∷ [])))
  one_more b ns h =
      let l : length (taken ++ (b ∷ [])) ≡ length taken + 1 = length-append taken (b ∷ []) in
      let m : length (taken ++ (b ∷ [])) ≡ suc (length taken) = omega (arith, l) in
      ap later_names h ∙ names_more names (length taken) ∙ ap (names_after names) (sym m)

  module _ (root : Tasks) (rest : List WholeStep) (w : WholeStep) where
    -- of a step of the root
    beside : (p : Phase) (told : Answer) → told ≡ unasked → NamesLeft (names_after names (length taken)) p → w.after.phase ≡ p → Left told w.after.phase
    beside p told a h e = subst (λ z. Left z w.after.phase) (sym a) (subst (NamesLeft (names_after names (length taken))) (sym e) h)

    step_named : (p : Phase) (k : ℕ) (told : Answer) → Asking p k told → nth (cond (may_source p root) (source_step told p root ∷ []) [] ++ rest) k ≡ Some w
        → ((v : WholeStep) → In v rest → v.after.phase ≡ p) → NamesLeft (names_after names (length taken)) p → Left told w.after.phase
    step_named (reading ns) zero unasked a at others h = subst (λ (z : WholeStep). Left unasked z.after.phase) (some_same (source_step unasked (reading ns) root) w at) h
    step_named (reading ns) zero (came b) a at others h = subst (λ (z : WholeStep). Left (came b) z.after.phase) (some_same (source_step (came b) (reading ns) root) w at) (one_more b ns h)
    step_named (reading ns) zero over a at others h = subst (λ (z : WholeStep). Left over z.after.phase) (some_same (source_step over (reading ns) root) w at) tt
    step_named (reading ns) (suc k) told a at others h = beside (reading ns) told a h (others w (nth_in rest k w at))
    step_named (giving ns i) k told a at others h = subst (λ z. Left z w.after.phase) (sym a) (by (at_place (has_room 0 root) (source_step told (giving ns i) root) rest k w at))
      where
        by : ((k ≡ 0) × (source_step told (giving ns i) root ≡ w)) ⊎ In w rest → Left unasked w.after.phase
        by (inl (z, q)) = subst (λ (v : WholeStep). Left unasked v.after.phase) q h
        by (inr j) = beside (giving ns i) unasked refl h (others w j)
    step_named closing k told a at others h = subst (λ z. Left z w.after.phase) (sym a) (by (at_place true (source_step told closing root) rest k w at))
      where
        by : ((k ≡ 0) × (source_step told closing root ≡ w)) ⊎ In w rest → Left unasked w.after.phase
        by (inl (z, q)) = subst (λ (v : WholeStep). Left unasked v.after.phase) q tt
        by (inr j) = beside closing unasked refl h (others w j)
    step_named finished k told a at others h = subst (λ p. Left told p) (sym (others w (nth_in rest k w at))) tt

goes_named : (names : Names) (g : Write) (x y : Point) (n : Note) → Goes g x y n → NamesLeft (names_after names (length x.taken)) x.machine.phase → NamesLeft (names_after names (length y.taken)) y.machine.phase
goes_named names g x y n d h = subst (λ (z : Point). NamesLeft (names_after names (length z.taken)) z.machine.phase) (sym d.left)
    (step_named names x.taken x.machine.root (map (in_root x.machine.phase) below) d.step x.machine.phase n.picked d.told d.asks d.place alike h)
  where
    below : List Step
    below = steps g.setting (machine_ids x.machine) d.number x.machine.root

    alike : (v : WholeStep) → In v (map (in_root x.machine.phase) below) → v.after.phase ≡ x.machine.phase
    alike v i = ap (λ (z : WholeStep). z.after.phase) (from_map (in_root x.machine.phase) v below i).2

comes_named : (names : Names) (g : Write) (ns : List Note) (x y : Point) → GoesBy g x ns y → NamesLeft (names_after names (length x.taken)) x.machine.phase → NamesLeft (names_after names (length y.taken)) y.machine.phase
comes_named names g [] x y c h = subst (λ (z : Point). NamesLeft (names_after names (length z.taken)) z.machine.phase) c h
comes_named names g (n ∷ ns) x y c h = comes_named names g ns c.0 y c.2 (goes_named names g x c.0 n c.1 h)

pub course_has_names : CourseHasNames
course_has_names g names eof notes x h = comes_named names g notes (start_point g names eof) x h.comes refl
