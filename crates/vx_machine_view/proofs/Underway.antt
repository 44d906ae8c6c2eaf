-- A write that is under way goes on with the machine's steps.
use Rattle.std.proofs.Common.{◌≡◌, ◌+◌, ◌%◌, ◌<◌, ◌⊎◌, ◌||◌, ◌∷◌, ◌++◌, ◌∙◌, ℕ, zero, suc, Bool, true, false, if◌then◌else◌, bytes_eq, List, length, refl, sym, ap, subst, inl, inr, append_assoc, append-nil, Some, None, is_some, []}
use Rattle.std.specs.Cmp.Lexicographic.{bytes_decides}
use Rattle.vx_model.specs.ChunkData.{ChunkData}
use Rattle.vx_path.specs.Lists.{In}
use Rattle.vx_path.specs.Path.{Scattered, meets}
use Rattle.vx_path.proofs.Lists.{in_left, in_right}
use Rattle.vx_tasks.specs.Task.{Append}
use Rattle.vx_tasks.specs.Run.{Note, nth, first_pick}
use Rattle.vx_tasks.specs.Runs.{noted}
use Rattle.vx_plan.specs.PlanData.{Pair, paths}
use Rattle.vx_plan.specs.Number.{sorted, place_of, number_of}
use Rattle.vx_plan.specs.SourcePlan.{source_plan}
use Rattle.vx_plan.proofs.Numbering.{in_paths, clash}
use Rattle.vx_plan.proofs.Fronts.{scattered_sorted}
use Rattle.vx_plan.proofs.SourceLaws.{paths_distinct}
use Rattle.vx_named_tasks.specs.Names.{root_outset}
use Rattle.vx_machine_turns.specs.Acts.{refuses, written_by}
use Rattle.vx_machine_turns.specs.Readings.{number_reading}
use Rattle.vx_machine_steps.specs.Tree.{Tree, read}
use Rattle.vx_machine_steps.specs.Moves.{all_over, TreeMove, tree_moves}
use Rattle.vx_machine_steps.specs.Runs.{Runs, picks_after, appended}
use Rattle.vx_machine_steps.specs.Stands.{Stands}
use Rattle.vx_machine_steps.specs.StartPlanned.{IsPlanned}
use Rattle.vx_machine_steps.proofs.Laws.{runs_lead, runs_read}
use Rattle.vx_machine_steps.proofs.Noted.{notes_agree}
use Rattle.vx_machine_steps.proofs.Ready.{some_move}
use Rattle.vx_machine_steps.proofs.Sorted.{appended_first}
use Rattle.vx_machine_steps.proofs.StartPlanned.{start_is_planned}
use Rattle.vx_machine_promises.specs.Write.{Write, Future, Answer, unasked, came, over, depth, begin, planned, taken_by, before}
use Rattle.vx_machine_promises.specs.Reached.{Reached, moves_at, pick_at, Stepped}
use Rattle.vx_machine_view.specs.Machine.{WholeStep, machine_ids}
use Rattle.vx_machine_view.specs.Whole.{ShowsMachine, SameWhole}
use Rattle.vx_machine_view.specs.Underway.{Showing, ready_steps, ReachedStands, AppendIsNext, IsMove, WriteMoves, WriteSteps, WriteReady, WriteEnds, WriteJoins}
use Rattle.vx_machine_view.proofs.Words.{none_some, same_some}
use Rattle.vx_machine_view.proofs.Ending.{moves_shows, finish_shows, layout_shows}
use Rattle.vx_machine_view.proofs.Counting.{whole_joins}
use Rattle.vx_machine_view.proofs.Wholes.{free_below, step_shows, ready_shows}

-- ---- the number of the next append

place_is : (x : Pair) (done more : List Pair) → Scattered (paths ((done ++ (x ∷ [])) ++ more)) → place_of x.0 ((done ++ (x ∷ [])) ++ more) ≡ length done
place_is x [] more sc = ap (λ z. if z then 0 else suc (place_of x.0 more)) ((bytes_decides x.0 x.0).1 refl)
place_is x (y ∷ done) more sc = by (bytes_eq x.0 y.0) refl (place_is x done more sc.1)
  where
    there : In x ((done ++ (x ∷ [])) ++ more)
    there = in_left x (done ++ (x ∷ [])) more (in_right x done (x ∷ []) (inl refl))

    by : (b : Bool) → bytes_eq x.0 y.0 ≡ b → place_of x.0 ((done ++ (x ∷ [])) ++ more) ≡ length done
        → (if b then 0 else suc (place_of x.0 ((done ++ (x ∷ [])) ++ more))) ≡ suc (length done)
    by true e k = absurd (clash y.0 (subst (λ z. meets y.0 z ≡ false) ((bytes_decides x.0 y.0).0 e) (sc.0 x.0 (in_paths x ((done ++ (x ∷ [])) ++ more) there))))
    by false e k = ap suc k

appended_more : (ms : List TreeMove) (m : TreeMove) → appended (ms ++ (m ∷ [])) ≡ appended ms ++ written_by m.act.kind m.act.bytes
appended_more [] m = append-nil (written_by m.act.kind m.act.bytes)
appended_more (x ∷ ms) m = ap (λ z. written_by x.act.kind x.act.bytes ++ z) (appended_more ms m) ∙ sym (append_assoc (written_by x.act.kind x.act.bytes) (appended ms) (written_by m.act.kind m.act.bytes))

runs_more : (g : Write) (t e : Tree) (ms : List TreeMove) (m : TreeMove) → Runs g.setting (depth g) t ms e → In m (moves_at g e) → refuses m.act ≡ false → Runs g.setting (depth g) t (ms ++ (m ∷ [])) m.after
runs_more g t e [] m w i c = (subst (λ z. In m (moves_at g z)) (sym w) i, c, refl)
runs_more g t e (x ∷ ms) m (k, n, w) i c = (k, n, runs_more g x.after e ms m w i c)

module _ (g : Write) (taken : List ChunkData) (f : Future) (seen : List Note) (history : List Pair) (tracker : ℕ) (r : Reached g taken f seen history tracker) where
  at_start : IsPlanned g.setting g.way g.type g.mark (taken ++ f.later) f.fits
  at_start = start_is_planned g.setting g.way g.type g.mark (taken ++ f.later) f.fits

  runs : Runs g.setting (depth g) (begin g taken f) r.moves r.tree
  runs = (notes_agree g.setting (depth g) (begin g taken f) r.tree g.schedule r.moves at_start.stands r.runs).0

  pub stands : Stands g.setting (depth g) r.tree
  stands = (runs_lead g.setting (depth g) (begin g taken f) r.tree r.moves at_start.stands runs).2

  pub next_number : (first : ℕ) (m : TreeMove) (p : List ℕ) → In m (moves_at g r.tree) → refuses m.act ≡ false → m.act.kind ≡ Append p → number_of (planned g taken f).pairs first p ≡ first + length history
  next_number first m p i c k =
      let x : Pair = (p, m.act.bytes) in
      let h = appended_first g.setting (depth g) (begin g taken f) m.after (r.moves ++ (m ∷ [])) at_start.stands at_start.order at_start.zeros
      (runs_more g (begin g taken f) r.tree r.moves m runs i c) at_start.one in
      let e : written_by m.act.kind m.act.bytes ≡ x ∷ [] = ap (λ z. written_by z m.act.bytes) k in
      let a : sorted (planned g taken f).pairs ≡ (history ++ (x ∷ [])) ++ h.0 =
      ap sorted (sym at_start.pairs) ∙ h.1 ∙ ap (λ z. z ++ h.0) (appended_more r.moves m ∙ ap (λ z. appended r.moves ++ z) e ∙ ap (λ z. z ++ (x ∷ [])) (sym r.wrote)) in
      ap (λ z. first + place_of p z) a
      ∙ ap (λ z. first + z) (place_is x history h.0 (subst (λ z. Scattered (paths z)) a (scattered_sorted (planned g taken f).pairs (paths_distinct g.setting g.way g.type g.mark (taken ++ f.later) f.fits))))

pub reached_stands : ReachedStands
reached_stands g taken f seen history tracker r = stands g taken f seen history tracker r

pub append_is_next : AppendIsNext
append_is_next g taken f seen history tracker first r m p i c k = next_number g taken f seen history tracker r first m p i c k

-- ---- a step

nth_in : {A : Type 0} (xs : List A) (k : ℕ) (x : A) → nth xs k ≡ Some x → In x xs
nth_in [] k x e = absurd (none_some x e)
nth_in (y ∷ xs) zero x e = inl (sym (same_some y x e))
nth_in (y ∷ xs) (suc k) x e = inr (nth_in xs k x e)

same_plan : (g : Write) (taken : List ChunkData) (a : Answer) (f : Future) → planned g taken (before a f) ≡ planned g (taken_by taken a) f
same_plan g taken unasked f = refl
same_plan g taken (came b) f = ap (λ z. source_plan g.setting g.way g.type g.mark z f.fits) (sym (append_assoc taken (b ∷ []) f.later))
same_plan g taken over f = refl

unrefused : (m : TreeMove) (w : WholeStep) → w.refusal ≡ m.act.refusal → w.misfit ≡ m.act.misfit → w.refusal ≡ None → w.misfit ≡ false → refuses m.act ≡ false
unrefused m w r s n f = ap (λ z. z || is_some m.act.refusal) (sym s ∙ f) ∙ ap is_some (sym r ∙ n)

pub write_moves : WriteMoves
write_moves g first taken heard a f seen history tracker r m k w law o sh n ask =
    go (step_shows g (number_of (planned g taken (before a f)).pairs first) (first + length history) (machine_ids m) heard a f m r.tree k w law st o sh n ask)
  where
    st : Stands g.setting (depth g) r.tree
    st = stands g taken (before a f) seen history tracker r

    held : tree_moves g.setting (machine_ids m) (depth g) r.tree ≡ moves_at g r.tree
    held = moves_shows g (number_of (planned g taken (before a f)).pairs first) (before a f) m r.tree st sh

    go : (v : TreeMove) × (nth (tree_moves g.setting (machine_ids m) (depth g) r.tree) k ≡ Some v) × SameWhole g (number_of (planned g taken (before a f)).pairs first) (first + length history) f w v
        → (v : TreeMove) × In v (moves_at g r.tree) × IsMove w v
    go (v, at, same) = (
      v,
      nth_in (moves_at g r.tree) k v (ap (λ z. nth z k) (sym held) ∙ at),
      record { kind = same.kind; refusal = same.refusal; misfit = same.misfit; numbers = same.numbers; indices = same.indices; raises = same.raises },
    )

pub write_steps : WriteSteps
write_steps g first taken heard a f seen history tracker tracker_then r m k w law o sh n pick ask unref fit counts =
    go (step_shows g (number_of (planned g taken (before a f)).pairs first) (first + length history) (machine_ids m) heard a f m r.tree k w law st o sh n ask)
  where
    st : Stands g.setting (depth g) r.tree
    st = stands g taken (before a f) seen history tracker r

    held : tree_moves g.setting (machine_ids m) (depth g) r.tree ≡ moves_at g r.tree
    held = moves_shows g (number_of (planned g taken (before a f)).pairs first) (before a f) m r.tree st sh

    ready : length (ready_steps g first history a m) ≡ length (moves_at g r.tree)
    ready = ready_shows g (number_of (planned g taken (before a f)).pairs first) (first + length history) (machine_ids m) a (before a f) m r.tree law st sh ∙ ap length held

    go : (v : TreeMove) × (nth (tree_moves g.setting (machine_ids m) (depth g) r.tree) k ≡ Some v) × SameWhole g (number_of (planned g taken (before a f)).pairs first) (first + length history) f w v
        → (st : Stepped g r.tree seen (noted (length (ready_steps g first history a m)) k w.name w.kind) history (history ++ w.wrote) tracker tracker_then)
        × Showing g first (taken_by taken a) w.after f st.move.after
    go (v, at, same) =
        let i : nth (moves_at g r.tree) k ≡ Some v = ap (λ z. nth z k) (sym held) ∙ at in
        let c : refuses v.act ≡ false = unrefused v w same.refusal same.misfit unref fit in
        let p : k ≡ pick_at g r.tree seen = pick ∙ ap (λ z. first_pick (picks_after (length seen) g.schedule) % z) ready in (
          record {
            move = v;
            picked = ap (nth (moves_at g r.tree)) (sym p) ∙ i;
            done = c;
            note_is = ap (λ z. noted z k w.name w.kind) ready ∙ ap (λ z. noted (length (moves_at g r.tree)) z w.name w.kind) p
                ∙ ap (λ z. noted (length (moves_at g r.tree)) (pick_at g r.tree seen) z w.kind) same.name
                ∙ ap (λ z. noted (length (moves_at g r.tree)) (pick_at g r.tree seen) v.name z) same.kind;
            wrote = ap (λ z. history ++ z) same.wrote;
            tracked = ap (λ z. tracker_then + z) (sym same.lowers) ∙ counts ∙ ap (λ z. tracker + z) same.raises;
          },
          subst (λ z. ShowsMachine g (number_of z.pairs first) w.after f v.after) (same_plan g taken a f)
              (same.after c (λ q e. sym (append_is_next g taken (before a f) seen history tracker first r v q (nth_in (moves_at g r.tree) k v i) c e))),
        )

pub write_ready : WriteReady
write_ready g first taken a f seen history tracker r m law sh open_still =
    let st : Stands g.setting (depth g) r.tree = stands g taken f seen history tracker r in
    let more : 0 < length (moves_at g r.tree) =
    some_move g.setting (depth g) (begin g taken f) r.tree r.moves (at_start g taken f seen history tracker r).stands (at_start g taken f seen history tracker r).zeros
    (runs g taken f seen history tracker r) (sym (finish_shows g (number_of (planned g taken f).pairs first) f m r.tree st sh) ∙ open_still) in
    let same : length (ready_steps g first history a m) ≡ length (moves_at g r.tree) =
    ready_shows g (number_of (planned g taken f).pairs first) (first + length history) (machine_ids m) a f m r.tree law st sh
    ∙ ap length (moves_shows g (number_of (planned g taken f).pairs first) f m r.tree st sh) in
    subst (λ z. 0 < z) (sym same) more

pub write_ends : WriteEnds
write_ends g first taken f seen history tracker r m sh done =
    let st : Stands g.setting (depth g) r.tree = stands g taken f seen history tracker r in
    let over_now : all_over r.tree ≡ true = sym (finish_shows g (number_of (planned g taken f).pairs first) f m r.tree st sh) ∙ done in
    (over_now, layout_shows g (number_of (planned g taken f).pairs first) f m r.tree st sh over_now)

pub write_joins : WriteJoins
write_joins g first taken a f seen history tracker r m k w sh at n i =
    by (whole_joins g root_outset (number_of (planned g taken f).pairs first) (first + length history) (machine_ids m) a f m r.tree sh
    (free_below g m f sh.past sh.kids r.tree sh.tree_is (stands g taken f seen history tracker r)) w (nth_in (ready_steps g first history a m) k w at) n i)
  where
    by : (n ≡ 0) ⊎ In n (read g.setting number_reading (depth g) 0 [] r.tree) → (n ≡ 0) ⊎ In n (planned g taken f).numbers
    by (inl e) = inl e
    by (inr x) = inr ((at_start g taken f seen history tracker r).numbers n (subst (In n)
        (runs_read number_reading g.setting (depth g) (begin g taken f) r.tree r.moves (at_start g taken f seen history tracker r).stands (runs g taken f seen history tracker r)) x))
