-- Of a valid input nothing is refused, and each count fits.
use Rattle.std.proofs.Common.{◌≡◌, ◌+◌, ◌^◌, ◌<◌, ◌≤◌, ◌∷◌, ◌++◌, ◌∙◌, ℕ, false, inl, inr, List, length, Option, Some, None, refl, sym, ap, subst, arith, length-append, []}
use Rattle.vx_path.specs.Lists.{In}
use Rattle.vx_path.proofs.Sort.{length-sort_by}
use Rattle.vx_plan.specs.PlanData.{Plan, What, Fault}
use Rattle.vx_plan.specs.Number.{sorted, path_of}
use Rattle.vx_plan.specs.Valid.{Fit, Has}
use Rattle.vx_named_tasks.specs.Names.{Outset}
use Rattle.vx_machine_turns.specs.Acts.{refuses}
use Rattle.vx_machine_turns.specs.Planned.{AtMost}
use Rattle.vx_machine_steps.specs.Tree.{Tree}
use Rattle.vx_machine_steps.specs.Moves.{TreeMove}
use Rattle.vx_machine_steps.specs.Runs.{Runs, appended}
use Rattle.vx_machine_steps.proofs.Sorted.{appended_first}
use Rattle.vx_machine_promises.specs.Write.{Write, depth, begin, planned, planned_at}
use Rattle.vx_machine_promises.specs.Reached.{moves_at}
use Rattle.vx_machine_promises.specs.Promises.{RefusesBy, CountedBy, SoundBy, ValidIsSoundAt, ValidIsSound, AppendsFit}
use Rattle.vx_machine_promises.proofs.Standing.{at_start, runs}
use Rattle.vx_machine_promises.proofs.Stepping.{appended_more}
use Rattle.vx_machine_promises.proofs.Causing.{refusals_have_cause_at, moves_are_counted_at, refusals_have_cause, counted}

fits : (n : ℕ) (ns : List ℕ) → Fit ns → In n ns → n < 2 ^ 64
fits n [] h i = absurd i
fits n (m ∷ ns) h (inl e) = omega (arith, h.0, e)
fits n (m ∷ ns) h (inr i) = fits n ns h.1 i

fits_most : (n : ℕ) (ns : List ℕ) → Fit ns → AtMost n ns → n < 2 ^ 64
fits_most n ns h (m, i, l) = let a : m < 2 ^ 64 = fits m ns h i in omega (arith, a, l)

none_has : (w : What) (fs : List Fault) → fs ≡ [] → Has w fs → ⊥
none_has w fs e h = no_one h.0 (subst (In h.0) e h.1)
  where
    no_one : (x : Fault) → In x [] → ⊥
    no_one x i = i

sound_by : (g : Write) (p : Plan) (tracker : ℕ) (t : Tree) → RefusesBy g p t → ((m : TreeMove) → In m (moves_at g t) → CountedBy g p tracker m) → SoundBy g p tracker t
sound_by g p tracker t refuse count clean fit room m i =
    let c : CountedBy g p tracker m = count m i in
    record {
      unrefused = by m.act.refusal refl;
      numbers = λ n k. fits n p.numbers fit (c.numbers n k);
      indices = λ n k. fits_most n p.numbers fit (c.indices n k);
      births = λ n k. fits_most n p.numbers fit (c.births n k);
      tracked = let a : tracker + m.act.raises ≤ g.tracker + p.reserved = c.tracked in omega (arith, a, room);
    }
  where
    by : (o : Option What) → m.act.refusal ≡ o → m.act.refusal ≡ None
    by None e = e
    by (Some w) e = absurd (none_has w p.faults clean (refuse m w i e))

pub valid_is_sound_at : (o : Outset) → ValidIsSoundAt o
valid_is_sound_at o g taken f seen history tracker r can =
    sound_by g (planned_at g o taken f) tracker r.tree (refusals_have_cause_at o g taken f seen history tracker r can) (moves_are_counted_at o g taken f seen history tracker r can)

pub valid_is_sound : ValidIsSound
valid_is_sound g taken f seen history tracker r =
    sound_by g (planned g taken f) tracker r.tree (refusals_have_cause g taken f seen history tracker r) (counted g taken f seen history tracker r)

-- one move more
runs_more : (g : Write) (t e : Tree) (ms : List TreeMove) (m : TreeMove) → Runs g.setting (depth g) t ms e → In m (moves_at g e) → refuses m.act ≡ false → Runs g.setting (depth g) t (ms ++ (m ∷ [])) m.after
runs_more g t e [] m w i c = (subst (λ z. In m (moves_at g z)) (sym w) i, c, refl)
runs_more g t e (x ∷ ms) m (k, n, w) i c = (k, n, runs_more g x.after e ms m w i c)

pub appends_fit : AppendsFit
appends_fit g taken f seen history tracker r m x i c e =
    let h = appended_first g.setting (depth g) (begin g taken f) m.after (r.moves ++ (m ∷ [])) (at_start g taken f seen history tracker r).stands (at_start g taken f seen history tracker r).order
    (at_start g taken f seen history tracker r).zeros (runs_more g (begin g taken f) r.tree r.moves m (runs g taken f seen history tracker r) i c) (at_start g taken f seen history tracker r).one in
    let a : sorted (planned g taken f).pairs ≡ (history ++ (x ∷ [])) ++ h.0 =
    ap sorted (sym (at_start g taken f seen history tracker r).pairs) ∙ h.1 ∙ ap (λ z. z ++ h.0) (appended_more r.moves m ∙ ap (λ z. appended r.moves ++ z) e ∙ ap (λ z. z ++ (x ∷ [])) (sym r.wrote)) in
    let k : length (sorted (planned g taken f).pairs) ≡ length (planned g taken f).pairs = length-sort_by path_of (planned g taken f).pairs in
    let b : length (sorted (planned g taken f).pairs) ≡ length ((history ++ (x ∷ [])) ++ h.0) = ap length a in
    let l : length ((history ++ (x ∷ [])) ++ h.0) ≡ length (history ++ (x ∷ [])) + length h.0 = length-append (history ++ (x ∷ [])) h.0 in
    let n : length (history ++ (x ∷ [])) ≡ length history + 1 = length-append history (x ∷ []) in
    omega (arith, k, b, l, n)
