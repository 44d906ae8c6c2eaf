-- A sound chunk is of its type through and through; and which path is least depends on the paths alone.
use Rattle.std.proofs.Common.{◌≡◌, ◌&&◌, ◌==◌, ◌∷◌, ◌++◌, ◌∙◌, ℕ, Bool, true, false, cond, List, map, length, refl, sym, ap, subst, inl, inr, []}
use Rattle.vx_path.specs.Lists.{In}
use Rattle.vx_path.specs.Path.{path_le, is_least}
use Rattle.vx_model.specs.Ty.{Ty, Tys, boolean, primitive, utf8, binary, list, struct, extension, no_fields, field, ty_eq}
use Rattle.vx_model.specs.TyLaws.{ty_eq_decides}
use Rattle.vx_model.specs.ChunkData.{ChunkData, ChunkList, plain_piece, constant_piece, dict_piece, chunked_piece, list_piece, struct_piece, extension_piece, no_pieces, part, pieces_in, piece_type, cells, is_sound, are_sound, match_fields}
use Rattle.vx_plan.specs.PlanData.{Setting}
use Rattle.vx_machine_state.specs.State.{Next, put, hand_on, press, probe, open_run, end_run, append, shut_kids, join_kids, start_table, leave_kid, Desk, Tasks, no_tasks, task_then}
use Rattle.vx_machine_state.specs.Acts.{do_act}
use Rattle.vx_machine_state.specs.Moves.{may_act, own_step, in_kids, in_rest, steps}
use Rattle.vx_machine_state.specs.Typed.{fields_at, Typed, PartsTyped}
use Rattle.vx_machine_view.specs.Whole.{SoundIsTyped, LeastAgrees}
use Rattle.vx_machine_view.proofs.Words.{and_left, and_right}

no_true : false ≡ true → ⊥
no_true e = cc

mutual
  typed : (p : ChunkData) (t : Ty) → is_sound p ≡ true → piece_type p ≡ t → Typed t p
  typed (struct_piece (struct fs m) ps valid n) t b e = (e, subst (λ z. PartsTyped (fields_at z) ps) e (parted fs ps n (and_left (are_sound ps) _ b) (and_left (match_fields fs (pieces_in ps) n) _ (and_right (are_sound ps) _ b))))
  typed (struct_piece (boolean m) ps valid n) t b e = absurd (no_true (and_right (are_sound ps) false b))
  typed (struct_piece (primitive p m) ps valid n) t b e = absurd (no_true (and_right (are_sound ps) false b))
  typed (struct_piece (utf8 m) ps valid n) t b e = absurd (no_true (and_right (are_sound ps) false b))
  typed (struct_piece (binary m) ps valid n) t b e = absurd (no_true (and_right (are_sound ps) false b))
  typed (struct_piece (list u m) ps valid n) t b e = absurd (no_true (and_right (are_sound ps) false b))
  typed (struct_piece (extension tag u) ps valid n) t b e = absurd (no_true (and_right (are_sound ps) false b))
  typed (plain_piece u cs) t b e = e
  typed (constant_piece u c n) t b e = e
  typed (dict_piece codes values) t b e = e
  typed (chunked_piece u ps) t b e = e
  typed (list_piece u x offsets valid) t b e = e
  typed (extension_piece u p) t b e = e

  parted : (fs : Tys) (ps : ChunkList) (n : ℕ) → are_sound ps ≡ true → match_fields fs (pieces_in ps) n ≡ true → PartsTyped fs ps
  parted no_fields no_pieces n b e = tt
  parted no_fields (part p ps) n b e = absurd (no_true e)
  parted (field name t fs) no_pieces n b e = absurd (no_true e)
  parted (field name t fs) (part p ps) n b e = (
    typed p t (and_left (is_sound p) (are_sound ps) b) ((ty_eq_decides (piece_type p) t).0 (and_left (ty_eq (piece_type p) t) _ e)),
    parted fs ps n (and_right (is_sound p) (are_sound ps) b) (and_right (length (cells p) == n) (match_fields fs (pieces_in ps) n) (and_right (ty_eq (piece_type p) t) _ e)),
  )

pub sound_is_typed : SoundIsTyped
sound_is_typed p t b e = typed p t b e

-- ---- the least path

least_each : (p : List ℕ) (xs : List (List ℕ)) → is_least p xs ≡ true → (q : List ℕ) → In q xs → path_le p q ≡ true
least_each p [] e q i = absurd i
least_each p (x ∷ xs) e q (inl i) = ap (path_le p) i ∙ and_left (path_le p x) (is_least p xs) e
least_each p (x ∷ xs) e q (inr i) = least_each p xs (and_right (path_le p x) (is_least p xs) e) q i

each_least : (p : List ℕ) (xs : List (List ℕ)) → ((q : List ℕ) → In q xs → path_le p q ≡ true) → is_least p xs ≡ true
each_least p [] h = refl
each_least p (x ∷ xs) h = ap (λ z. z && is_least p xs) (h x (inl refl)) ∙ each_least p xs (λ q i. h q (inr i))

alike : (a b : Bool) → (a ≡ true → b ≡ true) → (b ≡ true → a ≡ true) → a ≡ b
alike true b f g = sym (f refl)
alike false true f g = g refl
alike false false f g = refl

pub least_same : (all held : List (List ℕ)) → ((p : List ℕ) → In p all → In p held) → ((p : List ℕ) → In p held → In p all) → (p : List ℕ) → is_least p all ≡ is_least p held
least_same all held f g p = alike (is_least p all) (is_least p held) (λ e. each_least p held (λ q i. least_each p all e q (g q i))) (λ e. each_least p all (λ q i. least_each p held e q (f q i)))

may_same : (all held : List (List ℕ)) → ((p : List ℕ) → is_least p all ≡ is_least p held) → (c : Desk) (ks : Tasks) (todo : List Next) → may_act all c ks todo ≡ may_act held c ks todo
may_same all held h c ks [] = refl
may_same all held h c ks (put j i ∷ todo) = refl
may_same all held h c ks (hand_on n i ∷ todo) = refl
may_same all held h c ks (press which i ∷ todo) = refl
may_same all held h c ks (probe n e i ∷ todo) = refl
may_same all held h c ks (open_run n j e i ∷ todo) = refl
may_same all held h c ks (end_run j i ∷ todo) = refl
may_same all held h c ks (append x ∷ todo) = h x.id
may_same all held h c ks (shut_kids ∷ todo) = refl
may_same all held h c ks (join_kids f ∷ todo) = refl
may_same all held h c ks (start_table f e p ∷ todo) = refl
may_same all held h c ks (leave_kid e ∷ todo) = refl

same_steps : (s : Setting) (all held : List (List ℕ)) (next : ℕ) → ((p : List ℕ) → is_least p all ≡ is_least p held) → (cs : Tasks) → steps s all next cs ≡ steps s held next cs
same_steps s all held next h no_tasks = refl
same_steps s all held next h (task_then c ks r) =
    ap (λ z. (cond z (own_step c r (do_act s next c ks c.todo) ∷ []) [] ++ map (in_kids c r) (steps s all next ks)) ++ map (in_rest c ks) (steps s all next r)) (may_same all held h c ks c.todo)
    ∙ ap (λ z. (cond (may_act held c ks c.todo) (own_step c r (do_act s next c ks c.todo) ∷ []) [] ++ map (in_kids c r) z) ++ map (in_rest c ks) (steps s all next r)) (same_steps s all held next h ks)
    ∙ ap (λ z. (cond (may_act held c ks c.todo) (own_step c r (do_act s next c ks c.todo) ∷ []) [] ++ map (in_kids c r) (steps s held next ks)) ++ map (in_rest c ks) z) (same_steps s all held next h r)

pub least_agrees : LeastAgrees
least_agrees s all held next cs f g = same_steps s all held next (least_same all held f g) cs
