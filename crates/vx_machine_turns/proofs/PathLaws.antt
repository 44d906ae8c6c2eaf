-- Each turn's paths go on from what its task knows.
use Rattle.std.proofs.Common.{◌≡◌, ℕ, suc, ◌+◌, ◌≤◌, ◌⊎◌, inl, inr, ⊎_elim, Bool, true, false, List, [], ◌∷◌, ◌++◌, Option, Some, None, refl, sym, ap, ◌∙◌, subst, arith}
use Rattle.std.specs.Prelude.{if◌then◌else◌}
use Rattle.vx_model.specs.Words.{tail}
use Rattle.vx_model.specs.CellData.{CellData}
use Rattle.vx_model.specs.ValueData.{ValueData}
use Rattle.vx_model.specs.ChunkData.{ChunkData, plain_piece}
use Rattle.vx_path.specs.Lists.{In}
use Rattle.vx_path.proofs.Lists.{in_right, in_cases}
use Rattle.vx_path.specs.Path.{begins, under, raised, Eof, eof_path, inside, next}
use Rattle.vx_path.proofs.Path.{begins-refl, begins-under}
use Rattle.vx_rules.specs.Regroup.{ranked}
use Rattle.vx_rules.specs.Blocks.{BlockOptions}
use Rattle.vx_rules.specs.Flushes.{concatenated}
use Rattle.vx_rules.specs.Columns.{struct_columns, list_columns, head_piece}
use Rattle.vx_zone_spec.specs.ZoneTable.{Filled, kept_columns}
use Rattle.vx_tasks.specs.Task.Kind.{Join}
use Rattle.vx_tasks.specs.Walks.{From}
use Rattle.vx_plan.specs.PlanData.{Setting, Item}
use Rattle.vx_plan.specs.DictNode.{is_dictionary}
use Rattle.vx_machine_turns.specs.Forms.{Writer}
use Rattle.vx_machine_turns.specs.Locals.{Local, ChunkedNode, StructNode, ListNode, GroupedNode, CompressedNode, DictNode, ZonedNode, RunsSoFar, flat_empty, flat_full, flat_many, chunked_local, struct_local, list_local, blocks_local, bytes_local, collect_local, compressed_local, outlet_local, dict_local, fallback_local, runs_local, zoned_local, idle_local, source_local, outside_local}
use Rattle.vx_machine_turns.specs.Acts.{Seed, does, put_item, close_queues}
use Rattle.vx_machine_turns.specs.Columns.{column_puts, column_ends}
use Rattle.vx_machine_turns.specs.Grouped.{Grouper, block_grouper, byte_grouper, weighed_puts, group_turn, group_end, group_ends, group_kept}
use Rattle.vx_machine_turns.specs.Dict.{Stretch, fallback_seed, codes_put, values_put, ended_puts, cut_puts, base_after, eof_after, rest_eof, next_cut, after_cut, last_stretches, dict_turn, runs_first, fallback_first}
use Rattle.vx_machine_turns.specs.Zoned.{zone_columns, zoned_end, zoned_ends}
use Rattle.vx_machine_turns.specs.Turns.{kept}
use Rattle.vx_machine_turns.specs.Scripts.{all_uses}
use Rattle.vx_machine_turns.proofs.DictLaws.{base_grows}
use Rattle.vx_machine_turns.specs.Paths.{shifted, At, Draws, AllDraw, AllSoft, AllMute, Goes, Ends, TurnsGo}

-- ---- words on paths

pub from_here : (e : Eof) (ys : List (List ℕ)) (x : List ℕ) → In x ys → From e ys x
from_here e ys x i = (x, i, inl (begins-refl x))

pub from_begun : (e : Eof) (ys : List (List ℕ)) (y x : List ℕ) → In y ys → begins y x ≡ true → From e ys x
from_begun e ys y x i h = (y, i, inl h)

-- from e + j to what goes on from a later e + k
pub from_up : (e : Eof) (ys : List (List ℕ)) (j k : ℕ) (x : List ℕ) → j ≤ k → In (raised e j) ys → begins (raised e k) x ≡ true → From e ys x
from_up e ys j k x l i h = (raised e j, i, inr (j, k, refl, l, h))

in_last : (ys : List (List ℕ)) (x : List ℕ) → In x (ys ++ (x ∷ []))
in_last ys x = in_right x ys (x ∷ []) (inl refl)

-- of one that is given
gives_one : (e : Eof) (ys : List (List ℕ)) (c : ℕ) (i : Item) → From e ys i.0 → (x : ℕ × Item) → In x ((c, i) ∷ []) → From e ys x.1.0
gives_one e ys c i f x m = ⊎_elim (λ z. subst (λ y. From e ys y.1.0) (sym z) f) (λ z. absurd z) m

put_drawn : (e : Eof) (c : ℕ) (i : Item) → Draws e (i.0 ∷ []) (put_item c i)
put_drawn e c i = (gives_one e (i.0 ∷ []) c i (from_here e (i.0 ∷ []) i.0 (inl refl)), (λ q m. absurd m))

-- ---- puts

columns_soft : (c : ℕ) (p : List ℕ) (ps : List ChunkData) (ws : List Writer) → AllSoft (column_puts c p ps ws)
columns_soft c p ps [] = tt
columns_soft c p ps (w ∷ ws) = (refl, columns_soft (suc c) p (tail ps) ws)

columns_drawn : (e : Eof) (c : ℕ) (p : List ℕ) (ps : List ChunkData) (ws : List Writer) → AllDraw e (column_puts c p ps ws)
columns_drawn e c p ps [] = tt
columns_drawn e c p ps (w ∷ ws) = (put_drawn e c (under p c, head_piece ps), columns_drawn e (suc c) p (tail ps) ws)

columns_used : (c : ℕ) (p : List ℕ) (ps : List ChunkData) (ws : List Writer) (x : List ℕ) → In x (all_uses (column_puts c p ps ws)) → begins p x ≡ true
columns_used c p ps [] x i = absurd i
columns_used c p ps (w ∷ ws) x (inl q) = subst (λ z. begins p z ≡ true) (sym q) (begins-under p c)
columns_used c p ps (w ∷ ws) x (inr i) = columns_used (suc c) p (tail ps) ws x i

weighed_soft : (w : ChunkData → ℕ) (xs : List Item) → AllSoft (weighed_puts w xs)
weighed_soft w [] = tt
weighed_soft w (x ∷ xs) = (refl, weighed_soft w xs)

weighed_drawn : (e : Eof) (w : ChunkData → ℕ) (xs : List Item) → AllDraw e (weighed_puts w xs)
weighed_drawn e w [] = tt
weighed_drawn e w (x ∷ xs) = ((gives_one e (x.0 ∷ []) 0 x (from_here e (x.0 ∷ []) x.0 (inl refl)), (λ q m. absurd m)), weighed_drawn e w xs)

ranked_used : (w : ChunkData → ℕ) (p : List ℕ) (r : ℕ) (cs : List ChunkData) (x : List ℕ) → In x (all_uses (weighed_puts w (ranked p r cs))) → begins p x ≡ true
ranked_used w p r [] x i = absurd i
ranked_used w p r (c ∷ cs) x (inl q) = subst (λ z. begins p z ≡ true) (sym q) (begins-under p r)
ranked_used w p r (c ∷ cs) x (inr i) = ranked_used w p (suc r) cs x i

-- before the closing of the only queue
closing_mute : (w : ChunkData → ℕ) (xs : List Item) → AllMute (weighed_puts w xs ++ (close_queues (0 ∷ []) ∷ []))
closing_mute w [] = (refl, tt)
closing_mute w (x ∷ xs) = (refl, closing_mute w xs)

closing_drawn : (e : Eof) (w : ChunkData → ℕ) (xs : List Item) → AllDraw e (weighed_puts w xs ++ (close_queues (0 ∷ []) ∷ []))
closing_drawn e w [] = (((λ x i. absurd i), (λ q i. absurd i)), tt)
closing_drawn e w (x ∷ xs) = ((gives_one e (x.0 ∷ []) 0 x (from_here e (x.0 ∷ []) x.0 (inl refl)), (λ q m. absurd m)), closing_drawn e w xs)

closing_used : (w : ChunkData → ℕ) (p : List ℕ) (r : ℕ) (cs : List ChunkData) (x : List ℕ) → In x (all_uses (weighed_puts w (ranked p r cs) ++ (close_queues (0 ∷ []) ∷ []))) → begins p x ≡ true
closing_used w p r [] x i = absurd i
closing_used w p r (c ∷ cs) x (inl q) = subst (λ z. begins p z ≡ true) (sym q) (begins-under p r)
closing_used w p r (c ∷ cs) x (inr i) = closing_used w p (suc r) cs x i

column_ends_mute : (ws : List Writer) → AllMute (column_ends ws)
column_ends_mute [] = tt
column_ends_mute (w ∷ ws) = (refl, (refl, tt))

column_ends_drawn : (e : Eof) (ws : List Writer) → AllDraw e (column_ends ws)
column_ends_drawn e [] = tt
column_ends_drawn e (w ∷ ws) = (((λ x i. absurd i), (λ q i. absurd i)), (((λ x i. absurd i), (λ q i. absurd i)), tt))

column_ends_used : (ws : List Writer) (x : List ℕ) → In x (all_uses (column_ends ws)) → ⊥
column_ends_used [] x i = i
column_ends_used (w ∷ ws) x i = i

pub shifted_none : (e : Eof) → e ≡ shifted e 0
shifted_none e = ap (λ z. record { stem = e.stem; last = z }) (let h : e.last ≡ e.last + 0 = omega arith in h)

pub shifted_more : (e q : Eof) (j k : ℕ) → q ≡ shifted e j → suc j ≡ k → next q ≡ shifted e k
shifted_more e q j k h l = ap next h ∙ ap (λ z. record { stem = e.stem; last = z }) (let g : (e.last + j) + 1 ≡ e.last + k = omega (arith, l) in g)

-- the path of an eof path that has come so far
pub shifted_path : (e q : Eof) (j : ℕ) → q ≡ shifted e j → eof_path q ≡ raised e j
shifted_path e q j h = ap eof_path h

pub twice_shifted : (e q : Eof) (base : ℕ) → q ≡ shifted e base → next (next q) ≡ shifted e (suc (suc base))
twice_shifted e q base h = shifted_more e (next q) (suc base) (suc (suc base)) (shifted_more e q base (suc base) h refl) refl

module _ (e : Eof) (s : Setting) where
  -- ---- one child

  chunked_goes : (n : ChunkedNode) (j : ℕ) (p : Eof) (rows : ℕ) → p ≡ shifted e j → ((i : Item) → Goes e s (chunked_local n j p rows) i) × Ends e s (chunked_local n j p rows)
  chunked_goes n j p rows h = (
    (λ i. record {
      stays = shifted_more e p j (suc j) h refl;
      soft = tt;
      holds = λ x m. ⊎_elim (λ q. from_up e (eof_path p ∷ i.0 ∷ []) j (suc j) x (omega arith) (inl (sym (shifted_path e p j h)))
          (subst (λ z. begins (raised e (suc j)) z ≡ true) (sym (q ∙ shifted_path e (next p) (suc j) (shifted_more e p j (suc j) h refl))) (begins-refl (raised e (suc j))))) (λ z. absurd z) m;
      first = (
        (λ g m. ⊎_elim (λ q. subst (λ z. From e (eof_path p ∷ i.0 ∷ []) z.1.0) (sym q) (from_here e (eof_path p ∷ i.0 ∷ []) i.0 (inr (inl refl)))) (λ z. absurd z) m),
        (λ q m. ⊎_elim (λ z. subst (λ y. From e (eof_path p ∷ i.0 ∷ []) y.eof) (sym z) (from_begun e (eof_path p ∷ i.0 ∷ []) (eof_path p) (eof_path (inside p)) (inl refl) (begins-under (eof_path p) 0))) (λ z. absurd z) m),
      );
      later = tt;
    }),
    record { mute = (refl, tt); holds = λ x m. absurd m; first = ((λ x i. absurd i), (λ q i. absurd i)); later = (((λ x i. absurd i), (λ q i. absurd i)), tt) },
  )

  struct_goes : (n : StructNode) (rows : ℕ) → ((i : Item) → Goes e s (struct_local n rows) i) × Ends e s (struct_local n rows)
  struct_goes n rows = (
    (λ i. record {
      stays = tt;
      soft = columns_soft 0 i.0 (struct_columns n.fields n.nullable i.1) n.writers;
      holds = λ x m. ⊎_elim (λ k. from_begun e (i.0 ∷ []) i.0 x (inl refl) (columns_used 0 i.0 (struct_columns n.fields n.nullable i.1) n.writers x k)) (λ k. absurd k)
          (in_cases x (all_uses (column_puts 0 i.0 (struct_columns n.fields n.nullable i.1) n.writers)) [] m);
      first = ((λ x i. absurd i), (λ q i. absurd i));
      later = columns_drawn e 0 i.0 (struct_columns n.fields n.nullable i.1) n.writers;
    }),
    record { mute = column_ends_mute n.writers; holds = λ x m. absurd (column_ends_used n.writers x m); first = ((λ x i. absurd i), (λ q i. absurd i)); later = column_ends_drawn e n.writers },
  )

  list_goes : (n : ListNode) (first : Bool) (from rows : ℕ) → ((i : Item) → Goes e s (list_local n first from rows) i) × Ends e s (list_local n first from rows)
  list_goes n first from rows = (
    (λ i. record {
      stays = tt;
      soft = columns_soft 0 i.0 (list_columns n.elements n.nullable first from i.1) n.writers;
      holds = λ x m. ⊎_elim (λ k. from_begun e (i.0 ∷ []) i.0 x (inl refl) (columns_used 0 i.0 (list_columns n.elements n.nullable first from i.1) n.writers x k)) (λ k. absurd k)
          (in_cases x (all_uses (column_puts 0 i.0 (list_columns n.elements n.nullable first from i.1) n.writers)) [] m);
      first = ((λ x i. absurd i), (λ q i. absurd i));
      later = columns_drawn e 0 i.0 (list_columns n.elements n.nullable first from i.1) n.writers;
    }),
    ends first,
  )
    where
      ends : (b : Bool) → Ends e s (list_local n b from rows)
      ends true = record { mute = tt; holds = λ x m. absurd m; first = ((λ x i. absurd i), (λ q i. absurd i)); later = tt }
      ends false = record { mute = column_ends_mute n.writers; holds = λ x m. absurd (column_ends_used n.writers x m); first = ((λ x i. absurd i), (λ q i. absurd i)); later = column_ends_drawn e n.writers }

  -- what a regrouping's turn has to show, and its end
  record Groups {S : Type 0} (g : Grouper S) (x : S) (j : Option Item) : Type 0 where
    soft : (l : S → Option Item → ℕ → Local) (rows : ℕ) (i : Item) → AllSoft (group_turn g l x j rows i).more
    uses : (l : S → Option Item → ℕ → Local) (rows : ℕ) (i : Item) (y : List ℕ) → In y (all_uses (group_turn g l x j rows i).more ++ (i.0 ∷ [])) → From e (group_kept j ++ (i.0 ∷ [])) y
    first : (l : S → Option Item → ℕ → Local) (rows : ℕ) (i : Item) (ys : List (List ℕ)) → Draws e ys (group_turn g l x j rows i).first
    later : (l : S → Option Item → ℕ → Local) (rows : ℕ) (i : Item) → AllDraw e (group_turn g l x j rows i).more
    mute : AllMute (group_ends g x j)
    end_uses : (y : List ℕ) → In y (all_uses (group_ends g x j)) → From e (group_kept j) y
    end_first : (ys : List (List ℕ)) → Draws e ys (group_end g x j)
    end_later : AllDraw e (group_ends g x j)

  groups : {S : Type 0} (g : Grouper S) (x : S) (j : Option Item) → Groups g x j
  groups g x None = record {
    soft = λ l rows i. tt;
    uses = λ l rows i y m. ⊎_elim (λ q. from_here e (i.0 ∷ []) y (inl q)) (λ q. absurd q) m;
    first = λ l rows i ys. ((λ x i. absurd i), (λ q i. absurd i));
    later = λ l rows i. tt;
    mute = (refl, tt);
    end_uses = λ y m. absurd m;
    end_first = λ ys. ((λ x i. absurd i), (λ q i. absurd i));
    end_later = (((λ x i. absurd i), (λ q i. absurd i)), tt);
  }
  groups g x (Some j) = record {
    soft = λ l rows i. weighed_soft g.weight (ranked j.0 0 (g.rule.leaves x j.1));
    uses = λ l rows i y m. ⊎_elim (λ k. from_begun e (j.0 ∷ i.0 ∷ []) j.0 y (inl refl) (ranked_used g.weight j.0 0 (g.rule.leaves x j.1) y k)) (λ k. ⊎_elim (λ q. from_here e (j.0 ∷ i.0 ∷ []) y (inr (inl q))) (λ q. absurd q) k)
        (in_cases y (all_uses (weighed_puts g.weight (ranked j.0 0 (g.rule.leaves x j.1)))) (i.0 ∷ []) m);
    first = λ l rows i ys. ((λ x i. absurd i), (λ q i. absurd i));
    later = λ l rows i. weighed_drawn e g.weight (ranked j.0 0 (g.rule.leaves x j.1));
    mute = closing_mute g.weight (ranked j.0 0 (g.rule.rest x j.1));
    end_uses = λ y m. from_begun e (j.0 ∷ []) j.0 y (inl refl) (closing_used g.weight j.0 0 (g.rule.rest x j.1) y m);
    end_first = λ ys. ((λ x i. absurd i), (λ q i. absurd i));
    end_later = closing_drawn e g.weight (ranked j.0 0 (g.rule.rest x j.1));
  }

  blocks_goes : (o : BlockOptions) (n : GroupedNode) (x : List CellData) (j : Option Item) (rows : ℕ) → ((i : Item) → Goes e s (blocks_local o n x j rows) i) × Ends e s (blocks_local o n x j rows)
  blocks_goes o n x None rows =
      let h = groups (block_grouper o n.type) x None in (
        (λ i. record { stays = tt; soft = h.soft (blocks_local o n) rows i; holds = h.uses (blocks_local o n) rows i; first = h.first (blocks_local o n) rows i (i.0 ∷ []); later = h.later (blocks_local o n) rows i }),
        record { mute = h.mute; holds = h.end_uses; first = h.end_first []; later = h.end_later },
      )
  blocks_goes o n x (Some j) rows =
      let h = groups (block_grouper o n.type) x (Some j) in (
        (λ i. record { stays = tt; soft = h.soft (blocks_local o n) rows i; holds = h.uses (blocks_local o n) rows i; first = h.first (blocks_local o n) rows i (j.0 ∷ i.0 ∷ []); later = h.later (blocks_local o n) rows i }),
        record { mute = h.mute; holds = h.end_uses; first = h.end_first (j.0 ∷ []); later = h.end_later },
      )

  bytes_goes : (size : ℕ) (n : GroupedNode) (x : List ChunkData) (j : Option Item) (rows : ℕ) → ((i : Item) → Goes e s (bytes_local size n x j rows) i) × Ends e s (bytes_local size n x j rows)
  bytes_goes size n x None rows =
      let h = groups (byte_grouper size) x None in (
        (λ i. record { stays = tt; soft = h.soft (bytes_local size n) rows i; holds = h.uses (bytes_local size n) rows i; first = h.first (bytes_local size n) rows i (i.0 ∷ []); later = h.later (bytes_local size n) rows i }),
        record { mute = h.mute; holds = h.end_uses; first = h.end_first []; later = h.end_later },
      )
  bytes_goes size n x (Some j) rows =
      let h = groups (byte_grouper size) x (Some j) in (
        (λ i. record { stays = tt; soft = h.soft (bytes_local size n) rows i; holds = h.uses (bytes_local size n) rows i; first = h.first (bytes_local size n) rows i (j.0 ∷ i.0 ∷ []); later = h.later (bytes_local size n) rows i }),
        record { mute = h.mute; holds = h.end_uses; first = h.end_first (j.0 ∷ []); later = h.end_later },
      )

  collect_goes : (n : GroupedNode) (x : Option (List ℕ × List ChunkData)) (rows : ℕ) → ((i : Item) → Goes e s (collect_local n x rows) i) × Ends e s (collect_local n x rows)
  collect_goes n x rows = (
    (λ i. record {
      stays = tt;
      soft = tt;
      holds = λ y m. ⊎_elim (λ q. subst (λ z. From e (kept (collect_local n x rows) ++ (i.0 ∷ [])) z) (sym q) (from_here e (kept (collect_local n x rows) ++ (i.0 ∷ [])) i.0 (in_last (kept (collect_local n x rows)) i.0))) (λ q. absurd q) m;
      first = ((λ x i. absurd i), (λ q i. absurd i));
      later = tt;
    }),
    ends x,
  )
    where
      ends : (x : Option (List ℕ × List ChunkData)) → Ends e s (collect_local n x rows)
      ends None = record { mute = (refl, tt); holds = λ y m. absurd m; first = ((λ x i. absurd i), (λ q i. absurd i)); later = (((λ x i. absurd i), (λ q i. absurd i)), tt) }
      ends (Some x) = record {
        mute = (refl, (refl, tt));
        holds = λ y m. from_here e (x.0 ∷ []) y m;
        first = ((λ x i. absurd i), (λ q i. absurd i));
        later = ((gives_one e (x.0 ∷ []) 0 (x.0, concatenated n.type x.1) (from_here e (x.0 ∷ []) x.0 (inl refl)), (λ q m. absurd m)), (((λ x i. absurd i), (λ q i. absurd i)), tt));
      }

  compressed_goes : (n : CompressedNode) → ((i : Item) → Goes e s (compressed_local n) i) × Ends e s (compressed_local n)
  compressed_goes n = (
    (λ i. record {
      stays = tt;
      soft = (refl, (refl, tt));
      holds = λ y m. from_here e (i.0 ∷ []) y m;
      first = ((λ x i. absurd i), (λ q i. absurd i));
      later = (((λ x i. absurd i), (λ q i. absurd i)), (put_drawn e 0 (i.0, s.image n.which i.1), tt));
    }),
    record { mute = (refl, tt); holds = λ y m. absurd m; first = ((λ x i. absurd i), (λ q i. absurd i)); later = (((λ x i. absurd i), (λ q i. absurd i)), tt) },
  )

  outlet_goes : (n : CompressedNode) → ((i : Item) → Goes e s (outlet_local n) i) × Ends e s (outlet_local n)
  outlet_goes n = (
    (λ i. record { stays = tt; soft = (refl, tt); holds = λ y m. from_here e (i.0 ∷ []) y m; first = ((λ x i. absurd i), (λ q i. absurd i)); later = (put_drawn e 0 i, tt) }),
    record { mute = (refl, tt); holds = λ y m. absurd m; first = ((λ x i. absurd i), (λ q i. absurd i)); later = (((λ x i. absurd i), (λ q i. absurd i)), tt) },
  )

  fallback_goes : ((i : Item) → Goes e s fallback_local i) × Ends e s fallback_local
  fallback_goes = (
    (λ i. record { stays = tt; soft = (refl, tt); holds = λ y m. from_here e (i.0 ∷ []) y m; first = ((λ x i. absurd i), (λ q i. absurd i)); later = (put_drawn e 0 i, tt) }),
    record { mute = (refl, tt); holds = λ y m. absurd m; first = ((λ x i. absurd i), (λ q i. absurd i)); later = (((λ x i. absurd i), (λ q i. absurd i)), tt) },
  )

  idle_goes : ((i : Item) → Goes e s idle_local i) × Ends e s idle_local
  idle_goes = (
    (λ i. record { stays = tt; soft = tt; holds = λ y m. absurd m; first = ((λ x i. absurd i), (λ q i. absurd i)); later = tt }),
    record { mute = tt; holds = λ y m. absurd m; first = ((λ x i. absurd i), (λ q i. absurd i)); later = tt },
  )

  -- ---- zoned

  zoned_end_goes : (n : ZonedNode) (zones rows : ℕ) (table : Option (List Filled)) → n.eof ≡ e
      → AllMute (zoned_ends s n zones table) × ((x : List ℕ) → In x (all_uses (zoned_ends s n zones table)) → From e (raised n.eof 1 ∷ []) x) × Draws e (raised n.eof 1 ∷ []) (zoned_end n zones rows table) × AllDraw e (zoned_ends s n zones table)
  zoned_end_goes n zones rows None h = (
    (refl, (refl, tt)),
    (λ x m. from_here e (raised n.eof 1 ∷ []) x m),
    ((λ x i. absurd i), (λ q i. absurd i)),
    (((λ x i. absurd i), (λ q i. absurd i)), (((λ x i. absurd i), (λ q i. absurd i)), tt)),
  )
  zoned_end_goes n zones rows (Some cs) h = (
    (refl, (refl, (refl, tt))),
    (λ x m. from_here e (raised n.eof 1 ∷ []) x m),
    ((λ x i. absurd i), (λ q i. absurd i)),
    (
      ((λ x i. absurd i), (λ q i. absurd i)),
      (
        (
          (λ g m. ⊎_elim (λ q. subst (λ z. From e (raised n.eof 1 ∷ []) z.1.0) (sym q) (from_begun e (raised n.eof 1 ∷ []) (raised n.eof 1) (under (raised n.eof 1) 0) (inl refl) (begins-under (raised n.eof 1) 0))) (λ z. absurd z) m),
          (λ q m. ⊎_elim (λ z. subst (λ y. From e (raised n.eof 1 ∷ []) y.eof) (sym z) further) (λ z. absurd z) m),
        ),
        (((λ x i. absurd i), (λ q i. absurd i)), tt),
      ),
    ),
  )
    where
      further : From e (raised n.eof 1 ∷ []) (eof_path (next (next n.eof)))
      further = subst (λ z. From e (raised z 1 ∷ []) (eof_path (next (next z)))) (sym h)
          (from_up e (raised e 1 ∷ []) 1 2 (eof_path (next (next e))) (omega arith) (inl refl)
          (subst (λ z. begins (raised e 2) z ≡ true) (ap (λ z. under e.stem z) (let g : e.last + 2 ≡ (e.last + 1) + 1 = omega arith in g)) (begins-refl (raised e 2))))

  zoned_goes : (n : ZonedNode) (records : List (List ValueData)) (last zones rows : ℕ) → n.eof ≡ e → ((i : Item) → Goes e s (zoned_local n records last zones rows) i) × Ends e s (zoned_local n records last zones rows)
  zoned_goes n records last zones rows h =
      let q = zoned_end_goes n zones rows (kept_columns (zone_columns n) records) h in (
        (λ i. record {
          stays = h;
          soft = (refl, tt);
          holds = λ x m. ⊎_elim (λ z. from_here e (raised n.eof 1 ∷ i.0 ∷ []) x (inr (inl z))) (λ m. ⊎_elim (λ z. from_here e (raised n.eof 1 ∷ i.0 ∷ []) x (inl z)) (λ z. absurd z) m) m;
          first = ((λ x i. absurd i), (λ q i. absurd i));
          later = (put_drawn e 0 i, tt);
        }),
        record { mute = q.0; holds = q.1; first = q.2; later = q.3 },
      )

  -- ---- dictionaries

  -- how far the pointer behind the runs that have begun has come
  abbrev top : Bool → ℕ → ℕ
  top begun base = if begun then 2 + base else base

  abbrev Known : List ℕ → ℕ → List ℕ → Type 0
  Known p low x = (begins p x ≡ true) ⊎ ((k : ℕ) × (low ≤ k) × (x ≡ raised e k))

  known_more : (p : List ℕ) (low high : ℕ) (x : List ℕ) → low ≤ high → Known p high x → Known p low x
  known_more p low high x l (inl b) = inl b
  known_more p low high x l (inr (k, m, q)) = inr (k, omega (arith, l, m), q)

  codes_used : (n : DictNode) (p : List ℕ) (rank base : ℕ) (q : Eof) (begun : Bool) (codes : List ℕ) (x : List ℕ) → q ≡ shifted e base → In x (codes_put s n p rank base q begun codes).uses → Known p (top begun base) x
  codes_used n p rank base q begun codes x h (inl z) = inl (subst (λ y. begins p y ≡ true) (sym z) (begins-under p rank))
  codes_used n p rank base q true codes x h (inr m) = absurd m
  codes_used n p rank base q false codes x h (inr (inl z)) = inr (base, omega arith, z ∙ shifted_path e q base h)
  codes_used n p rank base q false codes x h (inr (inr (inl z))) = inr (suc base, omega arith, z ∙ shifted_path e (next q) (suc base) (shifted_more e q base (suc base) h refl))
  codes_used n p rank base q false codes x h (inr (inr (inr z))) = absurd z

  codes_drawn : (n : DictNode) (p : List ℕ) (rank base : ℕ) (q : Eof) (begun : Bool) (codes : List ℕ) → Draws e (codes_put s n p rank base q begun codes).uses (codes_put s n p rank base q begun codes)
  codes_drawn n p rank base q begun codes = (
    (λ g m. ⊎_elim (λ z. from_here e (codes_put s n p rank base q begun codes).uses g.1.0 (inl (ap (λ y. y.1.0) z))) (λ z. absurd z) m),
    starts begun,
  )
    where
      starts : (b : Bool) → (w : Seed) → In w (codes_put s n p rank base q b codes).starts → From e (codes_put s n p rank base q b codes).uses w.eof
      starts true w m = absurd m
      starts false w (inl z) = from_begun e (under p rank ∷ eof_path q ∷ eof_path (next q) ∷ []) (eof_path q) w.eof (inr (inl refl)) (subst (λ y. begins (eof_path q) y.eof ≡ true) (sym z) (begins-under (eof_path q) 0))
      starts false w (inr (inl z)) =
          from_begun e (under p rank ∷ eof_path q ∷ eof_path (next q) ∷ []) (eof_path (next q)) w.eof (inr (inr (inl refl))) (subst (λ y. begins (eof_path (next q)) y.eof ≡ true) (sym z) (begins-under (eof_path (next q)) 0))
      starts false w (inr (inr z)) = absurd z

  values_drawn : (n : DictNode) (p : List ℕ) (rank base : ℕ) (distinct : List CellData) → Draws e (values_put n p rank base distinct).uses (values_put n p rank base distinct)
  values_drawn n p rank base distinct = (gives_one e (under p rank ∷ []) (suc base) (under p rank, plain_piece n.type distinct) (from_here e (under p rank ∷ []) (under p rank) (inl refl)), (λ q m. absurd m))

  cut_used : (n : DictNode) (p : List ℕ) (rank base : ℕ) (q : Eof) (begun : Bool) (xs : List Stretch) (codes : List ℕ) (x : List ℕ) → q ≡ shifted e base → In x (all_uses (cut_puts s n p rank base q begun xs codes)) → Known p (top begun base) x
  cut_used n p rank base q begun [] codes x h m = ⊎_elim (λ k. codes_used n p rank base q begun codes x h k) (λ k. absurd k) (in_cases x (codes_put s n p rank base q begun codes).uses [] m)
  cut_used n p rank base q begun (y ∷ xs) codes x h m =
      ⊎_elim (λ k. codes_used n p rank base q begun y.0 x h k)
      (λ k. ⊎_elim (λ z. inl (subst (λ w. begins p w ≡ true) (sym z) (begins-under p (suc rank))))
      (λ k. known_more p (top begun base) (suc (suc base)) x (low begun) (cut_used n p (rank + 2) (suc (suc base)) (next (next q)) false xs codes x (twice_shifted e q base h) k)) k)
      (in_cases x (codes_put s n p rank base q begun y.0).uses (under p (suc rank) ∷ all_uses (cut_puts s n p (rank + 2) (suc (suc base)) (next (next q)) false xs codes)) m)
    where
      low : (b : Bool) → top b base ≤ suc (suc base)
      low true = omega arith
      low false = omega arith

  close_used : (n : DictNode) (p : List ℕ) (rank base : ℕ) (q : Eof) (begun : Bool) (xs : List Stretch) (x : List ℕ) → q ≡ shifted e base → In x (all_uses (ended_puts s n p rank base q begun xs ++ (does Join ∷ []))) → Known p (top begun base) x
  close_used n p rank base q begun [] x h m = absurd m
  close_used n p rank base q begun (y ∷ xs) x h m =
      ⊎_elim (λ k. codes_used n p rank base q begun y.0 x h k)
      (λ k. ⊎_elim (λ z. inl (subst (λ w. begins p w ≡ true) (sym z) (begins-under p (suc rank))))
      (λ k. known_more p (top begun base) (suc (suc base)) x (low begun) (close_used n p (rank + 2) (suc (suc base)) (next (next q)) false xs x (twice_shifted e q base h) k)) k)
      (in_cases x (codes_put s n p rank base q begun y.0).uses (under p (suc rank) ∷ all_uses (ended_puts s n p (rank + 2) (suc (suc base)) (next (next q)) false xs ++ (does Join ∷ []))) m)
    where
      low : (b : Bool) → top b base ≤ suc (suc base)
      low true = omega arith
      low false = omega arith

  cut_soft : (n : DictNode) (p : List ℕ) (rank base : ℕ) (q : Eof) (begun : Bool) (xs : List Stretch) (codes : List ℕ) → AllSoft (cut_puts s n p rank base q begun xs codes) × AllDraw e (cut_puts s n p rank base q begun xs codes)
  cut_soft n p rank base q begun [] codes = ((refl, tt), (codes_drawn n p rank base q begun codes, tt))
  cut_soft n p rank base q begun (x ∷ xs) codes =
      let h = cut_soft n p (rank + 2) (suc (suc base)) (next (next q)) false xs codes in
      ((refl, (refl, h.0)), (codes_drawn n p rank base q begun x.0, (values_drawn n p (suc rank) base x.1, h.1)))

  close_mute : (n : DictNode) (p : List ℕ) (rank base : ℕ) (q : Eof) (begun : Bool) (xs : List Stretch) → AllMute (ended_puts s n p rank base q begun xs ++ (does Join ∷ [])) × AllDraw e (ended_puts s n p rank base q begun xs ++ (does Join ∷ []))
  close_mute n p rank base q begun [] = ((refl, tt), (((λ x i. absurd i), (λ q i. absurd i)), tt))
  close_mute n p rank base q begun (x ∷ xs) =
      let h = close_mute n p (rank + 2) (suc (suc base)) (next (next q)) false xs in
      ((refl, (refl, h.0)), (codes_drawn n p rank base q begun x.0, (values_drawn n p (suc rank) base x.1, h.1)))

  -- what is known of a run's state
  from_known : (p : List ℕ) (low : ℕ) (q : Eof) (zs : List (List ℕ)) (x : List ℕ) → eof_path q ≡ raised e low → Known p low x → From e (p ∷ eof_path q ∷ zs) x
  from_known p low q zs x h (inl b) = from_begun e (p ∷ eof_path q ∷ zs) p x (inl refl) b
  from_known p low q zs x h (inr (k, l, z)) = from_up e (p ∷ eof_path q ∷ zs) low k x l (inr (inl (sym h))) (subst (λ y. begins (raised e k) y ≡ true) (sym z) (begins-refl (raised e k)))

  eof_after_is : (base : ℕ) (q : Eof) (xs : List Stretch) → q ≡ shifted e base → eof_after q xs ≡ shifted e (base_after base xs)
  eof_after_is base q [] h = h
  eof_after_is base q (x ∷ xs) h = eof_after_is (suc (suc base)) (next (next q)) xs (twice_shifted e q base h)

  rest_path : (r : RunsSoFar) → r.eof ≡ shifted e r.base → eof_path (rest_eof r) ≡ raised e (top r.begun r.base)
  rest_path r h = go r.begun
    where
      go : (b : Bool) → eof_path (if b then next (next r.eof) else r.eof) ≡ raised e (top b r.base)
      go true = shifted_path e (next (next r.eof)) (2 + r.base) (twice_shifted e r.eof r.base h ∙ ap (λ z. shifted e z) (let g : suc (suc r.base) ≡ 2 + r.base = omega arith in g))
      go false = shifted_path e r.eof r.base h

  runs_goes : (n : DictNode) (r : RunsSoFar) (j : Item) (rows : ℕ) → r.eof ≡ shifted e r.base → ((i : Item) → Goes e s (runs_local n r j rows) i) × Ends e s (runs_local n r j rows)
  runs_goes n r j rows h =
      let xs : List Stretch = (next_cut n r j).closed in
      let codes : List ℕ = (next_cut n r j).codes in
      let soft = cut_soft n j.0 0 r.base r.eof r.begun xs codes in
      let mute = close_mute n j.0 0 r.base r.eof r.begun (last_stretches n r j) in (
        (λ i. record {
          stays = eof_after_is r.base r.eof xs h;
          soft = soft.0;
          holds = λ x m. ⊎_elim (λ k. from_known j.0 (top r.begun r.base) (rest_eof r) (i.0 ∷ []) x (rest_path r h) (cut_used n j.0 0 r.base r.eof r.begun xs codes x h k))
              (λ k. ⊎_elim (λ z. from_here e (j.0 ∷ eof_path (rest_eof r) ∷ i.0 ∷ []) x (inr (inr (inl z))))
              (λ k. ⊎_elim (λ z. from_known j.0 (top r.begun r.base) (rest_eof r) (i.0 ∷ []) x (rest_path r h) (inr (2 + base_after r.base xs, grows r.begun (base_grows r.base xs), z ∙ rest_path (after_cut n r j) (eof_after_is r.base r.eof xs h)))) (λ z. absurd z) k) k)
              (in_cases x (all_uses (cut_puts s n j.0 0 r.base r.eof r.begun xs codes)) (i.0 ∷ eof_path (rest_eof (after_cut n r j)) ∷ []) m);
          first = ((λ x i. absurd i), (λ q i. absurd i));
          later = soft.1;
        }),
        record {
          mute = mute.0;
          holds = λ x m. from_known j.0 (top r.begun r.base) (rest_eof r) [] x (rest_path r h) (close_used n j.0 0 r.base r.eof r.begun (last_stretches n r j) x h m);
          first = ((λ x i. absurd i), (λ q i. absurd i));
          later = mute.1;
        },
      )
    where
      grows : (b : Bool) → r.base ≤ base_after r.base (next_cut n r j).closed → top b r.base ≤ 2 + base_after r.base (next_cut n r j).closed
      grows true l = omega (arith, l)
      grows false l = omega (arith, l)

  dict_goes : (n : DictNode) → n.eof ≡ e → ((i : Item) → Goes e s (dict_local n) i) × Ends e s (dict_local n)
  dict_goes n h = (
    (λ i. of_turn i (is_dictionary (s.image n.options.probe i.1)) refl),
    record { mute = (refl, tt); holds = λ x m. absurd m; first = ((λ x i. absurd i), starts (eof_path n.eof ∷ []) (inl refl)); later = (((λ x i. absurd i), (λ q i. absurd i)), tt) },
  )
    where
      starts : (ys : List (List ℕ)) → In (eof_path n.eof) ys → (q : Seed) → In q (fallback_seed n ∷ []) → From e ys q.eof
      starts ys m q i = ⊎_elim (λ z. from_here e ys q.eof (subst (λ y. In y.eof ys) (sym z) m)) (λ z. absurd z) i

      runs_case : (i : Item) → At e (runs_first n i).after × ((x : List ℕ) → In x (all_uses (runs_first n i).more ++ kept (runs_first n i).after) → From e (eof_path n.eof ∷ i.0 ∷ []) x) × AllSoft (runs_first n i).more × AllDraw e (runs_first n i).more
      runs_case i = (
        h ∙ shifted_none e,
        (λ x m. ⊎_elim (λ z. from_here e (eof_path n.eof ∷ i.0 ∷ []) x (inr (inl z))) (λ m. from_here e (eof_path n.eof ∷ i.0 ∷ []) x (inl (⊎_elim (λ z. z) (λ z. absurd z) m))) m),
        (refl, tt),
        (((λ x i. absurd i), (λ q i. absurd i)), tt),
      )

      of_turn : (i : Item) (b : Bool) → is_dictionary (s.image n.options.probe i.1) ≡ b → Goes e s (dict_local n) i
      of_turn i true q =
          let c = runs_case i in
          let u : dict_turn s n i ≡ runs_first n i = ap (λ b. if b then runs_first n i else fallback_first s n i) q in
          record {
            stays = subst (λ u. At e u.after) (sym u) c.0;
            soft = subst (λ u. AllSoft u.more) (sym u) c.2;
            holds = subst (λ u. (x : List ℕ) → In x (all_uses u.more ++ kept u.after) → From e (eof_path n.eof ∷ i.0 ∷ []) x) (sym u) c.1;
            first = subst (λ u. Draws e (eof_path n.eof ∷ i.0 ∷ []) u.first) (sym u) (((λ x i. absurd i), (λ q i. absurd i)));
            later = subst (λ u. AllDraw e u.more) (sym u) c.3;
          }
      of_turn i false q =
          let u : dict_turn s n i ≡ fallback_first s n i = ap (λ b. if b then runs_first n i else fallback_first s n i) q in
          record {
            stays = subst (λ u. At e u.after) (sym u) tt;
            soft = subst (λ u. AllSoft u.more) (sym u) (refl, (refl, tt));
            holds = subst (λ u. (x : List ℕ) → In x (all_uses u.more ++ kept u.after) → From e (eof_path n.eof ∷ i.0 ∷ []) x) (sym u) (λ x m. from_here e (eof_path n.eof ∷ i.0 ∷ []) x m);
            first = subst (λ u. Draws e (eof_path n.eof ∷ i.0 ∷ []) u.first) (sym u) (((λ x i. absurd i), (λ q i. absurd i)));
            later = subst (λ u. AllDraw e u.more) (sym u) (((λ x i. absurd i), starts (eof_path n.eof ∷ []) (inl refl)), (put_drawn e 0 i, tt));
          }

pub turns_go : TurnsGo
turns_go e s (flat_empty o t) a = absurd a
turns_go e s (flat_full o t j b) a = absurd a
turns_go e s flat_many a = absurd a
turns_go e s (chunked_local n j p rows) a = chunked_goes e s n j p rows a
turns_go e s (struct_local n rows) a = struct_goes e s n rows
turns_go e s (list_local n first from rows) a = list_goes e s n first from rows
turns_go e s (blocks_local o n x j rows) a = blocks_goes e s o n x j rows
turns_go e s (bytes_local size n x j rows) a = bytes_goes e s size n x j rows
turns_go e s (collect_local n x rows) a = collect_goes e s n x rows
turns_go e s (compressed_local n) a = compressed_goes e s n
turns_go e s (outlet_local n) a = outlet_goes e s n
turns_go e s (dict_local n) a = dict_goes e s n a
turns_go e s fallback_local a = fallback_goes e s
turns_go e s (runs_local n r j rows) a = runs_goes e s n r j rows a
turns_go e s (zoned_local n records last zones rows) a = zoned_goes e s n records last zones rows a
turns_go e s idle_local a = idle_goes e s
turns_go e s (source_local f m o) a = absurd a
turns_go e s outside_local a = absurd a
